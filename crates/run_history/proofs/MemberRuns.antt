-- A node takes what comes to it: the run goes on, and is one of the machine of memberships.
use Rattle.std.specs.Prelude.{ℕ, suc, ◌+◌, ◌≡◌, ◌≢◌, ◌≤◌, ◌⊎◌, ◌++◌, All, List, [], ◌∷◌, length}
use Rattle.std.proofs.Common.{sym, subst, inl, inr, arith}
use Rattle.std.proofs.lemmas.List.Elements.{All-cons, All-nil}
use Rattle.std.specs.List.{AllByRecursion}
use Rattle.cl_base.specs.declared.header.Header.{Header}
use Rattle.cl_base.specs.declared.header.HeaderDevice.{HeaderDevice}
use Rattle.cl_base.specs.declared.method.Outcome as method
use Rattle.cmm_attempt.specs.Calls.{IsDevice}
use Rattle.cmm_member.specs.Records.{NodeRecord}
use Rattle.local_disk.specs.declared.memory.Choice.{Choice}
use Rattle.machine_base.specs.Put.{put}
use Rattle.machine_base.proofs.Puts.{put_here, put_there, same_or_not}
use Rattle.membership_machine.specs.Growth.{Grows}
use Rattle.membership_machine.specs.Invariant.{Holds}
use Rattle.membership_machine.specs.State.{Memberships, first_memberships}
use Rattle.membership_machine.proofs.Preserved.{holds_of}
use Rattle.record_disk.specs.Disks.{DiskState, armed}
use Rattle.node_model.specs.declared.cluster.Cluster.{Cluster}
use Rattle.node_model.specs.declared.input.Input.{Input}
use Rattle.node_model.specs.declared.node.Node.{Node}
use Rattle.node_model.specs.declared.output.Output.{Output}
use Rattle.node_model.specs.declared.output.Output.TheVariants.{Tells, Sends}
use Rattle.node_model.specs.Steps.{Outcome, stepped}
use Rattle.refinement.specs.Runs.{IsRun, Letter, Nodes, WasSent, letters_of, moved}
use Rattle.refinement.specs.Runs.Move.{Arms, Takes}
use Rattle.refinement.specs.Steps.{disk_rules}
use Rattle.refinement.specs.Ties.{AllTold, MessageTold, setting_of}
use Rattle.refinement.specs.Whole.{Stands, StepGoes}
use Rattle.refinement.proofs.Acts.{run_append}
use Rattle.refinement.proofs.Disks.{disks_keep_rules}
use Rattle.refinement.proofs.EveryRun.{is_true}
use Rattle.refinement.proofs.Facts.{steps_go}
use Rattle.refinement.proofs.Ties.{message_stays, node_stays}
use Rattle.world_model.specs.First.{attached_from, first_cluster}

abbrev AllTrue : Memberships → List Letter → Type 0
AllTrue M letters = AllByRecursion (λ (l : Letter). MessageTold M l.from l.body) letters

all_stay : (c : Cluster) (M N : Memberships) (letters : List Letter) → Holds (setting_of c) M → Grows M N → AllTrue M letters → AllTrue N letters
all_stay c M N [] i g h = tt
all_stay c M N (l ∷ letters) i g h = (message_stays c M N l.from l.body i g h.0, all_stay c M N letters i g h.1)

more_true : (M : Memberships) (n : ℕ) (os : List Output) (letters : List Letter) → AllTold M n os → AllTrue M letters → AllTrue M (letters_of n os ++ letters)
more_true M n [] letters h k = k
more_true M n (Tells e ∷ os) letters h k = more_true M n os letters h.1 k
more_true M n (Sends to b ∷ os) letters h k = (h.0, more_true M n os letters h.1 k)

stands_stay : (c : Cluster) (M N : Memberships) (n : ℕ) (node : Node) (disk : NodeRecord) → Holds (setting_of c) M → Grows M N → N.node n ≡ M.node n → Stands c M n node disk → Stands c N n node disk
stands_stay c M N n node disk i g same h = record { tied = node_stays c M N n disk node i g same h.tied; joins = h.joins }

put_stands : (c : Cluster) (N : Memberships) (w : Nodes) (n : ℕ) (node : Node) (disk : DiskState) → Stands c N n node disk.kept
    → ((k : ℕ) → k ≢ n → Stands c N k (w.node k) (w.disk k).kept) → (k : ℕ) → Stands c N k (put w.node n node k) (put w.disk n disk k).kept
put_stands c N w n node disk here there k = go (same_or_not k n)
  where
    go : (k ≡ n) ⊎ (k ≢ n) → Stands c N k (put w.node n node k) (put w.disk n disk k).kept
    go (inl e) =
        subst (λ j. Stands c N j (put w.node n node j) (put w.disk n disk j).kept) (sym e)
        (subst (λ x. Stands c N n x (put w.disk n disk n).kept) (sym (put_here w.node n node)) (subst (λ (d : DiskState). Stands c N n node d.kept) (sym (put_here w.disk n disk)) here))
    go (inr ne) =
        subst (λ x. Stands c N k x (put w.disk n disk k).kept) (sym (put_there w.node n node k ne))
        (subst (λ (d : DiskState). Stands c N k (w.node k) d.kept) (sym (put_there w.disk n disk k ne)) (there k ne))

-- whatever a device answers
pub run_goes : (c : Cluster) (v : Nodes) (n now : ℕ) (ends : method.Outcome) (i : Input) → n ≤ 32 → All IsDevice c.attached → WasSent v i → IsRun c v → IsRun c (moved c v (Takes n now ends i))
run_goes c v n now ends i low fits sent h =
    let M : Memberships = h.machine in
    let holds : Holds (setting_of c) M = holds_of (setting_of c) h.events M h.run in
    let o : Outcome DiskState = stepped disk_rules c n now ends (v.node n) (v.disk n) i in
    let g : StepGoes c M n o.after o.disk.kept o.given =
    steps_go disk_rules disks_keep_rules c M n now ends (v.node n) (v.disk n) i low fits holds (is_true M v i sent h.sent) (h.stands n) in
    record {
      events = h.events ++ g.events;
      machine = g.machine;
      run = run_append (setting_of c) first_memberships M g.machine h.events g.events h.run g.run;
      stands = put_stands c g.machine v n o.after o.disk g.stands
          (λ k ne. stands_stay c M g.machine k (v.node k) (v.disk k).kept holds g.grows (g.others k ne) (h.stands k));
      sent = more_true g.machine n o.given v.sent g.said (all_stay c M g.machine v.sent holds g.grows h.sent);
    }

-- an armed stop changes no record
pub run_arms : (c : Cluster) (v : Nodes) (n calls : ℕ) (choice : Choice) → IsRun c v → IsRun c (moved c v (Arms n calls choice))
run_arms c v n calls choice h = record { events = h.events; machine = h.machine; run = h.run; stands = stands; sent = h.sent }
  where
    stands : (k : ℕ) → Stands c h.machine k (v.node k) (put v.disk n (armed (v.disk n) calls choice) k).kept
    stands k = go (same_or_not k n)
      where
        go : (k ≡ n) ⊎ (k ≢ n) → Stands c h.machine k (v.node k) (put v.disk n (armed (v.disk n) calls choice) k).kept
        go (inl e) =
            subst (λ j. Stands c h.machine j (v.node j) (put v.disk n (armed (v.disk n) calls choice) j).kept) (sym e)
            (subst (λ (d : DiskState). Stands c h.machine n (v.node n) d.kept) (sym (put_here v.disk n (armed (v.disk n) calls choice))) (h.stands n))
        go (inr ne) = subst (λ (d : DiskState). Stands c h.machine k (v.node k) d.kept) (sym (put_there v.disk n (armed (v.disk n) calls choice) k ne)) (h.stands k)

-- the devices of the header have numbers up to 16
attached_fit : (number : ℕ) (ds : List HeaderDevice) → 1 ≤ number → number + length ds ≤ 17 → All IsDevice (attached_from number ds)
attached_fit number [] low high = All-nil IsDevice
attached_fit number (d ∷ ds) low high =
    All-cons IsDevice _ _ (low, below number (length ds) high) (attached_fit (number + 1) ds (more number) (next number (length ds) high))
  where
    below : (a b : ℕ) → a + suc b ≤ 17 → a ≤ 16
    below a b h = omega arith

    more : (a : ℕ) → 1 ≤ a + 1
    more a = omega arith

    next : (a b : ℕ) → a + suc b ≤ 17 → (a + 1) + b ≤ 17
    next a b h = omega arith

pub first_fit : (h : Header) → length h.devices ≤ 16 → All IsDevice (first_cluster h).attached
first_fit h few = attached_fit 1 h.devices (low 1) (room (length h.devices) few)
  where
    low : (a : ℕ) → a ≤ a
    low a = omega arith

    room : (k : ℕ) → k ≤ 16 → 1 + k ≤ 17
    room k l = omega (arith, l)

-- Every run of all nodes is a run of the machine of memberships.
use Rattle.std.specs.Prelude.{ℕ, ◌≡◌, ◌≢◌, ◌⊎◌, ◌++◌, All, List, [], ◌∷◌}
use Rattle.std.proofs.Common.{refl, sym, subst, inl, inr}
use Rattle.std.specs.List.{AllByRecursion}
use Rattle.cmm_attempt.specs.Calls.{IsDevice}
use Rattle.cmm_member.specs.Records.{NodeRecord}
use Rattle.machine_base.specs.Put.{put}
use Rattle.machine_base.proofs.Puts.{put_here, put_there, same_or_not}
use Rattle.membership_machine.specs.Growth.{Grows}
use Rattle.membership_machine.specs.Invariant.{Holds}
use Rattle.membership_machine.specs.State.{Memberships, first_memberships}
use Rattle.membership_machine.proofs.Preserved.{holds_of}
use Rattle.record_disk.specs.Disks.{DiskState, armed}
use Rattle.wire.specs.declared.message.Body.{Body}
use Rattle.node_model.specs.declared.cluster.Cluster.{Cluster}
use Rattle.node_model.specs.declared.input.Input.{Input}
use Rattle.node_model.specs.declared.input.Input.TheVariants.{Boot, Crash, Tick, Packet, CommandDue, Answered, Wrote, Commanded, Reported, Client}
use Rattle.node_model.specs.declared.node.Node.{Node}
use Rattle.node_model.specs.declared.output.Output.{Output}
use Rattle.node_model.specs.declared.output.Output.TheVariants.{Tells, Sends}
use Rattle.node_model.specs.Steps.{Outcome, stepped}
use Rattle.refinement.specs.Runs.{EveryRunIsOne, IsAmong, IsRun, Letter, Move, Moves, MayMove, Nodes, WasSent, first_nodes, letters_of, moved}
use Rattle.refinement.specs.Runs.Move.{Arms, Takes}
use Rattle.refinement.specs.Steps.{disk_rules}
use Rattle.refinement.specs.Ties.{AllTold, MessageTold, setting_of}
use Rattle.refinement.specs.Whole.{IsTrue, Stands, StepGoes}
use Rattle.refinement.proofs.Acts.{run_append}
use Rattle.refinement.proofs.Disks.{disks_keep_rules}
use Rattle.refinement.proofs.Facts.{steps_go}
use Rattle.refinement.proofs.Logs.{no_updates}
use Rattle.refinement.proofs.Ties.{message_stays, node_stays}

abbrev AllTrue : Memberships → List Letter → Type 0
AllTrue M letters = AllByRecursion (λ (l : Letter). MessageTold M l.from l.body) letters

pub true_of : (M : Memberships) (from : ℕ) (b : Body) (letters : List Letter) → IsAmong from b letters → AllTrue M letters → MessageTold M from b
true_of M from b [] h all = absurd h
true_of M from b (l ∷ letters) (inl e) all = subst (λ x. MessageTold M from x) e.1 (subst (λ n. MessageTold M n l.body) e.0 all.0)
true_of M from b (l ∷ letters) (inr h) all = true_of M from b letters h all.1

all_stay : (c : Cluster) (M N : Memberships) (letters : List Letter) → Holds (setting_of c) M → Grows M N → AllTrue M letters → AllTrue N letters
all_stay c M N [] i g h = tt
all_stay c M N (l ∷ letters) i g h = (message_stays c M N l.from l.body i g h.0, all_stay c M N letters i g h.1)

more_true : (M : Memberships) (n : ℕ) (os : List Output) (letters : List Letter) → AllTold M n os → AllTrue M letters → AllTrue M (letters_of n os ++ letters)
more_true M n [] letters h k = k
more_true M n (Tells e ∷ os) letters h k = more_true M n os letters h.1 k
more_true M n (Sends to b ∷ os) letters h k = (h.0, more_true M n os letters h.1 k)

pub is_true : (M : Memberships) (w : Nodes) (i : Input) → WasSent w i → AllTrue M w.sent → IsTrue M i
is_true M w (Packet from m) h all = true_of M from m.body w.sent h all
is_true M w Boot h all = tt
is_true M w Crash h all = tt
is_true M w Tick h all = tt
is_true M w CommandDue h all = tt
is_true M w (Answered a) h all = tt
is_true M w (Wrote d value a) h all = tt
is_true M w (Commanded words) h all = tt
is_true M w (Reported r good) h all = tt
is_true M w (Client name client port) h all = tt

stands_stay : (c : Cluster) (M N : Memberships) (n : ℕ) (node : Node) (disk : NodeRecord) → Holds (setting_of c) M → Grows M N → N.node n ≡ M.node n → Stands c M n node disk → Stands c N n node disk
stands_stay c M N n node disk i g same h = record { tied = node_stays c M N n disk node i g same h.tied; joins = h.joins }

-- node n with its disk is replaced
put_stands : (c : Cluster) (N : Memberships) (w : Nodes) (n : ℕ) (node : Node) (disk : DiskState) → Stands c N n node disk.kept
    → ((k : ℕ) → k ≢ n → Stands c N k (w.node k) (w.disk k).kept) → (k : ℕ) → Stands c N k (put w.node n node k) (put w.disk n disk k).kept
put_stands c N w n node disk here there k = go (same_or_not k n)
  where
    go : (k ≡ n) ⊎ (k ≢ n) → Stands c N k (put w.node n node k) (put w.disk n disk k).kept
    go (inl e) =
        subst (λ j. Stands c N j (put w.node n node j) (put w.disk n disk j).kept) (sym e)
        (subst (λ x. Stands c N n x (put w.disk n disk n).kept) (sym (put_here w.node n node)) (subst (λ (d : DiskState). Stands c N n node d.kept) (sym (put_here w.disk n disk)) here))
    go (inr ne) =
        subst (λ x. Stands c N k x (put w.disk n disk k).kept) (sym (put_there w.node n node k ne))
        (subst (λ (d : DiskState). Stands c N k (w.node k) d.kept) (sym (put_there w.disk n disk k ne)) (there k ne))

-- an armed stop changes no record
arm_stands : (c : Cluster) (M : Memberships) (w : Nodes) (n : ℕ) (disk : DiskState) → disk.kept ≡ (w.disk n).kept → ((k : ℕ) → Stands c M k (w.node k) (w.disk k).kept)
    → (k : ℕ) → Stands c M k (w.node k) (put w.disk n disk k).kept
arm_stands c M w n disk same all k = go (same_or_not k n)
  where
    go : (k ≡ n) ⊎ (k ≢ n) → Stands c M k (w.node k) (put w.disk n disk k).kept
    go (inl e) =
        subst (λ j. Stands c M j (w.node j) (put w.disk n disk j).kept) (sym e)
        (subst (λ (d : DiskState). Stands c M n (w.node n) d.kept) (sym (put_here w.disk n disk)) (subst (λ r. Stands c M n (w.node n) r) (sym same) (all n)))
    go (inr ne) = subst (λ (d : DiskState). Stands c M k (w.node k) d.kept) (sym (put_there w.disk n disk k ne)) (all k)

one_move : (c : Cluster) (w : Nodes) (m : Move) → All IsDevice c.attached → IsRun c w → MayMove w m → IsRun c (moved c w m)
one_move c w (Takes n now ends i) fits h may =
    let M : Memberships = h.machine in
    let holds : Holds (setting_of c) M = holds_of (setting_of c) h.events M h.run in
    let o : Outcome DiskState = stepped disk_rules c n now ends (w.node n) (w.disk n) i in
    let g : StepGoes c M n o.after o.disk.kept o.given =
    steps_go disk_rules disks_keep_rules c M n now ends (w.node n) (w.disk n) i may.1 fits holds (is_true M w i may.2 h.sent) (h.stands n) in
    record {
      events = h.events ++ g.events;
      machine = g.machine;
      run = run_append (setting_of c) first_memberships M g.machine h.events g.events h.run g.run;
      stands = put_stands c g.machine w n o.after o.disk g.stands
          (λ k ne. stands_stay c M g.machine k (w.node k) (w.disk k).kept holds g.grows (g.others k ne) (h.stands k));
      sent = more_true g.machine n o.given w.sent g.said (all_stay c M g.machine w.sent holds g.grows h.sent);
    }
one_move c w (Arms n calls choice) fits h may = record {
  events = h.events;
  machine = h.machine;
  run = h.run;
  stands = arm_stands c h.machine w n (armed (w.disk n) calls choice) refl h.stands;
  sent = h.sent;
}

all_moves : (c : Cluster) (w : Nodes) (moves : List Move) (v : Nodes) → All IsDevice c.attached → IsRun c w → Moves c w moves v → IsRun c v
all_moves c w [] v fits h run = subst (λ x. IsRun c x) (sym run) h
all_moves c w (m ∷ moves) v fits h run = all_moves c (moved c w m) moves v fits (one_move c w m fits h run.0) run.1

first_run : (c : Cluster) → IsRun c (first_nodes c)
first_run c = record {
  events = [];
  machine = first_memberships;
  run = refl;
  stands = λ n. record { tied = (record { promised = refl; saved = refl; session = refl; member = refl }, no_updates c); joins = tt };
  sent = tt;
}

pub every_run_is_one : EveryRunIsOne
every_run_is_one c moves w fits run = all_moves c (first_nodes c) moves w fits (first_run c) run

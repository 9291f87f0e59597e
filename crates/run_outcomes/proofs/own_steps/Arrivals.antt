-- A packet that comes to a coordinator leaves it the tasks of `history`, or it has come to them as `LedOn` has it.
use Rattle.std.specs.Prelude.{ℕ, ◌≡◌, ◌^◌, nat_lt, true, false, List, [], ◌∷◌}
use Rattle.std.proofs.Common.{refl, sym, subst, inl, inr}
use Rattle.cl_base.specs.declared.header.Header.{Header}
use Rattle.cl_base.specs.declared.method.Outcome as method
use Rattle.cmm_attempt.proofs.Basics.{same_number}
use Rattle.cmm_attempt.specs.Calls.{Take}
use Rattle.history.specs.Moment.{Moment}
use Rattle.history.specs.Setting.{Setting}
use Rattle.history.specs.Trace.{delivered}
use Rattle.history_setting.specs.Settings.{setting_of}
use Rattle.interconnect.specs.Links.{Packet}
use Rattle.node_model.specs.Members.{hearing}
use Rattle.node_model.specs.Steps.{at_second}
use Rattle.node_model.specs.declared.cluster.Cluster.{Cluster}
use Rattle.node_model.specs.declared.input.Input.TheVariants as input
use Rattle.node_model.specs.declared.node.Node.{Node}
use Rattle.node_model.specs.declared.node.Node.TheVariants.{Down, Up}
use Rattle.node_model.specs.declared.node.UpNode.{UpNode}
use Rattle.node_model.specs.declared.output.Output.{Output}
use Rattle.run_history.specs.Happenings.{Happening, IsUp, MayHappen, all_happened, given_by, happened, removed}
use Rattle.run_history.specs.Happenings.Happening.{Arrives, Strays}
use Rattle.run_history.specs.Scenes.{Scene, first_scene, telling}
use Rattle.run_history.specs.Shapes.{nothing}
use Rattle.run_messages.proofs.Reaching.{IsReached, IsSmall}
use Rattle.run_messages.proofs.records.Arrivals.{arrived_kept}
use Rattle.run_messages.proofs.records.Runs.{run_known}
use Rattle.run_messages.specs.records.Kept.{Came}
use Rattle.run_packets.specs.native.Laws.{BootsInHeader}
use Rattle.status_report.specs.declared.entry.Entry.TheVariants as entry
use Rattle.status_report.specs.declared.packet_entry.PacketEntry.TheVariants as packet
use Rattle.wire.specs.declared.message.Message.{Message}
use Rattle.world_model.specs.First.{first_cluster}
use Rattle.run_outcomes.specs.phases.Kept.{In}
use Rattle.run_outcomes.specs.saves.Kept.{IsAt}
use Rattle.run_outcomes.specs.tasks.Lasting.{lasts_open}
use Rattle.run_outcomes.specs.tasks.Left.{IsClosed}
use Rattle.run_outcomes.specs.tasks.Onward.{AreStill, Onward, OnwardOf}
use Rattle.run_outcomes.specs.tasks.Own.{Owned}
use Rattle.run_outcomes.proofs.asks.Lines.{left_before}
use Rattle.run_outcomes.proofs.onward.Here.{taken_here}
use Rattle.run_outcomes.proofs.onward.Messages.{KeepsTasks, Took, packet_out}
use Rattle.run_outcomes.proofs.onward.Passing.{Passed, none_passed}
use Rattle.run_outcomes.proofs.others.Ends.{LastDue, all_before, last_due, last_may}
use Rattle.run_outcomes.proofs.others.Runs.{Point}
use Rattle.run_outcomes.proofs.own_steps.Packets.{taken_led, unmoved_led}
use Rattle.run_outcomes.proofs.own_steps.Requests.{arrives_keeps}
use Rattle.run_outcomes.proofs.own_steps.Collected.{packet_passed}
use Rattle.run_outcomes.proofs.own_steps.Steps.{LeadsThere, OfEachStep, StepsAreSo, takes_part}
use Rattle.run_outcomes.proofs.own_tasks.Runs.{run_owned}
use Rattle.run_outcomes.proofs.rounds_told.Numbers.{happened_next}
use Rattle.run_outcomes.proofs.told_tasks.Closed.{closed_all, closed_before}
use Rattle.run_outcomes.proofs.told_tasks.Led.{LedOn}
use Rattle.run_outcomes.proofs.told_tasks.Prefixes.{happened_last, may_before, native_before}
use Rattle.run_outcomes.proofs.told_tasks.Queues.{SeizersHave}

-- a packet comes to a node that is up
abbrev pub IsArrival : Happening → Type 0
IsArrival (Arrives number p m now ends) = Unit {0}
IsArrival (Strays number p) = Unit {0}
IsArrival _ = ⊥

-- ---- whether the queue is told

closed_before_it : (S : Setting) (n number from : ℕ) (ms moments : List Moment) → Passed n (delivered number from n ∷ ms) moments → lasts_open S n moments ≡ false → lasts_open S n ms ≡ false
closed_before_it S n number from ms moments z closed =
    closed_before S n ms (delivered number from n) refl (closed_all S n (delivered number from n ∷ ms) z.newer z.quiet (subst (λ zs. lasts_open S n zs ≡ false) z.parts closed))

-- ---- a packet that holds no message

strays_led : StepsAreSo → (h : Header) (cells : ℕ) (hs : List Happening) → Point h cells hs → SeizersHave h (all_happened (first_cluster h) (first_scene h cells) hs) → (number : ℕ) (p : Packet)
    → MayHappen (first_cluster h) (all_happened (first_cluster h) (first_scene h cells) hs) (Strays number p)
    → LeadsThere h (all_happened (first_cluster h) (first_scene h cells) hs) (Strays number p) (happened (first_cluster h) (all_happened (first_cluster h) (first_scene h cells) hs) (Strays number p)) p.to
strays_led steps h cells hs z had number p may y b both up at seizing given closed =
    let s : Scene = all_happened (first_cluster h) (first_scene h cells) hs in
    let passed : Passed p.to (delivered number p.from p.to ∷ s.moments) (delivered number p.from p.to ∷ s.moments) = none_passed p.to (delivered number p.from p.to ∷ s.moments) in
    inr (unmoved_led steps h cells hs z had number p may.0 y y b both (delivered number p.from p.to ∷ s.moments) up at refl seizing given
    (closed_before_it (setting_of h) p.to number p.from s.moments (delivered number p.from p.to ∷ s.moments) passed closed) passed)

-- ---- one that holds a message

arrives_led : StepsAreSo → (h : Header) (cells : ℕ) (hs : List Happening) → Point h cells hs → SeizersHave h (all_happened (first_cluster h) (first_scene h cells) hs)
    → (number : ℕ) (p : Packet) (m : Message) (now : ℕ) (ends : method.Outcome) → MayHappen (first_cluster h) (all_happened (first_cluster h) (first_scene h cells) hs) (Arrives number p m now ends)
    → LeadsThere h (all_happened (first_cluster h) (first_scene h cells) hs) (Arrives number p m now ends)
    (happened (first_cluster h) (all_happened (first_cluster h) (first_scene h cells) hs) (Arrives number p m now ends)) p.to
arrives_led steps h cells hs z had number p m now ends may y b both up at seizing given closed = inr (by_node (s.nodes.node p.to) refl may.2)
  where
    c : Cluster
    c = first_cluster h

    S : Setting
    S = setting_of h

    s : Scene
    s = all_happened c (first_scene h cells) hs

    t : Scene
    t = telling (entry.Packet (packet.Delivered number p.from p.to)) (removed s number)

    after : List Moment
    after = (happened c s (Arrives number p m now ends)).moments

    os : List Output
    os = given_by c p.to now ends (input.Packet p.from m) t.nodes

    size : IsSmall h
    size = record { few = z.few; small = z.small }

    reached : IsReached h cells s
    reached = record { happenings = hs; may = z.may; is = refl }

    came : Came (delivered number p.from p.to ∷ s.moments) p.to p.from m.body
    came = arrived_kept c s number p m may.0 may.1 (run_known h cells hs z.few z.small z.may)

    by_took : (x : UpNode) → s.nodes.node p.to ≡ Up x → AreStill p.to os × Took c p.to x (Take p.from m) b y.tasks → LedOn S p.to y b both after
    by_took x was k = by_way k.1
      where
        passed : Passed p.to (delivered number p.from p.to ∷ s.moments) after
        passed = packet_passed c p.to number p.from now ends m s.moments t x y b refl came was up at k.0

        shut : IsClosed h s p.to
        shut = closed_before_it S p.to number p.from s.moments after passed closed

        by_way : Took c p.to x (Take p.from m) b y.tasks → LedOn S p.to y b both after
        by_way (inl same) = unmoved_led steps h cells hs z had number p may.0 x y b both after was same.0 same.1 seizing given shut passed
        by_way (inr (a, has_it, by)) = taken_led steps h cells hs z had number p may.0 m x y a b both after came may.4 was has_it by seizing given shut passed

    by_up : (x : UpNode) → s.nodes.node p.to ≡ Up x → LedOn S p.to y b both after
    by_up x was =
        let keeps : KeepsTasks c p.to (hearing (at_second now x) p.from m.body) m.body =
        arrives_keeps h cells s number now p m x size reached may.0 may.1 was (subst (IsAt (Owned p.to)) was (run_owned h cells hs size z.may p.to)) in
        by_took x was
        (subst (In (OnwardOf p.to (Took c p.to x (Take p.from m)) y.tasks os)) at
        (taken_here c p.to now ends (input.Packet p.from m) t (Onward p.to (Took c p.to x (Take p.from m))) x y was up (λ so. packet_out c p.to ends (at_second now x) p.from m keeps)) seizing)

    by_node : (node : Node) → s.nodes.node p.to ≡ node → IsUp node → LedOn S p.to y b both after
    by_node Down is there = absurd there
    by_node (Up x) is there = by_up x is

-- ---- each of them

pub arrivals_lead : StepsAreSo → OfEachStep (λ h s x t. IsArrival x → SeizersHave h s → (n : ℕ) → takes_part n x ≡ true → LeadsThere h s x t n)
arrivals_lead steps h cells hs x last nodes few small disks may shaped native boots left is had n part =
    subst (λ (t : Scene). LeadsThere h s x t n) (sym (happened_last c (first_scene h cells) hs x)) (by_kind x is part (last_may c (first_scene h cells) hs x may))
  where
    c : Cluster
    c = first_cluster h

    s : Scene
    s = all_happened c (first_scene h cells) hs

    due : LastDue c (first_scene h cells) nothing last hs x
    due = last_due c (first_scene h cells) nothing last hs x shaped

    z : Point h cells hs
    z = record {
      last = due.mid;
      nodes = nodes;
      few = few;
      small = small;
      disks = disks;
      may = may_before c (first_scene h cells) hs (x ∷ []) may;
      shaped = due.shaped;
      native = native_before c (first_scene h cells) hs (x ∷ []) native;
      boots = all_before (BootsInHeader h) hs (x ∷ []) boots;
      left = left_before s.links.next (happened c s x).links.next (happened_next c s x)
          (subst (λ (t : Scene). nat_lt t.links.next (2 ^ 63) ≡ true) (happened_last c (first_scene h cells) hs x) left);
    }

    by_kind : (w : Happening) → IsArrival w → takes_part n w ≡ true → MayHappen c s w → LeadsThere h s w (happened c s w) n
    by_kind (Arrives number p m now ends) comes to may_so =
        subst (λ k. LeadsThere h s (Arrives number p m now ends) (happened c s (Arrives number p m now ends)) k) (same_number p.to n to) (arrives_led steps h cells hs z had number p m now ends may_so)
    by_kind (Strays number p) comes to may_so =
        subst (λ k. LeadsThere h s (Strays number p) (happened c s (Strays number p)) k) (same_number p.to n to) (strays_led steps h cells hs z had number p may_so)
    by_kind _ comes to may_so = absurd comes

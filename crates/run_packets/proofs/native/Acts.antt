-- What a node does in memory, or sends, leaves it with nodes of the header alone.
use Rattle.std.specs.Prelude.{ℕ, All, List, [], Some}
use Rattle.attempt_laws.proofs.Sends.{asks_are_entries, sends_are_own}
use Rattle.attempt_laws.specs.Sending.{AsksEntry}
use Rattle.cl_base.specs.Sets.{has}
use Rattle.cl_base.specs.declared.header.Header.{Header}
use Rattle.cmm_attempt.proofs.Basics.{if_either}
use Rattle.cmm_attempt.specs.Calls.{May, turn}
use Rattle.cmm_member.specs.Records.{NodeRecord}
use Rattle.device_queue.specs.Queue.{after_seize}
use Rattle.membership_machine.specs.State.{Memberships}
use Rattle.node_model.specs.Seats.{record_of}
use Rattle.node_model.specs.declared.cluster.Cluster.{Cluster}
use Rattle.node_model.specs.declared.node.Node.TheVariants.{Up}
use Rattle.node_model.specs.declared.node.UpNode.{UpNode}
use Rattle.node_model.specs.declared.output.Output.{Output}
use Rattle.refinement.proofs.Attempts.{may_be_called}
use Rattle.refinement.specs.Doings.{Act, acted, changed, first_lines, last_lines, said, site}
use Rattle.refinement.specs.Doings.Act.{Accepts, Dates, Ends, Gives, Goes_on, Hears, Makes, Minds, Notes, Queues, Spreads, Stores, Takes, Ticks, Waits, Works, Writes}
use Rattle.refinement.specs.Guards.{MayAct}
use Rattle.refinement.specs.Ties.{Delivered}
use Rattle.run_attempts.specs.Steps.{ActSo}
use Rattle.run_history.proofs.Changes.{At, at_attempt}
use Rattle.run_history.specs.Guards.{Hand, hand_by}
use Rattle.run_seizings.proofs.Acts.{ActMay}
use Rattle.seize.specs.Seizing as seizing
use Rattle.run_packets.specs.native.Named.{AllNamed, AttemptNamed, HandNamed, InNodes, Leaves, TurnNamed, UpNamed, WithView}
use Rattle.run_packets.proofs.native.Changes.{change_named, goes_with, turned_named}
use Rattle.run_packets.proofs.native.Lines.{first_named, last_named, named_append, nothing_named, sent_named, write_named}
use Rattle.run_packets.proofs.native.Writes.{spread_so, spread_to, write_so}

abbrev pub ActLeaves : Cluster → ℕ → NodeRecord → UpNode → Hand → Act → Type 0
ActLeaves c n disk x g a = Leaves c n (site (Up (acted c n x a)) disk) (hand_by g a) (said c n x a)

leaves : (c : Cluster) (n : ℕ) (disk : NodeRecord) (y : UpNode) (g : Hand) (os : List Output) → InNodes c disk.members → UpNamed c n y → TurnNamed c g → AllNamed c os
    → Leaves c n (site (Up y) disk) g os
leaves c n disk y g os kept k gave named = record { site_so = record { disk_so = kept; node_so = k }; turn_so = gave; outputs_so = named }

pub act_leaves : (h : Header) (c : Cluster) (M : Memberships) (n : ℕ) (told : Delivered) (disk : NodeRecord) (x : UpNode) (g : Hand) (a : Act) → At c M n told disk x → MayAct c n told x a
    → ActSo WithView x a → ActMay h n told g x a → HandNamed c told → TurnNamed c g → InNodes c disk.members → UpNamed c n x → ActLeaves c n disk x g a
act_leaves h c M n told disk x g (Hears from b) at may so guard hand gave kept k = absurd so
act_leaves h c M n told disk x g Ticks at may so guard hand gave kept k = absurd so
act_leaves h c M n told disk x g Waits at may so guard hand gave kept k = leaves c n disk (acted c n x Waits) g [] kept k gave tt
act_leaves h c M n told disk x g (Goes_on a q) at may so guard hand gave kept k =
    let take : May a q = may_be_called c told a q may.1 in
    let named : AttemptNamed c (Some (turn a q).after) = turned_named c told n x a q may.0 may.1 k in
    leaves c n disk (acted c n x (Goes_on a q)) (Some (turn a q)) [] kept (goes_with c n x (record_of x).members (Some (turn a q).after) k.members_so named k) (
      named.0,
      sends_are_own a q take,
      named.1,
      at_attempt c M n told disk x a (All (AsksEntry (turn a q).after) (turn a q).steps) at may.0 (λ s shows co. asks_are_entries a q co.reached take),
    ) tt
act_leaves h c M n told disk x g (Ends a e) at may so guard hand gave kept k =
    leaves c n disk (acted c n x (Ends a e)) g (said c n x (Ends a e)) kept (goes_with c n x (record_of x).members _ k.members_so tt k) gave (tt, tt)
act_leaves h c M n told disk x g (Queues a d kind) at may so guard hand gave kept k =
    leaves c n disk (acted c n x (Queues a d kind)) g [] kept
    (if_either (UpNamed c n) (has a.plan.members n)
    (record x { tasks = after_seize x.tasks d (seizing.begun kind a.plan.epoch a.plan.members n c.id (has (record_of x).valid d)) }) x k k) gave tt
act_leaves h c M n told disk x g (Accepts kind e members d) at may so guard hand gave kept k = leaves c n disk (acted c n x (Accepts kind e members d)) g [] kept k gave tt
act_leaves h c M n told disk x g (Takes on command a) at may so guard hand gave kept k =
    leaves c n disk (acted c n x (Takes on command a)) g (said c n x (Takes on command a)) kept k gave (tt, tt)
act_leaves h c M n told disk x g (Stores d value a) at may so guard hand gave kept k =
    leaves c n disk x g (said c n x (Stores d value a)) kept k gave (tt, write_named c n x d value a)
act_leaves h c M n told disk x g (Writes to b) at may so guard hand gave kept k =
    leaves c n disk x g (said c n x (Writes to b)) kept k gave (write_so c M n told disk g x to b at k gave may guard, tt)
act_leaves h c M n told disk x g (Makes change) at may so guard hand gave kept k =
    leaves c n disk (changed c n x change) g (said c n x (Makes change)) kept (change_named c M n told disk x change at may.0 so hand k) gave
    (named_append c (first_lines n change) (last_lines c n x change) (first_named c n change) (last_named c n x change))
act_leaves h c M n told disk x g (Gives os) at may so guard hand gave kept k = leaves c n disk x g os kept k gave (nothing_named c os may)
act_leaves h c M n told disk x g (Spreads receivers b) at may so guard hand gave kept k =
    leaves c n disk x g (said c n x (Spreads receivers b)) kept k gave (sent_named c receivers b (spread_so c n x b k may guard) (λ j. spread_to c j b guard))
act_leaves h c M n told disk x g (Minds q p) at may so guard hand gave kept k = leaves c n disk (acted c n x (Minds q p)) g [] kept k gave tt
act_leaves h c M n told disk x g (Notes from place p) at may so guard hand gave kept k = leaves c n disk (acted c n x (Notes from place p)) g [] kept k gave tt
act_leaves h c M n told disk x g (Dates now) at may so guard hand gave kept k = leaves c n disk (acted c n x (Dates now)) g [] kept k gave tt
act_leaves h c M n told disk x g (Works w) at may so guard hand gave kept k = leaves c n disk (acted c n x (Works w)) g [] kept k gave tt

-- Small steps, one after another.
use Rattle.std.specs.Prelude.{ℕ, ◌++◌, All, List, [], ◌∷◌}
use Rattle.cl_base.specs.declared.header.Header.{Header}
use Rattle.cmm_attempt.specs.Calls.{IsDevice}
use Rattle.cmm_member.specs.Records.{NodeRecord}
use Rattle.membership_machine.specs.Invariant.{Holds}
use Rattle.membership_machine.specs.State.{Memberships}
use Rattle.node_model.specs.declared.cluster.Cluster.{Cluster}
use Rattle.node_model.specs.declared.node.Node.{Node}
use Rattle.node_model.specs.declared.node.Node.TheVariants.{Down, Up}
use Rattle.node_model.specs.declared.output.Output.{Output}
use Rattle.refinement.proofs.Acts.{does_one}
use Rattle.refinement.proofs.Ties.{known_stays}
use Rattle.refinement.specs.Doings.{Change, Doing, Site, after_all, changed, effect, first_lines, given_all, gives, gone_line, site}
use Rattle.refinement.specs.Doings.Change.{Acks, Admits, Commits, Counts, Distrusts, Installs, Leads, Prepares, Promises, Proposes, Sits, Starts}
use Rattle.refinement.specs.Doings.Doing.{Comes_up, Does, Forgets, Goes_down, Loses, Saves}
use Rattle.refinement.specs.Events.{of_doing}
use Rattle.refinement.specs.Guards.{May, MayAll, MayChange}
use Rattle.node_model.specs.Seats.{record_of}
use Rattle.node_model.specs.declared.node.UpNode.{UpNode}
use Rattle.refinement.specs.Ties.{Delivered, GoesOn, Known, SiteTied, setting_of}
use Rattle.status_report.specs.declared.node_entry.DownCause.{DownCause}
use Rattle.run_attempts.proofs.Walk.{AreUpSteps, IsUpStep}
use Rattle.run_attempts.specs.Steps.{AllSo, DoingSo}
use Rattle.run_history.proofs.Changes.{At}
use Rattle.run_history.proofs.WholeSteps.{hand_all}
use Rattle.run_history.specs.Guards.{Hand, hand_after}
use Rattle.run_seizings.proofs.Asked.{AllMay, DoingMay}
use Rattle.run_packets.specs.native.Named.{AllNamed, HandNamed, InNodes, Leaves, SiteNamed, TurnNamed, UpNamed, WithView}
use Rattle.run_packets.proofs.native.Acts.{act_leaves}
use Rattle.run_packets.proofs.native.Changes.{change_named}
use Rattle.run_packets.proofs.native.Lines.{first_named, named_append, saved_named}

abbrev pub DoingLeaves : Cluster → ℕ → Site → Hand → Doing → Type 0
DoingLeaves c n x g d = Leaves c n (effect c n x d) (hand_after g d) (gives c n x d)

pub down_leaves : (c : Cluster) (n : ℕ) (disk : NodeRecord) (g : Hand) (os : List Output) → InNodes c disk.members → TurnNamed c g → AllNamed c os → Leaves c n (site Down disk) g os
down_leaves c n disk g os kept gave named = record { site_so = record { disk_so = kept; node_so = tt }; turn_so = gave; outputs_so = named }

-- the record that a change makes
lost_members : (c : Cluster) (M : Memberships) (n : ℕ) (told : Delivered) (disk : NodeRecord) (x : UpNode) (ch : Change) → At c M n told disk x → MayChange c n told x ch → HandNamed c told
    → UpNamed c n x → InNodes c (record_of (changed c n x ch)).members
lost_members c M n told disk x (Leads p members) at may hand k = k.members_so
lost_members c M n told disk x (Promises p) at may hand k = (change_named c M n told disk x (Promises p) at may tt hand k).members_so
lost_members c M n told disk x (Counts a q s i) at may hand k = (change_named c M n told disk x (Counts a q s i) at may tt hand k).members_so
lost_members c M n told disk x (Installs s i) at may hand k = (change_named c M n told disk x (Installs s i) at may tt hand k).members_so
lost_members c M n told disk x (Starts a q s) at may hand k = (change_named c M n told disk x (Starts a q s) at may tt hand k).members_so
lost_members c M n told disk x (Sits s e) at may hand k = (change_named c M n told disk x (Sits s e) at may tt hand k).members_so
lost_members c M n told disk x (Distrusts d) at may hand k = (change_named c M n told disk x (Distrusts d) at may tt hand k).members_so
lost_members c M n told disk x (Admits on command a d) at may hand k = (change_named c M n told disk x (Admits on command a d) at may tt hand k).members_so
lost_members c M n told disk x (Proposes s p text) at may hand k = (change_named c M n told disk x (Proposes s p text) at may tt hand k).members_so
lost_members c M n told disk x (Acks s p q left text) at may hand k = (change_named c M n told disk x (Acks s p q left text) at may tt hand k).members_so
lost_members c M n told disk x (Prepares s text) at may hand k = (change_named c M n told disk x (Prepares s text) at may tt hand k).members_so
lost_members c M n told disk x (Commits s) at may hand k = (change_named c M n told disk x (Commits s) at may tt hand k).members_so

gone_named : (c : Cluster) (n : ℕ) (ch : Change) (why : DownCause) → AllNamed c (first_lines n ch ++ gone_line n why)
gone_named c n ch why = named_append c (first_lines n ch) (gone_line n why) (first_named c n ch) (tt, tt)

-- ---- what is so where a small step begins, and each of some

-- of a small step
abbrev pub OneLeaves : Header → Cluster → ℕ → Delivered → Site → Hand → Doing → Type 0
OneLeaves h c n told x g d = (M : Memberships) → Holds (setting_of c) M → Known M told → SiteTied c M n x → May c n told x d → DoingMay h n told g x d → TurnNamed c g → SiteNamed c n x
    → DoingLeaves c n x g d

-- of all of them
abbrev pub AllLeave : Header → Cluster → ℕ → Delivered → Site → Hand → List Doing → Type 0
AllLeave h c n told x g ds = (M : Memberships) → Holds (setting_of c) M → Known M told → SiteTied c M n x → MayAll c n told x ds → AllMay h c n told g x ds → TurnNamed c g → SiteNamed c n x
    → Leaves c n (after_all c n x ds) (hand_all g ds) (given_all c n x ds)

pub none_leave : (h : Header) (c : Cluster) (n : ℕ) (told : Delivered) (x : Site) (g : Hand) → AllLeave h c n told x g []
none_leave h c n told x g M i known tied may guard gave k = record { site_so = k; turn_so = gave; outputs_so = tt }

pub more_leave : (h : Header) (c : Cluster) (n : ℕ) (told : Delivered) (x : Site) (g : Hand) (d : Doing) (ds : List Doing) → All IsDevice c.attached → OneLeaves h c n told x g d
    → AllLeave h c n told (effect c n x d) (hand_after g d) ds → AllLeave h c n told x g (d ∷ ds)
more_leave h c n told x g d ds fits one rest M i known tied may guard gave k =
    let goes : GoesOn c M n (effect c n x d) (gives c n x d) (of_doing n d) = does_one c M n told x d fits i known tied may.0 in
    let first : DoingLeaves c n x g d = one M i known tied may.0 guard.0 gave k in
    let last : Leaves c n (after_all c n (effect c n x d) ds) (hand_all (hand_after g d) ds) (given_all c n (effect c n x d) ds) =
    rest goes.machine goes.holds (known_stays c M goes.machine told i goes.grows known) goes.tied may.1 guard.1 first.turn_so first.site_so in
    record { site_so = last.site_so; turn_so = last.turn_so; outputs_so = named_append c (gives c n x d) (given_all c n (effect c n x d) ds) first.outputs_so last.outputs_so }

-- ---- each small step in which nothing is heard, and the clock does not tick

pub one_leaves : (h : Header) (c : Cluster) (n : ℕ) (told : Delivered) (node : Node) (disk : NodeRecord) (g : Hand) (d : Doing) → DoingSo WithView node d → IsUpStep d → HandNamed c told
    → OneLeaves h c n told (site node disk) g d
one_leaves h c n told node disk g Comes_up so ups hand M i known tied may guard gave k = absurd ups
one_leaves h c n told node disk g (Goes_down why) so ups hand M i known tied may guard gave k = down_leaves c n disk g (gone_line n why) k.disk_so gave (tt, tt)
one_leaves h c n told Down disk g (Does a) so ups hand M i known tied may guard gave k = absurd may
one_leaves h c n told (Up x) disk g (Does a) so ups hand M i known tied may guard gave k =
    act_leaves h c M n told disk x g a (record { holds = i; known = known; tied = tied }) may so guard hand gave k.disk_so k.node_so
one_leaves h c n told Down disk g (Saves ch) so ups hand M i known tied may guard gave k = absurd may
one_leaves h c n told (Up x) disk g (Saves ch) so ups hand M i known tied may guard gave k =
    let y : UpNamed c n (changed c n x ch) = change_named c M n told disk x ch (record { holds = i; known = known; tied = tied }) may so hand k.node_so in
    record { site_so = record { disk_so = y.members_so; node_so = y }; turn_so = gave; outputs_so = saved_named c n x ch }
one_leaves h c n told Down disk g (Loses ch why) so ups hand M i known tied may guard gave k = absurd may
one_leaves h c n told (Up x) disk g (Loses ch why) so ups hand M i known tied may guard gave k =
    down_leaves c n (record_of (changed c n x ch)) g _ (lost_members c M n told disk x ch (record { holds = i; known = known; tied = tied }) may hand k.node_so) gave (gone_named c n ch why)
one_leaves h c n told node disk g (Forgets ch why) so ups hand M i known tied may guard gave k = down_leaves c n disk g _ k.disk_so gave (gone_named c n ch why)

pub all_leave : (h : Header) (c : Cluster) (n : ℕ) (told : Delivered) (x : Site) (g : Hand) (ds : List Doing) → All IsDevice c.attached → AllSo WithView c n x ds → AreUpSteps ds → HandNamed c told
    → AllLeave h c n told x g ds
all_leave h c n told x g [] fits so ups hand = none_leave h c n told x g
all_leave h c n told x g (d ∷ ds) fits so ups hand =
    more_leave h c n told x g d ds fits (one_leaves h c n told x.node x.disk g d so.0 ups.0 hand) (all_leave h c n told (effect c n x d) (hand_after g d) ds fits so.1 ups.1 hand)

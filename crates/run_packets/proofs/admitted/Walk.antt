-- Small steps, one after another.
use Rattle.std.specs.Prelude.{ℕ, All, List, [], ◌∷◌}
use Rattle.cl_base.specs.declared.header.Header.{Header}
use Rattle.cmm_attempt.specs.Calls.{IsDevice}
use Rattle.cmm_member.specs.Records.{NodeRecord}
use Rattle.membership_machine.specs.Invariant.{Holds}
use Rattle.membership_machine.specs.State.{Memberships}
use Rattle.node_model.specs.Seats.{record_of}
use Rattle.node_model.specs.declared.cluster.Cluster.{Cluster}
use Rattle.node_model.specs.declared.node.Node.{Node}
use Rattle.node_model.specs.declared.node.Node.TheVariants.{Down, Up}
use Rattle.node_model.specs.declared.output.Output.{Output}
use Rattle.refinement.proofs.Acts.{does_one}
use Rattle.refinement.proofs.Ties.{known_stays}
use Rattle.refinement.specs.Doings.{Doing, Site, after_all, changed, effect, given_all, gives, gone_line, site}
use Rattle.refinement.specs.Doings.Doing.{Comes_up, Does, Forgets, Goes_down, Loses, Saves}
use Rattle.refinement.specs.Events.{of_doing}
use Rattle.refinement.specs.Guards.{May, MayAll}
use Rattle.refinement.specs.Ties.{Delivered, GoesOn, Known, SiteTied, setting_of}
use Rattle.run_history.proofs.WholeSteps.{hand_all}
use Rattle.run_history.specs.Guards.{Hand, hand_after}
use Rattle.run_seizings.proofs.Asked.{AllMay, DoingMay}
use Rattle.run_packets.specs.admitted.Guards.{AllFor, DoingFor}
use Rattle.run_packets.specs.admitted.Known.{AllKnown, DevicesKnown, HandKnown, InDevices, Leaves, SiteKnown, TurnKnown, UpKnown}
use Rattle.run_packets.proofs.admitted.Acts.{act_leaves}
use Rattle.run_packets.proofs.admitted.Changes.{change_known}
use Rattle.run_packets.proofs.admitted.Lines.{append_known, gone_known, saved_known}
use Rattle.run_packets.proofs.admitted.Sets.{none_in}

down_leaves : (c : Cluster) (disk : NodeRecord) (g : Hand) (os : List Output) → InDevices c disk.valid → TurnKnown c g → AllKnown c os → Leaves c (site Down disk) g os
down_leaves c disk g os kept gave known = record { site_so = record { disk_so = kept; node_so = tt }; turn_so = gave; outputs_so = known }

-- ---- each small step

one_leaves : (h : Header) (c : Cluster) (M : Memberships) (n : ℕ) (told : Delivered) (node : Node) (disk : NodeRecord) (g : Hand) (d : Doing) → DevicesKnown c → Holds (setting_of c) M → Known M told
    → SiteTied c M n (site node disk) → May c n told (site node disk) d → DoingMay h n told g (site node disk) d → DoingFor c (site node disk) d → HandKnown c told → TurnKnown c g
    → SiteKnown c (site node disk) → Leaves c (effect c n (site node disk) d) (hand_after g d) (gives c n (site node disk) d)
one_leaves h c M n told Down disk g Comes_up fixed i known tied may guard for hand gave k =
    record { site_so = record { disk_so = k.disk_so; node_so = record { state_so = record { valid_so = k.disk_so; joined_so = none_in c }; tasks_so = tt; attempt_so = tt; office_so = tt } }; turn_so = gave; outputs_so = (tt, tt) }
one_leaves h c M n told (Up x) disk g Comes_up fixed i known tied may guard for hand gave k = absurd may
one_leaves h c M n told node disk g (Goes_down why) fixed i known tied may guard for hand gave k = down_leaves c disk g (gone_line n why) k.disk_so gave (tt, tt)
one_leaves h c M n told Down disk g (Does a) fixed i known tied may guard for hand gave k = absurd may
one_leaves h c M n told (Up x) disk g (Does a) fixed i known tied may guard for hand gave k =
    act_leaves h c M n told disk x g a fixed (record { holds = i; known = known; tied = tied }) may guard for hand gave k.disk_so k.node_so
one_leaves h c M n told Down disk g (Saves ch) fixed i known tied may guard for hand gave k = absurd may
one_leaves h c M n told (Up x) disk g (Saves ch) fixed i known tied may guard for hand gave k =
    let y : UpKnown c (changed c n x ch) = change_known c M n told disk x ch fixed (record { holds = i; known = known; tied = tied }) may for hand k.node_so in
    record { site_so = record { disk_so = y.state_so.valid_so; node_so = y }; turn_so = gave; outputs_so = saved_known c n x ch }
one_leaves h c M n told Down disk g (Loses ch why) fixed i known tied may guard for hand gave k = absurd may
one_leaves h c M n told (Up x) disk g (Loses ch why) fixed i known tied may guard for hand gave k =
    let y : UpKnown c (changed c n x ch) = change_known c M n told disk x ch fixed (record { holds = i; known = known; tied = tied }) may for hand k.node_so in
    down_leaves c (record_of (changed c n x ch)) g _ y.state_so.valid_so gave (gone_known c n ch why)
one_leaves h c M n told node disk g (Forgets ch why) fixed i known tied may guard for hand gave k = down_leaves c disk g _ k.disk_so gave (gone_known c n ch why)

-- ---- all of them

pub all_leave : (h : Header) (c : Cluster) (M : Memberships) (n : ℕ) (told : Delivered) (x : Site) (g : Hand) (ds : List Doing) → All IsDevice c.attached → DevicesKnown c → Holds (setting_of c) M
    → Known M told → SiteTied c M n x → MayAll c n told x ds → AllMay h c n told g x ds → AllFor c n x ds → HandKnown c told → TurnKnown c g → SiteKnown c x
    → Leaves c (after_all c n x ds) (hand_all g ds) (given_all c n x ds)
all_leave h c M n told x g [] fits fixed i known tied may guard for hand gave k = record { site_so = k; turn_so = gave; outputs_so = tt }
all_leave h c M n told x g (d ∷ ds) fits fixed i known tied may guard for hand gave k =
    let goes : GoesOn c M n (effect c n x d) (gives c n x d) (of_doing n d) = does_one c M n told x d fits i known tied may.0 in
    let first : Leaves c (effect c n x d) (hand_after g d) (gives c n x d) = one_leaves h c M n told x.node x.disk g d fixed i known tied may.0 guard.0 for.0 hand gave k in
    let last : Leaves c (after_all c n (effect c n x d) ds) (hand_all (hand_after g d) ds) (given_all c n (effect c n x d) ds) =
    all_leave h c goes.machine n told (effect c n x d) (hand_after g d) ds fits fixed goes.holds (known_stays c M goes.machine told i goes.grows known) goes.tied may.1 guard.1 for.1 hand first.turn_so first.site_so in
    record { site_so = last.site_so; turn_so = last.turn_so; outputs_so = append_known c (gives c n x d) (given_all c n (effect c n x d) ds) first.outputs_so last.outputs_so }

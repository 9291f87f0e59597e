-- In the machine of memberships each log has room on a disk, where what is proposed next has.
use Rattle.std.specs.Prelude.{ℕ, ◌++◌, true, List, [], ◌∷◌, length}
use Rattle.std.proofs.Common.{sym, subst}
use Rattle.machine_base.proofs.Puts.{put_cases}
use Rattle.machine_base.specs.Epochs.{coordinator}
use Rattle.membership_machine.proofs.Preserved.{event_keeps}
use Rattle.membership_machine.specs.Events.{Acknowledge, Allowed, Begin, Commit, Count, Crash, Event, Install, Join, Prepare, Promise, Propose, Propose_lost, Run, Start, after, at_both}
use Rattle.membership_machine.specs.Invariant.{Fits, Holds}
use Rattle.membership_machine.specs.Records.{Saved}
use Rattle.membership_machine.specs.State.{Epoch, Memberships, Node, first_memberships}
use Rattle.membership_machine.specs.Steps.{acknowledging, appending, beginning, committing, counting, crashing, installing, joining, promising, proposing, starting}
use Rattle.membership_machine.specs.Votes.{Setting}
use Rattle.run_packets.proofs.fits.Rows.{none_room, room_take}
use Rattle.run_packets.specs.fits.Rooms.{HasRoom}

abbrev pub LogsHaveRoom : ℕ → ℕ → Memberships → Type 0
LogsHaveRoom nodes devices M = (q : ℕ) → HasRoom nodes devices (M.epoch q).log

-- what is proposed has room
abbrev EventFits : ℕ → ℕ → Memberships → Event → Type 0
EventFits nodes devices M (Propose q u) = HasRoom nodes devices ((M.epoch q).log ++ u ∷ [])
EventFits nodes devices M (Propose_lost q u) = HasRoom nodes devices ((M.epoch q).log ++ u ∷ [])
EventFits nodes devices M _ = Unit {0}

abbrev pub EventsFit : ℕ → ℕ → Memberships → List Event → Type 0
EventsFit nodes devices M [] = Unit {0}
EventsFit nodes devices M (e ∷ es) = EventFits nodes devices M e × EventsFit nodes devices (after M e) es

both_logs : (nodes devices : ℕ) (M : Memberships) (m : ℕ) (n : Node) (q : ℕ) (e : Epoch) → HasRoom nodes devices e.log → LogsHaveRoom nodes devices M → LogsHaveRoom nodes devices (at_both M m n q e)
both_logs nodes devices M m n q e room h = put_cases (λ k (x : Epoch). HasRoom nodes devices x.log) M.epoch q e room (λ k ne. h k)

-- a record that has the first of a log has room
pub part_room : (nodes devices : ℕ) (M : Memberships) (r : Saved) → Fits r (M.epoch r.installed) → LogsHaveRoom nodes devices M → HasRoom nodes devices r.entries
part_room nodes devices M r f h = subst (HasRoom nodes devices) (sym f.entries) (room_take nodes devices (length r.entries) (M.epoch r.installed).log (h r.installed))

event_logs : (nodes devices : ℕ) (S : Setting) (M : Memberships) (e : Event) → Holds S M → Allowed S M e → EventFits nodes devices M e → LogsHaveRoom nodes devices M → LogsHaveRoom nodes devices (after M e)
event_logs nodes devices S M (Begin q members) i a r h = both_logs nodes devices M (coordinator q) (promising (M.node (coordinator q)) q true) q (beginning (M.epoch q) members) (h q) h
event_logs nodes devices S M (Promise m q) i a r h = h
event_logs nodes devices S M (Count q n held) i a r h =
    let s : Saved = (M.node n).showed q in
    both_logs nodes devices M (coordinator q) (installing (M.node (coordinator q)) q s.entries s.committed) q (counting (M.epoch q) n held s)
    (part_room nodes devices M s ((i.node n).showed_fits q (a.2.all_answered n a.2.of_member)) h) h
event_logs nodes devices S M (Install m q) i a r h = h
event_logs nodes devices S M (Start q) i a r h = both_logs nodes devices M (coordinator q) (joining (M.node (coordinator q))) q (starting (M.epoch q)) (h q) h
event_logs nodes devices S M (Join m q) i a r h = h
event_logs nodes devices S M (Propose q u) i a r h = both_logs nodes devices M (coordinator q) (appending (M.node (coordinator q)) q u) q (proposing (M.epoch q) u) r h
event_logs nodes devices S M (Propose_lost q u) i a r h = both_logs nodes devices M (coordinator q) (crashing (M.node (coordinator q))) q (proposing (M.epoch q) u) r h
event_logs nodes devices S M (Prepare m q u) i a r h = h
event_logs nodes devices S M (Acknowledge q) i a r h = both_logs nodes devices M (coordinator q) (committing (M.node (coordinator q))) q (acknowledging (M.epoch q)) (h q) h
event_logs nodes devices S M (Commit m q) i a r h = h
event_logs nodes devices S M (Crash m) i a r h = h

pub run_logs : (nodes devices : ℕ) (S : Setting) (M : Memberships) (es : List Event) (N : Memberships) → Holds S M → Run S M es N → EventsFit nodes devices M es → LogsHaveRoom nodes devices M → LogsHaveRoom nodes devices N
run_logs nodes devices S M [] N i run fits h = subst (LogsHaveRoom nodes devices) (sym run) h
run_logs nodes devices S M (e ∷ es) N i run fits h = run_logs nodes devices S (after M e) es N (event_keeps S M e i run.0).holds run.1 fits.1 (event_logs nodes devices S M e i run.0 fits.0 h)

pub first_logs : (nodes devices : ℕ) → LogsHaveRoom nodes devices first_memberships
first_logs nodes devices q = none_room nodes devices

-- a crash asks nothing more
pub then_crash : (nodes devices : ℕ) (M : Memberships) (es : List Event) (m : ℕ) → EventsFit nodes devices M es → EventsFit nodes devices M (es ++ Crash m ∷ [])
then_crash nodes devices M [] m h = (tt, tt)
then_crash nodes devices M (e ∷ es) m h = (h.0, then_crash nodes devices (after M e) es m h.1)

-- In the machine of memberships all that is proposed has room, where what is proposed next has.
use Rattle.std.specs.Prelude.{ℕ, ◌≡◌, ◌<◌, ◌^◌, ◌++◌, true, false, List, [], ◌∷◌, length}
use Rattle.std.proofs.Common.{sym, subst, arith}
use Rattle.cmm_attempt.proofs.Basics.{false_true}
use Rattle.machine_base.proofs.Puts.{put_cases}
use Rattle.machine_base.specs.Epochs.{coordinator}
use Rattle.membership_machine.proofs.Preserved.{event_keeps}
use Rattle.membership_machine.specs.Events.{Acknowledge, Allowed, Begin, Commit, Count, Crash, Event, Install, Join, Prepare, Promise, Propose, Propose_lost, Run, Start, after, at_both, at_node}
use Rattle.membership_machine.specs.Invariant.{Fits, Holds}
use Rattle.membership_machine.specs.State.{Epoch, Memberships, Node, first_memberships}
use Rattle.membership_machine.specs.Steps.{acknowledging, appending, beginning, committing, counting, crashing, installing, joining, promising, proposing, starting}
use Rattle.membership_machine.specs.Records.{Saved}
use Rattle.membership_machine.specs.Votes.{Setting}
use Rattle.run_packets.proofs.fits.Rows.{none_room, room_take}
use Rattle.run_packets.specs.fits.Rooms.{AllHaveRoom, EventRoom, EventsRoom, HasRoom}

node_room : (nodes devices : ℕ) (M : Memberships) (m : ℕ) (n : Node) → n.promised < 2 ^ 63 → AllHaveRoom nodes devices M → AllHaveRoom nodes devices (at_node M m n)
node_room nodes devices M m n small h =
    record { logs = h.logs; low = h.low; promised = put_cases (λ k (x : Node). x.promised < 2 ^ 63) M.node m n small (λ k ne. h.promised k) }

both_room : (nodes devices : ℕ) (M : Memberships) (m : ℕ) (n : Node) (q : ℕ) (e : Epoch) → n.promised < 2 ^ 63 → HasRoom nodes devices e.log → (e.tried ≡ true → q < 2 ^ 63) → AllHaveRoom nodes devices M
    → AllHaveRoom nodes devices (at_both M m n q e)
both_room nodes devices M m n q e small room low h = record {
  logs = put_cases (λ k (x : Epoch). HasRoom nodes devices x.log) M.epoch q e room (λ k ne. h.logs k);
  low = put_cases (λ k (x : Epoch). x.tried ≡ true → k < 2 ^ 63) M.epoch q e low (λ k ne. h.low k);
  promised = put_cases (λ k (x : Node). x.promised < 2 ^ 63) M.node m n small (λ k ne. h.promised k);
}

-- a record that has the first of a log has room
pub part_room : (nodes devices : ℕ) (M : Memberships) (r : Saved) → Fits r (M.epoch r.installed) → AllHaveRoom nodes devices M → HasRoom nodes devices r.entries
part_room nodes devices M r f h = subst (HasRoom nodes devices) (sym f.entries) (room_take nodes devices (length r.entries) (M.epoch r.installed).log (h.logs r.installed))

event_room : (nodes devices : ℕ) (S : Setting) (M : Memberships) (e : Event) → Holds S M → Allowed S M e → EventRoom nodes devices M e → AllHaveRoom nodes devices M → AllHaveRoom nodes devices (after M e)
event_room nodes devices S M (Begin q members) i a r h =
    both_room nodes devices M (coordinator q) (promising (M.node (coordinator q)) q true) q (beginning (M.epoch q) members) r (h.logs q) (λ is. r) h
event_room nodes devices S M (Promise m q) i a r h = node_room nodes devices M m (promising (M.node m) q false) (h.low q a.0) h
event_room nodes devices S M (Count q n held) i a r h =
    let s : Saved = (M.node n).showed q in
    both_room nodes devices M (coordinator q) (installing (M.node (coordinator q)) q s.entries s.committed) q (counting (M.epoch q) n held s) (h.promised (coordinator q))
    (part_room nodes devices M s ((i.node n).showed_fits q (a.2.all_answered n a.2.of_member)) h) (h.low q) h
event_room nodes devices S M (Install m q) i a r h = node_room nodes devices M m (installing (M.node m) q (M.epoch q).base (M.epoch q).settled) (h.promised m) h
event_room nodes devices S M (Start q) i a r h =
    both_room nodes devices M (coordinator q) (joining (M.node (coordinator q))) q (starting (M.epoch q)) (h.promised (coordinator q)) (h.logs q) (h.low q) h
event_room nodes devices S M (Join m q) i a r h = node_room nodes devices M m (joining (M.node m)) (h.promised m) h
event_room nodes devices S M (Propose q u) i a r h =
    both_room nodes devices M (coordinator q) (appending (M.node (coordinator q)) q u) q (proposing (M.epoch q) u) (h.promised (coordinator q)) r (h.low q) h
event_room nodes devices S M (Propose_lost q u) i a r h =
    both_room nodes devices M (coordinator q) (crashing (M.node (coordinator q))) q (proposing (M.epoch q) u) (h.promised (coordinator q)) r (h.low q) h
event_room nodes devices S M (Prepare m q u) i a r h = node_room nodes devices M m (appending (M.node m) q u) (h.promised m) h
event_room nodes devices S M (Acknowledge q) i a r h =
    both_room nodes devices M (coordinator q) (committing (M.node (coordinator q))) q (acknowledging (M.epoch q)) (h.promised (coordinator q)) (h.logs q) (h.low q) h
event_room nodes devices S M (Commit m q) i a r h = node_room nodes devices M m (committing (M.node m)) (h.promised m) h
event_room nodes devices S M (Crash m) i a r h = node_room nodes devices M m (crashing (M.node m)) (h.promised m) h

pub run_room : (nodes devices : ℕ) (S : Setting) (M : Memberships) (es : List Event) (N : Memberships) → Holds S M → Run S M es N → EventsRoom nodes devices M es → AllHaveRoom nodes devices M → AllHaveRoom nodes devices N
run_room nodes devices S M [] N i run rooms h = subst (AllHaveRoom nodes devices) (sym run) h
run_room nodes devices S M (e ∷ es) N i run rooms h = run_room nodes devices S (after M e) es N (event_keeps S M e i run.0).holds run.1 rooms.1 (event_room nodes devices S M e i run.0 rooms.0 h)

none_low : 0 < 2 ^ 63
none_low = omega arith

pub first_room : (nodes devices : ℕ) → AllHaveRoom nodes devices first_memberships
first_room nodes devices = record { logs = λ q. none_room nodes devices; low = λ q is. absurd (false_true is); promised = λ m. none_low }

-- a crash asks nothing more
pub then_crash : (nodes devices : ℕ) (M : Memberships) (es : List Event) (m : ℕ) → EventsRoom nodes devices M es → EventsRoom nodes devices M (es ++ Crash m ∷ [])
then_crash nodes devices M [] m h = (tt, tt)
then_crash nodes devices M (e ∷ es) m h = (h.0, then_crash nodes devices (after M e) es m h.1)

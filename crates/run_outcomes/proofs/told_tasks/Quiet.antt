-- What quiet moments leave as it is.
use Rattle.std.specs.Prelude.{ℕ, ◌≡◌, ◌≢◌, ◌⊎◌, ◌==◌, ◌&&◌, not, Bool, true, false, if◌then◌else◌, List, [], ◌∷◌, ◌++◌, None, Some}
use Rattle.std.proofs.Common.{refl, sym, ap, ◌∙◌, arith, inl, inr}
use Rattle.pgr_device.specs.declared.command.PrCommand.{PrCommand}
use Rattle.pgr_device.specs.declared.command.PrCommand.TheVariants as command
use Rattle.status_report.specs.declared.attempt_entry.AttemptEntry.{AttemptEntry}
use Rattle.status_report.specs.declared.attempt_entry.AttemptEntry.TheVariants as tried
use Rattle.status_report.specs.declared.device_entry.DeviceEntry.{DeviceEntry}
use Rattle.status_report.specs.declared.device_entry.DeviceEntry.TheVariants as device_entry
use Rattle.status_report.specs.declared.entry.Entry.TheVariants as entry
use Rattle.status_report.specs.declared.node_entry.NodeEntry.{NodeEntry}
use Rattle.status_report.specs.declared.node_entry.NodeEntry.TheVariants as note
use Rattle.status_report.specs.declared.packet_entry.PacketEntry.{PacketEntry}
use Rattle.status_report.specs.declared.packet_entry.PacketEntry.TheVariants as packet
use Rattle.history.specs.Letters.{arriving}
use Rattle.history.specs.Member.{attempt_of, in_collect, members_of}
use Rattle.history.specs.Moment.{Moment, Told}
use Rattle.history.specs.Order.{before_last}
use Rattle.history.specs.Queue as told
use Rattle.history.specs.Queue.{is_write}
use Rattle.history.specs.Records.{own_record, promise_among, promises, record_of}
use Rattle.history.specs.Seizing.{is_attempt}
use Rattle.history.specs.Setting.{Setting, coordinator}
use Rattle.run_outcomes.specs.tasks.Quiet.{AreQuiet, IsQuiet, QuietAttempt, QuietCommand, QuietDevice, QuietNode}
use Rattle.cmm_attempt.proofs.Basics.{false_true, same_number}

pub differs : (a b : ℕ) → a ≢ b → (a == b) ≡ false
differs a b ne = grind arith

pub if_off : {X : Type 0} (b : Bool) (x y : X) → b ≡ false → (if b then x else y) ≡ y
if_off b x y is = ap (λ z. if z then x else y) is

pub off_first : (a b : Bool) → a ≡ false → (a && b) ≡ false
off_first true b is = absurd (false_true (sym is))
off_first false b is = refl

pub off_second : (a b : Bool) → b ≡ false → (a && b) ≡ false
off_second true b is = is
off_second false b is = refl

-- ---- the tasks

pub saved_off : (n m : ℕ) (ms : List Moment) → (m ≢ n) ⊎ (in_collect n ms ≡ false) → ((m == n) && in_collect n ms) ≡ false
saved_off n m ms (inl ne) = off_first (m == n) (in_collect n ms) (differs m n ne)
saved_off n m ms (inr calm) = off_second (m == n) (in_collect n ms) calm

node_tasks : (S : Setting) (n m : ℕ) (ms : List Moment) (e : NodeEntry) → QuietNode n ms m e → told.tasks_of S n (Told (entry.Node m e) ∷ ms) ≡ told.tasks_of S n ms
node_tasks S n m ms note.Up k = if_off (m == n) [] (told.tasks_of S n ms) (differs m n k)
node_tasks S n m ms (note.Down why) k = if_off (m == n) [] (told.tasks_of S n ms) (differs m n k)
node_tasks S n m ms note.Saved k = if_off ((m == n) && in_collect n ms) [] (told.tasks_of S n ms) (saved_off n m ms k)
node_tasks S n m ms (note.Installed q) k = if_off (m == n) (told.joinings S n q ms) (told.tasks_of S n ms) (differs m n k)
node_tasks S n m ms (note.Member q) k = refl
node_tasks S n m ms note.Ticked k = refl

command_off : (n m : ℕ) (done : PrCommand) → QuietCommand n m done → ((m == n) && not (is_write done)) ≡ false
command_off n m (command.Write value) k = off_second (m == n) false refl
command_off n m (command.Ignore key) k = off_first (m == n) true (differs m n k)
command_off n m command.Word k = off_first (m == n) true (differs m n k)
command_off n m command.Keys k = off_first (m == n) true (differs m n k)
command_off n m (command.Reserve kind key) k = off_first (m == n) true (differs m n k)
command_off n m (command.Register key new) k = off_first (m == n) true (differs m n k)
command_off n m (command.Release kind key) k = off_first (m == n) true (differs m n k)
command_off n m (command.Clear key) k = off_first (m == n) true (differs m n k)
command_off n m (command.Preempt kind key victim) k = off_first (m == n) true (differs m n k)
command_off n m command.Holder k = off_first (m == n) true (differs m n k)
command_off n m command.Read k = off_first (m == n) true (differs m n k)
command_off n m (command.Swap expect new) k = off_first (m == n) true (differs m n k)

device_tasks : (S : Setting) (n : ℕ) (ms : List Moment) (e : DeviceEntry) → QuietDevice n e → told.tasks_of S n (Told (entry.Device e) ∷ ms) ≡ told.tasks_of S n ms
device_tasks S n ms (device_entry.Command m d done reply) k =
    if_off ((m == n) && not (is_write done)) (told.with_own S n (attempt_of n ms) (Told (entry.Device (device_entry.Command m d done reply)) ∷ ms) (told.moved (told.answer_told reply) (told.tasks_of S n ms)))
    (told.tasks_of S n ms) (command_off n m done k)
device_tasks S n ms (device_entry.Accepted q m d value) k = refl
device_tasks S n ms (device_entry.Refused m d value why) k = refl

attempt_tasks : (S : Setting) (n : ℕ) (ms : List Moment) (e : AttemptEntry) → QuietAttempt n e → told.tasks_of S n (Told (entry.Attempt e) ∷ ms) ≡ told.tasks_of S n ms
attempt_tasks S n ms (tried.Begun e members) k =
    if_off (coordinator e == n) (told.with_own S n (Some e) (Told (entry.Attempt (tried.Begun e members)) ∷ ms) []) (told.tasks_of S n ms) (differs (coordinator e) n k)
attempt_tasks S n ms (tried.Votes e have need lacking) k = if_off (coordinator e == n) [] (told.tasks_of S n ms) (differs (coordinator e) n k)
attempt_tasks S n ms (tried.Excluded e m) k = if_off (coordinator e == n) [] (told.tasks_of S n ms) (differs (coordinator e) n k)
attempt_tasks S n ms (tried.Foreign e m) k = if_off (coordinator e == n) [] (told.tasks_of S n ms) (differs (coordinator e) n k)
attempt_tasks S n ms (tried.Superseded e q) k = refl
attempt_tasks S n ms (tried.Silent e m) k = refl

packet_tasks : (S : Setting) (n : ℕ) (ms : List Moment) (e : PacketEntry) → IsQuiet n ms (Told (entry.Packet e)) → told.tasks_of S n (Told (entry.Packet e) ∷ ms) ≡ told.tasks_of S n ms
packet_tasks S n ms (packet.Delivered p a m) k = absurd k
packet_tasks S n ms (packet.Sent p a m called bytes) k = refl
packet_tasks S n ms (packet.Lost p) k = refl
packet_tasks S n ms (packet.Repeated p copy) k = refl
packet_tasks S n ms (packet.Dropped p why) k = refl

pub quiet_tasks : (S : Setting) (n : ℕ) (ms : List Moment) (x : Moment) → IsQuiet n ms x → told.tasks_of S n (x ∷ ms) ≡ told.tasks_of S n ms
quiet_tasks S n ms (Told (entry.Node m e)) k = node_tasks S n m ms e k
quiet_tasks S n ms (Told (entry.Device e)) k = device_tasks S n ms e k
quiet_tasks S n ms (Told (entry.Attempt e)) k = attempt_tasks S n ms e k
quiet_tasks S n ms (Told (entry.Packet e)) k = packet_tasks S n ms e k
quiet_tasks S n ms _ k = refl

pub same_tasks : (S : Setting) (n : ℕ) (ms newer : List Moment) → AreQuiet n ms newer → told.tasks_of S n (newer ++ ms) ≡ told.tasks_of S n ms
same_tasks S n ms [] k = refl
same_tasks S n ms (x ∷ newer) k = quiet_tasks S n (newer ++ ms) x k.0 ∙ same_tasks S n ms newer k.1

-- ---- the attempt

attempt_entry : (n e : ℕ) (x : AttemptEntry) → coordinator e ≡ n → QuietAttempt n x → is_attempt e (Told (entry.Attempt x)) ≡ false
attempt_entry n e (tried.Begun f members) own k = by_test (f == e) refl
  where
    by_test : (b : Bool) → (f == e) ≡ b → b ≡ false
    by_test true is = absurd (k (ap coordinator (same_number f e is) ∙ own))
    by_test false is = refl
attempt_entry n e _ own k = refl

pub quiet_attempt : (n e : ℕ) (ms : List Moment) (x : Moment) → coordinator e ≡ n → IsQuiet n ms x → is_attempt e x ≡ false
quiet_attempt n e ms (Told (entry.Attempt x)) own k = attempt_entry n e x own k
quiet_attempt n e ms _ own k = refl

quiet_packet : (n : ℕ) (ms : List Moment) (x : PacketEntry) → IsQuiet n ms (Told (entry.Packet x)) → arriving ms (Told (entry.Packet x)) ≡ None
quiet_packet n ms (packet.Delivered p a m) k = absurd k
quiet_packet n ms _ k = refl

pub quiet_arriving : (n : ℕ) (ms : List Moment) (x : Moment) → IsQuiet n ms x → arriving ms x ≡ None
quiet_arriving n ms (Told (entry.Packet e)) k = quiet_packet n ms e k
quiet_arriving n ms _ k = refl

-- what is promised, who has answered, and the coordinator's own record
pub same_promises : (n e : ℕ) (ms newer : List Moment) → coordinator e ≡ n → AreQuiet n ms newer → promises e (newer ++ ms) ≡ promises e ms
same_promises n e ms [] own k = refl
same_promises n e ms (x ∷ newer) own k =
    if_off (is_attempt e x) [] (promise_among e (arriving (newer ++ ms) x) ++ promises e (newer ++ ms)) (quiet_attempt n e (newer ++ ms) x own k.0)
    ∙ (ap (λ o. promise_among e o ++ promises e (newer ++ ms)) (quiet_arriving n (newer ++ ms) x k.0) ∙ same_promises n e ms newer own k.1)

pub same_seized : (n e d m : ℕ) (ms newer : List Moment) → coordinator e ≡ n → AreQuiet n ms newer → told.seized_by e d m (newer ++ ms) ≡ told.seized_by e d m ms
same_seized n e d m ms [] own k = refl
same_seized n e d m ms (x ∷ newer) own k =
    if_off (is_attempt e x) None (told.told_by e d m (arriving (newer ++ ms) x) (told.seized_by e d m (newer ++ ms))) (quiet_attempt n e (newer ++ ms) x own k.0)
    ∙ (ap (λ o. told.told_by e d m o (told.seized_by e d m (newer ++ ms))) (quiet_arriving n (newer ++ ms) x k.0) ∙ same_seized n e d m ms newer own k.1)

same_begun : (n e : ℕ) (ms newer : List Moment) → coordinator e ≡ n → AreQuiet n ms newer → before_last (is_attempt e) (newer ++ ms) ≡ before_last (is_attempt e) ms
same_begun n e ms [] own k = refl
same_begun n e ms (x ∷ newer) own k =
    if_off (is_attempt e x) (newer ++ ms) (before_last (is_attempt e) (newer ++ ms)) (quiet_attempt n e (newer ++ ms) x own k.0) ∙ same_begun n e ms newer own k.1

pub same_record : (n e : ℕ) (ms newer : List Moment) → coordinator e ≡ n → AreQuiet n ms newer → own_record e (newer ++ ms) ≡ own_record e ms
same_record n e ms newer own k = ap (record_of (coordinator e)) (same_begun n e ms newer own k)

members_entry : (e : ℕ) (ms : List Moment) (x : AttemptEntry) → is_attempt e (Told (entry.Attempt x)) ≡ false → members_of e (Told (entry.Attempt x) ∷ ms) ≡ members_of e ms
members_entry e ms (tried.Begun f members) off = if_off (f == e) members (members_of e ms) off
members_entry e ms _ off = refl

members_one : (n e : ℕ) (ms : List Moment) (x : Moment) → coordinator e ≡ n → IsQuiet n ms x → members_of e (x ∷ ms) ≡ members_of e ms
members_one n e ms (Told (entry.Attempt x)) own k = members_entry e ms x (attempt_entry n e x own k)
members_one n e ms _ own k = refl

pub same_members : (n e : ℕ) (ms newer : List Moment) → coordinator e ≡ n → AreQuiet n ms newer → members_of e (newer ++ ms) ≡ members_of e ms
same_members n e ms [] own k = refl
same_members n e ms (x ∷ newer) own k = members_one n e (newer ++ ms) x own k.0 ∙ same_members n e ms newer own k.1

-- the last attempt of the node
number_entry : (n : ℕ) (ms : List Moment) (x : AttemptEntry) → QuietAttempt n x → attempt_of n (Told (entry.Attempt x) ∷ ms) ≡ attempt_of n ms
number_entry n ms (tried.Begun f members) k = if_off (coordinator f == n) (Some f) (attempt_of n ms) (differs (coordinator f) n k)
number_entry n ms _ k = refl

number_one : (n : ℕ) (ms : List Moment) (x : Moment) → IsQuiet n ms x → attempt_of n (x ∷ ms) ≡ attempt_of n ms
number_one n ms (Told (entry.Attempt x)) k = number_entry n ms x k
number_one n ms _ k = refl

pub same_number_of : (n : ℕ) (ms newer : List Moment) → AreQuiet n ms newer → attempt_of n (newer ++ ms) ≡ attempt_of n ms
same_number_of n ms [] k = refl
same_number_of n ms (x ∷ newer) k = number_one n (newer ++ ms) x k.0 ∙ same_number_of n ms newer k.1

-- What quiet moments leave of what is valid to a node, of whether its queue is open, and of what it acts for.
use Rattle.std.specs.Prelude.{ℕ, ◌≡◌, ◌==◌, ◌&&◌, ◌||◌, not, Bool, true, false, List, [], ◌∷◌, ◌++◌, None, Some}
use Rattle.std.specs.List.{list_any}
use Rattle.std.proofs.Common.{refl, sym, ap, ◌∙◌}
use Rattle.cl_base.specs.declared.header.Header.{Header}
use Rattle.pgr_device.specs.declared.command.PrCommand.{PrCommand}
use Rattle.pgr_device.specs.declared.command.PrCommand.TheVariants as command
use Rattle.pgr_device.specs.declared.command.PrAnswer.TheVariants as answer
use Rattle.status_report.specs.declared.attempt_entry.AttemptEntry.{AttemptEntry}
use Rattle.status_report.specs.declared.attempt_entry.AttemptEntry.TheVariants as tried
use Rattle.status_report.specs.declared.device_entry.DeviceAnswer.{DeviceAnswer}
use Rattle.status_report.specs.declared.device_entry.DeviceAnswer.TheVariants.{Failed, Given}
use Rattle.status_report.specs.declared.device_entry.DeviceEntry.{DeviceEntry}
use Rattle.status_report.specs.declared.device_entry.DeviceEntry.TheVariants as device_entry
use Rattle.status_report.specs.declared.entry.Entry.TheVariants as entry
use Rattle.status_report.specs.declared.node_entry.NodeEntry.{NodeEntry}
use Rattle.status_report.specs.declared.node_entry.NodeEntry.TheVariants as note
use Rattle.history.specs.Member.{attempt_of, in_collect, promised_to, session_of}
use Rattle.history.specs.Moment.{Moment, Told}
use Rattle.history.specs.Queue as told
use Rattle.history.specs.Queue.{is_write}
use Rattle.cl_base.specs.declared.panic.Panic.TheVariants as panic
use Rattle.status_report.specs.declared.node_entry.DownCause.TheVariants as cause
use Rattle.history.specs.Seizing.{acts_for, is_install, is_number, seizing_of}
use Rattle.history.specs.UnderWay.{is_under_way}
use Rattle.run_outcomes.proofs.phases.Lines.{way_before}
use Rattle.history.specs.Validated.{Lapsed, Open, Valid, at_install, joins, validity}
use Rattle.history.specs.Setting.{Setting, coordinator}
use Rattle.run_outcomes.specs.tasks.Quiet.{AreQuiet, IsQuiet, QuietAttempt, QuietCommand, QuietDevice, QuietNode}
use Rattle.cmm_attempt.proofs.Basics.{false_true}
use Rattle.run_outcomes.proofs.told_tasks.Quiet.{differs, if_off, off_first, quiet_attempt, saved_off}
use Rattle.run_outcomes.specs.tasks.Lasting.{drops, lasts_open}

-- ---- which devices are valid to the node

validity_node : (h : Header) (n d m : ℕ) (ms : List Moment) (e : NodeEntry) → QuietNode n ms m e → validity h n d (Told (entry.Node m e) ∷ ms) ≡ validity h n d ms
validity_node h n d m ms note.Up k = refl
validity_node h n d m ms (note.Down cause.Stopped) k = if_off (m == n) Open (validity h n d ms) (differs m n k)
validity_node h n d m ms (note.Down (cause.Panic panic.Disk)) k = if_off (m == n) Open (validity h n d ms) (differs m n k)
validity_node h n d m ms (note.Down (cause.Panic _)) k = refl
validity_node h n d m ms (note.Down _) k = refl
validity_node h n d m ms note.Saved k = refl
validity_node h n d m ms (note.Installed e) k = if_off (m == n) (at_install h n (seizing_of h e d ms) (validity h n d ms)) (validity h n d ms) (differs m n k)
validity_node h n d m ms (note.Member e) k = refl
validity_node h n d m ms note.Ticked k = refl

validity_command : (h : Header) (n d m x : ℕ) (ms : List Moment) (done : PrCommand) (reply : DeviceAnswer) → QuietCommand n m done
    → validity h n d (Told (entry.Device (device_entry.Command m x done reply)) ∷ ms) ≡ validity h n d ms
validity_command h n d m x ms (command.Ignore key) reply k = if_off ((m == n) && (x == d)) Lapsed (validity h n d ms) (off_first (m == n) (x == d) (differs m n k))
validity_command h n d m x ms command.Word (Given (answer.Word w)) k =
    if_off ((m == n) && (x == d) && joins n d w ms) Valid (validity h n d ms) (off_first ((m == n) && (x == d)) (joins n d w ms) (off_first (m == n) (x == d) (differs m n k)))
validity_command h n d m x ms command.Word (Given _) k = refl
validity_command h n d m x ms command.Word Failed k = refl
validity_command h n d m x ms _ reply k = refl

validity_device : (h : Header) (n d : ℕ) (ms : List Moment) (e : DeviceEntry) → QuietDevice n e → validity h n d (Told (entry.Device e) ∷ ms) ≡ validity h n d ms
validity_device h n d ms (device_entry.Command m x done reply) k = validity_command h n d m x ms done reply k
validity_device h n d ms _ k = refl

validity_one : (h : Header) (n d : ℕ) (ms : List Moment) (x : Moment) → IsQuiet n ms x → validity h n d (x ∷ ms) ≡ validity h n d ms
validity_one h n d ms (Told (entry.Node m e)) k = validity_node h n d m ms e k
validity_one h n d ms (Told (entry.Device e)) k = validity_device h n d ms e k
validity_one h n d ms _ k = refl

pub same_validity : (h : Header) (n d : ℕ) (ms newer : List Moment) → AreQuiet n ms newer → validity h n d (newer ++ ms) ≡ validity h n d ms
same_validity h n d ms [] k = refl
same_validity h n d ms (x ∷ newer) k = validity_one h n d (newer ++ ms) x k.0 ∙ same_validity h n d ms newer k.1

-- ---- whether the queue is open

clears_node : (n m : ℕ) (ms : List Moment) (e : NodeEntry) → QuietNode n ms m e → drops n ms (Told (entry.Node m e)) ≡ false
clears_node n m ms note.Up k = differs m n k
clears_node n m ms (note.Down why) k = differs m n k
clears_node n m ms note.Saved k = saved_off n m ms k
clears_node n m ms (note.Installed q) k = differs m n k
clears_node n m ms (note.Member q) k = refl
clears_node n m ms note.Ticked k = refl

clears_attempt : (n : ℕ) (ms : List Moment) (e : AttemptEntry) → QuietAttempt n e → drops n ms (Told (entry.Attempt e)) ≡ false
clears_attempt n ms (tried.Begun e members) k = differs (coordinator e) n k
clears_attempt n ms (tried.Votes e have need lacking) k = differs (coordinator e) n k
clears_attempt n ms (tried.Excluded e m) k = differs (coordinator e) n k
clears_attempt n ms (tried.Foreign e m) k = differs (coordinator e) n k
clears_attempt n ms (tried.Superseded e q) k = refl
clears_attempt n ms (tried.Silent e m) k = refl

pub quiet_clears : (n : ℕ) (ms : List Moment) (x : Moment) → IsQuiet n ms x → drops n ms x ≡ false
quiet_clears n ms (Told (entry.Node m e)) k = clears_node n m ms e k
quiet_clears n ms (Told (entry.Attempt e)) k = clears_attempt n ms e k
quiet_clears n ms _ k = refl

neither : (a b : Bool) → (a || b) ≡ false → (a ≡ false) × (b ≡ false)
neither true b k = absurd (false_true (sym k))
neither false b k = (refl, k)

-- it is not open before, where it is not after a moment that drops no tasks
pub closed_before : (S : Setting) (n : ℕ) (ms : List Moment) (x : Moment) → drops n ms x ≡ false → lasts_open S n (x ∷ ms) ≡ false → lasts_open S n ms ≡ false
closed_before S n ms x calm closed =
    as_it (lasts_open S n ms) (drops n ms x) calm
    (neither (told.is_untold S n (attempt_of n (x ∷ ms)) (x ∷ ms)) (lasts_open S n ms && not (drops n ms x)) closed).1
  where
    as_it : (a b : Bool) → b ≡ false → (a && not b) ≡ false → a ≡ false
    as_it true b off k = absurd (false_true (sym k ∙ ap not off))
    as_it false b off k = refl

pub closed_all : (S : Setting) (n : ℕ) (ms newer : List Moment) → AreQuiet n ms newer → lasts_open S n (newer ++ ms) ≡ false → lasts_open S n ms ≡ false
closed_all S n ms [] k closed = closed
closed_all S n ms (x ∷ newer) k closed = closed_all S n ms newer k.1 (closed_before S n (newer ++ ms) x (quiet_clears n (newer ++ ms) x k.0) closed)

-- ---- whether the node acts for the attempt

session_node : (n m : ℕ) (ms : List Moment) (e : NodeEntry) → QuietNode n ms m e → session_of n (Told (entry.Node m e) ∷ ms) ≡ session_of n ms
session_node n m ms note.Up k = if_off (m == n) None (session_of n ms) (differs m n k)
session_node n m ms (note.Down why) k = if_off (m == n) None (session_of n ms) (differs m n k)
session_node n m ms note.Saved k = if_off ((m == n) && in_collect n ms) (promised_to ms) (session_of n ms) (saved_off n m ms k)
session_node n m ms (note.Installed q) k = refl
session_node n m ms (note.Member q) k = refl
session_node n m ms note.Ticked k = refl

session_attempt : (n : ℕ) (ms : List Moment) (e : AttemptEntry) → QuietAttempt n e → session_of n (Told (entry.Attempt e) ∷ ms) ≡ session_of n ms
session_attempt n ms (tried.Begun e members) k = if_off (coordinator e == n) (Some e) (session_of n ms) (differs (coordinator e) n k)
session_attempt n ms _ k = refl

pub session_one : (n : ℕ) (ms : List Moment) (x : Moment) → IsQuiet n ms x → session_of n (x ∷ ms) ≡ session_of n ms
session_one n ms (Told (entry.Node m e)) k = session_node n m ms e k
session_one n ms (Told (entry.Attempt e)) k = session_attempt n ms e k
session_one n ms _ k = refl

install_node : (n e m : ℕ) (ms : List Moment) (x : NodeEntry) → QuietNode n ms m x → is_install n e (Told (entry.Node m x)) ≡ false
install_node n e m ms (note.Installed q) k = off_first (m == n) (q == e) (differs m n k)
install_node n e m ms _ k = refl

install_one : (n e : ℕ) (ms : List Moment) (x : Moment) → IsQuiet n ms x → is_install n e x ≡ false
install_one n e ms (Told (entry.Node m x)) k = install_node n e m ms x k
install_one n e ms _ k = refl

pub same_acts : (n e : ℕ) (ms newer : List Moment) → AreQuiet n ms newer → acts_for n e (newer ++ ms) ≡ acts_for n e ms
same_acts n e ms [] k = refl
same_acts n e ms (x ∷ newer) k =
    ap (λ o. is_number e o && not (is_install n e x || list_any (is_install n e) (newer ++ ms))) (session_one n (newer ++ ms) x k.0)
    ∙ (ap (λ b. is_number e (session_of n (newer ++ ms)) && not (b || list_any (is_install n e) (newer ++ ms))) (install_one n e (newer ++ ms) x k.0) ∙ same_acts n e ms newer k.1)

-- an attempt that is under way was so before
pub way_before_all : (n e : ℕ) (ms newer : List Moment) → coordinator e ≡ n → AreQuiet n ms newer → is_under_way e (newer ++ ms) ≡ true → is_under_way e ms ≡ true
way_before_all n e ms [] own k way = way
way_before_all n e ms (x ∷ newer) own k way = way_before_all n e ms newer own k.1 (way_before e x (newer ++ ms) (quiet_attempt n e (newer ++ ms) x own k.0) way)

-- What a packet's line, and that of a command at a device, add to the tasks of a coordinator by the lines, and what they leave.
use Rattle.std.specs.Prelude.{ℕ, ◌≡◌, ◌==◌, ◌&&◌, not, Bool, true, false, List, ◌∷◌, Some, Ok, Err, if◌then◌else◌}
use Rattle.std.proofs.Common.{arith, refl, ap, subst, ◌∙◌}
use Rattle.attempt_laws.proofs.Walk.{TellsResult}
use Rattle.cl_base.specs.Seizings.{SeizeResult}
use Rattle.cmm_attempt.specs.Attempts.{AttemptState}
use Rattle.cmm_attempt.specs.Calls.{Take}
use Rattle.history.specs.Letters.{Letter, letter_of}
use Rattle.history.specs.Member.{attempt_of, session_of}
use Rattle.history.specs.Moment.{Moment, Told}
use Rattle.history.specs.Queue as told
use Rattle.history.specs.Queue.{is_write}
use Rattle.history.specs.Setting.{Setting, coordinator}
use Rattle.history.specs.Trace.{delivered}
use Rattle.node_model.specs.Devices.{answer_told}
use Rattle.pgr_device.specs.declared.command.PrCommand.{PrCommand}
use Rattle.run_messages.specs.records.Kept.{Came}
use Rattle.seize.specs.Answers.{Answer}
use Rattle.status_report.specs.declared.device_entry.DeviceEntry.TheVariants as device_entry
use Rattle.status_report.specs.declared.entry.Entry.TheVariants as entry
use Rattle.wire.specs.declared.message.Message.{Message}
use Rattle.run_outcomes.specs.tasks.Laws.{AsksTold}
use Rattle.run_outcomes.specs.tasks.Outward.{RequestsGoOut}
use Rattle.run_outcomes.proofs.outward.Collects.{none_sought}
use Rattle.run_outcomes.proofs.seized.Letters.{delivered_hits}

-- ---- a packet

itself : (n : ℕ) → (n == n) ≡ true
itself n = grind arith

if_on : {X : Type 0} (b : Bool) (x y : X) → b ≡ true → (if b then x else y) ≡ x
if_on b x y is = ap (λ z. if z then x else y) is

both : (a b : Bool) → a ≡ true → b ≡ true → (a && b) ≡ true
both true b h k = k
both false b h k = h

-- It brings no task to a coordinator: a request to seize goes to another node than its sender, and that of its own session comes from it.
pub delivered_own : (S : Setting) (n p from e : ℕ) (ms : List Moment) → coordinator e ≡ n → session_of n ms ≡ Some e → attempt_of n ms ≡ Some e → RequestsGoOut ms → ((l : Letter) → letter_of p ms ≡ Some l → l.to ≡ n)
    → told.tasks_of S n (delivered p from n ∷ ms) ≡ told.with_own S n (Some e) (delivered p from n ∷ ms) (told.tasks_of S n ms)
delivered_own S n p from e ms own session attempt out to =
    let ts : List told.Task = told.tasks_of S n ms in
    if_on (n == n) (told.with_own S n (attempt_of n ms) (delivered p from n ∷ ms) (told.requested S n (letter_of p ms) ms ts)) ts (itself n)
    ∙ (ap (told.with_own S n (attempt_of n ms) (delivered p from n ∷ ms)) (none_sought S n e p n ms ts refl own session out to)
    ∙ ap (λ o. told.with_own S n o (delivered p from n ∷ ms) ts) attempt)

-- ---- a command at a device

told_back : (a : Answer) → told.answer_told (answer_told a) ≡ a
told_back (Ok g) = refl
told_back (Err f) = refl

pub command_own : (S : Setting) (n d e : ℕ) (done : PrCommand) (a : Answer) (ms : List Moment) → is_write done ≡ false → attempt_of n ms ≡ Some e
    → told.tasks_of S n (Told (entry.Device (device_entry.Command n d done (answer_told a))) ∷ ms)
    ≡ told.with_own S n (Some e) (Told (entry.Device (device_entry.Command n d done (answer_told a))) ∷ ms) (told.moved a (told.tasks_of S n ms))
command_own S n d e done a ms plain attempt =
    let ts : List told.Task = told.tasks_of S n ms in
    let x : Moment = Told (entry.Device (device_entry.Command n d done (answer_told a))) in
    if_on ((n == n) && not (is_write done)) (told.with_own S n (attempt_of n ms) (x ∷ ms) (told.moved (told.answer_told (answer_told a)) ts)) ts (both (n == n) (not (is_write done)) (itself n) (ap not plain))
    ∙ (ap (λ q. told.with_own S n (attempt_of n ms) (x ∷ ms) (told.moved q ts)) (told_back a) ∙ ap (λ o. told.with_own S n o (x ∷ ms) (told.moved a ts)) attempt)

-- ---- whom the attempt asked, and what it is told

pub delivered_asks : (a : AttemptState) (p from n : ℕ) (ms : List Moment) → AsksTold a ms → AsksTold a (delivered p from n ∷ ms)
delivered_asks a p from n ms k = record { last = λ d. k.last d; asked = λ d m. k.asked d m }

pub command_asks : (a : AttemptState) (n d : ℕ) (done : PrCommand) (q : Answer) (ms : List Moment) → AsksTold a ms → AsksTold a (Told (entry.Device (device_entry.Command n d done (answer_told q))) ∷ ms)
command_asks a n d done q ms k = record { last = λ x. k.last x; asked = λ x m. k.asked x m }

-- the last Seized of who tells is what the call tells
pub take_tells : (a : AttemptState) (p from n : ℕ) (m : Message) (ms : List Moment) (came : Came (delivered p from n ∷ ms) n from m.body) → coordinator a.plan.epoch ≡ n → (d k : ℕ) (r : SeizeResult)
    → TellsResult (Take from m) a d k r → told.seized_by a.plan.epoch d k (delivered p from n ∷ ms) ≡ Some r
take_tells a p from n m ms came own d k r tells =
    subst (λ j. told.seized_by a.plan.epoch d j (delivered p from n ∷ ms) ≡ Some r) tells.0 (delivered_hits a.plan.epoch d p from n r ms m.body came tells.1 own)

-- Where no attempt of a node is under way, what is delivered in its session leaves its tasks, and a command of its own moves them on.
use Rattle.std.specs.Prelude.{ℕ, ◌==◌, ◌&&◌, ◌≡◌, not, Bool, true, false, List, ◌∷◌, Option, Some, if◌then◌else◌}
use Rattle.std.proofs.Common.{refl, sym, ap, ◌∙◌}
use Rattle.cmm_attempt.proofs.Basics.{false_true, same_number}
use Rattle.history.specs.Letters.{letter_of}
use Rattle.history.specs.Member.{attempt_of, session_of}
use Rattle.history.specs.Moment.{Moment}
use Rattle.history.specs.Queue as told
use Rattle.history.specs.Queue.{is_write}
use Rattle.history.specs.Seizing.{acts_for}
use Rattle.history.specs.Setting.{Setting, coordinator}
use Rattle.history.specs.Trace.{delivered, device}
use Rattle.history.specs.UnderWay.{is_under_way}
use Rattle.pgr_device.specs.declared.command.PrCommand.{PrCommand}
use Rattle.status_report.specs.declared.device_entry.DeviceAnswer.{DeviceAnswer}
use Rattle.run_outcomes.specs.tasks.Outward.{RequestsGoOut}
use Rattle.run_outcomes.proofs.outward.Addressed.{AreAddressed}
use Rattle.run_outcomes.proofs.outward.Collects.{none_sought}
use Rattle.run_outcomes.proofs.told_tasks.Quiet.{if_off}

-- nothing of its own is added
none_own : (S : Setting) (n e : ℕ) (ms : List Moment) (ts : List told.Task) (o : Option ℕ) → o ≡ Some e → is_under_way e ms ≡ false → told.with_own S n o ms ts ≡ ts
none_own S n e ms ts o is over =
    ap (λ z. told.with_own S n z ms ts) is
    ∙ if_off (acts_for n e ms && is_under_way e ms && told.all_promised e ms) (told.own_tasks S n e (told.newest_in_hand e ms) ms ts) ts (off (acts_for n e ms) (is_under_way e ms) (told.all_promised e ms) over)
  where
    off : (a b c : Bool) → b ≡ false → (a && b && c) ≡ false
    off true true c h = absurd (false_true (sym h))
    off true false c h = refl
    off false b c h = refl

-- what is delivered in its session leaves its tasks
pub rested_delivered : (S : Setting) (n e p a m : ℕ) (ms : List Moment) → coordinator e ≡ n → attempt_of n ms ≡ Some e → session_of n ms ≡ Some e → is_under_way e (delivered p a m ∷ ms) ≡ false
    → RequestsGoOut ms → AreAddressed (delivered p a m ∷ ms) → told.tasks_of S n (delivered p a m ∷ ms) ≡ told.tasks_of S n ms
rested_delivered S n e p a m ms own last session over out to = by_test (m == n) refl
  where
    here : List Moment
    here = delivered p a m ∷ ms

    by_test : (b : Bool) → (m == n) ≡ b → (if b then told.with_own S n (attempt_of n ms) here (told.requested S n (letter_of p ms) ms (told.tasks_of S n ms)) else told.tasks_of S n ms) ≡ told.tasks_of S n ms
    by_test true at =
        none_own S n e here (told.requested S n (letter_of p ms) ms (told.tasks_of S n ms)) (attempt_of n ms) last over
        ∙ none_sought S n e p m ms (told.tasks_of S n ms) (same_number m n at) own session out to.0
    by_test false at = refl

-- a command of its own moves them on
pub rested_device : (S : Setting) (n e m d : ℕ) (done : PrCommand) (reply : DeviceAnswer) (ms : List Moment) → attempt_of n ms ≡ Some e → is_under_way e (device m d done reply ∷ ms) ≡ false
    → ((m == n) && not (is_write done)) ≡ true → told.tasks_of S n (device m d done reply ∷ ms) ≡ told.moved (told.answer_told reply) (told.tasks_of S n ms)
rested_device S n e m d done reply ms last over at =
    ap (λ b. if b then told.with_own S n (attempt_of n ms) here after else told.tasks_of S n ms) at ∙ none_own S n e here after (attempt_of n ms) last over
  where
    here : List Moment
    here = device m d done reply ∷ ms

    after : List told.Task
    after = told.moved (told.answer_told reply) (told.tasks_of S n ms)

-- The line of a packet that comes to a coordinator, and that of its command at a device, bring it a task only where it seizes devices, and at a device that had none.
use Rattle.std.specs.Prelude.{ℕ, ◌&&◌, ◌≡◌, ◌⊎◌, not, Bool, true, false, List, ◌∷◌, Some, is_some}
use Rattle.std.specs.List.{list_any}
use Rattle.std.proofs.Common.{refl, sym, ap, subst, ◌∙◌, inl, inr}
use Rattle.cmm_attempt.proofs.Basics.{false_true}
use Rattle.history.specs.Attempts.{gets_task}
use Rattle.history.specs.Letters.{Letter, letter_of}
use Rattle.history.specs.Member.{attempt_of, member_of, session_of}
use Rattle.history.specs.Moment.{Moment, Told}
use Rattle.history.specs.Queue as told
use Rattle.history.specs.Queue.{is_write}
use Rattle.history.specs.Seizing.{acts_for}
use Rattle.history.specs.Setting.{Setting, coordinator}
use Rattle.history.specs.Trace.{delivered}
use Rattle.history.specs.UnderWay.{is_under_way}
use Rattle.node_model.specs.Devices.{answer_told}
use Rattle.pgr_device.specs.declared.command.PrCommand.{PrCommand}
use Rattle.seize.specs.Answers.{Answer}
use Rattle.status_report.specs.declared.device_entry.DeviceEntry.TheVariants as device_entry
use Rattle.status_report.specs.declared.entry.Entry.TheVariants as entry
use Rattle.run_outcomes.specs.tasks.Lasting.{drops}
use Rattle.run_outcomes.specs.tasks.Outward.{RequestsGoOut}
use Rattle.run_outcomes.proofs.onward.Marks.{command_own, delivered_own}
use Rattle.run_outcomes.proofs.silence.tasks.Fresh.{queued_has, is_queued_at, moved_has, moved_queued, none_gets, with_own_adds}
use Rattle.run_outcomes.proofs.told_tasks.Quiet.{if_off}

-- behind the line are the tasks before it, maybe moved on, with those of its own
pub record Mark (S : Setting) (n e : ℕ) (ms : List Moment) (mark : Moment) : Type 0 where
  pub member : member_of n (mark ∷ ms) ≡ member_of n ms
  pub attempt : attempt_of n (mark ∷ ms) ≡ Some e
  pub calm : drops n ms mark ≡ false
  pub had : List told.Task
  pub comes : told.tasks_of S n (mark ∷ ms) ≡ told.with_own S n (Some e) (mark ∷ ms) had
  pub queued : (d : ℕ) → is_queued_at d had ≡ true → is_queued_at d (told.tasks_of S n ms) ≡ true
  pub tasks : (d : ℕ) → told.has_task d had ≡ told.has_task d (told.tasks_of S n ms)

pub delivered_mark : (S : Setting) (n p from e : ℕ) (ms : List Moment) → coordinator e ≡ n → session_of n ms ≡ Some e → attempt_of n ms ≡ Some e → RequestsGoOut ms → ((l : Letter) → letter_of p ms ≡ Some l → l.to ≡ n)
    → Mark S n e ms (delivered p from n)
delivered_mark S n p from e ms own session attempt out to = record {
  member = refl;
  attempt = attempt;
  calm = refl;
  had = told.tasks_of S n ms;
  comes = delivered_own S n p from e ms own session attempt out to;
  queued = λ d is. is;
  tasks = λ d. refl;
}

pub command_mark : (S : Setting) (n d e : ℕ) (q : PrCommand) (a : Answer) (ms : List Moment) → is_write q ≡ false → attempt_of n ms ≡ Some e → Mark S n e ms (Told (entry.Device (device_entry.Command n d q (answer_told a))))
command_mark S n d e q a ms plain attempt = record {
  member = refl;
  attempt = attempt;
  calm = refl;
  had = told.moved a (told.tasks_of S n ms);
  comes = command_own S n d e q a ms plain attempt;
  queued = λ k is. moved_queued a k (told.tasks_of S n ms) is;
  tasks = λ k. moved_has a k (told.tasks_of S n ms);
}

-- the coordinator seizes nothing there
pub idle_mark : (S : Setting) (n e : ℕ) (ms : List Moment) (mark : Moment) → Mark S n e ms mark → (acts_for n e (mark ∷ ms) && is_under_way e (mark ∷ ms) && told.all_promised e (mark ∷ ms)) ≡ false → gets_task S n ms mark ≡ false
idle_mark S n e ms mark m off =
    none_gets S n ms mark m.member (λ none d is. m.queued d (subst (λ ts. is_queued_at d ts ≡ true)
    (m.comes ∙ if_off (acts_for n e (mark ∷ ms) && is_under_way e (mark ∷ ms) && told.all_promised e (mark ∷ ms)) (told.own_tasks S n e (told.newest_in_hand e (mark ∷ ms)) (mark ∷ ms) m.had) m.had off) is))

-- or each device that has a task behind the line had one before it
pub same_mark : (S : Setting) (n e : ℕ) (ms : List Moment) (mark : Moment) → Mark S n e ms mark
    → (told.queue_is_open S n (mark ∷ ms) ≡ false → is_some (member_of n ms) ≡ false → (d : ℕ) → told.has_task d (told.tasks_of S n (mark ∷ ms)) ≡ true → told.has_task d (told.tasks_of S n ms) ≡ true) → gets_task S n ms mark ≡ false
same_mark S n e ms mark m f = by_open (told.queue_is_open S n (mark ∷ ms)) refl
  where
    after : List told.Task
    after = told.tasks_of S n (mark ∷ ms)

    by_fresh : (d : ℕ) → (told.has_task d after ≡ true → told.has_task d (told.tasks_of S n ms) ≡ true) → is_queued_at d after ≡ true → (is_queued_at d m.had ≡ true) ⊎ (told.has_task d m.had ≡ false) → is_queued_at d (told.tasks_of S n ms) ≡ true
    by_fresh d had is (inl old) = m.queued d old
    by_fresh d had is (inr none) = absurd (false_true (sym none ∙ (m.tasks d ∙ had (queued_has d after is))))

    by_open : (b : Bool) → told.queue_is_open S n (mark ∷ ms) ≡ b → gets_task S n ms mark ≡ false
    by_open true is = ap (λ b. not b && list_any (λ d. not (told.is_queued S n d ms)) (told.queue_of S n (mark ∷ ms))) is
    by_open false shut =
        none_gets S n ms mark m.member
        (λ none d is. by_fresh d (f shut none d) is ((with_own_adds S n (Some e) (mark ∷ ms) m.had).fresh d (subst (λ ts. is_queued_at d ts ≡ true) m.comes is)))

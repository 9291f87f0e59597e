-- Where the answer to its command leaves a coordinator nothing to seize, the line of the command leaves it no work.
use Rattle.std.specs.Prelude.{ℕ, ◌≡◌, ◌==◌, ◌&&◌, not, Bool, true, false, List, [], ◌∷◌, filter, Some, if◌then◌else◌}
use Rattle.std.specs.List.{list_any}
use Rattle.std.proofs.Common.{refl, sym, ap, subst, ◌∙◌}
use Rattle.cl_base.specs.declared.header.Header.{Header}
use Rattle.cmm_attempt.proofs.Basics.{false_true, if_either}
use Rattle.cmm_attempt.specs.Attempts.{AttemptState}
use Rattle.device_queue.specs.Queue.{after_answer}
use Rattle.device_queue.specs.Tasks.{answered, is_queued}
use Rattle.device_queue.specs.declared.task.Task.{Task}
use Rattle.history.specs.Member.{attempt_of, last_installed}
use Rattle.history.specs.Moment.{Moment}
use Rattle.history.specs.Order.{since}
use Rattle.history.specs.Queue as told
use Rattle.history.specs.Seizing.{acts_for, is_install}
use Rattle.history.specs.Setting.{Setting}
use Rattle.history.specs.Trace.{device}
use Rattle.history.specs.UnderWay.{is_under_way}
use Rattle.history.specs.Validated.{Lapsed, Valid, is_valid, moved_on, registers, validity}
use Rattle.node_model.specs.Devices.{answer_told}
use Rattle.node_model.specs.declared.node.UpNode.{UpNode}
use Rattle.pgr_device.specs.declared.command.PrAnswer.TheVariants as given
use Rattle.pgr_device.specs.declared.command.PrCommand.{PrCommand}
use Rattle.pgr_device.specs.declared.command.PrCommand.TheVariants as command
use Rattle.run_devices.proofs.queues.Acts.{line_of}
use Rattle.run_devices.proofs.queues.Tasks.{same_queue, same_taken}
use Rattle.run_devices.specs.queues.Laws.{Same, queued}
use Rattle.seize.specs.Answers.{Answer}
use Rattle.status_report.specs.declared.device_entry.DeviceAnswer.{DeviceAnswer}
use Rattle.status_report.specs.declared.device_entry.DeviceAnswer.TheVariants.{Given}
use Rattle.run_outcomes.proofs.stops.Complete.{AllAsked, NoneMore, none_begun}
use Rattle.run_outcomes.proofs.stops.Emptied.{told_emptied}
use Rattle.run_outcomes.proofs.stops.Queued.{line_tasks}
use Rattle.run_outcomes.proofs.stops.Starting.{idle_of}
use Rattle.run_outcomes.proofs.told_tasks.Added.{devices_of}
use Rattle.run_outcomes.proofs.told_tasks.Begun.{devices, same_devices}
use Rattle.run_outcomes.proofs.told_tasks.Owned.{own_devices}
use Rattle.run_outcomes.proofs.told_tasks.Points.{Shown_at}

-- ---- what is valid

-- the line of a command makes no device valid to a node that has moved on
pub none_valid : (h : Header) (n at d : ℕ) (k : PrCommand) (reply : DeviceAnswer) (ms : List Moment) → moved_on n ms ≡ true → is_valid (validity h n d (device n at k reply ∷ ms)) ≡ true → is_valid (validity h n d ms) ≡ true
none_valid h n at d (command.Ignore key) reply ms moved is = by_test ((n == n) && (at == d)) is
  where
    by_test : (b : Bool) → is_valid (if b then Lapsed else validity h n d ms) ≡ true → is_valid (validity h n d ms) ≡ true
    by_test true k = absurd (false_true k)
    by_test false k = k
none_valid h n at d command.Word (Given (given.Word w)) ms moved is =
    sym (ap (λ b. is_valid (if b then Valid else validity h n d ms)) (last_off ((n == n) && (at == d)) (last_installed n ms == w) (list_any (registers n d) (since (is_install n w) ms)) (moved_on n ms) moved)) ∙ is
  where
    last_off : (a b c m : Bool) → m ≡ true → (a && (b && c && not m)) ≡ false
    last_off true true true true k = refl
    last_off true true true false k = absurd (false_true k)
    last_off true true false m k = refl
    last_off true false c m k = refl
    last_off false b c m k = refl
none_valid h n at d _ _ ms moved is = is

-- ---- its tasks

answered_devices : (ts : List Task) (b : Answer) → devices (after_answer ts b) ≡ devices ts
answered_devices [] b = refl
answered_devices (t ∷ ts) b = if_either (λ us. devices us ≡ t.device ∷ devices ts) (is_queued t) (answered b t ∷ ts) (t ∷ after_answer ts b) refl (ap (λ ds. t.device ∷ ds) (answered_devices ts b))

-- what is so of the coordinator as its command comes
pub record Ends (S : Setting) (n : ℕ) (x : UpNode) (a : AttemptState) (b : Answer) (ms : List Moment) : Type 0 where
  pub shown : Shown_at S n a ms
  pub last : attempt_of n ms ≡ Some a.plan.epoch
  pub same : Same x.tasks (told.tasks_of S n ms)
  pub devices : devices x.tasks ≡ own_devices a.plan a.devices
  pub emptied : filter is_queued (after_answer x.tasks b) ≡ []
  pub asked : AllAsked a.plan a.promises shown.both a.devices
  pub moved : moved_on n ms ≡ true

pub end_line : (S : Setting) (n at : ℕ) (k : PrCommand) (b : Answer) (x : UpNode) (a : AttemptState) (ms : List Moment) → told.is_write k ≡ false → Ends S n x a b ms → told.has_work S n (line_of n at k b ∷ ms) ≡ false
end_line S n at k b x a ms off z = idle_of S n after (ap queued (line_tasks S n at k b ms off ∙ (ap (λ o. told.with_own S n o after us) z.last ∙ none_more)) ∙ emptied)
  where
    after : List Moment
    after = line_of n at k b ∷ ms

    us : List told.Task
    us = told.moved b (told.tasks_of S n ms)

    e : ℕ
    e = a.plan.epoch

    all : devices_of us ≡ own_devices a.plan a.devices
    all = sym (same_devices (after_answer x.tasks b) us (same_taken x.tasks (told.tasks_of S n ms) b z.same)) ∙ (answered_devices x.tasks b ∙ z.devices)

    emptied : queued us ≡ []
    emptied = told_emptied x.tasks (told.tasks_of S n ms) b (same_queue x.tasks (told.tasks_of S n ms) z.same) z.emptied

    valid : NoneMore S n ms after
    valid = λ d is. none_valid S.header n at d k (answer_told b) ms z.moved is

    own : told.own_tasks S n e (Some z.shown.newest) after us ≡ us
    own =
        subst (λ j. told.own_tasks S j e (Some z.shown.newest) after us ≡ us) z.shown.coordinates
        (none_begun S a.plan a.promises z.shown.both z.shown.newest ms after a.devices us z.shown.shows z.asked all (subst (λ j. NoneMore S j ms after) (sym z.shown.coordinates) valid))

    none_more : told.with_own S n (Some e) after us ≡ us
    none_more =
        if_either (λ ts. ts ≡ us) (acts_for n e after && is_under_way e after && told.all_promised e after) (told.own_tasks S n e (told.newest_in_hand e after) after us) us
        (ap (λ o. told.own_tasks S n e o after us) z.shown.found ∙ own) refl

-- What an answer makes of one task: less is left.
use Rattle.std.specs.Prelude.{is_some, ℕ, ◌+◌, ◌-◌, ◌*◌, ◌==◌, ◌&&◌, ◌||◌, ◌≡◌, ◌≤◌, ◌<◌, nat_lt, Bool, true, false, List, Option, None, Some, Ok, Err, if◌then◌else◌}
use Rattle.std.proofs.Common.{refl, sym, ◌∙◌, arith}
use Rattle.std.proofs.lemmas.Bool.{cond_both}
use Rattle.cl_base.specs.declared.seizing.SeizeEnd.TheVariants.{Contended, Expelled, Fault, Greater, Held, NotRegistered}
use Rattle.cmm_attempt.proofs.Basics.{false_true, none_some, same_some}
use Rattle.device_queue.specs.Tasks.{is_over_in, work_answered}
use Rattle.device_queue.specs.declared.task.Work.{Work}
use Rattle.device_queue.specs.declared.task.Work.TheVariants.{Joining, Seizing}
use Rattle.pgr_device.specs.declared.command.PrAnswer.TheVariants as answer
use Rattle.seize.specs.Answers.{Answer, is_conflict, is_good, keys_told, word_found, word_told}
use Rattle.seize.specs.Joining as joining
use Rattle.seize.specs.Keys.{first_stranger, has_key}
use Rattle.seize.specs.Seizing as seizing
use Rattle.seize.specs.Seizing.{SeizeState, checked, cleared, compared, confirmed, looked, next_step, own_key, swapped}
use Rattle.seize.specs.declared.kind.JoinResult.TheVariants as end
use Rattle.seize.specs.declared.step.JoinStep.{JoinStep}
use Rattle.seize.specs.declared.step.JoinStep.TheVariants as join
use Rattle.seize.specs.declared.step.SeizeStep.{SeizeStep}
use Rattle.seize.specs.declared.step.SeizeStep.TheVariants as step
use Rattle.run_lines.specs.few.Counts.{TellsWord, cost, joining_cost, seizing_cost, step_spare, work_spare}

-- so much is left at this step, and where it is not over, one command more may be done
abbrev Below : ℕ → ℕ → SeizeStep → Type 0
Below after left next = seizing_cost next + step_spare after next + 1 ≤ left

either : (after left : ℕ) (b : Bool) (x y : SeizeStep) → (b ≡ true → Below after left x) → (b ≡ false → Below after left y) → Below after left (if b then x else y)
either after left b x y one other = cond_both b x y (Below after left) one other

same_spare : (w after : ℕ) → w ≡ after → step_spare after (step.Swap w) ≡ 0
same_spare w after is = grind (arith, is)

-- a word that the device has
compared_below : (s : SeizeState) (after left : ℕ) (o : Option ℕ) → 132 ≤ left → ((w : ℕ) → o ≡ Some w → w ≡ after) → Below after left (compared s o)
compared_below s after left None high so = omega (arith, high)
compared_below s after left (Some w) high so =
    either after left (nat_lt w s.epoch) (step.Swap w) (if w == s.epoch then step.Reserve else step.Ended (Greater w))
    (λ e. swap (step_spare after (step.Swap w)) (same_spare w after (so w refl)))
    (λ e. either after left (w == s.epoch) step.Reserve (step.Ended (Greater w)) (λ f. omega (arith, high)) (λ f. omega (arith, high)))
  where
    swap : (k : ℕ) → k ≡ 0 → 131 + k + 1 ≤ left
    swap k is = omega (arith, high, is)

-- of what is read
word_so : (before after : ℕ) (a : Answer) (w : ℕ) → TellsWord before after a → word_told a ≡ Some w → w ≡ after
word_so before after (Ok (answer.Word v)) w tells is = sym (same_some v w is) ∙ tells
word_so before after (Ok answer.Good) w tells is = absurd (none_some w is)
word_so before after (Ok answer.Conflict) w tells is = absurd (none_some w is)
word_so before after (Ok answer.InvalidRelease) w tells is = absurd (none_some w is)
word_so before after (Ok answer.NoPath) w tells is = absurd (none_some w is)
word_so before after (Ok (answer.Keys keys)) w tells is = absurd (none_some w is)
word_so before after (Ok (answer.Holder h)) w tells is = absurd (none_some w is)
word_so before after (Ok (answer.Value v)) w tells is = absurd (none_some w is)
word_so before after (Ok (answer.Miscompare v)) w tells is = absurd (none_some w is)
word_so before after (Err e) w tells is = absurd (none_some w is)

-- of a swap that missed: the device has another word than was expected, and it is found
found_so : (before after expected : ℕ) (a : Answer) (w : ℕ) → TellsWord before after a → word_found expected a ≡ Some w → (w ≡ after) × (step_spare before (step.Swap expected) ≡ 1)
found_so before after expected (Ok (answer.Miscompare v)) w tells is = by_test (v == expected) refl is
  where
    misses : (v ≡ before) → (v == expected) ≡ false → step_spare before (step.Swap expected) ≡ 1
    misses at other = grind (arith, at, other)

    by_test : (b : Bool) → (v == expected) ≡ b → (if b then None else Some v) ≡ Some w → (w ≡ after) × (step_spare before (step.Swap expected) ≡ 1)
    by_test true e h = absurd (none_some w h)
    by_test false e h = (sym (same_some v w h) ∙ tells.1, misses tells.0 e)
found_so before after expected (Ok answer.Good) w tells is = absurd (none_some w is)
found_so before after expected (Ok answer.Conflict) w tells is = absurd (none_some w is)
found_so before after expected (Ok answer.InvalidRelease) w tells is = absurd (none_some w is)
found_so before after expected (Ok answer.NoPath) w tells is = absurd (none_some w is)
found_so before after expected (Ok (answer.Keys keys)) w tells is = absurd (none_some w is)
found_so before after expected (Ok (answer.Holder h)) w tells is = absurd (none_some w is)
found_so before after expected (Ok (answer.Value v)) w tells is = absurd (none_some w is)
found_so before after expected (Ok (answer.Word v)) w tells is = absurd (none_some w is)
found_so before after expected (Err e) w tells is = absurd (none_some w is)

-- ---- each step

cleared_below : (after reading : ℕ) (keys : List ℕ) (o : Option ℕ) → Below after (3 + 2 * (64 - reading) + 0) (cleared keys reading o)
cleared_below after reading keys None = omega arith
cleared_below after reading keys (Some key) =
    either after (3 + 2 * (64 - reading) + 0) (nat_lt reading 64) (step.Preempt key reading) (step.Ended (Contended key)) (λ e. fewer reading e) (λ e. omega arith)
  where
    fewer : (k : ℕ) → nat_lt k 64 ≡ true → 4 + 2 * (64 - (k + 1)) + 0 + 1 ≤ 3 + 2 * (64 - k) + 0
    fewer k e = omega (arith, less k e)
      where
        less : (k : ℕ) → nat_lt k 64 ≡ true → k < 64
        less k e = grind (arith, e)

-- less is left; and where the task is over then, two less
pub step_below : (s : SeizeState) (p : SeizeStep) (before after : ℕ) (a : Answer) → TellsWord before after a → (1 ≤ seizing_cost p) → Below after (seizing_cost p + step_spare before p) (next_step s p a)
step_below s step.Check before after a tells some = by_keys (keys_told a)
  where
    by_keys : (o : Option (List ℕ)) → Below after 133 (checked s o)
    by_keys None = omega arith
    by_keys (Some keys) = either after 133 (has_key (own_key s) keys && s.valid) step.ReadWord (step.Ended (NotRegistered keys)) (λ e. omega arith) (λ e. omega arith)
step_below s step.Register before after a tells some = either after 133 (is_good a) step.ReadWord (step.Ended Fault) (λ e. omega arith) (λ e. omega arith)
step_below s step.ReadWord before after a tells some = compared_below s after 132 (word_told a) (omega arith) (λ w is. word_so before after a w tells is)
step_below s (step.Swap expected) before after a tells some =
    either after (131 + step_spare before (step.Swap expected)) (is_good a) step.Reserve (if is_conflict a then step.Ended Expelled else compared s (word_found expected a)) (λ e. omega arith)
    (λ e. either after (131 + step_spare before (step.Swap expected)) (is_conflict a) (step.Ended Expelled) (compared s (word_found expected a)) (λ f. omega arith)
    (λ f. missed (word_found expected a) refl))
  where
    at_least : (k : ℕ) → k ≡ 1 → 132 ≤ 131 + k
    at_least k is = omega (arith, is)

    missed : (o : Option ℕ) → word_found expected a ≡ o → Below after (131 + step_spare before (step.Swap expected)) (compared s o)
    missed None is = omega arith
    missed (Some w) is =
        compared_below s after (131 + step_spare before (step.Swap expected)) (Some w) (at_least (step_spare before (step.Swap expected)) (found_so before after expected a w tells is).1)
        (λ v same. sym (same_some w v same) ∙ (found_so before after expected a w tells is).0)
step_below s step.Reserve before after a tells some = either after 130 (is_good a || is_conflict a) (step.ReadKeys 1) (step.Ended Fault) (λ e. omega arith) (λ e. omega arith)
step_below s (step.ReadKeys reading) before after a tells some = by_keys (keys_told a)
  where
    by_keys : (o : Option (List ℕ)) → Below after (3 + 2 * (64 - reading) + 0) (looked s reading o)
    by_keys None = omega arith
    by_keys (Some keys) =
        either after (3 + 2 * (64 - reading) + 0) (has_key (own_key s) keys) (cleared keys reading (first_stranger s.cluster s.members keys)) (step.Ended Expelled)
        (λ e. cleared_below after reading keys (first_stranger s.cluster s.members keys)) (λ e. omega arith)
step_below s (step.Preempt victim reading) before after a tells some =
    either after (4 + 2 * (64 - (reading + 1)) + 0) (is_good a || is_conflict a) (step.ReadKeys (reading + 1)) (step.Ended Fault) (λ e. omega arith) (λ e. omega arith)
step_below s (step.Confirm keys) before after a tells some = by_word (word_told a)
  where
    by_word : (o : Option ℕ) → Below after 2 (confirmed s keys o)
    by_word None = omega arith
    by_word (Some w) = either after 2 (w == s.epoch) (step.Ended (Held keys)) (step.Ended (Greater w)) (λ e. omega arith) (λ e. omega arith)
step_below s (step.Ended r) before after a tells some = absurd (none some)
  where
    none : 1 ≤ 0 → ⊥
    none h = omega (arith, h)

join_below : (j : joining.JoinState) (p : JoinStep) (a : Answer) → 1 ≤ joining_cost p → joining_cost (joining.next_step j p a) + 0 + 1 ≤ joining_cost p + 0
join_below j join.Register a some = cond_both (is_good a) join.ReadWord (join.Ended end.Fault) (λ q. joining_cost q + 0 + 1 ≤ 3 + 0) (λ e. omega arith) (λ e. omega arith)
join_below j join.ReadWord a some = omega arith
join_below j (join.Ended r) a some = absurd (none some)
  where
    none : 1 ≤ 0 → ⊥
    none h = omega (arith, h)

pub work_below : (w : Work) (before after : ℕ) (a : Answer) → TellsWord before after a → 1 ≤ cost w → cost (work_answered a w) + work_spare after (work_answered a w) + 1 ≤ cost w + work_spare before w
work_below (Seizing s) before after a tells some = step_below s s.step before after a tells some
work_below (Joining j) before after a tells some = join_below j j.step a some

-- ---- what is left of a task that is queued, and at most

pub queued_cost : (w : Work) → is_over_in w ≡ false → 2 ≤ cost w
queued_cost (Seizing s) going = by_step s.step going
  where
    by_step : (p : SeizeStep) → is_some (seizing.result_at p) ≡ false → 2 ≤ seizing_cost p
    by_step step.Check h = omega arith
    by_step step.Register h = omega arith
    by_step step.ReadWord h = omega arith
    by_step (step.Swap w) h = omega arith
    by_step step.Reserve h = omega arith
    by_step (step.ReadKeys k) h = omega arith
    by_step (step.Preempt v k) h = omega arith
    by_step (step.Confirm keys) h = omega arith
    by_step (step.Ended r) h = absurd (false_true (sym h))
queued_cost (Joining j) going = by_step j.step going
  where
    by_step : (p : JoinStep) → is_some (joining.result_at p) ≡ false → 2 ≤ joining_cost p
    by_step join.Register h = omega arith
    by_step join.ReadWord h = omega arith
    by_step (join.Ended r) h = absurd (false_true (sym h))

pub over_cost : (w : Work) → is_over_in w ≡ true → cost w ≡ 0
over_cost (Seizing s) is = by_step s.step is
  where
    by_step : (p : SeizeStep) → is_some (seizing.result_at p) ≡ true → seizing_cost p ≡ 0
    by_step (step.Ended r) h = refl
    by_step _ h = absurd (false_true h)
over_cost (Joining j) is = by_step j.step is
  where
    by_step : (p : JoinStep) → is_some (joining.result_at p) ≡ true → joining_cost p ≡ 0
    by_step (join.Ended r) h = refl
    by_step _ h = absurd (false_true h)

pub seizing_most : (p : SeizeStep) → seizing_cost p ≤ 133
seizing_most step.Check = omega arith
seizing_most step.Register = omega arith
seizing_most step.ReadWord = omega arith
seizing_most (step.Swap w) = omega arith
seizing_most step.Reserve = omega arith
seizing_most (step.ReadKeys k) = omega arith
seizing_most (step.Preempt v k) = omega arith
seizing_most (step.Confirm keys) = omega arith
seizing_most (step.Ended r) = omega arith

pub joining_most : (p : JoinStep) → joining_cost p ≤ 3
joining_most join.Register = omega arith
joining_most join.ReadWord = omega arith
joining_most (join.Ended r) = omega arith

pub spare_most : (word : ℕ) (w : Work) → work_spare word w ≤ 1
spare_most word (Joining j) = omega arith
spare_most word (Seizing s) = by_step s.step
  where
    by_step : (p : SeizeStep) → step_spare word p ≤ 1
    by_step (step.Swap e) = cond_both (word == e) 0 1 (λ k. k ≤ 1) (λ h. omega arith) (λ h. omega arith)
    by_step _ = omega arith

-- How much is left of all tasks at most.
use Rattle.std.specs.Prelude.{ℕ, ◌+◌, ◌*◌, ◌≡◌, ◌≢◌, ◌≤◌, ◌==◌, ◌&&◌, not, Bool, true, false, List, Option, None, Some, if◌then◌else◌}
use Rattle.std.proofs.Common.{refl, sym, arith}
use Rattle.std.proofs.lemmas.Bool.{cond_both}
use Rattle.cl_base.specs.Limits.{most_devices}
use Rattle.cmm_attempt.proofs.Basics.{false_true}
use Rattle.device_queue.proofs.Steps.{passes}
use Rattle.device_queue.specs.Queue.{first_of, join_of, seizure_of}
use Rattle.device_queue.specs.Tasks.{is_join_of, is_joining}
use Rattle.device_queue.specs.declared.task.Task.{Task}
use Rattle.device_queue.specs.declared.task.Work.{Work}
use Rattle.device_queue.specs.declared.task.Work.TheVariants.{Joining, Seizing}
use Rattle.run_lines.specs.few.Counts.{cost, cost_or, left_at, left_in, most_left, spare, total}
use Rattle.run_lines.proofs.few.Costs.{joining_most, seizing_most, spare_most}
use Rattle.run_lines.proofs.few.Totals.{total_at_most}

-- ---- tests

and_true : (a b : Bool) → (a && b) ≡ true → (a ≡ true) × (b ≡ true)
and_true true b e = (refl, e)
and_true false b e = absurd (false_true e)

pub and_false : (b : Bool) → (b && false) ≡ false
and_false true = refl
and_false false = refl

pub is_same : (a : ℕ) → (a == a) ≡ true
is_same a = grind arith

pub not_same : (a b : ℕ) → b ≢ a → (a == b) ≡ false
not_same a b other = grind (arith, other)

pub not_queued : (b : Bool) → not b ≡ true → b ≡ false
not_queued false e = refl
not_queued true e = absurd (false_true e)

pub is_over_so : (b : Bool) → not b ≡ false → b ≡ true
is_over_so true e = refl
is_over_so false e = absurd (false_true (sym e))

-- ---- at most

pub work_most : (w : Work) → cost w ≤ 133
work_most (Seizing s) = seizing_most s.step
work_most (Joining j) = more (joining_most j.step)
  where
    more : {n : ℕ} → n ≤ 3 → n ≤ 133
    more h = omega (arith, h)

seizure_most : (more : Bool) (o : Option Task) → cost_or (if more then 133 else 0) o ≤ 133
seizure_most true None = omega arith
seizure_most false None = omega arith
seizure_most more (Some t) = work_most t.work

joining_cost_most : (w : Work) → is_joining w ≡ true → cost w ≤ 3
joining_cost_most (Joining j) is = joining_most j.step
joining_cost_most (Seizing s) is = absurd (false_true is)

pub join_most : (ts : List Task) (d : ℕ) (o : Option Task) → join_of ts d ≡ o → cost_or 0 o ≤ 3
join_most ts d None is = omega arith
join_most ts d (Some t) is = joining_cost_most t.work (and_true (t.device == d) (is_joining t.work) (passes (is_join_of d) ts t is)).1

at_most : (more : Bool) (ts : List Task) (d : ℕ) → left_at more ts d ≤ 139
at_most more ts d =
    add (cost_or (if more then 133 else 0) (seizure_of ts d)) (cost_or 0 (join_of ts d)) (if more then 3 else 0) (seizure_most more (seizure_of ts d)) (join_most ts d (join_of ts d) refl)
    (cond_both more 3 0 (λ k. k ≤ 3) (λ e. omega arith) (λ e. omega arith))
  where
    add : (a b c : ℕ) → a ≤ 133 → b ≤ 3 → c ≤ 3 → a + b + c ≤ 139
    add a b c h k l = omega (arith, h, k, l)

pub spare_any : (word : ℕ → ℕ) (o : Option Task) → spare word o ≤ 1
spare_any word None = omega arith
spare_any word (Some t) = spare_most (word t.device) t.work

pub left_most : (word : ℕ → ℕ) (more : Bool) (ts : List Task) → left_in word more ts ≤ most_left
left_most word more ts = add (total most_devices (left_at more ts)) (spare word (first_of ts)) (total_at_most most_devices 139 (left_at more ts) (λ d. at_most more ts d)) (spare_any word (first_of ts))
  where
    add : (a b : ℕ) → a ≤ 16 * 139 → b ≤ 1 → a + b ≤ 2225
    add a b h k = omega (arith, h, k)

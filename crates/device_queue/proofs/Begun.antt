-- How many tasks of a kind were begun at a device: one where there is one, else none.
use Rattle.std.proofs.Common.{◌≡◌, ℕ, ◌+◌, ◌≤◌, ◌==◌, ◌&&◌, Bool, true, false, cond, List, [], ◌∷◌, Option, Some, None, is_none, is_some, find, refl, ap, arith}
use Rattle.std.proofs.lemmas.Bool.{eqb-true, and_right}
use Rattle.device_queue.specs.declared.task.Task.{Task}
use Rattle.device_queue.specs.declared.task.Work.TheVariants.{Seizing, Joining}
use Rattle.device_queue.specs.Tasks.{is_join_of, is_seizure_of}
use Rattle.device_queue.specs.Queue.{join_of, put_unless, seizure_of}
use Rattle.device_queue.specs.Calls.{Call, Seize, Join, Take, after_call, begins_joining, begins_seizing, joinings_begun, left_by, seizings_begun}
use Rattle.device_queue.specs.Laws.{OneJoining, OneSeizing}
use Rattle.device_queue.proofs.Kept.{same_join, same_seizure}
use Rattle.device_queue.proofs.Steps.{put_found, put_other, some_stays}

abbrev count : Bool → ℕ
count b = cond b 1 0

-- one more where it is the first
more : (n : ℕ) (o : Option Task) → n ≡ count (is_some o) → n + count (is_none o) ≡ 1
more n None e = omega arith
more n (Some t) e = omega arith

-- a task that is put where there is none of its kind
puts : (p : Task → Bool) (ts : List Task) (x : Task) (n : ℕ) (own : Bool) → p x ≡ own → n ≡ count (is_some (find p ts)) → (o : Option Task) → (own ≡ true → o ≡ find p ts)
    → n + count (own && is_none (find p ts)) ≡ count (is_some (find p (put_unless o x ts)))
puts p ts x n true is e o same = rw (same refl, put_found p x ts is) (more n (find p ts) e)
puts p ts x n false is e o same = rw (put_other p o x ts is) (omega (arith, e))

and_true : (b : Bool) → (b && true) ≡ b
and_true true = refl
and_true false = refl

seizing_step : (d n : ℕ) (ts : List Task) (c : Call) → n ≡ count (is_some (seizure_of ts d)) → n + count (begins_seizing d ts c) ≡ count (is_some (seizure_of (after_call ts c) d))
seizing_step d n ts (Seize e s) is =
    puts (is_seizure_of d) ts (record { device = e; work = Seizing s }) n (e == d) (and_true (e == d)) is (seizure_of ts e) (λ own. ap (seizure_of ts) (eqb-true e d own))
seizing_step d n ts (Join e j) is =
    rw (put_other (is_seizure_of d) (join_of ts e) (record { device = e; work = Joining j }) ts (and_right (e == d) false refl)) (omega (arith, is))
seizing_step d n ts (Take a) is = rw (some_stays (is_seizure_of d) a (same_seizure d a) ts) (omega (arith, is))

joining_step : (d n : ℕ) (ts : List Task) (c : Call) → n ≡ count (is_some (join_of ts d)) → n + count (begins_joining d ts c) ≡ count (is_some (join_of (after_call ts c) d))
joining_step d n ts (Seize e s) is =
    rw (put_other (is_join_of d) (seizure_of ts e) (record { device = e; work = Seizing s }) ts (and_right (e == d) false refl)) (omega (arith, is))
joining_step d n ts (Join e j) is =
    puts (is_join_of d) ts (record { device = e; work = Joining j }) n (e == d) (and_true (e == d)) is (join_of ts e) (λ own. ap (join_of ts) (eqb-true e d own))
joining_step d n ts (Take a) is = rw (some_stays (is_join_of d) a (same_join d a) ts) (omega (arith, is))

seizings : (d : ℕ) (calls : List Call) → seizings_begun d calls ≡ count (is_some (seizure_of (left_by calls) d))
seizings d [] = refl
seizings d (c ∷ earlier) = seizing_step d (seizings_begun d earlier) (left_by earlier) c (seizings d earlier)

joinings : (d : ℕ) (calls : List Call) → joinings_begun d calls ≡ count (is_some (join_of (left_by calls) d))
joinings d [] = refl
joinings d (c ∷ earlier) = joining_step d (joinings_begun d earlier) (left_by earlier) c (joinings d earlier)

at_most_one : (b : Bool) → count b ≤ 1
at_most_one true = omega arith
at_most_one false = omega arith

pub one_seizing : OneSeizing
one_seizing calls d = rw (seizings d calls) (at_most_one (is_some (seizure_of (left_by calls) d)))

pub one_joining : OneJoining
one_joining calls d = rw (joinings d calls) (at_most_one (is_some (join_of (left_by calls) d)))

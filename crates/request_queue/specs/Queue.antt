-- The requests of a node that wait for their answers, oldest first.
use Rattle.std.specs.Prelude.{ℕ, ◌+◌, ◌-◌, ◌^◌, ◌==◌, nat_le, min, Bool, true, false, List, [], ◌∷◌, ◌++◌, length, Option, None, Some, if◌then◌else◌}
use Rattle.request_queue.specs.declared.request.Request.{Request}

-- the number of the last request since the node's boot; the requests; and how many ticks ago the oldest was sent last
pub record Queue : Type 0 where
  pub asked : ℕ
  pub waiting : List Request
  pub age : ℕ

-- so many requests wait at most
abbrev pub most_requests : ℕ
most_requests = 64

-- the oldest goes again at this tick after it was sent
abbrev pub again_at : ℕ
again_at = 4

-- at a boot nothing was asked
abbrev pub nothing_asked : Queue
nothing_asked = record { asked = 0; waiting = []; age = 0 }

abbrev pub is_full : Queue → Bool
is_full q = nat_le most_requests (length q.waiting)

-- one more number; a count that would pass 2^64 - 1 stays there
abbrev pub next_number : Queue → ℕ
next_number q = min (q.asked + 1) (2 ^ 64 - 1)

abbrev pub with_number : Queue → Queue
with_number q = record q { asked = next_number q }

abbrev pub oldest_in : List Request → Option Request
oldest_in [] = None
oldest_in (r ∷ rs) = Some r

abbrev pub oldest : Queue → Option Request
oldest q = oldest_in q.waiting

-- one that waits alone is sent in the same event
abbrev pub age_with : List Request → ℕ → ℕ
age_with [] age = 0
age_with (r ∷ rs) age = age

abbrev pub with_request : Queue → Request → Queue
with_request q r = record q { waiting = q.waiting ++ r ∷ []; age = age_with q.waiting q.age }

-- whether the oldest goes again at this tick, which is the fourth after it was sent
abbrev pub is_due : List Request → ℕ → Bool
is_due [] age = false
is_due (r ∷ rs) age = nat_le again_at (age + 1)

abbrev pub age_after : List Request → ℕ → ℕ
age_after [] age = 0
age_after (r ∷ rs) age = if nat_le again_at (age + 1) then 0 else age + 1

abbrev pub goes_again : Queue → Bool
goes_again q = is_due q.waiting q.age

abbrev pub ticked : Queue → Queue
ticked q = record q { age = age_after q.waiting q.age }

-- An answer is the oldest's, or nobody's. The next one is sent in the same event.
abbrev pub found : List Request → ℕ → Option Request
found [] number = None
found (r ∷ rs) number = if r.number == number then Some r else None

abbrev pub left_of : Queue → List Request → ℕ → Queue
left_of q [] number = q
left_of q (r ∷ rs) number = if r.number == number then record q { waiting = rs; age = 0 } else q

abbrev pub answered : Queue → ℕ → Queue
answered q number = left_of q q.waiting number

-- the membership ends: nothing waits any more, and the numbers go on
abbrev pub ended : Queue → Queue
ended q = record q { waiting = []; age = 0 }

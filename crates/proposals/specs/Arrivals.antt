-- A request comes, and is answered.
use Rattle.std.specs.Prelude.{ℕ, ◌-◌, ◌==◌, nat_lt, Bool, true, false, List, [], ◌∷◌, ◌++◌, Option, None, Some, slice_set, if◌then◌else◌}
use Rattle.std.specs.List.{list_any}
use Rattle.proposals.specs.declared.arrived.Arrival.{Arrival}
use Rattle.proposals.specs.declared.arrived.Arrival.TheVariants.{New, Waits, Answered, Past}
use Rattle.proposals.specs.declared.arrived.Arrived.{Arrived}
use Rattle.proposals.specs.declared.arrived.Kept.{Kept}
use Rattle.proposals.specs.State.{State, kept_at}

abbrev pub is_from : ℕ → Arrived → Bool
is_from n a = a.from == n

abbrev pub waits_or_is_new : Bool → Arrival
waits_or_is_new true = Waits
waits_or_is_new false = New

-- by the last answer to its node: a node's requests rise, each is handled once, and one of a node waits at most
abbrev pub after_kept : Option Kept → ℕ → Bool → Arrival
after_kept None number waits = waits_or_is_new waits
after_kept (Some k) number waits = if nat_lt number k.number then Past else (if number == k.number then Answered else waits_or_is_new waits)

abbrev pub arrival_of : State → ℕ → ℕ → Arrival
arrival_of s n number = after_kept (kept_at s.answers n) number (list_any (is_from n) s.arrived)

-- one that is new waits behind the others
abbrev pub with_arrival : State → Arrived → Arrival → State
with_arrival s a New = record s { arrived = s.arrived ++ a ∷ [] }
with_arrival s a Waits = s
with_arrival s a Answered = s
with_arrival s a Past = s

-- The first is answered so: nothing is proposed for it any more, and its answer is kept in place of its node's last.
abbrev pub answer_first : State → List Arrived → List ℕ → State
answer_first s [] text = s
answer_first s (a ∷ rest) text = record s { arrived = rest; proposed = None; age = 0; answers = slice_set s.answers (a.from - 1) (Some (record { number = a.number; text = text })) }

abbrev pub answered : State → List ℕ → State
answered s text = answer_first s s.arrived text

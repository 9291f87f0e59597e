-- Orders of a membership and what tells of them: which Order a node carries out, and what its Done says.
use Rattle.std.specs.Prelude.{ℕ, ◌==◌, ◌&&◌, ◌||◌, not, Bool, false, if◌then◌else◌, List, [], ◌∷◌, Option, Some, None}
use Rattle.std.specs.List.{list_any}
use Rattle.std.specs.Option.{option_and_then}
use Rattle.cl_base.specs.declared.method.Outcome.{Outcome}
use Rattle.wire.specs.declared.message.Body.{Body}
use Rattle.wire.specs.declared.message.Body.TheVariants as body
use Rattle.wire.specs.declared.message.Order.{Order}
use Rattle.history.specs.Moment.{Moment}
use Rattle.history.specs.Names as name
use Rattle.history.specs.Trace.{sent}
use Rattle.history.specs.Order.{since, before_last}
use Rattle.history.specs.Setting.{coordinator}
use Rattle.history.specs.Letters.{Letter, arriving, arrived, reached, reached_since, is_letter, sends, says}
use Rattle.history.specs.Member.{member_of}
use Rattle.history.specs.Seizing.{is_number, is_start}
use Rattle.group_history.specs.Doings.{is_call_of, is_joining}

abbrev pub order_in : Option Body → Option Order
order_in (Some (body.Order o)) = Some o
order_in _ = None

-- whether the letter was sent by a member of e
abbrev pub is_sent_in : ℕ → Letter → Bool
is_sent_in e l = is_number e (member_of l.from l.before)

-- the letter, where the president of e sent it to n as such
abbrev pub from_president : ℕ → ℕ → Letter → Option Letter
from_president e n l = if (l.from == coordinator e) && (l.to == n) && is_sent_in e l then Some l else None

-- the letter of the president of e that came to n in the event under way
abbrev pub letter_for : ℕ → ℕ → List Moment → Option Letter
letter_for e n before = option_and_then (from_president e n) (arrived before)

abbrev pub order_of_letter : Letter → Option Order
order_of_letter l = order_in (says l.bytes)

-- the order of e that came to n in the event under way
abbrev pub order_for : ℕ → ℕ → List Moment → Option Order
order_for e n before = option_and_then order_of_letter (letter_for e n before)

abbrev pub is_order_numbered : ℕ → Option Order → Bool
is_order_numbered k None = false
is_order_numbered k (Some o) = o.number == k

-- ---- what a Done tells

-- n as a member of e sends its president the Done of order k
abbrev pub is_done_letter : ℕ → ℕ → ℕ → Letter → Bool
is_done_letter e n k l = is_letter (name.Done k) n (coordinator e) l && is_sent_in e l

-- since the last call of n in e a Done of its order was sent and has come
abbrev pub is_told : ℕ → ℕ → Option Order → List Moment → Bool
is_told e n None later = false
is_told e n (Some o) later = reached (is_letter (name.Done o.number) n (coordinator e)) later

-- the last call of n in e is over, and its president was told so; or there was none
abbrev pub has_told : ℕ → ℕ → List Moment → Bool
has_told e n before =
    not (list_any (is_call_of e n) before) || is_told e n (order_for e n (before_last (is_call_of e n) before)) (since (is_call_of e n) before)

abbrev pub outcome_in : Option Body → Option Outcome
outcome_in (Some (body.Done epoch number outcome)) = Some outcome
outcome_in _ = None

-- ---- the president's side

-- the order of number k that the president of e sent to n
abbrev pub order_sent : ℕ → ℕ → ℕ → List Moment → Option Order
order_sent e n k [] = None
order_sent e n k (sent p a b called bytes ∷ before) =
    if sends (coordinator e) n (name.Order k) (sent p a b called bytes) then order_in (says bytes) else order_sent e n k before
order_sent e n k (x ∷ before) = if is_joining (coordinator e) x then None else order_sent e n k before

-- its Done has come
abbrev pub is_answered : ℕ → ℕ → ℕ → List Moment → Bool
is_answered e n k before = reached_since (is_start e) (is_done_letter e n k) before

abbrev pub number_of : name.Name → Option ℕ
number_of (name.Done k) = Some k
number_of _ = None

-- an order that ended, on a node, and how
pub record Ended : Type 0 where
  pub node : ℕ
  pub order : Order
  pub outcome : Outcome

abbrev pub ended_so : ℕ → Option Order → Option Outcome → Option Ended
ended_so n (Some o) (Some outcome) = Some (record { node = n; order = o; outcome = outcome })
ended_so n _ _ = None

abbrev pub ended_with : ℕ → Letter → List Moment → Option ℕ → Option Ended
ended_with e l before None = None
ended_with e l before (Some k) =
    if is_done_letter e l.from k l && not (is_answered e l.from k before)
    then ended_so l.from (order_sent e l.from k before) (outcome_in (says l.bytes))
    else None

-- the order of e that the president learns to be over as this moment comes: the first Done of it is delivered
abbrev pub learned : ℕ → List Moment → Moment → Option Ended
learned e before x = option_and_then (λ (l : Letter). ended_with e l before (number_of l.name)) (arriving before x)

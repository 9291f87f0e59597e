-- Once: each order is carried out at most once in its membership, also where it is repeated or comes late; and its Done tells how it ended.
use Rattle.std.specs.Prelude.{◌≡◌, ℕ, ◌==◌, ◌&&◌, ◌||◌, Bool, false, if◌then◌else◌, List, [], ◌∷◌, Option, Some, None, IfSome}
use Rattle.std.specs.Option.{option_and_then}
use Rattle.cl_base.specs.declared.method.Outcome.{Outcome}
use Rattle.cl_base.specs.declared.method.Outcome.TheVariants.{Success}
use Rattle.history.specs.Moment.{Moment}
use Rattle.history.specs.Names as name
use Rattle.history.specs.Names.{Name, named}
use Rattle.history.specs.Trace.{sent, delivered, member}
use Rattle.history.specs.Order.{Always}
use Rattle.history.specs.Letters.{says}
use Rattle.history.specs.Member.{member_of}
use Rattle.group_history.specs.Doings.{called, done}
use Rattle.group_history.specs.Orders.{order_for, is_order_numbered, outcome_in}
use Rattle.group_history.specs.Clears.{clear_at}

-- n called by the order of number k in e
abbrev pub has_called : ℕ → ℕ → ℕ → List Moment → Bool
has_called e n k [] = false
has_called e n k (called f m method r ∷ before) = ((f == e) && (m == n) && is_order_numbered k (order_for e n before)) || has_called e n k before
has_called e n k (_ ∷ before) = has_called e n k before

-- the calls of a president are by no message, so that no number is told
abbrev pub IsFirst : List Moment → Moment → Type 0
IsFirst before (called e n method r) = IfSome (order_for e n before) (λ o. has_called e n o.number before ≡ false)
IsFirst before _ = Unit {0}

abbrev pub Once : List Moment → Type 0
Once moments = Always IsFirst moments

-- ---- what a Done says

-- how the order of number k ended on n in e; a clear succeeds
abbrev pub outcome_of : ℕ → ℕ → ℕ → List Moment → Option Outcome
outcome_of e n k [] = None
outcome_of e n k (member m f ∷ before) = if (m == n) && (f == e) then None else outcome_of e n k before
outcome_of e n k (done f m method r outcome ∷ before) =
    if (f == e) && (m == n) && is_order_numbered k (order_for e n before) then Some outcome else outcome_of e n k before
outcome_of e n k (delivered p a b ∷ before) =
    if is_order_numbered k (clear_at n before (delivered p a b)) then Some Success else outcome_of e n k before
outcome_of e n k (_ ∷ before) = outcome_of e n k before

abbrev pub ShowsOutcome : List Moment → ℕ → List ℕ → Name → Type 0
ShowsOutcome before n bytes (name.Done k) = option_and_then (λ e. outcome_of e n k before) (member_of n before) ≡ outcome_in (says bytes)
ShowsOutcome before n bytes _ = Unit {0}

abbrev pub IsDone : List Moment → Moment → Type 0
IsDone before (sent p n b message bytes) = ShowsOutcome before n bytes (named message)
IsDone before _ = Unit {0}

abbrev pub DonesTell : List Moment → Type 0
DonesTell moments = Always IsDone moments

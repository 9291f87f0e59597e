-- The starts of memberships in a trace. A start has the lines `start e .. base K`, and right after it K lines `base e V ..` with V from 1
-- to K; it is complete with the last of them.
use Rattle.std.specs.Prelude.{◌≡◌, ℕ, ◌+◌, ◌==◌, nat_lt, Bool, if◌then◌else◌, List, [], ◌∷◌, ◌++◌, length, Option, Some, None, IfSome}
use Rattle.std.specs.List.{list_any, find}
use Rattle.std.specs.Option.{option_and_then}
use Rattle.history.specs.Moment.{Moment}
use Rattle.history.specs.Trace.{start, base}
use Rattle.history.specs.Order.{Always}

-- a `start` line
pub record Start : Type 0 where
  pub epoch : ℕ
  pub members : ℕ
  pub held : ℕ
  pub count : ℕ

-- the starts, newest first
abbrev pub starts : List Moment → List Start
starts [] = []
starts (start e members held count ∷ before) = record { epoch = e; members = members; held = held; count = count } ∷ starts before
starts (_ ∷ before) = starts before

abbrev pub start_of : ℕ → List Moment → Option Start
start_of e moments = find (λ s. s.epoch == e) (starts moments)

abbrev pub is_started : ℕ → List Moment → Bool
is_started e moments = list_any (λ s. s.epoch == e) (starts moments)

abbrev pub members_in : Option Start → ℕ
members_in None = 0
members_in (Some s) = s.members

-- ---- the lines of a start

-- the start whose lines stand last
abbrev pub start_so_far : List Moment → Option Start
start_so_far [] = None
start_so_far (start e members held count ∷ before) = Some (record { epoch = e; members = members; held = held; count = count })
start_so_far (base e v words ∷ before) = start_so_far before
start_so_far (_ ∷ before) = None

-- the updates of the `base` lines that stand last, in order
abbrev pub base_so_far : List Moment → List (List ℕ)
base_so_far [] = []
base_so_far (base e v words ∷ before) = base_so_far before ++ words ∷ []
base_so_far (_ ∷ before) = []

-- epoch and place of the `base` line that is to come next
abbrev pub base_due : List Moment → Option (ℕ × ℕ)
base_due moments =
    option_and_then (λ (s : Start). if nat_lt (length (base_so_far moments)) s.count then Some (s.epoch, length (base_so_far moments) + 1) else None) (start_so_far moments)

abbrev pub base_line : Moment → Option (ℕ × ℕ)
base_line (base e v words) = Some (e, v)
base_line _ = None

abbrev pub StartLines : List Moment → Type 0
StartLines moments = Always (λ before x. base_line x ≡ base_due before) moments

-- the start of which the newest moment is the last line
abbrev pub completed : List Moment → Option Start
completed moments = option_and_then (λ (s : Start). if length (base_so_far moments) == s.count then Some s else None) (start_so_far moments)

-- P holds of each start and its base, where it is complete, with the moments up to there.
abbrev pub EachStart : (List Moment → Start → List (List ℕ) → Type 0) → List Moment → Type 0
EachStart P moments = Always (λ before x. IfSome (completed (x ∷ before)) (λ s. P (x ∷ before) s (base_so_far (x ∷ before)))) moments

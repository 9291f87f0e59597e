-- What is done in memberships, newest first: a membership starts, with its base; an update is proposed; an update is acknowledged. A start
-- is a deed once its last `base` line stands.
use Rattle.std.specs.Prelude.{ℕ, ◌==◌, Bool, if◌then◌else◌, List, [], ◌∷◌, ◌++◌, Option, Some, None}
use Rattle.std.specs.List.{list_any}
use Rattle.history.specs.Moment.{Moment}
use Rattle.history.specs.Trace.{start, base, propose, ack}
use Rattle.history.specs.Starts.{Start, base_so_far, completed}

-- a `propose` or an `ack` line
pub record Update : Type 0 where
  pub epoch : ℕ
  pub place : ℕ
  pub words : List ℕ

pub data Deed : Type 0 where
  Started : (s : Start) (updates : List (List ℕ)) → Deed
  Proposed : (u : Update) → Deed
  Acked : (u : Update) → Deed

abbrev pub once_complete : Option Start → List (List ℕ) → List Deed → List Deed
once_complete None updates before = before
once_complete (Some s) updates before = Started s updates ∷ before

abbrev pub deeds : List Moment → List Deed
deeds [] = []
deeds (start e members held count ∷ before) = once_complete (completed (start e members held count ∷ before)) [] (deeds before)
deeds (base e v words ∷ before) = once_complete (completed (base e v words ∷ before)) (base_so_far (base e v words ∷ before)) (deeds before)
deeds (propose e v words ∷ before) = Proposed (record { epoch = e; place = v; words = words }) ∷ deeds before
deeds (ack e v words ∷ before) = Acked (record { epoch = e; place = v; words = words }) ∷ deeds before
deeds (_ ∷ before) = deeds before

-- P holds whenever a deed has come.
abbrev pub OfEach : (List Deed → Type 0) → List Deed → Type 0
OfEach P [] = Unit {0}
OfEach P (d ∷ before) = P (d ∷ before) × OfEach P before

-- ---- memberships

-- the numbers that started, newest first
abbrev pub start_numbers : List Deed → List ℕ
start_numbers [] = []
start_numbers (Started s updates ∷ before) = s.epoch ∷ start_numbers before
start_numbers (Proposed u ∷ before) = start_numbers before
start_numbers (Acked u ∷ before) = start_numbers before

abbrev pub has_started : ℕ → List Deed → Bool
has_started e deeds = list_any (λ f. f == e) (start_numbers deeds)

-- the updates of the base of e, in order
abbrev pub base_in : ℕ → List Deed → List (List ℕ)
base_in e [] = []
base_in e (Started s updates ∷ before) = if s.epoch == e then updates else base_in e before
base_in e (Proposed u ∷ before) = base_in e before
base_in e (Acked u ∷ before) = base_in e before

-- ---- updates

abbrev pub proposals : List Deed → List Update
proposals [] = []
proposals (Started s updates ∷ before) = proposals before
proposals (Proposed u ∷ before) = u ∷ proposals before
proposals (Acked u ∷ before) = proposals before

abbrev pub acks : List Deed → List Update
acks [] = []
acks (Started s updates ∷ before) = acks before
acks (Proposed u ∷ before) = acks before
acks (Acked u ∷ before) = u ∷ acks before

-- the words of those of e among these updates, the oldest first
abbrev pub words_in : ℕ → List Update → List (List ℕ)
words_in e [] = []
words_in e (u ∷ older) = words_in e older ++ (if u.epoch == e then u.words ∷ [] else [])

abbrev pub proposed_in : ℕ → List Deed → List (List ℕ)
proposed_in e deeds = words_in e (proposals deeds)

abbrev pub acked_in : ℕ → List Deed → List (List ℕ)
acked_in e deeds = words_in e (acks deeds)

-- Configuration: the updates in force in e are its base, and then those that are acknowledged in it.
abbrev pub in_force : ℕ → List Deed → List (List ℕ)
in_force e deeds = base_in e deeds ++ acked_in e deeds

-- What a president has in hand: which requests are past, and how that changes.
use Rattle.std.specs.Prelude.{ℕ, ◌≡◌, ◌≤◌, ◌⊎◌, ◌==◌, ◌&&◌, ◌||◌, nat_le, Bool, false, List, [], ◌∷◌, length, Option, None, Some, is_some}
use Rattle.std.specs.List.{AllByRecursion, list_any}
use Rattle.proposals.specs.Arrivals.{answered, arrival_of, is_from, with_arrival}
use Rattle.proposals.specs.State.{State, first_in, kept_at}
use Rattle.proposals.specs.declared.arrived.Arrival.TheVariants.{New}
use Rattle.proposals.specs.declared.arrived.Arrived.{Arrived}
use Rattle.proposals.specs.declared.arrived.Kept.{Kept}

-- the last number that was answered is no less
abbrev pub is_reached : Option Kept → ℕ → Bool
is_reached None q = false
is_reached (Some k) q = nat_le q k.number

-- it is the first, and an update is proposed for it
abbrev pub is_taken : Bool → Option Arrived → ℕ → ℕ → Bool
is_taken proposed None n q = false
is_taken proposed (Some a) n q = proposed && ((a.from == n) && (a.number == q))

-- the request is answered, or an update was proposed for it
abbrev pub is_past : State → ℕ → ℕ → Bool
is_past s n q = is_reached (kept_at s.answers n) q || is_taken (is_some s.proposed) (first_in s.arrived) n q

-- a request that waits is later than the last of its node that was answered
pub record IsLater (answers : List (Option Kept)) (a : Arrived) : Type 0 where
  pub later : is_reached (kept_at answers a.from) a.number ≡ false
  pub low : 1 ≤ a.from
  pub high : a.from ≤ 32

-- one of a node waits at most
abbrev pub AreApart : List Arrived → Type 0
AreApart [] = Unit {0}
AreApart (a ∷ rest) = (list_any (is_from a.from) rest ≡ false) × AreApart rest

pub record Sound (s : State) : Type 0 where
  pub later : AllByRecursion (IsLater s.answers) s.arrived
  pub apart : AreApart s.arrived
  pub slots : length s.answers ≡ 32

-- the same requests and answers, and something proposed or nothing
abbrev pub SameHand : State → State → Type 0
SameHand s t = (t.arrived ≡ s.arrived) × (t.answers ≡ s.answers) × (is_some t.proposed ≡ is_some s.proposed)

-- a new request comes, for a cause
pub record Comes (C : Arrived → Type 0) (s t : State) : Type 0 where
  pub request : Arrived
  pub new : arrival_of s request.from request.number ≡ New
  pub is : t ≡ with_arrival s request New
  pub cause : C request

abbrev pub Stays_or_comes : (Arrived → Type 0) → State → State → Type 0
Stays_or_comes C s t = SameHand s t ⊎ Comes C s t

-- the first is answered, and then one may come
pub record Answers (C : Arrived → Type 0) (s t : State) : Type 0 where
  pub text : List ℕ
  pub then : Stays_or_comes C (answered s text) t

abbrev pub HandGoes : (Arrived → Type 0) → State → State → Type 0
HandGoes C s t = Stays_or_comes C s t ⊎ Answers C s t

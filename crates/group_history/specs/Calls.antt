-- Call: a method is called by an order, and one call after another; its `done` line follows at once.
use Rattle.std.specs.Prelude.{◌≡◌, ℕ, ◌==◌, ◌&&◌, not, Bool, true, false, List, ◌∷◌, Option, Some, None, count_by, MatchOption}
use Rattle.std.specs.List.{list_any}
use Rattle.cl_base.specs.declared.method.Method.{Method}
use Rattle.wire.specs.declared.message.Order.{Order}
use Rattle.history.specs.Moment.{Moment}
use Rattle.history.specs.Order.{Always, so_far}
use Rattle.history.specs.Setting.{coordinator}
use Rattle.history.specs.Letters.{Letter}
use Rattle.history.specs.Member.{member_of}
use Rattle.group_history.specs.Doings.{called, done, is_call_of, is_tick_of}
use Rattle.group_history.specs.Orders.{letter_for, order_of_letter, has_told}

-- the order names the method and the resource
abbrev pub Names : Method → List ℕ → Option Order → Type 0
Names method r None = ⊥
Names method r (Some o) = (o.method ≡ Some method) × (o.resource ≡ r)

-- An Order of the president brings the call. It was sent once the call before it was told to be over, and none came since.
pub record IsBrought (before : List Moment) (e n : ℕ) (method : Method) (r : List ℕ) (l : Letter) : Type 0 where
  pub named : Names method r (order_of_letter l)
  pub told : has_told e n l.before ≡ true
  pub next : count_by (is_call_of e n) before ≡ count_by (is_call_of e n) l.before

-- the president calls in its tick, and once in a tick
abbrev pub is_in_own_tick : ℕ → ℕ → List Moment → Bool
is_in_own_tick e c before = list_any (is_tick_of c) (so_far before) && not (list_any (is_call_of e c) (so_far before))

abbrev pub IsOrdered : Bool → List Moment → ℕ → ℕ → Method → List ℕ → Type 0
IsOrdered true before e c method r = is_in_own_tick e c before ≡ true
IsOrdered false before e n method r = MatchOption (letter_for e n before) ⊥ (IsBrought before e n method r)

abbrev pub IsCall : List Moment → Moment → Type 0
IsCall before (called e n method r) = (member_of n before ≡ Some e) × IsOrdered (n == coordinator e) before e n method r
IsCall before _ = Unit {0}

abbrev pub Calls : List Moment → Type 0
Calls moments = Always IsCall moments

-- ---- each call has its `done` line right after it, and no other stands anywhere

pub record Called : Type 0 where
  pub epoch : ℕ
  pub node : ℕ
  pub method : Method
  pub resource : List ℕ

-- the call that is under way
abbrev pub under_call : List Moment → Option Called
under_call (called e n method r ∷ before) = Some (record { epoch = e; node = n; method = method; resource = r })
under_call _ = None

-- the call that the moment ends
abbrev pub ends : Moment → Option Called
ends (done e n method r outcome) = Some (record { epoch = e; node = n; method = method; resource = r })
ends _ = None

abbrev pub CallsEnd : List Moment → Type 0
CallsEnd moments = Always (λ before x. ends x ≡ under_call before) moments

-- Which Answers were asked for, by a Request that had come to their sender; and what a president has in hand of other nodes.
use Rattle.std.specs.Prelude.{ℕ, ◌≡◌, ◌≢◌, ◌≤◌, ◌&&◌, Bool, true, false, List, Option, None, Some}
use Rattle.std.specs.List.{AllByRecursion}
use Rattle.history.specs.Letters.{Letter, is_letter, reached, says}
use Rattle.history.specs.Moment.{Moment}
use Rattle.history.specs.Names as name
use Rattle.history.specs.Order.{Always}
use Rattle.history.specs.Trace.{member}
use Rattle.node_model.specs.Seats.{session_of}
use Rattle.node_model.specs.declared.node.UpNode.{UpNode}
use Rattle.node_model.specs.declared.presidency.Presidency.{Presidency}
use Rattle.proposals.specs.State.{State, kept_at}
use Rattle.proposals.specs.declared.arrived.Arrived.{Arrived}
use Rattle.proposals.specs.declared.arrived.Kept.{Kept}
use Rattle.run_commands.specs.acknowledged.AnsweringGuards.{Due}
use Rattle.run_commands.specs.acknowledged.AnsweringGuards.Due.{Owes}
use Rattle.run_commands.specs.acknowledged.Askings.{LettersAre, is_request, requested_as}
use Rattle.wire.specs.declared.message.Body.TheVariants as body

-- ---- letters

-- the Request of n to c with this number, in the membership e
abbrev pub is_asking : ℕ → ℕ → ℕ → ℕ → Letter → Bool
is_asking n c q e l = is_letter (name.Request q) n c l && is_request q e (says l.bytes)

-- it has come to c
abbrev pub HasCome : ℕ → ℕ → ℕ → ℕ → List Moment → Type 0
HasCome n c q e ms = reached (is_asking n c q e) ms ≡ true

-- an Answer to another node is to a Request that had come
abbrev pub IsAskedFor : Letter → Type 0
IsAskedFor l = (e q : ℕ) (text : List ℕ) → l.to ≢ l.from → says l.bytes ≡ Some (body.Answer e q text) → HasCome l.to l.from q e l.before

-- ---- memberships

-- a node that becomes a member has sent no Request in this membership
abbrev pub IsFresh : List Moment → Moment → Type 0
IsFresh before (member n e) = (q : ℕ) → requested_as n q e before ≡ false
IsFresh before _ = Unit {0}

pub record ToldWell (ms : List Moment) : Type 0 where
  pub answers : LettersAre IsAskedFor ms
  pub fresh : Always IsFresh ms

-- ---- the president n of e

-- the requests of others that it has in hand have come, and so had those that it has answered last
pub record HandOf (n e : ℕ) (ms : List Moment) (s : State) : Type 0 where
  pub arrived : AllByRecursion (λ (a : Arrived). a.from ≢ n → HasCome a.from n a.number e ms) s.arrived
  pub kept : (m : ℕ) (k : Kept) → 1 ≤ m → m ≢ n → kept_at s.answers m ≡ Some k → HasCome m n k.number e ms

abbrev pub OfficeHas : ℕ → ℕ → List Moment → Option Presidency → Type 0
OfficeHas n e ms None = Unit {0}
OfficeHas n e ms (Some p) = HandOf n e ms p.proposals

-- .. and one whose answer it owes
abbrev pub IsOwed : ℕ → ℕ → List Moment → Due → Type 0
IsOwed n e ms (Owes a) = a.from ≢ n → HasCome a.from n a.number e ms
IsOwed n e ms d = Unit {0}

pub record Knows (n : ℕ) (d : Due) (x : UpNode) (ms : List Moment) : Type 0 where
  pub hand : OfficeHas n (session_of x) ms x.presidency
  pub owed : IsOwed n (session_of x) ms d

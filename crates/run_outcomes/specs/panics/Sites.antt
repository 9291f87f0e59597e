-- What an Excluded tells of the node to which it was sent, as long as it may still come.
use Rattle.std.specs.Prelude.{ℕ, ◌<◌, ◌≡◌, ◌≢◌, ◌≤◌, ◌⊎◌, true, List, Option, None, Some}
use Rattle.std.specs.List.{list_any}
use Rattle.attempt_laws.proofs.Goes.{IsChosen}
use Rattle.cmm_attempt.specs.Calls.{end_in, turn}
use Rattle.cmm_attempt.specs.declared.step.AttemptEnd.TheVariants as end
use Rattle.history.specs.Downs.{is_excluded_by, is_own_exclusion}
use Rattle.history.specs.Moment.{Moment}
use Rattle.history.specs.Order.{Always, so_far}
use Rattle.history.specs.Trace.{sent}
use Rattle.node_model.specs.Seats.{session_of}
use Rattle.node_model.specs.declared.node.Node.{Node}
use Rattle.node_model.specs.declared.node.Node.TheVariants.{Down, Up}
use Rattle.refinement.specs.Doings.{Site}
use Rattle.wire.specs.Reads.{whole_of}
use Rattle.wire.specs.declared.message.Body.{Body}
use Rattle.wire.specs.declared.message.Body.TheVariants as body
use Rattle.wire.specs.declared.message.Message.{Message}
use Rattle.run_outcomes.specs.counts.Ends.{Last}
use Rattle.run_outcomes.specs.panics.Laws.{PanicsExcluded}
use Rattle.run_outcomes.specs.panics.Notices.{Notice}

-- ---- a node that is in the session of an epoch no more

abbrev pub IsElsewhere : Node → ℕ → Type 0
IsElsewhere Down e = Unit {0}
IsElsewhere (Up x) e = session_of x ≢ e

-- It has promised e, or a greater number, and is in another session, or in none: it never comes to the session of e again.
pub record IsPast (x : Site) (e : ℕ) : Type 0 where
  pub some : 0 < e
  pub promised : e ≤ x.disk.promised
  pub elsewhere : IsElsewhere x.node e

-- ---- messages

-- An Excluded was sent as an attempt excluded its receiver, which an attempt with the epoch that it names had left out, above all that the receiver had
-- installed; or its receiver has left the session of that attempt, and takes no notice.
abbrev pub BodySo : (ℕ → Site) → List Moment → ℕ → Body → Type 0
BodySo sites before to (body.Excluded e newest) = (is_excluded_by newest e to (so_far before) before ≡ true) ⊎ IsPast (sites to) e
BodySo sites before to _ = Unit {0}

abbrev pub SaysSo : (ℕ → Site) → List Moment → Moment → Type 0
SaysSo sites before (sent p n to called bytes) = (m : Message) → whole_of bytes ≡ Some m → BodySo sites before to m.body
SaysSo sites before _ = Unit {0}

-- ---- each moment

pub record Judged (sites : ℕ → Site) (before : List Moment) (x : Moment) : Type 0 where
  pub says : SaysSo sites before x
  pub panics : PanicsExcluded before x

abbrev pub AllJudged : (ℕ → Site) → List Moment → Type 0
AllJudged sites moments = Always (Judged sites) moments

-- ---- in the step of node n

-- what it has just said of an exclusion is so
abbrev pub NoticeSo : (ℕ → Site) → List Moment → ℕ → Option Notice → Type 0
NoticeSo sites moments n None = Unit {0}
NoticeSo sites moments n (Some x) = BodySo sites moments x.member (body.Excluded x.epoch x.newest)
    × (x.member ≡ n → list_any (is_own_exclusion n x.newest moments) (so_far moments) ≡ true)

-- where the last call ends the attempt so, the attempt has named the newest record in hand
abbrev pub LastNamed : Last → Type 0
LastNamed None = Unit {0}
LastNamed (Some l) = (m : ℕ) → end_in (turn l.0 l.1).steps ≡ Some (end.Excluded m)
    → IsChosen (turn l.0 l.1).after.promises (turn l.0 l.1).after.plan.nodes (turn l.0 l.1).after.newest

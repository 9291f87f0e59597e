-- What each node has installed, against the lines, and what its Promises tell of it.
use Rattle.std.specs.Prelude.{ℕ, ◌<◌, ◌≡◌, ◌≤◌, true, false, List, Option, None, Some}
use Rattle.std.specs.List.{AllByRecursion}
use Rattle.attempt_laws.specs.Machine.{is_member}
use Rattle.cmm_attempt.specs.Attempts.{AttemptState}
use Rattle.cmm_attempt.specs.Calls.{end_in, turn}
use Rattle.cmm_attempt.specs.declared.promised.Promised.{Promised}
use Rattle.cmm_attempt.specs.declared.step.AttemptEnd.TheVariants as end
use Rattle.history.specs.Member.{last_installed}
use Rattle.history.specs.Moment.{Moment}
use Rattle.history.specs.Order.{Always}
use Rattle.history.specs.Trace.{installed, sent}
use Rattle.membership_machine.specs.State.{Memberships}
use Rattle.node_model.specs.declared.node.Node.{Node}
use Rattle.node_model.specs.declared.node.Node.TheVariants.{Down, Up}
use Rattle.refinement.specs.Doings.{Site}
use Rattle.refinement.specs.Ties.{Delivered}
use Rattle.wire.specs.Reads.{whole_of}
use Rattle.wire.specs.declared.message.Body.{Body}
use Rattle.wire.specs.declared.message.Body.TheVariants as body
use Rattle.wire.specs.declared.message.Message.{Message}
use Rattle.run_attempts.specs.Laws.{IsTried}
use Rattle.run_outcomes.specs.counts.Ends.{Last}
use Rattle.run_outcomes.specs.exclusions.Laws.{EndsExcluded}

-- what node n has installed: an attempt with these members, of which it is one
abbrev pub IsTold : List Moment → ℕ → ℕ → ℕ → Type 0
IsTold moments n f members = 0 < f → IsTried moments f members × (is_member members n ≡ true)

-- what a Promise that an attempt has taken shows
abbrev pub PromiseSo : List Moment → Promised → Type 0
PromiseSo moments p = IsTold moments p.shown.summary.node p.shown.summary.installed p.shown.summary.members

abbrev pub AttemptIn : List Moment → Option AttemptState → Type 0
AttemptIn moments None = Unit {0}
AttemptIn moments (Some a) = AllByRecursion (PromiseSo moments) a.promises

abbrev pub NodeIn : List Moment → Node → Type 0
NodeIn moments Down = Unit {0}
NodeIn moments (Up x) = AttemptIn moments x.attempt

-- a save that ended in a stop may have left a newer epoch than the last that has its line
pub record SiteSo (moments : List Moment) (n : ℕ) (x : Site) : Type 0 where
  pub last : last_installed n moments ≤ x.disk.installed
  pub disk : IsTold moments n x.disk.installed x.disk.members
  pub node : NodeIn moments x.node

-- a Promise tells what its sender has installed by then
abbrev pub BodySo : List Moment → ℕ → Body → Type 0
BodySo before n (body.Promise e newest members valid flagged committed pending) = (last_installed n before ≤ newest) × IsTold before n newest members
BodySo before n _ = Unit {0}

abbrev pub SaysSo : List Moment → Moment → Type 0
SaysSo before (sent p n to called bytes) = (m : Message) → whole_of bytes ≡ Some m → BodySo before n m.body
SaysSo before _ = Unit {0}

-- what is delivered
abbrev pub BodyTold : List Moment → ℕ → Body → Type 0
BodyTold moments from (body.Promise e newest members valid flagged committed pending) = IsTold moments from newest members
BodyTold moments from (body.Install i) = IsTried moments i.epoch i.members
BodyTold moments from _ = Unit {0}

abbrev pub HandSo : List Moment → Delivered → Type 0
HandSo moments None = Unit {0}
HandSo moments (Some d) = BodyTold moments d.0 d.1.body

-- where the last call ends the attempt so, the machine has not counted it
abbrev pub LastTied : Memberships → Last → Type 0
LastTied M None = Unit {0}
LastTied M (Some l) = (m : ℕ) → end_in (turn l.0 l.1).steps ≡ Some (end.Excluded m) → (M.epoch (turn l.0 l.1).after.plan.epoch).counted ≡ false

-- ---- each moment

-- what a node installs is greater than what it has installed
abbrev pub Rises : List Moment → Moment → Type 0
Rises before (installed n e) = last_installed n before < e
Rises before _ = Unit {0}

pub record Judged (before : List Moment) (x : Moment) : Type 0 where
  pub says : SaysSo before x
  pub excluded : EndsExcluded before x
  pub rises : Rises before x

abbrev pub AllJudged : List Moment → Type 0
AllJudged moments = Always Judged moments

-- The members of an attempt, as its line tells them: what is installed, and each Install, has them.
use Rattle.std.specs.Prelude.{◌<◌, List, Option, None, Some}
use Rattle.std.specs.List.{AllByRecursion}
use Rattle.cmm_attempt.specs.Attempts.{AttemptState}
use Rattle.cmm_attempt.specs.Calls.{IsReached}
use Rattle.cmm_member.specs.Records.{NodeRecord}
use Rattle.history.specs.Moment.{Moment}
use Rattle.history.specs.Order.{Always}
use Rattle.node_model.specs.Seats.{record_of}
use Rattle.node_model.specs.declared.node.Node.{Node}
use Rattle.node_model.specs.declared.node.Node.TheVariants.{Down, Up}
use Rattle.node_model.specs.declared.output.Output.{Output}
use Rattle.node_model.specs.declared.output.Output.TheVariants.{Sends, Tells}
use Rattle.refinement.specs.Doings.{Site}
use Rattle.refinement.specs.Ties.{Delivered}
use Rattle.run_attempts.specs.Laws.{BringsMembers, InstallSo, IsTried}

abbrev pub AllBring : List Moment → Type 0
AllBring moments = Always BringsMembers moments

-- what is installed has them
abbrev pub RecordSo : List Moment → NodeRecord → Type 0
RecordSo moments r = 0 < r.installed → IsTried moments r.installed r.members

-- the attempt that is under way
pub record AttemptSo (moments : List Moment) (a : AttemptState) : Type 0 where
  pub reached : IsReached a
  pub tried : IsTried moments a.plan.epoch a.plan.members

abbrev pub AttemptIn : List Moment → Option AttemptState → Type 0
AttemptIn moments None = Unit {0}
AttemptIn moments (Some a) = AttemptSo moments a

abbrev pub MemberSo : List Moment → Node → Type 0
MemberSo moments Down = Unit {0}
MemberSo moments (Up x) = RecordSo moments (record_of x) × AttemptIn moments x.attempt

pub record SiteSo (moments : List Moment) (x : Site) : Type 0 where
  pub disk : RecordSo moments x.disk
  pub node : MemberSo moments x.node

-- what was delivered
abbrev pub HandSo : List Moment → Delivered → Type 0
HandSo moments None = Unit {0}
HandSo moments (Some d) = InstallSo moments d.1.body

abbrev pub SendsSo : List Moment → Output → Type 0
SendsSo moments (Tells e) = Unit {0}
SendsSo moments (Sends to b) = InstallSo moments b

abbrev pub AllSendSo : List Moment → List Output → Type 0
AllSendSo moments os = AllByRecursion (SendsSo moments) os

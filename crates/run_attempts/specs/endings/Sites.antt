-- What each node has of attempts and of promises, against the lines, and what is in its hand.
use Rattle.std.specs.Prelude.{ℕ, ◌<◌, ◌≡◌, ◌≢◌, ◌≤◌, Bool, true, List, Option, None, Some}
use Rattle.std.specs.List.{AllByRecursion}
use Rattle.history.specs.Letters.{Letter, reached_since, says}
use Rattle.cmm_attempt.specs.Attempts.{AttemptState}
use Rattle.cmm_attempt.specs.Calls.{IsReached}
use Rattle.history.specs.Member.{members_of, number_of}
use Rattle.history.specs.Moment.{Moment}
use Rattle.history.specs.Names.{named}
use Rattle.history.specs.Order.{Always}
use Rattle.history.specs.Seizing.{is_attempt}
use Rattle.history.specs.Setting.{coordinator}
use Rattle.node_model.specs.Seats.{promised_of, session_of}
use Rattle.node_model.specs.declared.node.Node.{Node}
use Rattle.node_model.specs.declared.node.Node.TheVariants.{Down, Up}
use Rattle.node_model.specs.declared.node.UpNode.{UpNode}
use Rattle.node_model.specs.declared.output.Output.{Output}
use Rattle.node_model.specs.declared.output.Output.TheVariants.{Sends, Tells}
use Rattle.refinement.specs.Doings.{Site}
use Rattle.refinement.specs.Ties.{Delivered}
use Rattle.status_report.specs.declared.entry.Entry.{Entry}
use Rattle.status_report.specs.declared.entry.Entry.TheVariants as entry
use Rattle.status_report.specs.declared.node_entry.NodeEntry.TheVariants as note
use Rattle.status_report.specs.declared.start_entry.StartEntry.TheVariants as start_entry
use Rattle.wire.specs.declared.message.Body.{Body}
use Rattle.wire.specs.declared.message.Body.TheVariants as body
use Rattle.run_messages.specs.records.Kept.{HeardFrom, IsHad}
use Rattle.world_model.specs.Sends.{name_of}
use Rattle.run_attempts.specs.endings.Laws.{EndsInTick, EndsUnderWay, HasPromises, HasWaited, IsSuperseded, NamesMember, epoch_at, epoch_of}
use Rattle.run_attempts.specs.endings.Nacks.{BodySo, HasBooted, IsMadeBy, SaysSo}
use Rattle.run_attempts.specs.endings.Ways.{way_of}

-- What an attempt has: its members are those of its line, and each Promise that it has taken is the coordinator's own, or was delivered since it began.
pub record AttemptHas (moments : List Moment) (n : ℕ) (a : AttemptState) : Type 0 where
  pub reached : IsReached a
  pub members : members_of a.plan.epoch moments ≡ a.plan.members
  pub heard : AllByRecursion (λ p. HeardFrom moments n a.plan.epoch p.shown.summary.node) a.promises

abbrev pub AttemptIn : List Moment → ℕ → Option AttemptState → Type 0
AttemptIn moments n None = Unit {0}
AttemptIn moments n (Some a) = AttemptHas moments n a

-- its attempt is its own, of a number that it has promised
abbrev pub AttemptSo : ℕ → ℕ → Option ℕ → Type 0
AttemptSo n promised None = Unit {0}
AttemptSo n promised (Some e) = (coordinator e ≡ n) × (0 < e) × (e ≤ promised)

-- .. and where its session is another, it went up since
pub record UpSo (moments : List Moment) (n : ℕ) (x : UpNode) : Type 0 where
  pub made : IsMadeBy moments n (promised_of x)
  pub life : session_of x ≢ promised_of x → HasBooted moments n (promised_of x)
  pub attempt : AttemptSo n (promised_of x) (epoch_of x.attempt)
  pub has_so : AttemptIn moments n x.attempt

abbrev pub UpIn : List Moment → ℕ → Node → Type 0
UpIn moments n Down = Unit {0}
UpIn moments n (Up x) = UpSo moments n x

pub record SiteSo (moments : List Moment) (n : ℕ) (x : Site) : Type 0 where
  pub way : way_of n moments ≡ epoch_at x.node
  pub disk : IsMadeBy moments n x.disk.promised
  pub up : UpIn moments n x.node

-- a Collect is of the last attempt of its sender
abbrev pub IsNumbered : Letter → Body → Type 0
IsNumbered l (body.Collect e members) = number_of l ≡ Some e
IsNumbered l _ = Unit {0}

-- the message that node n takes came in this event, in which no attempt has begun
pub record Came (moments : List Moment) (n from : ℕ) (b : Body) : Type 0 where
  pub letter : Letter
  pub read : says letter.bytes ≡ Some b
  pub called : letter.name ≡ named (name_of b)
  pub sender : letter.from ≡ from
  pub receiver : letter.to ≡ n
  pub numbered : IsNumbered letter b
  pub near : (e : ℕ) (test : Letter → Bool) → test letter ≡ true → reached_since (is_attempt e) test moments ≡ true
  pub had : IsHad moments n from b
  pub stands : BodySo moments from b

abbrev pub HandSo : List Moment → ℕ → Delivered → Type 0
HandSo moments n None = Unit {0}
HandSo moments n (Some d) = Came moments n d.0 d.1.body

-- ---- what a node gives

-- a line that tells nothing of attempts, of starts, of ticks, and of nodes that go down
abbrev pub IsQuietLine : Entry → Type 0
IsQuietLine (entry.Attempt e) = ⊥
IsQuietLine (entry.Start (start_entry.Started e members held count)) = ⊥
IsQuietLine (entry.Node m (note.Down why)) = ⊥
IsQuietLine (entry.Node m note.Ticked) = ⊥
IsQuietLine (entry.Packet e) = ⊥
IsQuietLine _ = Unit {0}

abbrev pub IsFine : List Moment → ℕ → Output → Type 0
IsFine moments n (Tells e) = IsQuietLine e
IsFine moments n (Sends to b) = BodySo moments n b

abbrev pub AreFine : List Moment → ℕ → List Output → Type 0
AreFine moments n os = AllByRecursion (IsFine moments n) os

-- ---- each moment

pub record Judged (before : List Moment) (x : Moment) : Type 0 where
  pub way : EndsUnderWay before x
  pub superseded : IsSuperseded before x
  pub silent : EndsInTick before x
  pub promises : HasPromises before x
  pub names : NamesMember before x
  pub waited : HasWaited before x
  pub says_so : SaysSo before x

abbrev pub AllJudged : List Moment → Type 0
AllJudged moments = Always Judged moments

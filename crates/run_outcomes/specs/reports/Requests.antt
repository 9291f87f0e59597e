-- What carries the proofs, of requests to seize, of Collects and of Installs: which attempt sends them, along the courses of a node.
use Rattle.std.specs.Prelude.{ℕ, ◌==◌, ◌≡◌, ◌≢◌, List, [], ◌∷◌, Option, None, Some, if◌then◌else◌}
use Rattle.std.specs.List.{AllByRecursion}
use Rattle.cmm_attempt.specs.Attempts.{AttemptState, Turn}
use Rattle.cmm_attempt.specs.Calls.{turn}
use Rattle.cmm_attempt.specs.declared.step.Step.{Step}
use Rattle.cmm_attempt.specs.declared.step.Step.TheVariants as step
use Rattle.history.specs.Setting.{coordinator}
use Rattle.node_model.specs.declared.output.Output.{Output}
use Rattle.node_model.specs.declared.output.Output.TheVariants.{Sends, Tells}
use Rattle.refinement.specs.Courses.{Course}
use Rattle.refinement.specs.Courses.Course.{Acts, Falls, Keeps, Stops}
use Rattle.refinement.specs.Doings.{Act, Change, Doing}
use Rattle.refinement.specs.Doings.Act.{Goes_on, Makes, Spreads, Writes}
use Rattle.refinement.specs.Doings.Change.{Counts, Leads, Starts}
use Rattle.refinement.specs.Doings.Doing.{Does, Saves}
use Rattle.status_report.specs.declared.attempt_entry.AttemptEntry.TheVariants as attempt
use Rattle.status_report.specs.declared.entry.Entry.TheVariants as entry
use Rattle.wire.specs.declared.message.Body.{Body}
use Rattle.wire.specs.declared.message.Body.TheVariants as body

-- an attempt: its number, and its coordinator
pub record Tried : Type 0 where
  pub epoch : ℕ
  pub coordinator : ℕ

abbrev pub tried_by : AttemptState → Tried
tried_by a = record { epoch = a.plan.epoch; coordinator = a.plan.coordinator }

-- ---- messages

-- neither a request to seize nor a Collect nor an Install
abbrev pub IsNoRequest : Body → Type 0
IsNoRequest (body.Collect e members) = ⊥
IsNoRequest (body.SeizeQuorum e members d) = ⊥
IsNoRequest (body.SeizeData e members d) = ⊥
IsNoRequest (body.Install i) = ⊥
IsNoRequest _ = Unit {0}

-- a request to seize is of this attempt, and goes to another node than its coordinator; so do a Collect and an Install
abbrev pub IsFrom : Tried → ℕ → Body → Type 0
IsFrom t to (body.Collect e members) = to ≢ t.coordinator
IsFrom t to (body.SeizeQuorum e members d) = (e ≡ t.epoch) × (to ≢ t.coordinator)
IsFrom t to (body.SeizeData e members d) = (e ≡ t.epoch) × (to ≢ t.coordinator)
IsFrom t to (body.Install i) = to ≢ t.coordinator
IsFrom t to _ = Unit {0}

abbrev pub StepFrom : Tried → Step → Type 0
StepFrom t (step.Send to m) = IsFrom t to m.body
StepFrom t _ = Unit {0}

abbrev pub StepsFrom : Tried → List Step → Type 0
StepsFrom t steps = AllByRecursion (StepFrom t) steps

abbrev pub TurnFrom : Turn → Type 0
TurnFrom u = StepsFrom (tried_by u.after) u.steps

-- of the attempt that gave its steps last
abbrev pub BodyFrom : Option Tried → ℕ → Body → Type 0
BodyFrom None to b = IsNoRequest b
BodyFrom (Some t) to b = IsFrom t to b

-- ---- small steps

-- the attempt that gives its steps from there on
abbrev pub by_change : ℕ → Option Tried → Change → Option Tried
by_change me o (Leads p members) = Some (record { epoch = p; coordinator = me })
by_change me o (Counts a k s i) = Some (tried_by (turn a k).after)
by_change me o (Starts a k s) = Some (tried_by (turn a k).after)
by_change me o _ = o

abbrev pub by_act : ℕ → Option Tried → Act → Option Tried
by_act me o (Goes_on a k) = Some (tried_by (turn a k).after)
by_act me o (Makes change) = by_change me o change
by_act me o _ = o

abbrev pub ActFrom : Option Tried → Act → Type 0
ActFrom o (Writes to b) = BodyFrom o to b
ActFrom o (Spreads receivers b) = IsNoRequest b
ActFrom o _ = Unit {0}

abbrev pub GoesFrom : ℕ → Option Tried → Course → Type 0
GoesFrom me o Stops = Unit {0}
GoesFrom me o (Acts a rest) = ActFrom o a × GoesFrom me (by_act me o a) rest
GoesFrom me o (Keeps change rest) = GoesFrom me (by_change me o change) rest
GoesFrom me o (Falls why) = Unit {0}

abbrev pub DoingFrom : Option Tried → Doing → Type 0
DoingFrom o (Does a) = ActFrom o a
DoingFrom o _ = Unit {0}

abbrev pub by_doing : ℕ → Option Tried → Doing → Option Tried
by_doing me o (Does a) = by_act me o a
by_doing me o (Saves change) = by_change me o change
by_doing me o _ = o

abbrev pub AllFrom : ℕ → Option Tried → List Doing → Type 0
AllFrom me o [] = Unit {0}
AllFrom me o (d ∷ ds) = DoingFrom o d × AllFrom me (by_doing me o d) ds

-- ---- beside attempts: no attempt begins, none takes a call, and nothing of this is sent

abbrev pub BareChange : Change → Type 0
BareChange (Leads p members) = ⊥
BareChange (Counts a k s i) = ⊥
BareChange (Starts a k s) = ⊥
BareChange _ = Unit {0}

abbrev pub BareAct : Act → Type 0
BareAct (Goes_on a k) = ⊥
BareAct (Makes change) = BareChange change
BareAct (Writes to b) = IsNoRequest b
BareAct (Spreads receivers b) = IsNoRequest b
BareAct _ = Unit {0}

abbrev pub IsBare : Course → Type 0
IsBare Stops = Unit {0}
IsBare (Acts a rest) = BareAct a × IsBare rest
IsBare (Keeps change rest) = BareChange change × IsBare rest
IsBare (Falls why) = Unit {0}

-- ---- what a node gives

-- the last attempt that it began
abbrev pub last_by : ℕ → Option ℕ → Output → Option ℕ
last_by n o (Tells (entry.Attempt (attempt.Begun e members))) = if coordinator e == n then Some e else o
last_by n o _ = o

abbrev pub last_of : ℕ → Option ℕ → List Output → Option ℕ
last_of n o [] = o
last_of n o (x ∷ os) = last_of n (last_by n o x) os

-- a request to seize is of that attempt, and goes to another node; so do a Collect and an Install
abbrev pub BodyAsks : ℕ → Option ℕ → ℕ → Body → Type 0
BodyAsks n o to (body.Collect e members) = to ≢ n
BodyAsks n o to (body.SeizeQuorum e members d) = (o ≡ Some e) × (to ≢ n)
BodyAsks n o to (body.SeizeData e members d) = (o ≡ Some e) × (to ≢ n)
BodyAsks n o to (body.Install i) = to ≢ n
BodyAsks n o to _ = Unit {0}

abbrev OutAsks : ℕ → Option ℕ → Output → Type 0
OutAsks n o (Tells e) = Unit {0}
OutAsks n o (Sends to b) = BodyAsks n o to b

abbrev pub OutsAsk : ℕ → Option ℕ → List Output → Type 0
OutsAsk n o [] = Unit {0}
OutsAsk n o (x ∷ os) = OutAsks n o x × OutsAsk n (last_by n o x) os

-- it begins no attempt, and is none of these messages
abbrev pub IsQuiet : Output → Type 0
IsQuiet (Tells (entry.Attempt (attempt.Begun e members))) = ⊥
IsQuiet (Tells e) = Unit {0}
IsQuiet (Sends to b) = IsNoRequest b

abbrev pub AreQuiet : List Output → Type 0
AreQuiet os = AllByRecursion IsQuiet os

-- ---- what is known of a node

-- it coordinates the attempt, which is the last that it began
abbrev pub IsLast : ℕ → Option ℕ → AttemptState → Type 0
IsLast n o a = (o ≡ Some a.plan.epoch) × (a.plan.coordinator ≡ n)

abbrev pub HandLast : ℕ → Option ℕ → Option Tried → Type 0
HandLast n o None = Unit {0}
HandLast n o (Some t) = (o ≡ Some t.epoch) × (t.coordinator ≡ n)

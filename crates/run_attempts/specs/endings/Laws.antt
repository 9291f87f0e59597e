-- What is proved of each run of the world, as things that happen: an attempt ends, and starts, while it is under way; what shows that it is
-- superseded; in which events it ends for want of an answer; and what it has by then of Promises.
use Rattle.std.specs.Prelude.{ℕ, ◌+◌, [], ◌∷◌, if◌then◌else◌, ◌<◌, ◌≡◌, ◌==◌, ◌≤◌, ◌^◌, true, List, length, Option, None, Some}
use Rattle.std.specs.List.{list_any}
use Rattle.cl_base.specs.Limits.{most_devices}
use Rattle.cl_base.specs.declared.header.Header.{Header}
use Rattle.cmm_attempt.specs.Attempts.{AttemptState}
use Rattle.history.specs.Attempts.{stands_against}
use Rattle.history.specs.Member.{members_of}
use Rattle.history.specs.Moment.{Moment}
use Rattle.history.specs.Order.{Always, under_way}
use Rattle.history.specs.Queue.{all_promised}
use Rattle.history.specs.Seizing.{is_number}
use Rattle.history.specs.Setting.{coordinator, nodes_of}
use Rattle.history.specs.Trace.{attempt, ticked, ended_excluded, ended_foreign, ended_silent, ended_superseded, ended_votes, start}
use Rattle.history.specs.UnderWay.{is_under_way}
use Rattle.node_model.specs.declared.node.Node.{Node}
use Rattle.node_model.specs.declared.node.Node.TheVariants.{Down, Up}
use Rattle.run_history.specs.ContactRuns.{OfEachRun}
use Rattle.run_history.specs.Happenings.{Happening, MayAllHappen, all_happened}
use Rattle.run_history.specs.Scenes.{Scene, first_scene}
use Rattle.schedule_text.specs.declared.event.Event.TheVariants.{Tick}
use Rattle.world_model.specs.First.{first_cluster}

-- ---- an attempt ends once at most, and only after it began; and so it starts

abbrev pub EndsUnderWay : List Moment → Moment → Type 0
EndsUnderWay before (ended_votes e have need lacking) = is_under_way e before ≡ true
EndsUnderWay before (ended_superseded e q) = is_under_way e before ≡ true
EndsUnderWay before (ended_silent e m) = is_under_way e before ≡ true
EndsUnderWay before (ended_foreign e m) = is_under_way e before ≡ true
EndsUnderWay before (ended_excluded e m) = is_under_way e before ≡ true
EndsUnderWay before (start e members held count) = is_under_way e before ≡ true
EndsUnderWay before _ = Unit {0}

abbrev pub AttemptsAreUnderWayInEachRun : Type 0
AttemptsAreUnderWayInEachRun = OfEachRun (Always EndsUnderWay)

-- ---- the attempt that a node has is the one that is under way by the lines, and it has one exactly where one is

abbrev pub epoch_of : Option AttemptState → Option ℕ
epoch_of None = None
epoch_of (Some a) = Some a.plan.epoch

-- a node that is down has none
abbrev pub epoch_at : Node → Option ℕ
epoch_at Down = None
epoch_at (Up x) = epoch_of x.attempt

abbrev pub HaveTheirAttempts : Scene → Type 0
HaveTheirAttempts s = (e : ℕ) → is_under_way e s.moments ≡ is_number e (epoch_at (s.nodes.node (coordinator e)))

abbrev pub NodesHaveTheirAttempts : Type 0
NodesHaveTheirAttempts = (h : Header) (cells : ℕ) (hs : List Happening) → length h.devices ≤ most_devices → h.cluster < 2 ^ 32
    → MayAllHappen (first_cluster h) (first_scene h cells) hs → HaveTheirAttempts (all_happened (first_cluster h) (first_scene h cells) hs)

-- ---- what supersedes an attempt stands against it, and has come to its coordinator

abbrev pub IsSuperseded : List Moment → Moment → Type 0
IsSuperseded before (ended_superseded e q) = stands_against e q before ≡ true
IsSuperseded before _ = Unit {0}

abbrev pub SupersededInEachRun : Type 0
SupersededInEachRun = OfEachRun (Always IsSuperseded)

-- ---- for want of votes, and for a foreign member, it ends once the Promise of each other member has come

abbrev pub HasPromises : List Moment → Moment → Type 0
HasPromises before (ended_votes e have need lacking) = (have < need) × (all_promised e before ≡ true)
HasPromises before (ended_foreign e m) = all_promised e before ≡ true
HasPromises before _ = Unit {0}

abbrev pub PromisedInEachRun : Type 0
PromisedInEachRun = OfEachRun (Always HasPromises)

-- ---- who is named at an end is one of its members

abbrev pub IsMemberOf : ℕ → ℕ → List Moment → Type 0
IsMemberOf e m before = list_any (λ k. k == m) (nodes_of (members_of e before)) ≡ true

abbrev pub NamesMember : List Moment → Moment → Type 0
NamesMember before (ended_silent e m) = IsMemberOf e m before
NamesMember before (ended_foreign e m) = IsMemberOf e m before
NamesMember before (ended_excluded e m) = IsMemberOf e m before
NamesMember before _ = Unit {0}

abbrev pub EndsNameMembersInEachRun : Type 0
EndsNameMembersInEachRun = OfEachRun (Always NamesMember)

-- ---- for want of an answer it ends in a tick of its coordinator

abbrev pub EndsInTick : List Moment → Moment → Type 0
EndsInTick before (ended_silent e m) = under_way before ≡ Some (Tick (coordinator e))
EndsInTick before _ = Unit {0}

abbrev pub SilentInTicksOfEachRun : Type 0
SilentInTicksOfEachRun = OfEachRun (Always EndsInTick)

-- .. at the eighth that came since it began, at the earliest

-- how many ticks of its coordinator came since the attempt e began
abbrev pub ticks_of : ℕ → List Moment → ℕ
ticks_of e [] = 0
ticks_of e (attempt f members ∷ before) = if f == e then 0 else ticks_of e before
ticks_of e (ticked n ∷ before) = if n == coordinator e then ticks_of e before + 1 else ticks_of e before
ticks_of e (_ ∷ before) = ticks_of e before

abbrev pub HasWaited : List Moment → Moment → Type 0
HasWaited before (ended_silent e m) = 8 ≤ ticks_of e before
HasWaited before _ = Unit {0}

abbrev pub SilentAfterEightTicks : Type 0
SilentAfterEightTicks = OfEachRun (Always HasWaited)

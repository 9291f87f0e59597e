-- An attempt takes one tick in a tick of its node, and none elsewhere.
use Rattle.std.specs.Prelude.{ℕ, ◌+◌, ◌≡◌, ◌≤◌, Bool, true, false, List, [], ◌∷◌, Option, None, Some}
use Rattle.cmm_attempt.specs.Attempts.{AttemptState}
use Rattle.cmm_attempt.specs.Calls.{Call, Own_ready, Own_seized, Take, Tick as Call_tick, With_votes}
use Rattle.history.specs.Moment.{Moment}
use Rattle.history.specs.Setting.{coordinator}
use Rattle.node_model.specs.declared.node.Node.{Node}
use Rattle.node_model.specs.declared.node.Node.TheVariants.{Down, Up}
use Rattle.refinement.specs.Courses.{Course}
use Rattle.refinement.specs.Courses.Course.{Acts, Falls, Keeps, Stops}
use Rattle.refinement.specs.Doings.{Act, Change, Doing}
use Rattle.refinement.specs.Doings.Act.{Goes_on, Makes, Ticks}
use Rattle.refinement.specs.Doings.Change.{Counts, Leads, Starts}
use Rattle.refinement.specs.Doings.Doing.{Does, Saves}
use Rattle.run_attempts.specs.endings.Laws.{ticks_of}

-- ---- whether a tick is left to take

abbrev pub CallOnce : Bool → Call → Type 0
CallOnce left Call_tick = left ≡ true
CallOnce left (Take from m) = Unit {0}
CallOnce left (With_votes both) = Unit {0}
CallOnce left (Own_seized d r) = Unit {0}
CallOnce left Own_ready = Unit {0}

abbrev pub left_by_call : Bool → Call → Bool
left_by_call left Call_tick = false
left_by_call left (Take from m) = left
left_by_call left (With_votes both) = left
left_by_call left (Own_seized d r) = left
left_by_call left Own_ready = left

abbrev pub ChangeOnce : Bool → Change → Type 0
ChangeOnce left (Counts a k s i) = CallOnce left k
ChangeOnce left (Starts a k s) = CallOnce left k
ChangeOnce left _ = Unit {0}

-- an attempt that begins takes none in the same tick
abbrev pub left_by_change : Bool → Change → Bool
left_by_change left (Counts a k s i) = left_by_call left k
left_by_change left (Leads p members) = false
left_by_change left _ = left

abbrev pub ActOnce : Bool → Act → Type 0
ActOnce left (Goes_on a k) = CallOnce left k
ActOnce left (Makes change) = ChangeOnce left change
ActOnce left _ = Unit {0}

abbrev pub left_by : Bool → Act → Bool
left_by left Ticks = true
left_by left (Goes_on a k) = left_by_call left k
left_by left (Makes change) = left_by_change left change
left_by left _ = left

abbrev pub GoesOnce : Bool → Course → Type 0
GoesOnce left Stops = Unit {0}
GoesOnce left (Acts a rest) = ActOnce left a × GoesOnce (left_by left a) rest
GoesOnce left (Keeps change rest) = ChangeOnce left change × GoesOnce (left_by_change left change) rest
GoesOnce left (Falls why) = Unit {0}

abbrev pub DoingOnce : Bool → Doing → Type 0
DoingOnce left (Does a) = ActOnce left a
DoingOnce left (Saves change) = ChangeOnce left change
DoingOnce left _ = Unit {0}

abbrev pub left_after : Bool → Doing → Bool
left_after left (Does a) = left_by left a
left_after left (Saves change) = left_by_change left change
left_after left _ = left

abbrev pub AllOnce : Bool → List Doing → Type 0
AllOnce left [] = Unit {0}
AllOnce left (d ∷ ds) = DoingOnce left d × AllOnce (left_after left d) ds

-- ---- the ticks that an attempt has counted came since it began, without the one that is left

abbrev pub one : Bool → ℕ
one true = 1
one false = 0

abbrev pub WaitIn : List Moment → ℕ → Bool → Option AttemptState → Type 0
WaitIn moments n left None = Unit {0}
WaitIn moments n left (Some a) = (coordinator a.plan.epoch ≡ n) × (a.ticks + one left ≤ ticks_of a.plan.epoch moments)

abbrev pub WaitAt : List Moment → ℕ → Bool → Node → Type 0
WaitAt moments n left Down = Unit {0}
WaitAt moments n left (Up x) = WaitIn moments n left x.attempt

-- What carries the proofs, of lines and of scenes: which attempts are under way, that none waits for votes, and what is installed.
use Rattle.cmm_attempt.specs.Attempts.{AttemptState}
use Rattle.history.specs.Letters.{Letter, arrived}
use Rattle.history.specs.Moment.{Moment}
use Rattle.history.specs.Names as name
use Rattle.history.specs.Names.{Name}
use Rattle.history.specs.Order.{Always, under_way}
use Rattle.history.specs.Saves.{may_save}
use Rattle.history.specs.Seizing.{is_install}
use Rattle.history.specs.Setting.{Setting, coordinator}
use Rattle.history.specs.Trace.{stopped}
use Rattle.history.specs.UnderWay.{is_under_way}
use Rattle.node_model.specs.Attempts.{is_choosing}
use Rattle.node_model.specs.declared.node.Node.TheVariants.{Down, Up}
use Rattle.node_model.specs.declared.node.Node.{Node}
use Rattle.node_model.specs.declared.node.UpNode.{UpNode}
use Rattle.node_model.specs.declared.output.Output.TheVariants.{Sends, Tells}
use Rattle.node_model.specs.declared.output.Output.{Output}
use Rattle.refinement.specs.Runs.{Nodes}
use Rattle.run_attempts.specs.endings.Laws.{epoch_at}
use Rattle.run_history.specs.Scenes.{Scene}
use Rattle.schedule_text.specs.declared.event.Event.TheVariants as event
use Rattle.schedule_text.specs.declared.event.Event.{Event}
use Rattle.status_report.specs.declared.entry.Entry.TheVariants as entry
use Rattle.status_report.specs.declared.entry.Entry.{Entry}
use Rattle.status_report.specs.declared.node_entry.NodeEntry.TheVariants as note
use Rattle.status_report.specs.declared.start_entry.StartEntry.TheVariants as start_entry
use Rattle.std.specs.List.{AllByRecursion, list_any}
use Rattle.std.specs.Prelude.{Bool, List, None, Option, Some, false, true, ℕ, ◌≡◌, ◌≤◌}

-- ---- stops

-- the messages of an attempt: what answers it, and the Install by which another node's is installed
abbrev pub is_left : Name → Bool
is_left name.Promise = true
is_left name.Nack = true
is_left (name.Seized d) = true
is_left name.Install = true
is_left name.Ready = true
is_left _ = false

abbrev pub is_left_by : Letter → Bool
is_left_by l = is_left l.name

-- the event delivers such a message, or none that was sent
abbrev pub left_in : Option Letter → Bool
left_in None = true
left_in (Some l) = is_left_by l

abbrev pub is_left_in : Option Event → Option Letter → Bool
is_left_in (Some (event.Deliver p)) came = left_in came
is_left_in (Some (event.Next from to)) came = left_in came
is_left_in _ came = false

abbrev pub is_left_at : List Moment → Bool
is_left_at ms = is_left_in (under_way ms) (arrived ms)

-- where a node stops in such an event the rules let it save
abbrev pub StopsHere : Setting → List Moment → Moment → Type 0
StopsHere S before (stopped n) = is_left_at before ≡ true → may_save S n before ≡ true
StopsHere S before _ = Unit {0}

abbrev pub AllHere : Setting → List Moment → Type 0
AllHere S moments = Always (StopsHere S) moments

-- ---- attempts

-- the attempt of this number is the node's own, and under way
abbrev pub OnWay : ℕ → List Moment → Option ℕ → Type 0
OnWay n ms None = Unit {0}
OnWay n ms (Some e) = (coordinator e ≡ n) × (is_under_way e ms ≡ true)

-- .. and so is the attempt that the node has
abbrev pub IsOnWay : ℕ → List Moment → Node → Type 0
IsOnWay n ms node = OnWay n ms (epoch_at node)

-- a line that tells neither of attempts, nor of starts, nor of nodes that go down
abbrev pub LeavesWay : Entry → Type 0
LeavesWay (entry.Attempt e) = ⊥
LeavesWay (entry.Start (start_entry.Started e members held count)) = ⊥
LeavesWay (entry.Node m (note.Down why)) = ⊥
LeavesWay _ = Unit {0}

abbrev pub LeavesWayOut : Output → Type 0
LeavesWayOut (Tells e) = LeavesWay e
LeavesWayOut (Sends to b) = Unit {0}

abbrev pub AllLeave : List Output → Type 0
AllLeave os = AllByRecursion LeavesWayOut os

-- the attempt, where there is one, asks for no votes
abbrev pub RestsIn : Option AttemptState → Type 0
RestsIn None = Unit {0}
RestsIn (Some a) = is_choosing a.phase ≡ false

abbrev pub Rests : UpNode → Type 0
Rests x = RestsIn x.attempt

-- of a node that is up
abbrev pub IsAt : (UpNode → Type 0) → Node → Type 0
IsAt P Down = Unit {0}
IsAt P (Up x) = P x

-- ---- what is installed

-- node n says of itself that it has installed an epoch, which is at most this one
abbrev pub IsLow : ℕ → ℕ → Output → Type 0
IsLow n most (Tells (entry.Node m (note.Installed e))) = (m ≡ n) × (e ≤ most)
IsLow n most _ = Unit {0}

abbrev pub AreLow : ℕ → ℕ → List Output → Type 0
AreLow n most os = AllByRecursion (IsLow n most) os

-- no node has installed more, by these lines
abbrev pub Within : (ℕ → ℕ) → List Moment → Type 0
Within B ms = (k e : ℕ) → list_any (is_install k e) ms ≡ true → e ≤ B k

-- in each scene no attempt asks for votes, and each node has installed what the lines say, or a newer epoch
pub record Kept (v : Nodes) (ms : List Moment) : Type 0 where
  pub rests : (k : ℕ) → IsAt Rests (v.node k)
  pub low : Within (λ k. (v.disk k).kept.installed) ms

abbrev pub KeptIn : Scene → Type 0
KeptIn s = Kept s.nodes s.moments

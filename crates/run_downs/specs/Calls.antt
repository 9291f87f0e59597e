-- The calls of its local disk that are left to a node's stop, as its outputs tell them.
use Rattle.std.specs.Prelude.{ℕ, ◌≡◌, ◌≢◌, Bool, true, false, List, [], ◌∷◌, Option, None, Some}
use Rattle.std.specs.List.{AllByRecursion}
use Rattle.cl_base.specs.declared.panic.Panic.TheVariants as panic
use Rattle.local_disk.specs.declared.memory.Stop.{Stop}
use Rattle.status_report.specs.declared.entry.Entry.TheVariants as entry
use Rattle.status_report.specs.declared.node_entry.DownCause.TheVariants as cause
use Rattle.status_report.specs.declared.node_entry.NodeEntry.TheVariants as note
use Rattle.history.specs.Downs.{after_four, are_four, calls_left, stop_due}
use Rattle.history.specs.Moment.{Moment}
use Rattle.history.specs.Order.{Always}
use Rattle.node_model.specs.declared.output.Output.{Output}
use Rattle.node_model.specs.declared.output.Output.TheVariants.{Tells}
use Rattle.run_downs.specs.Laws.{BootIsSaid, CrashIsSaid, FencedByWrite, SavesInEvent, StopComes, StopsAtStop}
use Rattle.run_history.specs.Scenes.{Scene}

-- the calls left to the stop that is armed in a disk
abbrev pub calls_in : Option Stop → Option ℕ
calls_in None = None
calls_in (Some stop) = Some stop.calls

-- what is left after an output
abbrev pub left_by : Option ℕ → Output → Option ℕ
left_by k (Tells (entry.Node m note.Saved)) = after_four k
left_by k (Tells (entry.Node m (note.Down cause.Stopped))) = None
left_by k _ = k

abbrev pub left_by_all : Option ℕ → List Output → Option ℕ
left_by_all k [] = k
left_by_all k (o ∷ os) = left_by_all (left_by k o) os

-- so node n may tell of itself, where it may save here or not, and its stop has this many calls left: it neither comes up nor crashes here, and
-- is not fenced
abbrev pub IsFine : ℕ → Bool → Option ℕ → Output → Type 0
IsFine n may k (Tells (entry.Node m note.Up)) = ⊥
IsFine n may k (Tells (entry.Node m note.Saved)) = (m ≡ n) × (are_four k ≡ false) × (may ≡ true)
IsFine n may k (Tells (entry.Node m (note.Down cause.Stopped))) = (m ≡ n) × (are_four k ≡ true) × (may ≡ true)
IsFine n may k (Tells (entry.Node m (note.Down cause.Crash))) = ⊥
IsFine n may k (Tells (entry.Node m (note.Down (cause.Panic (panic.Fenced d))))) = ⊥
IsFine n may k _ = Unit {0}

abbrev pub AreFine : ℕ → Bool → Option ℕ → List Output → Type 0
AreFine n may k [] = Unit {0}
AreFine n may k (o ∷ os) = IsFine n may k o × AreFine n may (left_by k o) os

-- it tells neither that a node is up or down, nor that it has saved
abbrev pub IsSteady : Output → Type 0
IsSteady (Tells (entry.Node m note.Up)) = ⊥
IsSteady (Tells (entry.Node m note.Saved)) = ⊥
IsSteady (Tells (entry.Node m (note.Down why))) = ⊥
IsSteady _ = Unit {0}

abbrev pub AllSteady : List Output → Type 0
AllSteady os = AllByRecursion IsSteady os

-- what each moment keeps to
pub record GoesSo (before : List Moment) (x : Moment) : Type 0 where
  pub boots : BootIsSaid before x
  pub crashes : CrashIsSaid before x
  pub fences : FencedByWrite before x
  pub stops : StopsAtStop before x
  pub saves : SavesInEvent before x
  pub comes : StopComes before x

-- the moments go on so to these, after which the stop of node n has this many calls left
pub record Passed (n : ℕ) (k : Option ℕ) (before after : List Moment) : Type 0 where
  pub so : Always GoesSo after
  pub left : calls_left n after ≡ k
  pub others : (j : ℕ) → j ≢ n → calls_left j after ≡ calls_left j before
  pub due : stop_due after ≡ None

-- the stop that is armed in the disk of each node is the one that the lines leave; none is due
pub record AreArmed (s : Scene) : Type 0 where
  pub calls : (n : ℕ) → calls_left n s.moments ≡ calls_in (s.nodes.disk n).stop
  pub due : stop_due s.moments ≡ None
  pub so : Always GoesSo s.moments

-- What is due for a write, and what the lines tell of where it is due.
use Rattle.std.specs.Prelude.{ℕ, ◌≡◌, true, List, [], ◌∷◌, None}
use Rattle.cl_base.specs.Sets.{has}
use Rattle.history.specs.Lines.{asked_device, has_joined}
use Rattle.history.specs.Moment.{Moment}
use Rattle.history.specs.Order.{OfEvents}
use Rattle.history.specs.Setting.{Setting}
use Rattle.history.specs.Trace.{refused}
use Rattle.status_report.specs.declared.entry.Entry.TheVariants as entry
use Rattle.node_model.specs.Clusters.{has_path}
use Rattle.node_model.specs.declared.cluster.Cluster.{Cluster}
use Rattle.node_model.specs.declared.input.Input.TheVariants as input
use Rattle.node_model.specs.declared.node.Node.{Node}
use Rattle.node_model.specs.declared.node.Node.TheVariants.{Down, Up}
use Rattle.node_model.specs.declared.seat.Seat.{Seat}
use Rattle.node_model.specs.declared.seat.Seat.TheVariants.{Forming, Member}
use Rattle.world_model.specs.First.{first_cluster}
use Rattle.run_history.specs.Members.{NodeLines}
use Rattle.run_history.specs.Scenes.{Scene}
use Rattle.run_history.specs.Shapes.{Want}
use Rattle.run_history.specs.Shapes as want
use Rattle.run_history.specs.WorldLines.{IsAtDevices}
use Rattle.run_messages.specs.Laws.{IsSeated}
use Rattle.run_lines.specs.Entries.{IsOfEvent}
use Rattle.run_lines.specs.writes.Laws.{IsWritten}

-- the entries of a write, or of its refusal; of what else is due nothing is said
abbrev pub Leaves : Setting → List Moment → List Want → List Moment → Type 0
Leaves S moments [] entries = entries ≡ []
Leaves S moments (want.Write n d value ∷ wants) entries = entries ≡ asked_device S moments n d value None
Leaves S moments (want.Refuse n d value why ∷ wants) entries = entries ≡ refused n d value why ∷ []
Leaves S moments (w ∷ wants) entries = Unit {0}

-- most of what is due comes alone; a node readies itself for a command that is due
abbrev pub IsAlone : List Want → Type 0
IsAlone [] = Unit {0}
IsAlone (want.Note e ∷ wants) = IsOfEvent (entry.Schedule e) × (wants ≡ [])
IsAlone (want.Take n input.CommandDue ∷ wants) = wants ≡ want.Command n ∷ []
IsAlone (w ∷ wants) = wants ≡ []

-- each write has its entries, once what is due has come
pub record Awaits (S : Setting) (s : Scene) (wants : List Want) : Type 0 where
  pub alone : IsAlone wants
  pub events : (later : List Moment) → Leaves S s.moments wants later → OfEvents (IsWritten S) later s.moments

-- a member has joined a device where its lines say so
abbrev pub SeatHeld : List Moment → ℕ → ℕ → Seat → Type 0
SeatHeld moments n d (Forming s) = Unit {0}
SeatHeld moments n d (Member s) = has_joined n d s.session moments ≡ has s.joined d

-- of a device to which it has a path
abbrev pub NodeHeld : Cluster → List Moment → ℕ → ℕ → Node → Type 0
NodeHeld c moments n d Down = Unit {0}
NodeHeld c moments n d (Up x) = has_path c.attached n d ≡ true → SeatHeld moments n d x.seat

-- what the lines say of the scene
pub record Ties (S : Setting) (s : Scene) : Type 0 where
  pub nodes : (n : ℕ) → NodeLines n (s.nodes.node n) s.moments
  pub seats : (n : ℕ) → IsSeated s.moments n (s.nodes.node n)
  pub held : (n d : ℕ) → NodeHeld (first_cluster S.header) s.moments n d (s.nodes.node n)
  pub devices : IsAtDevices S.header s

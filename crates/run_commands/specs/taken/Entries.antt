-- The entries that one thing leaves that comes to a node for a line.
use Rattle.std.specs.Prelude.{ℕ, ◌≡◌, ◌||◌, Bool, false, List, [], ◌∷◌, Some, slice_get}
use Rattle.std.specs.List.{list_any}
use Rattle.cl_base.specs.declared.method.Outcome as method
use Rattle.status_report.specs.declared.entry.Entry.TheVariants as entry
use Rattle.status_report.specs.declared.packet_entry.PacketEntry.{PacketEntry}
use Rattle.history.specs.Moment.{Moment, Told}
use Rattle.history.specs.Order.{OfEvents}
use Rattle.node_model.specs.declared.cluster.Cluster.{Cluster}
use Rattle.node_model.specs.declared.input.Input.{Input}
use Rattle.node_model.specs.declared.output.Output.{Output}
use Rattle.node_model.specs.declared.output.Output.TheVariants.{Tells, Sends}
use Rattle.run_history.specs.Happenings.{given_by}
use Rattle.run_history.specs.Scenes.{Scene}
use Rattle.run_history.specs.Shapes.{Want}
use Rattle.run_history.specs.Shapes as want
use Rattle.run_lines.specs.Entries.{IsReady}

-- the entries of outputs without messages
abbrev pub told : List Output → List Moment
told [] = []
told (Tells e ∷ os) = Told e ∷ told os
told (Sends to b ∷ os) = told os

abbrev pub AreTold : List Output → Type 0
AreTold [] = Unit {0}
AreTold (Tells e ∷ os) = AreTold os
AreTold (Sends to b ∷ os) = ⊥

-- whether one of them tells an entry that passes the test
abbrev pub any_told : (Moment → Bool) → List Output → Bool
any_told test [] = false
any_told test (Tells e ∷ os) = test (Told e) || any_told test os
any_told test (Sends to b ∷ os) = any_told test os

-- the first output is the first entry
abbrev pub FirstTold : List Output → List Moment → Type 0
FirstTold (Tells e ∷ os) entries = slice_get entries 0 ≡ Some (Told e)
FirstTold os entries = Unit {0}

-- Outputs leave these entries: beside what they tell there are lines of packets alone.
pub record Leave (os : List Output) (entries : List Moment) : Type 0 where
  pub first : FirstTold os entries
  pub all : AreTold os → entries ≡ told os
  pub any : (test : Moment → Bool) → ((e : PacketEntry) → test (Told (entry.Packet e)) ≡ false) → list_any test entries ≡ any_told test os

-- the entries of what node n gives, at some second and with some outcome of a method
pub record Comes (c : Cluster) (s : Scene) (n : ℕ) (i : Input) (entries : List Moment) : Type 0 where
  pub now : ℕ
  pub ends : method.Outcome
  pub leave : Leave (given_by c n now ends i s.nodes) entries

-- The entries of what is due: of one thing that comes to a node, and of a line that the world answers.
abbrev pub Leaves : Cluster → Scene → List Want → List Moment → Type 0
Leaves c s [] entries = entries ≡ []
Leaves c s (want.Note e ∷ wants) entries = entries ≡ Told (entry.Schedule e) ∷ []
Leaves c s (want.Take n i ∷ []) entries = Comes c s n i entries
Leaves c s wants entries = Unit {0}

-- what a law says of an event: of what was before it, of its line or part, and of its entries
abbrev pub EventLaw : Type 1
EventLaw = List Moment → Moment → List Moment → Type 0

-- the law holds of each event, once what is due has come
pub record Awaits (P : EventLaw) (c : Cluster) (s : Scene) (wants : List Want) : Type 0 where
  pub ready : IsReady s wants
  pub events : (later : List Moment) → Leaves c s wants later → OfEvents P later s.moments

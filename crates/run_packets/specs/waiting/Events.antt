-- An event under way: what is known of the scene before it, of its entries so far and of the scene now.
use Rattle.std.specs.Prelude.{◌≡◌, ◌⊎◌, ◌++◌, List, [], ◌∷◌}
use Rattle.std.specs.List.{AllByRecursion}
use Rattle.history.specs.Moment.{Moment, Part, Said}
use Rattle.history.specs.Order.{OfEvents}
use Rattle.node_model.specs.declared.cluster.Cluster.{Cluster}
use Rattle.run_history.specs.Happenings.{Happening, MayHappen, happened}
use Rattle.run_history.specs.Happenings.Happening.{Begins, Notes, Speaks}
use Rattle.run_history.specs.Scenes.{Scene, adding}
use Rattle.run_history.specs.Shapes.{Want}
use Rattle.run_history.specs.Shapes as want
use Rattle.run_lines.specs.Entries.{IsEntry, IsOfEvent}
use Rattle.schedule_text.specs.declared.event.Event.{Event}
use Rattle.schedule_text.specs.declared.line.Line.TheVariants as line
use Rattle.status_report.specs.declared.entry.Entry.TheVariants as entry
use Rattle.run_lines.proofs.Adds.{Adds, onto}

-- what a law says of an event: of what was before it, of its line or part, and of its entries
abbrev pub EventLaw : Type 1
EventLaw = List Moment → Moment → List Moment → Type 0

-- what is so of the scene before an event, of its entries so far, and of the scene now
abbrev pub Meanwhile : Type 1
Meanwhile = Scene → List Moment → Scene → Type 0

-- it happens within an event
abbrev pub IsWithin : Happening → Type 0
IsWithin (Speaks e) = ⊥
IsWithin (Begins e) = ⊥
IsWithin (Notes e) = IsOfEvent (entry.Schedule e)
IsWithin _ = Unit {0}

-- none of what is due ends a round
abbrev pub AreWithin : List Want → Type 0
AreWithin [] = Unit {0}
AreWithin (want.Note e ∷ wants) = IsOfEvent (entry.Schedule e) × AreWithin wants
AreWithin (w ∷ wants) = AreWithin wants

-- a line or a part, with which an event begins
abbrev pub IsOpening : Moment → Type 0
IsOpening (Said (line.Event e)) = Unit {0}
IsOpening (Part e) = Unit {0}
IsOpening _ = ⊥

pub record Goes (J : Meanwhile) (before : Scene) (entries : List Moment) (s t : Scene) : Type 0 where
  pub adds : Adds s.moments t.moments
  pub so : J before (entries ++ adds.entries) t

-- How the law is proved: something is so as each event begins, each thing that happens in it keeps it, and in the end the law is so. F is known of each scene.
pub record Way (c : Cluster) (F : Scene → Type 0) (J : Meanwhile) (P : EventLaw) : Type 0 where
  pub line_so : (s : Scene) (e : Event) → F s → J s [] (happened c s (Speaks e))
  pub part_so : (s : Scene) (e : Event) → F s → J s [] (adding (Part e) s)
  pub step_so : (before s : Scene) (entries : List Moment) (g : Happening) → IsWithin g → MayHappen c s g → F s → F (happened c s g) → J before entries s → Goes J before entries s (happened c s g)
  pub ends_so : (before s : Scene) (first : Moment) (entries : List Moment) → F before → F s → onto entries (first ∷ before.moments) ≡ s.moments → J before entries s → P before.moments first entries

pub record Underway (F : Scene → Type 0) (J : Meanwhile) (P : EventLaw) (s : Scene) : Type 0 where
  pub before : Scene
  pub first : Moment
  pub opens : IsOpening first
  pub entries : List Moment
  pub are : AllByRecursion IsEntry entries
  pub is : onto entries (first ∷ before.moments) ≡ s.moments
  pub known : F before
  pub past : OfEvents P [] before.moments
  pub so : J before entries s

-- an event is under way, or nothing is due
abbrev pub Awaits : (Scene → Type 0) → Meanwhile → EventLaw → Scene → List Want → Type 0
Awaits F J P s wants = Underway F J P s ⊎ ((wants ≡ []) × OfEvents P [] s.moments)

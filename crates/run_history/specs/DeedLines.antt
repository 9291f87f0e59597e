-- What moments add to those before them: the deeds of memberships, and that each `base` line stands right behind its start.
use Rattle.std.specs.Prelude.{ℕ, ◌+◌, ◌≡◌, ◌++◌, List, [], ◌∷◌, None}
use Rattle.status_report.specs.declared.entry.Entry.{Entry}
use Rattle.status_report.specs.declared.entry.Entry.TheVariants as entry
use Rattle.status_report.specs.declared.start_entry.StartEntry.{StartEntry}
use Rattle.status_report.specs.declared.start_entry.StartEntry.TheVariants as start_entry
use Rattle.history.specs.Deeds.{Deed, deeds}
use Rattle.history.specs.Moment.{Moment}
use Rattle.history.specs.Starts.{StartLines, base_due}
use Rattle.history.specs.Trace.{base}
use Rattle.node_model.specs.declared.output.Output.{Output}
use Rattle.node_model.specs.declared.output.Output.TheVariants.{Sends, Tells}
use Rattle.run_history.specs.Scenes.{Scene}

-- no `base` line is to come
pub record Closed (moments : List Moment) : Type 0 where
  pub lines : StartLines moments
  pub due : base_due moments ≡ None

-- the moments before were closed, and so are those after, which have these deeds more
pub record Adds (before after : List Moment) (more : List Deed) : Type 0 where
  pub closed : Closed after
  pub deeds : deeds after ≡ more ++ deeds before

-- an entry that is no line of a membership's story
abbrev pub IsAsideStart : StartEntry → Type 0
IsAsideStart (start_entry.Started e members held count) = ⊥
IsAsideStart (start_entry.Base e v words) = ⊥
IsAsideStart (start_entry.Adopted e n resource flags) = Unit {0}

abbrev pub IsAside : Entry → Type 0
IsAside (entry.Start e) = IsAsideStart e
IsAside (entry.Update e) = ⊥
IsAside _ = Unit {0}

-- the `base` lines of a start, from place `before` on
abbrev pub onto_bases : ℕ → ℕ → List (List ℕ) → List Moment → List Moment
onto_bases e before [] moments = moments
onto_bases e before (text ∷ texts) moments = onto_bases e (before + 1) texts (base e (before + 1) text ∷ moments)

-- what a scene adds to one before it, which has the same nodes
pub record Passes (s t : Scene) (more : List Deed) : Type 0 where
  pub adds : Adds s.moments t.moments more
  pub nodes : t.nodes ≡ s.nodes

-- messages, and entries that are no line of a membership's story
abbrev pub AreAside : List Output → Type 0
AreAside [] = Unit {0}
AreAside (Tells e ∷ os) = IsAside e × AreAside os
AreAside (Sends to b ∷ os) = AreAside os

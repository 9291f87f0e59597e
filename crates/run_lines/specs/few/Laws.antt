-- What is proved of each run of the world, as things that happen: how many commands a node does one after another.
use Rattle.std.specs.Prelude.{ℕ, ◌≤◌, ◌<◌, ◌^◌, List, ◌∷◌, length}
use Rattle.cl_base.specs.Limits.{most_devices}
use Rattle.cl_base.specs.declared.header.Header.{Header}
use Rattle.history.specs.Moment.{Moment}
use Rattle.history.specs.Order.{Always}
use Rattle.world_model.specs.First.{first_cluster}
use Rattle.run_history.specs.Happenings.{Happening, MayAllHappen, all_happened}
use Rattle.run_history.specs.Scenes.{first_scene}
use Rattle.run_history.specs.Shapes.{Due, ShapedFrom, nothing}
use Rattle.run_lines.specs.rounds.Laws.{FewCommands, in_a_row}

-- P of the lines of each run, whose parts come in their order
abbrev pub OfEachRun : (List Moment → Type 0) → Type 0
OfEachRun P = (h : Header) (cells : ℕ) (hs : List Happening) (last : Due) → length h.devices ≤ most_devices → h.cluster < 2 ^ 32 → MayAllHappen (first_cluster h) (first_scene h cells) hs
    → ShapedFrom (first_cluster h) (first_scene h cells) nothing hs last
    → P (all_happened (first_cluster h) (first_scene h cells) hs).moments

-- so many commands a node does at most, one after another
abbrev pub most_in_a_row : ℕ
most_in_a_row = 2226

abbrev pub IsBounded : List Moment → Moment → Type 0
IsBounded before x = (n : ℕ) → in_a_row n (x ∷ before) ≤ most_in_a_row

abbrev pub RowsOfEachRun : Type 0
RowsOfEachRun = OfEachRun (Always IsBounded)

-- So in one round no node does as many as the world lets it do at most.
abbrev pub FewCommandsInEachRun : Type 0
FewCommandsInEachRun = OfEachRun FewCommands

-- With whom an attempt begins: with nodes of the header.
use Rattle.std.specs.Prelude.{ℕ, List}
use Rattle.std.specs.List.{AllByRecursion}
use Rattle.history.specs.Moment.{Moment}
use Rattle.history.specs.Trace.{attempt}
use Rattle.node_model.specs.declared.output.Output.{Output}
use Rattle.node_model.specs.declared.output.Output.TheVariants.{Sends, Tells}
use Rattle.status_report.specs.declared.attempt_entry.AttemptEntry.TheVariants as attempt_entry
use Rattle.status_report.specs.declared.entry.Entry.{Entry}
use Rattle.status_report.specs.declared.entry.Entry.TheVariants as entry

-- the members of an attempt that begins are so
abbrev pub LineBegun : (ℕ → Type 0) → Entry → Type 0
LineBegun Ok (entry.Attempt (attempt_entry.Begun e members)) = Ok members
LineBegun Ok _ = Unit {0}

abbrev pub OutputBegun : (ℕ → Type 0) → Output → Type 0
OutputBegun Ok (Tells e) = LineBegun Ok e
OutputBegun Ok (Sends to b) = Unit {0}

abbrev pub AllBegun : (ℕ → Type 0) → List Output → Type 0
AllBegun Ok os = AllByRecursion (OutputBegun Ok) os

abbrev pub MomentBegun : (ℕ → Type 0) → List Moment → Moment → Type 0
MomentBegun Ok before (attempt e members) = Ok members
MomentBegun Ok before _ = Unit {0}

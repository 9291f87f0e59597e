-- The members that were asked to seize a quorum device, the last of them first, as what a node gives and as lines tell them.
use Rattle.std.specs.Prelude.{ℕ, ◌==◌, ◌&&◌, ◌≡◌, ◌^◌, nat_lt, true, List, [], ◌∷◌, if◌then◌else◌}
use Rattle.history.specs.Moment.{Moment}
use Rattle.history.specs.Names.{named}
use Rattle.history.specs.Queue as told
use Rattle.history.specs.Setting.{coordinator}
use Rattle.history.specs.Trace.{attempt, sent}
use Rattle.node_model.specs.declared.output.Output.{Output}
use Rattle.node_model.specs.declared.output.Output.TheVariants.{Sends, Tells}
use Rattle.status_report.specs.declared.attempt_entry.AttemptEntry.TheVariants as attempt_entry
use Rattle.status_report.specs.declared.entry.Entry.TheVariants as entry
use Rattle.run_outcomes.specs.tasks.Asks.{asked_by_body}

-- where attempt e begins, nobody was asked
abbrev pub asked_by_output : ℕ → ℕ → Output → List ℕ → List ℕ
asked_by_output e d (Sends to b) asked = asked_by_body d to b asked
asked_by_output e d (Tells (entry.Attempt (attempt_entry.Begun f members))) asked = if f == e then [] else asked
asked_by_output e d (Tells told) asked = asked

-- with what a node gives
abbrev pub asked_by_outputs : ℕ → ℕ → List Output → List ℕ → List ℕ
asked_by_outputs e d [] asked = asked
asked_by_outputs e d (o ∷ os) asked = asked_by_outputs e d os (asked_by_output e d o asked)

-- by the lines, for attempt e
abbrev pub asked_in : ℕ → ℕ → List Moment → List ℕ
asked_in e d [] = []
asked_in e d (attempt f members ∷ before) = if f == e then [] else asked_in e d before
asked_in e d (sent p c m called bytes ∷ before) = if (c == coordinator e) && told.is_ask d (named called) then m ∷ asked_in e d before else asked_in e d before
asked_in e d (_ ∷ before) = asked_in e d before

-- a packet number is left
abbrev pub IsLeft : ℕ → Type 0
IsLeft next = nat_lt next (2 ^ 63) ≡ true

-- what node n tells begins no attempt of another's
abbrev pub BeginsOwn : ℕ → Output → Type 0
BeginsOwn n (Tells (entry.Attempt (attempt_entry.Begun f members))) = coordinator f ≡ n
BeginsOwn n _ = Unit {0}

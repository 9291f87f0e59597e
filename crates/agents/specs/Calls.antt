-- Who carries out a call, and how it ends.
use Rattle.std.specs.Prelude.{ℕ, List, map, Option, None, Some, position}
use Rattle.std.specs.List.{slice_get, slice_set}
use Rattle.std.specs.Str.{bytes_eq}
use Rattle.cl_base.specs.declared.agent.Call.{Call}
use Rattle.cl_base.specs.declared.method.Outcome.{Outcome}
use Rattle.cl_base.specs.declared.method.Outcome.TheVariants.{Failure}

-- an agent: its name, and what it has kept of the calls so far
pub record AgentState : Type 0 where
  pub name : List ℕ
  pub kept : List ℕ

-- agents of one type, by what names them and what tells what they have kept
abbrev pub states_of : {A : Type 0} → (A → List ℕ) → (A → List ℕ) → List A → List AgentState
states_of named kept agents = map (λ a. record { name = named a; kept = kept a }) agents

-- what agents make of a call, by what they have kept: how it ends, and what they keep then
pub record AgentRules : Type 0 where
  pub outcome : List ℕ → Call → Outcome
  pub then_kept : List ℕ → Call → List ℕ

abbrev pub rules_of : (List ℕ → Call → Outcome) → (List ℕ → Call → List ℕ) → AgentRules
rules_of outcome then_kept = record { outcome = outcome; then_kept = then_kept }

-- how a call ends, and the agents after it
pub record Called : Type 0 where
  pub outcome : Outcome
  pub agents : List AgentState

-- The agent at this place carries it out.

abbrev pub after_call : AgentRules → AgentState → Call → AgentState
after_call rules a call = record a { kept = rules.then_kept a.kept call }

abbrev pub called_by : AgentRules → List AgentState → Call → ℕ → Option AgentState → Called
called_by rules agents call place None = record { outcome = Failure; agents = agents }
called_by rules agents call place (Some a) = record { outcome = rules.outcome a.kept call; agents = slice_set agents place (after_call rules a call) }

abbrev pub called_at : AgentRules → List AgentState → Call → Option ℕ → Called
called_at rules agents call None = record { outcome = Failure; agents = agents }
called_at rules agents call (Some place) = called_by rules agents call place (slice_get agents place)

-- The first agent of the name carries out the call. Without one it is a failure.
abbrev pub called : AgentRules → List AgentState → List ℕ → Call → Called
called rules agents name call = called_at rules agents call (position (λ a. bytes_eq a.name name) agents)

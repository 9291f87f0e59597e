-- How a call ends: as it was queued; else as the agent that the type names says; else, where no such agent was handed in, it fails.
use Rattle.std.specs.Prelude.{◌≡◌, ℕ, ◌==◌, ◌&&◌, Bool, false, if◌then◌else◌, List, [], ◌∷◌, ◌++◌, drop, Option, Some, None, slice_get}
use Rattle.std.specs.Str.{bytes_eq}
use Rattle.cl_base.specs.Methods.{place_of}
use Rattle.cl_base.specs.declared.agent.Call.{Call}
use Rattle.cl_base.specs.declared.method.Method.{Method}
use Rattle.cl_base.specs.declared.method.Outcome.{Outcome}
use Rattle.cl_base.specs.declared.method.Outcome.TheVariants.{Failure}
use Rattle.rgm_member.specs.Settings.{agent_of}
use Rattle.history.specs.Moment.{Moment}
use Rattle.history.specs.Order.{Always}
use Rattle.group_history.specs.Setting.{Groups, Agent, second_of, config_of}
use Rattle.group_history.specs.Doings.{called, done, queues}

-- ---- queued outcomes: a call takes the first that fits

abbrev pub is_same_call : ℕ → Method → List ℕ → ℕ → Method → List ℕ → Bool
is_same_call n method r m other s = (m == n) && (place_of other == place_of method) && bytes_eq s r

-- those that are left for a call, the oldest first
abbrev pub queued_for : ℕ → Method → List ℕ → List Moment → List Outcome
queued_for n method r [] = []
queued_for n method r (queues m s other outcome ∷ before) =
    if is_same_call n method r m other s then queued_for n method r before ++ outcome ∷ [] else queued_for n method r before
queued_for n method r (called e m other s ∷ before) =
    if is_same_call n method r m other s then drop 1 (queued_for n method r before) else queued_for n method r before
queued_for n method r (_ ∷ before) = queued_for n method r before

-- the outcome that the call gets by the queue
abbrev pub queued : ℕ → Method → List ℕ → List Moment → Option Outcome
queued n method r before = slice_get (queued_for n method r before) 0

-- ---- agents

-- as the agent is asked
abbrev pub call_of : ℕ → Method → List ℕ → List Moment → Call
call_of n method r before = record { node = n; resource = r; method = method; second = second_of before }

abbrev pub is_name : List ℕ → Option (List ℕ) → Bool
is_name name None = false
is_name name (Some other) = bytes_eq other name

abbrev pub is_unqueued : Option Outcome → Bool
is_unqueued None = Bool.true
is_unqueued (Some outcome) = false

-- whether the agent of this name is asked for the call
abbrev pub asks : Groups → List ℕ → ℕ → ℕ → Method → List ℕ → List Moment → Bool
asks S name e n method r before = is_name name (agent_of (config_of S e before) r) && is_unqueued (queued n method r before)

-- what the agent of this name has kept of the calls so far
abbrev pub kept_by : Groups → List ℕ → Agent → List Moment → List ℕ
kept_by S name a [] = a.first
kept_by S name a (called e n method r ∷ before) =
    if asks S name e n method r before then a.rules.then_kept (kept_by S name a before) (call_of n method r before) else kept_by S name a before
kept_by S name a (_ ∷ before) = kept_by S name a before

abbrev pub said_by : Groups → List ℕ → Call → List Moment → Option Agent → Outcome
said_by S name call before None = Failure
said_by S name call before (Some a) = a.rules.outcome (kept_by S name a before) call

abbrev pub said_for : Groups → Call → List Moment → Option (List ℕ) → Outcome
said_for S call before None = Failure
said_for S call before (Some name) = said_by S name call before (S.agent name)

-- ---- together

abbrev pub queued_or : Option Outcome → Outcome → Outcome
queued_or None other = other
queued_or (Some outcome) other = outcome

-- how a call ends that comes after these moments; its type is that of the configuration in force in e
abbrev pub outcome_due : Groups → ℕ → ℕ → Method → List ℕ → List Moment → Outcome
outcome_due S e n method r before =
    queued_or (queued n method r before) (said_for S (call_of n method r before) before (agent_of (config_of S e before) r))

-- the call stands right before its `done` line (Calls)
abbrev pub EndsSo : Groups → List Moment → Moment → Type 0
EndsSo S (x ∷ before) (done e n method r outcome) = outcome ≡ outcome_due S e n method r before
EndsSo S before _ = Unit {0}

abbrev pub OutcomesAreDue : Groups → List Moment → Type 0
OutcomesAreDue S moments = Always (EndsSo S) moments

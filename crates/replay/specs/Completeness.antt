-- A whole schedule, in the grammar and within the limits; and what comes of it where neither the source nor the sink fails: all of it is answered, or memory ran out.
use Rattle.std.specs.Prelude.{◌≡◌, ℕ, ◌+◌, ◌-◌, ◌^◌, ◌<◌, ◌≤◌, ◌==◌, true, if◌then◌else◌, List, [], ◌∷◌, ◌++◌, length, Option, Some, Result, Ok, Err}
use Rattle.std.specs.List.{AllByRecursion}
use Rattle.std.specs.Io.KnownBytes.{Appends}
use Rattle.agents.specs.Calls.{AgentState}
use Rattle.cl_base.specs.declared.header.Header.{Header}
use Rattle.schedule_text.specs.declared.header.Head.{Head}
use Rattle.schedule_text.specs.declared.header.Head.TheVariants.{Pr, Cluster}
use Rattle.schedule_text.specs.declared.header.HeaderState.{HeaderState}
use Rattle.schedule_text.specs.declared.header.HeaderState.TheVariants.{Opening}
use Rattle.schedule_text.specs.declared.kind.Kind.{Kind}
use Rattle.schedule_text.specs.declared.line.ClusterLine.{ClusterLine}
use Rattle.schedule_text.specs.declared.line.ClusterLine.TheVariants as cluster
use Rattle.schedule_text.specs.declared.line.PrLine.{PrLine}
use Rattle.schedule_text.specs.declared.line.PrLine.TheVariants as pr
use Rattle.schedule_text.specs.declared.line.SoFar.{SoFar}
use Rattle.schedule_text.specs.Headers.{Over, header_step, head_of}
use Rattle.schedule_text.specs.Lines.{cluster_line_of, pr_line_of, so_far_after_event}
use Rattle.grammar_laws.specs.Reads.{LeadTo}
use Rattle.replay.specs.declared.making.Making.{Making}
use Rattle.replay.specs.declared.status.Status.{Status}
use Rattle.replay.specs.declared.status.Status.TheVariants as status
use Rattle.interpreter.specs.declared.task.Task.{Task}
use Rattle.interpreter.specs.Sessions.{first_so_far}
use Rattle.interpreter.specs.Outcomes.{outcome_of, pieces, whole_text}
use Rattle.replay.specs.Replays.{Completes}
use Rattle.replay.specs.Runs.{IsRun}
use Rattle.replay.specs.Gens.{IsGen, counts_made, summary}

-- ---- in the grammar, and within the limits

-- the lines of these pieces: the last is a line where it is not empty
abbrev pub lines_of : List (List ℕ) → List (List ℕ)
lines_of [] = []
lines_of (last ∷ []) = if length last == 0 then [] else last ∷ []
lines_of (line ∷ next ∷ more) = line ∷ lines_of (next ∷ more)

-- a line has at most 4,096 bytes
abbrev pub IsShort : List ℕ → Type 0
IsShort line = length line ≤ 4096

-- behind so many lines there is a place for one of at most 4,096 bytes
abbrev pub IsWithin : ℕ → List ℕ → Type 0
IsWithin read line = (read < 200000) × IsShort line

-- what was read is a line of the grammar, and the rest is in order; behind the line that ends the schedule nothing is asked
abbrev pub IsPrLine : Result PrLine Kind → Type 0 → Type 0
IsPrLine (Ok pr.Blank) rest = rest
IsPrLine (Ok pr.End) rest = Unit {0}
IsPrLine (Ok pr.Power) rest = rest
IsPrLine (Ok (pr.Command sender command)) rest = rest
IsPrLine (Err kind) rest = ⊥

abbrev pub IsClusterLine : Result ClusterLine Kind → SoFar → (SoFar → Type 0) → Type 0
IsClusterLine (Ok cluster.Blank) s rest = rest s
IsClusterLine (Ok cluster.End) s rest = Unit {0}
IsClusterLine (Ok (cluster.Event event)) s rest = rest (so_far_after_event s event)
IsClusterLine (Err kind) s rest = ⊥

-- these lines, behind so many, are those of a reservation schedule, each within the limits
abbrev pub ArePrLines : ℕ → List (List ℕ) → Type 0
ArePrLines read [] = Unit {0}
ArePrLines read (line ∷ lines) = IsWithin read line × IsPrLine (pr_line_of line) (ArePrLines (read + 1) lines)

-- or of a cluster schedule, each allowed by the clock and the rounds of those before it
abbrev pub AreClusterLines : Header → SoFar → ℕ → List (List ℕ) → Type 0
AreClusterLines h s read [] = Unit {0}
AreClusterLines h s read (line ∷ lines) =
    IsWithin read line × IsClusterLine (cluster_line_of h s line) s (λ next. AreClusterLines h next (read + 1) lines)

abbrev pub AreLinesBehind : Head → ℕ → List (List ℕ) → Type 0
AreLinesBehind (Pr senders) read lines = ArePrLines read lines
AreLinesBehind (Cluster header) read lines = AreClusterLines header first_so_far read lines

-- the header ends before the first of these lines
abbrev pub EndsBefore : HeaderState → List (List ℕ) → Type 0
EndsBefore state [] = Unit {0}
EndsBefore state (line ∷ lines) = header_step state line ≡ Over

-- The bytes are a whole schedule: lines that lead to a header, and behind it lines that it allows; no line that is read has more than 4,096 bytes, and there
-- are at most 200,000 of them.
pub record IsSchedule (bytes : List ℕ) : Type 0 where
  pub heading : List (List ℕ)
  pub lines : List (List ℕ)
  pub parts : lines_of (pieces bytes) ≡ heading ++ lines
  pub state : HeaderState
  pub leads : LeadTo Opening heading state
  pub head : Head
  pub known : head_of state ≡ Some head
  pub short : AllByRecursion IsShort heading
  pub few : length heading ≤ 200000
  pub over : EndsBefore state lines
  pub behind : AreLinesBehind head (length heading) lines

-- ---- where nothing fails

-- the count stays, and does not stand at the end of its type, where it could not rise
abbrev pub Stays : ℕ → ℕ → Type 0
Stays before now = (now ≡ before) × (before < 2 ^ 64 - 1)

-- all of the text was written, or memory ran out
abbrev pub IsComplete : Status → Option (List ℕ) → Option (List ℕ) → List ℕ → Type 0
IsComplete status.Done held held' text = Appends held held' text
IsComplete status.NoMemory held held' text = Unit {0}
IsComplete _ held held' text = ⊥

-- A whole schedule is read to its end, under each task and whatever agents carry out the methods.
abbrev pub SchedulesEnd : Type 0
SchedulesEnd = (task : Task) (agents : List AgentState) (bytes : List ℕ) → IsSchedule bytes → Completes (outcome_of task agents true bytes).ending

-- Where the source has known bytes that are read to their end, and no count of faults rises, a run is complete.
abbrev pub RunsAreComplete : Type 0
RunsAreComplete = (task : Task) (agents : List AgentState) (bytes : List ℕ) (left left' held held' : Option (List ℕ)) (reads reads' writes writes' : ℕ) (result : Status)
    → IsRun task agents left left' held held' reads reads' writes writes' result → left ≡ Some bytes
    → Completes (outcome_of task agents true bytes).ending → Stays reads reads' → Stays writes writes'
    → IsComplete result held held' (whole_text task (outcome_of task agents true bytes))

-- So is `gen`, where the sink's count does not rise.
abbrev pub GensAreComplete : Type 0
GensAreComplete = (m : Making) (agents : List AgentState) (left left' held held' : Option (List ℕ)) (reads reads' writes writes' : ℕ) (result : Status)
    → IsGen m agents left left' held held' reads reads' writes writes' result → Stays writes writes'
    → IsComplete result held held' (summary (10 + m.count) (counts_made m agents))

-- The text of each outcome is that of the first steps or events of its schedule.
use Rattle.std.proofs.Common.{◌≡◌, ℕ, ◌+◌, ◌≤◌, nat_le, nat_lt, suc, Bool, true, false, ◌||◌, if◌then◌else◌, List, [], ◌∷◌, ◌++◌, length, take, Option, Some, None, Result, Ok, Err, refl, sym, ap, subst, arith, ltb-false}
use Rattle.std.specs.List.{AllByRecursion, flat_map}
use Rattle.agents.specs.Calls.{AgentState}
use Rattle.cl_base.specs.declared.header.Header.{Header}
use Rattle.pgr_device.specs.Device.{Device, fresh}
use Rattle.pgr_device.specs.Spc as spc
use Rattle.pgr_device.specs.declared.run.Step.{Step}
use Rattle.schedule_text.specs.declared.event.Event.{Event}
use Rattle.schedule_text.specs.declared.event.Event.TheVariants as event
use Rattle.schedule_text.specs.declared.header.Head.{Head}
use Rattle.schedule_text.specs.declared.header.Head.TheVariants.{Pr, Cluster}
use Rattle.schedule_text.specs.declared.header.HeaderState.{HeaderState}
use Rattle.schedule_text.specs.declared.kind.Kind.{Kind}
use Rattle.schedule_text.specs.declared.line.ClusterLine.{ClusterLine}
use Rattle.schedule_text.specs.declared.line.ClusterLine.TheVariants as cluster
use Rattle.schedule_text.specs.declared.line.PrLine.{PrLine}
use Rattle.schedule_text.specs.declared.line.PrLine.TheVariants as line
use Rattle.schedule_text.specs.declared.line.SoFar.{SoFar}
use Rattle.schedule_text.specs.Headers.{HeaderStep, More, Over, Bad, head_of, header_step}
use Rattle.schedule_text.specs.Lines.{cluster_line_of, pr_line_of, so_far_after_event}
use Rattle.status_report.specs.declared.entry.Entry.TheVariants.{Answered, Powered}
use Rattle.status_report.specs.Lines.{printed}
use Rattle.grammar_laws.specs.Reads.{HasFewBytes}
use Rattle.grammar_laws.proofs.Lengths.{commands_fit_their_lines}
use Rattle.world_model.specs.First.{first_world}
use Rattle.world_model.specs.Lines.{line_on}
use Rattle.world_model.specs.Worlds.{WorldState, play}
use Rattle.interpreter.specs.declared.session.Body.{Body}
use Rattle.interpreter.specs.declared.session.Body.TheVariants.{Clustering, Replaying}
use Rattle.interpreter.specs.declared.session.State.{State}
use Rattle.interpreter.specs.declared.session.State.TheVariants.{Heading, Reading}
use Rattle.interpreter.specs.declared.task.Task.TheVariants.{Run}
use Rattle.interpreter.specs.Sessions.{body_of, clustered_by, entered, first_so_far, heading, replayed, step}
use Rattle.interpreter.specs.Outcomes.{Open, Outcome, TooLarge, at_end, end_of, is_too_large, onward, outcome, silent}
use Rattle.replay.specs.Replays.{OfCluster, OfDevice, Schedule, behind, entries, events_of, schedule_of, stepped, steps_of, texts_of, with_event, with_line}
use Rattle.replay.proofs.Replays.{empty_outcome, last_outcome, line_outcome}

-- ---- so many of the first

pub record HasFirst (d : Device) (steps : List Step) (text : List ℕ) : Type 0 where
  pub count : ℕ
  pub written : text ≡ flat_map printed (entries d (take count steps))

pub record WritesFirst (w : WorldState) (events : List Event) (text : List ℕ) : Type 0 where
  pub count : ℕ
  pub written : text ≡ texts_of w (take count events)
  -- the commands among them are no longer than a line that is read
  pub short : AllByRecursion (HasFewBytes 4096) (take count events)

-- the text of a schedule
abbrev pub IsFirstOf : Option Schedule → List AgentState → List ℕ → Type 0
IsFirstOf None agents text = text ≡ []
IsFirstOf (Some (OfDevice senders steps)) agents text = HasFirst (fresh senders) steps text
IsFirstOf (Some (OfCluster h events)) agents text = WritesFirst (first_world h 65536 agents) events text

-- nothing is the text of none
no_step : (d : Device) (steps : List Step) → HasFirst d steps []
no_step d steps = record { count = 0; written = none steps }
  where
    none : (s : List Step) → [] ≡ flat_map printed (entries d (take 0 s))
    none [] = refl
    none (x ∷ s) = refl

no_event : (w : WorldState) (events : List Event) → WritesFirst w events []
no_event w events = record { count = 0; written = none events; short = none_long events }
  where
    none : (es : List Event) → [] ≡ texts_of w (take 0 es)
    none [] = refl
    none (e ∷ es) = refl

    none_long : (es : List Event) → AllByRecursion (HasFewBytes 4096) (take 0 es)
    none_long [] = tt
    none_long (e ∷ es) = tt

nothing_first : (o : Option Schedule) (agents : List AgentState) → IsFirstOf o agents []
nothing_first None agents = refl
nothing_first (Some (OfDevice senders steps)) agents = no_step (fresh senders) steps
nothing_first (Some (OfCluster h events)) agents = no_event (first_world h 65536 agents) events

-- ---- a line that is not too large

-- a command that the line is read as has as many bytes as a line that is read, at most
abbrev SaysFew : List ℕ → Type 0
SaysFew bytes = (h : Header) (s : SoFar) (e : Event) → cluster_line_of h s bytes ≡ Ok (cluster.Event e) → HasFewBytes 4096 e

more_bytes : (few most : ℕ) (e : Event) → few ≤ most → HasFewBytes few e → HasFewBytes most e
more_bytes few most (event.Command n words) le is = omega (arith, le, is)
more_bytes few most _ le is = tt

right_false : (a b : Bool) → (a || b) ≡ false → b ≡ false
right_false true b h = absurd (cc)
right_false false b h = h

pub short_line : (bytes : List ℕ) → length bytes ≤ 4096 → SaysFew bytes
short_line bytes few h s e is = more_bytes (length bytes) 4096 e few (commands_fit_their_lines h s bytes e is)

small_line : (read : ℕ) (bytes : List ℕ) → is_too_large read bytes ≡ false → SaysFew bytes
small_line read bytes small = short_line bytes (ltb-false 4096 (length bytes) (right_false (nat_le 200000 read) (nat_lt 4096 (length bytes)) small))

-- ---- an outcome that is one of a few

chosen : (large : Bool) (n : ℕ) (o : Outcome) (T : List ℕ → Type 0) → T [] → (large ≡ false → T o.text) → T (if large then silent (TooLarge n) else o).text
chosen true n o T none is = none
chosen false n o T none is = is refl

ended_chosen : (large ended : Bool) (n : ℕ) (o : Outcome) (T : List ℕ → Type 0) → T [] → (large ≡ false → T o.text)
    → T (if large then silent (TooLarge n) else if ended then o else silent Open).text
ended_chosen true ended n o T none is = none
ended_chosen false true n o T none is = is refl
ended_chosen false false n o T none is = none

empty_chosen : (ended : Bool) (is : Result Body Kind) (read : ℕ) (T : List ℕ → Type 0) → T [] → T (if ended then end_of is read else silent Open).text
empty_chosen true (Ok body) read T none = none
empty_chosen true (Err kind) read T none = none
empty_chosen false is read T none = none

at_end_silent : (is : Result Body Kind) (read : ℕ) (T : List ℕ → Type 0) → T [] → T (end_of is read).text
at_end_silent (Ok body) read T none = none
at_end_silent (Err kind) read T none = none

-- The outcome of lines has a text so, where one line and what follows has: it stands before others, or is the last, or nothing is left.
at_lines : (ended : Bool) (bytes next : List ℕ) (lines : List (List ℕ)) (s : State) (read : ℕ) (T : List ℕ → Type 0) → T []
    → (SaysFew bytes → T (onward (step Run s bytes) read (λ now. outcome Run ended (next ∷ lines) now (read + 1))).text) → T (outcome Run ended (bytes ∷ next ∷ lines) s read).text
at_lines ended bytes next lines s read T none is =
    subst (λ (o : Outcome). T o.text) (sym (line_outcome ended bytes next lines s read))
    (chosen (is_too_large read bytes) (read + 1) (onward (step Run s bytes) read (λ now. outcome Run ended (next ∷ lines) now (read + 1))) T none
    (λ small. is (small_line read bytes small)))

at_last : (ended : Bool) (b : ℕ) (bytes : List ℕ) (s : State) (read : ℕ) (T : List ℕ → Type 0) → T []
    → (SaysFew (b ∷ bytes) → T (onward (step Run s (b ∷ bytes)) read (λ now. end_of (at_end Run now) (read + 1))).text) → T (outcome Run ended ((b ∷ bytes) ∷ []) s read).text
at_last ended b bytes s read T none is =
    subst (λ (o : Outcome). T o.text) (sym (last_outcome ended b bytes s read))
    (ended_chosen (is_too_large read (b ∷ bytes)) ended (read + 1) (onward (step Run s (b ∷ bytes)) read (λ now. end_of (at_end Run now) (read + 1))) T none
    (λ small. is (small_line read (b ∷ bytes) small)))

at_empty : (ended : Bool) (s : State) (read : ℕ) (T : List ℕ → Type 0) → T [] → T (outcome Run ended ([] ∷ []) s read).text
at_empty ended s read T none = subst (λ (o : Outcome). T o.text) (sym (empty_outcome ended s read)) (empty_chosen ended (at_end Run s) read T none)

-- ---- lines behind the header

replayed_first : (d : Device) (r : Result PrLine Kind) (read : ℕ) (rest : State → Outcome) (steps : List Step) → ((next : Device) → HasFirst next steps (rest (Reading (Replaying next))).text)
    → HasFirst d (with_line r steps) (onward (replayed d r) read rest).text
replayed_first d (Err kind) read rest steps later = no_step d []
replayed_first d (Ok line.End) read rest steps later = no_step d []
replayed_first d (Ok line.Blank) read rest steps later = later d
replayed_first d (Ok line.Power) read rest steps later = record { count = suc (later d).count; written = ap (λ (t : List ℕ). printed Powered ++ t) (later d).written }
replayed_first d (Ok (line.Command node command)) read rest steps later = record {
  count = suc (later (spc.step d node command).after).count;
  written = ap (λ (t : List ℕ). printed (Answered (spc.step d node command).answer) ++ t) (later (spc.step d node command).after).written;
}

clustered_first : (h : Header) (s : SoFar) (w : WorldState) (r : Result ClusterLine Kind) (read : ℕ) (rest : State → Outcome) (events : SoFar → List Event)
    → ((e : Event) → r ≡ Ok (cluster.Event e) → HasFewBytes 4096 e)
    → ((next : SoFar) (now : WorldState) → WritesFirst now (events next) (rest (Reading (Clustering h next now))).text) → WritesFirst w (with_event r s events) (onward (clustered_by h s w r) read rest).text
clustered_first h s w (Err kind) read rest events few later = no_event w []
clustered_first h s w (Ok cluster.End) read rest events few later = no_event w []
clustered_first h s w (Ok cluster.Blank) read rest events few later = later s w
clustered_first h s w (Ok (cluster.Event e)) read rest events few later =
    let after = later (so_far_after_event s e) (line_on e (play w [])).world in
    record { count = suc after.count; written = ap (λ (t : List ℕ). (line_on e (play w [])).text ++ t) after.written; short = (few e refl, after.short) }

device_first : (ended : Bool) (lines : List (List ℕ)) (d : Device) (read : ℕ) → HasFirst d (steps_of lines) (outcome Run ended lines (Reading (Replaying d)) read).text
device_first ended [] d read = no_step d []
device_first ended ([] ∷ []) d read = at_empty ended (Reading (Replaying d)) read (λ (t : List ℕ). HasFirst d (steps_of ([] ∷ [])) t) (no_step d (steps_of ([] ∷ [])))
device_first ended ((b ∷ bytes) ∷ []) d read =
    at_last ended b bytes (Reading (Replaying d)) read (λ (t : List ℕ). HasFirst d (steps_of ((b ∷ bytes) ∷ [])) t) (no_step d (steps_of ((b ∷ bytes) ∷ [])))
    (λ few. replayed_first d (pr_line_of (b ∷ bytes)) read (λ now. end_of (at_end Run now) (read + 1)) [] (λ next. no_step next []))
device_first ended (bytes ∷ next ∷ lines) d read =
    at_lines ended bytes next lines (Reading (Replaying d)) read (λ (t : List ℕ). HasFirst d (steps_of (bytes ∷ next ∷ lines)) t) (no_step d (steps_of (bytes ∷ next ∷ lines)))
    (λ few. replayed_first d (pr_line_of bytes) read (λ now. outcome Run ended (next ∷ lines) now (read + 1)) (steps_of (next ∷ lines)) (λ after. device_first ended (next ∷ lines) after (read + 1)))

world_first : (ended : Bool) (lines : List (List ℕ)) (h : Header) (s : SoFar) (w : WorldState) (read : ℕ) → WritesFirst w (events_of h s lines) (outcome Run ended lines (Reading (Clustering h s w)) read).text
world_first ended [] h s w read = no_event w []
world_first ended ([] ∷ []) h s w read = at_empty ended (Reading (Clustering h s w)) read (λ (t : List ℕ). WritesFirst w (events_of h s ([] ∷ [])) t) (no_event w (events_of h s ([] ∷ [])))
world_first ended ((b ∷ bytes) ∷ []) h s w read =
    at_last ended b bytes (Reading (Clustering h s w)) read (λ (t : List ℕ). WritesFirst w (events_of h s ((b ∷ bytes) ∷ [])) t) (no_event w (events_of h s ((b ∷ bytes) ∷ [])))
    (λ few. clustered_first h s w (cluster_line_of h s (b ∷ bytes)) read (λ now. end_of (at_end Run now) (read + 1)) (λ next. []) (few h s) (λ next now. no_event now []))
world_first ended (bytes ∷ next ∷ lines) h s w read =
    at_lines ended bytes next lines (Reading (Clustering h s w)) read (λ (t : List ℕ). WritesFirst w (events_of h s (bytes ∷ next ∷ lines)) t) (no_event w (events_of h s (bytes ∷ next ∷ lines)))
    (λ few. clustered_first h s w (cluster_line_of h s bytes) read (λ now. outcome Run ended (next ∷ lines) now (read + 1)) (λ after. events_of h after (next ∷ lines)) (few h s)
    (λ after now. world_first ended (next ∷ lines) h after now (read + 1)))

-- ---- lines of the header

-- what the lines behind a header are answered
abbrev IsAnswered : List (List ℕ) → (State → Outcome) → Type 0
IsAnswered lines rest = ((d : Device) → HasFirst d (steps_of lines) (rest (Reading (Replaying d))).text)
    × ((h : Header) (s : SoFar) (w : WorldState) → WritesFirst w (events_of h s lines) (rest (Reading (Clustering h s w))).text)

over_first : (found : Option Head) (agents : List AgentState) (bytes : List ℕ) (lines : List (List ℕ)) (read : ℕ) (rest : State → Outcome) → SaysFew bytes → IsAnswered lines rest
    → IsFirstOf (behind found (bytes ∷ lines)) agents (onward (entered (body_of Run agents found) bytes) read rest).text
over_first None agents bytes lines read rest few later = refl
over_first (Some (Pr senders)) agents bytes lines read rest few later = replayed_first (fresh senders) (pr_line_of bytes) read rest (steps_of lines) later.0
over_first (Some (Cluster h)) agents bytes lines read rest few later =
    clustered_first h first_so_far (first_world h 65536 agents) (cluster_line_of h first_so_far bytes) read rest (λ next. events_of h next lines) (few h first_so_far) (later.1 h)

heading_first : (hs : HeaderStep) (now : HeaderState) (agents : List AgentState) (bytes : List ℕ) (lines : List (List ℕ)) (read : ℕ) (rest : State → Outcome) → SaysFew bytes
    → ((next : HeaderState) → IsFirstOf (schedule_of next lines) agents (rest (Heading next agents)).text) → IsAnswered lines rest
    → IsFirstOf (stepped hs (λ next. schedule_of next lines) (behind (head_of now) (bytes ∷ lines))) agents (onward (heading Run now agents bytes hs) read rest).text
heading_first (More next) now agents bytes lines read rest few more later = more next
heading_first Over now agents bytes lines read rest few more later = over_first (head_of now) agents bytes lines read rest few later
heading_first (Bad kind) now agents bytes lines read rest few more later = refl

-- of the schedule of these lines
pub lines_first : (ended : Bool) (lines : List (List ℕ)) (now : HeaderState) (agents : List AgentState) (read : ℕ)
    → IsFirstOf (schedule_of now lines) agents (outcome Run ended lines (Heading now agents) read).text
lines_first ended [] now agents read = nothing_first (schedule_of now []) agents
lines_first ended ([] ∷ []) now agents read =
    at_empty ended (Heading now agents) read (λ (t : List ℕ). IsFirstOf (schedule_of now ([] ∷ [])) agents t) (nothing_first (schedule_of now ([] ∷ [])) agents)
lines_first ended ((b ∷ bytes) ∷ []) now agents read =
    at_last ended b bytes (Heading now agents) read (λ (t : List ℕ). IsFirstOf (schedule_of now ((b ∷ bytes) ∷ [])) agents t) (nothing_first (schedule_of now ((b ∷ bytes) ∷ [])) agents)
    (λ few. heading_first (header_step now (b ∷ bytes)) now agents (b ∷ bytes) [] read (λ s. end_of (at_end Run s) (read + 1)) few
    (λ next. at_end_silent (body_of Run agents (head_of next)) (read + 1) (λ (t : List ℕ). IsFirstOf (schedule_of next []) agents t) (nothing_first (schedule_of next []) agents))
    (λ next. no_step next [], λ h next w. no_event w []))
lines_first ended (bytes ∷ next ∷ lines) now agents read =
    at_lines ended bytes next lines (Heading now agents) read (λ (t : List ℕ). IsFirstOf (schedule_of now (bytes ∷ next ∷ lines)) agents t) (nothing_first (schedule_of now (bytes ∷ next ∷ lines)) agents)
    (λ few. heading_first (header_step now bytes) now agents bytes (next ∷ lines) read (λ s. outcome Run ended (next ∷ lines) s (read + 1)) few
    (λ after. lines_first ended (next ∷ lines) after agents (read + 1))
    (λ after. device_first ended (next ∷ lines) after (read + 1), λ h after w. world_first ended (next ∷ lines) h after w (read + 1)))

-- A completed run of a reservation schedule is what the device answers.
use Rattle.std.proofs.Common.{◌≡◌, ℕ, ◌+◌, ◌==◌, Bool, true, false, if◌then◌else◌, List, [], ◌∷◌, ◌++◌, length, Option, Some, None, Result, Ok, Err, refl, sym, ap, subst, arith}
use Rattle.std.proofs.lemmas.Bool.Decides.{nat_tests}
use Rattle.std.specs.List.{flat_map}
use Rattle.agents.specs.Calls.{AgentState}
use Rattle.pgr_device.specs.Device.{Device, fresh}
use Rattle.pgr_device.specs.Runs.{run_answers}
use Rattle.pgr_device.specs.Spc as spc
use Rattle.pgr_device.specs.declared.run.Step.{Step}
use Rattle.pgr_device.specs.declared.run.Step.TheVariants.{Command, PowerLoss}
use Rattle.cl_base.specs.declared.header.Header.{Header}
use Rattle.schedule_text.specs.declared.event.Event.{Event}
use Rattle.schedule_text.specs.declared.line.ClusterLine.{ClusterLine}
use Rattle.schedule_text.specs.declared.line.ClusterLine.TheVariants as cluster
use Rattle.schedule_text.specs.declared.line.SoFar.{SoFar}
use Rattle.world_model.specs.First.{first_world}
use Rattle.world_model.specs.Lines.{line_on}
use Rattle.world_model.specs.Worlds.{WorldState, play}
use Rattle.schedule_text.specs.declared.header.Head.{Head}
use Rattle.schedule_text.specs.declared.header.Head.TheVariants.{Pr, Cluster}
use Rattle.schedule_text.specs.declared.header.HeaderState.{HeaderState}
use Rattle.schedule_text.specs.declared.header.HeaderState.TheVariants as state
use Rattle.schedule_text.specs.declared.kind.Kind.{Kind}
use Rattle.schedule_text.specs.declared.line.PrLine.{PrLine}
use Rattle.schedule_text.specs.declared.line.PrLine.TheVariants as line
use Rattle.schedule_text.specs.Headers.{HeaderStep, More, Over, Bad, header_step, head_of}
use Rattle.schedule_text.specs.Lines.{cluster_line_of, pr_line_of, so_far_after_event}
use Rattle.status_report.specs.declared.entry.Entry.TheVariants.{Answered, Powered}
use Rattle.status_report.specs.Lines.{printed}
use Rattle.interpreter.specs.declared.session.Body.TheVariants.{Clustering, Replaying}
use Rattle.interpreter.specs.declared.session.State.{State}
use Rattle.interpreter.specs.declared.session.State.TheVariants.{Heading, Reading}
use Rattle.interpreter.specs.declared.task.Task.TheVariants.{Run}
use Rattle.interpreter.specs.Sessions.{clustered, clustered_by, first_so_far, moved, replayed, entered, body_of, heading, step}
use Rattle.interpreter.specs.Outcomes.{Open, TooLarge, Outcome, outcome, silent, onward, is_too_large, at_end, end_of}
use Rattle.replay.specs.Replays.{Completes, TellsSchedule, events_of, texts_of, with_event, entries, answers_among, steps_of, with_line, schedule_of, stepped, behind}

pub answers_are : (d : Device) (steps : List Step) → answers_among (entries d steps) ≡ run_answers d steps
answers_are d [] = refl
answers_are d (Command node command ∷ steps) = ap (λ answers. (spc.step d node command).answer ∷ answers) (answers_are (spc.step d node command).after steps)
answers_are d (PowerLoss ∷ steps) = answers_are d steps

-- a line that is replayed, and what follows
line_completes : (d : Device) (r : Result PrLine Kind) (read : ℕ) (rest : State → Outcome) (steps : List Step)
    → ((next : Device) → Completes (rest (Reading (Replaying next))).ending → (rest (Reading (Replaying next))).text ≡ flat_map printed (entries next steps))
    → Completes (onward (replayed d r) read rest).ending → (onward (replayed d r) read rest).text ≡ flat_map printed (entries d (with_line r steps))
line_completes d (Err kind) read rest steps later h = absurd h
line_completes d (Ok line.End) read rest steps later h = refl
line_completes d (Ok line.Blank) read rest steps later h = later d h
line_completes d (Ok line.Power) read rest steps later h = ap (λ (t : List ℕ). printed Powered ++ t) (later d h)
line_completes d (Ok (line.Command node command)) read rest steps later h =
    ap (λ (t : List ℕ). printed (Answered (spc.step d node command).answer) ++ t) (later (spc.step d node command).after h)

some_lines : (A : Type 0) (x : A) (xs : List A) → (length (x ∷ xs) == 0) ≡ false
some_lines A x xs = grind (arith, nat_tests)

-- a line that is not too large
chosen : (large : Bool) (n : ℕ) (o : Outcome) (T : List ℕ → Type 0) → (Completes o.ending → T o.text)
    → Completes (if large then silent (TooLarge n) else o).ending → T (if large then silent (TooLarge n) else o).text
chosen true n o T f h = absurd h
chosen false n o T f h = f h

-- and behind which the input ends
ended_chosen : (large ended : Bool) (n : ℕ) (o : Outcome) (T : List ℕ → Type 0) → (Completes o.ending → T o.text)
    → Completes (if large then silent (TooLarge n) else if ended then o else silent Open).ending → T (if large then silent (TooLarge n) else if ended then o else silent Open).text
ended_chosen true ended n o T f h = absurd h
ended_chosen false true n o T f h = f h
ended_chosen false false n o T f h = absurd h

-- the outcome where a line stands before others, and where it is the last
pub line_outcome : (ended : Bool) (bytes next : List ℕ) (lines : List (List ℕ)) (s : State) (read : ℕ) → outcome Run ended (bytes ∷ next ∷ lines) s read
    ≡ (if is_too_large read bytes then silent (TooLarge (read + 1)) else onward (step Run s bytes) read (λ now. outcome Run ended (next ∷ lines) now (read + 1)))
line_outcome ended bytes next lines s read = rw (some_lines (List ℕ) next lines) refl

pub last_outcome : (ended : Bool) (b : ℕ) (bytes : List ℕ) (s : State) (read : ℕ) → outcome Run ended ((b ∷ bytes) ∷ []) s read
    ≡ (if is_too_large read (b ∷ bytes) then silent (TooLarge (read + 1)) else if ended then onward (step Run s (b ∷ bytes)) read (λ now. end_of (at_end Run now) (read + 1)) else silent Open)
last_outcome ended b bytes s read = rw (some_lines ℕ b bytes) refl

pub empty_outcome : (ended : Bool) (s : State) (read : ℕ) → outcome Run ended ([] ∷ []) s read ≡ (if ended then end_of (at_end Run s) read else silent Open)
empty_outcome ended s read = refl

-- of an outcome that is known to be another
at_outcome : (o p : Outcome) (T : List ℕ → Type 0) → o ≡ p → (Completes p.ending → T p.text) → Completes o.ending → T o.text
at_outcome o p T is f = subst (λ (x : Outcome). Completes x.ending → T x.text) (sym is) f

body_completes : (ended : Bool) (lines : List (List ℕ)) (d : Device) (read : ℕ) → Completes (outcome Run ended lines (Reading (Replaying d)) read).ending
    → (outcome Run ended lines (Reading (Replaying d)) read).text ≡ flat_map printed (entries d (steps_of lines))
body_completes ended [] d read h = absurd h
body_completes true ([] ∷ []) d read h = refl
body_completes false ([] ∷ []) d read h = absurd h
body_completes ended ((b ∷ bytes) ∷ []) d read h =
    at_outcome (outcome Run ended ((b ∷ bytes) ∷ []) (Reading (Replaying d)) read) _ (λ (t : List ℕ). t ≡ flat_map printed (entries d (steps_of ((b ∷ bytes) ∷ []))))
    (last_outcome ended b bytes (Reading (Replaying d)) read)
    (ended_chosen (is_too_large read (b ∷ bytes)) ended (read + 1) (onward (replayed d (pr_line_of (b ∷ bytes))) read (λ now. end_of (at_end Run now) (read + 1)))
    (λ (t : List ℕ). t ≡ flat_map printed (entries d (steps_of ((b ∷ bytes) ∷ []))))
    (line_completes d (pr_line_of (b ∷ bytes)) read (λ now. end_of (at_end Run now) (read + 1)) [] (λ next k. refl))) h
body_completes ended (bytes ∷ next ∷ lines) d read h =
    at_outcome (outcome Run ended (bytes ∷ next ∷ lines) (Reading (Replaying d)) read) _ (λ (t : List ℕ). t ≡ flat_map printed (entries d (steps_of (bytes ∷ next ∷ lines))))
    (line_outcome ended bytes next lines (Reading (Replaying d)) read)
    (chosen (is_too_large read bytes) (read + 1) (onward (replayed d (pr_line_of bytes)) read (λ now. outcome Run ended (next ∷ lines) now (read + 1)))
    (λ (t : List ℕ). t ≡ flat_map printed (entries d (steps_of (bytes ∷ next ∷ lines))))
    (line_completes d (pr_line_of bytes) read (λ now. outcome Run ended (next ∷ lines) now (read + 1)) (steps_of (next ∷ lines))
    (λ after k. body_completes ended (next ∷ lines) after (read + 1) k))) h

-- a line of a cluster schedule that is replayed, and what follows
event_completes : (h : Header) (s : SoFar) (w : WorldState) (e : Event) (read : ℕ) (rest : State → Outcome) (events : SoFar → List Event)
    → ((next : SoFar) (now : WorldState) → Completes (rest (Reading (Clustering h next now))).ending → (rest (Reading (Clustering h next now))).text ≡ texts_of now (events next))
    → Completes (onward (moved h s e (line_on e (play w []))) read rest).ending
    → (onward (moved h s e (line_on e (play w []))) read rest).text ≡ texts_of w (e ∷ events (so_far_after_event s e))
event_completes h s w e read rest events follows done =
    ap (λ (t : List ℕ). (line_on e (play w [])).text ++ t) (follows (so_far_after_event s e) (line_on e (play w [])).world done)

cluster_completes : (h : Header) (s : SoFar) (w : WorldState) (r : Result ClusterLine Kind) (read : ℕ) (rest : State → Outcome) (events : SoFar → List Event)
    → ((next : SoFar) (now : WorldState) → Completes (rest (Reading (Clustering h next now))).ending → (rest (Reading (Clustering h next now))).text ≡ texts_of now (events next))
    → Completes (onward (clustered_by h s w r) read rest).ending → (onward (clustered_by h s w r) read rest).text ≡ texts_of w (with_event r s events)
cluster_completes h s w (Err kind) read rest events follows done = absurd done
cluster_completes h s w (Ok cluster.End) read rest events follows done = refl
cluster_completes h s w (Ok cluster.Blank) read rest events follows done = follows s w done
cluster_completes h s w (Ok (cluster.Event e)) read rest events follows done = event_completes h s w e read rest events follows done

world_completes : (ended : Bool) (lines : List (List ℕ)) (h : Header) (s : SoFar) (w : WorldState) (read : ℕ) → Completes (outcome Run ended lines (Reading (Clustering h s w)) read).ending
    → (outcome Run ended lines (Reading (Clustering h s w)) read).text ≡ texts_of w (events_of h s lines)
world_completes ended [] h s w read done = absurd done
world_completes true ([] ∷ []) h s w read done = refl
world_completes false ([] ∷ []) h s w read done = absurd done
world_completes ended ((b ∷ bytes) ∷ []) h s w read done =
    at_outcome (outcome Run ended ((b ∷ bytes) ∷ []) (Reading (Clustering h s w)) read) _ (λ (t : List ℕ). t ≡ texts_of w (events_of h s ((b ∷ bytes) ∷ [])))
    (last_outcome ended b bytes (Reading (Clustering h s w)) read)
    (ended_chosen (is_too_large read (b ∷ bytes)) ended (read + 1) (onward (clustered h s w (b ∷ bytes)) read (λ now. end_of (at_end Run now) (read + 1)))
    (λ (t : List ℕ). t ≡ texts_of w (events_of h s ((b ∷ bytes) ∷ [])))
    (cluster_completes h s w (cluster_line_of h s (b ∷ bytes)) read (λ now. end_of (at_end Run now) (read + 1)) (λ next. []) (λ next now k. refl))) done
world_completes ended (bytes ∷ next ∷ lines) h s w read done =
    at_outcome (outcome Run ended (bytes ∷ next ∷ lines) (Reading (Clustering h s w)) read) _ (λ (t : List ℕ). t ≡ texts_of w (events_of h s (bytes ∷ next ∷ lines)))
    (line_outcome ended bytes next lines (Reading (Clustering h s w)) read)
    (chosen (is_too_large read bytes) (read + 1) (onward (clustered h s w bytes) read (λ now. outcome Run ended (next ∷ lines) now (read + 1)))
    (λ (t : List ℕ). t ≡ texts_of w (events_of h s (bytes ∷ next ∷ lines)))
    (cluster_completes h s w (cluster_line_of h s bytes) read (λ now. outcome Run ended (next ∷ lines) now (read + 1)) (λ after. events_of h after (next ∷ lines))
    (λ after now k. world_completes ended (next ∷ lines) h after now (read + 1) k))) done

-- the header ends at the end of the input
end_completes : (head : Option Head) (agents : List AgentState) (read : ℕ) → Completes (end_of (body_of Run agents head) read).ending → TellsSchedule (behind head []) agents (end_of (body_of Run agents head) read).text
end_completes None agents read h = absurd h
end_completes (Some (Pr senders)) agents read h = refl
end_completes (Some (Cluster header)) agents read h = refl

-- before a line
over_completes : (head : Option Head) (agents : List AgentState) (bytes : List ℕ) (lines : List (List ℕ)) (read : ℕ) (rest : State → Outcome)
    → ((next : Device) → Completes (rest (Reading (Replaying next))).ending → (rest (Reading (Replaying next))).text ≡ flat_map printed (entries next (steps_of lines)))
    → ((h : Header) (next : SoFar) (now : WorldState) → Completes (rest (Reading (Clustering h next now))).ending → (rest (Reading (Clustering h next now))).text ≡ texts_of now (events_of h next lines))
    → Completes (onward (entered (body_of Run agents head) bytes) read rest).ending → TellsSchedule (behind head (bytes ∷ lines)) agents (onward (entered (body_of Run agents head) bytes) read rest).text
over_completes None agents bytes lines read rest later moves h = absurd h
over_completes (Some (Pr senders)) agents bytes lines read rest later moves h = line_completes (fresh senders) (pr_line_of bytes) read rest (steps_of lines) later h
over_completes (Some (Cluster header)) agents bytes lines read rest later moves h =
    cluster_completes header first_so_far (first_world header 65536 agents) (cluster_line_of header first_so_far bytes) read rest (λ next. events_of header next lines) (moves header) h

-- and while it is being read
heading_completes : (hs : HeaderStep) (now : HeaderState) (agents : List AgentState) (bytes : List ℕ) (lines : List (List ℕ)) (read : ℕ) (rest : State → Outcome)
    → ((next : HeaderState) → Completes (rest (Heading next agents)).ending → TellsSchedule (schedule_of next lines) agents (rest (Heading next agents)).text)
    → ((next : Device) → Completes (rest (Reading (Replaying next))).ending → (rest (Reading (Replaying next))).text ≡ flat_map printed (entries next (steps_of lines)))
    → ((h : Header) (next : SoFar) (world : WorldState) → Completes (rest (Reading (Clustering h next world))).ending → (rest (Reading (Clustering h next world))).text ≡ texts_of world (events_of h next lines))
    → Completes (onward (heading Run now agents bytes hs) read rest).ending
    → TellsSchedule (stepped hs (λ next. schedule_of next lines) (behind (head_of now) (bytes ∷ lines))) agents (onward (heading Run now agents bytes hs) read rest).text
heading_completes (More next) now agents bytes lines read rest more later moves h = more next h
heading_completes Over now agents bytes lines read rest more later moves h = over_completes (head_of now) agents bytes lines read rest later moves h
heading_completes (Bad kind) now agents bytes lines read rest more later moves h = absurd h

empty_completes : (now : HeaderState) (agents : List AgentState) (read : ℕ) → Completes (end_of (body_of Run agents (head_of now)) read).ending → TellsSchedule (schedule_of now ([] ∷ [])) agents (end_of (body_of Run agents (head_of now)) read).text
empty_completes state.Opening agents read h = absurd h
empty_completes state.Senders agents read h = absurd h
empty_completes (state.Complete senders) agents read h = refl
empty_completes (state.Cluster version) agents read h = absurd h
empty_completes (state.Nodes version cluster) agents read h = absurd h
empty_completes (state.Configured cluster nodes) agents read h = absurd h
empty_completes (state.Devices header) agents read h = refl

pub head_completes : (ended : Bool) (lines : List (List ℕ)) (now : HeaderState) (agents : List AgentState) (read : ℕ) → Completes (outcome Run ended lines (Heading now agents) read).ending
    → TellsSchedule (schedule_of now lines) agents (outcome Run ended lines (Heading now agents) read).text
head_completes ended [] now agents read h = absurd h
head_completes true ([] ∷ []) now agents read h = empty_completes now agents read h
head_completes false ([] ∷ []) now agents read h = absurd h
head_completes ended ((b ∷ bytes) ∷ []) now agents read h =
    at_outcome (outcome Run ended ((b ∷ bytes) ∷ []) (Heading now agents) read) _ (λ (t : List ℕ). TellsSchedule (schedule_of now ((b ∷ bytes) ∷ [])) agents t)
    (last_outcome ended b bytes (Heading now agents) read)
    (ended_chosen (is_too_large read (b ∷ bytes)) ended (read + 1) (onward (heading Run now agents (b ∷ bytes) (header_step now (b ∷ bytes))) read (λ s. end_of (at_end Run s) (read + 1)))
    (λ (t : List ℕ). TellsSchedule (schedule_of now ((b ∷ bytes) ∷ [])) agents t)
    (heading_completes (header_step now (b ∷ bytes)) now agents (b ∷ bytes) [] read (λ s. end_of (at_end Run s) (read + 1))
    (λ next k. end_completes (head_of next) agents (read + 1) k) (λ next k. refl) (λ header next world k. refl))) h
head_completes ended (bytes ∷ next ∷ lines) now agents read h =
    at_outcome (outcome Run ended (bytes ∷ next ∷ lines) (Heading now agents) read) _ (λ (t : List ℕ). TellsSchedule (schedule_of now (bytes ∷ next ∷ lines)) agents t)
    (line_outcome ended bytes next lines (Heading now agents) read)
    (chosen (is_too_large read bytes) (read + 1) (onward (heading Run now agents bytes (header_step now bytes)) read (λ s. outcome Run ended (next ∷ lines) s (read + 1)))
    (λ (t : List ℕ). TellsSchedule (schedule_of now (bytes ∷ next ∷ lines)) agents t)
    (heading_completes (header_step now bytes) now agents bytes (next ∷ lines) read (λ s. outcome Run ended (next ∷ lines) s (read + 1))
    (λ after k. head_completes ended (next ∷ lines) after agents (read + 1) k) (λ after k. body_completes ended (next ∷ lines) after (read + 1) k) (λ header after world k. world_completes ended (next ∷ lines) header after world (read + 1) k))) h

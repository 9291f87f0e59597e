-- A whole schedule is read to its end, line by line.
use Rattle.std.proofs.Common.{◌≡◌, ℕ, ◌+◌, ◌==◌, ◌<◌, ◌≤◌, true, false, if◌then◌else◌, List, [], ◌∷◌, ◌++◌, length, Some, Result, Ok, Err, refl, sym, ap, subst, ◌∙◌, arith}
use Rattle.std.proofs.lemmas.Bool.Decides.{nat_tests}
use Rattle.std.proofs.lemmas.List.Splits.{length-slice_split}
use Rattle.std.specs.List.{AllByRecursion}
use Rattle.agents.specs.Calls.{AgentState}
use Rattle.cl_base.specs.declared.header.Header.{Header}
use Rattle.pgr_device.specs.Device.{Device, fresh}
use Rattle.pgr_device.specs.Spc as spc
use Rattle.schedule_text.specs.declared.header.Head.{Head}
use Rattle.schedule_text.specs.declared.header.Head.TheVariants.{Pr, Cluster}
use Rattle.schedule_text.specs.declared.header.HeaderState.{HeaderState}
use Rattle.schedule_text.specs.declared.header.HeaderState.TheVariants.{Opening}
use Rattle.schedule_text.specs.declared.kind.Kind.{Kind}
use Rattle.schedule_text.specs.declared.line.ClusterLine.{ClusterLine}
use Rattle.schedule_text.specs.declared.line.ClusterLine.TheVariants as cluster
use Rattle.schedule_text.specs.declared.line.PrLine.{PrLine}
use Rattle.schedule_text.specs.declared.line.PrLine.TheVariants as pr
use Rattle.schedule_text.specs.declared.line.SoFar.{SoFar}
use Rattle.schedule_text.specs.Headers.{head_of}
use Rattle.schedule_text.specs.Lines.{cluster_line_of, pr_line_of, so_far_after_event}
use Rattle.world_model.specs.First.{first_world}
use Rattle.world_model.specs.Lines.{line_on}
use Rattle.world_model.specs.Worlds.{WorldState, play}
use Rattle.grammar_laws.specs.Reads.{LeadTo}
use Rattle.interpreter.specs.declared.session.Body.TheVariants.{CheckingPr, CheckingCluster, Replaying, Clustering}
use Rattle.interpreter.specs.declared.session.State.{State}
use Rattle.interpreter.specs.declared.session.State.TheVariants.{Heading, Reading}
use Rattle.interpreter.specs.declared.task.Task.{Task}
use Rattle.interpreter.specs.declared.task.Task.TheVariants.{Run, Check}
use Rattle.interpreter.specs.Sessions.{Step, Goes, Finishes, Refuses, body_of, checked_cluster, checked_pr, clustered_by, entered, first_so_far, replayed, step}
use Rattle.interpreter.specs.Outcomes.{TooLarge, Outcome, after, at_end, end_of, is_too_large, onward, outcome, pieces, silent}
use Rattle.replay.specs.Replays.{Completes}
use Rattle.replay.specs.Completeness.{AreClusterLines, AreLinesBehind, ArePrLines, EndsBefore, IsClusterLine, IsPrLine, IsSchedule, IsShort, SchedulesEnd, lines_of}
use Rattle.interpreter.proofs.Bytes.{not_large}

-- ---- line by line

-- the outcome of lines behind which the input ends
abbrev outcome_lines : Task → List (List ℕ) → State → ℕ → Outcome
outcome_lines task [] state read = end_of (at_end task state) read
outcome_lines task (line ∷ lines) state read =
    if is_too_large read line then silent (TooLarge (read + 1)) else onward (step task state line) read (λ next. outcome_lines task lines next (read + 1))

onward_same : (s : Step) (read : ℕ) (f g : State → Outcome) → ((next : State) → f next ≡ g next) → onward s read f ≡ onward s read g
onward_same (Goes next text) read f g same = ap (λ (o : Outcome). after text o) (same next)
onward_same Finishes read f g same = refl
onward_same (Refuses kind) read f g same = refl

some_bytes : (b : ℕ) (bytes : List ℕ) → (length (b ∷ bytes) == 0) ≡ false
some_bytes b bytes = grind (arith, nat_tests)

some_lines : (line : List ℕ) (lines : List (List ℕ)) → (length (line ∷ lines) == 0) ≡ false
some_lines line lines = grind (arith, nat_tests)

by_lines : (task : Task) (line : List ℕ) (lines : List (List ℕ)) (state : State) (read : ℕ) → outcome task true (line ∷ lines) state read ≡ outcome_lines task (lines_of (line ∷ lines)) state read
by_lines task [] [] state read = refl
by_lines task (b ∷ bytes) [] state read = rw (some_bytes b bytes) refl
by_lines task line (next ∷ more) state read =
    rw (some_lines next more)
    (ap (λ (o : Outcome). if is_too_large read line then silent (TooLarge (read + 1)) else o)
    (onward_same (step task state line) read (λ now. outcome task true (next ∷ more) now (read + 1)) (λ now. outcome_lines task (lines_of (next ∷ more)) now (read + 1))
    (λ now. by_lines task next more now (read + 1))))

-- ---- lines behind the header

pr_checked : (r : Result PrLine Kind) (P : Type 0) (read : ℕ) (rest : State → Outcome) → (P → Completes (rest (Reading CheckingPr)).ending) → IsPrLine r P
    → Completes (onward (checked_pr r) read rest).ending
pr_checked (Ok pr.Blank) P read rest later is = later is
pr_checked (Ok pr.End) P read rest later is = tt
pr_checked (Ok pr.Power) P read rest later is = later is
pr_checked (Ok (pr.Command sender command)) P read rest later is = later is
pr_checked (Err kind) P read rest later is = absurd is

pr_replayed : (r : Result PrLine Kind) (P : Type 0) (d : Device) (read : ℕ) (rest : State → Outcome) → ((next : Device) → P → Completes (rest (Reading (Replaying next))).ending) → IsPrLine r P
    → Completes (onward (replayed d r) read rest).ending
pr_replayed (Ok pr.Blank) P d read rest later is = later d is
pr_replayed (Ok pr.End) P d read rest later is = tt
pr_replayed (Ok pr.Power) P d read rest later is = later d is
pr_replayed (Ok (pr.Command sender command)) P d read rest later is = later (spc.step d sender command).after is
pr_replayed (Err kind) P d read rest later is = absurd is

cluster_checked : (r : Result ClusterLine Kind) (P : SoFar → Type 0) (h : Header) (s : SoFar) (read : ℕ) (rest : State → Outcome)
    → ((next : SoFar) → P next → Completes (rest (Reading (CheckingCluster h next))).ending) → IsClusterLine r s P → Completes (onward (checked_cluster h s r) read rest).ending
cluster_checked (Ok cluster.Blank) P h s read rest later is = later s is
cluster_checked (Ok cluster.End) P h s read rest later is = tt
cluster_checked (Ok (cluster.Event e)) P h s read rest later is = later (so_far_after_event s e) is
cluster_checked (Err kind) P h s read rest later is = absurd is

cluster_played : (r : Result ClusterLine Kind) (P : SoFar → Type 0) (h : Header) (s : SoFar) (w : WorldState) (read : ℕ) (rest : State → Outcome)
    → ((next : SoFar) (now : WorldState) → P next → Completes (rest (Reading (Clustering h next now))).ending) → IsClusterLine r s P → Completes (onward (clustered_by h s w r) read rest).ending
cluster_played (Ok cluster.Blank) P h s w read rest later is = later s w is
cluster_played (Ok cluster.End) P h s w read rest later is = tt
cluster_played (Ok (cluster.Event e)) P h s w read rest later is = later (so_far_after_event s e) (line_on e (play w [])).world is
cluster_played (Err kind) P h s w read rest later is = absurd is

checking_pr : (task : Task) (lines : List (List ℕ)) (read : ℕ) → ArePrLines read lines → Completes (outcome_lines task lines (Reading CheckingPr) read).ending
checking_pr task [] read are = tt
checking_pr task (line ∷ lines) read are =
    rw (not_large read line are.0.0 are.0.1)
    (pr_checked (pr_line_of line) (ArePrLines (read + 1) lines) read (λ next. outcome_lines task lines next (read + 1)) (λ later. checking_pr task lines (read + 1) later) are.1)

replaying : (task : Task) (lines : List (List ℕ)) (d : Device) (read : ℕ) → ArePrLines read lines → Completes (outcome_lines task lines (Reading (Replaying d)) read).ending
replaying task [] d read are = tt
replaying task (line ∷ lines) d read are =
    rw (not_large read line are.0.0 are.0.1)
    (pr_replayed (pr_line_of line) (ArePrLines (read + 1) lines) d read (λ next. outcome_lines task lines next (read + 1)) (λ now later. replaying task lines now (read + 1) later) are.1)

checking_cluster : (task : Task) (lines : List (List ℕ)) (h : Header) (s : SoFar) (read : ℕ) → AreClusterLines h s read lines → Completes (outcome_lines task lines (Reading (CheckingCluster h s)) read).ending
checking_cluster task [] h s read are = tt
checking_cluster task (line ∷ lines) h s read are =
    rw (not_large read line are.0.0 are.0.1)
    (cluster_checked (cluster_line_of h s line) (λ next. AreClusterLines h next (read + 1) lines) h s read (λ next. outcome_lines task lines next (read + 1))
    (λ now later. checking_cluster task lines h now (read + 1) later) are.1)

clustering : (task : Task) (lines : List (List ℕ)) (h : Header) (s : SoFar) (w : WorldState) (read : ℕ) → AreClusterLines h s read lines
    → Completes (outcome_lines task lines (Reading (Clustering h s w)) read).ending
clustering task [] h s w read are = tt
clustering task (line ∷ lines) h s w read are =
    rw (not_large read line are.0.0 are.0.1)
    (cluster_played (cluster_line_of h s line) (λ next. AreClusterLines h next (read + 1) lines) h s w read (λ next. outcome_lines task lines next (read + 1))
    (λ now world later. clustering task lines h now world (read + 1) later) are.1)

-- ---- the end of the header

ends : (task : Task) (head : Head) (agents : List AgentState) (read : ℕ) → Completes (end_of (body_of task agents (Some head)) read).ending
ends Run (Pr senders) agents read = tt
ends Run (Cluster h) agents read = tt
ends Check (Pr senders) agents read = tt
ends Check (Cluster h) agents read = tt

enters : (task : Task) (head : Head) (agents : List AgentState) (line : List ℕ) (lines : List (List ℕ)) (read : ℕ) → AreLinesBehind head read (line ∷ lines)
    → Completes (if is_too_large read line then silent (TooLarge (read + 1)) else onward (entered (body_of task agents (Some head)) line) read (λ next. outcome_lines task lines next (read + 1))).ending
enters Run (Pr senders) agents line lines read are = replaying Run (line ∷ lines) (fresh senders) read are
enters Run (Cluster h) agents line lines read are = clustering Run (line ∷ lines) h first_so_far (first_world h 65536 agents) read are
enters Check (Pr senders) agents line lines read are = checking_pr Check (line ∷ lines) read are
enters Check (Cluster h) agents line lines read are = checking_cluster Check (line ∷ lines) h first_so_far read are

behind_completes : (task : Task) (head : Head) (agents : List AgentState) (state : HeaderState) (lines : List (List ℕ)) (read : ℕ) → head_of state ≡ Some head → EndsBefore state lines
    → AreLinesBehind head read lines → Completes (outcome_lines task lines (Heading state agents) read).ending
behind_completes task head agents state [] read known over are = rw known (ends task head agents read)
behind_completes task head agents state (line ∷ lines) read known over are = rw (over, known) (enters task head agents line lines read are)

-- ---- the header

heading_completes : (task : Task) (agents : List AgentState) (heading lines : List (List ℕ)) (state now : HeaderState) (read : ℕ) → LeadTo state heading now → AllByRecursion IsShort heading
    → read + length heading ≤ 200000 → Completes (outcome_lines task lines (Heading now agents) (read + length heading)).ending
    → Completes (outcome_lines task (heading ++ lines) (Heading state agents) read).ending
heading_completes task agents [] lines state now read leads short few done =
    let none : read + 0 ≡ read = omega arith in
    rw leads (subst (λ n. Completes (outcome_lines task lines (Heading now agents) n).ending) none done)
heading_completes task agents (line ∷ heading) lines state now read leads short few done =
    let count : read + length (line ∷ heading) ≡ (read + 1) + length heading = omega arith in
    let small : read < 200000 = omega arith in
    rw (not_large read line small short.0, leads.1)
    (heading_completes task agents heading lines leads.0 now (read + 1) leads.2 short.1 (omega arith)
    (subst (λ n. Completes (outcome_lines task lines (Heading now agents) n).ending) count done))

-- ---- the schedule

schedule_completes : (task : Task) (agents : List AgentState) (bytes : List ℕ) (is : IsSchedule bytes) → Completes (outcome_lines task (is.heading ++ is.lines) (Heading Opening agents) 0).ending
schedule_completes task agents bytes is =
    let none : 0 + length is.heading ≡ length is.heading = omega arith in
    heading_completes task agents is.heading is.lines Opening is.state 0 is.leads is.short (omega (arith, is.few))
    (subst (λ n. Completes (outcome_lines task is.lines (Heading is.state agents) n).ending) (sym none)
    (behind_completes task is.head agents is.state is.lines (length is.heading) is.known is.over is.behind))

of_pieces : (task : Task) (agents : List AgentState) (bytes : List ℕ) (parts : List (List ℕ)) → pieces bytes ≡ parts → IsSchedule bytes → Completes (outcome task true parts (Heading Opening agents) 0).ending
of_pieces task agents bytes [] cut is =
    let none : length (pieces bytes) ≡ 0 = ap length cut in
    absurd (omega (arith, length-slice_split (λ b. b == 10) bytes))
of_pieces task agents bytes (line ∷ lines) cut is =
    let lines_are : lines_of (line ∷ lines) ≡ is.heading ++ is.lines = ap (λ (ps : List (List ℕ)). lines_of ps) (sym cut) ∙ is.parts in
    subst (λ (o : Outcome). Completes o.ending)
    (sym (by_lines task line lines (Heading Opening agents) 0 ∙ ap (λ (ls : List (List ℕ)). outcome_lines task ls (Heading Opening agents) 0) lines_are))
    (schedule_completes task agents bytes is)

pub schedules_end : SchedulesEnd
schedules_end task agents bytes is = of_pieces task agents bytes (pieces bytes) refl is

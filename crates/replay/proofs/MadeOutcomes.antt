-- A schedule that is made is read to its end.
use Rattle.std.proofs.Common.{◌≡◌, ℕ, ◌+◌, ◌<◌, ◌≤◌, ◌==◌, true, false, zero, suc, List, [], ◌∷◌, ◌++◌, length, Result, Ok, Err, refl, sym, ap, ◌∙◌, arith, append_assoc, length-append}
use Rattle.std.proofs.lemmas.Bool.Decides.{nat_tests}
use Rattle.agents.specs.Calls.{AgentState}
use Rattle.cl_base.specs.declared.header.Header.{Header}
use Rattle.schedule_gen.specs.Events.{events_from}
use Rattle.schedule_gen.specs.Grammar.{AreReadAs, Leads, four_nodes, lines_from}
use Rattle.schedule_gen.specs.Lines.{line_at}
use Rattle.schedule_gen.proofs.GrammarLemmas.{header_leads, header_over, lines_read_as}
use Rattle.schedule_text.specs.declared.event.Event.{Event}
use Rattle.schedule_text.specs.declared.header.Head.TheVariants.{Cluster}
use Rattle.schedule_text.specs.declared.header.HeaderState.{HeaderState}
use Rattle.schedule_text.specs.declared.header.HeaderState.TheVariants.{Devices, Opening}
use Rattle.schedule_text.specs.declared.kind.Kind.{Kind}
use Rattle.schedule_text.specs.declared.line.ClusterLine.{ClusterLine}
use Rattle.schedule_text.specs.declared.line.ClusterLine.TheVariants as cluster
use Rattle.schedule_text.specs.declared.line.Line.TheVariants as line
use Rattle.schedule_text.specs.declared.line.SoFar.{SoFar}
use Rattle.schedule_text.specs.Headers.{Over, header_step}
use Rattle.schedule_text.specs.Lines.{cluster_line_of, of_cluster, so_far_after_event}
use Rattle.world_model.specs.First.{first_world}
use Rattle.world_model.specs.Lines.{line_on}
use Rattle.world_model.specs.Worlds.{WorldState, play}
use Rattle.replay.specs.declared.making.Making.{Making}
use Rattle.interpreter.specs.declared.session.Body.TheVariants.{Clustering}
use Rattle.interpreter.specs.declared.session.State.TheVariants.{Heading, Reading}
use Rattle.interpreter.specs.declared.task.Task.TheVariants.{Run}
use Rattle.replay.specs.Gens.{ended, made}
use Rattle.interpreter.specs.Outcomes.{Ended, Outcome, after, outcome, outcome_of, pieces}
use Rattle.replay.specs.Replays.{texts_of}
use Rattle.interpreter.specs.Sessions.{first_so_far}
use Rattle.interpreter.proofs.Bytes.{first_piece, not_large}
use Rattle.replay.proofs.MadeWords.{AreFine, header_fine, lines_fine, plain_bytes}

-- the pieces of lines that are ended: these lines, and nothing behind the last
pieces_ended : (lines : List (List ℕ)) → AreFine lines → pieces (ended lines) ≡ lines ++ ([] ∷ [])
pieces_ended [] fine = refl
pieces_ended (line ∷ lines) fine =
    first_piece [] line (ended lines) (plain_bytes 4096 line fine.0) ∙ ap (λ (parts : List (List ℕ)). line ∷ parts) (pieces_ended lines fine.1)

some_behind : (lines rest : List (List ℕ)) (next : List ℕ) → (length (lines ++ (next ∷ rest)) == 0) ≡ false
some_behind lines rest next = let long : length (lines ++ (next ∷ rest)) ≡ length lines + length (next ∷ rest) = length-append lines (next ∷ rest) in grind (arith, nat_tests)

-- lines of the header
header_outcome : (from to : HeaderState) (lines rest : List (List ℕ)) (next : List ℕ) (agents : List AgentState) (read : ℕ) → Leads from lines to → AreFine lines → read + length lines ≤ 200000
    → outcome Run true (lines ++ (next ∷ rest)) (Heading from agents) read ≡ outcome Run true (next ∷ rest) (Heading to agents) (read + length lines)
header_outcome from to [] rest next agents read leads fine few =
    let none : read + 0 ≡ read = omega arith in
    rw (none, leads) refl
header_outcome from to (line ∷ lines) rest next agents read leads fine few =
    let count : read + length (line ∷ lines) ≡ (read + 1) + length lines = omega arith in
    let small : read < 200000 = omega arith in
    rw (some_behind lines rest next, not_large read line small fine.0.short, leads.1, count)
    (header_outcome leads.0 to lines rest next agents (read + 1) leads.2 fine.1 (omega arith))

pub event_of : (r : Result ClusterLine Kind) (e : Event) → of_cluster r ≡ Ok (line.Event e) → r ≡ Ok (cluster.Event e)
event_of (Ok cluster.Blank) e is = absurd (cc)
event_of (Ok cluster.End) e is = absurd (cc)
event_of (Ok (cluster.Event d)) e is = let same : d ≡ e = cc in rw same refl
event_of (Err kind) e is = absurd (cc)

-- lines behind it, up to the end
events_outcome : (lines : List (List ℕ)) (events : List Event) (h : Header) (s : SoFar) (w : WorldState) (read : ℕ) → AreReadAs (Cluster h) s lines events → AreFine lines → read + length lines ≤ 200000
    → outcome Run true (lines ++ ([] ∷ [])) (Reading (Clustering h s w)) read ≡ record { text = texts_of w events; ending = Ended (read + length lines) }
events_outcome [] [] h s w read are fine few =
    let none : read + 0 ≡ read = omega arith in
    rw none refl
events_outcome [] (e ∷ events) h s w read are fine few = absurd are
events_outcome (line ∷ lines) [] h s w read are fine few = absurd are
events_outcome (line ∷ lines) (e ∷ events) h s w read are fine few =
    let count : read + length (line ∷ lines) ≡ (read + 1) + length lines = omega arith in
    let small : read < 200000 = omega arith in
    let is : cluster_line_of h s line ≡ Ok (cluster.Event e) = event_of (cluster_line_of h s line) e are.0 in
    rw (some_behind lines [] [], not_large read line small fine.0.short, is, count)
    (ap (λ (o : Outcome). after (line_on e (play w [])).text o)
    (events_outcome lines events h (so_far_after_event s e) (line_on e (play w [])).world (read + 1) are.1 fine.1 (omega arith)))

-- the header is over before a line
over_outcome : (h : Header) (bytes : List ℕ) (rest : List (List ℕ)) (agents : List AgentState) (read : ℕ) → header_step (Devices h) bytes ≡ Over
    → outcome Run true (bytes ∷ (rest ++ ([] ∷ []))) (Heading (Devices h) agents) read
    ≡ outcome Run true (bytes ∷ (rest ++ ([] ∷ []))) (Reading (Clustering h first_so_far (first_world h 65536 agents))) read
over_outcome h bytes rest agents read over = rw (some_behind rest [] [], over) refl

-- a whole schedule: a header, and events behind it
schedule_outcome : (front back rest : List (List ℕ)) (first : List ℕ) (events : List Event) (h : Header) (agents : List AgentState) → back ≡ first ∷ rest
    → Leads Opening front (Devices h) → header_step (Devices h) first ≡ Over → AreReadAs (Cluster h) first_so_far back events → AreFine front → AreFine back → length front + length back ≤ 200000
    → outcome Run true ((front ++ back) ++ ([] ∷ [])) (Heading Opening agents) 0
    ≡ record { text = texts_of (first_world h 65536 agents) events; ending = Ended (length front + length back) }
schedule_outcome front back rest first events h agents parts leads over are fine too few =
    let whole : (front ++ back) ++ ([] ∷ []) ≡ front ++ (first ∷ (rest ++ ([] ∷ []))) = append_assoc front back ([] ∷ []) ∙ ap (λ (lines : List (List ℕ)). front ++ (lines ++ ([] ∷ []))) parts in
    let none : 0 + length front ≡ length front = omega arith in
    ap (λ (lines : List (List ℕ)). outcome Run true lines (Heading Opening agents) 0) whole
    ∙ (header_outcome Opening (Devices h) front (rest ++ ([] ∷ [])) first agents 0 leads fine (omega arith)
    ∙ (over_outcome h first rest agents (0 + length front) over
    ∙ (ap (λ (lines : List (List ℕ)). outcome Run true (lines ++ ([] ∷ [])) (Reading (Clustering h first_so_far (first_world h 65536 agents))) (0 + length front)) (sym parts)
    ∙ (ap (λ n. outcome Run true (back ++ ([] ∷ [])) (Reading (Clustering h first_so_far (first_world h 65536 agents))) n) none
    ∙ events_outcome back events h first_so_far (first_world h 65536 agents) (length front) are too few))))

length_from : (seed first lines : ℕ) → length (lines_from seed first lines) ≡ lines
length_from seed first zero = refl
length_from seed first (suc lines) = let rest : length (lines_from seed (first + 1) lines) ≡ lines = length_from seed (first + 1) lines in omega arith

made_parts : (seed count : ℕ) → lines_from seed 0 (10 + count) ≡ lines_from seed 0 5 ++ lines_from seed 5 (5 + count)
made_parts seed count =
    let ten : 10 + count ≡ suc (suc (suc (suc (suc (5 + count))))) = omega arith in
    rw ten refl

back_parts : (seed count : ℕ) → lines_from seed 5 (5 + count) ≡ line_at seed 5 ∷ lines_from seed 6 (4 + count)
back_parts seed count =
    let five : 5 + count ≡ suc (4 + count) = omega arith in
    rw five refl

are_both : (first second : List (List ℕ)) → AreFine first → AreFine second → AreFine (first ++ second)
are_both [] second fine too = too
are_both (line ∷ first) second fine too = (fine.0, are_both first second fine.1 too)

pub back_fine : (seed count : ℕ) → count ≤ 90000 → AreFine (lines_from seed 5 (5 + count))
back_fine seed count most =
    let five : 5 + count ≡ suc (suc (suc (suc (suc count)))) = omega arith in
    rw five (lines_fine seed count most)

pub made_outcome : (m : Making) (agents : List AgentState) → m.count ≤ 90000
    → outcome_of Run agents true (made m) ≡ record { text = texts_of (first_world four_nodes 65536 agents) (events_from m.seed 5 (5 + m.count)); ending = Ended (10 + m.count) }
made_outcome m agents most = whole (lines_from m.seed 0 5) (lines_from m.seed 5 (5 + m.count)) (events_from m.seed 5 (5 + m.count)) (lines_from m.seed 0 (10 + m.count)) (made_parts m.seed m.count)
    (length_from m.seed 0 5) (length_from m.seed 5 (5 + m.count))
    (schedule_outcome (lines_from m.seed 0 5) (lines_from m.seed 5 (5 + m.count)) (lines_from m.seed 6 (4 + m.count)) (line_at m.seed 5) (events_from m.seed 5 (5 + m.count)) four_nodes agents
    (back_parts m.seed m.count) (header_leads m.seed) (header_over m.seed) (lines_read_as m.seed m.count most) (header_fine m.seed) (back_fine m.seed m.count most)
    (omega (arith, length_from m.seed 0 5, length_from m.seed 5 (5 + m.count))))
    (are_both (lines_from m.seed 0 5) (lines_from m.seed 5 (5 + m.count)) (header_fine m.seed) (back_fine m.seed m.count most))
  where
    whole : (front back : List (List ℕ)) (events : List Event) (lines : List (List ℕ)) → lines ≡ front ++ back → length front ≡ 5 → length back ≡ 5 + m.count
        → outcome Run true ((front ++ back) ++ ([] ∷ [])) (Heading Opening agents) 0 ≡ record { text = texts_of (first_world four_nodes 65536 agents) events; ending = Ended (length front + length back) }
        → AreFine (front ++ back)
        → outcome Run true (pieces (ended lines)) (Heading Opening agents) 0 ≡ record { text = texts_of (first_world four_nodes 65536 agents) events; ending = Ended (10 + m.count) }
    whole front back events lines parts five more is fine =
        let cut : pieces (ended lines) ≡ (front ++ back) ++ ([] ∷ []) = ap (λ (ls : List (List ℕ)). pieces (ended ls)) parts ∙ pieces_ended (front ++ back) fine in
        let end : length front + length back ≡ 10 + m.count = omega arith in
        let told : ℕ → Outcome = λ n. record { text = texts_of (first_world four_nodes 65536 agents) events; ending = Ended n } in
        ap (λ (ps : List (List ℕ)). outcome Run true ps (Heading Opening agents) 0) cut ∙ (is ∙ ap told end)

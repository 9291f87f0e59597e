-- What the summary of a schedule that is made counts is a history.
use Rattle.std.proofs.Common.{◌≡◌, ℕ, ◌+◌, ◌≤◌, List, [], ◌∷◌, Ok, refl, ap}
use Rattle.std.specs.List.{AllByRecursion}
use Rattle.agents.specs.Calls.{AgentState}
use Rattle.cl_base.specs.declared.header.Header.{Header}
use Rattle.grammar_laws.specs.Reads.{HasFewBytes, LacksServers, LeadTo}
use Rattle.grammar_laws.proofs.Events.{events_are_allowed, seconds_fit}
use Rattle.grammar_laws.proofs.Heads.{heads_are_allowed, servers_are_not_read}
use Rattle.schedule_gen.specs.Events.{events_from}
use Rattle.schedule_gen.specs.Grammar.{AreReadAs, Leads, four_nodes, lines_from}
use Rattle.schedule_gen.proofs.GrammarLemmas.{header_leads, lines_read_as}
use Rattle.schedule_text.specs.declared.event.Event.{Event}
use Rattle.schedule_text.specs.declared.header.Head.TheVariants.{Cluster}
use Rattle.schedule_text.specs.declared.header.HeaderState.{HeaderState}
use Rattle.schedule_text.specs.declared.header.HeaderState.TheVariants.{Devices, Opening}
use Rattle.schedule_text.specs.declared.line.ClusterLine.TheVariants as cluster
use Rattle.schedule_text.specs.declared.line.SoFar.{SoFar}
use Rattle.schedule_text.specs.Allowed.{IsHeader}
use Rattle.schedule_text.specs.Lines.{cluster_line_of, so_far_after_event}
use Rattle.world_model.specs.First.{first_world}
use Rattle.replay.specs.declared.making.Making.{Making}
use Rattle.replay.specs.Gens.{CountsHistory, counts_made, counts_of}
use Rattle.replay.specs.Histories.{AreAllowed}
use Rattle.interpreter.specs.Outcomes.{Outcome}
use Rattle.replay.specs.Replays.{texts_of}
use Rattle.interpreter.specs.Sessions.{first_so_far}
use Rattle.run_outcomes.specs.Traces.{TracesOfEachRun}
use Rattle.replay.proofs.Firsts.{short_line}
use Rattle.replay.proofs.Histories.{trace_of}
use Rattle.replay.proofs.MadeWords.{AreFine}
use Rattle.replay.proofs.MadeOutcomes.{back_fine, event_of, made_outcome}

-- the lines of the header, which lead to four nodes
lead_on : (from to : HeaderState) (lines : List (List ℕ)) → Leads from lines to → LeadTo from lines to
lead_on from to [] leads = leads
lead_on from to (line ∷ lines) leads = (leads.0, leads.1, lead_on leads.0 to lines leads.2)

-- events that lines are read as are allowed
are_allowed : (h : Header) (s : SoFar) (lines : List (List ℕ)) (events : List Event) → AreReadAs (Cluster h) s lines events → AreAllowed h s events
are_allowed h s [] [] are = tt
are_allowed h s [] (e ∷ events) are = absurd are
are_allowed h s (line ∷ lines) [] are = absurd are
are_allowed h s (line ∷ lines) (e ∷ events) are =
    let is : cluster_line_of h s line ≡ Ok (cluster.Event e) = event_of (cluster_line_of h s line) e are.0 in
    (events_are_allowed h s line e is, seconds_fit h s line e is, are_allowed h (so_far_after_event s e) lines events are.1)

-- and so few bytes has each command among them as its line
are_few : (h : Header) (s : SoFar) (lines : List (List ℕ)) (events : List Event) → AreReadAs (Cluster h) s lines events → AreFine lines → AllByRecursion (HasFewBytes 4096) events
are_few h s [] [] are fine = tt
are_few h s [] (e ∷ events) are fine = absurd are
are_few h s (line ∷ lines) [] are fine = absurd are
are_few h s (line ∷ lines) (e ∷ events) are fine =
    (short_line line fine.0.short h s e (event_of (cluster_line_of h s line) e are.0), are_few h (so_far_after_event s e) lines events are.1 fine.1)

four_leads : (m : Making) → LeadTo Opening (lines_from m.seed 0 5) (Devices four_nodes)
four_leads m = lead_on Opening (Devices four_nodes) (lines_from m.seed 0 5) (header_leads m.seed)

pub made_history : TracesOfEachRun → (m : Making) (agents : List AgentState) → m.count ≤ 90000 → CountsHistory m agents (counts_made m agents)
made_history traces m agents few =
    let events : List Event = events_from m.seed 5 (5 + m.count) in
    let header : IsHeader four_nodes = heads_are_allowed (lines_from m.seed 0 5) (Devices four_nodes) (Cluster four_nodes) (four_leads m) refl in
    let disks : LacksServers four_nodes = servers_are_not_read (lines_from m.seed 0 5) (Devices four_nodes) four_nodes (four_leads m) refl in
    let allowed : AreAllowed four_nodes first_so_far events = are_allowed four_nodes first_so_far (lines_from m.seed 5 (5 + m.count)) events (lines_read_as m.seed m.count few) in
    let short : AllByRecursion (HasFewBytes 4096) events =
    are_few four_nodes first_so_far (lines_from m.seed 5 (5 + m.count)) events (lines_read_as m.seed m.count few) (back_fine m.seed m.count few) in
    record {
      text = texts_of (first_world four_nodes 65536 agents) events;
      counted = ap (λ (o : Outcome). counts_of o.text) (made_outcome m agents few);
      header = header;
      no_server = disks;
      allowed = allowed;
      written = refl;
      trace = trace_of traces agents four_nodes events (texts_of (first_world four_nodes 65536 agents) events) header disks allowed short refl;
    }

-- The parts of rounds of each run.
use Rattle.std.specs.Prelude.{ℕ, ◌+◌, ◌≡◌, ◌≤◌, ◌<◌, nat_lt, true, false, List, [], ◌∷◌, Option, None, Some, length, is_some}
use Rattle.std.proofs.Common.{refl, sym, ap, subst, ◌∙◌, arith}
use Rattle.cl_base.specs.Limits.{most_devices}
use Rattle.cl_base.specs.declared.header.Header.{Header}
use Rattle.interconnect.specs.Links.{Links}
use Rattle.status_report.specs.declared.schedule_entry.ScheduleEntry.TheVariants as schedule
use Rattle.history.specs.Links.{links_after}
use Rattle.history.specs.Member.{is_up}
use Rattle.history.specs.Moment.{Moment, Part, Said, Told}
use Rattle.history.specs.Queue.{has_work, queue_is_open}
use Rattle.history.specs.Round.{Progress, Stage, works}
use Rattle.history.specs.Round.Stage.{Delivering, Working, Ticking}
use Rattle.history.specs.Setting.{Setting}
use Rattle.node_model.specs.declared.cluster.Cluster.{Cluster}
use Rattle.node_model.specs.declared.node.Node.{Node}
use Rattle.node_model.specs.declared.node.Node.TheVariants.{Down, Up}
use Rattle.refinement.specs.Guards.{IsDown}
use Rattle.world_model.specs.Devices.{due_at}
use Rattle.world_model.specs.First.{first_cluster}
use Rattle.world_model.specs.Worlds.{is_up_node}
use Rattle.run_history.specs.Happenings.{Happening, IsUp, all_happened, happened}
use Rattle.run_history.specs.Happenings.Happening.{Begins, Notes}
use Rattle.run_history.specs.Members.{NodeLines}
use Rattle.run_history.specs.Rounds as world
use Rattle.run_history.specs.Rounds.{most_commands}
use Rattle.run_history.specs.Scenes.{Scene, first_scene}
use Rattle.run_history.specs.Shapes.{nothing}
use Rattle.run_history.proofs.LinksRun.{links_of_each_run}
use Rattle.run_history.proofs.MemberScenes.{members_of_each_run}
use Rattle.run_history.proofs.Reached.{Reached}
use Rattle.run_lines.specs.rounds.Following.{AreOf, SameRounds, SameStage}
use Rattle.run_lines.specs.rounds.Laws.{AllAskSome, AtEachPart, AtPart, FewCommands, NoneLeftByQueues, PartsByQueues, PartsOfEachRun, QueuesTold, WhereTold, in_a_row}
use Rattle.run_lines.specs.rounds.Parts as parts
use Rattle.run_lines.specs.rounds.Parts.{Works, shown}
use Rattle.run_lines.proofs.few.Runs.{few_commands_in_each_run}
use Rattle.run_lines.proofs.rounds.Agree.{progress_agrees, to_rounds}
use Rattle.run_lines.proofs.rounds.Downs.{down_has_no_work}
use Rattle.run_lines.proofs.rounds.Tells.{MayDo, StageFits, queued_tells, shown_tells}
use Rattle.run_lines.proofs.rounds.Walk.{Facts, IsClosed, Kept, TellsAt, run_kept}

-- ---- what the lines say of each scene

ups_told : (n : ℕ) (z : Node) (ms : List Moment) → NodeLines n z ms → is_up_node (Some z) ≡ is_up n ms
ups_told n Down ms h = sym h
ups_told n (Up x) ms h = sym h.0

all_facts : (h : Header) (cells : ℕ) (S : Setting) → length h.devices ≤ most_devices → S.cells ≡ cells → (s : Scene) → Reached (first_cluster h) (first_scene h cells) s → Facts S s
all_facts h cells S devices same s r =
    subst (λ z. Facts S z) r.is (record {
      linked =
          (links_of_each_run h cells r.happenings r.may).links
          ∙ ap (λ k. links_after k (all_happened (first_cluster h) (first_scene h cells) r.happenings).moments) (sym same);
      ups = λ n.
          ups_told n ((all_happened (first_cluster h) (first_scene h cells) r.happenings).nodes.node n) (all_happened (first_cluster h) (first_scene h cells) r.happenings).moments
          ((members_of_each_run h cells r.happenings devices r.may).nodes n);
    })

first_kept : (h : Header) (cells : ℕ) (S : Setting) (works : Works) → Kept S works (first_scene h cells).moments None
unfolding first_scene
first_kept h cells S works = record { parts = tt; rounds = tt }

-- each line asks for rounds as all do
asks_closed : IsClosed AllAskSome
asks_closed (Said l) ms h = h.1
asks_closed (Part e) ms h = h
asks_closed (Told e) ms h = h

-- ---- by the parts alone

abbrev Any : Scene → Type 0
Any s = Unit {0}

any_part : (s : Scene) (h : Happening) → AtPart Any s h
any_part s (Begins e) = tt
any_part s (Notes schedule.RoundsDone) = tt
any_part s _ = tt

all_parts : (c : Cluster) (s : Scene) (hs : List Happening) → AtEachPart Any c s hs
all_parts c s [] = tt
all_parts c s (h ∷ hs) = (any_part s h, all_parts c (happened c s h) hs)

nodes_fit : (l : Links) (ms : List Moment) (nodes : ℕ) (a : world.Stage) (b : Stage) → SameStage l ms nodes a b → StageFits (λ k ns. AreOf nodes ns) a
nodes_fit l ms nodes (world.Delivering all) (Delivering kept) h = tt
nodes_fit l ms nodes (world.Working k ns) (Working others) h = h.1
nodes_fit l ms nodes (world.Ticking ns) (Ticking others) h = tt
nodes_fit l ms nodes _ _ h = absurd h

shown_at : (S : Setting) (s : Scene) → TellsAt S shown s
shown_at S s p q same only =
    shown_tells s.nodes (links_after S.cells s.moments) p (nodes_fit (links_after S.cells s.moments) s.moments p.nodes p.stage q.stage same.stage) only

pub parts_of_each_run : PartsOfEachRun
parts_of_each_run h cells hs S devices same may shaped asks =
    (run_kept Any AllAskSome asks_closed (λ ms m. m) (first_cluster h) (first_scene h cells) S shown (all_facts h cells S devices same) (λ s r m q. shown_at S s) hs (first_scene h cells) nothing nothing
    (record { happenings = []; may = tt; is = refl }) may shaped asks (all_parts (first_cluster h) (first_scene h cells) hs) tt (first_kept h cells S shown)).parts

-- ---- by the queues

-- where the lines tell of nodes that are up whether they have work, they do of all
queue_told : (S : Setting) (s : Scene) (n : ℕ) (z : Node) → s.nodes.node n ≡ z → QueuesTold S s → ((k : ℕ) → IsDown (s.nodes.node k) → has_work S k s.moments ≡ false)
    → queue_is_open S n s.moments ≡ false → has_work S n s.moments ≡ is_some (due_at (Some (s.nodes.node n)))
queue_told S s n Down is told downs shut = downs n (subst IsDown (sym is) tt) ∙ ap (λ z. is_some (due_at (Some z))) (sym is)
queue_told S s n (Up x) is told downs shut = told n (subst IsUp (sym is) tt) shut

few_here : (ms : List Moment) (n : ℕ) → FewCommands ms → in_a_row n ms < most_commands
unfolding most_commands
few_here [] n few = omega arith
few_here (m ∷ ms) n few = few.0 n

one_more : (a k r : ℕ) → a ≤ k + r → r < a → nat_lt 0 k ≡ true
one_more a k r h less = grind (arith, h, less)

turns_fit : (l : Links) (ms : List Moment) (nodes : ℕ) (a : world.Stage) (b : Stage) → FewCommands ms → SameStage l ms nodes a b → StageFits MayDo a
turns_fit l ms nodes (world.Delivering all) (Delivering kept) few h = tt
turns_fit l ms nodes (world.Working k []) (Working others) few h = tt
turns_fit l ms nodes (world.Working k (n ∷ ns)) (Working others) few h = one_more most_commands k (in_a_row n ms) h.2 (few_here ms n few)
turns_fit l ms nodes (world.Ticking ns) (Ticking others) few h = tt
turns_fit l ms nodes _ _ few h = absurd h

queued_at : (S : Setting) (s : Scene) → FewCommands s.moments → QueuesTold S s → ((k : ℕ) → IsDown (s.nodes.node k) → has_work S k s.moments ≡ false) → TellsAt S (works S) s
queued_at S s few told downs p q same only =
    queued_tells S s.moments s.nodes (links_after S.cells s.moments) p (turns_fit (links_after S.cells s.moments) s.moments p.nodes p.stage q.stage few same.stage) only
    (λ n shut. queue_told S s n (s.nodes.node n) refl told downs shut)

abbrev AsksFew : List Moment → Type 0
AsksFew ms = AllAskSome ms × FewCommands ms

few_closed : IsClosed AsksFew
few_closed m ms h = (asks_closed m ms h.0, h.1.1)

-- the parts, and what is left of rounds, at the end
kept_by_queues : WhereTold (λ S ms. Kept S (works S) ms None)
kept_by_queues h cells hs S devices small same may shaped asks told =
    run_kept (QueuesTold S) AsksFew few_closed (λ ms m. m.0) (first_cluster h) (first_scene h cells) S (works S) (all_facts h cells S devices same)
    (λ s r m q. queued_at S s m.1 q (down_has_no_work h cells S devices small s r)) hs (first_scene h cells) nothing nothing (record { happenings = []; may = tt; is = refl }) may shaped
    (asks, few_commands_in_each_run h cells hs nothing devices small may shaped) told tt (first_kept h cells S (works S))

pub parts_by_queues : PartsByQueues
parts_by_queues h cells hs S devices small same may shaped asks told =
    to_rounds S (all_happened (first_cluster h) (first_scene h cells) hs).moments (kept_by_queues h cells hs S devices small same may shaped asks told).parts

none_of : (l : Links) (ms : List Moment) (o : Option Progress) → SameRounds l ms None o → o ≡ None
none_of l ms None h = refl
none_of l ms (Some q) h = absurd h

pub none_left_by_queues : NoneLeftByQueues
none_left_by_queues h cells hs S devices small same may shaped asks told =
    let ms : List Moment = (all_happened (first_cluster h) (first_scene h cells) hs).moments in
    sym (progress_agrees S ms) ∙ none_of (links_after S.cells ms) ms (parts.progress_of S (works S) ms) (kept_by_queues h cells hs S devices small same may shaped asks told).rounds

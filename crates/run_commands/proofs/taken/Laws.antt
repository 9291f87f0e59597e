-- Each run of whole lines takes its commands, and answers its clients' requests.
use Rattle.std.specs.Prelude.{ℕ, List, [], ◌∷◌}
use Rattle.std.proofs.Common.{subst, sym}
use Rattle.cl_base.specs.declared.header.Header.{Header}
use Rattle.history.specs.Commands.{CommandIsTaken}
use Rattle.history_setting.specs.Settings.{setting_of}
use Rattle.node_model.specs.declared.cluster.Cluster.{Cluster}
use Rattle.world_model.specs.First.{first_cluster}
use Rattle.run_history.proofs.MemberScenes.{members_of_each_run}
use Rattle.run_history.specs.Happenings.{Happening, all_happened, happened}
use Rattle.run_history.specs.Scenes.{Scene, first_scene}
use Rattle.run_history.specs.Stages.{Stage}
use Rattle.run_lines.proofs.Runs.{stage_presides}
use Rattle.run_messages.proofs.Reaching.{IsReached, IsSmall, stage_of}
use Rattle.run_messages.proofs.Runs.{memberships_of_each_run}
use Rattle.run_commands.proofs.Coordinators.{AreLed, led_at}
use Rattle.run_commands.proofs.PresidingRuns.{presiding_in_each}
use Rattle.run_commands.proofs.ReadRuns.{reads_in_each}
use Rattle.run_commands.proofs.Runs.{FewLines, few_before, waits_in_each}
use Rattle.run_commands.specs.taken.Laws.{ClientIsAnswered, ClientsAreAnsweredInEachRun, CommandsAreTakenInEachRun}
use Rattle.run_commands.proofs.taken.Clients.{ClientFacts, clients_open}
use Rattle.run_commands.proofs.taken.Commands.{CommandFacts, commands_open}
use Rattle.run_commands.proofs.taken.Walk.{each_of_run}

-- ---- what is known of each scene

abbrev FewIn : Scene → Type 0
FewIn s = FewLines s.moments

-- few lines are said at any time
few_from : (c : Cluster) (s : Scene) (hs : List Happening) → FewIn (all_happened c s hs) → FewIn s
few_from c s [] few = few
few_from c s (x ∷ hs) few = few_before c s x (few_from c (happened c s x) hs few)

command_facts : (h : Header) (cells : ℕ) (s : Scene) → IsSmall h → IsReached h cells s → FewIn s → CommandFacts h s
command_facts h cells s size r few =
    let end : Scene = all_happened (first_cluster h) (first_scene h cells) r.happenings in
    let same : FewIn end = subst FewIn (sym r.is) few in
    subst (λ z. CommandFacts h z) r.is (record {
      stage = subst (λ z. Stage (first_cluster h) z) (sym r.is) (stage_of h cells s size r);
      lines = (members_of_each_run h cells r.happenings size.few r.may).nodes;
      seated = memberships_of_each_run h cells r.happenings size.few size.small r.may;
      waits = waits_in_each h cells r.happenings size r.may same;
      few = same;
      preside = presiding_in_each h cells r.happenings size r.may;
      led = subst (λ z. AreLed z) (sym r.is) (led_at h cells s size r);
      reads = reads_in_each h cells r.happenings size r.may same;
    })

client_facts : (h : Header) (cells : ℕ) (s : Scene) → IsSmall h → IsReached h cells s → ClientFacts s
client_facts h cells s size r =
    let end : Scene = all_happened (first_cluster h) (first_scene h cells) r.happenings in
    subst (λ z. ClientFacts z) r.is (record {
      lines = (members_of_each_run h cells r.happenings size.few r.may).nodes;
      seated = memberships_of_each_run h cells r.happenings size.few size.small r.may;
      own = stage_presides (first_cluster h) end (subst (λ z. Stage (first_cluster h) z) (sym r.is) (stage_of h cells s size r));
      presides = presiding_in_each h cells r.happenings size r.may;
    })

-- ---- the laws

pub commands_are_taken_in_each_run : CommandsAreTakenInEachRun
commands_are_taken_in_each_run h cells hs few small may shaped lines =
    let size : IsSmall h = record { few = few; small = small } in
    each_of_run (CommandIsTaken (setting_of h)) h cells hs FewIn (CommandFacts h) (commands_open h)
    (λ s more r end. command_facts h cells s size r (few_from (first_cluster h) s more end)) may shaped lines

-- of any scene
abbrev Any : Scene → Type 0
Any s = Unit {0}

pub clients_are_answered_in_each_run : ClientsAreAnsweredInEachRun
clients_are_answered_in_each_run h cells hs few small may shaped =
    let size : IsSmall h = record { few = few; small = small } in
    each_of_run (ClientIsAnswered (setting_of h)) h cells hs Any ClientFacts (clients_open (first_cluster h) (setting_of h)) (λ s more r end. client_facts h cells s size r) may shaped tt

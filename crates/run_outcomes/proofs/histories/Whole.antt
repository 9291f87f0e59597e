-- Each run is a history.
use Rattle.std.specs.Prelude.{ℕ, ◌≡◌, ◌<◌, ◌≤◌, ◌^◌, List, [], length, None}
use Rattle.std.specs.List.{AllByRecursion}
use Rattle.std.proofs.Common.{sym, subst}
use Rattle.cl_base.specs.Limits.{most_devices, most_nodes}
use Rattle.cl_base.specs.declared.header.Header.{Header}
use Rattle.history.specs.History.{Answers, Contact, Contents, History, Holds, IsWhole}
use Rattle.history.specs.Attempts.{Attempts}
use Rattle.history.specs.Downs.{Downs}
use Rattle.history.specs.Links.{Links, drop_due, links_after}
use Rattle.history.specs.Messages.{Messages, Owes}
use Rattle.history.specs.Moment.{Moment, lines_of}
use Rattle.history.specs.Order.{Always, EachEvent}
use Rattle.history.specs.Setting.{Setting}
use Rattle.history_setting.proofs.Votes.{setting_votes_of_each_run}
use Rattle.history_setting.specs.Settings.{setting_of}
use Rattle.run_attempts.proofs.Runs as attempts
use Rattle.run_attempts.proofs.endings.Runs as endings
use Rattle.run_commands.proofs.Laws as commands
use Rattle.run_commands.proofs.acknowledged.Answered.{answered_of_each_run}
use Rattle.run_commands.proofs.acknowledged.Laws.{asked_of_each_run}
use Rattle.run_commands.proofs.carried.Laws.{updates_of_each_run}
use Rattle.run_commands.proofs.taken.Laws as taken
use Rattle.run_downs.proofs.Runs as downs
use Rattle.run_history.proofs.DeedRuns.{no_base_is_due, start_lines_of_each_run}
use Rattle.run_history.proofs.DevicesRun.{devices_of_each_run}
use Rattle.run_history.proofs.DiskEachRun.{disk_rule_of_each_run}
use Rattle.run_history.proofs.LinksRun.{links_of_each_run}
use Rattle.run_history.proofs.Runs.{installed_of_each_run, once_of_each_run, prepared_of_each_run, ready_of_each_run, told_of_each_run}
use Rattle.run_history.proofs.WholeEachRun.{repositories_are_kept}
use Rattle.run_history.specs.Happenings.{Happening, MayAllHappen, all_happened}
use Rattle.run_history.specs.Scenes.{first_scene}
use Rattle.run_history.specs.Shapes.{IsShaped, nothing}
use Rattle.run_history.specs.WorldLines.{AreDisks}
use Rattle.run_messages.proofs.Runs.{heartbeats_of_each_run}
use Rattle.run_messages.proofs.Spelling.{spelled_of_each_run}
use Rattle.run_messages.proofs.records.Runs.{installed_base_of_each_run, newest_base_of_each_run, newest_of_each_run, records_of_each_run}
use Rattle.run_packets.proofs.again.Runs.{requests_again_of_each_run}
use Rattle.run_packets.proofs.installs.Sound.{each_install_of_each_run}
use Rattle.run_packets.proofs.prepares.Runs as owed
use Rattle.run_packets.specs.prepares.Laws.{IsOfOne}
use Rattle.run_packets.proofs.repeats.Runs.{prepares_again_of_each_run}
use Rattle.run_packets.proofs.replies.Collects.{collects_are_answered_in_each_run}
use Rattle.run_packets.proofs.replies.Prepares.{prepares_are_answered_in_each_run}
use Rattle.run_packets.proofs.replies.Runs.{orders_are_answered_in_each_run}
use Rattle.run_packets.proofs.waiting.Runs.{requests_of_each_run}
use Rattle.run_packets.specs.replies.Laws.{CollectReplies, OrderReplies, PrepareReplies}
use Rattle.run_lines.specs.Laws.{NumberIsLeft}
use Rattle.run_outcomes.specs.reports.Laws.{TaskReplies}
use Rattle.run_outcomes.specs.tasks.AsksGiven.{IsLeft}
use Rattle.run_packets.proofs.fits.Lines.{all_lines, no_disk_fails_by_lines}
use Rattle.run_packets.proofs.native.Boots.{boots_are_of_the_header}
use Rattle.run_packets.specs.admitted.Laws.{AttemptsBeginAsWanted}
use Rattle.run_packets.specs.fits.Laws.{IsOfHeader, NoDiskFails}
use Rattle.run_packets.specs.native.Laws.{BootsInHeader}
use Rattle.run_packets.specs.views.Laws.{NoneForeign}
use Rattle.run_seizings.proofs.Runs.{held_of_each_run, known_held_of_each_run}
use Rattle.world_model.specs.First.{first_cluster}
use Rattle.run_outcomes.specs.histories.Laws.{HistoriesOfEachRun, IsOrdinary}
use Rattle.run_outcomes.specs.silence.Ends.{AttemptsEndInTime}
use Rattle.run_outcomes.specs.silence.Laws.{SilentsAreCaused}
use Rattle.run_outcomes.proofs.counts.Runs as counts
use Rattle.run_outcomes.proofs.exclusions.Runs.{exclusions_of_each_run}
use Rattle.run_outcomes.proofs.histories.Attempts.{attempts_so, causes_so}
use Rattle.run_outcomes.proofs.histories.Downs.{downs_so}
use Rattle.run_outcomes.proofs.histories.Joined.{EventLaw, events_both, events_by, while_left}
use Rattle.run_outcomes.proofs.histories.Messages.{Installs, OutSo, Prepares, PreparesGo, RepliesSo, Reports, Requests, RequestsGo, owes_so}
use Rattle.run_outcomes.proofs.lines.Runs.{all_of_header}
use Rattle.run_outcomes.proofs.members.Told.{lines_are_answered, no_round_is_left, reports_are_sent, rounds_are_told, stops_are_caused, tasks_are_answered}
use Rattle.run_outcomes.proofs.panics.Runs.{exclusions_are_told_in_each_run}
use Rattle.run_outcomes.proofs.results.Runs.{all_accounted_in_each_run, results_of_each_run}
use Rattle.run_outcomes.proofs.rounds_told.Numbers.{run_left, told_left}

module _ (wanted : AttemptsBeginAsWanted) (silents : SilentsAreCaused) (in_time : AttemptsEndInTime)
    (h : Header) (cells : ℕ) (hs : List Happening) (nodes : h.nodes ≤ most_nodes) (devices : length h.devices ≤ most_devices) (small : h.cluster < 2 ^ 32) (disks : AreDisks h)
    (same : (setting_of h).cells ≡ cells) (may : MayAllHappen (first_cluster h) (first_scene h cells) hs) (shaped : IsShaped (first_cluster h) (first_scene h cells) hs)
    (native : NoneForeign (first_cluster h) (first_scene h cells) hs) where
  abbrev S : Setting
  S = setting_of h

  abbrev ms : List Moment
  ms = (all_happened (first_cluster h) (first_scene h cells) hs).moments

  -- ---- what holds of each prefix

  contact : length (lines_of ms) < 2 ^ 63 → Contact S ms
  contact few = record {
    once = once_of_each_run h cells hs devices small may;
    ready = ready_of_each_run h cells hs devices small may;
    installed = installed_of_each_run h cells hs devices small may;
    held = held_of_each_run h cells hs devices small may;
    votes = setting_votes_of_each_run h cells hs devices small may;
    prepared = prepared_of_each_run h cells hs devices small may;
    told = told_of_each_run h cells hs devices small may;
    asked = asked_of_each_run h cells hs devices small may few;
    answered = answered_of_each_run h cells hs devices small may few (commands.answers_once_in_each_run h cells hs devices small may few);
  }

  contents : length (lines_of ms) < 2 ^ 63 → Contents S ms
  contents few = record {
    spelled = spelled_of_each_run h cells hs devices small may;
    records = records_of_each_run h cells hs devices small may;
    newest = newest_of_each_run h cells hs devices small may;
    installed_base = installed_base_of_each_run h cells hs devices small may;
    newest_base = newest_base_of_each_run h cells hs devices small may;
    held = known_held_of_each_run h cells hs devices small may;
    heartbeats = heartbeats_of_each_run h cells hs devices small may;
    updates = updates_of_each_run h cells hs devices small may few;
  }

  links : Links S.cells ms
  links = subst (λ k. Links k ms) (sym same) (links_of_each_run h cells hs may).run

  holds : length (lines_of ms) < 2 ^ 63 → Holds S ms
  holds few = record {
    devices = (devices_of_each_run h cells hs devices disks may).run;
    links = links;
    start_lines = start_lines_of_each_run h cells hs devices may;
    repository = repositories_are_kept h cells hs devices small may;
    disk_rule = disk_rule_of_each_run h cells hs devices small disks may;
    contact = contact few;
    contents = contents few;
  }

  -- ---- answers

  module _ (o : IsOrdinary h ms) where
    of_header : AllByRecursion (IsOfHeader h) (lines_of ms)
    of_header = all_of_header h (lines_of ms) o.fit

    boots : AllByRecursion (BootsInHeader h) hs
    boots = boots_are_of_the_header h cells hs shaped (all_lines h (first_cluster h) (first_scene h cells) hs of_header).1

    no_disk : Always NoDiskFails ms
    no_disk = no_disk_fails_by_lines h cells hs nodes devices small may shaped of_header o.few

    attempts_caused : Attempts S ms
    attempts_caused =
        attempts_so S ms
        (causes_so S ms (wanted h cells hs nodes devices small may boots) (endings.attempts_are_under_way_in_each_run h cells hs devices small may) (results_of_each_run h cells hs devices small disks may shaped)
        (endings.superseded_in_each_run h cells hs devices small may) (endings.silent_in_ticks_of_each_run h cells hs devices small may) (silents h cells hs nothing nodes devices small disks may shaped native boots (run_left h cells hs devices small same may shaped o.few))
        (counts.foreign_of_each_run h cells hs devices small may) (exclusions_of_each_run h cells hs devices small may) (attempts.beats_are_due_in_each_run h cells hs devices small may))

    downs_caused : Downs S ms
    downs_caused =
        downs_so S ms (downs.crashes_of_each_run h cells hs devices small may) (downs.fences_of_each_run h cells hs devices small may) (downs.stops_of_each_run h cells hs devices small may)
        (stops_are_caused wanted h cells hs nothing nodes devices small disks may shaped native boots (run_left h cells hs devices small same may shaped o.few))
        (exclusions_are_told_in_each_run h cells hs devices small may) no_disk (downs.stops_come_in_each_run h cells hs devices small may)

    left : NumberIsLeft S ms
    left = subst (λ k. IsLeft (links_after k ms).next) (sym same) (told_left h cells hs devices small same may shaped o.few)

    -- of each event, and of each behind which a packet number is left
    abbrev Both : EventLaw → EventLaw → EventLaw
    Both P Q = λ before x entries. P before x entries × Q before x entries

    replies_told : EachEvent (RepliesSo S) ms
    replies_told =
        events_by (Both (OrderReplies S) (Both (CollectReplies S) (Both (PrepareReplies S) (TaskReplies S)))) (RepliesSo S) [] ms
        (λ before x entries k. record { orders = k.0; collects = k.1.0; prepares = k.1.1.0; tasks = k.1.1.1 })
        (events_both (OrderReplies S) (Both (CollectReplies S) (Both (PrepareReplies S) (TaskReplies S))) [] ms (while_left S (OrderReplies S) [] ms left (orders_are_answered_in_each_run h cells hs S devices small same may shaped))
        (events_both (CollectReplies S) (Both (PrepareReplies S) (TaskReplies S)) [] ms (while_left S (CollectReplies S) [] ms left (collects_are_answered_in_each_run h cells hs S nodes devices small same may shaped boots))
        (events_both (PrepareReplies S) (TaskReplies S) [] ms (while_left S (PrepareReplies S) [] ms left (prepares_are_answered_in_each_run h cells hs S devices small same may shaped))
        (while_left S (TaskReplies S) [] ms left (tasks_are_answered h cells hs nodes devices small disks same may shaped native boots)))))

    -- what goes out, and goes again
    sent_told : EachEvent OutSo ms
    sent_told =
        events_by (Both Prepares (Both Installs (Both PreparesGo (Both Requests RequestsGo)))) OutSo [] ms (λ before x entries k. record { prepares = k.0; installs = k.1.0; prepares_again = k.1.1.0; requests = k.1.1.1.0; requests_again = k.1.1.1.1 })
        (events_both Prepares (Both Installs (Both PreparesGo (Both Requests RequestsGo))) [] ms (while_left S Prepares [] ms left (owed.prepares_of_each_run h cells hs S devices small same may shaped))
        (events_both Installs (Both PreparesGo (Both Requests RequestsGo)) [] ms (while_left S Installs [] ms left (each_install_of_each_run h cells hs S nodes devices small same may shaped boots o.few))
        (events_both PreparesGo (Both Requests RequestsGo) [] ms (while_left S PreparesGo [] ms left (prepares_again_of_each_run h cells hs S devices small same may shaped))
        (events_both Requests RequestsGo [] ms (while_left S Requests [] ms left (requests_of_each_run h cells hs S devices small same may shaped o.few_lines o.short))
        (while_left S RequestsGo [] ms left (requests_again_of_each_run h cells hs S devices small same may shaped o.few_lines))))))

    messages_told : Messages S ms
    messages_told =
        events_by (Both (RepliesSo S) (Both (Reports S) (Both OutSo IsOfOne))) (Owes S) [] ms (λ before x entries k. owes_so S before x entries (record { replies = k.0; reports = k.1.0; out = k.1.1.0; one_node = k.1.1.1 }))
        (events_both (RepliesSo S) (Both (Reports S) (Both OutSo IsOfOne)) [] ms replies_told
        (events_both (Reports S) (Both OutSo IsOfOne) [] ms (while_left S (Reports S) [] ms left (reports_are_sent h cells hs nodes devices small disks same may shaped native boots))
        (events_both OutSo IsOfOne [] ms sent_told (owed.one_node_of_each_run h cells hs devices small may shaped))))

    answers : Answers S ms
    answers = record {
      lines = lines_are_answered h cells hs nodes devices small disks same may shaped native o.fit o.few;
      attempts = attempts_caused;
      in_time = in_time h cells hs nodes devices small disks same may shaped native boots o.ask o.few;
      accounted = all_accounted_in_each_run h cells hs devices small disks may shaped;
      downs = downs_caused;
      commands = taken.commands_are_taken_in_each_run h cells hs devices small may shaped o.few_lines;
      once = commands.answers_once_in_each_run h cells hs devices small may o.few_lines;
      messages = messages_told;
    }

    -- ---- the end

    whole : IsWhole S ms
    whole = record {
      drops = subst (λ k. drop_due k ms ≡ None) (sym same) (links_of_each_run h cells hs may).due;
      bases = no_base_is_due h cells hs devices may;
      stops = downs.no_stop_is_due h cells hs devices small may;
      rounds = no_round_is_left h cells hs nodes devices small disks same may shaped native boots o.ask o.few;
    }

    history : History S ms
    history = record { holds = holds o.few_lines; answers = answers; rounds = rounds_are_told h cells hs nodes devices small disks same may shaped native boots o.ask o.few; whole = whole }

pub histories_from : AttemptsBeginAsWanted → SilentsAreCaused → AttemptsEndInTime → HistoriesOfEachRun
histories_from wanted silents in_time h cells hs nodes devices small disks same may shaped native o = history wanted silents in_time h cells hs nodes devices small disks same may shaped native o

-- What plain lines come to is a trace: what is proved of each run, all together.
use Rattle.std.proofs.Common.{◌≡◌, ℕ, ◌≤◌, ◌<◌, ◌^◌, List, [], ◌∷◌, length, refl, sym, subst}
use Rattle.std.specs.List.{AllByRecursion}
use Rattle.cl_base.specs.Limits.{most_devices, most_nodes}
use Rattle.cl_base.specs.declared.header.Header.{Header}
use Rattle.schedule_text.specs.declared.event.Event.{Event}
use Rattle.schedule_text.specs.declared.event.Event.TheVariants as event
use Rattle.schedule_text.specs.declared.line.Line.{Line}
use Rattle.schedule_text.specs.declared.line.Line.TheVariants as line
use Rattle.history.specs.Moment.{Moment, Part, Said, Told, lines_of}
use Rattle.history_setting.proofs.Votes.{setting_votes_of_each_run}
use Rattle.world_model.specs.First.{first_cluster}
use Rattle.world_model.specs.Worlds.{Play}
use Rattle.run_history.proofs.DevicesRun.{devices_of_each_run}
use Rattle.run_history.proofs.LinksRun.{links_of_each_run}
use Rattle.run_history.proofs.DeedRuns.{no_base_is_due, start_lines_of_each_run}
use Rattle.run_history.proofs.WholeEachRun.{repositories_are_kept}
use Rattle.run_history.proofs.DiskEachRun.{disk_rule_of_each_run}
use Rattle.run_history.proofs.Runs.{installed_of_each_run, once_of_each_run, prepared_of_each_run, ready_of_each_run, told_of_each_run}
use Rattle.run_history.specs.Happenings.{all_happened}
use Rattle.run_history.specs.Scenes.{first_scene}
use Rattle.run_history.specs.Telling.{IsInHeader, IsTold, lines_upon}
use Rattle.run_history.specs.WorldLines.{AreDisks}
use Rattle.run_attempts.proofs.Runs as attempts
use Rattle.run_attempts.proofs.endings.Runs as endings
use Rattle.run_commands.proofs.Laws as commands
use Rattle.run_downs.proofs.Runs as downs
use Rattle.run_devices.proofs.installs.Runs.{installs_tell_all_seizings}
use Rattle.run_devices.proofs.readings.Runs as readings
use Rattle.run_devices.proofs.valid.Runs as valid
use Rattle.run_devices.proofs.validity.Runs.{promises_show_validity_in_each_run}
use Rattle.run_lines.specs.rounds.Laws.{AsksSome}
use Rattle.run_messages.proofs.Runs.{heartbeats_of_each_run}
use Rattle.run_messages.proofs.Spelling.{spelled_of_each_run}
use Rattle.run_messages.proofs.records.Runs.{installed_base_of_each_run, newest_base_of_each_run, newest_of_each_run, records_of_each_run}
use Rattle.run_packets.specs.waiting.Laws.{CommandIsShort, CommandsAreShort}
use Rattle.run_packets.proofs.fits.Lines.{all_lines, events_are_of}
use Rattle.run_packets.proofs.native.Boots.{boots_are_of_the_header}
use Rattle.run_packets.specs.admitted.Laws.{AttemptsBeginAsWanted, NoneIsForeignInEachRun}
use Rattle.run_packets.specs.fits.Laws.{IsOfHeader}
use Rattle.run_seizings.proofs.Runs.{held_of_each_run, known_held_of_each_run}
use Rattle.run_outcomes.specs.Traces.{IsPlain, IsTrace, TracesOfEachRun}
use Rattle.run_outcomes.specs.lines.Laws.{IsFitting}
use Rattle.run_outcomes.proofs.counts.Runs as counts
use Rattle.run_outcomes.proofs.histories.Runs.{histories_of_each_run}

-- ---- what plain lines are

fits : (h : Header) (e : Event) → IsPlain h e → IsFitting h (line.Event e)
fits h (event.Command n words) is = tt
fits h (event.Rounds count nodes) is = tt
fits h (event.Boot n) is = is
fits h (event.Fault n d done) is = is
fits h (event.Write n d value) is = is
fits h _ is = tt

asks : (h : Header) (e : Event) → IsPlain h e → AsksSome (line.Event e)
asks h (event.Rounds count nodes) is = is
asks h _ is = tt

in_header : (h : Header) (e : Event) → IsPlain h e → IsInHeader h e
in_header h (event.Boot n) is = is
in_header h (event.Fault n d done) is = is
in_header h _ is = tt

-- a line that gives a command gives one of so few bytes
abbrev GivesFew : Line → Type 0
GivesFew (line.Event (event.Command n words)) = length words ≤ 4096
GivesFew _ = Unit {0}

event_short : (before : List Moment) (e : Event) → GivesFew (line.Event e) → CommandIsShort before (Said (line.Event e))
event_short before (event.Command n words) few = few
event_short before _ few = tt

line_short : (before : List Moment) (l : Line) → GivesFew l → CommandIsShort before (Said l)
line_short before (line.Event e) few = event_short before e few
line_short before _ few = tt

commands_are_short : (moments : List Moment) → AllByRecursion GivesFew (lines_of moments) → CommandsAreShort moments
commands_are_short [] few = tt
commands_are_short (Said l ∷ before) few = (line_short before l few.0, commands_are_short before few.1)
commands_are_short (Part e ∷ before) few = (tt, commands_are_short before few)
commands_are_short (Told entry ∷ before) few = (tt, commands_are_short before few)

gives : (h : Header) (e : Event) → IsPlain h e → GivesFew (line.Event e)
gives h (event.Command n words) is = is
gives h _ is = tt

all_in_header : (h : Header) (events : List Event) → AllByRecursion (IsPlain h) events → AllByRecursion (IsInHeader h) events
all_in_header h [] are = tt
all_in_header h (e ∷ events) are = (in_header h e are.0, all_in_header h events are.1)

-- what holds of the line of each plain event holds of all lines
all_upon : (h : Header) (P : Line → Type 0) → ((e : Event) → IsPlain h e → P (line.Event e)) → (events : List Event) (before : List Line) → AllByRecursion (IsPlain h) events → AllByRecursion P before
    → AllByRecursion P (lines_upon before events)
all_upon h P each [] before are stood = stood
all_upon h P each (e ∷ events) before are stood = all_upon h P each events (line.Event e ∷ before) are.1 (each e are.0, stood)

-- ---- the trace

pub traces_of_each_run : AttemptsBeginAsWanted → NoneIsForeignInEachRun → TracesOfEachRun
traces_of_each_run wanted none_foreign h events p nodes devices cluster built are told =
    let moments = (all_happened (first_cluster h) (first_scene h 65536) told.happenings).moments in
    let of_header = subst (λ (ls : List Line). AllByRecursion (IsOfHeader h) ls) (sym told.said) (events_are_of h events [] (all_in_header h events are) tt) in
    let boots = boots_are_of_the_header h 65536 told.happenings told.shaped (all_lines h (first_cluster h) (first_scene h 65536) told.happenings of_header).1 in
    let native = none_foreign h 65536 told.happenings nodes devices cluster told.may boots in
    let fit = subst (λ (ls : List Line). AllByRecursion (IsFitting h) ls) (sym told.said) (all_upon h (IsFitting h) (fits h) events [] are tt) in
    let ask = subst (λ (ls : List Line). AllByRecursion AsksSome ls) (sym told.said) (all_upon h AsksSome (asks h) events [] are tt) in
    let short : CommandsAreShort moments = commands_are_short moments (subst (λ (ls : List Line). AllByRecursion GivesFew ls) (sym told.said) (all_upon h GivesFew (gives h) events [] are tt)) in
    let links = links_of_each_run h 65536 told.happenings told.may in
    record {
      moments = moments;
      said = told.said;
      told = told.text;
      links = links.run;
      no_drop_due = links.due;
      devices = (devices_of_each_run h 65536 told.happenings devices built told.may).run;
      start_lines = start_lines_of_each_run h 65536 told.happenings devices told.may;
      no_base_due = no_base_is_due h 65536 told.happenings devices told.may;
      repository = repositories_are_kept h 65536 told.happenings devices cluster told.may;
      disk_rule = disk_rule_of_each_run h 65536 told.happenings devices cluster built told.may;
      attempts_differ = once_of_each_run h 65536 told.happenings devices cluster told.may;
      installed = installed_of_each_run h 65536 told.happenings devices cluster told.may;
      ready = ready_of_each_run h 65536 told.happenings devices cluster told.may;
      members = told_of_each_run h 65536 told.happenings devices cluster told.may;
      prepared = prepared_of_each_run h 65536 told.happenings devices cluster told.may;
      held = held_of_each_run h 65536 told.happenings devices cluster told.may;
      votes = setting_votes_of_each_run h 65536 told.happenings devices cluster told.may;
      spelled = spelled_of_each_run h 65536 told.happenings devices cluster told.may;
      records = records_of_each_run h 65536 told.happenings devices cluster told.may;
      newest = newest_of_each_run h 65536 told.happenings devices cluster told.may;
      installed_base = installed_base_of_each_run h 65536 told.happenings devices cluster told.may;
      newest_base = newest_base_of_each_run h 65536 told.happenings devices cluster told.may;
      known_held = known_held_of_each_run h 65536 told.happenings devices cluster told.may;
      heartbeats = heartbeats_of_each_run h 65536 told.happenings devices cluster told.may;
      history = λ few_lines few.
          histories_of_each_run wanted h 65536 told.happenings nodes devices cluster built refl told.may told.shaped native
          (record { fit = fit; ask = ask; short = short; few_lines = few_lines; few = few });
      beats_in_ticks = attempts.beats_in_ticks_of_each_run h 65536 told.happenings devices cluster told.may;
      installs_bring = attempts.installs_bring_members_in_each_run h 65536 told.happenings devices cluster told.may;
      waited = endings.silent_after_eight_ticks_in_each_run h 65536 told.happenings devices cluster told.may;
      promised = endings.promised_in_each_run h 65536 told.happenings devices cluster told.may;
      names_members = endings.ends_name_members_in_each_run h 65536 told.happenings devices cluster told.may;
      needed = counts.needed_of_each_run h 65536 told.happenings devices cluster told.may;
      lacking = counts.lacking_of_each_run h 65536 told.happenings devices cluster told.may;
      seizeds = readings.seizeds_say_what_was_read h 65536 told.happenings devices cluster told.may;
      readings = readings.readings_are_of_seizers h 65536 told.happenings devices cluster told.may;
      one_seizer = valid.one_seizer_in_each_run h 65536 told.happenings devices cluster told.may;
      installs_told = installs_tell_all_seizings h 65536 told.happenings devices cluster told.may;
      valid_shown = promises_show_validity_in_each_run h 65536 told.happenings devices cluster built told.may told.shaped;
      numbered = commands.commands_are_numbered_in_each_run h 65536 told.happenings devices cluster told.may;
      own_answers = commands.own_answers_fit_in_each_run h 65536 told.happenings devices cluster told.may;
      boots = downs.boots_of_each_run h 65536 told.happenings devices cluster told.may;
      saves = downs.saves_of_each_run h 65536 told.happenings devices cluster told.may;
    }

-- Each stop, in whatever event it falls, is one that `history` allows.
use Rattle.std.specs.Prelude.{◌≡◌, true, List, [], ◌∷◌, Option, Some}
use Rattle.std.proofs.Common.{refl}
use Rattle.history.specs.Moment.{Moment}
use Rattle.history.specs.Order.{Always, under_way}
use Rattle.history.specs.Saves.{may_save}
use Rattle.history.specs.Setting.{Setting}
use Rattle.history.specs.Trace.{stopped}
use Rattle.history_setting.specs.Settings.{setting_of}
use Rattle.schedule_text.specs.declared.event.Event.{Event}
use Rattle.schedule_text.specs.declared.event.Event.TheVariants as event
use Rattle.run_downs.proofs.Runs.{stops_of_each_run}
use Rattle.run_downs.specs.Laws.{StopsAtStop}
use Rattle.run_packets.specs.admitted.Laws.{AttemptsBeginAsWanted}
use Rattle.run_outcomes.specs.saves.Laws.{StopsByRule, is_ruled}
use Rattle.run_outcomes.specs.stops.AtDevices.{DiskStops, StopIsCaused, StopsAreCaused, is_disk}
use Rattle.run_outcomes.specs.stops.Inside.{CommandsAreIdle}
use Rattle.run_outcomes.specs.stops.Laws.{TickStops, is_tick}
use Rattle.run_outcomes.specs.tasks.Laws.{QueuesAreTold}
use Rattle.run_outcomes.proofs.saves.Runs.{letter_stops_of_each_run}
use Rattle.run_outcomes.proofs.stops.DiskRuns.{disk_stops_from}
use Rattle.run_outcomes.proofs.stops.Runs.{tick_stops_of_each_run}

by_event : (e : Option Event) (P : Type 0) → (is_ruled e ≡ true → P) → (is_tick e ≡ true → P) → (is_disk e ≡ true → P) → P
by_event (Some (event.Tick n)) P ruled tick disk = tick refl
by_event (Some (event.Disk n)) P ruled tick disk = disk refl
by_event _ P ruled tick disk = ruled refl

one : (S : Setting) (ms : List Moment) (x : Moment) → StopsAtStop ms x → StopsByRule S ms x → TickStops S ms x → DiskStops S ms x → StopIsCaused S ms x
one S ms (stopped n) falls ruled tick disk = (falls, by_event (under_way ms) (may_save S n ms ≡ true) ruled tick disk)
one S ms _ falls ruled tick disk = tt

each : (S : Setting) (ms : List Moment) → Always StopsAtStop ms → Always (StopsByRule S) ms → Always (TickStops S) ms → Always (DiskStops S) ms → Always (StopIsCaused S) ms
each S [] falls ruled tick disk = tt
each S (x ∷ ms) falls ruled tick disk = (one S ms x falls.0 ruled.0 tick.0 disk.0, each S ms falls.1 ruled.1 tick.1 disk.1)

pub stops_are_caused_from : AttemptsBeginAsWanted → QueuesAreTold → CommandsAreIdle → StopsAreCaused
stops_are_caused_from wanted queues idle h cells hs last nodes few small disks may shaped native boots left =
    each (setting_of h) _ (stops_of_each_run h cells hs few small may) (letter_stops_of_each_run h cells hs few small may (setting_of h)) (tick_stops_of_each_run wanted h cells hs nodes few small may boots)
    (disk_stops_from queues idle h cells hs last nodes few small disks may shaped native boots left)

-- What a node goes down for has its cause, whole.
use Rattle.std.specs.Prelude.{List, [], ◌∷◌}
use Rattle.cl_base.specs.declared.panic.Panic.TheVariants as panic
use Rattle.history.specs.Downs.{Downs, HasDownCause}
use Rattle.history.specs.Moment.{Moment}
use Rattle.history.specs.Order.{Always}
use Rattle.history.specs.Setting.{Setting}
use Rattle.history.specs.Trace.{down, saved, stopped}
use Rattle.run_downs.specs.Laws.{CrashIsSaid, FencedByWrite, StopComes, StopsAtStop}
use Rattle.run_packets.specs.fits.Laws.{NoDiskFails}
use Rattle.status_report.specs.declared.node_entry.DownCause.TheVariants as cause
use Rattle.run_outcomes.specs.panics.Laws.{PanicsExcluded}
use Rattle.run_outcomes.specs.stops.AtDevices.{StopIsCaused}

-- what is proved of each moment
pub record DownSo (S : Setting) (before : List Moment) (x : Moment) : Type 0 where
  pub crash : CrashIsSaid before x
  pub fenced : FencedByWrite before x
  pub stops : StopsAtStop before x
  pub caused : StopIsCaused S before x
  pub excluded : PanicsExcluded before x
  pub disk : NoDiskFails before x
  pub comes : StopComes before x

has_down_cause : (S : Setting) (before : List Moment) (x : Moment) → DownSo S before x → HasDownCause S before x
has_down_cause S before (down n cause.Crash) k = k.crash
has_down_cause S before (stopped n) k = k.caused
has_down_cause S before (down n (cause.Panic (panic.Fenced d))) k = k.fenced
has_down_cause S before (down n (cause.Panic (panic.Excluded f))) k = k.excluded
has_down_cause S before (down n (cause.Panic panic.Disk)) k = k.disk
has_down_cause S before (down n (cause.Panic (panic.Stop resource))) k = tt
has_down_cause S before (saved n) k = k.stops
has_down_cause S before _ k = tt

pub downs_so : (S : Setting) (ms : List Moment) → Always CrashIsSaid ms → Always FencedByWrite ms → Always StopsAtStop ms → Always (StopIsCaused S) ms → Always PanicsExcluded ms → Always NoDiskFails ms
    → Always StopComes ms → Downs S ms
downs_so S [] crash fenced stops caused excluded disk comes = tt
downs_so S (x ∷ ms) crash fenced stops caused excluded disk comes = (
  (has_down_cause S ms x (record { crash = crash.0; fenced = fenced.0; stops = stops.0; caused = caused.0; excluded = excluded.0; disk = disk.0; comes = comes.0 }), comes.0),
  downs_so S ms crash.1 fenced.1 stops.1 caused.1 excluded.1 disk.1 comes.1,
)

-- A run from the first state reaches states in which the invariant holds, and a further run takes nothing back.
use Rattle.std.proofs.Common.{ℕ, Bool, List}
use Rattle.device_machine.specs.Sharing.{Sharing, Event, Run, first_sharing}
use Rattle.device_machine.specs.Laws.{Later}
use Rattle.device_machine.proofs.Invariant.{Inv}
use Rattle.device_machine.proofs.Kept.{first_ok, runs}
use Rattle.device_machine.proofs.Later.{run_later}

pub reached : (registered : ℕ → Bool) (events : List Event) (s : Sharing) → Run (first_sharing registered) events s → Inv s
reached registered events s r = runs (first_sharing registered) s events (first_ok registered) r

pub reached_later : (registered : ℕ → Bool) (before later : List Event) (s t : Sharing) → Run (first_sharing registered) before s → Run s later t → Inv t
reached_later registered before later s t r x = runs s t later (reached registered before s r) x

pub never_back : (registered : ℕ → Bool) (before later : List Event) (s t : Sharing) → Run (first_sharing registered) before s → Run s later t → Later s t
never_back registered before later s t r x = run_later s t later (reached registered before s r) x

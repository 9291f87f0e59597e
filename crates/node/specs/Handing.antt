-- A node that is handed back, or let go.
use Rattle.std.specs.Prelude.{ℕ, ◌≡◌, ◌==◌, ◌&&◌, nat_le, Bool, true, false, Result, Ok, Err}
use Rattle.cl_base.specs.declared.panic.Panic.TheVariants as panic
use Rattle.status_report.specs.declared.node_entry.DownCause.TheVariants as down
use Rattle.node_model.specs.declared.node.UpNode.{UpNode}
use Rattle.node_model.specs.declared.seat.Seat.{Seat}
use Rattle.node_model.specs.declared.stop.Stop.{Stop}
use Rattle.node_model.specs.declared.stop.Stop.TheVariants.{Down, NoMemory}
use Rattle.node_model.specs.Seats.{state_of}

-- without memory the run ends
abbrev pub kept_so : {T E : Type 0} → UpNode → Result T E → Result UpNode Stop
kept_so x (Ok t) = Ok x
kept_so x (Err e) = Err NoMemory

-- the attempt of its session leaves it out

abbrev pub is_left_out : Seat → ℕ → Bool
is_left_out seat e = nat_le 1 e && ((state_of seat).session == e)

abbrev pub Excludes : {T : Type 0} → Seat → ℕ → ℕ → Result T Stop → Type 0
Excludes seat e newest (Ok t) = is_left_out seat e ≡ false
Excludes seat e newest (Err (Down why)) = (is_left_out seat e ≡ true) × (why ≡ down.Panic (panic.Excluded newest))
Excludes seat e newest (Err NoMemory) = ⊥

use Rattle.std.proofs.Common.{◌≡◌, ◌-◌, ◌≤◌, length}
use Rattle.cell_pool.specs.Made.{all_cells}
use Rattle.cell_pool.proofs.pool.make_free.Given as goal

abbrev pub invariant-loop-made : goal.invariant-loop-made
invariant-loop-made l = record { within : length l.made.pool ≤ l.made.room; same : all_cells l.made ≡ all_cells l.initial.made }

abbrev pub decreases-loop-made : goal.decreases-loop-made
decreases-loop-made l = l.made.room - length l.made.pool

use Rattle.std.proofs.Common.{◌≡◌, ◌++◌}
use Rattle.ccr_rows.specs.Rows.{device_rows_to}
use Rattle.ccr_rows.proofs.infrastructure.push_devices.Given as goal

abbrev pub invariant-loop-place : goal.invariant-loop-place
invariant-loop-place l = l.rows.items ≡ l.fn.rows.items ++ device_rows_to l.config l.place

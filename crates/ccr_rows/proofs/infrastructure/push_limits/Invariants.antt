use Rattle.std.proofs.Common.{◌≡◌, ◌++◌, map, take}
use Rattle.ccr_rows.specs.Rows.{limit_row}
use Rattle.ccr_rows.proofs.infrastructure.push_limits.Given as goal

abbrev pub invariant-loop-limit : goal.invariant-loop-limit
invariant-loop-limit l = l.rows.items ≡ l.fn.rows.items ++ map limit_row (take l.limit-index l.limit-items)

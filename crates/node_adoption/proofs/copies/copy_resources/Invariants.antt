use Rattle.std.proofs.Common.{◌≡◌, take}
use Rattle.node_adoption.proofs.copies.copy_resources.Given as goal

abbrev pub invariant-loop-report : goal.invariant-loop-report
invariant-loop-report l = l.copies.items ≡ take l.report-index l.reports

use Rattle.std.proofs.Common.{◌≡◌, fold, take}
use Rattle.rgm_state.specs.Reports.{with_group}
use Rattle.rgm_state.proofs.reports.add_groups.Given as goal

abbrev pub invariant-loop-report : goal.invariant-loop-report
invariant-loop-report l = l.histories ≡ fold (with_group l.n) l.fn.histories (take l.report-index l.reports)

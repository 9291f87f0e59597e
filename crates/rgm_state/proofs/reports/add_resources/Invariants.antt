use Rattle.std.proofs.Common.{◌≡◌, fold, take}
use Rattle.rgm_state.specs.Reports.{with_resource}
use Rattle.rgm_state.proofs.reports.add_resources.Given as goal

abbrev pub invariant-loop-report : goal.invariant-loop-report
invariant-loop-report l = l.states ≡ fold (with_resource l.n) l.fn.states (take l.report-index l.reports)

use Rattle.std.proofs.Common.{◌≡◌, take}
use Rattle.rgm_state.specs.Reports.{reported_histories}
use Rattle.rgm_state.proofs.reports.reported_histories.Given as goal

abbrev pub invariant-loop-n : goal.invariant-loop-n
invariant-loop-n l = l.histories ≡ reported_histories (take l.n-index l.reports)

use Rattle.std.proofs.Common.{◌≡◌, take}
use Rattle.rgm_state.specs.Reports.{reported_states}
use Rattle.rgm_state.proofs.reports.reported_states.Given as goal

abbrev pub invariant-loop-n : goal.invariant-loop-n
invariant-loop-n l = l.states ≡ reported_states (take l.n-index l.reports)

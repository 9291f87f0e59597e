use Rattle.attempt_laws.proofs.Ends.{collects_go_again, requests_go_again, installs_go_again, nothing_else_goes}
use Rattle.attempt_laws.proofs.laws.attempts_repeat.Goals as goal

pub returns : goal.returns
returns c = record {
  collects = collects_go_again;
  requests = requests_go_again;
  installs = installs_go_again;
  nothing_else = nothing_else_goes;
}

use Rattle.status_report.proofs.Apart.{apart, trace, alike}
use Rattle.status_report.proofs.laws.no_two_print_alike.Goals as goal

pub returns : goal.returns
returns c = record { apart = apart; trace = trace; alike = alike }

use Rattle.log_laws.proofs.Logs.{logs_name_what_is_there}
use Rattle.log_laws.proofs.laws.logs_name_what_is_there.Goals as goal

pub returns : goal.returns
returns c = record { there = logs_name_what_is_there }

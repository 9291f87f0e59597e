use Rattle.status_report.proofs.Apart.{one_line}
use Rattle.status_report.proofs.laws.each_entry_is_one_line.Goals as goal

pub returns : goal.returns
returns c = record { line = one_line }

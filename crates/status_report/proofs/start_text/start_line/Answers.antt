use Rattle.status_report.proofs.start_text.start_line.Goals as goal

pub returns-in-Started : goal.returns-in-Started
returns-in-Started c = rw c.in-Started.is c.started_line.ensures

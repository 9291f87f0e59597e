use Rattle.schedule_gen.proofs.GrammarLemmas.{header_leads, header_over, lines_read, lines_read_as}
use Rattle.schedule_gen.proofs.law.lines_are_in_the_grammar.Goals as goal

pub returns-clause-header : goal.returns-clause-header
returns-clause-header c = header_leads

pub returns-clause-ends : goal.returns-clause-ends
returns-clause-ends c = header_over

pub returns-clause-lines : goal.returns-clause-lines
returns-clause-lines c = lines_read

pub returns-clause-events : goal.returns-clause-events
returns-clause-events c = lines_read_as

use Rattle.update_log.proofs.LogLemmas.{no_updates, one_more, pending_is_next}
use Rattle.update_log.proofs.laws.logs_go_on.Goals as goal

pub returns-clause-none : goal.returns-clause-none
returns-clause-none c = no_updates

pub returns-clause-more : goal.returns-clause-more
returns-clause-more c = one_more

pub returns-clause-pending : goal.returns-clause-pending
returns-clause-pending c = pending_is_next

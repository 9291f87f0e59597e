use Rattle.decision_laws.proofs.Asked.{asks_stay_safe}
use Rattle.decision_laws.proofs.Decided.{decided_goals_are_managed, decisions_stay_safe, safe_at_first}
use Rattle.decision_laws.proofs.Done.{done_stays_safe}
use Rattle.decision_laws.proofs.Updated.{updates_stay_safe}
use Rattle.decision_laws.proofs.laws.decisions_stay_safe.Goals as goal

pub returns : goal.returns
returns c = record { first = safe_at_first; decided = decisions_stay_safe; done = done_stays_safe; asked = asks_stay_safe; updated = updates_stay_safe; managed = decided_goals_are_managed }

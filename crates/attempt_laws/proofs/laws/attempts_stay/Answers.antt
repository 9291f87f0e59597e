use Rattle.attempt_laws.proofs.Stays.{plan_begins, plan_stays, newest_stays, votes_stay, past_stays, installs_come_before, final_stays, granted_stays}
use Rattle.attempt_laws.proofs.laws.attempts_stay.Goals as goal

pub returns : goal.returns
returns c = record {
  begins = plan_begins;
  plan = plan_stays;
  newest = newest_stays;
  votes = votes_stay;
  past = past_stays;
  before = installs_come_before;
  last = final_stays;
  granted = granted_stays;
}

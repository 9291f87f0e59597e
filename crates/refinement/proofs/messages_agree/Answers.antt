use Rattle.refinement.proofs.Consequences.{collects_agree, installs_agree, prepares_agree}
use Rattle.refinement.proofs.messages_agree.Goals as goal

pub returns-clause-collects : goal.returns-clause-collects
returns-clause-collects c = collects_agree

pub returns-clause-installs : goal.returns-clause-installs
returns-clause-installs c = installs_agree

pub returns-clause-prepares : goal.returns-clause-prepares
returns-clause-prepares c = prepares_agree

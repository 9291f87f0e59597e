use Rattle.cmm_member.proofs.TextLemmas.{records}
use Rattle.cmm_member.proofs.laws.records_have_their_length.Goals as goal

pub returns : goal.returns
returns c = record { length = records }

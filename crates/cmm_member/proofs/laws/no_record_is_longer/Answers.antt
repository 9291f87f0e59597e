use Rattle.cmm_member.proofs.TextLemmas.{no_record}
use Rattle.cmm_member.proofs.laws.no_record_is_longer.Goals as goal

pub returns : goal.returns
returns c = record { bound = no_record }

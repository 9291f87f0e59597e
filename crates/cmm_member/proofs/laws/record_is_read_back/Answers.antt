use Rattle.cmm_member.proofs.RowLemmas.{one_record}
use Rattle.cmm_member.proofs.laws.record_is_read_back.Goals as goal

pub returns : goal.returns
returns c = record { one = one_record }

use Rattle.cmm_member.proofs.KeyLemmas.{own_key}
use Rattle.cmm_member.proofs.laws.own_key_by_its_lower_half.Goals as goal

pub returns : goal.returns
returns c = record { own = own_key }

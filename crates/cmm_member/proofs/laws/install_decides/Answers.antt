use Rattle.cmm_member.proofs.DeviceLemmas.{install_valid, install_joined, install_stays, install_not_joined}
use Rattle.cmm_member.proofs.laws.install_decides.Goals as goal

pub returns : goal.returns
returns c = record { valid = install_valid; joined = install_joined; stays_valid = install_stays; not_joined = install_not_joined }

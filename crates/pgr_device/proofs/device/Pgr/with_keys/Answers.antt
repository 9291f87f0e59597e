use Rattle.std.proofs.Common.{sym, subst}
use Rattle.pgr_device.specs.Kept.{IsDevice}
use Rattle.pgr_device.proofs.FirstKeys.{with_keys_is}
use Rattle.pgr_device.proofs.device.Pgr.with_keys.Goals as goal

pub invariant_of-result : goal.invariant_of-result
invariant_of-result c = subst IsDevice (sym c.with_keys.ensures) (with_keys_is c.args.paths c.args.nodes c.args.cluster)

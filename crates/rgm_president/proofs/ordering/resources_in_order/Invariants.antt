use Rattle.std.proofs.Common.{◌≡◌, take}
use Rattle.rgm_president.specs.Sequence.{resources_in_order}
use Rattle.rgm_president.proofs.ordering.resources_in_order.Given as goal

abbrev pub invariant-loop-group : goal.invariant-loop-group
invariant-loop-group l = l.resources.items ≡ resources_in_order l.g (take l.group-index l.groups)

-- A start that is allowed keeps within the limits of its node.
use Rattle.std.proofs.Common.{ℕ, List, Option, Some, None, IfSome}
use Rattle.cl_base.specs.declared.method.Method.TheVariants.{Start}
use Rattle.rg_props.specs.Lookups.{named}
use Rattle.rg_props.specs.declared.group.Group.{Group}
use Rattle.rg_props.specs.declared.group.Resource.{Resource}
use Rattle.sequencer_laws.specs.AllowedCall.{IsAllowedCall, MayBeginIn}
use Rattle.sequencer_laws.specs.Situations.{Situation}
use Rattle.group_history.specs.Limits.{StartsWithin}

in_group : (s : Situation) (n : ℕ) (r : Resource) (found : Option Group) → MayBeginIn s n r found → IfSome found (StartsWithin s n r.group)
in_group s n r None may = tt
in_group s n r (Some g) may = may.within

pub of_call : (s : Situation) (n : ℕ) (r : List ℕ) (allowed : IsAllowedCall s n r Start) → IfSome (named s.table.groups allowed.resource.group) (StartsWithin s n allowed.resource.group)
of_call s n r allowed = in_group s n allowed.resource (named s.table.groups allowed.resource.group) allowed.may.0

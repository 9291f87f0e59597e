use Rattle.std.proofs.Common.{◌∙◌}
use Rattle.cl_base.proofs.NameLemmas.{name_found}
use Rattle.rt_types.proofs.types.Types.resource_type.Goals as goal

pub returns : goal.returns
returns c = record { value = rw (← c.self.view_is) (c.get.ensures.value ∙ name_found c.args.name.now c.self.inside.types.entries) }

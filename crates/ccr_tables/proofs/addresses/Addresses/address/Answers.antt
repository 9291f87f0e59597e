use Rattle.std.proofs.Common.{◌∙◌}
use Rattle.cl_base.proofs.NameLemmas.{name_found}
use Rattle.ccr_tables.proofs.addresses.Addresses.address.Goals as goal

pub returns : goal.returns
returns c = record { value = rw (← c.self.view_is) (c.get.ensures.value ∙ name_found c.args.name.now c.self.inside.addresses.entries) }

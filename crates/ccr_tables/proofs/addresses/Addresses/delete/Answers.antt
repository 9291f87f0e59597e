use Rattle.std.proofs.Common.{◌∙◌}
use Rattle.cl_base.proofs.NameLemmas.{name_removed}
use Rattle.ccr_tables.proofs.addresses.Addresses.delete.Goals as goal

pub returns : goal.returns
returns c = record { value = rw (← c.self.view_is) (c.shift_remove.ensures.entries ∙ name_removed c.args.name.now c.self.inside.addresses.entries) }

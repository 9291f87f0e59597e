use Rattle.std.proofs.Common.{◌∙◌, None}
use Rattle.cl_base.proofs.NameLemmas.{name_removed, found_at}
use Rattle.rt_types.proofs.types.Types.unregister.Goals as goal

pub returns-clause-value : goal.returns-clause-value
returns-clause-value c = rw (← c.self.view_is) (c.shift_remove.ensures.entries ∙ name_removed c.args.name.now c.self.inside.types.entries)

pub returns-clause-found : goal.returns-clause-found
returns-clause-found c = rw (← c.self.view_is)
    (λ other. found_at c.args.name.now other c.self.inside.types.entries c.shift_remove.new.self.entries None (c.shift_remove.ensures.updates.0 other))

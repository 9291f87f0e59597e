use Rattle.std.proofs.Common.{◌≡◌, ◌∙◌, ℕ, List, None, ap}
use Rattle.cl_base.proofs.NameLemmas.{name_removed, found_at}
use Rattle.rg_props.specs.Table.{GroupTable}
use Rattle.rg_props.specs.declared.group.Resource.{Resource}
use Rattle.rg_props.proofs.groups.Groups.delete_resource.Goals as goal

pub returns-clause-value : goal.returns-clause-value
returns-clause-value c = rw (← c.self.view_is)
    (ap (λ (es : List (List ℕ × Resource)). let t : GroupTable = record { version = c.self.inside.version; groups = c.self.inside.groups.entries; resources = es } in t)
    (c.shift_remove.ensures.entries ∙ name_removed c.args.r.now c.self.inside.resources.entries))

pub returns-clause-found : goal.returns-clause-found
returns-clause-found c = rw (← c.self.view_is)
    (λ other. found_at c.args.r.now other c.self.inside.resources.entries c.shift_remove.new.self.entries None (c.shift_remove.ensures.updates.0 other))

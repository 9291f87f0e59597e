use Rattle.std.proofs.Common.{◌∙◌}
use Rattle.rg_props.proofs.NameLemmas.{name_placed}
use Rattle.rg_props.proofs.groups.Groups.group_place.Goals as goal

pub returns : goal.returns
returns c = record { value = rw (← c.self.view_is) (c.get_index_of.ensures.index ∙ name_placed c.args.name.now c.self.inside.groups.entries) }

use Rattle.std.proofs.Common.{rules}
use Rattle.ccr_tables.specs.Uses.{resource_passes}
use Rattle.ccr_tables.proofs.Firsts.{none_more, none_past}
use Rattle.ccr_tables.proofs.config.Config.first_resource.Goals as goal
use Rattle.ccr_tables.proofs.config.Config.first_resource.Goals.{in_default-via-in-None-1, in_default-via-in-Some+else-resource_passes}

pub loop-place-preserved : goal.loop-place-preserved
loop-place-preserved c = elim c.in_default.branch [
  | in_default-via-in-None-1 w ↦ none_past (resource_passes c.args.self.now c.args.test.now) c.args.self.now.groups.resources c.loop-place.place c.loop-place.invariant (search rules)
  | in_default-via-in-Some+else-resource_passes w ↦ none_more (resource_passes c.args.self.now c.args.test.now) c.args.self.now.groups.resources c.loop-place.place (w.in-Some.name.now, w.in-Some.resource.now) c.loop-place.invariant (search rules) (search rules)
]

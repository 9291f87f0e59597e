use Rattle.std.proofs.Common.{rules}
use Rattle.ccr_tables.specs.Uses.{is_served_by}
use Rattle.ccr_tables.proofs.Firsts.{found_here, none_more, none_past}
use Rattle.ccr_tables.proofs.addresses.Addresses.first_served_by.Goals as goal
use Rattle.ccr_tables.proofs.addresses.Addresses.first_served_by.Goals.{in_default-via-in-None-1, in_default-via-in-Some+else-is_served_by}

pub loop-place-preserved : goal.loop-place-preserved
loop-place-preserved c = elim c.in_default.branch [
  | in_default-via-in-None-1 w ↦ none_past (is_served_by c.args.group.now) c.args.self.now c.loop-place.place c.loop-place.invariant (search rules)
  | in_default-via-in-Some+else-is_served_by w ↦ none_more (is_served_by c.args.group.now) c.args.self.now c.loop-place.place (w.in-Some.name.now, w.in-Some.address.now) c.loop-place.invariant (search rules) (search rules)
]

pub returns-in-loop-place : goal.returns-in-loop-place
returns-in-loop-place c = record {
  value = found_here (is_served_by c.args.group.now) c.args.self.now c.loop-place.place (c.in-Some.name.now, c.in-Some.address.now) c.loop-place.invariant (search rules) (search rules);
}

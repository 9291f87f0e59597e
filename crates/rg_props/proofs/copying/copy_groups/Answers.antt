use Rattle.rg_props.proofs.Copies.{one_copied}
use Rattle.rg_props.proofs.copying.copy_groups.Goals as goal

pub loop-name-preserved-in_ok-insert : goal.loop-name-preserved-in_ok-insert
loop-name-preserved-in_ok-insert c =
    one_copied c.loop-name.copies c.args.groups.now.entries c.loop-name.name-iterator c.next.new.self c.insert.new.self.entries c.in-Some.name.now c.in-Some.group.now c.in_ok-copy.field-0
    c.iter-name-items.ensures.unique c.loop-name.invariant c.in-Some.ensures.steps c.in_ok-copy.ensures c.in_ok-insert.ensures.entries

pub loop-name-preserved : goal.loop-name-preserved
loop-name-preserved c =
    one_copied c.loop-name.copies c.args.groups.now.entries c.loop-name.name-iterator c.next.new.self c.insert.new.self.entries c.in-Some.name.now c.in-Some.group.now c.in_ok-copy.field-0
    c.iter-name-items.ensures.unique c.loop-name.invariant c.in-Some.ensures.steps c.in_ok-copy.ensures c.in_ok-insert.ensures.entries

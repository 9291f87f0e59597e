use Rattle.std.proofs.Common.{rules}
use Rattle.node_updates.proofs.LastPrepared.{of_a_member, of_another, of_none, of_president}
use Rattle.node_updates.proofs.prepared.is_last.Goals as goal

pub returns-then-not-is_of_member-clause-plan : goal.returns-then-not-is_of_member-clause-plan
returns-then-not-is_of_member-clause-plan c = λ k me. of_another k me c.args.up.now c.args.from c.args.epoch c.args.place c.is_of_member.result c.is_of_member.ensures.value (search rules)

pub returns-in_default-clause-plan : goal.returns-in_default-clause-plan
returns-in_default-clause-plan c = λ k me. of_none k me c.args.up.now c.args.from c.args.epoch c.args.place c.is_of_member.result c.is_of_member.ensures.value (search rules) (search rules)

pub returns-clause-plan : goal.returns-clause-plan
returns-clause-plan c = λ k me.
    of_president k me c.args.up.now c.in-Some.presidency c.prepared_in.new.presidency c.args.from c.args.epoch c.args.place c.is_of_member.result c.prepared_in.result c.is_of_member.ensures.value
    (search rules) (search rules) c.prepared_in.ensures.after c.prepared_in.ensures.value

pub returns-clause-member : goal.returns-clause-member
returns-clause-member c = λ h. of_a_member c.args.up.now c.args.from c.args.epoch c.is_of_member.result c.is_of_member.ensures.value (search rules)

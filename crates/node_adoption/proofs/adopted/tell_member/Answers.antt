use Rattle.std.proofs.Common.{rules, ap, ◌∙◌, ◌++◌}
use Rattle.node_adoption.proofs.Lists.{told_more_at, no_more}
use Rattle.node_model.specs.Attempts.{adopted_line}
use Rattle.rg_view.specs.States.{state_of}
use Rattle.node_adoption.proofs.adopted.tell_member.Goals as goal
use Rattle.node_adoption.proofs.adopted.tell_member.Goals.{in-Some+in_ok-tell_resource, in_default}

pub loop-place-preserved : goal.loop-place-preserved
loop-place-preserved c = elim c.match-resource_at.branch [
  | in-Some+in_ok-tell_resource w ↦
      let told = told_more_at (λ x. adopted_line c.args.epoch c.args.node x.0 (state_of c.args.view.now.resources x.0 c.args.node)) c.args.groups.now.resources c.loop-place.place
      c.args.out.now.items c.loop-place.out.items w.tell_resource.new.out.items (w.in-Some.r.now, w.in-Some.field-0-1.now) (search rules) c.loop-place.invariant
      (w.in_ok-tell_resource.ensures ∙ ap (λ s. c.loop-place.out.items ++ adopted_line c.args.epoch c.args.node w.in-Some.r.now s) w.state.ensures.value) in
      search rules
  | in_default w ↦
      let more = no_more (λ x. adopted_line c.args.epoch c.args.node x.0 (state_of c.args.view.now.resources x.0 c.args.node)) c.args.groups.now.resources c.loop-place.place (search rules) in
      search rules
]

use Rattle.std.proofs.Common.{rules, ap, ◌∙◌, ◌∷◌, []}
use Rattle.ccr_rows.specs.Rows.{resource_rows}
use Rattle.ccr_rows.proofs.Pieces.{one_more, none_more}
use Rattle.ccr_rows.proofs.resources.push_resources.Goals as goal
use Rattle.ccr_rows.proofs.resources.push_resources.Goals.{in-Some+in_ok-push_resource, in_default}

pub loop-place-preserved : goal.loop-place-preserved
loop-place-preserved c = elim c.match-resource_at.branch [
  | in-Some+in_ok-push_resource w ↦ one_more (λ p. resource_rows p.0 p.1) c.args.groups.now.resources c.loop-place.place c.args.rows.now.items c.loop-place.rows.items c.loop-place.invariant (w.in-Some.name.now, w.in-Some.resource.now) c.match-resource_at.rows.items (search rules) (search rules)
  | in_default w ↦ ap (λ rows. rows.items) w.rows-is ∙ none_more (λ p. resource_rows p.0 p.1) c.args.groups.now.resources c.loop-place.place c.args.rows.now.items c.loop-place.rows.items c.loop-place.invariant (search rules)
]

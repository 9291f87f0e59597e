use Rattle.std.proofs.Common.{rules, ap, ◌∙◌, ◌∷◌, []}
use Rattle.ccr_rows.specs.Rows.{group_rows}
use Rattle.ccr_rows.proofs.Pieces.{one_more, none_more}
use Rattle.ccr_rows.proofs.groups.push_groups.Goals as goal
use Rattle.ccr_rows.proofs.groups.push_groups.Goals.{in-Some+in_ok-push_group, in_default}

pub loop-place-preserved : goal.loop-place-preserved
loop-place-preserved c = elim c.match-group_at.branch [
  | in-Some+in_ok-push_group w ↦ one_more (λ p. group_rows c.args.groups.now.version p.0 p.1) c.args.groups.now.groups c.loop-place.place c.args.rows.now.items c.loop-place.rows.items c.loop-place.invariant (w.in-Some.name.now, w.in-Some.group.now) c.match-group_at.rows.items (search rules) (search rules)
  | in_default w ↦ ap (λ rows. rows.items) w.rows-is ∙ none_more (λ p. group_rows c.args.groups.now.version p.0 p.1) c.args.groups.now.groups c.loop-place.place c.args.rows.now.items c.loop-place.rows.items c.loop-place.invariant (search rules)
]

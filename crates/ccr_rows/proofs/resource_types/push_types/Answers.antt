use Rattle.std.proofs.Common.{rules, ap, ◌∙◌, ◌++◌, ◌∷◌, []}
use Rattle.ccr_rows.specs.Rows.{type_row}
use Rattle.ccr_rows.proofs.Pieces.{all_done, none_more, one_more, single_rows}
use Rattle.ccr_rows.proofs.resource_types.push_types.Goals as goal
use Rattle.ccr_rows.proofs.resource_types.push_types.Goals.{in-Some+in_ok-push_type, in_default}

pub loop-place-preserved : goal.loop-place-preserved
loop-place-preserved c = elim c.match-at.branch [
  | in-Some+in_ok-push_type w ↦ one_more (λ p. type_row p.0 p.1 ∷ []) c.args.types.now c.loop-place.place c.args.rows.now.items c.loop-place.rows.items c.loop-place.invariant (w.in-Some.name.now, w.in-Some.t.now) c.match-at.rows.items (search rules) (search rules)
  | in_default w ↦ ap (λ rows. rows.items) w.rows-is ∙ none_more (λ p. type_row p.0 p.1 ∷ []) c.args.types.now c.loop-place.place c.args.rows.now.items c.loop-place.rows.items c.loop-place.invariant (search rules)
]

pub returns : goal.returns
returns c =
    all_done (λ p. type_row p.0 p.1 ∷ []) c.args.types.now c.loop-place.place c.args.rows.now.items c.loop-place.rows.items c.loop-place.invariant (search rules)
    ∙ ap (λ rows. c.args.rows.now.items ++ rows) (single_rows (λ p. type_row p.0 p.1) c.args.types.now)

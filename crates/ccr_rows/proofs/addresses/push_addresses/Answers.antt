use Rattle.std.proofs.Common.{rules, ap, ◌∙◌, ◌∷◌, []}
use Rattle.ccr_rows.specs.Rows.{address_rows}
use Rattle.ccr_rows.proofs.Pieces.{one_more, none_more}
use Rattle.ccr_rows.proofs.addresses.push_addresses.Goals as goal
use Rattle.ccr_rows.proofs.addresses.push_addresses.Goals.{in-Some+in_ok-push_address, in_default}

pub loop-place-preserved : goal.loop-place-preserved
loop-place-preserved c = elim c.match-at.branch [
  | in-Some+in_ok-push_address w ↦ one_more (λ p. address_rows p.0 p.1) c.args.addresses.now c.loop-place.place c.args.rows.now.items c.loop-place.rows.items c.loop-place.invariant (w.in-Some.name.now, w.in-Some.address.now) c.match-at.rows.items (search rules) (search rules)
  | in_default w ↦ ap (λ rows. rows.items) w.rows-is ∙ none_more (λ p. address_rows p.0 p.1) c.args.addresses.now c.loop-place.place c.args.rows.now.items c.loop-place.rows.items c.loop-place.invariant (search rules)
]

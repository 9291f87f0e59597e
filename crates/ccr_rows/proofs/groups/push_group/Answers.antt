use Rattle.std.proofs.lemmas.Result.{on_ok_weaker}
use Rattle.ccr_rows.proofs.Pieces.{joined}
use Rattle.ccr_rows.proofs.groups.push_group.Goals as goal

pub returns : goal.returns
returns c =
    let relations = joined c.args.rows.now.items _ _ _ _ c.in_ok-push_relations.ensures c.in_ok-push_places.ensures in
    let moves = joined c.args.rows.now.items _ _ _ _ c.in_ok-push_moves.ensures relations in
    let flags = joined c.args.rows.now.items _ _ _ _ c.in_ok-push_flags.ensures moves in
    on_ok_weaker c.push_later.result (λ last. joined c.args.rows.now.items _ _ _ _ last flags) c.push_later.ensures

use Rattle.std.proofs.lemmas.Result.{on_ok_weaker}
use Rattle.ccr_rows.proofs.Pieces.{joined}
use Rattle.ccr_rows.proofs.groups.push_places.Goals as goal

pub returns : goal.returns
returns c =
    let both = joined c.args.rows.now.items _ _ _ _ c.in_ok-push_number.ensures c.in_ok-push_nodes.ensures in
    on_ok_weaker c.push_number-2.result (λ last. joined c.args.rows.now.items _ _ _ _ last both) c.push_number-2.ensures

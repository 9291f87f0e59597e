use Rattle.std.proofs.lemmas.Result.{on_ok_weaker}
use Rattle.ccr_rows.proofs.Pieces.{joined}
use Rattle.ccr_rows.proofs.resources.push_dependencies.Goals as goal

pub returns : goal.returns
returns c =
    let both = joined c.args.rows.now.items _ _ _ _ c.in_ok-push_list-2.ensures c.in_ok-push_list.ensures in
    on_ok_weaker c.push_list-3.result (λ last. joined c.args.rows.now.items _ _ _ _ last both) c.push_list-3.ensures

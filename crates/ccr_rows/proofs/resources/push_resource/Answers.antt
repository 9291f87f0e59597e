use Rattle.std.proofs.lemmas.Result.{on_ok_weaker}
use Rattle.ccr_rows.proofs.Pieces.{joined}
use Rattle.ccr_rows.proofs.resources.push_resource.Goals as goal

pub returns : goal.returns
returns c =
    let flags = joined c.args.rows.now.items _ _ _ _ c.in_ok-push_flags.ensures c.in_ok-push_kind.ensures in
    let dependencies = joined c.args.rows.now.items _ _ _ _ c.in_ok-push_dependencies.ensures flags in
    let mode = joined c.args.rows.now.items _ _ _ _ c.in_ok-push_mode.ensures dependencies in
    on_ok_weaker c.push_retries.result (λ last. joined c.args.rows.now.items _ _ _ _ last mode) c.push_retries.ensures

use Rattle.std.proofs.Common.{◌≡◌, ◌++◌, map, ap, ◌∙◌, append_assoc}
use Rattle.std.proofs.lemmas.Result.{on_ok_weaker}
use Rattle.cl_base.specs.Limits.{most_devices}
use Rattle.ccr_rows.specs.Rows.{device_rows_to, limit_row, node_row}
use Rattle.ccr_rows.proofs.Pieces.{joined}
use Rattle.ccr_rows.proofs.infrastructure.push_infrastructure.Goals as goal

pub returns : goal.returns
returns c =
    let old = c.args.rows.now.items in
    let nodes = map (node_row c.args.config.now) c.args.config.now.order in
    let devices = device_rows_to c.args.config.now most_devices in
    let limits = map limit_row c.args.config.now.limits in
    on_ok_weaker c.push_limits.result (λ last.
    joined old _ _ (nodes ++ devices) limits last (joined old _ _ nodes devices c.in_ok-push_devices.ensures c.in_ok-push_nodes.ensures)
    ∙ ap (λ rows. old ++ rows) (append_assoc nodes devices limits)) c.push_limits.ensures

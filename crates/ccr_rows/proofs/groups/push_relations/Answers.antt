use Rattle.std.proofs.lemmas.Result.{on_ok_weaker}
use Rattle.ccr_rows.proofs.Pieces.{joined}
use Rattle.ccr_rows.proofs.groups.push_relations.Goals as goal

pub returns : goal.returns
returns c = on_ok_weaker c.push_list-2.result (λ last. joined c.args.rows.now.items _ _ _ _ last c.in_ok-push_list.ensures) c.push_list-2.ensures

use Rattle.std.proofs.Common.{ap, ◌∙◌}
use Rattle.std.specs.List.{list_any}
use Rattle.node_model.specs.Presidents.{is_outstanding}
use Rattle.node_presidents.proofs.Busy.{none_is_free}
use Rattle.node_presidents.proofs.verdict.is_busy.Goals as goal

pub returns : goal.returns
returns c = none_is_free c.is_empty.result c.view.result.now.outstanding c.is_empty.ensures.value ∙ ap (λ v. list_any is_outstanding v.outstanding) c.view.ensures.value

use Rattle.std.proofs.Common.{◌∙◌}
use Rattle.std.specs.List.{list_any}
use Rattle.rgm_president.specs.Decisions.{outlook_over}
use Rattle.rgm_president.specs.Sequence.{sequence}
use Rattle.sequencer.proofs.Awaited.{up_call_shown}
use Rattle.rgm_president.proofs.statuses.can_rise_by.Goals as goal

pub returns : goal.returns
returns c =
    c.any_rises.ensures
    ∙ (λ i. list_any (λ r. up_call_shown c.args.c.now.groups c.args.c.now.types c.args.c.now.limits c.args.view.now c.args.outlook.now
    (outlook_over c.args.c.now (sequence c.args.c.now.groups) c.args.view.now) c.requires c.args.n r i) c.args.resources.now)

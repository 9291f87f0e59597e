use Rattle.std.proofs.Common.{◌∙◌}
use Rattle.sequencer.specs.Next.{next_call_of}
use Rattle.rgm_president.specs.Decisions.{outlook_over}
use Rattle.sequencer.proofs.Awaited.{next_shown}
use Rattle.rgm_president.proofs.deciding.call_on.Goals as goal

pub returns : goal.returns
returns c =
    c.next_call.ensures.value
    ∙ (λ i. next_call_of (c.groups.ensures.value i) (c.types.ensures.value i) (c.limits.ensures.value i) c.args.view.now c.args.outlook.now c.args.resources.now c.args.n)
    ∙ next_shown c.args.c.now.groups c.args.c.now.types c.args.c.now.limits c.args.view.now c.args.outlook.now
    (outlook_over c.args.c.now c.args.resources.now c.args.view.now) c.requires c.args.resources.now c.args.n

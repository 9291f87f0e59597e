use Rattle.std.proofs.Common.{◌≡◌, ℕ, List, ◌∙◌, ap, subst}
use Rattle.rgm_president.specs.Decisions.{outlook_over}
use Rattle.rgm_president.specs.Sequence.{groups_in_order, resources_in_order, sequence}
use Rattle.sequencer.specs.Shown.{Shows}
use Rattle.rgm_president.proofs.statuses.outlook_in_order.Goals as goal

pub returns : goal.returns
returns c =
    let groups : c.deref.result.now ≡ groups_in_order c.args.c.now.groups = c.deref.ensures.value ∙ c.in_ok-groups.ensures ∙ ap groups_in_order c.groups.ensures.value in
    let order : c.deref-2.result.now ≡ sequence c.args.c.now.groups =
    c.deref-2.ensures.value ∙ c.in_ok-order.ensures ∙ (λ i. resources_in_order (c.groups-2.ensures.value i) (groups i)) in
    subst (λ (rs : List (List ℕ)). Shows c.args.c.now.groups c.in_ok-outlook.outlook (outlook_over c.args.c.now rs c.args.view.now)) order c.in_ok-outlook.ensures

use Rattle.std.proofs.Common.{◌≡◌, ℕ, Option, Some, None, ◌∙◌, sym, ap, subst}
use Rattle.std.specs.Option.{option_copied}
use Rattle.rg_props.specs.declared.group.Group.{Group}
use Rattle.rg_props.specs.Lookups.{named}
use Rattle.placement.specs.Best.{IsBest, scores_of}
use Rattle.placement.specs.Goals.{goal_by_rule, goal_in}
use Rattle.placement.proofs.Reasons.{goal_best}
use Rattle.placement.proofs.goals.goal.Goals as goal

pub returns-in-Some-clause-best : goal.returns-in-Some-clause-best
unfolding goal_by_rule
returns-in-Some-clause-best c = λ own h.
    let there : named c.args.g.now.groups c.args.group.now ≡ Some c.in-Some.own.now = sym c.group.ensures.value ∙ ap option_copied c.in-Some.is in
    let value : c.goal_of.result ≡ goal_by_rule c.args.g.now c.args.limits.now c.args.view.now c.args.group.now c.args.previous =
    c.goal_of.ensures ∙ sym (ap (goal_in c.args.g.now c.args.limits.now c.args.view.now c.args.group.now c.args.previous) there) in
    subst (λ (set : ℕ). IsBest (scores_of c.args.g.now c.args.limits.now c.args.view.now c.args.group.now own) own.nodelist own.desired c.args.previous set) (sym value)
    (goal_best c.args.g.now c.args.limits.now c.args.view.now c.args.group.now own c.args.previous h)

pub returns-in-None-clause-best : goal.returns-in-None-clause-best
returns-in-None-clause-best c = λ own h.
    let missing : named c.args.g.now.groups c.args.group.now ≡ None = sym c.group.ensures.value ∙ ap option_copied c.in-None.is in
    let there : named c.args.g.now.groups c.args.group.now ≡ Some own = h.there in
    absurd (cc)

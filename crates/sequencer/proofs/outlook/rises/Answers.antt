use Rattle.std.proofs.Common.{ℕ, ap, sym, ◌∙◌}
use Rattle.cl_base.specs.Sets.{has}
use Rattle.sequencer.proofs.Outside.{none_outside}
use Rattle.sequencer.proofs.outlook.rises.Goals as goal

pub returns-else-has : goal.returns-else-has
returns-else-has c =
    c.if-has.false
    ∙ sym
    (none_outside c.args.g.now c.args.types.now c.args.limits.now c.args.view.now c.args.outlook.now c.args.n c.args.name.now
    (ap (λ (goal : ℕ). has goal c.args.n) (sym c.requires) ∙ (sym c.has.ensures.value ∙ c.if-has.false)))

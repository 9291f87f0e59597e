use Rattle.std.proofs.Common.{◌∙◌, sym, arith}
use Rattle.placement.specs.Resources.{has_enabled, is_enabled_in}
use Rattle.placement.proofs.Scans.{any_stops, any_goes_on, any_over}
use Rattle.placement.proofs.resources.has_enabled.Goals as goal

pub returns-then-is_enabled_at : goal.returns-then-is_enabled_at
unfolding has_enabled
returns-then-is_enabled_at c = record { value = any_stops (λ e. is_enabled_in c.args.group.now e.1) c.args.g.now.resources c.loop-place.place c.is_enabled_at.result c.loop-place.invariant c.is_enabled_at.ensures c.if-is_enabled_at.true }

pub loop-place-preserved : goal.loop-place-preserved
loop-place-preserved c = any_goes_on (λ e. is_enabled_in c.args.group.now e.1) c.args.g.now.resources c.loop-place.place c.is_enabled_at.result c.loop-place.invariant c.is_enabled_at.ensures c.if-is_enabled_at.false

pub returns : goal.returns
unfolding has_enabled
returns c = record { value = sym (sym c.loop-place.invariant ∙ any_over (λ e. is_enabled_in c.args.group.now e.1) c.args.g.now.resources c.loop-place.place (omega arith)) }

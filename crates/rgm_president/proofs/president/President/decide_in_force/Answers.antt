use Rattle.std.proofs.Common.{ℕ, List, ◌∙◌, ap, subst, sym}
use Rattle.config_cache.specs.InForce.{config_under}
use Rattle.rgm_president.specs.Decisions.{Turn}
use Rattle.rgm_president.specs.Steady.{IsSteady}
use Rattle.rgm_president.proofs.president.President.decide_in_force.Goals as goal

pub returns-then-is_steady_under-clause-orders : goal.returns-then-is_steady_under-clause-orders
returns-then-is_steady_under-clause-orders c =
    let steady : IsSteady (config_under c.args.header.now c.args.entries.now.committed) c.args.self.now =
    subst (λ (texts : List (List ℕ)). IsSteady (config_under c.args.header.now texts) c.args.self.now) c.committed.ensures.value
    (c.is_steady_under.ensures c.if-is_steady_under.true) in
    c.new.ensures.items ∙ ap (λ (t : Turn). t.orders) (sym (steady c.args.now c.args.held_up))

pub returns-then-is_steady_under-clause-after : goal.returns-then-is_steady_under-clause-after
returns-then-is_steady_under-clause-after c =
    let steady : IsSteady (config_under c.args.header.now c.args.entries.now.committed) c.args.self.now =
    subst (λ (texts : List (List ℕ)). IsSteady (config_under c.args.header.now texts) c.args.self.now) c.committed.ensures.value
    (c.is_steady_under.ensures c.if-is_steady_under.true) in
    c.pass.ensures ∙ ap (λ (t : Turn). t.president) (sym (steady c.args.now c.args.held_up))

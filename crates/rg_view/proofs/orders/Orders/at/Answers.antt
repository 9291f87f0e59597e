use Rattle.std.proofs.Common.{◌≡◌, ◌+◌, ◌-◌, ◌∙◌, None, Some, get_or, IfSome, rules, arith, subst}
use Rattle.rg_view.proofs.HeldOrders.{own_shown}
use Rattle.rg_view.proofs.orders.Orders.at.Goals as goal

pub returns-clause-node : goal.returns-clause-node
returns-clause-node c =
    let there : get_or c.self.inside.keys (c.number.result - 1) None ≡ Some c.in_ok-key.key = search rules in
    let own : c.number.result - 1 + 1 ≡ c.args.n = omega (arith, c.number.ensures.low, c.number.ensures.value) in
    subst (λ n. IfSome c.get.result (λ o. o.now.node ≡ n)) own
    (own_shown c.self.inside.orders c.in_ok-key.key (c.number.result - 1 + 1) (c.self.invariant.leads (c.number.result - 1) c.in_ok-key.key there) c.get.result c.get.ensures)

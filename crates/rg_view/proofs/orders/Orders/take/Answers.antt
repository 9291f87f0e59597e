use Rattle.std.proofs.Common.{◌≡◌, ◌+◌, ◌-◌, ◌∙◌, ◌<◌, None, Some, get_or, length, IfSome, rules, ap, refl, sym, subst, arith}
use Rattle.std.specs.Option.{OnSome}
use Rattle.slab.specs.Slab.{slab_len}
use Rattle.std.proofs.lemmas.List.{length-map}
use Rattle.rg_view.specs.Kept.{kept}
use Rattle.rg_view.specs.Orders.{OrdersAfter}
use Rattle.rg_view.proofs.HeldOrders.{take_held, take_kept, without_key, own_of, after_set}
use Rattle.rg_view.proofs.orders.Orders.take.Goals as goal

pub returns-in_err-key-clause-rest : goal.returns-in_err-key-clause-rest
returns-in_err-key-clause-rest c =
    let i = c.number.result - 1 in
    let none : get_or c.self.inside.keys (c.number.result - 1) None ≡ None = search rules in
    rw (← c.self.view_is, ← c.number.ensures.value)
    (without_key c.self.inside.orders c.self.inside.keys i (omega (arith, c.number.ensures.low, c.number.ensures.high, c.self.invariant.nodes)) none)

pub invariant_of-self : goal.invariant_of-self
invariant_of-self c =
    let i = c.number.result - 1 in
    let low : i < 32 = omega (arith, c.number.ensures.low, c.number.ensures.high) in
    let there : get_or c.self.inside.keys (c.number.result - 1) None ≡ Some c.in_ok-key.key = search rules in
    let l = c.self.invariant.leads i c.in_ok-key.key there in
    let len : slab_len c.try_remove.new.self + 1 ≡ slab_len c.self.inside.orders = rw (c.try_remove.ensures.value ∙ l.there) at c.try_remove.ensures.len in
    take_held c.self.inside.orders c.try_remove.new.self c.self.inside.keys i c.in_ok-key.key None c.self.invariant low c.try_remove.ensures.updates refl there len

pub returns-clause-node : goal.returns-clause-node
returns-clause-node c =
    let there : get_or c.self.inside.keys (c.number.result - 1) None ≡ Some c.in_ok-key.key = search rules in
    let own : c.number.result - 1 + 1 ≡ c.args.n = omega (arith, c.number.ensures.low, c.number.ensures.value) in
    subst (λ n. IfSome c.try_remove.result (λ o. o.node ≡ n)) own
    (own_of c.self.inside.orders c.in_ok-key.key (c.number.result - 1 + 1) (c.self.invariant.leads (c.number.result - 1) c.in_ok-key.key there) c.try_remove.result c.try_remove.ensures.value)

pub returns-clause-rest : goal.returns-clause-rest
returns-clause-rest c =
    let i = c.number.result - 1 in
    let low : i < 32 = omega (arith, c.number.ensures.low, c.number.ensures.high) in
    let there : get_or c.self.inside.keys (c.number.result - 1) None ≡ Some c.in_ok-key.key = search rules in
    rw (← c.self.view_is, ← c.number.ensures.value)
    (take_kept c.self.inside.orders c.try_remove.new.self c.self.inside.keys i c.in_ok-key.key None c.self.invariant low c.try_remove.ensures.updates refl there)

pub returns-clause-after : goal.returns-clause-after
returns-clause-after c =
    let i = c.number.result - 1 in
    let low : i < 32 = omega (arith, c.number.ensures.low, c.number.ensures.high) in
    let there : get_or c.self.inside.keys (c.number.result - 1) None ≡ Some c.in_ok-key.key = search rules in
    let all : length (kept c.self.inside.orders c.self.inside.keys) ≡ 32 = length-map c.self.inside.keys _ ∙ c.self.invariant.nodes in
    let left = take_kept c.self.inside.orders c.try_remove.new.self c.self.inside.keys i c.in_ok-key.key None c.self.invariant low c.try_remove.ensures.updates refl there in
    rw (← c.self.view_is, ← c.number.ensures.value)
    (subst (OrdersAfter (kept c.self.inside.orders c.self.inside.keys) c.number.result None) (sym left)
    (after_set (kept c.self.inside.orders c.self.inside.keys) c.number.result None c.number.ensures.low (omega (arith, low, all, c.number.ensures.low))))

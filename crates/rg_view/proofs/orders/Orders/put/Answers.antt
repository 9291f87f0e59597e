use Rattle.std.proofs.Common.{◌≡◌, ◌+◌, ◌-◌, ◌∙◌, ◌<◌, None, Some, get_or, set, length, ap, refl, sym, subst, arith}
use Rattle.std.proofs.lemmas.List.{length-map}
use Rattle.rg_view.specs.Orders.{OrdersAfter}
use Rattle.rg_view.specs.Kept.{kept}
use Rattle.rg_view.proofs.HeldOrders.{put_held, put_kept, more_room, after_set}
use Rattle.rg_view.proofs.orders.Orders.put.Goals as goal

pub invariant_of-self : goal.invariant_of-self
invariant_of-self c =
    let i = c.number.result - 1 in
    let low : i < 32 = omega (arith, c.number.ensures.low, c.number.ensures.high) in
    let own : c.args.o.node ≡ i + 1 = omega (arith, c.number.ensures.low, c.number.ensures.value) in
    let free = rw (← c.self.view_is) at c.requires in
    put_held c.self.inside.orders c.insert.new.self c.self.inside.keys i c.in-Ok.key (Some c.args.o) c.self.invariant low c.in-Ok.ensures.updates
    c.args.o refl c.in-Ok.ensures.was_vacant own c.in-Ok.ensures.len
    (ap (λ n. get_or (kept c.self.inside.orders c.self.inside.keys) (n - 1) None) c.number.ensures.value ∙ free)

pub invariant_of-self-in-Err : goal.invariant_of-self-in-Err
invariant_of-self-in-Err c = more_room c.self.inside.orders c.insert.new.self c.self.inside.keys c.in-Err.ensures.err c.self.invariant

pub returns-in-Ok-clause-ok : goal.returns-in-Ok-clause-ok
returns-in-Ok-clause-ok c =
    let i = c.number.result - 1 in
    let low : i < 32 = omega (arith, c.number.ensures.low, c.number.ensures.high) in
    let own : c.args.o.node ≡ i + 1 = omega (arith, c.number.ensures.low, c.number.ensures.value) in
    rw (← c.self.view_is)
    (put_kept c.self.inside.orders c.insert.new.self c.self.inside.keys i c.in-Ok.key (Some c.args.o) c.self.invariant low c.in-Ok.ensures.updates
    c.args.o refl c.in-Ok.ensures.was_vacant own
    ∙ ap (λ n. set (kept c.self.inside.orders c.self.inside.keys) (n - 1) (Some c.args.o)) c.number.ensures.value)

pub returns-in-Ok-clause-after : goal.returns-in-Ok-clause-after
returns-in-Ok-clause-after c =
    let i = c.number.result - 1 in
    let low : i < 32 = omega (arith, c.number.ensures.low, c.number.ensures.high) in
    let own : c.args.o.node ≡ i + 1 = omega (arith, c.number.ensures.low, c.number.ensures.value) in
    let all : length (kept c.self.inside.orders c.self.inside.keys) ≡ 32 = length-map c.self.inside.keys _ ∙ c.self.invariant.nodes in
    let left = put_kept c.self.inside.orders c.insert.new.self c.self.inside.keys i c.in-Ok.key (Some c.args.o) c.self.invariant low c.in-Ok.ensures.updates
    c.args.o refl c.in-Ok.ensures.was_vacant own
    ∙ ap (λ n. set (kept c.self.inside.orders c.self.inside.keys) (n - 1) (Some c.args.o)) c.number.ensures.value in
    rw (← c.self.view_is)
    (subst (OrdersAfter (kept c.self.inside.orders c.self.inside.keys) c.args.o.node (Some c.args.o)) (sym left)
    (after_set (kept c.self.inside.orders c.self.inside.keys) c.args.o.node (Some c.args.o) (omega (arith, own)) (omega (arith, own, low, all))))

use Rattle.std.proofs.Common.{◌≡◌, ◌-◌, ◌+◌, ◌∙◌, ◌||◌, nat_eq, cond, not, Bool, ℕ, List, Option, true, false, IfOk, refl, ap, sym, subst}
use Rattle.std.specs.BTreeSet.{contains}
use Rattle.std.specs.Cmp.{nat_eq_equiv}
use Rattle.std.specs.Ordering.{nat_cmp}
use Rattle.rg_deps.specs.Cycles.{first_target, walk}
use Rattle.rg_deps.specs.Flags.{flag}
use Rattle.rg_deps.specs.Order.{stands}
use Rattle.rg_deps.proofs.Chosen.{stands_more}
use Rattle.rg_deps.proofs.Ranks.{eq_cmp}
use Rattle.rg_deps.proofs.Walks.{walk_more, walk_done, walk_none}
use Rattle.rg_deps.proofs.walk.cycle.Goals as goal

told : (new has : Bool) → new ≡ not has → new ≡ false → has ≡ true
told new true e f = refl
told new false e f = sym f ∙ e

told_new : (new has : Bool) → new ≡ not has → new ≡ true → has ≡ false
told_new new true e f = sym f ∙ e
told_new new false e f = refl

put : (new old same : Bool) → new ≡ cond same true old → new ≡ (old || same)
put new true true e = e
put new true false e = e
put new false true e = e
put new false false e = e

pub returns-then-not-new : goal.returns-then-not-new
returns-then-not-new c =
    let target = first_target c.args.edges.now (flag c.args.standing.now) in
    let old : stands c.loop.path.items c.in-Some.place ≡ true = sym (c.loop.invariant.seen c.in-Some.place) ∙ told _ (contains nat_cmp c.loop.seen c.in-Some.place) c.in_ok-new.ensures.added c.if-not-new.true in
    let e = c.loop.invariant.path ∙ ap (λ (a : Option ℕ). walk target (c.args.steps - c.loop.counter) c.loop.path.items a) c.in-Some.is
    ∙ walk_done target c.args.steps c.loop.counter c.loop.path.items c.in-Some.place c.loop-test.true old in
    subst (λ (l : List ℕ). IfOk c.from_place.result (λ path. path.items ≡ l)) (sym e) c.from_place.ensures

pub loop-preserved : goal.loop-preserved
loop-preserved c =
    let target = first_target c.args.edges.now (flag c.args.standing.now) in
    let new : stands c.loop.path.items c.in-Some.place ≡ false = sym (c.loop.invariant.seen c.in-Some.place) ∙ told_new _ (contains nat_cmp c.loop.seen c.in-Some.place) c.in_ok-new.ensures.added c.if-not-new.false in
    record {
      path = c.loop.invariant.path ∙ ap (λ (a : Option ℕ). walk target (c.args.steps - c.loop.counter) c.loop.path.items a) c.in-Some.is
          ∙ walk_more target c.args.steps c.loop.counter c.loop.path.items c.in-Some.place c.loop-test.true new
          ∙ (λ i. walk target (c.args.steps - (c.loop.counter + 1)) (sym c.in_ok-push.ensures.items i) (sym (c.target_of-at.ensures ∙ c.in_ok-targets.ensures c.in-Some.place) i));
      seen = λ p.
          put (contains nat_cmp c.insert.new.self p) (stands c.loop.path.items p) (nat_eq p c.in-Some.place)
          (c.in_ok-new.ensures.updates.0 p ∙ (λ i. cond ((eq_cmp c.in-Some.place p ∙ nat_eq_equiv.symm c.in-Some.place p) i) true (c.loop.invariant.seen p i)))
          ∙ sym (stands_more c.loop.path.items c.in-Some.place p) ∙ ap (λ (l : List ℕ). stands l p) (sym c.in_ok-push.ensures.items);
    }

pub returns-in_default : goal.returns-in_default
returns-in_default c =
    let target = first_target c.args.edges.now (flag c.args.standing.now) in
    c.new.ensures.items ∙ sym (c.loop.invariant.path ∙ ap (λ (a : Option ℕ). walk target (c.args.steps - c.loop.counter) c.loop.path.items a) c.in_default.is
    ∙ walk_none target (c.args.steps - c.loop.counter) c.loop.path.items)

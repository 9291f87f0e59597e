use Rattle.std.proofs.Common.{◌≡◌, ◌∙◌, ◌==◌, ◌&&◌, ◌||◌, Bool, true, false, cond, sym, ap}
use Rattle.rg_deps.specs.Choice.{has_rank}
use Rattle.rg_deps.proofs.Ranks.{same_rank}
use Rattle.rg_deps.proofs.choice.enter.Goals as goal

entered : (new old same none : Bool) → new ≡ cond same true old → none ≡ true → new ≡ (old || (same && none))
entered new true true none h e = h
entered new true false none h e = h
entered new false true none h e = h ∙ sym e
entered new false false none h e = h

pub returns-in_ok-insert : goal.returns-in_ok-insert
returns-in_ok-insert c = λ n p.
    entered (has_rank c.insert.new.self n p) (has_rank c.args.ready.now n p) ((p == c.args.place) && (n == c.args.priority)) _
    (c.in_ok-insert.ensures.updates.0 (record { 0 = n }, p) ∙ ap (λ (b : Bool). cond b true (has_rank c.args.ready.now n p)) (same_rank c.args.priority c.args.place n p))
    (sym c.waits_for_none.ensures ∙ c.if-waits_for_none.true)

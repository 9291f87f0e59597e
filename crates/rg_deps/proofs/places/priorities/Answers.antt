use Rattle.std.proofs.Common.{◌∙◌, ℕ, List, Option, None, fold, replicate, take_all, ap}
use Rattle.rg_deps.specs.declared.graph.Thing.{Thing}
use Rattle.rg_deps.specs.Places.{is_priority, with_priority}
use Rattle.rg_deps.proofs.Tables.{table_tells}
use Rattle.rg_deps.proofs.places.priorities.Goals as goal

pub returns-clause-priorities : goal.returns-clause-priorities
returns-clause-priorities c = λ n p.
    ap (λ (l : List (Option ℕ)). is_priority l n p)
    (c.loop-t.invariant.table ∙ ap (λ (l : List Thing). fold with_priority (replicate c.args.count None) l) (take_all c.loop-t.t-index c.args.things.now c.loop-t-test.false))
    ∙ table_tells c.args.things.now c.args.count c.requires.ascending c.requires.below n p

use Rattle.std.proofs.Common.{◌∙◌, rules, tests}
use Rattle.std.proofs.lemmas.Iterator.{YieldsList-from_slice}
use Rattle.std.proofs.lemmas.Iterator.Search.{find_from_yields_List}
use Rattle.placement.specs.Targets.{lacks}
use Rattle.placement.proofs.dependencies.first_lacked.Goals as goal

pub returns : goal.returns
returns c =
    c.copied.ensures ∙ find_from_yields_List (lacks c.args.g.now c.args.view.now c.args.name.now c.args.own.now c.args.n) _ _ c.find.result c.find.ensures.ran
    (YieldsList-from_slice c.args.targets.now cc) (λ x b q k. search (rules, tests))

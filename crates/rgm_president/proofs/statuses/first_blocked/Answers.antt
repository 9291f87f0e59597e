use Rattle.std.proofs.Common.{◌∙◌, rules, tests}
use Rattle.std.proofs.lemmas.Iterator.{YieldsList-from_slice}
use Rattle.std.proofs.lemmas.Iterator.Search.{find_from_yields_List}
use Rattle.rgm_president.specs.Status.{is_blocked}
use Rattle.rgm_president.proofs.statuses.first_blocked.Goals as goal

pub returns : goal.returns
returns c =
    c.copied.ensures ∙ find_from_yields_List (is_blocked c.args.g.now c.args.states.now c.args.n) _ _ c.find.result c.find.ensures.ran
    (YieldsList-from_slice c.args.resources.now cc) (λ x b q k. search (rules, tests))

use Rattle.std.proofs.Common.{rules, ◌∙◌}
use Rattle.std.proofs.lemmas.Iterator.{YieldsList-from_slice}
use Rattle.std.proofs.lemmas.Iterator.Search.{any_from_yields_List}
use Rattle.node_attempts.specs.StartSteps.{is_start}
use Rattle.node_attempts.proofs.StartSteps.{any_starts}
use Rattle.node_attempts.proofs.performing.starts_in.Goals as goal

pub returns : goal.returns
returns c = any_from_yields_List is_start _ _ _ c.any.ensures.ran (YieldsList-from_slice c.args.steps.now cc) (λ x b q k. search rules) ∙ any_starts c.args.steps.now

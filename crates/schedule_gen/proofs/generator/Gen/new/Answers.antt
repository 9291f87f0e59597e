use Rattle.schedule_gen.proofs.ProgressLemmas.{generator-new}
use Rattle.schedule_gen.proofs.generator.Gen.new.Goals as goal

pub invariant_of-result : goal.invariant_of-result
invariant_of-result c = generator-new c.args.seed c.args.count

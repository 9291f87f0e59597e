use Rattle.std.proofs.Common.{sym, ◌∙◌}
use Rattle.device_machine.proofs.Laws as laws
use Rattle.cluster_machine.proofs.Whole.{in_order}
use Rattle.cluster_machine.proofs.one_seizer.Goals as goal

pub returns : goal.returns
returns c = λ S registered es w d q n m r a b. let i = (in_order S registered es w r).device d in laws.one_seizer (w.device d) i q n a ∙ sym (laws.one_seizer (w.device d) i q m b)

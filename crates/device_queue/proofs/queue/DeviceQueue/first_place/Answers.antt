use Rattle.std.proofs.Common.{rules, tests}
use Rattle.std.proofs.lemmas.Iterator.{YieldsList-from_slice}
use Rattle.std.proofs.lemmas.Iterator.Search.{position_from_yields_List}
use Rattle.device_queue.specs.Tasks.{is_queued}
use Rattle.device_queue.proofs.queue.DeviceQueue.first_place.Goals as goal

pub returns : goal.returns
returns c = position_from_yields_List is_queued _ _ _ c.position.ensures.ran (YieldsList-from_slice c.args.self.now cc) (λ x b q k. search (rules, tests))

use Rattle.std.proofs.Common.{◌∙◌, sym, refl, None, Some}
use Rattle.device_queue.proofs.Ordered.{none_exactly}
use Rattle.device_queue.proofs.queue.DeviceQueue.next_command.Goals as goal

pub returns-in_default-clause-none : goal.returns-in_default-clause-none
returns-in_default-clause-none c = none_exactly c.args.self.now None None (sym c.in_default.is ∙ c.first.ensures) refl

pub returns-clause-none : goal.returns-clause-none
returns-clause-none c = none_exactly c.args.self.now (Some c.in-Some.task) c.command.result (sym c.in-Some.is ∙ c.first.ensures) c.command.ensures.value

use Rattle.std.proofs.Common.{refl, sym}
use Rattle.device_queue.proofs.Steps.{none_at, served}
use Rattle.device_queue.proofs.queue.DeviceQueue.take_answer.Goals as goal

pub returns-in_default-clause-answer : goal.returns-in_default-clause-answer
returns-in_default-clause-answer c = rw (none_at c.args.answer c.args.self.now c.first_place.result c.in_default.is c.first_place.ensures).0 refl

pub returns-in_default-clause-after : goal.returns-in_default-clause-after
returns-in_default-clause-after c = sym (none_at c.args.answer c.args.self.now c.first_place.result c.in_default.is c.first_place.ensures).1

pub answered-task-requires-clause-due : goal.answered-task-requires-clause-due
answered-task-requires-clause-due c = (served c.args.answer c.args.self.now c.first_place.result c.in-Some.place c.index.result.now c.in-Some.is c.first_place.ensures (rw (← c.self.view_is) c.index.ensures)).2

pub returns-clause-answer : goal.returns-clause-answer
returns-clause-answer c =
    let is = served c.args.answer c.args.self.now c.first_place.result c.in-Some.place c.index.result.now c.in-Some.is c.first_place.ensures (rw (← c.self.view_is) c.index.ensures) in
    rw (is.0, c.progress.ensures, c.answered-task.ensures) refl

pub returns-clause-after : goal.returns-clause-after
returns-clause-after c =
    let is = served c.args.answer c.args.self.now c.first_place.result c.in-Some.place c.index.result.now c.in-Some.is c.first_place.ensures (rw (← c.self.view_is) c.index.ensures) in
    rw (is.1, ← c.self.view_is, c.answered-task.ensures) refl

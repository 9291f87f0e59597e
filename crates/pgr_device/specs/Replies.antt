-- What a reply says: where it stands for keys, they are those that the device has registered.
use Rattle.pgr_device.specs.declared.command.PrAnswer.{PrAnswer}
use Rattle.pgr_device.specs.declared.command.PrAnswer.TheVariants as answer
use Rattle.pgr_device.specs.declared.command.Reply.{Reply}
use Rattle.pgr_device.specs.declared.command.Reply.TheVariants as reply
use Rattle.pgr_device.specs.Device.{Device}
use Rattle.pgr_device.specs.Registered.{keys_of}

abbrev pub answer_of : Device → Reply → PrAnswer
answer_of d reply.Good = answer.Good
answer_of d reply.Conflict = answer.Conflict
answer_of d reply.InvalidRelease = answer.InvalidRelease
answer_of d reply.NoPath = answer.NoPath
answer_of d reply.Keys = answer.Keys (keys_of d.registrations)
answer_of d (reply.Holder held) = answer.Holder held
answer_of d (reply.Word word) = answer.Word word
answer_of d (reply.Value value) = answer.Value value
answer_of d (reply.Miscompare word) = answer.Miscompare word

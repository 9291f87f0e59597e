-- What a caller knows of what happens to a node.
use Rattle.std.specs.Prelude.{IfOk}
use Rattle.pgr_device.specs.Keys.{HasNoZeroKey}
use Rattle.node_model.specs.declared.input.Input.{Input}
use Rattle.node_model.specs.declared.input.Input.TheVariants.{Boot, Crash, Tick, Packet, CommandDue, Answered, Wrote, Commanded, Reported, Client}

-- no key of a device's answer is zero
abbrev pub IsAnswered : Input → Type 0
IsAnswered (Answered a) = IfOk a HasNoZeroKey
IsAnswered Boot = Unit {0}
IsAnswered Crash = Unit {0}
IsAnswered Tick = Unit {0}
IsAnswered (Packet from message) = Unit {0}
IsAnswered CommandDue = Unit {0}
IsAnswered (Wrote d value a) = Unit {0}
IsAnswered (Commanded words) = Unit {0}
IsAnswered (Reported r good) = Unit {0}
IsAnswered (Client address client port) = Unit {0}

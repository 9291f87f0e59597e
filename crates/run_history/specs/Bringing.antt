-- What the event under way brings: all that happens is of the line, or of the part of a round, that came last.
use Rattle.std.specs.Prelude.{ℕ, ◌≡◌, List, Option, Some}
use Rattle.interconnect.specs.Links.{Packet, oldest_on}
use Rattle.schedule_text.specs.declared.event.Event.{Event}
use Rattle.schedule_text.specs.declared.event.Event.TheVariants as event
use Rattle.node_model.specs.declared.input.Input.{Input}
use Rattle.node_model.specs.declared.input.Input.TheVariants as input

-- the event brings this to node n; a packet, and the answer of a device, come otherwise
abbrev pub IsBrought : Option Event → ℕ → Input → Type 0
IsBrought e n input.Boot = e ≡ Some (event.Boot n)
IsBrought e n input.Crash = e ≡ Some (event.Crash n)
IsBrought e n input.Tick = e ≡ Some (event.Tick n)
IsBrought e n input.CommandDue = e ≡ Some (event.Disk n)
IsBrought e n (input.Commanded words) = e ≡ Some (event.Command n words)
IsBrought e n (input.Reported resource good) = e ≡ Some (event.Probe n resource good)
IsBrought e n (input.Client address client port) = e ≡ Some (event.Client n address client port)
IsBrought e n (input.Packet from m) = ⊥
IsBrought e n (input.Answered a) = ⊥
IsBrought e n (input.Wrote d value a) = ⊥

-- the event delivers the packet of this number, which it names, or which is the oldest on the link that it names
abbrev pub IsDelivery : List Packet → ℕ → Option Event → Type 0
IsDelivery packets number (Some (event.Deliver k)) = k ≡ number
IsDelivery packets number (Some (event.Next from to)) = oldest_on packets from to ≡ Some number
IsDelivery packets number _ = ⊥

-- the event loses it
abbrev pub IsLoss : List Packet → ℕ → Option Event → Type 0
IsLoss packets number (Some (event.Lose k)) = k ≡ number
IsLoss packets number (Some (event.Drop from to)) = oldest_on packets from to ≡ Some number
IsLoss packets number _ = ⊥

-- the event repeats it
abbrev pub IsRepeat : List Packet → ℕ → Option Event → Type 0
IsRepeat packets number (Some (event.Repeat k)) = k ≡ number
IsRepeat packets number (Some (event.Again from to)) = oldest_on packets from to ≡ Some number
IsRepeat packets number _ = ⊥

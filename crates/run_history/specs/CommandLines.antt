-- What a node tells in a step: a command at a device stands first, where the device's answer comes, and nowhere else.
use Rattle.std.specs.Prelude.{ℕ, ◌≡◌, List, ◌∷◌, Option, None, Some}
use Rattle.std.specs.List.{AllByRecursion}
use Rattle.pgr_device.specs.declared.command.PrCommand.{PrCommand}
use Rattle.pgr_device.specs.declared.command.PrCommand.TheVariants as command
use Rattle.seize.specs.Answers.{Answer}
use Rattle.status_report.specs.declared.device_entry.DeviceEntry.TheVariants as device
use Rattle.status_report.specs.declared.entry.Entry.{Entry}
use Rattle.status_report.specs.declared.entry.Entry.TheVariants as entry
use Rattle.node_model.specs.declared.input.Input.{Input}
use Rattle.node_model.specs.declared.input.Input.TheVariants.{Answered, Wrote}
use Rattle.node_model.specs.declared.node.Node.{Node}
use Rattle.node_model.specs.declared.node.Node.TheVariants.{Down, Up}
use Rattle.node_model.specs.declared.node.UpNode.{UpNode}
use Rattle.node_model.specs.declared.output.Output.{Output}
use Rattle.node_model.specs.declared.output.Output.TheVariants.{Tells, Sends}
use Rattle.node_model.specs.Devices.{answer_told}
use Rattle.world_model.specs.Devices.{due_of}

-- no command at a device, nothing of packets, and nothing that no node tells
abbrev pub IsQuiet : Entry → Type 0
IsQuiet (entry.Device (device.Command n d k answer)) = ⊥
IsQuiet (entry.Packet e) = ⊥
IsQuiet (entry.Schedule e) = ⊥
IsQuiet _ = Unit {0}

abbrev pub GivesQuiet : Output → Type 0
GivesQuiet (Tells e) = IsQuiet e
GivesQuiet (Sends to b) = Unit {0}

abbrev pub AllQuiet : List Output → Type 0
AllQuiet os = AllByRecursion GivesQuiet os

-- First of these outputs of node n stands this command at device d with its answer, and there is no other.
pub record CommandFirst (n d : ℕ) (k : PrCommand) (a : Answer) (os : List Output) : Type 0 where
  pub others : List Output
  pub first : os ≡ Tells (entry.Device (device.Command n d k (answer_told a))) ∷ others
  pub quiet : AllQuiet others

-- the command that was due is answered
abbrev pub TellsDue : ℕ → Answer → Option (ℕ × PrCommand) → List Output → Type 0
TellsDue n a None os = AllQuiet os
TellsDue n a (Some due) os = CommandFirst n due.0 due.1 a os

abbrev pub UpTells : ℕ → UpNode → Input → List Output → Type 0
UpTells n x (Answered a) os = TellsDue n a (due_of x) os
UpTells n x (Wrote d value a) os = CommandFirst n d (command.Write value) a os
UpTells n x _ os = AllQuiet os

-- what node n tells of this input
abbrev pub NodeTells : ℕ → Node → Input → List Output → Type 0
NodeTells n Down i os = AllQuiet os
NodeTells n (Up x) i os = UpTells n x i os

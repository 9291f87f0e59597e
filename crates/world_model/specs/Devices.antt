-- Nodes at devices.
use Rattle.std.specs.Prelude.{ℕ, ◌+◌, ◌-◌, ◌*◌, Bool, true, false, Option, None, Some, Result, Ok, Err, length, slice_get, slice_set, slice_index_or, if◌then◌else◌}
use Rattle.std.specs.Option.{option_and_then}
use Rattle.device_queue.specs.Queue.{due_device, next_of}
use Rattle.pgr_device.specs.declared.command.PrCommand.{PrCommand}
use Rattle.pgr_device.specs.declared.command.PrCommand.TheVariants as command
use Rattle.pgr_device.specs.Device.{Device}
use Rattle.pgr_device.specs.Spc as spc
use Rattle.seize.specs.Answers.{Answer}
use Rattle.status_report.specs.declared.device_entry.DeviceEntry.TheVariants as device
use Rattle.status_report.specs.declared.device_entry.WriteRefusal.{WriteRefusal}
use Rattle.status_report.specs.declared.entry.Entry.TheVariants as entry
use Rattle.status_report.specs.declared.schedule_entry.SkipCause.TheVariants as skip
use Rattle.node_model.specs.declared.input.Input.TheVariants as input
use Rattle.node_model.specs.declared.node.Node.{Node}
use Rattle.node_model.specs.declared.node.Node.TheVariants.{Down, Up}
use Rattle.node_model.specs.declared.node.UpNode.{UpNode}
use Rattle.node_model.specs.Devices.{may_write_as}
use Rattle.world_model.specs.Worlds.{Play, WorldState, is_up, node_at, skipping, telling, with_world}
use Rattle.world_model.specs.Sends.{giving}

-- Which command is due at a node, and at which device.

abbrev pub due_of : UpNode → Option (ℕ × PrCommand)
due_of x = option_and_then (λ d. option_and_then (λ c. Some (d, c)) (next_of x.tasks)) (due_device x.tasks)

abbrev pub due_at : Option Node → Option (ℕ × PrCommand)
due_at None = None
due_at (Some Down) = None
due_at (Some (Up x)) = due_of x

abbrev pub due : WorldState → ℕ → Option (ℕ × PrCommand)
due w n = due_at (node_at w n)

-- A command is done at a device, unless an armed fault says that it is not; its answer comes unless one is armed.

abbrev pub fault_place : WorldState → ℕ → ℕ → ℕ
fault_place w n d = (n - 1) * length w.devices + (d - 1)

abbrev pub fault_at : WorldState → ℕ → ℕ → Option Bool
fault_at w n d = slice_index_or w.faults (fault_place w n d) None

abbrev pub with_fault : WorldState → ℕ → ℕ → Option Bool → WorldState
with_fault w n d fault = record w { faults = slice_set w.faults (fault_place w n d) fault }

pub record Executed : Type 0 where
  pub device : Device
  pub answer : Answer

abbrev pub executed : Device → ℕ → PrCommand → Option Bool → Executed
executed device n c None = record { device = (spc.step device n c).after; answer = Ok (spc.step device n c).answer }
executed device n c (Some true) = record { device = (spc.step device n c).after; answer = Err (record {}) }
executed device n c (Some false) = record { device = device; answer = Err (record {}) }

pub record Commanded : Type 0 where
  pub world : WorldState
  pub answer : Answer

abbrev pub commanded_at : WorldState → ℕ → ℕ → Option Device → PrCommand → Commanded
commanded_at w n d None c = record { world = w; answer = Err (record {}) }
commanded_at w n d (Some device) c = record {
  world = record (with_fault w n d None) { devices = slice_set w.devices (d - 1) (executed device n c (fault_at w n d)).device };
  answer = (executed device n c (fault_at w n d)).answer;
}

abbrev pub commanded : WorldState → ℕ → ℕ → PrCommand → Commanded
commanded w n d c = commanded_at w n d (slice_get w.devices (d - 1)) c

-- A node does the command that is due.

abbrev pub answering : ℕ → Commanded → Play → Play
answering n o p = giving n (input.Answered o.answer) (with_world p o.world)

abbrev pub doing_due : ℕ → Option (ℕ × PrCommand) → Play → Play
doing_due n None p = p
doing_due n (Some due) p = answering n (commanded p.world n due.0 due.1) p

abbrev pub after_readying : ℕ → Play → Play
after_readying n p = doing_due n (due p.world n) p

abbrev pub doing_command : ℕ → Play → Play
doing_command n p = after_readying n (giving n input.CommandDue p)

abbrev pub on_disk_due : ℕ → Option (ℕ × PrCommand) → Play → Play
on_disk_due n None p = skipping skip.NoWork p
on_disk_due n (Some due) p = doing_command n p

abbrev pub on_disk : ℕ → Play → Play
on_disk n p = if is_up p.world n then on_disk_due n (due p.world n) p else skipping skip.Down p

-- A node writes.

abbrev pub wrote : ℕ → ℕ → ℕ → Commanded → Play → Play
wrote n d value o p = giving n (input.Wrote d value o.answer) (with_world p o.world)

abbrev pub writing_if : ℕ → ℕ → ℕ → Result ℕ WriteRefusal → Play → Play
writing_if n d value (Ok e) p = wrote n d value (commanded p.world n d (command.Write value)) p
writing_if n d value (Err cause) p = telling (entry.Device (device.Refused n d value cause)) p

abbrev pub writing_at : ℕ → ℕ → ℕ → Option Node → Play → Play
writing_at n d value None p = skipping skip.Down p
writing_at n d value (Some Down) p = skipping skip.Down p
writing_at n d value (Some (Up x)) p = writing_if n d value (may_write_as p.world.cluster n d x.seat) p

abbrev pub writing : ℕ → ℕ → ℕ → Play → Play
writing n d value p = writing_at n d value (node_at p.world n) p

-- Numbers keep their widths in every run: in all that nodes and disks keep, in all that was sent, and in the commands that are due.
use Rattle.std.specs.Prelude.{ℕ, ◌<◌, ◌^◌, Option, None, Some}
use Rattle.std.specs.List.{AllByRecursion}
use Rattle.pgr_device.specs.declared.command.PrCommand.{PrCommand}
use Rattle.pgr_device.specs.declared.command.PrCommand.TheVariants as command
use Rattle.wire.specs.Spelling.{IsNode}
use Rattle.node_model.specs.declared.cluster.Cluster.{Cluster}
use Rattle.refinement.specs.node_widths.Widths.{AreDevices, BodyFits, NodeFits, RecordFits}
use Rattle.refinement.specs.Runs.{Letter, Nodes}

-- The cluster has at most 16 devices, of the numbers 1 to 16.
pub record ClusterFits (c : Cluster) : Type 0 where
  pub devices : AreDevices c

abbrev pub LetterFits : Letter → Type 0
LetterFits l = IsNode l.from × BodyFits l.body

-- all nodes, their disks, and all that was ever sent
pub record RunFits (c : Cluster) (v : Nodes) : Type 0 where
  pub nodes : (n : ℕ) → NodeFits c n (v.node n)
  pub disks : (n : ℕ) → RecordFits (v.disk n).kept
  pub sent : AllByRecursion LetterFits v.sent

-- what a command leaves at a device has 64 bits
abbrev pub CommandFits : PrCommand → Type 0
CommandFits (command.Register shown new) = new < 2 ^ 64
CommandFits (command.Ignore new) = new < 2 ^ 64
CommandFits (command.Swap expected new) = new < 2 ^ 64
CommandFits _ = Unit {0}

abbrev pub DueFits : Option PrCommand → Type 0
DueFits None = Unit {0}
DueFits (Some k) = CommandFits k

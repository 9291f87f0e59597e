-- What becomes of a node's command: the device as it leaves it, and what the node learns.
use Rattle.std.specs.Prelude.{ℕ, Ok, Err}
use Rattle.pgr_device.specs.declared.command.PrCommand.{PrCommand}
use Rattle.pgr_device.specs.Device as pgr
use Rattle.pgr_device.specs.Spc.{step}
use Rattle.seize.specs.Answers.{Answer}

-- A command is answered, or it fails: the device did not do it, or did it, while its answer is lost. A node without a path to the device
-- is answered so.
pub data Completion : Type 0 where
  Answered : Completion
  Undone : Completion
  Done : Completion

-- the device after the command of node n
abbrev pub executed : Completion → pgr.Device → ℕ → PrCommand → pgr.Device
executed Answered p n c = (step p n c).after
executed Undone p n c = p
executed Done p n c = (step p n c).after

-- what node n learns
abbrev pub learned : Completion → pgr.Device → ℕ → PrCommand → Answer
learned Answered p n c = Ok (step p n c).answer
learned Undone p n c = Err (record {})
learned Done p n c = Err (record {})

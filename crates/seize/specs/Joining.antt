-- Joining a device whose key of this node is not validated, one command at a time.
use Rattle.std.specs.Prelude.{ℕ, ◌==◌, if◌then◌else◌, Option, Some, None}
use Rattle.pgr_device.specs.declared.command.PrCommand.{PrCommand}
use Rattle.pgr_device.specs.declared.command.PrCommand.TheVariants as command
use Rattle.seize.specs.declared.kind.JoinResult.{JoinResult}
use Rattle.seize.specs.declared.kind.JoinResult.TheVariants.{Joined, Late, Fault}
use Rattle.seize.specs.declared.step.JoinStep.{JoinStep}
use Rattle.seize.specs.declared.step.JoinStep.TheVariants.{Register, ReadWord, Ended}
use Rattle.seize.specs.Answers.{Answer, word_told, is_good}
use Rattle.cl_base.specs.Keys.{key_of}

pub record JoinState : Type 0 where
  -- the epoch that was installed
  pub epoch : ℕ
  -- the node that joins, and its cluster
  pub me : ℕ
  pub cluster : ℕ
  -- how far it has come
  pub step : JoinStep

abbrev pub begun : ℕ → ℕ → ℕ → JoinState
begun epoch me cluster = record { epoch = epoch; me = me; cluster = cluster; step = Register }

abbrev pub command_at : JoinState → JoinStep → Option PrCommand
command_at s Register = Some (command.Ignore (key_of s.cluster s.me))
command_at s ReadWord = Some command.Word
command_at s (Ended result) = None

abbrev pub result_at : JoinStep → Option JoinResult
result_at (Ended result) = Some result
result_at _ = None

-- the word, read after the key was registered
abbrev pub compared : JoinState → Option ℕ → JoinResult
compared s None = Fault
compared s (Some word) = if word == s.epoch then Joined else Late word

abbrev pub next_step : JoinState → JoinStep → Answer → JoinStep
next_step s Register a = if is_good a then ReadWord else Ended Fault
next_step s ReadWord a = Ended (compared s (word_told a))
next_step s (Ended result) a = Ended result

-- the command that is due, if one is
abbrev pub command_of : JoinState → Option PrCommand
command_of s = command_at s s.step

-- the result, once there is one
abbrev pub result_of : JoinState → Option JoinResult
result_of s = result_at s.step

-- the answer to the due command is taken
abbrev pub taken : JoinState → Answer → JoinState
taken s a = record s { step = next_step s s.step a }

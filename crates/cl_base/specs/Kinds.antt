-- The kinds of messages and the bytes that messages begin with.
use Rattle.std.specs.Prelude.{ℕ}
use Rattle.cl_base.specs.declared.packet.MessageKind.{MessageKind}
use Rattle.cl_base.specs.declared.packet.MessageKind.TheVariants as kind

-- the byte that a message of the kind begins with
abbrev pub kind_byte : MessageKind → ℕ
kind_byte kind.Heartbeat = 1
kind_byte kind.Collect = 2
kind_byte kind.Promise = 3
kind_byte kind.Nack = 4
kind_byte kind.SeizeQuorum = 5
kind_byte kind.SeizeData = 6
kind_byte kind.Seized = 7
kind_byte kind.Install = 8
kind_byte kind.Ready = 9
kind_byte kind.Start = 10
kind_byte kind.Prepare = 11
kind_byte kind.Prepared = 12
kind_byte kind.Commit = 13
kind_byte kind.Order = 14
kind_byte kind.Done = 15
kind_byte kind.Request = 16
kind_byte kind.Answer = 17
kind_byte kind.Excluded = 18

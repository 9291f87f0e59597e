use Rattle.std.proofs.Common.{◌≤◌, ◌+◌, ◌-◌, length, take, Ok}
use Rattle.interpreter.specs.Readers.{IsReader, TakesBytes, room}
use Rattle.interpreter.proofs.reader.Reader.take_piece.Given as goal

abbrev pub invariant-loop-length : goal.invariant-loop-length
invariant-loop-length l = record {
  within : l.at ≤ length l.piece;
  whole : IsReader l.self;
  room_left : room l.self + l.at ≤ room l.fn.self;
  taken : TakesBytes {A = Unit {0}} l.task l.fn.self (take l.at l.piece) (Ok tt) l.self;
}

abbrev pub decreases-loop-length : goal.decreases-loop-length
decreases-loop-length l = length l.piece - l.at

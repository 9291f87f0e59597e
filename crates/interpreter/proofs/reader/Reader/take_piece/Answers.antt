use Rattle.std.proofs.Common.{◌<◌, ◌+◌, ◌-◌, length, Ok, Err, arith, length-drop}
use Rattle.std.proofs.lemmas.List.{take_rest}
use Rattle.interpreter.proofs.Pieces.{cut_length, line_read, stopped_whole, rest_held}
use Rattle.interpreter.proofs.reader.Reader.take_piece.Goals as goal

pub returns-in-Err-clause-taken : goal.returns-in-Err-clause-taken
returns-in-Err-clause-taken c =
    let found = c.in-Some.ensures in
    stopped_whole (Unit {0}) c.args.task c.args.self.now c.take_line.new.self c.args.piece.now (c.loop-length.at + (c.in-Some.length + 1)) c.in-Err.stop
    (line_read (Unit {0}) (Unit {0}) tt c.args.task c.args.self.now c.loop-length.self c.take_line.new.self c.args.piece.now c.loop-length.at c.in-Some.length (Err c.in-Err.stop)
    c.loop-length.invariant.taken c.loop-length.invariant.whole.2 (record { within = found.0; plain = found.1; newline = found.2 }) c.in-Err.ensures.taken)

pub loop-length-preserved : goal.loop-length-preserved
loop-length-preserved c =
    let found = c.in-Some.ensures in
    let inside : c.in-Some.length < length c.args.piece.now - c.loop-length.at =
    omega (arith, rw (take_rest c.args.piece.now c.loop-length.at) at found.0, length-drop c.loop-length.at c.args.piece.now) in
    record {
      within = omega arith;
      whole = c.in-Ok.ensures.whole;
      room_left = omega (arith, c.in-Ok.ensures.room, c.loop-length.invariant.room_left, cut_length c.args.piece.now c.loop-length.at c.in-Some.length inside);
      taken = line_read (Unit {0}) (Unit {0}) tt c.args.task c.args.self.now c.loop-length.self c.take_line.new.self c.args.piece.now c.loop-length.at c.in-Some.length (Ok c.in-Ok.field-0)
          c.loop-length.invariant.taken c.loop-length.invariant.whole.2 (record { within = found.0; plain = found.1; newline = found.2 }) c.in-Ok.ensures.taken;
    }

pub returns-clause-taken : goal.returns-clause-taken
returns-clause-taken c =
    rest_held (Unit {0}) (Unit {0}) tt c.args.task c.args.self.now c.loop-length.self c.hold.new.self c.args.piece.now c.loop-length.at c.hold.result
    c.loop-length.invariant.taken (c.hold.ensures.taken c.args.task)

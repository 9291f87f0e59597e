use Rattle.std.proofs.Common.{rules, ◌≡◌, List, [], ℕ, take, true, refl, subst, ◌∙◌, arith}
use Rattle.std.specs.Io.KnownBytes.{Appends}
use Rattle.cl_io.specs.Causes.{Rose, AppendsFront}
use Rattle.interpreter.specs.declared.reader.Reader as reader
use Rattle.replay.proofs.Closes.{read_failed, closed_run, closed_in, write_failed, read_more, flushed, short_take, none_taken}
use Rattle.replay.proofs.driver.run.Goals as goal

pub returns-in-Err : goal.returns-in-Err
returns-in-Err g c = record {
  run = read_failed c.traces_of_each_run.ensures c.args.task c.args.agents _ _ _ _ _ _ _ _ _ c.pieces.reader c.pieces.invariant.reads c.pieces.invariant.whole c.pieces.invariant.written c.in-Err.ensures.bytes
      (subst (λ n. Rose n (g.S.Source.faults c.read_some.new.source)) c.pieces.invariant.source c.in-Err.ensures.cause.failed) c.pieces.invariant.sink;
}

pub returns-then-count-eq0 : goal.returns-then-count-eq0
returns-then-count-eq0 g c = record {
  run = closed_run c.traces_of_each_run.ensures c.args.task c.args.agents _ _ _ _ _ _ _ _ _ _ _ c.pieces.reader [] true c.finish-stop.result c.finish-stop.new.self.lines c.finish-stop.new.self.text.items c.close.result
      c.pieces.invariant.reads c.pieces.invariant.whole (none_taken _ _ c.in-Ok-read_some.count c.read_some.new.buffer c.if-count-eq0.true c.in-Ok-read_some.ensures.bytes.0) (omega arith)
      (λ e. c.in-Ok-read_some.ensures.bytes.1 c.if-count-eq0.true (omega (arith, c.read_some.ensures.length))) c.finish-stop.ensures
      (c.in-Ok-read_some.ensures.same ∙ c.pieces.invariant.source) c.pieces.invariant.sink c.close.ensures.closed;
}

pub returns-in-Err-take_piece : goal.returns-in-Err-take_piece
returns-in-Err-take_piece g c = record {
  run = closed_in c.traces_of_each_run.ensures (Unit {0}) c.args.task c.args.agents _ _ _ _ _ _ _ _ _ _ _ c.pieces.reader c.take_piece.new.self (take c.in-Ok-read_some.count c.read_some.new.buffer) c.in-Err-take_piece.stop c.close-in-Err-take_piece.result
      c.pieces.invariant.reads c.pieces.invariant.whole c.in-Ok-read_some.ensures.bytes.0 (short_take c.in-Ok-read_some.count 16384 c.read_some.new.buffer (omega (arith, c.read_some.ensures.length)))
      c.in-Err-take_piece.ensures.taken (c.in-Ok-read_some.ensures.same ∙ c.pieces.invariant.source) c.pieces.invariant.sink c.close-in-Err-take_piece.ensures.closed;
}

pub returns-in-Err-write_all : goal.returns-in-Err-write_all
returns-in-Err-write_all g c = record {
  run = write_failed c.traces_of_each_run.ensures (Unit {0}) c.in_default-take_piece.field-0 c.args.task c.args.agents _ _ _ _ _ _ _ _ _ _ c.pieces.reader c.take_piece.new.self (take c.in-Ok-read_some.count c.read_some.new.buffer)
      c.pieces.invariant.reads c.pieces.invariant.whole c.in-Ok-read_some.ensures.bytes.0 (short_take c.in-Ok-read_some.count 16384 c.read_some.new.buffer (omega (arith, c.read_some.ensures.length)))
      c.in_default-take_piece.ensures.taken (c.in-Ok-read_some.ensures.same ∙ c.pieces.invariant.source)
      (subst (λ (t : List ℕ). AppendsFront (g.K.Sink.held c.pieces.sink) (g.K.Sink.held c.write_all.new.sink) t) c.as_slice.ensures.value c.in-Err-write_all.ensures.err)
      (subst (λ n. Rose n (g.K.Sink.faults c.write_all.new.sink)) c.pieces.invariant.sink c.in-Err-write_all.ensures.cause.failed);
}

pub pieces-preserved : goal.pieces-preserved
pieces-preserved g c =
    let cleared : c.clear.new.self.items ≡ [] = search rules in
    let next : reader.Reader = record { state = c.take_piece.new.self.state; lines = c.take_piece.new.self.lines; held = c.take_piece.new.self.held; text = c.clear.new.self; words = c.take_piece.new.self.words } in
    record {
      whole = c.in_default-take_piece.ensures.whole;
      written = cleared;
      reads = read_more (Unit {0}) c.in_default-take_piece.field-0 c.args.task c.args.agents _ _ _ _ _ _ c.pieces.reader c.take_piece.new.self next (take c.in-Ok-read_some.count c.read_some.new.buffer)
          c.pieces.invariant.reads c.in-Ok-read_some.ensures.bytes.0 c.in_default-take_piece.ensures.taken
          (subst (λ (t : List ℕ). Appends (g.K.Sink.held c.pieces.sink) (g.K.Sink.held c.write_all.new.sink) t) c.as_slice.ensures.value c.in-Ok-write_all.ensures.ok)
          (flushed c.args.task c.take_piece.new.self next refl refl refl cleared);
      source = c.in-Ok-read_some.ensures.same ∙ c.pieces.invariant.source;
      sink = c.in-Ok-write_all.ensures.same ∙ c.pieces.invariant.sink;
    }

use Rattle.std.proofs.Common.{◌≡◌, []}
use Rattle.interpreter.specs.Readers.{IsReader, room}
use Rattle.replay.specs.Loops.{ReadsOn}
use Rattle.replay.proofs.driver.run.Given as goal

abbrev pub invariant-pieces : goal.invariant-pieces
invariant-pieces g l = record {
  whole : IsReader l.reader;
  written : l.reader.text.items ≡ [];
  reads : ReadsOn l.task l.fn.agents (g.S.Source.left l.fn.source) (g.S.Source.left l.source) (g.K.Sink.held l.fn.sink) (g.K.Sink.held l.sink) l.reader;
  source : g.S.Source.faults l.source ≡ g.S.Source.faults l.fn.source;
  sink : g.K.Sink.faults l.sink ≡ g.K.Sink.faults l.fn.sink;
}

abbrev pub decreases-pieces : goal.decreases-pieces
decreases-pieces g l = room l.reader

use Rattle.std.proofs.Common.{◌≡◌, ◌≤◌, ◌+◌, ◌-◌, true, []}
use Rattle.interpreter.specs.declared.task.Task.TheVariants.{Run}
use Rattle.replay.specs.Gens.{counts_made}
use Rattle.interpreter.specs.Readers.{IsReader, with_more}
use Rattle.replay.specs.Tallies.{IsTally, counts_from}
use Rattle.replay.proofs.MadeLines.{rest_of}
use Rattle.replay.proofs.generating.replay_made.Given as goal

abbrev pub invariant-loop-tally : goal.invariant-loop-tally
invariant-loop-tally l = record {
  reader : IsReader l.reader;
  tally : IsTally l.tally;
  written : l.reader.text.items ≡ [];
  within : l.made.given ≤ 10 + l.made.count;
  counted : counts_from l.tally (with_more Run true l.reader (rest_of l.made)).text ≡ counts_made l.fn.making l.fn.agents;
}

abbrev pub decreases-loop-tally : goal.decreases-loop-tally
decreases-loop-tally l = (10 + l.made.count) - l.made.given

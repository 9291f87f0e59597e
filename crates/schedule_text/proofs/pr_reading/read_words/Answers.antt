use Rattle.std.proofs.Common.{arith, ◌∙◌}
use Rattle.std.proofs.lemmas.List.{length-set}
use Rattle.schedule_text.proofs.PrintedLemmas.{placed_more, beyond_five}
use Rattle.schedule_text.proofs.pr_reading.read_words.Goals as goal

pub loop-place-preserved : goal.loop-place-preserved
loop-place-preserved c = record {
  five = length-set c.loop-place.words c.loop-place.place c.in-Some.word ∙ c.loop-place.invariant.five;
  whole = placed_more c.loop-place.words c.loop-place.place c.in-Some.word c.loop-place.rest.now c.in-Some.more.now c.args.line.now
      (omega (arith, c.loop-place-test.true, c.loop-place.invariant.five)) c.loop-place.invariant.whole c.in-Some.ensures;
}

pub returns-clause-reading : goal.returns-clause-reading
returns-clause-reading c = beyond_five c.loop-place.words c.loop-place.place c.loop-place.rest.now c.args.line.now c.loop-place.invariant.five
    (omega (arith, c.loop-place-test.false, c.loop-place.auto.place-end)) c.loop-place.invariant.whole

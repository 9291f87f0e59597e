use Rattle.schedule_text.proofs.WordLemmas.{joined_more}
use Rattle.schedule_text.proofs.event_words.joined.Goals as goal

pub loop-word-preserved : goal.loop-word-preserved
loop-word-preserved c = joined_more _ _ _ _ c.loop-word-test.true _ _ _ c.loop-word.invariant c.in_ok-push.ensures.items c.in_ok-extend_from_slice-2.ensures.items

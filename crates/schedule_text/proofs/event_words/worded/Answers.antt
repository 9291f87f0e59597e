use Rattle.std.proofs.Common.{map, sym, subst, ◌∙◌}
use Rattle.schedule_text.specs.Allowed.{AreWords}
use Rattle.schedule_text.proofs.WordLemmas.{clean_join}
use Rattle.schedule_text.proofs.event_words.worded.Goals as goal

pub returns-clause-allowed : goal.returns-clause-allowed
returns-clause-allowed c = λ s. (
  c.in_ok-node.ensures.allowed,
  subst AreWords (sym (c.new-words.ensures.value ∙ c.in_ok-joined.ensures))
      (clean_join c.args.first.now (map (λ w. w.now) c.args.words.now) (sym c.is_word.ensures ∙ c.if-not-is_word.false) (sym c.all_words.ensures ∙ c.if-not-all_words.false)),
)

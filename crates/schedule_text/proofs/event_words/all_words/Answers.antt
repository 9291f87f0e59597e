use Rattle.std.proofs.Common.{sym, ◌∙◌}
use Rattle.schedule_text.proofs.WordLemmas.{all_map}
use Rattle.schedule_text.specs.Words.{is_word}
use Rattle.schedule_text.proofs.event_words.all_words.Goals as goal

pub returns : goal.returns
returns c = c.are_words.ensures ∙ sym (all_map is_word c.args.words.now)

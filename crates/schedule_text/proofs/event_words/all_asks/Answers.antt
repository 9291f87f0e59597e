use Rattle.std.proofs.Common.{sym, ◌∙◌}
use Rattle.schedule_text.proofs.WordLemmas.{all_map}
use Rattle.schedule_text.specs.Choices.{is_ask}
use Rattle.schedule_text.proofs.event_words.all_asks.Goals as goal

pub returns : goal.returns
returns c = c.are_asks.ensures ∙ sym (all_map is_ask c.args.words.now)

use Rattle.std.proofs.Common.{◌≡◌, take}
use Rattle.cmm_member.specs.Views.{all_next}
use Rattle.cmm_member.proofs.entry_list.append_texts.Given as goal

abbrev pub invariant-loop-text : goal.invariant-loop-text
invariant-loop-text l = l.entries ≡ all_next l.fn.entries (take l.text-index l.texts)

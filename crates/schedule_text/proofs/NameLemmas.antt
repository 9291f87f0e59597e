-- Which command a word names.
use Rattle.std.proofs.Common.{◌≡◌, ℕ, List, Some, refl, ap, ◌∙◌}
use Rattle.schedule_text.specs.declared.command_name.CommandName.{CommandName}
use Rattle.schedule_text.specs.declared.command_name.CommandName.TheVariants.{Register, Ignore, Reserve, Release, Clear, Preempt, Keys, Holder, Read, Write, Word, Swap}
use Rattle.schedule_text.specs.Names.{name_text, name_in}

text_names : (k : CommandName) → name_in (name_text k) ≡ Some k
unfolding name_in
text_names Register = refl
text_names Ignore = refl
text_names Reserve = refl
text_names Release = refl
text_names Clear = refl
text_names Preempt = refl
text_names Keys = refl
text_names Holder = refl
text_names Read = refl
text_names Write = refl
text_names Word = refl
text_names Swap = refl

pub name_known : (w : List ℕ) (k : CommandName) → w ≡ name_text k → name_in w ≡ Some k
name_known w k is = ap name_in is ∙ text_names k

use Rattle.std.proofs.Common.{rules, ◌==◌, ap, ◌∙◌}
use Rattle.std.specs.Prelude.{nat_eq}
use Rattle.std.specs.List.{list_any, slice_split}
use Rattle.std.specs.Cmp.Lexicographic.{pointwise}
use Rattle.std.proofs.lemmas.Iterator.Search.{any_from_yields_List}
use Rattle.std.proofs.lemmas.Iterator.Splits.{YieldsList-from_slice_split}
use Rattle.cmm_member.proofs.numbers.is_listed.Goals as goal

pub returns : goal.returns
returns c =
    any_from_yields_List (λ word. pointwise nat_eq word c.as_bytes-digits.result.now) _ _ _ c.any.ensures.ran
    (YieldsList-from_slice_split _ (λ b. b == 44) c.args.text.now c.split.ensures.rest c.split.ensures.done c.split.ensures.closure (λ x b q k. search rules))
    (λ x b q k. search rules)
    ∙ ap (λ digits. list_any (λ word. pointwise nat_eq word digits) (slice_split (λ b. b == 44) c.args.text.now)) (c.as_bytes-digits.ensures.value ∙ c.format.ensures.text)

use Rattle.std.proofs.Common.{◌≡◌, ℕ, ◌<◌, List, length, map, subst, ◌∙◌}
use Rattle.std.proofs.lemmas.List.{length-map}
use Rattle.cmm_attempt.specs.declared.promised.Promised.{Promised}
use Rattle.cmm_attempt.proofs.NewestLemmas.{summary_of, FindsNewest, FindsFirst, newest_is}
use Rattle.cmm_attempt.proofs.promised.newest_of.Goals as goal

pub returns : goal.returns
returns c =
    let ps : List Promised = c.args.promises.now in
    let i : ℕ = c.newest-index.result in
    let all : c.as_slice.result.now ≡ map summary_of ps = c.as_slice.ensures.value ∙ c.in_ok-summaries.ensures in
    let within : i < length (map summary_of ps) = subst (λ xs. i < length xs) all c.newest-index.ensures.index in
    let index : i < length ps = subst (λ n. i < n) (length-map ps summary_of) within in
    c.shown_at.ensures
    ∙ newest_is ps i index (subst (λ xs. FindsNewest xs i) all c.newest-index.ensures.newest) (subst (λ xs. FindsFirst xs i) all c.newest-index.ensures.first)

use Rattle.std.proofs.Common.{◌≡◌, ℕ, ◌-◌, ◌+◌, ◌*◌, ◌^◌, true, ⊎_elim, sym, ap, ◌∙◌, arith}
use Rattle.std.proofs.lemmas.Bool.{cases_lt, true≢false}
use Rattle.cl_base.specs.Sets.{has}
use Rattle.cl_base.proofs.SetLemmas.{has_not_zero}
use Rattle.seize.proofs.laws.keys_of_members.Goals as goal

-- a number that is in a set is not zero
above : (base members key : ℕ) → has members (key - base) ≡ true → key ≡ base + (key - base)
above base members key there =
    ⊎_elim (λ lt. omega (arith, lt))
    (λ le. let zero : key - base ≡ 0 = omega (arith, le) in
    absurd (true≢false (sym there ∙ ap (has members) zero ∙ has_not_zero members))) (cases_lt base key)

pub returns-clause-to : goal.returns-clause-to
returns-clause-to c = λ cluster members key there. (above (cluster * 2 ^ 32) members key there, there)

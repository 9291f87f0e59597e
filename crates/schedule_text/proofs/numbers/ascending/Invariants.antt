use Rattle.std.proofs.Common.{◌≡◌, ◌<◌, ◌≤◌, ℕ, true, map, drop}
use Rattle.cl_base.specs.Sets.{has}
use Rattle.schedule_text.specs.Headers.{ascending}
use Rattle.schedule_text.specs.Words.{decimal_in}
use Rattle.schedule_text.proofs.numbers.ascending.Given as goal

abbrev pub invariant-loop-word : goal.invariant-loop-word
invariant-loop-word l = record {
  rest : ascending l.most 0 0 (map (λ w. decimal_in w.now) l.numbers) ≡ ascending l.most l.greatest l.nodes (map (λ w. decimal_in w.now) (drop l.word-index l.numbers));
  most : l.greatest ≤ l.most;
  some : 0 < l.word-index → has l.nodes l.greatest ≡ true;
  within : (n : ℕ) → has l.nodes n ≡ true → (1 ≤ n) × (n ≤ l.greatest);
}

-- Targets are gathered member by member.
use Rattle.std.proofs.Common.{◌≡◌, ℕ, ◌+◌, ◌<◌, ◌≤◌, List, [], ◌∷◌, ◌++◌, length, map, take, get_or, refl, ap, sym, subst, ◌∙◌}
use Rattle.std.specs.List.{flat_map}
use Rattle.std.specs.List.Sorted.{IsStrictlyIncreasing}
use Rattle.std.proofs.lemmas.Grind.{flat_map-append}
use Rattle.std.proofs.lemmas.List.{take_more, take_all, append-nil}
use Rattle.ccr_tables.specs.State.{ConfigState}
use Rattle.ccr_tables.specs.declared.address.Address.{Address}
use Rattle.cl_base.specs.Limits.{most_nodes}
use Rattle.cl_base.specs.Numbers.{numbers_to}
use Rattle.rg_view.specs.declared.view.GroupView.{GroupView}
use Rattle.shared_address.specs.Choosing.{HaveWeights}
use Rattle.shared_address.specs.declared.choice.Target.{Target}
use Rattle.address_targets.specs.Targets.{target_on, targets_of}
use Rattle.address_targets.proofs.Ascending.{ascending, have_weights}

module _ (c : ConfigState) (v : GroupView) (a : Address) where
  -- one more member is asked
  pub one_more : (members : List ℕ) (i n : ℕ) (before after : List Target) → i < length members → n ≡ get_or members i n → before ≡ flat_map (target_on c v a) (take i members)
      → after ≡ before ++ target_on c v a n → after ≡ flat_map (target_on c v a) (take (i + 1) members)
  one_more members i n before after low here so more =
      more ∙ ap (λ (ts : List Target). ts ++ target_on c v a n) so
      ∙ (rw (take_more members i n low, ← here, flat_map-append (target_on c v a) (take i members) (n ∷ []), append-nil (target_on c v a n)) refl)

  -- all are
  pub all_gathered : (members : List ℕ) (i : ℕ) (targets : List Target) → members ≡ numbers_to v.members most_nodes → length members ≤ i
      → targets ≡ flat_map (target_on c v a) (take i members) → targets ≡ targets_of c v a
  unfolding targets_of
  all_gathered members i targets are past so = so ∙ (rw (take_all i members past, are) refl)

  pub are_ascending : (targets : List Target) → targets ≡ targets_of c v a → IsStrictlyIncreasing (map (λ (t : Target). t.node) targets)
  are_ascending targets are = subst (λ (ts : List Target). IsStrictlyIncreasing (map (λ (t : Target). t.node) ts)) (sym are) (ascending c v a)

  pub are_weighted : (targets : List Target) → targets ≡ targets_of c v a → HaveWeights targets
  are_weighted targets are = subst (λ (ts : List Target). HaveWeights ts) (sym are) (have_weights c v a)

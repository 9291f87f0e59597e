-- Targets stand in ascending order, and each has a weight with which it is chosen.
use Rattle.std.proofs.Common.{◌≡◌, ℕ, zero, suc, ◌+◌, ◌<◌, ◌≤◌, Bool, true, false, ◌&&◌, if◌then◌else◌, List, [], ◌∷◌, ◌++◌, map, slice_index, refl, subst, arith}
use Rattle.std.specs.List.{AllByRecursion, flat_map}
use Rattle.std.specs.List.Sorted.{IsStrictlyIncreasing}
use Rattle.std.proofs.lemmas.Bool.Decides.{nat_tests}
use Rattle.std.proofs.lemmas.List.Elements.{All-from_recursion}
use Rattle.cl_base.specs.Limits.{most_nodes}
use Rattle.cl_base.specs.Numbers.{numbers_to}
use Rattle.cl_base.specs.Sets.{has}
use Rattle.ccr_tables.specs.State.{ConfigState}
use Rattle.ccr_tables.specs.declared.address.Address.{Address}
use Rattle.placement.specs.Resources.{is_online}
use Rattle.rg_view.specs.declared.view.GroupView.{GroupView}
use Rattle.shared_address.specs.Choosing.{HaveWeights}
use Rattle.shared_address.specs.declared.choice.Target.{Target}
use Rattle.address_targets.specs.Targets.{is_chosen, is_target, target_on, targets_of, weight_of}

abbrev pub HasWeight : Target → Type 0
HasWeight t = (1 ≤ t.weight) × (t.weight ≤ 1000)

-- numbers that rise from above low to at most high
abbrev Rises : ℕ → ℕ → List ℕ → Type 0
Rises low high [] = low ≤ high
Rises low high (x ∷ xs) = (low < x) × Rises x high xs

rises_wider : (low k : ℕ) (xs : List ℕ) → Rises low k xs → Rises low (suc k) xs
rises_wider low k [] h = omega arith
rises_wider low k (x ∷ xs) h = (h.0, rises_wider x k xs h.1)

rises_on : (low k : ℕ) (xs : List ℕ) → Rises low k xs → Rises low (suc k) (xs ++ suc k ∷ [])
rises_on low k [] h = (omega arith, omega arith)
rises_on low k (x ∷ xs) h = (h.0, rises_on x k xs h.1)

rises_from : (low x high : ℕ) (xs : List ℕ) → low < x → Rises x high xs → Rises low high xs
rises_from low x high [] lt h = omega arith
rises_from low x high (y ∷ ys) lt h = let above = h.0 in (omega arith, h.1)

numbers_rise : (set k : ℕ) → Rises 0 k (numbers_to set k)
numbers_rise set zero = omega arith
numbers_rise set (suc k) = by (has set (suc k)) (numbers_rise set k)
  where
    by : (b : Bool) → Rises 0 k (numbers_to set k) → Rises 0 (suc k) (if b then numbers_to set k ++ suc k ∷ [] else numbers_to set k)
    by true h = rises_on 0 k (numbers_to set k) h
    by false h = rises_wider 0 k (numbers_to set k) h

rising : (low high : ℕ) (xs : List ℕ) → Rises low high xs → IsStrictlyIncreasing xs
rising low high [] h k lt = absurd (omega arith)
rising low high (x ∷ []) h k lt = absurd (omega arith)
rising low high (x ∷ y ∷ ys) h zero lt = h.1.0
rising low high (x ∷ y ∷ ys) h (suc k) lt =
    let next : suc (k + 1) ≡ suc k + 1 = omega arith in
    subst (λ (j : ℕ). slice_index (y ∷ ys) k < slice_index (x ∷ y ∷ ys) j) next (rising x high (y ∷ ys) h.1 k (omega arith))

module _ (c : ConfigState) (v : GroupView) (a : Address) where
  abbrev nodes : List Target → List ℕ
  nodes ts = map (λ (t : Target). t.node) ts

  targets_rise : (low high : ℕ) (ns : List ℕ) → Rises low high ns → Rises low high (nodes (flat_map (target_on c v a) ns))
  targets_rise low high [] h = h
  targets_rise low high (n ∷ ns) h = by (is_target c v a n) h.0 (targets_rise n high ns h.1)
    where
      by : (b : Bool) → low < n → Rises n high (nodes (flat_map (target_on c v a) ns))
          → Rises low high (nodes ((if b then record { node = n; weight = weight_of a.weights n } ∷ [] else []) ++ flat_map (target_on c v a) ns))
      by true lt rest = (lt, rest)
      by false lt rest = rises_from low n high (nodes (flat_map (target_on c v a) ns)) lt rest

  pub ascending : IsStrictlyIncreasing (nodes (targets_of c v a))
  unfolding targets_of
  ascending = rising 0 most_nodes (nodes (targets_of c v a)) (targets_rise 0 most_nodes (numbers_to v.members most_nodes) (numbers_rise v.members most_nodes))

  weighted_among : (ns : List ℕ) → AllByRecursion HasWeight (flat_map (target_on c v a) ns)
  weighted_among [] = tt
  weighted_among (n ∷ ns) = by (is_online c.groups v a.group n) (is_chosen (weight_of a.weights n)) refl (weighted_among ns)
    where
      by : (p q : Bool) → is_chosen (weight_of a.weights n) ≡ q → AllByRecursion HasWeight (flat_map (target_on c v a) ns)
          → AllByRecursion HasWeight ((if p && q then record { node = n; weight = weight_of a.weights n } ∷ [] else []) ++ flat_map (target_on c v a) ns)
      by false q h rest = rest
      by true false h rest = rest
      by true true h rest = ((grind (arith, nat_tests), grind (arith, nat_tests)), rest)

  pub weighted : AllByRecursion HasWeight (targets_of c v a)
  unfolding targets_of
  weighted = weighted_among (numbers_to v.members most_nodes)

  pub have_weights : HaveWeights (targets_of c v a)
  have_weights = All-from_recursion HasWeight (targets_of c v a) weighted

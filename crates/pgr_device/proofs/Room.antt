-- An unregistered node finds room: 0, its number and the numbers of the registered are apart and below 33.
use Rattle.std.proofs.Common.{◌≡◌, ℕ, ◌<◌, ◌≤◌, ◌==◌, true, false, ◌||◌, List, [], ◌∷◌, map, length, None, sym, arith, eqb, inl, inr}
use Rattle.std.specs.List.{list_any, IsDistinct, AllByRecursion}
use Rattle.std.proofs.lemmas.Bool.{eqb-true, eqb-false, ne_eqb, or_cases, or_parts}
use Rattle.std.proofs.lemmas.List.{length-map}
use Rattle.std.proofs.lemmas.Map.Steps.{length-le_from_distinct_below}
use Rattle.std.proofs.lemmas.Map.Keys.{IsDistinct-cons}
use Rattle.pgr_device.specs.declared.registration.Registration.{Registration}
use Rattle.pgr_device.specs.Kept.{IsApart}
use Rattle.pgr_device.specs.Registered.{registered_key, is_registered}
use Rattle.pgr_device.proofs.Keeps.{unregistered_by_key}

abbrev nodes : List Registration → List ℕ
nodes rs = map (λ r. r.node) rs

-- no registered node has number n
other_nodes : (rs : List Registration) (n : ℕ) → is_registered rs n ≡ false → AllByRecursion (λ y. eqb n y ≡ false) (nodes rs)
other_nodes [] n h = tt
other_nodes (r ∷ rs) n h =
    let apart = or_parts (r.node == n) (is_registered rs n) h in
    (ne_eqb n r.node (λ e. eqb-false r.node n apart.0 (sym e)), other_nodes rs n apart.1)

no_zero : (paths : ℕ) (rs : List Registration) → IsApart paths rs → AllByRecursion (λ y. eqb 0 y ≡ false) (nodes rs)
no_zero paths [] h = tt
no_zero paths (r ∷ rs) h = (ne_eqb 0 r.node (λ e. omega (arith, h.0, e)), no_zero paths rs h.5)

distinct_nodes : (paths : ℕ) (rs : List Registration) → IsApart paths rs → IsDistinct eqb (nodes rs)
unfolding IsDistinct
distinct_nodes paths [] h = tt
distinct_nodes paths (r ∷ rs) h = (other_nodes rs r.node h.4, distinct_nodes paths rs h.5)

below : (paths : ℕ) (rs : List Registration) (q : ℕ) → IsApart paths rs → list_any (eqb q) (nodes rs) ≡ true → q < 33
below paths [] q h e = absurd (cc)
below paths (r ∷ rs) q h e = elim (or_cases (eqb q r.node) (list_any (eqb q) (nodes rs)) e) [
  | inl here ↦ omega (arith, h.1, eqb-true q r.node here)
  | inr there ↦ below paths rs q h.5 there
]

below_with : (paths : ℕ) (rs : List Registration) (n q : ℕ) → n ≤ 32 → IsApart paths rs → list_any (eqb q) (0 ∷ n ∷ nodes rs) ≡ true → q < 33
below_with paths rs n q high h e = elim (or_cases (eqb q 0) (eqb q n || list_any (eqb q) (nodes rs)) e) [
  | inl zero_is ↦ omega (arith, eqb-true q 0 zero_is)
  | inr rest ↦ elim (or_cases (eqb q n) (list_any (eqb q) (nodes rs)) rest) [
    | inl here ↦ omega (arith, high, eqb-true q n here)
    | inr there ↦ below paths rs q h there
  ]
]

pub room : (paths : ℕ) (rs : List Registration) (n : ℕ) → 1 ≤ n → n ≤ 32 → IsApart paths rs → registered_key rs n ≡ None → length rs < 32
room paths rs n low high h none =
    let apart : IsDistinct eqb (n ∷ nodes rs) = IsDistinct-cons eqb n (nodes rs) (other_nodes rs n (unregistered_by_key rs n none)) (distinct_nodes paths rs h) in
    let zero_apart : AllByRecursion (λ y. eqb 0 y ≡ false) (n ∷ nodes rs) = (ne_eqb 0 n (λ e. omega (arith, low, e)), no_zero paths rs h) in
    let all : length (0 ∷ n ∷ nodes rs) ≤ 33 = length-le_from_distinct_below (0 ∷ n ∷ nodes rs) 33 (IsDistinct-cons eqb 0 (n ∷ nodes rs) zero_apart apart) (λ q e. below_with paths rs n q high h e) in
    omega (arith, all, length-map rs (λ (r : Registration). r.node))

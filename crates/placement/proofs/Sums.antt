-- The loads that are counted place by place, and as the contract has them.
use Rattle.std.proofs.Common.{◌≡◌, ℕ, zero, suc, ◌+◌, ◌-◌, ◌^◌, ◌<◌, ◌≤◌, nat_lt, min, Bool, true, false, cond, not, ◌&&◌, ◌||◌, Option, None, Some, List, [], ◌∷◌, ◌++◌, length, drop, take, refl, sym, ap, ◌∙◌, add-one, append_assoc, arith}
use Rattle.std.specs.List.{flat_map, before_first, after_first, position_or_len, prefix_len, slice_get, sum_by}
use Rattle.std.specs.Option.{option_map_or}
use Rattle.std.proofs.lemmas.List.Sums.{sum_by-append}
use Rattle.std.proofs.lemmas.Bool.Decides.{nat_tests}
use Rattle.cl_base.specs.Sets.{has}
use Rattle.load_limits.specs.declared.limits.Factor.{Factor}
use Rattle.load_limits.specs.Loads.{load, share}
use Rattle.rg_props.specs.Lookups.{named}
use Rattle.rg_props.specs.Table.{GroupTable}
use Rattle.rg_view.specs.declared.view.GroupView.{GroupView}
use Rattle.placement.specs.Loads.{brought, brought_at, brought_fixed, counted, counts_at, factors_of, is_entry_of, is_fixed}

-- what the items come to, where each is asked with its place, the first being at place i
abbrev pub by_place : {A B : Type 0} → (ℕ → A → List B) → ℕ → List A → List B
by_place f i [] = []
by_place f i (x ∷ xs) = f i x ++ by_place f (i + 1) xs

module _ {A B : Type 0} (h : ℕ → ℕ → A → List B) (f g : A → List B)
    (early : (own i : ℕ) (x : A) → i < own → h own i x ≡ f x) (same : (own : ℕ) (x : A) → h own own x ≡ []) (late : (own i : ℕ) (x : A) → own < i → h own i x ≡ g x) where
  all_behind : (own i : ℕ) (xs : List A) → own < i → by_place (h own) i xs ≡ flat_map g xs
  all_behind own i [] lt = refl
  all_behind own i (x ∷ xs) lt = (λ k. late own i x lt k ++ all_behind own (i + 1) xs (omega arith) k)

  from_place : (p : A → Bool) (i : ℕ) (xs : List A) → by_place (h (i + position_or_len p xs)) i xs ≡ flat_map f (before_first p xs) ++ flat_map g (after_first p xs)
  from_place p i [] = refl
  from_place p i (x ∷ xs) = by (p x) (from_place p (i + 1) xs)
    where
      m : ℕ
      m = position_or_len p xs

      shift : (k : ℕ) → k ≡ suc m → f x ++ (flat_map f (take m xs) ++ flat_map g (drop (m + 1) xs)) ≡ flat_map f (take k (x ∷ xs)) ++ flat_map g (drop (k + 1) (x ∷ xs))
      shift k e =
          let next : suc m + 1 ≡ suc (m + 1) = omega arith in
          sym (append_assoc (f x) (flat_map f (take m xs)) (flat_map g (drop (m + 1) xs)))
          ∙ ap (λ (j : ℕ). flat_map f (take (suc m) (x ∷ xs)) ++ flat_map g (drop j (x ∷ xs))) (sym next)
          ∙ ap (λ (j : ℕ). flat_map f (take j (x ∷ xs)) ++ flat_map g (drop (j + 1) (x ∷ xs))) (sym e)

      by : (b : Bool) → by_place (h ((i + 1) + m)) (i + 1) xs ≡ flat_map f (before_first p xs) ++ flat_map g (after_first p xs)
          → by_place (h (i + cond (not b) (1 + m) 0)) i (x ∷ xs) ≡ flat_map f (take (cond (not b) (1 + m) 0) (x ∷ xs)) ++ flat_map g (drop (cond (not b) (1 + m) 0 + 1) (x ∷ xs))
      by true rest =
          let here : i + 0 ≡ i = omega arith in
          ap (λ (own : ℕ). by_place (h own) i (x ∷ xs)) here ∙ (λ k. same i x k ++ all_behind i (i + 1) xs (omega arith) k)
      by false rest =
          let on : i + (1 + m) ≡ (i + 1) + m = omega arith in
          (λ k. early (i + (1 + m)) i x (omega arith) k ++ by_place (h (on k)) (i + 1) xs) ∙ ap (λ (l : List B). f x ++ l) rest
          ∙ shift (1 + m) (omega (arith, add-one m))

step : {A B : Type 0} (f : ℕ → A → List B) (i j : ℕ) (xs : List A) → by_place f j (drop i xs) ≡ option_map_or (f j) (slice_get xs i) [] ++ by_place f (j + 1) (drop (suc i) xs)
step f zero j [] = refl
step f (suc i) j [] = refl
step f zero j (x ∷ xs) = refl
step f (suc i) j (x ∷ xs) = step f i j xs

capped : (l w v : ℕ) → min (min (l + min w (2 ^ 63 - 1)) (2 ^ 63 - 1) + v) (2 ^ 63 - 1) ≡ min (l + (w + v)) (2 ^ 63 - 1)
capped l w v = omega arith

nothing_behind : {X : Type 0} (xs : List X) → drop (length xs) xs ≡ []
nothing_behind [] = refl
nothing_behind (x ∷ xs) = nothing_behind xs

-- the steps of a loop that adds loads place by place
module _ {A : Type 0} (name : List ℕ) (f : ℕ → A → List Factor) (xs : List A) where
  pub left : ℕ → ℕ
  left i = sum_by (share name) (by_place f i (drop i xs))

  at : (i : ℕ) → left i ≡ sum_by (share name) (option_map_or (f i) (slice_get xs i) []) + left (i + 1)
  unfolding left
  at i = ap (sum_by (share name)) (step f i i xs) ∙ sum_by-append (share name) (option_map_or (f i) (slice_get xs i) []) (by_place f (i + 1) (drop (suc i) xs)) ∙ rw (add-one i) refl

  pub adds : (i l v next : ℕ) → next ≡ min (l + v) (2 ^ 63 - 1) → v ≡ load name (option_map_or (f i) (slice_get xs i) []) → min (l + left i) (2 ^ 63 - 1) ≡ load name (by_place f 0 xs)
      → min (next + left (i + 1)) (2 ^ 63 - 1) ≡ load name (by_place f 0 xs)
  unfolding load
  adds i l v next is e h =
      ap (λ (k : ℕ). min (k + left (i + 1)) (2 ^ 63 - 1)) is
      ∙ ap (λ (k : ℕ). min (min (l + k) (2 ^ 63 - 1) + left (i + 1)) (2 ^ 63 - 1)) e ∙ capped l (sum_by (share name) (option_map_or (f i) (slice_get xs i) [])) (left (i + 1))
      ∙ ap (λ (k : ℕ). min (l + k) (2 ^ 63 - 1)) (sym (at i)) ∙ h

  pub begins : min (0 + left 0) (2 ^ 63 - 1) ≡ load name (by_place f 0 xs)
  unfolding left load
  begins = ap (λ (k : ℕ). min k (2 ^ 63 - 1)) (omega arith)

  pub ends : (i l : ℕ) → i ≡ length xs → l ≤ 2 ^ 63 - 1 → min (l + left i) (2 ^ 63 - 1) ≡ load name (by_place f 0 xs) → l ≡ load name (by_place f 0 xs)
  unfolding left
  ends i l e most h =
      let none : left i ≡ 0 = ap (λ (k : ℕ). sum_by (share name) (by_place f i (drop k xs))) e ∙ ap (λ (ys : List A). sum_by (share name) (by_place f i ys)) (nothing_behind xs) in
      let same : l ≡ min (l + left i) (2 ^ 63 - 1) = omega arith in
      same ∙ h

-- what counts, place by place, is what the contract says
module _ (t : GroupTable) (v : GroupView) (n : ℕ) where
  early : (own i : ℕ) (e : List ℕ × ℕ) → i < own → brought_at t v n own i e ≡ brought t n e
  early own i e lt =
      let before : nat_lt i own ≡ true = grind (arith, nat_tests) in
      rw before (by (has e.1 n))
    where
      by : (b : Bool) → cond (b && true) (factors_of (named t.groups e.0)) [] ≡ cond b (factors_of (named t.groups e.0)) []
      by true = refl
      by false = refl

  same : (own : ℕ) (e : List ℕ × ℕ) → brought_at t v n own own e ≡ []
  same own e =
      let no : nat_lt own own ≡ false = grind (arith, nat_tests) in
      rw no (by (has e.1 n))
    where
      by : (b : Bool) → cond (b && false) (factors_of (named t.groups e.0)) [] ≡ []
      by true = refl
      by false = refl

  late : (own i : ℕ) (e : List ℕ × ℕ) → own < i → brought_at t v n own i e ≡ brought_fixed t v n e
  late own i e lt =
      let before : nat_lt i own ≡ false = grind (arith, nat_tests) in
      let behind : nat_lt own i ≡ true = grind (arith, nat_tests) in
      rw (before, behind) refl

  pub counted_by_place : (name : List ℕ) (own : ℕ) → own ≡ position_or_len (is_entry_of name) v.goals → by_place (brought_at t v n own) 0 v.goals ≡ counted t v name n
  unfolding counted
  counted_by_place name own e =
      let start : own ≡ 0 + position_or_len (is_entry_of name) v.goals = omega arith in
      ap (λ (k : ℕ). by_place (brought_at t v n k) 0 v.goals) start
      ∙ from_place (brought_at t v n) (brought t n) (brought_fixed t v n) early same late (is_entry_of name) 0 v.goals

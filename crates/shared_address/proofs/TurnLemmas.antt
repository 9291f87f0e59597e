-- Places in a round of turns.
use Rattle.std.proofs.Common.{◌≡◌, ℕ, ◌+◌, ◌<◌, ◌≤◌, suc, zero, Bool, true, false, ◌&&◌, ◌||◌, List, [], ◌∷◌, ◌++◌, Option, None, Some, length, take, replicate, get_or, slice_get, slice_index, eqb, cond, refl, sym, ap, ◌∙◌, arith, ◌⊎◌, inl, inr}
use Rattle.std.specs.List.{list_any}
use Rattle.std.specs.Cmp.Lexicographic.{pointwise}
use Rattle.std.specs.Option.{option_map_or}
use Rattle.std.proofs.lemmas.Bool.{eqb-true}
use Rattle.std.proofs.lemmas.Bool.Decides.{nat_tests}
use Rattle.std.proofs.lemmas.List.{length-replicate, get_or-replicate, get_or_append_left, get_or-append-add, take_all}
use Rattle.std.proofs.lemmas.List.Elements.{All-get_or}
use Rattle.std.proofs.lemmas.List.Sums.{sum_by-cons, sum_by_more, sum_by_more_le}
use Rattle.std.proofs.lemmas.Option.{slice_get_cases, slice_get-get_or}
use Rattle.shared_address.specs.declared.choice.Target.{Target}
use Rattle.shared_address.specs.Choosing.{after_turn, is_target, next_node, round_of, same_target, total_weight}
use Rattle.shared_address.specs.Places.{weight_at, IsWithin}
use Rattle.shared_address.specs.States.{TurnState}

first_of : (p q : Bool) → (p && q) ≡ true → p ≡ true
first_of true q h = refl
first_of false q h = h

second_of : (p q : Bool) → (p && q) ≡ true → q ≡ true
second_of true q h = h
second_of false q h = cc h

one_target : (t u : Target) → same_target t u ≡ true → t ≡ u
one_target t u h =
    let n : t.node ≡ u.node = eqb-true t.node u.node (first_of _ _ h) in
    let w : t.weight ≡ u.weight = eqb-true t.weight u.weight (second_of _ _ h) in
    λ i. record { node = n i; weight = w i }

pub same_targets : (xs ys : List Target) → pointwise same_target xs ys ≡ true → xs ≡ ys
same_targets [] [] h = refl
same_targets [] (y ∷ ys) h = cc h
same_targets (x ∷ xs) [] h = cc h
same_targets (x ∷ xs) (y ∷ ys) h =
    let e : x ≡ y = one_target x y (first_of _ _ h) in
    let es : xs ≡ ys = same_targets xs ys (second_of _ _ h) in
    λ i. e i ∷ es i

any_at : (p : Target → Bool) (ts : List Target) (i : ℕ) (d : Target) → i < length ts → p (get_or ts i d) ≡ true → list_any p ts ≡ true
any_at p [] i d lt h = absurd (omega arith)
any_at p (u ∷ ts) zero d lt h = rw h refl
any_at p (u ∷ ts) (suc i) d lt h = by (p u) (any_at p ts i d (omega arith) h)
  where
    by : (b : Bool) → list_any p ts ≡ true → (b || list_any p ts) ≡ true
    by true _ = refl
    by false rest = rest

-- the turn that a place has
turn_at : (ts : List Target) (p s : ℕ) (t : Target) → p < length ts → t ≡ get_or ts p t → s < t.weight → slice_index (round_of ts) (total_weight (take p ts) + s) ≡ t.node
turn_at [] p s t lt at h = absurd (omega arith)
turn_at (u ∷ ts) zero s t lt at h =
    let w : t.weight ≡ u.weight = ap (λ (x : Target). x.weight) at in
    let within : s < length (replicate u.weight u.node) = omega (arith, length-replicate u.weight u.node) in
    let first : total_weight (take 0 (u ∷ ts)) + s ≡ s = omega arith in
    ap (λ (i : ℕ). slice_index (replicate u.weight u.node ++ round_of ts) i) first ∙ get_or_append_left (replicate u.weight u.node) (round_of ts) 0 s within ∙ get_or-replicate u.weight s u.node 0 (omega arith) ∙ sym (ap (λ (x : Target). x.node) at)
turn_at (u ∷ ts) (suc p) s t lt at h =
    let past : total_weight (u ∷ take p ts) + s ≡ length (replicate u.weight u.node) + (total_weight (take p ts) + s) =
    omega (arith, length-replicate u.weight u.node, sum_by-cons (λ (x : Target). x.weight) u (take p ts)) in
    ap (λ (i : ℕ). slice_index (replicate u.weight u.node ++ round_of ts) i) past ∙ get_or-append-add (replicate u.weight u.node) (round_of ts) (total_weight (take p ts) + s) 0
    ∙ turn_at ts p s t (omega arith) at h

module _ (ts : List Target) (p s : ℕ) (t : Target) (within : IsWithin ts p s) (some : 0 < length ts) (at : t ≡ get_or ts p t) where
  places : (p < length ts) × (s < weight_at ts p)
  places = by (slice_get_cases ts p).1
    where
      by : ((x : Target) × (p < length ts) × (slice_get ts p ≡ Some x) × (get_or ts p x ≡ x)) ⊎ ((length ts ≤ p) × (slice_get ts p ≡ None)) → (p < length ts) × (s < weight_at ts p)
      by (inl h) = (h.1, within.left some)
      by (inr h) =
          let none : weight_at ts p ≡ 0 = ap (λ (o : Option Target). option_map_or (λ x. x.weight) o 0) h.1 in
          absurd (omega (arith, within.left some))

  pub has_place : p < length ts
  has_place = places.0

  pub has_turns : s < t.weight
  has_turns =
      let w : weight_at ts p ≡ t.weight = ap (λ (o : Option Target). option_map_or (λ x. x.weight) o 0) (slice_get-get_or ts p t has_place) ∙ sym (ap (λ (x : Target). x.weight) at) in
      let left : s < weight_at ts p = places.1 in
      omega arith

  pub is_small : t.weight ≤ 1000
  is_small =
      let w : (get_or ts p t).weight ≡ t.weight = ap (λ (x : Target). x.weight) (sym at) in
      let most = All-get_or (λ (x : Target). (1 ≤ x.weight) × (x.weight ≤ 1000)) ts p t has_place within.weights in
      omega arith

  pub is_next : t.node ≡ next_node (record { targets = ts; taken = total_weight (take p ts) + s })
  is_next = sym (turn_at ts p s t has_place at has_turns)

  pub is_among : is_target ts t.node ≡ true
  is_among = any_at (λ x. eqb x.node t.node) ts p t has_place (ap (λ (x : Target). eqb x.node t.node) (sym at) ∙ grind (arith, nat_tests))

  weight_more : total_weight (take (p + 1) ts) ≡ total_weight (take p ts) + t.weight
  weight_more = sum_by_more (λ x. x.weight) ts p t has_place ∙ ap (λ (x : Target). total_weight (take p ts) + x.weight) (sym at)

  weight_short : p + 1 < length ts → total_weight (take (p + 1) ts) < total_weight ts
  weight_short lt =
      let le = sum_by_more_le (λ (x : Target). x.weight) ts (p + 1) t lt in
      let one = All-get_or (λ (x : Target). (1 ≤ x.weight) × (x.weight ≤ 1000)) ts (p + 1) t lt within.weights in
      omega arith

  weight_all : length ts ≤ p + 1 → total_weight (take (p + 1) ts) ≡ total_weight ts
  weight_all le = ap total_weight (take_all (p + 1) ts le)

  weight_to : total_weight (take (p + 1) ts) ≤ total_weight ts
  weight_to =
      let le = sum_by_more_le (λ (x : Target). x.weight) ts p t has_place in
      let w : (get_or ts p t).weight ≡ t.weight = ap (λ (x : Target). x.weight) (sym at) in
      let more = weight_more in
      omega arith

  pub turn_within : s + 1 < t.weight → IsWithin ts p (s + 1)
  turn_within lt =
      let w : weight_at ts p ≡ t.weight = ap (λ (o : Option Target). option_map_or (λ x. x.weight) o 0) (slice_get-get_or ts p t has_place) ∙ sym (ap (λ (x : Target). x.weight) at) in
      record { left = λ _. omega arith; weights = within.weights }

  pub place_within : p + 1 < length ts → IsWithin ts (p + 1) 0
  place_within lt =
      let w : weight_at ts (p + 1) ≡ (get_or ts (p + 1) t).weight = ap (λ (o : Option Target). option_map_or (λ x. x.weight) o 0) (slice_get-get_or ts (p + 1) t lt) in
      let one = All-get_or (λ (x : Target). (1 ≤ x.weight) × (x.weight ≤ 1000)) ts (p + 1) t lt within.weights in
      record { left = λ _. omega arith; weights = within.weights }

  pub turn_goes_on : s + 1 < t.weight → (let new : TurnState = record { targets = ts; taken = total_weight (take p ts) + (s + 1) } in new ≡ after_turn (record { targets = ts; taken = total_weight (take p ts) + s }))
  turn_goes_on lt = λ i. record { targets = ts; taken = told i }
    where
      told : total_weight (take p ts) + (s + 1) ≡ cond (eqb (total_weight (take p ts) + s + 1) (total_weight ts)) 0 (total_weight (take p ts) + s + 1)
      told = let more = weight_more in let to = weight_to in grind (arith, nat_tests)

  pub place_goes_on : t.weight ≤ s + 1 → p + 1 < length ts → (let new : TurnState = record { targets = ts; taken = total_weight (take (p + 1) ts) + 0 } in new ≡ after_turn (record { targets = ts; taken = total_weight (take p ts) + s }))
  place_goes_on le lt = λ i. record { targets = ts; taken = told i }
    where
      told : total_weight (take (p + 1) ts) + 0 ≡ cond (eqb (total_weight (take p ts) + s + 1) (total_weight ts)) 0 (total_weight (take p ts) + s + 1)
      told = let more = weight_more in let short = weight_short lt in let left = has_turns in grind (arith, nat_tests)

  pub round_begins : t.weight ≤ s + 1 → length ts ≤ p + 1 → (let new : TurnState = record { targets = ts; taken = 0 } in new ≡ after_turn (record { targets = ts; taken = total_weight (take p ts) + s }))
  round_begins le past = λ i. record { targets = ts; taken = told i }
    where
      told : 0 ≡ cond (eqb (total_weight (take p ts) + s + 1) (total_weight ts)) 0 (total_weight (take p ts) + s + 1)
      told = let more = weight_more in let all = weight_all past in let left = has_turns in grind (arith, nat_tests)

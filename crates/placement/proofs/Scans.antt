-- Loops over the places of a list.
use Rattle.std.proofs.Common.{◌≡◌, ℕ, zero, suc, ◌+◌, ◌<◌, ◌≤◌, Bool, true, false, cond, not, ◌||◌, Option, None, Some, List, [], ◌∷◌, length, drop, refl, sym, ap, ◌∙◌, add-one, arith}
use Rattle.std.specs.List.{list_any, position_or_len, prefix_len, slice_get}
use Rattle.std.specs.Option.{option_and_then, option_map_or}
use Rattle.rg_props.specs.Values.{or_else}
use Rattle.placement.specs.Targets.{first_some}

-- whether any passes, from one place on
any_step : {X : Type 0} (p : X → Bool) (xs : List X) (i : ℕ) → list_any p (drop i xs) ≡ (option_map_or p (slice_get xs i) false || list_any p (drop (suc i) xs))
any_step p [] zero = refl
any_step p [] (suc i) = refl
any_step p (x ∷ xs) zero = refl
any_step p (x ∷ xs) (suc i) = any_step p xs i

pub any_at : {X : Type 0} (p : X → Bool) (xs : List X) (i : ℕ) → list_any p (drop i xs) ≡ (option_map_or p (slice_get xs i) false || list_any p (drop (i + 1) xs))
any_at p xs i = rw (add-one i) (any_step p xs i)

none_behind : {X : Type 0} (xs : List X) → drop (length xs) xs ≡ []
none_behind [] = refl
none_behind (x ∷ xs) = none_behind xs

pub any_over : {X : Type 0} (p : X → Bool) (xs : List X) (i : ℕ) → i ≡ length xs → list_any p (drop i xs) ≡ false
any_over p xs i e = ap (λ (k : ℕ). list_any p (drop k xs)) e ∙ ap (list_any p) (none_behind xs)

-- the steps of a loop that tells whether any passes: it stops at the first that does
module _ {X : Type 0} (p : X → Bool) (xs : List X) (i : ℕ) (r : Bool) (h : list_any p (drop i xs) ≡ list_any p xs) (e : r ≡ option_map_or p (slice_get xs i) false) where
  pub any_stops : r ≡ true → true ≡ list_any p xs
  any_stops t = let there : option_map_or p (slice_get xs i) false ≡ true = sym e ∙ t in
      let at : list_any p (drop i xs) ≡ (option_map_or p (slice_get xs i) false || list_any p (drop (i + 1) xs)) = any_at p xs i in
      sym (sym h ∙ at ∙ ap (λ (b : Bool). b || list_any p (drop (i + 1) xs)) there)

  pub any_goes_on : r ≡ false → list_any p (drop (i + 1) xs) ≡ list_any p xs
  any_goes_on f = let there : option_map_or p (slice_get xs i) false ≡ false = sym e ∙ f in
      let at : list_any p (drop i xs) ≡ (option_map_or p (slice_get xs i) false || list_any p (drop (i + 1) xs)) = any_at p xs i in
      sym (sym h ∙ at ∙ ap (λ (b : Bool). b || list_any p (drop (i + 1) xs)) there)

-- what the first gives that gives something, from one place on
first_step : {A B : Type 0} (f : A → Option B) (xs : List A) (i : ℕ) → first_some f (drop i xs) ≡ or_else (option_and_then f (slice_get xs i)) (first_some f (drop (suc i) xs))
first_step f [] zero = refl
first_step f [] (suc i) = refl
first_step f (x ∷ xs) zero = refl
first_step f (x ∷ xs) (suc i) = first_step f xs i

pub first_at : {A B : Type 0} (f : A → Option B) (xs : List A) (i : ℕ) → first_some f (drop i xs) ≡ or_else (option_and_then f (slice_get xs i)) (first_some f (drop (i + 1) xs))
first_at f xs i = rw (add-one i) (first_step f xs i)

pub first_over : {A B : Type 0} (f : A → Option B) (xs : List A) (i : ℕ) → i ≡ length xs → first_some f (drop i xs) ≡ None
first_over f xs i e = ap (λ (k : ℕ). first_some f (drop k xs)) e ∙ ap (first_some f) (none_behind xs)

module _ {A B : Type 0} (f : A → Option B) (xs : List A) (i : ℕ) (r : Option B) (h : first_some f (drop i xs) ≡ first_some f xs) (e : r ≡ option_and_then f (slice_get xs i)) where
  pub first_stops : (y : B) → r ≡ Some y → Some y ≡ first_some f xs
  first_stops y t = sym (sym h ∙ first_at f xs i ∙ ap (λ (o : Option B). or_else o (first_some f (drop (i + 1) xs))) (sym e ∙ t))

  pub first_goes_on : r ≡ None → first_some f (drop (i + 1) xs) ≡ first_some f xs
  first_goes_on t = sym (sym h ∙ first_at f xs i ∙ ap (λ (o : Option B). or_else o (first_some f (drop (i + 1) xs))) (sym e ∙ t))

-- the first place that passes, from one place on
place_step : {X : Type 0} (p : X → Bool) (xs : List X) (i : ℕ) → i < length xs
    → position_or_len p (drop i xs) ≡ cond (option_map_or p (slice_get xs i) false) 0 (1 + position_or_len p (drop (suc i) xs))
place_step p [] i lt = absurd (omega arith)
place_step p (x ∷ xs) zero lt = by (p x)
  where
    by : (b : Bool) → cond (not b) (1 + position_or_len p xs) 0 ≡ cond b 0 (1 + position_or_len p xs)
    by true = refl
    by false = refl
place_step p (x ∷ xs) (suc i) lt = place_step p xs i (omega arith)

module _ {X : Type 0} (p : X → Bool) (xs : List X) (i : ℕ) (r : Bool) (lt : i < length xs) (h : i + position_or_len p (drop i xs) ≡ position_or_len p xs)
    (e : r ≡ option_map_or p (slice_get xs i) false) where
  at : position_or_len p (drop i xs) ≡ cond r 0 (1 + position_or_len p (drop (i + 1) xs))
  at = rw (add-one i, e) (place_step p xs i lt)

  pub place_stops : r ≡ true → i ≡ position_or_len p xs
  place_stops t =
      let none : position_or_len p (drop i xs) ≡ 0 = at ∙ ap (λ (b : Bool). cond b 0 (1 + position_or_len p (drop (i + 1) xs))) t in
      omega arith

  pub place_goes_on : r ≡ false → (i + 1) + position_or_len p (drop (i + 1) xs) ≡ position_or_len p xs
  place_goes_on t =
      let more : position_or_len p (drop i xs) ≡ 1 + position_or_len p (drop (i + 1) xs) = at ∙ ap (λ (b : Bool). cond b 0 (1 + position_or_len p (drop (i + 1) xs))) t in
      omega arith

pub place_over : {X : Type 0} (p : X → Bool) (xs : List X) (i : ℕ) → i ≡ length xs → i + position_or_len p (drop i xs) ≡ position_or_len p xs → i ≡ position_or_len p xs
place_over p xs i e h =
    let none : position_or_len p (drop i xs) ≡ 0 = ap (λ (k : ℕ). position_or_len p (drop k xs)) e ∙ ap (position_or_len p) (none_behind xs) in
    omega arith

-- Lists that grow by one item at a time.
use Rattle.std.proofs.Common.{◌≡◌, ℕ, ◌+◌, ◌-◌, zero, suc, ◌<◌, ◌≤◌, Bool, true, false, cond, filter, fold, map, Option, None, Some, List, [], ◌∷◌, ◌++◌, length, take, get_or, slice_get, refl, sym, ap, ◌∙◌, add-one, arith}
use Rattle.std.proofs.lemmas.List.Elements.{filter_more}
use Rattle.std.proofs.lemmas.List.Sums.{fold-append}
use Rattle.std.specs.Str.{bytes_eq}
use Rattle.rg_props.specs.declared.group.Resource.{Resource}
use Rattle.rgm_state.specs.Standing.{name_in_group}
use Rattle.rgm_state.specs.Steps.{with_next}

abbrev names : List ℕ → List (List ℕ × Resource) → List (List ℕ)
names group es = map (λ e. e.0) (filter (λ e. bytes_eq e.1.group group) es)

one_more_at : (group : List ℕ) (es : List (List ℕ × Resource)) (i : ℕ) → names group (take i es) ++ name_in_group group (slice_get es i) ≡ names group (take (suc i) es)
one_more_at group [] zero = refl
one_more_at group [] (suc i) = refl
one_more_at group (e ∷ es) zero = by (bytes_eq e.1.group group)
  where
    by : (b : Bool) → cond b (e.0 ∷ []) [] ≡ map (λ (e : List ℕ × Resource). e.0) (cond b (e ∷ []) [])
    by true = refl
    by false = refl
one_more_at group (e ∷ es) (suc i) = by (bytes_eq e.1.group group) (one_more_at group es i)
  where
    kept : ℕ → List (List ℕ × Resource)
    kept k = filter (λ (e : List ℕ × Resource). bytes_eq e.1.group group) (take k es)

    by : (b : Bool) → names group (take i es) ++ name_in_group group (slice_get es i) ≡ names group (take (suc i) es)
        → map (λ (e : List ℕ × Resource). e.0) (cond b (e ∷ kept i) (kept i)) ++ name_in_group group (slice_get es i)
        ≡ map (λ (e : List ℕ × Resource). e.0) (cond b (e ∷ kept (suc i)) (kept (suc i)))
    by true ih = ap (λ (l : List (List ℕ)). e.0 ∷ l) ih
    by false ih = ih

-- one more resource
pub one_more_name : (group : List ℕ) (es : List (List ℕ × Resource)) (i : ℕ) → names group (take i es) ++ name_in_group group (slice_get es i) ≡ names group (take (i + 1) es)
one_more_name group es i = one_more_at group es i ∙ ap (λ j. names group (take j es)) (sym (add-one i))

-- one more of the nodes that pass a test
pub fold_filter_more : {A B : Type 0} (f : B → A → B) (a : B) (p : A → Bool) (xs : List A) (i : ℕ) (d : A) → i < length xs
    → fold f a (filter p (take (i + 1) xs)) ≡ cond (p (get_or xs i d)) (f (fold f a (filter p (take i xs))) (get_or xs i d)) (fold f a (filter p (take i xs)))
fold_filter_more {A} {B} f a p xs i d lt =
    ap (λ (l : List A). fold f a l) (filter_more p xs i d lt) ∙ fold-append f a (filter p (take i xs)) (cond (p x) (x ∷ []) []) ∙ by (p x)
  where
    x : A
    x = get_or xs i d

    by : (b : Bool) → fold f (fold f a (filter p (take i xs))) (cond b (x ∷ []) []) ≡ cond b (f (fold f a (filter p (take i xs))) x) (fold f a (filter p (take i xs)))
    by true = refl
    by false = refl

next_at : {A B : Type 0} (f : B → A → B) (b : B) (xs : List A) (i : ℕ) → fold f b (take (suc i) xs) ≡ with_next f (fold f b (take i xs)) (slice_get xs i)
next_at f b [] zero = refl
next_at f b [] (suc i) = refl
next_at f b (x ∷ xs) zero = refl
next_at f b (x ∷ xs) (suc i) = next_at f (f b x) xs i

-- one more item, gone along by its place
pub fold_next : {A B : Type 0} (f : B → A → B) (b : B) (xs : List A) (i : ℕ) → fold f b (take (i + 1) xs) ≡ with_next f (fold f b (take i xs)) (slice_get xs i)
fold_next {A} {B} f b xs i = ap (λ j. fold f b (take j xs)) (add-one i) ∙ next_at f b xs i

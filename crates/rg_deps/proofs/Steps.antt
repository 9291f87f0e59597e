-- Steps of loops.
use Rattle.std.proofs.Common.{◌≡◌, ℕ, ◌+◌, ◌<◌, Bool, true, false, cond, filter, fold, Option, None, Some, List, [], ◌∷◌, ◌++◌, length, take, get_or, refl, sym, ap, ◌∙◌, append_assoc, append-nil, drop, take_all, add-one, arith}
use Rattle.std.proofs.lemmas.List.{drop_all, take_more}
use Rattle.std.proofs.lemmas.List.Elements.{filter_more}
use Rattle.std.proofs.lemmas.List.Sums.{fold-append}
use Rattle.std.specs.List.{filter_map, cons_option}
use Rattle.std.specs.Option.{option_to_list}
use Rattle.rg_deps.specs.declared.graph.Thing.{Thing}
use Rattle.rg_deps.specs.declared.graph.Edge.{Edge}
use Rattle.rg_deps.specs.Order.{chosen, with_next, next, stands}
use Rattle.rg_deps.specs.Things.{collected}

pub fold_filter_more : {A B : Type 0} (f : B → A → B) (a : B) (p : A → Bool) (xs : List A) (i : ℕ) (d : A) → i < length xs
    → fold f a (filter p (take (i + 1) xs)) ≡ cond (p (get_or xs i d)) (f (fold f a (filter p (take i xs))) (get_or xs i d)) (fold f a (filter p (take i xs)))
fold_filter_more {A} {B} f a p xs i d lt =
    ap (λ (l : List A). fold f a l) (filter_more p xs i d lt) ∙ fold-append f a (filter p (take i xs)) (cond (p x) (x ∷ []) []) ∙ by (p x)
  where
    x : A
    x = get_or xs i d

    by : (b : Bool) → fold f (fold f a (filter p (take i xs))) (cond b (x ∷ []) []) ≡ cond b (f (fold f a (filter p (take i xs))) x) (fold f a (filter p (take i xs)))
    by true = refl
    by false = refl

filter_map-append : {A B : Type 0} (f : A → Option B) (xs ys : List A) → filter_map f (xs ++ ys) ≡ filter_map f xs ++ filter_map f ys
filter_map-append f [] ys = refl
filter_map-append {A} {B} f (x ∷ xs) ys = by (f x) (filter_map-append f xs ys)
  where
    by : (o : Option B) → filter_map f (xs ++ ys) ≡ filter_map f xs ++ filter_map f ys → cons_option o (filter_map f (xs ++ ys)) ≡ cons_option o (filter_map f xs) ++ filter_map f ys
    by None ih = ih
    by (Some y) ih = ap (λ (l : List B). y ∷ l) ih

pub filter_map_more : {A B : Type 0} (f : A → Option B) (xs : List A) (i : ℕ) (d : A) → i < length xs
    → filter_map f (take (i + 1) xs) ≡ filter_map f (take i xs) ++ option_to_list (f (get_or xs i d))
filter_map_more {A} {B} f xs i d lt =
    ap (λ (l : List A). filter_map f l) (take_more xs i d lt) ∙ filter_map-append f (take i xs) (get_or xs i d ∷ [])
    ∙ ap (λ (l : List B). filter_map f (take i xs) ++ l) (one (f (get_or xs i d)))
  where
    one : (o : Option B) → cons_option o [] ≡ option_to_list o
    one None = refl
    one (Some y) = refl

pub collected_more : {X : Type 0} (f : ℕ → List X) (i : ℕ) → collected f (i + 1) ≡ collected f i ++ f i
collected_more f i = rw (add-one i) refl

pub chosen_more : (things : List Thing) (edges : List Edge) (i : ℕ) → chosen things edges (i + 1) ≡ with_next (chosen things edges i) (next things edges (stands (chosen things edges i)))
chosen_more things edges i = rw (add-one i) refl

pub pushed : {A B : Type 0} (f : A → Option B) (xs : List A) (i : ℕ) (start items new : List B) (x : A) (o : Option B) → i < length xs
    → items ≡ start ++ filter_map f (take i xs) → new ≡ items ++ option_to_list o → o ≡ f (get_or xs i x) → new ≡ start ++ filter_map f (take (i + 1) xs)
pushed {A} {B} f xs i start items new x o lt so_far more is =
    more ∙ ap (λ (l : List B). l ++ option_to_list o) so_far ∙ append_assoc start (filter_map f (take i xs)) (option_to_list o)
    ∙ ap (λ (p : Option B). start ++ (filter_map f (take i xs) ++ option_to_list p)) is ∙ ap (λ (l : List B). start ++ l) (sym (filter_map_more f xs i x lt))

-- a slice that was lent is the whole again
pub given_back : (n : ℕ) (xs ys : List ℕ) → n ≡ length xs → length ys ≡ length xs → take n (ys ++ drop (length ys) xs) ≡ ys
given_back n xs ys is same =
    let none : drop (length ys) xs ≡ [] = drop_all (length ys) xs (omega (arith, same)) in
    ap (λ (l : List ℕ). take n (ys ++ l)) none ∙ ap (λ (l : List ℕ). take n l) (append-nil ys) ∙ take_all n ys (omega (arith, is, same))

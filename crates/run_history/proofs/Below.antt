-- The greatest number of a list that is smaller than another.
use Rattle.std.specs.Prelude.{ℕ, ◌≡◌, ◌<◌, ◌≤◌, ◌==◌, ◌&&◌, ◌||◌, nat_lt, Bool, true, false, List, [], ◌∷◌, Option, None, Some, if◌then◌else◌}
use Rattle.std.specs.List.{AllByRecursion, list_any}
use Rattle.std.proofs.Common.{refl, sym, ap, subst, ◌∙◌, arith}
use Rattle.history.specs.Lineage.{greater_below, last_below}

abbrev pub is_among : ℕ → List ℕ → Bool
is_among k numbers = list_any (λ f. f == k) numbers

is_first : (k : ℕ) (others : List ℕ) → is_among k (k ∷ others) ≡ true
is_first k others = rw (same k) refl
  where
    same : (k : ℕ) → (k == k) ≡ true
    same k = grind arith

is_later : (f k : ℕ) (others : List ℕ) → is_among k others ≡ true → is_among k (f ∷ others) ≡ true
is_later f k others h = or_right (f == k) (is_among k others) h
  where
    or_right : (a b : Bool) → b ≡ true → (a || b) ≡ true
    or_right true b h = refl
    or_right false b h = h

-- what holds of each that is among them holds of all
pub all_among : (P : ℕ → Type 0) (numbers : List ℕ) → ((k : ℕ) → is_among k numbers ≡ true → P k) → AllByRecursion P numbers
all_among P [] h = tt
all_among P (f ∷ others) h = (h f (is_first f others), all_among P others (λ k i. h k (is_later f k others i)))

-- those below q are those below f
same_test : (k q f : ℕ) → f ≤ q → (k < q → k < f) → nat_lt k q ≡ nat_lt k f
same_test k q f h i = grind arith

greater_same : (q f k : ℕ) (o : Option ℕ) → nat_lt k q ≡ nat_lt k f → greater_below q k o ≡ greater_below f k o
greater_same q f k None h = ap (λ b. if b then Some k else None) h
greater_same q f k (Some g) h = ap (λ b. if b && nat_lt g k then Some k else Some g) h

pub last_same : (q f : ℕ) (numbers : List ℕ) → f ≤ q → ((k : ℕ) → is_among k numbers ≡ true → k < q → k < f) → last_below q numbers ≡ last_below f numbers
last_same q f [] low h = refl
last_same q f (k ∷ others) low h =
    greater_same q f k (last_below q others) (same_test k q f low (h k (is_first k others)))
    ∙ ap (greater_below f k) (last_same q f others low (λ j i. h j (is_later k j others i)))

-- none is below q
not_below : (k q : ℕ) → (k < q → ⊥) → nat_lt k q ≡ false
not_below k q h = grind arith

pub none_last : (q : ℕ) (numbers : List ℕ) → ((k : ℕ) → is_among k numbers ≡ true → k < q → ⊥) → last_below q numbers ≡ None
none_last q [] h = refl
none_last q (k ∷ others) h =
    ap (greater_below q k) (none_last q others (λ j i. h j (is_later k j others i))) ∙ ap (λ b. if b then Some k else None) (not_below k q (h k (is_first k others)))

-- f is among them, below q, and the greatest of those
abbrev AtMost : ℕ → Option ℕ → Type 0
AtMost f None = Unit {0}
AtMost f (Some g) = g ≤ f

most_of : (q f k : ℕ) (o : Option ℕ) → (k < q → k ≤ f) → AtMost f o → AtMost f (greater_below q k o)
most_of q f k None h m = go (nat_lt k q) refl
  where
    below : (k q : ℕ) → nat_lt k q ≡ true → k < q
    below k q h = grind arith

    go : (b : Bool) → nat_lt k q ≡ b → AtMost f (if b then Some k else None)
    go true e = h (below k q e)
    go false e = tt
most_of q f k (Some g) h m = go (nat_lt k q) (nat_lt g k) refl
  where
    below : (k q : ℕ) → nat_lt k q ≡ true → k < q
    below k q h = grind arith

    go : (b d : Bool) → nat_lt k q ≡ b → AtMost f (if b && d then Some k else Some g)
    go true true e = h (below k q e)
    go true false e = m
    go false d e = m

all_most : (q f : ℕ) (numbers : List ℕ) → ((k : ℕ) → is_among k numbers ≡ true → k < q → k ≤ f) → AtMost f (last_below q numbers)
all_most q f [] h = tt
all_most q f (k ∷ others) h = most_of q f k (last_below q others) (h k (is_first k others)) (all_most q f others (λ j i. h j (is_later k j others i)))

is_below : (f q : ℕ) → f < q → nat_lt f q ≡ true
is_below f q h = grind arith

not_above : (g f : ℕ) → g ≤ f → nat_lt f g ≡ false
not_above g f h = grind arith

-- it stands here
taken_here : (q f : ℕ) (o : Option ℕ) → f < q → AtMost f o → greater_below q f o ≡ Some f
taken_here q f None below m = ap (λ b. if b then Some f else None) (is_below f q below)
taken_here q f (Some g) below m = ap (λ b. if b && nat_lt g f then Some f else Some g) (is_below f q below) ∙ go (nat_lt g f) refl
  where
    same : (g f : ℕ) → g ≤ f → nat_lt g f ≡ false → g ≡ f
    same g f m h = grind arith

    go : (b : Bool) → nat_lt g f ≡ b → (if b then Some f else Some g) ≡ Some f
    go true e = refl
    go false e = ap Some (same g f m e)

-- it stands later
kept_later : (q f k : ℕ) → (k < q → k ≤ f) → greater_below q k (Some f) ≡ Some f
kept_later q f k h = go (nat_lt k q) (nat_lt f k) refl refl
  where
    out : (k q f : ℕ) → (k < q → k ≤ f) → nat_lt k q ≡ true → nat_lt f k ≡ true → ⊥
    out k q f h a b = grind arith

    go : (b d : Bool) → nat_lt k q ≡ b → nat_lt f k ≡ d → (if b && d then Some k else Some f) ≡ Some f
    go true true e g = absurd (out k q f h e g)
    go true false e g = refl
    go false d e g = refl

same_number : (k f : ℕ) → (k == f) ≡ true → k ≡ f
same_number k f h = grind arith

pub last_is : (q f : ℕ) (numbers : List ℕ) → f < q → is_among f numbers ≡ true → ((k : ℕ) → is_among k numbers ≡ true → k < q → k ≤ f) → last_below q numbers ≡ Some f
last_is q f [] below h most = absurd (no h)
  where
    no : false ≡ true → ⊥
    no e = cc
last_is q f (k ∷ others) below h most = go (k == f) refl h (λ later. last_is q f others below later (λ j i. most j (is_later k j others i)))
  where
    rest : AtMost f (last_below q others)
    rest = all_most q f others (λ j i. most j (is_later k j others i))

    go : (b : Bool) → (k == f) ≡ b → (b || is_among f others) ≡ true → (is_among f others ≡ true → last_below q others ≡ Some f)
        → greater_below q k (last_below q others) ≡ Some f
    go true e h next = subst (λ j. greater_below q j (last_below q others) ≡ Some f) (sym (same_number k f e)) (taken_here q f (last_below q others) below rest)
    go false e h next = ap (greater_below q k) (next h) ∙ kept_later q f k (most k (is_first k others))

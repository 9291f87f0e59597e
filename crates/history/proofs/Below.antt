-- The greatest of some numbers that is below another.
use Rattle.std.proofs.Common.{◌≡◌, ◌⊎◌, inl, inr, ⊎_elim, ℕ, ◌<◌, ◌≤◌, refl, List, [], ◌∷◌, arith, Some, None}
use Rattle.history.specs.Lineage.{greater_below, last_below}
use Rattle.history.proofs.Among.{In}

none_below : (f x : ℕ) → x < f → greater_below f x None ≡ Some x
none_below f x h = grind arith

none_above : (f x : ℕ) → f ≤ x → greater_below f x None ≡ None
none_above f x h = grind arith

greater : (f x k : ℕ) → x < f → k < x → greater_below f x (Some k) ≡ Some x
greater f x k h i = grind arith

not_below : (f x k : ℕ) → f ≤ x → greater_below f x (Some k) ≡ Some k
not_below f x k h = grind arith

not_greater : (f x k : ℕ) → x ≤ k → greater_below f x (Some k) ≡ Some k
not_greater f x k h = grind arith

-- none of the numbers is below f
pub record NoneBelow (f : ℕ) (es : List ℕ) : Type 0 where
  pub is : last_below f es ≡ None
  pub none : (x : ℕ) → In x es → f ≤ x

-- or the greatest of those that are
pub record Last (f : ℕ) (es : List ℕ) : Type 0 where
  pub last : ℕ
  pub is : last_below f es ≡ Some last
  pub below : last < f
  pub among : In last es
  pub greatest : (x : ℕ) → In x es → x < f → x ≤ last

add_none : (f x : ℕ) (es : List ℕ) → NoneBelow f es → (x < f) ⊎ (f ≤ x) → NoneBelow f (x ∷ es) ⊎ Last f (x ∷ es)
add_none f x es n (inl lt) = inr (record {
  last = x;
  is = rw n.is (none_below f x lt);
  below = lt;
  among = inl refl;
  greatest = λ y i h. ⊎_elim (λ e. omega (arith, e)) (λ j. omega (arith, n.none y j, h)) i;
})
add_none f x es n (inr ge) = inl (record {
  is = rw n.is (none_above f x ge);
  none = λ y i. ⊎_elim (λ e. omega (arith, e, ge)) (λ j. n.none y j) i;
})

add_some : (f x : ℕ) (es : List ℕ) (b : Last f es) → (f ≤ x) ⊎ (x ≤ b.last) ⊎ ((x < f) × (b.last < x)) → Last f (x ∷ es)
add_some f x es b (inl ge) = record {
  last = b.last;
  is = rw b.is (not_below f x b.last ge);
  below = b.below;
  among = inr b.among;
  greatest = λ y i h. ⊎_elim (λ e. omega (arith, e, ge, h)) (λ j. b.greatest y j h) i;
}
add_some f x es b (inr (inl le)) = record {
  last = b.last;
  is = rw b.is (not_greater f x b.last le);
  below = b.below;
  among = inr b.among;
  greatest = λ y i h. ⊎_elim (λ e. omega (arith, e, le)) (λ j. b.greatest y j h) i;
}
add_some f x es b (inr (inr both)) = record {
  last = x;
  is = rw b.is (greater f x b.last both.0 both.1);
  below = both.0;
  among = inl refl;
  greatest = λ y i h. ⊎_elim (λ e. omega (arith, e)) (λ j. omega (arith, b.greatest y j h, both.1)) i;
}

add : (f x : ℕ) (es : List ℕ) → NoneBelow f es ⊎ Last f es → NoneBelow f (x ∷ es) ⊎ Last f (x ∷ es)
add f x es (inl n) = add_none f x es n (grind arith)
add f x es (inr b) = inr (add_some f x es b (where_it_is f x b.last))
  where
    where_it_is : (f x k : ℕ) → (f ≤ x) ⊎ (x ≤ k) ⊎ ((x < f) × (k < x))
    where_it_is f x k = grind arith

pub last_of : (f : ℕ) (es : List ℕ) → NoneBelow f es ⊎ Last f es
last_of f [] = inl (record { is = refl; none = λ x i. absurd i })
last_of f (x ∷ es) = add f x es (last_of f es)

-- below f there is e, so there is a last one
pub last_above : (f : ℕ) (es : List ℕ) (e : ℕ) → In e es → e < f → Last f es
last_above f es e i h = go (last_of f es)
  where
    go : NoneBelow f es ⊎ Last f es → Last f es
    go (inl n) = absurd (omega (arith, n.none e i, h))
    go (inr b) = b

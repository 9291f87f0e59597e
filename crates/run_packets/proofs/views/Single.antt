-- A set of which only one number passes is the set of this number alone.
use Rattle.std.specs.Prelude.{ℕ, zero, suc, ◌==◌, ◌||◌, not, nat_lt, ◌≡◌, ◌≢◌, ◌≤◌, ◌⊎◌, Bool, true, false, List, [], ◌∷◌, length, Some, slice_get}
use Rattle.std.specs.List.{list_any}
use Rattle.std.proofs.Common.{refl, sym, ap, subst, ◌∙◌, inl, inr, arith}
use Rattle.cl_base.specs.Numbers.{numbers_to}
use Rattle.cl_base.specs.Sets.{has, set_with}
use Rattle.cmm_attempt.proofs.Basics.{false_true, same_number, same_some}
use Rattle.heartbeats.specs.Due.{some_to}
use Rattle.heartbeats.specs.Views.{set_where}
use Rattle.machine_base.proofs.Puts.{same_or_not}
use Rattle.run_attempts.proofs.Ages.{if_false, if_true, same_self}
use Rattle.run_attempts.proofs.Sets.{any_number, has_where}

-- ---- the set

none_below : (test : ℕ → Bool) (k : ℕ) → ((m : ℕ) → 1 ≤ m → m ≤ k → test m ≡ false) → set_where test k ≡ 0
none_below test zero h = refl
none_below test (suc k) h =
    if_false (test (suc k)) (set_with (set_where test k) (suc k)) (set_where test k) (h (suc k) (omega arith) (omega arith)) ∙ none_below test k (λ m low le. h m low (omega (arith, le)))

where_one : (test : ℕ → Bool) (n k : ℕ) → 1 ≤ n → n ≤ k → test n ≡ true → ((m : ℕ) → 1 ≤ m → m ≤ k → m ≢ n → test m ≡ false) → set_where test k ≡ set_with 0 n
where_one test n zero low le is h = absurd (omega (arith, low, le))
where_one test n (suc k) low le is h = go (same_or_not n (suc k)) (λ less. where_one test n k low less is (λ m one most ne. h m one (omega (arith, most)) ne))
  where
    apart : (m : ℕ) → m ≤ k → n ≡ suc k → m ≢ n
    apart m most e same = omega (arith, most, e, same)

    go : (n ≡ suc k) ⊎ (n ≢ suc k) → (n ≤ k → set_where test k ≡ set_with 0 n) → set_where test (suc k) ≡ set_with 0 n
    go (inl e) earlier =
        if_true (test (suc k)) (set_with (set_where test k) (suc k)) (set_where test k) (subst (λ j. test j ≡ true) e is)
        ∙ (ap (λ s. set_with s (suc k)) (none_below test k (λ m one most. h m one (omega (arith, most)) (apart m most e))) ∙ ap (λ j. set_with 0 j) (sym e))
    go (inr ne) earlier =
        if_false (test (suc k)) (set_with (set_where test k) (suc k)) (set_where test k) (h (suc k) (omega arith) (omega arith) (λ e. ne (sym e))) ∙ earlier (omega (arith, le, ne))

-- ---- its list

some_at : (test : ℕ → Bool) (k m : ℕ) → 1 ≤ m → m ≤ k → test m ≡ true → some_to test k ≡ true
some_at test zero m low le is = absurd (omega (arith, low, le))
some_at test (suc k) m low le is = go (same_or_not m (suc k)) (λ less. some_at test k m low less is)
  where
    first : (a b : Bool) → a ≡ true → (a || b) ≡ true
    first true b h = refl
    first false b h = absurd (false_true h)

    second : (a b : Bool) → b ≡ true → (a || b) ≡ true
    second true b h = refl
    second false b h = h

    go : (m ≡ suc k) ⊎ (m ≢ suc k) → (m ≤ k → some_to test k ≡ true) → (some_to test k || test (suc k)) ≡ true
    go (inl e) earlier = second (some_to test k) (test (suc k)) (subst (λ j. test j ≡ true) e is)
    go (inr ne) earlier = first (some_to test k) (test (suc k)) (earlier (omega (arith, le, ne)))

listed : (set m : ℕ) → 1 ≤ m → m ≤ 32 → has set m ≡ true → list_any (λ j. j == m) (numbers_to set 32) ≡ true
listed set m low high is =
    any_number (λ j. j == m) (λ j. j == m) set 32 (omega arith) (λ j one most same. (subst (λ k. has set k ≡ true) (sym (same_number j m same)) is, same))
    (some_at (λ j. j == m) 32 m low high (same_self m))

only_one : (ns : List ℕ) (n : ℕ) → slice_get ns 0 ≡ Some n → nat_lt 1 (length ns) ≡ false → ns ≡ n ∷ []
only_one [] n first few = absurd (nothing n first)
  where
    nothing : (n : ℕ) → slice_get [] 0 ≡ Some n → ⊥
    nothing n e = cc
only_one (x ∷ []) n first few = ap (λ j. j ∷ []) (same_some x n first)
only_one (x ∷ y ∷ ns) n first few = absurd (too_many (length ns) few)
  where
    too_many : (k : ℕ) → nat_lt 1 (suc (suc k)) ≡ false → ⊥
    too_many k h = grind arith

or_none : (b : Bool) → (b || false) ≡ true → b ≡ true
or_none true h = refl
or_none false h = h

-- where the list has no other number, the set has none
single : (test : ℕ → Bool) (n : ℕ) → 1 ≤ n → n ≤ 32 → has (set_where test 32) n ≡ true → slice_get (numbers_to (set_where test 32) 32) 0 ≡ Some n → nat_lt 1 (length (numbers_to (set_where test 32) 32)) ≡ false
    → set_where test 32 ≡ set_with 0 n
single test n low high is first few =
    where_one test n 32 low high (sym (has_where test 32 n (omega arith) low high) ∙ is) (λ m one most ne. by_test m one most ne (test m) refl)
  where
    set : ℕ
    set = set_where test 32

    same : (m : ℕ) → 1 ≤ m → m ≤ 32 → test m ≡ true → n ≡ m
    same m one most passes =
        same_number n m (or_none (n == m) (subst (λ (ns : List ℕ). list_any (λ j. j == m) ns ≡ true) (only_one (numbers_to set 32) n first few)
        (listed set m one most (has_where test 32 m (omega arith) one most ∙ passes))))

    by_test : (m : ℕ) → 1 ≤ m → m ≤ 32 → m ≢ n → (t : Bool) → test m ≡ t → test m ≡ false
    by_test m one most ne true passes = absurd (ne (sym (same m one most passes)))
    by_test m one most ne false fails = fails

equal_self : (a b : ℕ) → a ≡ b → (a == b) ≡ true
equal_self a b e = grind arith

not_both : (b : Bool) → not b ≡ true → b ≡ true → ⊥
not_both true h k = false_true h
not_both false h k = false_true k

-- a set that is not this number's alone has another
pub has_another : (test : ℕ → Bool) (n : ℕ) → 1 ≤ n → n ≤ 32 → has (set_where test 32) n ≡ true → slice_get (numbers_to (set_where test 32) 32) 0 ≡ Some n → not (set_where test 32 == set_with 0 n) ≡ true
    → nat_lt 1 (length (numbers_to (set_where test 32) 32)) ≡ true
has_another test n low high is first other = by_test (nat_lt 1 (length (numbers_to (set_where test 32) 32))) refl
  where
    by_test : (t : Bool) → nat_lt 1 (length (numbers_to (set_where test 32) 32)) ≡ t → nat_lt 1 (length (numbers_to (set_where test 32) 32)) ≡ true
    by_test true many = many
    by_test false few = absurd (not_both (set_where test 32 == set_with 0 n) other (equal_self (set_where test 32) (set_with 0 n) (single test n low high is first few)))

-- Sets of numbers that pass a test, and their lists.
use Rattle.std.specs.Prelude.{ℕ, zero, suc, ◌-◌, ◌<◌, ◌==◌, ◌&&◌, ◌||◌, not, ◌≡◌, ◌≢◌, ◌≤◌, ◌⊎◌, ◌++◌, Bool, true, false, List, [], ◌∷◌, Some, slice_get, if◌then◌else◌}
use Rattle.std.specs.List.{AllByRecursion, list_all, list_any}
use Rattle.std.proofs.Common.{refl, sym, ap, subst, ◌∙◌, inl, inr, arith}
use Rattle.std.proofs.lemmas.List.Folds.{list_any-append}
use Rattle.attempt_laws.proofs.Walk.{if_with}
use Rattle.cmm_attempt.proofs.Basics.{and_cases, false_true, if_either, or_cases}
use Rattle.cl_base.specs.Numbers.{numbers_to}
use Rattle.cl_base.specs.Sets.{has, set_with}
use Rattle.cl_base.proofs.SetLemmas.{has_not_zero, has_with, none_of_zero, or_bit_value}
use Rattle.heartbeats.specs.Due.{is_least, some_to}
use Rattle.heartbeats.specs.Views.{set_where}
use Rattle.history.specs.Setting.{all_to}
use Rattle.machine_base.proofs.Puts.{same_or_not}

-- the set and one more number
with_one : (s n : ℕ) → 1 ≤ n → n ≤ 32 → (m : ℕ) → has (set_with s n) m ≡ ((m == n) || has s m)
with_one s n low high m = ap (λ z. has z m) (sym (or_bit_value s n high)) ∙ has_with s n low high m

same_self : (n : ℕ) → (n == n) ≡ true
same_self n = grind arith

not_same : (a b : ℕ) → a ≢ b → (a == b) ≡ false
not_same a b ne = grind arith

-- ---- what passes

where_next : (test : ℕ → Bool) (k m : ℕ) → suc k ≤ 32 → 1 ≤ m → (m ≤ k → has (set_where test k) m ≡ test m) → (k < m → has (set_where test k) m ≡ false) → m ≤ suc k → has (set_where test (suc k)) m ≡ test m
where_next test k m few low below above le = go (same_or_not m (suc k))
  where
    set : ℕ
    set = set_where test k

    go : (m ≡ suc k) ⊎ (m ≢ suc k) → has (if test (suc k) then set_with set (suc k) else set) m ≡ test m
    go (inl e) =
        if_with (λ z. has z m ≡ test m) (test (suc k)) (test (suc k)) (set_with set (suc k)) set refl
        (λ passes. with_one set (suc k) (omega arith) few m ∙ (ap (λ x. x || has set m) (subst (λ j. (m == j) ≡ true) e (same_self m)) ∙ sym (ap test e ∙ passes)))
        (λ fails. above (omega (arith, e)) ∙ sym (ap test e ∙ fails))
    go (inr ne) =
        let earlier : has set m ≡ test m = below (omega (arith, le, ne)) in
        if_either (λ z. has z m ≡ test m) (test (suc k)) (set_with set (suc k)) set
        (with_one set (suc k) (omega arith) few m ∙ (ap (λ x. x || has set m) (not_same m (suc k) ne) ∙ earlier)) earlier

where_above : (test : ℕ → Bool) (k m : ℕ) → k ≤ 32 → k < m → has (set_where test k) m ≡ false
where_above test zero m few above = none_of_zero m
where_above test (suc k) m few above =
    let earlier : has (set_where test k) m ≡ false = where_above test k m (omega (arith, few)) (omega (arith, above)) in
    if_either (λ z. has z m ≡ false) (test (suc k)) (set_with (set_where test k) (suc k)) (set_where test k)
    (with_one (set_where test k) (suc k) (omega arith) few m ∙ (ap (λ x. x || has (set_where test k) m) (not_same m (suc k) (λ e. apart k m above e)) ∙ earlier)) earlier
  where
    apart : (k m : ℕ) → suc k < m → m ≡ suc k → ⊥
    apart k m above e = omega (arith, above, e)

pub has_where : (test : ℕ → Bool) (k m : ℕ) → k ≤ 32 → 1 ≤ m → m ≤ k → has (set_where test k) m ≡ test m
has_where test zero m few low le = absurd (omega (arith, low, le))
has_where test (suc k) m few low le =
    where_next test k m few low (λ less. has_where test k m (omega (arith, few)) low less) (λ above. where_above test k m (omega (arith, few)) above) le

-- ---- the list of a set

-- P holds of each number up to k that the set has
pub all_numbers : (P : ℕ → Bool) (set k : ℕ) → k ≤ 32 → ((m : ℕ) → 1 ≤ m → m ≤ 32 → has set m ≡ true → P m ≡ true) → list_all P (numbers_to set k) ≡ true
all_numbers P set zero few h = refl
all_numbers P set (suc k) few h =
    let earlier : list_all P (numbers_to set k) ≡ true = all_numbers P set k (omega (arith, few)) h in
    if_with (λ ms. list_all P ms ≡ true) (has set (suc k)) (has set (suc k)) (numbers_to set k ++ suc k ∷ []) (numbers_to set k) refl
    (λ has_one. one_more P (numbers_to set k) (suc k) earlier (h (suc k) (omega arith) few has_one)) (λ lacks. earlier)
  where
    one_more : (P : ℕ → Bool) (ms : List ℕ) (m : ℕ) → list_all P ms ≡ true → P m ≡ true → list_all P (ms ++ m ∷ []) ≡ true
    one_more P [] m h last = ap (λ x. x && true) last
    one_more P (n ∷ ms) m h last = both_true (P n) (list_all P (ms ++ m ∷ [])) (and_cases (P n) (list_all P ms) h).0 (one_more P ms m (and_cases (P n) (list_all P ms) h).1 last)
      where
        both_true : (a b : Bool) → a ≡ true → b ≡ true → (a && b) ≡ true
        both_true true b h k = k
        both_true false b h k = h

pub all_of_all : (P : ℕ → Bool) (k : ℕ) → k ≤ 32 → ((m : ℕ) → 1 ≤ m → m ≤ 32 → P m ≡ true) → list_all P (all_to k) ≡ true
all_of_all P zero few h = refl
all_of_all P (suc k) few h = one_more P (all_to k) (suc k) (all_of_all P k (omega (arith, few)) h) (h (suc k) (omega arith) few)
  where
    both_true : (a b : Bool) → a ≡ true → b ≡ true → (a && b) ≡ true
    both_true true b h k = k
    both_true false b h k = h

    one_more : (P : ℕ → Bool) (ms : List ℕ) (m : ℕ) → list_all P ms ≡ true → P m ≡ true → list_all P (ms ++ m ∷ []) ≡ true
    one_more P [] m h last = ap (λ x. x && true) last
    one_more P (n ∷ ms) m h last = both_true (P n) (list_all P (ms ++ m ∷ [])) (and_cases (P n) (list_all P ms) h).0 (one_more P ms m (and_cases (P n) (list_all P ms) h).1 last)

-- ---- the least number

none_first : (set k : ℕ) → some_to (has set) k ≡ false → numbers_to set k ≡ []
none_first set zero h = refl
none_first set (suc k) h = by_test (has set (suc k)) refl (λ none. none_first set k none)
  where
    or_parts : (a b : Bool) → (a || b) ≡ false → (a ≡ false) × (b ≡ false)
    or_parts true b h = absurd (false_true (sym h))
    or_parts false b h = (refl, h)

    by_test : (t : Bool) → has set (suc k) ≡ t → (some_to (has set) k ≡ false → numbers_to set k ≡ []) → (if t then numbers_to set k ++ suc k ∷ [] else numbers_to set k) ≡ []
    by_test true e earlier = absurd (false_true (sym (or_parts (some_to (has set) k) (has set (suc k)) h).1 ∙ e))
    by_test false e earlier = earlier (or_parts (some_to (has set) k) (has set (suc k)) h).0

first_stays : (xs : List ℕ) (n last : ℕ) → slice_get xs 0 ≡ Some n → slice_get (xs ++ last ∷ []) 0 ≡ Some n
first_stays [] n last h = absurd (none_is n h)
  where
    none_is : (n : ℕ) → slice_get [] 0 ≡ Some n → ⊥
    none_is n e = cc
first_stays (x ∷ xs) n last h = h

one_less : (k : ℕ) → suc k - 1 ≡ k
one_less k = omega arith

first_of : (set k n : ℕ) → 1 ≤ n → n ≤ k → has set n ≡ true → some_to (has set) (n - 1) ≡ false → slice_get (numbers_to set k) 0 ≡ Some n
first_of set zero n low le is none = absurd (omega (arith, low, le))
first_of set (suc k) n low le is none = go (same_or_not n (suc k)) (λ less. first_of set k n low less is none)
  where
    go : (n ≡ suc k) ⊎ (n ≢ suc k) → (n ≤ k → slice_get (numbers_to set k) 0 ≡ Some n) → slice_get (if has set (suc k) then numbers_to set k ++ suc k ∷ [] else numbers_to set k) 0 ≡ Some n
    go (inl e) before =
        let here : has set (suc k) ≡ true = subst (λ j. has set j ≡ true) e is in
        let empty : numbers_to set k ≡ [] = none_first set k (subst (λ j. some_to (has set) j ≡ false) (ap (λ j. j - 1) e ∙ one_less k) none) in
        if_with (λ ms. slice_get ms 0 ≡ Some n) (has set (suc k)) (has set (suc k)) (numbers_to set k ++ suc k ∷ []) (numbers_to set k) refl
        (λ so. ap (λ (ms : List ℕ). slice_get (ms ++ suc k ∷ []) 0) empty ∙ ap (λ (j : ℕ). Some j) (sym e)) (λ lacks. absurd (false_true (sym lacks ∙ here)))
    go (inr ne) before =
        let earlier : slice_get (numbers_to set k) 0 ≡ Some n = before (omega (arith, le, ne)) in
        if_either (λ ms. slice_get ms 0 ≡ Some n) (has set (suc k)) (numbers_to set k ++ suc k ∷ []) (numbers_to set k) (first_stays (numbers_to set k) n (suc k) earlier) earlier

positive : (set n : ℕ) → has set n ≡ true → 1 ≤ n
positive set zero there = absurd (false_true (sym (has_not_zero set) ∙ there))
positive set (suc n) there = omega arith

pub least_first : (set n : ℕ) → n ≤ 32 → is_least set n ≡ true → slice_get (numbers_to set 32) 0 ≡ Some n
least_first set n le is =
    let parts : (has set n ≡ true) × (not (some_to (has set) (n - 1)) ≡ true) = and_cases (has set n) (not (some_to (has set) (n - 1))) is in
    first_of set 32 n (positive set n parts.0) le parts.0 (not_true (some_to (has set) (n - 1)) parts.1)
  where
    not_true : (b : Bool) → not b ≡ true → b ≡ false
    not_true true h = absurd (false_true h)
    not_true false h = refl

-- P of each number of a set
pub each_number : (P : ℕ → Type 0) (set k : ℕ) → k ≤ 32 → ((m : ℕ) → 1 ≤ m → m ≤ 32 → has set m ≡ true → P m) → AllByRecursion P (numbers_to set k)
each_number P set zero few h = tt
each_number P set (suc k) few h =
    let earlier : AllByRecursion P (numbers_to set k) = each_number P set k (omega (arith, few)) h in
    if_with (AllByRecursion P) (has set (suc k)) (has set (suc k)) (numbers_to set k ++ suc k ∷ []) (numbers_to set k) refl
    (λ has_one. one_more P (numbers_to set k) (suc k) earlier (h (suc k) (omega arith) few has_one)) (λ lacks. earlier)
  where
    one_more : (P : ℕ → Type 0) (ms : List ℕ) (m : ℕ) → AllByRecursion P ms → P m → AllByRecursion P (ms ++ m ∷ [])
    one_more P [] m h last = (last, tt)
    one_more P (n ∷ ms) m h last = (h.0, one_more P ms m h.1 last)

-- some number up to k passes, so that some number of the set has P
any_more : (P : ℕ → Bool) (xs : List ℕ) (n : ℕ) → list_any P xs ≡ true → list_any P (xs ++ n ∷ []) ≡ true
any_more P xs n h = list_any-append P xs (n ∷ []) ∙ ap (λ b. b || list_any P (n ∷ [])) h

any_last : (P : ℕ → Bool) (xs : List ℕ) (n : ℕ) → P n ≡ true → list_any P (xs ++ n ∷ []) ≡ true
any_last P xs n h = list_any-append P xs (n ∷ []) ∙ (ap (λ b. list_any P xs || (b || false)) h ∙ ends (list_any P xs))
  where
    ends : (b : Bool) → (b || (true || false)) ≡ true
    ends true = refl
    ends false = refl

pub any_number : (test P : ℕ → Bool) (set k : ℕ) → k ≤ 32 → ((m : ℕ) → 1 ≤ m → m ≤ 32 → test m ≡ true → (has set m ≡ true) × (P m ≡ true)) → some_to test k ≡ true → list_any P (numbers_to set k) ≡ true
any_number test P set zero few h some = absurd (false_true some)
any_number test P set (suc k) few h some = by_cases (or_cases (some_to test k) (test (suc k)) some) (λ earlier. any_number test P set k (omega (arith, few)) h earlier) (h (suc k) (omega arith) few)
  where
    by_cases : (some_to test k ≡ true) ⊎ (test (suc k) ≡ true) → (some_to test k ≡ true → list_any P (numbers_to set k) ≡ true) → (test (suc k) ≡ true → (has set (suc k) ≡ true) × (P (suc k) ≡ true))
        → list_any P (if has set (suc k) then numbers_to set k ++ suc k ∷ [] else numbers_to set k) ≡ true
    by_cases (inl earlier) f g =
        if_either (λ ms. list_any P ms ≡ true) (has set (suc k)) (numbers_to set k ++ suc k ∷ []) (numbers_to set k) (any_more P (numbers_to set k) (suc k) (f earlier)) (f earlier)
    by_cases (inr here) f g =
        if_with (λ ms. list_any P ms ≡ true) (has set (suc k)) (has set (suc k)) (numbers_to set k ++ suc k ∷ []) (numbers_to set k) refl
        (λ is. any_last P (numbers_to set k) (suc k) (g here).1) (λ lacks. absurd (false_true (sym lacks ∙ (g here).0)))

-- Sets as lists of numbers by commas, and back.
use Rattle.std.proofs.Common.{◌≡◌, ◌≢◌, ℕ, zero, suc, ◌+◌, ◌<◌, ◌≤◌, ◌^◌, ◌==◌, ◌||◌, ◌&&◌, ◌⊎◌, inl, inr, List, [], ◌∷◌, ◌++◌, length, map, get_or, Bool, true, false, refl, ap, sym, subst, ◌∙◌, append-nil, arith, nat_lt}
use Rattle.std.specs.Prelude.{All, codes, flat_map, nat_eq, nat_le, if◌then◌else◌}
use Rattle.std.specs.List.{list_any, slice_split}
use Rattle.std.specs.Int.{IsInRange}
use Rattle.std.specs.Fmt.{decimal}
use Rattle.std.specs.Cmp.Lexicographic.{pointwise, bytes_decides}
use Rattle.std.proofs.lemmas.List.Elements.{All-from_get_or}
use Rattle.std.proofs.lemmas.List.Splits.{slice_split_none, slice_split_at}
use Rattle.std.proofs.lemmas.List.Folds.{list_any-append}
use Rattle.std.proofs.lemmas.Fmt.{decimal_is_IsNumeral, decimal_injective, decimal_nonempty}
use Rattle.std.proofs.lemmas.Str.Parse.{digit_at}
use Rattle.std.proofs.lemmas.Bool.Decides.{eqb_tells, leb_tells, nat_tests}
use Rattle.std.proofs.Math.Pow.{pow_mono}
use Rattle.cl_base.specs.Sets.{has}
use Rattle.cl_base.proofs.SetLemmas.{has_not_zero, has_not_above, same_set}
use Rattle.cl_base.specs.Numbers.{numbers_to, by_commas, set_text}
use Rattle.cmm_member.specs.Lists.{is_listed}

abbrev pub is_comma : ℕ → Bool
is_comma b = b == 44

abbrev pub Below : List ℕ → Type 0
Below [] = Unit {0}
Below (n ∷ ns) = (n < 2 ^ 64) × Below ns

differs : (a b : ℕ) → a ≢ b → (a == b) ≡ false
differs a b h = grind (arith, nat_tests)

pub digit : (n i : ℕ) → n < 2 ^ 64 → i < length (decimal n) → IsInRange 48 57 (get_or (decimal n) i 0)
digit n i fits low = digit_at (decimal n) i (decimal_is_IsNumeral n fits).0.1 low

no_comma : (n : ℕ) → n < 2 ^ 64 → All (λ b. is_comma b ≡ false) (decimal n)
no_comma n fits = All-from_get_or (λ b. is_comma b ≡ false) (decimal n) 0 (λ i low.
    let d : IsInRange 48 57 (get_or (decimal n) i 0) = digit n i fits low in
    differs (get_or (decimal n) i 0) 44 (λ e. omega (arith, d.0, e)))

-- cut at its commas, a list of numbers has their digits as its words
pub split_list : (n : ℕ) (ns : List ℕ) → n < 2 ^ 64 → Below ns → slice_split is_comma (decimal n ++ flat_map (λ m. 44 ∷ decimal m) ns) ≡ map decimal (n ∷ ns)
split_list n [] fits all = ap (slice_split is_comma) (append-nil (decimal n)) ∙ slice_split_none is_comma (decimal n) (no_comma n fits)
split_list n (m ∷ ns) fits all =
    slice_split_at is_comma (decimal n) 44 (decimal m ++ flat_map (λ m. 44 ∷ decimal m) ns) (no_comma n fits) refl ∙ ap (λ words. decimal n ∷ words) (split_list m ns all.0 all.1)

same_if : (n m : ℕ) → n < 2 ^ 64 → m < 2 ^ 64 → (b : Bool) → pointwise nat_eq (decimal n) (decimal m) ≡ b → b ≡ (n == m)
same_if n m fn fm true e =
    let same : n ≡ m = decimal_injective n m fn fm ((bytes_decides (decimal n) (decimal m)).0 e) in
    grind (arith, nat_tests)
same_if n m fn fm false e =
    let other : n ≢ m = λ same. (let yes : pointwise nat_eq (decimal n) (decimal m) ≡ true = (bytes_decides (decimal n) (decimal m)).1 (ap decimal same) in cc) in
    sym (differs n m other)

pub same_word : (n m : ℕ) → n < 2 ^ 64 → m < 2 ^ 64 → pointwise nat_eq (decimal n) (decimal m) ≡ (n == m)
same_word n m fn fm = same_if n m fn fm (pointwise nat_eq (decimal n) (decimal m)) refl

listed_words : (ns : List ℕ) (m : ℕ) → Below ns → m < 2 ^ 64 → list_any (λ word. pointwise nat_eq word (decimal m)) (map decimal ns) ≡ list_any (λ n. n == m) ns
listed_words [] m all fits = refl
listed_words (n ∷ ns) m all fits = rw (same_word n m all.0 fits, listed_words ns m all.1 fits) refl

none_if : (m : ℕ) → m < 2 ^ 64 → (b : Bool) → pointwise nat_eq (codes "none") (decimal m) ≡ b → b ≡ false
none_if m fits false e = refl
none_if m fits true e =
    let same : codes "none" ≡ decimal m = (bytes_decides (codes "none") (decimal m)).0 e in
    let d : IsInRange 48 57 (get_or (decimal m) 0 0) = digit m 0 fits (decimal_nonempty m fits) in
    let first : 110 ≡ get_or (decimal m) 0 0 = ap (λ w. get_or w 0 0) same in
    absurd (omega (arith, d.1, first))

listed_none : (m : ℕ) → m < 2 ^ 64 → is_listed (codes "none") m ≡ false
listed_none m fits = rw (none_if m fits (pointwise nat_eq (codes "none") (decimal m)) refl) refl

-- a list of numbers lists these numbers
pub listed : (ns : List ℕ) (m : ℕ) → Below ns → m < 2 ^ 64 → is_listed (by_commas ns) m ≡ list_any (λ n. n == m) ns
listed [] m all fits = listed_none m fits
listed (n ∷ ns) m all fits =
    ap (list_any (λ word. pointwise nat_eq word (decimal m))) (split_list n ns all.0 all.1) ∙ listed_words (n ∷ ns) m all fits

below_append : (a b : List ℕ) → Below a → Below b → Below (a ++ b)
below_append [] b ha hb = hb
below_append (x ∷ a) b ha hb = (ha.0, below_append a b ha.1 hb)

below_if : (t : Bool) (ns : List ℕ) (n : ℕ) → Below ns → n < 2 ^ 64 → Below (if t then ns ++ n ∷ [] else ns)
below_if true ns n all fits = below_append ns (n ∷ []) all (fits, tt)
below_if false ns n all fits = all

pub below_numbers : (set k : ℕ) → k ≤ 32 → Below (numbers_to set k)
below_numbers set zero le = tt
below_numbers set (suc k) le = below_if (has set (suc k)) (numbers_to set k) (suc k) (below_numbers set k (omega arith)) (omega arith)

or_none : (b : Bool) → (b || false) ≡ b
or_none true = refl
or_none false = refl

and_none : (b : Bool) → false ≡ (b && false)
and_none true = refl
and_none false = refl

last_number : (set k m : ℕ) (t : Bool) → has set (suc k) ≡ t → ((nat_le m k && has set m) || list_any (λ n. n == m) (if t then (suc k) ∷ [] else [])) ≡ (nat_le m (suc k) && has set m)
last_number set k m true is = tests (eqb_tells (suc k) m) (leb_tells m k) (leb_tells m (suc k))
  where
    tests : ((suc k == m) ≡ true) × (suc k ≡ m) ⊎ ((suc k == m) ≡ false) × (suc k ≢ m) → (nat_le m k ≡ true) × (m ≤ k) ⊎ (nat_le m k ≡ false) × (k < m) → (nat_le m (suc k) ≡ true) × (m ≤ suc k) ⊎ (nat_le m (suc k) ≡ false) × (suc k < m)
        → ((nat_le m k && has set m) || ((suc k == m) || false)) ≡ (nat_le m (suc k) && has set m)
    tests (inl (test, same)) (inl (le, less)) c = absurd (omega arith)
    tests (inl (test, same)) (inr (le, more)) (inl (next, _)) = let here : has set m ≡ true = subst (λ j. has set j ≡ true) same is in rw (test, le, next, here) refl
    tests (inl (test, same)) (inr (le, more)) (inr (next, far)) = absurd (omega arith)
    tests (inr (test, other)) (inl (le, less)) (inl (next, _)) = rw (test, le, next) (or_none (has set m))
    tests (inr (test, other)) (inl (le, less)) (inr (next, far)) = absurd (omega arith)
    tests (inr (test, other)) (inr (le, more)) (inl (next, near)) = absurd (omega arith)
    tests (inr (test, other)) (inr (le, more)) (inr (next, far)) = rw (test, le, next) refl
last_number set k m false is = tests (eqb_tells (suc k) m) (leb_tells m k) (leb_tells m (suc k))
  where
    tests : ((suc k == m) ≡ true) × (suc k ≡ m) ⊎ ((suc k == m) ≡ false) × (suc k ≢ m) → (nat_le m k ≡ true) × (m ≤ k) ⊎ (nat_le m k ≡ false) × (k < m) → (nat_le m (suc k) ≡ true) × (m ≤ suc k) ⊎ (nat_le m (suc k) ≡ false) × (suc k < m)
        → ((nat_le m k && has set m) || false) ≡ (nat_le m (suc k) && has set m)
    tests (inl (test, same)) (inl (le, less)) c = absurd (omega arith)
    tests (inl (test, same)) (inr (le, more)) c = let here : has set m ≡ false = subst (λ j. has set j ≡ false) same is in rw (le, here) (and_none (nat_le m (suc k)))
    tests (inr (test, other)) (inl (le, less)) (inl (next, _)) = rw (le, next) (or_none (has set m))
    tests (inr (test, other)) (inl (le, less)) (inr (next, far)) = absurd (omega arith)
    tests (inr (test, other)) (inr (le, more)) (inl (next, near)) = absurd (omega arith)
    tests (inr (test, other)) (inr (le, more)) (inr (next, far)) = rw (le, next) refl

none_to_zero : (set m : ℕ) → false ≡ (nat_le m 0 && has set m)
none_to_zero set zero = sym (has_not_zero set)
none_to_zero set (suc m) =
    let far : nat_le (suc m) 0 ≡ false = grind (arith, nat_tests) in
    rw far refl

any_if : (m : ℕ) (ns : List ℕ) (n : ℕ) (t : Bool) → list_any (λ n. n == m) (if t then ns ++ n ∷ [] else ns) ≡ (list_any (λ n. n == m) ns || list_any (λ n. n == m) (if t then n ∷ [] else []))
any_if m ns n true = list_any-append (λ n. n == m) ns (n ∷ [])
any_if m ns n false = sym (or_none (list_any (λ n. n == m) ns))

-- the numbers up to k that are in the set are listed
pub in_numbers : (set k m : ℕ) → list_any (λ n. n == m) (numbers_to set k) ≡ (nat_le m k && has set m)
in_numbers set zero m = none_to_zero set m
in_numbers set (suc k) m =
    any_if m (numbers_to set k) (suc k) (has set (suc k))
    ∙ ap (λ b. b || list_any (λ n. n == m) (if has set (suc k) then suc k ∷ [] else [])) (in_numbers set k m)
    ∙ last_number set k m (has set (suc k)) refl

-- ---- the loop that reads a list

abbrev pub Read : List ℕ → ℕ → ℕ → Type 0
Read text n set = (m : ℕ) → has set m ≡ (nat_lt m n && (nat_le 1 m && is_listed text m))

pub read_none : (text : List ℕ) (set : ℕ) → ((m : ℕ) → has set m ≡ false) → Read text 1 set
read_none text set none zero =
    rw (none zero) (and_none (nat_lt zero 1))
read_none text set none (suc m) =
    let far : nat_lt (suc m) 1 ≡ false = grind (arith, nat_tests) in
    rw (none (suc m), far) refl

next_if : (text : List ℕ) (n set m : ℕ) (t : Bool) → 1 ≤ n → is_listed text n ≡ t → has set m ≡ (nat_lt m n && (nat_le 1 m && is_listed text m)) → (if t then (m == n) || has set m else has set m) ≡ (nat_lt m (n + 1) && (nat_le 1 m && is_listed text m))
next_if text n set m true low is old = rw old (grind (arith, nat_tests))
next_if text n set m false low is old = rw old (grind (arith, nat_tests))

pub read_next : (text : List ℕ) (n set new : ℕ) → 1 ≤ n → Read text n set → ((m : ℕ) → has new m ≡ (if is_listed text n then (m == n) || has set m else has set m)) → Read text (n + 1) new
read_next text n set new low old is m = is m ∙ next_if text n set m (is_listed text n) low refl (old m)

within : (set w k m : ℕ) → w ≤ k → k ≤ 32 → set < 2 ^ w → (nat_le m w ≡ true) × (m ≤ w) ⊎ (nat_le m w ≡ false) × (w < m) → (nat_lt m (w + 1) && (nat_le 1 m && is_listed (by_commas (numbers_to set k)) m)) ≡ has set m
within set w k zero low most fits c = sym (and_none (nat_lt zero (w + 1))) ∙ sym (has_not_zero set)
within set w k (suc m) low most fits (inl (test, le)) =
    let there : is_listed (by_commas (numbers_to set k)) (suc m) ≡ (nat_le (suc m) k && has set (suc m)) = listed (numbers_to set k) (suc m) (below_numbers set k most) (omega arith) ∙ in_numbers set k (suc m) in
    let near : nat_lt (suc m) (w + 1) ≡ true = grind (arith, nat_tests) in
    let wide : nat_le (suc m) k ≡ true = grind (arith, nat_tests) in
    let some : nat_le 1 (suc m) ≡ true = grind (arith, nat_tests) in
    rw (there, near, wide, some) refl
within set w k (suc m) low most fits (inr (test, more)) =
    let far : nat_lt (suc m) (w + 1) ≡ false = grind (arith, nat_tests) in
    rw far (sym (has_not_above set w (suc m) fits more))

list_back_at : (a b k : ℕ) → k ≤ 32 → a < 2 ^ k → b < 2 ^ k → by_commas (numbers_to a k) ≡ by_commas (numbers_to b k) → a ≡ b
list_back_at a b k most fa fb same =
    let wide : 2 ^ k ≤ 2 ^ 32 = pow_mono {i = k} {j = 32} most in
    same_set a b (omega arith) (omega arith) (λ m.
    sym (within a k k m (omega arith) most fa (leb_tells m k)) ∙ ap (λ t. nat_lt m (k + 1) && (nat_le 1 m && is_listed t m)) same ∙ within b k k m (omega arith) most fb (leb_tells m k))

read_back_at : (set w k new : ℕ) (text : List ℕ) → w ≤ k → k ≤ 32 → set < 2 ^ w → new < 2 ^ 32 → Read text (w + 1) new → text ≡ by_commas (numbers_to set k) → new ≡ set
read_back_at set w k new text low most fits small all is =
    let wide : 2 ^ w ≤ 2 ^ 32 = pow_mono {i = w} {j = 32} (omega arith) in
    let whole : Read (by_commas (numbers_to set k)) (w + 1) new = subst (λ t. Read t (w + 1) new) is all in
    same_set new set small (omega arith) (λ m. whole m ∙ within set w k m low most fits (leb_tells m w))

-- so a text lists one set at most
pub list_back : (a b : ℕ) → a < 2 ^ 32 → b < 2 ^ 32 → set_text a ≡ set_text b → a ≡ b
unfolding set_text
list_back a b fa fb same = list_back_at a b 32 (omega arith) fa fb same

pub read_back : (set w new : ℕ) (text : List ℕ) → w ≤ 32 → set < 2 ^ w → new < 2 ^ 32 → Read text (w + 1) new → text ≡ set_text set → new ≡ set
unfolding set_text
read_back set w new text most fits small all is = read_back_at set w 32 new text most (omega arith) fits small all is

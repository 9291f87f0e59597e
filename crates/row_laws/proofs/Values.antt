-- Bytes of keys and values: how many there are, and that no tab and no newline is among them.
use Rattle.std.proofs.Common.{◌≡◌, ◌≢◌, ℕ, ◌+◌, ◌*◌, ◌<◌, ◌≤◌, ◌^◌, ◌&&◌, ◌⊎◌, inl, inr, List, [], ◌∷◌, ◌++◌, length, get_or, Bool, true, false, refl, subst, length-append, arith}
use Rattle.std.specs.Prelude.{All, codes, flat_map, nat_le}
use Rattle.std.specs.List.{AllByRecursion}
use Rattle.std.specs.Int.{IsInRange}
use Rattle.std.specs.Fmt.{decimal}
use Rattle.std.proofs.lemmas.List.Elements.{All-append, All-cons, All-nil, All-weaker, All-from_get_or}
use Rattle.std.proofs.lemmas.Fmt.{decimal_is_IsNumeral, length-decimal-le}
use Rattle.std.proofs.lemmas.Str.Parse.{digit_at}
use Rattle.std.proofs.lemmas.Bool.Decides.{leb_tells}
use Rattle.cl_base.specs.Names.{IsName, is_name_byte}
use Rattle.ccr_text.specs.TableText.{IsPlain}
use Rattle.ccr_text.proofs.CutLemmas.{Lacks}
use Rattle.ccr_rows.specs.Texts.{with_commas}

-- at most so many bytes, neither tab nor newline among them
abbrev pub IsText : ℕ → List ℕ → Type 0
IsText most text = (length text ≤ most) × IsPlain text

abbrev pub are_above : List ℕ → Bool
are_above [] = true
are_above (x ∷ xs) = nat_le 11 x && are_above xs

both : (a b : Bool) → (a && b) ≡ true → (a ≡ true) × (b ≡ true)
both true b e = (refl, e)
both false b e = absurd (cc)

high_if : (x : ℕ) → nat_le 11 x ≡ true → (nat_le 11 x ≡ true) × (11 ≤ x) ⊎ (nat_le 11 x ≡ false) × (x < 11) → 11 ≤ x
high_if x e (inl (_, le)) = le
high_if x e (inr (off, _)) = absurd (cc)

plain_byte : (x : ℕ) → 11 ≤ x → (x ≢ 9) × (x ≢ 10)
plain_byte x le = (λ e. omega arith, λ e. omega arith)

pub plain_if : (xs : List ℕ) → are_above xs ≡ true → IsPlain xs
plain_if [] e = All-nil (λ b. (b ≢ 9) × (b ≢ 10))
plain_if (x ∷ xs) e =
    let parts = both (nat_le 11 x) (are_above xs) e in
    All-cons (λ b. (b ≢ 9) × (b ≢ 10)) x xs (plain_byte x (high_if x parts.0 (leb_tells 11 x))) (plain_if xs parts.1)

pub text_append : (j k : ℕ) (a b : List ℕ) → IsText j a → IsText k b → IsText (j + k) (a ++ b)
text_append j k a b ha hb = (omega (arith, length-append a b, ha.0, hb.0), All-append (λ b. (b ≢ 9) × (b ≢ 10)) a b ha.1 hb.1)

pub text_cons : (k x : ℕ) (b : List ℕ) → 11 ≤ x → IsText k b → IsText (k + 1) (x ∷ b)
text_cons k x b le h = (omega (arith, h.0), All-cons (λ b. (b ≢ 9) × (b ≢ 10)) x b (plain_byte x le) h.1)

pub wider : (j k : ℕ) (a : List ℕ) → j ≤ k → IsText j a → IsText k a
wider j k a le h = (omega (arith, le, h.0), h.1)

pub text_decimal : (n : ℕ) → n < 2 ^ 64 → IsText 20 (decimal n)
text_decimal n fits = (
  length-decimal-le 20 n (omega arith) (omega arith) fits,
  All-from_get_or (λ b. (b ≢ 9) × (b ≢ 10)) (decimal n) 0 (λ i low.
      let digit : IsInRange 48 57 (get_or (decimal n) i 0) = digit_at (decimal n) i (decimal_is_IsNumeral n fits).0.1 low in
      plain_byte (get_or (decimal n) i 0) (omega (arith, digit.0))),
)

pub decimal_lacks_dot : (n : ℕ) → n < 2 ^ 64 → Lacks 46 (decimal n)
decimal_lacks_dot n fits = All-from_get_or (λ b. b ≢ 46) (decimal n) 0 (λ i low.
    let digit : IsInRange 48 57 (get_or (decimal n) i 0) = digit_at (decimal n) i (decimal_is_IsNumeral n fits).0.1 low in
    λ e. omega (arith, digit.0, e))

-- ---- names

name_byte_is_other : (b c : ℕ) → is_name_byte c ≡ false → is_name_byte b ≡ true → b ≢ c
name_byte_is_other b c lacks h same = let off : is_name_byte c ≡ true = subst (λ (v : ℕ). is_name_byte v ≡ true) same h in absurd (cc)

pub text_name : (name : List ℕ) → IsName name → IsText 32 name
text_name name h = (h.1, All-weaker (λ b. is_name_byte b ≡ true) (λ b. (b ≢ 9) × (b ≢ 10)) (λ b k. (name_byte_is_other b 9 refl k, name_byte_is_other b 10 refl k)) name h.3)

pub name_lacks_dot : (name : List ℕ) → IsName name → Lacks 46 name
name_lacks_dot name h = All-weaker (λ b. is_name_byte b ≡ true) (λ b. b ≢ 46) (λ b k. name_byte_is_other b 46 refl k) name h.3

-- ---- lists

module _ {X : Type 0} (text : X → List ℕ) (P : X → Type 0) (short : (x : X) → P x → IsText 63 (text x)) where
  rest : (xs : List X) → AllByRecursion P xs → IsText (64 * length xs) (flat_map (λ y. 44 ∷ text y) xs)
  rest [] all = (omega arith, plain_if [] refl)
  rest (x ∷ xs) all =
      wider (64 + 64 * length xs) (64 * length (x ∷ xs)) ((44 ∷ text x) ++ flat_map (λ y. 44 ∷ text y) xs) (omega arith)
      (text_append 64 (64 * length xs) (44 ∷ text x) (flat_map (λ y. 44 ∷ text y) xs) (text_cons 63 44 (text x) (omega arith) (short x all.0)) (rest xs all.1))

  pub text_list : (xs : List X) → length xs ≤ 32 → AllByRecursion P xs → IsText 4096 (with_commas text xs)
  text_list [] few all = (omega arith, plain_if (codes "none") refl)
  text_list (x ∷ xs) few all =
      wider (63 + 64 * length xs) 4096 (text x ++ flat_map (λ y. 44 ∷ text y) xs) (omega (arith, few))
      (text_append 63 (64 * length xs) (text x) (flat_map (λ y. 44 ∷ text y) xs) (short x all.0) (rest xs all.1))

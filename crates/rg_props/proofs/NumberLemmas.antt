-- What a word of digits is as a number.
use Rattle.std.proofs.Common.{◌≡◌, ℕ, ◌^◌, ◌<◌, ◌≤◌, ◌==◌, nat_lt, if◌then◌else◌, Bool, true, false, not, ◌&&◌, List, [], ◌∷◌, length, Option, Some, None, Err, refl, subst, arith, rules}
use Rattle.std.specs.List.{list_all}
use Rattle.std.specs.Char.{is_ascii_digit}
use Rattle.std.specs.Str.{IsUtf8}
use Rattle.std.specs.Str.Parse.{digits_value, ParsesUnsigned}
use Rattle.std.proofs.lemmas.Str.Parse.{IsNumeralModel, numerals_by_value, parse_digits}
use Rattle.std.proofs.lemmas.Fmt.{IsAscii-from_digits}
use Rattle.std.proofs.lemmas.Str.{IsUtf8-from_ascii}
use Rattle.std.proofs.lemmas.Bool.{le-ltb, ltb-false, ltb-true}
use Rattle.rg_props.specs.Words.{is_decimal, has_no_leading_zero, decimal_in}

abbrev Digits : List ℕ → Type 0
Digits w = list_all is_ascii_digit w ≡ true

digits : IsNumeralModel Digits (digits_value 10)
digits = numerals_by_value Digits (search rules)

second : (a b : Bool) → (a && b) ≡ true → b ≡ true
second true true h = refl
second true false h = h
second false b h = absurd (cc)

digits_of_decimal : (w : List ℕ) → is_decimal w ≡ true → Digits w
digits_of_decimal w h = second (not (length w == 0) && has_no_leading_zero w) (list_all is_ascii_digit w) h

pub utf8_of_decimal : (w : List ℕ) → is_decimal w ≡ true → IsUtf8 w
utf8_of_decimal w h = IsUtf8-from_ascii w (IsAscii-from_digits w (digits.to w (digits_of_decimal w h)))

nonempty : (w : List ℕ) → is_decimal w ≡ true → 0 < length w
nonempty [] h = absurd (cc)
nonempty (x ∷ w) h = omega arith

at_least : (n : ℕ) (t : Bool) → nat_lt n (2 ^ 64) ≡ t → (n < 2 ^ 64 → ⊥) → 2 ^ 64 ≤ n
at_least n true is never = absurd (never (ltb-true n (2 ^ 64) is))
at_least n false is never = ltb-false n (2 ^ 64) is

-- a decimal word that `parse` does not read is too great for 64 bits
pub unread_decimal : {E : Type 0} (text w : List ℕ) (e : E) → text ≡ w → is_decimal w ≡ true → ParsesUnsigned 64 10 text (Err e) → decimal_in w ≡ None
unread_decimal {E} text w e same h parsed =
    let fails = parse_digits digits 64 w (Err e) (subst (λ (t : List ℕ). ParsesUnsigned {E = E} 64 10 t (Err e)) same parsed) (digits_of_decimal w h) in
    let great : 2 ^ 64 ≤ digits_value 10 w = at_least (digits_value 10 w) (nat_lt (digits_value 10 w) (2 ^ 64)) refl (λ lt. fails (nonempty w h, lt)) in
    rw (h, le-ltb (digits_value 10 w) (2 ^ 64) great) refl

-- What a word of digits is as a number.
use Rattle.std.proofs.Common.{◌≡◌, ◌≢◌, nat_le, ℕ, ◌+◌, ◌-◌, ◌*◌, ◌^◌, ◌<◌, ◌≤◌, ◌==◌, nat_lt, if◌then◌else◌, Bool, true, false, not, ◌&&◌, List, [], ◌∷◌, length, slice_index, take, drop, Option, Some, None, unwrap_or, Result, Ok, Err, OkIff, zero, suc, refl, sym, ap, ◌∙◌, subst, arith}
use Rattle.std.specs.Result.{result_ok}
use Rattle.std.specs.List.{list_all}
use Rattle.std.specs.Char.{is_ascii_digit, digit_value}
use Rattle.std.specs.Str.{IsUtf8}
use Rattle.std.specs.Str.Parse.{digits_value, digits_value_after, ParsesUnsigned, AllDigits, IsNumeral, without_leading_plus}
use Rattle.std.proofs.lemmas.Str.Parse.{without_leading_plus_none}
use Rattle.std.proofs.lemmas.Str.{IsUtf8-from_ascii}
use Rattle.std.proofs.lemmas.Int.Digits.{digits_value-lt}
use Rattle.std.proofs.Math.Nat.{pow-le-pow_right}
use Rattle.std.proofs.lemmas.Bool.{le-ltb, ltb-false, le-leb, leb-true}
use Rattle.std.proofs.lemmas.Bool.Decides.{nat_tests}
use Rattle.std.proofs.lemmas.List.{drop_all, at_drop_more, take_rest}
use Rattle.schedule_text.specs.declared.number.Numeral.{Numeral}
use Rattle.schedule_text.specs.declared.number.Numeral.TheVariants.{Within, Beyond}
use Rattle.schedule_text.specs.Words.{numeral_of, followed_by, decimal_in, has_no_leading_zero, is_key, is_key_digit, key_in, cluster_in}

first : (a b : Bool) → (a && b) ≡ true → a ≡ true
first true b h = refl
first false b h = h

second : (a b : Bool) → (a && b) ≡ true → b ≡ true
second true true h = refl
second true false h = h
second false b h = absurd (cc)

beyond : (n : ℕ) → 2 ^ 64 ≤ n → numeral_of n ≡ Beyond
beyond n h = rw (le-ltb n (2 ^ 64) h) refl

goes_on_from : (n digit : ℕ) (t : Bool) → nat_lt n (2 ^ 64) ≡ t → followed_by (numeral_of n) digit ≡ numeral_of (n * 10 + digit)
goes_on_from n digit true is = rw is refl
goes_on_from n digit false is =
    let great : 2 ^ 64 ≤ n = ltb-false n (2 ^ 64) is in
    rw (is, beyond (n * 10 + digit) (omega arith)) refl

-- the number that digits behind it make, if all are digits (from 48 on)
abbrev pub read_on : Numeral → List ℕ → Option Numeral
read_on number [] = Some number
read_on number (b ∷ word) = if is_ascii_digit b then read_on (followed_by number (b - 48)) word else None

digit_is : (b : ℕ) → is_ascii_digit b ≡ true → digit_value b ≡ b - 48
digit_is b is = grind (arith, nat_tests)

read_digit : (n b : ℕ) (word : List ℕ) (t : Bool) → is_ascii_digit b ≡ t
    → ((m : ℕ) → read_on (numeral_of m) word ≡ (if list_all is_ascii_digit word then Some (numeral_of (digits_value_after 10 m word)) else None))
    → read_on (numeral_of n) (b ∷ word) ≡ (if list_all is_ascii_digit (b ∷ word) then Some (numeral_of (digits_value_after 10 n (b ∷ word))) else None)
read_digit n b word true is rest =
    rw (is, goes_on_from n (b - 48) (nat_lt n (2 ^ 64)) refl, rest (n * 10 + (b - 48)), digit_is b is) refl
read_digit n b word false is rest = rw is refl

read_all : (n : ℕ) (word : List ℕ)
    → read_on (numeral_of n) word ≡ (if list_all is_ascii_digit word then Some (numeral_of (digits_value_after 10 n word)) else None)
read_all n [] = refl
read_all n (b ∷ word) = read_digit n b word (is_ascii_digit b) refl (λ m. read_all m word)

read_word : (word : List ℕ) → (length word == 0) ≡ false → has_no_leading_zero word ≡ true → read_on (Within 0) word ≡ decimal_in word
read_word word some leads = read_all 0 word ∙ sym (rw (some, leads) refl)

-- a word without a leading zero is read digit by digit
pub decimal_read : (number : ℕ) (word : List ℕ) (count : ℕ) → length word ≤ count → read_on (Within number) (drop count word) ≡ read_on (Within 0) word
    → (length word == 0) ≡ false → has_no_leading_zero word ≡ true → Some (Within number) ≡ decimal_in word
decimal_read number word count end same some leads =
    ap (λ (left : List ℕ). read_on (Within number) left) (sym (drop_all count word end)) ∙ same ∙ read_word word some leads

beyond_digit : (b : ℕ) (word : List ℕ) (t : Bool) → is_ascii_digit b ≡ t → read_on Beyond word ≡ (if list_all is_ascii_digit word then Some Beyond else None)
    → read_on Beyond (b ∷ word) ≡ (if list_all is_ascii_digit (b ∷ word) then Some Beyond else None)
beyond_digit b word true is rest = rw is rest
beyond_digit b word false is rest = rw is refl

-- behind a number that is too great all are digits, or none is read
pub read_beyond : (word : List ℕ) → read_on Beyond word ≡ (if list_all is_ascii_digit word then Some Beyond else None)
read_beyond [] = refl
read_beyond (b ∷ word) = beyond_digit b word (is_ascii_digit b) refl (read_beyond word)

-- the number is too great with the digit at this place
pub overflows : (number : ℕ) (word : List ℕ) (place : ℕ) → place < length word → is_ascii_digit (slice_index word place) ≡ true
    → followed_by (Within number) (slice_index word place - 48) ≡ Beyond → read_on (Within number) (drop place word) ≡ read_on (Within 0) word
    → (length word == 0) ≡ false → has_no_leading_zero word ≡ true
    → (if list_all is_ascii_digit (take (length word - (place + 1)) (drop (place + 1) word)) then Some Beyond else None) ≡ decimal_in word
overflows number word place within digit over same some leads =
    let rest : List ℕ = drop (place + 1) word in
    let here : read_on (Within number) (drop place word) ≡ read_on Beyond rest = at_drop_more (λ (left : List ℕ). read_on (Within number) left) word place 0 within ∙ rw (digit, over) refl in
    ap (λ (left : List ℕ). if list_all is_ascii_digit left then Some Beyond else None) (take_rest word (place + 1))
    ∙ sym (read_beyond rest) ∙ sym here ∙ same ∙ read_word word some leads

-- keys

abbrev KeyDigits : List ℕ → Type 0
KeyDigits w = list_all is_key_digit w ≡ true

key_digit : (b : ℕ) → is_key_digit b ≡ true → (digit_value b < 16) × (b < 128)
key_digit b h = (grind (arith, nat_tests), grind (arith, nat_tests))

key_digit_no_plus : (b : ℕ) → is_key_digit b ≡ true → b ≢ 43
key_digit_no_plus b h = grind (arith, nat_tests)

key_digits : (w : List ℕ) → KeyDigits w → AllDigits 16 w
key_digits [] h = tt
key_digits (b ∷ w) h = ((key_digit b (first (is_key_digit b) (list_all is_key_digit w) h)).0, key_digits w (second (is_key_digit b) (list_all is_key_digit w) h))

key_ascii : (w : List ℕ) → KeyDigits w → (i : ℕ) → slice_index w i < 128
key_ascii [] h i = omega arith
key_ascii (b ∷ w) h zero = (key_digit b (first (is_key_digit b) (list_all is_key_digit w) h)).1
key_ascii (b ∷ w) h (suc i) = key_ascii w (second (is_key_digit b) (list_all is_key_digit w) h) i

digits_of_key : (w : List ℕ) → is_key w ≡ true → KeyDigits w
digits_of_key w h = second (not (length w == 0) && nat_le (length w) 16 && has_no_leading_zero w) (list_all is_key_digit w) h

pub utf8_of_key : (w : List ℕ) → is_key w ≡ true → IsUtf8 w
utf8_of_key w h = IsUtf8-from_ascii w (key_ascii w (digits_of_key w h))

no_plus : (w : List ℕ) → KeyDigits w → slice_index w 0 ≢ 43
no_plus [] h = omega arith
no_plus (b ∷ w) h = key_digit_no_plus b (first (is_key_digit b) (list_all is_key_digit w) h)

key_nonempty : (w : List ℕ) → is_key w ≡ true → 0 < length w
key_nonempty [] h = absurd (cc)
key_nonempty (x ∷ w) h = omega arith

key_short : (w : List ℕ) → is_key w ≡ true → length w ≤ 16
key_short w h =
    let front : ((not (length w == 0) && nat_le (length w) 16) && has_no_leading_zero w) ≡ true = first (not (length w == 0) && nat_le (length w) 16 && has_no_leading_zero w) (list_all is_key_digit w) h in
    let both : (not (length w == 0) && nat_le (length w) 16) ≡ true = first (not (length w == 0) && nat_le (length w) 16) (has_no_leading_zero w) front in
    leb-true (length w) 16 (second (not (length w == 0)) (nat_le (length w) 16) both)

key_value : (w : List ℕ) → is_key w ≡ true → digits_value 16 w < 2 ^ 64
key_value w h =
    let below : digits_value 16 w < 16 ^ length w = digits_value-lt 16 w (key_digits w (digits_of_key w h)) in
    let most : 16 ^ length w ≤ 16 ^ 16 = pow-le-pow_right {n = 16} (omega arith) {i = length w} {j = 16} (key_short w h) in
    omega arith

-- `from_str_radix` reads each key
pub unread_key : {E : Type 0} (text w : List ℕ) (e : E) → text ≡ w → is_key w ≡ true → ParsesUnsigned 64 16 text (Err e) → ⊥
unread_key {E} text w e same h parsed =
    let plain : without_leading_plus w ≡ w = without_leading_plus_none w (no_plus w (digits_of_key w h)) in
    let reads = subst (λ (t : List ℕ). ParsesUnsigned {E = E} 64 16 t (Err e)) same parsed in
    let fails = subst (λ (t : List ℕ). IsNumeral 16 t × (digits_value 16 t < 2 ^ 64) → ⊥) plain reads in
    fails ((key_nonempty w h, key_digits w (digits_of_key w h)), key_value w h)

-- an id of 8 digits fits 32 bits

some_same : (a b : ℕ) → Some a ≡ Some b → a ≡ b
some_same a b h = ap (λ (o : Option ℕ). unwrap_or o 0) h

id_below : (w : List ℕ) (id : ℕ) (t : Bool) → is_key w ≡ t → (if t then Some (digits_value 16 w) else None) ≡ Some id → length w ≤ 8 → id < 2 ^ 32
id_below w id true is h short =
    let below : digits_value 16 w < 16 ^ length w = digits_value-lt 16 w (key_digits w (digits_of_key w is)) in
    let most : 16 ^ length w ≤ 16 ^ 8 = pow-le-pow_right {n = 16} (omega arith) {i = length w} {j = 8} short in
    let same : digits_value 16 w ≡ id = some_same (digits_value 16 w) id h in
    omega arith
id_below w id false is h short = absurd (cc)

kept : {E : Type 0} (id : ℕ) (r : Result ℕ E) → id < 2 ^ 32 → OkIff r (id < 4294967296) id → result_ok r ≡ Some id
kept id (Ok x) fits h = ap Some h.1
kept id (Err e) fits h = absurd (h (omega arith))

not_zero : (id : ℕ) (t : Bool) → (id == 0) ≡ t → (id ≡ 0 → ⊥) → t ≡ false
not_zero id true is other = absurd (other (grind (arith, nat_tests)))
not_zero id false is other = refl

pub cluster_known : {E : Type 0} (w : List ℕ) (id : ℕ) (r : Result ℕ E) → length w ≤ 8 → key_in w ≡ Some id → (id ≡ 0 → ⊥) → OkIff r (id < 4294967296) id → result_ok r ≡ cluster_in w
cluster_known w id r short known other h =
    kept id r (id_below w id (is_key w) refl known short) h ∙ rw (le-leb (length w) 8 short, known, not_zero id (id == 0) refl other) refl

-- Printed numbers and keys as words, and the words of a line that is joined of them.
use Rattle.std.proofs.Common.{◌≡◌, ◌≢◌, ℕ, ◌+◌, ◌-◌, ◌/◌, ◌%◌, ◌^◌, ◌<◌, ◌≤◌, ◌==◌, not, ◌&&◌, if◌then◌else◌, Bool, true, false, List, [], ◌∷◌, ◌++◌, length, slice_index, slice_set, take, drop, map, All, Bor, Option, Some, None, Err, refl, sym, ap, ◌∙◌, add-one, append_assoc, arith, zero, suc, lt-ltb, le-leb}
use Rattle.std.specs.Char.{is_ascii_digit}
use Rattle.std.specs.Fmt.{decimal, digits, digits_onto, digit_glyph}
use Rattle.std.specs.List.{list_all, AllByRecursion}
use Rattle.std.proofs.lemmas.Bool.Decides.{nat_tests}
use Rattle.std.proofs.lemmas.Fmt.{decimal_by_steps, decimal_is_IsNumeral, decimal_nonempty, decimal_digit, first_decimal, digits_is_IsNumeral}
use Rattle.std.proofs.lemmas.List.{take_rest, length-map, length-take-le}
use Rattle.std.proofs.lemmas.List.Splits.{length-slice_split}
use Rattle.std.proofs.lemmas.List.Elements.{recursion_from_All}
use Rattle.std.proofs.lemmas.List.Folds.{list_all-append}
use Rattle.schedule_text.specs.declared.command_name.CommandName.{CommandName}
use Rattle.schedule_text.specs.declared.command_name.CommandName.TheVariants.{Register, Ignore, Reserve, Release, Clear, Preempt, Keys, Holder, Read, Write, Word, Swap}
use Rattle.schedule_text.specs.declared.kind.Kind.TheVariants as kind
use Rattle.schedule_text.specs.declared.number.Numeral.{Numeral}
use Rattle.schedule_text.specs.declared.number.Numeral.TheVariants.{Within}
use Rattle.schedule_text.specs.Lines.{command_line, named, words_line}
use Rattle.schedule_text.specs.Names.{name_in}
use Rattle.schedule_text.specs.Words.{words_of, is_decimal, decimal_in, has_no_leading_zero, is_key_digit, key_in}

-- no space, 32, in it
abbrev pub has_no_space : List ℕ → Bool
has_no_space word = list_all (λ b. not (b == 32)) word

not_space : (b : ℕ) → not (b == 32) ≡ true → (b == 32) ≡ false
not_space b h = grind (arith, nat_tests)

pub first : (a b : Bool) → (a && b) ≡ true → a ≡ true
first true b h = refl
first false b h = h

pub second : (a b : Bool) → (a && b) ≡ true → b ≡ true
second true b h = h
second false b h = absurd (cc)

first_not_space : (b : ℕ) (word : List ℕ) → has_no_space (b ∷ word) ≡ true → (b == 32) ≡ false
first_not_space b word h = not_space b (first (not (b == 32)) (has_no_space word) h)

others_no_space : (b : ℕ) (word : List ℕ) → has_no_space (b ∷ word) ≡ true → has_no_space word ≡ true
others_no_space b word h = second (not (b == 32)) (has_no_space word) h

pub words_of_one : (word : List ℕ) → has_no_space word ≡ true → words_of word ≡ word ∷ []
words_of_one [] h = refl
words_of_one (b ∷ word) h = rw (first_not_space b word h, words_of_one word (others_no_space b word h)) refl

pub words_of_more : (word rest : List ℕ) → has_no_space word ≡ true → words_of (word ++ 32 ∷ rest) ≡ word ∷ words_of rest
words_of_more [] rest h = refl
words_of_more (b ∷ word) rest h = rw (first_not_space b word h, words_of_more word rest (others_no_space b word h)) refl

digit_is_digit : (d : ℕ) → d < 10 → is_ascii_digit (48 + d) ≡ true
digit_is_digit d low = grind (arith, nat_tests)

one_digit : (n : ℕ) → n < 10 → list_all is_ascii_digit ((48 + n) ∷ []) ≡ true
one_digit n low = rw (digit_is_digit n low) refl

more_digits : (n : ℕ) (ds : List ℕ) → list_all is_ascii_digit ds ≡ true → list_all is_ascii_digit (ds ++ ((48 + n % 10) ∷ [])) ≡ true
more_digits n ds all = rw (list_all-append is_ascii_digit ds ((48 + n % 10) ∷ []), all, one_digit (n % 10) (omega arith)) refl

pub decimal_digits : (n : ℕ) → n < 2 ^ 64 → list_all is_ascii_digit (decimal n) ≡ true
decimal_digits n low = decimal_by_steps (λ n ds. list_all is_ascii_digit ds ≡ true) one_digit (λ n ds big all. more_digits n ds all) n low

digit_no_space : (b : ℕ) → is_ascii_digit b ≡ true → not (b == 32) ≡ true
digit_no_space b is = grind (arith, nat_tests)

pub digits_no_space : (w : List ℕ) → list_all is_ascii_digit w ≡ true → has_no_space w ≡ true
digits_no_space [] all = refl
digits_no_space (b ∷ w) all =
    rw (digit_no_space b (first (is_ascii_digit b) (list_all is_ascii_digit w) all), digits_no_space w (second (is_ascii_digit b) (list_all is_ascii_digit w) all)) refl

pub decimal_is_word : (n : ℕ) → n < 2 ^ 64 → has_no_space (decimal n) ≡ true
decimal_is_word n low = digits_no_space (decimal n) (decimal_digits n low)

some_word : (w : List ℕ) → 0 < length w → not (length w == 0) ≡ true
some_word w h = grind (arith, nat_tests)

above_zero : (w : List ℕ) → 48 < slice_index w 0 → has_no_leading_zero w ≡ true
above_zero w h = grind (arith, nat_tests)

no_leading_zero : (n : ℕ) → n < 2 ^ 64 → has_no_leading_zero (decimal n) ≡ true
no_leading_zero zero low = rw (decimal_digit 0 (omega arith)) refl
no_leading_zero (suc n) low = above_zero (decimal (suc n)) (first_decimal (suc n) (omega arith) low)

pub decimal_is_decimal : (n : ℕ) → n < 2 ^ 64 → is_decimal (decimal n) ≡ true
decimal_is_decimal n low =
    rw (some_word (decimal n) (decimal_nonempty n low), no_leading_zero n low, decimal_digits n low) refl

pub decimal_in_decimal : (n : ℕ) → n < 2 ^ 64 → decimal_in (decimal n) ≡ Some (Within n)
decimal_in_decimal n low = rw (decimal_is_decimal n low, (decimal_is_IsNumeral n low).1, lt-ltb n (2 ^ 64) low) refl

-- ---- keys

abbrev pub hex : ℕ → List ℕ
hex n = digits 16 false n

-- one of two lists, each where its test says so
chosen : (P : List ℕ → Type 0) (t : Bool) (x y : List ℕ) → (t ≡ true → P x) → (t ≡ false → P y) → P (if t then x else y)
chosen P true x y px py = px refl
chosen P false x y px py = py refl

glyph_is_key_digit : (d : ℕ) → d < 16 → is_key_digit (digit_glyph false d) ≡ true
glyph_is_key_digit d low = grind (arith, nat_tests)

more_key_digits : (d : ℕ) (acc : List ℕ) → d < 16 → list_all is_key_digit acc ≡ true → list_all is_key_digit (digit_glyph false d ∷ acc) ≡ true
more_key_digits d acc low all = rw (glyph_is_key_digit d low, all) refl

onto_digits : (fuel n : ℕ) (acc : List ℕ) → list_all is_key_digit acc ≡ true → list_all is_key_digit (digits_onto fuel 16 false n acc) ≡ true
onto_digits zero n acc all = all
onto_digits (suc fuel) n acc all =
    let front : list_all is_key_digit (digit_glyph false (n % 16) ∷ acc) ≡ true = more_key_digits (n % 16) acc (omega arith) all in
    chosen (λ ds. list_all is_key_digit ds ≡ true) (n / 16 == 0) (digit_glyph false (n % 16) ∷ acc) (digits_onto fuel 16 false (n / 16) (digit_glyph false (n % 16) ∷ acc))
    (λ is. front) (λ is. onto_digits fuel (n / 16) (digit_glyph false (n % 16) ∷ acc) front)

not_small : (n : ℕ) → (n / 16 == 0) ≡ false → 16 ≤ n
not_small n is = let other : n / 16 ≢ 0 = grind (arith, nat_tests) in omega (arith, other)

small : (n : ℕ) → (n / 16 == 0) ≡ true → n < 16
small n is = let zero_there : n / 16 ≡ 0 = grind (arith, nat_tests) in omega (arith, zero_there)

onto_length : (fuel k n : ℕ) (acc : List ℕ) → n < 16 ^ suc k → k < fuel → length (digits_onto fuel 16 false n acc) ≤ suc k + length acc
onto_length zero k n acc low le = absurd (omega (arith, le))
onto_length (suc fuel) zero n acc low le =
    chosen (λ ds. length ds ≤ 1 + length acc) (n / 16 == 0) (digit_glyph false (n % 16) ∷ acc) (digits_onto fuel 16 false (n / 16) (digit_glyph false (n % 16) ∷ acc))
    (λ is. omega arith) (λ is. absurd (omega (arith, not_small n is, low)))
onto_length (suc fuel) (suc k) n acc low le =
    chosen (λ ds. length ds ≤ suc (suc k) + length acc) (n / 16 == 0) (digit_glyph false (n % 16) ∷ acc) (digits_onto fuel 16 false (n / 16) (digit_glyph false (n % 16) ∷ acc))
    (λ is. omega arith)
    (λ is.
    let part : n / 16 < 16 ^ suc k = omega (arith, low) in
    let shorter : length (digits_onto fuel 16 false (n / 16) (digit_glyph false (n % 16) ∷ acc)) ≤ suc k + length (digit_glyph false (n % 16) ∷ acc) =
    onto_length fuel k (n / 16) (digit_glyph false (n % 16) ∷ acc) part (omega (arith, le)) in
    omega (arith, shorter))

glyph_above_zero : (d : ℕ) → 0 < d → d < 16 → 48 < digit_glyph false d
glyph_above_zero d some low = grind (arith, nat_tests)

onto_first : (fuel n : ℕ) (acc : List ℕ) → 0 < n → n < 16 ^ fuel → 48 < slice_index (digits_onto fuel 16 false n acc) 0
onto_first zero n acc some low = absurd (omega (arith, some, low))
onto_first (suc fuel) n acc some low =
    chosen (λ ds. 48 < slice_index ds 0) (n / 16 == 0) (digit_glyph false (n % 16) ∷ acc) (digits_onto fuel 16 false (n / 16) (digit_glyph false (n % 16) ∷ acc))
    (λ is. glyph_above_zero (n % 16) (omega (arith, small n is, some)) (omega arith))
    (λ is. onto_first fuel (n / 16) (digit_glyph false (n % 16) ∷ acc) (omega (arith, not_small n is)) (omega (arith, low)))

hex_digits : (n : ℕ) → list_all is_key_digit (hex n) ≡ true
unfolding digits
hex_digits n = onto_digits 64 n [] refl

hex_short : (n : ℕ) → n < 2 ^ 64 → length (hex n) ≤ 16
unfolding digits
hex_short n low = onto_length 64 15 n [] low (omega arith)

below_most : (n : ℕ) → n < 2 ^ 64 → n < 16 ^ 64
below_most n low = omega (arith, low)

hex_no_leading_zero : (n : ℕ) → n < 2 ^ 64 → has_no_leading_zero (hex n) ≡ true
unfolding digits
hex_no_leading_zero zero low = refl
hex_no_leading_zero (suc n) low = above_zero (hex (suc n)) (onto_first 64 (suc n) [] (omega arith) (below_most (suc n) low))

pub key_in_hex : (n : ℕ) → n < 2 ^ 64 → key_in (hex n) ≡ Some n
key_in_hex n low =
    let numeral = digits_is_IsNumeral 16 false (omega arith) (omega arith) n (below_most n low) in
    rw (some_word (hex n) numeral.0.0, le-leb (length (hex n)) 16 (hex_short n low), hex_no_leading_zero n low, hex_digits n, numeral.1) refl

key_digit_no_space : (b : ℕ) → is_key_digit b ≡ true → not (b == 32) ≡ true
key_digit_no_space b is = grind (arith, nat_tests)

key_digits_no_space : (w : List ℕ) → list_all is_key_digit w ≡ true → has_no_space w ≡ true
key_digits_no_space [] all = refl
key_digits_no_space (b ∷ w) all =
    rw (key_digit_no_space b (first (is_key_digit b) (list_all is_key_digit w) all), key_digits_no_space w (second (is_key_digit b) (list_all is_key_digit w) all)) refl

pub hex_is_word : (n : ℕ) → has_no_space (hex n) ≡ true
hex_is_word n = key_digits_no_space (hex n) (hex_digits n)

-- ---- the first word of a line

lacks_space : (w : List ℕ) → AllByRecursion (λ b. b ≢ 32) w → has_no_space w ≡ true
lacks_space [] h = refl
lacks_space (b ∷ w) h = rw (other_byte b h.0, lacks_space w h.1) refl
  where
    other_byte : (b : ℕ) → b ≢ 32 → not (b == 32) ≡ true
    other_byte b other = grind (arith, nat_tests)

no_space : (w : List ℕ) → All (λ b. b ≢ 32) w → has_no_space w ≡ true
no_space w h = lacks_space w (recursion_from_All (λ b. b ≢ 32) w h)

pub one_word : (w : List ℕ) → All (λ b. b ≢ 32) w → words_of w ≡ w ∷ []
one_word w h = words_of_one w (no_space w h)

-- a list, cut before the element at a place
parts : (w : List ℕ) (n x : ℕ) → n < length w → slice_index w n ≡ x → w ≡ take n w ++ x ∷ drop (suc n) w
parts [] n x lt at = absurd (omega (arith, lt))
parts (b ∷ w) zero x lt at = ap (λ (y : ℕ). y ∷ w) at
parts (b ∷ w) (suc n) x lt at = ap (λ (t : List ℕ). b ∷ t) (parts w n x (omega (arith, lt)) at)

first_and_rest : (w : List ℕ) (n : ℕ) → n < length w → All (λ b. b ≢ 32) (take n w) → slice_index w n ≡ 32
    → words_of w ≡ take n w ∷ words_of (take (length w - suc n) (drop (suc n) w))
first_and_rest w n lt before at =
    ap words_of (parts w n 32 lt at)
    ∙ words_of_more (take n w) (drop (suc n) w) (no_space (take n w) before)
    ∙ ap (λ (rest : List ℕ). take n w ∷ words_of rest) (sym (take_rest w (suc n)))

pub first_word : (w : List ℕ) (n : ℕ) → n < length w → All (λ b. b ≢ 32) (take n w) → slice_index w n ≡ 32
    → words_of w ≡ take n w ∷ words_of (take (length w - (n + 1)) (drop (n + 1) w))
first_word w n lt before at = rw add-one (first_and_rest w n lt before at)

pub some_words : (w : List ℕ) → 0 < length (words_of w)
some_words w = omega (arith, length-slice_split (λ b. b == 32) w)

-- ---- the words of a line, put into their places one by one

placed : (ws : List (Bor (List ℕ))) (i : ℕ) (w : Bor (List ℕ)) → i < length ws → map (λ w. w.now) (take (suc i) (slice_set ws i w)) ≡ map (λ w. w.now) (take i ws) ++ w.now ∷ []
placed [] i w lt = absurd (omega (arith, lt))
placed (v ∷ ws) zero w lt = refl
placed (v ∷ ws) (suc i) w lt = ap (λ (t : List (List ℕ)). v.now ∷ t) (placed ws i w (omega (arith, lt)))

pub placed_more : (ws : List (Bor (List ℕ))) (i : ℕ) (w : Bor (List ℕ)) (rest more line : List ℕ) → i < length ws
    → map (λ w. w.now) (take i ws) ++ words_of rest ≡ words_of line → words_of rest ≡ w.now ∷ words_of more
    → map (λ w. w.now) (take (i + 1) (slice_set ws i w)) ++ words_of more ≡ words_of line
placed_more ws i w rest more line lt before cut =
    rw (add-one, placed ws i w lt) (append_assoc (map (λ w. w.now) (take i ws)) (w.now ∷ []) (words_of more) ∙ ap (λ (t : List (List ℕ)). map (λ w. w.now) (take i ws) ++ t) (sym cut) ∙ before)

-- a line of more than five words has no form

no_form : (n : Option Numeral) (k : Option CommandName) (a b c d : List ℕ) (fields : List (List ℕ)) → Err kind.Line ≡ command_line n (named k (a ∷ b ∷ c ∷ d ∷ fields))
no_form None k a b c d fields = refl
no_form (Some n) None a b c d fields = refl
no_form (Some n) (Some Register) a b c d fields = refl
no_form (Some n) (Some Ignore) a b c d fields = refl
no_form (Some n) (Some Reserve) a b c d fields = refl
no_form (Some n) (Some Release) a b c d fields = refl
no_form (Some n) (Some Clear) a b c d fields = refl
no_form (Some n) (Some Preempt) a b c d fields = refl
no_form (Some n) (Some Keys) a b c d fields = refl
no_form (Some n) (Some Holder) a b c d fields = refl
no_form (Some n) (Some Read) a b c d fields = refl
no_form (Some n) (Some Write) a b c d fields = refl
no_form (Some n) (Some Word) a b c d fields = refl
no_form (Some n) (Some Swap) a b c d fields = refl

too_many : (words rest : List (List ℕ)) → length words ≡ 5 → 0 < length rest → Err kind.Line ≡ words_line (words ++ rest)
too_many [] rest five some = absurd (omega (arith, five))
too_many (a ∷ []) rest five some = absurd (omega (arith, five))
too_many (a ∷ b ∷ []) rest five some = absurd (omega (arith, five))
too_many (a ∷ b ∷ c ∷ []) rest five some = absurd (omega (arith, five))
too_many (a ∷ b ∷ c ∷ d ∷ []) rest five some = absurd (omega (arith, five))
too_many (a ∷ b ∷ c ∷ d ∷ e ∷ []) [] five some = absurd (omega (arith, some))
too_many (a ∷ b ∷ c ∷ d ∷ e ∷ []) (f ∷ rest) five some = no_form (decimal_in a) (name_in b) c d e f rest
too_many (a ∷ b ∷ c ∷ d ∷ e ∷ f ∷ words) rest five some = absurd (omega (arith, five))

pub beyond_five : (ws : List (Bor (List ℕ))) (i : ℕ) (rest line : List ℕ) → length ws ≡ 5 → i ≡ 5
    → map (λ w. w.now) (take i ws) ++ words_of rest ≡ words_of line → Err kind.Line ≡ words_line (words_of line)
beyond_five ws i rest line five at all =
    let some : length (map (λ (w : Bor (List ℕ)). w.now) (take i ws)) ≡ 5 = length-map (take i ws) (λ (w : Bor (List ℕ)). w.now) ∙ length-take-le i ws (omega (arith, five, at)) ∙ at in
    too_many (map (λ w. w.now) (take i ws)) (words_of rest) some (some_words rest) ∙ ap words_line all

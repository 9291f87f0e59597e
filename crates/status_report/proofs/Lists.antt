-- Reading lists back.
use Rattle.std.proofs.Common.{◌≡◌, ℕ, zero, suc, ◌+◌, ◌-◌, ◌*◌, ◌/◌, ◌%◌, ◌^◌, ◌<◌, ◌≤◌, Bool, true, false, leb, ◌==◌, ◌&&◌, ◌||◌, if◌then◌else◌, List, [], ◌∷◌, ◌++◌, length, map, refl, sym, ap, subst, ◌∙◌, append-nil, arith, mod-eq_of_lt}
use Rattle.std.specs.List.{AllByRecursion, flat_map}
use Rattle.std.specs.Int.{bit_at}
use Rattle.std.specs.Fmt.{decimal}
use Rattle.std.specs.Str.Parse.{AllDigits, digits_value}
use Rattle.std.specs.Char.{digit_value}
use Rattle.std.proofs.lemmas.Fmt.{digits_is_IsNumeral, decimal_is_IsNumeral}
use Rattle.std.proofs.lemmas.Str.Parse.{digit_from_value}
use Rattle.std.proofs.lemmas.Bool.{eqb-true, leb-true, le-leb, and_from, and_parts}
use Rattle.std.proofs.lemmas.Nat.{mod-pow-add}
use Rattle.std.proofs.lemmas.Nat.Bits.{bit_at-lt}
use Rattle.std.proofs.lemmas.Bool.Decides.{nat_tests}
use Rattle.cl_base.specs.Names.{IsName}
use Rattle.cl_base.specs.Sets.{has}
use Rattle.cl_base.proofs.SetLemmas.{has_at}
use Rattle.cl_base.specs.Numbers.{by_commas, numbers_to, set_text}
use Rattle.status_report.specs.Words.{hex}
use Rattle.status_report.specs.Entries.{IsNumber, IsSet}
use Rattle.status_report.proofs.Reading.{IsWord, below_16, number_is_word}

-- ---- texts cut at each c

abbrev pub Lacks : ℕ → List ℕ → Type 0
Lacks c bytes = AllByRecursion (λ b. (b == c) ≡ false) bytes

abbrev onto : ℕ → List (List ℕ) → List (List ℕ)
onto b [] = (b ∷ []) ∷ []
onto b (word ∷ words) = (b ∷ word) ∷ words

unfoldable pub split : ℕ → List ℕ → List (List ℕ)
split c [] = [] ∷ []
split c (b ∷ bytes) = if b == c then [] ∷ split c bytes else onto b (split c bytes)

split_word : (c : ℕ) (word : List ℕ) → Lacks c word → split c word ≡ word ∷ []
unfolding split
split_word c [] h = refl
split_word c (b ∷ word) h = rw (h.0, split_word c word h.1) refl

same_byte : (c : ℕ) → (c == c) ≡ true
same_byte c = grind (arith, nat_tests)

split_more : (c : ℕ) (word rest : List ℕ) → Lacks c word → split c (word ++ c ∷ rest) ≡ word ∷ split c rest
unfolding split
split_more c [] rest h = rw (same_byte c) refl
split_more c (b ∷ word) rest h = rw (h.0, split_more c word rest h.1) refl

abbrev pub items_of : {A : Type 0} → ℕ → (List ℕ → A) → List ℕ → List A
items_of c read text = map read (split c text)

-- each item's text lacks c, and is read back
abbrev pub Item : {A : Type 0} → ℕ → (A → List ℕ) → (List ℕ → A) → A → Type 0
Item c spell read a = Lacks c (spell a) × (read (spell a) ≡ a)

pub items_again : {A : Type 0} (c : ℕ) (spell : A → List ℕ) (read : List ℕ → A) (x : A) (xs : List A) → AllByRecursion (Item c spell read) (x ∷ xs) → items_of c read (spell x ++ flat_map (λ y. c ∷ spell y) xs) ≡ x ∷ xs
items_again {A} c spell read x [] h = rw (append-nil (spell x), split_word c (spell x) h.0.0, h.0.1) refl
items_again {A} c spell read x (y ∷ xs) h = rw (split_more c (spell x) (spell y ++ flat_map (λ z. c ∷ spell z) xs) h.0.0, h.0.1, items_again c spell read y xs h.1) refl

pub all_items : {A : Type 0} (P Q : A → Type 0) → ((a : A) → P a → Q a) → (xs : List A) → AllByRecursion P xs → AllByRecursion Q xs
all_items P Q to [] h = tt
all_items P Q to (x ∷ xs) h = (to x h.0, all_items P Q to xs h.1)

or_parts : (x y z : Bool) → (x || (y || z)) ≡ false → (x ≡ false) × (y ≡ false) × (z ≡ false)
or_parts true y z h = absurd (cc)
or_parts false true z h = absurd (cc)
or_parts false false true h = absurd (cc)
or_parts false false false h = (refl, refl, refl)

pub word_lacks_space : (word : List ℕ) → IsWord word → Lacks 32 word
word_lacks_space [] h = tt
word_lacks_space (b ∷ word) h = ((or_parts (b == 32) (b == 44) (b == 58) h.0).0, word_lacks_space word h.1)

pub word_lacks_comma : (word : List ℕ) → IsWord word → Lacks 44 word
word_lacks_comma [] h = tt
word_lacks_comma (b ∷ word) h = ((or_parts (b == 32) (b == 44) (b == 58) h.0).1, word_lacks_comma word h.1)

pub lacks_append : (c : ℕ) (a b : List ℕ) → Lacks c a → Lacks c b → Lacks c (a ++ b)
lacks_append c [] b ha hb = hb
lacks_append c (x ∷ a) b ha hb = (ha.0, lacks_append c a b ha.1 hb)

-- ---- the first byte

unfoldable pub starts_digit : List ℕ → Bool
starts_digit [] = false
starts_digit (b ∷ bs) = leb 48 b && leb b 57

-- an `n`, as of `none`
unfoldable pub starts_n : List ℕ → Bool
starts_n [] = false
starts_n (b ∷ bs) = b == 110

digits_start : (ds rest : List ℕ) → 0 < length ds → AllDigits 10 ds → starts_digit (ds ++ rest) ≡ true
unfolding starts_digit
digits_start [] rest some h = absurd (omega (arith, some))
digits_start (d ∷ ds) rest some h = let range = digit_from_value d h.0 in and_from (leb 48 d) (leb d 57) (le-leb 48 d range.0) (le-leb d 57 range.1)

pub decimal_starts : (n : ℕ) (rest : List ℕ) → IsNumber n → starts_digit (decimal n ++ rest) ≡ true
decimal_starts n rest h = let numeral = decimal_is_IsNumeral n h in digits_start (decimal n) rest numeral.0.0 numeral.0.1

pub n_starts : (bs : List ℕ) → starts_n (110 ∷ bs) ≡ true
unfolding starts_n
n_starts bs = refl

no_n : (d : ℕ) (x : Bool) → (d == 110) ≡ x → digit_value d < 16 → x ≡ false
no_n d true e low = let same : d ≡ 110 = eqb-true d 110 e in absurd (omega (arith, subst (λ (v : ℕ). digit_value v < 16) same low))
no_n d false e low = refl

digits_start_no_n : (ds rest : List ℕ) → 0 < length ds → AllDigits 16 ds → starts_n (ds ++ rest) ≡ false
unfolding starts_n
digits_start_no_n [] rest some h = absurd (omega (arith, some))
digits_start_no_n (d ∷ ds) rest some h = no_n d (d == 110) refl h.0

pub hex_starts : (n : ℕ) (rest : List ℕ) → IsNumber n → starts_n (hex n ++ rest) ≡ false
hex_starts n rest h = let numeral = digits_is_IsNumeral 16 false (omega arith) (omega arith) n (below_16 n h) in digits_start_no_n (hex n) rest numeral.0.0 numeral.0.1

letter_no_digit : (b : ℕ) (x y : Bool) → (leb b 57) ≡ y → 97 ≤ b → (x && y) ≡ false
letter_no_digit b true true e low = absurd (omega (arith, leb-true b 57 e, low))
letter_no_digit b false true e low = refl
letter_no_digit b true false e low = refl
letter_no_digit b false false e low = refl

pub letter_starts : (b : ℕ) (bs : List ℕ) → (leb 48 b && leb b 57) ≡ false → starts_digit (b ∷ bs) ≡ false
unfolding starts_digit
letter_starts b bs h = h

pub name_starts : (name : List ℕ) → IsName name → starts_digit name ≡ false
unfolding starts_digit
name_starts [] h = refl
name_starts (b ∷ name) h = letter_no_digit b (leb 48 b) (leb b 57) refl (leb-true 97 b (and_parts (leb 97 b) (leb b 122) h.2).0)

-- ---- lists of numbers

pub decimal_item : (n : ℕ) → IsNumber n → Item 44 decimal (digits_value 10) n
decimal_item n h = (word_lacks_comma (decimal n) (number_is_word n h), (decimal_is_IsNumeral n h).1)

abbrev pub list_of : List ℕ → List ℕ
list_of text = if starts_digit text then items_of 44 (digits_value 10) text else []

pub list_again : (ns : List ℕ) → AllByRecursion IsNumber ns → list_of (by_commas ns) ≡ ns
list_again [] h = rw (letter_starts 110 (111 ∷ 110 ∷ 101 ∷ []) refl) refl
list_again (n ∷ ns) h = rw (decimal_starts n (flat_map (λ y. 44 ∷ decimal y) ns) h.0, items_again 44 decimal (digits_value 10) n ns (all_items IsNumber (Item 44 decimal (digits_value 10)) decimal_item (n ∷ ns) h)) refl

tails_lack : (ns : List ℕ) → AllByRecursion IsNumber ns → Lacks 32 (flat_map (λ y. 44 ∷ decimal y) ns)
tails_lack [] h = tt
tails_lack (n ∷ ns) h = (refl, lacks_append 32 (decimal n) (flat_map (λ y. 44 ∷ decimal y) ns) (word_lacks_space (decimal n) (number_is_word n h.0)) (tails_lack ns h.1))

pub list_lacks_space : (ns : List ℕ) → AllByRecursion IsNumber ns → Lacks 32 (by_commas ns)
list_lacks_space [] h = (refl, (refl, (refl, (refl, tt))))
list_lacks_space (n ∷ ns) h = lacks_append 32 (decimal n) (flat_map (λ y. 44 ∷ decimal y) ns) (word_lacks_space (decimal n) (number_is_word n h.0)) (tails_lack ns h.1)

-- ---- sets

-- the set of these numbers
abbrev pub worth : List ℕ → ℕ
worth [] = 0
worth (n ∷ ns) = 2 ^ (n - 1) + worth ns

worth_more : (ns : List ℕ) (n : ℕ) → worth (ns ++ n ∷ []) ≡ worth ns + 2 ^ (n - 1)
worth_more [] n = omega arith
worth_more (m ∷ ns) n = rw (worth_more ns n) (omega arith)

one_more : (set k bit low : ℕ) → set / 2 ^ k % 2 ≡ bit → set % 2 ^ k ≡ low → set % 2 ^ suc k ≡ bit * 2 ^ k + low
one_more set k bit low eb el =
    let at : suc k ≡ 1 + k = omega arith in
    let step : set % 2 ^ (1 + k) ≡ (set / 2 ^ k % 2 ^ 1) * 2 ^ k + set % 2 ^ k = mod-pow-add set 1 k in
    rw at (step ∙ rw (eb, el) refl)

at_next : (set k : ℕ) → has set (suc k) ≡ (bit_at set k == 1)
at_next set k =
    let same : suc k - 1 ≡ k = omega arith in
    subst (λ (i : ℕ). has set (suc k) ≡ (bit_at set i == 1)) same (has_at set (suc k) (omega arith))

chosen_worth : (set k : ℕ) (taken : Bool) (ns : List ℕ) → taken ≡ (bit_at set k == 1) → worth ns ≡ set % 2 ^ k → worth (if taken then ns ++ suc k ∷ [] else ns) ≡ set % 2 ^ suc k
chosen_worth set k true ns e h =
    let bit : bit_at set k ≡ 1 = eqb-true (bit_at set k) 1 (sym e) in
    let place : suc k - 1 ≡ k = omega arith in
    worth_more ns (suc k) ∙ rw place (sym (one_more set k 1 (worth ns) bit (sym h) ∙ omega arith))
chosen_worth set k false ns e h =
    let low : bit_at set k < 2 = bit_at-lt set k in
    let bit : bit_at set k ≡ 0 = grind (arith, nat_tests) in
    sym (one_more set k 0 (worth ns) bit (sym h) ∙ omega arith)

numbers_worth : (set k : ℕ) → worth (numbers_to set k) ≡ set % 2 ^ k
numbers_worth set zero = omega arith
numbers_worth set (suc k) = chosen_worth set k (has set (suc k)) (numbers_to set k) (at_next set k) (numbers_worth set k)

chosen_numbers : (k : ℕ) (taken : Bool) (ns : List ℕ) → suc k < 2 ^ 64 → AllByRecursion IsNumber ns → AllByRecursion IsNumber (if taken then ns ++ suc k ∷ [] else ns)
chosen_numbers k false ns low h = h
chosen_numbers k true [] low h = (low, tt)
chosen_numbers k true (n ∷ ns) low h = (h.0, chosen_numbers k true ns low h.1)

numbers_are_numbers : (set k : ℕ) → k < 2 ^ 64 → AllByRecursion IsNumber (numbers_to set k)
numbers_are_numbers set zero low = tt
numbers_are_numbers set (suc k) low = chosen_numbers k (has set (suc k)) (numbers_to set k) low (numbers_are_numbers set k (omega (arith, low)))

pub set_numbers : (set : ℕ) → AllByRecursion IsNumber (numbers_to set 32)
set_numbers set = numbers_are_numbers set 32 (omega arith)

abbrev pub set_of : List ℕ → ℕ
set_of text = worth (list_of text)

set_back : (set : ℕ) → IsSet set → set_of (set_text set) ≡ set
unfolding set_text
set_back set h = ap worth (list_again (numbers_to set 32) (set_numbers set)) ∙ numbers_worth set 32 ∙ mod-eq_of_lt h

set_lacks_space : (set : ℕ) → Lacks 32 (set_text set)
unfolding set_text
set_lacks_space set = list_lacks_space (numbers_to set 32) (set_numbers set)

-- the text up to a space
unfoldable pub token_at : List ℕ → List ℕ × List ℕ
token_at [] = ([], [])
token_at (b ∷ bs) = if b == 32 then ([], b ∷ bs) else (b ∷ (token_at bs).0, (token_at bs).1)

token_more : (token rest : List ℕ) → Lacks 32 token → token_at (token ++ 32 ∷ rest) ≡ (token, 32 ∷ rest)
unfolding token_at
token_more [] rest h = refl
token_more (b ∷ token) rest h = rw (h.0, token_more token rest h.1) refl

unfoldable pub set_at : List ℕ → ℕ × List ℕ
set_at text = (set_of (token_at text).0, (token_at text).1)

pub set_more : (set : ℕ) (rest : List ℕ) → IsSet set → set_at (set_text set ++ 32 ∷ rest) ≡ (set, 32 ∷ rest)
unfolding set_at
set_more set rest h = rw (token_more (set_text set) rest (set_lacks_space set), set_back set h) refl

pub set_last : (set : ℕ) → IsSet set → set_of (set_text set) ≡ set
set_last set h = set_back set h

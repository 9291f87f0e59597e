-- Single operands are read back.
use Rattle.std.proofs.Common.{◌≡◌, ℕ, zero, suc, ◌^◌, ◌<◌, ◌==◌, not, ◌&&◌, Bool, true, false, List, [], ◌∷◌, ◌++◌, length, slice_index, Some, None, Ok, refl, sym, ap, ◌∙◌, append_assoc, append-nil, arith, le-leb, lt-ltb, rules}
use Rattle.std.specs.Char.{is_ascii_digit}
use Rattle.std.specs.Fmt.{decimal}
use Rattle.std.specs.List.{AllByRecursion, flat_map, list_all}
use Rattle.std.specs.Str.Parse.{digits_value}
use Rattle.std.proofs.lemmas.Bool.Decides.{nat_tests}
use Rattle.std.proofs.lemmas.Fmt.{decimal_is_IsNumeral, decimal_nonempty, decimal_digit, first_decimal}
use Rattle.std.proofs.lemmas.Str.Parse.{IsNumeralModel, numerals_by_value}
use Rattle.cl_base.specs.Limits.{most_nodes}
use Rattle.cl_base.specs.Names.{IsName, is_letter}
use Rattle.cl_base.specs.declared.refusal.Thing.{Thing}
use Rattle.cl_base.specs.declared.refusal.Thing.TheVariants.{Named, Numbered}
use Rattle.rg_props.specs.Values.{items_from}
use Rattle.rg_props.specs.Words.{decimal_in, has_no_leading_zero, is_decimal, name_in}
use Rattle.rg_props.proofs.NameLemmas.{name_read}
use Rattle.status_report.specs.CommandLines.{thing_text}
use Rattle.status_report.specs.Words.{joined}
use Rattle.status_report.proofs.Lists.{Lacks, all_items, lacks_append, word_lacks_comma, word_lacks_space}
use Rattle.status_report.proofs.Reading.{name_is_word, number_is_word}
use Rattle.answer_words.specs.Operands.{names_in, node_in, thing_in}
use Rattle.answer_words.specs.Laws.{AreNames, IsNode, IsThing}
use Rattle.answer_words.proofs.Cuts.{items_cut}

-- ---- numbers

abbrev Digits : List ℕ → Type 0
Digits word = list_all is_ascii_digit word ≡ true

digits : IsNumeralModel Digits (digits_value 10)
digits = numerals_by_value Digits (search rules)

all_digits : (n : ℕ) → n < 2 ^ 64 → list_all is_ascii_digit (decimal n) ≡ true
all_digits n small = digits.from (decimal n) (decimal_is_IsNumeral n small).0.1

some_digit : (w : List ℕ) → 0 < length w → not (length w == 0) ≡ true
some_digit w h = grind (arith, nat_tests)

above_zero : (w : List ℕ) → 48 < slice_index w 0 → has_no_leading_zero w ≡ true
above_zero w h = grind (arith, nat_tests)

no_leading_zero : (n : ℕ) → n < 2 ^ 64 → has_no_leading_zero (decimal n) ≡ true
no_leading_zero zero small = rw (decimal_digit 0 (omega arith)) refl
no_leading_zero (suc n) small = above_zero (decimal (suc n)) (first_decimal (suc n) (omega arith) small)

decimal_is_decimal : (n : ℕ) → n < 2 ^ 64 → is_decimal (decimal n) ≡ true
decimal_is_decimal n small = rw (some_digit (decimal n) (decimal_nonempty n small), no_leading_zero n small, all_digits n small) refl

pub number_known : (n : ℕ) → n < 2 ^ 64 → decimal_in (decimal n) ≡ Some n
number_known n small = rw (decimal_is_decimal n small, (decimal_is_IsNumeral n small).1, lt-ltb n (2 ^ 64) small) refl

pub number_word : (n : ℕ) → n < 2 ^ 64 → Lacks 32 (decimal n)
number_word n small = word_lacks_space (decimal n) (number_is_word n small)

-- ---- nodes

node_small : (n : ℕ) → IsNode n → n < 2 ^ 64
node_small n h = omega (arith, h.1)

pub node_known : (n : ℕ) → IsNode n → node_in (decimal n) ≡ Some n
unfolding node_in
node_known n h = rw (number_known n (node_small n h), le-leb 1 n h.0, le-leb n most_nodes h.1) refl

pub node_word : (n : ℕ) → IsNode n → Lacks 32 (decimal n)
node_word n h = number_word n (node_small n h)

-- ---- names

pub name_known : (w : List ℕ) → IsName w → name_in w ≡ Some w
name_known w h = sym (name_read {E = ℕ} w (Ok w) (refl, h))

pub name_word : (w : List ℕ) → IsName w → Lacks 32 w
name_word w h = word_lacks_space w (name_is_word w h)

letter_is_no_digit : (b : ℕ) → is_letter b ≡ true → is_ascii_digit b ≡ false
letter_is_no_digit b is = grind (arith, nat_tests)

and_false : (a : Bool) → (a && false) ≡ false
and_false true = refl
and_false false = refl

no_digit_leads : (b : ℕ) (w : List ℕ) → is_ascii_digit b ≡ false → is_decimal (b ∷ w) ≡ false
no_digit_leads b w other = rw other (and_false (not (length (b ∷ w) == 0) && has_no_leading_zero (b ∷ w)))

name_is_no_number : (w : List ℕ) → IsName w → decimal_in w ≡ None
name_is_no_number [] h = absurd (omega (arith, h.0))
name_is_no_number (b ∷ w) h = rw (no_digit_leads b w (letter_is_no_digit b h.2)) refl

-- ---- what is unknown

pub thing_known : (t : Thing) → IsThing t → thing_in (thing_text t) ≡ Some t
unfolding thing_in
thing_known (Named name) h = rw (name_is_no_number name h, name_known name h) refl
thing_known (Numbered n) h = rw (number_known n h) refl

pub thing_word : (t : Thing) → IsThing t → Lacks 32 (thing_text t)
thing_word (Named name) h = name_word name h
thing_word (Numbered n) h = number_word n h

-- ---- cycles

names_from : (before names : List (List ℕ)) → AllByRecursion IsName names → items_from name_in before names ≡ Some (before ++ names)
names_from before [] h = rw (append-nil before) refl
names_from before (name ∷ names) h = rw (name_known name h.0, names_from (before ++ name ∷ []) names h.1, append_assoc before (name ∷ []) names) refl

name_item : (w : List ℕ) → IsName w → Lacks 44 w
name_item w h = word_lacks_comma w (name_is_word w h)

pub names_known : (names : List (List ℕ)) → AreNames names → names_in (joined 44 (λ name. name) names) ≡ Some names
unfolding names_in
names_known [] h = absurd (omega (arith, h.0))
names_known (name ∷ names) h =
    ap (λ (parts : List (List ℕ)). items_from name_in [] parts) (items_cut name names (all_items IsName (Lacks 44) name_item (name ∷ names) h.1))
    ∙ names_from [] (name ∷ names) h.1

more_names_word : (names : List (List ℕ)) → AllByRecursion IsName names → Lacks 32 (flat_map (λ name. 44 ∷ name) names)
more_names_word [] h = tt
more_names_word (name ∷ names) h = (refl, lacks_append 32 name (flat_map (λ w. 44 ∷ w) names) (name_word name h.0) (more_names_word names h.1))

pub names_word : (names : List (List ℕ)) → AreNames names → Lacks 32 (joined 44 (λ name. name) names)
names_word [] h = tt
names_word (name ∷ names) h = lacks_append 32 name (flat_map (λ w. 44 ∷ w) names) (name_word name h.1.0) (more_names_word names h.1.1)

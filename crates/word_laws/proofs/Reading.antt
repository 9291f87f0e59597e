-- Single operands, and lists of them, are read back.
use Rattle.std.proofs.Common.{◌≡◌, ℕ, zero, suc, ◌+◌, ◌%◌, ◌^◌, ◌<◌, ◌≤◌, ◌==◌, not, ◌&&◌, ◌||◌, nat_le, Bool, true, false, List, [], ◌∷◌, ◌++◌, length, slice_index, Option, Some, None, Ok, refl, sym, ap, ◌∙◌, subst, arith, le-leb, lt-ltb}
use Rattle.std.specs.Char.{is_ascii_digit}
use Rattle.std.specs.Fmt.{decimal}
use Rattle.std.specs.List.{AllByRecursion, list_all}
use Rattle.std.proofs.lemmas.Bool.Decides.{nat_tests}
use Rattle.std.proofs.lemmas.Fmt.{decimal_by_steps, decimal_is_IsNumeral, decimal_nonempty, decimal_digit, first_decimal}
use Rattle.std.proofs.lemmas.List.Folds.{list_all-append}
use Rattle.std.proofs.lemmas.List.Sums.{list_all-from_AllPass}
use Rattle.cl_base.specs.Limits.{most_devices}
use Rattle.cl_base.specs.Names.{IsName, is_name_byte}
use Rattle.cl_base.specs.declared.header.Version.{Version}
use Rattle.cl_base.specs.declared.header.Version.TheVariants.{One, Two}
use Rattle.rg_props.specs.Values.{most_of, nodes_in}
use Rattle.rg_props.specs.Words.{has_no_leading_zero, is_decimal, name_in, number_in, parts_at}
use Rattle.rg_props.proofs.NameLemmas.{name_read}
use Rattle.ccr_tables.specs.declared.address.Weight.{Weight}
use Rattle.update_words.specs.Joined.{joined}
use Rattle.update_words.specs.Words.{nodes_text, weight_text, weights_text}
use Rattle.admin_words.specs.Operands.{device_in, load_in, node_in, weight_in, weights_in}
use Rattle.word_laws.specs.Spelled.{AreNodesOf, AreWeightsOf, IsDevice, IsNodeOf, IsWeightOf}
use Rattle.word_laws.proofs.Split.{EachLacks, all_to, items_known, lacks, lacks_joined, parts_joined, weaker}

-- ---- names

pub name_known : (w : List ℕ) → IsName w → name_in w ≡ Some w
name_known w h = sym (name_read {E = ℕ} w (Ok w) (refl, h))

name_byte : (b : ℕ) → is_name_byte b ≡ true → not (b == 32) ≡ true
name_byte b is = grind (arith, nat_tests)

pub name_word : (w : List ℕ) → IsName w → lacks 32 w ≡ true
name_word w h = weaker is_name_byte (λ b. not (b == 32)) name_byte w (list_all-from_AllPass is_name_byte w h.3)

-- ---- numbers

digit_is_digit : (d : ℕ) → d < 10 → is_ascii_digit (48 + d) ≡ true
digit_is_digit d low = grind (arith, nat_tests)

one_digit : (n : ℕ) → n < 10 → list_all is_ascii_digit ((48 + n) ∷ []) ≡ true
one_digit n low = rw (digit_is_digit n low) refl

more_digits : (n : ℕ) (ds : List ℕ) → list_all is_ascii_digit ds ≡ true → list_all is_ascii_digit (ds ++ ((48 + n % 10) ∷ [])) ≡ true
more_digits n ds all = rw (list_all-append is_ascii_digit ds ((48 + n % 10) ∷ []), all, one_digit (n % 10) (omega arith)) refl

decimal_digits : (n : ℕ) → n < 2 ^ 64 → list_all is_ascii_digit (decimal n) ≡ true
decimal_digits n low = decimal_by_steps (λ n ds. list_all is_ascii_digit ds ≡ true) one_digit (λ n ds big all. more_digits n ds all) n low

no_space : (b : ℕ) → is_ascii_digit b ≡ true → not (b == 32) ≡ true
no_space b is = grind (arith, nat_tests)

no_comma : (b : ℕ) → is_ascii_digit b ≡ true → not (b == 44) ≡ true
no_comma b is = grind (arith, nat_tests)

no_at : (b : ℕ) → is_ascii_digit b ≡ true → not (b == 64) ≡ true
no_at b is = grind (arith, nat_tests)

pub number_word : (n : ℕ) → n < 2 ^ 64 → lacks 32 (decimal n) ≡ true
number_word n low = weaker is_ascii_digit (λ b. not (b == 32)) no_space (decimal n) (decimal_digits n low)

number_item : (n : ℕ) → n < 2 ^ 64 → lacks 44 (decimal n) ≡ true
number_item n low = weaker is_ascii_digit (λ b. not (b == 44)) no_comma (decimal n) (decimal_digits n low)

number_part : (n : ℕ) → n < 2 ^ 64 → lacks 64 (decimal n) ≡ true
number_part n low = weaker is_ascii_digit (λ b. not (b == 64)) no_at (decimal n) (decimal_digits n low)

some_word : (w : List ℕ) → 0 < length w → not (length w == 0) ≡ true
some_word w h = grind (arith, nat_tests)

above_zero : (w : List ℕ) → 48 < slice_index w 0 → has_no_leading_zero w ≡ true
above_zero w h = grind (arith, nat_tests)

no_leading_zero : (n : ℕ) → n < 2 ^ 64 → has_no_leading_zero (decimal n) ≡ true
no_leading_zero zero low = rw (decimal_digit 0 (omega arith)) refl
no_leading_zero (suc n) low = above_zero (decimal (suc n)) (first_decimal (suc n) (omega arith) low)

decimal_is_decimal : (n : ℕ) → n < 2 ^ 64 → is_decimal (decimal n) ≡ true
decimal_is_decimal n low = rw (some_word (decimal n) (decimal_nonempty n low), no_leading_zero n low, decimal_digits n low) refl

pub number_known : (least most n : ℕ) → least ≤ n → n ≤ most → n < 2 ^ 64 → number_in least most (decimal n) ≡ Some n
unfolding number_in
number_known least most n low high small =
    rw (decimal_is_decimal n small, (decimal_is_IsNumeral n small).1, lt-ltb n (2 ^ 64) small, le-leb least n low, le-leb n most high) refl

most_small : (v : Version) → most_of v ≤ 32
most_small One = omega arith
most_small Two = omega arith

-- ---- nodes, devices, loads

pub node_small : (v : Version) (n : ℕ) → IsNodeOf v n → n < 2 ^ 64
node_small v n h = omega (arith, h.high, most_small v)

pub node_known : (v : Version) (n : ℕ) → IsNodeOf v n → node_in v (decimal n) ≡ Some n
node_known v n h = number_known 1 (most_of v) n h.low h.high (node_small v n h)

pub node_word : (v : Version) (n : ℕ) → IsNodeOf v n → lacks 32 (decimal n) ≡ true
node_word v n h = number_word n (node_small v n h)

device_small : (d : ℕ) → IsDevice d → d < 2 ^ 64
device_small d h = omega (arith, h.high)

pub device_known : (d : ℕ) → IsDevice d → device_in (decimal d) ≡ Some d
device_known d h = number_known 1 most_devices d h.low h.high (device_small d h)

pub device_word : (d : ℕ) → IsDevice d → lacks 32 (decimal d) ≡ true
device_word d h = number_word d (device_small d h)

pub load_known : (n : ℕ) → n ≤ 1000000 → load_in (decimal n) ≡ Some n
load_known n h = number_known 0 1000000 n (omega arith) h (omega (arith, h))

pub load_word : (n : ℕ) → n ≤ 1000000 → lacks 32 (decimal n) ≡ true
load_word n h = number_word n (omega (arith, h))

-- ---- lists

pub list_word : {A : Type 0} (spell : A → List ℕ) (xs : List A) → 1 ≤ length xs → EachLacks 32 spell xs → lacks 32 (joined 44 spell xs) ≡ true
list_word {A} spell [] some h = absurd (omega (arith, some))
list_word {A} spell (x ∷ xs) some h = lacks_joined 32 44 spell x xs refl h

pub nodes_known : (v : Version) (nodes : List ℕ) → AreNodesOf v nodes → nodes_in (most_of v) (nodes_text nodes) ≡ Some nodes
nodes_known v nodes h =
    let lack : EachLacks 44 decimal nodes = all_to (IsNodeOf v) (λ n. lacks 44 (decimal n) ≡ true) (λ n is. number_item n (node_small v n is)) nodes h.each in
    let reads : AllByRecursion (λ n. number_in 1 (most_of v) (decimal n) ≡ Some n) nodes = all_to (IsNodeOf v) (λ n. number_in 1 (most_of v) (decimal n) ≡ Some n) (node_known v) nodes h.each in
    rw (items_known (number_in 1 (most_of v)) decimal nodes h.some h.few lack reads, h.distinct) refl

pub nodes_word : (v : Version) (nodes : List ℕ) → AreNodesOf v nodes → lacks 32 (nodes_text nodes) ≡ true
nodes_word v nodes h = list_word decimal nodes h.some (all_to (IsNodeOf v) (λ n. lacks 32 (decimal n) ≡ true) (node_word v) nodes h.each)

-- ---- weights

weight_small : (v : Version) (w : Weight) → IsWeightOf v w → w.weight < 2 ^ 64
weight_small v w h = omega (arith, h.weight)

weight_lacks : (c : ℕ) (v : Version) (w : Weight) → not (64 == c) ≡ true → lacks c (decimal w.weight) ≡ true → lacks c (decimal w.node) ≡ true → lacks c (weight_text w) ≡ true
weight_lacks c v w other front back = rw (list_all-append (λ b. not (b == c)) (decimal w.weight) (64 ∷ decimal w.node), front, other, back) refl

weight_parts : (v : Version) (w : Weight) → IsWeightOf v w → parts_at 64 (weight_text w) ≡ decimal w.weight ∷ decimal w.node ∷ []
weight_parts v w h =
    ap (λ (back : List ℕ). parts_at 64 (decimal w.weight ++ 64 ∷ back)) (sym (Rattle.std.proofs.Common.append-nil (decimal w.node)))
    ∙ parts_joined 64 decimal w.weight (w.node ∷ []) (number_part w.weight (weight_small v w h), (number_part w.node (node_small v w.node h.node), tt))

weight_known : (v : Version) (w : Weight) → IsWeightOf v w → weight_in v (weight_text w) ≡ Some w
unfolding weight_in
weight_known v w h = rw (weight_parts v w h, number_known 0 1000 w.weight (omega arith) h.weight (weight_small v w h), node_known v w.node h.node) refl

pub weights_known : (v : Version) (weights : List Weight) → AreWeightsOf v weights → weights_in v (weights_text weights) ≡ Some weights
weights_known v weights h =
    items_known (weight_in v) weight_text weights h.some h.few
    (all_to (IsWeightOf v) (λ w. lacks 44 (weight_text w) ≡ true) (λ w is. weight_lacks 44 v w refl (number_item w.weight (weight_small v w is)) (number_item w.node (node_small v w.node is.node))) weights h.each)
    (all_to (IsWeightOf v) (λ w. weight_in v (weight_text w) ≡ Some w) (weight_known v) weights h.each)

pub weights_word : (v : Version) (weights : List Weight) → AreWeightsOf v weights → lacks 32 (weights_text weights) ≡ true
weights_word v weights h =
    list_word weight_text weights h.some
    (all_to (IsWeightOf v) (λ w. lacks 32 (weight_text w) ≡ true) (λ w is. weight_lacks 32 v w refl (number_word w.weight (weight_small v w is)) (node_word v w.node is.node)) weights h.each)

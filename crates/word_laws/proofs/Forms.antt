-- What is read as an operand has the form of one.
use Rattle.std.proofs.Common.{◌≡◌, ℕ, suc, ◌+◌, ◌≤◌, ◌==◌, not, ◌&&◌, ◌||◌, nat_le, Bool, true, false, if◌then◌else◌, List, [], ◌∷◌, ◌++◌, length, slice_index, Option, Some, None, refl, ap, ◌∙◌, subst, arith}
use Rattle.std.specs.List.{AllByRecursion, fold, list_all, onto_first}
use Rattle.std.specs.Option.{option_map}
use Rattle.std.proofs.lemmas.Bool.Decides.{nat_tests}
use Rattle.std.proofs.lemmas.List.{length-append}
use Rattle.std.proofs.lemmas.List.Splits.{length-slice_split}
use Rattle.std.proofs.lemmas.List.Sums.{AllPass-from_list_all}
use Rattle.cl_base.specs.Limits.{most_devices}
use Rattle.cl_base.specs.Methods.{has_method, place_of}
use Rattle.cl_base.specs.Names.{IsName, is_letter, is_name_byte}
use Rattle.cl_base.specs.Sets.{has, set_with}
use Rattle.cl_base.proofs.SetLemmas.{has_with, none_of_zero, or_bit_value}
use Rattle.cl_base.specs.declared.header.Version.{Version}
use Rattle.cl_base.specs.declared.method.Method.{Method}
use Rattle.cl_base.specs.declared.method.Method.TheVariants.{PrenetStart, Start, MonitorStart, MonitorCheck, MonitorStop, Stop, PostnetStop, Validate, Init, Fini, Boot, Update}
use Rattle.rg_props.specs.Values.{and_then, are_distinct, are_few, items_from, items_in, kept_if, most_of, nodes_in, same_node}
use Rattle.rg_props.specs.Words.{decimal_in, is_name, name_in, number_in, parts_at, within}
use Rattle.ccr_tables.specs.declared.address.Weight.{Weight}
use Rattle.ccr_tables.specs.Refusals.{is_complete}
use Rattle.update_words.specs.Methods.{all_methods}
use Rattle.admin_words.specs.Methods.{are_complete, in_order, lists, method_in, methods_in, set_of}
use Rattle.admin_words.specs.Operands.{device_in, load_in, node_in, weight_in, weight_of, weights_in}
use Rattle.admin_words.proofs.MethodLemmas.{set_told}
use Rattle.word_laws.specs.Spelled.{AreMethods, AreNodesOf, AreWeightsOf, IsDevice, IsNodeOf, IsWeightOf}
use Rattle.word_laws.proofs.Methods.{any_filter, lists_test}
use Rattle.word_laws.proofs.Split.{first, lacks, second}

-- ---- options

-- of what is there, if it is
abbrev pub OnSome : {A : Type 0} → (A → Type 0) → Option A → Type 0
OnSome P None = Unit {0}
OnSome P (Some x) = P x

pub on_if : {A : Type 0} → (P : A → Type 0) (b : Bool) (x : A) → (b ≡ true → P x) → OnSome P (if b then Some x else None)
on_if P true x h = h refl
on_if P false x h = tt

pub on_map : {A B : Type 0} → (P : B → Type 0) (f : A → B) (o : Option A) → OnSome (λ x. P (f x)) o → OnSome P (option_map f o)
on_map P f None h = tt
on_map P f (Some x) h = h

pub on_then : {A B : Type 0} → (P : B → Type 0) (go : A → Option B) (o : Option A) → OnSome (λ x. OnSome P (go x)) o → OnSome P (and_then o go)
on_then P go None h = tt
on_then P go (Some x) h = h

pub on_more : {A : Type 0} → (P Q : A → Type 0) (o : Option A) → ((x : A) → P x → Q x) → OnSome P o → OnSome Q o
on_more P Q None f h = tt
on_more P Q (Some x) f h = f x h

pub on_kept : {A : Type 0} → (P : A → Type 0) (test : A → Bool) (o : Option A) → OnSome P o → OnSome (λ x. P x × (test x ≡ true)) (kept_if test o)
on_kept P test None h = tt
on_kept P test (Some x) h = on_if (λ y. P y × (test y ≡ true)) (test x) x (λ e. (h, e))

-- ---- words

abbrev pub Lacks : List ℕ → Type 0
Lacks w = lacks 32 w ≡ true

other_byte : (b c : ℕ) → (b == c) ≡ false → not (b == c) ≡ true
other_byte b c h = ap not h

onto_lacks : (c b : ℕ) (parts : List (List ℕ)) → (b == c) ≡ false → AllByRecursion (λ w. lacks c w ≡ true) parts → AllByRecursion (λ w. lacks c w ≡ true) (onto_first b parts)
onto_lacks c b [] other h = (rw (other_byte b c other) refl, tt)
onto_lacks c b (part ∷ parts) other h = (rw (other_byte b c other) h.0, h.1)

-- the parts between separators have none
pub parts_lack : (c : ℕ) (bytes : List ℕ) → AllByRecursion (λ w. lacks c w ≡ true) (parts_at c bytes)
parts_lack c [] = (refl, tt)
parts_lack c (b ∷ bytes) = by_test (b == c) refl (parts_lack c bytes)
  where
    by_test : (t : Bool) → (b == c) ≡ t → AllByRecursion (λ w. lacks c w ≡ true) (parts_at c bytes)
        → AllByRecursion (λ w. lacks c w ≡ true) (if t then [] ∷ parts_at c bytes else onto_first b (parts_at c bytes))
    by_test true e h = (refl, h)
    by_test false e h = onto_lacks c b (parts_at c bytes) e h

-- ---- single operands

le_is : (a b : ℕ) → nat_le a b ≡ true → a ≤ b
le_is a b h = grind (arith, nat_tests)

-- four tests at once
pub all_four : (a b c d : Bool) → (a && b && c && d) ≡ true → (a ≡ true) × (b ≡ true) × (c ≡ true) × (d ≡ true)
all_four true true true true h = (refl, refl, refl, refl)
all_four true true true false h = absurd (cc)
all_four true true false d h = absurd (cc)
all_four true false c d h = absurd (cc)
all_four false b c d h = absurd (cc)

pub name_reads : (w : List ℕ) → OnSome IsName (name_in w)
unfolding name_in
name_reads w = on_if IsName (is_name w) w (λ e.
    let h : (nat_le 1 (length w) ≡ true) × (nat_le (length w) 32 ≡ true) × (is_letter (slice_index w 0) ≡ true) × (list_all is_name_byte w ≡ true) =
    all_four (nat_le 1 (length w)) (nat_le (length w) 32) (is_letter (slice_index w 0)) (list_all is_name_byte w) e in
    (le_is 1 (length w) h.0, le_is (length w) 32 h.1, h.2, AllPass-from_list_all is_name_byte w h.3))

abbrev Between : ℕ → ℕ → ℕ → Type 0
Between least most n = (least ≤ n) × (n ≤ most)

within_reads : (least most : ℕ) (o : Option ℕ) → OnSome (Between least most) (within least most o)
within_reads least most None = tt
within_reads least most (Some n) = on_if (Between least most) (nat_le least n && nat_le n most) n (λ e.
    (le_is least n (first (nat_le least n) (nat_le n most) e), le_is n most (second (nat_le least n) (nat_le n most) e)))

number_reads : (least most : ℕ) (w : List ℕ) → OnSome (Between least most) (number_in least most w)
unfolding number_in
number_reads least most w = within_reads least most (decimal_in w)

pub node_reads : (v : Version) (w : List ℕ) → OnSome (IsNodeOf v) (node_in v w)
node_reads v w = on_more (Between 1 (most_of v)) (IsNodeOf v) (node_in v w) (λ n h. record { low = h.0; high = h.1 }) (number_reads 1 (most_of v) w)

pub device_reads : (w : List ℕ) → OnSome IsDevice (device_in w)
device_reads w = on_more (Between 1 most_devices) IsDevice (device_in w) (λ n h. record { low = h.0; high = h.1 }) (number_reads 1 most_devices w)

pub load_reads : (w : List ℕ) → OnSome (λ n. n ≤ 1000000) (load_in w)
load_reads w = on_more (Between 0 1000000) (λ n. n ≤ 1000000) (load_in w) (λ n h. h.1) (number_reads 0 1000000 w)

-- ---- lists of operands

all_more : {A : Type 0} → (P : A → Type 0) (xs : List A) (y : A) → AllByRecursion P xs → P y → AllByRecursion P (xs ++ y ∷ [])
all_more P [] y h p = (p, tt)
all_more P (x ∷ xs) y h p = (h.0, all_more P xs y h.1 p)

-- so many items, each of which has the form
abbrev Many : {A : Type 0} → (A → Type 0) → ℕ → List A → Type 0
Many P count xs = AllByRecursion P xs × (length xs ≡ count)

one_further : {A : Type 0} (before : List A) (x : A) (more : ℕ) → length (before ++ x ∷ []) + more ≡ length before + suc more
one_further before x more = ap (λ k. k + more) (length-append before (x ∷ [])) ∙ same (length before) more
  where
    same : (a b : ℕ) → a + 1 + b ≡ a + suc b
    same a b = omega arith

from_reads : {A : Type 0} (P : A → Type 0) (read : List ℕ → Option A) → ((w : List ℕ) → OnSome P (read w)) → (before : List A) (parts : List (List ℕ)) → AllByRecursion P before
    → OnSome (Many P (length before + length parts)) (items_from read before parts)
from_reads P read good before [] h = (h, plain (length before))
  where
    plain : (k : ℕ) → k ≡ k + 0
    plain k = omega arith
from_reads {A} P read good before (part ∷ parts) h =
    on_then (Many P (length before + length (part ∷ parts))) (λ x. items_from read (before ++ x ∷ []) parts) (read part)
    (on_more P (λ x. OnSome (Many P (length before + length (part ∷ parts))) (items_from read (before ++ x ∷ []) parts)) (read part)
    (λ x p. on_more (Many P (length (before ++ x ∷ []) + length parts)) (Many P (length before + length (part ∷ parts))) (items_from read (before ++ x ∷ []) parts)
    (λ xs m. (m.0, m.1 ∙ one_further before x (length parts))) (from_reads P read good (before ++ x ∷ []) parts (all_more P before x h p)))
    (good part))

-- at least one and at most 32
abbrev pub Few : {A : Type 0} → (A → Type 0) → List A → Type 0
Few P xs = (1 ≤ length xs) × (length xs ≤ 32) × AllByRecursion P xs

some_parts : (value : List ℕ) → 1 ≤ length (parts_at 44 value)
some_parts value = omega (arith, length-slice_split (λ b. b == 44) value)

if_reads : {A : Type 0} (P : A → Type 0) (b : Bool) (o : Option A) → (b ≡ true → OnSome P o) → OnSome P (if b then o else None)
if_reads P true o h = h refl
if_reads P false o h = tt

pub items_reads : {A : Type 0} (P : A → Type 0) (read : List ℕ → Option A) → ((w : List ℕ) → OnSome P (read w)) → (value : List ℕ) → OnSome (Few P) (items_in read value)
items_reads {A} P read good value =
    if_reads (Few P) (are_few (parts_at 44 value)) (items_from read [] (parts_at 44 value)) (λ e.
    on_more (Many P (0 + length (parts_at 44 value))) (Few P) (items_from read [] (parts_at 44 value))
    (λ xs m. (low (length xs) (length (parts_at 44 value)) m.1 (some_parts value), high (length xs) (length (parts_at 44 value)) m.1 (le_is (length (parts_at 44 value)) 32 e), m.0))
    (from_reads P read good [] (parts_at 44 value) tt))
  where
    low : (a b : ℕ) → a ≡ 0 + b → 1 ≤ b → 1 ≤ a
    low a b e l = omega (arith, e, l)

    high : (a b : ℕ) → a ≡ 0 + b → b ≤ 32 → a ≤ 32
    high a b e l = omega (arith, e, l)

pub nodes_reads : (v : Version) (w : List ℕ) → OnSome (AreNodesOf v) (nodes_in (most_of v) w)
nodes_reads v w =
    on_more (λ xs. Few (IsNodeOf v) xs × (are_distinct same_node xs ≡ true)) (AreNodesOf v) (nodes_in (most_of v) w)
    (λ xs h. record { some = h.0.0; few = h.0.1; each = h.0.2; distinct = h.1 })
    (on_kept (Few (IsNodeOf v)) (are_distinct same_node) (items_in (number_in 1 (most_of v)) w) (items_reads (IsNodeOf v) (number_in 1 (most_of v)) (node_reads v) w))

weight_of_reads : (v : Version) (parts : List (List ℕ)) → OnSome (IsWeightOf v) (weight_of v parts)
weight_of_reads v [] = tt
weight_of_reads v (a ∷ []) = tt
weight_of_reads v (a ∷ b ∷ c ∷ parts) = tt
weight_of_reads v (weight ∷ node ∷ []) =
    on_then (IsWeightOf v) (λ w. option_map (λ n. (let x : Weight = record { node = n; weight = w } in x)) (node_in v node)) (number_in 0 1000 weight)
    (on_more (Between 0 1000) (λ w. OnSome (IsWeightOf v) (option_map (λ n. (let x : Weight = record { node = n; weight = w } in x)) (node_in v node))) (number_in 0 1000 weight)
    (λ w h. on_map (IsWeightOf v) (λ n. (let x : Weight = record { node = n; weight = w } in x)) (node_in v node)
    (on_more (IsNodeOf v) (λ n. IsWeightOf v (record { node = n; weight = w })) (node_in v node) (λ n g. record { weight = h.1; node = g }) (node_reads v node)))
    (number_reads 0 1000 weight))

weight_reads : (v : Version) (w : List ℕ) → OnSome (IsWeightOf v) (weight_in v w)
unfolding weight_in
weight_reads v w = weight_of_reads v (parts_at 64 w)

pub weights_reads : (v : Version) (w : List ℕ) → OnSome (AreWeightsOf v) (weights_in v w)
weights_reads v w =
    on_more (Few (IsWeightOf v)) (AreWeightsOf v) (weights_in v w) (λ xs h. record { some = h.0; few = h.1; each = h.2 }) (items_reads (IsWeightOf v) (weight_in v) (weight_reads v) w)

-- ---- methods

place_low : (m : Method) → 1 ≤ place_of m
place_low PrenetStart = omega arith
place_low Start = omega arith
place_low MonitorStart = omega arith
place_low MonitorCheck = omega arith
place_low MonitorStop = omega arith
place_low Stop = omega arith
place_low PostnetStop = omega arith
place_low Validate = omega arith
place_low Init = omega arith
place_low Fini = omega arith
place_low Boot = omega arith
place_low Update = omega arith

place_high : (m : Method) → place_of m ≤ 32
place_high PrenetStart = omega arith
place_high Start = omega arith
place_high MonitorStart = omega arith
place_high MonitorCheck = omega arith
place_high MonitorStop = omega arith
place_high Stop = omega arith
place_high PostnetStop = omega arith
place_high Validate = omega arith
place_high Init = omega arith
place_high Fini = omega arith
place_high Boot = omega arith
place_high Update = omega arith

abbrev with_place : ℕ → Method → ℕ
with_place set m = set_with set (place_of m)

has_more : (set : ℕ) (k m : Method) → has_method (with_place set k) m ≡ ((place_of m == place_of k) || has_method set m)
has_more set k m =
    subst (λ z. has z (place_of m) ≡ ((place_of m == place_of k) || has set (place_of m))) (or_bit_value set (place_of k) (place_high k))
    (has_with set (place_of k) (place_low k) (place_high k) (place_of m))

turned : (a b c : Bool) → (b || (a || c)) ≡ ((a || b) || c)
turned true true c = refl
turned true false c = refl
turned false b c = refl

-- the set of methods has those that the list has
fold_has : (set : ℕ) (ms : List Method) (m : Method) → has_method (fold with_place set ms) m ≡ (lists ms m || has_method set m)
fold_has set [] m = refl
fold_has set (k ∷ ms) m =
    fold_has (with_place set k) ms m ∙ (ap (λ b. lists ms m || b) (has_more set k m) ∙ turned (place_of m == place_of k) (lists ms m) (has_method set m))

or_none : (b : Bool) → (b || false) ≡ b
or_none true = refl
or_none false = refl

ordered_lists : (ms : List Method) (m : Method) → lists (in_order ms) m ≡ lists ms m
unfolding in_order
ordered_lists ms m = any_filter (lists ms) (λ k. place_of m == place_of k) all_methods ∙ lists_test (lists ms) m

set_has : (ms : List Method) (m : Method) → has_method (set_of (in_order ms)) m ≡ lists ms m
set_has ms m =
    fold_has 0 (in_order ms) m ∙ (ap (λ b. lists (in_order ms) m || b) (none_of_zero (place_of m)) ∙ (or_none (lists (in_order ms) m) ∙ ordered_lists ms m))

set_complete : (ms : List Method) → are_complete ms ≡ true → is_complete (set_of (in_order ms)) ≡ true
set_complete ms h = rw (set_has ms Start, set_has ms Stop, set_has ms MonitorStart, set_has ms MonitorStop) h

abbrev Whatever : {A : Type 0} → A → Type 0
Whatever x = Unit {0}

any_option : {A : Type 0} (o : Option A) → OnSome Whatever o
any_option None = tt
any_option (Some x) = tt

pub methods_reads : (w : List ℕ) → OnSome AreMethods (methods_in w)
methods_reads w =
    on_map AreMethods (λ ms. set_of (in_order ms)) (kept_if are_complete (items_in method_in w))
    (on_more (λ ms. Whatever ms × (are_complete ms ≡ true)) (λ ms. AreMethods (set_of (in_order ms))) (kept_if are_complete (items_in method_in w))
    (λ ms h. record { plain = set_told (set_of (in_order ms)) ms (set_has ms); complete = set_complete ms h.1 })
    (on_kept Whatever are_complete (items_in method_in w) (any_option (items_in method_in w))))

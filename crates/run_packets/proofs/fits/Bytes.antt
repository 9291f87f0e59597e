-- Which texts have neither a tab nor a newline: names, numbers, and the values of properties.
use Rattle.std.proofs.Common.{◌≡◌, ℕ, ◌+◌, ◌%◌, ◌^◌, ◌<◌, ◌==◌, not, ◌&&◌, nat_le, nat_lt, Bool, true, false, if◌then◌else◌, List, [], ◌∷◌, ◌++◌, length, take, drop, slice_index, Option, Some, None, option_map, Result, Ok, Err, codes, refl, sym, subst, take-append-drop, arith}
use Rattle.std.specs.Char.{is_ascii_digit}
use Rattle.std.specs.Fmt.{decimal}
use Rattle.std.specs.List.{AllByRecursion, flat_map, list_all, onto_first}
use Rattle.std.specs.Str.{bytes_eq}
use Rattle.std.specs.Str.Parse.{digits_value}
use Rattle.std.proofs.lemmas.Bool.Decides.{nat_tests}
use Rattle.std.proofs.lemmas.Fmt.{decimal_by_steps}
use Rattle.std.proofs.lemmas.List.Folds.{list_all-append}
use Rattle.std.proofs.lemmas.List.Sums.{list_all-from_AllPass}
use Rattle.std.proofs.lemmas.Slice.Eq.{bytes_eq-Decides}
use Rattle.cl_base.specs.Names.{IsName, is_letter, is_name_byte}
use Rattle.cl_base.specs.declared.header.Version.{Version}
use Rattle.load_limits.specs.declared.limits.Factor.{Factor}
use Rattle.record_disk.specs.Disks.{is_plain_byte}
use Rattle.rg_props.specs.Affinities.{affinity_sign}
use Rattle.rg_props.specs.Properties.{group_property_in, group_property_named, if_there, is_there, resource_property_in}
use Rattle.rg_props.specs.Settings.{group_setting_in, group_value, group_value_of, read_as, resource_setting_in, resource_value, resource_value_of}
use Rattle.rg_props.specs.Values.{affine_in, affinities_in, are_few, factor_in, factor_of, factors_in, items_from, items_in, kept_if, list_in, most_of, names_in, nodes_in, or_else, signed}
use Rattle.rg_props.specs.Words.{choice_in, decimal_in, has_no_leading_zero, is_decimal, is_name, mode_in, name_in, number_in, parts_at, within}
use Rattle.rg_props.specs.declared.affinity.Affinity.{Affinity}
use Rattle.rg_props.specs.declared.affinity.Affinity.TheVariants.{Minus, MinusMinus, Plus, PlusPlus, PlusPlusPlus}
use Rattle.rg_props.specs.declared.affinity.Affine.{Affine}
use Rattle.rg_props.specs.declared.property.GroupProperty.{GroupProperty}
use Rattle.rg_props.specs.declared.property.GroupProperty.TheVariants as property
use Rattle.rg_props.specs.declared.property.ResourceProperty.{ResourceProperty}
use Rattle.rg_props.specs.declared.property.ResourceProperty.TheVariants as own
use Rattle.rg_props.specs.declared.setting.GroupSetting.TheVariants as to
use Rattle.rg_props.specs.declared.setting.ResourceSetting.TheVariants as its
use Rattle.rg_props.specs.declared.setting.SetError.{SetError}
use Rattle.rg_props.specs.declared.setting.SetError.TheVariants as set
use Rattle.update_words.specs.Joined.{joined}
use Rattle.word_laws.proofs.Forms.{OnSome, all_four, on_if, on_map, on_more, on_then}
use Rattle.word_laws.proofs.Split.{first, second, weaker}

abbrev pub Plain : List ℕ → Type 0
Plain text = list_all is_plain_byte text ≡ true

pub plain_append : (xs ys : List ℕ) → Plain xs → Plain ys → Plain (xs ++ ys)
plain_append xs ys h k = rw (list_all-append is_plain_byte xs ys, h, k) refl

-- ---- names and numbers

name_byte : (b : ℕ) → is_name_byte b ≡ true → is_plain_byte b ≡ true
name_byte b is = grind (arith, nat_tests)

pub name_plain : (w : List ℕ) → IsName w → Plain w
name_plain w h = weaker is_name_byte is_plain_byte name_byte w (list_all-from_AllPass is_name_byte w h.3)

digit_is_digit : (d : ℕ) → d < 10 → is_ascii_digit (48 + d) ≡ true
digit_is_digit d low = grind (arith, nat_tests)

one_digit : (n : ℕ) → n < 10 → list_all is_ascii_digit ((48 + n) ∷ []) ≡ true
one_digit n low = rw (digit_is_digit n low) refl

more_digits : (n : ℕ) (ds : List ℕ) → list_all is_ascii_digit ds ≡ true → list_all is_ascii_digit (ds ++ ((48 + n % 10) ∷ [])) ≡ true
more_digits n ds all = rw (list_all-append is_ascii_digit ds ((48 + n % 10) ∷ []), all, one_digit (n % 10) (omega arith)) refl

digit_byte : (b : ℕ) → is_ascii_digit b ≡ true → is_plain_byte b ≡ true
digit_byte b is = grind (arith, nat_tests)

digits_plain : (w : List ℕ) → list_all is_ascii_digit w ≡ true → Plain w
digits_plain w h = weaker is_ascii_digit is_plain_byte digit_byte w h

pub number_plain : (n : ℕ) → n < 2 ^ 64 → Plain (decimal n)
number_plain n low = digits_plain (decimal n) (decimal_by_steps (λ n ds. list_all is_ascii_digit ds ≡ true) one_digit (λ n ds big all. more_digits n ds all) n low)

-- ---- joined texts

flat_plain : {A : Type 0} (c : ℕ) (spell : A → List ℕ) (xs : List A) → is_plain_byte c ≡ true → AllByRecursion (λ x. Plain (spell x)) xs → Plain (flat_map (λ y. c ∷ spell y) xs)
flat_plain {A} c spell [] is h = refl
flat_plain {A} c spell (x ∷ xs) is h = plain_append (c ∷ spell x) (flat_map (λ y. c ∷ spell y) xs) (rw (is, h.0) refl) (flat_plain c spell xs is h.1)

pub joined_plain : {A : Type 0} (c : ℕ) (spell : A → List ℕ) (xs : List A) → is_plain_byte c ≡ true → AllByRecursion (λ x. Plain (spell x)) xs → Plain (joined c spell xs)
joined_plain {A} c spell [] is h = refl
joined_plain {A} c spell (x ∷ xs) is h = plain_append (spell x) (flat_map (λ y. c ∷ spell y) xs) h.0 (flat_plain c spell xs is h.1)

-- ---- what is read

-- what is read from a text is plain
abbrev Reads : {A : Type 0} → (List ℕ → Option A) → Type 0
Reads read = (w : List ℕ) → OnSome (λ x. Plain w) (read w)

name_reads : Reads name_in
unfolding name_in
name_reads w = on_if (λ x. Plain w) (is_name w) w (λ e.
    weaker is_name_byte is_plain_byte name_byte w (all_four (nat_le 1 (length w)) (nat_le (length w) 32) (is_letter (slice_index w 0)) (list_all is_name_byte w) e).3)

decimal_reads : Reads decimal_in
decimal_reads w = on_if (λ x. Plain w) (is_decimal w && nat_lt (digits_value 10 w) (2 ^ 64)) (digits_value 10 w) (λ e.
    digits_plain w (second (not (length w == 0) && has_no_leading_zero w) (list_all is_ascii_digit w) (first (is_decimal w) (nat_lt (digits_value 10 w) (2 ^ 64)) e)))

within_reads : (least most : ℕ) (w : List ℕ) (o : Option ℕ) → OnSome (λ x. Plain w) o → OnSome (λ x. Plain w) (within least most o)
within_reads least most w None h = tt
within_reads least most w (Some n) h = on_if (λ x. Plain w) (nat_le least n && nat_le n most) n (λ e. h)

number_reads : (least most : ℕ) → Reads (number_in least most)
unfolding number_in
number_reads least most w = within_reads least most w (decimal_in w) (decimal_reads w)

-- one word of several
word_or : {X : Type 0} (w word : List ℕ) (x : X) (rest : Option X) → Plain word → OnSome (λ y. Plain w) rest → OnSome (λ y. Plain w) (if bytes_eq w word then Some x else rest)
word_or {X} w word x rest plain more = by_test (bytes_eq w word) refl
  where
    by_test : (t : Bool) → bytes_eq w word ≡ t → OnSome (λ (y : X). Plain w) (if t then Some x else rest)
    by_test true e = subst Plain (sym ((bytes_eq-Decides w word).0 e)) plain
    by_test false e = more

choice_reads : Reads choice_in
unfolding choice_in
choice_reads w = word_or w (codes "TRUE") true _ refl (word_or w (codes "FALSE") false None refl tt)

mode_reads : Reads mode_in
unfolding mode_in
mode_reads w =
    word_or w (codes "NONE") _ _ refl
    (word_or w (codes "SOFT") _ _ refl (word_or w (codes "HARD") _ _ refl (word_or w (codes "RESTART_ONLY") _ _ refl (word_or w (codes "LOG_ONLY") _ None refl tt))))

-- ---- parts

onto_plain : (b : ℕ) (parts : List (List ℕ)) → AllByRecursion Plain (onto_first b parts) → (is_plain_byte b ≡ true) × AllByRecursion Plain parts
onto_plain b [] h = (first (is_plain_byte b) true h.0, tt)
onto_plain b (part ∷ parts) h = (first (is_plain_byte b) (list_all is_plain_byte part) h.0, (second (is_plain_byte b) (list_all is_plain_byte part) h.0, h.1))

plain_cons : (b : ℕ) (w : List ℕ) → is_plain_byte b ≡ true → Plain w → Plain (b ∷ w)
plain_cons b w h k = rw (h, k) refl

same_byte : (b c : ℕ) → (b == c) ≡ true → b ≡ c
same_byte b c h = grind (arith, nat_tests)

parts_plain : (c : ℕ) (w : List ℕ) → is_plain_byte c ≡ true → AllByRecursion Plain (parts_at c w) → Plain w
parts_plain c [] is h = refl
parts_plain c (b ∷ w) is h = by_test (b == c) refl h (parts_plain c w is)
  where
    by_test : (t : Bool) → (b == c) ≡ t → AllByRecursion Plain (if t then [] ∷ parts_at c w else onto_first b (parts_at c w)) → (AllByRecursion Plain (parts_at c w) → Plain w) → Plain (b ∷ w)
    by_test true e k rest = plain_cons b w (subst (λ z. is_plain_byte z ≡ true) (sym (same_byte b c e)) is) (rest k.1)
    by_test false e k rest = let two : (is_plain_byte b ≡ true) × AllByRecursion Plain (parts_at c w) = onto_plain b (parts_at c w) k in plain_cons b w two.0 (rest two.1)

from_reads : {A : Type 0} (read : List ℕ → Option A) → Reads read → (before : List A) (parts : List (List ℕ)) → OnSome (λ xs. AllByRecursion Plain parts) (items_from read before parts)
from_reads read good before [] = tt
from_reads {A} read good before (part ∷ parts) =
    on_then (λ (xs : List A). AllByRecursion Plain (part ∷ parts)) (λ x. items_from read (before ++ x ∷ []) parts) (read part)
    (on_more (λ x. Plain part) (λ x. OnSome (λ (xs : List A). AllByRecursion Plain (part ∷ parts)) (items_from read (before ++ x ∷ []) parts)) (read part)
    (λ x p. on_more (λ (xs : List A). AllByRecursion Plain parts) (λ (xs : List A). AllByRecursion Plain (part ∷ parts)) (items_from read (before ++ x ∷ []) parts) (λ xs m. (p, m)) (from_reads read good (before ++ x ∷ []) parts))
    (good part))

items_reads : {A : Type 0} (read : List ℕ → Option A) → Reads read → Reads (items_in read)
items_reads {A} read good w = by_test (are_few (parts_at 44 w))
  where
    by_test : (t : Bool) → OnSome (λ (xs : List A). Plain w) (if t then items_from read [] (parts_at 44 w) else None)
    by_test true = on_more (λ (xs : List A). AllByRecursion Plain (parts_at 44 w)) (λ (xs : List A). Plain w) (items_from read [] (parts_at 44 w)) (λ xs m. parts_plain 44 w refl m) (from_reads read good [] (parts_at 44 w))
    by_test false = tt

list_reads : {A : Type 0} (read : List ℕ → Option A) → Reads read → Reads (list_in read)
list_reads read good w = word_or w (codes "none") [] (items_in read w) refl (items_reads read good w)

kept_reads : {A : Type 0} (w : List ℕ) (test : A → Bool) (o : Option A) → OnSome (λ x. Plain w) o → OnSome (λ x. Plain w) (kept_if test o)
kept_reads w test None h = tt
kept_reads w test (Some x) h = on_if (λ y. Plain w) (test x) x (λ e. h)

sign_plain : (a : Affinity) → Plain (affinity_sign a)
sign_plain PlusPlus = refl
sign_plain Plus = refl
sign_plain Minus = refl
sign_plain MinusMinus = refl
sign_plain PlusPlusPlus = refl

signed_reads : (a : Affinity) → Reads (signed a)
signed_reads a w = by_test (bytes_eq (take k w) (affinity_sign a)) refl
  where
    k : ℕ
    k = length (affinity_sign a)

    by_test : (t : Bool) → bytes_eq (take k w) (affinity_sign a) ≡ t → OnSome (λ (x : Affine). Plain w) (if t then option_map (λ name. record { affinity = a; group = name }) (name_in (drop k w)) else None)
    by_test false e = tt
    by_test true e =
        on_map (λ (x : Affine). Plain w) (λ name. record { affinity = a; group = name }) (name_in (drop k w))
        (on_more (λ (x : List ℕ). Plain (drop k w)) (λ (x : List ℕ). Plain w) (name_in (drop k w))
        (λ x p. subst Plain (take-append-drop k w) (plain_append (take k w) (drop k w) (subst Plain (sym ((bytes_eq-Decides (take k w) (affinity_sign a)).0 e)) (sign_plain a)) p))
        (name_reads (drop k w)))

or_reads : {A : Type 0} (w : List ℕ) (a b : Option A) → OnSome (λ x. Plain w) a → OnSome (λ x. Plain w) b → OnSome (λ x. Plain w) (or_else a b)
or_reads w None b h k = k
or_reads w (Some x) b h k = h

affine_reads : Reads affine_in
unfolding affine_in
affine_reads w =
    or_reads w (signed PlusPlusPlus w) _ (signed_reads PlusPlusPlus w)
    (or_reads w (signed PlusPlus w) _ (signed_reads PlusPlus w)
    (or_reads w (signed Plus w) _ (signed_reads Plus w) (or_reads w (signed MinusMinus w) (signed Minus w) (signed_reads MinusMinus w) (signed_reads Minus w))))

factor_parts : (parts : List (List ℕ)) → OnSome (λ x. AllByRecursion Plain parts) (factor_of parts)
factor_parts (name ∷ number ∷ []) =
    let all : Type 0 = AllByRecursion Plain (name ∷ number ∷ []) in
    on_then (λ (x : Factor). all) (λ n. option_map (λ load. record { name = n; load = load }) (number_in 0 1000000 number)) (name_in name)
    (on_more (λ (n : List ℕ). Plain name) (λ (n : List ℕ). OnSome (λ (x : Factor). all) (option_map (λ load. record { name = n; load = load }) (number_in 0 1000000 number))) (name_in name)
    (λ n p. on_map (λ (x : Factor). all) (λ load. record { name = n; load = load }) (number_in 0 1000000 number)
    (on_more (λ (load : ℕ). Plain number) (λ (load : ℕ). all) (number_in 0 1000000 number) (λ load q. (p, (q, tt))) (number_reads 0 1000000 number)))
    (name_reads name))
factor_parts [] = tt
factor_parts (name ∷ []) = tt
factor_parts (name ∷ number ∷ other ∷ parts) = tt

factor_reads : Reads factor_in
unfolding factor_in
factor_reads w = on_more (λ (x : Factor). AllByRecursion Plain (parts_at 64 w)) (λ (x : Factor). Plain w) (factor_of (parts_at 64 w)) (λ x m. parts_plain 64 w refl m) (factor_parts (parts_at 64 w))

-- ---- properties and their values

-- what is set is plain; memory never runs out in it
abbrev pub OnSet : {A : Type 0} → Type 0 → Result A SetError → Type 0
OnSet P (Ok x) = P
OnSet P (Err set.BadProperty) = Unit {0}
OnSet P (Err set.BadSetting) = Unit {0}
OnSet P (Err set.NoMemory) = ⊥

as_set : {A B : Type 0} (P : Type 0) (make : A → B) (o : Option A) → OnSome (λ x. P) o → OnSet P (read_as make o)
as_set P make None h = tt
as_set P make (Some x) h = h

property_plain : (w : List ℕ) → OnSome (λ p. Plain w) (group_property_named w)
unfolding group_property_named
property_plain w =
    word_or w (codes "Nodelist") _ _ refl
    (word_or w (codes "Maximum_primaries") _ _ refl
    (word_or w (codes "Desired_primaries") _ _ refl
    (word_or w (codes "RG_dependencies") _ _ refl
    (word_or w (codes "RG_affinities") _ _ refl
    (word_or w (codes "Pingpong_interval") _ _ refl
    (word_or w (codes "Failback") _ _ refl (word_or w (codes "Load_factors") _ _ refl (word_or w (codes "Priority") _ None refl tt))))))))

there_plain : (v : Version) (w : List ℕ) (o : Option GroupProperty) → OnSome (λ p. Plain w) o → OnSome (λ p. Plain w) (if_there v o)
there_plain v w None h = tt
there_plain v w (Some p) h = on_if (λ q. Plain w) (is_there v p) p (λ e. h)

value_plain : (v : Version) (p : GroupProperty) (w : List ℕ) → OnSet (Plain w) (group_value v p w)
value_plain v property.Nodelist w = as_set (Plain w) to.Nodelist (nodes_in (most_of v) w) (kept_reads w _ _ (items_reads (number_in 1 (most_of v)) (number_reads 1 (most_of v)) w))
value_plain v property.MaximumPrimaries w = as_set (Plain w) to.Maximum (number_in 1 (most_of v) w) (number_reads 1 (most_of v) w)
value_plain v property.DesiredPrimaries w = as_set (Plain w) to.Desired (number_in 0 (most_of v) w) (number_reads 0 (most_of v) w)
value_plain v property.Dependencies w = as_set (Plain w) to.Dependencies (names_in w) (list_reads name_in name_reads w)
value_plain v property.Affinities w = as_set (Plain w) to.Affinities (affinities_in w) (list_reads affine_in affine_reads w)
value_plain v property.PingpongInterval w = as_set (Plain w) to.Pingpong (number_in 0 1000000 w) (number_reads 0 1000000 w)
value_plain v property.Failback w = as_set (Plain w) to.Failback (choice_in w) (choice_reads w)
value_plain v property.LoadFactors w = as_set (Plain w) to.Factors (factors_in w) (kept_reads w _ _ (list_reads factor_in factor_reads w))
value_plain v property.Priority w = as_set (Plain w) to.Priority (number_in 0 1000 w) (number_reads 0 1000 w)

with_word : {A : Type 0} (P Q : Type 0) (r : Result A SetError) → P → OnSet Q r → OnSet (P × Q) r
with_word P Q (Ok x) p h = (p, h)
with_word P Q (Err set.BadProperty) p h = tt
with_word P Q (Err set.BadSetting) p h = tt
with_word P Q (Err set.NoMemory) p h = h

pub group_plain : (v : Version) (p w : List ℕ) → OnSet (Plain p × Plain w) (group_setting_in v p w)
unfolding group_setting_in
group_plain v p w = by_property (group_property_in v p) (there_plain v p (group_property_named p) (property_plain p))
  where
    by_property : (o : Option GroupProperty) → OnSome (λ q. Plain p) o → OnSet (Plain p × Plain w) (group_value_of v o w)
    by_property None h = tt
    by_property (Some q) h = with_word (Plain p) (Plain w) (group_value v q w) h (value_plain v q w)

own_plain : (w : List ℕ) → OnSome (λ p. Plain w) (resource_property_in w)
unfolding resource_property_in
own_plain w =
    word_or w (codes "Resource_dependencies") _ _ refl
    (word_or w (codes "Resource_dependencies_weak") _ _ refl
    (word_or w (codes "Resource_dependencies_offline_restart") _ _ refl
    (word_or w (codes "Failover_mode") _ _ refl (word_or w (codes "Retry_count") _ _ refl (word_or w (codes "Retry_interval") _ None refl tt)))))

own_value : (p : ResourceProperty) (w : List ℕ) → OnSet (Plain w) (resource_value p w)
own_value own.Dependencies w = as_set (Plain w) its.Strong (names_in w) (list_reads name_in name_reads w)
own_value own.WeakDependencies w = as_set (Plain w) its.Weak (names_in w) (list_reads name_in name_reads w)
own_value own.OfflineRestartDependencies w = as_set (Plain w) its.OfflineRestart (names_in w) (list_reads name_in name_reads w)
own_value own.FailoverMode w = as_set (Plain w) its.Mode (mode_in w) (mode_reads w)
own_value own.RetryCount w = as_set (Plain w) its.RetryCount (number_in 0 1000 w) (number_reads 0 1000 w)
own_value own.RetryInterval w = as_set (Plain w) its.RetryInterval (number_in 0 1000000 w) (number_reads 0 1000000 w)

pub resource_plain : (p w : List ℕ) → OnSet (Plain p × Plain w) (resource_setting_in p w)
unfolding resource_setting_in
resource_plain p w = by_property (resource_property_in p) (own_plain p)
  where
    by_property : (o : Option ResourceProperty) → OnSome (λ q. Plain p) o → OnSet (Plain p × Plain w) (resource_value_of o w)
    by_property None h = tt
    by_property (Some q) h = with_word (Plain p) (Plain w) (resource_value q w) h (own_value q w)

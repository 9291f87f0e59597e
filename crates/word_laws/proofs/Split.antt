-- Texts that are joined by a byte, and cut at it again.
use Rattle.std.proofs.Common.{◌≡◌, ℕ, suc, ◌≤◌, ◌==◌, not, ◌&&◌, Bool, true, false, List, [], ◌∷◌, ◌++◌, length, map, Option, Some, refl, ap, ◌∙◌, append-nil, append_assoc, arith, le-leb}
use Rattle.std.specs.List.{AllByRecursion, flat_map, list_all}
use Rattle.std.proofs.lemmas.Bool.Decides.{nat_tests}
use Rattle.std.proofs.lemmas.List.Folds.{list_all-append}
use Rattle.rg_props.specs.Values.{are_few, items_from, items_in}
use Rattle.rg_props.specs.Words.{parts_at}
use Rattle.update_words.specs.Joined.{joined}

pub first : (a b : Bool) → (a && b) ≡ true → a ≡ true
first true b h = refl
first false b h = h

pub second : (a b : Bool) → (a && b) ≡ true → b ≡ true
second true b h = h
second false b h = absurd (cc)

-- the byte c is not in the text
abbrev pub lacks : ℕ → List ℕ → Bool
lacks c word = list_all (λ b. not (b == c)) word

not_it : (b c : ℕ) → not (b == c) ≡ true → (b == c) ≡ false
not_it b c h = grind (arith, nat_tests)

same_byte : (c : ℕ) → (c == c) ≡ true
same_byte c = grind (arith, nat_tests)

parts_one : (c : ℕ) (word : List ℕ) → lacks c word ≡ true → parts_at c word ≡ word ∷ []
parts_one c [] h = refl
parts_one c (b ∷ word) h = rw (not_it b c (first (not (b == c)) (lacks c word) h), parts_one c word (second (not (b == c)) (lacks c word) h)) refl

parts_more : (c : ℕ) (word rest : List ℕ) → lacks c word ≡ true → parts_at c (word ++ c ∷ rest) ≡ word ∷ parts_at c rest
parts_more c [] rest h = rw (same_byte c) refl
parts_more c (b ∷ word) rest h = rw (not_it b c (first (not (b == c)) (lacks c word) h), parts_more c word rest (second (not (b == c)) (lacks c word) h)) refl

abbrev pub EachLacks : {A : Type 0} → ℕ → (A → List ℕ) → List A → Type 0
EachLacks c spell xs = AllByRecursion (λ x. lacks c (spell x) ≡ true) xs

pub parts_joined : {A : Type 0} (c : ℕ) (spell : A → List ℕ) (x : A) (xs : List A) → EachLacks c spell (x ∷ xs) → parts_at c (joined c spell (x ∷ xs)) ≡ map spell (x ∷ xs)
parts_joined {A} c spell x [] h = rw (append-nil (spell x)) (parts_one c (spell x) h.0)
parts_joined {A} c spell x (y ∷ ys) h =
    parts_more c (spell x) (spell y ++ flat_map (λ z. c ∷ spell z) ys) h.0 ∙ ap (λ (rest : List (List ℕ)). spell x ∷ rest) (parts_joined c spell y ys h.1)

-- another byte is in none of the texts, nor between them
pub lacks_joined : {A : Type 0} (c d : ℕ) (spell : A → List ℕ) (x : A) (xs : List A) → not (d == c) ≡ true → EachLacks c spell (x ∷ xs) → lacks c (joined d spell (x ∷ xs)) ≡ true
lacks_joined {A} c d spell x [] other h = rw (append-nil (spell x)) h.0
lacks_joined {A} c d spell x (y ∷ ys) other h =
    rw (list_all-append (λ b. not (b == c)) (spell x) (d ∷ spell y ++ flat_map (λ z. d ∷ spell z) ys), h.0, other, lacks_joined c d spell y ys other h.1) refl

items_read : {A : Type 0} (read : List ℕ → Option A) (spell : A → List ℕ) (before xs : List A) → AllByRecursion (λ x. read (spell x) ≡ Some x) xs → items_from read before (map spell xs) ≡ Some (before ++ xs)
items_read {A} read spell before [] h = rw (append-nil before) refl
items_read {A} read spell before (x ∷ xs) h = rw (h.0, items_read read spell (before ++ x ∷ []) xs h.1, append_assoc before (x ∷ []) xs) refl

in_parts : {A : Type 0} (read : List ℕ → Option A) (value : List ℕ) (parts : List (List ℕ)) (found : Option (List A)) → parts_at 44 value ≡ parts → are_few parts ≡ true → items_from read [] parts ≡ found → items_in read value ≡ found
in_parts {A} read value parts found cut few is = rw (cut, few) is

same_length : {A : Type 0} (spell : A → List ℕ) (xs : List A) → length (map spell xs) ≡ length xs
same_length {A} spell [] = refl
same_length {A} spell (x ∷ xs) = ap (λ (n : ℕ). suc n) (same_length spell xs)

few_spelled : {A : Type 0} (spell : A → List ℕ) (xs : List A) → length xs ≤ 32 → are_few (map spell xs) ≡ true
few_spelled {A} spell xs le = rw (same_length spell xs, le-leb (length xs) 32 le) refl

-- a list by commas is read back, where each of its items is
pub items_known : {A : Type 0} (read : List ℕ → Option A) (spell : A → List ℕ) (xs : List A) → 1 ≤ length xs → length xs ≤ 32 → EachLacks 44 spell xs → AllByRecursion (λ x. read (spell x) ≡ Some x) xs → items_in read (joined 44 spell xs) ≡ Some xs
items_known {A} read spell [] some few lack reads = absurd (omega (arith, some))
items_known {A} read spell (x ∷ xs) some few lack reads =
    in_parts read (joined 44 spell (x ∷ xs)) (map spell (x ∷ xs)) (Some (x ∷ xs)) (parts_joined 44 spell x xs lack) (few_spelled spell (x ∷ xs) few) (items_read read spell [] (x ∷ xs) reads)

pub all_to : {A : Type 0} (P Q : A → Type 0) → ((a : A) → P a → Q a) → (xs : List A) → AllByRecursion P xs → AllByRecursion Q xs
all_to P Q to [] h = tt
all_to P Q to (x ∷ xs) h = (to x h.0, all_to P Q to xs h.1)

pub weaker : (p q : ℕ → Bool) → ((b : ℕ) → p b ≡ true → q b ≡ true) → (w : List ℕ) → list_all p w ≡ true → list_all q w ≡ true
weaker p q to [] h = refl
weaker p q to (b ∷ w) h = rw (to b (first (p b) (list_all p w) h), weaker p q to w (second (p b) (list_all p w) h)) refl

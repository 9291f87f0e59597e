-- Reading the words of a line one after the other.
use Rattle.std.proofs.Common.{◌≡◌, ℕ, ◌^◌, ◌<◌, ◌≤◌, Bool, true, false, ◌==◌, ◌||◌, if◌then◌else◌, List, [], ◌∷◌, ◌++◌, refl, subst, append-nil, arith}
use Rattle.std.specs.List.{AllByRecursion}
use Rattle.std.specs.Fmt.{decimal}
use Rattle.std.specs.Str.Parse.{AllDigits, digits_value}
use Rattle.std.specs.Char.{digit_value}
use Rattle.std.proofs.lemmas.Fmt.{digits_is_IsNumeral, decimal_is_IsNumeral}
use Rattle.std.proofs.lemmas.List.Elements.{recursion_from_All}
use Rattle.std.proofs.lemmas.Bool.{eqb-true}
use Rattle.cl_base.specs.Names.{IsName, is_name_byte}
use Rattle.status_report.specs.Words.{hex}
use Rattle.status_report.specs.Entries.{IsNumber}

-- a space, a comma or a colon ends a word
abbrev pub is_stop : ℕ → Bool
is_stop b = (b == 32) || ((b == 44) || (b == 58))

abbrev pub IsWord : List ℕ → Type 0
IsWord word = AllByRecursion (λ b. is_stop b ≡ false) word

-- nothing more of a word stands in front
abbrev pub is_stopped : List ℕ → Bool
is_stopped [] = true
is_stopped (b ∷ bs) = is_stop b

-- the word in front, and what is left
unfoldable pub word_at : List ℕ → List ℕ × List ℕ
word_at [] = ([], [])
word_at (b ∷ bs) = if is_stop b then ([], b ∷ bs) else (b ∷ (word_at bs).0, (word_at bs).1)

unfoldable pub number_at : List ℕ → ℕ × List ℕ
number_at text = (digits_value 10 (word_at text).0, (word_at text).1)

unfoldable pub key_at : List ℕ → ℕ × List ℕ
key_at text = (digits_value 16 (word_at text).0, (word_at text).1)

-- what follows the byte in front
abbrev pub after : List ℕ → List ℕ
after [] = []
after (b ∷ bs) = bs

-- the reader gives back what the text is of, and leaves what stands behind it
pub record Reads {A : Type 0} (read : List ℕ → A × List ℕ) (text : List ℕ) (a : A) : Type 0 where
  pub again : (rest : List ℕ) → is_stopped rest ≡ true → read (text ++ rest) ≡ (a, rest)

pub last : {A : Type 0} {read : List ℕ → A × List ℕ} {text : List ℕ} {a : A} → Reads read text a → read text ≡ (a, [])
last {A} {read} {text} {a} r = subst (λ (t : List ℕ). read t ≡ (a, [])) (append-nil text) (r.again [] refl)

-- the text before a space
pub more : {A : Type 0} {read : List ℕ → A × List ℕ} {text : List ℕ} {a : A} → Reads read text a → (rest : List ℕ) → read (text ++ 32 ∷ rest) ≡ (a, 32 ∷ rest)
more r rest = r.again (32 ∷ rest) refl

word_again : (word rest : List ℕ) → IsWord word → is_stopped rest ≡ true → word_at (word ++ rest) ≡ (word, rest)
unfolding word_at
word_again [] [] h s = refl
word_again [] (b ∷ rest) h s = rw s refl
word_again (b ∷ word) rest h s = rw (h.0, word_again word rest h.1 s) refl

pub a_word : (word : List ℕ) → IsWord word → Reads word_at word word
a_word word h = record { again = λ rest s. word_again word rest h s }

-- ---- digits

digit_is_no_stop : (radix b : ℕ) → radix ≤ 16 → digit_value b < radix → is_stop b ≡ false
digit_is_no_stop radix b le low = no_stop radix b (b == 32) (b == 44) (b == 58) refl refl refl le low
  where
    no_stop : (radix b : ℕ) (x y z : Bool) → (b == 32) ≡ x → (b == 44) ≡ y → (b == 58) ≡ z → radix ≤ 16 → digit_value b < radix → (x || (y || z)) ≡ false
    no_stop radix b true y z ex ey ez le low = let same : b ≡ 32 = eqb-true b 32 ex in absurd (omega (arith, subst (λ (v : ℕ). digit_value v < radix) same low, le))
    no_stop radix b false true z ex ey ez le low = let same : b ≡ 44 = eqb-true b 44 ey in absurd (omega (arith, subst (λ (v : ℕ). digit_value v < radix) same low, le))
    no_stop radix b false false true ex ey ez le low = let same : b ≡ 58 = eqb-true b 58 ez in absurd (omega (arith, subst (λ (v : ℕ). digit_value v < radix) same low, le))
    no_stop radix b false false false ex ey ez le low = refl

digits_are_word : (radix : ℕ) (ds : List ℕ) → radix ≤ 16 → AllDigits radix ds → IsWord ds
digits_are_word radix [] le h = tt
digits_are_word radix (d ∷ ds) le h = (digit_is_no_stop radix d le h.0, digits_are_word radix ds le h.1)

pub below_16 : (n : ℕ) → n < 2 ^ 64 → n < 16 ^ 64
below_16 n h = omega (arith, h)

pub number_is_word : (n : ℕ) → IsNumber n → IsWord (decimal n)
number_is_word n h = digits_are_word 10 (decimal n) (omega arith) (decimal_is_IsNumeral n h).0.1

pub key_is_word : (n : ℕ) → IsNumber n → IsWord (hex n)
key_is_word n h = digits_are_word 16 (hex n) (omega arith) (digits_is_IsNumeral 16 false (omega arith) (omega arith) n (below_16 n h)).0.1

pub number : (n : ℕ) → IsNumber n → Reads number_at (decimal n) n
unfolding number_at
number n h =
    record { again = λ rest s. rw (word_again (decimal n) rest (number_is_word n h) s, (decimal_is_IsNumeral n h).1) refl }

pub key : (n : ℕ) → IsNumber n → Reads key_at (hex n) n
unfolding key_at
key n h =
    record { again = λ rest s. rw (word_again (hex n) rest (key_is_word n h) s, (digits_is_IsNumeral 16 false (omega arith) (omega arith) n (below_16 n h)).1) refl }

-- ---- names

name_byte_is_no_stop : (b : ℕ) → is_name_byte b ≡ true → is_stop b ≡ false
name_byte_is_no_stop b h = no_stop b (b == 32) (b == 44) (b == 58) refl refl refl h
  where
    no_stop : (b : ℕ) (x y z : Bool) → (b == 32) ≡ x → (b == 44) ≡ y → (b == 58) ≡ z → is_name_byte b ≡ true → (x || (y || z)) ≡ false
    no_stop b true y z ex ey ez h = let same : b ≡ 32 = eqb-true b 32 ex in let no : false ≡ true = subst (λ (v : ℕ). is_name_byte v ≡ true) same h in absurd (cc)
    no_stop b false true z ex ey ez h = let same : b ≡ 44 = eqb-true b 44 ey in let no : false ≡ true = subst (λ (v : ℕ). is_name_byte v ≡ true) same h in absurd (cc)
    no_stop b false false true ex ey ez h = let same : b ≡ 58 = eqb-true b 58 ez in let no : false ≡ true = subst (λ (v : ℕ). is_name_byte v ≡ true) same h in absurd (cc)
    no_stop b false false false ex ey ez h = refl

name_bytes_are_word : (bytes : List ℕ) → AllByRecursion (λ b. is_name_byte b ≡ true) bytes → IsWord bytes
name_bytes_are_word [] h = tt
name_bytes_are_word (b ∷ bytes) h = (name_byte_is_no_stop b h.0, name_bytes_are_word bytes h.1)

pub name_is_word : (bytes : List ℕ) → IsName bytes → IsWord bytes
name_is_word bytes h = name_bytes_are_word bytes (recursion_from_All (λ b. is_name_byte b ≡ true) bytes h.3)

pub name : (bytes : List ℕ) → IsName bytes → Reads word_at bytes bytes
name bytes h = a_word bytes (name_is_word bytes h)

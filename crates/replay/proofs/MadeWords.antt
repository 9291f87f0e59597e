-- The lines of a schedule that is made have no newline, and none is too long.
use Rattle.std.proofs.Common.{◌≡◌, ℕ, ◌+◌, ◌*◌, ◌/◌, ◌%◌, ◌^◌, ◌<◌, ◌≤◌, ◌==◌, min, max, nat_le, Bool, true, false, not, ◌&&◌, if◌then◌else◌, zero, suc, List, [], ◌∷◌, ◌++◌, length, All, codes, refl, ◌∙◌, arith, length-append}
use Rattle.std.specs.Fmt.{decimal}
use Rattle.std.specs.List.{join_with_byte, list_all}
use Rattle.std.proofs.lemmas.Bool.{leb-true}
use Rattle.std.proofs.lemmas.Bool.Decides.{nat_tests}
use Rattle.std.proofs.lemmas.Fmt.{decimal_by_steps, length-decimal-le}
use Rattle.std.proofs.lemmas.List.Folds.{list_all-append}
use Rattle.std.proofs.lemmas.List.Sums.{AllPass-from_list_all}
use Rattle.schedule_gen.specs.declared.draw.Form.{Form}
use Rattle.schedule_gen.specs.declared.draw.Form.TheVariants.{Tick, Next, Drop, Again, Disk, Write, Crash, Boot, RoundOfAll, Create, RoundOfTwo, Clock}
use Rattle.schedule_gen.specs.Draws.{drawn, first_node, form_of, second_node}
use Rattle.schedule_gen.specs.Grammar.{lines_from}
use Rattle.schedule_gen.specs.Lines.{event_words, line_at, spaced}
use Rattle.schedule_gen.proofs.ProgressLemmas.{line_at-event}

-- no newline
abbrev is_plain : ℕ → Bool
is_plain b = not (b == 10)

-- bytes without a newline, and so many at most
pub record IsFine (most : ℕ) (bytes : List ℕ) : Type 0 where
  pub plain : list_all is_plain bytes ≡ true
  pub short : length bytes ≤ most

both : (a b : Bool) → a ≡ true → b ≡ true → (a && b) ≡ true
both true true p q = refl
both true false p q = q
both false b p q = p

no_newline : (b : ℕ) (t : Bool) → (b == 10) ≡ t → not t ≡ true → (b == 10) ≡ false
no_newline b true is h = absurd (cc)
no_newline b false is h = is

pub plain_bytes : (most : ℕ) (bytes : List ℕ) → IsFine most bytes → All (λ b. (b == 10) ≡ false) bytes
plain_bytes most bytes fine = λ k d low. no_newline _ _ refl (AllPass-from_list_all is_plain bytes fine.plain k d low)

-- words

known : (word : List ℕ) → list_all is_plain word ≡ true → nat_le (length word) 40 ≡ true → IsFine 40 word
known word plain short = record { plain = plain; short = leb-true (length word) 40 short }

number : (n : ℕ) → n < 100000 → IsFine 40 (decimal n)
number n small = record {
  plain = decimal_by_steps (λ n ds. list_all is_plain ds ≡ true) one more n (omega arith);
  short = let five : length (decimal n) ≤ 5 = length-decimal-le 5 n (omega arith) (omega arith) (omega arith) in omega arith;
}
  where
    digit : (n : ℕ) → n < 10 → is_plain (48 + n) ≡ true
    digit n small = grind (arith, nat_tests)

    one : (n : ℕ) → n < 10 → list_all is_plain ((48 + n) ∷ []) ≡ true
    one n small = both (is_plain (48 + n)) true (digit n small) refl

    more : (n : ℕ) (ds : List ℕ) → 10 ≤ n → list_all is_plain ds ≡ true → list_all is_plain (ds ++ ((48 + n % 10) ∷ [])) ≡ true
    more n ds large before = list_all-append is_plain ds ((48 + n % 10) ∷ []) ∙ both (list_all is_plain ds) (list_all is_plain ((48 + n % 10) ∷ [])) before (one (n % 10) (omega arith))

abbrev AreWords : List (List ℕ) → Type 0
AreWords [] = Unit {0}
AreWords (word ∷ words) = IsFine 40 word × AreWords words

joined : (words : List (List ℕ)) → AreWords words → IsFine (41 * length words) (join_with_byte 32 words)
joined [] fine = record { plain = refl; short = omega arith }
joined (word ∷ []) fine = record { plain = fine.0.plain; short = omega (arith, fine.0.short) }
joined (word ∷ next ∷ words) fine =
    let rest = joined (next ∷ words) fine.1 in
    record {
      plain = list_all-append is_plain word (32 ∷ join_with_byte 32 (next ∷ words)) ∙ both (list_all is_plain word) (list_all is_plain (32 ∷ join_with_byte 32 (next ∷ words))) fine.0.plain rest.plain;
      short = omega (arith, fine.0.short, rest.short, length-append word (32 ∷ join_with_byte 32 (next ∷ words)));
    }

line_of : (words : List (List ℕ)) → AreWords words → nat_le (length words) 6 ≡ true → IsFine 4096 (spaced words)
line_of words fine few =
    let line = joined words fine in
    record { plain = line.plain; short = omega (arith, line.short, leb-true (length words) 6 few) }

group_name : (i : ℕ) → IsFine 40 (codes "g" ++ decimal (i % 16))
group_name i =
    let few : length (decimal (i % 16)) ≤ 2 = length-decimal-le 2 (i % 16) (omega arith) (omega arith) (omega arith) in
    let name : IsFine 40 (decimal (i % 16)) = number (i % 16) (omega arith) in
    record { plain = both true (list_all is_plain (decimal (i % 16))) refl name.plain; short = omega arith }

-- the line of a form
formed : (form : Form) (a b i : ℕ) → a ≤ 4 → b ≤ 4 → i < 90000 → IsFine 4096 (spaced (event_words form a b i))
formed Tick a b i fa fb fi = line_of (event_words Tick a b i) (known _ refl refl, (number a (omega arith), tt)) refl
formed Next a b i fa fb fi = line_of (event_words Next a b i) (known _ refl refl, (number a (omega arith), (number b (omega arith), tt))) refl
formed Drop a b i fa fb fi = line_of (event_words Drop a b i) (known _ refl refl, (number a (omega arith), (number b (omega arith), tt))) refl
formed Again a b i fa fb fi = line_of (event_words Again a b i) (known _ refl refl, (number a (omega arith), (number b (omega arith), tt))) refl
formed Disk a b i fa fb fi = line_of (event_words Disk a b i) (known _ refl refl, (number a (omega arith), tt)) refl
formed Write a b i fa fb fi = line_of (event_words Write a b i) (known _ refl refl, (number a (omega arith), (known _ refl refl, (number i (omega arith), tt)))) refl
formed Crash a b i fa fb fi = line_of (event_words Crash a b i) (known _ refl refl, (number a (omega arith), tt)) refl
formed Boot a b i fa fb fi = line_of (event_words Boot a b i) (known _ refl refl, (number a (omega arith), tt)) refl
formed RoundOfAll a b i fa fb fi = record { plain = refl; short = leb-true _ 4096 refl }
formed Create a b i fa fb fi =
    line_of (event_words Create a b i) (known _ refl refl, (number a (omega arith), (known _ refl refl, (known _ refl refl, (group_name i, (known _ refl refl, tt)))))) refl
formed RoundOfTwo a b i fa fb fi = line_of (event_words RoundOfTwo a b i) (known _ refl refl, (known _ refl refl, (number (min a b) (omega arith), (number (max a b) (omega arith), tt)))) refl
formed Clock a b i fa fb fi = line_of (event_words Clock a b i) (known _ refl refl, (number i (omega arith), tt)) refl

of_four : (a b : ℕ) → a ≤ 4 → b ≤ 4 → (same : Bool) → (if same then a % 4 + 1 else b) ≤ 4
of_four a b fa fb true = omega arith
of_four a b fa fb false = fb

event_fine : (seed i : ℕ) → i < 90000 → IsFine 4096 (line_at seed (10 + i))
event_fine seed i low =
    let x : ℕ = drawn seed (i + 1) in
    let first : first_node x ≤ 4 = omega arith in
    let second : second_node x ≤ 4 = of_four (first_node x) ((x / 2 ^ 48) % 4 + 1) first (omega arith) ((x / 2 ^ 48) % 4 + 1 == first_node x) in
    rw (line_at-event seed i) (formed (form_of x) (first_node x) (second_node x) i first second low)

-- all lines
abbrev pub AreFine : List (List ℕ) → Type 0
AreFine [] = Unit {0}
AreFine (line ∷ lines) = IsFine 4096 line × AreFine lines

events_fine : (seed lines first i : ℕ) → first ≡ 10 + i → i + lines ≤ 90000 → AreFine (lines_from seed first lines)
events_fine seed zero first i at most = tt
events_fine seed (suc lines) first i at most = (rw at (event_fine seed i (omega arith)), events_fine seed lines (first + 1) (i + 1) (omega arith) (omega arith))

fixed : (line : List ℕ) → list_all is_plain line ≡ true → nat_le (length line) 4096 ≡ true → IsFine 4096 line
fixed line plain short = record { plain = plain; short = leb-true (length line) 4096 short }

pub header_fine : (seed : ℕ) → AreFine (lines_from seed 0 5)
header_fine seed = (fixed _ refl refl, (fixed _ refl refl, (fixed _ refl refl, (fixed _ refl refl, (fixed _ refl refl, tt)))))

pub lines_fine : (seed count : ℕ) → count ≤ 90000 → AreFine (lines_from seed 5 (suc (suc (suc (suc (suc count))))))
lines_fine seed count most = (fixed _ refl refl, (fixed _ refl refl, (fixed _ refl refl, (fixed _ refl refl, (fixed _ refl refl, events_fine seed count 10 0 refl (omega arith))))))

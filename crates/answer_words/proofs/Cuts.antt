-- Words that are joined by a byte, and cut at it again.
use Rattle.std.proofs.Common.{◌≡◌, ℕ, ◌==◌, not, ◌&&◌, Bool, true, false, List, [], ◌∷◌, ◌++◌, ap, ◌∙◌, append-nil, arith, codes, subst, refl, sym}
use Rattle.std.specs.List.{AllByRecursion, flat_map, list_all}
use Rattle.std.proofs.lemmas.Bool.Decides.{nat_tests}
use Rattle.std.proofs.lemmas.List.Elements.{All-from_recursion}
use Rattle.std.proofs.lemmas.List.Splits.{slice_split_at, slice_split_none}
use Rattle.rg_props.specs.Words.{parts_at}
use Rattle.status_report.specs.Words.{joined, spaced}
use Rattle.status_report.proofs.Lists.{Lacks}

same_byte : (c : ℕ) → (c == c) ≡ true
same_byte c = grind (arith, nat_tests)

part_alone : (c : ℕ) (word : List ℕ) → Lacks c word → parts_at c word ≡ word ∷ []
part_alone c word h = slice_split_none (λ b. b == c) word (All-from_recursion (λ b. (b == c) ≡ false) word h)

part_before : (c : ℕ) (word rest : List ℕ) → Lacks c word → parts_at c (word ++ c ∷ rest) ≡ word ∷ parts_at c rest
part_before c word rest h = slice_split_at (λ b. b == c) word c rest (All-from_recursion (λ b. (b == c) ≡ false) word h) (same_byte c)

not_it : (b c : ℕ) (rest : Bool) → (not (b == c) && rest) ≡ true → (b == c) ≡ false
not_it b c true h = grind (arith, nat_tests)
not_it b c false h = grind (arith, nat_tests)

and_rest : (a rest : Bool) → (a && rest) ≡ true → rest ≡ true
and_rest true rest h = h
and_rest false rest h = absurd (cc)

-- a word in which a test finds no space
pub spaceless : (word : List ℕ) → list_all (λ b. not (b == 32)) word ≡ true → Lacks 32 word
spaceless [] h = tt
spaceless (b ∷ word) h =
    let rest = list_all (λ c. not (c == 32)) word in (
      not_it b 32 rest h,
      spaceless word (and_rest (not (b == 32)) rest h),
    )

abbrev pub EachLacks : ℕ → List (List ℕ) → Type 0
EachLacks c words = AllByRecursion (Lacks c) words

pub words_cut : (word : List ℕ) (words : List (List ℕ)) → EachLacks 32 (word ∷ words) → parts_at 32 (spaced (word ∷ words)) ≡ word ∷ words
words_cut word [] h = part_alone 32 word h.0
words_cut word (next ∷ words) h = part_before 32 word (spaced (next ∷ words)) h.0 ∙ ap (λ (rest : List (List ℕ)). word ∷ rest) (words_cut next words h.1)

-- the same behind `refused`
pub refused_cut : (word : List ℕ) (words : List (List ℕ)) → EachLacks 32 (word ∷ words) → parts_at 32 (spaced (codes "refused" ∷ spaced (word ∷ words) ∷ [])) ≡ codes "refused" ∷ word ∷ words
refused_cut word words h =
    part_before 32 (codes "refused") (spaced (word ∷ words)) (spaceless (codes "refused") refl)
    ∙ ap (λ (rest : List (List ℕ)). codes "refused" ∷ rest) (words_cut word words h)

pub items_cut : (word : List ℕ) (words : List (List ℕ)) → EachLacks 44 (word ∷ words) → parts_at 44 (joined 44 (λ w. w) (word ∷ words)) ≡ word ∷ words
items_cut word [] h = subst (λ (text : List ℕ). parts_at 44 text ≡ word ∷ []) (sym (append-nil word)) (part_alone 44 word h.0)
items_cut word (next ∷ words) h =
    part_before 44 word (next ++ flat_map (λ w. 44 ∷ w) words) h.0 ∙ ap (λ (rest : List (List ℕ)). word ∷ rest) (items_cut next words h.1)

-- A list of texts of which all, or all but the last, are committed.
use Rattle.std.proofs.Common.{◌≡◌, ℕ, zero, suc, ◌+◌, ◌≤◌, List, [], ◌∷◌, ◌++◌, length, take, refl, ap, arith, sym, ◌∙◌}
use Rattle.std.specs.Prelude.{slice_get, Some, None}
use Rattle.std.proofs.lemmas.List.{take_all, take-append-le}
use Rattle.std.proofs.lemmas.Option.{slice_get_past}
use Rattle.ccr_commit.specs.Entries.{EntryList, texts_of, all_committed, with_next}

-- the texts, with the first n of them committed
abbrev pub seen : List (List ℕ) → ℕ → EntryList
seen texts n = record { committed = take n texts; pending = slice_get texts n }

-- they are the committed ones and then the pending one
pub texts_are : (texts : List (List ℕ)) (n : ℕ) → length texts ≤ n + 1 → texts_of (seen texts n) ≡ texts
texts_are [] zero h = refl
texts_are [] (suc n) h = refl
texts_are (x ∷ []) zero h = refl
texts_are (x ∷ y ∷ ys) zero h = absurd (omega arith)
texts_are (x ∷ xs) (suc n) h = ap (λ ts. x ∷ ts) (texts_are xs n (omega arith))

pub seen_whole : (texts : List (List ℕ)) (n m : ℕ) → length texts ≤ n + 1 → m ≡ length texts → seen texts m ≡ all_committed (seen texts n)
seen_whole texts n m most whole =
    let front : take m texts ≡ texts_of (seen texts n) = take_all m texts (omega arith) ∙ sym (texts_are texts n most) in
    let none : slice_get texts m ≡ None = slice_get_past texts m (omega arith) in
    rw (front, none) refl

get_next : (texts : List (List ℕ)) (text : List ℕ) → slice_get (texts ++ text ∷ []) (length texts) ≡ Some text
get_next [] text = refl
get_next (x ∷ xs) text = get_next xs text

pub seen_next : (texts : List (List ℕ)) (text : List ℕ) (n m : ℕ) → length texts ≤ n + 1 → m ≡ length texts → seen (texts ++ text ∷ []) m ≡ with_next (seen texts n) text
seen_next texts text n m most whole =
    let front : take (length texts) (texts ++ text ∷ []) ≡ texts_of (seen texts n) = take-append-le (length texts) texts (text ∷ []) (omega arith) ∙ take_all (length texts) texts (omega arith) ∙ sym (texts_are texts n most) in
    rw (whole, front, get_next texts text) refl

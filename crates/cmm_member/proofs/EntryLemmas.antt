-- Updates that come one after another, and the rows that they have.
use Rattle.std.proofs.Common.{◌≡◌, ℕ, zero, suc, ◌+◌, ◌-◌, ◌<◌, List, [], ◌∷◌, ◌++◌, length, take, map, get_or, true, false, refl, ap, sym, ◌∙◌, append_assoc, append-nil, length-append, arith}
use Rattle.std.specs.Prelude.{Option, Some, None, Bool, codes, slice_get, nat_eq}
use Rattle.std.specs.Fmt.{decimal}
use Rattle.std.specs.Cmp.Lexicographic.{pointwise}
use Rattle.std.proofs.lemmas.List.{take_more, length-take-le}
use Rattle.ccr_text.specs.declared.rows.Row.{Row}
use Rattle.ccr_commit.specs.Entries.{EntryList, no_entries, texts_of, all_committed, with_next}
use Rattle.wire.specs.declared.lists.Reading.{Reading}
use Rattle.cmm_member.specs.Records.{row, update_rows, pending_rows, entry_rows}
use Rattle.cmm_member.specs.Nodes.{Devices, joining_one, joining_all}
use Rattle.cmm_member.specs.Views.{all_next, is_pending, ends_pending}

all_next-push : (e : EntryList) (texts : List (List ℕ)) (text : List ℕ) → all_next e (texts ++ text ∷ []) ≡ with_next (all_next e texts) text
all_next-push e [] text = refl
all_next-push e (first ∷ texts) text = all_next-push (with_next e first) texts text

pub all_next-more : (e : EntryList) (texts : List (List ℕ)) (i : ℕ) (text : List ℕ) → i < length texts → text ≡ get_or texts i text → all_next e (take (i + 1) texts) ≡ with_next (all_next e (take i texts)) text
all_next-more e texts i text low here =
    rw (take_more texts i text low) (all_next-push e (take i texts) (get_or texts i text) ∙ ap (with_next (all_next e (take i texts))) (sym here))

abbrev pub values : List Row → List (List ℕ)
values rows = map (λ r. r.value) rows

values-push : (rows : List Row) (r : Row) → values (rows ++ r ∷ []) ≡ values rows ++ r.value ∷ []
values-push [] r = refl
values-push (first ∷ rows) r = ap (λ vs. first.value ∷ vs) (values-push rows r)

pub all_rows-more : (e : EntryList) (rows : List Row) (i : ℕ) (r : Row) → i < length rows → r ≡ get_or rows i r → all_next e (values (take (i + 1) rows)) ≡ with_next (all_next e (values (take i rows))) r.value
all_rows-more e rows i r low here =
    rw (take_more rows i r low, values-push (take i rows) (get_or rows i r)) (all_next-push e (values (take i rows)) (get_or rows i r).value ∙ ap (λ (x : Row). with_next (all_next e (values (take i rows))) x.value) (sym here))

joining_all-push : (me : ℕ) (d : Devices) (readings : List Reading) (r : Reading) → joining_all me d (readings ++ r ∷ []) ≡ joining_one me (joining_all me d readings) r
joining_all-push me d [] r = refl
joining_all-push me d (first ∷ readings) r = joining_all-push me (joining_one me d first) readings r

pub joining_all-more : (me : ℕ) (d : Devices) (readings : List Reading) (i : ℕ) (r : Reading) → i < length readings → r ≡ get_or readings i r → joining_all me d (take (i + 1) readings) ≡ joining_one me (joining_all me d (take i readings)) r
joining_all-more me d readings i r low here =
    rw (take_more readings i r low) (joining_all-push me d (take i readings) (get_or readings i r) ∙ ap (joining_one me (joining_all me d (take i readings))) (sym here))

update_rows-push : (k : ℕ) (texts : List (List ℕ)) (text : List ℕ) → update_rows k (texts ++ text ∷ []) ≡ update_rows k texts ++ row (codes "update." ++ decimal (k + length texts + 1)) text ∷ []
update_rows-push k [] text = ap (λ n. row (codes "update." ++ decimal n) text ∷ []) (let e : k + 1 ≡ k + 0 + 1 = omega arith in e)
update_rows-push k (first ∷ texts) text =
    ap (λ rs. row (codes "update." ++ decimal (k + 1)) first ∷ rs) (update_rows-push (k + 1) texts text
    ∙ ap (λ n. update_rows (k + 1) texts ++ row (codes "update." ++ decimal n) text ∷ []) (let e : k + 1 + length texts + 1 ≡ k + length (first ∷ texts) + 1 = omega arith in e))

pub update_rows-more : (texts : List (List ℕ)) (i : ℕ) (text : List ℕ) → i < length texts → text ≡ get_or texts i text → update_rows 0 (take (i + 1) texts) ≡ update_rows 0 (take i texts) ++ row (codes "update." ++ decimal (i + 1)) text ∷ []
update_rows-more texts i text low here =
    let front : length (take i texts) ≡ i = length-take-le i texts (omega arith) in
    let whole : 0 + length (take i texts) ≡ i = omega (arith, front) in
    rw (take_more texts i text low) (update_rows-push 0 (take i texts) (get_or texts i text)
    ∙ ap (λ n. update_rows 0 (take i texts) ++ row (codes "update." ++ decimal (n + 1)) (get_or texts i text) ∷ []) whole
    ∙ ap (λ t. update_rows 0 (take i texts) ++ row (codes "update." ++ decimal (i + 1)) t ∷ []) (sym here))

-- ---- entries from rows

values_of_updates : (k : ℕ) (texts : List (List ℕ)) → values (update_rows k texts) ≡ texts
values_of_updates k [] = refl
values_of_updates k (text ∷ texts) = ap (λ ts. text ∷ ts) (values_of_updates (k + 1) texts)

texts_of_all : (e : EntryList) (texts : List (List ℕ)) → texts_of (all_next e texts) ≡ texts_of e ++ texts
texts_of_all e [] = sym (append-nil (texts_of e))
texts_of_all e (text ∷ texts) = texts_of_all (with_next e text) texts ∙ append_assoc (texts_of e) (text ∷ []) texts

pub all_then_commit : (texts : List (List ℕ)) → all_committed (all_next no_entries texts) ≡ record { committed = texts; pending = None }
all_then_commit texts = rw (texts_of_all no_entries texts) refl

pub next_after_commit : (entries : EntryList) (texts : List (List ℕ)) (text : List ℕ) → entries ≡ record { committed = texts; pending = None } → with_next entries text ≡ record { committed = texts; pending = Some text }
next_after_commit entries texts text is = rw (is, append-nil texts) refl

pub next_after_all : (texts : List (List ℕ)) (text : List ℕ) → with_next (all_next no_entries texts) text ≡ record { committed = texts; pending = Some text }
next_after_all texts text = rw (texts_of_all no_entries texts) refl

get_last : {A : Type 0} (xs : List A) (x : A) → slice_get (xs ++ x ∷ []) (length xs) ≡ Some x
get_last [] x = refl
get_last (first ∷ xs) x = get_last xs x

last_push : {A : Type 0} (xs : List A) (x : A) → slice_get (xs ++ x ∷ []) (length (xs ++ x ∷ []) - 1) ≡ Some x
last_push xs x =
    let place : length (xs ++ x ∷ []) - 1 ≡ length xs = omega (arith, length-append xs (x ∷ [])) in
    ap (slice_get (xs ++ x ∷ [])) place ∙ get_last xs x

-- an update's key begins with another letter than `pending`
pub key_differs : (n : ℕ) → pointwise nat_eq (codes "update." ++ decimal n) (codes "pending") ≡ false
key_differs n = refl

none_at : (k : ℕ) (texts : List (List ℕ)) (i : ℕ) → is_pending (slice_get (update_rows k texts) i) ≡ false
none_at k [] i = refl
none_at k (text ∷ texts) zero = key_differs (k + 1)
none_at k (text ∷ texts) (suc i) = none_at (k + 1) texts i

no_pending : (k : ℕ) (texts : List (List ℕ)) → ends_pending (update_rows k texts) ≡ false
no_pending k texts = none_at k texts (length (update_rows k texts) - 1)

entries_back : (committed : List (List ℕ)) (pending : Option (List ℕ)) (rows : List Row) (entries : EntryList) (b : Bool) → rows ≡ update_rows 0 committed ++ pending_rows pending → entries ≡ all_next no_entries (values rows) → b ≡ ends_pending rows
    → (let whole : EntryList = record { committed = committed; pending = pending } in (b ≡ true → entries ≡ whole) × (b ≡ false → all_committed entries ≡ whole))
entries_back committed None rows entries b is all ends =
    let same : rows ≡ update_rows 0 committed = is ∙ append-nil (update_rows 0 committed) in
    let none : b ≡ false = ends ∙ ap ends_pending same ∙ no_pending 0 committed in
    let texts : entries ≡ all_next no_entries committed = all ∙ ap (λ rs. all_next no_entries (values rs)) same ∙ ap (all_next no_entries) (values_of_updates 0 committed) in
    (λ yes. absurd (cc), λ _. ap all_committed texts ∙ all_then_commit committed)
entries_back committed (Some text) rows entries b is all ends =
    let some : b ≡ true = ends ∙ ap ends_pending is ∙ ap is_pending (last_push (update_rows 0 committed) (row (codes "pending") text)) in
    let texts : values rows ≡ committed ++ text ∷ [] = ap values is ∙ values-push (update_rows 0 committed) (row (codes "pending") text) ∙ ap (λ ts. ts ++ text ∷ []) (values_of_updates 0 committed) in
    (λ _. all ∙ ap (all_next no_entries) texts ∙ all_next-push no_entries committed text ∙ next_after_all committed text, λ no. absurd (cc))

pub read_pending : (e : EntryList) (rows : List Row) (entries : EntryList) (b : Bool) → rows ≡ entry_rows e → entries ≡ all_next no_entries (values rows) → b ≡ ends_pending rows → b ≡ true → entries ≡ e
read_pending e rows entries b is all ends there = (entries_back e.committed e.pending rows entries b is all ends).0 there

pub read_committed : (e : EntryList) (rows : List Row) (entries : EntryList) (b : Bool) → rows ≡ entry_rows e → entries ≡ all_next no_entries (values rows) → b ≡ ends_pending rows → b ≡ false → all_committed entries ≡ e
read_committed e rows entries b is all ends absent = (entries_back e.committed e.pending rows entries b is all ends).1 absent

entries_if : (x y : EntryList) → entry_rows x ≡ entry_rows y → (b : Bool) → b ≡ ends_pending (entry_rows x) → x ≡ y
entries_if x y same true ends =
    sym (read_pending x (entry_rows x) (all_next no_entries (values (entry_rows x))) true refl refl ends refl) ∙ read_pending y (entry_rows x) (all_next no_entries (values (entry_rows x))) true same refl ends refl
entries_if x y same false ends =
    sym (read_committed x (entry_rows x) (all_next no_entries (values (entry_rows x))) false refl refl ends refl) ∙ read_committed y (entry_rows x) (all_next no_entries (values (entry_rows x))) false same refl ends refl

pub entries_same : (x y : EntryList) → entry_rows x ≡ entry_rows y → x ≡ y
entries_same x y same = entries_if x y same (ends_pending (entry_rows x)) refl

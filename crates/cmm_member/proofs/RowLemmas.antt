-- The rows of a record are those of a table, and its text is that of no other.
use Rattle.std.proofs.Common.{◌≡◌, ◌≢◌, ℕ, zero, suc, ◌+◌, ◌*◌, ◌<◌, ◌≤◌, ◌^◌, ◌&&◌, ◌⊎◌, inl, inr, List, [], ◌∷◌, ◌++◌, length, get_or, drop, Bool, true, false, refl, ap, sym, subst, ◌∙◌, length-append, arith}
use Rattle.std.specs.Prelude.{All, Option, Some, None, codes, flat_map, nat_eq, nat_le, if◌then◌else◌, Result, Ok, Err}
use Rattle.std.specs.Int.{IsInRange}
use Rattle.std.specs.Fmt.{decimal}
use Rattle.std.specs.Cmp.Lexicographic.{pointwise, bytes_decides}
use Rattle.std.proofs.lemmas.List.{append_cancel_left}
use Rattle.std.proofs.lemmas.List.Elements.{All-head, All-tail, All-append, All-cons, All-nil, All-weaker, All-from_get_or}
use Rattle.std.proofs.lemmas.Fmt.{decimal_injective, length-decimal-le}
use Rattle.std.proofs.lemmas.Bool.Decides.{leb_tells}
use Rattle.cl_base.specs.Sets.{has}
use Rattle.cl_base.specs.Numbers.{numbers_to, by_commas, set_text}
use Rattle.ccr_commit.specs.Entries.{EntryList, listed, texts_of}
use Rattle.ccr_text.specs.declared.rows.Row.{Row}
use Rattle.ccr_text.specs.TableText.{AreRows, IsPlain, IsRow, IsTable, MayAllFollow, table_text}
use Rattle.cmm_member.specs.Records.{NodeRecord, IsRecord, IsRecordText, IsRowText, row, update_rows, pending_rows, rows_of}
use Rattle.ccr_text.specs.declared.error.TextError.{TextError}
use Rattle.ccr_text.specs.declared.error.TextError.TheVariants.{NoMemory}
use Rattle.ccr_text.proofs.OneAnswer.{one_answer}
use Rattle.cmm_member.specs.Views.{Widths}
use Rattle.cmm_member.proofs.ListLemmas.{Below, digit, below_numbers, list_back}
use Rattle.cmm_member.proofs.EntryLemmas.{entries_same}

-- ---- bytes that are neither tab nor newline

abbrev pub are_above : List ℕ → Bool
are_above [] = true
are_above (x ∷ xs) = nat_le 11 x && are_above xs

both : (a b : Bool) → (a && b) ≡ true → (a ≡ true) × (b ≡ true)
both true b e = (refl, e)
both false b e = absurd (cc)

high_if : (x : ℕ) → nat_le 11 x ≡ true → (nat_le 11 x ≡ true) × (11 ≤ x) ⊎ (nat_le 11 x ≡ false) × (x < 11) → 11 ≤ x
high_if x e (inl (_, le)) = le
high_if x e (inr (off, _)) = absurd (cc)

high : (x : ℕ) → nat_le 11 x ≡ true → 11 ≤ x
high x e = high_if x e (leb_tells 11 x)

plain_byte : (x : ℕ) → 11 ≤ x → (x ≢ 9) × (x ≢ 10)
plain_byte x le = (λ e. omega arith, λ e. omega arith)

plain_if : (xs : List ℕ) → are_above xs ≡ true → IsPlain xs
plain_if [] e = All-nil (λ b. (b ≢ 9) × (b ≢ 10))
plain_if (x ∷ xs) e = let parts = both (nat_le 11 x) (are_above xs) e in All-cons (λ b. (b ≢ 9) × (b ≢ 10)) x xs (plain_byte x (high x parts.0)) (plain_if xs parts.1)

plain_append : (a b : List ℕ) → IsPlain a → IsPlain b → IsPlain (a ++ b)
plain_append a b ha hb = All-append (λ b. (b ≢ 9) × (b ≢ 10)) a b ha hb

plain_decimal : (n : ℕ) → n < 2 ^ 64 → IsPlain (decimal n)
plain_decimal n fits = All-from_get_or (λ b. (b ≢ 9) × (b ≢ 10)) (decimal n) 0 (λ i low.
    let d : IsInRange 48 57 (get_or (decimal n) i 0) = digit n i fits low in
    plain_byte (get_or (decimal n) i 0) (omega (arith, d.0)))

short_decimal : (n : ℕ) → n < 2 ^ 64 → length (decimal n) ≤ 20
short_decimal n fits = length-decimal-le 20 n (omega arith) (omega arith) fits

text_decimal : (n : ℕ) → n < 2 ^ 64 → IsRowText (decimal n)
text_decimal n fits = (omega (arith, short_decimal n fits), plain_decimal n fits)

-- ---- lists of numbers

plain_rest : (ns : List ℕ) → Below ns → IsPlain (flat_map (λ m. 44 ∷ decimal m) ns)
plain_rest [] all = All-nil (λ b. (b ≢ 9) × (b ≢ 10))
plain_rest (n ∷ ns) all = All-cons (λ b. (b ≢ 9) × (b ≢ 10)) 44 _ (plain_byte 44 (omega arith)) (plain_append (decimal n) (flat_map (λ m. 44 ∷ decimal m) ns) (plain_decimal n all.0) (plain_rest ns all.1))

short_rest : (ns : List ℕ) → Below ns → length (flat_map (λ m. 44 ∷ decimal m) ns) ≤ 21 * length ns
short_rest [] all = omega arith
short_rest (n ∷ ns) all = omega (arith, short_decimal n all.0, short_rest ns all.1, length-append (decimal n) (flat_map (λ m. 44 ∷ decimal m) ns))

text_list : (ns : List ℕ) → Below ns → length ns ≤ 32 → IsRowText (by_commas ns)
text_list [] all few = (omega arith, plain_if (codes "none") refl)
text_list (n ∷ ns) all few = (omega (arith, short_decimal n all.0, short_rest ns all.1, length-append (decimal n) (flat_map (λ m. 44 ∷ decimal m) ns)), plain_append (decimal n) _ (plain_decimal n all.0) (plain_rest ns all.1))

few_if : (t : Bool) (ns : List ℕ) (n k : ℕ) → length ns ≤ k → length (if t then ns ++ n ∷ [] else ns) ≤ suc k
few_if true ns n k le = omega (arith, le, length-append ns (n ∷ []))
few_if false ns n k le = omega (arith, le)

few_numbers : (set k : ℕ) → length (numbers_to set k) ≤ k
few_numbers set zero = omega arith
few_numbers set (suc k) = few_if (has set (suc k)) (numbers_to set k) (suc k) k (few_numbers set k)

text_set : (set : ℕ) → IsRowText (set_text set)
unfolding set_text
text_set set = text_list (numbers_to set 32) (below_numbers set 32 (omega arith)) (few_numbers set 32)

-- ---- keys

abbrev pub update_key : ℕ → List ℕ
update_key n = codes "update." ++ decimal n

-- neither an update's key from the next on nor that of the pending one
abbrev pub OldKey : ℕ → List ℕ → Type 0
OldKey k key = ((n : ℕ) → k < n → n < 2 ^ 64 → key ≢ update_key n) × (key ≢ codes "pending")

differ : (a b : List ℕ) → pointwise nat_eq a b ≡ false → a ≢ b
differ a b off e = let on : pointwise nat_eq a b ≡ true = (bytes_decides a b).1 e in absurd (cc)

is_row : (key value : List ℕ) → 1 ≤ length key → length key ≤ 80 → IsPlain key → IsRowText value → IsRow (row key value)
is_row key value some short plain text = record { some = some; short = short; most = text.0; key = plain; value = text.1 }

update_row : (n : ℕ) (text : List ℕ) → n < 2 ^ 64 → IsRowText text → IsRow (row (update_key n) text)
update_row n text fits ok = is_row (update_key n) text (omega arith) (omega (arith, short_decimal n fits)) (plain_append (codes "update.") (decimal n) (plain_if (codes "update.") refl) (plain_decimal n fits)) ok

later : (k : ℕ) (key : List ℕ) → OldKey k key → OldKey (k + 1) key
later k key old = (λ n more fits. old.0 n (omega arith) fits, old.1)

old_update : (k : ℕ) → k + 1 < 2 ^ 64 → OldKey (k + 1) (update_key (k + 1))
old_update k low = (λ n more fits e. (let same : k + 1 ≡ n = decimal_injective (k + 1) n low fits (append_cancel_left (codes "update.") _ _ e) in omega (arith, same)), differ (update_key (k + 1)) (codes "pending") refl)

abbrev pub Old : ℕ → List Row → Type 0
Old k before = All (λ r. OldKey k r.key) before

old_more : (k : ℕ) (before : List Row) (text : List ℕ) → k + 1 < 2 ^ 64 → Old k before → Old (k + 1) (before ++ row (update_key (k + 1)) text ∷ [])
old_more k before text low old =
    All-append (λ r. OldKey (k + 1) r.key) before (row (update_key (k + 1)) text ∷ [])
    (All-weaker (λ r. OldKey k r.key) (λ r. OldKey (k + 1) r.key) (λ r h. later k r.key h) before old)
    (All-cons (λ r. OldKey (k + 1) r.key) (row (update_key (k + 1)) text) [] (old_update k low) (All-nil (λ r. OldKey (k + 1) r.key)))

fresh_update : (k : ℕ) (before : List Row) → k + 1 < 2 ^ 64 → Old k before → All (λ other. other.key ≢ update_key (k + 1)) before
fresh_update k before low old = All-weaker (λ r. OldKey k r.key) (λ other. other.key ≢ update_key (k + 1)) (λ r h. h.0 (k + 1) (omega arith) low) before old

pending_row : (text : List ℕ) → IsRowText text → IsRow (row (codes "pending") text)
pending_row text ok = is_row (codes "pending") text (omega arith) (omega arith) (plain_if (codes "pending") refl) ok

entries_follow : (k : ℕ) (before : List Row) (committed : List (List ℕ)) (pending : Option (List ℕ)) → k + length committed < 2 ^ 64 → Old k before → All IsRowText (committed ++ listed pending) → MayAllFollow before (update_rows k committed ++ pending_rows pending)
entries_follow k before [] None low old texts = tt
entries_follow k before [] (Some text) low old texts =
    (record { form = pending_row text (All-head IsRowText text [] texts); fresh = All-weaker (λ r. OldKey k r.key) (λ other. other.key ≢ codes "pending") (λ r h. h.1) before old }, tt)
entries_follow k before (text ∷ committed) pending low old texts =
    let fits : k + 1 < 2 ^ 64 = omega arith in (
      record { form = update_row (k + 1) text fits (All-head IsRowText text (committed ++ listed pending) texts); fresh = fresh_update k before fits old },
      entries_follow (k + 1) (before ++ row (update_key (k + 1)) text ∷ []) committed pending (omega arith) (old_more k before text fits old) (All-tail IsRowText text (committed ++ listed pending) texts),
    )

abbrev pub Other : List ℕ → Row → Type 0
Other key r = r.key ≢ key

head_old : (key : List ℕ) → ((n : ℕ) → pointwise nat_eq key (update_key n) ≡ false) → pointwise nat_eq key (codes "pending") ≡ false → OldKey 0 key
head_old key updates pending = (λ n more fits. differ key (update_key n) (updates n), differ key (codes "pending") pending)

pub are_rows : (r : NodeRecord) → IsRecord r → All IsRowText (texts_of r.entries) → AreRows (rows_of r)
are_rows r ok texts =
    let promised = row (codes "promised") (decimal r.promised) in
    let installed = row (codes "installed") (decimal r.installed) in
    let members = row (codes "members") (set_text r.members) in
    let valid = row (codes "valid") (set_text r.valid) in
    let P = λ (x : Row). OldKey 0 x.key in
    let old4 : Old 0 (valid ∷ []) = All-cons P valid [] (head_old (codes "valid") (λ n. refl) refl) (All-nil P) in
    let old3 : Old 0 (members ∷ valid ∷ []) = All-cons P members (valid ∷ []) (head_old (codes "members") (λ n. refl) refl) old4 in
    let old2 : Old 0 (installed ∷ members ∷ valid ∷ []) = All-cons P installed (members ∷ valid ∷ []) (head_old (codes "installed") (λ n. refl) refl) old3 in
    let old : Old 0 (promised ∷ installed ∷ members ∷ valid ∷ []) = All-cons P promised (installed ∷ members ∷ valid ∷ []) (head_old (codes "promised") (λ n. refl) refl) old2 in
    let second = Other (codes "installed") in
    let third = Other (codes "members") in
    let fourth = Other (codes "valid") in
    let before2 : All second (promised ∷ []) = All-cons second promised [] (differ (codes "promised") (codes "installed") refl) (All-nil second) in
    let before3 : All third (promised ∷ installed ∷ []) =
    All-cons third promised (installed ∷ []) (differ (codes "promised") (codes "members") refl) (All-cons third installed [] (differ (codes "installed") (codes "members") refl) (All-nil third)) in
    let before4 : All fourth (promised ∷ installed ∷ members ∷ []) =
    All-cons fourth promised (installed ∷ members ∷ []) (differ (codes "promised") (codes "valid") refl) (All-cons fourth installed (members ∷ []) (differ (codes "installed") (codes "valid") refl) (All-cons fourth members [] (differ (codes "members") (codes "valid") refl) (All-nil fourth))) in (
      record { form = is_row (codes "promised") (decimal r.promised) (omega arith) (omega arith) (plain_if (codes "promised") refl) (text_decimal r.promised ok.width); fresh = All-nil (Other (codes "promised")) },
      (
        record { form = is_row (codes "installed") (decimal r.installed) (omega arith) (omega arith) (plain_if (codes "installed") refl) (text_decimal r.installed (omega (arith, ok.order, ok.width))); fresh = before2 },
        (
          record { form = is_row (codes "members") (set_text r.members) (omega arith) (omega arith) (plain_if (codes "members") refl) (text_set r.members); fresh = before3 },
          (
            record { form = is_row (codes "valid") (set_text r.valid) (omega arith) (omega arith) (plain_if (codes "valid") refl) (text_set r.valid); fresh = before4 },
            entries_follow 0 (promised ∷ installed ∷ members ∷ valid ∷ []) r.entries.committed r.entries.pending (omega (arith, ok.count)) old texts,
          ),
        ),
      ),
    )

pub table_from : (r : NodeRecord) (rows : List Row) → rows ≡ rows_of r → r.installed ≤ r.promised → Widths r → All IsRowText (texts_of r.entries) → AreRows rows
table_from r rows is order w texts = subst AreRows (sym is) (are_rows r (record { order = order; width = w.width; nodes = w.nodes; devices = w.devices; count = w.count }) texts)

-- ---- a text is the table of one record at most

abbrev pub rows_of_ok : Result (ℕ × List Row) TextError → List Row
rows_of_ok (Ok found) = found.1
rows_of_ok (Err e) = []

pub rows_are : (result : Result (ℕ × List Row) TextError) (n saves : ℕ) (rows others : List Row) → result ≡ Ok (n, rows) → (result ≡ Err NoMemory) ⊎ (result ≡ Ok (saves, others)) → rows ≡ others
rows_are result n saves rows others is (inl e) = absurd (cc)
rows_are result n saves rows others is (inr e) = ap rows_of_ok (sym is ∙ e)

abbrev pub saves_of_ok : Result (ℕ × List Row) TextError → ℕ
saves_of_ok (Ok found) = found.0
saves_of_ok (Err e) = 0

pub saves_are : (result : Result (ℕ × List Row) TextError) (n saves : ℕ) (rows others : List Row) → result ≡ Ok (n, rows) → (result ≡ Err NoMemory) ⊎ (result ≡ Ok (saves, others)) → n ≡ saves
saves_are result n saves rows others is (inl e) = absurd (cc)
saves_are result n saves rows others is (inr e) = ap saves_of_ok (sym is ∙ e)

pub not_bad : (result : Result (ℕ × List Row) TextError) (bad : TextError) (found : ℕ × List Row) → result ≡ Err bad → bad ≢ NoMemory → (result ≡ Err NoMemory) ⊎ (result ≡ Ok found) → ⊥
not_bad result bad found is other (inl e) = let same : bad ≡ NoMemory = cc in other same
not_bad result bad found is other (inr e) = absurd (cc)

pub no_table : (saves : ℕ) (rows : List Row) → IsTable [] saves rows → ⊥
no_table saves rows h = let first : 0 ≡ 99 = ap (λ t. get_or t 0 0) h.spelled in omega (arith, first)

same_rows : (text : List ℕ) (saves others : ℕ) (a b : List Row) → IsTable text saves a → IsTable text others b → a ≡ b
same_rows text saves others a b ha hb = ap rows_of_ok (one_answer text (Ok (saves, a)) (Ok (others, b)) ha hb)

abbrev pub no_row : Row
no_row = row [] []

abbrev pub value_at : ℕ → List Row → List ℕ
value_at i rows = (get_or rows i no_row).value

abbrev pub made : ℕ → ℕ → ℕ → ℕ → EntryList → NodeRecord
made promised installed members valid entries = record { promised = promised; installed = installed; members = members; valid = valid; entries = entries }

pub same_record : (a b : NodeRecord) → IsRecord a → IsRecord b → rows_of a ≡ rows_of b → a ≡ b
same_record a b ha hb same =
    let promised : a.promised ≡ b.promised = decimal_injective a.promised b.promised ha.width hb.width (ap (value_at 0) same) in
    let installed : a.installed ≡ b.installed = decimal_injective a.installed b.installed (omega (arith, ha.order, ha.width)) (omega (arith, hb.order, hb.width)) (ap (value_at 1) same) in
    let members : a.members ≡ b.members = list_back a.members b.members ha.nodes hb.nodes (ap (value_at 2) same) in
    let valid : a.valid ≡ b.valid = list_back a.valid b.valid (omega (arith, ha.devices)) (omega (arith, hb.devices)) (ap (value_at 3) same) in
    let entries : a.entries ≡ b.entries = entries_same a.entries b.entries (ap (drop 4) same) in
    ap (λ x. made x a.installed a.members a.valid a.entries) promised
    ∙ ap (λ x. made b.promised x a.members a.valid a.entries) installed
    ∙ ap (λ x. made b.promised b.installed x a.valid a.entries) members
    ∙ ap (λ x. made b.promised b.installed b.members x a.entries) valid
    ∙ ap (made b.promised b.installed b.members b.valid) entries

pub one_record : (text : List ℕ) (saves others : ℕ) (a b : NodeRecord) → IsRecord a → IsRecord b → IsTable text saves (rows_of a) → IsTable text others (rows_of b) → a ≡ b
one_record text saves others a b ha hb ta tb = same_record a b ha hb (same_rows text saves others (rows_of a) (rows_of b) ta tb)

-- the text of the rows is a record's
pub record_text : (text : List ℕ) (saves : ℕ) (r : NodeRecord) (rows : List Row) → IsRecord r → saves < 2 ^ 64 → rows ≡ rows_of r → AreRows rows → text ≡ table_text saves rows → IsRecordText text
record_text text saves r rows form fits is rows_form spelled =
    record { saves = saves; kept = r; form = form; table = record { fits = fits; form = subst AreRows is rows_form; spelled = spelled ∙ ap (table_text saves) is } }

pub record_table : (r : NodeRecord) (saves : ℕ) → IsRecord r → saves < 2 ^ 64 → All IsRowText (texts_of r.entries) → IsRecordText (table_text saves (rows_of r))
record_table r saves form fits texts = record_text (table_text saves (rows_of r)) saves r (rows_of r) form fits refl (are_rows r form texts) refl

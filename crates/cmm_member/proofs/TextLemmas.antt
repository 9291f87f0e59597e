-- How long the texts of records are.
use Rattle.std.proofs.Common.{◌≡◌, ℕ, zero, suc, ◌+◌, ◌-◌, ◌<◌, ◌≤◌, ◌^◌, ◌&&◌, ◌==◌, List, [], ◌∷◌, ◌++◌, length, take, get_or, Bool, true, false, refl, ap, sym, subst, ◌∙◌, append_assoc, length-append, arith}
use Rattle.std.specs.Prelude.{Option, Some, None, codes, flat_map, min, nat_le, if◌then◌else◌}
use Rattle.std.specs.List.{list_any}
use Rattle.std.specs.Fmt.{decimal}
use Rattle.std.proofs.lemmas.Bool.{true≢false}
use Rattle.std.proofs.lemmas.Bool.Decides.{nat_tests}
use Rattle.std.proofs.lemmas.Fmt.{decimal_nonempty, length-decimal-le}
use Rattle.cl_base.specs.Numbers.{numbers_to, by_commas, set_text}
use Rattle.cl_base.specs.Sets.{has}
use Rattle.ccr_commit.specs.Entries.{EntryList, listed, texts_of}
use Rattle.ccr_text.specs.declared.rows.Row.{Row}
use Rattle.ccr_text.specs.TableText.{IsTable}
use Rattle.ccr_text.specs.Lengths.{rows_length}
use Rattle.ccr_text.proofs.TextLengths.{texts}
use Rattle.cmm_member.specs.Records.{NodeRecord, row, rows_of, update_rows, pending_rows}
use Rattle.cmm_member.specs.Lengths.{record_length, full_length, RecordsHaveTheirLength, IsWithin, NoRecordIsLonger}
use Rattle.cmm_member.proofs.EntryLemmas.{update_rows-more}
use Rattle.cmm_member.proofs.ListLemmas.{Below, below_numbers, in_numbers}

pub records : RecordsHaveTheirLength
records text saves r table = ap length table.spelled ∙ texts saves (rows_of r)

-- ---- rows of updates

pub rows_append : (a b : List Row) → rows_length (a ++ b) ≡ rows_length a + rows_length b
rows_append [] b = omega arith
rows_append (r ∷ a) b = omega (arith, rows_append a b)

pub updates_append : (k : ℕ) (xs ys : List (List ℕ)) → rows_length (update_rows k (xs ++ ys)) ≡ rows_length (update_rows k xs) + rows_length (update_rows (k + length xs) ys)
updates_append k [] ys = ap (λ n. rows_length (update_rows n ys)) (let e : k ≡ k + 0 = omega arith in e) ∙ omega arith
updates_append k (x ∷ xs) ys =
    let e : k + 1 + length xs ≡ k + length (x ∷ xs) = omega arith in
    omega (arith, updates_append (k + 1) xs ys, ap (λ n. rows_length (update_rows n ys)) e)

pub updates_one : (k : ℕ) (text : List ℕ) → rows_length (update_rows k (text ∷ [])) ≡ 9 + length (decimal (k + 1)) + length text
updates_one k text = omega (arith, length-append (codes "update.") (decimal (k + 1)))

pending_bound : (k : ℕ) (pending : Option (List ℕ)) → rows_length (pending_rows pending) ≤ rows_length (update_rows k (listed pending))
pending_bound k None = omega arith
pending_bound k (Some text) = omega (arith, updates_one k text)

entries_bound : (e : EntryList) → rows_length (update_rows 0 e.committed ++ pending_rows e.pending) ≤ rows_length (update_rows 0 (texts_of e))
entries_bound e =
    omega (arith, rows_append (update_rows 0 e.committed) (pending_rows e.pending), updates_append 0 e.committed (listed e.pending), pending_bound (0 + length e.committed) e.pending)

-- ---- texts of sets

-- the bytes of the numbers, each with a comma
weight : List ℕ → ℕ
weight [] = 0
weight (n ∷ ns) = 1 + length (decimal n) + weight ns

weight_push : (ns : List ℕ) (n : ℕ) → weight (ns ++ n ∷ []) ≡ weight ns + 1 + length (decimal n)
unfolding weight
weight_push [] n = omega arith
weight_push (m ∷ ns) n = omega (arith, weight_push ns n)

weight_rest : (ns : List ℕ) → length (flat_map (λ m. 44 ∷ decimal m) ns) ≡ weight ns
unfolding weight
weight_rest [] = refl
weight_rest (n ∷ ns) = omega (arith, length-append (decimal n) (flat_map (λ m. 44 ∷ decimal m) ns), weight_rest ns)

weight_text : (n : ℕ) (ns : List ℕ) → length (by_commas (n ∷ ns)) + 1 ≡ weight (n ∷ ns)
unfolding weight
weight_text n ns = omega (arith, length-append (decimal n) (flat_map (λ m. 44 ∷ decimal m) ns), weight_rest ns)

weight_if : (t u : Bool) (xs ys : List ℕ) (n : ℕ) → (t ≡ true → u ≡ true) → weight xs ≤ weight ys → weight (if t then xs ++ n ∷ [] else xs) ≤ weight (if u then ys ++ n ∷ [] else ys)
weight_if true true xs ys n sub le = omega (arith, weight_push xs n, weight_push ys n, le)
weight_if true false xs ys n sub le = absurd (true≢false (sym (sub refl)))
weight_if false true xs ys n sub le = omega (arith, weight_push ys n, le)
weight_if false false xs ys n sub le = le

weight_within : (a b k : ℕ) → ((m : ℕ) → has a m ≡ true → has b m ≡ true) → weight (numbers_to a k) ≤ weight (numbers_to b k)
weight_within a b zero sub = omega arith
weight_within a b (suc k) sub = weight_if (has a (suc k)) (has b (suc k)) (numbers_to a k) (numbers_to b k) (suc k) (sub (suc k)) (weight_within a b k sub)

some_text : (ys : List ℕ) → Below ys → 1 ≤ length (by_commas ys)
some_text [] all = omega arith
some_text (y ∷ ys) all = omega (arith, length-append (decimal y) (flat_map (λ m. 44 ∷ decimal m) ys), decimal_nonempty y all.0)

text_bound : (xs ys : List ℕ) → Below ys → weight xs ≤ weight ys → length (by_commas xs) ≤ length (by_commas ys) + 3
unfolding weight
text_bound [] ys all le = omega (arith, some_text ys all)
text_bound (x ∷ xs) [] all le = absurd (omega (arith, le))
text_bound (x ∷ xs) (y ∷ ys) all le = omega (arith, weight_text x xs, weight_text y ys, le)

member_bound : (xs ys : List ℕ) (m : ℕ) → list_any (λ n. n == m) xs ≡ true → weight xs ≤ weight ys → length (by_commas xs) ≤ length (by_commas ys)
unfolding weight
member_bound [] ys m some le = absurd (true≢false (sym some))
member_bound (x ∷ xs) [] m some le = absurd (omega (arith, le))
member_bound (x ∷ xs) (y ∷ ys) m some le = omega (arith, weight_text x xs, weight_text y ys, le)

set_bound_at : (a b k : ℕ) → k ≤ 32 → ((m : ℕ) → has a m ≡ true → has b m ≡ true) → length (by_commas (numbers_to a k)) ≤ length (by_commas (numbers_to b k)) + 3
set_bound_at a b k most sub = text_bound (numbers_to a k) (numbers_to b k) (below_numbers b k most) (weight_within a b k sub)

member_bound_at : (a b k m : ℕ) → ((n : ℕ) → has a n ≡ true → has b n ≡ true) → has a m ≡ true → m ≤ k → length (by_commas (numbers_to a k)) ≤ length (by_commas (numbers_to b k))
member_bound_at a b k m sub there most =
    let near : nat_le m k ≡ true = grind (arith, nat_tests) in
    let some : list_any (λ n. n == m) (numbers_to a k) ≡ true = in_numbers a k m ∙ ap (λ t. t && has a m) near ∙ there in
    member_bound (numbers_to a k) (numbers_to b k) m some (weight_within a b k sub)

set_bound : (a b : ℕ) → ((m : ℕ) → has a m ≡ true → has b m ≡ true) → length (set_text a) ≤ length (set_text b) + 3
unfolding set_text
set_bound a b sub = set_bound_at a b 32 (omega arith) sub

member_set_bound : (a b m : ℕ) → ((n : ℕ) → has a n ≡ true → has b n ≡ true) → has a m ≡ true → m ≤ 32 → length (set_text a) ≤ length (set_text b)
unfolding set_text
member_set_bound a b m sub there most = member_bound_at a b 32 m sub there most

-- ---- the bound

nineteen : (n : ℕ) → n < 2 ^ 63 → length (decimal n) ≤ 19
nineteen n small = length-decimal-le 19 n (omega arith) (omega arith) (omega arith)

pub no_record : NoRecordIsLonger
no_record nodes devices saves r more within few low installed =
    omega (
      arith,
      nineteen saves few,
      nineteen r.promised low,
      nineteen r.installed installed,
      member_set_bound r.members nodes within.member within.members within.some within.most,
      set_bound r.valid devices within.valid,
      entries_bound r.entries,
      updates_append 0 (texts_of r.entries) more,
    )

-- ---- the loop over updates

abbrev pub capped : ℕ → ℕ
capped n = min n (2 ^ 64 - 1)

pub capped_sum : (a b x y : ℕ) → x ≡ capped a → y ≡ capped b → min (x + y) (2 ^ 64 - 1) ≡ capped (a + b)
capped_sum a b x y e f = omega (arith, e, f)

pub updates_more : (texts : List (List ℕ)) (i : ℕ) (text : List ℕ) → i < length texts → text ≡ get_or texts i text
    → rows_length (update_rows 0 (take (i + 1) texts)) ≡ rows_length (update_rows 0 (take i texts)) + (9 + length (decimal (i + 1)) + length text)
updates_more texts i text low here =
    ap rows_length (update_rows-more texts i text low here)
    ∙ omega (arith, rows_append (update_rows 0 (take i texts)) (row (codes "update." ++ decimal (i + 1)) text ∷ []), length-append (codes "update.") (decimal (i + 1)))

-- the row of an update at a place
abbrev pub one_row : ℕ → List ℕ → ℕ
one_row place text = 9 + length (decimal place) + length text

all_none : (xs : List (List ℕ)) → rows_length (update_rows 0 (xs ++ [])) ≡ rows_length (update_rows 0 xs)
all_none xs = omega (arith, updates_append 0 xs [])

all_some : (xs : List (List ℕ)) (text : List ℕ) → rows_length (update_rows 0 (xs ++ text ∷ [])) ≡ rows_length (update_rows 0 xs) + one_row (length xs + 1) text
all_some xs text =
    let first : 0 + length xs ≡ length xs = omega arith in
    omega (arith, updates_append 0 xs (text ∷ []), updates_one (0 + length xs) text, ap (λ n. length (decimal (n + 1))) first)

pub total_none : (e : EntryList) (xs : List (List ℕ)) (total : ℕ) → None ≡ e.pending → xs ≡ e.committed → total ≡ capped (rows_length (update_rows 0 xs)) → total ≡ capped (rows_length (update_rows 0 (texts_of e)))
total_none e xs total ep ex et =
    let whole : rows_length (update_rows 0 (texts_of e)) ≡ rows_length (update_rows 0 xs) =
    ap (λ p. rows_length (update_rows 0 (e.committed ++ listed p))) (sym ep) ∙ all_none e.committed ∙ ap (λ ys. rows_length (update_rows 0 ys)) (sym ex) in
    et ∙ ap capped (sym whole)

pub total_some : (e : EntryList) (text : List ℕ) (xs : List (List ℕ)) (before added total : ℕ) → Some text ≡ e.pending → xs ≡ e.committed → before ≡ capped (rows_length (update_rows 0 xs))
    → added ≡ capped (one_row (length xs + 1) text) → total ≡ capped (before + added) → total ≡ capped (rows_length (update_rows 0 (texts_of e)))
total_some e text xs before added total ep ex eb ea et =
    let rows : ℕ = rows_length (update_rows 0 xs) in
    let whole : rows_length (update_rows 0 (texts_of e)) ≡ rows + one_row (length xs + 1) text =
    ap (λ p. rows_length (update_rows 0 (e.committed ++ listed p))) (sym ep) ∙ all_some e.committed text
    ∙ ap (λ ys. rows_length (update_rows 0 ys) + one_row (length ys + 1) text) (sym ex) in
    et ∙ capped_sum rows (one_row (length xs + 1) text) before added eb ea ∙ ap capped (sym whole)

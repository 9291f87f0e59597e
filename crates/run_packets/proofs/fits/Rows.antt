-- Where its updates have room, and its sets are those of the cluster, a record fits its disk.
use Rattle.std.proofs.Common.{◌≡◌, ℕ, zero, suc, ◌+◌, ◌*◌, ◌<◌, ◌≤◌, ◌^◌, ◌&&◌, ◌⊎◌, nat_le, List, [], ◌∷◌, ◌++◌, length, take, drop, Bool, true, false, if◌then◌else◌, Option, Some, None, flat_map, refl, ap, sym, subst, ◌∙◌, inl, inr, append-nil, length-append, take-append-drop, arith}
use Rattle.std.specs.List.{list_all}
use Rattle.std.specs.Fmt.{decimal}
use Rattle.std.proofs.lemmas.Bool.Decides.{nat_tests}
use Rattle.std.proofs.lemmas.Fmt.{length-decimal-le}
use Rattle.std.proofs.lemmas.List.Folds.{list_all-append}
use Rattle.ccr_commit.specs.Entries.{listed, texts_of}
use Rattle.ccr_text.specs.Lengths.{rows_length}
use Rattle.cl_base.specs.Limits.{most_nodes}
use Rattle.cl_base.specs.Numbers.{by_commas, numbers_to, set_text}
use Rattle.cl_base.specs.Sets.{has}
use Rattle.cmm_member.proofs.TextLemmas.{no_record, updates_append, updates_one}
use Rattle.cmm_member.specs.Lengths.{full_length, record_length}
use Rattle.cmm_member.specs.Records.{NodeRecord, pending_rows, update_rows}
use Rattle.record_disk.specs.Disks.{fits, is_plain_byte, is_row_text}
use Rattle.run_packets.specs.fits.Rooms.{HasRoom}

-- ---- updates

both : (a b : Bool) → a ≡ true → b ≡ true → (a && b) ≡ true
both true true h k = refl
both false b h k = absurd (cc)
both true false h k = absurd (cc)

first_of : (a b : Bool) → (a && b) ≡ true → a ≡ true
first_of true b h = refl
first_of false b h = absurd (cc)

full_append : (nodes devices : ℕ) (xs ys : List (List ℕ)) → full_length nodes devices (xs ++ ys) ≡ full_length nodes devices xs + rows_length (update_rows (0 + length xs) ys)
full_append nodes devices xs ys = omega (arith, updates_append 0 xs ys)

-- the first of them have room, too
pub room_first : (nodes devices : ℕ) (xs ys : List (List ℕ)) → HasRoom nodes devices (xs ++ ys) → HasRoom nodes devices xs
room_first nodes devices xs ys h = record {
  rows = first_of (list_all is_row_text xs) (list_all is_row_text ys) (sym (list_all-append is_row_text xs ys) ∙ h.rows);
  most = omega (arith, h.most, full_append nodes devices xs ys);
}

pub room_take : (nodes devices n : ℕ) (xs : List (List ℕ)) → HasRoom nodes devices xs → HasRoom nodes devices (take n xs)
room_take nodes devices n xs h = room_first nodes devices (take n xs) (drop n xs) (subst (HasRoom nodes devices) (sym (take-append-drop n xs)) h)

-- with one more
pub full_more : (nodes devices : ℕ) (xs : List (List ℕ)) (text : List ℕ) → full_length nodes devices (xs ++ text ∷ []) ≡ full_length nodes devices xs + (9 + length (decimal (length xs + 1)) + length text)
full_more nodes devices xs text =
    let same : 0 + length xs ≡ length xs = omega arith in
    full_append nodes devices xs (text ∷ []) ∙ omega (arith, updates_one (0 + length xs) text, ap (λ k. length (decimal (k + 1))) same)

small_text : (k : ℕ) → k ≤ 65535 → nat_le k 65535 ≡ true
small_text k h = grind (arith, nat_tests)

pub room_more : (nodes devices : ℕ) (xs : List (List ℕ)) (text : List ℕ) → HasRoom nodes devices xs → list_all is_plain_byte text ≡ true
    → full_length nodes devices xs + (9 + length (decimal (length xs + 1)) + length text) ≤ 65536 → HasRoom nodes devices (xs ++ text ∷ [])
room_more nodes devices xs text h plain most = record {
  rows =
      list_all-append is_row_text xs (text ∷ [])
      ∙ both (list_all is_row_text xs) (is_row_text text && true) h.rows
      (both (is_row_text text) true (both (nat_le (length text) 65535) (list_all is_plain_byte text) (small_text (length text) (omega (arith, most))) plain) refl);
  most = omega (arith, most, full_more nodes devices xs text);
}

-- ---- sets

size : List ℕ → ℕ
size [] = 0
size (n ∷ ns) = 1 + length (decimal n) + size ns

size_push : (ns : List ℕ) (n : ℕ) → size (ns ++ n ∷ []) ≡ size ns + 1 + length (decimal n)
unfolding size
size_push [] n = omega arith
size_push (m ∷ ns) n = omega (arith, size_push ns n)

size_rest : (ns : List ℕ) → length (flat_map (λ m. 44 ∷ decimal m) ns) ≡ size ns
unfolding size
size_rest [] = refl
size_rest (n ∷ ns) = omega (arith, length-append (decimal n) (flat_map (λ m. 44 ∷ decimal m) ns), size_rest ns)

size_text : (ns : List ℕ) → length (by_commas ns) ≤ 4 + size ns
unfolding size
size_text [] = omega arith
size_text (n ∷ ns) = omega (arith, length-append (decimal n) (flat_map (λ m. 44 ∷ decimal m) ns), size_rest ns)

two_digits : (n : ℕ) → n ≤ 32 → length (decimal n) ≤ 2
two_digits n h = length-decimal-le 2 n (omega arith) (omega (arith, h)) (omega (arith, h))

size_if : (t : Bool) (xs : List ℕ) (n k : ℕ) → size xs ≤ 3 * k → length (decimal n) ≤ 2 → size (if t then xs ++ n ∷ [] else xs) ≤ 3 * suc k
size_if true xs n k le two = omega (arith, size_push xs n, le, two)
size_if false xs n k le two = omega (arith, le)

size_to : (set k : ℕ) → k ≤ 32 → size (numbers_to set k) ≤ 3 * k
unfolding size
size_to set zero le = omega arith
size_to set (suc k) le = size_if (has set (suc k)) (numbers_to set k) (suc k) k (size_to set k (omega (arith, le))) (two_digits (suc k) le)

set_size : (set : ℕ) → length (set_text set) ≤ 100
unfolding set_text
set_size set = omega (arith, size_text (numbers_to set 32), size_to set 32 (omega arith))

-- no update has room
pub none_room : (nodes devices : ℕ) → HasRoom nodes devices []
none_room nodes devices = record { rows = refl; most = omega (arith, set_size nodes, set_size devices) }

-- ---- records

twenty : (n : ℕ) → n < 2 ^ 64 → length (decimal n) ≤ 20
twenty n small = length-decimal-le 20 n (omega arith) (omega (arith, small)) (omega (arith, small))

no_rows : (committed : List (List ℕ)) (pending : Option (List ℕ)) → committed ++ listed pending ≡ [] → rows_length (update_rows 0 committed ++ pending_rows pending) ≡ 0
no_rows [] None e = refl
no_rows [] (Some text) e = absurd (cc)
no_rows (x ∷ xs) pending e = absurd (cc)

-- a record without updates
bare_length : (saves : ℕ) (r : NodeRecord) → saves < 2 ^ 63 → r.promised < 2 ^ 63 → r.installed < 2 ^ 63 → texts_of r.entries ≡ [] → record_length saves r ≤ 65536
bare_length saves r few low installed none =
    omega (
      arith,
      twenty saves (omega (arith, few)),
      twenty r.promised (omega (arith, low)),
      twenty r.installed (omega (arith, installed)),
      set_size r.members,
      set_size r.valid,
      no_rows r.entries.committed r.entries.pending none,
    )

-- what is asked of it
pub record Sound (nodes devices me : ℕ) (r : NodeRecord) : Type 0 where
  pub order : r.installed ≤ r.promised
  pub low : r.promised < 2 ^ 63
  pub members : (k : ℕ) → has r.members k ≡ true → has nodes k ≡ true
  pub valid : (d : ℕ) → has r.valid d ≡ true → has devices d ≡ true
  pub own : (texts_of r.entries ≡ []) ⊎ (has r.members me ≡ true)
  pub room : HasRoom nodes devices (texts_of r.entries)

below : (a b k : ℕ) → a ≤ b → b < k → a < k
below a b k h l = omega (arith, h, l)

length_is : (nodes devices me saves : ℕ) (r : NodeRecord) → me ≤ most_nodes → saves < 2 ^ 63 → Sound nodes devices me r → (texts_of r.entries ≡ []) ⊎ (has r.members me ≡ true) → record_length saves r ≤ 65536
length_is nodes devices me saves r high few h (inl none) = bare_length saves r few h.low (below r.installed r.promised (2 ^ 63) h.order h.low) none
length_is nodes devices me saves r high few h (inr own) =
    let within : record_length saves r ≤ full_length nodes devices (texts_of r.entries ++ []) =
    no_record nodes devices saves r [] (record { members = h.members; valid = h.valid; member = me; some = own; most = high }) few h.low (below r.installed r.promised (2 ^ 63) h.order h.low) in
    omega (arith, within, h.room.most, ap (full_length nodes devices) (append-nil (texts_of r.entries)))

le_test : (a b : ℕ) → a ≤ b → nat_le a b ≡ true
le_test a b h = grind (arith, nat_tests)

pub sound_fits : (nodes devices me saves : ℕ) (r : NodeRecord) → me ≤ most_nodes → saves < 2 ^ 63 → Sound nodes devices me r → fits saves r ≡ true
sound_fits nodes devices me saves r high few h =
    both (nat_le r.installed r.promised) (list_all is_row_text (texts_of r.entries) && nat_le (record_length saves r) 65536) (le_test r.installed r.promised h.order)
    (both (list_all is_row_text (texts_of r.entries)) (nat_le (record_length saves r) 65536) h.room.rows (le_test (record_length saves r) 65536 (length_is nodes devices me saves r high few h h.own)))

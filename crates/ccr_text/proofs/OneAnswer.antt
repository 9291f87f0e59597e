-- A text asks for one answer.
use Rattle.std.proofs.Common.{rules, ◌≡◌, ◌⊎◌, ℕ, ◌+◌, ◌<◌, ◌^◌, inl, inr, List, [], ◌++◌, length, ap, sym, ◌∙◌, append-nil}
use Rattle.std.specs.Prelude.{Result, Ok, Err, IfOk}
use Rattle.sha2.specs.Sha256.{sha256}
use Rattle.ccr_text.specs.declared.rows.Row.{Row}
use Rattle.ccr_text.specs.declared.error.Digest.{Digest}
use Rattle.ccr_text.specs.declared.error.TextError.{TextError}
use Rattle.ccr_text.specs.declared.error.TextError.TheVariants.{BadLine, BadChecksum, NoMemory}
use Rattle.ccr_text.specs.TableText.{AreRows, IsDigest, IsTable, IsBadFirst, IsBadSecond, IsBadAfter, IsBadLine, IsBadChecksum, IsAnswer, gennum_line, checksum_line, row_lines}
use Rattle.ccr_text.proofs.CutLemmas.{gennum_same, checksum_same, sha_is_digest}
use Rattle.ccr_text.proofs.RowLemmas.{NoNext, nothing_next, rows_same}

-- the two first lines and these rows begin the text, and no row goes on from there
pub record Begins (text : List ℕ) (n : ℕ) (digest : List ℕ) (rows : List Row) (rest : List ℕ) : Type 0 where
  pub fits : n < 2 ^ 64
  pub kept : IsDigest digest
  pub form : AreRows rows
  pub begun : text ≡ gennum_line n ++ (checksum_line digest ++ (row_lines rows ++ rest))
  pub stops : NoNext rows rest

begins_same : (text : List ℕ) (m n : ℕ) (d e : List ℕ) (rows others : List Row) (x y : List ℕ) → Begins text m d rows x → Begins text n e others y → (m ≡ n) × (d ≡ e) × (rows ≡ others) × (x ≡ y)
begins_same text m n d e rows others x y a b =
    let first = gennum_same m n _ _ a.fits b.fits (sym a.begun ∙ b.begun) in
    let second = checksum_same d e _ _ a.kept b.kept first.1 in
    let third = rows_same [] rows others x y a.form b.form a.stops b.stops second.1 in
    (first.0, second.0, third.0, third.1)

-- all lines are spelled, with nothing after them
all_begins : (text : List ℕ) (n : ℕ) (digest : List ℕ) (rows : List Row) → n < 2 ^ 64 → IsDigest digest → AreRows rows → text ≡ gennum_line n ++ (checksum_line digest ++ row_lines rows) → Begins text n digest rows []
all_begins text n digest rows fits kept form spelled = record {
  fits = fits;
  kept = kept;
  form = form;
  begun = spelled ∙ ap (λ t. gennum_line n ++ (checksum_line digest ++ t)) (sym (append-nil (row_lines rows)));
  stops = nothing_next rows;
}

of_table : (text : List ℕ) (n : ℕ) (rows : List Row) → IsTable text n rows → Begins text n (sha256 (row_lines rows)) rows []
of_table text n rows h = all_begins text n (sha256 (row_lines rows)) rows h.fits (sha_is_digest (row_lines rows)) h.form h.spelled

of_checksum : (text kept computed : List ℕ) (h : IsBadChecksum text kept computed) → Begins text h.gennum kept h.rows []
of_checksum text kept computed h = all_begins text h.gennum kept h.rows h.fits h.digest h.form h.spelled

of_row : (text : List ℕ) (rows : List Row) (h : IsBadAfter text rows) → Begins text h.gennum h.digest rows h.rest
of_row text rows h = record { fits = h.fits; kept = h.kept; form = h.form; begun = h.begun; stops = h.bad.none }

not_first : (text : List ℕ) (n : ℕ) (digest : List ℕ) (rows : List Row) (rest : List ℕ) → IsBadFirst text → Begins text n digest rows rest → ⊥
not_first text n digest rows rest h b = h.none n _ b.fits b.begun

not_second : (text : List ℕ) (n : ℕ) (digest : List ℕ) (rows : List Row) (rest : List ℕ) → IsBadSecond text → Begins text n digest rows rest → ⊥
not_second text n digest rows rest h b = h.none digest _ b.kept (gennum_same h.gennum n _ _ h.fits b.fits (sym h.begun ∙ b.begun)).1

first_or_second : (text : List ℕ) → IsBadFirst text → IsBadSecond text → ⊥
first_or_second text h k = h.none k.gennum k.rest k.fits k.begun

-- a line is not allowed, or all are there
line_or_all : (text : List ℕ) (k n : ℕ) (digest : List ℕ) (rows : List Row) → IsBadLine text k → Begins text n digest rows [] → ⊥
line_or_all text k n digest rows (inl h) b = not_first text n digest rows [] h.1 b
line_or_all text k n digest rows (inr (inl h)) b = not_second text n digest rows [] h.1 b
line_or_all text k n digest rows (inr (inr h)) b = h.2.bad.left (begins_same text _ n _ digest h.0 rows _ [] (of_row text h.0 h.2) b).3

same_line : (text : List ℕ) (j k : ℕ) → IsBadLine text j → IsBadLine text k → j ≡ k
same_line text j k (inl a) (inl b) = a.0 ∙ sym b.0
same_line text j k (inl a) (inr (inl b)) = absurd (first_or_second text a.1 b.1)
same_line text j k (inl a) (inr (inr b)) = absurd (not_first text _ _ _ _ a.1 (of_row text b.0 b.2))
same_line text j k (inr (inl a)) (inl b) = absurd (first_or_second text b.1 a.1)
same_line text j k (inr (inl a)) (inr (inl b)) = a.0 ∙ sym b.0
same_line text j k (inr (inl a)) (inr (inr b)) = absurd (not_second text _ _ _ _ a.1 (of_row text b.0 b.2))
same_line text j k (inr (inr a)) (inl b) = absurd (not_first text _ _ _ _ b.1 (of_row text a.0 a.2))
same_line text j k (inr (inr a)) (inr (inl b)) = absurd (not_second text _ _ _ _ b.1 (of_row text a.0 a.2))
same_line text j k (inr (inr a)) (inr (inr b)) =
    a.1 ∙ ap (λ rows. length rows + 3) (begins_same text _ _ _ _ a.0 b.0 _ _ (of_row text a.0 a.2) (of_row text b.0 b.2)).2 ∙ sym b.1

table_or_checksum : (text : List ℕ) (n : ℕ) (rows : List Row) (kept computed : List ℕ) → IsTable text n rows → IsBadChecksum text kept computed → ⊥
table_or_checksum text n rows kept computed h k =
    let same = begins_same text n k.gennum (sha256 (row_lines rows)) kept rows k.rows [] [] (of_table text n rows h) (of_checksum text kept computed k) in
    k.differ (sym same.1 ∙ ap (λ rs. sha256 (row_lines rs)) same.2 ∙ sym k.computes)

abbrev digest_with : List ℕ → Digest
digest_with bytes = record { bytes = bytes }

abbrev pub found_with : ℕ → List Row → Result (ℕ × List Row) TextError
found_with n rows = Ok (n, rows)

pub one_answer : (text : List ℕ) (a b : Result (ℕ × List Row) TextError) → IsAnswer text a → IsAnswer text b → a ≡ b
one_answer text (Ok f) (Ok g) a b =
    let same = begins_same text f.0 g.0 _ _ f.1 g.1 [] [] (of_table text f.0 f.1 a) (of_table text g.0 g.1 b) in
    ap (λ n. found_with n f.1) same.0 ∙ ap (λ rows. found_with g.0 rows) same.2
one_answer text (Ok f) (Err (BadLine k)) a b = absurd (line_or_all text k f.0 _ f.1 b (of_table text f.0 f.1 a))
one_answer text (Ok f) (Err (BadChecksum kept computed)) a b = absurd (table_or_checksum text f.0 f.1 kept.bytes computed.bytes a b)
one_answer text (Ok f) (Err NoMemory) a b = absurd b
one_answer text (Err (BadLine j)) (Ok g) a b = absurd (line_or_all text j g.0 _ g.1 a (of_table text g.0 g.1 b))
one_answer text (Err (BadLine j)) (Err (BadLine k)) a b = ap (λ n. Err (BadLine n)) (same_line text j k a b)
one_answer text (Err (BadLine j)) (Err (BadChecksum kept computed)) a b = absurd (line_or_all text j _ _ _ a (of_checksum text kept.bytes computed.bytes b))
one_answer text (Err (BadLine j)) (Err NoMemory) a b = absurd b
one_answer text (Err (BadChecksum kept computed)) (Ok g) a b = absurd (table_or_checksum text g.0 g.1 kept.bytes computed.bytes b a)
one_answer text (Err (BadChecksum kept computed)) (Err (BadLine k)) a b = absurd (line_or_all text k _ _ _ b (of_checksum text kept.bytes computed.bytes a))
one_answer text (Err (BadChecksum kept computed)) (Err (BadChecksum other further)) a b =
    let same = begins_same text _ _ kept.bytes other.bytes a.rows b.rows [] [] (of_checksum text kept.bytes computed.bytes a) (of_checksum text other.bytes further.bytes b) in
    let sums : computed.bytes ≡ further.bytes = a.computes ∙ ap (λ rs. sha256 (row_lines rs)) same.2 ∙ sym b.computes in
    ap (λ k. Err (BadChecksum (digest_with k) computed)) same.1 ∙ ap (λ c. Err (BadChecksum other (digest_with c))) sums
one_answer text (Err (BadChecksum kept computed)) (Err NoMemory) a b = absurd b
one_answer text (Err NoMemory) b a c = absurd a

-- a table that was read
pub table_of_answer : (text : List ℕ) (r : Result (ℕ × List Row) TextError) → (r ≡ Err NoMemory) ⊎ IsAnswer text r → IfOk r (λ found. IsTable text found.0 found.1)
table_of_answer text (Ok found) (inl none) = absurd (cc none)
table_of_answer text (Ok found) (inr is) = is
table_of_answer text (Err e) h = tt

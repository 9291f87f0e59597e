-- A table's text from its parts.
use Rattle.std.proofs.Common.{◌≡◌, ℕ, ◌<◌, ◌^◌, List, ◌++◌, ap, ◌∙◌, append_assoc}
use Rattle.sha2.specs.Sha256.{sha256}
use Rattle.ccr_text.specs.declared.rows.Row.{Row}
use Rattle.ccr_text.specs.TableText.{AreRows, IsTable, gennum_line, checksum_line, row_lines, table_text}

pub table_from : (n : ℕ) (rows : List Row) (head body whole digest : List ℕ) → whole ≡ head ++ body → head ≡ gennum_line n ++ checksum_line digest → digest ≡ sha256 body → body ≡ row_lines rows → whole ≡ table_text n rows
table_from n rows head body whole digest joined first sum lines =
    joined ∙ ap (λ h. h ++ body) first ∙ append_assoc (gennum_line n) (checksum_line digest) body
    ∙ ap (λ d. gennum_line n ++ (checksum_line d ++ body)) sum
    ∙ ap (λ b. gennum_line n ++ (checksum_line (sha256 b) ++ b)) lines

pub table_read : (text : List ℕ) (n : ℕ) (rest kept body computed : List ℕ) (rows : List Row) → n < 2 ^ 64 → text ≡ gennum_line n ++ rest → rest ≡ checksum_line kept ++ body → AreRows rows → body ≡ row_lines rows → computed ≡ sha256 body → kept ≡ computed → IsTable text n rows
table_read text n rest kept body computed rows fits first second form lines sum same = record {
  fits = fits;
  form = form;
  spelled = first ∙ ap (λ r. gennum_line n ++ r) (second ∙ ap (λ k. checksum_line k ++ body) (same ∙ sum)
      ∙ ap (λ b. checksum_line (sha256 b) ++ b) lines);
}

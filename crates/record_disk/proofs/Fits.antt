-- The test of a record, part by part.
use Rattle.std.proofs.Common.{◌≡◌, ◌≢◌, ℕ, ◌<◌, ◌≤◌, Bool, true, false, List, [], ◌∷◌, length, sym, ◌∙◌, ap}
use Rattle.std.specs.Prelude.{◌&&◌, ◌==◌, not, nat_le, All}
use Rattle.std.specs.List.{list_all}
use Rattle.std.proofs.lemmas.List.Elements.{All-nil, All-cons}
use Rattle.std.proofs.lemmas.Bool.{leb-true, lt-leb, le-leb, eq-eqb}
use Rattle.ccr_text.specs.TableText.{IsPlain}
use Rattle.ccr_commit.specs.Entries.{texts_of}
use Rattle.cmm_member.specs.Records.{NodeRecord, IsRowText}
use Rattle.cmm_member.specs.Lengths.{record_length}
use Rattle.record_disk.specs.Disks.{fits, is_plain_byte, is_row_text}

both : (a b : Bool) → (a && b) ≡ true → (a ≡ true) × (b ≡ true)
both true b e = (λ i. true, e)
both false b e = absurd (cc (e))

off_right : (a : Bool) → (a && false) ≡ false
off_right true = λ i. false
off_right false = λ i. false

no_byte : (b k : ℕ) → not (b == k) ≡ true → b ≡ k → ⊥
no_byte b k e same = let on : (b == k) ≡ true = eq-eqb b k same in absurd (cc (e, on))

plain : (text : List ℕ) → list_all is_plain_byte text ≡ true → IsPlain text
plain [] e = All-nil (λ (b : ℕ). (b ≢ 9) × (b ≢ 10))
plain (b ∷ bs) e =
    let here = both (is_plain_byte b) (list_all is_plain_byte bs) e in
    let two = both (not (b == 9)) (not (b == 10)) here.0 in All-cons (λ (k : ℕ). (k ≢ 9) × (k ≢ 10)) b bs (no_byte b 9 two.0, no_byte b 10 two.1) (plain bs here.1)

row_text : (text : List ℕ) → is_row_text text ≡ true → IsRowText text
row_text text e =
    let two = both (nat_le (length text) 65535) (list_all is_plain_byte text) e in
    (leb-true (length text) 65535 two.0, plain text two.1)

-- each text fits a row
pub row_texts : (texts : List (List ℕ)) → list_all is_row_text texts ≡ true → All IsRowText texts
row_texts [] e = All-nil IsRowText
row_texts (text ∷ texts) e = let two = both (is_row_text text) (list_all is_row_text texts) e in All-cons IsRowText text texts (row_text text two.0) (row_texts texts two.1)

-- ---- the three parts

rest_as : (saves : ℕ) (r : NodeRecord) → r.installed ≤ r.promised → list_all is_row_text (texts_of r.entries) ≡ true → nat_le (record_length saves r) 65536 ≡ fits saves r
rest_as saves r order rows =
    sym
    (ap (λ (b : Bool). b && (list_all is_row_text (texts_of r.entries) && nat_le (record_length saves r) 65536)) (le-leb r.installed r.promised order)
    ∙ ap (λ (b : Bool). b && nat_le (record_length saves r) 65536) rows)

pub too_long : (saves : ℕ) (r : NodeRecord) → r.installed ≤ r.promised → list_all is_row_text (texts_of r.entries) ≡ true → 65536 < record_length saves r → false ≡ fits saves r
too_long saves r order rows long = sym (lt-leb (record_length saves r) 65536 long) ∙ rest_as saves r order rows

pub all_fit : (saves : ℕ) (r : NodeRecord) → r.installed ≤ r.promised → list_all is_row_text (texts_of r.entries) ≡ true → record_length saves r ≤ 65536 → true ≡ fits saves r
all_fit saves r order rows most = sym (le-leb (record_length saves r) 65536 most) ∙ rest_as saves r order rows

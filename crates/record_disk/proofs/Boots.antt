-- What a boot gives, with its two clauses in one.
use Rattle.std.proofs.Common.{◌≡◌, ℕ, List}
use Rattle.std.specs.Prelude.{Result, Ok, Err, IfOk}
use Rattle.ccr_text.specs.TableText.{IsTable}
use Rattle.cmm_member.specs.Records.{NodeRecord, IsRecord, rows_of}
use Rattle.cmm_member.specs.Nodes.{DownState, NodeState, booted}
use Rattle.record_disk.specs.Images.{IsTextFor}

abbrev pub ComesUp : {E : Type 0} → Result (NodeState × ℕ) E → DownState → List ℕ → Type 0
ComesUp result down text = IfOk result (λ up. (saves : ℕ) (r : NodeRecord) → IsTextFor text saves r → (up.0 ≡ booted down r) × (up.1 ≡ saves))

pub boots : {E : Type 0} (result : Result (NodeState × ℕ) E) (down : DownState) (text : List ℕ)
    → IfOk result (λ up. (saves : ℕ) (r : NodeRecord) → IsRecord r → IsTable text saves (rows_of r) → up.0 ≡ booted down r)
    → IfOk result (λ up. (saves : ℕ) (r : NodeRecord) → IsRecord r → IsTable text saves (rows_of r) → up.1 ≡ saves)
    → ComesUp result down text
boots (Ok up) down text read told = λ saves r is. (read saves r is.form is.table, told saves r is.form is.table)
boots (Err e) down text read told = tt

pub boots_as : {E : Type 0} (result : Result (NodeState × ℕ) E) (down : DownState) (text : List ℕ) (saves : ℕ) (r : NodeRecord) (P : Type 0)
    → ComesUp result down text → IsTextFor text saves r → IfOk result (λ up. P → (up.0 ≡ booted down r) × (up.1 ≡ saves))
boots_as (Ok up) down text saves r P up_is is = λ p. up_is saves r is
boots_as (Err e) down text saves r P up_is is = tt

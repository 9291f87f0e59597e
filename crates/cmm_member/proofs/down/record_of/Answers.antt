use Rattle.std.proofs.Common.{◌≡◌, ◌≤◌, ◌∙◌, sym, subst}
use Rattle.std.specs.Prelude.{MatchOption, Ok}
use Rattle.cmm_member.specs.Records.{NodeRecord, rows_of}
use Rattle.cmm_member.specs.Views.{kept}
use Rattle.cmm_member.proofs.RowLemmas.{rows_are, saves_are, not_bad}
use Rattle.cmm_member.proofs.down.record_of.Goals as goal

pub unreachable-requires : goal.unreachable-requires
unreachable-requires c =
    not_bad c.read_table.result c.in-Err-BadLine.field-0 (c.requires.saves, rows_of c.requires.kept) c.in-Err-BadLine.is (λ e. absurd (cc (c.in-Err-BadLine.field-0-is, e)))
    (c.read_table.ensures.only (Ok (c.requires.saves, rows_of c.requires.kept)) c.requires.table)

pub unreachable-requires-in-Err-BadChecksum : goal.unreachable-requires-in-Err-BadChecksum
unreachable-requires-in-Err-BadChecksum c =
    not_bad c.read_table.result c.in-Err-BadChecksum.field-0 (c.requires.saves, rows_of c.requires.kept) c.in-Err-BadChecksum.is (λ e. absurd (cc (c.in-Err-BadChecksum.field-0-is, e)))
    (c.read_table.ensures.only (Ok (c.requires.saves, rows_of c.requires.kept)) c.requires.table)

pub unreachable-requires-in_default : goal.unreachable-requires-in_default
unreachable-requires-in_default c =
    let rows = rows_are c.read_table.result c.in-Ok.saves c.requires.saves c.in-Ok.rows (rows_of c.requires.kept) c.in-Ok.is (c.read_table.ensures.only (Ok (c.requires.saves, rows_of c.requires.kept)) c.requires.table) in
    subst (λ o. MatchOption o ⊥ (λ d. kept d ≡ c.requires.kept)) c.in_default.is (c.in_ok-record.ensures c.requires.kept c.requires.form (c.items.ensures.value ∙ rows))

pub returns-clause-read : goal.returns-clause-read
returns-clause-read c = λ saves r form table.
    let rows = rows_are c.read_table.result c.in-Ok.saves saves c.in-Ok.rows (rows_of r) c.in-Ok.is (c.read_table.ensures.only (Ok (saves, rows_of r)) table) in
    subst (λ o. MatchOption o ⊥ (λ d. kept d ≡ r)) c.in-Some.is (c.in_ok-record.ensures r form (c.items.ensures.value ∙ rows))

pub returns-clause-saves : goal.returns-clause-saves
returns-clause-saves c = λ saves r form table.
    saves_are c.read_table.result c.in-Ok.saves saves c.in-Ok.rows (rows_of r) c.in-Ok.is (c.read_table.ensures.only (Ok (saves, rows_of r)) table)

pub returns-clause-order : goal.returns-clause-order
returns-clause-order c =
    let rows = rows_are c.read_table.result c.in-Ok.saves c.requires.saves c.in-Ok.rows (rows_of c.requires.kept) c.in-Ok.is (c.read_table.ensures.only (Ok (c.requires.saves, rows_of c.requires.kept)) c.requires.table) in
    let same : kept c.in-Some.record ≡ c.requires.kept = subst (λ o. MatchOption o ⊥ (λ d. kept d ≡ c.requires.kept)) c.in-Some.is (c.in_ok-record.ensures c.requires.kept c.requires.form (c.items.ensures.value ∙ rows)) in
    subst (λ (r : NodeRecord). r.installed ≤ r.promised) (sym same) c.requires.form.order

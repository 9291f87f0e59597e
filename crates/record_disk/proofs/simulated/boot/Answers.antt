use Rattle.std.proofs.Common.{◌≡◌, sym, subst, List, [], ℕ}
use Rattle.cmm_member.specs.Views.{kept}
use Rattle.record_disk.specs.Images.{IsTextFor}
use Rattle.record_disk.proofs.Boots.{ComesUp, boots, boots_as}
use Rattle.record_disk.proofs.simulated.boot.Goals as goal

pub returns-then-is_empty-clause-first : goal.returns-then-is_empty-clause-first
returns-then-is_empty-clause-first c =
    let text = c.as_slice.result.now in
    boots_as c.boot.result c.args.down text c.args.last.now.saves (kept c.args.last.now.durable) (c.args.text.items ≡ []) (boots c.boot.result c.args.down text c.boot.ensures.read c.boot.ensures.saves)
    (subst (λ (t : List ℕ). IsTextFor t c.args.last.now.saves (kept c.args.last.now.durable)) (sym c.as_slice.ensures.value) c.in_ok-first.ensures)

pub returns-clause-table : goal.returns-clause-table
returns-clause-table c =
    let text = c.as_slice-2.result.now in
    subst (λ (t : List ℕ). ComesUp c.boot-2.result c.args.down t) c.as_slice-2.ensures.value (boots c.boot-2.result c.args.down text c.boot-2.ensures.read c.boot-2.ensures.saves)

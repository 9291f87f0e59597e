use Rattle.std.proofs.Common.{◌≡◌, ◌++◌, ap, ◌∙◌, append_assoc}
use Rattle.std.specs.Prelude.{string_bytes}
use Rattle.ccr_text.specs.TableText.{gennum_line, checksum_line}
use Rattle.ccr_text.proofs.print.print_head.Goals as goal

pub returns : goal.returns
returns c =
    let head : string_bytes c.in_ok-head.head ≡ gennum_line c.args.gennum ++ checksum_line c.args.digest.now =
    rw c.in_ok-head.ensures.ok (rw c.in_ok-digits.ensures (simp append_assoc)) in
    ap (λ v. v.items) c.into_bytes.ensures.value ∙ head

use Rattle.std.proofs.Common.{◌≡◌, ap, ◌∙◌, true}
use Rattle.hex.specs.Hex.{decode_sized, encode_lower}
use Rattle.hex.proofs.HexLemmas.{decode_sized-encode_lower}
use Rattle.ccr_text.proofs.lines.digest_of.Goals as goal

pub returns-in_default : goal.returns-in_default
returns-in_default c = λ d h e.
    absurd (cc (decode_sized-encode_lower d 32 h.size h.bytes, ap (λ t. decode_sized t 32) e, c.in_default.ensures))

pub returns-else-is_printed : goal.returns-else-is_printed
returns-else-is_printed c = λ d h e.
    let same : d ≡ c.in-Ok.bytes = cc (decode_sized-encode_lower d 32 h.size h.bytes, ap (λ t. decode_sized t 32) e, c.in-Ok.ensures) in
    let yes : c.is_printed.result ≡ true = c.is_printed.ensures.1 (e ∙ ap encode_lower same) in
    absurd (cc (yes, c.if-is_printed.false))

use Rattle.std.proofs.Common.{◌≡◌, ◌∙◌, ℕ, List, [], replicate, ap, arith}
use Rattle.interconnect.proofs.by_link.ByLink.new.Goals as goal

pub returns : goal.returns
returns c =
    let e : c.loop.counter ≡ 1024 = omega arith in
    c.loop.invariant.empty ∙ ap (λ (n : ℕ). let l : List (List ℕ) = replicate n [] in l) e

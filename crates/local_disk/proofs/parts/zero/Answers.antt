use Rattle.std.proofs.Common.{◌≡◌, ℕ, get_or, true, false, subst, ◌∙◌, arith, rules}
use Rattle.std.proofs.lemmas.List.{get_or_default}
use Rattle.local_disk.proofs.Zeros.{ZeroedTo, zeroed_none, zeroed_marked, zeroed_passed, zeroed_all}
use Rattle.local_disk.proofs.parts.zero.Goals as goal
use Rattle.local_disk.proofs.parts.zero.Goals.{then-marks-i, else-marks-i}

pub loop-i-init : goal.loop-i-init
loop-i-init c = zeroed_none c.args.marks.now c.args.bytes.now c.requires.size c.args.low c.args.high c.requires.span

pub loop-i-preserved : goal.loop-i-preserved
loop-i-preserved c =
    elim c.if-marks-i.branch [
      | then-marks-i w ↦
          let marked : get_or c.args.marks.now c.loop-i.i true ≡ true = search rules in
          rw w.bytes-is (zeroed_marked c.args.marks.now c.args.bytes.now c.requires.size c.loop-i.i c.loop-i.bytes (omega arith) marked c.loop-i.invariant)
      | else-marks-i w ↦
          let passed : get_or c.args.marks.now c.loop-i.i true ≡ false = get_or_default c.args.marks.now c.loop-i.i true false (omega arith) ∙ w.if-marks-i.false in
          rw w.bytes-is (zeroed_passed c.args.marks.now c.args.bytes.now c.requires.size c.loop-i.i c.loop-i.bytes (omega arith) passed c.loop-i.invariant)
    ]

pub returns : goal.returns
returns c =
    let ended : c.loop-i.i ≡ c.args.high = omega arith in
    zeroed_all c.args.marks.now c.args.bytes.now c.requires.size c.args.low c.args.high c.loop-i.bytes c.requires.span
    (subst (λ (n : ℕ). ZeroedTo c.args.marks.now c.args.bytes.now n c.loop-i.bytes) ended c.loop-i.invariant)

use Rattle.std.proofs.Common.{◌≡◌, ◌-◌, ◌∙◌, ap, length, drop, replicate, false, arith, rules}
use Rattle.std.proofs.lemmas.List.{length-take, length-drop, length-replicate}
use Rattle.local_disk.proofs.Spans.{put_mid_is, settled_to, unmarked}
use Rattle.local_disk.proofs.parts.settle.Goals as goal

pub returns-clause-to : goal.returns-clause-to
returns-clause-to c =
    put_mid_is c.args.low (c.args.high - c.args.low) c.args.to.now c.copy_from_slice.new.self
    (omega (
      arith,
      c.copy_from_slice.ensures.len,
      length-take (c.args.high - c.args.low) (drop c.args.low c.args.to.now),
      length-drop c.args.low c.args.to.now,
    ))
    ∙ settled_to c.args.marks.now c.args.low c.args.high c.requires.span c.args.from.now c.args.to.now c.copy_from_slice.new.self c.requires.same c.requires.size c.copy_from_slice.ensures.after

pub returns-clause-marks : goal.returns-clause-marks
returns-clause-marks c =
    let filled : c.fill.new.self ≡ replicate (c.args.high - c.args.low) false = search rules in
    put_mid_is c.args.low (c.args.high - c.args.low) c.args.marks.now c.fill.new.self (ap length filled ∙ length-replicate (c.args.high - c.args.low) false)
    ∙ unmarked c.args.marks.now c.args.low c.args.high c.requires.span c.fill.new.self filled

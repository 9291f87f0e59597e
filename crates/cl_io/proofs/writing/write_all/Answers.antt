use Rattle.std.proofs.Common.{◌≤◌, ◌-◌, length, arith, length-drop, ◌∙◌}
use Rattle.std.proofs.lemmas.List.{take_rest}
use Rattle.cl_io.proofs.KnownLemmas.{front_then}
use Rattle.cl_io.proofs.writing.write_all.Goals as goal

pub loop-done-preserved : goal.loop-done-preserved
loop-done-preserved g c =
    let wrote = c.in_ok-count.ensures in
    let fits : c.in_ok-count.count ≤ length c.args.bytes.now - c.loop-done.done =
    omega (arith, rw (take_rest c.args.bytes.now c.loop-done.done) at wrote.bound, length-drop c.loop-done.done c.args.bytes.now) in
    record {
      within = omega arith;
      held = front_then _ _ _ c.args.bytes.now c.loop-done.done c.in_ok-count.count c.loop-done.invariant.held fits wrote.bytes;
      same = wrote.same (λ none. absurd (c.if-count-eq0.false none)) ∙ c.loop-done.invariant.same;
    }

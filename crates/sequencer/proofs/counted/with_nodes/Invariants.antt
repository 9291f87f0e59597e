use Rattle.std.proofs.Common.{◌≡◌, ◌||◌, ℕ, drop}
use Rattle.std.specs.List.{list_any}
use Rattle.cl_base.specs.Sets.{has}
use Rattle.sequencer.specs.Counted.{is_up_among, is_up_at}
use Rattle.sequencer.proofs.counted.with_nodes.Given as goal

abbrev pub invariant-loop-n : goal.invariant-loop-n
invariant-loop-n l = (m : ℕ) → (has l.all m || list_any (is_up_at l.view l.name m) (drop l.n-index l.members)) ≡ (has l.fn.up m || is_up_among l.view l.members l.name m)

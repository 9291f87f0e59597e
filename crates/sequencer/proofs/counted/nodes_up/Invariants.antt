use Rattle.std.proofs.Common.{◌≡◌, ◌||◌, ℕ, drop}
use Rattle.std.specs.List.{list_any}
use Rattle.cl_base.specs.Sets.{has}
use Rattle.sequencer.specs.Counted.{is_up_by}
use Rattle.sequencer.proofs.counted.nodes_up.Given as goal

abbrev pub invariant-loop-place : goal.invariant-loop-place
invariant-loop-place l = (m : ℕ) → (has l.up m || list_any (is_up_by l.view l.members l.group m) (drop l.place l.g.resources)) ≡ list_any (is_up_by l.view l.members l.group m) l.g.resources

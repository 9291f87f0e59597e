use Rattle.std.proofs.Common.{◌≡◌, ℕ, ◌==◌, ◌&&◌, slice_index_or, take}
use Rattle.rg_deps.specs.Choice.{has_rank}
use Rattle.rg_deps.specs.Places.{is_thing_of}
use Rattle.rg_deps.proofs.choice.first_ranks.Given as goal

abbrev pub invariant-loop-t : goal.invariant-loop-t
invariant-loop-t l = (n p : ℕ) → has_rank l.ready n p ≡ (is_thing_of (take l.t-index l.things) n p && (slice_index_or l.waiting p 0 == 0))

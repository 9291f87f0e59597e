use Rattle.std.proofs.Common.{◌≡◌, ℕ, ◌-◌, ◌==◌, ◌&&◌, ◌||◌, length, slice_index_or, take}
use Rattle.rg_deps.specs.Choice.{has_rank, is_among, times}
use Rattle.rg_deps.specs.Places.{is_priority}
use Rattle.rg_deps.proofs.choice.release.Given as goal

abbrev pub invariant-loop-place : goal.invariant-loop-place
invariant-loop-place l = record {
  len : length l.waiting ≡ length l.fn.waiting;
  waiting : (p : ℕ) → slice_index_or l.waiting p 0 ≡ slice_index_or l.fn.waiting p 0 - times (take l.place-index l.places) p;
  ready : (n p : ℕ) → has_rank l.ready n p
      ≡ (has_rank l.fn.ready n p || (is_among (take l.place-index l.places) p && (is_priority l.priorities n p && (slice_index_or l.waiting p 0 == 0))));
}

use Rattle.std.proofs.Common.{◌≡◌, ◌<◌, length, slice_get}
use Rattle.std.specs.List.{All}
use Rattle.rg_deps.specs.Things.{collected, thing_of_member}
use Rattle.rg_deps.proofs.things.member_things.Given as goal

abbrev pub invariant-loop-place : goal.invariant-loop-place
invariant-loop-place l = record {
  things : l.things.items ≡ collected (λ p. thing_of_member l.group p (slice_get l.g.resources p)) l.place;
  below : All (λ t. t.place < length l.g.resources) l.things.items;
}

use Rattle.std.proofs.Common.{◌≡◌, take}
use Rattle.rg_deps.specs.Things.{names_at}
use Rattle.rg_deps.proofs.things.group_names.Given as goal

abbrev pub invariant-loop-place : goal.invariant-loop-place
invariant-loop-place l = l.names.items ≡ names_at l.g.groups (take l.place-index l.places)

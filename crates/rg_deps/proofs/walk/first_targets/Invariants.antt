use Rattle.std.proofs.Common.{◌≡◌, ℕ, take}
use Rattle.std.specs.BTreeMap.{get}
use Rattle.std.specs.Ordering.{nat_cmp}
use Rattle.rg_deps.specs.Cycles.{first_target}
use Rattle.rg_deps.specs.Flags.{flag}
use Rattle.rg_deps.proofs.walk.first_targets.Given as goal

abbrev pub invariant-loop-e : goal.invariant-loop-e
invariant-loop-e l = (p : ℕ) → get nat_cmp l.targets p ≡ first_target (take l.e-index l.edges) (flag l.standing) p

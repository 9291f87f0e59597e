use Rattle.std.proofs.Common.{◌≡◌, ◌-◌, ℕ, [], Some}
use Rattle.std.specs.BTreeSet.{contains}
use Rattle.std.specs.Ordering.{nat_cmp}
use Rattle.rg_deps.specs.Cycles.{first_target, walk}
use Rattle.rg_deps.specs.Flags.{flag}
use Rattle.rg_deps.specs.Order.{stands}
use Rattle.rg_deps.proofs.walk.cycle.Given as goal

abbrev pub invariant-loop : goal.invariant-loop
invariant-loop l = record {
  path : walk (first_target l.edges (flag l.standing)) l.fn.steps [] (Some l.fn.first) ≡ walk (first_target l.edges (flag l.standing)) (l.fn.steps - l.counter) l.path.items l.at;
  seen : (p : ℕ) → contains nat_cmp l.seen p ≡ stands l.path.items p;
}

use Rattle.std.proofs.Common.{◌≡◌, ◌++◌}
use Rattle.rg_props.proofs.copying.copy_groups.Given as goal

abbrev pub invariant-loop-name : goal.invariant-loop-name
invariant-loop-name l = l.copies.entries ++ l.name-iterator ≡ l.groups.entries

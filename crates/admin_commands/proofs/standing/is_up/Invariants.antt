use Rattle.std.proofs.Common.{◌≡◌, false, take}
use Rattle.std.specs.List.{list_any}
use Rattle.admin_commands.specs.Standing.{is_up_at}
use Rattle.admin_commands.proofs.standing.is_up.Given as goal

abbrev pub invariant-loop-place : goal.invariant-loop-place
invariant-loop-place l = list_any (is_up_at l.groups l.members l.group) (take l.place l.states) ≡ false

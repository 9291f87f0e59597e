use Rattle.std.proofs.Common.{◌≡◌, take}
use Rattle.std.specs.List.{flat_map}
use Rattle.group_lines.specs.Groups.{lines_of}
use Rattle.group_lines.proofs.groups.group_lines.Given as goal

abbrev pub invariant-loop-place : goal.invariant-loop-place
invariant-loop-place l = l.lines.items ≡ flat_map (lines_of l.c l.president.view) (take l.place l.c.groups.groups)

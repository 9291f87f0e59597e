use Rattle.std.proofs.Common.{◌≡◌, ◌+◌, drop}
use Rattle.std.specs.List.{position_or_len}
use Rattle.placement.specs.Loads.{is_entry_of}
use Rattle.placement.proofs.loads.place_of.Given as goal

abbrev pub invariant-loop-place : goal.invariant-loop-place
invariant-loop-place l = l.place + position_or_len (is_entry_of l.name) (drop l.place l.goals) ≡ position_or_len (is_entry_of l.name) l.goals

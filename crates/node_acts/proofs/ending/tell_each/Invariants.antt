use Rattle.std.proofs.Common.{◌≡◌, ◌++◌, take}
use Rattle.node_model.specs.Entries.{unknown_lines}
use Rattle.node_acts.proofs.ending.tell_each.Given as goal

-- the first of them are told
abbrev pub invariant-loop-request : goal.invariant-loop-request
invariant-loop-request l = l.out.items ≡ l.fn.out.items ++ unknown_lines l.fn.me (take l.request-index l.waiting)

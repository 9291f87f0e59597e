use Rattle.std.proofs.Common.{◌≡◌, ◌++◌, ◌∷◌, [], length, take}
use Rattle.status_report.specs.declared.entry.Entry.TheVariants as trace
use Rattle.node_model.specs.declared.output.Output.TheVariants.{Tells}
use Rattle.node_model.specs.Attempts.{base_lines, started_entry}
use Rattle.node_attempts.proofs.starting.tell_start.Given as goal

-- the updates of the base so far are told
abbrev pub invariant-loop-index : goal.invariant-loop-index
invariant-loop-index l =
    l.out.items ≡ (l.fn.out.items ++ Tells (trace.Start (started_entry l.attempt (length l.committed))) ∷ []) ++ base_lines l.attempt.plan.epoch 0 (take l.index l.committed)

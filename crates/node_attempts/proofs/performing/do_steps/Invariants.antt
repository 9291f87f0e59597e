use Rattle.std.proofs.Common.{◌≡◌, ◌++◌}
use Rattle.std.specs.Vec.Iter.{into_iter_items}
use Rattle.node_model.specs.Attempts.{performing}
use Rattle.node_model.specs.Plans.{IsDone}
use Rattle.node_attempts.proofs.performing.do_steps.Given as goal

-- the steps so far are done
abbrev pub invariant-loop-step : goal.invariant-loop-step
invariant-loop-step g l = record {
  can_next : (goal.iterator-loop-step g).can_next l.step-iterator;
  is_finite : (goal.iterator-loop-step g).is_finite l.step-iterator;
  whole : l.yielded ++ into_iter_items l.step-iterator ≡ l.fn.steps;
  done : IsDone g.K.RecordDisk.saving (performing l.fn.cluster l.fn.me l.fn.up l.yielded) l.fn.out.items l.fn.disk l.up l.out.items l.disk;
}

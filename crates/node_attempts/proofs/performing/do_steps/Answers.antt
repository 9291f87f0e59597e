use Rattle.std.proofs.Common.{rules, append_assoc}
use Rattle.std.specs.Vec.Iter.{into_iter_items}
use Rattle.node_attempts.proofs.StepLemmas.{step_done, step_stopped, one_more}
use Rattle.node_attempts.proofs.performing.do_steps.Goals as goal

pub returns-in_err-up : goal.returns-in_err-up
returns-in_err-up g c =
    let a = c.args in
    let l = c.loop-step in
    let whole = one_more l.yielded (into_iter_items l.step-iterator) (into_iter_items c.next.new.self) a.steps c.in-Some.step l.invariant.whole c.in-Some.ensures.steps.0 in
    let stopped = step_stopped g.K.RecordDisk.saving a.cluster.now a.me a.up l.yielded c.in-Some.step (into_iter_items c.next.new.self) a.steps a.out.now.items l.out.items c.do_step.new.out.items a.disk.now l.disk c.do_step.new.disk l.up c.in_err-up.field-0.0 whole l.invariant.done c.in_err-up.ensures in
    search rules

pub loop-step-preserved : goal.loop-step-preserved
loop-step-preserved g c =
    let a = c.args in
    let l = c.loop-step in
    record {
      can_next = tt;
      is_finite = tt;
      whole = rw append_assoc (one_more l.yielded (into_iter_items l.step-iterator) (into_iter_items c.next.new.self) a.steps c.in-Some.step l.invariant.whole c.in-Some.ensures.steps.0);
      done = step_done g.K.RecordDisk.saving a.cluster.now a.me a.up l.yielded c.in-Some.step a.out.now.items l.out.items c.do_step.new.out.items a.disk.now l.disk c.do_step.new.disk l.up c.in_ok-up.up l.invariant.done c.in_ok-up.ensures;
    }

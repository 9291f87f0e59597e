use Rattle.std.proofs.Common.{◌≡◌, ◌+◌, suc, Err, subst, rules, arith}
use Rattle.node_model.specs.Plans.{Follows}
use Rattle.node_model.specs.Presidents.{turns}
use Rattle.node_presidents.proofs.TurnLemmas.{turn_done, turn_stopped}
use Rattle.node_presidents.proofs.turns.take_turns.Goals as goal

pub returns-in_err-take_turn : goal.returns-in_err-take_turn
returns-in_err-take_turn g c =
    let a = c.args in
    let l = c.loop-turn in
    let stop = c.in_err-take_turn.field-0.0 in
    let stopped = turn_stopped g.K.RecordDisk.saving a.cluster.now a.me a.up.now l._turn c.requests_of-turn-end.result a.out.now.items l.out.items c.take_turn.new.out.items a.disk.now l.disk c.take_turn.new.disk l.up stop
    c.loop-turn-test.true l.invariant.done c.in_err-take_turn.ensures.plan in
    let whole = subst (λ n. Follows g.K.RecordDisk.saving (turns a.cluster.now a.me a.up.now n) a.out.now.items a.disk.now (Err stop) c.take_turn.new.out.items c.take_turn.new.disk) c.requests_of-turn-end.ensures.value stopped in
    record { plan = search rules }

pub loop-turn-preserved : goal.loop-turn-preserved
loop-turn-preserved g c =
    let a = c.args in
    let l = c.loop-turn in
    let next : l._turn + 1 ≡ suc l._turn = omega arith in
    record {
      member = c.in_ok-take_turn.ensures.member;
      done = turn_done g.K.RecordDisk.saving a.cluster.now a.me a.up.now l._turn (l._turn + 1) a.out.now.items l.out.items c.take_turn.new.out.items a.disk.now l.disk c.take_turn.new.disk l.up c.take_turn.new.up next l.invariant.done c.in_ok-take_turn.ensures.plan;
    }

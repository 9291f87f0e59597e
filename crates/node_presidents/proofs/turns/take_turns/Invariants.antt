use Rattle.std.proofs.Common.{◌≡◌, true}
use Rattle.node_model.specs.Plans.{IsDone}
use Rattle.node_model.specs.Presidents.{turns}
use Rattle.node_model.specs.Seats.{is_member}
use Rattle.node_presidents.proofs.turns.take_turns.Given as goal

-- the turns so far are done
abbrev pub invariant-loop-turn : goal.invariant-loop-turn
invariant-loop-turn g l = record {
  member : is_member l.up.seat ≡ true;
  done : IsDone g.K.RecordDisk.saving (turns l.fn.cluster l.fn.me l.fn.up l._turn) l.fn.out.items l.fn.disk l.up l.out.items l.disk;
}

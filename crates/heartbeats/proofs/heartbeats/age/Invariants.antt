use Rattle.std.proofs.Common.{◌≡◌, map, take, drop, ◌++◌}
use Rattle.heartbeats.specs.Peers.{older}
use Rattle.heartbeats.proofs.heartbeats.age.Given as goal

abbrev pub invariant-loop-peer : goal.invariant-loop-peer
invariant-loop-peer l = l.peers ≡ map older (take l.peer-index l.fn.peers) ++ drop l.peer-index l.fn.peers

use Rattle.std.proofs.Common.{arith, ap, ◌∙◌, sym, set, Option}
use Rattle.std.proofs.lemmas.List.Edits.{map_over_more}
use Rattle.heartbeats.specs.Peers.{older}
use Rattle.heartbeats.specs.declared.peer.Peer.{Peer}
use Rattle.heartbeats.proofs.heartbeats.age.Goals as goal

pub loop-peer-preserved : goal.loop-peer-preserved
loop-peer-preserved c =
    ap (λ (r : Option Peer). set c.loop-peer.peers c.loop-peer.peer-index r) (c.older.ensures ∙ ap older (sym c.peer-item.is))
    ∙ map_over_more older c.args.peers.now c.loop-peer.peers c.loop-peer.peer-index c.peer-item.result (omega arith) c.loop-peer.invariant c.peer-item.is

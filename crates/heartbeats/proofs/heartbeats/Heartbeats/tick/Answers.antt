use Rattle.std.proofs.Common.{ap, sym, ◌∙◌, length, map}
use Rattle.heartbeats.specs.Peers.{older}
use Rattle.heartbeats.proofs.Found.{tick_done, whole_back}
use Rattle.heartbeats.proofs.heartbeats.Heartbeats.tick.Goals as goal

pub returns : goal.returns
returns c =
    let aged = whole_back _ _ _ (sym c.as_mut_slice.ensures.len ∙ ap length c.as_mut_slice.ensures.value) (c.age.ensures ∙ ap (map older) c.as_mut_slice.ensures.value) in
    record { after = rw (← c.self.view_is) (tick_done _ _ _ _ _ aged c.view_of-view.ensures c.stable_after-self-inside.ensures) }

use Rattle.world.proofs.FirstWorlds.{made}
use Rattle.world.proofs.world.World.with_cells.Goals as goal

pub returns : goal.returns
returns c = record {
  first =
      made c.args.header.now c.args.cells _ _ _ _ _ _ c.items.result.now c.new-2.result.items _ c.args.agents c.in_ok-cluster.ensures c.in_ok-down_nodes.ensures c.in_ok-first_disks.ensures
      c.in_ok-first_devices.ensures c.items.ensures.value c.in_ok-no_faults.ensures c.in_ok-new.ensures c.new-2.ensures.items c.agents.view_is;
}

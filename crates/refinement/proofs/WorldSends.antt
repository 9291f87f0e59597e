-- Every node of every world is one of a run, and so it is bounded.
use Rattle.std.specs.Prelude.{◌≤◌, length}
use Rattle.std.proofs.Common.{subst}
use Rattle.node_model.specs.declared.cluster.Cluster.{Cluster}
use Rattle.refinement.specs.node_bounds.Bounded.{NodeIsBounded}
use Rattle.refinement.proofs.node_bounds.Steps.{stepped_few}
use Rattle.world_model.specs.First.{first_cluster, first_world}
use Rattle.world_model.specs.Worlds.{play}
use Rattle.refinement.specs.Steps.{disk_rules}
use Rattle.refinement.specs.Worlds.{Played, lines_on}
use Rattle.refinement.specs.WorldSends.{WorldsSendFew}
use Rattle.refinement.proofs.Lines.{few_attached, world_played}
use Rattle.refinement.proofs.Sends.{run_is_bounded}

pub worlds_send_few : WorldsSendFew
worlds_send_few h cells agents text events many devices small named n now ends node disk i is at from =
    let c : Cluster = first_cluster h in
    let few : length c.attached ≤ 16 = few_attached 1 h.devices devices in
    let run : Played c (lines_on events (play (first_world h cells agents) text)).world = world_played h cells agents text events many devices small named in
    let bounded : NodeIsBounded node = subst NodeIsBounded (run.shows.node n node is.0 at) ((run_is_bounded c run.moves run.nodes few run.run).nodes n) in
    (stepped_few disk_rules c n now ends node disk i few is from bounded).0

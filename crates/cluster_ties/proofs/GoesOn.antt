-- A node whose attempt takes a call, and does not install by it.
use Rattle.std.specs.Prelude.{None}
use Rattle.std.proofs.Common.{sym, ap, subst}
use Rattle.attempt_laws.specs.Asking.{CountsAt}
use Rattle.cluster_machine.specs.Cluster.{Cluster as Whole}
use Rattle.cmm_attempt.specs.Calls.{turn}
use Rattle.device_ties.specs.Devices.{DeviceTied}
use Rattle.node_model.specs.declared.node.UpNode.{UpNode}
use Rattle.cluster_ties.specs.Ties.{AttemptAt, UpAt}
use Rattle.cluster_ties.specs.Moves.{CallGoes}
use Rattle.cluster_ties.specs.Laws.{CallsGoOn}
use Rattle.cluster_ties.proofs.Calls.{calls_go}
use Rattle.cluster_ties.proofs.First.{in_order}
use Rattle.cluster_ties.proofs.Frames.{up_stays}
use Rattle.cluster_ties.proofs.Told.{grows_at}

pub calls_go_on : CallsGoOn
calls_go_on S c W n x a k devices reached tied at under is_reached may own known known_after told none =
    let g : CallGoes S W n (turn a k) = calls_go S W n a k reached is_reached may own known known_after (subst (λ o. AttemptAt W o) under at.attempt) told in
    let V : Whole = g.machine in
    let rest : UpNode = record x { attempt = None } in
    let before : UpAt c W n rest = record { marks = at.marks; tasks = at.tasks; once = at.once; idle = at.idle; attempt = tt } in
    let after : UpAt c V n rest = up_stays c W V n rest (λ d. ap (λ f. f n) (g.node d)) (λ d q. (grows_at S W V n d (in_order S W reached) g.moves).attempt q) (λ h. tt) before in
    record {
      machine = V;
      moves = g.moves;
      memberships = g.memberships;
      devices_so = λ d. subst (λ y. DeviceTied c.id (devices d) y) (sym (g.device d)) (tied d);
      at = record {
        marks = after.marks;
        tasks = after.tasks;
        once = after.once;
        idle = after.idle;
        attempt = λ d. subst (λ o. CountsAt (V.device d) (turn a k).after d o) none (g.counts d);
      };
    }

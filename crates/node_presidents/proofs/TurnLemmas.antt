-- The turns of a president, one after another.
use Rattle.std.proofs.Common.{◌≡◌, ℕ, zero, suc, ◌+◌, ◌-◌, ◌<◌, refl, subst, List, Ok, Err, arith}
use Rattle.cmm_member.specs.Records.{NodeRecord}
use Rattle.node_model.specs.declared.cluster.Cluster.{Cluster}
use Rattle.node_model.specs.declared.node.UpNode.{UpNode}
use Rattle.node_model.specs.declared.output.Output.{Output}
use Rattle.node_model.specs.declared.stop.Stop.{Stop}
use Rattle.node_model.specs.Plans.{Follows, IsDone}
use Rattle.node_model.specs.Presidents.{one_turn, turns}
use Rattle.node_presidents.specs.Presidents.{turn}
use Rattle.record_disk.specs.Savings.{Saving}
use Rattle.node_model.proofs.Plans.{done_then, stopped_then}

-- one more turn is done
pub turn_done : {K : Type 0} → (saving : K → NodeRecord → Saving K) (c : Cluster) (me : ℕ) (x : UpNode) (k next : ℕ) (given mid after : List Output) (disk between left : K) (up new : UpNode)
    → next ≡ suc k → IsDone saving (turns c me x k) given disk up mid between → IsDone saving (turn c me up) mid between new after left → IsDone saving (turns c me x next) given disk new after left
unfolding turn
turn_done saving c me x k next given mid after disk between left up new e done more =
    rw e (done_then saving (turns c me x k) (one_turn c me) given mid after disk between left up (Ok new) done more)

-- the node has stopped before so many more turns
stops_before : {K : Type 0} → (saving : K → NodeRecord → Saving K) (c : Cluster) (me : ℕ) (x : UpNode) (k more all : ℕ) (given after : List Output) (disk left : K) (stop : Stop)
    → more + k ≡ all → Follows saving (turns c me x k) given disk (Err stop) after left → Follows saving (turns c me x all) given disk (Err stop) after left
stops_before saving c me x k zero all given after disk left stop e h =
    let same : k ≡ all = omega (arith, e) in
    subst (λ n. Follows saving (turns c me x n) given disk (Err stop) after left) same h
stops_before saving c me x k (suc more) all given after disk left stop e h =
    let next : suc (more + k) ≡ all = omega (arith, e) in
    subst (λ n. Follows saving (turns c me x n) given disk (Err stop) after left) next
    (stopped_then saving (turns c me x (more + k)) (one_turn c me) given after disk left stop (stops_before saving c me x k more (more + k) given after disk left stop refl h))

-- the node has stopped in a turn
pub turn_stopped : {K : Type 0} → (saving : K → NodeRecord → Saving K) (c : Cluster) (me : ℕ) (x : UpNode) (k all : ℕ) (given mid after : List Output) (disk between left : K) (up : UpNode) (stop : Stop)
    → k < all → IsDone saving (turns c me x k) given disk up mid between → Follows saving (turn c me up) mid between (Err stop) after left → Follows saving (turns c me x all) given disk (Err stop) after left
unfolding turn
turn_stopped saving c me x k all given mid after disk between left up stop low done stopped =
    stops_before saving c me x (suc k) (all - suc k) all given after disk left stop (omega (arith, low))
    (done_then saving (turns c me x k) (one_turn c me) given mid after disk between left up (Err stop) done stopped)

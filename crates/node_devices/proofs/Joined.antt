-- With the last joining: the coordinator's own part, or a member's Ready.
use Rattle.std.proofs.Common.{◌≡◌, ℕ, ◌%◌, ◌==◌, Bool, true, false, List, Option, Some, Result, if◌then◌else◌, subst, sym, ◌∙◌}
use Rattle.cmm_member.specs.Records.{NodeRecord}
use Rattle.record_disk.specs.Savings.{Saving}
use Rattle.node_model.specs.declared.cluster.Cluster.{Cluster}
use Rattle.node_model.specs.declared.node.UpNode.{UpNode}
use Rattle.node_model.specs.declared.output.Output.{Output}
use Rattle.node_model.specs.declared.stop.Stop.{Stop}
use Rattle.node_model.specs.Attempts.{own_ready}
use Rattle.node_model.specs.Devices.{joined_all, joined_for}
use Rattle.node_model.specs.Members.{readying}
use Rattle.node_model.specs.Plans.{Follows, Gives}
use Rattle.node_model.specs.Seats.{coordinator_of, node_numbered, session_of}
use Rattle.node_model.proofs.Plans.{gives_follows}

-- n coordinates the attempt of the node's session
is_coordinator : (x : UpNode) (s n : ℕ) (found : Option ℕ) → s ≡ session_of x → found ≡ node_numbered (s % 64) → found ≡ Some n → coordinator_of x ≡ Some n
is_coordinator x s n found same is some = subst (λ (z : ℕ). node_numbered (z % 64) ≡ Some n) same (sym is ∙ some)

by_test : {K : Type 0} → (saving : K → NodeRecord → Saving K) (c : Cluster) (me : ℕ) (x : UpNode) (n : ℕ) (b own : Bool) (given after : List Output) (disk left : K) (result : Result UpNode Stop)
    → coordinator_of x ≡ Some n → b ≡ (n == me) → b ≡ own → Follows saving (if own then own_ready c me x else readying c x n) given disk result after left → Follows saving (joined_all c me x) given disk result after left
by_test saving c me x n b own given after disk left result some is holds h =
    subst (λ (o : Option ℕ). Follows saving (joined_for c me x o) given disk result after left) (sym some)
    (subst (λ (t : Bool). Follows saving (if t then own_ready c me x else readying c x n) given disk result after left) (sym holds ∙ is) h)

pub joined_own : {K : Type 0} → (saving : K → NodeRecord → Saving K) (c : Cluster) (me : ℕ) (x : UpNode) (s n : ℕ) (found : Option ℕ) (b : Bool) (given after : List Output) (disk left : K) (result : Result UpNode Stop)
    → s ≡ session_of x → found ≡ node_numbered (s % 64) → found ≡ Some n → b ≡ (n == me) → b ≡ true
    → Follows saving (own_ready c me x) given disk result after left → Follows saving (joined_all c me x) given disk result after left
joined_own saving c me x s n found b given after disk left result same is some test holds h =
    by_test saving c me x n b true given after disk left result (is_coordinator x s n found same is some) test holds h

pub joined_member : {K : Type 0} → (saving : K → NodeRecord → Saving K) (c : Cluster) (me : ℕ) (x : UpNode) (s n : ℕ) (found : Option ℕ) (b : Bool) (given after : List Output) (disk : K) (result : Result UpNode Stop)
    → s ≡ session_of x → found ≡ node_numbered (s % 64) → found ≡ Some n → b ≡ (n == me) → b ≡ false
    → Gives (readying c x n) given result after → Follows saving (joined_all c me x) given disk result after disk
joined_member saving c me x s n found b given after disk result same is some test holds h =
    by_test saving c me x n b false given after disk disk result (is_coordinator x s n found same is some) test holds (gives_follows saving (readying c x n) given after result disk h)

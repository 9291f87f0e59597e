-- What a president does at a tick, one thing after another.
use Rattle.std.proofs.Common.{◌≡◌, ℕ, List, ◌++◌, Result, Ok, Err, OnOk, subst, sym}
use Rattle.cl_base.specs.declared.method.Outcome.{Outcome}
use Rattle.cmm_member.specs.Records.{NodeRecord}
use Rattle.record_disk.specs.Savings.{Saving}
use Rattle.node_model.specs.declared.cluster.Cluster.{Cluster}
use Rattle.node_model.specs.declared.node.UpNode.{UpNode}
use Rattle.node_model.specs.declared.output.Output.{Output}
use Rattle.node_model.specs.declared.stop.Stop.{Stop}
use Rattle.node_model.specs.Deciding.{deciding}
use Rattle.node_model.specs.Groups.{own_order, own_turn}
use Rattle.node_model.specs.Plans.{Follows, Gives, IsDone, Plan}
use Rattle.node_model.specs.Ticks.{attempt_ticked}
use Rattle.node_model.proofs.Plans.{done_then, gives_follows}
use Rattle.node_updates.specs.declared.again.Again.{Again}
use Rattle.node.specs.declared.due.AttemptDue.{AttemptDue}
use Rattle.node.specs.Due.{again_of, attempt_of, attempt_rest, governed, presided, sent_and_decided}
use Rattle.node.specs.Handing.{kept_so}

pub goes_again : {T E : Type 0} → (c : Cluster) (me : ℕ) (again : Again) (x y : UpNode) (given sent after : List Output) (result : Result T E)
    → sent ≡ given ++ again_of again x → OnOk result (Gives (deciding c me x) sent (Ok y) after)
    → OnOk result (Gives (sent_and_decided c me again x) given (Ok y) after)
goes_again c me again x y given sent after result is decides = subst (λ (os : List Output). OnOk result (Gives (deciding c me x) os (Ok y) after)) is decides

presided_so : {K T E : Type 0} → (saving : K → NodeRecord → Saving K) (c : Cluster) (me : ℕ) (outcome : Outcome) (again : Again) (x y z : UpNode) (given first after : List Output) (disk left : K) (done : Result T E)
    → IsDone saving (own_turn c me outcome x (own_order me x)) given disk y first left → OnOk done (Gives (sent_and_decided c me again y) first (Ok z) after)
    → Follows saving (presided c me outcome again x) given disk (kept_so z done) after left
presided_so saving c me outcome again x y z given first after disk left (Ok t) own decides =
    done_then saving (own_turn c me outcome x (own_order me x)) (sent_and_decided c me again) given first after disk left left y (Ok z) own
    (gives_follows saving (sent_and_decided c me again y) first after (Ok z) left decides)
presided_so saving c me outcome again x y z given first after disk left (Err e) own decides = tt

pub presides : {K T E : Type 0} → (saving : K → NodeRecord → Saving K) (c : Cluster) (me : ℕ) (outcome : Outcome) (again : Again) (x y z : UpNode) (given first after : List Output) (disk left : K) (done : Result T E) (result : Result UpNode Stop)
    → IsDone saving (own_turn c me outcome x (own_order me x)) given disk y first left → OnOk done (Gives (sent_and_decided c me again y) first (Ok z) after) → result ≡ kept_so z done
    → Follows saving (presided c me outcome again x) given disk result after left
presides saving c me outcome again x y z given first after disk left done result own decides is =
    subst (λ (r : Result UpNode Stop). Follows saving (presided c me outcome again x) given disk r after left) (sym is)
    (presided_so saving c me outcome again x y z given first after disk left done own decides)

pub governs : {K : Type 0} → (saving : K → NodeRecord → Saving K) (c : Cluster) (me : ℕ) (outcome : Outcome) (again : Again) (x y z : UpNode) (due : AttemptDue) (given between after : List Output) (disk mid left : K) (result : Result UpNode Stop)
    → IsDone saving (presided c me outcome again x) given disk y between mid → attempt_ticked c me y y.attempt ≡ attempt_rest c me z due
    → Follows saving (attempt_rest c me z due) between mid result after left
    → Follows saving (governed c me outcome again x) given disk result after left
governs saving c me outcome again x y z due given between after disk mid left result done is rest =
    done_then saving (presided c me outcome again x) (attempt_of c me) given between after disk mid left y result done
    (subst (λ (plan : Plan). Follows saving plan between mid result after left) (sym is) rest)

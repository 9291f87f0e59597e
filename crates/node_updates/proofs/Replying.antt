-- An answer is heard by a member, and taken.
use Rattle.std.proofs.Common.{◌≡◌, ◌&&◌, ℕ, Bool, true, false, if◌then◌else◌, List, Option, None, Some, Result, Ok, refl, ap, subst, sym, ◌∙◌}
use Rattle.std.proofs.lemmas.Option.{none-some}
use Rattle.cmm_member.specs.Records.{NodeRecord}
use Rattle.record_disk.specs.Savings.{Saving}
use Rattle.status_report.specs.declared.command_entry.Answer.{Answer}
use Rattle.node_model.specs.declared.cluster.Cluster.{Cluster}
use Rattle.node_model.specs.declared.node.UpNode.{UpNode}
use Rattle.node_model.specs.declared.output.Output.{Output}
use Rattle.node_model.specs.declared.stop.Stop.{Stop}
use Rattle.node_model.specs.Plans.{Plan, Follows}
use Rattle.node_model.specs.Plans.Plan.{Stays}
use Rattle.node_model.specs.Requests.{on_reply, replied_as}
use Rattle.node_model.specs.Seats.{is_in, is_member}
use Rattle.node_updates.specs.Replies.{heard}

heard_so : (c : Cluster) (me : ℕ) (x : UpNode) (number : ℕ) (told : Option Answer) (own : Bool) → replied_as c me x number (heard own told) ≡ (if own then replied_as c me x number told else Stays x)
unfolding heard
heard_so c me x number told true = refl
heard_so c me x number told false = refl

-- who hears is a member
pub reads_member : (member here : Bool) (told : Option Answer) (answer : Answer) → Some answer ≡ heard (member && here) told → member ≡ true
unfolding heard
reads_member true here told answer is = refl
reads_member false here told answer is = absurd (none-some answer (sym is))

-- what is heard is what the node follows
follows_heard : {K : Type 0} → (saving : K → NodeRecord → Saving K) (c : Cluster) (me : ℕ) (x : UpNode) (e number : ℕ) (found told : Option Answer) (result : Result UpNode Stop) (given after : List Output) (disk left : K)
    → found ≡ heard (is_member x.seat && is_in x e) told → Follows saving (replied_as c me x number found) given disk result after left → Follows saving (on_reply c me x e number told) given disk result after left
follows_heard saving c me x e number found told result given after disk left is h =
    subst (λ (plan : Plan). Follows saving plan given disk result after left) (heard_so c me x number told (is_member x.seat && is_in x e))
    (subst (λ f. Follows saving (replied_as c me x number f) given disk result after left) is h)

-- an answer
pub takes_answer : {K : Type 0} → (saving : K → NodeRecord → Saving K) (c : Cluster) (me : ℕ) (x : UpNode) (e number : ℕ) (found told : Option Answer) (answer : Answer) (result : Result UpNode Stop) (given after : List Output) (disk left : K)
    → found ≡ heard (is_member x.seat && is_in x e) told → found ≡ Some answer
    → Follows saving (replied_as c me x number (Some answer)) given disk result after left → Follows saving (on_reply c me x e number told) given disk result after left
takes_answer saving c me x e number found told answer result given after disk left is some h =
    follows_heard saving c me x e number found told result given after disk left is
    (subst (λ f. Follows saving (replied_as c me x number f) given disk result after left) (sym some) h)

-- nothing
pub takes_none : {K : Type 0} → (saving : K → NodeRecord → Saving K) (c : Cluster) (me : ℕ) (x : UpNode) (e number : ℕ) (found told : Option Answer) (given : List Output) (disk : K)
    → found ≡ heard (is_member x.seat && is_in x e) told → found ≡ None → Follows saving (on_reply c me x e number told) given disk (Ok x) given disk
takes_none saving c me x e number found told given disk is none =
    follows_heard saving c me x e number found told (Ok x) given given disk disk is
    (subst (λ f. Follows saving (replied_as c me x number f) given disk (Ok x) given disk) (sym none) (refl, refl, refl))

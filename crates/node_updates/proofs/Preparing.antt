-- A member takes the update of a Prepare as its next.
use Rattle.std.proofs.Common.{◌≡◌, ℕ, Bool, true, if◌then◌else◌, List, length, Result, ap, subst, sym, ◌∙◌}
use Rattle.ccr_commit.specs.Entries.{answer_for, left_by, texts_of}
use Rattle.ccr_commit.specs.declared.entries.Prepared.{Prepared}
use Rattle.ccr_commit.specs.declared.entries.Prepared.TheVariants.{Taken}
use Rattle.cmm_member.specs.Nodes.{NodeState, with_entries}
use Rattle.cmm_member.specs.Records.{NodeRecord}
use Rattle.record_disk.specs.Savings.{Saving}
use Rattle.wire.specs.declared.message.Body.TheVariants as body
use Rattle.node_model.specs.declared.cluster.Cluster.{Cluster}
use Rattle.node_model.specs.declared.node.UpNode.{UpNode}
use Rattle.node_model.specs.declared.output.Output.{Output}
use Rattle.node_model.specs.declared.seat.Seat.{Seat}
use Rattle.node_model.specs.declared.seat.Seat.TheVariants.{Member}
use Rattle.node_model.specs.declared.stop.Stop.{Stop}
use Rattle.node_model.specs.Entries.{answering, keeping}
use Rattle.node_model.specs.Plans.{Plan, Follows}
use Rattle.node_model.specs.Plans.Plan.{Stays}
use Rattle.node_model.specs.Seats.{is_in}
use Rattle.node_model.specs.Updates.{on_prepare_as, prepared_so, preparing}
use Rattle.node_updates.specs.Keeping.{kept_next, kept_tidy}

taking_is : (c : Cluster) (me : ℕ) (x : UpNode) (from e place : ℕ) (text : List ℕ) (s : NodeState) (seat : Seat)
    → seat ≡ Member s → is_in x e ≡ true → answer_for (length (texts_of s.saved.entries)) place ≡ Taken
    → on_prepare_as c me x from e place text seat ≡ preparing c me x from e place s text Taken
taking_is c me x from e place text s seat is here next =
    ap (λ found. on_prepare_as c me x from e place text found) is
    ∙ ap (λ (b : Bool). if b then preparing c me x from e place s text (answer_for (length (texts_of s.saved.entries)) place) else Stays x) here
    ∙ ap (λ p. preparing c me x from e place s text p) next

-- it saves that, without what the update deletes, and says so
pub taken : {K : Type 0} → (saving : K → NodeRecord → Saving K) (c : Cluster) (me : ℕ) (x : UpNode) (from e place : ℕ) (text : List ℕ) (s n : NodeState) (p : Prepared) (result : Result UpNode Stop) (given after : List Output) (disk left : K)
    → x.seat ≡ Member s → is_in x e ≡ true → p ≡ answer_for (length (texts_of s.saved.entries)) place → p ≡ Taken
    → n ≡ with_entries s (left_by Taken s.saved.entries text)
    → Follows saving (kept_next c me from e place (record x { seat = Member n })) given disk result after left
    → Follows saving (on_prepare_as c me x from e place text x.seat) given disk result after left
unfolding kept_tidy kept_next
taken saving c me x from e place text s n p result given after disk left is here next so now h =
    subst (λ (plan : Plan). Follows saving plan given disk result after left) (sym (taking_is c me x from e place text s x.seat is here (sym next ∙ so)))
    (subst (λ (k : NodeState). Follows saving (kept_next c me from e place (record x { seat = Member k })) given disk result after left) now h)

-- nothing is kept of what the update deletes, and then the member saves
pub tidied_then : {K : Type 0} → (saving : K → NodeRecord → Saving K) (c : Cluster) (me from e place : ℕ) (x y : UpNode) (result : Result UpNode Stop) (given after : List Output) (disk left : K)
    → y ≡ kept_tidy c x → Follows saving (keeping me y (answering from (body.Prepared e place) y)) given disk result after left
    → Follows saving (kept_next c me from e place x) given disk result after left
unfolding kept_next
tidied_then saving c me from e place x y result given after disk left same h =
    subst (λ (z : UpNode). Follows saving (keeping me z (answering from (body.Prepared e place) z)) given disk result after left) same h

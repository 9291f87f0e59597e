-- What comes to a coordinator leaves its own tasks: no message tells how a seizing of its own ended, and none asks it to seize more, or to install.
use Rattle.std.specs.Prelude.{ℕ, ◌≡◌, ◌≤◌, ◌<◌, ◌⊎◌, ◌==◌, ◌&&◌, nat_le, Bool, true, false, List, [], ◌∷◌, Option, None, Some, find, is_none, if◌then◌else◌}
use Rattle.std.specs.List.{AllByRecursion}
use Rattle.std.proofs.Common.{arith, refl, sym, ap, subst, ◌∙◌, inl, inr}
use Rattle.attempt_laws.specs.Asking.{AskedBy, EndedSo, HasEntry, HasIn, entry_of}
use Rattle.attempt_laws.specs.Staying.{IsFinal}
use Rattle.cl_base.specs.Seizings.{SeizeResult}
use Rattle.cl_base.specs.Sets.{has}
use Rattle.cl_base.specs.declared.header.Header.{Header}
use Rattle.cl_base.specs.declared.seizing.SeizeEnd.TheVariants as end
use Rattle.cluster_ties.specs.Laws.{IsAskedTo}
use Rattle.cluster_ties.specs.Ties.{SeizingAt, TaskAt, WorkAt}
use Rattle.cluster_ties.specs.Told.{ToldOf}
use Rattle.cluster_machine.specs.Cluster.{Cluster as Whole}
use Rattle.cmm_attempt.proofs.Basics.{and_cases, false_true, none_some, same_number}
use Rattle.cmm_attempt.specs.Attempts.{AttemptState}
use Rattle.cmm_attempt.specs.Seizings.{awaits, is_asked}
use Rattle.cmm_attempt.specs.declared.phase.Phase.{Phase}
use Rattle.cmm_attempt.specs.declared.phase.Phase.TheVariants.{Choosing, Collecting, Installing, Over, SeizingOthers, SeizingVotes}
use Rattle.cmm_attempt.specs.declared.promised.Promised.{Promised}
use Rattle.cmm_attempt.specs.declared.seizing.Seizing.{Seizing}
use Rattle.device_machine.proofs.Invariant.{Inv}
use Rattle.device_machine.specs.Initiator.{Initiator}
use Rattle.device_machine.specs.Phase.{Phase as Stage, rank}
use Rattle.device_machine.specs.Phase as stage
use Rattle.device_machine.specs.Sharing.{Sharing}
use Rattle.device_queue.specs.Queue.{after_seize, put_unless}
use Rattle.device_queue.specs.Tasks.{is_seizing as is_seizure, result_in}
use Rattle.device_queue.specs.declared.task.Task.{Task}
use Rattle.device_queue.specs.declared.task.Work.{Work}
use Rattle.device_queue.specs.declared.task.Work.TheVariants as work
use Rattle.device_ties.specs.Tasks.{SeizingTied, StepTied}
use Rattle.node_model.specs.Seats.{is_in, session_of}
use Rattle.node_model.specs.declared.cluster.Cluster.{Cluster}
use Rattle.node_model.specs.declared.node.UpNode.{UpNode}
use Rattle.seize.specs.Seizing as seizing
use Rattle.seize.specs.Seizing.{SeizeState}
use Rattle.seize.specs.declared.kind.SeizeKind.{SeizeKind}
use Rattle.seize.specs.declared.step.SeizeStep.{SeizeStep}
use Rattle.seize.specs.declared.step.SeizeStep.TheVariants as step
use Rattle.wire.specs.declared.message.Body.TheVariants as body
use Rattle.run_history.specs.Scenes.{Scene}
use Rattle.world_model.specs.First.{first_cluster}
use Rattle.run_outcomes.specs.phases.Laws.{is_seizing}
use Rattle.run_outcomes.specs.tasks.Own.{IsOrdered, IsOthers, IsOwn, Match, Owns}
use Rattle.run_outcomes.proofs.own_tasks.Grounds.{Ground}
use Rattle.run_outcomes.proofs.own_tasks.Matching.{HasTask, not_both, task_of, then_so}
use Rattle.run_outcomes.proofs.own_tasks.Turns.{final_owns}

-- ---- a seizing that is not over has not ended in the machine of its device

low_rank : (v : Initiator) (p : Stage) → v.phase ≡ p → rank p ≤ 8 → rank v.phase ≤ 8
low_rank v p is low = subst (λ q. rank q ≤ 8) (sym is) low

step_low : (kind : SeizeKind) (cluster : ℕ) (p : SeizeStep) (v : Initiator) → seizing.result_at p ≡ None → StepTied kind cluster p v → rank v.phase ≤ 8
step_low kind cluster step.Check v none h = low_rank v stage.Phase.Asked h.0 (omega arith)
step_low kind cluster step.Register v none h = by_save h.0
  where
    by_save : (v.phase ≡ stage.Phase.Asked) ⊎ ((v.phase ≡ stage.Phase.Untrusted) × (v.valid ≡ false)) → rank v.phase ≤ 8
    by_save (inl at) = low_rank v stage.Phase.Asked at (omega arith)
    by_save (inr at) = low_rank v stage.Phase.Untrusted at.0 (omega arith)
step_low kind cluster step.ReadWord v none h = low_rank v stage.Phase.Keyed h (omega arith)
step_low kind cluster (step.Swap expected) v none h = low_rank v stage.Phase.Swapping h.0 (omega arith)
step_low kind cluster step.Reserve v none h = low_rank v stage.Phase.Marked h (omega arith)
step_low kind cluster (step.ReadKeys reading) v none h = low_rank v stage.Phase.Reserved h (omega arith)
step_low kind cluster (step.Preempt victim reading) v none h = low_rank v stage.Phase.Preempting h.0 (omega arith)
step_low kind cluster (step.Confirm keys) v none h = low_rank v stage.Phase.Cleared h (omega arith)
step_low kind cluster (step.Ended r) v none h = absurd (none_some r (sym none))

tied_of : (cluster n : ℕ) (s : Sharing) (t : SeizeState) (p : SeizeStep) → seizing.result_at p ≡ None → SeizingAt cluster n s t p → SeizingTied cluster n s t
tied_of cluster n s t (step.Ended r) none h = absurd (none_some r (sym none))
tied_of cluster n s t _ none h = h.0

work_runs : (cluster n e : ℕ) (s : Sharing) (w : Work) → Inv s → (s.node n).session ≡ e → 0 < e → is_seizure w ≡ true → result_in w ≡ None → WorkAt cluster n s w → (s.node n).past.ended e ≡ false
work_runs cluster n e s (work.Seizing t) i at some is none h =
    let tied : SeizingTied cluster n s t = tied_of cluster n s t t.step none h in
    subst (λ q. (s.node n).past.ended q ≡ false) at ((i.node n).running (subst (λ q. 0 < q) (sym at) some) (step_low t.kind t.cluster t.step (s.node n) none tied.step))
work_runs cluster n e s (work.Joining j) i at some is none h = absurd (false_true is)

ended_told : (s : Sharing) (e k : ℕ) (r : SeizeResult) → EndedSo s e k r → (s.node k).past.ended e ≡ true
ended_told s e k (end.Held keys) h = h.0
ended_told s e k (end.NotRegistered keys) h = h.0
ended_told s e k (end.Greater w) h = h.0
ended_told s e k end.Expelled h = h.0
ended_told s e k (end.Contended key) h = h.0
ended_told s e k end.Fault h = h.0

-- ---- so no answer of the coordinator's own is awaited there

-- each task of the device is over
abbrev AreOverAt : ℕ → List Task → Type 0
AreOverAt d ts = AllByRecursion (λ (t : Task). t.device ≡ d → is_seizure t.work ≡ true → result_in t.work ≡ None → ⊥) ts

none_awaited : (c d : ℕ) (promises : List Promised) (es : List Seizing) (ts : List Task) → Match (IsOwn c) c promises es ts → AreOverAt d ts → find (awaits d c) es ≡ None
none_awaited c d promises [] ts h over = refl
none_awaited c d promises (e ∷ es) ts (inl h) over = by_test (awaits d c e) refl (none_awaited c d promises es ts h.1 over)
  where
    by_test : (b : Bool) → awaits d c e ≡ b → find (awaits d c) es ≡ None → (if b then Some e else find (awaits d c) es) ≡ None
    by_test true is rest = absurd (not_both (is_asked e.seizer c) (and_cases _ (is_asked e.seizer c) is).1 h.0.seizer)
    by_test false is rest = rest
none_awaited c d promises (e ∷ es) (t ∷ us) (inr h) over = by_test (awaits d c e) refl (none_awaited c d promises es us h.1 over.1)
  where
    none_so : (o : Option SeizeResult) → is_none o ≡ true → o ≡ None
    none_so None k = refl
    none_so (Some r) k = absurd (false_true k)

    by_test : (b : Bool) → awaits d c e ≡ b → find (awaits d c) es ≡ None → (if b then Some e else find (awaits d c) es) ≡ None
    by_test true is rest =
        let two : (((e.attached.device == d) && is_none e.result) ≡ true) × (is_asked e.seizer c ≡ true) = and_cases _ (is_asked e.seizer c) is in
        let at : ((e.attached.device == d) ≡ true) × (is_none e.result ≡ true) = and_cases (e.attached.device == d) (is_none e.result) two.0 in
        absurd (over.0 (h.0.device ∙ same_number e.attached.device d at.0) h.0.work (then_so _ _ (is_asked e.seizer c) two.1 h.0.result ∙ none_so e.result at.1))
    by_test false is rest = rest
none_awaited c d promises (e ∷ es) [] (inr h) over = absurd h

over_at : (c : Cluster) (W : Whole) (n d e : ℕ) (ts : List Task) → Inv (W.device d) → ((W.device d).node n).session ≡ e → 0 < e → ((W.device d).node n).past.ended e ≡ true → AllByRecursion (TaskAt c W n) ts → AreOverAt d ts
over_at c W n d e [] i at some ended all = tt
over_at c W n d e (t ∷ ts) i at some ended all = (
  (λ same is none. not_both (((W.device d).node n).past.ended e) ended (work_runs c.id n e (W.device d) t.work i at some is none (subst (λ k. WorkAt c.id n (W.device k) t.work) same all.0))),
  over_at c W n d e ts i at some ended all.1,
)

pub seized_so : (h : Header) (s : Scene) (n from e d : ℕ) (r : SeizeResult) (x : UpNode) (a : AttemptState) (g : Ground h s n x a) → ToldOf g.whole.machine from n (body.Seized e d r) → Owns n x.tasks a
    → is_seizing a.phase ≡ true → (e == a.plan.epoch) ≡ true → (from == a.plan.coordinator) ≡ true → find (awaits d from) a.devices ≡ None
seized_so h s n from e d r x a g told owns is same own =
    subst (λ k. find (awaits d k) a.devices ≡ None) (sym (same_number from a.plan.coordinator own))
    (none_awaited a.plan.coordinator d a.promises a.devices x.tasks (owns.seizes is g.ordered)
    (over_at (first_cluster h) g.whole.machine n d (session_of x) x.tasks (g.order.device d) (g.session d) (subst (λ q. 0 < q) g.so.epoch g.so.some)
    (subst (λ q. ((g.whole.machine.device d).node n).past.ended q ≡ true) (same_number e a.plan.epoch same ∙ g.so.epoch)
    (subst (λ k. ((g.whole.machine.device d).node k).past.ended e ≡ true) (same_number from a.plan.coordinator own ∙ g.coordinator) (ended_told (g.whole.machine.device d) e from r told))) g.at.tasks))

-- ---- a request to seize is for a device that it seizes already

find_both : (p q : Task → Bool) (ts : List Task) (t : Task) → find p ts ≡ Some t → q t ≡ true → find (λ (u : Task). p u && q u) ts ≡ Some t
find_both p q [] t is so = absurd (none_some t is)
find_both p q (u ∷ ts) t is so = by_test (p u) is (λ k. find_both p q ts t k so)
  where
    by_test : (b : Bool) → (if b then Some u else find p ts) ≡ Some t → (find p ts ≡ Some t → find (λ (v : Task). p v && q v) ts ≡ Some t)
        → (if b && q u then Some u else find (λ (v : Task). p v && q v) ts) ≡ Some t
    by_test true k rest = ap (λ b. if b then Some u else find (λ (v : Task). p v && q v) ts) (subst (λ (z : Task). q z ≡ true) (sym (same u t k)) so) ∙ k
      where
        same : (u t : Task) → Some u ≡ Some t → u ≡ t
        same u t k = cc
    by_test false k rest = rest k

seized_already : (c d : ℕ) (promises : List Promised) (es : List Seizing) (ts : List Task) (e : Seizing) (begun : SeizeState) → Match (IsOwn c) c promises es ts → entry_of es d ≡ Some e → has e.asked c ≡ true
    → after_seize ts d begun ≡ ts
seized_already c d promises es ts e begun h is asked = by_task (task_of (IsOwn c) c d promises (λ x t k. k.device) es ts e h is)
  where
    by_task : IsOthers c promises e ⊎ HasTask (IsOwn c) d e ts → after_seize ts d begun ≡ ts
    by_task (inl k) = absurd (not_both (has e.asked c) asked k.unasked)
    by_task (inr k) = ap (λ o. put_unless o (record { device = d; work = work.Seizing begun }) ts) (find_both (λ (t : Task). t.device == d) (λ (t : Task). is_seizure t.work) ts k.task k.found k.so.work)

-- the entry of the device asks the node
pub entry_asks : (t : Sharing) (q d c : ℕ) (promises : List Promised) (es : List Seizing) (ts : List Task) (begun : SeizeState) (o : Option Seizing) → entry_of es d ≡ o → (t.attempt q).asked c ≡ true → HasEntry t q o
    → Match (IsOwn c) c promises es ts → after_seize ts d begun ≡ ts
entry_asks t q d c promises es ts begun None is asked has_it h = absurd (not_both ((t.attempt q).asked c) asked (has_it.asked c))
entry_asks t q d c promises es ts begun (Some e) is asked has_it h = by_seizer e.seizer has_it
  where
    by_seizer : (k : Option ℕ) → AskedBy t q e k → after_seize ts d begun ≡ ts
    by_seizer None l = absurd (not_both ((t.attempt q).asked c) asked (l.0.asked c))
    by_seizer (Some k) l = seized_already c d promises es ts e begun h is (l.before c asked)

request_owns : (n c d : ℕ) (s : Sharing) (a : AttemptState) (ts : List Task) (begun : SeizeState) (p : Phase) → a.phase ≡ p → a.plan.coordinator ≡ c → IsOrdered n a → (s.attempt a.plan.epoch).asked c ≡ true
    → HasIn s a.plan a.promises a.devices d p → Owns n ts a → Owns n (after_seize ts d begun) a
request_owns n c d s a ts begun Collecting at own ok asked has_it h = absurd (not_both ((s.attempt a.plan.epoch).asked c) asked (has_it.0.unasked.asked c))
request_owns n c d s a ts begun Choosing at own ok asked has_it h = absurd (not_both ((s.attempt a.plan.epoch).asked c) asked (has_it.1.asked c))
request_owns n c d s a ts begun SeizingVotes at own ok asked has_it h =
    subst (λ us. Owns n us a) (sym (entry_asks s a.plan.epoch d a.plan.coordinator a.promises a.devices ts begun (entry_of a.devices d) refl (subst (λ k. (s.attempt a.plan.epoch).asked k ≡ true) (sym own) asked) has_it.1 (h.seizes (ap is_seizing at) ok))) h
request_owns n c d s a ts begun SeizingOthers at own ok asked has_it h =
    subst (λ us. Owns n us a) (sym (entry_asks s a.plan.epoch d a.plan.coordinator a.promises a.devices ts begun (entry_of a.devices d) refl (subst (λ k. (s.attempt a.plan.epoch).asked k ≡ true) (sym own) asked) has_it.1 (h.seizes (ap is_seizing at) ok))) h
request_owns n c d s a ts begun Installing at own ok asked has_it h = final_owns n (after_seize ts d begun) a (subst IsFinal (sym at) tt)
request_owns n c d s a ts begun Over at own ok asked has_it h = final_owns n (after_seize ts d begun) a (subst IsFinal (sym at) tt)

pub asked_so : (h : Header) (s : Scene) (n e members d : ℕ) (kind : SeizeKind) (x : UpNode) (a : AttemptState) (begun : SeizeState) (g : Ground h s n x a) → IsAskedTo (g.whole.machine.device d) e members n kind → Owns n x.tasks a
    → is_in x e ≡ true → Owns n (after_seize x.tasks d begun) a
asked_so h s n e members d kind x a begun g told owns is =
    request_owns n n d (g.whole.machine.device d) a x.tasks begun a.phase refl g.coordinator g.ordered
    (subst (λ q. ((g.whole.machine.device d).attempt q).asked n ≡ true) (sym (g.so.epoch ∙ same_number (session_of x) e (and_cases (nat_le 1 e) (session_of x == e) is).1)) told.asked) (g.attempt d).has owns

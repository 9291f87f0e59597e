-- What nodes and other attempts do at a device leaves what its machine has of this attempt.
use Rattle.std.proofs.Common.{◌≡◌, ◌≢◌, ℕ, ◌≤◌, ◌<◌, ◌⊎◌, inl, inr, List, [], ◌∷◌, refl, sym, ap, subst, ◌∙◌, arith}
use Rattle.std.specs.Prelude.{All, true, false, Option, Some, None}
use Rattle.std.proofs.lemmas.List.Elements.{All-nil, All-cons, All-head, All-tail}
use Rattle.machine_base.specs.Put.{put}
use Rattle.machine_base.proofs.Puts.{put_here, put_there, put_true_stays, same_or_not}
use Rattle.device_machine.specs.Attempt.{Attempt}
use Rattle.device_machine.specs.Attempt as attempt
use Rattle.device_machine.specs.Initiator.{Initiator}
use Rattle.device_machine.specs.Initiator as initiator
use Rattle.device_machine.specs.Device.{Device}
use Rattle.device_machine.specs.Sharing.{Sharing, Event, Allowed, after}
use Rattle.device_machine.specs.Sharing as event
use Rattle.cl_base.specs.Seizings.{SeizeResult}
use Rattle.cl_base.specs.declared.seizing.SeizeEnd.TheVariants.{Held, NotRegistered, Greater, Expelled, Contended, Fault}
use Rattle.cmm_attempt.specs.declared.phase.Phase.{Phase}
use Rattle.cmm_attempt.specs.declared.phase.Phase.TheVariants.{Collecting, Choosing, SeizingVotes, SeizingOthers, Installing, Over}
use Rattle.cmm_attempt.specs.declared.plan.Plan.{Plan}
use Rattle.cmm_attempt.specs.declared.promised.Promised.{Promised}
use Rattle.cmm_attempt.specs.declared.seizing.Seizing.{Seizing}
use Rattle.attempt_laws.specs.Asking.{EndedSo, IsUnasked, IsOpen, EndedAs, AskedBy, HasEntry, entry_of, HasIn, IsOthers, OthersLeave}

-- The attempt is the same but for the mark that a seizing ended held.
record IsSame (a b : Attempt) : Type 0 where
  collected : b.collected ≡ a.collected
  counted : b.counted ≡ a.counted
  members : (n : ℕ) → b.members n ≡ a.members n
  asking : b.asking ≡ a.asking
  asked : (n : ℕ) → b.asked n ≡ a.asked n
  quorum : b.quorum ≡ a.quorum
  seizer : b.seizer ≡ a.seizer
  holds : b.holds ≡ a.holds

-- A node's promise, and what it has done, only grow.
record IsGrown (v w : Initiator) : Type 0 where
  promised : v.promised ≤ w.promised
  ended : (q : ℕ) → v.past.ended q ≡ true → w.past.ended q ≡ true
  seized : (q : ℕ) → v.past.seized q ≡ true → w.past.seized q ≡ true
  unregistered : (q : ℕ) → v.past.unregistered q ≡ true → w.past.unregistered q ≡ true

record Leaves (t u : Sharing) (q : ℕ) : Type 0 where
  same : IsSame (t.attempt q) (u.attempt q)
  grown : (n : ℕ) → IsGrown (t.node n) (u.node n)

-- What is left of the attempt.

unasked_left : (a b : Attempt) → IsSame a b → IsUnasked a → IsUnasked b
unasked_left a b same h = record { asking = same.asking ∙ h.asking; asked = λ n. same.asked n ∙ h.asked n }

opened_left : (a b : Attempt) (set : ℕ) → IsSame a b → IsOpen a set → IsOpen b set
opened_left a b set same h = record { collected = same.collected ∙ h.collected; counted = same.counted ∙ h.counted; members = λ n. same.members n ∙ h.members n }

ended_left : (t u : Sharing) (q n : ℕ) (r : SeizeResult) → Leaves t u q → EndedSo t q n r → EndedSo u q n r
ended_left t u q n (Held keys) left h = ((left.grown n).ended q h.0, (left.grown n).seized q h.1)
ended_left t u q n (NotRegistered keys) left h = ((left.grown n).ended q h.0, (left.grown n).unregistered q h.1)
ended_left t u q n (Greater word) left h = ((left.grown n).ended q h.0, tt)
ended_left t u q n Expelled left h = ((left.grown n).ended q h.0, tt)
ended_left t u q n (Contended key) left h = ((left.grown n).ended q h.0, tt)
ended_left t u q n Fault left h = ((left.grown n).ended q h.0, tt)

as_left : (t u : Sharing) (q n : ℕ) (o : Option SeizeResult) → Leaves t u q → EndedAs t q n o → EndedAs u q n o
as_left t u q n None left h = tt
as_left t u q n (Some r) left h = ended_left t u q n r left h

asked_left : (t u : Sharing) (q : ℕ) (e : Seizing) (o : Option ℕ) → Leaves t u q → AskedBy t q e o → AskedBy u q e o
asked_left t u q e None left h = (unasked_left (t.attempt q) (u.attempt q) left.same h.0, h.1)
asked_left t u q e (Some n) left h = record {
  asking = left.same.asking ∙ h.asking;
  seizer = left.same.seizer ∙ h.seizer;
  kind = left.same.quorum ∙ h.kind;
  asked = left.same.asked n ∙ h.asked;
  before = λ m k. h.before m (sym (left.same.asked m) ∙ k);
  ended = as_left t u q n e.result left h.ended;
}

entry_left : (t u : Sharing) (q : ℕ) (o : Option Seizing) → Leaves t u q → HasEntry t q o → HasEntry u q o
entry_left t u q None left h = unasked_left (t.attempt q) (u.attempt q) left.same h
entry_left t u q (Some e) left h = asked_left t u q e e.seizer left h

promised_left : (t u : Sharing) (q : ℕ) (ps : List Promised) → Leaves t u q → All (λ p. q ≤ (t.node p.shown.summary.node).promised) ps
    → All (λ p. q ≤ (u.node p.shown.summary.node).promised) ps
promised_left t u q [] left h = All-nil (λ p. q ≤ (u.node p.shown.summary.node).promised)
promised_left t u q (p ∷ ps) left h =
    let before : q ≤ (t.node p.shown.summary.node).promised = All-head (λ x. q ≤ (t.node x.shown.summary.node).promised) p ps h in
    let more : (t.node p.shown.summary.node).promised ≤ (u.node p.shown.summary.node).promised = (left.grown p.shown.summary.node).promised in
    All-cons (λ x. q ≤ (u.node x.shown.summary.node).promised) p ps (omega arith)
    (promised_left t u q ps left (All-tail (λ x. q ≤ (t.node x.shown.summary.node).promised) p ps h))

has_left : (t u : Sharing) (plan : Plan) (promises : List Promised) (devices : List Seizing) (d : ℕ) (phase : Phase) → Leaves t u plan.epoch
    → HasIn t plan promises devices d phase → HasIn u plan promises devices d phase
has_left t u plan promises devices d Collecting left h = (
  record { collected = left.same.collected ∙ h.0.collected; counted = left.same.counted ∙ h.0.counted; unasked = unasked_left (t.attempt plan.epoch) (u.attempt plan.epoch) left.same h.0.unasked },
  h.1,
  promised_left t u plan.epoch promises left h.2,
)
has_left t u plan promises devices d Choosing left h =
    (opened_left (t.attempt plan.epoch) (u.attempt plan.epoch) plan.members left.same h.0, unasked_left (t.attempt plan.epoch) (u.attempt plan.epoch) left.same h.1)
has_left t u plan promises devices d SeizingVotes left h =
    (opened_left (t.attempt plan.epoch) (u.attempt plan.epoch) plan.members left.same h.0, entry_left t u plan.epoch (entry_of devices d) left h.1)
has_left t u plan promises devices d SeizingOthers left h =
    (opened_left (t.attempt plan.epoch) (u.attempt plan.epoch) plan.members left.same h.0, entry_left t u plan.epoch (entry_of devices d) left h.1)
has_left t u plan promises devices d Installing left h = (left.same.counted ∙ h.0, left.same.holds ∙ h.1)
has_left t u plan promises devices d Over left h = tt

-- What each event leaves.

itself : (a : Attempt) → IsSame a a
itself a = record { collected = refl; counted = refl; members = λ n. refl; asking = refl; asked = λ n. refl; quorum = refl; seizer = refl; holds = refl }

no_less : (n : ℕ) → n ≤ n
no_less n = omega arith

unchanged : (v : Initiator) → IsGrown v v
unchanged v = record { promised = no_less v.promised; ended = λ q h. h; seized = λ q h. h; unregistered = λ q h. h }

grown_at : (f : ℕ → Initiator) (n : ℕ) (w : Initiator) → IsGrown (f n) w → (k : ℕ) → IsGrown (f k) (put f n w k)
grown_at f n w h k = by_number (same_or_not k n)
  where
    by_number : (k ≡ n) ⊎ (k ≢ n) → IsGrown (f k) (put f n w k)
    by_number (inl e) = subst (λ x. IsGrown (f x) (put f n w x)) (sym e) (subst (IsGrown (f n)) (sym (put_here f n w)) h)
    by_number (inr e) = subst (IsGrown (f k)) (sym (put_there f n w k e)) (unchanged (f k))

by_node : (t : Sharing) (q n : ℕ) (w : Initiator) (device : Device) → IsGrown (t.node n) w → Leaves t (record t { node = put t.node n w; device = device }) q
by_node t q n w device h = record { same = itself (t.attempt q); grown = grown_at t.node n w h }

by_attempt : (t : Sharing) (q p : ℕ) (a : Attempt) → p ≢ q → Leaves t (record t { attempt = put t.attempt p a }) q
by_attempt t q p a ne = record {
  same = subst (IsSame (t.attempt q)) (sym (put_there t.attempt p a q (λ e. ne (sym e)))) (itself (t.attempt q));
  grown = λ n. unchanged (t.node n);
}

grown_promise : (v : Initiator) (q : ℕ) → v.promised < q → IsGrown v (initiator.promising v q)
grown_promise v q lt = record { promised = omega arith; ended = λ p h. h; seized = λ p h. h; unregistered = λ p h. h }

grown_same : (v w : Initiator) → w.promised ≡ v.promised → w.past.ended ≡ v.past.ended → w.past.seized ≡ v.past.seized → w.past.unregistered ≡ v.past.unregistered → IsGrown v w
grown_same v w promised ended seized unregistered = record {
  promised = subst (λ n. v.promised ≤ n) (sym promised) (no_less v.promised);
  ended = λ q h. ap (λ f. f q) ended ∙ h;
  seized = λ q h. ap (λ f. f q) seized ∙ h;
  unregistered = λ q h. ap (λ f. f q) unregistered ∙ h;
}

grown_ending : (v : Initiator) → IsGrown v (initiator.ending v)
grown_ending v = record {
  promised = no_less v.promised;
  ended = λ q h. put_true_stays v.past.ended v.session q h;
  seized = λ q h. h;
  unregistered = λ q h. h;
}

grown_marking_lost : (v : Initiator) → IsGrown v (initiator.marking_lost v)
grown_marking_lost v = record {
  promised = no_less v.promised;
  ended = λ q h. put_true_stays v.past.ended v.session q h;
  seized = λ q h. h;
  unregistered = λ q h. h;
}

grown_rejecting : (v : Initiator) → IsGrown v (initiator.rejecting v)
grown_rejecting v = record {
  promised = no_less v.promised;
  ended = λ q h. put_true_stays v.past.ended v.session q h;
  seized = λ q h. h;
  unregistered = λ q h. put_true_stays v.past.unregistered v.session q h;
}

grown_holding : (v : Initiator) → IsGrown v (initiator.holding v)
grown_holding v = record {
  promised = no_less v.promised;
  ended = λ q h. put_true_stays v.past.ended v.session q h;
  seized = λ q h. put_true_stays v.past.seized v.session q h;
  unregistered = λ q h. h;
}

-- a mark that its seizing ended held is set for the attempt of the session
held_same : (f : ℕ → Attempt) (p q : ℕ) → IsSame (f q) (put f p (attempt.holding_for (f p)) q)
held_same f p q = by_number (same_or_not q p)
  where
    by_number : (q ≡ p) ⊎ (q ≢ p) → IsSame (f q) (put f p (attempt.holding_for (f p)) q)
    by_number (inl e) =
        subst (λ x. IsSame (f x) (put f p (attempt.holding_for (f p)) x)) (sym e)
        (subst (IsSame (f p)) (sym (put_here f p (attempt.holding_for (f p))))
        (record { collected = refl; counted = refl; members = λ n. refl; asking = refl; asked = λ n. refl; quorum = refl; seizer = refl; holds = refl }))
    by_number (inr ne) = subst (IsSame (f q)) (sym (put_there f p (attempt.holding_for (f p)) q ne)) (itself (f q))

by_confirm : (t : Sharing) (q n : ℕ) → Leaves t (after t (event.Confirm n)) q
by_confirm t q n = record { same = held_same t.attempt (t.node n).session q; grown = grown_at t.node n (initiator.holding (t.node n)) (grown_holding (t.node n)) }

left_by : (t : Sharing) (q : ℕ) (e : Event) → Allowed t e → IsOthers q e → Leaves t (after t e) q
left_by t q (event.Promise n p) may others = by_node t q n (initiator.promising (t.node n) p) t.device (grown_promise (t.node n) p may)
left_by t q (event.Crash n) may others = by_node t q n _ _ (grown_same (t.node n) _ refl refl refl refl)
left_by t q (event.Collected p members) may others = by_attempt t q p (attempt.collecting (t.attempt p) members) others
left_by t q (event.Ask p n quorum) may others = by_attempt t q p (attempt.asking_node (t.attempt p) n quorum) others
left_by t q (event.Seize n) may others = by_node t q n _ _ (grown_same (t.node n) _ refl refl refl refl)
left_by t q (event.Check n) may others = by_node t q n _ _ (grown_same (t.node n) _ refl refl refl refl)
left_by t q (event.Reject n) may others = by_node t q n _ _ (grown_rejecting (t.node n))
left_by t q (event.Distrust n) may others = by_node t q n _ _ (grown_same (t.node n) _ refl refl refl refl)
left_by t q (event.Register n) may others = by_node t q n _ _ (grown_same (t.node n) _ refl refl refl refl)
left_by t q (event.Register_lost n) may others = by_node t q n _ _ (grown_ending (t.node n))
left_by t q (event.Word_less n) may others = by_node t q n _ _ (grown_same (t.node n) _ refl refl refl refl)
left_by t q (event.Word_same n) may others = by_node t q n _ _ (grown_same (t.node n) _ refl refl refl refl)
left_by t q (event.Swap n) may others = by_node t q n _ _ (grown_same (t.node n) _ refl refl refl refl)
left_by t q (event.Swap_lost n) may others = by_node t q n _ _ (grown_marking_lost (t.node n))
left_by t q (event.Reserve n) may others = by_node t q n _ _ (grown_same (t.node n) _ refl refl refl refl)
left_by t q (event.Reserve_lost n) may others = by_node t q n _ _ (grown_ending (t.node n))
left_by t q (event.Look n k) may others = by_node t q n _ _ (grown_same (t.node n) _ refl refl refl refl)
left_by t q (event.Preempt n) may others = by_node t q n _ _ (grown_same (t.node n) _ refl refl refl refl)
left_by t q (event.Preempt_lost n) may others = by_node t q n _ _ (grown_ending (t.node n))
left_by t q (event.Clear n) may others = by_node t q n _ _ (grown_same (t.node n) _ refl refl refl refl)
left_by t q (event.Confirm n) may others = by_confirm t q n
left_by t q (event.Fail n) may others = by_node t q n _ _ (grown_ending (t.node n))
left_by t q (event.Count_with p) may others = by_attempt t q p (attempt.counting (t.attempt p) true) others
left_by t q (event.Count_without p) may others = by_attempt t q p (attempt.counting (t.attempt p) false) others
left_by t q (event.Install_apart n) may others = by_node t q n _ _ (grown_same (t.node n) _ refl refl refl refl)
left_by t q (event.Install_seizer n) may others = by_node t q n _ _ (grown_same (t.node n) _ refl refl refl refl)
left_by t q (event.Install_known n) may others = by_node t q n _ _ (grown_same (t.node n) _ refl refl refl refl)
left_by t q (event.Install_new n) may others = by_node t q n _ _ (grown_same (t.node n) _ refl refl refl refl)
left_by t q (event.Enter n) may others = by_node t q n _ _ (grown_same (t.node n) _ refl refl refl refl)
left_by t q (event.Enter_lost n) may others = by_node t q n _ _ (grown_same (t.node n) _ refl refl refl refl)
left_by t q (event.Admit n) may others = by_node t q n _ _ (grown_same (t.node n) _ refl refl refl refl)
left_by t q (event.Late n) may others = by_node t q n _ _ (grown_same (t.node n) _ refl refl refl refl)
left_by t q (event.Write n x) may others = record { same = itself (t.attempt q); grown = λ k. unchanged (t.node k) }

pub others_leave : OthersLeave
others_leave t e s d h may others = record {
  nodes = h.nodes;
  attached = h.attached;
  apart = h.apart;
  has = has_left t (after t e) s.plan s.promises s.devices d s.phase (left_by t s.plan.epoch e may others) h.has;
}

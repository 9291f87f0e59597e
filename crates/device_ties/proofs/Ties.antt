-- A task stays tied through an event of its node, and while others go on.
use Rattle.std.proofs.Common.{◌≡◌, ℕ, ◌<◌, Bool, true, refl, sym, ap, subst, ◌∙◌, List, [], ◌∷◌, ◌++◌, Some}
use Rattle.std.proofs.lemmas.Option.{none-some, same_Some}
use Rattle.machine_base.proofs.Puts.{put_there}
use Rattle.pgr_device.specs.Device as pgr
use Rattle.seize.specs.declared.kind.SeizeKind.TheVariants.{Vote}
use Rattle.cl_base.specs.Seizings.{SeizeResult}
use Rattle.cl_base.specs.declared.seizing.SeizeEnd.TheVariants.{Held, NotRegistered}
use Rattle.seize.specs.declared.step.SeizeStep.{SeizeStep}
use Rattle.seize.specs.declared.step.SeizeStep.TheVariants.{Ended}
use Rattle.seize.specs.declared.step.JoinStep.{JoinStep}
use Rattle.seize.specs.Seizing.{SeizeState, result_at, result_of}
use Rattle.seize.specs.Joining.{JoinState}
use Rattle.device_machine.specs.Phase.{Phase}
use Rattle.device_machine.specs.Device.{Device}
use Rattle.device_machine.specs.Initiator.{Initiator}
use Rattle.device_machine.specs.Sharing.{Sharing, Event, Allowed, after, at_device}
use Rattle.device_machine.specs.Growth.{AttemptGrows}
use Rattle.cluster_machine.specs.Cluster.{MayCome, all_after}
use Rattle.device_machine.proofs.Growth.{attempt_same}
use Rattle.device_machine.proofs.Grown.{attempt_over}
use Rattle.device_ties.specs.Devices.{DeviceTied}
use Rattle.device_ties.specs.Tasks.{EndedTied, ToldSo, StepTied, SeizingTied, JoinStepTied, JoiningTied, Task, Idle, Seizes, Joins, TaskTied, AtDevice}
use Rattle.device_ties.specs.Moves.{IsBy, AreBy, Moved}

-- what an event of its task leaves of a node
pub record Keeps (v v' : Initiator) : Type 0 where
  pub session : v'.session ≡ v.session
  pub quorum : v'.quorum ≡ v.quorum

pub seizing_after : (cluster n : ℕ) (s u : Sharing) (t : SeizeState) (next : SeizeStep) (v' : Initiator) → SeizingTied cluster n s t → u.node n ≡ v' → ((q : ℕ) → AttemptGrows (s.attempt q) (u.attempt q))
    → Keeps (s.node n) v' → (t.kind ≡ Vote → v'.valid ≡ (s.node n).valid) → StepTied t.kind t.cluster next v' → SeizingTied cluster n u (record t { step = next })
seizing_after cluster n s u t next v' i e g k same st = record {
  me = i.me;
  of_cluster = i.of_cluster;
  session = ap (λ (v : Initiator). v.session) e ∙ k.session ∙ i.session;
  kind = ap (λ (v : Initiator). v.quorum) e ∙ k.quorum ∙ i.kind;
  valid = λ vote. ap (λ (v : Initiator). v.valid) e ∙ same vote ∙ i.valid vote;
  collected = (g t.epoch).collected i.collected;
  members = λ m. (g t.epoch).members m i.collected ∙ i.members m;
  step = subst (λ v. StepTied t.kind t.cluster next v) (sym e) st;
}

pub joining_after : (cluster n : ℕ) (s u : Sharing) (j : JoinState) (next : JoinStep) (v' : Initiator) → JoiningTied cluster n s j → u.node n ≡ v' → Keeps (s.node n) v' → JoinStepTied next v'
    → JoiningTied cluster n u (record j { step = next })
joining_after cluster n s u j next v' i e k st = record {
  me = i.me;
  of_cluster = i.of_cluster;
  session = ap (λ (v : Initiator). v.session) e ∙ k.session ∙ i.session;
  step = subst (λ v. JoinStepTied next v) (sym e) st;
}

-- one event of node n, by which it becomes v' and the device d'
pub one_event : (cluster n : ℕ) (s : Sharing) (p' : pgr.Device) (Then : Sharing → Type 0) (e : Event) (v' : Initiator) (d' : Device) → IsBy n e → Allowed s e → after s e ≡ at_device s n v' d'
    → DeviceTied cluster p' d' → Then (at_device s n v' d') → Moved cluster n s p' Then
one_event cluster n s p' Then e v' d' own a is dev then_so = record {
  events = e ∷ [];
  own = (own, tt);
  allowed = (a, tt);
  device = subst (λ u. DeviceTied cluster p' u.device) (sym is) dev;
  reached = subst Then (sym is) then_so;
  others = λ k ne. ap (λ (u : Sharing). u.node k) is ∙ put_there s.node n v' k ne;
  attempts = λ q. subst (λ u. AttemptGrows (s.attempt q) (u.attempt q)) (sym is) (attempt_same (s.attempt q));
}

pub no_event : (cluster n : ℕ) (s : Sharing) (p' : pgr.Device) (Then : Sharing → Type 0) → DeviceTied cluster p' s.device → Then s → Moved cluster n s p' Then
no_event cluster n s p' Then dev then_so = record {
  events = [];
  own = tt;
  allowed = tt;
  device = dev;
  reached = then_so;
  others = λ k ne. refl;
  attempts = λ q. attempt_same (s.attempt q);
}

-- how a seizing ended is so in the machine
told_so : (r : SeizeResult) (s : Sharing) (n q : ℕ) → EndedTied r (s.node n) → (s.node n).session ≡ q → ToldSo s q n r
told_so (Held keys) s n q e at = (subst (λ k. (s.node n).past.ended k ≡ true) at e.1, subst (λ k. (s.node n).past.seized k ≡ true) at e.2)
told_so (NotRegistered keys) s n q e at = (subst (λ k. (s.node n).past.ended k ≡ true) at e.1, subst (λ k. (s.node n).past.unregistered k ≡ true) at e.2)
told_so r s n q e at = (subst (λ k. (s.node n).past.ended k ≡ true) at e.1, tt)

result_true : (cluster n : ℕ) (s : Sharing) (t : SeizeState) (step : SeizeStep) (r : SeizeResult) → (s.node n).session ≡ t.epoch → StepTied t.kind t.cluster step (s.node n) → result_at step ≡ Some r → ToldSo s t.epoch n r
result_true cluster n s t (Ended x) r at st e = subst (λ y. ToldSo s t.epoch n y) (same_Some _ _ e) (told_so x s n t.epoch st at)
result_true cluster n s t step r at st e = absurd (none-some _ e)

pub results_true : (cluster n : ℕ) (s : Sharing) (t : SeizeState) (r : SeizeResult) → SeizingTied cluster n s t → result_of t ≡ Some r → ToldSo s t.epoch n r
results_true cluster n s t r i e = result_true cluster n s t t.step r i.session i.step e

-- one step after another
are_by : (n : ℕ) (es fs : List Event) → AreBy n es → AreBy n fs → AreBy n (es ++ fs)
are_by n [] fs a b = b
are_by n (e ∷ es) fs a b = (a.0, are_by n es fs a.1 b)

after_both : (s : Sharing) (es fs : List Event) → all_after s (es ++ fs) ≡ all_after (all_after s es) fs
after_both s [] fs = refl
after_both s (e ∷ es) fs = after_both (after s e) es fs

may_both : (s : Sharing) (es fs : List Event) → MayCome s es → MayCome (all_after s es) fs → MayCome s (es ++ fs)
may_both s [] fs a b = b
may_both s (e ∷ es) fs a b = (a.0, may_both (after s e) es fs a.1 b)

pub and_then : (cluster n : ℕ) (s : Sharing) (p p' : pgr.Device) (First Then : Sharing → Type 0) → Moved cluster n s p First
    → ((u : Sharing) → DeviceTied cluster p u.device → First u → Moved cluster n u p' Then) → Moved cluster n s p' Then
and_then cluster n s p p' First Then m next = joined (next (all_after s m.events) m.device m.reached)
  where
    joined : Moved cluster n (all_after s m.events) p' Then → Moved cluster n s p' Then
    joined x = record {
      events = m.events ++ x.events;
      own = are_by n m.events x.events m.own x.own;
      allowed = may_both s m.events x.events m.allowed x.allowed;
      device = subst (λ u. DeviceTied cluster p' u.device) (sym (after_both s m.events x.events)) x.device;
      reached = subst Then (sym (after_both s m.events x.events)) x.reached;
      others = λ k ne. subst (λ u. u.node k ≡ s.node k) (sym (after_both s m.events x.events)) (x.others k ne ∙ m.others k ne);
      attempts = λ q. subst (λ u. AttemptGrows (s.attempt q) (u.attempt q)) (sym (after_both s m.events x.events))
          (attempt_over (s.attempt q) ((all_after s m.events).attempt q) ((all_after (all_after s m.events) x.events).attempt q) (m.attempts q) (x.attempts q));
    }

-- node k stays as it is at the device while others go on
task_stays : (cluster k : ℕ) (s u : Sharing) (task : Task) → u.node k ≡ s.node k → ((q : ℕ) → AttemptGrows (s.attempt q) (u.attempt q)) → TaskTied cluster k s task → TaskTied cluster k u task
task_stays cluster k s u Idle e g i = subst (λ v. v.installed < v.session → v.phase ≡ Phase.Idle) (sym e) i
task_stays cluster k s u (Seizes t) e g i = seizing_after cluster k s u t t.step (s.node k) i e g (record { session = refl; quorum = refl }) (λ _. refl) i.step
task_stays cluster k s u (Joins j) e g i = joining_after cluster k s u j j.step (s.node k) i e (record { session = refl; quorum = refl }) i.step

pub stays_at : (cluster k : ℕ) (s u : Sharing) (validated has_joined : Bool) (task : Task) → u.node k ≡ s.node k → ((q : ℕ) → AttemptGrows (s.attempt q) (u.attempt q))
    → AtDevice cluster k s validated has_joined task → AtDevice cluster k u validated has_joined task
stays_at cluster k s u validated has_joined task e g i = record {
  valid = ap (λ (v : Initiator). v.valid) e ∙ i.valid;
  joined = ap (λ (v : Initiator). v.joined) e ∙ i.joined;
  task = task_stays cluster k s u task e g i.task;
}

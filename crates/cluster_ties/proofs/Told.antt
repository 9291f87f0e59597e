-- What messages tell of devices is so, and stays so.
use Rattle.std.specs.Prelude.{ℕ, ◌≡◌, ◌≤◌, ◌==◌, Bool, true, false, List, [], ◌∷◌, Option, None, Some, find, if◌then◌else◌}
use Rattle.std.specs.Option.{option_and_then}
use Rattle.std.proofs.Common.{refl, sym, ap, subst, ◌∙◌, arith}
use Rattle.attempt_laws.specs.Asking as asking
use Rattle.attempt_laws.specs.Asking.{AsksBy, EndedSo, HasAsked, TellsAt}
use Rattle.attempt_laws.specs.Machine.{MachineHas}
use Rattle.cl_base.specs.Seizings.{SeizeResult}
use Rattle.cl_base.specs.declared.seizing.SeizeEnd.TheVariants as end
use Rattle.cluster_machine.specs.Cluster.{Cluster as Whole}
use Rattle.cluster_machine.specs.Machines.{run_at}
use Rattle.cluster_machine.proofs.Machines.{device_runs}
use Rattle.cluster_machine.proofs.Whole.{InOrder}
use Rattle.cmm_attempt.specs.Attempts.{AttemptState}
use Rattle.cmm_attempt.proofs.Basics.{and_cases, none_some, same_number, same_some}
use Rattle.device_machine.specs.Growth.{Grows}
use Rattle.device_machine.specs.Sharing.{Sharing}
use Rattle.device_machine.proofs.Grown.{run_grows}
use Rattle.device_queue.specs.declared.task.Task.{Task}
use Rattle.device_queue.specs.declared.task.Work.{Work}
use Rattle.device_queue.specs.declared.task.Work.TheVariants as work
use Rattle.device_queue.specs.Queue.{seizure_of}
use Rattle.device_queue.specs.Tasks.{is_seizing, is_seizure_of, result_in}
use Rattle.membership_machine.specs.Votes.{Setting}
use Rattle.refinement.proofs.Worlds.{all_found}
use Rattle.seize.specs.Seizing as seizing
use Rattle.seize.specs.Shows as shows
use Rattle.seize.specs.Seizing.{SeizeState}
use Rattle.seize.specs.declared.kind.SeizeKind.{SeizeKind}
use Rattle.seize.specs.declared.kind.SeizeKind.TheVariants.{Vote, Plain}
use Rattle.seize.specs.declared.step.SeizeStep.{SeizeStep}
use Rattle.seize.specs.declared.step.SeizeStep.TheVariants as seize
use Rattle.device_ties.specs.Tasks.{ToldSo}
use Rattle.wire.specs.declared.lists.Reading.{Reading}
use Rattle.wire.specs.declared.message.Body.{Body}
use Rattle.wire.specs.declared.message.Body.TheVariants as body
use Rattle.cluster_ties.specs.Ties.{SeizingAt, TaskAt, WorkAt}
use Rattle.cluster_ties.specs.Moves.{Moves}
use Rattle.cluster_ties.specs.Laws.{AreRead, IsAskedTo}
use Rattle.cluster_ties.specs.Told.{IsRequest, OwnRequestsAreTold, PromisesAreTold, RequestsAreTold, ResultsAreTold, TakesAreTold, ToldOf, ToldOfStays}
use Rattle.cluster_ties.proofs.First.{in_order}

-- It stays.

pub grows_at : (S : Setting) (W V : Whole) (n d : ℕ) → InOrder S W → Moves S W n V → Grows (W.device d) (V.device d)
grows_at S W V n d i m = run_grows (W.device d) (V.device d) (run_at W m.events d) (i.device d) (device_runs S W m.events V d m.run)

ended_stays : (s u : Sharing) (q n : ℕ) (r : SeizeResult) → Grows s u → EndedSo s q n r → EndedSo u q n r
ended_stays s u q n (end.Held keys) g h = ((g.node n).ended q h.0, (g.node n).seized q h.1)
ended_stays s u q n (end.NotRegistered keys) g h = ((g.node n).ended q h.0, (g.node n).unregistered q h.1)
ended_stays s u q n (end.Greater w) g h = ((g.node n).ended q h.0, tt)
ended_stays s u q n end.Expelled g h = ((g.node n).ended q h.0, tt)
ended_stays s u q n (end.Contended key) g h = ((g.node n).ended q h.0, tt)
ended_stays s u q n end.Fault g h = ((g.node n).ended q h.0, tt)

asked_stays : (s u : Sharing) (q members n : ℕ) (kind : SeizeKind) → Grows s u → IsAskedTo s q members n kind → IsAskedTo u q members n kind
asked_stays s u q members n kind g h = record {
  collected = (g.attempt q).collected h.collected;
  asked = (g.attempt q).asked n h.asked;
  as_kind = (g.attempt q).quorum n h.asked ∙ h.as_kind;
  of_members = λ m. (g.attempt q).members m h.collected ∙ h.of_members m;
}

read_stays : (W V : Whole) (q : ℕ) (rs : List Reading) → ((d : ℕ) → Grows (W.device d) (V.device d)) → ((d : ℕ) → ((W.device d).attempt q).counted ≡ true) → AreRead W q rs → AreRead V q rs
read_stays W V q [] g counted h = tt
read_stays W V q (r ∷ rs) g counted h = (
  record {
    holds = ((g r.device).attempt q).holds (counted r.device) ∙ h.0.holds;
    seizer = ((g r.device).attempt q).seizer (counted r.device) ∙ h.0.seizer;
    device = h.0.device;
  },
  h.1,
  read_stays W V q rs g counted h.2,
)

least_over : (a b c : ℕ) → a ≤ b → b ≤ c → a ≤ c
least_over a b c h k = omega (arith, h, k)

told_stays : (W V : Whole) (from to : ℕ) (b : Body) → ((d : ℕ) → Grows (W.device d) (V.device d)) → ToldOf W from to b → ToldOf V from to b
told_stays W V from to (body.Promise epoch installed members valid flagged committed pending) g h = λ d. least_over epoch ((W.device d).node from).promised ((V.device d).node from).promised (h d) ((g d).node from).promised
told_stays W V from to (body.Seized epoch d outcome) g h = ended_stays (W.device d) (V.device d) epoch from outcome (g d) h
told_stays W V from to (body.SeizeQuorum epoch members d) g h = asked_stays (W.device d) (V.device d) epoch members to Vote (g d) h
told_stays W V from to (body.SeizeData epoch members d) g h = asked_stays (W.device d) (V.device d) epoch members to Plain (g d) h
told_stays W V from to (body.Install i) g h = (λ d. ((g d).attempt i.epoch).counted (h.0 d), read_stays W V i.epoch i.readings g h.0 h.1)
told_stays W V from to _ g h = tt

pub told_of_stays : ToldOfStays
told_of_stays S W V n from to b reached m h = told_stays W V from to b (λ d. grows_at S W V n d (in_order S W reached) m) h

-- It is what a call takes.

pub takes_are_told : TakesAreTold
takes_are_told W a from to d m h = by_body m.body h
  where
    by_body : (b : Body) → ToldOf W from to b → TellsAt (W.device d) d from b
    by_body (body.Promise epoch installed members valid flagged committed pending) h = h d
    by_body (body.Seized epoch e outcome) h = λ is. subst (λ k. EndedSo (W.device k) epoch from outcome) is h
    by_body _ h = tt

-- What an attempt asks.

asked_to : (S : Setting) (W : Whole) (t : AttemptState) (d n : ℕ) (kind : SeizeKind) → InOrder S W → MachineHas W.memberships t → HasAsked (W.device d) t.plan.epoch n kind
    → IsAskedTo (W.device d) t.plan.epoch t.plan.members n kind
asked_to S W t d n kind i has asked =
    let collected : ((W.device d).attempt t.plan.epoch).collected ≡ true =
    ((i.device d).attempt t.plan.epoch).collected_asking (((i.device d).attempt t.plan.epoch).asking n asked.0) in
    record {
      collected = collected;
      asked = asked.0;
      as_kind = by_kind kind asked.1;
      of_members = λ m. ((i.agrees d).attempt t.plan.epoch).members collected m ∙ has.members m;
    }
  where
    by_kind : (k : SeizeKind) → ((W.device d).attempt t.plan.epoch).quorum ≡ asking.is_vote k → ((W.device d).attempt t.plan.epoch).quorum ≡ shows.is_vote k
    by_kind Vote h = h
    by_kind Plain h = h

pub requests_are_told : RequestsAreTold
requests_are_told S W t from to m reached has asks request = by_body m.body asks request
  where
    i : InOrder S W
    i = in_order S W reached

    by_body : (b : Body) → ((d : ℕ) → AsksBy (W.device d) t.plan d to b) → IsRequest b → ToldOf W from to b
    by_body (body.SeizeQuorum epoch members d) h request =
        let asked : IsAskedTo (W.device d) t.plan.epoch t.plan.members to Vote = asked_to S W t d to Vote i has ((h d).2 refl) in
        subst (λ q. IsAskedTo (W.device d) q members to Vote) (sym (h d).0) (subst (λ set. IsAskedTo (W.device d) t.plan.epoch set to Vote) (sym (h d).1) asked)
    by_body (body.SeizeData epoch members d) h request =
        let asked : IsAskedTo (W.device d) t.plan.epoch t.plan.members to Plain = asked_to S W t d to Plain i has ((h d).2 refl) in
        subst (λ q. IsAskedTo (W.device d) q members to Plain) (sym (h d).0) (subst (λ set. IsAskedTo (W.device d) t.plan.epoch set to Plain) (sym (h d).1) asked)
    by_body _ h request = absurd request

pub own_requests_are_told : OwnRequestsAreTold
own_requests_are_told S W t d kind reached has asks = asked_to S W t d t.plan.coordinator kind (in_order S W reached) has (asks refl)

-- What a node tells of itself.

pub promises_are_told : PromisesAreTold
promises_are_told S W n to p x reached h = λ d. subst (λ k. p ≤ k) (sym (((in_order S W reached).agrees d).node n).promised) h

ended_so : (s : Sharing) (q n : ℕ) (r : SeizeResult) → ToldSo s q n r → EndedSo s q n r
ended_so s q n (end.Held keys) h = h
ended_so s q n (end.NotRegistered keys) h = h
ended_so s q n (end.Greater w) h = h
ended_so s q n end.Expelled h = h
ended_so s q n (end.Contended key) h = h
ended_so s q n end.Fault h = h

ended_at : (cluster n : ℕ) (s : Sharing) (t : SeizeState) (step : SeizeStep) (r : SeizeResult) → seizing.result_at step ≡ Some r → SeizingAt cluster n s t step → EndedSo s (s.node n).session n r
ended_at cluster n s t (seize.Ended told) r is h =
    subst (λ z. EndedSo s (s.node n).session n z) (same_some told r is) (subst (λ q. EndedSo s q n told) (sym h.1) (ended_so s t.epoch n told h.0))
ended_at cluster n s t seize.Check r is h = absurd (none_some r is)
ended_at cluster n s t seize.Register r is h = absurd (none_some r is)
ended_at cluster n s t seize.ReadWord r is h = absurd (none_some r is)
ended_at cluster n s t (seize.Swap expected) r is h = absurd (none_some r is)
ended_at cluster n s t seize.Reserve r is h = absurd (none_some r is)
ended_at cluster n s t (seize.ReadKeys reading) r is h = absurd (none_some r is)
ended_at cluster n s t (seize.Preempt victim reading) r is h = absurd (none_some r is)
ended_at cluster n s t (seize.Confirm keys) r is h = absurd (none_some r is)

by_work : (cluster n : ℕ) (s : Sharing) (w : Work) (r : SeizeResult) → result_in w ≡ Some r → WorkAt cluster n s w → EndedSo s (s.node n).session n r
by_work cluster n s (work.Seizing t) r is h = ended_at cluster n s t t.step r is h
by_work cluster n s (work.Joining j) r is h = absurd (none_some r is)

found_test : (f : Task → Bool) (tasks : List Task) (t : Task) → find f tasks ≡ Some t → f t ≡ true
found_test f [] t found = absurd (none_some t found)
found_test f (first ∷ tasks) t found = by_test (f first) refl found (found_test f tasks t)
  where
    by_test : (b : Bool) → f first ≡ b → (if b then Some first else find f tasks) ≡ Some t → (find f tasks ≡ Some t → f t ≡ true) → f t ≡ true
    by_test true is some rest = subst (λ z. f z ≡ true) (same_some first t some) is
    by_test false is some rest = rest some

pub results_are_told : ResultsAreTold
results_are_told c W n d x r at kept = by_task (seizure_of x.tasks d) refl
  where
    by_task : (o : Option Task) → seizure_of x.tasks d ≡ o → EndedSo (W.device d) ((W.device d).node n).session n r
    by_task None found = absurd (none_some r (sym (ap (λ o. option_and_then (λ (t : Task). result_in t.work) o) found) ∙ kept))
    by_task (Some t) found =
        let there : t.device ≡ d = same_number t.device d (and_cases (t.device == d) (is_seizing t.work) (found_test (is_seizure_of d) x.tasks t found)).0 in
        let whole : TaskAt c W n t = all_found (TaskAt c W n) (is_seizure_of d) x.tasks t at.tasks found in
        let result : result_in t.work ≡ Some r = sym (ap (λ o. option_and_then (λ (z : Task). result_in z.work) o) found) ∙ kept in
        subst (λ k. EndedSo (W.device k) ((W.device k).node n).session n r) there (by_work c.id n (W.device t.device) t.work r result whole)

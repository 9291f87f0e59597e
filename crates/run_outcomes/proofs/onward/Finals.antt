-- A turn that installs or starts here leaves an attempt that seizes devices no more, and no call makes it seize again.
use Rattle.std.specs.Prelude.{ℕ, ◌≡◌, ◌==◌, true, List, [], ◌∷◌, map, Option, None, Some}
use Rattle.std.specs.List.{cons_option, filter_map}
use Rattle.std.proofs.Common.{subst, inl, inr}
use Rattle.attempt_laws.proofs.Steady.{Steady, call_keeps}
use Rattle.attempt_laws.proofs.Walk.{IsSeizing, Walk, awaits_collecting, walks}
use Rattle.attempt_laws.specs.Staying.{IsFinal}
use Rattle.cl_base.specs.Seizings.{SeizeResult}
use Rattle.cmm_attempt.proofs.Basics.{false_true, if_either}
use Rattle.cmm_attempt.specs.Attempts.{AttemptState, Turn, again_in, asked_next, installing, later, plain_devices, silent_others}
use Rattle.cmm_attempt.specs.Calls.{Call, turn}
use Rattle.cmm_attempt.specs.Installs.{send_collect, send_install}
use Rattle.cmm_attempt.specs.Seizings.{again_by, again_for, request, request_body, request_by, request_for}
use Rattle.cmm_attempt.specs.declared.phase.Phase.{Phase}
use Rattle.cmm_attempt.specs.declared.phase.Phase.TheVariants.{Choosing, Collecting, Installing, Over, SeizingOthers, SeizingVotes}
use Rattle.cmm_attempt.specs.declared.plan.Plan.{Plan}
use Rattle.cmm_attempt.specs.declared.seizing.Seizing.{Seizing}
use Rattle.cmm_attempt.specs.declared.step.Step.{Step}
use Rattle.cmm_attempt.specs.declared.step.Step.TheVariants.{SeizeHere, Send}
use Rattle.seize.specs.declared.kind.SeizeKind.{SeizeKind}
use Rattle.run_outcomes.specs.phases.Laws.{is_seizing}
use Rattle.run_outcomes.specs.tasks.Own.{IsFinalWhere}
use Rattle.run_outcomes.proofs.phases.Leading.{IsLed}

collects_where : (s : AttemptState) (ns : List ℕ) (p : Phase) → IsFinalWhere (map (send_collect s.plan) ns) p
collects_where s [] p = tt
collects_where s (n ∷ ns) p = tt

installs_where : (s : AttemptState) (i : _) (ns : List ℕ) (p : Phase) → IsFinalWhere (map (send_install s.plan i) ns) p
installs_where s i [] p = tt
installs_where s i (n ∷ ns) p = tt

request_where : (plan : Plan) (kind : SeizeKind) (d n : ℕ) (rest : List Step) (p : Phase) → IsFinalWhere (request plan kind d n ∷ rest) p
request_where plan kind d n rest p =
    if_either (λ (x : Step). IsFinalWhere (x ∷ rest) p) (n == plan.coordinator) (SeizeHere d kind) (Send n (record { sender = plan.coordinator; body = request_body plan kind d })) tt tt

requests_where : (plan : Plan) (es : List Seizing) (p : Phase) → IsFinalWhere (filter_map (request_for plan) es) p
requests_where plan [] p = tt
requests_where plan (e ∷ es) p = by_entry e.result e.seizer (requests_where plan es p)
  where
    by_entry : (r : Option SeizeResult) (o : Option ℕ) → IsFinalWhere (filter_map (request_for plan) es) p → IsFinalWhere (cons_option (request_by plan e r o) (filter_map (request_for plan) es)) p
    by_entry (Some r) o rest = rest
    by_entry None None rest = rest
    by_entry None (Some m) rest = request_where plan e.kind e.attached.device m (filter_map (request_for plan) es) p

agains_where : (plan : Plan) (es : List Seizing) (p : Phase) → IsFinalWhere (filter_map (again_for plan) es) p
agains_where plan [] p = tt
agains_where plan (e ∷ es) p = by_entry e.result e.seizer (agains_where plan es p)
  where
    by_entry : (r : Option SeizeResult) (o : Option ℕ) → IsFinalWhere (filter_map (again_for plan) es) p → IsFinalWhere (cons_option (again_by plan e r o) (filter_map (again_for plan) es)) p
    by_entry (Some r) o rest = rest
    by_entry None None rest = rest
    by_entry None (Some m) rest =
        if_either (λ (o : Option Step). IsFinalWhere (cons_option o (filter_map (again_for plan) es)) p) (m == plan.coordinator) None (Some (request plan e.kind e.attached.device m)) rest
        (request_where plan e.kind e.attached.device m (filter_map (again_for plan) es) p)

again_where : (s : AttemptState) (q p : Phase) → IsFinalWhere (again_in s q) p
again_where s Collecting p = collects_where s (silent_others s) p
again_where s Choosing p = tt
again_where s SeizingVotes p = agains_where s.plan s.devices p
again_where s SeizingOthers p = agains_where s.plan s.devices p
again_where s Installing p = installs_where s _ (silent_others s) p
again_where s Over p = tt

abbrev Anything : AttemptState → Type 0
Anything s = Unit {0}

abbrev FinalWhere : Turn → Type 0
FinalWhere t = IsFinalWhere t.steps t.after.phase

walk : (c : Call) → Walk c Anything Anything FinalWhere
unfolding asked_next installing
walk c = record {
  within = λ s i. tt;
  rests = λ s i. tt;
  passes = λ s is e i. tt;
  again = λ s is e i. again_where (record s { ticks = later s.ticks }) s.phase s.phase;
  silent = λ s n is late least i. tt;
  superseded = λ s from m q is body i. tt;
  promise = λ s from m p is awaited of promised i. tt;
  collects = λ s is e k. collects_where s (silent_others s) s.phase;
  collecting = λ s is e k. tt;
  no_newest = λ s is all none k. tt;
  chosen = λ s newest is all some k. tt;
  votes = λ s both is i. tt;
  foreign = λ s both n is votes least k. tt;
  excluded = λ s n is least k. tt;
  impossible = λ s e is short k. tt;
  entries = λ s is enough k. tt;
  requests = λ s is e k. requests_where s.plan s.devices s.phase;
  result = λ s d from r e is tells found none i. tt;
  next = λ s d from n r e is tells found next i. request_where s.plan e.kind d n [] s.phase;
  seizing = λ s is e k. tt;
  short = λ s e is all few k. tt;
  others = λ s is all enough some k. requests_where s.plan (plain_devices s) SeizingOthers;
  installs_at_once = λ s is all enough none k. tt;
  installs = λ s is all k. tt;
  ready = λ s from m is at of body i. tt;
  own = λ s is at i. tt;
  installing = λ s at e k. tt;
  starts = λ s at e k. tt;
}

pub final_where : (a : AttemptState) (k : Call) → IsFinalWhere (turn a k).steps (turn a k).after.phase
final_where a k = walks Anything Anything FinalWhere a k (walk k) tt

pub final_seizes_not : (p : Phase) → IsFinal p → is_seizing p ≡ true → ⊥
final_seizes_not Installing h is = false_true is
final_seizes_not Over h is = false_true is
final_seizes_not Collecting h is = h
final_seizes_not Choosing h is = h
final_seizes_not SeizingVotes h is = h
final_seizes_not SeizingOthers h is = h

-- ---- it stays so

abbrev pub Finished : AttemptState → Type 0
Finished a = IsFinal a.phase

never_at : {X : Type 0} (p q : Phase) → p ≡ q → (IsFinal q → ⊥) → IsFinal p → X
never_at p q is none h = absurd (none (subst IsFinal is h))

never_seizing : {X : Type 0} (p : Phase) → IsSeizing p → IsFinal p → X
never_seizing p (inl is) h = never_at p SeizingVotes is (λ z. z) h
never_seizing p (inr is) h = never_at p SeizingOthers is (λ z. z) h

finished_steady : (c : Call) → Steady c Finished Finished
finished_steady c = record {
  within = λ s i. i;
  ticked = λ s i. i;
  over = λ s k. tt;
  promise = λ s from m p is awaited of promised i. never_at s.phase Collecting (awaits_collecting s from s.phase awaited) (λ z. z) i;
  collecting = λ s is e k. k;
  no_newest = λ s is all none k. k;
  chosen = λ s newest is all some k. never_at s.phase Collecting is (λ z. z) k;
  votes = λ s both is i. never_at s.phase Choosing is (λ z. z) i;
  entries = λ s is k. never_at s.phase SeizingVotes is (λ z. z) k;
  result = λ s d from r is tells i. never_seizing s.phase is i;
  next = λ s d n e kind r is found i. never_seizing s.phase is i;
  seizing = λ s is e k. k;
  counted = λ s is h k. k;
  others = λ s is ne k. never_at s.phase SeizingVotes is (λ z. z) k;
  installs = λ s is k. never_seizing s.phase is k;
  ready = λ s from m is at of ready_body i. i;
  own = λ s is at i. i;
  installing = λ s at e k. k;
}

pub finished_led : IsLed Finished
finished_led a k may own h = call_keeps Finished Finished a k (finished_steady k) may h

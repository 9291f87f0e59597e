-- What stays of an attempt from one call to the next, by the walk.
use Rattle.std.proofs.Common.{◌≡◌, ℕ, ◌⊎◌, inl, inr, refl, sym, subst, ◌∙◌}
use Rattle.std.specs.Prelude.{Option, List}
use Rattle.wire.specs.declared.message.Install.{Install}
use Rattle.wire.specs.declared.message.Message.{Message}
use Rattle.cmm_attempt.specs.declared.attached.AttachedDevice.{AttachedDevice}
use Rattle.cmm_attempt.specs.declared.counting.BothVotes.{BothVotes}
use Rattle.cmm_attempt.specs.declared.phase.Phase.{Phase}
use Rattle.cmm_attempt.specs.declared.phase.Phase.TheVariants.{Collecting, Choosing, SeizingVotes, SeizingOthers, Installing, Over}
use Rattle.cmm_attempt.specs.declared.plan.Plan.{Plan}
use Rattle.cmm_attempt.specs.declared.promised.Promised.{Promised}
use Rattle.cmm_attempt.specs.Promises.{promised_by, shown_by}
use Rattle.cmm_attempt.specs.Attempts.{AttemptState, install_in, first_state, promises_of, beginning}
use Rattle.cmm_attempt.specs.Calls.{Call, Tick, turn, May}
use Rattle.attempt_laws.specs.Staying.{IsKnown, IsPast, IsFinal, IsOf, PlanBegins, PlanStays, NewestStays, VotesStay, PastStays, InstallsComeBefore, FinalStays, GrantedStays}
use Rattle.attempt_laws.proofs.Goes.{goes_by_call, chosen_reached}
use Rattle.attempt_laws.proofs.Steady.{Steady, call_keeps, begun_keeps}
use Rattle.attempt_laws.proofs.Walk.{IsSeizing, awaits_collecting}

-- a phase in which something is not so
never : {X : Type 0} (P : Phase → Type 0) (phase is : Phase) → phase ≡ is → (P is → ⊥) → P phase → X
never P phase is h no_such p = absurd (no_such (subst P h p))

never_seizing : {X : Type 0} (P : Phase → Type 0) (phase : Phase) → IsSeizing phase → (P SeizingVotes → ⊥) → (P SeizingOthers → ⊥) → P phase → X
never_seizing P phase (inl h) votes others p = absurd (votes (subst P h p))
never_seizing P phase (inr h) votes others p = absurd (others (subst P h p))

-- The plan.

abbrev HasPlan : Plan → AttemptState → Type 0
HasPlan plan s = s.plan ≡ plan

pub plan_steady : (plan : Plan) (c : Call) → Steady c (HasPlan plan) (HasPlan plan)
plan_steady plan c = record {
  within = λ s i. i;
  ticked = λ s i. i;
  over = λ s k. k;
  promise = λ s from m p is awaited of promised i. i;
  collecting = λ s is e k. k;
  no_newest = λ s is all none k. k;
  chosen = λ s newest is all some k. k;
  votes = λ s both is i. i;
  entries = λ s is k. k;
  result = λ s d from r is tells i. i;
  next = λ s d n e kind r is found i. i;
  seizing = λ s is e k. k;
  counted = λ s is h k. k;
  others = λ s is ne k. k;
  installs = λ s is k. k;
  ready = λ s from m is at of ready_body i. i;
  own = λ s is at i. i;
  installing = λ s at e k. k;
}

pub plan_stays : PlanStays
plan_stays s c may = call_keeps (HasPlan s.plan) (HasPlan s.plan) s c (plan_steady s.plan c) may refl

is_of_plan : (s : AttemptState) (first : AttemptState) (p members : ℕ) (own : Message) (attached : List AttachedDevice) (cluster : ℕ)
    → s.plan ≡ first.plan → IsOf first p members own attached cluster → IsOf s p members own attached cluster
is_of_plan s first p members own attached cluster same h = record {
  of_epoch = subst (λ x. x.epoch ≡ p) (sym same) h.of_epoch;
  of_coordinator = subst (λ x. x.coordinator ≡ own.sender) (sym same) h.of_coordinator;
  of_members = subst (λ x. x.members ≡ members) (sym same) h.of_members;
  of_nodes = subst (λ x. x.nodes ≡ first.plan.nodes) (sym same) refl ∙ h.of_nodes;
  of_attached = subst (λ x. x.attached ≡ attached) (sym same) h.of_attached;
  of_cluster = subst (λ x. x.cluster ≡ cluster) (sym same) h.of_cluster;
}

pub plan_begins : PlanBegins
unfolding beginning
plan_begins p members own attached cluster =
    let first : AttemptState = first_state p members own attached cluster (promises_of (promised_by own (shown_by own.sender own.body))) in
    is_of_plan (beginning p members own attached cluster).after first p members own attached cluster
    (begun_keeps Tick (HasPlan first.plan) (HasPlan first.plan) (plan_steady first.plan Tick) first refl refl)
    (record { of_epoch = refl; of_coordinator = refl; of_members = refl; of_nodes = refl; of_attached = refl; of_cluster = refl })

-- The newest record.

abbrev Keeps : ℕ → List Promised → AttemptState → Type 0
Keeps newest promises s = IsKnown s.phase × (s.newest ≡ newest) × (s.promises ≡ promises)

newest_steady : (newest : ℕ) (promises : List Promised) (c : Call) → Steady c (Keeps newest promises) (Keeps newest promises)
newest_steady newest promises c = record {
  within = λ s i. i;
  ticked = λ s i. i;
  over = λ s k. (tt, k.1, k.2);
  promise = λ s from m p is awaited of promised i. never IsKnown s.phase Collecting (awaits_collecting s from s.phase awaited) (λ x. x) i.0;
  collecting = λ s is e k. k;
  no_newest = λ s is all none k. k;
  chosen = λ s shown is all some k. never IsKnown s.phase Collecting is (λ x. x) k.0;
  votes = λ s both is i. (tt, i.1, i.2);
  entries = λ s is k. k;
  result = λ s d from r is tells i. i;
  next = λ s d n e kind r is found i. i;
  seizing = λ s is e k. k;
  counted = λ s is h k. k;
  others = λ s is ne k. (tt, k.1, k.2);
  installs = λ s is k. (tt, k.1, k.2);
  ready = λ s from m is at of ready_body i. i;
  own = λ s is at i. i;
  installing = λ s at e k. k;
}

pub newest_stays : NewestStays
newest_stays s c may known =
    let t : Keeps s.newest s.promises (turn s c).after = call_keeps (Keeps s.newest s.promises) (Keeps s.newest s.promises) s c (newest_steady s.newest s.promises c) may (known, refl, refl) in
    (t.1, t.2)

-- The votes.

abbrev IsPastBy : Option BothVotes → AttemptState → Type 0
IsPastBy votes s = IsPast s.phase × (s.votes ≡ votes)

past_steady : (votes : Option BothVotes) (c : Call) → Steady c (IsPastBy votes) (IsPastBy votes)
past_steady votes c = record {
  within = λ s i. i;
  ticked = λ s i. i;
  over = λ s k. (tt, k.1);
  promise = λ s from m p is awaited of promised i. i;
  collecting = λ s is e k. k;
  no_newest = λ s is all none k. k;
  chosen = λ s newest is all some k. never IsPast s.phase Collecting is (λ x. x) k.0;
  votes = λ s both is i. never IsPast s.phase Choosing is (λ x. x) i.0;
  entries = λ s is k. k;
  result = λ s d from r is tells i. i;
  next = λ s d n e kind r is found i. i;
  seizing = λ s is e k. k;
  counted = λ s is h k. k;
  others = λ s is ne k. (tt, k.1);
  installs = λ s is k. (tt, k.1);
  ready = λ s from m is at of ready_body i. i;
  own = λ s is at i. i;
  installing = λ s at e k. k;
}

past_by_call : (s : AttemptState) (c : Call) → May s c → IsPast s.phase → IsPastBy s.votes (turn s c).after
past_by_call s c may past = call_keeps (IsPastBy s.votes) (IsPastBy s.votes) s c (past_steady s.votes c) may (past, refl)

pub votes_stay : VotesStay
votes_stay s c may past = (past_by_call s c may past).1

pub past_stays : PastStays
past_stays s c may past = (past_by_call s c may past).0

-- The install.

abbrev Grants : Install → AttemptState → Type 0
Grants i s = IsFinal s.phase × (install_in s ≡ i)

granted_steady : (granted : Install) (c : Call) → Steady c (Grants granted) (Grants granted)
granted_steady granted c = record {
  within = λ s i. i;
  ticked = λ s i. i;
  over = λ s k. (tt, k.1);
  promise = λ s from m p is awaited of promised i. never IsFinal s.phase Collecting (awaits_collecting s from s.phase awaited) (λ x. x) i.0;
  collecting = λ s is e k. k;
  no_newest = λ s is all none k. k;
  chosen = λ s newest is all some k. never IsFinal s.phase Collecting is (λ x. x) k.0;
  votes = λ s both is i. never IsFinal s.phase Choosing is (λ x. x) i.0;
  entries = λ s is k. never IsFinal s.phase SeizingVotes is (λ x. x) k.0;
  result = λ s d from r is tells i. never_seizing IsFinal s.phase is (λ x. x) (λ x. x) i.0;
  next = λ s d n e kind r is found i. never_seizing IsFinal s.phase is (λ x. x) (λ x. x) i.0;
  seizing = λ s is e k. k;
  counted = λ s is h k. k;
  others = λ s is ne k. never IsFinal s.phase SeizingVotes is (λ x. x) k.0;
  installs = λ s is k. never_seizing IsFinal s.phase is (λ x. x) (λ x. x) k.0;
  ready = λ s from m is at of ready_body i. i;
  own = λ s is at i. i;
  installing = λ s at e k. k;
}

granted_by_call : (s : AttemptState) (c : Call) → May s c → s.phase ≡ Installing → Grants (install_in s) (turn s c).after
granted_by_call s c may is =
    call_keeps (Grants (install_in s)) (Grants (install_in s)) s c (granted_steady (install_in s) c) may (subst IsFinal (sym is) tt, refl)

final_is : (phase : Phase) → IsFinal phase → (phase ≡ Installing) ⊎ (phase ≡ Over)
final_is Installing h = inl refl
final_is Over h = inr refl
final_is Collecting h = absurd h
final_is Choosing h = absurd h
final_is SeizingVotes h = absurd h
final_is SeizingOthers h = absurd h

pub final_stays : FinalStays
final_stays s c may is = final_is (turn s c).after.phase (granted_by_call s c may is).0

pub granted_stays : GrantedStays
granted_stays s c may is = (granted_by_call s c may is).1

pub installs_come_before : InstallsComeBefore
installs_come_before s c i reached may gives = (goes_by_call s c may (chosen_reached s reached)).before i gives

-- An attempt names devices of its cluster alone, after each call, and so do the steps that the call gives.
use Rattle.std.specs.Prelude.{ℕ, ◌≡◌, ◌==◌, ◌&&◌, Bool, true, false, List, [], ◌∷◌, Option, None, Some, IfSome, is_none, find, map, if◌then◌else◌}
use Rattle.std.proofs.Common.{refl, subst}
use Rattle.std.specs.List.{AllByRecursion, filter_map}
use Rattle.cl_base.specs.Seizings.{SeizeResult}
use Rattle.cl_base.specs.Sets.{has, set_with}
use Rattle.seize.specs.declared.kind.SeizeKind.{SeizeKind}
use Rattle.wire.specs.declared.message.Body.{Body}
use Rattle.wire.specs.declared.message.Body.TheVariants as body
use Rattle.wire.specs.declared.message.Message.{Message}
use Rattle.cmm_attempt.specs.declared.attached.AttachedDevice.{AttachedDevice}
use Rattle.cmm_attempt.specs.declared.counting.BothVotes.{BothVotes}
use Rattle.cmm_attempt.specs.declared.phase.Phase.{Phase}
use Rattle.cmm_attempt.specs.declared.phase.Phase.TheVariants.{Collecting, Choosing, SeizingVotes, SeizingOthers, Installing, Over}
use Rattle.cmm_attempt.specs.declared.plan.Plan.{Plan}
use Rattle.cmm_attempt.specs.declared.promised.Promised.{Promised}
use Rattle.cmm_attempt.specs.declared.seizing.Seizing.{Seizing}
use Rattle.cmm_attempt.specs.declared.step.Step.{Step}
use Rattle.cmm_attempt.specs.declared.step.Step.TheVariants as step
use Rattle.cmm_attempt.specs.Attempts.{AttemptState, Turn, again_in, asked_next, beginning, collects, first_state, in_phase, install_in, installing, installs, later, plain_devices, promises_of, silent_others, vote_entries_under}
use Rattle.cmm_attempt.specs.Calls.{Call, Tick, turn}
use Rattle.cmm_attempt.specs.Counts.{is_quorum, vote_new}
use Rattle.cmm_attempt.specs.Plans.{is_reachable, others_of}
use Rattle.cmm_attempt.specs.Promises.{promised_by, shown_by}
use Rattle.cmm_attempt.specs.Seizings.{again_by, again_for, awaits, first_seizer, held_set, is_asked, is_seized, plain_entry, plain_new, request, request_body, request_by, request_for, vote_entry, with_next, with_result}
use Rattle.cmm_attempt.proofs.Basics.{and_cases, if_either, same_number}
use Rattle.attempt_laws.proofs.Sends.{found_entry}
use Rattle.attempt_laws.proofs.Walk.{Walk, walks, walks_begun}
use Rattle.run_history.specs.Names.{AttachedOf, AttemptNames, SeizingOf}
use Rattle.run_history.proofs.Lists.{both, found, more, when_some}

-- a step of an attempt that asks the node itself names such a device
abbrev pub StepNames : (ℕ → Type 0) → Step → Type 0
StepNames D (step.SeizeHere d kind) = D d
StepNames D _ = Unit {0}

abbrev pub AllSteps : (ℕ → Type 0) → List Step → Type 0
AllSteps D steps = AllByRecursion (StepNames D) steps

abbrev AllSeizings : (ℕ → Type 0) → List Seizing → Type 0
AllSeizings D es = AllByRecursion (SeizingOf D) es

-- Seizings.

kept_device : (D : ℕ → Type 0) (e f : Seizing) (b : Bool) → D e.attached.device → D f.attached.device → SeizingOf D (if b then f else e)
kept_device D e f true h k = k
kept_device D e f false h k = h

results_named : (D : ℕ → Type 0) (d : ℕ) (r : SeizeResult) (es : List Seizing) → AllSeizings D es → AllSeizings D (map (with_result d r) es)
results_named D d r [] h = tt
results_named D d r (e ∷ es) h = (kept_device D e (record e { result = Some r }) ((e.attached.device == d) && is_none e.result) h.0 h.0, results_named D d r es h.1)

nexts_named : (D : ℕ → Type 0) (d n : ℕ) (es : List Seizing) → AllSeizings D es → AllSeizings D (map (with_next d n) es)
nexts_named D d n [] h = tt
nexts_named D d n (e ∷ es) h =
    (kept_device D e (record e { seizer = Some n; asked = set_with e.asked n }) ((e.attached.device == d) && is_none e.result) h.0 h.0, nexts_named D d n es h.1)

vote_named : (D : ℕ → Type 0) (a : AttachedDevice) (o : Option ℕ) → D a.device → SeizingOf D (vote_entry a o)
vote_named D a None h = h
vote_named D a (Some n) h = h

votes_named : (D : ℕ → Type 0) (plan : Plan) (promises : List Promised) (votes : BothVotes) (attached : List AttachedDevice) → AllByRecursion (AttachedOf D) attached
    → AllSeizings D (filter_map (vote_new plan promises votes) attached)
votes_named D plan promises votes [] h = tt
votes_named D plan promises votes (a ∷ attached) h =
    more (SeizingOf D) (vote_new plan promises votes a) (filter_map (vote_new plan promises votes) attached)
    (if_either (λ o. IfSome o (SeizingOf D)) (is_quorum votes a.device && is_reachable plan a) (Some (vote_entry a (first_seizer plan promises a))) None
    (vote_named D a (first_seizer plan promises a) h.0) tt)
    (votes_named D plan promises votes attached h.1)

entries_named : (D : ℕ → Type 0) (s : AttemptState) (o : Option BothVotes) → AttemptNames D s → AllSeizings D (vote_entries_under s o)
entries_named D s None h = tt
entries_named D s (Some votes) h = votes_named D s.plan s.promises votes s.plan.attached h.0

plain_named : (D : ℕ → Type 0) (a : AttachedDevice) (o : Option ℕ) → D a.device → IfSome (plain_entry a o) (SeizingOf D)
plain_named D a None h = tt
plain_named D a (Some n) h = h

plains_named : (D : ℕ → Type 0) (plan : Plan) (devices : List Seizing) (attached : List AttachedDevice) → AllByRecursion (AttachedOf D) attached
    → AllSeizings D (filter_map (plain_new plan devices) attached)
plains_named D plan devices [] h = tt
plains_named D plan devices (a ∷ attached) h =
    more (SeizingOf D) (plain_new plan devices a) (filter_map (plain_new plan devices) attached)
    (if_either (λ o. IfSome o (SeizingOf D)) (is_seized devices a.device) None (plain_entry a (find (λ n. has a.nodes n) plan.nodes)) tt
    (plain_named D a (find (λ n. has a.nodes n) plan.nodes) h.0))
    (plains_named D plan devices attached h.1)

-- Steps.

sent_named : (D : ℕ → Type 0) (sender : ℕ) (b : Body) (ns : List ℕ) → AllSteps D (map (λ n. step.Send n (record { sender = sender; body = b })) ns)
sent_named D sender b [] = tt
sent_named D sender b (n ∷ ns) = (tt, sent_named D sender b ns)

request_named : (D : ℕ → Type 0) (plan : Plan) (kind : SeizeKind) (d n : ℕ) → D d → StepNames D (request plan kind d n)
request_named D plan kind d n h =
    if_either (StepNames D) (n == plan.coordinator) (step.SeizeHere d kind) (step.Send n (record { sender = plan.coordinator; body = request_body plan kind d })) h tt

by_request : (D : ℕ → Type 0) (plan : Plan) (e : Seizing) (r : Option SeizeResult) (o : Option ℕ) → D e.attached.device → IfSome (request_by plan e r o) (StepNames D)
by_request D plan e None (Some n) h = request_named D plan e.kind e.attached.device n h
by_request D plan e None None h = tt
by_request D plan e (Some r) o h = tt

by_again : (D : ℕ → Type 0) (plan : Plan) (e : Seizing) (r : Option SeizeResult) (o : Option ℕ) → D e.attached.device → IfSome (again_by plan e r o) (StepNames D)
by_again D plan e None (Some n) h =
    if_either (λ s. IfSome s (StepNames D)) (n == plan.coordinator) None (Some (request plan e.kind e.attached.device n)) tt (request_named D plan e.kind e.attached.device n h)
by_again D plan e None None h = tt
by_again D plan e (Some r) o h = tt

requests_named : (D : ℕ → Type 0) (plan : Plan) (es : List Seizing) → AllSeizings D es → AllSteps D (filter_map (request_for plan) es)
requests_named D plan [] h = tt
requests_named D plan (e ∷ es) h =
    more (StepNames D) (request_for plan e) (filter_map (request_for plan) es) (by_request D plan e e.result e.seizer h.0) (requests_named D plan es h.1)

agains_named : (D : ℕ → Type 0) (plan : Plan) (es : List Seizing) → AllSeizings D es → AllSteps D (filter_map (again_for plan) es)
agains_named D plan [] h = tt
agains_named D plan (e ∷ es) h =
    more (StepNames D) (again_for plan e) (filter_map (again_for plan) es) (by_again D plan e e.result e.seizer h.0) (agains_named D plan es h.1)

collects_named : (D : ℕ → Type 0) (s : AttemptState) → AllSteps D (collects s)
collects_named D s = sent_named D s.plan.coordinator (body.Collect s.plan.epoch s.plan.members) (silent_others s)

installs_named : (D : ℕ → Type 0) (s : AttemptState) → AllSteps D (installs s)
installs_named D s = sent_named D s.plan.coordinator (body.Install (install_in s)) (silent_others s)

again_named : (D : ℕ → Type 0) (s : AttemptState) (phase : Phase) → AttemptNames D s → AllSteps D (again_in s phase)
again_named D s Collecting h = collects_named D s
again_named D s Choosing h = tt
again_named D s SeizingVotes h = agains_named D s.plan s.devices h.1
again_named D s SeizingOthers h = agains_named D s.plan s.devices h.1
again_named D s Installing h = installs_named D s
again_named D s Over h = tt

-- the device whose answer was awaited
awaited_named : (D : ℕ → Type 0) (d from : ℕ) (es : List Seizing) (e : Seizing) → find (awaits d from) es ≡ Some e → AllSeizings D es → D d
awaited_named D d from es e at h =
    let is : awaits d from e ≡ true = (found_entry (awaits d from) es e at).0 in
    let here : ((e.attached.device == d) && is_none e.result) ≡ true = (and_cases ((e.attached.device == d) && is_none e.result) (is_asked e.seizer from) is).0 in
    subst D (same_number e.attached.device d (and_cases (e.attached.device == d) (is_none e.result) here).0)
    (when_some (SeizingOf D) (find (awaits d from) es) e (found (SeizingOf D) (awaits d from) es h) at)

-- The walk over the calls.

abbrev Good : (ℕ → Type 0) → Turn → Type 0
Good D u = AttemptNames D u.after × AllSteps D u.steps

named_walk : (D : ℕ → Type 0) (c : Call) → Walk c (AttemptNames D) (AttemptNames D) (Good D)
unfolding asked_next installing
named_walk D c = record {
  within = λ s i. i;
  rests = λ s i. (i, tt);
  passes = λ s is e i. (i, tt);
  again = λ s is e i. (i, again_named D (record s { ticks = later s.ticks }) s.phase i);
  silent = λ s n is late least i. (i, (tt, tt));
  superseded = λ s from m q is nack i. (i, (tt, tt));
  promise = λ s from m p is awaited of promised i. i;
  collects = λ s is e k. (k, collects_named D s);
  collecting = λ s is e k. (k, tt);
  no_newest = λ s is all none k. (k, tt);
  chosen = λ s newest is all some k. (k, (tt, tt));
  votes = λ s both_votes is i. (i.0, tt);
  foreign = λ s both_votes n is given least k. (k, (tt, tt));
  excluded = λ s n is least k. (k, (tt, tt));
  impossible = λ s e is short k. (k, (tt, tt));
  entries = λ s is enough k. (k.0, entries_named D s s.votes k);
  requests = λ s is e k. (k, requests_named D s.plan s.devices k.1);
  result = λ s d from r e is tells at none i. (i.0, results_named D d r s.devices i.1);
  next = λ s d from n r e is tells at next i.
      ((i.0, nexts_named D d n s.devices i.1), (request_named D s.plan e.kind d n (awaited_named D d from s.devices e at i.1), tt));
  seizing = λ s is e k. (k, tt);
  short = λ s e is all few k. (k, (tt, tt));
  others = λ s is all enough some k.
      let new : AllSeizings D (plain_devices s) = plains_named D s.plan s.devices s.plan.attached k.0 in
      ((k.0, both (SeizingOf D) s.devices (plain_devices s) k.1 new), requests_named D s.plan (plain_devices s) new);
  installs_at_once = λ s is all enough none k. (k, (tt, installs_named D (in_phase (record s { counted = held_set s.devices }) Installing)));
  installs = λ s is all k. (k, (tt, installs_named D (in_phase s Installing)));
  ready = λ s from m is at of ready_body i. i;
  own = λ s is at i. i;
  installing = λ s at e k. (k, tt);
  starts = λ s at e k. (k, (tt, sent_named D s.plan.coordinator (body.Start s.plan.epoch) (others_of s.plan)));
}

pub turn_names : (D : ℕ → Type 0) (a : AttemptState) (k : Call) → AttemptNames D a → AttemptNames D (turn a k).after × AllSteps D (turn a k).steps
turn_names D a k h = walks (AttemptNames D) (AttemptNames D) (Good D) a k (named_walk D k) h

pub begun_names : (D : ℕ → Type 0) (p members : ℕ) (own : Message) (attached : List AttachedDevice) (cluster : ℕ) → AllByRecursion (AttachedOf D) attached
    → AttemptNames D (beginning p members own attached cluster).after × AllSteps D (beginning p members own attached cluster).steps
unfolding beginning
begun_names D p members own attached cluster h =
    walks_begun Tick (AttemptNames D) (AttemptNames D) (Good D) (named_walk D Tick)
    (first_state p members own attached cluster (promises_of (promised_by own (shown_by own.sender own.body)))) refl (h, tt)

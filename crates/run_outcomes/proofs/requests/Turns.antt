-- The requests, Collects and Installs among the steps of an attempt are of it, and go to other nodes than its coordinator.
use Rattle.std.specs.Prelude.{ℕ, ◌==◌, ◌&&◌, ◌≡◌, ◌≢◌, Bool, true, false, not, List, [], ◌∷◌, Option, None, Some, map, filter, if◌then◌else◌}
use Rattle.std.proofs.Common.{arith, refl, ap, subst, ◌∙◌}
use Rattle.std.specs.List.{cons_option, filter_map}
use Rattle.attempt_laws.proofs.Stays.{plan_begins}
use Rattle.attempt_laws.proofs.Walk.{Walk, if_with, walks, walks_begun}
use Rattle.cl_base.specs.Seizings.{SeizeResult}
use Rattle.cmm_attempt.proofs.Basics.{if_either}
use Rattle.cmm_attempt.specs.Attempts.{AttemptState, again_in, asked_next, beginning, begun, first_state, in_phase, install_in, installing, is_missing, later, plain_devices, promises_of, silent_others}
use Rattle.cmm_attempt.specs.Calls.{Call, Tick, turn}
use Rattle.cmm_attempt.specs.Installs.{send_to}
use Rattle.cmm_attempt.specs.Plans.{others_of}
use Rattle.cmm_attempt.specs.Promises.{promised_by, shown_by}
use Rattle.cmm_attempt.specs.Seizings.{again_by, again_for, held_set, request, request_body, request_by, request_for}
use Rattle.cmm_attempt.specs.declared.phase.Phase.{Phase}
use Rattle.cmm_attempt.specs.declared.phase.Phase.TheVariants.{Choosing, Collecting, Installing, Over, SeizingOthers, SeizingVotes}
use Rattle.cmm_attempt.specs.declared.plan.Plan.{Plan}
use Rattle.cmm_attempt.specs.declared.seizing.Seizing.{Seizing}
use Rattle.cmm_attempt.specs.declared.step.Step.{Step}
use Rattle.cmm_attempt.specs.declared.step.Step.TheVariants as step
use Rattle.node_model.specs.Attempts.{promise_of}
use Rattle.node_model.specs.Seats.{promising}
use Rattle.node_model.specs.declared.cluster.Cluster.{Cluster}
use Rattle.node_model.specs.declared.node.UpNode.{UpNode}
use Rattle.refinement.specs.Cuts.{first_turn}
use Rattle.seize.specs.declared.kind.SeizeKind.{SeizeKind}
use Rattle.seize.specs.declared.kind.SeizeKind.TheVariants.{Plain, Vote}
use Rattle.wire.specs.declared.message.Body.{Body}
use Rattle.wire.specs.declared.message.Body.TheVariants as body
use Rattle.wire.specs.declared.message.Message.{Message}
use Rattle.run_outcomes.specs.reports.Requests.{IsFrom, IsNoRequest, StepFrom, StepsFrom, Tried, TurnFrom, tried_by}

differs : (a b : ℕ) → (a == b) ≡ false → a ≢ b
differs a b h e = grind (arith, h, e)

-- ---- requests

abbrev of_plan : Plan → Tried
of_plan plan = record { epoch = plan.epoch; coordinator = plan.coordinator }

body_from : (plan : Plan) (kind : SeizeKind) (d n : ℕ) → n ≢ plan.coordinator → IsFrom (of_plan plan) n (request_body plan kind d)
body_from plan Vote d n ne = (refl, ne)
body_from plan Plain d n ne = (refl, ne)

request_from : (plan : Plan) (kind : SeizeKind) (d n : ℕ) → StepFrom (of_plan plan) (request plan kind d n)
request_from plan kind d n =
    if_with (StepFrom (of_plan plan)) (n == plan.coordinator) (n == plan.coordinator) (step.SeizeHere d kind)
    (step.Send n (record { sender = plan.coordinator; body = request_body plan kind d })) refl (λ is. tt) (λ off. body_from plan kind d n (differs n plan.coordinator off))

abbrev Maybe : Tried → Option Step → Type 0
Maybe t None = Unit {0}
Maybe t (Some x) = StepFrom t x

with_option : (t : Tried) (o : Option Step) (steps : List Step) → Maybe t o → StepsFrom t steps → StepsFrom t (cons_option o steps)
with_option t None steps h rest = rest
with_option t (Some x) steps h rest = (h, rest)

by_request : (plan : Plan) (e : Seizing) (r : Option SeizeResult) (o : Option ℕ) → Maybe (of_plan plan) (request_by plan e r o)
by_request plan e None (Some n) = request_from plan e.kind e.attached.device n
by_request plan e None None = tt
by_request plan e (Some r) o = tt

requests_from : (plan : Plan) (es : List Seizing) → StepsFrom (of_plan plan) (filter_map (request_for plan) es)
requests_from plan [] = tt
requests_from plan (e ∷ es) = with_option (of_plan plan) (request_for plan e) (filter_map (request_for plan) es) (by_request plan e e.result e.seizer) (requests_from plan es)

by_again : (plan : Plan) (e : Seizing) (r : Option SeizeResult) (o : Option ℕ) → Maybe (of_plan plan) (again_by plan e r o)
by_again plan e None (Some n) =
    if_either (Maybe (of_plan plan)) (n == plan.coordinator) None (Some (request plan e.kind e.attached.device n)) tt (request_from plan e.kind e.attached.device n)
by_again plan e None None = tt
by_again plan e (Some r) o = tt

again_from : (plan : Plan) (es : List Seizing) → StepsFrom (of_plan plan) (filter_map (again_for plan) es)
again_from plan [] = tt
again_from plan (e ∷ es) = with_option (of_plan plan) (again_for plan e) (filter_map (again_for plan) es) (by_again plan e e.result e.seizer) (again_from plan es)

-- ---- messages to the other members

pub no_request : (t : Tried) (n : ℕ) (b : Body) → IsNoRequest b → IsFrom t n b
no_request t n (body.Collect e members) h = absurd h
no_request t n (body.SeizeQuorum e members d) h = absurd h
no_request t n (body.SeizeData e members d) h = absurd h
no_request t n (body.Install i) h = absurd h
no_request t n _ h = tt

sent_from : (t : Tried) (plan : Plan) (b : Body) (ns : List ℕ) → IsNoRequest b → StepsFrom t (map (send_to plan b) ns)
sent_from t plan b [] h = tt
sent_from t plan b (n ∷ ns) h = (no_request t n b h, sent_from t plan b ns h)

among_others : (a c : Bool) → (not a && c) ≡ true → a ≡ false
among_others a c is = grind (arith, is)

-- to others alone
others_from : (plan : Plan) (f : ℕ → Bool) (b : Body) → ((n : ℕ) → n ≢ plan.coordinator → IsFrom (of_plan plan) n b) → (ns : List ℕ)
    → StepsFrom (of_plan plan) (map (send_to plan b) (filter (λ n. not (n == plan.coordinator) && f n) ns))
others_from plan f b each [] = tt
others_from plan f b each (n ∷ ns) = by_test (not (n == plan.coordinator) && f n) refl (others_from plan f b each ns)
  where
    rest : List ℕ
    rest = filter (λ k. not (k == plan.coordinator) && f k) ns

    by_test : (t : Bool) → (not (n == plan.coordinator) && f n) ≡ t → StepsFrom (of_plan plan) (map (send_to plan b) rest) → StepsFrom (of_plan plan) (map (send_to plan b) (if t then n ∷ rest else rest))
    by_test true is more = (each n (differs n plan.coordinator (among_others (n == plan.coordinator) (f n) is)), more)
    by_test false is more = more

installs_from : (t : AttemptState) → StepsFrom (tried_by t) (map (send_to t.plan (body.Install (install_in t))) (silent_others t))
installs_from t = others_from t.plan (is_missing t) (body.Install (install_in t)) (λ n ne. ne) t.plan.nodes

collects_from : (t : AttemptState) → StepsFrom (tried_by t) (map (send_to t.plan (body.Collect t.plan.epoch t.plan.members)) (silent_others t))
collects_from t = others_from t.plan (is_missing t) (body.Collect t.plan.epoch t.plan.members) (λ n ne. ne) t.plan.nodes

all_again : (t : AttemptState) (phase : Phase) → StepsFrom (tried_by t) (again_in t phase)
all_again t Collecting = collects_from t
all_again t Choosing = tt
all_again t SeizingVotes = again_from t.plan t.devices
all_again t SeizingOthers = again_from t.plan t.devices
all_again t Installing = installs_from t
all_again t Over = tt

-- ---- each turn

abbrev Any : AttemptState → Type 0
Any s = Unit {0}

walk_from : (c : Call) → Walk c Any Any TurnFrom
unfolding asked_next installing
walk_from c = record {
  within = λ s i. tt;
  rests = λ s i. tt;
  passes = λ s is e i. tt;
  again = λ s is e i. all_again (record s { ticks = later s.ticks }) s.phase;
  silent = λ s n is late least i. (tt, tt);
  superseded = λ s from m q is nack i. (tt, tt);
  promise = λ s from m p is awaited of promised i. tt;
  collects = λ s is e k. collects_from s;
  collecting = λ s is e k. tt;
  no_newest = λ s is all none k. tt;
  chosen = λ s newest is all some k. (tt, tt);
  votes = λ s both is i. tt;
  foreign = λ s both n is given least k. (tt, tt);
  excluded = λ s n is least k. (tt, tt);
  impossible = λ s e is short k. (tt, tt);
  entries = λ s is enough k. tt;
  requests = λ s is e k. requests_from s.plan s.devices;
  result = λ s d from r e is tells found none i. tt;
  next = λ s d from n r e is tells found next i. (request_from s.plan e.kind d n, tt);
  seizing = λ s is e k. tt;
  short = λ s e is all few k. (tt, tt);
  others = λ s is all enough some k. requests_from s.plan (plain_devices s);
  installs_at_once = λ s is all enough none k. (tt, installs_from (in_phase (record s { counted = held_set s.devices }) Installing));
  installs = λ s is all k. (tt, installs_from (in_phase s Installing));
  ready = λ s from m is at of ready_body i. tt;
  own = λ s is at i. tt;
  installing = λ s at e k. tt;
  starts = λ s at e k. (tt, sent_from (tried_by s) s.plan (body.Start s.plan.epoch) (others_of s.plan) tt);
}

pub turn_from : (a : AttemptState) (k : Call) → TurnFrom (turn a k)
turn_from a k = walks Any Any TurnFrom a k (walk_from k) tt

-- .. and of its first
begun_from : (s : AttemptState) → s.phase ≡ Collecting → TurnFrom (begun s)
begun_from s is = walks_begun Tick Any Any TurnFrom (walk_from Tick) s is tt

abbrev tried_at : ℕ → ℕ → Tried
tried_at p n = record { epoch = p; coordinator = n }

pub first_from : (c : Cluster) (me : ℕ) (x : UpNode) (p members : ℕ) → StepsFrom (record { epoch = p; coordinator = me }) (first_turn c me x p members).steps
unfolding beginning
first_from c me x p members = subst (λ t. StepsFrom t (first_turn c me x p members).steps) same (begun_from first refl)
  where
    own : Message
    own = record { sender = me; body = promise_of (record (promising x p) { greatest = p }) p }

    first : AttemptState
    first = first_state p members own c.attached c.id (promises_of (promised_by own (shown_by own.sender own.body)))

    same : tried_by (first_turn c me x p members).after ≡ tried_at p me
    same =
        ap (λ e. tried_at e (first_turn c me x p members).after.plan.coordinator) (plan_begins p members own c.attached c.id).of_epoch
        ∙ ap (tried_at p) (plan_begins p members own c.attached c.id).of_coordinator

-- Among the steps of a call there are Collects alone, each to a member, or no Collect; and no Promise.
use Rattle.std.specs.Prelude.{ℕ, ◌≡◌, ◌⊎◌, ◌||◌, Bool, true, false, if◌then◌else◌, List, [], ◌∷◌, Option, None, Some, filter, map, ◌==◌}
use Rattle.std.proofs.Common.{refl, arith, inl, inr}
use Rattle.std.specs.List.{AllByRecursion, cons_option, filter_map, list_any}
use Rattle.cl_base.specs.Seizings.{SeizeResult}
use Rattle.seize.specs.declared.kind.SeizeKind.{SeizeKind}
use Rattle.seize.specs.declared.kind.SeizeKind.TheVariants.{Vote, Plain}
use Rattle.wire.specs.declared.message.Body.{Body}
use Rattle.wire.specs.declared.message.Body.TheVariants as body
use Rattle.wire.specs.declared.message.Message.{Message}
use Rattle.cmm_attempt.specs.declared.attached.AttachedDevice.{AttachedDevice}
use Rattle.cmm_attempt.specs.declared.phase.Phase.{Phase}
use Rattle.cmm_attempt.specs.declared.phase.Phase.TheVariants.{Collecting, Choosing, SeizingVotes, SeizingOthers, Installing, Over}
use Rattle.cmm_attempt.specs.declared.plan.Plan.{Plan}
use Rattle.cmm_attempt.specs.declared.promised.Shown.{Shown}
use Rattle.cmm_attempt.specs.declared.seizing.Seizing.{Seizing}
use Rattle.cmm_attempt.specs.declared.step.Step.{Step}
use Rattle.cmm_attempt.specs.declared.step.Step.TheVariants.{Send, SeizeHere}
use Rattle.cmm_attempt.specs.Attempts.{AttemptState, Turn, again_in, all_promised, asked_next, beginning, begun, choosing, chosen_by, collects, first_state, in_phase, installing, install_in, later, plain_devices, promises_of, silent_others, with_steps}
use Rattle.cmm_attempt.specs.Calls.{Call, turn}
use Rattle.cmm_attempt.specs.Plans.{others_of}
use Rattle.cmm_attempt.specs.Promises.{newest_shown, promised_by, shown_by}
use Rattle.cmm_attempt.specs.Seizings.{again_by, again_for, held_set, request, request_body, request_by, request_for}
use Rattle.cmm_attempt.proofs.Basics.{if_either}
use Rattle.attempt_laws.proofs.Walk.{Walk, walks}
use Rattle.run_messages.specs.records.Answers.{AreCollects, AskNothing, IsNoAsking}

-- ---- nothing is asked

nothing_sent : (sender : ℕ) (b : Body) (ns : List ℕ) → IsNoAsking b → AskNothing (map (λ n. Send n (record { sender = sender; body = b })) ns)
nothing_sent sender b [] h = tt
nothing_sent sender b (n ∷ ns) h = (h, nothing_sent sender b ns h)

abbrev NothingBy : Option Step → Type 0
NothingBy None = Unit {0}
NothingBy (Some s) = (steps : List Step) → AskNothing steps → AskNothing (s ∷ steps)

with_nothing : (o : Option Step) (steps : List Step) → NothingBy o → AskNothing steps → AskNothing (cons_option o steps)
with_nothing None steps h k = k
with_nothing (Some s) steps h k = h steps k

request_body_asks : (plan : Plan) (kind : SeizeKind) (d : ℕ) → IsNoAsking (request_body plan kind d)
request_body_asks plan Vote d = tt
request_body_asks plan Plain d = tt

request_asks : (plan : Plan) (kind : SeizeKind) (d n : ℕ) → NothingBy (Some (request plan kind d n))
request_asks plan kind d n steps k =
    if_either (λ s. AskNothing (s ∷ steps)) (n == plan.coordinator) (SeizeHere d kind) (Send n (record { sender = plan.coordinator; body = request_body plan kind d })) k (request_body_asks plan kind d, k)

request_by_asks : (plan : Plan) (e : Seizing) (r : Option SeizeResult) (o : Option ℕ) → NothingBy (request_by plan e r o)
request_by_asks plan e None (Some n) = request_asks plan e.kind e.attached.device n
request_by_asks plan e None None = tt
request_by_asks plan e (Some r) o = tt

requests_ask : (plan : Plan) (es : List Seizing) → AskNothing (filter_map (request_for plan) es)
requests_ask plan [] = tt
requests_ask plan (e ∷ es) = with_nothing (request_for plan e) (filter_map (request_for plan) es) (request_by_asks plan e e.result e.seizer) (requests_ask plan es)

again_by_asks : (plan : Plan) (e : Seizing) (r : Option SeizeResult) (o : Option ℕ) → NothingBy (again_by plan e r o)
again_by_asks plan e None (Some n) =
    if_either NothingBy (n == plan.coordinator) None (Some (request plan e.kind e.attached.device n)) tt (request_asks plan e.kind e.attached.device n)
again_by_asks plan e None None = tt
again_by_asks plan e (Some r) o = tt

again_asks : (plan : Plan) (es : List Seizing) → AskNothing (filter_map (again_for plan) es)
again_asks plan [] = tt
again_asks plan (e ∷ es) = with_nothing (again_for plan e) (filter_map (again_for plan) es) (again_by_asks plan e e.result e.seizer) (again_asks plan es)

-- ---- Collects go to members

abbrev AreWithin : List ℕ → List ℕ → Type 0
AreWithin nodes ns = AllByRecursion (λ n. list_any (λ k. k == n) nodes ≡ true) ns

collects_ask : (t : AttemptState) (sender : ℕ) (p members : ℕ) (ns : List ℕ) → AreWithin t.plan.nodes ns → AreCollects (Some t) (map (λ n. Send n (record { sender = sender; body = body.Collect p members })) ns)
collects_ask t sender p members [] h = tt
collects_ask t sender p members (n ∷ ns) h = (h.0, collects_ask t sender p members ns h.1)

self_number : (n : ℕ) → (n == n) ≡ true
self_number n = grind arith

or_left : (a b : Bool) → a ≡ true → (a || b) ≡ true
or_left true b h = refl
or_left false b h = absurd (false_is h)
  where
    false_is : false ≡ true → ⊥
    false_is e = cc

or_right : (a b : Bool) → b ≡ true → (a || b) ≡ true
or_right true b h = refl
or_right false b h = h

within_more : (m : ℕ) (nodes ns : List ℕ) → AreWithin nodes ns → AreWithin (m ∷ nodes) ns
within_more m nodes [] h = tt
within_more m nodes (n ∷ ns) h = (or_right (m == n) _ h.0, within_more m nodes ns h.1)

all_within : (test : ℕ → Bool) (nodes : List ℕ) → AreWithin nodes (filter test nodes)
all_within test [] = tt
all_within test (n ∷ nodes) = by_test (test n) (within_more n nodes (filter test nodes) (all_within test nodes))
  where
    by_test : (b : Bool) → AreWithin (n ∷ nodes) (filter test nodes) → AreWithin (n ∷ nodes) (if b then n ∷ filter test nodes else filter test nodes)
    by_test true h = (or_left (n == n) _ (self_number n), h)
    by_test false h = h

collects_of : (t : AttemptState) → AreCollects (Some t) (collects t)
collects_of t = collects_ask t t.plan.coordinator t.plan.epoch t.plan.members (silent_others t) (all_within _ t.plan.nodes)

-- ---- each call

abbrev Asks : Turn → Type 0
Asks t = AskNothing t.steps ⊎ AreCollects (Some t.after) t.steps

repeats_ask : (t : AttemptState) (phase : Phase) → AskNothing (again_in t phase) ⊎ AreCollects (Some t) (again_in t phase)
repeats_ask t Collecting = inr (collects_of t)
repeats_ask t Choosing = inl tt
repeats_ask t SeizingVotes = inl (again_asks t.plan t.devices)
repeats_ask t SeizingOthers = inl (again_asks t.plan t.devices)
repeats_ask t Installing = inl (nothing_sent t.plan.coordinator (body.Install (install_in t)) (silent_others t) tt)
repeats_ask t Over = inl tt

abbrev Any : AttemptState → Type 0
Any s = Unit {0}

installing_asks : (s : AttemptState) → Asks (installing s)
unfolding installing
installing_asks s =
    let t : AttemptState = in_phase s Installing in
    inl (nothing_sent t.plan.coordinator (body.Install (install_in t)) (silent_others t) tt)

walk : (c : Call) → Walk c Any Any Asks
unfolding asked_next
walk c = record {
  within = λ s i. tt;
  rests = λ s i. inl tt;
  passes = λ s is e i. inl tt;
  again = λ s is e i. repeats_ask (record s { ticks = later s.ticks }) s.phase;
  silent = λ s n is late least i. inl tt;
  superseded = λ s from m q is nack i. inl tt;
  promise = λ s from m p is awaited of promised i. tt;
  collects = λ s is e k. inr (collects_of s);
  collecting = λ s is e k. inl tt;
  no_newest = λ s is all none k. inl tt;
  chosen = λ s newest is all some k. inl tt;
  votes = λ s both is i. tt;
  foreign = λ s both n is given least k. inl tt;
  excluded = λ s n is least k. inl tt;
  impossible = λ s e is short k. inl tt;
  entries = λ s is enough k. tt;
  requests = λ s is e k. inl (requests_ask s.plan s.devices);
  result = λ s d from r e is tells found none i. tt;
  next = λ s d from n r e is tells found next i. inl (request_asks s.plan e.kind d n [] tt);
  seizing = λ s is e k. inl tt;
  short = λ s e is all few k. inl tt;
  others = λ s is all enough some k. inl (requests_ask s.plan (plain_devices s));
  installs_at_once = λ s is all enough none k. installing_asks (record s { counted = held_set s.devices });
  installs = λ s is all k. installing_asks s;
  ready = λ s from m is here of ready_body i. tt;
  own = λ s is here i. tt;
  installing = λ s here e k. inl tt;
  starts = λ s here e k. inl (nothing_sent s.plan.coordinator (body.Start s.plan.epoch) (others_of s.plan) tt);
}

pub turn_asks : (s : AttemptState) (c : Call) → AskNothing (turn s c).steps ⊎ AreCollects (Some (turn s c).after) (turn s c).steps
turn_asks s c = walks Any Any Asks s c (walk c) tt

-- ---- at its beginning

chosen_asks : (s : AttemptState) (o : Option Shown) → Asks (chosen_by s o)
chosen_asks s None = inl tt
chosen_asks s (Some newest) = inl tt

begun_asks : (s : AttemptState) → Asks (begun s)
unfolding choosing
begun_asks s = if_either Asks (all_promised s) (choosing s) (with_steps s (collects s)) (chosen_asks s (newest_shown s.promises)) (inr (collects_of s))

pub first_asks : (p members : ℕ) (own : Message) (attached : List AttachedDevice) (cluster : ℕ)
    → AskNothing (beginning p members own attached cluster).steps ⊎ AreCollects (Some (beginning p members own attached cluster).after) (beginning p members own attached cluster).steps
unfolding beginning
first_asks p members own attached cluster = begun_asks (first_state p members own attached cluster (promises_of (promised_by own (shown_by own.sender own.body))))

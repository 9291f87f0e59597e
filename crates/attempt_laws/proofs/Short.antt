-- Where all that was taken is short, so is every message.
use Rattle.std.proofs.Common.{◌≡◌, ℕ, ◌<◌, ◌≤◌, ◌^◌, List, [], ◌∷◌, length, map, suc, refl, sym, ap, subst, arith}
use Rattle.std.specs.Prelude.{All, ◌==◌, ◌&&◌, Bool, true, false, Option, Some, None, is_none, IfSome, if◌then◌else◌}
use Rattle.std.specs.List.{find, filter_map, cons_option, AllByRecursion}
use Rattle.std.proofs.lemmas.List.Elements.{All-nil, All-cons, All-head, All-tail, All-append}
use Rattle.cl_base.specs.Sets.{has, set_with}
use Rattle.cl_base.specs.Seizings.{SeizeResult}
use Rattle.cl_base.specs.declared.seizing.SeizeEnd.TheVariants.{Held, NotRegistered, Greater, Expelled, Contended, Fault}
use Rattle.seize.specs.declared.kind.SeizeKind.{SeizeKind}
use Rattle.seize.specs.declared.kind.SeizeKind.TheVariants.{Vote, Plain}
use Rattle.wire.specs.Spelling.{IsShort, IsShortResult, IsShortReading, IsShortList, IsShortText}
use Rattle.wire.specs.declared.lists.Reading.{Reading}
use Rattle.wire.specs.declared.message.Body.{Body}
use Rattle.wire.specs.declared.message.Body.TheVariants as body
use Rattle.wire.specs.declared.message.Message.{Message}
use Rattle.cmm_attempt.specs.declared.attached.AttachedDevice.{AttachedDevice}
use Rattle.cmm_attempt.specs.declared.counting.BothVotes.{BothVotes}
use Rattle.cmm_attempt.specs.declared.plan.Plan.{Plan}
use Rattle.cmm_attempt.specs.declared.promised.Promised.{Promised}
use Rattle.cmm_attempt.specs.declared.seizing.Seizing.{Seizing}
use Rattle.cmm_attempt.specs.declared.step.Step.TheVariants.{Send, SeizeHere}
use Rattle.cmm_attempt.specs.Plans.{is_reachable}
use Rattle.cmm_attempt.specs.Promises.{is_from, promised_by, shown_by}
use Rattle.cmm_attempt.specs.Seizings.{is_seized, first_seizer, vote_entry, plain_entry, plain_new, reading_by, reading_in, reading_of, request_body, with_next, with_result}
use Rattle.cmm_attempt.specs.Counts.{is_quorum, vote_new}
use Rattle.cmm_attempt.specs.Installs.{committed_in, pending_in, install_by}
use Rattle.cmm_attempt.specs.Attempts.{AttemptState, first_state, install_in, plain_devices, promises_of, vote_entries_under, beginning}
use Rattle.cmm_attempt.specs.Calls.{Call, Take, With_votes, Own_seized, Own_ready, Tick}
use Rattle.cmm_attempt.proofs.Basics.{none_some, same_some, if_either}
use Rattle.attempt_laws.specs.Sending.{HasShort, IsShortMaybe, IsShortStep, TakesShort, SendsAreShort, FirstSendsAreShort}
use Rattle.attempt_laws.proofs.Sends.{Steps, call_sends, first_sends}
use Rattle.attempt_laws.proofs.Steady.{Steady}
use Rattle.attempt_laws.proofs.Walk.{TellsResult}

abbrev HasShortBody : Promised → Type 0
HasShortBody p = IsShort p.message.body

abbrev HasShortResult : Seizing → Type 0
HasShortResult e = IsShortMaybe e.result

few_none : 0 < 2 ^ 16
few_none = omega arith

-- Promises.

same_message : (m : Message) (n : ℕ) (b : Body) (p : Promised) → promised_by m (shown_by n b) ≡ Some p → p.message ≡ m
same_message m n (body.Promise epoch installed members valid flagged committed pending) p h = sym (ap (λ x. x.message) (same_some _ p h))
same_message m n _ p h = absurd (none_some p h)

short_promise : (m : Message) (n : ℕ) (p : Promised) → promised_by m (shown_by n m.body) ≡ Some p → IsShort m.body → HasShortBody p
short_promise m n p h short = subst (λ x. IsShort x.body) (sym (same_message m n m.body p h)) short

-- Results.

short_told : (c : Call) (s : AttemptState) (d from : ℕ) (r : SeizeResult) → TakesShort c → TellsResult c s d from r → IsShortResult r
short_told (Take n m) s d from r short tells = subst IsShort tells.1 short
short_told (Own_seized device told) s d from r short tells = subst IsShortResult tells.1 short
short_told (With_votes both) s d from r short tells = absurd tells
short_told Own_ready s d from r short tells = absurd tells
short_told Tick s d from r short tells = absurd tells

with_result_short : (r : SeizeResult) → IsShortResult r → (e : Seizing) (b : Bool) → HasShortResult e → HasShortResult (if b then record e { result = Some r } else e)
with_result_short r short e true h = short
with_result_short r short e false h = h

results_short : (d : ℕ) (r : SeizeResult) → IsShortResult r → (es : List Seizing) → All HasShortResult es → All HasShortResult (map (with_result d r) es)
results_short d r short [] h = All-nil HasShortResult
results_short d r short (e ∷ es) h =
    All-cons HasShortResult (with_result d r e) (map (with_result d r) es)
    (with_result_short r short e ((e.attached.device == d) && is_none e.result) (All-head HasShortResult e es h)) (results_short d r short es (All-tail HasShortResult e es h))

with_next_short : (n : ℕ) (e : Seizing) (b : Bool) → HasShortResult e → HasShortResult (if b then record e { seizer = Some n; asked = set_with e.asked n } else e)
with_next_short n e true h = h
with_next_short n e false h = h

next_short : (d n : ℕ) (es : List Seizing) → All HasShortResult es → All HasShortResult (map (with_next d n) es)
next_short d n [] h = All-nil HasShortResult
next_short d n (e ∷ es) h =
    All-cons HasShortResult (with_next d n e) (map (with_next d n) es) (with_next_short n e ((e.attached.device == d) && is_none e.result) (All-head HasShortResult e es h))
    (next_short d n es (All-tail HasShortResult e es h))

abbrev ShortMaybe : Option Seizing → Type 0
ShortMaybe None = Unit {0}
ShortMaybe (Some e) = HasShortResult e

with_option : (o : Option Seizing) (es : List Seizing) → ShortMaybe o → All HasShortResult es → All HasShortResult (cons_option o es)
with_option None es q h = h
with_option (Some e) es q h = All-cons HasShortResult e es q h

vote_short : (a : AttachedDevice) (o : Option ℕ) → HasShortResult (vote_entry a o)
vote_short a None = few_none
vote_short a (Some n) = tt

votes_short : (plan : Plan) (promises : List Promised) (both : BothVotes) (attached : List AttachedDevice) → All HasShortResult (filter_map (vote_new plan promises both) attached)
votes_short plan promises both [] = All-nil HasShortResult
votes_short plan promises both (a ∷ attached) =
    with_option (vote_new plan promises both a) (filter_map (vote_new plan promises both) attached)
    (if_either ShortMaybe (is_quorum both a.device && is_reachable plan a) (Some (vote_entry a (first_seizer plan promises a))) None (vote_short a (first_seizer plan promises a)) tt)
    (votes_short plan promises both attached)

entries_short : (s : AttemptState) (o : Option BothVotes) → All HasShortResult (vote_entries_under s o)
entries_short s None = All-nil HasShortResult
entries_short s (Some both) = votes_short s.plan s.promises both s.plan.attached

plain_short_by : (a : AttachedDevice) (o : Option ℕ) → ShortMaybe (plain_entry a o)
plain_short_by a None = tt
plain_short_by a (Some n) = tt

plain_short : (plan : Plan) (devices : List Seizing) (attached : List AttachedDevice) → All HasShortResult (filter_map (plain_new plan devices) attached)
plain_short plan devices [] = All-nil HasShortResult
plain_short plan devices (a ∷ attached) =
    with_option (plain_new plan devices a) (filter_map (plain_new plan devices) attached)
    (if_either ShortMaybe (is_seized devices a.device) None (plain_entry a (find (λ n. has a.nodes n) plan.nodes)) tt (plain_short_by a (find (λ n. has a.nodes n) plan.nodes)))
    (plain_short plan devices attached)

steady : (c : Call) → TakesShort c → Steady c HasShort HasShort
steady c short = record {
  within = λ s i. i;
  ticked = λ s i. i;
  over = λ s k. k;
  promise = λ s from m p is awaited of promised i. (
    All-append HasShortBody s.promises (p ∷ []) i.0 (All-cons HasShortBody p [] (short_promise m from p promised (subst TakesShort is short)) (All-nil HasShortBody)),
    i.1,
    i.2,
  );
  collecting = λ s is e k. k;
  no_newest = λ s is all none k. k;
  chosen = λ s newest is all some k. k;
  votes = λ s both is i. (i.0, All-nil HasShortResult, i.2);
  entries = λ s is k. (k.0, entries_short s s.votes, k.2);
  result = λ s d from r is tells i. (i.0, results_short d r (short_told c s d from r short tells) s.devices i.1, i.2);
  next = λ s d n e kind r is found i. (i.0, next_short d n s.devices i.1, i.2);
  seizing = λ s is e k. k;
  counted = λ s is h k. k;
  others = λ s is ne k. (k.0, All-append HasShortResult s.devices (plain_devices s) k.1 (plain_short s.plan s.devices s.plan.attached), k.2);
  installs = λ s is k. k;
  ready = λ s from m is at of ready_body i. i;
  own = λ s is at i. i;
  installing = λ s at e k. k;
}

-- The install.

abbrev ReadingMaybe : Option Reading → Type 0
ReadingMaybe None = Unit {0}
ReadingMaybe (Some r) = IsShortReading r

short_reading_by : (d : ℕ) (o : Option ℕ) (r : Option SeizeResult) → IsShortMaybe r → ReadingMaybe (reading_by d o r)
short_reading_by d (Some n) (Some (Held keys)) h = h
short_reading_by d (Some n) (Some (NotRegistered keys)) h = tt
short_reading_by d (Some n) (Some (Greater word)) h = tt
short_reading_by d (Some n) (Some Expelled) h = tt
short_reading_by d (Some n) (Some (Contended key)) h = tt
short_reading_by d (Some n) (Some Fault) h = tt
short_reading_by d (Some n) None h = tt
short_reading_by d None r h = tt

short_found : (d : ℕ) (es : List Seizing) → All HasShortResult es → ReadingMaybe (reading_in (find (λ e. e.attached.device == d) es))
short_found d [] h = tt
short_found d (e ∷ es) h =
    if_either (λ o. ReadingMaybe (reading_in o)) (e.attached.device == d) (Some e) (find (λ x. x.attached.device == d) es)
    (short_reading_by e.attached.device e.seizer e.result (All-head HasShortResult e es h)) (short_found d es (All-tail HasShortResult e es h))

more_readings : (o : Option Reading) (rs : List Reading) (k : ℕ) → ReadingMaybe o → (length rs ≤ k) × AllByRecursion IsShortReading rs
    → (length (cons_option o rs) ≤ suc k) × AllByRecursion IsShortReading (cons_option o rs)
more_readings None rs k q h = (omega (arith, h.0), h.1)
more_readings (Some r) rs k q h = (omega (arith, h.0), (q, h.1))

readings : (devices : List Seizing) → All HasShortResult devices → (attached : List AttachedDevice)
    → (length (filter_map (reading_of devices) attached) ≤ length attached) × AllByRecursion IsShortReading (filter_map (reading_of devices) attached)
readings devices h [] = (omega arith, tt)
readings devices h (a ∷ attached) =
    more_readings (reading_of devices a) (filter_map (reading_of devices) attached) (length attached) (short_found a.device devices h) (readings devices h attached)

short_committed : (b : Body) → IsShort b → IsShortList IsShortText (committed_in b)
short_committed (body.Promise epoch installed members valid flagged committed pending) h = h.0
short_committed _ h = (few_none, tt)

short_pending : (b : Body) → IsShort b → IfSome (pending_in b) IsShortText
short_pending (body.Promise epoch installed members valid flagged committed pending) h = h.1
short_pending _ h = tt

short_by : (plan : Plan) (rs : List Reading) (o : Option Promised) → ((p : Promised) → o ≡ Some p → HasShortBody p) → IsShortList IsShortReading rs → IsShort (body.Install (install_by plan rs o))
short_by plan rs None each h = ((few_none, tt), tt, h)
short_by plan rs (Some p) each h = (short_committed p.message.body (each p refl), short_pending p.message.body (each p refl), h)

found_short : (n : ℕ) (ps : List Promised) → All HasShortBody ps → (p : Promised) → find (is_from n) ps ≡ Some p → HasShortBody p
found_short n [] h p is = absurd (none_some p is)
found_short n (x ∷ ps) h p is = by_test (found_short n ps (All-tail HasShortBody x ps h) p) (is_from n x) is
  where
    by_test : (find (is_from n) ps ≡ Some p → HasShortBody p) → (b : Bool) → (if b then Some x else find (is_from n) ps) ≡ Some p → HasShortBody p
    by_test rest true k = subst HasShortBody (same_some x p k) (All-head HasShortBody x ps h)
    by_test rest false k = rest k

less_than : (a b c : ℕ) → a ≤ b → b < c → a < c
less_than a b c h k = omega arith

short_install : (t : AttemptState) → HasShort t → IsShort (body.Install (install_in t))
short_install t h =
    let rs : List Reading = filter_map (reading_of t.devices) t.plan.attached in
    let two : (length rs ≤ length t.plan.attached) × AllByRecursion IsShortReading rs = readings t.devices h.1 t.plan.attached in
    short_by t.plan rs (find (is_from t.newest) t.promises) (found_short t.newest t.promises h.0) (less_than (length rs) (length t.plan.attached) (2 ^ 16) two.0 h.2, two.1)

short_request : (plan : Plan) (kind : SeizeKind) (d : ℕ) → IsShort (request_body plan kind d)
short_request plan Vote d = tt
short_request plan Plain d = tt

short_steps : Steps HasShort (λ t x. IsShortStep x)
short_steps = record {
  asks = λ t e n is i among none asked.
      if_either IsShortStep (n == t.plan.coordinator) (SeizeHere e.attached.device e.kind)
      (Send n (record { sender = t.plan.coordinator; body = request_body t.plan e.kind e.attached.device })) tt (short_request t.plan e.kind e.attached.device);
  wish = λ t n. tt;
  start_here = λ t. tt;
  end = λ t e. tt;
  collect = λ t n. tt;
  start = λ t n. tt;
  install = λ t n i. short_install t i;
  install_here = λ t i. short_install t i;
}

pub sends_are_short : SendsAreShort
sends_are_short s c may short takes = call_sends HasShort HasShort (λ t x. IsShortStep x) s c (steady c takes) short_steps may short

all_first : (o : Option Promised) → ((p : Promised) → o ≡ Some p → HasShortBody p) → All HasShortBody (promises_of o)
all_first None h = All-nil HasShortBody
all_first (Some p) h = All-cons HasShortBody p [] (h p refl) (All-nil HasShortBody)

pub first_sends_are_short : FirstSendsAreShort
unfolding beginning
first_sends_are_short p members own attached cluster short few =
    let shown : Option Promised = promised_by own (shown_by own.sender own.body) in
    first_sends HasShort HasShort (λ t x. IsShortStep x) (steady Tick tt) short_steps (first_state p members own attached cluster (promises_of shown)) refl
    (all_first shown (λ x h. short_promise own own.sender x h short), All-nil HasShortResult, few)

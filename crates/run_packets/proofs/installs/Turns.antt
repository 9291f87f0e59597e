-- Where an attempt installs, its Install goes to each other member: none is ready before.
use Rattle.std.specs.Prelude.{ℕ, ◌≡◌, ◌≢◌, ◌⊎◌, ◌==◌, ◌&&◌, ◌||◌, ◌++◌, not, Bool, true, false, if◌then◌else◌, List, [], ◌∷◌, Option, None, Some, filter, map}
use Rattle.std.proofs.Common.{refl, ap, sym, subst, ◌∙◌, inl, inr, arith}
use Rattle.std.specs.List.{AllByRecursion, cons_option, filter_map, list_any}
use Rattle.attempt_laws.proofs.Walk.{Walk, walks}
use Rattle.cl_base.specs.Seizings.{SeizeResult}
use Rattle.cmm_attempt.proofs.Basics.{false_true, if_either, or_cases, same_number}
use Rattle.cmm_attempt.specs.Attempts.{AttemptState, Turn, again_in, all_promised, asked_next, beginning, begun, choosing, chosen_by, collects, first_state, has_readied, in_phase, install_in, installing, installs, is_missing, later, plain_devices, promises_of, silent_others, with_steps}
use Rattle.cmm_attempt.specs.Calls.{Call, May, Take, With_votes, Own_seized, Own_ready, Tick, turn}
use Rattle.cmm_attempt.specs.Installs.{send_install, send_to}
use Rattle.cmm_attempt.specs.Promises.{newest_shown, promised_by, shown_by}
use Rattle.cmm_attempt.specs.Seizings.{again_by, again_for, held_set, request, request_body, request_by, request_for}
use Rattle.cmm_attempt.specs.declared.attached.AttachedDevice.{AttachedDevice}
use Rattle.cmm_attempt.specs.declared.counting.BothVotes.{BothVotes}
use Rattle.cmm_attempt.specs.declared.phase.Phase.{Phase}
use Rattle.cmm_attempt.specs.declared.phase.Phase.TheVariants.{Collecting, Choosing, SeizingVotes, SeizingOthers, Installing, Over}
use Rattle.cmm_attempt.specs.declared.plan.Plan.{Plan}
use Rattle.cmm_attempt.specs.declared.promised.Shown.{Shown}
use Rattle.cmm_attempt.specs.declared.phase.Readied.{Readied}
use Rattle.cmm_attempt.specs.declared.seizing.Seizing.{Seizing}
use Rattle.cmm_attempt.specs.declared.step.Step.{Step}
use Rattle.cmm_attempt.specs.declared.step.Step.TheVariants.{Send, SeizeHere}
use Rattle.refinement.proofs.Attempts.{install_epoch}
use Rattle.seize.specs.declared.kind.SeizeKind.{SeizeKind}
use Rattle.wire.specs.declared.message.Body.{Body}
use Rattle.wire.specs.declared.message.Body.TheVariants as body
use Rattle.wire.specs.declared.message.Install.{Install}
use Rattle.wire.specs.declared.message.Message.{Message}
use Rattle.run_packets.specs.installs.Passing.{IsEarly, IsOther, SendsStep, StepsFollow, Unready}

-- ---- nothing is installed by these steps

sends_none : (t : AttemptState) (plan : Plan) (b : Body) (ns : List ℕ) → StepsFollow t (map (send_to plan b) ns)
sends_none t plan b [] = tt
sends_none t plan b (n ∷ ns) = tt

abbrev NoneBy : AttemptState → Option Step → Type 0
NoneBy t None = Unit {0}
NoneBy t (Some s) = (steps : List Step) → StepsFollow t (s ∷ steps)

with_none : (t : AttemptState) (o : Option Step) (steps : List Step) → NoneBy t o → StepsFollow t steps → StepsFollow t (cons_option o steps)
with_none t None steps h k = k
with_none t (Some s) steps h k = h steps

request_none : (t : AttemptState) (plan : Plan) (kind : SeizeKind) (d n : ℕ) → NoneBy t (Some (request plan kind d n))
request_none t plan kind d n steps =
    if_either (λ s. StepsFollow t (s ∷ steps)) (n == plan.coordinator) (SeizeHere d kind) (Send n (record { sender = plan.coordinator; body = request_body plan kind d })) tt tt

request_by_none : (t : AttemptState) (plan : Plan) (e : Seizing) (r : Option SeizeResult) (o : Option ℕ) → NoneBy t (request_by plan e r o)
request_by_none t plan e None (Some n) = request_none t plan e.kind e.attached.device n
request_by_none t plan e None None = tt
request_by_none t plan e (Some r) o = tt

requests_none : (t : AttemptState) (plan : Plan) (es : List Seizing) → StepsFollow t (filter_map (request_for plan) es)
requests_none t plan [] = tt
requests_none t plan (e ∷ es) = with_none t (request_for plan e) (filter_map (request_for plan) es) (request_by_none t plan e e.result e.seizer) (requests_none t plan es)

again_by_none : (t : AttemptState) (plan : Plan) (e : Seizing) (r : Option SeizeResult) (o : Option ℕ) → NoneBy t (again_by plan e r o)
again_by_none t plan e None (Some n) =
    if_either (NoneBy t) (n == plan.coordinator) None (Some (request plan e.kind e.attached.device n)) tt (request_none t plan e.kind e.attached.device n)
again_by_none t plan e None None = tt
again_by_none t plan e (Some r) o = tt

agains_none : (t : AttemptState) (plan : Plan) (es : List Seizing) → StepsFollow t (filter_map (again_for plan) es)
agains_none t plan [] = tt
agains_none t plan (e ∷ es) = with_none t (again_for plan e) (filter_map (again_for plan) es) (again_by_none t plan e e.result e.seizer) (agains_none t plan es)

again_none : (t s : AttemptState) (phase : Phase) → StepsFollow t (again_in s phase)
again_none t s Collecting = sends_none t s.plan (body.Collect s.plan.epoch s.plan.members) (silent_others s)
again_none t s Choosing = tt
again_none t s SeizingVotes = agains_none t s.plan s.devices
again_none t s SeizingOthers = agains_none t s.plan s.devices
again_none t s Installing = sends_none t s.plan (body.Install (install_in s)) (silent_others s)
again_none t s Over = tt

-- ---- the Install goes to each other member

sends_to : (t : AttemptState) (i : Install) (ns : List ℕ) (m : ℕ) → list_any (λ k. k == m) ns ≡ true → SendsStep m i (map (send_install t.plan i) ns)
sends_to t i [] m is = absurd (false_true is)
sends_to t i (k ∷ ns) m is = by_place (λ later. sends_to t i ns m later) (or_cases (k == m) (list_any (λ j. j == m) ns) is)
  where
    by_place : (list_any (λ j. j == m) ns ≡ true → SendsStep m i (map (send_install t.plan i) ns)) → ((k == m) ≡ true) ⊎ (list_any (λ j. j == m) ns ≡ true)
        → SendsStep m i (map (send_install t.plan i) (k ∷ ns))
    by_place rest (inl here) = inl (same_number k m here, refl)
    by_place rest (inr later) = inr (rest later)

or_first : (a b : Bool) → a ≡ true → (a || b) ≡ true
or_first true b h = refl
or_first false b h = absurd (false_true h)

or_later : (a b : Bool) → b ≡ true → (a || b) ≡ true
or_later true b h = refl
or_later false b h = h

pub any_passing : (test : ℕ → Bool) (ns : List ℕ) (m : ℕ) → test m ≡ true → list_any (λ k. k == m) ns ≡ true → list_any (λ k. k == m) (filter test ns) ≡ true
any_passing test [] m passes is = is
any_passing test (k ∷ ns) m passes is = by_test (λ later. any_passing test ns m passes later) (test k) refl (or_cases (k == m) (list_any (λ j. j == m) ns) is)
  where
    by_test : (list_any (λ j. j == m) ns ≡ true → list_any (λ j. j == m) (filter test ns) ≡ true) → (b : Bool) → test k ≡ b → ((k == m) ≡ true) ⊎ (list_any (λ j. j == m) ns ≡ true)
        → list_any (λ j. j == m) (if b then k ∷ filter test ns else filter test ns) ≡ true
    by_test rest true at (inl here) = or_first (k == m) (list_any (λ j. j == m) (filter test ns)) here
    by_test rest true at (inr later) = or_later (k == m) (list_any (λ j. j == m) (filter test ns)) (rest later)
    by_test rest false at (inl here) = absurd (false_true (sym at ∙ (subst (λ j. test j ≡ true) (sym (same_number k m here)) passes)))
    by_test rest false at (inr later) = rest later

other_test : (b own : Bool) (rs : List Readied) (m : ℕ) → b ≡ false → rs ≡ [] → (not b && (if b then not own else not (has_readied rs m))) ≡ true
other_test true own rs m is none = absurd (false_true (sym is))
other_test false own [] m is none = refl
other_test false own (r ∷ rs) m is none = absurd (cc)

unready_test : (s : AttemptState) (m : ℕ) → s.readies ≡ [] → m ≢ s.plan.coordinator → (not (m == s.plan.coordinator) && is_missing (in_phase s Installing) m) ≡ true
unready_test s m none other = other_test (m == s.plan.coordinator) s.own_ready s.readies m (by_number (m == s.plan.coordinator) refl) none
  where
    by_number : (b : Bool) → (m == s.plan.coordinator) ≡ b → b ≡ false
    by_number true is = absurd (other (same_number m s.plan.coordinator is))
    by_number false is = refl

goes_to_all : (s : AttemptState) → s.readies ≡ [] → (m : ℕ) → IsOther (in_phase s Installing) m → SendsStep m (install_in (in_phase s Installing)) (installs (in_phase s Installing))
goes_to_all s none m other =
    let t : AttemptState = in_phase s Installing in
    sends_to t (install_in t) (silent_others t) m (any_passing (λ n. not (n == t.plan.coordinator) && is_missing t n) t.plan.nodes m (unready_test s m none other.1) other.0)

-- .. and there is none where the coordinator is alone
none_silent : (t : AttemptState) (n : ℕ) → t.plan.coordinator ≡ n → AllByRecursion (λ k. k ≡ n) t.plan.nodes → installs t ≡ []
none_silent t n own alone = ap (λ ns. map (send_install t.plan (install_in t)) ns) (none_of t.plan.nodes alone)
  where
    by_test : (b missing : Bool) (ns : List ℕ) (k : ℕ) → b ≡ true → ns ≡ [] → (if not b && missing then k ∷ ns else ns) ≡ []
    by_test true missing ns k is none = none
    by_test false missing ns k is none = absurd (false_true is)

    itself : (a b : ℕ) → a ≡ b → (a == b) ≡ true
    itself a b h = grind arith

    none_of : (ns : List ℕ) → AllByRecursion (λ k. k ≡ n) ns → filter (λ k. not (k == t.plan.coordinator) && is_missing t k) ns ≡ []
    none_of [] h = refl
    none_of (k ∷ ns) h =
        by_test (k == t.plan.coordinator) (is_missing t k) (filter (λ j. not (j == t.plan.coordinator) && is_missing t j) ns) k (itself k t.plan.coordinator (h.0 ∙ sym own)) (none_of ns h.1)

-- ---- each call

abbrev pub Brings : Turn → Type 0
Brings t = Unready t.after × StepsFollow t.after t.steps

-- .. and votes are given where they were asked for
abbrev Ready : Call → AttemptState → Type 0
Ready c s = Unready s × ((both : BothVotes) → c ≡ With_votes both → s.phase ≡ Choosing)

none_before : (s : AttemptState) (p : Phase) → s.phase ≡ p → IsEarly p → Unready s → s.readies ≡ []
none_before s p is early h = h (subst IsEarly (sym is) early)

installing_brings : (s : AttemptState) → s.readies ≡ [] → Brings (installing s)
unfolding installing
installing_brings s none =
    let t : AttemptState = in_phase s Installing in
    (λ early. absurd early, (λ m other. goes_to_all s none m other, refl, install_epoch t, λ n alone. none_silent t n alone.0 alone.1))

walk : (c : Call) → Walk c (Ready c) Unready Brings
unfolding asked_next
walk c = record {
  within = λ s i. i.0;
  rests = λ s i. (i.0, tt);
  passes = λ s is e i. (i.0, tt);
  again = λ s is e i. (i.0, again_none (record s { ticks = later s.ticks }) (record s { ticks = later s.ticks }) s.phase);
  silent = λ s n is late least i. (λ early. absurd early, tt);
  superseded = λ s from m q is nack i. (λ early. absurd early, tt);
  promise = λ s from m p is awaited of promised i. i.0;
  collects = λ s is e k. (k, sends_none s s.plan (body.Collect s.plan.epoch s.plan.members) (silent_others s));
  collecting = λ s is e k. (k, tt);
  no_newest = λ s is all none k. (k, tt);
  chosen = λ s newest is all some k. (λ early. none_before s Collecting is tt k, tt);
  votes = λ s both is i. λ early. none_before s Choosing (i.1 both is) tt i.0;
  foreign = λ s both n is given least k. (λ early. absurd early, tt);
  excluded = λ s n is least k. (λ early. absurd early, tt);
  impossible = λ s e is short k. (λ early. absurd early, tt);
  entries = λ s is enough k. k;
  requests = λ s is e k. (k, requests_none s s.plan s.devices);
  result = λ s d from r e is tells found none i. i.0;
  next = λ s d from n r e is tells found next i. (i.0, request_none s s.plan e.kind d n []);
  seizing = λ s is e k. (k, tt);
  short = λ s e is all few k. (λ early. absurd early, tt);
  others = λ s is all enough some k. (λ early. none_before s SeizingVotes is tt k, requests_none (record (in_phase s SeizingOthers) { counted = held_set s.devices; devices = s.devices ++ plain_devices s }) s.plan (plain_devices s));
  installs_at_once = λ s is all enough none k. installing_brings (record s { counted = held_set s.devices }) (none_before s SeizingVotes is tt k);
  installs = λ s is all k. installing_brings s (none_before s SeizingOthers is tt k);
  ready = λ s from m is here of ready_body i. λ early. absurd (subst IsEarly here early);
  own = λ s is here i. i.0;
  installing = λ s here e k. (k, tt);
  starts = λ s here e k. (λ early. absurd early, tt);
}

asked_at : (a : AttemptState) (k : Call) → May a k → (both : BothVotes) → k ≡ With_votes both → a.phase ≡ Choosing
asked_at a (With_votes v) may both is = may
asked_at a (Take from m) may both is = absurd (cc)
asked_at a (Own_seized d r) may both is = absurd (cc)
asked_at a Own_ready may both is = absurd (cc)
asked_at a Tick may both is = absurd (cc)

pub turn_brings : (a : AttemptState) (k : Call) → May a k → Unready a → Brings (turn a k)
turn_brings a k may h = walks (Ready k) Unready Brings a k (walk k) (h, asked_at a k may)

-- ---- an attempt begins

chosen_unready : (s : AttemptState) (o : Option Shown) → s.readies ≡ [] → Unready s → Unready (chosen_by s o).after
chosen_unready s None none h = h
chosen_unready s (Some newest) none h = λ early. none

begun_unready : (s : AttemptState) → s.readies ≡ [] → Unready (begun s).after
unfolding choosing
begun_unready s none = if_either (λ (t : Turn). Unready t.after) (all_promised s) (choosing s) (with_steps s (collects s)) (chosen_unready s (newest_shown s.promises) none (λ early. none)) (λ early. none)

pub first_unready : (p members : ℕ) (own : Message) (attached : List AttachedDevice) (cluster : ℕ) → Unready (beginning p members own attached cluster).after
unfolding beginning
first_unready p members own attached cluster = begun_unready (first_state p members own attached cluster (promises_of (promised_by own (shown_by own.sender own.body)))) refl

-- Where an attempt installs with the answer to a seizing of its coordinator, each of its seizings is over, and no other device is left.
use Rattle.std.specs.Prelude.{ℕ, ◌≡◌, ◌==◌, ◌&&◌, ◌||◌, ◌++◌, not, Bool, true, false, List, [], ◌∷◌, filter, length, map, Option, None, Some, if◌then◌else◌}
use Rattle.std.specs.List.{AllByRecursion, cons_option, filter_map, find, list_all}
use Rattle.std.proofs.Common.{refl, sym, ap, subst, ◌∙◌}
use Rattle.attempt_laws.proofs.Steady.{Steady, reached_keeps}
use Rattle.attempt_laws.specs.Staying.{IsBefore}
use Rattle.cl_base.specs.Seizings.{SeizeResult}
use Rattle.cmm_attempt.proofs.Basics.{and_cases, false_true, if_either, same_number}
use Rattle.cmm_attempt.specs.Attempts.{AttemptState, Turn, all_ready, answered_on, answering, answering_in, asked_next, counted_by, counting, has_readied, in_phase, install_in, installing, installs, is_missing, next_asked, own_answering, plain_devices, proceeding, seizing_others, settled, settled_in, shortage, waits, with_steps}
use Rattle.cmm_attempt.specs.Calls.{Call, IsReached, Own_seized, turn}
use Rattle.cmm_attempt.specs.Installs.{send_install}
use Rattle.cmm_attempt.specs.Seizings.{all_settled, awaits, held_set, next_by, plain_new, request, request_body, request_by, request_for, with_result}
use Rattle.cmm_attempt.specs.declared.phase.Phase.{Phase}
use Rattle.cmm_attempt.specs.declared.phase.Phase.TheVariants.{Choosing, Collecting, Installing, Over, SeizingOthers, SeizingVotes}
use Rattle.cmm_attempt.specs.declared.plan.Plan.{Plan}
use Rattle.cmm_attempt.specs.declared.seizing.Seizing.{Seizing}
use Rattle.cmm_attempt.specs.declared.step.AttemptEnd.{AttemptEnd}
use Rattle.cmm_attempt.specs.declared.step.Step.{Step}
use Rattle.cmm_attempt.specs.declared.step.Step.TheVariants as step
use Rattle.node_model.specs.Attempts.{is_choosing}
use Rattle.seize.specs.declared.kind.SeizeKind.{SeizeKind}
use Rattle.wire.specs.declared.message.Install.{Install}
use Rattle.run_outcomes.specs.phases.Laws.{is_seizing}
use Rattle.run_outcomes.proofs.own_tasks.Matching.{of_test}

-- ---- what an install shows

-- with this result all seizings of the attempt are over; it has come to b, and goes on with these steps
pub record Settles (d : ℕ) (r : SeizeResult) (a b : AttemptState) (i : Install) (rest : List Step) : Type 0 where
  pub seizing : is_seizing a.phase ≡ true
  pub all : all_settled (map (with_result d r) a.devices) ≡ true
  pub left : a.phase ≡ SeizingVotes → length (filter_map (plain_new a.plan (map (with_result d r) a.devices)) a.plan.attached) ≡ 0
  pub phase : b.phase ≡ Installing
  pub plan : b.plan ≡ a.plan
  pub readies : b.readies ≡ a.readies
  pub install : i ≡ install_in b
  pub sends : rest ≡ installs b

-- of a turn that installs first; none starts first
abbrev pub IfInstalls : ℕ → SeizeResult → AttemptState → AttemptState → List Step → Type 0
IfInstalls d r a b (step.InstallHere i ∷ rest) = Settles d r a b i rest
IfInstalls d r a b (step.StartHere ∷ rest) = ⊥
IfInstalls d r a b _ = Unit {0}

-- ---- each turn

abbrev Ok : ℕ → SeizeResult → AttemptState → Turn → Type 0
Ok d r a t = IfInstalls d r a t.after t.steps × (is_choosing a.phase ≡ false → is_choosing t.after.phase ≡ false)

abbrev NoneBy : ℕ → SeizeResult → AttemptState → AttemptState → Option Step → Type 0
NoneBy d r a b None = Unit {0}
NoneBy d r a b (Some x) = (steps : List Step) → IfInstalls d r a b (x ∷ steps)

with_none : (d : ℕ) (r : SeizeResult) (a b : AttemptState) (o : Option Step) (steps : List Step) → NoneBy d r a b o → IfInstalls d r a b steps → IfInstalls d r a b (cons_option o steps)
with_none d r a b None steps h k = k
with_none d r a b (Some x) steps h k = h steps

request_none : (d : ℕ) (r : SeizeResult) (a b : AttemptState) (plan : Plan) (kind : SeizeKind) (e n : ℕ) → NoneBy d r a b (Some (request plan kind e n))
request_none d r a b plan kind e n steps =
    if_either (λ x. IfInstalls d r a b (x ∷ steps)) (n == plan.coordinator) (step.SeizeHere e kind) (step.Send n (record { sender = plan.coordinator; body = request_body plan kind e })) tt tt

request_by_none : (d : ℕ) (r : SeizeResult) (a b : AttemptState) (plan : Plan) (e : Seizing) (p : Option SeizeResult) (o : Option ℕ) → NoneBy d r a b (request_by plan e p o)
request_by_none d r a b plan e None (Some n) = request_none d r a b plan e.kind e.attached.device n
request_by_none d r a b plan e None None = tt
request_by_none d r a b plan e (Some p) o = tt

requests_none : (d : ℕ) (r : SeizeResult) (a b : AttemptState) (plan : Plan) (es : List Seizing) → IfInstalls d r a b (filter_map (request_for plan) es)
requests_none d r a b plan [] = tt
requests_none d r a b plan (e ∷ es) =
    with_none d r a b (request_for plan e) (filter_map (request_for plan) es) (request_by_none d r a b plan e e.result e.seizer) (requests_none d r a b plan es)

-- what is known of the attempt as it installs
record Known (d : ℕ) (r : SeizeResult) (a s : AttemptState) : Type 0 where
  seizing : is_seizing a.phase ≡ true
  all : all_settled (map (with_result d r) a.devices) ≡ true
  plan : s.plan ≡ a.plan
  readies : s.readies ≡ a.readies

installing_ok : (d : ℕ) (r : SeizeResult) (a s : AttemptState) → Known d r a s → (a.phase ≡ SeizingVotes → length (filter_map (plain_new a.plan (map (with_result d r) a.devices)) a.plan.attached) ≡ 0)
    → Ok d r a (installing s)
unfolding installing
installing_ok d r a s k left = (record { seizing = k.seizing; all = k.all; left = left; phase = refl; plan = k.plan; readies = k.readies; install = refl; sends = refl }, λ rests. refl)

-- the attempt with this result
abbrev with_answer : ℕ → SeizeResult → AttemptState → AttemptState
with_answer d r a = record a { devices = map (with_result d r) a.devices }

others_ok : (d : ℕ) (r : SeizeResult) (a : AttemptState) (held : ℕ) → Known d r a (with_answer d r a) → Ok d r a (seizing_others (record (with_answer d r a) { counted = held }))
unfolding seizing_others
others_ok d r a held k =
    let s : AttemptState = record (with_answer d r a) { counted = held } in
    let more : List Seizing = plain_devices s in
    of_test (Ok d r a) (length more == 0) (installing s) (with_steps (record (in_phase s SeizingOthers) { devices = s.devices ++ more }) (filter_map (request_for s.plan) more))
    (λ none. installing_ok d r a s (record { seizing = k.seizing; all = k.all; plan = k.plan; readies = k.readies }) (λ is. same_number (length more) 0 none))
    (λ some. (requests_none d r a (record (in_phase s SeizingOthers) { devices = s.devices ++ more }) s.plan more, λ rests. refl))

counting_ok : (d : ℕ) (r : SeizeResult) (a : AttemptState) → Known d r a (with_answer d r a) → Ok d r a (counting (with_answer d r a))
unfolding counting
counting_ok d r a k = by_end (shortage (with_answer d r a) (held_set (map (with_result d r) a.devices)))
  where
    by_end : (o : Option AttemptEnd) → Ok d r a (counted_by (with_answer d r a) o)
    by_end None = others_ok d r a (held_set (map (with_result d r) a.devices)) k
    by_end (Some e) = (tt, λ rests. refl)

no_votes : {X : Type 0} (p : Phase) → p ≡ SeizingOthers → p ≡ SeizingVotes → X
no_votes p is other = absurd (never (sym is ∙ other))
  where
    never : SeizingOthers ≡ SeizingVotes → ⊥
    never e = cc

settled_ok : (d : ℕ) (r : SeizeResult) (a : AttemptState) → Known d r a (with_answer d r a) → (p : Phase) → a.phase ≡ p → Ok d r a (settled_in (with_answer d r a) p)
settled_ok d r a k SeizingVotes is = counting_ok d r a k
settled_ok d r a k SeizingOthers is = installing_ok d r a (with_answer d r a) k (λ other. no_votes a.phase is other)
settled_ok d r a k Collecting is = (tt, λ rests. rests)
settled_ok d r a k Choosing is = (tt, λ rests. rests)
settled_ok d r a k Installing is = (tt, λ rests. rests)
settled_ok d r a k Over is = (tt, λ rests. rests)

ended_ok : (d : ℕ) (r : SeizeResult) (a : AttemptState) → is_seizing a.phase ≡ true → Ok d r a (settled a d r)
unfolding settled proceeding
ended_ok d r a seizing =
    let s : AttemptState = with_answer d r a in
    of_test (Ok d r a) (all_settled s.devices) (settled_in s s.phase) (waits s)
    (λ all. settled_ok d r a (record { seizing = seizing; all = all; plan = refl; readies = refl }) a.phase refl) (λ some. (tt, λ rests. rests))

next_ok : (d : ℕ) (r : SeizeResult) (a : AttemptState) (e : Seizing) (o : Option ℕ) → is_seizing a.phase ≡ true → Ok d r a (next_asked a d r e o)
unfolding asked_next
next_ok d r a e None seizing = ended_ok d r a seizing
next_ok d r a e (Some n) seizing = (request_none d r a _ a.plan e.kind d n [], λ rests. rests)

answering_ok : (d : ℕ) (r : SeizeResult) (a : AttemptState) → is_seizing a.phase ≡ true → Ok d r a (answering a d a.plan.coordinator r)
unfolding answering
answering_ok d r a seizing = by_entry (find (awaits d a.plan.coordinator) a.devices)
  where
    by_entry : (o : Option Seizing) → Ok d r a (answered_on a d r o)
    by_entry None = (tt, λ rests. rests)
    by_entry (Some e) = next_ok d r a e (next_by a.plan.cluster a.promises a.plan.nodes e e.kind r) seizing

turn_ok : (d : ℕ) (r : SeizeResult) (a : AttemptState) → Ok d r a (turn a (Own_seized d r))
unfolding own_answering
turn_ok d r a = by_phase a.phase refl
  where
    by_phase : (p : Phase) → a.phase ≡ p → Ok d r a (answering_in a d a.plan.coordinator r p)
    by_phase SeizingVotes is = answering_ok d r a (ap is_seizing is)
    by_phase SeizingOthers is = answering_ok d r a (ap is_seizing is)
    by_phase Collecting is = (tt, λ rests. rests)
    by_phase Choosing is = (tt, λ rests. rests)
    by_phase Installing is = (tt, λ rests. rests)
    by_phase Over is = (tt, λ rests. rests)

pub installs_so : (d : ℕ) (r : SeizeResult) (a : AttemptState) → IfInstalls d r a (turn a (Own_seized d r)).after (turn a (Own_seized d r)).steps
installs_so d r a = (turn_ok d r a).0

-- votes are not asked for with it
pub not_choosing : (d : ℕ) (r : SeizeResult) (a : AttemptState) → is_choosing a.phase ≡ false → is_choosing (turn a (Own_seized d r)).after.phase ≡ false
not_choosing d r a rests = (turn_ok d r a).1 rests

-- ---- none is ready before

abbrev IsUnready : AttemptState → Type 0
IsUnready s = IsBefore s.phase → s.readies ≡ []

unready_steady : (c : Call) → Steady c IsUnready IsUnready
unready_steady c = record {
  within = λ s i. i;
  ticked = λ s i. i;
  over = λ s k before. absurd before;
  promise = λ s from m p is awaited of promised i. i;
  collecting = λ s is all k. k;
  no_newest = λ s is all none k. k;
  chosen = λ s newest is all some k before. k (subst IsBefore (sym is) tt);
  votes = λ s both is i before. i (subst IsBefore (sym is) tt);
  entries = λ s is k. k;
  result = λ s d from r is tells i. i;
  next = λ s d m x kind r is found i. i;
  seizing = λ s is all k. k;
  counted = λ s is h k. k;
  others = λ s is ne k before. k (subst IsBefore (sym is) tt);
  installs = λ s is k before. absurd before;
  ready = λ s from m is at of ready_body i before. absurd (subst IsBefore at before);
  own = λ s is at i before. absurd (subst IsBefore at before);
  installing = λ s is h k. k;
}

pub none_ready : (a : AttemptState) → IsReached a → IsBefore a.phase → a.readies ≡ []
none_ready a r = reached_keeps IsUnready IsUnready unready_steady a r (λ before. refl)

-- ---- where all are ready at once, the coordinator is alone

abbrev pub AreAlone : Plan → Type 0
AreAlone plan = AllByRecursion (λ n. (n == plan.coordinator) ≡ true) plan.nodes

pub ready_alone : (b : AttemptState) → b.readies ≡ [] → all_ready b ≡ true → AreAlone b.plan
ready_alone b none ready = each b.plan.nodes (subst (λ rs. list_all (λ n. (n == b.plan.coordinator) || has_readied rs n) b.plan.nodes ≡ true) none ready)
  where
    or_no : (p : Bool) → (p || false) ≡ true → p ≡ true
    or_no true h = refl
    or_no false h = h

    each : (ns : List ℕ) → list_all (λ n. (n == b.plan.coordinator) || false) ns ≡ true → AllByRecursion (λ n. (n == b.plan.coordinator) ≡ true) ns
    each [] h = tt
    each (n ∷ ns) h =
        let two : (((n == b.plan.coordinator) || false) ≡ true) × (list_all (λ m. (m == b.plan.coordinator) || false) ns ≡ true) =
        and_cases ((n == b.plan.coordinator) || false) (list_all (λ m. (m == b.plan.coordinator) || false) ns) h in
        (or_no (n == b.plan.coordinator) two.0, each ns two.1)

-- .. and sends no Install
pub none_sent : (b : AttemptState) → AreAlone b.plan → installs b ≡ []
none_sent b alone = ap (λ ns. map (send_install b.plan (install_in b)) ns) (none_of b.plan.nodes alone)
  where
    by_test : (own missing : Bool) (ns : List ℕ) (k : ℕ) → own ≡ true → ns ≡ [] → (if not own && missing then k ∷ ns else ns) ≡ []
    by_test true missing ns k is none = none
    by_test false missing ns k is none = absurd (false_true is)

    none_of : (ns : List ℕ) → AllByRecursion (λ n. (n == b.plan.coordinator) ≡ true) ns → filter (λ n. not (n == b.plan.coordinator) && is_missing b n) ns ≡ []
    none_of [] h = refl
    none_of (n ∷ ns) h = by_test (n == b.plan.coordinator) (is_missing b n) (filter (λ m. not (m == b.plan.coordinator) && is_missing b m) ns) n h.0 (none_of ns h.1)

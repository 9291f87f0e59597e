-- What an attempt was told is true of the machine after a call, if it was before and what the call tells is.
use Rattle.std.proofs.Common.{◌≡◌, ℕ, ◌⊎◌, inl, inr, List, [], ◌∷◌, ◌++◌, zero, suc, refl, sym, ap, subst, ◌∙◌, arith}
use Rattle.std.specs.Prelude.{All, ◌%◌, ◌==◌, ◌&&◌, ◌||◌, nat_le, Bool, true, false, not, Option, Some, None, if◌then◌else◌}
use Rattle.std.specs.List.{list_any}
use Rattle.std.proofs.lemmas.List.Folds.{list_any-append}
use Rattle.std.proofs.lemmas.List.Elements.{All-nil, All-cons, All-head, All-tail, All-append}
use Rattle.cl_base.specs.Sets.{has}
use Rattle.machine_base.specs.Epochs.{coordinator}
use Rattle.machine_base.proofs.Puts.{put_here}
use Rattle.membership_machine.specs.State.{Memberships}
use Rattle.membership_machine.specs.Steps as step
use Rattle.membership_machine.specs.Events.{Begin, after}
use Rattle.membership_machine.specs.Growth.{Grows}
use Rattle.wire.specs.declared.message.Body.{Body}
use Rattle.wire.specs.declared.message.Body.TheVariants as body
use Rattle.wire.specs.declared.message.Message.{Message}
use Rattle.cmm_attempt.specs.declared.phase.Phase.{Phase}
use Rattle.cmm_attempt.specs.declared.phase.Phase.TheVariants.{Collecting, Choosing, SeizingVotes, SeizingOthers, Installing, Over}
use Rattle.cmm_attempt.specs.declared.phase.Readied.{Readied}
use Rattle.cmm_attempt.specs.declared.promised.Promised.{Promised}
use Rattle.cl_base.specs.Numbers.{numbers_to}
use Rattle.cmm_attempt.specs.Calls.{Call, Take, With_votes, Own_seized, Own_ready, Tick, turn}
use Rattle.attempt_laws.specs.Machine.{is_member, record_in, Tells, IsAnswer, MachineHas, AttemptsBegin, ToldStays, CallsAreTold}
use Rattle.cmm_attempt.proofs.Basics.{none_some, false_true, same_some, and_cases, same_number}
use Rattle.attempt_laws.proofs.Steady.{Steady, begun_keeps, call_keeps}
use Rattle.attempt_laws.proofs.Walk.{awaits_collecting}
use Rattle.cmm_attempt.specs.Promises.{promised_by, shown_by, has_promised}
use Rattle.wire.specs.Kinds.{is_promise, is_ready}
use Rattle.cmm_attempt.specs.Attempts.{AttemptState, waits, is_over, first_state, promises_of, beginning, awaits_promise, is_of, taken, taking}

-- The nodes of a set.

not_below_one : (n : ℕ) (h : Bool) → (nat_le (suc n) 0 && h) ≡ false
not_below_one n h = grind arith

none_below : (set n : ℕ) → (nat_le n 0 && has set n) ≡ false
unfolding has
none_below set zero = refl
none_below set (suc n) = not_below_one n (has set (suc n))

one_more : (n k : ℕ) (h : Bool) → (n ≡ suc k → h ≡ true) → ((nat_le n k && h) || ((suc k == n) || false)) ≡ (nat_le n (suc k) && h)
one_more n k h e = grind arith

none_more : (n k : ℕ) (h : Bool) → (n ≡ suc k → h ≡ false) → (nat_le n k && h) ≡ (nat_le n (suc k) && h)
none_more n k h e = grind arith

at_next : (set k n : ℕ) (b : Bool) → has set (suc k) ≡ b → list_any (λ m. m == n) (numbers_to set k) ≡ (nat_le n k && has set n)
    → list_any (λ m. m == n) (if b then numbers_to set k ++ suc k ∷ [] else numbers_to set k) ≡ (nat_le n (suc k) && has set n)
at_next set k n true h below =
    list_any-append (λ m. m == n) (numbers_to set k) (suc k ∷ []) ∙ (rw below (one_more n k (has set n) (λ e. ap (has set) e ∙ h)))
at_next set k n false h below = below ∙ none_more n k (has set n) (λ e. ap (has set) e ∙ h)

pub is_among : (set k n : ℕ) → list_any (λ m. m == n) (numbers_to set k) ≡ (nat_le n k && has set n)
is_among set zero n = sym (none_below set n)
is_among set (suc k) n = at_next set k n (has set (suc k)) refl (is_among set k n)

-- A Promise that is taken.

-- what a message tells where U holds: a Promise that its sender answered the epoch's Collect and showed this record
abbrev TellsIf : Type 0 → Memberships → ℕ → Body → Type 0
TellsIf U w n (body.Promise epoch installed members valid flagged committed pending) =
    U → ((w.node n).answered epoch ≡ true) × ((w.node n).showed epoch ≡ record_in (body.Promise epoch installed members valid flagged committed pending))
TellsIf U w n (body.Ready epoch joined report) = (w.node n).ready epoch ≡ true
TellsIf U w n _ = Unit {0}

is_answer : (U : Type 0) → U → (w : Memberships) (q members n : ℕ) (m : Message) (b : Body) → m.body ≡ b → is_of q b ≡ true → is_member members n ≡ true → TellsIf U w n b
    → (p : Promised) → promised_by m (shown_by n b) ≡ Some p → IsAnswer w q members p
is_answer U u w q members n m (body.Promise epoch installed shown valid flagged committed pending) is of member told p h =
    let b : Body = body.Promise epoch installed shown valid flagged committed pending in
    let same : epoch ≡ q = same_number epoch q of in
    subst (IsAnswer w q members) (same_some _ p h) (record {
      member = member;
      answered = subst (λ x. (w.node n).answered x ≡ true) same (told u).0;
      showed = subst (λ x. (w.node n).showed x ≡ record_in m.body) same ((told u).1 ∙ ap record_in (sym is));
      shown = ap (λ x. promised_by m (shown_by n x)) is;
    })
is_answer U u w q members n m _ is of member told p h = absurd (none_some p h)

one : {X : Type 0} (P : X → Type 0) (x : X) → P x → All P (x ∷ [])
one P x h = All-cons P x [] h (All-nil P)

with_answer : (w : Memberships) (s : AttemptState) (p : Promised) → MachineHas w s → IsAnswer w s.plan.epoch s.plan.members p
    → MachineHas w (record s { promises = s.promises ++ p ∷ [] })
with_answer w s p h a = record {
  tried = h.tried;
  members = h.members;
  nodes = h.nodes;
  coordinator = h.coordinator;
  answers =
      All-append (IsAnswer w s.plan.epoch s.plan.members) s.promises (p ∷ []) h.answers (one (IsAnswer w s.plan.epoch s.plan.members) p a);
  ready = h.ready;
  own_ready = h.own_ready;
}

awaits_member : (s : AttemptState) (n : ℕ) (phase : Phase) → awaits_promise s n phase ≡ true → list_any (λ m. m == n) s.plan.nodes ≡ true
awaits_member s n Collecting h = (and_cases (list_any (λ m. m == n) s.plan.nodes) (not (has_promised s.promises n)) h).0
awaits_member s n Choosing h = absurd (false_true h)
awaits_member s n SeizingVotes h = absurd (false_true h)
awaits_member s n SeizingOthers h = absurd (false_true h)
awaits_member s n Installing h = absurd (false_true h)
awaits_member s n Over h = absurd (false_true h)

pub member_of_plan : (w : Memberships) (s : AttemptState) (n : ℕ) → MachineHas w s → list_any (λ m. m == n) s.plan.nodes ≡ is_member s.plan.members n
member_of_plan w s n h = ap (λ ns. list_any (λ m. m == n) ns) h.nodes ∙ is_among s.plan.members 32 n

-- a Ready of this epoch tells that its sender installed it
told_ready : (w : Memberships) (q n epoch : ℕ) → (epoch == q) ≡ true → (w.node n).ready epoch ≡ true → (w.node n).ready q ≡ true
told_ready w q n epoch of told = subst (λ x. (w.node n).ready x ≡ true) (same_number epoch q of) told

of_ready : (U : Type 0) (w : Memberships) (q n : ℕ) (b : Body) → is_of q b ≡ true → is_ready b ≡ true → TellsIf U w n b → (w.node n).ready q ≡ true
of_ready U w q n (body.Ready epoch joined report) of is told = told_ready w q n epoch of told
of_ready U w q n _ of is told = absurd (false_true is)

with_ready : (w : Memberships) (s : AttemptState) (r : Readied) → MachineHas w s → (w.node r.node).ready s.plan.epoch ≡ true → MachineHas w (record s { readies = s.readies ++ r ∷ [] })
with_ready w s r h ready = record {
  tried = h.tried;
  members = h.members;
  nodes = h.nodes;
  coordinator = h.coordinator;
  answers = h.answers;
  ready = All-append (λ x. (w.node x.node).ready s.plan.epoch ≡ true) s.readies (r ∷ []) h.ready (one (λ x. (w.node x.node).ready s.plan.epoch ≡ true) r ready);
  own_ready = h.own_ready;
}

with_own : (w : Memberships) (s : AttemptState) → MachineHas w s → (w.node s.plan.coordinator).ready s.plan.epoch ≡ true → MachineHas w (record s { own_ready = true })
with_own w s h ready = record {
  tried = h.tried;
  members = h.members;
  nodes = h.nodes;
  coordinator = h.coordinator;
  answers = h.answers;
  ready = h.ready;
  own_ready = λ _. ready;
}

-- What the call c tells is true wherever the attempt is the one that it is made on.
abbrev IsToldOf : Type 0 → Memberships → ℕ → ℕ → Call → Type 0
IsToldOf U w q n (Take from m) = TellsIf U w from m.body
IsToldOf U w q n Own_ready = (w.node n).ready q ≡ true
IsToldOf U w q n (With_votes both) = Unit {0}
IsToldOf U w q n (Own_seized d r) = Unit {0}
IsToldOf U w q n Tick = Unit {0}

-- U holds while promises are awaited
abbrev Holds : Type 0 → Memberships → ℕ → ℕ → AttemptState → Type 0
Holds U w q n s = MachineHas w s × (s.plan.epoch ≡ q) × (s.plan.coordinator ≡ n) × (s.phase ≡ Collecting → U)

abbrev IsPromising : Phase → Type 0
IsPromising Collecting = Unit {0}
IsPromising Choosing = ⊥
IsPromising SeizingVotes = ⊥
IsPromising SeizingOthers = ⊥
IsPromising Installing = ⊥
IsPromising Over = ⊥

not_promising : {U : Type 0} (phase : Phase) → (IsPromising phase → ⊥) → phase ≡ Collecting → U
not_promising phase other h = absurd (other (subst IsPromising (sym h) tt))

steady : (U : Type 0) (w : Memberships) (q n : ℕ) (c : Call) → IsToldOf U w q n c → Steady c (Holds U w q n) (Holds U w q n)
steady U w q n c told = record {
  within = λ s i. i;
  ticked = λ s i. i;
  over = λ s k. (k.0, k.1, k.2, not_promising Over (λ x. x));
  promise = λ s from m p is awaited of promised i. (
    with_answer w s p i.0 (is_answer U (i.3 (awaits_collecting s from s.phase awaited)) w s.plan.epoch s.plan.members from m m.body refl of
        (sym (member_of_plan w s from i.0) ∙ awaits_member s from s.phase awaited) (subst (IsToldOf U w q n) is told) p promised),
    i.1,
    i.2,
    i.3,
  );
  collecting = λ s is e k. k;
  no_newest = λ s is every none k. k;
  chosen = λ s newest is every some k. (k.0, k.1, k.2, not_promising Choosing (λ x. x));
  votes = λ s both is i. (i.0, i.1, i.2, not_promising SeizingVotes (λ x. x));
  entries = λ s is k. k;
  result = λ s d from r is tells i. i;
  next = λ s d m e kind r is found i. i;
  seizing = λ s is e k. k;
  counted = λ s is h k. k;
  others = λ s is ne k. (k.0, k.1, k.2, not_promising SeizingOthers (λ x. x));
  installs = λ s is k. (k.0, k.1, k.2, not_promising Installing (λ x. x));
  ready = λ s from m is at of ready_body i. (
    with_ready w s (record { node = from; message = m }) i.0 (of_ready U w s.plan.epoch from m.body of ready_body (subst (IsToldOf U w q n) is told)),
    i.1,
    i.2,
    i.3,
  );
  own = λ s is at i. (
    with_own w s i.0 (subst (λ x. (w.node s.plan.coordinator).ready x ≡ true) (sym i.1) (subst (λ x. (w.node x).ready q ≡ true) (sym i.2) (subst (IsToldOf U w q n) is told))),
    i.1,
    i.2,
    i.3,
  );
  installing = λ s at e k. k;
}

-- the machine has not counted the epoch of a Promise that is taken, so it shows what its sender showed
before_count : (w : Memberships) (q : ℕ) (X : Type 0) → (w.epoch q).counted ≡ false → X ⊎ ((w.epoch q).counted ≡ true) → X
before_count w q X uncounted (inl h) = h
before_count w q X uncounted (inr h) = absurd (false_true (sym uncounted ∙ h))

told_of_body : (w : Memberships) (q n : ℕ) (b : Body) → is_of q b ≡ true → Tells w n b → TellsIf ((w.epoch q).counted ≡ false) w n b
told_of_body w q n (body.Promise epoch installed members valid flagged committed pending) of h = λ uncounted. (
  h.0,
  before_count w epoch ((w.node n).showed epoch ≡ record_in (body.Promise epoch installed members valid flagged committed pending))
      (subst (λ x. (w.epoch x).counted ≡ false) (sym (same_number epoch q of)) uncounted) h.1,
)
told_of_body w q n (body.Ready epoch joined report) of h = h
told_of_body w q n _ of h = tt

-- a message of another epoch is not taken
taken_of : (w : Memberships) (s : AttemptState) (from : ℕ) (m : Message) → MachineHas w s → Tells w from m.body → (s.phase ≡ Collecting → (w.epoch s.plan.epoch).counted ≡ false)
    → (b : Bool) → is_of s.plan.epoch m.body ≡ b → MachineHas w (turn s (Take from m)).after
unfolding taking
taken_of w s from m h told uncounted true of =
    let U : Type 0 = (w.epoch s.plan.epoch).counted ≡ false in
    (call_keeps (Holds U w s.plan.epoch s.plan.coordinator) (Holds U w s.plan.epoch s.plan.coordinator) s (Take from m)
    (steady U w s.plan.epoch s.plan.coordinator (Take from m) (told_of_body w s.plan.epoch from m.body of told)) tt (h, refl, refl, uncounted)).0
taken_of w s from m h told uncounted false of = not_taken (not (is_over s.phase)) (is_of s.plan.epoch m.body) of
  where
    not_taken : (a b : Bool) → b ≡ false → MachineHas w (if a && b then taken s from m m.body else waits s).after
    not_taken true true e = absurd (false_true (sym e))
    not_taken true false e = h
    not_taken false b e = h

pub calls_are_told : CallsAreTold
calls_are_told w s (Take from m) may h uncounted told = taken_of w s from m h told uncounted (is_of s.plan.epoch m.body) refl
calls_are_told w s Own_ready may h uncounted told =
    (call_keeps (Holds Unit w s.plan.epoch s.plan.coordinator) (Holds Unit w s.plan.epoch s.plan.coordinator) s Own_ready
    (steady Unit w s.plan.epoch s.plan.coordinator Own_ready told) may (h, refl, refl, λ _. tt)).0
calls_are_told w s (With_votes both) may h uncounted told =
    (call_keeps (Holds Unit w s.plan.epoch s.plan.coordinator) (Holds Unit w s.plan.epoch s.plan.coordinator) s (With_votes both)
    (steady Unit w s.plan.epoch s.plan.coordinator (With_votes both) tt) may (h, refl, refl, λ _. tt)).0
calls_are_told w s (Own_seized d r) may h uncounted told =
    (call_keeps (Holds Unit w s.plan.epoch s.plan.coordinator) (Holds Unit w s.plan.epoch s.plan.coordinator) s (Own_seized d r)
    (steady Unit w s.plan.epoch s.plan.coordinator (Own_seized d r) tt) may (h, refl, refl, λ _. tt)).0
calls_are_told w s Tick may h uncounted told =
    (call_keeps (Holds Unit w s.plan.epoch s.plan.coordinator) (Holds Unit w s.plan.epoch s.plan.coordinator) s Tick
    (steady Unit w s.plan.epoch s.plan.coordinator Tick tt) may (h, refl, refl, λ _. tt)).0

-- What was told stays true.

answer_stays : (w v : Memberships) (q members : ℕ) → Grows w v → (p : Promised) → IsAnswer w q members p → IsAnswer v q members p
answer_stays w v q members g p a = record {
  member = a.member;
  answered = (g.node p.shown.summary.node).answered q a.answered;
  showed = (g.node p.shown.summary.node).showed q a.answered ∙ a.showed;
  shown = a.shown;
}

all_stay : {X : Type 0} (P Q : X → Type 0) (xs : List X) → ((x : X) → P x → Q x) → All P xs → All Q xs
all_stay P Q [] f h = All-nil Q
all_stay P Q (x ∷ xs) f h = All-cons Q x xs (f x (All-head P x xs h)) (all_stay P Q xs f (All-tail P x xs h))

pub told_stays : ToldStays
told_stays w v s h g = record {
  tried = (g.epoch s.plan.epoch).tried h.tried;
  members = λ n. (g.epoch s.plan.epoch).members h.tried n ∙ h.members n;
  nodes = h.nodes;
  coordinator = h.coordinator;
  answers = all_stay (IsAnswer w s.plan.epoch s.plan.members) (IsAnswer v s.plan.epoch s.plan.members) s.promises (answer_stays w v s.plan.epoch s.plan.members g) h.answers;
  ready =
      all_stay (λ r. (w.node r.node).ready s.plan.epoch ≡ true) (λ r. (v.node r.node).ready s.plan.epoch ≡ true) s.readies
      (λ r k. (g.node r.node).ready s.plan.epoch k) h.ready;
  own_ready = λ e. (g.node s.plan.coordinator).ready s.plan.epoch (h.own_ready e);
}

-- The beginning.

all_promises_of : (P : Promised → Type 0) (o : Option Promised) → ((p : Promised) → o ≡ Some p → P p) → All P (promises_of o)
all_promises_of P None h = All-nil P
all_promises_of P (Some p) h = one P p (h p refl)

-- a Promise of the coordinator's own record is told where the machine has begun the attempt
begun_tells : (w : Memberships) (p n : ℕ) (members : ℕ → Bool) (b : Body) → n ≡ coordinator p → is_promise b ≡ true → is_of p b ≡ true
    → (w.node (coordinator p)).saved ≡ record_in b → TellsIf Unit (after w (Begin p members)) n b
begun_tells w p n members (body.Promise epoch installed shown valid flagged committed pending) at is of saved =
    let b : Body = body.Promise epoch installed shown valid flagged committed pending in
    let v : Memberships = after w (Begin p members) in
    let here : v.node (coordinator p) ≡ step.promising (w.node (coordinator p)) p true = put_here w.node (coordinator p) (step.promising (w.node (coordinator p)) p true) in
    let same : p ≡ epoch = sym (same_number epoch p of) in
    let answered : (v.node (coordinator p)).answered p ≡ true = rw here (put_here (w.node (coordinator p)).answered p true) in
    let showed : (v.node (coordinator p)).showed p ≡ record_in b = rw here (put_here (w.node (coordinator p)).showed p (w.node (coordinator p)).saved ∙ saved) in
    λ _. subst (λ m. ((v.node m).answered epoch ≡ true) × ((v.node m).showed epoch ≡ record_in b)) (sym at)
    (subst (λ x. ((v.node (coordinator p)).answered x ≡ true) × ((v.node (coordinator p)).showed x ≡ record_in b)) same (answered, showed))
begun_tells w p n members _ at is of saved = absurd (false_true is)

is_coordinator : (p n : ℕ) → n ≡ p % 64 → n ≡ coordinator p
unfolding coordinator
is_coordinator p n h = h

pub attempts_begin : AttemptsBegin
unfolding beginning
attempts_begin S w p members own attached cluster promise allowed saved =
    let v : Memberships = after w (Begin p (is_member members)) in
    let at : own.sender ≡ coordinator p = is_coordinator p own.sender promise.0 in
    let here : v.epoch p ≡ step.beginning (w.epoch p) (is_member members) = put_here w.epoch p (step.beginning (w.epoch p) (is_member members)) in
    let promises : List Promised = promises_of (promised_by own (shown_by own.sender own.body)) in
    let told : TellsIf Unit v own.sender own.body = begun_tells w p own.sender (is_member members) own.body at promise.1 promise.2 saved in
    let member : is_member members own.sender ≡ true = ap (is_member members) at ∙ allowed.1 in
    (begun_keeps Tick (Holds Unit v p own.sender) (Holds Unit v p own.sender) (steady Unit v p own.sender Tick tt) (first_state p members own attached cluster promises) refl (
      record {
        tried = ap (λ e. e.tried) here;
        members = λ n. ap (λ e. e.members n) here;
        nodes = refl;
        coordinator = at;
        answers =
            all_promises_of (IsAnswer v p members) (promised_by own (shown_by own.sender own.body))
            (λ x k. is_answer Unit tt v p members own.sender own own.body refl promise.2 member told x k);
        ready = All-nil (λ r. (v.node r.node).ready p ≡ true);
        own_ready = λ e. absurd (false_true e);
      },
      refl,
      refl,
      λ _. tt,
    )).0

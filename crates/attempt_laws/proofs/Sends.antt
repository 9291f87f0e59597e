-- What holds of each step that a call gives, by the walk.
use Rattle.std.proofs.Common.{◌≡◌, ℕ, inl, inr, List, [], ◌∷◌, ◌++◌, map, refl, subst, arith}
use Rattle.std.specs.Prelude.{All, Contains, ◌==◌, ◌&&◌, Bool, true, false, Option, Some, None, is_none, if◌then◌else◌}
use Rattle.std.specs.List.{find, filter_map, cons_option}
use Rattle.std.proofs.lemmas.List.Elements.{All-nil, All-cons, All-head, All-tail, All-contains, Contains-append_right, Contains-get_or}
use Rattle.cl_base.specs.Sets.{set_with}
use Rattle.cl_base.specs.Seizings.{SeizeResult}
use Rattle.seize.specs.declared.kind.SeizeKind.{SeizeKind}
use Rattle.seize.specs.declared.kind.SeizeKind.TheVariants.{Vote, Plain}
use Rattle.wire.specs.declared.message.Body.{Body}
use Rattle.wire.specs.declared.message.Body.TheVariants as body
use Rattle.cmm_attempt.specs.declared.phase.Phase.{Phase}
use Rattle.cmm_attempt.specs.declared.phase.Phase.TheVariants.{Collecting, Choosing, SeizingVotes, SeizingOthers, Installing, Over}
use Rattle.cmm_attempt.specs.declared.plan.Plan.{Plan}
use Rattle.cmm_attempt.specs.declared.seizing.Seizing.{Seizing}
use Rattle.cmm_attempt.specs.declared.step.Step.{Step}
use Rattle.cmm_attempt.specs.declared.step.Step.TheVariants.{Send, SeizeHere, NeedVotes, InstallHere, StartHere, Ended}
use Rattle.cmm_attempt.specs.declared.step.AttemptEnd.{AttemptEnd}
use Rattle.cmm_attempt.specs.declared.step.AttemptEnd.TheVariants.{Superseded, Silent, Foreign, Excluded}
use Rattle.cmm_attempt.specs.Plans.{others_of}
use Rattle.cmm_attempt.specs.Promises.{promised_by, shown_by}
use Rattle.cmm_attempt.specs.Seizings.{awaits, is_asked, held_set, request, request_body, request_by, request_for, again_by, again_for, with_next}
use Rattle.cmm_attempt.specs.Installs.{send_to, send_collect, send_install, send_start}
use Rattle.cmm_attempt.specs.Attempts.{AttemptState, Turn, silent_others, install_in, installs, in_phase, installed, installing, plain_devices, asked_next, chosen, first_state, promises_of, begun, beginning, again_in, later}
use Rattle.cmm_attempt.specs.Calls.{Call, Tick, turn, May}
use Rattle.cmm_attempt.proofs.Basics.{none_some, false_true, same_some, and_cases, same_number, if_either}
use Rattle.attempt_laws.specs.Sending.{IsOwn, IsOwnStep, AsksFor, AsksIn, AsksEntry, SendsAreOwn, FirstSendsAreOwn, AsksAreEntries}
use Rattle.attempt_laws.proofs.Numbered.{IsNumbered, Numbered, numbered_steady, numbered_reached}
use Rattle.attempt_laws.proofs.Stays.{plan_steady}
use Rattle.attempt_laws.proofs.Steady.{Steady, walk}
use Rattle.attempt_laws.proofs.Walk.{IsSeizing, Walk, walks, walks_begun, if_with}

-- What holds of each kind of step, where `I` holds of the attempt after the call.
pub record Steps (I : AttemptState → Type 0) (Q : AttemptState → Step → Type 0) : Type 0 where
  pub asks : (t : AttemptState) (e : Seizing) (n : ℕ) → IsSeizing t.phase → I t → Contains t.devices e → e.result ≡ None → e.seizer ≡ Some n
      → Q t (request t.plan e.kind e.attached.device n)
  pub wish : (t : AttemptState) (n : ℕ) → Q t (NeedVotes n)
  pub start_here : (t : AttemptState) → Q t StartHere
  pub end : (t : AttemptState) (e : AttemptEnd) → Q t (Ended e)
  pub collect : (t : AttemptState) (n : ℕ) → Q t (send_collect t.plan n)
  pub start : (t : AttemptState) (n : ℕ) → Q t (send_start t.plan n)
  pub install : (t : AttemptState) (n : ℕ) → I t → Q t (send_install t.plan (install_in t) n)
  pub install_here : (t : AttemptState) → I t → Q t (InstallHere (install_in t))

abbrev pub Holds : (AttemptState → Type 0) → (AttemptState → Step → Type 0) → Turn → Type 0
Holds I Q u = I u.after × All (Q u.after) u.steps

pub Contains-here : {X : Type 0} → (x : X) (xs : List X) → Contains (x ∷ xs) x
Contains-here x xs = Contains-get_or (x ∷ xs) 0 x (omega arith)

pub Contains-later : {X : Type 0} → (x : X) (xs : List X) (y : X) → Contains xs y → Contains (x ∷ xs) y
Contains-later x xs y h = Contains-append_right (x ∷ []) xs y h

pub all_of : {X : Type 0} (P Q : X → Type 0) (xs : List X) → ((x : X) → P x → Q x) → All P xs → All Q xs
all_of P Q [] f h = All-nil Q
all_of P Q (x ∷ xs) f h = All-cons Q x xs (f x (All-head P x xs h)) (all_of P Q xs f (All-tail P x xs h))

-- each is among them
all_among : (es : List Seizing) → All (Contains es) es
all_among [] = All-nil (Contains [])
all_among (e ∷ es) = All-cons (Contains (e ∷ es)) e es (Contains-here e es) (all_of (Contains es) (Contains (e ∷ es)) es (Contains-later e es) (all_among es))

all_right : (xs ys : List Seizing) → All (Contains (xs ++ ys)) ys
all_right xs ys = all_of (Contains ys) (Contains (xs ++ ys)) ys (λ y h. Contains-append_right xs ys y h) (all_among ys)

all_mapped : (f : Seizing → Seizing) (es : List Seizing) → All (λ e. Contains (map f es) (f e)) es
all_mapped f [] = All-nil (λ e. Contains [] (f e))
all_mapped f (e ∷ es) =
    All-cons (λ x. Contains (map f (e ∷ es)) (f x)) e es (Contains-here (f e) (map f es))
    (all_of (λ x. Contains (map f es) (f x)) (λ x. Contains (map f (e ∷ es)) (f x)) es (λ x h. Contains-later (f e) (map f es) (f x) h) (all_mapped f es))

pub found_entry : (p : Seizing → Bool) (es : List Seizing) (e : Seizing) → find p es ≡ Some e → (p e ≡ true) × Contains es e
found_entry p [] e h = absurd (none_some e h)
found_entry p (x ∷ es) e h = by_test (found_entry p es e) (p x) refl h
  where
    by_test : (find p es ≡ Some e → (p e ≡ true) × Contains es e) → (b : Bool) → p x ≡ b → (if b then Some x else find p es) ≡ Some e → (p e ≡ true) × Contains (x ∷ es) e
    by_test rest true is k = subst (λ y. (p y ≡ true) × Contains (x ∷ es) y) (same_some x e k) (is, Contains-here x es)
    by_test rest false is k = let two : (p e ≡ true) × Contains es e = rest k in (two.0, Contains-later x es e two.1)

-- Lists of steps.

sent : (Q : Step → Type 0) (plan : Plan) (b : Body) → ((n : ℕ) → Q (send_to plan b n)) → (ns : List ℕ) → All Q (map (send_to plan b) ns)
sent Q plan b each [] = All-nil Q
sent Q plan b each (n ∷ ns) = All-cons Q (send_to plan b n) (map (send_to plan b) ns) (each n) (sent Q plan b each ns)

abbrev Maybe : (Step → Type 0) → Option Step → Type 0
Maybe Q None = Unit {0}
Maybe Q (Some x) = Q x

with_option : (Q : Step → Type 0) (o : Option Step) (steps : List Step) → Maybe Q o → All Q steps → All Q (cons_option o steps)
with_option Q None steps h rest = rest
with_option Q (Some x) steps h rest = All-cons Q x steps h rest

by_request : (I : AttemptState → Type 0) (Q : AttemptState → Step → Type 0) → Steps I Q → (t : AttemptState) → IsSeizing t.phase → I t → (e : Seizing) → Contains t.devices e
    → (r : Option SeizeResult) → e.result ≡ r → (o : Option ℕ) → e.seizer ≡ o → Maybe (Q t) (request_by t.plan e r o)
by_request I Q S t is i e among None none (Some n) asked = S.asks t e n is i among none asked
by_request I Q S t is i e among None none None asked = tt
by_request I Q S t is i e among (Some r) some o asked = tt

requested : (I : AttemptState → Type 0) (Q : AttemptState → Step → Type 0) → Steps I Q → (t : AttemptState) → IsSeizing t.phase → I t → (es : List Seizing) → All (Contains t.devices) es
    → All (Q t) (filter_map (request_for t.plan) es)
requested I Q S t is i [] among = All-nil (Q t)
requested I Q S t is i (e ∷ es) among =
    with_option (Q t) (request_for t.plan e) (filter_map (request_for t.plan) es)
    (by_request I Q S t is i e (All-head (Contains t.devices) e es among) e.result refl e.seizer refl) (requested I Q S t is i es (All-tail (Contains t.devices) e es among))

by_again : (I : AttemptState → Type 0) (Q : AttemptState → Step → Type 0) → Steps I Q → (t : AttemptState) → IsSeizing t.phase → I t → (e : Seizing) → Contains t.devices e
    → (r : Option SeizeResult) → e.result ≡ r → (o : Option ℕ) → e.seizer ≡ o → Maybe (Q t) (again_by t.plan e r o)
by_again I Q S t is i e among None none (Some n) asked =
    if_either (Maybe (Q t)) (n == t.plan.coordinator) None (Some (request t.plan e.kind e.attached.device n)) tt (S.asks t e n is i among none asked)
by_again I Q S t is i e among None none None asked = tt
by_again I Q S t is i e among (Some r) some o asked = tt

asked_again : (I : AttemptState → Type 0) (Q : AttemptState → Step → Type 0) → Steps I Q → (t : AttemptState) → IsSeizing t.phase → I t → (es : List Seizing) → All (Contains t.devices) es
    → All (Q t) (filter_map (again_for t.plan) es)
asked_again I Q S t is i [] among = All-nil (Q t)
asked_again I Q S t is i (e ∷ es) among =
    with_option (Q t) (again_for t.plan e) (filter_map (again_for t.plan) es)
    (by_again I Q S t is i e (All-head (Contains t.devices) e es among) e.result refl e.seizer refl) (asked_again I Q S t is i es (All-tail (Contains t.devices) e es among))

install_steps : (I : AttemptState → Type 0) (Q : AttemptState → Step → Type 0) → Steps I Q → (t : AttemptState) → I t → All (Q t) (installs t)
install_steps I Q S t i = sent (Q t) t.plan (body.Install (install_in t)) (λ n. S.install t n i) (silent_others t)

all_installed : (I : AttemptState → Type 0) (Q : AttemptState → Step → Type 0) → Steps I Q → (t : AttemptState) → I t → All (Q t) (installed t).steps
all_installed I Q S t i = All-cons (Q t) (InstallHere (install_in t)) (installs t) (S.install_here t i) (install_steps I Q S t i)

all_again : (I : AttemptState → Type 0) (Q : AttemptState → Step → Type 0) → Steps I Q → (t : AttemptState) (phase : Phase) → t.phase ≡ phase → I t → All (Q t) (again_in t phase)
all_again I Q S t Collecting is i = sent (Q t) t.plan (body.Collect t.plan.epoch t.plan.members) (S.collect t) (silent_others t)
all_again I Q S t Choosing is i = All-nil (Q t)
all_again I Q S t SeizingVotes is i = asked_again I Q S t (inl is) i t.devices (all_among t.devices)
all_again I Q S t SeizingOthers is i = asked_again I Q S t (inr is) i t.devices (all_among t.devices)
all_again I Q S t Installing is i = install_steps I Q S t i
all_again I Q S t Over is i = All-nil (Q t)

unended : (o : Option SeizeResult) → is_none o ≡ true → o ≡ None
unended None h = refl
unended (Some r) h = absurd (false_true h)

by_entry : (I : AttemptState → Type 0) (Q : AttemptState → Step → Type 0) → Steps I Q → (s : AttemptState) (d n : ℕ) (e : Seizing) → IsSeizing s.phase
    → I (record s { devices = map (with_next d n) s.devices; ticks = 0 }) → (b : Bool) → b ≡ true → e.attached.device ≡ d → e.result ≡ None
    → Contains (map (with_next d n) s.devices) (if b then record e { seizer = Some n; asked = set_with e.asked n } else e)
    → Q (record s { devices = map (with_next d n) s.devices; ticks = 0 }) (request s.plan e.kind d n)
by_entry I Q S s d n e is i true here device none there =
    let t : AttemptState = record s { devices = map (with_next d n) s.devices; ticks = 0 } in
    subst (λ x. Q t (request s.plan e.kind x n)) device (S.asks t (record e { seizer = Some n; asked = set_with e.asked n }) n is i there none refl)
by_entry I Q S s d n e is i false here device none there = absurd (false_true here)

-- the node that is asked next is the one that the entry has then
next_request : (I : AttemptState → Type 0) (Q : AttemptState → Step → Type 0) → Steps I Q → (s : AttemptState) (d from n : ℕ) (e : Seizing) → IsSeizing s.phase
    → find (awaits d from) s.devices ≡ Some e → I (record s { devices = map (with_next d n) s.devices; ticks = 0 })
    → Q (record s { devices = map (with_next d n) s.devices; ticks = 0 }) (request s.plan e.kind d n)
next_request I Q S s d from n e is found i =
    let two : (awaits d from e ≡ true) × Contains s.devices e = found_entry (awaits d from) s.devices e found in
    let here : ((e.attached.device == d) && is_none e.result) ≡ true = (and_cases ((e.attached.device == d) && is_none e.result) (is_asked e.seizer from) two.0).0 in
    let both : ((e.attached.device == d) ≡ true) × (is_none e.result ≡ true) = and_cases (e.attached.device == d) (is_none e.result) here in
    let t : AttemptState = record s { devices = map (with_next d n) s.devices; ticks = 0 } in
    let there : Contains t.devices (with_next d n e) = All-contains (λ x. Contains t.devices (with_next d n x)) s.devices e (all_mapped (with_next d n) s.devices) two.1 in
    by_entry I Q S s d n e is i ((e.attached.device == d) && is_none e.result) here (same_number e.attached.device d both.0) (unended e.result both.1) there

one : (Q : Step → Type 0) (x : Step) → Q x → All Q (x ∷ [])
one Q x h = All-cons Q x [] h (All-nil Q)

pub sends : (I K : AttemptState → Type 0) (Q : AttemptState → Step → Type 0) (c : Call) → Steady c I K → Steps I Q → Walk c (λ s. I s × May s c) K (Holds I Q)
unfolding asked_next installing
sends I K Q c steady S =
    let W : Walk c (λ s. I s × May s c) K (λ u. I u.after) = walk c I K steady in
    record {
      within = λ s i. W.within s i;
      rests = λ s i. (i.0, All-nil (Q s));
      passes = λ s is e i. (W.passes s is e i, All-nil (Q (record s { ticks = later s.ticks })));
      again = λ s is e i. (W.again s is e i, all_again I Q S (record s { ticks = later s.ticks }) s.phase refl (W.again s is e i));
      silent = λ s n is late least i. (
        W.silent s n is late least i,
        one (Q (record s { ticks = later s.ticks; phase = Over })) (Ended (Silent n)) (S.end (record s { ticks = later s.ticks; phase = Over }) (Silent n)),
      );
      superseded = λ s from m q is nack i.
          (W.superseded s from m q is nack i, one (Q (record s { phase = Over })) (Ended (Superseded q)) (S.end (record s { phase = Over }) (Superseded q)));
      promise = λ s from m p is awaited of promised i. W.promise s from m p is awaited of promised i;
      collects = λ s is e k. (W.collects s is e k, sent (Q s) s.plan (body.Collect s.plan.epoch s.plan.members) (S.collect s) (silent_others s));
      collecting = λ s is e k. (W.collecting s is e k, All-nil (Q s));
      no_newest = λ s is all none k. (W.no_newest s is all none k, All-nil (Q s));
      chosen = λ s newest is all some k.
          let t : AttemptState = (chosen s newest).after in
          (W.chosen s newest is all some k, one (Q t) (NeedVotes newest.summary.node) (S.wish t newest.summary.node));
      votes = λ s both is i. W.votes s both is i;
      foreign = λ s both n is given least k.
          (W.foreign s both n is given least k, one (Q (record s { phase = Over })) (Ended (Foreign n)) (S.end (record s { phase = Over }) (Foreign n)));
      excluded = λ s n is least k. (W.excluded s n is least k, one (Q (record s { phase = Over })) (Ended (Excluded n)) (S.end (record s { phase = Over }) (Excluded n)));
      impossible = λ s e is short k. (W.impossible s e is short k, one (Q (record s { phase = Over })) (Ended e) (S.end (record s { phase = Over }) e));
      entries = λ s is enough k. W.entries s is enough k;
      requests = λ s is e k. (W.requests s is e k, requested I Q S s (inl is) (W.requests s is e k) s.devices (all_among s.devices));
      result = λ s d from r e is tells found none i. W.result s d from r e is tells found none i;
      next = λ s d from n r e is tells found next i. (
        W.next s d from n r e is tells found next i,
        one (Q (record s { devices = map (with_next d n) s.devices; ticks = 0 })) (request s.plan e.kind d n)
            (next_request I Q S s d from n e is found (W.next s d from n r e is tells found next i)),
      );
      seizing = λ s is e k. (W.seizing s is e k, All-nil (Q s));
      short = λ s e is all few k. (W.short s e is all few k, one (Q (record s { phase = Over })) (Ended e) (S.end (record s { phase = Over }) e));
      others = λ s is all enough some k.
          let t : AttemptState = record (in_phase s SeizingOthers) { counted = held_set s.devices; devices = s.devices ++ plain_devices s } in
          let i : I t = W.others s is all enough some k in
          (i, requested I Q S t (inr refl) i (plain_devices s) (all_right s.devices (plain_devices s)));
      installs_at_once = λ s is all enough none k.
          let t : AttemptState = in_phase (record s { counted = held_set s.devices }) Installing in
          let i : I t = W.installs_at_once s is all enough none k in
          (i, all_installed I Q S t i);
      installs = λ s is all k.
          let t : AttemptState = in_phase s Installing in
          let i : I t = W.installs s is all k in
          (i, all_installed I Q S t i);
      ready = λ s from m is at of ready_body i. W.ready s from m is at of ready_body i;
      own = λ s is at i. W.own s is at i;
      installing = λ s at e k. (W.installing s at e k, All-nil (Q s));
      starts = λ s at e k.
          let t : AttemptState = record s { phase = Over } in
          (W.starts s at e k, All-cons (Q t) StartHere (map (send_start s.plan) (others_of s.plan)) (S.start_here t) (sent (Q t) s.plan (body.Start s.plan.epoch) (S.start t) (others_of s.plan)));
    }

pub call_sends : (I K : AttemptState → Type 0) (Q : AttemptState → Step → Type 0) (s : AttemptState) (c : Call) → Steady c I K → Steps I Q → May s c → I s → Holds I Q (turn s c)
call_sends I K Q s c steady S may i = walks (λ x. I x × May x c) K (Holds I Q) s c (sends I K Q c steady S) (i, may)

pub first_sends : (I K : AttemptState → Type 0) (Q : AttemptState → Step → Type 0) → Steady Tick I K → Steps I Q → (s : AttemptState) → s.phase ≡ Collecting → K s → Holds I Q (begun s)
first_sends I K Q steady S s is k = walks_begun Tick (λ x. I x × May x Tick) K (Holds I Q) (sends I K Q Tick steady S) s is k

-- Each message is one of the attempt.

own_request : (t : AttemptState) (kind : SeizeKind) (d : ℕ) → IsOwn t (request_body t.plan kind d)
own_request t Vote d = (refl, refl)
own_request t Plain d = (refl, refl)

abbrev HasPlan : Plan → AttemptState → Type 0
HasPlan plan s = s.plan ≡ plan

own_steps : (plan : Plan) → Steps (HasPlan plan) IsOwnStep
own_steps plan = record {
  asks = λ t e n is i among none asked.
      if_either (IsOwnStep t) (n == t.plan.coordinator) (SeizeHere e.attached.device e.kind)
      (Send n (record { sender = t.plan.coordinator; body = request_body t.plan e.kind e.attached.device })) tt (refl, own_request t e.kind e.attached.device);
  wish = λ t n. tt;
  start_here = λ t. tt;
  end = λ t e. tt;
  collect = λ t n. (refl, (refl, refl));
  start = λ t n. (refl, refl);
  install = λ t n i. (refl, refl);
  install_here = λ t i. refl;
}

pub sends_are_own : SendsAreOwn
sends_are_own s c may = (call_sends (HasPlan s.plan) (HasPlan s.plan) IsOwnStep s c (plan_steady s.plan c) (own_steps s.plan) may refl).1

pub first_sends_are_own : FirstSendsAreOwn
unfolding beginning
first_sends_are_own p members own attached cluster =
    let first : AttemptState = first_state p members own attached cluster (promises_of (promised_by own (shown_by own.sender own.body))) in
    (first_sends (HasPlan first.plan) (HasPlan first.plan) IsOwnStep (plan_steady first.plan Tick) (own_steps first.plan) first refl refl).1

-- Each request is for an entry.

asks_in : (t : AttemptState) (kind : SeizeKind) (n d : ℕ) → AsksFor t kind n d → AsksIn t n (request_body t.plan kind d)
asks_in t Vote n d h = h
asks_in t Plain n d h = h

entry_steps : Steps Numbered AsksEntry
entry_steps = record {
  asks = λ t e n is i among none asked.
      let number : IsNumbered e = All-contains IsNumbered t.devices e i.1 among in
      let asks : AsksFor t e.kind n e.attached.device = record { entry = e; listed = among; device = refl; as_kind = refl; seizer = asked; awaited = none; seizing = is; low = number.0; high = number.1 } in
      if_with (AsksEntry t) (n == t.plan.coordinator) (n == t.plan.coordinator) (SeizeHere e.attached.device e.kind)
      (Send n (record { sender = t.plan.coordinator; body = request_body t.plan e.kind e.attached.device })) refl
      (λ k. subst (λ m. AsksFor t e.kind m e.attached.device) (same_number n t.plan.coordinator k) asks)
      (λ k. asks_in t e.kind n e.attached.device asks);
  wish = λ t n. tt;
  start_here = λ t. tt;
  end = λ t e. tt;
  collect = λ t n. tt;
  start = λ t n. tt;
  install = λ t n i. tt;
  install_here = λ t i. tt;
}

pub asks_are_entries : AsksAreEntries
asks_are_entries s c reached may = (call_sends Numbered Numbered AsksEntry s c (numbered_steady c) entry_steps may (numbered_reached s reached)).1

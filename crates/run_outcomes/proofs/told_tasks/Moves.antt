-- What a call makes of the entries of an attempt that seizes: one is answered, or another member is asked, or nothing is done; others may come behind.
use Rattle.std.specs.Prelude.{ℕ, ◌≡◌, ◌⊎◌, ◌==◌, ◌&&◌, nat_le, not, Bool, true, false, if◌then◌else◌, List, [], ◌∷◌, ◌++◌, length, map, Option, None, Some}
use Rattle.std.specs.List.{filter_map, find}
use Rattle.std.proofs.Common.{refl, sym, ap, subst, ◌∙◌, arith, append-nil, inl, inr}
use Rattle.cl_base.specs.Seizings.{SeizeResult}
use Rattle.cmm_attempt.proofs.Basics.{and_cases, false_true}
use Rattle.cmm_attempt.specs.Attempts.{AttemptState, Turn, again_in, answered_on, answering, answering_in, asked_next, awaits_promise, awaits_ready, counted_by, counting, in_phase, installed, installing, is_missing, is_of, is_over, later, next_asked, own_answering, own_readying, own_readying_in, plain_devices, proceeding, promising, readying, seizing_others, settled, settled_in, shortage, silenced, starting, taken, taking, ticked, ticking, waits, with_promise, with_steps}
use Rattle.cmm_attempt.specs.Promises.{promised_by, shown_by}
use Rattle.seize.specs.declared.kind.SeizeKind.{SeizeKind}
use Rattle.wire.specs.Kinds.{is_ready}
use Rattle.cmm_attempt.specs.Calls.{Call, Own_ready, Own_seized, Take, Tick, With_votes, turn}
use Rattle.cmm_attempt.specs.Seizings.{all_settled, awaits, held_set, next_by, request_for, with_next, with_result}
use Rattle.cmm_attempt.specs.declared.counting.BothVotes.{BothVotes}
use Rattle.cmm_attempt.specs.declared.phase.Phase.{Phase}
use Rattle.cmm_attempt.specs.declared.phase.Phase.TheVariants.{Choosing, Collecting, Installing, Over, SeizingOthers, SeizingVotes}
use Rattle.cmm_attempt.specs.declared.seizing.Seizing.{Seizing}
use Rattle.cmm_attempt.specs.declared.step.AttemptEnd.{AttemptEnd}
use Rattle.wire.specs.declared.message.Body.{Body}
use Rattle.wire.specs.declared.message.Body.TheVariants as body
use Rattle.wire.specs.declared.message.Message.{Message}
use Rattle.attempt_laws.proofs.Walk.{TellsResult}
use Rattle.run_outcomes.specs.phases.Laws.{is_seizing}

-- ---- what is changed

pub record Answer (a : AttemptState) (c : Call) (change : Seizing → Seizing) : Type 0 where
  pub device : ℕ
  pub from : ℕ
  pub result : SeizeResult
  pub entry : Seizing
  pub tells : TellsResult c a device from result
  pub found : find (awaits device from) a.devices ≡ Some entry
  pub last : next_by a.plan.cluster a.promises a.plan.nodes entry entry.kind result ≡ None
  pub is : (e : Seizing) → change e ≡ with_result device result e

pub record Asks (a : AttemptState) (c : Call) (change : Seizing → Seizing) : Type 0 where
  pub device : ℕ
  pub from : ℕ
  pub next : ℕ
  pub result : SeizeResult
  pub entry : Seizing
  pub tells : TellsResult c a device from result
  pub found : find (awaits device from) a.devices ≡ Some entry
  pub follows : next_by a.plan.cluster a.promises a.plan.nodes entry entry.kind result ≡ Some next
  pub is : (e : Seizing) → change e ≡ with_next device next e

pub record Moved (a : AttemptState) (c : Call) (es : List Seizing) : Type 0 where
  pub change : Seizing → Seizing
  pub more : List Seizing
  pub parts : es ≡ map change a.devices ++ more
  pub how : ((e : Seizing) → change e ≡ e) ⊎ (Answer a c change ⊎ Asks a c change)

abbrev pub Moves : AttemptState → Call → Turn → Type 0
Moves a c t = is_seizing t.after.phase ≡ true → Moved a c t.after.devices

map_same : (xs : List Seizing) → map (λ (e : Seizing). e) xs ≡ xs
map_same [] = refl
map_same (x ∷ xs) = ap (λ ys. x ∷ ys) (map_same xs)

unmoved : (a : AttemptState) (c : Call) → Moved a c a.devices
unmoved a c = record { change = λ e. e; more = []; parts = sym (append-nil (map (λ (e : Seizing). e) a.devices) ∙ map_same a.devices); how = inl (λ e. refl) }

no_seizing : (t : Turn) (a : AttemptState) (c : Call) → is_seizing t.after.phase ≡ false → Moves a c t
no_seizing t a c off is = absurd (false_true (sym off ∙ is))

-- ---- an answer

-- with others behind, or not
with_others : (a : AttemptState) (c : Call) (d : ℕ) (r : SeizeResult) (more : List Seizing) → Answer a c (with_result d r) → Moved a c (map (with_result d r) a.devices ++ more)
with_others a c d r more k = record { change = with_result d r; more = more; parts = refl; how = inr (inl k) }

alone : (a : AttemptState) (c : Call) (d : ℕ) (r : SeizeResult) → Answer a c (with_result d r) → Moved a c (map (with_result d r) a.devices)
alone a c d r k = record { change = with_result d r; more = []; parts = sym (append-nil (map (with_result d r) a.devices)); how = inr (inl k) }

plain_moves : (a : AttemptState) (c : Call) (d : ℕ) (r : SeizeResult) (counted : ℕ) → Answer a c (with_result d r)
    → Moves a c (seizing_others (record a { devices = map (with_result d r) a.devices; counted = counted }))
unfolding seizing_others installing
plain_moves a c d r counted k = by_none (length (plain_devices t) == 0)
  where
    t : AttemptState
    t = record a { devices = map (with_result d r) a.devices; counted = counted }

    by_none : (b : Bool)
        → Moves a c (if b then installed (in_phase t Installing) else with_steps (record (in_phase t SeizingOthers) { devices = t.devices ++ plain_devices t }) (filter_map (request_for t.plan) (plain_devices t)))
    by_none true = λ is. absurd (false_true is)
    by_none false = λ is. with_others a c d r (plain_devices t) k

counted_moves : (a : AttemptState) (c : Call) (d : ℕ) (r : SeizeResult) → Answer a c (with_result d r) → Moves a c (counting (record a { devices = map (with_result d r) a.devices }))
unfolding counting
counted_moves a c d r k = by_short (shortage t (held_set t.devices))
  where
    t : AttemptState
    t = record a { devices = map (with_result d r) a.devices }

    by_short : (o : Option AttemptEnd) → Moves a c (counted_by t o)
    by_short (Some e) = λ is. absurd (false_true is)
    by_short None = plain_moves a c d r (held_set t.devices) k

ended_moves : (a : AttemptState) (c : Call) (d : ℕ) (r : SeizeResult) → Answer a c (with_result d r) → Moves a c (settled a d r)
unfolding settled proceeding installing
ended_moves a c d r k = by_settled (all_settled t.devices)
  where
    t : AttemptState
    t = record a { devices = map (with_result d r) a.devices }

    by_phase : (p : Phase) → Moves a c (settled_in t p)
    by_phase SeizingVotes = counted_moves a c d r k
    by_phase SeizingOthers = λ is. absurd (false_true is)
    by_phase Collecting = λ is. alone a c d r k
    by_phase Choosing = λ is. alone a c d r k
    by_phase Installing = λ is. alone a c d r k
    by_phase Over = λ is. alone a c d r k

    by_settled : (b : Bool) → Moves a c (if b then settled_in t t.phase else waits t)
    by_settled true = by_phase t.phase
    by_settled false = λ is. alone a c d r k

next_moves : (a : AttemptState) (c : Call) (d n : ℕ) (kind : SeizeKind) → Asks a c (with_next d n) → Moves a c (asked_next a d kind n)
unfolding asked_next
next_moves a c d n kind k = λ is. record { change = with_next d n; more = []; parts = sym (append-nil (map (with_next d n) a.devices)); how = inr (inr k) }

answer_moves : (a : AttemptState) (c : Call) (d from : ℕ) (r : SeizeResult) → TellsResult c a d from r → Moves a c (answering a d from r)
unfolding answering
answer_moves a c d from r tells = by_entry (find (awaits d from) a.devices) refl
  where
    by_next : (e : Seizing) → find (awaits d from) a.devices ≡ Some e → (o : Option ℕ) → next_by a.plan.cluster a.promises a.plan.nodes e e.kind r ≡ o → Moves a c (next_asked a d r e o)
    by_next e found None is = ended_moves a c d r (record { device = d; from = from; result = r; entry = e; tells = tells; found = found; last = is; is = λ x. refl })
    by_next e found (Some n) is =
        next_moves a c d n e.kind (record { device = d; from = from; next = n; result = r; entry = e; tells = tells; found = found; follows = is; is = λ x. refl })

    by_entry : (o : Option Seizing) → find (awaits d from) a.devices ≡ o → Moves a c (answered_on a d r o)
    by_entry None is = λ z. unmoved a c
    by_entry (Some e) is = by_next e is (next_by a.plan.cluster a.promises a.plan.nodes e e.kind r) refl

in_moves : (a : AttemptState) (c : Call) (d from : ℕ) (r : SeizeResult) (p : Phase) → TellsResult c a d from r → Moves a c (answering_in a d from r p)
in_moves a c d from r SeizingVotes tells = answer_moves a c d from r tells
in_moves a c d from r SeizingOthers tells = answer_moves a c d from r tells
in_moves a c d from r Collecting tells = λ is. unmoved a c
in_moves a c d from r Choosing tells = λ is. unmoved a c
in_moves a c d from r Installing tells = λ is. unmoved a c
in_moves a c d from r Over tells = λ is. unmoved a c

-- ---- each call, but that which gives the votes

same_epoch : (a b : ℕ) → (a == b) ≡ true → a ≡ b
same_epoch a b h = grind arith

no_promise : (a : AttemptState) (from : ℕ) (p : Phase) → is_seizing p ≡ true → awaits_promise a from p ≡ false
no_promise a from SeizingVotes is = refl
no_promise a from SeizingOthers is = refl
no_promise a from Collecting is = absurd (false_true is)
no_promise a from Choosing is = absurd (false_true is)
no_promise a from Installing is = absurd (false_true is)
no_promise a from Over is = absurd (false_true is)

no_ready : (a : AttemptState) (from : ℕ) (p : Phase) → is_seizing p ≡ true → awaits_ready a from p ≡ false
no_ready a from SeizingVotes is = refl
no_ready a from SeizingOthers is = refl
no_ready a from Collecting is = absurd (false_true is)
no_ready a from Choosing is = absurd (false_true is)
no_ready a from Installing is = absurd (false_true is)
no_ready a from Over is = absurd (false_true is)

promising_moves : (a : AttemptState) (c : Call) (from : ℕ) (m : Message) → is_seizing a.phase ≡ true → Moves a c (promising a from m)
unfolding promising
promising_moves a c from m seizing = subst (λ b. Moves a c (if b then with_promise a (promised_by m (shown_by from m.body)) else waits a)) (sym (no_promise a from a.phase seizing)) (λ is. unmoved a c)

readying_moves : (a : AttemptState) (c : Call) (from : ℕ) (m : Message) → is_seizing a.phase ≡ true → Moves a c (readying a from m)
unfolding readying
readying_moves a c from m seizing =
    subst (λ b. Moves a c (if b && is_ready m.body then starting (record a { readies = a.readies ++ record { node = from; message = m } ∷ [] }) else waits a))
    (sym (no_ready a from a.phase seizing)) (λ is. unmoved a c)

taken_moves : (a : AttemptState) (from : ℕ) (m : Message) (b : Body) → m.body ≡ b → is_of a.plan.epoch b ≡ true → is_seizing a.phase ≡ true → Moves a (Take from m) (taken a from m b)
taken_moves a from m (body.Promise epoch installed members valid flagged committed pending) at of seizing = promising_moves a (Take from m) from m seizing
taken_moves a from m (body.Nack epoch promised) at of seizing = λ is. absurd (false_true is)
taken_moves a from m (body.Seized epoch device outcome) at of seizing =
    in_moves a (Take from m) device from outcome a.phase (refl, at ∙ ap (λ p. body.Seized p device outcome) (same_epoch epoch a.plan.epoch of))
taken_moves a from m (body.Ready epoch joined report) at of seizing = readying_moves a (Take from m) from m seizing
taken_moves a from m _ at of seizing = λ is. unmoved a (Take from m)

taking_moves : (a : AttemptState) (from : ℕ) (m : Message) → is_seizing a.phase ≡ true → Moves a (Take from m) (taking a from m)
unfolding taking
taking_moves a from m seizing = by_test (not (is_over a.phase) && is_of a.plan.epoch m.body) refl
  where
    by_test : (b : Bool) → (not (is_over a.phase) && is_of a.plan.epoch m.body) ≡ b → Moves a (Take from m) (if b then taken a from m m.body else waits a)
    by_test true is = taken_moves a from m m.body refl (and_cases (not (is_over a.phase)) (is_of a.plan.epoch m.body) is).1 seizing
    by_test false is = λ z. unmoved a (Take from m)

ticking_moves : (a : AttemptState) → Moves a Tick (ticking a)
unfolding ticking
ticking_moves a = by_over (is_over a.phase)
  where
    t : AttemptState
    t = record a { ticks = later a.ticks }

    by_silent : (o : Option ℕ) → Moves a Tick (silenced t o)
    by_silent None = λ is. unmoved a Tick
    by_silent (Some m) = λ is. absurd (false_true is)

    by_fourth : (b : Bool) → Moves a Tick (if b then with_steps t (again_in t t.phase) else waits t)
    by_fourth true = λ is. unmoved a Tick
    by_fourth false = λ is. unmoved a Tick

    by_late : (b : Bool) → Moves a Tick (if b then silenced t (find (is_missing t) t.plan.nodes) else (if t.ticks == 4 then with_steps t (again_in t t.phase) else waits t))
    by_late true = by_silent (find (is_missing t) t.plan.nodes)
    by_late false = by_fourth (t.ticks == 4)

    by_over : (b : Bool) → Moves a Tick (if b then waits a else ticked t)
    by_over true = λ is. unmoved a Tick
    by_over false = by_late (nat_le 8 t.ticks)

readied_moves : (a : AttemptState) (p : Phase) → is_seizing p ≡ true → Moves a Own_ready (own_readying_in a p)
readied_moves a SeizingVotes is = λ z. unmoved a Own_ready
readied_moves a SeizingOthers is = λ z. unmoved a Own_ready
readied_moves a Collecting is = absurd (false_true is)
readied_moves a Choosing is = absurd (false_true is)
readied_moves a Installing is = absurd (false_true is)
readied_moves a Over is = absurd (false_true is)

pub call_moves : (a : AttemptState) (c : Call) → ((both : BothVotes) → c ≡ With_votes both → ⊥) → is_seizing a.phase ≡ true → Moves a c (turn a c)
unfolding own_answering own_readying
call_moves a (Take from m) none seizing = taking_moves a from m seizing
call_moves a (With_votes both) none seizing = absurd (none both refl)
call_moves a (Own_seized d r) none seizing = in_moves a (Own_seized d r) d a.plan.coordinator r a.phase (refl, refl, refl)
call_moves a Own_ready none seizing = readied_moves a a.phase seizing
call_moves a Tick none seizing = ticking_moves a

-- Whatever calls an attempt takes, it goes on in its phase with no tick fewer, or it chooses, ends, installs, or has asked a member anew.
use Rattle.std.specs.Prelude.{ℕ, ◌+◌, ◌==◌, ◌≡◌, ◌≤◌, ◌⊎◌, ◌&&◌, ◌++◌, nat_le, not, Bool, true, false, [], ◌∷◌, Option, None, Some, find, if◌then◌else◌}
use Rattle.std.proofs.Common.{arith, refl, sym, ap, subst, ◌∙◌, inl, inr}
use Rattle.attempt_laws.specs.Asking.{AreApart, entry_numbers, entry_of}
use Rattle.cl_base.specs.Seizings.{SeizeResult}
use Rattle.cmm_attempt.proofs.Basics.{false_true, if_either}
use Rattle.cmm_attempt.specs.Attempts.{AttemptState, Turn, again_in, all_promised, all_ready, answering_in, awaits_promise, awaits_ready, chosen_by, choosing, is_missing, is_of, is_over, later, own_answering, own_readying, own_readying_in, promising, readying, silenced, starting, taken, taking, ticked, ticking, waits, with_promise, with_steps}
use Rattle.cmm_attempt.specs.Calls.{Call, May, Own_ready, Own_seized, Take, Tick, With_votes, turn}
use Rattle.cmm_attempt.specs.Promises.{newest_shown, promised_by, shown_by}
use Rattle.cmm_attempt.specs.declared.counting.BothVotes.{BothVotes}
use Rattle.cmm_attempt.specs.declared.phase.Phase.{Phase}
use Rattle.cmm_attempt.specs.declared.phase.Phase.TheVariants.{Choosing, Collecting, Installing, Over, SeizingOthers, SeizingVotes}
use Rattle.cmm_attempt.specs.declared.promised.Promised.{Promised}
use Rattle.cmm_attempt.specs.declared.promised.Shown.{Shown}
use Rattle.run_downs.proofs.Courses.{by_test}
use Rattle.wire.specs.Kinds.{is_ready}
use Rattle.wire.specs.declared.message.Body.{Body}
use Rattle.wire.specs.declared.message.Body.TheVariants as body
use Rattle.wire.specs.declared.message.Message.{Message}
use Rattle.run_outcomes.specs.silence.Anew.{has_asked_at}
use Rattle.run_outcomes.proofs.silence.ends.Moves.{IsPlan, Lasts, Moves, answer_m, lasts_moves}

abbrev Goes : ℕ → AttemptState → Turn → Type 0
Goes f o u = Moves f o u.after

like : (f : ℕ) (o s t : AttemptState) → t.ticks ≡ s.ticks → t.phase ≡ s.phase → t.devices ≡ s.devices → Lasts f o s → Lasts f o t
like f o s t ticks phase devices h = record {
  ticks = subst (λ k. f ≤ k) (sym ticks) h.ticks;
  phase = phase ∙ h.phase;
  asked = λ d m. ap (λ es. has_asked_at m (entry_of es d)) devices ∙ h.asked d m;
  apart = subst (λ es. AreApart (entry_numbers es)) (sym devices) h.apart;
}

over_goes : (f : ℕ) (o s : AttemptState) → s.phase ≡ Over → Moves f o s
over_goes f o s is = inr (inr (inl is))

-- ---- Promises and Readies

chosen_m : (f : ℕ) (o s : AttemptState) (n : Option Shown) → s.phase ≡ Collecting → Lasts f o s → Goes f o (chosen_by s n)
chosen_m f o s None at h = lasts_moves f o s h
chosen_m f o s (Some newest) at h = inl (refl, sym h.phase ∙ at)

choosing_m : (f : ℕ) (o s : AttemptState) → s.phase ≡ Collecting → Lasts f o s → Goes f o (choosing s)
unfolding choosing
choosing_m f o s at h = chosen_m f o s (newest_shown s.promises) at h

promise_m : (f : ℕ) (o s : AttemptState) (p : Option Promised) → s.phase ≡ Collecting → Lasts f o s → Goes f o (with_promise s p)
promise_m f o s None at h = lasts_moves f o s h
promise_m f o s (Some p) at h =
    let t : AttemptState = record s { promises = s.promises ++ p ∷ [] } in
    let k : Lasts f o t = like f o s t refl refl refl h in
    if_either (Goes f o) (all_promised t) (choosing t) (waits t) (choosing_m f o t at k) (lasts_moves f o t k)

collects : (s : AttemptState) (n : ℕ) (p : Phase) → awaits_promise s n p ≡ true → p ≡ Collecting
collects s n Collecting h = refl
collects s n Choosing h = absurd (false_true h)
collects s n SeizingVotes h = absurd (false_true h)
collects s n SeizingOthers h = absurd (false_true h)
collects s n Installing h = absurd (false_true h)
collects s n Over h = absurd (false_true h)

promising_m : (f : ℕ) (o s : AttemptState) (from : ℕ) (m : Message) → Lasts f o s → Goes f o (promising s from m)
unfolding promising
promising_m f o s from m h =
    by_test (Goes f o) (awaits_promise s from s.phase) (with_promise s (promised_by m (shown_by from m.body))) (waits s)
    (λ is. promise_m f o s (promised_by m (shown_by from m.body)) (collects s from s.phase is) h) (λ none. lasts_moves f o s h)

starting_m : (f : ℕ) (o s : AttemptState) → Lasts f o s → Goes f o (starting s)
unfolding starting
starting_m f o s h = if_either (Goes f o) (s.own_ready && all_ready s) (with_steps (record s { phase = Over }) _) (waits s) (over_goes f o (record s { phase = Over }) refl) (lasts_moves f o s h)

readying_m : (f : ℕ) (o s : AttemptState) (from : ℕ) (m : Message) → Lasts f o s → Goes f o (readying s from m)
unfolding readying
readying_m f o s from m h =
    let t : AttemptState = record s { readies = s.readies ++ record { node = from; message = m } ∷ [] } in
    if_either (Goes f o) (awaits_ready s from s.phase && is_ready m.body) (starting t) (waits s) (starting_m f o t (like f o s t refl refl refl h)) (lasts_moves f o s h)

own_m : (f : ℕ) (o s : AttemptState) (p : Phase) → Lasts f o s → Goes f o (own_readying_in s p)
own_m f o s Installing h = starting_m f o (record s { own_ready = true }) (like f o s (record s { own_ready = true }) refl refl refl h)
own_m f o s Collecting h = lasts_moves f o s h
own_m f o s Choosing h = lasts_moves f o s h
own_m f o s SeizingVotes h = lasts_moves f o s h
own_m f o s SeizingOthers h = lasts_moves f o s h
own_m f o s Over h = lasts_moves f o s h

taken_m : (f : ℕ) (o s : AttemptState) (from : ℕ) (m : Message) (b : Body) → IsPlan s.plan → Lasts f o s → Goes f o (taken s from m b)
taken_m f o s from m (body.Promise e installed members valid flagged committed pending) plan h = promising_m f o s from m h
taken_m f o s from m (body.Nack e promised) plan h = over_goes f o (record s { phase = Over }) refl
taken_m f o s from m (body.Seized e d r) plan h = answer_m f o s d from r s.phase refl plan h
taken_m f o s from m (body.Ready e joined report) plan h = readying_m f o s from m h
taken_m f o s from m _ plan h = lasts_moves f o s h

-- ---- a tick

no_fewer : (f k : ℕ) → f ≤ 8 → f ≤ k → f ≤ later k
no_fewer f k most h = by_late (nat_le 8 k)
  where
    more : f ≤ k → f ≤ k + 1
    more le = omega (arith, le)

    by_late : (b : Bool) → f ≤ (if b then 8 else k + 1)
    by_late true = most
    by_late false = more h

silenced_m : (f : ℕ) (o s : AttemptState) (m : Option ℕ) → Moves f o s → Goes f o (silenced s m)
silenced_m f o s None h = h
silenced_m f o s (Some m) h = over_goes f o (record s { phase = Over }) refl

tick_m : (f : ℕ) (o s : AttemptState) → f ≤ 8 → Lasts f o s → Goes f o (ticking s)
unfolding ticking
tick_m f o s most h =
    let z : AttemptState = record s { ticks = later s.ticks } in
    let k : Moves f o z = lasts_moves f o z (record { ticks = no_fewer f s.ticks most h.ticks; phase = h.phase; asked = h.asked; apart = h.apart }) in
    if_either (Goes f o) (is_over s.phase) (waits s) (ticked z) (lasts_moves f o s h)
    (if_either (Goes f o) (nat_le 8 z.ticks) (silenced z (find (is_missing z) z.plan.nodes)) (if z.ticks == 4 then with_steps z (again_in z z.phase) else waits z) (silenced_m f o z (find (is_missing z) z.plan.nodes) k)
    (if_either (Goes f o) (z.ticks == 4) (with_steps z (again_in z z.phase)) (waits z) k k))

-- each call but the one that gives votes
pub one_call : (f : ℕ) (o s : AttemptState) (k : Call) → (s.phase ≡ Choosing → ⊥) → May s k → f ≤ 8 → IsPlan s.plan → Lasts f o s → Goes f o (turn s k)
unfolding taking own_answering own_readying
one_call f o s (Take from m) rests may most plan h = if_either (Goes f o) (not (is_over s.phase) && is_of s.plan.epoch m.body) (taken s from m m.body) (waits s) (taken_m f o s from m m.body plan h) (lasts_moves f o s h)
one_call f o s (With_votes both) rests may most plan h = absurd (rests may)
one_call f o s (Own_seized d r) rests may most plan h = answer_m f o s d s.plan.coordinator r s.phase refl plan h
one_call f o s Own_ready rests may most plan h = own_m f o s s.phase h
one_call f o s Tick rests may most plan h = tick_m f o s most h

-- ---- one that chooses, or is over

abbrev pub Rests : Phase → Turn → Type 0
Rests p u = (u.after.phase ≡ p) ⊎ (u.after.phase ≡ Over)

abbrev pub IsStill : Phase → Type 0
IsStill Choosing = Unit {0}
IsStill Over = Unit {0}
IsStill _ = ⊥

still_answer : (s : AttemptState) (d from : ℕ) (r : SeizeResult) (p : Phase) → IsStill p → answering_in s d from r p ≡ waits s
still_answer s d from r Choosing h = refl
still_answer s d from r Over h = refl
still_answer s d from r Collecting h = absurd h
still_answer s d from r SeizingVotes h = absurd h
still_answer s d from r SeizingOthers h = absurd h
still_answer s d from r Installing h = absurd h

still_promise : (s : AttemptState) (n : ℕ) (p : Phase) → IsStill p → awaits_promise s n p ≡ false
still_promise s n Choosing h = refl
still_promise s n Over h = refl
still_promise s n _ h = absurd h

still_ready : (s : AttemptState) (n : ℕ) (p : Phase) → IsStill p → awaits_ready s n p ≡ false
still_ready s n Choosing h = refl
still_ready s n Over h = refl
still_ready s n _ h = absurd h

still_own : (s : AttemptState) (p : Phase) → IsStill p → own_readying_in s p ≡ waits s
still_own s Choosing h = refl
still_own s Over h = refl
still_own s Collecting h = absurd h
still_own s SeizingVotes h = absurd h
still_own s SeizingOthers h = absurd h
still_own s Installing h = absurd h

taken_still : (s : AttemptState) (from : ℕ) (m : Message) (b : Body) → IsStill s.phase → Rests s.phase (taken s from m b)
unfolding promising readying
taken_still s from m (body.Promise e installed members valid flagged committed pending) h = subst (λ t. Rests s.phase (if t then with_promise s (promised_by m (shown_by from m.body)) else waits s)) (sym (still_promise s from s.phase h)) (inl refl)
taken_still s from m (body.Nack e promised) h = inr refl
taken_still s from m (body.Seized e d r) h = subst (Rests s.phase) (sym (still_answer s d from r s.phase h)) (inl refl)
taken_still s from m (body.Ready e joined report) h =
    subst (λ t. Rests s.phase (if t && is_ready m.body then starting (record s { readies = s.readies ++ record { node = from; message = m } ∷ [] }) else waits s)) (sym (still_ready s from s.phase h)) (inl refl)
taken_still s from m _ h = inl refl

silenced_still : (s : AttemptState) (m : Option ℕ) → Rests s.phase (silenced s m)
silenced_still s None = inl refl
silenced_still s (Some m) = inr refl

pub still_call : (s : AttemptState) (k : Call) → ((both : BothVotes) → k ≡ With_votes both → ⊥) → IsStill s.phase → Rests s.phase (turn s k)
unfolding taking own_answering own_readying ticking
still_call s (Take from m) none h = if_either (Rests s.phase) (not (is_over s.phase) && is_of s.plan.epoch m.body) (taken s from m m.body) (waits s) (taken_still s from m m.body h) (inl refl)
still_call s (With_votes both) none h = absurd (none both refl)
still_call s (Own_seized d r) none h = subst (Rests s.phase) (sym (still_answer s d s.plan.coordinator r s.phase h)) (inl refl)
still_call s Own_ready none h = subst (Rests s.phase) (sym (still_own s s.phase h)) (inl refl)
still_call s Tick none h =
    let z : AttemptState = record s { ticks = later s.ticks } in
    if_either (Rests s.phase) (is_over s.phase) (waits s) (ticked z) (inl refl)
    (if_either (Rests s.phase) (nat_le 8 z.ticks) (silenced z (find (is_missing z) z.plan.nodes)) (if z.ticks == 4 then with_steps z (again_in z z.phase) else waits z) (silenced_still z (find (is_missing z) z.plan.nodes))
    (if_either (Rests s.phase) (z.ticks == 4) (with_steps z (again_in z z.phase)) (waits z) (inl refl) (inl refl)))

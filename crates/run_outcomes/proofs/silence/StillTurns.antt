-- A call leaves an attempt in its phase, with nothing asked anew, or its ticks begin again.
use Rattle.std.specs.Prelude.{ℕ, ◌+◌, ◌==◌, ◌≡◌, ◌≤◌, ◌⊎◌, ◌&&◌, ◌++◌, not, nat_le, Bool, true, false, [], ◌∷◌, Option, None, Some, find, length, map, option_map, is_none, if◌then◌else◌}
use Rattle.std.specs.List.{filter_map}
use Rattle.std.proofs.Common.{arith, refl, sym, ap, subst, ◌∙◌, inl, inr}
use Rattle.attempt_laws.specs.Asking.{entry_of}
use Rattle.cl_base.specs.Seizings.{SeizeResult}
use Rattle.cmm_attempt.proofs.Basics.{false_true, if_either}
use Rattle.cmm_attempt.specs.Attempts.{AttemptState, Turn, admitted, all_promised, all_ready, answered_on, answering, answering_in, asked_next, asked_votes, awaits_promise, awaits_ready, chosen_by, choosing, counted_by, counting, again_in, in_phase, installing, is_missing, is_of, is_over, known, knowing, later, next_asked, own_answering, own_readying, own_readying_in, plain_devices, possible, proceeding, promising, readying, seizing_others, seizing_votes, settled, settled_in, shortage, silenced, starting, taken, taking, ticked, ticking, vote_entries, voting, waits, with_promise, with_steps}
use Rattle.cmm_attempt.specs.Calls.{Call, Own_ready, Own_seized, Take, Tick, With_votes, turn}
use Rattle.cmm_attempt.specs.Counts.{first_foreign, reached_set}
use Rattle.cmm_attempt.specs.Promises.{first_left_out, newest_shown, promised_by, shown_by}
use Rattle.cmm_attempt.specs.Seizings.{all_settled, awaits, held_set, next_by, request_for, with_result}
use Rattle.cmm_attempt.specs.declared.counting.BothVotes.{BothVotes}
use Rattle.cmm_attempt.specs.declared.phase.Phase.{Phase}
use Rattle.cmm_attempt.specs.declared.phase.Phase.TheVariants.{Choosing, Collecting, Installing, Over, SeizingOthers, SeizingVotes}
use Rattle.cmm_attempt.specs.declared.promised.Promised.{Promised}
use Rattle.cmm_attempt.specs.declared.promised.Shown.{Shown}
use Rattle.cmm_attempt.specs.declared.seizing.Seizing.{Seizing}
use Rattle.cmm_attempt.specs.declared.step.AttemptEnd.{AttemptEnd}
use Rattle.wire.specs.Kinds.{is_ready}
use Rattle.wire.specs.declared.message.Body.{Body}
use Rattle.wire.specs.declared.message.Body.TheVariants as body
use Rattle.wire.specs.declared.message.Message.{Message}
use Rattle.run_outcomes.specs.silence.Still.{Goes, Still, StillOf, asked_at, awaited_at}
use Rattle.run_outcomes.proofs.seized.Finding.{entry_mapped}

-- ---- states

abbrev After : ℕ → Option AttemptState → Turn → Type 0
After l o u = Goes l o u.after

same_le : (n : ℕ) → n ≤ n + 0
same_le n = omega arith

pub still_self : (a : AttemptState) → Still 0 a a
still_self a = record { phase = inl refl; plan = refl; asked = λ d. refl; awaited = λ d m is. is; ticks = same_le a.ticks }

-- the same, but for Promises, Readies, and what is ready
abbrev IsLike : AttemptState → AttemptState → Type 0
IsLike s t = (t.phase ≡ s.phase) × (t.plan ≡ s.plan) × (t.devices ≡ s.devices) × (t.ticks ≡ s.ticks)

like_of : (later : ℕ) (o : Option AttemptState) (s t : AttemptState) → IsLike s t → StillOf later o s → StillOf later o t
like_of later None s t like h = h
like_of later (Some a) s t like h = record {
  phase = by_phase h.phase;
  plan = like.1 ∙ h.plan;
  asked = λ d. ap (λ es. asked_at (entry_of es d)) like.2 ∙ h.asked d;
  awaited = λ d m is. h.awaited d m (sym (ap (λ es. awaited_at m (entry_of es d)) like.2) ∙ is);
  ticks = subst (λ n. n ≤ a.ticks + later) (sym like.3) h.ticks;
}
  where
    by_phase : (s.phase ≡ a.phase) ⊎ (s.phase ≡ Over) → (t.phase ≡ a.phase) ⊎ (t.phase ≡ Over)
    by_phase (inl is) = inl (like.0 ∙ is)
    by_phase (inr over) = inr (like.0 ∙ over)

like_goes : (later : ℕ) (o : Option AttemptState) (s t : AttemptState) → IsLike s t → Goes later o s → Goes later o t
like_goes later o s t like (inl none) = inl (like.3 ∙ none)
like_goes later o s t like (inr h) = inr (like_of later o s t like h)

over_of : (later : ℕ) (o : Option AttemptState) (s : AttemptState) → StillOf later o s → StillOf later o (record s { phase = Over })
over_of later None s h = h
over_of later (Some a) s h = record { phase = inr refl; plan = h.plan; asked = h.asked; awaited = h.awaited; ticks = h.ticks }

over_goes : (later : ℕ) (o : Option AttemptState) (s : AttemptState) → Goes later o s → Goes later o (record s { phase = Over })
over_goes later o s (inl none) = inl none
over_goes later o s (inr h) = inr (over_of later o s h)

-- a result is taken
result_asked : (d : ℕ) (r : SeizeResult) (o : Option Seizing) → asked_at (option_map (with_result d r) o) ≡ asked_at o
result_asked d r None = refl
result_asked d r (Some e) = if_either (λ (z : Seizing). asked_at (Some z) ≡ asked_at (Some e)) ((e.attached.device == d) && is_none e.result) (record e { result = Some r }) e refl refl

result_awaited : (d m : ℕ) (r : SeizeResult) (o : Option Seizing) → awaited_at m (option_map (with_result d r) o) ≡ true → awaited_at m o ≡ true
result_awaited d m r None h = h
result_awaited d m r (Some e) h =
    if_either (λ (z : Seizing). awaited_at m (Some z) ≡ true → awaited_at m (Some e) ≡ true) ((e.attached.device == d) && is_none e.result) (record e { result = Some r }) e (λ k. absurd (false_true k)) (λ k. k) h

attached_same : (d : ℕ) (r : SeizeResult) (e : Seizing) → (with_result d r e).attached ≡ e.attached
attached_same d r e = if_either (λ (z : Seizing). z.attached ≡ e.attached) ((e.attached.device == d) && is_none e.result) (record e { result = Some r }) e refl refl

result_of : (later : ℕ) (o : Option AttemptState) (s : AttemptState) (d : ℕ) (r : SeizeResult) → StillOf later o s → StillOf later o (record s { devices = map (with_result d r) s.devices })
result_of later None s d r h = h
result_of later (Some a) s d r h = record {
  phase = h.phase;
  plan = h.plan;
  asked = λ j. ap asked_at (entry_mapped (with_result d r) (attached_same d r) s.devices j) ∙ (result_asked d r (entry_of s.devices j) ∙ h.asked j);
  awaited = λ j m is. h.awaited j m (result_awaited d m r (entry_of s.devices j) (sym (ap (awaited_at m) (entry_mapped (with_result d r) (attached_same d r) s.devices j)) ∙ is));
  ticks = h.ticks;
}

result_goes : (l : ℕ) (o : Option AttemptState) (s : AttemptState) (d : ℕ) (r : SeizeResult) → Goes l o s → Goes l o (record s { devices = map (with_result d r) s.devices })
result_goes l o s d r (inl none) = inl none
result_goes l o s d r (inr h) = inr (result_of l o s d r h)

-- ---- counting, and what follows

installing_none : (s : AttemptState) → (installing s).after.ticks ≡ 0
unfolding installing
installing_none s = refl

others_none : (s : AttemptState) → (seizing_others s).after.ticks ≡ 0
unfolding seizing_others
others_none s = if_either (λ (u : Turn). u.after.ticks ≡ 0) (length (plain_devices s) == 0) (installing s) (with_steps (record (in_phase s SeizingOthers) { devices = s.devices ++ plain_devices s }) _) (installing_none s) refl

counted_goes : (l : ℕ) (o : Option AttemptState) (s : AttemptState) (e : Option AttemptEnd) → Goes l o s → After l o (counted_by s e)
counted_goes l o s (Some e) h = over_goes l o s h
counted_goes l o s None h = inl (others_none (record s { counted = held_set s.devices }))

counting_goes : (l : ℕ) (o : Option AttemptState) (s : AttemptState) → Goes l o s → After l o (counting s)
unfolding counting
counting_goes l o s h = counted_goes l o s (shortage s (held_set s.devices)) h

settled_goes : (l : ℕ) (o : Option AttemptState) (s : AttemptState) (p : Phase) → Goes l o s → After l o (settled_in s p)
settled_goes l o s SeizingVotes h = counting_goes l o s h
settled_goes l o s SeizingOthers h = inl (installing_none s)
settled_goes l o s Collecting h = h
settled_goes l o s Choosing h = h
settled_goes l o s Installing h = h
settled_goes l o s Over h = h

proceeding_goes : (l : ℕ) (o : Option AttemptState) (s : AttemptState) → Goes l o s → After l o (proceeding s)
unfolding proceeding
proceeding_goes l o s h = if_either (After l o) (all_settled s.devices) (settled_in s s.phase) (waits s) (settled_goes l o s s.phase h) h

-- ---- an answer

next_goes : (l : ℕ) (o : Option AttemptState) (s : AttemptState) (d : ℕ) (r : SeizeResult) (e : Option Seizing) → Goes l o s → After l o (answered_on s d r e)
unfolding settled asked_next
next_goes l o s d r None h = h
next_goes l o s d r (Some e) h = by_next (next_by s.plan.cluster s.promises s.plan.nodes e e.kind r)
  where
    by_next : (n : Option ℕ) → After l o (next_asked s d r e n)
    by_next None = proceeding_goes l o (record s { devices = map (with_result d r) s.devices }) (result_goes l o s d r h)
    by_next (Some n) = inl refl

answering_goes : (l : ℕ) (o : Option AttemptState) (s : AttemptState) (d from : ℕ) (r : SeizeResult) → Goes l o s → After l o (answering s d from r)
unfolding answering
answering_goes l o s d from r h = next_goes l o s d r (find (awaits d from) s.devices) h

answer_goes : (l : ℕ) (o : Option AttemptState) (s : AttemptState) (d from : ℕ) (r : SeizeResult) (p : Phase) → Goes l o s → After l o (answering_in s d from r p)
answer_goes l o s d from r SeizingVotes h = answering_goes l o s d from r h
answer_goes l o s d from r SeizingOthers h = answering_goes l o s d from r h
answer_goes l o s d from r Collecting h = h
answer_goes l o s d from r Choosing h = h
answer_goes l o s d from r Installing h = h
answer_goes l o s d from r Over h = h

-- ---- Promises and Readies

chosen_goes : (l : ℕ) (o : Option AttemptState) (s : AttemptState) (n : Option Shown) → Goes l o s → After l o (chosen_by s n)
chosen_goes l o s None h = h
chosen_goes l o s (Some newest) h = inl refl

choosing_goes : (l : ℕ) (o : Option AttemptState) (s : AttemptState) → Goes l o s → After l o (choosing s)
unfolding choosing
choosing_goes l o s h = chosen_goes l o s (newest_shown s.promises) h

promise_goes : (l : ℕ) (o : Option AttemptState) (s : AttemptState) (p : Option Promised) → Goes l o s → After l o (with_promise s p)
promise_goes l o s None h = h
promise_goes l o s (Some p) h =
    let t : AttemptState = record s { promises = s.promises ++ p ∷ [] } in
    let k : Goes l o t = like_goes l o s t (refl, refl, refl, refl) h in
    if_either (After l o) (all_promised t) (choosing t) (waits t) (choosing_goes l o t k) k

promising_goes : (l : ℕ) (o : Option AttemptState) (s : AttemptState) (from : ℕ) (m : Message) → Goes l o s → After l o (promising s from m)
unfolding promising
promising_goes l o s from m h = if_either (After l o) (awaits_promise s from s.phase) (with_promise s (promised_by m (shown_by from m.body))) (waits s) (promise_goes l o s (promised_by m (shown_by from m.body)) h) h

starting_goes : (l : ℕ) (o : Option AttemptState) (s : AttemptState) → Goes l o s → After l o (starting s)
unfolding starting
starting_goes l o s h = if_either (After l o) (s.own_ready && all_ready s) (with_steps (record s { phase = Over }) _) (waits s) (over_goes l o s h) h

readying_goes : (l : ℕ) (o : Option AttemptState) (s : AttemptState) (from : ℕ) (m : Message) → Goes l o s → After l o (readying s from m)
unfolding readying
readying_goes l o s from m h =
    let t : AttemptState = record s { readies = s.readies ++ record { node = from; message = m } ∷ [] } in
    if_either (After l o) (awaits_ready s from s.phase && is_ready m.body) (starting t) (waits s) (starting_goes l o t (like_goes l o s t (refl, refl, refl, refl) h)) h

taken_goes : (l : ℕ) (o : Option AttemptState) (s : AttemptState) (from : ℕ) (m : Message) (b : Body) → Goes l o s → After l o (taken s from m b)
taken_goes l o s from m (body.Promise e installed members valid flagged committed pending) h = promising_goes l o s from m h
taken_goes l o s from m (body.Nack e promised) h = over_goes l o s h
taken_goes l o s from m (body.Seized e d r) h = answer_goes l o s d from r s.phase h
taken_goes l o s from m (body.Ready e joined report) h = readying_goes l o s from m h
taken_goes l o s from m _ h = h

taking_goes : (l : ℕ) (o : Option AttemptState) (s : AttemptState) (from : ℕ) (m : Message) → Goes l o s → After l o (taking s from m)
unfolding taking
taking_goes l o s from m h = if_either (After l o) (not (is_over s.phase) && is_of s.plan.epoch m.body) (taken s from m m.body) (waits s) (taken_goes l o s from m m.body h) h

own_goes : (l : ℕ) (o : Option AttemptState) (s : AttemptState) (p : Phase) → Goes l o s → After l o (own_readying_in s p)
own_goes l o s Installing h = starting_goes l o (record s { own_ready = true }) (like_goes l o s (record s { own_ready = true }) (refl, refl, refl, refl) h)
own_goes l o s Collecting h = h
own_goes l o s Choosing h = h
own_goes l o s SeizingVotes h = h
own_goes l o s SeizingOthers h = h
own_goes l o s Over h = h

-- ---- votes

abbrev None_yet : Turn → Type 0
None_yet u = u.after.ticks ≡ 0

counted_none : (s : AttemptState) (e : Option AttemptEnd) → s.ticks ≡ 0 → None_yet (counted_by s e)
counted_none s (Some e) h = h
counted_none s None h = others_none (record s { counted = held_set s.devices })

counting_none : (s : AttemptState) → s.ticks ≡ 0 → None_yet (counting s)
unfolding counting
counting_none s h = counted_none s (shortage s (held_set s.devices)) h

asked_none : (s : AttemptState) → s.ticks ≡ 0 → None_yet (asked_votes s)
unfolding asked_votes
asked_none s h = if_either None_yet (all_settled s.devices) (counting s) (with_steps s (filter_map (request_for s.plan) s.devices)) (counting_none s h) h

votes_none : (s : AttemptState) → s.ticks ≡ 0 → None_yet (seizing_votes s)
unfolding seizing_votes
votes_none s h = asked_none (record s { devices = vote_entries s }) h

possible_none : (s : AttemptState) (e : Option AttemptEnd) → s.ticks ≡ 0 → None_yet (possible s e)
possible_none s (Some e) h = h
possible_none s None h = votes_none s h

known_none : (s : AttemptState) (m : Option ℕ) → s.ticks ≡ 0 → None_yet (known s m)
known_none s (Some m) h = h
known_none s None h = possible_none s (shortage s (reached_set s.plan)) h

admitted_none : (s : AttemptState) (m : Option ℕ) → s.ticks ≡ 0 → None_yet (admitted s m)
unfolding knowing
admitted_none s (Some m) h = h
admitted_none s None h = known_none s (first_left_out s.promises s.plan.nodes (newest_shown s.promises)) h

voting_none : (s : AttemptState) (both : BothVotes) → None_yet (voting s both)
unfolding voting
voting_none s both = admitted_none (record (in_phase s SeizingVotes) { votes = Some both; devices = [] }) (first_foreign both s.plan.nodes) refl

-- ---- each call but a tick

pub call_goes : (l : ℕ) (o : Option AttemptState) (a : AttemptState) (k : Call) → (k ≡ Tick → ⊥) → Goes l o a → Goes l o (turn a k).after
unfolding own_answering own_readying
call_goes l o a (Take from m) other h = taking_goes l o a from m h
call_goes l o a (With_votes both) other h = inl (voting_none a both)
call_goes l o a (Own_seized d r) other h = answer_goes l o a d a.plan.coordinator r a.phase h
call_goes l o a Own_ready other h = own_goes l o a a.phase h
call_goes l o a Tick other h = absurd (other refl)

-- ---- a tick

one_later : (n : ℕ) → later n ≤ n + 1
one_later n = by_test (nat_le 8 n) refl
  where
    eight : (k : ℕ) → nat_le 8 k ≡ true → 8 ≤ k + 1
    eight k h = grind arith

    by_test : (b : Bool) → nat_le 8 n ≡ b → (if b then 8 else n + 1) ≤ n + 1
    by_test true is = eight n is
    by_test false is = omega arith

silenced_still : (a s : AttemptState) (m : Option ℕ) → Still 1 a s → Still 1 a (silenced s m).after
silenced_still a s None h = h
silenced_still a s (Some m) h = over_of 1 (Some a) s h

more_le : (n : ℕ) → n ≤ n + 1
more_le n = omega arith

pub tick_still : (a : AttemptState) → Still 1 a (turn a Tick).after
unfolding ticking
tick_still a =
    let z : AttemptState = record a { ticks = later a.ticks } in
    let h : Still 1 a z = record { phase = inl refl; plan = refl; asked = λ d. refl; awaited = λ d m is. is; ticks = one_later a.ticks } in
    if_either (λ (u : Turn). Still 1 a u.after) (is_over a.phase) (waits a) (ticked z) (record { phase = inl refl; plan = refl; asked = λ d. refl; awaited = λ d m is. is; ticks = more_le a.ticks })
    (if_either (λ (u : Turn). Still 1 a u.after) (nat_le 8 z.ticks) (silenced z (find (is_missing z) z.plan.nodes)) (if z.ticks == 4 then with_steps z (again_in z z.phase) else waits z) (silenced_still a z (find (is_missing z) z.plan.nodes) h)
    (if_either (λ (u : Turn). Still 1 a u.after) (z.ticks == 4) (with_steps z (again_in z z.phase)) (waits z) h h))

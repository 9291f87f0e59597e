-- What a call leaves of the answers that an attempt has.
use Rattle.std.specs.Prelude.{ℕ, ◌==◌, ◌≡◌, ◌&&◌, ◌++◌, not, nat_le, Bool, true, false, [], ◌∷◌, Option, None, Some, find, if◌then◌else◌}
use Rattle.std.specs.List.{filter_map}
use Rattle.std.proofs.Common.{arith, refl, sym, ap, subst, ◌∙◌, inl}
use Rattle.attempt_laws.proofs.Stays.{plan_stays}
use Rattle.attempt_laws.proofs.Walk.{awaits_collecting, awaits_installing, if_with}
use Rattle.attempt_laws.specs.Asking.{AreApart, entry_of, numbers_of}
use Rattle.attempt_laws.specs.Staying.{IsBefore}
use Rattle.cl_base.specs.Numbers.{numbers_to}
use Rattle.cl_base.specs.Seizings.{SeizeResult}
use Rattle.cmm_attempt.proofs.Basics.{and_cases, false_true, if_either}
use Rattle.cmm_attempt.specs.Attempts.{AttemptState, admitted, all_promised, all_ready, asked_votes, awaits_promise, awaits_ready, chosen_by, choosing, counting, in_phase, is_missing, is_of, is_over, known, knowing, later, own_answering, own_readying, own_readying_in, possible, promising, readying, seizing_votes, shortage, silenced, starting, taken, taking, ticked, ticking, vote_entries, voting, waits, with_promise, with_steps}
use Rattle.cmm_attempt.specs.Calls.{Call, May, Own_ready, Own_seized, Take, Tick, With_votes, turn}
use Rattle.cmm_attempt.specs.Counts.{first_foreign, reached_set}
use Rattle.cmm_attempt.specs.Promises.{first_left_out, newest_shown, promised_by, shown_by}
use Rattle.cmm_attempt.specs.Seizings.{all_settled, request_for}
use Rattle.cmm_attempt.specs.declared.counting.BothVotes.{BothVotes}
use Rattle.cmm_attempt.specs.declared.phase.Phase.{Phase}
use Rattle.cmm_attempt.specs.declared.phase.Phase.TheVariants.{Choosing, Collecting, Installing, Over, SeizingOthers, SeizingVotes}
use Rattle.cmm_attempt.specs.declared.plan.Plan.{Plan}
use Rattle.cmm_attempt.specs.declared.promised.Promised.{Promised}
use Rattle.cmm_attempt.specs.declared.promised.Shown.{Shown}
use Rattle.cmm_attempt.specs.declared.seizing.Seizing.{Seizing}
use Rattle.cmm_attempt.specs.declared.step.AttemptEnd.{AttemptEnd}
use Rattle.wire.specs.declared.message.Body.{Body}
use Rattle.wire.specs.declared.message.Body.TheVariants as body
use Rattle.wire.specs.declared.message.Message.{Message}
use Rattle.run_outcomes.specs.phases.Kept.{IsOwnCall}
use Rattle.run_outcomes.specs.tasks.Answers.{After, Answered, EntryBut, EntryHas, Has, HasBut, Heard, IsEarly, IsFree}
use Rattle.run_devices.proofs.readings.Apart.{votes_apart}
use Rattle.run_outcomes.proofs.seized.Entries.{entries_new, new_has}
use Rattle.run_outcomes.proofs.seized.Turns.{counting_after, in_phase_after, not_before}

-- ---- an own answer

own_but : (T : Heard) (d : ℕ) (s : AttemptState) → Has T s → HasBut T d s.plan.coordinator s
own_but T d s k = record { others = λ x ne. k.entries x; there = by_entry (entry_of s.devices d) (k.entries d); apart = k.apart; early = k.early }
  where
    by_entry : (o : Option Seizing) → EntryHas T s.plan.coordinator d o → EntryBut T s.plan.coordinator d s.plan.coordinator o
    by_entry None h = h
    by_entry (Some e) h = λ m. ((λ seizer ne. inl ((h m).0 seizer ne)), (h m).1)

own_after : (T : Heard) (d : ℕ) (r : SeizeResult) (s : AttemptState) → s.plan.nodes ≡ numbers_to s.plan.members 32 → AreApart (numbers_of s.plan.attached) → (IsBefore s.phase → Has T s) → After T (own_answering s d r)
unfolding own_answering
own_after T d r s nodes attached k = in_phase_after T d s.plan.coordinator r s nodes attached (λ ne. absurd (ne refl)) (λ b. own_but T d s (k b))

-- ---- a Promise

chosen_after : (T : Heard) (s : AttemptState) (o : Option Shown) → IsFree T → Has T s → After T (chosen_by s o)
chosen_after T s None free k = λ b. k
chosen_after T s (Some newest) free k = λ b. record { entries = k.entries; apart = k.apart; early = λ e. free }

choosing_after : (T : Heard) (s : AttemptState) → IsFree T → Has T s → After T (choosing s)
unfolding choosing
choosing_after T s free k = chosen_after T s (newest_shown s.promises) free k

promise_after : (T : Heard) (s : AttemptState) (o : Option Promised) → IsFree T → Has T s → After T (with_promise s o)
promise_after T s None free k = λ b. k
promise_after T s (Some p) free k =
    let z : AttemptState = record s { promises = s.promises ++ p ∷ [] } in
    let h : Has T z = record { entries = k.entries; apart = k.apart; early = k.early } in
    if_either (After T) (all_promised z) (choosing z) (waits z) (choosing_after T z free h) (λ b. h)

promising_after : (T : Heard) (from : ℕ) (m : Message) (s : AttemptState) → (IsBefore s.phase → Has T s) → After T (promising s from m)
unfolding promising
promising_after T from m s k =
    if_with (After T) (awaits_promise s from s.phase) (awaits_promise s from s.phase) (with_promise s (promised_by m (shown_by from m.body))) (waits s) refl
    (λ is.
    let at : s.phase ≡ Collecting = awaits_collecting s from s.phase is in
    let h : Has T s = k (subst IsBefore (sym at) tt) in
    promise_after T s (promised_by m (shown_by from m.body)) (h.early (subst IsEarly (sym at) tt)) h) (λ none. k)

-- ---- while it installs

starting_after : (T : Heard) (s : AttemptState) → s.phase ≡ Installing → After T (starting s)
unfolding starting
starting_after T s is =
    if_either (After T) (s.own_ready && all_ready s) (with_steps (record s { phase = Over }) _) (waits s) (λ b. absurd b) (λ b. absurd (not_before s.phase Installing (λ z. z) is b))

readying_after : (T : Heard) (from : ℕ) (m : Message) (s : AttemptState) → (IsBefore s.phase → Has T s) → After T (readying s from m)
unfolding readying
readying_after T from m s k =
    if_with (After T) (awaits_ready s from s.phase && _) (awaits_ready s from s.phase && _) (starting _) (waits s) refl
    (λ is. starting_after T _ (awaits_installing s from s.phase (and_cases (awaits_ready s from s.phase) _ is).0)) (λ none. k)

own_ready_after : (T : Heard) (s : AttemptState) → (IsBefore s.phase → Has T s) → After T (own_readying s)
unfolding own_readying
own_ready_after T s k = by_phase s.phase refl
  where
    by_phase : (p : Phase) → s.phase ≡ p → After T (own_readying_in s p)
    by_phase Installing is = starting_after T (record s { own_ready = true }) is
    by_phase SeizingVotes is = k
    by_phase SeizingOthers is = k
    by_phase Collecting is = k
    by_phase Choosing is = k
    by_phase Over is = k

-- ---- votes

votes_has : (T : Heard) (s : AttemptState) → s.phase ≡ SeizingVotes → AreApart (numbers_of s.plan.attached) → IsFree T → Has T (record s { devices = vote_entries s })
votes_has T s is attached free = record {
  entries = λ d. new_has T s.plan.coordinator d (vote_entries s) (entries_new s s.votes) (λ m. free d m);
  apart = votes_apart s s.votes attached;
  early = λ e. free;
}

asked_votes_after : (T : Heard) (s : AttemptState) → AreApart (numbers_of s.plan.attached) → Has T s → After T (asked_votes s)
unfolding asked_votes
asked_votes_after T s attached k =
    if_either (After T) (all_settled s.devices) (counting s) (with_steps s (filter_map (request_for s.plan) s.devices)) (counting_after T s attached k) (λ b. k)

seizing_votes_after : (T : Heard) (s : AttemptState) → s.phase ≡ SeizingVotes → AreApart (numbers_of s.plan.attached) → IsFree T → After T (seizing_votes s)
unfolding seizing_votes
seizing_votes_after T s is attached free = asked_votes_after T (record s { devices = vote_entries s }) attached (votes_has T s is attached free)

possible_after : (T : Heard) (s : AttemptState) (o : Option AttemptEnd) → s.phase ≡ SeizingVotes → AreApart (numbers_of s.plan.attached) → IsFree T → After T (possible s o)
possible_after T s (Some e) is attached free = λ b. absurd b
possible_after T s None is attached free = seizing_votes_after T s is attached free

known_after : (T : Heard) (s : AttemptState) (o : Option ℕ) → s.phase ≡ SeizingVotes → AreApart (numbers_of s.plan.attached) → IsFree T → After T (known s o)
known_after T s (Some n) is attached free = λ b. absurd b
known_after T s None is attached free = possible_after T s (shortage s (reached_set s.plan)) is attached free

admitted_after : (T : Heard) (s : AttemptState) (o : Option ℕ) → s.phase ≡ SeizingVotes → AreApart (numbers_of s.plan.attached) → IsFree T → After T (admitted s o)
unfolding knowing
admitted_after T s (Some n) is attached free = λ b. absurd b
admitted_after T s None is attached free = known_after T s (first_left_out s.promises s.plan.nodes (newest_shown s.promises)) is attached free

voting_after : (T : Heard) (votes : BothVotes) (s : AttemptState) → s.phase ≡ Choosing → AreApart (numbers_of s.plan.attached) → (IsBefore s.phase → Has T s) → After T (voting s votes)
unfolding voting
voting_after T votes s at attached k =
    let h : Has T s = k (subst IsBefore (sym at) tt) in
    admitted_after T (record (in_phase s SeizingVotes) { votes = Some votes; devices = [] }) (first_foreign votes s.plan.nodes) refl attached (h.early (subst IsEarly (sym at) tt))

-- ---- a tick

silenced_after : (T : Heard) (s : AttemptState) (o : Option ℕ) → (IsBefore s.phase → Has T s) → After T (silenced s o)
silenced_after T s None k = k
silenced_after T s (Some n) k = λ b. absurd b

ticking_after : (T : Heard) (s : AttemptState) → (IsBefore s.phase → Has T s) → After T (ticking s)
unfolding ticking
ticking_after T s k =
    let z : AttemptState = record s { ticks = later s.ticks } in
    let h : IsBefore z.phase → Has T z = λ b. let old : Has T s = k b in record { entries = old.entries; apart = old.apart; early = old.early } in
    if_either (After T) (is_over s.phase) (waits s) (ticked z) k
    (if_either (After T) (nat_le 8 z.ticks) (silenced z (find (is_missing z) z.plan.nodes)) (if z.ticks == 4 then with_steps z _ else waits z)
    (silenced_after T z (find (is_missing z) z.plan.nodes) h)
    (if_either (After T) (z.ticks == 4) (with_steps z _) (waits z) h h))

-- ---- each call

answered_by : (T : Heard) (e : ℕ) (a : AttemptState) (k : Call) → May a k → After T (turn a k) → Answered T e a → Answered T e (turn a k).after
answered_by T e a k may after h =
    let same : (turn a k).after.plan ≡ a.plan = plan_stays a k may in
    record {
      epoch = ap (λ (p : Plan). p.epoch) same ∙ h.epoch;
      nodes = subst (λ (p : Plan). p.nodes ≡ numbers_to p.members 32) (sym same) h.nodes;
      attached = subst (λ (p : Plan). AreApart (numbers_of p.attached)) (sym same) h.attached;
      has = after;
    }

pub own_answered : (T : Heard) (e : ℕ) (a : AttemptState) (k : Call) → May a k → IsOwnCall k → Answered T e a → Answered T e (turn a k).after
own_answered T e a (Take from m) may own h = absurd own
own_answered T e a (With_votes votes) may own h = answered_by T e a (With_votes votes) may (voting_after T votes a may h.attached h.has) h
own_answered T e a (Own_seized d r) may own h = answered_by T e a (Own_seized d r) may (own_after T d r a h.nodes h.attached h.has) h
own_answered T e a Own_ready may own h = answered_by T e a Own_ready may (own_ready_after T a h.has) h
own_answered T e a Tick may own h = answered_by T e a Tick may (ticking_after T a h.has) h

-- a message that is no Seized of the attempt
abbrev pub IsAside : ℕ → Body → Type 0
IsAside e (body.Seized epoch d r) = (epoch == e) ≡ false
IsAside e _ = Unit {0}

taken_after : (T : Heard) (from : ℕ) (m : Message) (s : AttemptState) (b : Body) → IsAside s.plan.epoch b → is_of s.plan.epoch b ≡ true → (IsBefore s.phase → Has T s) → After T (taken s from m b)
taken_after T from m s (body.Promise e newest members valid flagged committed pending) aside of k = promising_after T from m s k
taken_after T from m s (body.Nack e promised) aside of k = λ b. absurd b
taken_after T from m s (body.Seized e d r) aside of k = absurd (false_true (sym aside ∙ of))
taken_after T from m s (body.Ready e devices report) aside of k = readying_after T from m s k
taken_after T from m s _ aside of k = k

aside_after : (T : Heard) (from : ℕ) (m : Message) (s : AttemptState) → IsAside s.plan.epoch m.body → (IsBefore s.phase → Has T s) → After T (taking s from m)
unfolding taking
aside_after T from m s aside k =
    if_with (After T) (not (is_over s.phase) && is_of s.plan.epoch m.body) (not (is_over s.phase) && is_of s.plan.epoch m.body) (taken s from m m.body) (waits s) refl
    (λ is. taken_after T from m s m.body aside (and_cases (not (is_over s.phase)) (is_of s.plan.epoch m.body) is).1 k) (λ none. k)

pub aside_answered : (T : Heard) (e from : ℕ) (m : Message) (a : AttemptState) → IsAside a.plan.epoch m.body → Answered T e a → Answered T e (turn a (Take from m)).after
aside_answered T e from m a aside h = answered_by T e a (Take from m) tt (aside_after T from m a aside h.has) h

-- the answer of a member comes
seized_after : (T : Heard) (d from : ℕ) (r : SeizeResult) (m : Message) (s : AttemptState) → m.body ≡ body.Seized s.plan.epoch d r → s.plan.nodes ≡ numbers_to s.plan.members 32
    → AreApart (numbers_of s.plan.attached) → T d from ≡ Some r → (IsBefore s.phase → HasBut T d from s) → After T (taking s from m)
unfolding taking
seized_after T d from r m s told nodes attached now k =
    if_with (After T) (not (is_over s.phase) && is_of s.plan.epoch m.body) (not (is_over s.phase) && is_of s.plan.epoch m.body) (taken s from m m.body) (waits s) refl
    (λ is. subst (λ b. After T (taken s from m b)) (sym told) (in_phase_after T d from r s nodes attached (λ ne. now) k))
    (λ none before. absurd (false_true (sym none ∙ both (not (is_over s.phase)) (is_of s.plan.epoch m.body) (live s.phase before) (ap (λ b. is_of s.plan.epoch b) told ∙ itself s.plan.epoch))))
  where
    both : (x y : Bool) → x ≡ true → y ≡ true → (x && y) ≡ true
    both true y h z = z
    both false y h z = absurd (false_true h)

    itself : (e : ℕ) → (e == e) ≡ true
    itself e = grind arith

    live : (p : Phase) → IsBefore p → not (is_over p) ≡ true
    live Collecting h = refl
    live Choosing h = refl
    live SeizingVotes h = refl
    live SeizingOthers h = refl
    live Installing h = absurd h
    live Over h = absurd h

-- where it told the same before, or nothing
pub seized_answered : (T : Heard) (e d from : ℕ) (r : SeizeResult) (m : Message) (a : AttemptState) → m.body ≡ body.Seized a.plan.epoch d r → T d from ≡ Some r → a.plan.epoch ≡ e
    → a.plan.nodes ≡ numbers_to a.plan.members 32 → AreApart (numbers_of a.plan.attached) → (IsBefore a.phase → HasBut T d from a) → Answered T e (turn a (Take from m)).after
seized_answered T e d from r m a told now epoch nodes attached k =
    let same : (turn a (Take from m)).after.plan ≡ a.plan = plan_stays a (Take from m) tt in
    record {
      epoch = ap (λ (p : Plan). p.epoch) same ∙ epoch;
      nodes = subst (λ (p : Plan). p.nodes ≡ numbers_to p.members 32) (sym same) nodes;
      attached = subst (λ (p : Plan). AreApart (numbers_of p.attached)) (sym same) attached;
      has = seized_after T d from r m a told nodes attached now k;
    }

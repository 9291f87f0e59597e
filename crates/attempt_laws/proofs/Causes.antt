-- Each end has its cause, each wish for votes names a newest record, and after an end or a start the attempt is over.
use Rattle.std.proofs.Common.{◌≡◌, ℕ, ◌+◌, ◌<◌, ◌≤◌, ◌⊎◌, inl, inr, List, [], ◌∷◌, map, refl, sym, ap, subst, ◌∙◌, arith}
use Rattle.std.specs.Prelude.{All, Contains, nat_le, nat_lt, Bool, true, false, Option, Some, None, if◌then◌else◌}
use Rattle.std.specs.List.{find, filter_map}
use Rattle.quorum_votes.specs.Tables.{VoteTable}
use Rattle.quorum_votes.specs.Votes.{held_of, needed_of}
use Rattle.cmm_attempt.specs.declared.promised.Promised.{Promised}
use Rattle.cmm_attempt.specs.declared.promised.Shown.{Shown}
use Rattle.cmm_attempt.specs.declared.counting.BothVotes.{BothVotes}
use Rattle.cmm_attempt.specs.declared.phase.Phase.TheVariants.{Collecting, Choosing, Installing, Over}
use Rattle.wire.specs.declared.message.Body.TheVariants as body
use Rattle.cmm_attempt.specs.declared.step.Step.{Step}
use Rattle.cmm_attempt.specs.declared.step.Step.TheVariants.{StartHere}
use Rattle.cmm_attempt.specs.declared.step.AttemptEnd.{AttemptEnd}
use Rattle.cmm_attempt.specs.declared.step.AttemptEnd.TheVariants.{Superseded, Silent, Foreign, Excluded}
use Rattle.cmm_attempt.specs.Plans.{others_of}
use Rattle.cmm_attempt.specs.Seizings.{held_set, request_for}
use Rattle.cmm_attempt.specs.Calls.{Call, Tick, turn, end_in, starts_in, wish_in}
use Rattle.cmm_attempt.proofs.Basics.{none_some, false_true, same_some}
use Rattle.cmm_attempt.proofs.NewestLemmas.{IsNotBehind}
use Rattle.attempt_laws.specs.Laws.{IsExcluded, HasCause, IsNewest}
use Rattle.attempt_laws.proofs.NewestTaken.{newest_is_taken}
use Rattle.attempt_laws.proofs.QuietLemmas.{IsQuiet, quiet_none, quiet_collects, quiet_starts, quiet_installed, quiet_requests, quiet_asked, quiet_again_in}
use Rattle.attempt_laws.proofs.Walk.{Walk, walks, walks_begun}
use Rattle.cmm_attempt.specs.Promises.{newest_shown, first_left_out}
use Rattle.cmm_attempt.specs.Counts.{is_short, first_short, short_pending, reached_set, votes_end}
use Rattle.cmm_attempt.specs.Installs.{send_start}
use Rattle.cmm_attempt.specs.Attempts.{AttemptState, Turn, with_steps, ends, in_phase, installing, plain_devices, ended_by, shortage_under, asked_next, is_missing, collects, begun, chosen, again_in, later}

pub record IsCausedBy (s : AttemptState) (c : Call) (t : Turn) : Type 0 where
  pub end : (e : AttemptEnd) → end_in t.steps ≡ Some e → HasCause s c t.after e
  pub wish : (n : ℕ) → wish_in t.steps ≡ Some n → IsNewest t.after n
  pub waits : (n : ℕ) → wish_in t.steps ≡ Some n → t.after.phase ≡ Choosing
  pub over : (e : AttemptEnd) → (end_in t.steps ≡ Some e) ⊎ (starts_in t.steps ≡ true) → t.after.phase ≡ Over

quiet_over : (s : AttemptState) (steps : List Step) → IsQuiet steps → (e : AttemptEnd) → (end_in steps ≡ Some e) ⊎ (starts_in steps ≡ true) → s.phase ≡ Over
quiet_over s steps q e (inl h) = absurd (none_some e (sym q.end ∙ h))
quiet_over s steps q e (inr h) = absurd (false_true (sym q.start ∙ h))

quietly : (s : AttemptState) (c : Call) (t : AttemptState) (steps : List Step) → IsQuiet steps → IsCausedBy s c (with_steps t steps)
quietly s c t steps q = record {
  end = λ e h. absurd (none_some e (sym q.end ∙ h));
  wish = λ n h. absurd (none_some n (sym q.wish ∙ h));
  waits = λ n h. absurd (none_some n (sym q.wish ∙ h));
  over = λ e h. quiet_over t steps q e h;
}

ending : (s : AttemptState) (c : Call) (t : AttemptState) (e : AttemptEnd) → HasCause s c (record t { phase = Over }) e → IsCausedBy s c (ends t e)
ending s c t e cause = record {
  end = λ e' h. subst (λ x. HasCause s c (record t { phase = Over }) x) (same_some e e' h) cause;
  wish = λ n h. absurd (none_some n h);
  waits = λ n h. absurd (none_some n h);
  over = λ e' h. refl;
}

starting : (s : AttemptState) (c : Call) (t : AttemptState) → IsCausedBy s c (with_steps (record t { phase = Over }) (StartHere ∷ map (send_start t.plan) (others_of t.plan)))
starting s c t =
    let q : IsQuiet (map (send_start t.plan) (others_of t.plan)) = quiet_starts t in
    record {
      end = λ e h. absurd (none_some e (sym q.end ∙ h));
      wish = λ n h. absurd (none_some n (sym q.wish ∙ h));
      waits = λ n h. absurd (none_some n (sym q.wish ∙ h));
      over = λ e h. refl;
    }

-- Counting.

below : (a b : ℕ) → nat_lt a b ≡ true → a < b
below a b h = grind arith

below_by : (w : VoteTable) (rest : Option VoteTable) (members devices : ℕ) (v : VoteTable) (b : Bool) → is_short w members devices ≡ b
    → (rest ≡ Some v → held_of v members devices < needed_of v) → (if b then Some w else rest) ≡ Some v → held_of v members devices < needed_of v
below_by w rest members devices v true e k h =
    subst (λ x. held_of x members devices < needed_of x) (same_some w v h) (below (held_of w members devices) (needed_of w) e)
below_by w rest members devices v false e k h = k h

below_pending : (o : Option VoteTable) (members devices : ℕ) (v : VoteTable) → short_pending o members devices ≡ Some v → held_of v members devices < needed_of v
below_pending None members devices v h = absurd (none_some v h)
below_pending (Some w) members devices v h = below_by w None members devices v (is_short w members devices) refl (λ n. absurd (none_some v n)) h

below_first : (both : BothVotes) (members devices : ℕ) (v : VoteTable) → first_short both members devices ≡ Some v → held_of v members devices < needed_of v
below_first both members devices v h =
    below_by both.committed (short_pending both.pending members devices) members devices v (is_short both.committed members devices) refl (below_pending both.pending members devices v) h

abbrev AreCounted : AttemptState → ℕ → Type 0
AreCounted s devices = (devices ≡ reached_set s.plan) ⊎ (devices ≡ held_set s.devices)

short_by : (s : AttemptState) (devices : ℕ) → AreCounted s devices → (both : BothVotes) → s.votes ≡ Some both → (w : Option VoteTable)
    → first_short both s.plan.members devices ≡ w → (e : AttemptEnd) → ended_by s devices w ≡ Some e → (s0 : AttemptState) (c : Call) → HasCause s0 c (record s { phase = Over }) e
short_by s devices of both given None short e h s0 c = absurd (none_some e h)
short_by s devices of both given (Some v) short e h s0 c =
    subst (λ x. HasCause s0 c (record s { phase = Over }) x) (same_some (votes_end s.plan s.devices devices v) e h)
    (record { both = both; devices = devices; v = v; given = given; of = of; short = short; below = below_first both s.plan.members devices v short; is = refl })

short_under : (s : AttemptState) (devices : ℕ) → AreCounted s devices → (o : Option BothVotes) → s.votes ≡ o → (e : AttemptEnd)
    → shortage_under s devices o ≡ Some e → (s0 : AttemptState) (c : Call) → HasCause s0 c (record s { phase = Over }) e
short_under s devices of None given e h s0 c = absurd (none_some e h)
short_under s devices of (Some both) given e h s0 c = short_by s devices of both given (first_short both s.plan.members devices) refl e h s0 c

-- Choosing.

newest_by : (s : AttemptState) (newest : Shown) (n : ℕ) → newest.summary.node ≡ n
    → ((p : Promised) × Contains s.promises p × (p.shown ≡ newest)) × All (λ p. IsNotBehind newest.summary p.shown.summary) s.promises → IsNewest s n
newest_by s newest n node h = record {
  best = h.0.0;
  node = ap (λ x. x.summary.node) h.0.2 ∙ node;
  taken = h.0.1;
  none_newer = subst (λ x. All (λ p. IsNotBehind x.summary p.shown.summary) s.promises) (sym h.0.2) h.1;
}

newest_node : (s : AttemptState) (newest : Shown) → newest_shown s.promises ≡ Some newest → (n : ℕ) → newest.summary.node ≡ n → IsNewest s n
newest_node s newest is n node = newest_by s newest n node (newest_is_taken s.promises newest is)

choosing : (s : AttemptState) (c : Call) (t : AttemptState) (newest : Shown) → newest_shown t.promises ≡ Some newest → IsCausedBy s c (chosen t newest)
choosing s c t newest is = record {
  end = λ e h. absurd (none_some e h);
  wish = λ n h. newest_node (record (in_phase t Choosing) { newest = newest.summary.node }) newest is n (same_some newest.summary.node n h);
  waits = λ n h. refl;
  over = λ e h. absurd (elim h [ inl x ↦ none_some e x | inr x ↦ false_true x ]);
}

-- Voting.

left_out_by : (s : AttemptState) (n : ℕ) (o : Option Shown) → newest_shown s.promises ≡ o → first_left_out s.promises s.plan.nodes o ≡ Some n → IsExcluded s n
left_out_by s n None is h = absurd (none_some n h)
left_out_by s n (Some newest) is h = record { newest = newest; is_newest = is; least = h }

still_left_out : (s : AttemptState) (n : ℕ) → IsExcluded s n → IsExcluded (record s { phase = Over }) n
still_left_out s n h = record { newest = h.newest; is_newest = h.is_newest; least = h.least }

-- Ticks.

late_by : (t : ℕ) (b : Bool) → nat_le 8 t ≡ b → nat_le 8 (if b then 8 else t + 1) ≡ true → 8 ≤ t + 1
late_by t true e h = grind arith
late_by t false e h = grind arith

silence : (s s0 : AttemptState) (c : Call) (n : ℕ) → s ≡ s0 → c ≡ Tick → nat_le 8 (later s.ticks) ≡ true → find (is_missing s) s.plan.nodes ≡ Some n
    → IsCausedBy s0 c (ends (record s { ticks = later s.ticks }) (Silent n))
silence s s0 c n same is late least =
    subst (λ x. IsCausedBy x c (ends (record s { ticks = later s.ticks }) (Silent n))) same
    (subst (λ x. IsCausedBy s x (ends (record s { ticks = later s.ticks }) (Silent n))) (sym is)
    (ending s Tick (record s { ticks = later s.ticks }) (Silent n) (record { late = late_by s.ticks (nat_le 8 s.ticks) refl late; least = least })))

-- The walk.

walk : (s0 : AttemptState) (c : Call) → Walk c (λ s. s ≡ s0) (λ s. Unit {0}) (IsCausedBy s0 c)
unfolding asked_next installing
walk s0 c = record {
  within = λ s i. tt;
  rests = λ s i. quietly s0 c s [] quiet_none;
  passes = λ s is e i. quietly s0 c (record s { ticks = later s.ticks }) [] quiet_none;
  again = λ s is e i. quietly s0 c (record s { ticks = later s.ticks }) (again_in (record s { ticks = later s.ticks }) s.phase) (quiet_again_in (record s { ticks = later s.ticks }) s.phase);
  silent = λ s n is late least i. silence s s0 c n i is late least;
  superseded = λ s from m q is nack i.
      ending s0 c s (Superseded q) (subst (λ x. HasCause s0 x (record s { phase = Over }) (Superseded q)) (sym is) (subst (λ x. m.body ≡ body.Nack x.plan.epoch q) i nack));
  promise = λ s from m p is awaited of promised i. tt;
  collects = λ s is e k. quietly s0 c s (collects s) (quiet_collects s);
  collecting = λ s is e k. quietly s0 c s [] quiet_none;
  no_newest = λ s is all none k. quietly s0 c s [] quiet_none;
  chosen = λ s newest is all some k. choosing s0 c s newest some;
  votes = λ s both is i. tt;
  foreign = λ s both n is given least k. ending s0 c s (Foreign n) (record { both = both; given = given; least = least });
  excluded = λ s n is least k. ending s0 c s (Excluded n) (still_left_out s n (left_out_by s n (newest_shown s.promises) refl least));
  impossible = λ s e is short k. ending s0 c s e (short_under s (reached_set s.plan) (inl refl) s.votes refl e short s0 c);
  entries = λ s is enough k. tt;
  requests = λ s is e k. quietly s0 c s (filter_map (request_for s.plan) s.devices) (quiet_requests s.plan s.devices);
  result = λ s d from r e is tells found none i. tt;
  next = λ s d from n r e is tells found next i. quietly s0 c _ _ (quiet_asked s.plan e.kind d n);
  seizing = λ s is e k. quietly s0 c s [] quiet_none;
  short = λ s e is all few k. ending s0 c s e (short_under s (held_set s.devices) (inr refl) s.votes refl e few s0 c);
  others = λ s is all enough some k. quietly s0 c _ _ (quiet_requests s.plan (plain_devices s));
  installs_at_once = λ s is all enough none k. quietly s0 c _ _ (quiet_installed (in_phase (record s { counted = held_set s.devices }) Installing));
  installs = λ s is all k. quietly s0 c _ _ (quiet_installed (in_phase s Installing));
  ready = λ s from m is at of ready_body i. tt;
  own = λ s is at i. tt;
  installing = λ s at e k. quietly s0 c s [] quiet_none;
  starts = λ s at e k. starting s0 c s;
}

pub caused_by_call : (s : AttemptState) (c : Call) → IsCausedBy s c (turn s c)
caused_by_call s c = walks (λ x. x ≡ s) (λ x. Unit {0}) (IsCausedBy s c) s c (walk s c) refl

pub caused_begun : (s : AttemptState) → s.phase ≡ Collecting → IsCausedBy s Tick (begun s)
caused_begun s is = walks_begun Tick (λ x. x ≡ s) (λ x. Unit {0}) (IsCausedBy s Tick) (walk s Tick) s is tt

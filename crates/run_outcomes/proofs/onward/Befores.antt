-- What a call leaves of an attempt that seizes devices, and where it seized already before the call.
use Rattle.std.specs.Prelude.{ℕ, ◌≡◌, Bool, true, false, List, [], Option, None, Some}
use Rattle.std.proofs.Common.{refl, sym, ap, ◌∙◌, inl, inr}
use Rattle.attempt_laws.proofs.Walk.{IsSeizing, Walk, awaits_collecting, walks, walks_asked_votes}
use Rattle.cmm_attempt.proofs.Basics.{false_true}
use Rattle.cmm_attempt.specs.Attempts.{AttemptState, Turn, admitted, asked_next, asked_votes, in_phase, installing, known, knowing, own_readying, own_readying_in, possible, seizing_votes, shortage, vote_entries, voting}
use Rattle.cmm_attempt.specs.Calls.{Call, Own_ready, Tick, With_votes, turn}
use Rattle.cmm_attempt.specs.Counts.{first_foreign, reached_set}
use Rattle.cmm_attempt.specs.Promises.{first_left_out, newest_shown}
use Rattle.cmm_attempt.specs.declared.step.AttemptEnd.{AttemptEnd}
use Rattle.cmm_attempt.specs.declared.counting.BothVotes.{BothVotes}
use Rattle.cmm_attempt.specs.declared.phase.Phase.{Phase}
use Rattle.cmm_attempt.specs.declared.phase.Phase.TheVariants.{Choosing, Collecting, Installing, Over, SeizingOthers, SeizingVotes}
use Rattle.cmm_attempt.specs.declared.promised.Promised.{Promised}
use Rattle.run_outcomes.specs.phases.Laws.{is_seizing}

-- it seizes no devices
abbrev pub Rests : AttemptState → Type 0
Rests s = is_seizing s.phase ≡ false

rests_not : {X : Type 0} (p q : Phase) → p ≡ q → is_seizing q ≡ true → is_seizing p ≡ false → X
rests_not p q is seizes h = absurd (false_true (sym h ∙ (ap is_seizing is ∙ seizes)))

rests_seizing : {X : Type 0} (p : Phase) → IsSeizing p → is_seizing p ≡ false → X
rests_seizing p (inl is) h = rests_not p SeizingVotes is refl h
rests_seizing p (inr is) h = rests_not p SeizingOthers is refl h

-- ---- it does not begin to seize but by votes

rests_walk : (c : Call) → ((both : BothVotes) → c ≡ With_votes both → ⊥) → Walk c Rests Rests (λ t. Rests t.after)
unfolding asked_next installing
rests_walk c none_given = record {
  within = λ s i. i;
  rests = λ s i. i;
  passes = λ s is e i. i;
  again = λ s is e i. i;
  silent = λ s n is late least i. refl;
  superseded = λ s from m q is body i. refl;
  promise = λ s from m p is awaited of promised i. i;
  collects = λ s is e k. k;
  collecting = λ s is e k. k;
  no_newest = λ s is all none k. k;
  chosen = λ s newest is all some k. refl;
  votes = λ s both is i. absurd (none_given both is);
  foreign = λ s both n is votes least k. refl;
  excluded = λ s n is least k. refl;
  impossible = λ s e is short k. refl;
  entries = λ s is enough k. k;
  requests = λ s is e k. k;
  result = λ s d from r e is tells found none i. i;
  next = λ s d from n r e is tells found next i. i;
  seizing = λ s is e k. k;
  short = λ s e is all few k. refl;
  others = λ s is all enough some k. rests_not s.phase SeizingVotes is refl k;
  installs_at_once = λ s is all enough none k. refl;
  installs = λ s is all k. refl;
  ready = λ s from m is at of body i. i;
  own = λ s is at i. i;
  installing = λ s at e k. k;
  starts = λ s at e k. refl;
}

pub seized_before : (a : AttemptState) (k : Call) → ((both : BothVotes) → k ≡ With_votes both → ⊥) → is_seizing (turn a k).after.phase ≡ true → is_seizing a.phase ≡ true
seized_before a k none_given is = by_phase (is_seizing a.phase) refl
  where
    by_phase : (b : Bool) → is_seizing a.phase ≡ b → b ≡ true
    by_phase true at = refl
    by_phase false at = absurd (false_true (sym (walks Rests Rests (λ t. Rests t.after) a k (rests_walk k none_given) at) ∙ is))

-- ---- it keeps its Promises and its votes

abbrev Seizes : List Promised → Option BothVotes → AttemptState → Type 0
Seizes ps votes s = (is_seizing s.phase ≡ true) × (s.promises ≡ ps) × (s.votes ≡ votes)

abbrev Keeps : List Promised → Option BothVotes → AttemptState → Type 0
Keeps ps votes s = (s.promises ≡ ps) × (s.votes ≡ votes)

seizes_not : {X : Type 0} (p q : Phase) → p ≡ q → is_seizing q ≡ false → is_seizing p ≡ true → X
seizes_not p q is rests h = absurd (false_true (sym (ap is_seizing is ∙ rests) ∙ h))

keeps_walk : (c : Call) (ps : List Promised) (votes : Option BothVotes) → ((both : BothVotes) → c ≡ With_votes both → ⊥) → Walk c (Seizes ps votes) (Keeps ps votes) (λ t. Keeps ps votes t.after)
unfolding asked_next installing
keeps_walk c ps votes none_given = record {
  within = λ s i. (i.1, i.2);
  rests = λ s i. (i.1, i.2);
  passes = λ s is e i. (i.1, i.2);
  again = λ s is e i. (i.1, i.2);
  silent = λ s n is late least i. (i.1, i.2);
  superseded = λ s from m q is body i. (i.1, i.2);
  promise = λ s from m p is awaited of promised i. seizes_not s.phase Collecting (awaits_collecting s from s.phase awaited) refl i.0;
  collects = λ s is e k. k;
  collecting = λ s is e k. k;
  no_newest = λ s is all none k. k;
  chosen = λ s newest is all some k. k;
  votes = λ s both is i. absurd (none_given both is);
  foreign = λ s both n is votes_so least k. k;
  excluded = λ s n is least k. k;
  impossible = λ s e is short k. k;
  entries = λ s is enough k. k;
  requests = λ s is e k. k;
  result = λ s d from r e is tells found none i. (i.1, i.2);
  next = λ s d from n r e is tells found next i. (i.1, i.2);
  seizing = λ s is e k. k;
  short = λ s e is all few k. k;
  others = λ s is all enough some k. k;
  installs_at_once = λ s is all enough none k. k;
  installs = λ s is all k. k;
  ready = λ s from m is at of body i. (i.1, i.2);
  own = λ s is at i. (i.1, i.2);
  installing = λ s at e k. k;
  starts = λ s at e k. k;
}

pub seizing_keeps : (a : AttemptState) (k : Call) → ((both : BothVotes) → k ≡ With_votes both → ⊥) → is_seizing a.phase ≡ true → ((turn a k).after.promises ≡ a.promises) × ((turn a k).after.votes ≡ a.votes)
seizing_keeps a k none_given is = walks (Seizes a.promises a.votes) (Keeps a.promises a.votes) (λ t. Keeps a.promises a.votes t.after) a k (keeps_walk k a.promises a.votes none_given) (is, refl, refl)

-- ---- where the votes are given

abbrev Given : List Promised → BothVotes → AttemptState → Type 0
Given ps both s = (s.promises ≡ ps) × (s.votes ≡ Some both)

abbrev GivenAfter : List Promised → BothVotes → Turn → Type 0
GivenAfter ps both t = Given ps both t.after

votes_walk : (c : Call) (ps : List Promised) (given : BothVotes) → Walk c (λ s. ⊥) (Given ps given) (GivenAfter ps given)
unfolding asked_next installing
votes_walk c ps given = record {
  within = λ s i. absurd i;
  rests = λ s i. absurd i;
  passes = λ s is e i. absurd i;
  again = λ s is e i. absurd i;
  silent = λ s n is late least i. absurd i;
  superseded = λ s from m q is body i. absurd i;
  promise = λ s from m p is awaited of promised i. absurd i;
  collects = λ s is e k. k;
  collecting = λ s is e k. k;
  no_newest = λ s is all none k. k;
  chosen = λ s newest is all some k. k;
  votes = λ s both is i. absurd i;
  foreign = λ s both n is votes least k. k;
  excluded = λ s n is least k. k;
  impossible = λ s e is short k. k;
  entries = λ s is enough k. k;
  requests = λ s is e k. k;
  result = λ s d from r e is tells found none i. absurd i;
  next = λ s d from n r e is tells found next i. absurd i;
  seizing = λ s is e k. k;
  short = λ s e is all few k. k;
  others = λ s is all enough some k. k;
  installs_at_once = λ s is all enough none k. k;
  installs = λ s is all k. k;
  ready = λ s from m is at of body i. absurd i;
  own = λ s is at i. absurd i;
  installing = λ s at e k. k;
  starts = λ s at e k. k;
}

-- the Promises stay, and the votes are these
pub votes_given : (s : AttemptState) (both : BothVotes) → ((turn s (With_votes both)).after.promises ≡ s.promises) × ((turn s (With_votes both)).after.votes ≡ Some both)
unfolding voting knowing seizing_votes
votes_given s both = by_foreign (first_foreign both s.plan.nodes)
  where
    t : AttemptState
    t = record (in_phase s SeizingVotes) { votes = Some both; devices = [] }

    asks : Given s.promises both (asked_votes (record t { devices = vote_entries t })).after
    asks = walks_asked_votes Tick (λ z. ⊥) (Given s.promises both) (GivenAfter s.promises both) (votes_walk Tick s.promises both) (record t { devices = vote_entries t }) refl (refl, refl)

    by_short : (o : Option AttemptEnd) → Given s.promises both (possible t o).after
    by_short (Some e) = (refl, refl)
    by_short None = asks

    by_left : (o : Option ℕ) → Given s.promises both (known t o).after
    by_left (Some m) = (refl, refl)
    by_left None = by_short (shortage t (reached_set t.plan))

    by_foreign : (o : Option ℕ) → Given s.promises both (admitted t o).after
    by_foreign (Some m) = (refl, refl)
    by_foreign None = by_left (first_left_out t.promises t.plan.nodes (newest_shown t.promises))

-- ---- a call that does nothing

ready_same : (a : AttemptState) (p : Phase) → is_seizing p ≡ true → (own_readying_in a p).after ≡ a
ready_same a SeizingVotes is = refl
ready_same a SeizingOthers is = refl
ready_same a Collecting is = refl
ready_same a Choosing is = refl
ready_same a Installing is = absurd (false_true is)
ready_same a Over is = refl

pub own_ready_same : (a : AttemptState) → is_seizing a.phase ≡ true → (turn a Own_ready).after ≡ a
unfolding own_readying
own_ready_same a is = ready_same a a.phase is

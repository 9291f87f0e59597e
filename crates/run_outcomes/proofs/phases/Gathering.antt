-- What a call makes of the Promises that an attempt has taken; and where it has left off collecting, each member has promised.
use Rattle.std.specs.Prelude.{ℕ, ◌≡◌, ◌==◌, ◌&&◌, ◌||◌, ◌⊎◌, ◌++◌, Bool, true, false, not, List, [], ◌∷◌, Option, None, Some, IsSome}
use Rattle.std.specs.List.{find, list_any, list_all}
use Rattle.std.proofs.Common.{arith, refl, sym, ap, subst, ◌∙◌, inl, inr}
use Rattle.attempt_laws.proofs.Asks.{found_among}
use Rattle.attempt_laws.proofs.MachineLemmas.{of_all}
use Rattle.attempt_laws.proofs.Stays.{plan_stays}
use Rattle.attempt_laws.proofs.Steady.{Steady, call_keeps, reached_keeps}
use Rattle.attempt_laws.proofs.Waits.{someone_is_missing}
use Rattle.attempt_laws.proofs.Walk.{IsSeizing}
use Rattle.attempt_laws.specs.Waiting.{HasCoordinator, IsWaiting}
use Rattle.cmm_attempt.proofs.Basics.{false_true, if_either, none_some, or_cases, same_some}
use Rattle.cmm_attempt.specs.Attempts.{AttemptState, Turn, all_promised, awaits_promise, choosing, chosen_by, is_missing, is_missing_in, is_of, is_over, promising, taken, taking, waits, with_promise}
use Rattle.cmm_attempt.specs.Calls.{Call, IsReached, May, Take, turn}
use Rattle.cmm_attempt.specs.Promises.{has_promised, newest_shown, promised_by, shown_by}
use Rattle.cmm_attempt.specs.declared.phase.Phase.{Phase}
use Rattle.cmm_attempt.specs.declared.phase.Phase.TheVariants.{Choosing, Collecting, Installing, Over, SeizingOthers, SeizingVotes}
use Rattle.cmm_attempt.specs.declared.promised.Promised.{Promised}
use Rattle.cmm_attempt.specs.declared.promised.Shown.{Shown}
use Rattle.wire.specs.declared.message.Body.{Body}
use Rattle.wire.specs.declared.message.Body.TheVariants as body
use Rattle.wire.specs.declared.message.Message.{Message}
use Rattle.run_downs.proofs.Courses.{by_test}
use Rattle.run_outcomes.specs.phases.Kept.{Gathers, GathersIn, IsMember}
use Rattle.run_outcomes.specs.phases.Laws.{has_gathered}

-- ---- phases

abbrev IsCollecting : Phase → Type 0
IsCollecting Collecting = Unit {0}
IsCollecting Choosing = ⊥
IsCollecting SeizingVotes = ⊥
IsCollecting SeizingOthers = ⊥
IsCollecting Installing = ⊥
IsCollecting Over = ⊥

not_collecting : (s phase : Phase) → (IsCollecting phase → ⊥) → s ≡ phase → s ≡ Collecting → ⊥
not_collecting s phase other is at = other (subst IsCollecting (sym at ∙ is) tt)

or_first : (a b : Bool) → a ≡ true → (a || b) ≡ true
or_first true b h = refl
or_first false b h = absurd (false_true h)

or_second : (a b : Bool) → b ≡ true → (a || b) ≡ true
or_second true b h = refl
or_second false b h = h

pub any_first : {X : Type 0} (test : X → Bool) (xs ys : List X) → list_any test xs ≡ true → list_any test (xs ++ ys) ≡ true
any_first test [] ys h = absurd (false_true h)
any_first test (x ∷ xs) ys h = by_cases (λ there. any_first test xs ys there) (or_cases (test x) (list_any test xs) h)
  where
    by_cases : (list_any test xs ≡ true → list_any test (xs ++ ys) ≡ true) → (test x ≡ true) ⊎ (list_any test xs ≡ true) → (test x || list_any test (xs ++ ys)) ≡ true
    by_cases rest (inl here) = or_first (test x) (list_any test (xs ++ ys)) here
    by_cases rest (inr there) = or_second (test x) (list_any test (xs ++ ys)) (rest there)

pub any_last : {X : Type 0} (test : X → Bool) (xs : List X) (y : X) → test y ≡ true → list_any test (xs ++ y ∷ []) ≡ true
any_last test [] y h = or_first (test y) false h
any_last test (x ∷ xs) y h = or_second (test x) (list_any test (xs ++ y ∷ [])) (any_last test xs y h)

-- ---- any call

gathers_steady : (Due : ℕ → Type 0) (c : Call) → Steady c (Gathers Due) (Gathers Due)
gathers_steady Due c = record {
  within = λ s i. i;
  ticked = λ s i. i;
  over = λ s k at. absurd (not_collecting Over Over (λ x. x) refl at);
  promise = λ s from m p is awaited of promised i at n member due. any_first (λ q. q.shown.summary.node == n) s.promises (p ∷ []) (i at n member due);
  collecting = λ s is all k. k;
  no_newest = λ s is all none k. k;
  chosen = λ s newest is all some k at. absurd (not_collecting Choosing Choosing (λ x. x) refl at);
  votes = λ s both is i at. absurd (not_collecting SeizingVotes SeizingVotes (λ x. x) refl at);
  entries = λ s is k. k;
  result = λ s d from r is tells i. i;
  next = λ s d m x kind r is found i. i;
  seizing = λ s is all k. k;
  counted = λ s is h k. k;
  others = λ s is ne k at. absurd (not_collecting SeizingOthers SeizingOthers (λ x. x) refl at);
  installs = λ s is k at. absurd (not_collecting Installing Installing (λ x. x) refl at);
  ready = λ s from m is at of ready_body i. i;
  own = λ s is at i. i;
  installing = λ s is h k. k;
}

pub call_gathers : (e : ℕ) (Due : ℕ → Type 0) (a : AttemptState) (k : Call) → May a k → GathersIn e Due a → GathersIn e Due (turn a k).after
call_gathers e Due a k may h = (ap (λ p. p.epoch) (plan_stays a k may) ∙ h.0, call_keeps (Gathers Due) (Gathers Due) a k (gathers_steady Due k) may h.1)

-- ---- a Promise comes

-- due before, or its sender's
abbrev pub Or : (ℕ → Type 0) → ℕ → ℕ → Type 0
Or Due from m = Due m ⊎ (m ≡ from)

abbrev After : (ℕ → Type 0) → Turn → Type 0
After Due t = Gathers Due t.after

itself : (m k : ℕ) → m ≡ k → (k == m) ≡ true
itself m k e = grind arith

chosen_gathers : (Due : ℕ → Type 0) (s : AttemptState) (o : Option Shown) → Gathers Due s → After Due (chosen_by s o)
chosen_gathers Due s None h = h
chosen_gathers Due s (Some newest) h = λ at. absurd (not_collecting Choosing Choosing (λ x. x) refl at)

choosing_gathers : (Due : ℕ → Type 0) (s : AttemptState) → Gathers Due s → After Due (choosing s)
unfolding choosing
choosing_gathers Due s h = chosen_gathers Due s (newest_shown s.promises) h

pub shown_node : (from : ℕ) (m : Message) (p : Promised) (b : Body) → promised_by m (shown_by from b) ≡ Some p → p.shown.summary.node ≡ from
shown_node from m p (body.Promise e installed members valid flagged committed pending) is = ap (λ (q : Promised). q.shown.summary.node) (sym (same_some _ p is))
shown_node from m p _ is = absurd (none_some p is)

-- the message is a Promise
abbrev pub IsPromise : Body → Type 0
IsPromise (body.Promise e installed members valid flagged committed pending) = Unit {0}
IsPromise _ = ⊥

more_gathers : (Due : ℕ → Type 0) (from : ℕ) (s : AttemptState) (p : Promised) → p.shown.summary.node ≡ from → Gathers Due s → Gathers (Or Due from) (record s { promises = s.promises ++ p ∷ [] })
more_gathers Due from s p is h at n member due = by_due due
  where
    by_due : Due n ⊎ (n ≡ from) → has_promised (s.promises ++ p ∷ []) n ≡ true
    by_due (inl before) = any_first (λ q. q.shown.summary.node == n) s.promises (p ∷ []) (h at n member before)
    by_due (inr same) = any_last (λ (q : Promised). q.shown.summary.node == n) s.promises p (itself n p.shown.summary.node (same ∙ sym is))

no_shown : (from : ℕ) (m : Message) (b : Body) → IsPromise b → promised_by m (shown_by from b) ≡ None → ⊥
no_shown from m (body.Promise e installed members valid flagged committed pending) h is = none_some _ (sym is)
no_shown from m _ h is = h

with_gathers : (Due : ℕ → Type 0) (from : ℕ) (m : Message) (s : AttemptState) (o : Option Promised) → IsPromise m.body → promised_by m (shown_by from m.body) ≡ o → Gathers Due s → After (Or Due from) (with_promise s o)
with_gathers Due from m s None of is h = absurd (no_shown from m m.body of is)
with_gathers Due from m s (Some p) of is h =
    let t : AttemptState = record s { promises = s.promises ++ p ∷ [] } in
    let more : Gathers (Or Due from) t = more_gathers Due from s p (shown_node from m p m.body is) h in
    if_either (After (Or Due from)) (all_promised t) (choosing t) (waits t) (choosing_gathers (Or Due from) t more) more

not_awaited : (s : AttemptState) (from : ℕ) → s.phase ≡ Collecting → awaits_promise s from s.phase ≡ false → IsMember s from → has_promised s.promises from ≡ true
not_awaited s from at none member = by_test (list_any (λ m. m == from) s.plan.nodes) (has_promised s.promises from) member (sym (ap (awaits_promise s from) at) ∙ none)
  where
    by_test : (a b : Bool) → a ≡ true → (a && not b) ≡ false → b ≡ true
    by_test true true h k = refl
    by_test true false h k = sym k
    by_test false b h k = absurd (false_true h)

unawaited_gathers : (Due : ℕ → Type 0) (from : ℕ) (s : AttemptState) → awaits_promise s from s.phase ≡ false → Gathers Due s → Gathers (Or Due from) s
unawaited_gathers Due from s none h at n member due = by_due due
  where
    by_due : Due n ⊎ (n ≡ from) → has_promised s.promises n ≡ true
    by_due (inl before) = h at n member before
    by_due (inr same) = subst (λ k. has_promised s.promises k ≡ true) (sym same) (not_awaited s from at none (subst (IsMember s) same member))

promising_gathers : (Due : ℕ → Type 0) (from : ℕ) (m : Message) (s : AttemptState) → IsPromise m.body → Gathers Due s → After (Or Due from) (promising s from m)
unfolding promising
promising_gathers Due from m s of h =
    by_test (After (Or Due from)) (awaits_promise s from s.phase) (with_promise s (promised_by m (shown_by from m.body))) (waits s)
    (λ awaited. with_gathers Due from m s (promised_by m (shown_by from m.body)) of refl h) (λ none. unawaited_gathers Due from s none h)

taken_gathers : (Due : ℕ → Type 0) (from : ℕ) (m : Message) (s : AttemptState) (b : Body) → m.body ≡ b → IsPromise b → Gathers Due s → After (Or Due from) (taken s from m b)
taken_gathers Due from m s (body.Promise e installed members valid flagged committed pending) is of h = promising_gathers Due from m s (subst IsPromise (sym is) tt) h
taken_gathers Due from m s _ is of h = absurd of

not_taken : (s : AttemptState) (b : Body) → s.phase ≡ Collecting → is_of s.plan.epoch b ≡ true → (not (is_over s.phase) && is_of s.plan.epoch b) ≡ false → ⊥
not_taken s b at of none = false_true (sym none ∙ (ap (λ p. not (is_over p) && is_of s.plan.epoch b) at ∙ of))

-- the Promise of its number that comes is taken
pub promise_gathers : (e : ℕ) (Due : ℕ → Type 0) (from : ℕ) (m : Message) (s : AttemptState) → IsPromise m.body → is_of e m.body ≡ true → GathersIn e Due s → GathersIn e (Or Due from) (turn s (Take from m)).after
unfolding taking
promise_gathers e Due from m s of number h = (
  ap (λ p. p.epoch) (plan_stays s (Take from m) tt) ∙ h.0,
  by_test (After (Or Due from)) (not (is_over s.phase) && is_of s.plan.epoch m.body) (taken s from m m.body) (waits s) (λ some. taken_gathers Due from m s m.body refl of h.1)
      (λ none at. absurd (not_taken s m.body at (subst (λ k. is_of k m.body ≡ true) (sym h.0) number) none)),
)

-- ---- where it has left off collecting, all have promised

abbrev GatheredIn : List Promised → List ℕ → Phase → Type 0
GatheredIn ps nodes Collecting = Unit {0}
GatheredIn ps nodes Choosing = list_all (has_promised ps) nodes ≡ true
GatheredIn ps nodes SeizingVotes = list_all (has_promised ps) nodes ≡ true
GatheredIn ps nodes SeizingOthers = list_all (has_promised ps) nodes ≡ true
GatheredIn ps nodes Installing = list_all (has_promised ps) nodes ≡ true
GatheredIn ps nodes Over = Unit {0}

abbrev Gathered : AttemptState → Type 0
Gathered s = GatheredIn s.promises s.plan.nodes s.phase

awaiting : (s : AttemptState) (from : ℕ) (ps : List Promised) (phase : Phase) → awaits_promise s from phase ≡ true → GatheredIn ps s.plan.nodes phase
awaiting s from ps Collecting is = tt
awaiting s from ps Choosing is = absurd (false_true is)
awaiting s from ps SeizingVotes is = absurd (false_true is)
awaiting s from ps SeizingOthers is = absurd (false_true is)
awaiting s from ps Installing is = absurd (false_true is)
awaiting s from ps Over is = absurd (false_true is)

seizing_all : (s : AttemptState) → IsSeizing s.phase → Gathered s → all_promised s ≡ true
seizing_all s (inl is) h = subst (GatheredIn s.promises s.plan.nodes) is h
seizing_all s (inr is) h = subst (GatheredIn s.promises s.plan.nodes) is h

gathered_steady : (c : Call) → Steady c Gathered Gathered
gathered_steady c = record {
  within = λ s i. i;
  ticked = λ s i. i;
  over = λ s k. tt;
  promise = λ s from m p is awaited of promised i. awaiting s from (s.promises ++ p ∷ []) s.phase awaited;
  collecting = λ s is all k. k;
  no_newest = λ s is all none k. k;
  chosen = λ s newest is all some k. all;
  votes = λ s both is i. subst (GatheredIn s.promises s.plan.nodes) is i;
  entries = λ s is k. k;
  result = λ s d from r is tells i. i;
  next = λ s d m x kind r is found i. i;
  seizing = λ s is all k. k;
  counted = λ s is h k. k;
  others = λ s is ne k. seizing_all s (inl is) k;
  installs = λ s is k. seizing_all s is k;
  ready = λ s from m is at of ready_body i. i;
  own = λ s is at i. i;
  installing = λ s is h k. k;
}

pub reached_gathered : (s : AttemptState) → IsReached s → Gathered s
reached_gathered s r = reached_keeps Gathered Gathered gathered_steady s r tt

all_in : (ps : List Promised) (nodes : List ℕ) (phase : Phase) → has_gathered phase ≡ true → is_over phase ≡ false → GatheredIn ps nodes phase → list_all (has_promised ps) nodes ≡ true
all_in ps nodes Collecting left live h = absurd (false_true left)
all_in ps nodes Choosing left live h = h
all_in ps nodes SeizingVotes left live h = h
all_in ps nodes SeizingOthers left live h = h
all_in ps nodes Installing left live h = h
all_in ps nodes Over left live h = absurd (false_true (sym live))

pub past_all : (s : AttemptState) → IsReached s → has_gathered s.phase ≡ true → is_over s.phase ≡ false → all_promised s ≡ true
past_all s r left live = all_in s.promises s.plan.nodes s.phase left live (reached_gathered s r)

-- ---- while it collects, one has not

missing_first : (s : AttemptState) (o : Option ℕ) → s.phase ≡ Collecting → find (is_missing s) s.plan.nodes ≡ o → IsSome o → all_promised s ≡ true → ⊥
missing_first s None at is some all = absurd (false_true some)
missing_first s (Some n) at is some all =
    let found : (is_missing s n ≡ true) × (list_any (λ k. k == n) s.plan.nodes ≡ true) = found_among (is_missing s) s.plan.nodes n is in
    by_value (has_promised s.promises n) (of_all (has_promised s.promises) n s.plan.nodes all found.1) (sym (ap (is_missing_in s n) at) ∙ found.0)
  where
    by_value : (b : Bool) → b ≡ true → not b ≡ true → ⊥
    by_value true h k = false_true k
    by_value false h k = false_true h

pub collecting_lacks : (s : AttemptState) → IsReached s → HasCoordinator s → s.phase ≡ Collecting → all_promised s ≡ false
collecting_lacks s r has at = by_value (all_promised s) refl
  where
    by_value : (b : Bool) → all_promised s ≡ b → b ≡ false
    by_value true is = absurd (missing_first s (find (is_missing s) s.plan.nodes) at refl (someone_is_missing s r has (subst IsWaiting (sym at) tt)) is)
    by_value false is = refl

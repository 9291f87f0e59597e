-- A Ready that comes while an attempt installs is taken; each call leaves what the attempt has of Readies.
use Rattle.std.specs.Prelude.{ℕ, ◌==◌, ◌&&◌, ◌≡◌, ◌⊎◌, ◌++◌, not, Bool, true, false, [], ◌∷◌}
use Rattle.std.specs.List.{list_any}
use Rattle.std.proofs.Common.{arith, refl, sym, ap, subst, ◌∙◌, inl, inr}
use Rattle.attempt_laws.proofs.Stays.{plan_stays}
use Rattle.attempt_laws.proofs.Steady.{Steady, call_keeps}
use Rattle.cmm_attempt.proofs.Basics.{false_true, if_either}
use Rattle.cmm_attempt.specs.Attempts.{AttemptState, Turn, all_ready, awaits_ready, has_readied, is_of, is_over, readying, starting, taken, taking, waits, with_steps}
use Rattle.cmm_attempt.specs.Calls.{Call, May, Take, turn}
use Rattle.cmm_attempt.specs.declared.phase.Phase.TheVariants.{Installing, Over}
use Rattle.cmm_attempt.specs.declared.phase.Readied.{Readied}
use Rattle.wire.specs.Kinds.{is_ready}
use Rattle.wire.specs.declared.message.Body.{Body}
use Rattle.wire.specs.declared.message.Body.TheVariants as body
use Rattle.wire.specs.declared.message.Message.{Message}
use Rattle.run_downs.proofs.Courses.{by_test}
use Rattle.run_outcomes.specs.silence.Asked.{is_other_node}
use Rattle.run_outcomes.specs.silence.Readied.{Has_of}
use Rattle.run_outcomes.proofs.phases.Gathering.{any_first, any_last}

abbrev Has : (ℕ → Type 0) → AttemptState → Type 0
Has Due s = (m : ℕ) → is_other_node s.plan m ≡ true → Due m → has_readied s.readies m ≡ true

-- ---- any call

steady : (Due : ℕ → Type 0) (c : Call) → Steady c (Has Due) (Has Due)
steady Due c = record {
  within = λ s i. i;
  ticked = λ s i. i;
  over = λ s i. i;
  promise = λ s from m p is awaited of promised i. i;
  collecting = λ s is all i. i;
  no_newest = λ s is all none i. i;
  chosen = λ s newest is all some i. i;
  votes = λ s both is i. i;
  entries = λ s is i. i;
  result = λ s d from r is tells i. i;
  next = λ s d n x kind r is found i. i;
  seizing = λ s is all i. i;
  counted = λ s is h i. i;
  others = λ s is ne i. i;
  installs = λ s is i. i;
  ready = λ s from m is at of ready_body i k other due. any_first (λ (r : Readied). r.node == k) s.readies (record { node = from; message = m } ∷ []) (i k other due);
  own = λ s is at i. i;
  installing = λ s is h i. i;
}

pub call_has : (e : ℕ) (Due : ℕ → Type 0) (a : AttemptState) (k : Call) → May a k → Has_of e Due a → Has_of e Due (turn a k).after
call_has e Due a k may h = (ap (λ p. p.epoch) (plan_stays a k may) ∙ h.0, call_keeps (Has Due) (Has Due) a k (steady Due k) may h.1)

-- ---- a Ready comes

-- due before, or its sender's
abbrev pub Or : (ℕ → Type 0) → ℕ → ℕ → Type 0
Or Due from m = Due m ⊎ (m ≡ from)

abbrev After : (ℕ → Type 0) → Turn → Type 0
After Due t = Has Due t.after

itself : (m k : ℕ) → m ≡ k → (k == m) ≡ true
itself m k e = grind arith

more_has : (Due : ℕ → Type 0) (from : ℕ) (m : Message) (s : AttemptState) → Has Due s → Has (Or Due from) (record s { readies = s.readies ++ record { node = from; message = m } ∷ [] })
more_has Due from m s h n other due = by_due due
  where
    by_due : Due n ⊎ (n ≡ from) → has_readied (s.readies ++ record { node = from; message = m } ∷ []) n ≡ true
    by_due (inl before) = any_first (λ (r : Readied). r.node == n) s.readies (record { node = from; message = m } ∷ []) (h n other before)
    by_due (inr same) = any_last (λ (r : Readied). r.node == n) s.readies (record { node = from; message = m }) (itself n from same)

starting_has : (Due : ℕ → Type 0) (s : AttemptState) → Has Due s → After Due (starting s)
unfolding starting
starting_has Due s h = if_either (After Due) (s.own_ready && all_ready s) (with_steps (record s { phase = Over }) _) (waits s) h h

not_awaited : (s : AttemptState) (from : ℕ) → s.phase ≡ Installing → awaits_ready s from s.phase ≡ false → is_other_node s.plan from ≡ true → has_readied s.readies from ≡ true
not_awaited s from at none other =
    by_tests (list_any (λ m. m == from) s.plan.nodes) (from == s.plan.coordinator) (has_readied s.readies from) other (sym (ap (awaits_ready s from) at) ∙ none)
  where
    by_tests : (a b c : Bool) → (a && not b) ≡ true → (a && not b && not c) ≡ false → c ≡ true
    by_tests true false true h k = refl
    by_tests true false false h k = sym k
    by_tests true true c h k = absurd (false_true h)
    by_tests false b c h k = absurd (false_true h)

readying_has : (Due : ℕ → Type 0) (from : ℕ) (m : Message) (s : AttemptState) → s.phase ≡ Installing → is_ready m.body ≡ true → Has Due s → After (Or Due from) (readying s from m)
unfolding readying
readying_has Due from m s at ready h =
    by_test (After (Or Due from)) (awaits_ready s from s.phase && is_ready m.body) (starting (record s { readies = s.readies ++ record { node = from; message = m } ∷ [] })) (waits s)
    (λ awaited. starting_has (Or Due from) (record s { readies = s.readies ++ record { node = from; message = m } ∷ [] }) (more_has Due from m s h))
    (λ none n other due. by_due none n other due)
  where
    first_false : (a b : Bool) → b ≡ true → (a && b) ≡ false → a ≡ false
    first_false true true k j = j
    first_false true false k j = absurd (false_true k)
    first_false false b k j = refl

    by_due : (awaits_ready s from s.phase && is_ready m.body) ≡ false → (n : ℕ) → is_other_node s.plan n ≡ true → Or Due from n → has_readied s.readies n ≡ true
    by_due none n other (inl before) = h n other before
    by_due none n other (inr same) =
        subst (λ k. has_readied s.readies k ≡ true) (sym same)
        (not_awaited s from at (first_false (awaits_ready s from s.phase) (is_ready m.body) ready none) (subst (λ k. is_other_node s.plan k ≡ true) same other))

taken_has : (Due : ℕ → Type 0) (from : ℕ) (m : Message) (s : AttemptState) (b : Body) → is_ready b ≡ true → s.phase ≡ Installing → is_ready m.body ≡ true → Has Due s → After (Or Due from) (taken s from m b)
taken_has Due from m s (body.Ready e joined report) is at ready h = readying_has Due from m s at ready h
taken_has Due from m s _ is at ready h = absurd (false_true is)

-- the Ready of its number that comes is taken
pub ready_has : (e : ℕ) (Due : ℕ → Type 0) (from : ℕ) (m : Message) (s : AttemptState) → s.phase ≡ Installing → is_ready m.body ≡ true → is_of e m.body ≡ true → Has_of e Due s → Has_of e (Or Due from) (turn s (Take from m)).after
unfolding taking
ready_has e Due from m s at ready of h = (
  ap (λ p. p.epoch) (plan_stays s (Take from m) tt) ∙ h.0,
  by_test (After (Or Due from)) (not (is_over s.phase) && is_of s.plan.epoch m.body) (taken s from m m.body) (waits s) (λ some. taken_has Due from m s m.body ready at ready h.1)
      (λ none. absurd (false_true (sym none ∙ (ap (λ p. not (is_over p) && is_of s.plan.epoch m.body) at ∙ subst (λ k. is_of k m.body ≡ true) (sym h.0) of)))),
)

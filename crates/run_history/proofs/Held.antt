-- The devices of an attempt that installs stay, and the set of those that are held has each.
use Rattle.std.specs.Prelude.{ℕ, ◌≡◌, ◌≤◌, ◌⊎◌, ◌==◌, ◌&&◌, ◌||◌, Bool, true, false, All, List, [], ◌∷◌, None, IsSome, if◌then◌else◌}
use Rattle.std.proofs.Common.{refl, sym, ap, subst, ◌∙◌, inl, inr, arith}
use Rattle.std.proofs.lemmas.List.Elements.{All-head, All-tail}
use Rattle.std.specs.List.{fold}
use Rattle.attempt_laws.proofs.MachineLemmas.{installs_come_first}
use Rattle.attempt_laws.proofs.Numbered.{IsNumbered}
use Rattle.attempt_laws.proofs.Steady.{Steady, call_keeps}
use Rattle.attempt_laws.specs.Laws.{is_held_in}
use Rattle.attempt_laws.specs.Staying.{IsFinal}
use Rattle.cl_base.specs.Sets.{has, set_with}
use Rattle.cl_base.proofs.SetLemmas.{has_with, none_of_zero, or_bit_value}
use Rattle.cmm_attempt.specs.declared.phase.Phase.{Phase}
use Rattle.cmm_attempt.specs.declared.phase.Phase.TheVariants.{Choosing, Collecting, Installing, Over, SeizingOthers, SeizingVotes}
use Rattle.cmm_attempt.specs.declared.seizing.Seizing.{Seizing}
use Rattle.cmm_attempt.specs.Attempts.{AttemptState, awaits_promise}
use Rattle.cmm_attempt.specs.Calls.{Call, IsReached, May, installs_in, turn}
use Rattle.cmm_attempt.specs.Seizings.{held_set, is_held_by}
use Rattle.cmm_attempt.proofs.Basics.{false_true}
use Rattle.attempt_laws.proofs.Walk.{IsSeizing}

-- Phases.

never : (phase other : Phase) → phase ≡ other → (IsFinal other → ⊥) → IsFinal phase → ⊥
never phase other is no_such h = no_such (subst IsFinal is h)

never_seizing : (phase : Phase) → IsSeizing phase → IsFinal phase → ⊥
never_seizing phase (inl is) h = never phase SeizingVotes is (λ x. x) h
never_seizing phase (inr is) h = never phase SeizingOthers is (λ x. x) h

awaits_no_promise : (s : AttemptState) (n : ℕ) (phase : Phase) → awaits_promise s n phase ≡ true → IsFinal phase → ⊥
awaits_no_promise s n Collecting awaited h = h
awaits_no_promise s n Choosing awaited h = h
awaits_no_promise s n SeizingVotes awaited h = h
awaits_no_promise s n SeizingOthers awaited h = h
awaits_no_promise s n Installing awaited h = false_true awaited
awaits_no_promise s n Over awaited h = false_true awaited

-- Devices stay.

abbrev Has : List Seizing → AttemptState → Type 0
Has ds s = IsFinal s.phase × (s.devices ≡ ds)

devices_steady : (ds : List Seizing) (c : Call) → Steady c (Has ds) (Has ds)
devices_steady ds c = record {
  within = λ s i. i;
  ticked = λ s i. i;
  over = λ s k. (tt, k.1);
  promise = λ s from m p is awaited of promised i. absurd (awaits_no_promise s from s.phase awaited i.0);
  collecting = λ s is e k. k;
  no_newest = λ s is all none k. k;
  chosen = λ s newest is all some k. absurd (never s.phase Collecting is (λ x. x) k.0);
  votes = λ s both is i. absurd (never s.phase Choosing is (λ x. x) i.0);
  entries = λ s is k. absurd (never s.phase SeizingVotes is (λ x. x) k.0);
  result = λ s d from r is tells i. absurd (never_seizing s.phase is i.0);
  next = λ s d n e kind r is found i. absurd (never_seizing s.phase is i.0);
  seizing = λ s is e k. k;
  counted = λ s is h k. k;
  others = λ s is ne k. absurd (never s.phase SeizingVotes is (λ x. x) k.0);
  installs = λ s is k. absurd (never_seizing s.phase is k.0);
  ready = λ s from m is at of ready_body i. i;
  own = λ s is at i. i;
  installing = λ s at e k. k;
}

pub devices_stay : (a : AttemptState) (k : Call) → May a k → a.phase ≡ Installing → (turn a k).after.devices ≡ a.devices
devices_stay a k may is = (call_keeps (Has a.devices) (Has a.devices) a k (devices_steady a.devices k) may (subst IsFinal (sym is) tt, refl)).1

-- it installs after the call only where it did before
pub installing_before : (a : AttemptState) (k : Call) → IsReached a → May a k → installs_in (turn a k).steps ≡ None → (turn a k).after.phase ≡ Installing → a.phase ≡ Installing
installing_before a k reached may none is = by_cases (installs_come_first a k reached may is)
  where
    by_cases : (a.phase ≡ Installing) ⊎ IsSome (installs_in (turn a k).steps) → a.phase ≡ Installing
    by_cases (inl e) = e
    by_cases (inr some) = absurd (false_true (subst (λ o. IsSome o) none some))

-- The set of the devices that are held.

has_set_with : (s n m : ℕ) → 1 ≤ n → n ≤ 32 → has (set_with s n) m ≡ ((m == n) || has s m)
has_set_with s n m low high = subst (λ z. has z m ≡ ((m == n) || has s m)) (or_bit_value s n high) (has_with s n low high m)

turned : (m n : ℕ) → (m == n) ≡ (n == m)
turned m n = grind arith

by_held : (d n : ℕ) (held : Bool) (set : ℕ) (rest : Bool) → 1 ≤ n → n ≤ 32
    → (has (if held then set_with set n else set) d || rest) ≡ (has set d || (((n == d) && held) || rest))
by_held d n true set rest low high =
    ap (λ b. b || rest) (has_set_with set n d low high ∙ ap (λ b. b || has set d) (turned d n)) ∙ by_bools (n == d) (has set d) rest
  where
    by_bools : (a b c : Bool) → ((a || b) || c) ≡ (b || ((a && true) || c))
    by_bools true true c = refl
    by_bools true false c = refl
    by_bools false true c = refl
    by_bools false false c = refl
by_held d n false set rest low high = by_bools (n == d) (has set d) rest
  where
    by_bools : (a b c : Bool) → (b || c) ≡ (b || ((a && false) || c))
    by_bools true true c = refl
    by_bools true false c = refl
    by_bools false true c = refl
    by_bools false false c = refl

more_room : (n : ℕ) → n ≤ 16 → n ≤ 32
more_room n h = omega (arith, h)

held_from : (d : ℕ) (ds : List Seizing) (set : ℕ) → All IsNumbered ds
    → has (fold (λ (z : ℕ) (e : Seizing). if is_held_by e.result then set_with z e.attached.device else z) set ds) d ≡ (has set d || is_held_in ds d)
held_from d [] set are = sym (or_false (has set d))
  where
    or_false : (b : Bool) → (b || false) ≡ b
    or_false true = refl
    or_false false = refl
held_from d (e ∷ ds) set are =
    let is : IsNumbered e = All-head IsNumbered e ds are in
    held_from d ds (if is_held_by e.result then set_with set e.attached.device else set) (All-tail IsNumbered e ds are)
    ∙ by_held d e.attached.device (is_held_by e.result) set (is_held_in ds d) is.0 (more_room e.attached.device is.1)

pub held_has : (d : ℕ) (ds : List Seizing) → All IsNumbered ds → has (held_set ds) d ≡ is_held_in ds d
held_has d ds are = held_from d ds 0 are ∙ ap (λ b. b || is_held_in ds d) (none_of_zero d)

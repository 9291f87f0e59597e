-- Each call of an attempt leaves its Readies those that came.
use Rattle.std.specs.Prelude.{ℕ, ◌==◌, ◌||◌, ◌≡◌, ◌⊎◌, ◌++◌, Bool, true, false, List, [], ◌∷◌}
use Rattle.std.proofs.Common.{refl, ap, subst, ◌∙◌, inl, inr}
use Rattle.attempt_laws.proofs.Steady.{Steady, begun_keeps, call_keeps}
use Rattle.cmm_attempt.proofs.Basics.{false_true, or_cases, same_number}
use Rattle.cmm_attempt.specs.Attempts.{AttemptState, begun, has_readied, is_of}
use Rattle.cmm_attempt.specs.Calls.{Call, May, Take, Tick, turn}
use Rattle.cmm_attempt.specs.declared.phase.Phase.TheVariants.{Collecting}
use Rattle.cmm_attempt.specs.declared.phase.Readied.{Readied}
use Rattle.wire.specs.Kinds.{is_ready}
use Rattle.wire.specs.declared.message.Message.{Message}

-- of an attempt with this number, the Ready of m came, where it has it
abbrev pub Readied_so : ℕ → ℕ → Bool → AttemptState → Type 0
Readied_so e m came s = (s.plan.epoch ≡ e) × (has_readied s.readies m ≡ true → came ≡ true)

-- the Ready of m that the call brings has come
abbrev pub BringsReady : ℕ → ℕ → Bool → Call → Type 0
BringsReady e m came c = (x : Message) → c ≡ Take m x → is_of e x.body ≡ true → is_ready x.body ≡ true → came ≡ true

more : (m from : ℕ) (x : Message) (rs : List Readied) → has_readied (rs ++ record { node = from; message = x } ∷ []) m ≡ true → (has_readied rs m ≡ true) ⊎ ((from == m) ≡ true)
more m from x [] h = inr (alone (from == m) h)
  where
    alone : (b : Bool) → (b || false) ≡ true → b ≡ true
    alone true k = refl
    alone false k = k
more m from x (r ∷ rs) h = by_cases (λ k. more m from x rs k) (or_cases (r.node == m) (has_readied (rs ++ record { node = from; message = x } ∷ []) m) h)
  where
    or_first : (a b : Bool) → a ≡ true → (a || b) ≡ true
    or_first true b k = refl
    or_first false b k = absurd (false_true k)

    or_second : (a b : Bool) → b ≡ true → (a || b) ≡ true
    or_second true b k = refl
    or_second false b k = k

    by_rest : (has_readied rs m ≡ true) ⊎ ((from == m) ≡ true) → (has_readied (r ∷ rs) m ≡ true) ⊎ ((from == m) ≡ true)
    by_rest (inl there) = inl (or_second (r.node == m) (has_readied rs m) there)
    by_rest (inr it) = inr it

    by_cases : (has_readied (rs ++ record { node = from; message = x } ∷ []) m ≡ true → (has_readied rs m ≡ true) ⊎ ((from == m) ≡ true)) → ((r.node == m) ≡ true) ⊎ (has_readied (rs ++ record { node = from; message = x } ∷ []) m ≡ true)
        → (has_readied (r ∷ rs) m ≡ true) ⊎ ((from == m) ≡ true)
    by_cases rest (inl here) = inl (or_first (r.node == m) (has_readied rs m) here)
    by_cases rest (inr there) = by_rest (rest there)

taken : (e m from : ℕ) (came : Bool) (c : Call) (x : Message) (rs : List Readied) → BringsReady e m came c → c ≡ Take from x → is_of e x.body ≡ true → is_ready x.body ≡ true → (has_readied rs m ≡ true → came ≡ true)
    → has_readied (rs ++ record { node = from; message = x } ∷ []) m ≡ true → came ≡ true
taken e m from came c x rs brings is of ready h k = by_side (more m from x rs k)
  where
    by_side : (has_readied rs m ≡ true) ⊎ ((from == m) ≡ true) → came ≡ true
    by_side (inl there) = h there
    by_side (inr it) = brings x (is ∙ ap (λ n. Take n x) (same_number from m it)) of ready

steady : (e m : ℕ) (came : Bool) (c : Call) → BringsReady e m came c → Steady c (Readied_so e m came) (Readied_so e m came)
steady e m came c brings = record {
  within = λ s i. i;
  ticked = λ s i. i;
  over = λ s k. k;
  promise = λ s from x p is awaited of promised i. i;
  collecting = λ s is all k. k;
  no_newest = λ s is all none k. k;
  chosen = λ s newest is all some k. k;
  votes = λ s both is i. i;
  entries = λ s is k. k;
  result = λ s d from r is tells i. i;
  next = λ s d n x kind r is found i. i;
  seizing = λ s is all k. k;
  counted = λ s is h k. k;
  others = λ s is ne k. k;
  installs = λ s is k. k;
  ready = λ s from x is at of ready_body i. (i.0, λ k. taken e m from came c x s.readies brings is (subst (λ p. is_of p x.body ≡ true) i.0 of) ready_body i.1 k);
  own = λ s is at i. i;
  installing = λ s is h k. k;
}

pub call_readied : (e m : ℕ) (came : Bool) (s : AttemptState) (c : Call) → May s c → BringsReady e m came c → Readied_so e m came s → Readied_so e m came (turn s c).after
call_readied e m came s c may brings h = call_keeps (Readied_so e m came) (Readied_so e m came) s c (steady e m came c brings) may h

pub begun_readied : (e m : ℕ) (came : Bool) (s : AttemptState) → s.phase ≡ Collecting → Readied_so e m came s → Readied_so e m came (begun s).after
begun_readied e m came s is h = begun_keeps Tick (Readied_so e m came) (Readied_so e m came) (steady e m came Tick (λ x is of ready. absurd (apart x is))) s is h
  where
    apart : (x : Message) → Tick ≡ Take m x → ⊥
    apart x is = cc

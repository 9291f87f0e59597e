-- An attempt has waited for as many ticks at least as the lines count, where each step goes on with it, or begins its count anew.
use Rattle.std.specs.Prelude.{ℕ, ◌+◌, ◌++◌, ◌==◌, ◌&&◌, ◌≡◌, ◌≤◌, ◌⊎◌, Bool, true, false, if◌then◌else◌, List, [], ◌∷◌}
use Rattle.std.proofs.Common.{arith, refl, sym, subst, inl, inr}
use Rattle.cl_base.specs.declared.header.Header.{Header}
use Rattle.cmm_attempt.proofs.Basics.{false_true, or_cases, same_number}
use Rattle.cmm_attempt.specs.Attempts.{AttemptState}
use Rattle.history.specs.Attempts.{asks_first, gets_task, is_tick_of, phase_tick}
use Rattle.history.specs.Moment.{Moment}
use Rattle.history.specs.Order.{since}
use Rattle.history.specs.Queue.{queue_is_open}
use Rattle.history.specs.Seizing.{is_attempt}
use Rattle.history.specs.Setting.{Setting, coordinator}
use Rattle.history.specs.Trace.{attempt, delivered, device, installed, sent, ticked}
use Rattle.history_setting.specs.Settings.{setting_of}
use Rattle.run_history.specs.Happenings.{Happening, all_happened}
use Rattle.run_history.specs.Scenes.{Scene, first_scene}
use Rattle.run_lines.proofs.Adds.{onto}
use Rattle.world_model.specs.First.{first_cluster}
use Rattle.run_outcomes.specs.phases.Laws.{HasAttempt}
use Rattle.run_outcomes.specs.silence.Anew.{anew, begins, ticks_at, ticks_in}
use Rattle.run_outcomes.proofs.phases.Promised.{HasIt, has_it}
use Rattle.run_outcomes.proofs.phases.Runs.{knows_at, ways_at}
use Rattle.run_outcomes.specs.silence.Ends.{TicksAreMost}
use Rattle.run_outcomes.proofs.own_steps.Steps.{OfEachStep}
use Rattle.run_outcomes.proofs.own_steps.Walk.{of_each_left}
use Rattle.run_outcomes.proofs.silence.ends.Grown.{Grown, grown_by}

-- ---- what is left to show of a step

-- the node had the attempt before it, its queue was told, and a tick of the node was counted
pub record GoesOn (h : Header) (s : Scene) (x : Happening) (n : ℕ) (b : AttemptState) : Type 0 where
  pub before : AttemptState
  pub has : HasAttempt s n before
  pub number : b.plan.epoch ≡ before.plan.epoch
  pub shut : queue_is_open (setting_of h) n s.moments ≡ false
  pub ticks : before.ticks + ticks_at n x ≤ b.ticks

-- The attempt that a coordinator has after a step, where its queue is told, is one that goes on, or by the lines none of its ticks has come yet.
abbrev pub CountsGoOn : Type 0
CountsGoOn = OfEachStep (λ h s x t. (n : ℕ) (b : AttemptState) → HasAttempt t n b → queue_is_open (setting_of h) n t.moments ≡ false → GoesOn h s x n b ⊎ (phase_tick (setting_of h) b.plan.epoch t.moments ≡ 0))

-- ---- one line

same_le : (k : ℕ) → k ≤ k + 0
same_le k = omega arith

zero_or : (b : Bool) (k : ℕ) → (if b then 0 else k) ≤ k + 0
zero_or true k = omega arith
zero_or false k = omega arith

one_or : (b : Bool) (k : ℕ) → (if b then k + 1 else k) ≤ k + (if b then 1 else 0)
one_or true k = omega arith
one_or false k = omega arith

one_most : (S : Setting) (e : ℕ) (x : Moment) (ms : List Moment) → phase_tick S e (x ∷ ms) ≤ phase_tick S e ms + (if is_tick_of (coordinator e) x then 1 else 0)
one_most S e (attempt f members) ms = zero_or (f == e) (phase_tick S e ms)
one_most S e (ticked n) ms = one_or (n == coordinator e) (phase_tick S e ms)
one_most S e (sent p a b called bytes) ms = zero_or (asks_first (coordinator e) (since (is_attempt e) ms) (sent p a b called bytes)) (phase_tick S e ms)
one_most S e (delivered p a b) ms = zero_or (gets_task S (coordinator e) ms (delivered p a b)) (phase_tick S e ms)
one_most S e (device n d done reply) ms = zero_or (gets_task S (coordinator e) ms (device n d done reply)) (phase_tick S e ms)
one_most S e (installed n f) ms = zero_or ((n == coordinator e) && (f == e)) (phase_tick S e ms)
one_most S e _ ms = same_le (phase_tick S e ms)

if_begins : (b : Bool) (k : ℕ) → b ≡ true → (if b then 0 else k) ≡ 0
if_begins true k h = refl
if_begins false k h = absurd (false_true h)

one_anew : (S : Setting) (e : ℕ) (x : Moment) (ms : List Moment) → begins S e ms x ≡ true → phase_tick S e (x ∷ ms) ≡ 0
one_anew S e (attempt f members) ms h = if_begins (f == e) (phase_tick S e ms) h
one_anew S e (sent p a b called bytes) ms h = if_begins (asks_first (coordinator e) (since (is_attempt e) ms) (sent p a b called bytes)) (phase_tick S e ms) h
one_anew S e (delivered p a b) ms h = if_begins (gets_task S (coordinator e) ms (delivered p a b)) (phase_tick S e ms) h
one_anew S e (device n d done reply) ms h = if_begins (gets_task S (coordinator e) ms (device n d done reply)) (phase_tick S e ms) h
one_anew S e (installed n f) ms h = if_begins ((n == coordinator e) && (f == e)) (phase_tick S e ms) h
one_anew S e _ ms h = absurd (false_true h)

-- ---- more of them

none_more : (k : ℕ) → k ≤ k + 0
none_more k = omega arith

more_most : (p q r i j : ℕ) → p ≤ q + j → q ≤ r + i → p ≤ r + (i + j)
more_most p q r i j h k = omega (arith, h, k)

-- at most the ticks among them are counted
pub most_counted : (S : Setting) (e : ℕ) (xs ms : List Moment) → phase_tick S e (onto xs ms) ≤ phase_tick S e ms + ticks_in (coordinator e) xs
most_counted S e [] ms = none_more (phase_tick S e ms)
most_counted S e (x ∷ xs) ms =
    more_most (phase_tick S e (onto xs (x ∷ ms))) (phase_tick S e (x ∷ ms)) (phase_tick S e ms) (if is_tick_of (coordinator e) x then 1 else 0) (ticks_in (coordinator e) xs) (most_counted S e xs (x ∷ ms)) (one_most S e x ms)

none_left : (p q k : ℕ) → p ≤ q + k → q ≡ 0 → k ≡ 0 → p ≡ 0
none_left p q k h i j = omega (arith, h, i, j)

no_ticks : (a k : ℕ) → a + k ≡ 0 → k ≡ 0
no_ticks a k h = omega (arith, h)

-- none, where they begin anew and tell no tick
pub none_counted : (S : Setting) (e : ℕ) (xs ms : List Moment) → ticks_in (coordinator e) xs ≡ 0 → anew S e xs ms ≡ true → phase_tick S e (onto xs ms) ≡ 0
none_counted S e [] ms none h = absurd (false_true h)
none_counted S e (x ∷ xs) ms none h = by_place (λ k. none_counted S e xs (x ∷ ms) still k) (or_cases (begins S e ms x) (anew S e xs (x ∷ ms)) h)
  where
    still : ticks_in (coordinator e) xs ≡ 0
    still = no_ticks (if is_tick_of (coordinator e) x then 1 else 0) (ticks_in (coordinator e) xs) none

    by_place : (anew S e xs (x ∷ ms) ≡ true → phase_tick S e (onto xs (x ∷ ms)) ≡ 0) → (begins S e ms x ≡ true) ⊎ (anew S e xs (x ∷ ms) ≡ true) → phase_tick S e (onto xs (x ∷ ms)) ≡ 0
    by_place rest (inl here) =
        none_left (phase_tick S e (onto xs (x ∷ ms))) (phase_tick S e (x ∷ ms)) (ticks_in (coordinator e) xs) (most_counted S e xs (x ∷ ms)) (one_anew S e x ms here) still
    by_place rest (inr there) = rest there

-- ---- a step, and a run

abbrev Most_at : Header → Scene → Type 0
Most_at h s = (n : ℕ) (a : AttemptState) → HasAttempt s n a → queue_is_open (setting_of h) n s.moments ≡ false → phase_tick (setting_of h) a.plan.epoch s.moments ≤ a.ticks

one_or_more : (p q r k a : ℕ) → p ≤ q + k → k ≡ 0 → q ≤ r + a → p ≤ r + a
one_or_more p q r k a h i j = omega (arith, h, i, j)

-- a step tells no other tick
pub grown_most : (S : Setting) (e : ℕ) (x : Happening) (before after : List Moment) → Grown x before after → phase_tick S e after ≤ phase_tick S e before + ticks_at (coordinator e) x
grown_most S e x before after g =
    subst (λ ms. phase_tick S e ms ≤ phase_tick S e before + ticks_at (coordinator e) x) g.calm.is
    (one_or_more (phase_tick S e (onto g.calm.newer g.base)) (phase_tick S e g.base) (phase_tick S e before) (ticks_in (coordinator e) g.calm.newer) (ticks_at (coordinator e) x) (most_counted S e g.calm.newer g.base) (g.calm.none (coordinator e)) (by_base g.from))
  where
    by_own : (m : ℕ) (b : Bool) → (m == coordinator e) ≡ b → ((m == coordinator e) ≡ true → ticks_at (coordinator e) x ≡ 1) → (if b then phase_tick S e before + 1 else phase_tick S e before) ≤ phase_tick S e before + ticks_at (coordinator e) x
    by_own m true is one = more (phase_tick S e before) (ticks_at (coordinator e) x) (one is)
      where
        more : (q a : ℕ) → a ≡ 1 → q + 1 ≤ q + a
        more q a i = omega (arith, i)
    by_own m false is one = less (phase_tick S e before) (ticks_at (coordinator e) x)
      where
        less : (q a : ℕ) → q ≤ q + a
        less q a = omega arith

    by_base : (g.base ≡ before) ⊎ ((m : ℕ) × (g.base ≡ ticked m ∷ before) × ((n : ℕ) → m ≡ n → ticks_at n x ≡ 1)) → phase_tick S e g.base ≤ phase_tick S e before + ticks_at (coordinator e) x
    by_base (inl is) = subst (λ ms. phase_tick S e ms ≤ phase_tick S e before + ticks_at (coordinator e) x) (sym is) (less (phase_tick S e before) (ticks_at (coordinator e) x))
      where
        less : (q a : ℕ) → q ≤ q + a
        less q a = omega arith
    by_base (inr (m, is, own)) =
        subst (λ ms. phase_tick S e ms ≤ phase_tick S e before + ticks_at (coordinator e) x) (sym is)
        (subst (λ b. (if b then phase_tick S e before + 1 else phase_tick S e before) ≤ phase_tick S e before + ticks_at (coordinator e) x) refl
        (by_own m (m == coordinator e) refl (λ same. own (coordinator e) (same_number m (coordinator e) same))))

counted_then : (p q k a b : ℕ) → p ≤ q + k → q ≤ a → a + k ≤ b → p ≤ b
counted_then p q k a b h i j = omega (arith, h, i, j)

zero_then : (p b : ℕ) → p ≡ 0 → p ≤ b
zero_then p b h = omega (arith, h)

step_most : CountsGoOn → OfEachStep (λ h s x t. Most_at h s → Most_at h t)
step_most counts h cells hs x last nodes few small disks may shaped native boots left most n b at shut = by_count (counts h cells hs x last nodes few small disks may shaped native boots left n b at shut)
  where
    s : Scene
    s = all_happened (first_cluster h) (first_scene h cells) hs

    t : Scene
    t = all_happened (first_cluster h) (first_scene h cells) (hs ++ x ∷ [])

    own : coordinator b.plan.epoch ≡ n
    own =
        let it : HasIt (t.nodes.node n) b = has_it (t.nodes.node n) b at in
        (ways_at (first_cluster h) t (knows_at h cells t (record { few = few; small = small }) (record { happenings = hs ++ x ∷ []; may = may; is = refl }))).own n it.x b it.up it.has

    by_count : GoesOn h s x n b ⊎ (phase_tick (setting_of h) b.plan.epoch t.moments ≡ 0) → phase_tick (setting_of h) b.plan.epoch t.moments ≤ b.ticks
    by_count (inl k) =
        counted_then (phase_tick (setting_of h) b.plan.epoch t.moments) (phase_tick (setting_of h) b.plan.epoch s.moments) (ticks_at n x) k.before.ticks b.ticks
        (subst (λ j. phase_tick (setting_of h) b.plan.epoch t.moments ≤ phase_tick (setting_of h) b.plan.epoch s.moments + ticks_at j x) own (grown_most (setting_of h) b.plan.epoch x s.moments t.moments (grown_by h cells hs x)))
        (subst (λ e. phase_tick (setting_of h) e s.moments ≤ k.before.ticks) (sym k.number) (most n k.before k.has k.shut)) k.ticks
    by_count (inr none) = zero_then (phase_tick (setting_of h) b.plan.epoch t.moments) b.ticks none

zero_le : (k : ℕ) → 0 ≤ k
zero_le k = omega arith

first_most : (h : Header) (cells : ℕ) → Most_at h (first_scene h cells)
unfolding first_scene
first_most h cells n a at shut = zero_le a.ticks

pub ticks_are_most_from : CountsGoOn → TicksAreMost
ticks_are_most_from counts h cells hs last nodes few small disks may shaped native boots left = of_each_left (λ k z. Most_at k z) first_most (step_most counts) h cells hs last nodes few small disks may shaped native boots left

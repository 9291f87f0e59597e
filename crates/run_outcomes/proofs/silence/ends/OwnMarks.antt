-- A line behind which a coordinator has a task for a device that had none before it is one that brings it a task.
use Rattle.std.specs.Prelude.{ℕ, ◌==◌, ◌&&◌, ◌||◌, ◌≡◌, ◌⊎◌, not, Bool, true, false, if◌then◌else◌, List, [], ◌∷◌, Some, is_some}
use Rattle.std.specs.List.{list_any}
use Rattle.std.proofs.Common.{refl, sym, ap, subst, ◌∙◌, inl, inr}
use Rattle.cmm_attempt.proofs.Basics.{and_cases, false_true, or_cases, same_number}
use Rattle.history.specs.Attempts.{gets_task, phase_tick}
use Rattle.history.specs.Member.{attempt_of, member_of}
use Rattle.history.specs.Moment.{Moment}
use Rattle.history.specs.Queue as told
use Rattle.history.specs.Setting.{Setting, coordinator}
use Rattle.history.specs.Trace.{attempt, delivered, device, down, ended_excluded, ended_foreign, ended_votes, installed, saved, ticked, up}
use Rattle.run_history.specs.Happenings.{Happening}
use Rattle.run_lines.proofs.Adds.{onto}
use Rattle.run_outcomes.specs.silence.Anew.{anew, begins, ticks_at}
use Rattle.run_outcomes.specs.tasks.Lasting.{drops, lasts_open}
use Rattle.run_outcomes.proofs.silence.ends.Counts.{none_counted}
use Rattle.run_outcomes.proofs.silence.ends.Grown.{Grown}
use Rattle.run_outcomes.proofs.silence.ends.OwnAdds.{with_own_queues}
use Rattle.run_outcomes.proofs.silence.tasks.Fresh.{among, devices_of, queued_has, is_queued_at}
use Rattle.run_outcomes.proofs.silence.tasks.Lines.{onto_same}
use Rattle.run_outcomes.proofs.silence.tasks.Marks.{Mark}

-- ---- one device that is new

not_among : (d : ℕ) (xs ys : List ℕ) → among d xs ≡ true → among d ys ≡ false → list_any (λ k. not (among k ys)) xs ≡ true
not_among d [] ys h none = absurd (false_true h)
not_among d (x ∷ xs) ys h none = by_place (λ k. not_among d xs ys k none) (or_cases (x == d) (among d xs) h)
  where
    or_right : (a b : Bool) → b ≡ true → (a || b) ≡ true
    or_right true b k = refl
    or_right false b k = k

    by_place : (among d xs ≡ true → list_any (λ k. not (among k ys)) xs ≡ true) → ((x == d) ≡ true) ⊎ (among d xs ≡ true) → (not (among x ys) || list_any (λ k. not (among k ys)) xs) ≡ true
    by_place rest (inl is) = ap (λ b. not b || list_any (λ k. not (among k ys)) xs) (ap (λ k. among k ys) (same_number x d is) ∙ none)
    by_place rest (inr is) = or_right (not (among x ys)) (list_any (λ k. not (among k ys)) xs) (rest is)

refuted : (b : Bool) → (b ≡ true → ⊥) → b ≡ false
refuted true f = absurd (f refl)
refuted false f = refl

pub own_gets : (S : Setting) (n e d : ℕ) (ms : List Moment) (mark : Moment) → Mark S n e ms mark → told.queue_is_open S n (mark ∷ ms) ≡ false → is_some (member_of n ms) ≡ false
    → told.has_task d (told.tasks_of S n ms) ≡ false → told.has_task d (told.tasks_of S n (mark ∷ ms)) ≡ true → gets_task S n ms mark ≡ true
own_gets S n e d ms mark m shut none before now =
    ap (λ b. not b && list_any (λ k. not (told.is_queued S n k ms)) (told.queue_of S n (mark ∷ ms))) shut
    ∙ not_among d (told.queue_of S n (mark ∷ ms)) (told.queue_of S n ms)
    (ap (λ b. among d (devices_of (if b then [] else told.unfinished (told.tasks_of S n (mark ∷ ms))))) (ap is_some m.member ∙ none) ∙ queued)
    (ap (λ b. among d (devices_of (if b then [] else told.unfinished (told.tasks_of S n ms)))) none ∙ refuted (is_queued_at d (told.tasks_of S n ms)) (λ is. false_true (sym before ∙ queued_has d (told.tasks_of S n ms) is)))
  where
    by_fresh : (told.has_task d m.had ≡ true) ⊎ (is_queued_at d (told.with_own S n (Some e) (mark ∷ ms) m.had) ≡ true) → is_queued_at d (told.tasks_of S n (mark ∷ ms)) ≡ true
    by_fresh (inl old) = absurd (false_true (sym before ∙ (sym (m.tasks d) ∙ old)))
    by_fresh (inr is) = subst (λ ts. is_queued_at d ts ≡ true) (sym m.comes) is

    queued : is_queued_at d (told.tasks_of S n (mark ∷ ms)) ≡ true
    queued = by_fresh ((with_own_queues S n (Some e) (mark ∷ ms) m.had).fresh d (subst (λ ts. told.has_task d ts ≡ true) m.comes now))

-- ---- a queue that is shut as it lasts

drops_clear : (n : ℕ) (ms : List Moment) (x : Moment) → drops n ms x ≡ true → told.clears n ms x ≡ true
drops_clear n ms (up m) h = h
drops_clear n ms (down m why) h = h
drops_clear n ms (saved m) h = h
drops_clear n ms (attempt e members) h = h
drops_clear n ms (ended_votes e have need lacking) h = h
drops_clear n ms (ended_excluded e m) h = h
drops_clear n ms (ended_foreign e m) h = h
drops_clear n ms (installed m e) h = h
drops_clear n ms _ h = absurd (false_true h)

open_lasts : (S : Setting) (n : ℕ) (ms : List Moment) → told.queue_is_open S n ms ≡ true → lasts_open S n ms ≡ true
open_lasts S n [] h = h
open_lasts S n (x ∷ ms) h = by_place (λ k. open_lasts S n ms k) (or_cases untold (told.queue_is_open S n ms && not (told.clears n ms x)) h)
  where
    untold : Bool
    untold = told.is_untold S n (attempt_of n (x ∷ ms)) (x ∷ ms)

    or_first : (a b : Bool) → a ≡ true → (a || b) ≡ true
    or_first true b k = refl
    or_first false b k = absurd (false_true k)

    or_second : (a b : Bool) → b ≡ true → (a || b) ≡ true
    or_second true b k = refl
    or_second false b k = k

    stays : (b : Bool) → drops n ms x ≡ b → not (told.clears n ms x) ≡ true → not b ≡ true
    stays true is off = absurd (false_true (sym (ap not (drops_clear n ms x is)) ∙ off))
    stays false is off = refl

    by_place : (told.queue_is_open S n ms ≡ true → lasts_open S n ms ≡ true) → (untold ≡ true) ⊎ ((told.queue_is_open S n ms && not (told.clears n ms x)) ≡ true) → (untold || (lasts_open S n ms && not (drops n ms x))) ≡ true
    by_place rest (inl is) = or_first untold (lasts_open S n ms && not (drops n ms x)) is
    by_place rest (inr is) =
        let two : (told.queue_is_open S n ms ≡ true) × (not (told.clears n ms x) ≡ true) = and_cases (told.queue_is_open S n ms) (not (told.clears n ms x)) is in
        or_second untold (lasts_open S n ms && not (drops n ms x)) (ap (λ b. b && not (drops n ms x)) (rest two.0) ∙ stays (drops n ms x) refl two.1)

pub shut_so : (S : Setting) (n : ℕ) (ms : List Moment) → lasts_open S n ms ≡ false → told.queue_is_open S n ms ≡ false
shut_so S n ms closed = refuted (told.queue_is_open S n ms) (λ is. false_true (sym closed ∙ open_lasts S n ms is))

-- ---- the first line of a step

-- a packet comes, or a command at a device is answered
abbrev pub IsTaker : Moment → Type 0
IsTaker (delivered p a m) = Unit {0}
IsTaker (device m d done reply) = Unit {0}
IsTaker _ = ⊥

begins_there : (S : Setting) (e : ℕ) (ms : List Moment) (mark : Moment) → IsTaker mark → gets_task S (coordinator e) ms mark ≡ true → begins S e ms mark ≡ true
begins_there S e ms (delivered p a m) k h = h
begins_there S e ms (device m d done reply) k h = h
begins_there S e ms _ k h = absurd k

-- it begins the count anew
pub gets_counted : (S : Setting) (e : ℕ) (x : Happening) (before after : List Moment) (mark : Moment) (rest : List Moment) → Grown x before after → onto (mark ∷ rest) before ≡ after → IsTaker mark
    → gets_task S (coordinator e) before mark ≡ true → phase_tick S e after ≡ 0
gets_counted S e x before after mark rest g is taker gets =
    subst (λ ms. phase_tick S e ms ≡ 0) g.calm.is (none_counted S e g.calm.newer g.base (g.calm.none (coordinator e)) (by_base g.from))
  where
    start : begins S e before mark ≡ true
    start = begins_there S e before mark taker gets

    first_begins : List Moment → Bool
    first_begins [] = false
    first_begins (y ∷ ys) = begins S e before y

    by_base : (g.base ≡ before) ⊎ ((m : ℕ) × (g.base ≡ ticked m ∷ before) × ((n : ℕ) → m ≡ n → ticks_at n x ≡ 1)) → anew S e g.calm.newer g.base ≡ true
    by_base (inl same) =
        let lines : g.calm.newer ≡ mark ∷ rest = onto_same g.calm.newer (mark ∷ rest) before (ap (onto g.calm.newer) (sym same) ∙ (g.calm.is ∙ sym is)) in
        ap (λ xs. anew S e xs g.base) lines ∙ (ap (λ ms. anew S e (mark ∷ rest) ms) same ∙ ap (λ b. b || anew S e rest (mark ∷ before)) start)
    by_base (inr (m, same, own)) =
        let lines : mark ∷ rest ≡ ticked m ∷ g.calm.newer = onto_same (mark ∷ rest) (ticked m ∷ g.calm.newer) before (is ∙ (sym g.calm.is ∙ ap (onto g.calm.newer) same)) in
        absurd (false_true (ap first_begins (sym lines) ∙ start))

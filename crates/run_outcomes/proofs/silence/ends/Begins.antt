-- Where an attempt begins, its lines count no tick yet: what is left to show is of an attempt that its node had before.
use Rattle.std.specs.Prelude.{ℕ, ◌+◌, ◌++◌, ◌||◌, ◌≡◌, ◌≤◌, ◌⊎◌, Bool, true, false, List, [], ◌∷◌, Some}
use Rattle.std.specs.List.{list_any}
use Rattle.std.proofs.Common.{refl, sym, ap, subst, ◌∙◌, inl, inr}
use Rattle.cmm_attempt.proofs.Basics.{false_true, or_cases}
use Rattle.cmm_attempt.specs.Attempts.{AttemptState}
use Rattle.history.specs.Attempts.{phase_tick}
use Rattle.history.specs.Moment.{Moment}
use Rattle.history.specs.Queue.{queue_is_open}
use Rattle.history.specs.Seizing.{is_attempt}
use Rattle.history.specs.Setting.{Setting, coordinator}
use Rattle.history.specs.Trace.{attempt, ticked}
use Rattle.history.specs.UnderWay.{is_under_way}
use Rattle.history_setting.specs.Settings.{setting_of}
use Rattle.refinement.specs.Guards.{OfUp}
use Rattle.node_model.specs.declared.node.UpNode.{UpNode}
use Rattle.run_history.specs.Happenings.{MayAllHappen, all_happened}
use Rattle.run_history.specs.Scenes.{Scene, first_scene}
use Rattle.run_messages.proofs.Reaching.{IsSmall}
use Rattle.world_model.specs.First.{first_cluster}
use Rattle.run_outcomes.specs.phases.Laws.{HasAttempt}
use Rattle.run_outcomes.specs.silence.Anew.{anew, begins, ticks_at}
use Rattle.run_outcomes.proofs.own_steps.Steps.{OfEachStep}
use Rattle.run_outcomes.proofs.phases.Lines.{way_before}
use Rattle.run_outcomes.proofs.phases.Promised.{HasIt, has_it}
use Rattle.run_outcomes.proofs.phases.Runs.{knows_at, ways_at}
use Rattle.run_outcomes.proofs.phases.Taken.{HasIn, Ways, has_of, way_of}
use Rattle.run_outcomes.proofs.silence.Outgoing.{way_more}
use Rattle.run_outcomes.proofs.silence.ends.Counts.{CountsGoOn, GoesOn, none_counted}
use Rattle.run_outcomes.proofs.silence.ends.Grown.{Grown, grown_by}
use Rattle.run_outcomes.proofs.told_tasks.Prefixes.{may_before}

-- ---- what is left to show of a step

-- An attempt that its node had before it, and has after it, where the queue is told: that was told before, and a tick of the node is counted; or by the lines none of its ticks has come yet.
abbrev pub LastsGoOn : Type 0
LastsGoOn = OfEachStep (λ h s x t. (n : ℕ) (a b : AttemptState) → HasAttempt s n a → HasAttempt t n b → b.plan.epoch ≡ a.plan.epoch → queue_is_open (setting_of h) n t.moments ≡ false
    → ((queue_is_open (setting_of h) n s.moments ≡ false) × (a.ticks + ticks_at n x ≤ b.ticks)) ⊎ (phase_tick (setting_of h) b.plan.epoch t.moments ≡ 0))

-- ---- a line that begins it

or_first : (a b : Bool) → a ≡ true → (a || b) ≡ true
or_first true b h = refl
or_first false b h = absurd (false_true h)

or_second : (a b : Bool) → b ≡ true → (a || b) ≡ true
or_second true b h = refl
or_second false b h = h

begun_line : (S : Setting) (e : ℕ) (x : Moment) (ms : List Moment) → is_attempt e x ≡ true → begins S e ms x ≡ true
begun_line S e (attempt f members) ms h = h
begun_line S e _ ms h = absurd (false_true h)

pub begun_anew : (S : Setting) (e : ℕ) (xs ms : List Moment) → list_any (is_attempt e) xs ≡ true → anew S e xs ms ≡ true
begun_anew S e [] ms h = absurd (false_true h)
begun_anew S e (x ∷ xs) ms h = by_place (λ k. begun_anew S e xs (x ∷ ms) k) (or_cases (is_attempt e x) (list_any (is_attempt e) xs) h)
  where
    by_place : (list_any (is_attempt e) xs ≡ true → anew S e xs (x ∷ ms) ≡ true) → (is_attempt e x ≡ true) ⊎ (list_any (is_attempt e) xs ≡ true) → anew S e (x ∷ xs) ms ≡ true
    by_place rest (inl here) = or_first (begins S e ms x) (anew S e xs (x ∷ ms)) (begun_line S e x ms here)
    by_place rest (inr there) = or_second (begins S e ms x) (anew S e xs (x ∷ ms)) (rest there)

-- ---- a step

pub counts_from : LastsGoOn → CountsGoOn
counts_from lasts h cells hs x last nodes few small disks may shaped native boots left n b at shut = by_way (is_under_way e s.moments) refl
  where
    s : Scene
    s = all_happened (first_cluster h) (first_scene h cells) hs

    t : Scene
    t = all_happened (first_cluster h) (first_scene h cells) (hs ++ x ∷ [])

    e : ℕ
    e = b.plan.epoch

    size : IsSmall h
    size = record { few = few; small = small }

    earlier : MayAllHappen (first_cluster h) (first_scene h cells) hs
    earlier = may_before (first_cluster h) (first_scene h cells) hs (x ∷ []) may

    ways : Ways s.nodes s.moments
    ways = ways_at (first_cluster h) s (knows_at h cells s size (record { happenings = hs; may = earlier; is = refl }))

    ways_then : Ways t.nodes t.moments
    ways_then = ways_at (first_cluster h) t (knows_at h cells t size (record { happenings = hs ++ x ∷ []; may = may; is = refl }))

    it : HasIt (t.nodes.node n) b
    it = has_it (t.nodes.node n) b at

    own : coordinator e ≡ n
    own = ways_then.own n it.x b it.up it.has

    g : Grown x s.moments t.moments
    g = grown_by h cells hs x

    had : HasIn (s.nodes.node n) e → GoesOn h s x n b ⊎ (phase_tick (setting_of h) e t.moments ≡ 0)
    had k = by_last (lasts h cells hs x last nodes few small disks may shaped native boots left n k.a b there at (sym k.number) shut)
      where
        there : HasAttempt s n k.a
        there = subst (OfUp (λ (y : UpNode). y.attempt ≡ Some k.a)) (sym k.up) k.has

        by_last : ((queue_is_open (setting_of h) n s.moments ≡ false) × (k.a.ticks + ticks_at n x ≤ b.ticks)) ⊎ (phase_tick (setting_of h) e t.moments ≡ 0) → GoesOn h s x n b ⊎ (phase_tick (setting_of h) e t.moments ≡ 0)
        by_last (inl two) = inl (record { before = k.a; has = there; number = sym k.number; shut = two.0; ticks = two.1 })
        by_last (inr none) = inr none

    -- it was not under way before these lines
    not_yet : is_under_way e s.moments ≡ false → is_under_way e g.base ≡ true → ⊥
    not_yet off on = by_base g.from
      where
        by_base : (g.base ≡ s.moments) ⊎ ((m : ℕ) × (g.base ≡ ticked m ∷ s.moments) × ((k : ℕ) → m ≡ k → ticks_at k x ≡ 1)) → ⊥
        by_base (inl is) = false_true (sym off ∙ (ap (is_under_way e) (sym is) ∙ on))
        by_base (inr (m, is, other)) = false_true (sym off ∙ way_before e (ticked m) s.moments refl (ap (is_under_way e) (sym is) ∙ on))

    by_line : (l : Bool) → list_any (is_attempt e) g.calm.newer ≡ l → is_under_way e s.moments ≡ false → phase_tick (setting_of h) e t.moments ≡ 0
    by_line true begun off = subst (λ ms. phase_tick (setting_of h) e ms ≡ 0) g.calm.is (none_counted (setting_of h) e g.calm.newer g.base (g.calm.none (coordinator e)) (begun_anew (setting_of h) e g.calm.newer g.base begun))
    by_line false none off = absurd (not_yet off (way_more e g.calm.newer g.base none (subst (λ ms. is_under_way e ms ≡ true) (sym g.calm.is) (way_of t.nodes t.moments n it.x b ways_then it.up it.has))))

    by_way : (w : Bool) → is_under_way e s.moments ≡ w → GoesOn h s x n b ⊎ (phase_tick (setting_of h) e t.moments ≡ 0)
    by_way true on = had (has_of s.nodes s.moments n e ways own on)
    by_way false off = inr (by_line (list_any (is_attempt e) g.calm.newer) refl off)

-- An attempt that its node had before a step goes on, or the lines begin its count anew: where it installs, and where it asks another member anew. What it asks of its coordinator is left.
use Rattle.std.specs.Prelude.{ℕ, ◌+◌, ◌++◌, ◌==◌, ◌&&◌, ◌≡◌, ◌≤◌, ◌⊎◌, not, Bool, true, false, List, [], ◌∷◌, Option, None, Some}
use Rattle.std.specs.List.{list_any}
use Rattle.std.proofs.Common.{refl, sym, ap, subst, ◌∙◌, inl, inr}
use Rattle.attempt_laws.specs.Asking.{entry_of}
use Rattle.cl_base.specs.Sets.{has}
use Rattle.cl_base.specs.declared.header.Header.{Header}
use Rattle.cmm_attempt.proofs.Basics.{false_true, same_number}
use Rattle.cmm_attempt.specs.Attempts.{AttemptState}
use Rattle.cmm_attempt.specs.declared.seizing.Seizing.{Seizing}
use Rattle.cmm_attempt.specs.declared.phase.Phase.TheVariants.{Installing}
use Rattle.history.specs.Attempts.{phase_tick}
use Rattle.history.specs.Letters.{sends}
use Rattle.history.specs.Moment.{Moment}
use Rattle.history.specs.Names as name
use Rattle.history.specs.Order.{since}
use Rattle.history.specs.Queue.{queue_is_open}
use Rattle.history.specs.Seizing.{is_attempt, is_install}
use Rattle.history.specs.Setting.{coordinator}
use Rattle.history.specs.Trace.{ticked}
use Rattle.history_setting.specs.Settings.{setting_of}
use Rattle.node_model.specs.declared.node.UpNode.{UpNode}
use Rattle.run_history.specs.Happenings.{all_happened, happened}
use Rattle.run_history.specs.Scenes.{Scene, first_scene}
use Rattle.run_history.specs.Shapes.{nothing}
use Rattle.run_lines.proofs.Adds.{onto}
use Rattle.run_messages.proofs.Reaching.{IsSmall}
use Rattle.run_seizings.specs.Seized.{has_installed}
use Rattle.world_model.specs.First.{first_cluster}
use Rattle.run_outcomes.specs.phases.Laws.{HasAttempt, is_seizing}
use Rattle.run_outcomes.specs.silence.Anew.{Fresh, NewAsk, anew, has_asked_at, ticks_at}
use Rattle.run_outcomes.specs.silence.Asked.{Query, asked_in, has_plain}
use Rattle.run_outcomes.specs.silence.AskedCourses.{AttemptTold}
use Rattle.run_outcomes.specs.tasks.AsksGiven.{IsLeft}
use Rattle.run_outcomes.specs.tasks.Laws.{AsksTold, has_asked, is_vote}
use Rattle.run_outcomes.proofs.asks.Lines.{left_before}
use Rattle.run_outcomes.proofs.asks.Runs.{asks_are_told}
use Rattle.run_outcomes.proofs.own_steps.Steps.{OfEachStep}
use Rattle.run_outcomes.proofs.phases.Promised.{HasIt, has_it}
use Rattle.run_outcomes.proofs.rounds_told.Numbers.{happened_next}
use Rattle.run_outcomes.proofs.silence.Lines.{any_asked}
use Rattle.run_outcomes.proofs.silence.Outgoing.{any_cases}
use Rattle.run_outcomes.proofs.silence.Outgone.{Of, Seen}
use Rattle.run_outcomes.proofs.silence.OutgoneRuns.{seen_at}
use Rattle.run_outcomes.proofs.silence.Runs.{run_told}
use Rattle.run_outcomes.proofs.silence.ends.Asked.{asked_anew, data_exact, install_anew, quorum_exact}
use Rattle.run_outcomes.proofs.silence.ends.Begins.{LastsGoOn}
use Rattle.run_outcomes.proofs.silence.ends.Counts.{none_counted}
use Rattle.run_outcomes.proofs.silence.ends.Grown.{Grown, grown_by}
use Rattle.run_outcomes.proofs.told_tasks.Prefixes.{ShapedBefore, happened_last, may_before, native_before, shaped_before}

-- ---- what is left to show of a step, where the node has the attempt before it and after it

-- Where the queue is told after it, it was told before, or by the lines no tick has come yet.
abbrev pub StaysShut : Type 0
StaysShut = OfEachStep (λ h s x t. (n : ℕ) (a b : AttemptState) → HasAttempt s n a → HasAttempt t n b → b.plan.epoch ≡ a.plan.epoch → queue_is_open (setting_of h) n t.moments ≡ false
    → (queue_is_open (setting_of h) n s.moments ≡ false) ⊎ (phase_tick (setting_of h) b.plan.epoch t.moments ≡ 0))

-- Where the attempt asks its coordinator anew, by the lines no tick has come yet.
abbrev pub OwnAsksBegin : Type 0
OwnAsksBegin = OfEachStep (λ h s x t. (n : ℕ) (a b : AttemptState) → HasAttempt s n a → HasAttempt t n b → b.plan.epoch ≡ a.plan.epoch → queue_is_open (setting_of h) n t.moments ≡ false
    → is_seizing b.phase ≡ true → (d : ℕ) → has_asked_at n (entry_of b.devices d) ≡ true → has_asked_at n (entry_of a.devices d) ≡ false → phase_tick (setting_of h) b.plan.epoch t.moments ≡ 0)

-- Its ticks go on, or it asks anew, or installs.
abbrev pub TicksGoOn : Type 0
TicksGoOn = OfEachStep (λ h s x t. (n : ℕ) (a b : AttemptState) → HasAttempt s n a → HasAttempt t n b → b.plan.epoch ≡ a.plan.epoch → (a.ticks + ticks_at n x ≤ b.ticks) ⊎ Fresh a b)

-- ---- what is known of an attempt at a point

record Known (h : Header) (s : Scene) (n : ℕ) (a : AttemptState) : Type 0 where
  x : UpNode
  of : Of h s.moments n x a
  told : AttemptTold (λ e q. asked_in e q s.moments) a
  asks : AsksTold a s.moments

-- what the lines tell of another member that was asked
vote_told : (h : Header) (s : Scene) (n : ℕ) (a : AttemptState) → Known h s n a → (d m : ℕ) → asked_in a.plan.epoch (record { to = m; called = name.SeizeQuorum d }) s.moments ≡ has_asked a m (entry_of a.devices d)
vote_told h s n a k d m =
    let e : ℕ = a.plan.epoch in
    sym (any_asked e (record { to = m; called = name.SeizeQuorum d }) s.moments refl)
    ∙ (ap (λ c. list_any (sends c m (name.SeizeQuorum d)) (since (is_attempt e) s.moments)) (sym k.of.coordinates) ∙ k.asks.asked d m)

-- .. as one for votes, or not
quorum_so : (a : AttemptState) (m : ℕ) (z : Seizing) → (m == a.plan.coordinator) ≡ false → is_vote z.kind ≡ true → has z.asked m ≡ true → has_asked a m (Some z) ≡ true
quorum_so a m z other vote asked = all (is_vote z.kind) (m == a.plan.coordinator) (has z.asked m) vote other asked
  where
    all : (p q r : Bool) → p ≡ true → q ≡ false → r ≡ true → ((p && not q) && r) ≡ true
    all true false r h i j = j
    all true true r h i j = absurd (false_true (sym i))
    all false q r h i j = absurd (false_true h)

plain_so : (a : AttemptState) (m : ℕ) (z : Seizing) → (m == a.plan.coordinator) ≡ false → is_vote z.kind ≡ false → has z.asked m ≡ true → has_plain a.plan.coordinator m (Some z) ≡ true
plain_so a m z other plain asked = all (is_vote z.kind) (m == a.plan.coordinator) (has z.asked m) plain other asked
  where
    all : (p q r : Bool) → p ≡ false → q ≡ false → r ≡ true → ((not p && not q) && r) ≡ true
    all false false r h i j = j
    all false true r h i j = absurd (false_true (sym i))
    all true q r h i j = absurd (false_true (sym h))

last_false : (p r : Bool) → r ≡ false → (p && r) ≡ false
last_false true r h = h
last_false false r h = refl

no_quorum : (a : AttemptState) (m : ℕ) (o : Option Seizing) → has_asked_at m o ≡ false → has_asked a m o ≡ false
no_quorum a m None h = refl
no_quorum a m (Some z) h = last_false (is_vote z.kind && not (m == a.plan.coordinator)) (has z.asked m) h

no_plain : (a : AttemptState) (m : ℕ) (o : Option Seizing) → has_asked_at m o ≡ false → has_plain a.plan.coordinator m o ≡ false
no_plain a m None h = refl
no_plain a m (Some z) h = last_false (not (is_vote z.kind) && not (m == a.plan.coordinator)) (has z.asked m) h

-- ---- a step

pub lasts_from : StaysShut → OwnAsksBegin → TicksGoOn → LastsGoOn
lasts_from stays own_asks goes h cells hs x last nodes few small disks may shaped native boots left n a b there at number shut =
    by_ticks (goes h cells hs x last nodes few small disks may shaped native boots left n a b there at number)
  where
    s : Scene
    s = all_happened (first_cluster h) (first_scene h cells) hs

    t : Scene
    t = all_happened (first_cluster h) (first_scene h cells) (hs ++ x ∷ [])

    e : ℕ
    e = b.plan.epoch

    size : IsSmall h
    size = record { few = few; small = small }

    before : ShapedBefore (first_cluster h) (first_scene h cells) nothing hs
    before = shaped_before (first_cluster h) (first_scene h cells) nothing last hs (x ∷ []) shaped

    left_there : IsLeft s.links.next
    left_there =
        left_before s.links.next (happened (first_cluster h) s x).links.next (happened_next (first_cluster h) s x)
        (subst (λ (z : Scene). IsLeft z.links.next) (happened_last (first_cluster h) (first_scene h cells) hs x) left)

    k : Known h s n a
    k =
        let it : HasIt (s.nodes.node n) a = has_it (s.nodes.node n) a there in
        let earlier : _ = may_before (first_cluster h) (first_scene h cells) hs (x ∷ []) may in
        let seen : Seen h s = seen_at h cells s size (record { happenings = hs; may = earlier; is = refl }) in
        record {
          x = it.x;
          of = seen.attempts left_there n it.x a it.up it.has;
          told = (run_told h cells hs size earlier left_there n it.x a it.up it.has).0;
          asks = asks_are_told h cells hs before.last few small disks earlier before.shaped (native_before (first_cluster h) (first_scene h cells) hs (x ∷ []) native) left_there n a there;
        }

    l : Known h t n b
    l =
        let it : HasIt (t.nodes.node n) b = has_it (t.nodes.node n) b at in
        let seen : Seen h t = seen_at h cells t size (record { happenings = hs ++ x ∷ []; may = may; is = refl }) in
        record {
          x = it.x;
          of = seen.attempts left n it.x b it.up it.has;
          told = (run_told h cells (hs ++ x ∷ []) size may left n it.x b it.up it.has).0;
          asks = asks_are_told h cells (hs ++ x ∷ []) last few small disks may shaped native left n b at;
        }

    g : Grown x s.moments t.moments
    g = grown_by h cells hs x

    -- a tick tells neither
    same_base : (f : List Moment → Bool) → ((m : ℕ) → f (ticked m ∷ s.moments) ≡ f s.moments) → f g.base ≡ f s.moments
    same_base f ticks = by_base g.from
      where
        by_base : (g.base ≡ s.moments) ⊎ ((m : ℕ) × (g.base ≡ ticked m ∷ s.moments) × ((j : ℕ) → m ≡ j → ticks_at j x ≡ 1)) → f g.base ≡ f s.moments
        by_base (inl is) = ap f is
        by_base (inr (m, is, other)) = ap f is ∙ ticks m

    anew_none : anew (setting_of h) e g.calm.newer g.base ≡ true → phase_tick (setting_of h) e t.moments ≡ 0
    anew_none is = subst (λ ms. phase_tick (setting_of h) e ms ≡ 0) g.calm.is (none_counted (setting_of h) e g.calm.newer g.base (g.calm.none (coordinator e)) is)

    -- it installs
    installs : b.phase ≡ Installing → has_installed n e s.moments ≡ false → phase_tick (setting_of h) e t.moments ≡ 0
    installs is none = by_place (any_cases (is_install n e) g.calm.newer g.base (subst (λ ms. has_installed n e ms ≡ true) (sym g.calm.is) (l.of.so.installs is)))
      where
        by_place : (list_any (is_install n e) g.calm.newer ≡ true) ⊎ (list_any (is_install n e) g.base ≡ true) → phase_tick (setting_of h) e t.moments ≡ 0
        by_place (inl now) = anew_none (install_anew (setting_of h) e g.calm.newer g.base (subst (λ j. list_any (is_install j e) g.calm.newer ≡ true) (sym l.of.so.own) now))
        by_place (inr old) = absurd (false_true (sym none ∙ (sym (same_base (has_installed n e) (λ m. refl)) ∙ old)))

    -- it asks another member
    asks_other : (q : Query) → asked_in e q s.moments ≡ false → asked_in e q t.moments ≡ true
        → ((xs ms : List Moment) → asked_in e q ms ≡ false → asked_in e q (onto xs ms) ≡ true → anew (setting_of h) e xs ms ≡ true) → phase_tick (setting_of h) e t.moments ≡ 0
    asks_other q fresh now so =
        anew_none (so g.calm.newer g.base (same_base (λ ms. asked_in e q ms) (λ m. refl) ∙ fresh) (subst (λ ms. asked_in e q ms ≡ true) (sym g.calm.is) now))

    by_kind : (w : NewAsk a b) → (w.member == coordinator e) ≡ false → (o : Option Seizing) → entry_of b.devices w.device ≡ o → has_asked_at w.member o ≡ true → phase_tick (setting_of h) e t.moments ≡ 0
    by_kind w other None is asked = absurd (false_true asked)
    by_kind w other (Some z) is asked = by_vote (is_vote z.kind) refl
      where
        apart : (w.member == b.plan.coordinator) ≡ false
        apart = ap (λ c. w.member == c) l.of.coordinates ∙ other

        votes : Query
        votes = record { to = w.member; called = name.SeizeQuorum w.device }

        data_of : Query
        data_of = record { to = w.member; called = name.SeizeData w.device }

        by_vote : (v : Bool) → is_vote z.kind ≡ v → phase_tick (setting_of h) e t.moments ≡ 0
        by_vote true vote =
            asks_other votes
            (ap (λ j. asked_in j votes s.moments) number ∙ (vote_told h s n a k w.device w.member ∙ no_quorum a w.member (entry_of a.devices w.device) w.before))
            (vote_told h t n b l w.device w.member ∙ (ap (has_asked b w.member) is ∙ quorum_so b w.member z apart vote asked))
            (λ xs ms fresh now. asked_anew (setting_of h) e votes xs ms refl refl (quorum_exact w.device) fresh now)
        by_vote false plain =
            asks_other data_of
            (ap (λ j. asked_in j data_of s.moments) number ∙ ((k.told data_of).told ∙ no_plain a w.member (entry_of a.devices w.device) w.before))
            ((l.told data_of).told ∙ (ap (has_plain b.plan.coordinator w.member) is ∙ plain_so b w.member z apart plain asked))
            (λ xs ms fresh now. asked_anew (setting_of h) e data_of xs ms refl refl (data_exact w.device) fresh now)

    by_member : is_seizing b.phase ≡ true → (w : NewAsk a b) → (c : Bool) → (w.member == coordinator e) ≡ c → phase_tick (setting_of h) e t.moments ≡ 0
    by_member seizes w true own =
        let same : w.member ≡ n = same_number w.member (coordinator e) own ∙ l.of.so.own in
        own_asks h cells hs x last nodes few small disks may shaped native boots left n a b there at number shut seizes w.device
        (subst (λ j. has_asked_at j (entry_of b.devices w.device) ≡ true) same w.now) (subst (λ j. has_asked_at j (entry_of a.devices w.device) ≡ false) same w.before)
    by_member seizes w false other = by_kind w other (entry_of b.devices w.device) refl w.now

    by_fresh : Fresh a b → phase_tick (setting_of h) e t.moments ≡ 0
    by_fresh f = by_way f.way
      where
        by_way : (b.phase ≡ Installing) ⊎ ((is_seizing b.phase ≡ true) × NewAsk a b) → phase_tick (setting_of h) e t.moments ≡ 0
        by_way (inl is) = installs is (subst (λ j. has_installed n j s.moments ≡ false) (sym number) (k.of.so.before f.early))
        by_way (inr (seizes, w)) = by_member seizes w (w.member == coordinator e) refl

    by_shut : a.ticks + ticks_at n x ≤ b.ticks → (queue_is_open (setting_of h) n s.moments ≡ false) ⊎ (phase_tick (setting_of h) e t.moments ≡ 0)
        → ((queue_is_open (setting_of h) n s.moments ≡ false) × (a.ticks + ticks_at n x ≤ b.ticks)) ⊎ (phase_tick (setting_of h) e t.moments ≡ 0)
    by_shut le (inl was) = inl (was, le)
    by_shut le (inr none) = inr none

    by_ticks : (a.ticks + ticks_at n x ≤ b.ticks) ⊎ Fresh a b → ((queue_is_open (setting_of h) n s.moments ≡ false) × (a.ticks + ticks_at n x ≤ b.ticks)) ⊎ (phase_tick (setting_of h) e t.moments ≡ 0)
    by_ticks (inl le) = by_shut le (stays h cells hs x last nodes few small disks may shaped native boots left n a b there at number shut)
    by_ticks (inr f) = inr (by_fresh f)

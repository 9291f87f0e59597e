-- Where the queue of a coordinator is told behind a step that its attempt outlasts, it was told before, or by the lines no tick has come yet.
use Rattle.std.specs.Prelude.{ℕ, ◌++◌, ◌≡◌, ◌<◌, ◌==◌, ◌&&◌, ◌||◌, ◌⊎◌, Bool, true, false, [], ◌∷◌, Option, None, Some, is_some}
use Rattle.std.specs.List.{list_any}
use Rattle.std.proofs.Common.{arith, refl, sym, ap, subst, ◌∙◌, inl, inr}
use Rattle.cmm_attempt.proofs.Basics.{false_true, none_some}
use Rattle.cmm_attempt.specs.Attempts.{AttemptState}
use Rattle.cmm_member.specs.Records.{NodeRecord}
use Rattle.history.specs.Attempts.{phase_tick}
use Rattle.history.specs.Member.{attempt_of, session_of}
use Rattle.history.specs.Queue.{is_untold, queue_is_open}
use Rattle.history.specs.Seizing.{is_attempt, is_number}
use Rattle.history.specs.Setting.{coordinator}
use Rattle.history.specs.Trace.{ticked}
use Rattle.history_setting.specs.Settings.{setting_of}
use Rattle.membership_machine.specs.State.{Memberships}
use Rattle.node_model.specs.Seats as model
use Rattle.node_model.specs.declared.cluster.Cluster.{Cluster}
use Rattle.node_model.specs.declared.node.Node.TheVariants.{Up}
use Rattle.node_model.specs.declared.seat.Seat.TheVariants.{Forming, Member}
use Rattle.node_model.specs.declared.seat.Seat.{Seat}
use Rattle.refinement.specs.Ties.{NodeTied, SeatTied}
use Rattle.run_attempts.proofs.endings.Runs.{attempts_are_under_way_in_each_run}
use Rattle.run_history.specs.Happenings.{all_happened}
use Rattle.run_history.specs.Scenes.{Scene, first_scene}
use Rattle.run_lines.proofs.Adds.{onto}
use Rattle.run_messages.proofs.Runs.{memberships_of_each_run}
use Rattle.run_messages.specs.Laws.{membership_at, membership_in}
use Rattle.run_seizings.proofs.Runs.{run_seizes}
use Rattle.run_seizings.specs.Seized.{AttemptIn, AttemptSo}
use Rattle.run_seizings.specs.Sites.{UpIn, UpSo}
use Rattle.world_model.specs.First.{first_cluster}
use Rattle.run_outcomes.specs.silence.Anew.{anew, ticks_at}
use Rattle.run_outcomes.proofs.led.Runs.{installs_are_in_session}
use Rattle.run_outcomes.proofs.phases.Promised.{HasIt, has_it}
use Rattle.run_outcomes.proofs.phases.Runs.{Knows, knows_at, ways_at}
use Rattle.run_outcomes.proofs.phases.Taken.{Ways, way_of}
use Rattle.run_outcomes.proofs.requests.Runs.{requests_are_of_attempts}
use Rattle.run_outcomes.proofs.silence.ends.Begins.{begun_anew}
use Rattle.run_outcomes.proofs.silence.ends.Counts.{none_counted}
use Rattle.run_outcomes.proofs.silence.ends.Grown.{Grown, grown_by}
use Rattle.run_outcomes.proofs.silence.ends.Lasting.{StaysShut}
use Rattle.run_outcomes.proofs.silence.ends.ShutLines.{Lawful, Within, stays_open}

-- a node with an attempt is no member
none_member : (c : Cluster) (M : Memberships) (n : ℕ) (disk : NodeRecord) (a : AttemptState) (o : Option AttemptState) (seat : Seat) → SeatTied c M n disk o seat → o ≡ Some a → membership_in seat ≡ None
none_member c M n disk a o (Forming s) tied has = refl
none_member c M n disk a o (Member s) tied has = absurd (none_some a (sym tied.2 ∙ has))

open_more : (a b : Bool) → b ≡ true → (a || (b && true)) ≡ true
open_more true b h = refl
open_more false true h = refl
open_more false false h = absurd (false_true h)

pub stays_shut : StaysShut
stays_shut h cells hs x last nodes few small disks may shaped native boots left n a b there at number shut = by_before (queue_is_open (setting_of h) n s.moments) refl
  where
    s : Scene
    s = all_happened (first_cluster h) (first_scene h cells) hs

    t : Scene
    t = all_happened (first_cluster h) (first_scene h cells) (hs ++ x ∷ [])

    e : ℕ
    e = b.plan.epoch

    knows : Knows (first_cluster h) t
    knows = knows_at h cells t (record { few = few; small = small }) (record { happenings = hs ++ x ∷ []; may = may; is = refl })

    ways : Ways t.nodes t.moments
    ways = ways_at (first_cluster h) t knows

    it : HasIt (t.nodes.node n) b
    it = has_it (t.nodes.node n) b at

    own : coordinator e ≡ n
    own = ways.own n it.x b it.up it.has

    g : Grown x s.moments t.moments
    g = grown_by h cells hs x

    lawful : Lawful (onto g.calm.newer g.base)
    lawful = subst Lawful (sym g.calm.is) (record {
      ends = attempts_are_under_way_in_each_run h cells (hs ++ x ∷ []) few small may;
      installs = installs_are_in_session h cells (hs ++ x ∷ []) last nodes few small disks may shaped native boots left;
      asks = requests_are_of_attempts h cells (hs ++ x ∷ []) few small may;
    })

    -- it is in the session of its attempt, and no member
    within_then : Within n e t.moments
    within_then =
        let up : UpSo h t.moments n it.x = subst (UpIn h t.moments n) it.up ((run_seizes h cells (hs ++ x ∷ []) few small may).seizing.sites n).up in
        let so : AttemptSo h t.moments n (model.session_of it.x) b = subst (AttemptIn h t.moments n (model.session_of it.x)) it.has up.attempt in
        record {
          way = way_of t.nodes t.moments n it.x b ways it.up it.has;
          session = is_so e (model.session_of it.x) (session_of n t.moments) (up.session (subst (λ q. 0 < q) so.epoch so.some)) so.epoch;
          none = ap is_some (memberships_of_each_run h cells (hs ++ x ∷ []) few small may n ∙ (ap membership_at it.up ∙ none_there));
        }
      where
        is_so : (p q : ℕ) (o : Option ℕ) → o ≡ Some q → p ≡ q → is_number p o ≡ true
        is_so p q o h k = subst (λ z. is_number p z ≡ true) (sym h) (itself p q k)
          where
            itself : (p q : ℕ) → p ≡ q → (q == p) ≡ true
            itself p q k = grind arith

        none_there : membership_in it.x.seat ≡ None
        none_there =
            let M : Memberships = knows.known.stage.machine in
            let tied : NodeTied (first_cluster h) M n (t.nodes.disk n).kept (Up it.x) = subst (NodeTied (first_cluster h) M n (t.nodes.disk n).kept) it.up (knows.known.stage.stands n).tied in
            none_member (first_cluster h) M n (t.nodes.disk n).kept b it.x.attempt it.x.seat tied.0 it.has

    within : Within n e (onto g.calm.newer g.base)
    within = subst (Within n e) (sym g.calm.is) within_then

    anew_none : anew (setting_of h) e g.calm.newer g.base ≡ true → phase_tick (setting_of h) e t.moments ≡ 0
    anew_none is = subst (λ ms. phase_tick (setting_of h) e ms ≡ 0) g.calm.is (none_counted (setting_of h) e g.calm.newer g.base (g.calm.none (coordinator e)) is)

    open_there : queue_is_open (setting_of h) n s.moments ≡ true → queue_is_open (setting_of h) n g.base ≡ true
    open_there is_open = by_base g.from
      where
        by_base : (g.base ≡ s.moments) ⊎ ((m : ℕ) × (g.base ≡ ticked m ∷ s.moments) × ((j : ℕ) → m ≡ j → ticks_at j x ≡ 1)) → queue_is_open (setting_of h) n g.base ≡ true
        by_base (inl is) = ap (queue_is_open (setting_of h) n) is ∙ is_open
        by_base (inr (m, is, other)) =
            ap (queue_is_open (setting_of h) n) is ∙ open_more (is_untold (setting_of h) n (attempt_of n (ticked m ∷ s.moments)) (ticked m ∷ s.moments)) (queue_is_open (setting_of h) n s.moments) is_open

    by_end : (queue_is_open (setting_of h) n (onto g.calm.newer g.base) ≡ true) ⊎ (anew (setting_of h) e g.calm.newer g.base ≡ true) → phase_tick (setting_of h) e t.moments ≡ 0
    by_end (inl is) = absurd (false_true (sym shut ∙ (ap (queue_is_open (setting_of h) n) (sym g.calm.is) ∙ is)))
    by_end (inr is) = anew_none is

    by_line : (l : Bool) → list_any (is_attempt e) g.calm.newer ≡ l → queue_is_open (setting_of h) n s.moments ≡ true → phase_tick (setting_of h) e t.moments ≡ 0
    by_line true begun is_open = anew_none (begun_anew (setting_of h) e g.calm.newer g.base begun)
    by_line false young is_open = by_end (stays_open (setting_of h) n e g.calm.newer g.base own young lawful within (open_there is_open))

    by_before : (o : Bool) → queue_is_open (setting_of h) n s.moments ≡ o → (queue_is_open (setting_of h) n s.moments ≡ false) ⊎ (phase_tick (setting_of h) e t.moments ≡ 0)
    by_before true is = inr (by_line (list_any (is_attempt e) g.calm.newer) refl is)
    by_before false is = inl is

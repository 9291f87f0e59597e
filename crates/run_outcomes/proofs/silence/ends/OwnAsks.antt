-- Where an attempt newly asks its coordinator to seize a device, and the queue is told, its lines begin to count anew.
use Rattle.std.specs.Prelude.{◌^◌, ◌≡◌, ◌⊎◌, ◌++◌, nat_lt, Bool, true, false, [], ◌∷◌}
use Rattle.std.proofs.Common.{refl, sym, ap, subst, ◌∙◌}
use Rattle.attempt_laws.specs.Staying.{IsBefore}
use Rattle.history.specs.Attempts.{phase_tick}
use Rattle.history.specs.Queue as told
use Rattle.history_setting.specs.Settings.{setting_of}
use Rattle.node_model.specs.declared.cluster.Cluster.{Cluster}
use Rattle.run_history.specs.Happenings.{all_happened, happened}
use Rattle.run_history.specs.Scenes.{Scene, first_scene}
use Rattle.run_history.specs.Shapes.{nothing}
use Rattle.run_messages.proofs.Reaching.{IsSmall}
use Rattle.run_packets.specs.native.Laws.{BootsInHeader}
use Rattle.world_model.specs.First.{first_cluster}
use Rattle.run_outcomes.specs.phases.Laws.{is_seizing}
use Rattle.run_outcomes.proofs.asks.Lines.{left_before}
use Rattle.run_outcomes.proofs.elsewhere.Steps.{others_stay}
use Rattle.run_outcomes.proofs.others.Ends.{LastDue, all_before, last_due, last_may}
use Rattle.run_outcomes.proofs.others.Runs.{Point}
use Rattle.run_outcomes.proofs.own_steps.Steps.{takes_part}
use Rattle.run_outcomes.proofs.phases.Promised.{HasIt, has_it}
use Rattle.run_outcomes.proofs.rounds_told.Numbers.{happened_next}
use Rattle.run_outcomes.proofs.silence.Outgone.{Of}
use Rattle.run_outcomes.proofs.silence.OutgoneRuns.{seen_at}
use Rattle.run_outcomes.proofs.silence.ends.Grown.{Grown, grown_by}
use Rattle.run_outcomes.proofs.silence.ends.Lasting.{OwnAsksBegin}
use Rattle.run_outcomes.proofs.silence.ends.OwnComing.{counted}
use Rattle.run_outcomes.proofs.silence.ends.OwnPoints.{early_or, no_member}
use Rattle.run_outcomes.proofs.silence.ends.OwnSteps.{NewOwn, same_node}
use Rattle.run_outcomes.proofs.silence.tasks.Own.{Facts, facts_at}
use Rattle.run_outcomes.proofs.told_tasks.Points.{seizing_before}
use Rattle.run_outcomes.proofs.told_tasks.Prefixes.{happened_last, may_before, native_before}

pub own_asks_begin : OwnAsksBegin
own_asks_begin h cells hs e last nodes few small disks may shaped native boots left n a b there at number shut seizing d now before =
    ap (λ j. phase_tick (setting_of h) j t.moments) number ∙ by_part (takes_part n e) refl
  where
    c : Cluster
    c = first_cluster h

    s : Scene
    s = all_happened c (first_scene h cells) hs

    t : Scene
    t = all_happened c (first_scene h cells) (hs ++ e ∷ [])

    whole : t ≡ happened c s e
    whole = happened_last c (first_scene h cells) hs e

    due : LastDue c (first_scene h cells) nothing last hs e
    due = last_due c (first_scene h cells) nothing last hs e shaped

    z : Point h cells hs
    z = record {
      last = due.mid;
      nodes = nodes;
      few = few;
      small = small;
      disks = disks;
      may = may_before c (first_scene h cells) hs (e ∷ []) may;
      shaped = due.shaped;
      native = native_before c (first_scene h cells) hs (e ∷ []) native;
      boots = all_before (BootsInHeader h) hs (e ∷ []) boots;
      left = left_before s.links.next (happened c s e).links.next (happened_next c s e) (subst (λ (u : Scene). nat_lt u.links.next (2 ^ 63) ≡ true) whole left);
    }

    v : Point h cells (hs ++ e ∷ [])
    v = record { last = last; nodes = nodes; few = few; small = small; disks = disks; may = may; shaped = shaped; native = native; boots = boots; left = left }

    size : IsSmall h
    size = record { few = few; small = small }

    is : HasIt (s.nodes.node n) a
    is = has_it (s.nodes.node n) a there

    it : HasIt (t.nodes.node n) b
    it = has_it (t.nodes.node n) b at

    f : Facts h s n is.x a
    f = facts_at h cells hs z n is.x a is.up is.has

    g : Facts h t n it.x b
    g = facts_at h cells (hs ++ e ∷ []) v n it.x b it.up it.has

    grown : Grown e s.moments t.moments
    grown = grown_by h cells hs e

    of : Of h s.moments n is.x a
    of = (seen_at h cells s size (record { happenings = hs; may = z.may; is = refl })).attempts z.left n is.x a is.up is.has

    of_after : Of h t.moments n it.x b
    of_after = (seen_at h cells t size (record { happenings = hs ++ e ∷ []; may = may; is = refl })).attempts left n it.x b it.up it.has

    early : IsBefore a.phase × ((is_seizing a.phase ≡ true) ⊎ (told.tasks_of (setting_of h) n s.moments ≡ []))
    early = early_or h cells hs e z t n is.x it.x a b is.up is.has f g number seizing grown

    k : NewOwn h s t n is.x it.x a b d
    k = record {
      was = is.up;
      had = is.has;
      up = it.up;
      has = it.has;
      number = number;
      shut = shut;
      seizing = seizing;
      now = now;
      before = before;
      f = f;
      g = g;
      own = of.coordinates ∙ f.so.own;
      own_after = of_after.coordinates ∙ g.so.own;
      none = no_member h cells hs z n is.x a is.up f early.0;
      none_after = no_member h cells (hs ++ e ∷ []) v n it.x b it.up g (seizing_before b.phase seizing);
      early = early.1;
    }

    by_part : (part : Bool) → takes_part n e ≡ part → phase_tick (setting_of h) a.plan.epoch t.moments ≡ 0
    by_part true part =
        subst (λ (u : Scene). NewOwn h s u n is.x it.x a b d → Grown e s.moments u.moments → phase_tick (setting_of h) a.plan.epoch u.moments ≡ 0) (sym whole)
        (counted h cells hs z e n (last_may c (first_scene h cells) hs e may) part is.x it.x a b d) k grown
    by_part false part = absurd (same_node h s t n is.x it.x a b d k (others_stay h cells hs e last nodes few small disks may shaped native boots left n part).node)

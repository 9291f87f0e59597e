-- The law, of each run.
use Rattle.std.specs.Prelude.{ℕ, ◌==◌, ◌&&◌, ◌≡◌, ◌<◌, ◌≤◌, ◌⊎◌, ◌^◌, nat_lt, not, Bool, true, false, List, Some, length}
use Rattle.std.specs.List.{list_any}
use Rattle.std.proofs.Common.{refl, sym, ap, subst, ◌∙◌, inl, inr}
use Rattle.cl_base.specs.declared.header.Header.{Header}
use Rattle.cmm_attempt.specs.Attempts.{AttemptState, is_missing, is_missing_in}
use Rattle.history.specs.Setting.{all_to}
use Rattle.attempt_laws.specs.Asking.{entry_of}
use Rattle.attempt_laws.specs.Staying.{IsBefore}
use Rattle.cmm_attempt.specs.Seizings.{awaits_from}
use Rattle.cmm_attempt.specs.declared.phase.Phase.{Phase}
use Rattle.cmm_attempt.specs.declared.phase.Phase.TheVariants.{Choosing, Collecting, Installing, Over, SeizingOthers, SeizingVotes}
use Rattle.cmm_attempt.specs.declared.seizing.Seizing.{Seizing}
use Rattle.run_outcomes.specs.results.Paths.{AttemptIn, AttemptPath, EntryPath, NodePath}
use Rattle.run_outcomes.specs.tasks.Laws.{SeizedsAreTold}
use Rattle.run_outcomes.proofs.results.Pathed.{paths_of_each_run}
use Rattle.run_outcomes.proofs.silence.Listed.{listed, of_entry}
use Rattle.run_outcomes.proofs.silence.Seizing.{seizing_lacks}
use Rattle.run_history.specs.Happenings.{Happening, MayAllHappen, all_happened}
use Rattle.run_history.specs.Shapes.{Due, ShapedFrom, nothing}
use Rattle.run_history.specs.WorldLines.{AreDisks}
use Rattle.run_packets.specs.views.Laws.{NoneForeign}
use Rattle.cl_base.specs.Limits.{most_devices}
use Rattle.run_outcomes.specs.phases.Laws.{HasAttempt, is_other}
use Rattle.run_outcomes.specs.silence.Asked.{is_other_node}
use Rattle.run_history.specs.Scenes.{Scene, first_scene}
use Rattle.run_messages.proofs.Reaching.{IsReached, IsSmall}
use Rattle.run_outcomes.specs.phases.Kept.{In}
use Rattle.run_outcomes.specs.saves.Kept.{IsAt}
use Rattle.run_outcomes.specs.silence.Laws.{CollectsAreMissing, LacksAreMissing, MissingAreTold, lacks_answer}
use Rattle.run_outcomes.proofs.asks.Firsts.{coordinator_is}
use Rattle.run_outcomes.proofs.asks.Runs.{asks_are_told}
use Rattle.run_outcomes.proofs.phases.Leading.{Has}
use Rattle.run_outcomes.proofs.phases.LiveRuns.{none_is_over}
use Rattle.run_outcomes.proofs.phases.Own.{HasOwn, run_own}
use Rattle.run_outcomes.proofs.phases.Promised.{Facts, HasIt, facts, has_it, in_filter, live_are_told, others_so}
use Rattle.run_outcomes.proofs.phases.Runs.{run_takes}
use Rattle.run_outcomes.proofs.silence.Lacks.{Known, collecting_so, lacks_so}
use Rattle.run_outcomes.proofs.silence.Runs.{run_told}
use Rattle.world_model.specs.First.{first_cluster}

pub record Here (h : Header) (s : Scene) (a : AttemptState) (m : ℕ) : Type 0 where
  pub known : Known s.moments a
  pub other : (m == a.plan.coordinator) ≡ false
  pub member : is_other_node a.plan m ≡ true

pub here : (h : Header) (cells : ℕ) (hs : List Happening) (last : Due) → length h.devices ≤ most_devices → h.cluster < 2 ^ 32 → AreDisks h → MayAllHappen (first_cluster h) (first_scene h cells) hs
    → ShapedFrom (first_cluster h) (first_scene h cells) nothing hs last → NoneForeign (first_cluster h) (first_scene h cells) hs
    → (let s : Scene = all_happened (first_cluster h) (first_scene h cells) hs in nat_lt s.links.next (2 ^ 63) ≡ true → (n : ℕ) (a : AttemptState) → HasAttempt s n a → (m : ℕ) → is_other a s.moments m ≡ true → Here h s a m)
here h cells hs last few small disks may shaped native left n a at m is = record { known = known; other = other; member = both (list_any (λ k. k == m) a.plan.nodes) (not (m == a.plan.coordinator)) two.0 two.1 }
  where
    s : Scene
    s = all_happened (first_cluster h) (first_scene h cells) hs

    size : IsSmall h
    size = record { few = few; small = small }

    reached : IsReached h cells s
    reached = record { happenings = hs; may = may; is = refl }

    it : HasIt (s.nodes.node n) a
    it = has_it (s.nodes.node n) a at

    own : HasOwn a
    own = subst (In HasOwn) it.has (subst (IsAt (Has HasOwn)) it.up (run_own h cells hs few small may n))

    f : Facts s.moments n a
    f = facts h cells s size reached n a at (run_takes h cells hs size may native n it.x a it.up it.has) own

    two : (list_any (λ k. k == m) a.plan.nodes ≡ true) × (not (m == a.plan.coordinator) ≡ true)
    two = in_filter a.plan.coordinator m a.plan.nodes (subst (λ ns. list_any (λ k. k == m) ns ≡ true) (others_so s.moments n a f) is)

    both : (x y : Bool) → x ≡ true → y ≡ true → (x && y) ≡ true
    both true y p q = q
    both false y p q = absurd (apart p)
      where
        apart : false ≡ true → ⊥
        apart z = cc

    unless : (b : Bool) → not b ≡ true → b ≡ false
    unless true k = absurd (apart k)
      where
        apart : false ≡ true → ⊥
        apart z = cc
    unless false k = refl

    other : (m == a.plan.coordinator) ≡ false
    other = unless (m == a.plan.coordinator) two.1

    known : Known s.moments a
    known = record {
      own = sym (coordinator_is h cells s size reached n it.x a it.up it.has);
      live = none_is_over h cells hs few small may n a at;
      promises = live_are_told h cells hs few small may native n a at (none_is_over h cells hs few small may n a at);
      asks = asks_are_told h cells hs last few small disks may shaped native left n a at;
      told = (run_told h cells hs size may left n it.x a it.up it.has).0;
      late = (run_told h cells hs size may left n it.x a it.up it.has).1;
    }

pub lacks_are_missing : LacksAreMissing
lacks_are_missing h cells hs last few small disks may shaped native left n a at m is lacks =
    let s : Scene = all_happened (first_cluster h) (first_scene h cells) hs in
    let at_m : Here h s a m = here h cells hs last few small disks may shaped native left n a at m is in
    lacks_so s.moments a m (length h.devices) at_m.known is at_m.other lacks

pub collects_are_missing : CollectsAreMissing
collects_are_missing h cells hs last few small disks may shaped native left n a at collects m is = by_values (lacks_answer h a.plan.epoch s.moments m) (is_missing a m) refl refl
  where
    s : Scene
    s = all_happened (first_cluster h) (first_scene h cells) hs

    at_m : Here h s a m
    at_m = here h cells hs last few small disks may shaped native left n a at m is

    apart : false ≡ true → ⊥
    apart z = cc

    by_values : (b c : Bool) → lacks_answer h a.plan.epoch s.moments m ≡ b → is_missing a m ≡ c → lacks_answer h a.plan.epoch s.moments m ≡ is_missing a m
    by_values true c told has = told ∙ sym (lacks_so s.moments a m (length h.devices) at_m.known is at_m.other told)
    by_values false true told has = absurd (apart (sym told ∙ collecting_so s.moments a m (length h.devices) at_m.known is at_m.member collects has))
    by_values false false told has = told ∙ sym has

-- ---- before it installs

awaited_so : (p : Phase) (a : AttemptState) (m : ℕ) → a.phase ≡ p → IsBefore p → is_missing a m ≡ true → (p ≡ Collecting) ⊎ (list_any (awaits_from m) a.devices ≡ true)
awaited_so Collecting a m at before is = inl refl
awaited_so Choosing a m at before is = absurd (apart (sym (ap (is_missing_in a m) at) ∙ is))
  where
    apart : false ≡ true → ⊥
    apart z = cc
awaited_so SeizingVotes a m at before is = inr (sym (ap (is_missing_in a m) at) ∙ is)
awaited_so SeizingOthers a m at before is = inr (sym (ap (is_missing_in a m) at) ∙ is)
awaited_so Installing a m at before is = absurd before
awaited_so Over a m at before is = absurd before

pub missing_are_told : SeizedsAreTold → MissingAreTold
missing_are_told seizeds h cells hs last few small disks may shaped native left n a at before m is = by_values (lacks_answer h a.plan.epoch s.moments m) (is_missing a m) refl refl
  where
    s : Scene
    s = all_happened (first_cluster h) (first_scene h cells) hs

    at_m : Here h s a m
    at_m = here h cells hs last few small disks may shaped native left n a at m is

    it : HasIt (s.nodes.node n) a
    it = has_it (s.nodes.node n) a at

    path : AttemptPath (first_cluster h) n a
    path = subst (AttemptIn (first_cluster h) n) it.has (subst (NodePath (first_cluster h) n) it.up (paths_of_each_run h cells hs few small may n)).attempt

    device : (e : Seizing) (k : ℕ) → entry_of a.devices e.attached.device ≡ Some e → e.seizer ≡ Some k → list_any (λ j. j == e.attached.device) (all_to (length h.devices)) ≡ true
    device e k entry seizer = listed h.devices k e.attached.device ((of_entry (EntryPath (first_cluster h)) a.devices e.attached.device e path.entries entry).seizer k seizer)

    apart : false ≡ true → ⊥
    apart z = cc

    missing : (a.phase ≡ Collecting) ⊎ (list_any (awaits_from m) a.devices ≡ true) → is_missing a m ≡ true → lacks_answer h a.plan.epoch s.moments m ≡ true
    missing (inl collects) has = collecting_so s.moments a m (length h.devices) at_m.known is at_m.member collects has
    missing (inr awaited) has = seizing_lacks s.moments a m (length h.devices) at_m.known (seizeds h cells hs last few small disks may shaped native n a at) before at_m.other device awaited

    by_values : (b c : Bool) → lacks_answer h a.plan.epoch s.moments m ≡ b → is_missing a m ≡ c → lacks_answer h a.plan.epoch s.moments m ≡ is_missing a m
    by_values true c told has = told ∙ sym (lacks_so s.moments a m (length h.devices) at_m.known is at_m.other told)
    by_values false true told has = absurd (apart (sym told ∙ missing (awaited_so a.phase a m refl before has) has))
    by_values false false told has = told ∙ sym has

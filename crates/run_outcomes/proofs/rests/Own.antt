-- Each step that a node takes part in, which leads without an attempt after it, leaves it its tasks, where refusals leave those of coordinators.
use Rattle.std.specs.Prelude.{ℕ, ◌≡◌, ◌<◌, ◌≤◌, ◌^◌, ◌++◌, true, List, [], ◌∷◌, length}
use Rattle.std.proofs.Common.{refl, sym, subst}
use Rattle.cl_base.specs.Limits.{most_devices}
use Rattle.cl_base.specs.declared.header.Header.{Header}
use Rattle.cmm_attempt.proofs.Basics.{false_true, same_number}
use Rattle.node_model.specs.declared.cluster.Cluster.{Cluster}
use Rattle.run_attempts.proofs.endings.Runs.{nodes_have_their_attempts_in_each_run}
use Rattle.run_history.specs.Happenings.{Happening, MayAllHappen, MayHappen, all_happened, happened}
use Rattle.run_history.specs.Happenings.Happening.{Arrives, Commands, Strays, Takes, Writes}
use Rattle.run_history.specs.Scenes.{Scene, first_scene}
use Rattle.run_history.specs.Shapes.{Due, ShapedFrom, nothing}
use Rattle.run_history.specs.WorldLines.{AreDisks}
use Rattle.run_messages.proofs.Reaching.{IsSmall}
use Rattle.run_packets.specs.native.Laws.{BootsInHeader}
use Rattle.run_packets.specs.views.Laws.{NoneForeign}
use Rattle.world_model.specs.First.{first_cluster}
use Rattle.run_outcomes.specs.reports.Laws.{RequestsAreOfAttempts}
use Rattle.run_outcomes.specs.tasks.AsksGiven.{IsLeft}
use Rattle.run_outcomes.specs.tasks.Laws.{OfEachLeft}
use Rattle.run_outcomes.proofs.asks.Lines.{left_before}
use Rattle.run_outcomes.proofs.others.Ends.{all_before}
use Rattle.run_outcomes.proofs.outward.Addressed.{all_addressed}
use Rattle.run_outcomes.proofs.outward.Resting.{LeadersHave}
use Rattle.run_outcomes.proofs.outward.Runs.{requests_go_out}
use Rattle.run_outcomes.proofs.own_steps.Steps.{OwnStepsRest, RestsThere, takes_part}
use Rattle.run_outcomes.proofs.own_tasks.Runs.{run_owned}
use Rattle.run_outcomes.proofs.phases.LiveRuns.{none_is_over}
use Rattle.run_outcomes.proofs.phases.Seizes.{promises_are_told, seizings_are_told}
use Rattle.run_outcomes.proofs.rests.Arrivals.{Fresh, NackLeaves, arrives_rest, strays_rest}
use Rattle.run_outcomes.proofs.rests.Known.{Known}
use Rattle.run_outcomes.proofs.rests.Rests.{commands_rest, takes_rest, writes_rest}
use Rattle.run_outcomes.proofs.rests.Sessions.{session_so}
use Rattle.run_outcomes.proofs.rounds_told.Numbers.{happened_next}
use Rattle.run_outcomes.proofs.saves.Kept.{run_kept}
use Rattle.run_outcomes.proofs.told_tasks.Prefixes.{ShapedBefore, happened_last, may_before, native_before, shaped_before}

-- ---- at the beginning of the step

known_of : RequestsAreOfAttempts → (h : Header) (cells : ℕ) (hs : List Happening) (last : Due) → length h.devices ≤ most_devices → h.cluster < 2 ^ 32 → AreDisks h → MayAllHappen (first_cluster h) (first_scene h cells) hs
    → ShapedFrom (first_cluster h) (first_scene h cells) nothing hs last → NoneForeign (first_cluster h) (first_scene h cells) hs → LeadersHave h (all_happened (first_cluster h) (first_scene h cells) hs)
    → Known h cells (all_happened (first_cluster h) (first_scene h cells) hs)
known_of asks h cells hs last few small disks may shaped native have = record {
  size = size;
  reached = record { happenings = hs; may = may; is = refl };
  ways = nodes_have_their_attempts_in_each_run h cells hs few small may;
  out = requests_go_out h cells hs size may;
  to = all_addressed h cells hs size may;
  asks = asks h cells hs few small may;
  owned = run_owned h cells hs size may;
  have = have;
  session = λ n w up first. session_so h cells hs last few small disks may shaped n w up first;
  promised = λ n a it. promises_are_told h cells hs few small may native n a it;
  seizes = λ n a it. seizings_are_told h cells hs few small may native n a it;
  live = λ n a it. none_is_over h cells hs few small may n a it;
  waits = λ n. (run_kept h cells hs few small may).rests n;
}
  where
    size : IsSmall h
    size = record { few = few; small = small }

may_last : (c : Cluster) (s : Scene) (xs : List Happening) (x : Happening) → MayAllHappen c s (xs ++ x ∷ []) → MayHappen c (all_happened c s xs) x
may_last c s [] x may = may.0
may_last c s (y ∷ xs) x may = may_last c (happened c s y) xs x may.1

-- ---- the step

-- a refusal that comes leaves a coordinator whose attempt seizes devices its tasks
abbrev pub NacksLeave : Type 0
NacksLeave = OfEachLeft (λ h s. NackLeaves h s)

step_rests : (h : Header) (cells : ℕ) (s : Scene) (x : Happening) → Known h cells s → NackLeaves h s → MayHappen (first_cluster h) s x → (n : ℕ) → Fresh (happened (first_cluster h) s x) n → takes_part n x ≡ true
    → RestsThere h s x (happened (first_cluster h) s x) n
step_rests h cells s (Takes m now ends i) k nack may n fresh part =
    subst (λ j. Fresh (happened (first_cluster h) s (Takes m now ends i)) j → RestsThere h s (Takes m now ends i) (happened (first_cluster h) s (Takes m now ends i)) j) (same_number m n part)
    (λ f. takes_rest h cells s k m now ends i may f) fresh
step_rests h cells s (Arrives number p m now ends) k nack may n fresh part =
    subst (λ j. Fresh (happened (first_cluster h) s (Arrives number p m now ends)) j → RestsThere h s (Arrives number p m now ends) (happened (first_cluster h) s (Arrives number p m now ends)) j) (same_number p.to n part)
    (λ f. arrives_rest h cells s k number p m now ends may nack f) fresh
step_rests h cells s (Strays number p) k nack may n fresh part =
    subst (λ j. RestsThere h s (Strays number p) (happened (first_cluster h) s (Strays number p)) j) (same_number p.to n part) (strays_rest h cells s k number p may)
step_rests h cells s (Commands m d q now ends) k nack may n fresh part =
    subst (λ j. Fresh (happened (first_cluster h) s (Commands m d q now ends)) j → RestsThere h s (Commands m d q now ends) (happened (first_cluster h) s (Commands m d q now ends)) j) (same_number m n part)
    (λ f. commands_rest h cells s k m d now q ends may f) fresh
step_rests h cells s (Writes m d value now ends) k nack may n fresh part =
    subst (λ j. RestsThere h s (Writes m d value now ends) (happened (first_cluster h) s (Writes m d value now ends)) j) (same_number m n part) (writes_rest h cells s k m d value now ends may)
step_rests h cells s _ k nack may n fresh part = absurd (false_true part)

pub own_steps_rest_by : RequestsAreOfAttempts → NacksLeave → OwnStepsRest
own_steps_rest_by asks nacks h cells hs x last nodes few small disks may shaped native boots left have n part =
    subst (λ z. RestsThere h s x z n) (sym same)
    (step_rests h cells s x (known_of asks h cells hs before.last few small disks may_so before.shaped native_so have)
    (nacks h cells hs before.last nodes few small disks may_so before.shaped native_so (all_before (BootsInHeader h) hs (x ∷ []) boots)
    (left_before s.links.next (happened c s x).links.next (happened_next c s x) (subst (λ (z : Scene). IsLeft z.links.next) same left)))
    (may_last c (first_scene h cells) hs x may) n fresh part)
  where
    c : Cluster
    c = first_cluster h

    s : Scene
    s = all_happened c (first_scene h cells) hs

    may_so : MayAllHappen c (first_scene h cells) hs
    may_so = may_before c (first_scene h cells) hs (x ∷ []) may

    native_so : NoneForeign c (first_scene h cells) hs
    native_so = native_before c (first_scene h cells) hs (x ∷ []) native

    same : all_happened c (first_scene h cells) (hs ++ x ∷ []) ≡ happened c s x
    same = happened_last c (first_scene h cells) hs x

    before : ShapedBefore c (first_scene h cells) nothing hs
    before = shaped_before c (first_scene h cells) nothing last hs (x ∷ []) shaped

    fresh : Fresh (happened c s x) n
    fresh = subst (λ z. Fresh z n) same (λ y up first. session_so h cells (hs ++ x ∷ []) last few small disks may shaped n y up first)

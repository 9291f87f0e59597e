-- What a coordinator does beside messages: it has its tasks after it, or has come to them as `LedOn` has it.
use Rattle.std.specs.Prelude.{ℕ, ◌^◌, ◌≡◌, ◌++◌, nat_lt, true, List, [], ◌∷◌, Option, None, Some}
use Rattle.std.proofs.Common.{refl, sym, ap, subst, ◌∙◌}
use Rattle.cl_base.specs.declared.header.Header.{Header}
use Rattle.cmm_attempt.proofs.Basics.{same_number}
use Rattle.cmm_attempt.specs.Attempts.{AttemptState}
use Rattle.cmm_attempt.specs.Calls.{IsReached as Calls_reached}
use Rattle.history.specs.Setting.{coordinator}
use Rattle.node_model.specs.declared.cluster.Cluster.{Cluster}
use Rattle.node_model.specs.declared.node.Node.{Node}
use Rattle.node_model.specs.declared.node.Node.TheVariants.{Down, Up}
use Rattle.node_model.specs.declared.node.UpNode.{UpNode}
use Rattle.refinement.specs.Guards.{OfUp}
use Rattle.run_history.specs.Happenings.{Happening, MayAllHappen, MayHappen, all_happened, happened}
use Rattle.run_history.specs.Happenings.Happening.{Commands, Takes, Writes}
use Rattle.run_history.specs.Scenes.{Scene, first_scene}
use Rattle.run_history.specs.Shapes.{nothing}
use Rattle.run_messages.proofs.Reaching.{IsSmall}
use Rattle.run_packets.specs.native.Laws.{BootsInHeader}
use Rattle.run_packets.specs.views.Laws.{NoneForeign}
use Rattle.world_model.specs.First.{first_cluster}
use Rattle.run_outcomes.specs.phases.Kept.{In}
use Rattle.run_outcomes.specs.phases.Laws.{HasAttempt}
use Rattle.run_outcomes.specs.saves.Kept.{IsAt, Rests, RestsIn}
use Rattle.run_outcomes.proofs.asks.Lines.{left_before}
use Rattle.run_outcomes.proofs.others.Ends.{LastDue, all_before, last_due, last_may}
use Rattle.run_outcomes.proofs.own_steps.Doings.{Known, commands_lead, takes_lead, writes_lead}
use Rattle.run_outcomes.proofs.own_steps.Past.{IsResting}
use Rattle.run_outcomes.proofs.own_steps.Steps.{LeadsThere, OfEachStep, StepsAreSo, takes_part}
use Rattle.run_outcomes.proofs.own_tasks.Grounds.{leads_at}
use Rattle.run_outcomes.proofs.own_tasks.Runs.{run_owned}
use Rattle.run_outcomes.proofs.phases.Leading.{Has}
use Rattle.run_outcomes.proofs.phases.Own.{HasOwn, run_own}
use Rattle.run_outcomes.proofs.phases.Promised.{Facts, facts}
use Rattle.run_outcomes.proofs.phases.Runs.{run_takes}
use Rattle.run_outcomes.proofs.rounds_told.Numbers.{happened_next}
use Rattle.run_outcomes.proofs.saves.Kept.{run_kept}
use Rattle.run_outcomes.proofs.told_tasks.Prefixes.{happened_last, may_before, native_before}
use Rattle.run_outcomes.proofs.told_tasks.Queues.{SeizersHave}

-- what comes to a node is no message, or it is at a device
abbrev pub IsOwnDoing : Happening → Type 0
IsOwnDoing (Takes n now ends i) = Unit {0}
IsOwnDoing (Commands n d q now ends) = Unit {0}
IsOwnDoing (Writes n d value now ends) = Unit {0}
IsOwnDoing _ = ⊥

-- no attempt asks for votes
resting : (node : Node) → IsAt Rests node → IsAt (Has IsResting) node
resting Down k = tt
resting (Up x) k = by_attempt x.attempt k
  where
    by_attempt : (o : Option AttemptState) → RestsIn o → In IsResting o
    by_attempt None rests = tt
    by_attempt (Some a) rests = rests

-- what is known of an attempt at a point of a run
known_there : (h : Header) (cells : ℕ) (hs : List Happening) → IsSmall h → MayAllHappen (first_cluster h) (first_scene h cells) hs → NoneForeign (first_cluster h) (first_scene h cells) hs → (n : ℕ) (y : UpNode) (b : AttemptState)
    → (all_happened (first_cluster h) (first_scene h cells) hs).nodes.node n ≡ Up y → y.attempt ≡ Some b → Calls_reached b × (coordinator b.plan.epoch ≡ n)
known_there h cells hs size may native n y b up at = (f.reached, f.own)
  where
    s : Scene
    s = all_happened (first_cluster h) (first_scene h cells) hs

    it : HasAttempt s n b
    it = subst (OfUp (λ z. z.attempt ≡ Some b)) (sym up) at

    f : Facts s.moments n b
    f =
        facts h cells s size (record { happenings = hs; may = may; is = refl }) n b it (run_takes h cells hs size may native n y b up at)
        (subst (In HasOwn) at (subst (IsAt (Has HasOwn)) up (run_own h cells hs size.few size.small may n)))

pub besides_lead : StepsAreSo → OfEachStep (λ h s x t. IsOwnDoing x → SeizersHave h s → (n : ℕ) → takes_part n x ≡ true → LeadsThere h s x t n)
besides_lead steps h cells hs x last nodes few small disks may shaped native boots left own have n part =
    subst (λ (t : Scene). LeadsThere h s x t n) (sym whole) (by_doing x refl own part)
  where
    c : Cluster
    c = first_cluster h

    s : Scene
    s = all_happened c (first_scene h cells) hs

    whole : all_happened c (first_scene h cells) (hs ++ x ∷ []) ≡ happened c s x
    whole = happened_last c (first_scene h cells) hs x

    size : IsSmall h
    size = record { few = few; small = small }

    earlier : MayAllHappen c (first_scene h cells) hs
    earlier = may_before c (first_scene h cells) hs (x ∷ []) may

    due : LastDue c (first_scene h cells) nothing last hs x
    due = last_due c (first_scene h cells) nothing last hs x shaped

    left_there : nat_lt s.links.next (2 ^ 63) ≡ true
    left_there = left_before s.links.next (happened c s x).links.next (happened_next c s x) (subst (λ (t : Scene). nat_lt t.links.next (2 ^ 63) ≡ true) whole left)

    known : (j : ℕ) → Known h s (happened c s x) j
    known j = record {
      leads = leads_at h cells s j size (record { happenings = hs; may = earlier; is = refl });
      owned = run_owned h cells hs size earlier j;
      rests = resting (s.nodes.node j) ((run_kept h cells hs few small earlier).rests j);
      have = have;
      so = λ w a b both k up at closed follows seizing given.
          steps h cells hs due.mid nodes few small disks earlier due.shaped (native_before c (first_scene h cells) hs (x ∷ []) native) (all_before (BootsInHeader h) hs (x ∷ []) boots) left_there have j w a b both k up at closed
          follows seizing given;
      reached = λ y b up at. known_there h cells (hs ++ x ∷ []) size may native j y b (ap (λ (t : Scene). t.nodes.node j) whole ∙ up) at;
    }

    now : MayHappen c s x
    now = last_may c (first_scene h cells) hs x may

    by_doing : (z : Happening) → x ≡ z → IsOwnDoing z → takes_part n z ≡ true → LeadsThere h s x (happened c s x) n
    by_doing (Takes m at ends i) is doing there =
        subst (λ z. LeadsThere h s z (happened c s z) n) (sym is)
        (subst (LeadsThere h s (Takes m at ends i) (happened c s (Takes m at ends i))) (same_number m n there)
        (let now_so : MayHappen c s (Takes m at ends i) = subst (MayHappen c s) is now in
        takes_lead h s m at ends i now_so.1 now_so.3 (subst (λ z. Known h s (happened c s z) m) is (known m))))
    by_doing (Commands m d q at ends) is doing there =
        subst (λ z. LeadsThere h s z (happened c s z) n) (sym is)
        (subst (LeadsThere h s (Commands m d q at ends) (happened c s (Commands m d q at ends))) (same_number m n there)
        (commands_lead h s m d q at ends (subst (MayHappen c s) is now) (subst (λ z. Known h s (happened c s z) m) is (known m))))
    by_doing (Writes m d value at ends) is doing there =
        subst (λ z. LeadsThere h s z (happened c s z) n) (sym is)
        (subst (LeadsThere h s (Writes m d value at ends) (happened c s (Writes m d value at ends))) (same_number m n there)
        (writes_lead h s m d value at ends (subst (MayHappen c s) is now) (subst (λ z. Known h s (happened c s z) m) is (known m))))
    by_doing _ is doing there = absurd doing

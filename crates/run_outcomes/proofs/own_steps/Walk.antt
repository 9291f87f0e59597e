-- What holds at first, and after each thing that happens where it held before it, holds at each point of a run where a packet number is left.
use Rattle.std.specs.Prelude.{ℕ, ◌++◌, List, [], ◌∷◌}
use Rattle.std.specs.List.{AllByRecursion}
use Rattle.std.proofs.Common.{subst}
use Rattle.cl_base.specs.declared.header.Header.{Header}
use Rattle.node_model.specs.declared.cluster.Cluster.{Cluster}
use Rattle.run_history.specs.Happenings.{Happening, MayAllHappen, all_happened, happened}
use Rattle.run_history.specs.Scenes.{Scene, first_scene}
use Rattle.run_history.specs.Shapes.{Due, ShapedFrom, nothing}
use Rattle.run_packets.specs.native.Laws.{BootsInHeader}
use Rattle.run_packets.specs.views.Laws.{NoneForeign}
use Rattle.world_model.specs.First.{first_cluster}
use Rattle.run_outcomes.specs.tasks.AsksGiven.{IsLeft}
use Rattle.run_outcomes.specs.tasks.Laws.{OfEachLeft}
use Rattle.run_outcomes.proofs.asks.Lines.{left_before}
use Rattle.run_outcomes.proofs.others.Ends.{all_before}
use Rattle.run_outcomes.proofs.own_steps.Steps.{OfEachStep}
use Rattle.run_outcomes.proofs.rounds_told.Numbers.{happened_next}
use Rattle.run_outcomes.proofs.told_tasks.Prefixes.{ShapedBefore, by_last, happened_last, may_before, native_before, shaped_before}

pub of_each_left : (P : Header → Scene → Type 0) → ((h : Header) (cells : ℕ) → P h (first_scene h cells)) → OfEachStep (λ h s x t. P h s → P h t) → OfEachLeft P
of_each_left P at_first each h cells hs last nodes few small disks may shaped native boots left = by_last Q first next hs last may shaped native boots left
  where
    c : Cluster
    c = first_cluster h

    Q : List Happening → Type 0
    Q xs = (d : Due) → MayAllHappen c (first_scene h cells) xs → ShapedFrom c (first_scene h cells) nothing xs d → NoneForeign c (first_scene h cells) xs → AllByRecursion (BootsInHeader h) xs
        → IsLeft (all_happened c (first_scene h cells) xs).links.next → P h (all_happened c (first_scene h cells) xs)

    first : Q []
    first d m z f b l = at_first h cells

    next : (xs : List Happening) (x : Happening) → Q xs → Q (xs ++ x ∷ [])
    next xs x k d m z f b l =
        let s : Scene = all_happened c (first_scene h cells) xs in
        let before : ShapedBefore c (first_scene h cells) nothing xs = shaped_before c (first_scene h cells) nothing d xs (x ∷ []) z in
        let there : IsLeft (happened c s x).links.next = subst (λ (t : Scene). IsLeft t.links.next) (happened_last c (first_scene h cells) xs x) l in
        each h cells xs x d nodes few small disks m z f b l
        (k before.last (may_before c (first_scene h cells) xs (x ∷ []) m) before.shaped (native_before c (first_scene h cells) xs (x ∷ []) f) (all_before (BootsInHeader h) xs (x ∷ []) b)
        (left_before s.links.next (happened c s x).links.next (happened_next c s x) there))

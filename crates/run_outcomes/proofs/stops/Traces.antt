-- One more thing happens.
use Rattle.std.specs.Prelude.{◌≡◌, ◌++◌, List, [], ◌∷◌, ℕ}
use Rattle.std.proofs.Common.{refl, sym, ap, subst, ◌∙◌}
use Rattle.cl_base.specs.declared.header.Header.{Header}
use Rattle.node_model.specs.declared.cluster.Cluster.{Cluster}
use Rattle.world_model.specs.First.{first_cluster}
use Rattle.run_history.specs.Happenings.{Happening, MayAllHappen, MayHappen, all_happened, happened}
use Rattle.run_history.specs.Scenes.{Scene, first_scene}
use Rattle.run_history.proofs.Lists.{all_and}
use Rattle.run_packets.specs.native.Laws.{BootsInHeader}
use Rattle.run_outcomes.specs.stops.Known.{Traced}

may_more : (c : Cluster) (s : Scene) (hs : List Happening) (x : Happening) → MayAllHappen c s hs → MayHappen c (all_happened c s hs) x → MayAllHappen c s (hs ++ x ∷ [])
may_more c s [] x all may = (may, tt)
may_more c s (g ∷ hs) x all may = (all.0, may_more c (happened c s g) hs x all.1 may)

happened_more : (c : Cluster) (s : Scene) (hs : List Happening) (x : Happening) → all_happened c s (hs ++ x ∷ []) ≡ happened c (all_happened c s hs) x
happened_more c s [] x = refl
happened_more c s (g ∷ hs) x = happened_more c (happened c s g) hs x

pub first_traced : (h : Header) (cells : ℕ) → Traced h cells (first_scene h cells)
first_traced h cells = record { happenings = []; may = tt; boots = tt; is = refl }

pub traced_more : (h : Header) (cells : ℕ) (s : Scene) (x : Happening) → Traced h cells s → MayHappen (first_cluster h) s x → BootsInHeader h x
    → Traced h cells (happened (first_cluster h) s x)
traced_more h cells s x t may boots =
    let c : Cluster = first_cluster h in
    record {
      happenings = t.happenings ++ x ∷ [];
      may = may_more c (first_scene h cells) t.happenings x t.may (subst (λ z. MayHappen c z x) (sym t.is) may);
      boots = all_and (BootsInHeader h) t.happenings x t.boots boots;
      is = happened_more c (first_scene h cells) t.happenings x ∙ ap (λ z. happened c z x) t.is;
    }

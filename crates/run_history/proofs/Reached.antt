-- One more thing happens.
use Rattle.std.specs.Prelude.{◌≡◌, ◌++◌, List, [], ◌∷◌}
use Rattle.std.proofs.Common.{refl, sym, ap, subst, ◌∙◌}
use Rattle.node_model.specs.declared.cluster.Cluster.{Cluster}
use Rattle.run_history.specs.Happenings.{Happening, MayAllHappen, MayHappen, all_happened, happened}
use Rattle.run_history.specs.Telling.{KeptHolds}
use Rattle.run_history.specs.Scenes.{Scene}
use Rattle.run_history.specs.Shapes.{Due, IsDue, ShapedFrom, due_after, nothing}

-- things that happen lead from the first scene to this one
pub record Reached (c : Cluster) (first s : Scene) : Type 0 where
  pub happenings : List Happening
  pub may : MayAllHappen c first happenings
  pub is : all_happened c first happenings ≡ s

may_more : (c : Cluster) (s : Scene) (hs : List Happening) (h : Happening) → MayAllHappen c s hs → MayHappen c (all_happened c s hs) h → MayAllHappen c s (hs ++ h ∷ [])
may_more c s [] h all may = (may, tt)
may_more c s (g ∷ hs) h all may = (all.0, may_more c (happened c s g) hs h all.1 may)

happened_more : (c : Cluster) (s : Scene) (hs : List Happening) (h : Happening) → all_happened c s (hs ++ h ∷ []) ≡ happened c (all_happened c s hs) h
happened_more c s [] h = refl
happened_more c s (g ∷ hs) h = happened_more c (happened c s g) hs h

pub reached_more : (c : Cluster) (first s : Scene) (h : Happening) → Reached c first s → MayHappen c s h → Reached c first (happened c s h)
reached_more c first s h r may = record {
  happenings = r.happenings ++ h ∷ [];
  may = may_more c first r.happenings h r.may (subst (λ z. MayHappen c z h) (sym r.is) may);
  is = happened_more c first r.happenings h ∙ ap (λ z. happened c z h) r.is;
}

-- .. each of them when it was due, and this is due now
pub record ReachedAs (c : Cluster) (first : Scene) (d : Due) (s : Scene) : Type 0 where
  pub happenings : List Happening
  pub may : MayAllHappen c first happenings
  pub shaped : ShapedFrom c first nothing happenings d
  pub is : all_happened c first happenings ≡ s

shaped_more : (c : Cluster) (s : Scene) (from d next : Due) (hs : List Happening) (h : Happening) → ShapedFrom c s from hs d → IsDue (all_happened c s hs) d h
    → due_after c (happened c (all_happened c s hs) h) d h ≡ next → ShapedFrom c s from (hs ++ h ∷ []) next
shaped_more c s from d next [] h shaped comes then = (subst (λ z. IsDue s z h) (sym shaped) comes, ap (λ z. due_after c (happened c s h) z h) shaped ∙ then)
shaped_more c s from d next (g ∷ hs) h shaped comes then =
    (shaped.0, shaped_more c (happened c s g) (due_after c (happened c s g) from g) d next hs h shaped.1 comes then)

pub reached_as : (c : Cluster) (first : Scene) (d next : Due) (s : Scene) (h : Happening) → ReachedAs c first d s → MayHappen c s h → IsDue s d h → due_after c (happened c s h) d h ≡ next
    → ReachedAs c first next (happened c s h)
reached_as c first d next s h r may comes then = record {
  happenings = r.happenings ++ h ∷ [];
  may = may_more c first r.happenings h r.may (subst (λ z. MayHappen c z h) (sym r.is) may);
  shaped = shaped_more c first nothing d next r.happenings h r.shaped (subst (λ z. IsDue z d h) (sym r.is) comes) (ap (λ z. due_after c (happened c z h) d h) r.is ∙ then);
  is = happened_more c first r.happenings h ∙ ap (λ z. happened c z h) r.is;
}

pub kept_holds : KeptHolds
kept_holds c P kept s [] may holds = holds
kept_holds c P kept s (h ∷ hs) may holds = kept_holds c P kept (happened c s h) hs may.1 (kept s h may.0 holds)

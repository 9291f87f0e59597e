-- Each point of a run, with what happened before it.
use Rattle.std.specs.Prelude.{◌≡◌, ◌++◌, false, List, [], ◌∷◌}
use Rattle.std.specs.List.{AllByRecursion}
use Rattle.std.proofs.Common.{sym, ap, subst, ◌∙◌, refl}
use Rattle.node_model.specs.declared.cluster.Cluster.{Cluster}
use Rattle.run_history.specs.Happenings.{Happening, MayAllHappen, MayHappen, all_happened, happened}
use Rattle.run_history.specs.Scenes.{Scene}
use Rattle.run_history.specs.Shapes.{Due, IsDue, ShapedFrom, due_after, nothing}
use Rattle.run_outcomes.proofs.told_tasks.Prefixes.{happened_last}
use Rattle.run_packets.specs.native.Laws.{BootsInHeader}
use Rattle.run_packets.specs.views.Laws.{NoneForeign, TellsHere}

-- what happened before it: each thing when it was due, no packet that came was foreign, and nodes of the header alone booted
pub record Before (c : Cluster) (first : Scene) (d : Due) (s : Scene) : Type 0 where
  pub happenings : List Happening
  pub may : MayAllHappen c first happenings
  pub shaped : ShapedFrom c first nothing happenings d
  pub native : NoneForeign c first happenings
  pub boots : AllByRecursion (BootsInHeader c.header) happenings
  pub is : all_happened c first happenings ≡ s

may_more : (c : Cluster) (s : Scene) (xs : List Happening) (g : Happening) → MayAllHappen c s xs → MayHappen c (all_happened c s xs) g → MayAllHappen c s (xs ++ g ∷ [])
may_more c s [] g all may = (may, tt)
may_more c s (x ∷ xs) g all may = (all.0, may_more c (happened c s x) xs g all.1 may)

shaped_more : (c : Cluster) (s : Scene) (from d : Due) (xs : List Happening) (g : Happening) → ShapedFrom c s from xs d → IsDue (all_happened c s xs) d g
    → ShapedFrom c s from (xs ++ g ∷ []) (due_after c (happened c (all_happened c s xs) g) d g)
shaped_more c s from d [] g shaped comes = (subst (λ z. IsDue s z g) (sym shaped) comes, ap (λ z. due_after c (happened c s g) z g) shaped)
shaped_more c s from d (x ∷ xs) g shaped comes = (shaped.0, shaped_more c (happened c s x) (due_after c (happened c s x) from x) d xs g shaped.1 comes)

native_more : (c : Cluster) (s : Scene) (xs : List Happening) (g : Happening) → NoneForeign c s xs → TellsHere c (all_happened c s xs) (λ before. false) g → NoneForeign c s (xs ++ g ∷ [])
native_more c s [] g native here = (here, tt)
native_more c s (x ∷ xs) g native here = (native.0, native_more c (happened c s x) xs g native.1 here)

each_more : (P : Happening → Type 0) (xs : List Happening) (g : Happening) → AllByRecursion P xs → P g → AllByRecursion P (xs ++ g ∷ [])
each_more P [] g all here = (here, tt)
each_more P (x ∷ xs) g all here = (all.0, each_more P xs g all.1 here)

pub one_more : (c : Cluster) (first : Scene) (d : Due) (s : Scene) (g : Happening) → Before c first d s → MayHappen c s g → IsDue s d g → TellsHere c s (λ before. false) g → BootsInHeader c.header g
    → Before c first (due_after c (happened c s g) d g) (happened c s g)
one_more c first d s g r may comes here boots = record {
  happenings = r.happenings ++ g ∷ [];
  may = may_more c first r.happenings g r.may (subst (λ z. MayHappen c z g) (sym r.is) may);
  shaped =
      subst (λ z. ShapedFrom c first nothing (r.happenings ++ g ∷ []) (due_after c (happened c z g) d g)) r.is
      (shaped_more c first nothing d r.happenings g r.shaped (subst (λ z. IsDue z d g) (sym r.is) comes));
  native = native_more c first r.happenings g r.native (subst (λ z. TellsHere c z (λ before. false) g) (sym r.is) here);
  boots = each_more (BootsInHeader c.header) r.happenings g r.boots boots;
  is = happened_last c first r.happenings g ∙ ap (λ z. happened c z g) r.is;
}

pub first_before : (c : Cluster) (first : Scene) → Before c first nothing first
first_before c first = record { happenings = []; may = tt; shaped = refl; native = tt; boots = tt; is = refl }

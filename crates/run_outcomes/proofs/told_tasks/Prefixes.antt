-- What comes before the last thing of a run is a run.
use Rattle.std.specs.Prelude.{◌≡◌, List, [], ◌∷◌, ◌++◌}
use Rattle.std.proofs.Common.{refl, sym, ap, subst}
use Rattle.node_model.specs.declared.cluster.Cluster.{Cluster}
use Rattle.run_history.specs.Happenings.{Happening, MayAllHappen, all_happened, happened}
use Rattle.run_history.specs.Scenes.{Scene}
use Rattle.run_history.specs.Shapes.{Due, ShapedFrom, due_after}
use Rattle.run_packets.specs.views.Laws.{NoneForeign}

pub may_before : (c : Cluster) (s : Scene) (xs ys : List Happening) → MayAllHappen c s (xs ++ ys) → MayAllHappen c s xs
may_before c s [] ys may = tt
may_before c s (x ∷ xs) ys may = (may.0, may_before c (happened c s x) xs ys may.1)

pub record ShapedBefore (c : Cluster) (s : Scene) (d : Due) (xs : List Happening) : Type 0 where
  pub last : Due
  pub shaped : ShapedFrom c s d xs last

pub shaped_before : (c : Cluster) (s : Scene) (d last : Due) (xs ys : List Happening) → ShapedFrom c s d (xs ++ ys) last → ShapedBefore c s d xs
shaped_before c s d last [] ys shaped = record { last = d; shaped = refl }
shaped_before c s d last (x ∷ xs) ys shaped =
    let rest : ShapedBefore c (happened c s x) (due_after c (happened c s x) d x) xs = shaped_before c (happened c s x) (due_after c (happened c s x) d x) last xs ys shaped.1 in
    record { last = rest.last; shaped = (shaped.0, rest.shaped) }

pub native_before : (c : Cluster) (s : Scene) (xs ys : List Happening) → NoneForeign c s (xs ++ ys) → NoneForeign c s xs
native_before c s [] ys native = tt
native_before c s (x ∷ xs) ys native = (native.0, native_before c (happened c s x) xs ys native.1)

pub happened_last : (c : Cluster) (s : Scene) (xs : List Happening) (x : Happening) → all_happened c s (xs ++ x ∷ []) ≡ happened c (all_happened c s xs) x
happened_last c s [] x = refl
happened_last c s (y ∷ xs) x = happened_last c (happened c s y) xs x

-- by one thing after another
pub by_last : (P : List Happening → Type 0) → P [] → ((xs : List Happening) (x : Happening) → P xs → P (xs ++ x ∷ [])) → (xs : List Happening) → P xs
by_last P first next xs = go [] xs first
  where
    go : (done rest : List Happening) → P done → P (done ++ rest)
    go done [] k = subst P (sym (none done)) k
      where
        none : (ys : List Happening) → ys ++ [] ≡ ys
        none [] = refl
        none (y ∷ ys) = ap (λ zs. y ∷ zs) (none ys)
    go done (x ∷ rest) k = subst P (moved done) (go (done ++ x ∷ []) rest (next done x k))
      where
        moved : (ys : List Happening) → (ys ++ x ∷ []) ++ rest ≡ ys ++ x ∷ rest
        moved [] = refl
        moved (y ∷ ys) = ap (λ zs. y ∷ zs) (moved ys)

-- The last thing that has happened, of a run.
use Rattle.std.specs.Prelude.{◌≡◌, ◌++◌, List, [], ◌∷◌}
use Rattle.std.specs.List.{AllByRecursion}
use Rattle.std.proofs.Common.{refl}
use Rattle.node_model.specs.declared.cluster.Cluster.{Cluster}
use Rattle.run_history.specs.Happenings.{Happening, MayAllHappen, MayHappen, all_happened, happened}
use Rattle.run_history.specs.Scenes.{Scene}
use Rattle.run_history.specs.Shapes.{Due, IsDue, ShapedFrom, due_after}

-- what is due before it, and that it is
pub record LastDue (c : Cluster) (s : Scene) (d last : Due) (xs : List Happening) (x : Happening) : Type 0 where
  pub mid : Due
  pub shaped : ShapedFrom c s d xs mid
  pub due : IsDue (all_happened c s xs) mid x
  pub next : due_after c (happened c (all_happened c s xs) x) mid x ≡ last

pub last_due : (c : Cluster) (s : Scene) (d last : Due) (xs : List Happening) (x : Happening) → ShapedFrom c s d (xs ++ x ∷ []) last → LastDue c s d last xs x
last_due c s d last [] x shaped = record { mid = d; shaped = refl; due = shaped.0; next = shaped.1 }
last_due c s d last (y ∷ xs) x shaped =
    let r : LastDue c (happened c s y) (due_after c (happened c s y) d y) last xs x = last_due c (happened c s y) (due_after c (happened c s y) d y) last xs x shaped.1 in
    record { mid = r.mid; shaped = (shaped.0, r.shaped); due = r.due; next = r.next }

pub last_may : (c : Cluster) (s : Scene) (xs : List Happening) (x : Happening) → MayAllHappen c s (xs ++ x ∷ []) → MayHappen c (all_happened c s xs) x
last_may c s [] x may = may.0
last_may c s (y ∷ xs) x may = last_may c (happened c s y) xs x may.1

pub all_before : (P : Happening → Type 0) (xs ys : List Happening) → AllByRecursion P (xs ++ ys) → AllByRecursion P xs
all_before P [] ys k = tt
all_before P (x ∷ xs) ys k = (k.0, all_before P xs ys k.1)

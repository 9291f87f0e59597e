-- The loads that are counted place by place are those of the contract.
use Rattle.std.proofs.Common.{◌≡◌, ℕ, ◌+◌, List, [], ◌∷◌, ◌++◌, refl, ap}
use Rattle.std.specs.List.{flat_map}
use Rattle.load_limits.specs.declared.limits.Factor.{Factor}
use Rattle.rg_props.specs.Table.{GroupTable}
use Rattle.rg_view.specs.declared.view.GroupView.{GroupView}
use Rattle.placement.proofs.Sums.{by_place}
use Rattle.sequencer.specs.Loads.{brought, others_load}

same_at_each : {A B : Type 0} (f : A → List B) (i : ℕ) (xs : List A) → by_place (λ place x. f x) i xs ≡ flat_map f xs
same_at_each f i [] = refl
same_at_each f i (x ∷ xs) = ap (λ (ys : _). f x ++ ys) (same_at_each f (i + 1) xs)

pub each_brings : (t : GroupTable) (v : GroupView) (own : List ℕ) (n : ℕ) → by_place (λ place e. brought t v own n e) 0 t.groups ≡ others_load t v own n
unfolding others_load
each_brings t v own n = same_at_each (brought t v own n) 0 t.groups

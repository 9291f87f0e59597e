-- Things that are collected place by place ascend.
use Rattle.std.proofs.Common.{◌≡◌, ℕ, zero, suc, add-one, ◌<◌, Bool, true, false, cond, ◌⊎◌, inl, inr, Option, None, Some, List, [], ◌∷◌, ◌++◌, slice_get, length, refl, sym, ap, subst, ◌∙◌, append-nil, arith}
use Rattle.std.specs.List.{AllByRecursion}
use Rattle.std.specs.Str.{bytes_eq}
use Rattle.rg_props.specs.declared.group.Group.{Group}
use Rattle.rg_props.specs.declared.group.Resource.{Resource}
use Rattle.rg_props.specs.Table.{GroupTable}
use Rattle.rg_deps.specs.declared.graph.Thing.{Thing}
use Rattle.rg_deps.specs.Places.{IsAscending}
use Rattle.rg_deps.specs.Things.{collected, rank, thing_of_group, thing_of_resource, thing_of_member, group_things, resource_things, member_things}

-- nothing, or one thing at this place
IsAtMostOne : ℕ → List Thing → Type 0
IsAtMostOne p xs = (xs ≡ []) ⊎ ((t : Thing) × (t.place ≡ p) × (xs ≡ t ∷ []))

all_push : (P : Thing → Type 0) (xs : List Thing) (t : Thing) → AllByRecursion P xs → P t → AllByRecursion P (xs ++ t ∷ [])
all_push P [] t h own = (own, tt)
all_push P (x ∷ xs) t h own = (h.0, all_push P xs t h.1 own)

ascending_push : (xs : List Thing) (t : Thing) → IsAscending xs → AllByRecursion (λ u. u.place < t.place) xs → IsAscending (xs ++ t ∷ [])
ascending_push [] t h low = (tt, tt)
ascending_push (x ∷ xs) t h low = (all_push (λ u. x.place < u.place) xs t h.0 low.0, ascending_push xs t h.1 low.1)

below_more : (n m : ℕ) → n < m → (xs : List Thing) → AllByRecursion (λ u. u.place < n) xs → AllByRecursion (λ u. u.place < m) xs
below_more n m lt [] h = tt
below_more n m lt (x ∷ xs) h = (omega (arith, h.0, lt), below_more n m lt xs h.1)

below_same : (n m : ℕ) → n ≡ m → (xs : List Thing) → AllByRecursion (λ u. u.place < n) xs → AllByRecursion (λ u. u.place < m) xs
below_same n m e xs h = subst (λ (k : ℕ). AllByRecursion (λ u. u.place < k) xs) e h

record IsCollected (n : ℕ) (xs : List Thing) : Type 0 where
  ascending : IsAscending xs
  below : AllByRecursion (λ u. u.place < n) xs

module _ (f : ℕ → List Thing) (one : (p : ℕ) → IsAtMostOne p (f p)) where
  all_collected : (n : ℕ) → IsCollected n (collected f n)
  unfolding IsAtMostOne
  all_collected zero = record { ascending = tt; below = tt }
  all_collected (suc n) = by (all_collected n) (one n)
    where
      by : IsCollected n (collected f n) → IsAtMostOne n (f n) → IsCollected (suc n) (collected f n ++ f n)
      by h (inl none) = subst (λ (l : List Thing). IsCollected (suc n) l) (sym (ap (λ (l : List Thing). collected f n ++ l) none ∙ append-nil (collected f n)))
          (record { ascending = h.ascending; below = below_more n (suc n) (omega (arith, add-one n)) (collected f n) h.below })
      by h (inr it) = subst (λ (l : List Thing). IsCollected (suc n) (collected f n ++ l)) (sym it.2) (record {
        ascending = ascending_push (collected f n) it.0 h.ascending (below_same n it.0.place (sym it.1) (collected f n) h.below);
        below = all_push (λ u. u.place < suc n) (collected f n) it.0 (below_more n (suc n) (omega (arith, add-one n)) (collected f n) h.below) (omega (arith, it.1, add-one n));
      })

pub groups_ascend : (t : GroupTable) → IsAscending (group_things t)
unfolding IsAtMostOne
groups_ascend t = (all_collected (λ p. thing_of_group t.version p (slice_get t.groups p)) (λ p. at p (slice_get t.groups p)) (length t.groups)).ascending
  where
    at : (p : ℕ) (o : Option (List ℕ × Group)) → IsAtMostOne p (thing_of_group t.version p o)
    at p None = inl refl
    at p (Some e) = inr (record { place = p; priority = rank t.version e.1 }, refl, refl)

pub resources_ascend : (t : GroupTable) → IsAscending (resource_things t)
unfolding IsAtMostOne
resources_ascend t = (all_collected (λ p. thing_of_resource p (slice_get t.resources p)) (λ p. at p (slice_get t.resources p)) (length t.resources)).ascending
  where
    at : (p : ℕ) (o : Option (List ℕ × Resource)) → IsAtMostOne p (thing_of_resource p o)
    at p None = inl refl
    at p (Some e) = inr (record { place = p; priority = 0 }, refl, refl)

pub members_ascend : (t : GroupTable) (group : List ℕ) → IsAscending (member_things t group)
unfolding IsAtMostOne
members_ascend t group = (all_collected (λ p. thing_of_member group p (slice_get t.resources p)) (λ p. at p (slice_get t.resources p)) (length t.resources)).ascending
  where
    by : (p : ℕ) (b : Bool) → IsAtMostOne p (cond b (record { place = p; priority = 0 } ∷ []) [])
    by p true = inr (record { place = p; priority = 0 }, refl, refl)
    by p false = inl refl

    at : (p : ℕ) (o : Option (List ℕ × Resource)) → IsAtMostOne p (thing_of_member group p o)
    at p None = inl refl
    at p (Some e) = by p (bytes_eq e.1.group group)

-- Whether an order is outstanding, and of which node.
use Rattle.std.proofs.Common.{◌≡◌, ◌↔◌, ℕ, zero, suc, ◌+◌, Bool, true, false, not, List, [], ◌∷◌, Option, None, Some, refl, sym, ◌∙◌, true≢false, arith}
use Rattle.std.proofs.Math.Nat.{suc-ne-zero}
use Rattle.std.proofs.lemmas.Bool.{false≢true}
use Rattle.std.proofs.lemmas.List.Sums.{sum_by-cons}
use Rattle.std.specs.Prelude.{IsTrue, count_by, is_some, slice_index_or}
use Rattle.std.specs.List.{list_any}
use Rattle.rg_view.specs.declared.orders.Outstanding.{Outstanding}
use Rattle.node_model.specs.Presidents.{is_outstanding}

one_more : (o : Outstanding) (rest : List (Option Outstanding)) → count_by is_some (Some o ∷ rest) ≡ suc (count_by is_some rest)
one_more o rest =
    let e : count_by is_some (Some o ∷ rest) ≡ 1 + count_by is_some rest = sum_by-cons _ (Some o) rest in
    omega (arith, e)

none_more : (rest : List (Option Outstanding)) → count_by is_some (None ∷ rest) ≡ count_by is_some rest
none_more rest =
    let e : count_by is_some (None ∷ rest) ≡ 0 + count_by is_some rest = sum_by-cons _ None rest in
    omega (arith, e)

-- where none is counted, none is there
none_counted : (orders : List (Option Outstanding)) → count_by is_some orders ≡ 0 → list_any is_outstanding orders ≡ false
none_counted [] h = refl
none_counted (None ∷ rest) h = none_counted rest (sym (none_more rest) ∙ h)
none_counted (Some o ∷ rest) h = absurd (suc-ne-zero (count_by is_some rest) (sym (one_more o rest) ∙ h))

one_counted : (orders : List (Option Outstanding)) → list_any is_outstanding orders ≡ false → count_by is_some orders ≡ 0
one_counted [] h = refl
one_counted (None ∷ rest) h = none_more rest ∙ one_counted rest h
one_counted (Some o ∷ rest) h = absurd (true≢false h)

pub none_is_free : (empty : Bool) (orders : List (Option Outstanding)) → (IsTrue empty ↔ (count_by is_some orders ≡ 0)) → not empty ≡ list_any is_outstanding orders
none_is_free true orders h = sym (none_counted orders (h.0 refl))
none_is_free false orders h = by_any (list_any is_outstanding orders) refl
  where
    by_any : (b : Bool) → list_any is_outstanding orders ≡ b → true ≡ list_any is_outstanding orders
    by_any true is = sym is
    by_any false is = absurd (false≢true (h.1 (one_counted orders is)))

-- then each node has room for one
pub free_at : (orders : List (Option Outstanding)) (place : ℕ) → list_any is_outstanding orders ≡ false → slice_index_or orders place None ≡ None
free_at [] place h = refl
free_at (None ∷ rest) zero h = refl
free_at (None ∷ rest) (suc place) h = free_at rest place h
free_at (Some o ∷ rest) place h = absurd (true≢false h)

-- Entries of clients, one taken out and one put last.
use Rattle.std.proofs.Common.{◌≡◌, ℕ, Bool, true, false, not, cond, filter, List, [], ◌∷◌, None, Some, length, drop, nat_lt, refl, sym, ap, if◌then◌else◌}
use Rattle.std.specs.Map.{lookup, remove_entry}
use Rattle.shared_address.specs.declared.choice.Client.{Client}
use Rattle.shared_address.specs.Choosing.{most_kept, staying}

module _ {K X : Type 0} (test : K → Bool) where
  none_others : (es : List (K × X)) → lookup test es ≡ None → filter (λ e. not (test e.0)) es ≡ es
  none_others [] h = refl
  none_others (e ∷ es) h = by (test e.0) h (none_others es)
    where
      by : (b : Bool) → cond b (Some e.1) (lookup test es) ≡ None → (lookup test es ≡ None → filter (λ e. not (test e.0)) es ≡ es) → cond (not b) (e ∷ filter (λ e. not (test e.0)) es) (filter (λ e. not (test e.0)) es) ≡ e ∷ es
      by true h _ = cc h
      by false h rest = ap (λ (xs : List (K × X)). e ∷ xs) (rest h)

  -- where no second entry passes, the others are those without the first
  pub removed_others : (es : List (K × X)) → lookup test (remove_entry test es) ≡ None → remove_entry test es ≡ filter (λ e. not (test e.0)) es
  removed_others [] h = refl
  removed_others (e ∷ es) h = by (test e.0) h (removed_others es)
    where
      past : (b : Bool) → cond b (Some e.1) (lookup test (remove_entry test es)) ≡ None → lookup test (remove_entry test es) ≡ None
      past true h = cc h
      past false h = h

      by : (b : Bool) → lookup test (cond b es (e ∷ remove_entry test es)) ≡ None
          → (lookup test (remove_entry test es) ≡ None → remove_entry test es ≡ filter (λ e. not (test e.0)) es)
          → cond b es (e ∷ remove_entry test es) ≡ cond (not b) (e ∷ filter (λ e. not (test e.0)) es) (filter (λ e. not (test e.0)) es)
      by true h _ = sym (none_others es h)
      by false h rest = ap (λ (xs : List (K × X)). e ∷ xs) (rest (past (test e.0) h))

  none_past : (e : K × X) (es : List (K × X)) → lookup test (e ∷ es) ≡ None → lookup test es ≡ None
  none_past e es h = by (test e.0) h
    where
      by : (b : Bool) → cond b (Some e.1) (lookup test es) ≡ None → lookup test es ≡ None
      by true h = cc h
      by false h = h

  none_dropped : (es : List (K × X)) → lookup test es ≡ None → lookup test (drop 1 es) ≡ None
  none_dropped [] h = h
  none_dropped (e ∷ es) h = none_past e es h

pub none_staying : (test : Client → Bool) (es : List (Client × ℕ)) → lookup test es ≡ None → lookup test (staying es) ≡ None
none_staying test es h = by (nat_lt (length es) most_kept)
  where
    by : (b : Bool) → lookup test (if b then es else drop 1 es) ≡ None
    by true = h
    by false = none_dropped test es h

-- What calls of a map of names leave, by the bytes of the names.
use Rattle.std.proofs.Common.{◌≡◌, ℕ, Bool, true, false, cond, not, filter, Option, None, Some, List, [], ◌∷◌, refl, sym, ap, ◌∙◌}
use Rattle.std.specs.Cmp.Lexicographic.{same_text}
use Rattle.std.specs.List.{IsDistinct}
use Rattle.std.specs.Map.{keys_of, lookup}
use Rattle.std.specs.Option.{unwrap_or}
use Rattle.std.specs.Str.{bytes_eq}
use Rattle.indexmap.specs.IndexMap.{insert_entry}
use Rattle.rg_view.specs.Goals.{goal_of, GoalsAfter}
use Rattle.rg_view.specs.Tables.{replaced}

pub put : (g : List ℕ) (nodes : ℕ) (es : List (List ℕ × ℕ)) → insert_entry bytes_eq es g nodes ≡ replaced (λ e. bytes_eq g e.0) (g, nodes) es
put g nodes [] = refl
put g nodes (e ∷ es) = by (bytes_eq g e.0) refl (put g nodes es)
  where
    by : (b : Bool) → bytes_eq g e.0 ≡ b → insert_entry bytes_eq es g nodes ≡ replaced (λ e. bytes_eq g e.0) (g, nodes) es
        → insert_entry bytes_eq (e ∷ es) g nodes ≡ replaced (λ e. bytes_eq g e.0) (g, nodes) (e ∷ es)
    by true p ih = rw p (λ i. (sym (same_text g e.0 (sym p)) i, nodes) ∷ es)
    by false p ih = rw p (ap (λ (l : List (List ℕ × ℕ)). e ∷ l) ih)

chosen : (b : Bool) (found other : Option ℕ) → unwrap_or (cond b found other) 0 ≡ cond b (unwrap_or found 0) (unwrap_or other 0)
chosen true found other = refl
chosen false found other = refl

pub after : (g : List ℕ) (found : Option ℕ) (old new : List (List ℕ × ℕ))
    → ((other : List ℕ) → lookup (bytes_eq other) new ≡ cond (bytes_eq g other) found (lookup (bytes_eq other) old))
    → GoalsAfter old g (unwrap_or found 0) new
after g found old new h other = ap (λ (o : Option ℕ). unwrap_or o 0) (h other) ∙ chosen (bytes_eq g other) found (lookup (bytes_eq other) old)

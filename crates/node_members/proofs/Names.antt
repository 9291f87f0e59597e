-- Whether a text is a name.
use Rattle.std.proofs.Common.{◌≡◌, ℕ, List, Result, Ok, Err, is_some, ap}
use Rattle.std.specs.Result.{MatchResult, is_ok}
use Rattle.cl_base.specs.Names.{IsName}
use Rattle.rg_props.specs.Words.{name_in}
use Rattle.rg_props.proofs.NameLemmas.{name_read}

module _ {E : Type 0} where
  pub name_test : (w : List ℕ) (r : Result (List ℕ) E) → MatchResult r (λ name. (name ≡ w) × IsName w) (λ _. IsName w → ⊥) → is_ok r ≡ is_some (name_in w)
  name_test w (Ok name) h = ap is_some (name_read {E = E} w (Ok name) h)
  name_test w (Err e) never = ap is_some (name_read {E = E} w (Err e) never)

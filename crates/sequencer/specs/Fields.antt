-- What the calls of one decision rest on: the members in ascending order; the places that must go down, as a down call and as an up call is tested;
-- and the places where an up call is allowed.
use Rattle.std.specs.Prelude.{ℕ, List}
use Rattle.rg_view.specs.declared.name_at.NameAt.{NameAt}

pub record OutlookFields : Type 0 where
  pub members : List ℕ
  pub for_down : List NameAt
  pub for_up : List NameAt
  pub rising : List NameAt

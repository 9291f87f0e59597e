-- A header and a list of updates of its configuration.
use Rattle.std.specs.Prelude.{ℕ, List, [], ◌∷◌, ◌++◌}
use Rattle.cl_base.specs.declared.header.Header.{Header}

pub record UpdateList : Type 0 where
  pub header : Header
  pub texts : List (List ℕ)

-- these updates of the header's configuration
abbrev pub these : Header → List (List ℕ) → UpdateList
these h texts = record { header = h; texts = texts }

-- one more update behind the others
abbrev pub with_next : UpdateList → List ℕ → UpdateList
with_next l text = these l.header (l.texts ++ text ∷ [])

-- Lists that are gone along by places.
use Rattle.std.specs.Prelude.{ℕ, List, [], Option, None, Some}

-- what is made of the thing at a place, where one is there
abbrev pub made_of : {X Y : Type 0} → (X → List Y) → Option X → List Y
made_of f None = []
made_of f (Some x) = f x

-- Going on by one item, if there is one.
use Rattle.std.specs.Prelude.{Option, None, Some}

abbrev pub with_next : {A B : Type 0} → (B → A → B) → B → Option A → B
with_next f b None = b
with_next f b (Some a) = f b a

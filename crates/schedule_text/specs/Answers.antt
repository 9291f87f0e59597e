-- What a call that reads tells: what there is, its refusal, or that there is no memory.
use Rattle.std.specs.Prelude.{◌≡◌, Result, Ok, Err}
use Rattle.schedule_text.specs.declared.kind.Kind.{Kind}
use Rattle.schedule_text.specs.declared.kind.ReadError.{ReadError}
use Rattle.schedule_text.specs.declared.kind.ReadError.TheVariants.{Refused, NoMemory}

abbrev pub Tells : {A : Type 0} → Result A ReadError → Result A Kind → Type 0
Tells (Ok x) is = is ≡ Ok x
Tells (Err (Refused kind)) is = is ≡ Err kind
Tells (Err NoMemory) is = Unit {0}

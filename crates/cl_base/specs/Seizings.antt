-- How seizings end, told with the keys that were read last and without them.
use Rattle.std.specs.Prelude.{ℕ, List}
use Rattle.cl_base.specs.declared.seizing.SeizeEnd.{SeizeEnd}
use Rattle.cl_base.specs.declared.seizing.SeizeEnd.TheVariants.{Held, NotRegistered, Greater, Expelled, Contended, Fault}

-- with the keys
abbrev pub SeizeResult : Type 0
SeizeResult = SeizeEnd (List ℕ)

-- without them
abbrev pub bare : {K : Type 0} → SeizeEnd K → SeizeEnd Unit
bare (Held keys) = Held tt
bare (NotRegistered keys) = NotRegistered tt
bare (Greater word) = Greater word
bare Expelled = Expelled
bare (Contended key) = Contended key
bare Fault = Fault

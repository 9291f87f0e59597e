-- A set of methods is kept as a set of their places in the order of listing, from 1 on.
use Rattle.std.specs.Prelude.{ℕ, Bool}
use Rattle.cl_base.specs.Sets.{has}
use Rattle.cl_base.specs.declared.method.Method.{Method}
use Rattle.cl_base.specs.declared.method.Method.TheVariants.{PrenetStart, Start, MonitorStart, MonitorCheck, MonitorStop, Stop, PostnetStop, Validate, Init, Fini, Boot, Update}

-- the method's place in the order of listing
abbrev pub place_of : Method → ℕ
place_of PrenetStart = 1
place_of Start = 2
place_of MonitorStart = 3
place_of MonitorCheck = 4
place_of MonitorStop = 5
place_of Stop = 6
place_of PostnetStop = 7
place_of Validate = 8
place_of Init = 9
place_of Fini = 10
place_of Boot = 11
place_of Update = 12

-- whether the set has the method
abbrev pub has_method : ℕ → Method → Bool
has_method set m = has set (place_of m)

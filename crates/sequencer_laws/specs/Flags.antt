-- The flags of resources on nodes, and what a method that succeeds makes of them.
use Rattle.std.specs.Prelude.{ℕ, Bool, true, false, ◌&&◌, ◌||◌, List}
use Rattle.cl_base.specs.declared.method.Method.{Method}
use Rattle.cl_base.specs.declared.method.Method.TheVariants.{PrenetStart, Start, MonitorStart, MonitorCheck, MonitorStop, Stop, PostnetStop, Validate, Init, Fini, Boot, Update}

pub record Flags : Type 0 where
  pub pre : Bool
  pub run : Bool
  pub mon : Bool

-- the flags of each resource, by its name, on each node
abbrev pub FlagMap : Type 0
FlagMap = List ℕ → ℕ → Flags

abbrev pub has_any : Flags → Bool
has_any f = f.pre || f.run || f.mon

-- STOP clears pre too where the type has no POSTNET_STOP
abbrev pub after_success : Bool → Method → Flags → Flags
after_success postnet PrenetStart f = record f { pre = true }
after_success postnet Start f = record f { run = true }
after_success postnet MonitorStart f = record f { mon = true }
after_success postnet MonitorCheck f = f
after_success postnet MonitorStop f = record f { mon = false }
after_success postnet Stop f = record f { run = false; pre = f.pre && postnet }
after_success postnet PostnetStop f = record f { pre = false }
after_success postnet Validate f = f
after_success postnet Init f = f
after_success postnet Fini f = f
after_success postnet Boot f = f
after_success postnet Update f = f

-- The map of a membership: the flags of each resource on each node, as its `adopt` lines begin it and its `done` lines go on.
use Rattle.std.specs.Prelude.{ℕ, ◌==◌, ◌&&◌, Bool, false, if◌then◌else◌, List, [], ◌∷◌}
use Rattle.std.specs.Str.{bytes_eq}
use Rattle.cl_base.specs.declared.method.Outcome.TheVariants.{Success}
use Rattle.status_report.specs.declared.start_entry.AdoptedFlags.{AdoptedFlags}
use Rattle.rgm_member.specs.Settings.{has_postnet_stop}
use Rattle.sequencer_laws.specs.Flags.{Flags, FlagMap, after_success}
use Rattle.history.specs.Moment.{Moment}
use Rattle.history.specs.Trace.{adopt}
use Rattle.group_history.specs.Setting.{Groups, config_of}
use Rattle.group_history.specs.Doings.{done}

abbrev pub no_flags : Flags
no_flags = record { pre = false; run = false; mon = false }

abbrev pub flags_adopted : AdoptedFlags → Flags
flags_adopted a = record { pre = a.pre; run = a.run; mon = a.mon }

-- the line is of e, and of this resource and node
abbrev pub is_line_of : ℕ → List ℕ → ℕ → ℕ → List ℕ → ℕ → Bool
is_line_of e r n f s m = (f == e) && (m == n) && bytes_eq s r

-- success alone changes a flag
abbrev pub flags_of : Groups → ℕ → List Moment → FlagMap
flags_of S e [] r n = no_flags
flags_of S e (adopt f m s flags ∷ before) r n = if is_line_of e r n f s m then flags_adopted flags else flags_of S e before r n
flags_of S e (done f m method s Success ∷ before) r n =
    if is_line_of e r n f s m
    then after_success (has_postnet_stop (config_of S e before) r) method (flags_of S e before r n)
    else flags_of S e before r n
flags_of S e (_ ∷ before) r n = flags_of S e before r n

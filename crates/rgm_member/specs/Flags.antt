-- Whether anything runs on the node.
use Rattle.std.specs.Prelude.{Bool, ◌||◌}
use Rattle.std.specs.List.{list_any}
use Rattle.wire.specs.declared.report.Marks.{Marks}
use Rattle.rgm_member.specs.State.{WorkerState}

abbrev pub has_a_flag : Marks → Bool
has_a_flag m = m.pre || m.run || m.mon

-- a resource has a flag here
abbrev pub has_flag : WorkerState → Bool
has_flag w = list_any (λ e. has_a_flag e.1) w.resources

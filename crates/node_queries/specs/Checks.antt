-- What a president accepts under a configuration, by its seat.
use Rattle.std.specs.Prelude.{ℕ, min, Result}
use Rattle.admin_commands.specs.Answers.{answer_to}
use Rattle.admin_commands.specs.Records.{most_bytes}
use Rattle.admin_commands.specs.declared.accepted.Accepted.{Accepted}
use Rattle.admin_commands.specs.declared.error.CheckError.{CheckError}
use Rattle.ccr_commit.specs.Entries.{texts_of}
use Rattle.ccr_tables.specs.State.{ConfigState}
use Rattle.ccr_tables.specs.declared.command.AdminCommand.{AdminCommand}
use Rattle.cmm_member.specs.Lengths.{full_length}
use Rattle.node_model.specs.declared.cluster.Cluster.{Cluster}
use Rattle.node_model.specs.declared.presidency.Presidency.{Presidency}
use Rattle.node_model.specs.declared.seat.Seat.{Seat}
use Rattle.node_model.specs.Seats.{state_of}

-- how long its record may become, in bytes, without what one more update adds
abbrev pub length_at : Cluster → Seat → ℕ
length_at c seat = min (full_length c.nodes c.devices (texts_of (state_of seat).saved.entries)) most_bytes

-- it accepts the command, or refuses it
abbrev pub checked_under : Cluster → ConfigState → Seat → Presidency → AdminCommand → Result Accepted CheckError
checked_under c s seat p command = answer_to s p.groups.view (state_of seat).saved.members p.held (length_at c seat) command

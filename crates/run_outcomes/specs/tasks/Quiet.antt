-- Moments that tell nothing of an attempt and its tasks.
use Rattle.std.specs.Prelude.{ℕ, ◌≡◌, ◌≢◌, ◌⊎◌, false, List, [], ◌∷◌, ◌++◌}
use Rattle.pgr_device.specs.declared.command.PrCommand.{PrCommand}
use Rattle.pgr_device.specs.declared.command.PrCommand.TheVariants as command
use Rattle.status_report.specs.declared.attempt_entry.AttemptEntry.{AttemptEntry}
use Rattle.status_report.specs.declared.attempt_entry.AttemptEntry.TheVariants as tried
use Rattle.status_report.specs.declared.device_entry.DeviceEntry.{DeviceEntry}
use Rattle.status_report.specs.declared.device_entry.DeviceEntry.TheVariants as device_entry
use Rattle.status_report.specs.declared.entry.Entry.TheVariants as entry
use Rattle.status_report.specs.declared.node_entry.NodeEntry.{NodeEntry}
use Rattle.status_report.specs.declared.node_entry.NodeEntry.TheVariants as note
use Rattle.status_report.specs.declared.packet_entry.PacketEntry.{PacketEntry}
use Rattle.status_report.specs.declared.packet_entry.PacketEntry.TheVariants as packet
use Rattle.history.specs.Member.{in_collect}
use Rattle.history.specs.Moment.{Moment, Told}
use Rattle.history.specs.Setting.{coordinator}

abbrev pub QuietNode : ℕ → List Moment → ℕ → NodeEntry → Type 0
QuietNode n ms m (note.Member e) = Unit {0}
QuietNode n ms m note.Ticked = Unit {0}
QuietNode n ms m note.Saved = (m ≢ n) ⊎ (in_collect n ms ≡ false)
QuietNode n ms m _ = m ≢ n

abbrev pub QuietCommand : ℕ → ℕ → PrCommand → Type 0
QuietCommand n m (command.Write value) = Unit {0}
QuietCommand n m _ = m ≢ n

abbrev pub QuietDevice : ℕ → DeviceEntry → Type 0
QuietDevice n (device_entry.Command m d done reply) = QuietCommand n m done
QuietDevice n _ = Unit {0}

abbrev pub QuietAttempt : ℕ → AttemptEntry → Type 0
QuietAttempt n (tried.Begun e members) = coordinator e ≢ n
QuietAttempt n (tried.Votes e have need lacking) = coordinator e ≢ n
QuietAttempt n (tried.Excluded e m) = coordinator e ≢ n
QuietAttempt n (tried.Foreign e m) = coordinator e ≢ n
QuietAttempt n _ = Unit {0}

abbrev pub QuietPacket : PacketEntry → Type 0
QuietPacket (packet.Delivered p a m) = ⊥
QuietPacket _ = Unit {0}

-- Nothing is delivered, the node begins and ends no attempt, and neither installs, drops its tasks, nor does a command at a device.
abbrev pub IsQuiet : ℕ → List Moment → Moment → Type 0
IsQuiet n ms (Told (entry.Node m e)) = QuietNode n ms m e
IsQuiet n ms (Told (entry.Device e)) = QuietDevice n e
IsQuiet n ms (Told (entry.Attempt e)) = QuietAttempt n e
IsQuiet n ms (Told (entry.Packet e)) = QuietPacket e
IsQuiet n ms _ = Unit {0}

-- so are these, the newest first, after the others
abbrev pub AreQuiet : ℕ → List Moment → List Moment → Type 0
AreQuiet n before [] = Unit {0}
AreQuiet n before (x ∷ newer) = IsQuiet n (newer ++ before) x × AreQuiet n before newer

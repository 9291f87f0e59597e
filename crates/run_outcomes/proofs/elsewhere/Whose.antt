-- An entry that is another node's doing is elsewhere.
use Rattle.std.specs.Prelude.{ℕ, ◌≡◌, ◌≢◌, ◌==◌, true, List, [], ◌∷◌}
use Rattle.std.proofs.Common.{sym, ◌∙◌, inl}
use Rattle.cmm_attempt.proofs.Basics.{same_number}
use Rattle.history.specs.Messages.{actor_of, is_of}
use Rattle.history.specs.Moment.{Moment, Told}
use Rattle.history.specs.Setting.{coordinator}
use Rattle.pgr_device.specs.declared.command.PrCommand.{PrCommand}
use Rattle.pgr_device.specs.declared.command.PrCommand.TheVariants as command
use Rattle.run_packets.specs.prepares.Events.{EntriesOf}
use Rattle.status_report.specs.declared.attempt_entry.AttemptEntry.{AttemptEntry}
use Rattle.status_report.specs.declared.attempt_entry.AttemptEntry.TheVariants as tried
use Rattle.status_report.specs.declared.device_entry.DeviceEntry.{DeviceEntry}
use Rattle.status_report.specs.declared.device_entry.DeviceEntry.TheVariants as device_entry
use Rattle.status_report.specs.declared.entry.Entry.TheVariants as entry
use Rattle.status_report.specs.declared.node_entry.NodeEntry.{NodeEntry}
use Rattle.status_report.specs.declared.node_entry.NodeEntry.TheVariants as note
use Rattle.status_report.specs.declared.packet_entry.PacketEntry.{PacketEntry}
use Rattle.status_report.specs.declared.packet_entry.PacketEntry.TheVariants as packet
use Rattle.run_outcomes.specs.tasks.Quiet.{QuietAttempt, QuietCommand, QuietDevice, QuietNode}
use Rattle.run_outcomes.proofs.elsewhere.Lines.{AreElsewhere, IsElsewhere}

other : (m k n : ℕ) → m ≢ n → (k == m) ≡ true → k ≢ n
other m k n ne is = λ same. ne (sym (same_number k m is) ∙ same)

node_elsewhere : (m n k : ℕ) (ms : List Moment) (e : NodeEntry) → m ≢ n → is_of m (actor_of (Told (entry.Node k e))) ≡ true → QuietNode n ms k e
node_elsewhere m n k ms note.Up ne is = other m k n ne is
node_elsewhere m n k ms (note.Down why) ne is = other m k n ne is
node_elsewhere m n k ms note.Saved ne is = inl (other m k n ne is)
node_elsewhere m n k ms (note.Installed q) ne is = other m k n ne is
node_elsewhere m n k ms (note.Member q) ne is = tt
node_elsewhere m n k ms note.Ticked ne is = tt

command_elsewhere : (n k : ℕ) (done : PrCommand) → k ≢ n → QuietCommand n k done
command_elsewhere n k (command.Write value) ne = tt
command_elsewhere n k _ ne = ne

device_elsewhere : (m n : ℕ) (e : DeviceEntry) → m ≢ n → is_of m (actor_of (Told (entry.Device e))) ≡ true → QuietDevice n e
device_elsewhere m n (device_entry.Command k d done reply) ne is = command_elsewhere n k done (other m k n ne is)
device_elsewhere m n (device_entry.Accepted q k d value) ne is = tt
device_elsewhere m n (device_entry.Refused k d value why) ne is = tt

attempt_elsewhere : (m n : ℕ) (e : AttemptEntry) → m ≢ n → is_of m (actor_of (Told (entry.Attempt e))) ≡ true → QuietAttempt n e
attempt_elsewhere m n (tried.Begun e members) ne is = other m (coordinator e) n ne is
attempt_elsewhere m n (tried.Votes e have need lacking) ne is = other m (coordinator e) n ne is
attempt_elsewhere m n (tried.Excluded e k) ne is = other m (coordinator e) n ne is
attempt_elsewhere m n (tried.Foreign e k) ne is = other m (coordinator e) n ne is
attempt_elsewhere m n (tried.Superseded e q) ne is = tt
attempt_elsewhere m n (tried.Silent e k) ne is = tt

packet_elsewhere : (m n : ℕ) (ms : List Moment) (e : PacketEntry) → m ≢ n → is_of m (actor_of (Told (entry.Packet e))) ≡ true → IsElsewhere n ms (Told (entry.Packet e))
packet_elsewhere m n ms (packet.Delivered p a k) ne is = other m k n ne is
packet_elsewhere m n ms (packet.Sent p a k called bytes) ne is = tt
packet_elsewhere m n ms (packet.Lost p) ne is = tt
packet_elsewhere m n ms (packet.Repeated p copy) ne is = tt
packet_elsewhere m n ms (packet.Dropped p why) ne is = tt

entry_elsewhere : (m n : ℕ) (ms : List Moment) (x : Moment) → m ≢ n → is_of m (actor_of x) ≡ true → IsElsewhere n ms x
entry_elsewhere m n ms (Told (entry.Node k e)) ne is = node_elsewhere m n k ms e ne is
entry_elsewhere m n ms (Told (entry.Device e)) ne is = device_elsewhere m n e ne is
entry_elsewhere m n ms (Told (entry.Attempt e)) ne is = attempt_elsewhere m n e ne is
entry_elsewhere m n ms (Told (entry.Packet e)) ne is = packet_elsewhere m n ms e ne is
entry_elsewhere m n ms _ ne is = tt

pub entries_elsewhere : (m n : ℕ) (entries : List Moment) → m ≢ n → EntriesOf m entries → AreElsewhere n entries
entries_elsewhere m n [] ne own = tt
entries_elsewhere m n (x ∷ entries) ne own = (λ ms. entry_elsewhere m n ms x ne own.0.1, entries_elsewhere m n entries ne own.1)

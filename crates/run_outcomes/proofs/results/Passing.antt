-- What holds of moments stays so as a node gives what tells nothing of it.
use Rattle.std.specs.Prelude.{ℕ, Bool, true, false, List, [], ◌∷◌, Option, None, Some, if◌then◌else◌}
use Rattle.cl_base.specs.declared.header.Header.{Header}
use Rattle.cl_base.specs.declared.packet.DropCause.{DropCause}
use Rattle.history.specs.Moment.{Moment, Told}
use Rattle.interconnect.specs.Links.{sending}
use Rattle.node_model.specs.declared.output.Output.{Output}
use Rattle.node_model.specs.declared.output.Output.TheVariants.{Sends, Tells}
use Rattle.pgr_device.specs.declared.command.PrCommand.{PrCommand}
use Rattle.pgr_device.specs.declared.command.PrCommand.TheVariants as command
use Rattle.run_history.specs.Scenes.{Scene, dropped_so, passing, posting, sent_as, telling}
use Rattle.status_report.specs.declared.attempt_entry.AttemptEntry.TheVariants as attempt_entry
use Rattle.status_report.specs.declared.device_entry.DeviceEntry.TheVariants as device_entry
use Rattle.status_report.specs.declared.entry.Entry.{Entry}
use Rattle.status_report.specs.declared.entry.Entry.TheVariants as entry
use Rattle.status_report.specs.declared.start_entry.StartEntry.TheVariants as start_entry
use Rattle.status_report.specs.declared.packet_entry.PacketEntry.TheVariants as packet
use Rattle.wire.specs.Spelling.{spelling}
use Rattle.wire.specs.declared.message.Message.{Message}
use Rattle.world_model.specs.Sends.{is_sent, name_of}
use Rattle.run_outcomes.proofs.results.Calm.{AllCalm, IsCalm, IsWrite}
use Rattle.run_outcomes.proofs.results.Stays.{SparedBy, Spares}
use Rattle.run_outcomes.specs.results.Shown.{EndsShown}

-- what is told next shows nothing: it is of a packet, or calm
abbrev pub IsIdle : Moment → Type 0
IsIdle (Told (entry.Packet e)) = Unit {0}
IsIdle (Told e) = IsCalm e
IsIdle _ = Unit {0}

abbrev pub Lasts : (List Moment → Type 0) → Type 0
Lasts P = (x : Moment) (ms : List Moment) → IsIdle x → P ms → P (x ∷ ms)

calm_idle : (e : Entry) → IsCalm e → IsIdle (Told e)
calm_idle (entry.Packet e) k = tt
calm_idle (entry.Start e) k = k
calm_idle (entry.Answered e) k = k
calm_idle entry.Powered k = k
calm_idle (entry.Node n e) k = k
calm_idle (entry.Device e) k = k
calm_idle (entry.Attempt e) k = k
calm_idle (entry.Update e) k = k
calm_idle (entry.Schedule e) k = k
calm_idle (entry.Command e) k = k
calm_idle (entry.Call e) k = k
calm_idle (entry.Status e) k = k
calm_idle (entry.Address e) k = k

pub dropped_lasts : (P : List Moment → Type 0) → Lasts P → (o : Option (ℕ × DropCause)) (s : Scene) → P s.moments → P (dropped_so o s).moments
dropped_lasts P lasts None s k = k
dropped_lasts P lasts (Some drop) s k = lasts (Told (entry.Packet (packet.Dropped drop.0 drop.1))) s.moments tt k

pub posting_lasts : (P : List Moment → Type 0) → Lasts P → (from to : ℕ) (m : Message) (s : Scene) → P s.moments → P (posting from to m s).moments
posting_lasts P lasts from to m s k = by_sent (is_sent s.links m)
  where
    by_sent : (b : Bool) → P (if b then sent_as from to m (sending s.links from to (spelling m)) s else s).moments
    by_sent true = dropped_lasts P lasts (sending s.links from to (spelling m)).sent.dropped _
        (lasts (Told (entry.Packet (packet.Sent s.links.next from to (name_of m.body) (spelling m)))) s.moments tt k)
    by_sent false = k

pub passing_lasts : (P : List Moment → Type 0) → Lasts P → (n : ℕ) (os : List Output) (s : Scene) → AllCalm os → P s.moments → P (passing n os s).moments
passing_lasts P lasts n [] s calm k = k
passing_lasts P lasts n (Tells e ∷ os) s calm k = passing_lasts P lasts n os (telling e s) calm.1 (lasts (Told e) s.moments (calm_idle e calm.0) k)
passing_lasts P lasts n (Sends to b ∷ os) s calm k =
    passing_lasts P lasts n os (posting n to (record { sender = n; body = b }) s) calm.1 (posting_lasts P lasts n to (record { sender = n; body = b }) s k)

-- whatever is told
pub passing_all : (P : List Moment → Type 0) → ((x : Moment) (ms : List Moment) → P ms → P (x ∷ ms)) → (n : ℕ) (os : List Output) (s : Scene) → P s.moments → P (passing n os s).moments
passing_all P lasts n [] s k = k
passing_all P lasts n (Tells e ∷ os) s k = passing_all P lasts n os (telling e s) (lasts (Told e) s.moments k)
passing_all P lasts n (Sends to b ∷ os) s k =
    passing_all P lasts n os (posting n to (record { sender = n; body = b }) s) (posting_lasts P (λ x ms idle z. lasts x ms z) n to (record { sender = n; body = b }) s k)

-- ---- what is idle

write_spares : (n m : ℕ) (c : PrCommand) → IsWrite c → SparedBy n m c
write_spares n m (command.Write value) k = tt
write_spares n m command.Keys k = absurd k
write_spares n m command.Word k = absurd k
write_spares n m command.Read k = absurd k
write_spares n m command.Holder k = absurd k
write_spares n m (command.Reserve kind key) k = absurd k
write_spares n m (command.Register key new) k = absurd k
write_spares n m (command.Ignore new) k = absurd k
write_spares n m (command.Release kind key) k = absurd k
write_spares n m (command.Clear key) k = absurd k
write_spares n m (command.Preempt kind key victim) k = absurd k
write_spares n m (command.Swap expect new) k = absurd k

pub idle_spares : (n : ℕ) (x : Moment) → IsIdle x → Spares n x
idle_spares n (Told (entry.Device (device_entry.Command m d c a))) k = write_spares n m c k
idle_spares n (Told (entry.Device (device_entry.Accepted q m x value))) k = tt
idle_spares n (Told (entry.Device (device_entry.Refused m x value why))) k = tt
idle_spares n _ k = tt

pub idle_ends : (h : Header) (ms : List Moment) (x : Moment) → IsIdle x → EndsShown h ms x
idle_ends h ms (Told (entry.Start (start_entry.Started e members held count))) k = absurd k
idle_ends h ms (Told (entry.Start (start_entry.Base e v words))) k = absurd k
idle_ends h ms (Told (entry.Attempt (attempt_entry.Votes e have need lacking))) k = absurd k
idle_ends h ms _ k = tt

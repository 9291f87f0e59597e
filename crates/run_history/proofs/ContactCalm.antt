-- What a moment leaves of what is known by those before it, where it is neither an attempt's line nor of a packet that is sent, copied or delivered.
use Rattle.std.specs.Prelude.{ℕ, ◌≡◌, List, ◌∷◌}
use Rattle.std.specs.List.{list_any}
use Rattle.std.proofs.Common.{refl}
use Rattle.cl_base.specs.declared.packet.MessageName.{MessageName}
use Rattle.schedule_text.specs.declared.event.Event.{Event}
use Rattle.schedule_text.specs.declared.line.Line.{Line}
use Rattle.status_report.specs.declared.attempt_entry.AttemptEntry.{AttemptEntry}
use Rattle.status_report.specs.declared.attempt_entry.AttemptEntry.TheVariants as attempt_entry
use Rattle.status_report.specs.declared.entry.Entry.{Entry}
use Rattle.status_report.specs.declared.entry.Entry.TheVariants as entry
use Rattle.status_report.specs.declared.node_entry.NodeEntry.{NodeEntry}
use Rattle.status_report.specs.declared.node_entry.NodeEntry.TheVariants as node_entry
use Rattle.status_report.specs.declared.packet_entry.PacketEntry.{PacketEntry}
use Rattle.status_report.specs.declared.packet_entry.PacketEntry.TheVariants as packet_entry
use Rattle.status_report.specs.declared.start_entry.StartEntry.{StartEntry}
use Rattle.status_report.specs.declared.start_entry.StartEntry.TheVariants as start_entry
use Rattle.status_report.specs.declared.update_entry.UpdateEntry.{UpdateEntry}
use Rattle.status_report.specs.declared.update_entry.UpdateEntry.TheVariants as update_entry
use Rattle.history.specs.Contact.{IsInstalled, IsNew, IsPrepared, IsReady, IsTold}
use Rattle.history.specs.Letters.{arrived, letter_of}
use Rattle.history.specs.Member.{attempt_of, members_of}
use Rattle.history.specs.Moment.{Moment, Part, Said, Told}
use Rattle.history.specs.Seizing.{is_attempt}
use Rattle.history.specs.Starts.{starts}
use Rattle.history.specs.Trace.{ack, delivered, installed, member, repeated, sent}
use Rattle.run_history.specs.Noted.{Laws}

-- attempts and starts are as they were
pub record Quiet (before : List Moment) (x : Moment) : Type 0 where
  pub any : (e : ℕ) → list_any (is_attempt e) (x ∷ before) ≡ list_any (is_attempt e) before
  pub members : (e : ℕ) → members_of e (x ∷ before) ≡ members_of e before
  pub last : (n : ℕ) → attempt_of n (x ∷ before) ≡ attempt_of n before
  pub begun : starts (x ∷ before) ≡ starts before

-- .. no law speaks of it, and packets and what has arrived are as they were
pub record Calm (before : List Moment) (x : Moment) : Type 0 where
  pub quiet : Quiet before x
  pub letters : (p : ℕ) → letter_of p (x ∷ before) ≡ letter_of p before
  pub here : arrived (x ∷ before) ≡ arrived before
  pub new : IsNew before x
  pub ready : IsReady before x
  pub installs : IsInstalled before x
  pub joins : IsTold before x
  pub acks : IsPrepared before x

abbrev pub IsCalmNode : NodeEntry → Type 0
IsCalmNode (node_entry.Installed e) = ⊥
IsCalmNode (node_entry.Member e) = ⊥
IsCalmNode _ = Unit {0}

abbrev pub IsCalmPacket : PacketEntry → Type 0
IsCalmPacket (packet_entry.Lost p) = Unit {0}
IsCalmPacket (packet_entry.Dropped p why) = Unit {0}
IsCalmPacket _ = ⊥

abbrev pub IsCalmAttempt : AttemptEntry → Type 0
IsCalmAttempt (attempt_entry.Begun e members) = ⊥
IsCalmAttempt _ = Unit {0}

abbrev pub IsCalmStart : StartEntry → Type 0
IsCalmStart (start_entry.Started e members held count) = ⊥
IsCalmStart _ = Unit {0}

abbrev pub IsCalmUpdate : UpdateEntry → Type 0
IsCalmUpdate (update_entry.Acknowledged e v words) = ⊥
IsCalmUpdate _ = Unit {0}

abbrev pub IsCalm : Entry → Type 0
IsCalm (entry.Node n e) = IsCalmNode e
IsCalm (entry.Packet e) = IsCalmPacket e
IsCalm (entry.Attempt e) = IsCalmAttempt e
IsCalm (entry.Start e) = IsCalmStart e
IsCalm (entry.Update e) = IsCalmUpdate e
IsCalm _ = Unit {0}

calm_node : (before : List Moment) (n : ℕ) (e : NodeEntry) → IsCalmNode e → Calm before (Told (entry.Node n e))
calm_node before n node_entry.Up is = record { quiet = record { any = λ e. refl; members = λ e. refl; last = λ n. refl; begun = refl }; letters = λ p. refl; here = refl; new = tt; ready = tt; installs = tt; joins = tt; acks = tt }
calm_node before n (node_entry.Down why) is = record { quiet = record { any = λ e. refl; members = λ e. refl; last = λ n. refl; begun = refl }; letters = λ p. refl; here = refl; new = tt; ready = tt; installs = tt; joins = tt; acks = tt }
calm_node before n node_entry.Ticked is = record { quiet = record { any = λ e. refl; members = λ e. refl; last = λ n. refl; begun = refl }; letters = λ p. refl; here = refl; new = tt; ready = tt; installs = tt; joins = tt; acks = tt }
calm_node before n node_entry.Saved is = record { quiet = record { any = λ e. refl; members = λ e. refl; last = λ n. refl; begun = refl }; letters = λ p. refl; here = refl; new = tt; ready = tt; installs = tt; joins = tt; acks = tt }
calm_node before n (node_entry.Installed f) is = absurd is
calm_node before n (node_entry.Member f) is = absurd is

calm_packet : (before : List Moment) (e : PacketEntry) → IsCalmPacket e → Calm before (Told (entry.Packet e))
calm_packet before (packet_entry.Lost q) is = record { quiet = record { any = λ e. refl; members = λ e. refl; last = λ n. refl; begun = refl }; letters = λ p. refl; here = refl; new = tt; ready = tt; installs = tt; joins = tt; acks = tt }
calm_packet before (packet_entry.Dropped q why) is = record { quiet = record { any = λ e. refl; members = λ e. refl; last = λ n. refl; begun = refl }; letters = λ p. refl; here = refl; new = tt; ready = tt; installs = tt; joins = tt; acks = tt }
calm_packet before (packet_entry.Sent q a b called bytes) is = absurd is
calm_packet before (packet_entry.Delivered q a b) is = absurd is
calm_packet before (packet_entry.Repeated q copy) is = absurd is

calm_attempt : (before : List Moment) (e : AttemptEntry) → IsCalmAttempt e → Calm before (Told (entry.Attempt e))
calm_attempt before (attempt_entry.Votes f have need lacking) is = record { quiet = record { any = λ e. refl; members = λ e. refl; last = λ n. refl; begun = refl }; letters = λ p. refl; here = refl; new = tt; ready = tt; installs = tt; joins = tt; acks = tt }
calm_attempt before (attempt_entry.Superseded f q) is = record { quiet = record { any = λ e. refl; members = λ e. refl; last = λ n. refl; begun = refl }; letters = λ p. refl; here = refl; new = tt; ready = tt; installs = tt; joins = tt; acks = tt }
calm_attempt before (attempt_entry.Silent f m) is = record { quiet = record { any = λ e. refl; members = λ e. refl; last = λ n. refl; begun = refl }; letters = λ p. refl; here = refl; new = tt; ready = tt; installs = tt; joins = tt; acks = tt }
calm_attempt before (attempt_entry.Excluded f m) is = record { quiet = record { any = λ e. refl; members = λ e. refl; last = λ n. refl; begun = refl }; letters = λ p. refl; here = refl; new = tt; ready = tt; installs = tt; joins = tt; acks = tt }
calm_attempt before (attempt_entry.Foreign f m) is = record { quiet = record { any = λ e. refl; members = λ e. refl; last = λ n. refl; begun = refl }; letters = λ p. refl; here = refl; new = tt; ready = tt; installs = tt; joins = tt; acks = tt }
calm_attempt before (attempt_entry.Begun f members) is = absurd is

calm_start : (before : List Moment) (e : StartEntry) → IsCalmStart e → Calm before (Told (entry.Start e))
calm_start before (start_entry.Base f v words) is = record { quiet = record { any = λ e. refl; members = λ e. refl; last = λ n. refl; begun = refl }; letters = λ p. refl; here = refl; new = tt; ready = tt; installs = tt; joins = tt; acks = tt }
calm_start before (start_entry.Adopted f m resource flags) is = record { quiet = record { any = λ e. refl; members = λ e. refl; last = λ n. refl; begun = refl }; letters = λ p. refl; here = refl; new = tt; ready = tt; installs = tt; joins = tt; acks = tt }
calm_start before (start_entry.Started f members held count) is = absurd is

calm_update : (before : List Moment) (e : UpdateEntry) → IsCalmUpdate e → Calm before (Told (entry.Update e))
calm_update before (update_entry.Proposed f v words) is = record { quiet = record { any = λ e. refl; members = λ e. refl; last = λ n. refl; begun = refl }; letters = λ p. refl; here = refl; new = tt; ready = tt; installs = tt; joins = tt; acks = tt }
calm_update before (update_entry.Acknowledged f v words) is = absurd is

pub calm_so : (before : List Moment) (e : Entry) → IsCalm e → Calm before (Told e)
calm_so before (entry.Node n e) is = calm_node before n e is
calm_so before (entry.Packet e) is = calm_packet before e is
calm_so before (entry.Attempt e) is = calm_attempt before e is
calm_so before (entry.Start e) is = calm_start before e is
calm_so before (entry.Update e) is = calm_update before e is
calm_so before entry.Powered is = record { quiet = record { any = λ e. refl; members = λ e. refl; last = λ n. refl; begun = refl }; letters = λ p. refl; here = refl; new = tt; ready = tt; installs = tt; joins = tt; acks = tt }
calm_so before (entry.Answered e) is = record { quiet = record { any = λ e. refl; members = λ e. refl; last = λ n. refl; begun = refl }; letters = λ p. refl; here = refl; new = tt; ready = tt; installs = tt; joins = tt; acks = tt }
calm_so before (entry.Device e) is = record { quiet = record { any = λ e. refl; members = λ e. refl; last = λ n. refl; begun = refl }; letters = λ p. refl; here = refl; new = tt; ready = tt; installs = tt; joins = tt; acks = tt }
calm_so before (entry.Call e) is = record { quiet = record { any = λ e. refl; members = λ e. refl; last = λ n. refl; begun = refl }; letters = λ p. refl; here = refl; new = tt; ready = tt; installs = tt; joins = tt; acks = tt }
calm_so before (entry.Command e) is = record { quiet = record { any = λ e. refl; members = λ e. refl; last = λ n. refl; begun = refl }; letters = λ p. refl; here = refl; new = tt; ready = tt; installs = tt; joins = tt; acks = tt }
calm_so before (entry.Status e) is = record { quiet = record { any = λ e. refl; members = λ e. refl; last = λ n. refl; begun = refl }; letters = λ p. refl; here = refl; new = tt; ready = tt; installs = tt; joins = tt; acks = tt }
calm_so before (entry.Address e) is = record { quiet = record { any = λ e. refl; members = λ e. refl; last = λ n. refl; begun = refl }; letters = λ p. refl; here = refl; new = tt; ready = tt; installs = tt; joins = tt; acks = tt }
calm_so before (entry.Schedule e) is = record { quiet = record { any = λ e. refl; members = λ e. refl; last = λ n. refl; begun = refl }; letters = λ p. refl; here = refl; new = tt; ready = tt; installs = tt; joins = tt; acks = tt }

pub calm_said : (before : List Moment) (l : Line) → Quiet before (Said l)
calm_said before l = record { any = λ e. refl; members = λ e. refl; last = λ n. refl; begun = refl }

pub calm_part : (before : List Moment) (e : Event) → Quiet before (Part e)
calm_part before e = record { any = λ e. refl; members = λ e. refl; last = λ n. refl; begun = refl }

pub quiet_sent : (before : List Moment) (p a b : ℕ) (called : MessageName) (bytes : List ℕ) → Quiet before (sent p a b called bytes)
quiet_sent before p a b called bytes = record { any = λ e. refl; members = λ e. refl; last = λ n. refl; begun = refl }

pub quiet_repeated : (before : List Moment) (p copy : ℕ) → Quiet before (repeated p copy)
quiet_repeated before p copy = record { any = λ e. refl; members = λ e. refl; last = λ n. refl; begun = refl }

pub quiet_delivered : (before : List Moment) (p a b : ℕ) → Quiet before (delivered p a b)
quiet_delivered before p a b = record { any = λ e. refl; members = λ e. refl; last = λ n. refl; begun = refl }

pub quiet_installed : (before : List Moment) (n e : ℕ) → Quiet before (installed n e)
quiet_installed before n e = record { any = λ e. refl; members = λ e. refl; last = λ n. refl; begun = refl }

pub quiet_member : (before : List Moment) (n e : ℕ) → Quiet before (member n e)
quiet_member before n e = record { any = λ e. refl; members = λ e. refl; last = λ n. refl; begun = refl }

pub quiet_ack : (before : List Moment) (e v : ℕ) (words : List ℕ) → Quiet before (ack e v words)
quiet_ack before e v words = record { any = λ e. refl; members = λ e. refl; last = λ n. refl; begun = refl }

-- the laws of one moment more
pub more_laws : (before : List Moment) (x : Moment) → Laws before → IsNew before x → IsReady before x → IsInstalled before x → IsTold before x → IsPrepared before x → Laws (x ∷ before)
more_laws before x h new ready installs joins acks =
    record { once = (new, h.once); ready = (ready, h.ready); installed = (installs, h.installed); told = (joins, h.told); prepared = (acks, h.prepared) }

pub calm_laws : (before : List Moment) (x : Moment) → Calm before x → Laws before → Laws (x ∷ before)
calm_laws before x c h = more_laws before x h c.new c.ready c.installs c.joins c.acks

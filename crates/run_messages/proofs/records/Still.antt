-- Lines that say nothing of records: they leave what is known of them.
use Rattle.std.specs.Prelude.{ℕ, ◌≡◌, List, ◌∷◌, None}
use Rattle.std.specs.List.{list_any}
use Rattle.std.proofs.Common.{refl, ap, ◌∙◌}
use Rattle.cl_base.specs.declared.panic.Panic.TheVariants as panic
use Rattle.history.specs.Contents.{IsNewestInstalled, IsRecord}
use Rattle.history.specs.Letters.{arrived, letter_of}
use Rattle.history.specs.Member.{installed_of}
use Rattle.history.specs.Moment.{Moment, Part, Said, Told}
use Rattle.history.specs.Records.{own_record, promises, record_of}
use Rattle.history.specs.Starts.{completed}
use Rattle.membership_machine.specs.State.{Memberships}
use Rattle.schedule_text.specs.declared.event.Event.{Event}
use Rattle.schedule_text.specs.declared.line.Line.{Line}
use Rattle.status_report.specs.declared.attempt_entry.AttemptEntry.{AttemptEntry}
use Rattle.status_report.specs.declared.attempt_entry.AttemptEntry.TheVariants as attempt_entry
use Rattle.status_report.specs.declared.entry.Entry.{Entry}
use Rattle.status_report.specs.declared.entry.Entry.TheVariants as entry
use Rattle.status_report.specs.declared.node_entry.DownCause.{DownCause}
use Rattle.status_report.specs.declared.node_entry.DownCause.TheVariants as cause
use Rattle.status_report.specs.declared.node_entry.NodeEntry.{NodeEntry}
use Rattle.status_report.specs.declared.node_entry.NodeEntry.TheVariants as node_entry
use Rattle.status_report.specs.declared.packet_entry.PacketEntry.{PacketEntry}
use Rattle.status_report.specs.declared.packet_entry.PacketEntry.TheVariants as packet_entry
use Rattle.status_report.specs.declared.start_entry.StartEntry.{StartEntry}
use Rattle.status_report.specs.declared.start_entry.StartEntry.TheVariants as start_entry
use Rattle.run_history.specs.Scenes.{Scene, telling}
use Rattle.membership_machine.specs.Growth.{Grows}
use Rattle.refinement.specs.Doings.{Site, site}
use Rattle.refinement.specs.Runs.{Nodes}
use Rattle.refinement.specs.Ties.{Delivered}
use Rattle.run_messages.specs.records.Kept.{Goes, SiteKept, shows_from}
use Rattle.run_messages.specs.records.Losses.{IsLoss}
use Rattle.run_messages.specs.records.Sound.{IsSound}
use Rattle.run_messages.proofs.records.Grow.{Keeps, bytes_stay, hand_stays, judged_more, site_grows, site_stays, sound_grows}

pub record Still (before : List Moment) (x : Moment) : Type 0 where
  pub record_so : (n : ℕ) → record_of n (x ∷ before) ≡ record_of n before
  pub installed_so : (n : ℕ) → installed_of n (x ∷ before) ≡ installed_of n before
  pub promises_so : (e : ℕ) → promises e (x ∷ before) ≡ promises e before
  pub own_so : (e : ℕ) → own_record e (x ∷ before) ≡ own_record e before
  pub letters : (p : ℕ) → letter_of p (x ∷ before) ≡ letter_of p before
  pub sound : (M : Memberships) → IsSound M before x
  pub records : IsRecord before x
  pub newest : IsNewestInstalled before x
  pub done : completed (x ∷ before) ≡ None

-- .. nor of what has arrived
pub record Aside (before : List Moment) (x : Moment) : Type 0 where
  pub still : Still before x
  pub here : arrived (x ∷ before) ≡ arrived before

abbrev pub IsStillNode : NodeEntry → Type 0
IsStillNode node_entry.Up = Unit {0}
IsStillNode node_entry.Ticked = Unit {0}
IsStillNode e = ⊥

abbrev pub IsStillPacket : PacketEntry → Type 0
IsStillPacket (packet_entry.Lost p) = Unit {0}
IsStillPacket (packet_entry.Dropped p why) = Unit {0}
IsStillPacket e = ⊥

abbrev pub IsStillAttempt : AttemptEntry → Type 0
IsStillAttempt (attempt_entry.Begun e members) = ⊥
IsStillAttempt e = Unit {0}

abbrev pub IsStillStart : StartEntry → Type 0
IsStillStart (start_entry.Adopted e n resource flags) = Unit {0}
IsStillStart e = ⊥

abbrev pub IsStill : Entry → Type 0
IsStill (entry.Node n e) = IsStillNode e
IsStill (entry.Packet e) = IsStillPacket e
IsStill (entry.Attempt e) = IsStillAttempt e
IsStill (entry.Start e) = IsStillStart e
IsStill (entry.Update e) = ⊥
IsStill e = Unit {0}

still_node : (before : List Moment) (n : ℕ) (e : NodeEntry) → IsStillNode e → Aside before (Told (entry.Node n e))
still_node before n node_entry.Up is = record { still = record { record_so = λ n. refl; installed_so = λ n. refl; promises_so = λ e. refl; own_so = λ e. refl; letters = λ p. refl; sound = λ M. tt; records = tt; newest = tt; done = refl }; here = refl }
still_node before n node_entry.Ticked is = record { still = record { record_so = λ n. refl; installed_so = λ n. refl; promises_so = λ e. refl; own_so = λ e. refl; letters = λ p. refl; sound = λ M. tt; records = tt; newest = tt; done = refl }; here = refl }
still_node before n (node_entry.Down why) is = absurd is
still_node before n node_entry.Saved is = absurd is
still_node before n (node_entry.Installed f) is = absurd is
still_node before n (node_entry.Member f) is = absurd is

still_packet : (before : List Moment) (e : PacketEntry) → IsStillPacket e → Aside before (Told (entry.Packet e))
still_packet before (packet_entry.Lost q) is = record { still = record { record_so = λ n. refl; installed_so = λ n. refl; promises_so = λ e. refl; own_so = λ e. refl; letters = λ p. refl; sound = λ M. tt; records = tt; newest = tt; done = refl }; here = refl }
still_packet before (packet_entry.Dropped q why) is = record { still = record { record_so = λ n. refl; installed_so = λ n. refl; promises_so = λ e. refl; own_so = λ e. refl; letters = λ p. refl; sound = λ M. tt; records = tt; newest = tt; done = refl }; here = refl }
still_packet before (packet_entry.Sent q a b called bytes) is = absurd is
still_packet before (packet_entry.Delivered q a b) is = absurd is
still_packet before (packet_entry.Repeated q copy) is = absurd is

still_attempt : (before : List Moment) (e : AttemptEntry) → IsStillAttempt e → Aside before (Told (entry.Attempt e))
still_attempt before (attempt_entry.Votes f have need lacking) is = record { still = record { record_so = λ n. refl; installed_so = λ n. refl; promises_so = λ e. refl; own_so = λ e. refl; letters = λ p. refl; sound = λ M. tt; records = tt; newest = tt; done = refl }; here = refl }
still_attempt before (attempt_entry.Superseded f q) is = record { still = record { record_so = λ n. refl; installed_so = λ n. refl; promises_so = λ e. refl; own_so = λ e. refl; letters = λ p. refl; sound = λ M. tt; records = tt; newest = tt; done = refl }; here = refl }
still_attempt before (attempt_entry.Silent f m) is = record { still = record { record_so = λ n. refl; installed_so = λ n. refl; promises_so = λ e. refl; own_so = λ e. refl; letters = λ p. refl; sound = λ M. tt; records = tt; newest = tt; done = refl }; here = refl }
still_attempt before (attempt_entry.Excluded f m) is = record { still = record { record_so = λ n. refl; installed_so = λ n. refl; promises_so = λ e. refl; own_so = λ e. refl; letters = λ p. refl; sound = λ M. tt; records = tt; newest = tt; done = refl }; here = refl }
still_attempt before (attempt_entry.Foreign f m) is = record { still = record { record_so = λ n. refl; installed_so = λ n. refl; promises_so = λ e. refl; own_so = λ e. refl; letters = λ p. refl; sound = λ M. tt; records = tt; newest = tt; done = refl }; here = refl }
still_attempt before (attempt_entry.Begun f members) is = absurd is

still_start : (before : List Moment) (e : StartEntry) → IsStillStart e → Aside before (Told (entry.Start e))
still_start before (start_entry.Adopted f m resource flags) is = record { still = record { record_so = λ n. refl; installed_so = λ n. refl; promises_so = λ e. refl; own_so = λ e. refl; letters = λ p. refl; sound = λ M. tt; records = tt; newest = tt; done = refl }; here = refl }
still_start before (start_entry.Base f v words) is = absurd is
still_start before (start_entry.Started f members held count) is = absurd is

pub still_so : (before : List Moment) (e : Entry) → IsStill e → Aside before (Told e)
still_so before (entry.Node n e) is = still_node before n e is
still_so before (entry.Packet e) is = still_packet before e is
still_so before (entry.Attempt e) is = still_attempt before e is
still_so before (entry.Start e) is = still_start before e is
still_so before (entry.Update e) is = absurd is
still_so before entry.Powered is = record { still = record { record_so = λ n. refl; installed_so = λ n. refl; promises_so = λ e. refl; own_so = λ e. refl; letters = λ p. refl; sound = λ M. tt; records = tt; newest = tt; done = refl }; here = refl }
still_so before (entry.Answered e) is = record { still = record { record_so = λ n. refl; installed_so = λ n. refl; promises_so = λ e. refl; own_so = λ e. refl; letters = λ p. refl; sound = λ M. tt; records = tt; newest = tt; done = refl }; here = refl }
still_so before (entry.Device e) is = record { still = record { record_so = λ n. refl; installed_so = λ n. refl; promises_so = λ e. refl; own_so = λ e. refl; letters = λ p. refl; sound = λ M. tt; records = tt; newest = tt; done = refl }; here = refl }
still_so before (entry.Call e) is = record { still = record { record_so = λ n. refl; installed_so = λ n. refl; promises_so = λ e. refl; own_so = λ e. refl; letters = λ p. refl; sound = λ M. tt; records = tt; newest = tt; done = refl }; here = refl }
still_so before (entry.Command e) is = record { still = record { record_so = λ n. refl; installed_so = λ n. refl; promises_so = λ e. refl; own_so = λ e. refl; letters = λ p. refl; sound = λ M. tt; records = tt; newest = tt; done = refl }; here = refl }
still_so before (entry.Status e) is = record { still = record { record_so = λ n. refl; installed_so = λ n. refl; promises_so = λ e. refl; own_so = λ e. refl; letters = λ p. refl; sound = λ M. tt; records = tt; newest = tt; done = refl }; here = refl }
still_so before (entry.Address e) is = record { still = record { record_so = λ n. refl; installed_so = λ n. refl; promises_so = λ e. refl; own_so = λ e. refl; letters = λ p. refl; sound = λ M. tt; records = tt; newest = tt; done = refl }; here = refl }
still_so before (entry.Schedule e) is = record { still = record { record_so = λ n. refl; installed_so = λ n. refl; promises_so = λ e. refl; own_so = λ e. refl; letters = λ p. refl; sound = λ M. tt; records = tt; newest = tt; done = refl }; here = refl }

pub still_said : (before : List Moment) (l : Line) → Still before (Said l)
still_said before l = record { record_so = λ n. refl; installed_so = λ n. refl; promises_so = λ e. refl; own_so = λ e. refl; letters = λ p. refl; sound = λ M. tt; records = tt; newest = tt; done = refl }

pub still_part : (before : List Moment) (e : Event) → Still before (Part e)
still_part before e = record { record_so = λ n. refl; installed_so = λ n. refl; promises_so = λ e. refl; own_so = λ e. refl; letters = λ p. refl; sound = λ M. tt; records = tt; newest = tt; done = refl }

pub still_keeps : (before : List Moment) (n : ℕ) (x : Moment) → Still before x → Keeps before n x
still_keeps before n x h = record {
  record_so = h.record_so n;
  installed_so = h.installed_so n;
  told = λ e k own is. ap (λ ls. list_any (shows_from k) ls) (h.promises_so e) ∙ is;
  first = λ e own. h.own_so e;
}

-- down, but by no loss in a save
pub down_still : (before : List Moment) (n : ℕ) (why : DownCause) → (IsLoss why → ⊥) → Aside before (Told (entry.Node n (node_entry.Down why)))
down_still before n cause.Crash other = record { still = record { record_so = λ n. refl; installed_so = λ n. refl; promises_so = λ e. refl; own_so = λ e. refl; letters = λ p. refl; sound = λ M. tt; records = tt; newest = tt; done = refl }; here = refl }
down_still before n cause.Stopped other = absurd (other tt)
down_still before n (cause.Panic panic.Disk) other = absurd (other tt)
down_still before n (cause.Panic (panic.Fenced d)) other = record { still = record { record_so = λ n. refl; installed_so = λ n. refl; promises_so = λ e. refl; own_so = λ e. refl; letters = λ p. refl; sound = λ M. tt; records = tt; newest = tt; done = refl }; here = refl }
down_still before n (cause.Panic (panic.Excluded e)) other = record { still = record { record_so = λ n. refl; installed_so = λ n. refl; promises_so = λ e. refl; own_so = λ e. refl; letters = λ p. refl; sound = λ M. tt; records = tt; newest = tt; done = refl }; here = refl }
down_still before n (cause.Panic (panic.Stop name)) other = record { still = record { record_so = λ n. refl; installed_so = λ n. refl; promises_so = λ e. refl; own_so = λ e. refl; letters = λ p. refl; sound = λ M. tt; records = tt; newest = tt; done = refl }; here = refl }

pub still_goes : (n : ℕ) (told : Delivered) (v : Nodes) (M : Memberships) (x : Site) (s : Scene) (e : Entry) → Aside s.moments (Told e) → Goes n told v M x s → Goes n told v M x (telling e s)
still_goes n told v M x s e l h = record {
  sound = (l.still.sound M, h.sound);
  judged = judged_more s.moments (Told e) l.still.records l.still.newest l.still.done h.judged;
  bytes = bytes_stay s.moments (Told e) s.links.next s.links.packets l.still.letters h.bytes;
  here = site_stays M s.moments n (Told e) x (still_keeps s.moments n (Told e) l.still) h.here;
  there = λ k other. site_stays M s.moments k (Told e) (site (v.node k) (v.disk k).kept) (still_keeps s.moments k (Told e) l.still) (h.there k other);
  hand = hand_stays s.moments n (Told e) told (still_keeps s.moments n (Told e) l.still).told l.here h.hand;
}

-- the node has gone on, or the machine
pub goes_at : (n : ℕ) (told : Delivered) (v : Nodes) (M : Memberships) (x y : Site) (s : Scene) → SiteKept M s.moments n y → Goes n told v M x s → Goes n told v M y s
goes_at n told v M x y s here h = record { sound = h.sound; judged = h.judged; bytes = h.bytes; here = here; there = h.there; hand = h.hand }

pub goes_grow : (n : ℕ) (told : Delivered) (v : Nodes) (M N : Memberships) (x : Site) (s : Scene) → Grows M N → Goes n told v M x s → Goes n told v N x s
goes_grow n told v M N x s g h = record {
  sound = sound_grows M N s.moments g h.sound;
  judged = h.judged;
  bytes = h.bytes;
  here = site_grows M N s.moments n x g h.here;
  there = λ k other. site_grows M N s.moments k (site (v.node k) (v.disk k).kept) g (h.there k other);
  hand = h.hand;
}

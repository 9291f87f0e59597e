-- What happens beside nodes changes no task, and tells nothing of any.
use Rattle.std.specs.Prelude.{ℕ, ◌≡◌, List, [], ◌∷◌, ◌++◌, Option, None, Some}
use Rattle.std.proofs.Common.{refl}
use Rattle.cl_base.specs.declared.packet.DropCause.{DropCause}
use Rattle.cl_base.specs.declared.packet.DropCause.TheVariants as drop
use Rattle.history.specs.Moment.{Moment, Part, Said, Told}
use Rattle.interconnect.specs.Links.{sending}
use Rattle.interconnect.specs.Links as net
use Rattle.node_model.specs.declared.cluster.Cluster.{Cluster}
use Rattle.run_history.specs.Happenings.{Happening, armed_by, happened}
use Rattle.run_history.specs.Happenings.Happening.{Arrives, Begins, Commands, Misses, Notes, Refuses, Repeats, Speaks, Strays}
use Rattle.run_history.specs.Happenings.Happening.{Loses as Loses_packet, Takes as Takes_plain, Writes as Writes_plain}
use Rattle.run_history.specs.Scenes.{Scene, adding, dropped_so, telling, with_links}
use Rattle.schedule_text.specs.declared.event.Event.{Event}
use Rattle.schedule_text.specs.declared.event.Event.TheVariants as event
use Rattle.schedule_text.specs.declared.line.Line.TheVariants as line
use Rattle.status_report.specs.declared.device_entry.DeviceEntry.TheVariants as device_entry
use Rattle.status_report.specs.declared.entry.Entry.TheVariants as entry
use Rattle.status_report.specs.declared.packet_entry.PacketEntry.TheVariants as packet
use Rattle.run_outcomes.specs.tasks.Quiet.{AreQuiet}

-- no node takes part in it
abbrev pub IsSimple : Happening → Type 0
IsSimple (Speaks e) = Unit {0}
IsSimple (Begins e) = Unit {0}
IsSimple (Notes e) = Unit {0}
IsSimple (Misses number x) = Unit {0}
IsSimple (Loses_packet number x) = Unit {0}
IsSimple (Repeats number x) = Unit {0}
IsSimple (Refuses n d value why) = Unit {0}
IsSimple _ = ⊥

pub record Simply (s t : Scene) : Type 0 where
  pub nodes : (j : ℕ) → t.nodes.node j ≡ s.nodes.node j
  pub newer : List Moment
  pub parts : t.moments ≡ newer ++ s.moments
  pub quiet : (n : ℕ) → AreQuiet n s.moments newer

armed_simply : (c : Cluster) (e : Event) (s : Scene) → Simply s (armed_by c e (adding (Said (line.Event e)) s))
armed_simply c (event.CrashAt n calls choice) s = record { nodes = λ j. refl; newer = Said (line.Event (event.CrashAt n calls choice)) ∷ []; parts = refl; quiet = λ n. (tt, tt) }
armed_simply c (event.Fault n d done) s = record { nodes = λ j. refl; newer = Said (line.Event (event.Fault n d done)) ∷ []; parts = refl; quiet = λ n. (tt, tt) }
armed_simply c e s = record { nodes = λ j. refl; newer = Said (line.Event e) ∷ []; parts = refl; quiet = λ n. (tt, tt) }

copied_simply : (s : Scene) (number copy : ℕ) (l : net.Links) (o : Option (ℕ × DropCause)) → Simply s (dropped_so o (telling (entry.Packet (packet.Repeated number copy)) (with_links s l)))
copied_simply s number copy l None = record { nodes = λ j. refl; newer = Told (entry.Packet (packet.Repeated number copy)) ∷ []; parts = refl; quiet = λ n. (tt, tt) }
copied_simply s number copy l (Some d) = record {
  nodes = λ j. refl;
  newer = Told (entry.Packet (packet.Dropped d.0 d.1)) ∷ Told (entry.Packet (packet.Repeated number copy)) ∷ [];
  parts = refl;
  quiet = λ n. (tt, (tt, tt));
}

pub simply : (c : Cluster) (s : Scene) (x : Happening) → IsSimple x → Simply s (happened c s x)
simply c s (Speaks e) is = armed_simply c e s
simply c s (Begins e) is = record { nodes = λ j. refl; newer = Part e ∷ []; parts = refl; quiet = λ n. (tt, tt) }
simply c s (Notes e) is = record { nodes = λ j. refl; newer = Told (entry.Schedule e) ∷ []; parts = refl; quiet = λ n. (tt, tt) }
simply c s (Misses number x) is = record { nodes = λ j. refl; newer = Told (entry.Packet (packet.Dropped number drop.Down)) ∷ []; parts = refl; quiet = λ n. (tt, tt) }
simply c s (Loses_packet number x) is = record { nodes = λ j. refl; newer = Told (entry.Packet (packet.Lost number)) ∷ []; parts = refl; quiet = λ n. (tt, tt) }
simply c s (Repeats number x) is = let o : net.Outcome = sending s.links x.from x.to x.bytes in copied_simply s number s.links.next o.after o.sent.dropped
simply c s (Refuses n d value why) is = record { nodes = λ j. refl; newer = Told (entry.Device (device_entry.Refused n d value why)) ∷ []; parts = refl; quiet = λ n. (tt, tt) }
simply c s (Takes_plain n now ends i) is = absurd is
simply c s (Arrives number x m now ends) is = absurd is
simply c s (Strays number x) is = absurd is
simply c s (Commands n d q now ends) is = absurd is
simply c s (Writes_plain n d value now ends) is = absurd is

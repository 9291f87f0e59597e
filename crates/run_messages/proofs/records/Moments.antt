-- One moment more, and other links, with what is known of records.
use Rattle.cl_base.specs.declared.packet.DropCause.{DropCause}
use Rattle.history.specs.Letters.{Letter, letter_of}
use Rattle.history.specs.Moment.{Moment, Told}
use Rattle.history.specs.Records.{promise_among, promises}
use Rattle.history.specs.Trace.{delivered, repeated}
use Rattle.interconnect.specs.Links.{Links, Packet, packet_of, removing, sending}
use Rattle.membership_machine.specs.State.{Memberships}
use Rattle.node_model.specs.declared.cluster.Cluster.{Cluster}
use Rattle.run_history.proofs.ContactCalm.{Calm, IsCalm, Quiet, calm_laws, calm_so, more_laws, quiet_delivered, quiet_repeated}
use Rattle.run_history.proofs.ContactFlying.{flying_stays, removing_posted, repeated_posted}
use Rattle.run_history.proofs.ContactStays.{notes_stay, quiet_keeps, started_stays, tried_stays}
use Rattle.run_history.proofs.Walk.{quiet_starts}
use Rattle.run_history.specs.Causes.{Flying}
use Rattle.run_history.specs.Happenings.{copying, removed}
use Rattle.run_history.specs.Noted.{Laws}
use Rattle.run_history.specs.Scenes.{Scene, adding, dropped_so, telling, with_links}
use Rattle.run_history.specs.Stages.{Stage, site_of}
use Rattle.run_messages.proofs.records.Bytes.{removing_bytes, repeated_bytes}
use Rattle.run_messages.proofs.records.Grow.{Keeps, bytes_stay, judged_more, site_stays}
use Rattle.run_messages.proofs.records.Still.{IsStill, Still, still_keeps, still_so}
use Rattle.run_messages.specs.records.Kept.{AreBytes, Judged, KnownScene, shows_from}
use Rattle.run_messages.specs.records.Sound.{IsSound}
use Rattle.status_report.specs.declared.entry.Entry.{Entry}
use Rattle.std.proofs.Common.{refl}
use Rattle.std.specs.List.{list_any}
use Rattle.std.specs.Prelude.{ℕ, ◌≡◌, Bool, true, false, List, [], ◌∷◌, Option, None, Some, ◌||◌, ◌++◌}
use Rattle.interconnect.specs.Links as links
use Rattle.status_report.specs.declared.entry.Entry.TheVariants as entry
use Rattle.status_report.specs.declared.packet_entry.PacketEntry.TheVariants as packet

-- ---- one moment more, and other links

pub moment_known : (c : Cluster) (s : Scene) (l : Links) (x : Moment) → Quiet s.moments x → Laws (x ∷ s.moments) → Flying (x ∷ s.moments) l → ((n : ℕ) → Keeps s.moments n x) → ((M : Memberships) → IsSound M s.moments x) → Judged (x ∷ s.moments) → AreBytes (x ∷ s.moments) l
    → KnownScene c s → KnownScene c (adding x (with_links s l))
moment_known c s l x q laws flying keeps sound judged bytes a =
    let b : Stage c s = a.stage in
    record {
      stage = record {
        machine = b.machine;
        holds = b.holds;
        stands = b.stands;
        sent = b.sent;
        fits = b.fits;
        devices = b.devices;
        laws = laws;
        tried = tried_stays b.machine s.moments x q b.tried;
        started = started_stays b.machine s.moments x q b.started;
        notes = λ n. notes_stay s.moments n x (site_of s.nodes n) (quiet_keeps s.moments n x q) (b.notes n);
        flying = flying;
      };
      sound = (sound b.machine, a.sound);
      judged = judged;
      bytes = bytes;
      at = λ n. site_stays b.machine s.moments n x (site_of s.nodes n) (keeps n) (a.at n);
    }

pub still_judged : (ms : List Moment) (x : Moment) → Still ms x → Judged ms → Judged (x ∷ ms)
still_judged ms x h j = judged_more ms x h.records h.newest h.done j

pub calm_known : (c : Cluster) (s : Scene) (e : Entry) → IsCalm e → IsStill e → KnownScene c s → KnownScene c (telling e s)
calm_known c s e is still a =
    let k : Calm s.moments (Told e) = calm_so s.moments e is in
    let h : Still s.moments (Told e) = (still_so s.moments e still).still in
    moment_known c s s.links (Told e) k.quiet (calm_laws s.moments (Told e) k a.stage.laws) (flying_stays s.moments (Told e) s.links (quiet_starts s.moments (Told e) k.quiet) k.letters a.stage.flying)
    (λ n. still_keeps s.moments n (Told e) h) h.sound (still_judged s.moments (Told e) h a.judged) (bytes_stay s.moments (Told e) s.links.next s.links.packets h.letters a.bytes) a

-- a packet is taken out, and this told of it
pub gone_known : (c : Cluster) (s : Scene) (number : ℕ) (e : Entry) → IsCalm e → IsStill e → KnownScene c s → KnownScene c (telling e (removed s number))
gone_known c s number e is still a =
    let k : Calm s.moments (Told e) = calm_so s.moments e is in
    let h : Still s.moments (Told e) = (still_so s.moments e still).still in
    let l : Links = removing s.links number in
    moment_known c s l (Told e) k.quiet (calm_laws s.moments (Told e) k a.stage.laws) (flying_stays s.moments (Told e) l (quiet_starts s.moments (Told e) k.quiet) k.letters (removing_posted s.moments s.links number a.stage.flying))
    (λ n. still_keeps s.moments n (Told e) h) h.sound (still_judged s.moments (Told e) h a.judged) (bytes_stay s.moments (Told e) l.next l.packets h.letters (removing_bytes s.moments s.links number a.bytes)) a

any_later : (test : Letter → Bool) (ls more : List Letter) → list_any test more ≡ true → list_any test (ls ++ more) ≡ true
any_later test [] more h = h
any_later test (l ∷ ls) more h = or_later (test l) _ (any_later test ls more h)
  where
    or_later : (a b : Bool) → b ≡ true → (a || b) ≡ true
    or_later true b e = refl
    or_later false b e = e

delivered_keeps : (ms : List Moment) (n number from to : ℕ) → Keeps ms n (delivered number from to)
delivered_keeps ms n number from to = record {
  record_so = refl;
  installed_so = refl;
  told = λ e k own is. any_later (shows_from k) (promise_among e (letter_of number ms)) (promises e ms) is;
  first = λ e own. refl;
}

pub delivered_known : (c : Cluster) (s : Scene) (number from to : ℕ) → KnownScene c s → KnownScene c (telling (entry.Packet (packet.Delivered number from to)) (removed s number))
delivered_known c s number from to a =
    let x : Moment = delivered number from to in
    let l : Links = removing s.links number in
    let q : Quiet s.moments x = quiet_delivered s.moments number from to in
    moment_known c s l x q (more_laws s.moments x a.stage.laws tt tt tt tt tt) (flying_stays s.moments x l (quiet_starts s.moments x q) (λ p. refl) (removing_posted s.moments s.links number a.stage.flying))
    (λ n. delivered_keeps s.moments n number from to) (λ M. tt) (judged_more s.moments x tt tt refl a.judged) (bytes_stay s.moments x l.next l.packets (λ p. refl) (removing_bytes s.moments s.links number a.bytes)) a

pub dropped_known : (c : Cluster) (s : Scene) (o : Option (ℕ × DropCause)) → KnownScene c s → KnownScene c (dropped_so o s)
dropped_known c s None a = a
dropped_known c s (Some drop) a = calm_known c s (entry.Packet (packet.Dropped drop.0 drop.1)) tt tt a

pub repeated_known : (c : Cluster) (s : Scene) (number : ℕ) (x : Packet) → packet_of s.links.packets number ≡ Some x → KnownScene c s → KnownScene c (copying number (sending s.links x.from x.to x.bytes) s)
repeated_known c s number x is a =
    let o : links.Outcome = sending s.links x.from x.to x.bytes in
    let y : Moment = repeated number s.links.next in
    dropped_known c _ o.sent.dropped
    (moment_known c s o.after y (quiet_repeated s.moments number s.links.next) (more_laws s.moments y a.stage.laws tt tt tt tt tt) (repeated_posted s.moments s.links number x is a.stage.flying)
    (λ n. record { record_so = refl; installed_so = refl; told = λ e k own is. is; first = λ e own. refl }) (λ M. tt) (judged_more s.moments y tt tt refl a.judged) (repeated_bytes s.moments s.links number x is a.bytes) a)

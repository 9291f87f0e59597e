-- What each letter says of attempts is so from then on; and the message that comes is in hand.
use Rattle.std.specs.Prelude.{ℕ, ◌≡◌, ◌==◌, Bool, true, false, List, [], ◌∷◌, Option, None, Some, option_map, if◌then◌else◌}
use Rattle.std.specs.List.{list_any}
use Rattle.std.proofs.Common.{refl, sym, ap, subst, ◌∙◌}
use Rattle.cmm_attempt.proofs.Basics.{false_true, none_some, same_number, same_some}
use Rattle.history.specs.Attempts.{stops_of}
use Rattle.history.specs.Contact.{AttemptsDiffer, IsNew}
use Rattle.history.specs.Letters.{Letter, letter_of, passes, reached_since}
use Rattle.history.specs.Moment.{Moment, Told}
use Rattle.history.specs.Names.{named}
use Rattle.history.specs.Seizing.{is_attempt}
use Rattle.history.specs.Setting.{coordinator}
use Rattle.history.specs.Trace.{attempt, delivered}
use Rattle.interconnect.specs.Links.{Packet, packet_of}
use Rattle.membership_machine.specs.State.{Memberships}
use Rattle.node_model.specs.declared.cluster.Cluster.{Cluster}
use Rattle.status_report.specs.declared.entry.Entry.TheVariants as entry
use Rattle.status_report.specs.declared.packet_entry.PacketEntry.TheVariants as packet
use Rattle.wire.specs.Reads.{whole_of}
use Rattle.wire.specs.declared.message.Body.{Body}
use Rattle.wire.specs.declared.message.Body.TheVariants as body
use Rattle.wire.specs.declared.message.Message.{Message}
use Rattle.run_history.specs.Scenes.{Scene}
use Rattle.run_messages.proofs.records.Arrivals.{arrived_kept}
use Rattle.run_messages.proofs.records.Letters.{letter_sound, read_letter}
use Rattle.run_messages.specs.records.Kept.{Came as Came_kept, KnownScene}
use Rattle.run_messages.specs.records.Sound.{BodySound}
use Rattle.run_attempts.specs.endings.Nacks.{BodySo, IsTried}
use Rattle.run_attempts.specs.endings.Sites.{AllJudged, Came, IsNumbered}
use Rattle.run_attempts.proofs.endings.Grows.{booted_more, is_made}
use Rattle.run_attempts.proofs.endings.Ways.{or_first, or_second}

-- ---- one moment more

not_again : (e : ℕ) (x : Moment) (ms : List Moment) → IsNew ms x → IsTried ms e → is_attempt e x ≡ false
not_again e (attempt f members) ms new tried = by_test (f == e) refl
  where
    by_test : (t : Bool) → (f == e) ≡ t → t ≡ false
    by_test true is = absurd (false_true (sym new ∙ subst (λ k. list_any (is_attempt k) ms ≡ true) (sym (same_number f e is)) tried))
    by_test false is = refl
not_again e _ ms new tried = refl

body_one : (x : Moment) (ms : List Moment) (k : ℕ) (b : Body) → IsNew ms x → BodySo ms k b → BodySo (x ∷ ms) k b
body_one x ms k (body.Nack e q) new h = record {
  tried = or_second (is_attempt e x) (list_any (is_attempt e) ms) h.tried;
  most = h.most;
  made = λ some. is_made ms (x ∷ ms) q (λ t. or_second (is_attempt q x) (list_any (is_attempt q) ms) t) (λ t. or_second (stops_of (coordinator q) x) (list_any (stops_of (coordinator q)) ms) t) (h.made some);
  booted = λ same. booted_more k e x ms (not_again e x ms new h.tried) (h.booted same);
}
body_one x ms k (body.Collect e members) new h = (h.0, or_second (is_attempt e x) (list_any (is_attempt e) ms) h.1)
body_one x ms k (body.Install i) new h = (h.0, or_second (is_attempt i.epoch x) (list_any (is_attempt i.epoch) ms) h.1)
body_one x ms k _ new h = tt

-- ---- what a letter says

pub letter_says : (p : ℕ) (ms : List Moment) (l : Letter) (m : Message) → AttemptsDiffer ms → AllJudged ms → letter_of p ms ≡ Some l → whole_of l.bytes ≡ Some m → BodySo ms l.from m.body
letter_says p [] l m differ h is read = absurd (none_some l is)
letter_says p (Told (entry.Packet (packet.Sent q a b called bytes)) ∷ ms) l m differ h is read =
    body_one (Told (entry.Packet (packet.Sent q a b called bytes))) ms l.from m.body differ.0 (by_test (λ at. letter_says p ms l m differ.1 h.1 at read) (q == p) is)
  where
    by_test : (letter_of p ms ≡ Some l → BodySo ms l.from m.body) → (t : Bool) → (if t then Some (record { from = a; to = b; name = named called; bytes = bytes; before = ms }) else letter_of p ms) ≡ Some l → BodySo ms l.from m.body
    by_test next true at =
        let same : record { from = a; to = b; name = named called; bytes = bytes; before = ms } ≡ l = same_some (record { from = a; to = b; name = named called; bytes = bytes; before = ms }) l at in
        subst (λ from. BodySo ms from m.body) (ap (λ (z : Letter). z.from) same) (h.0.says_so m (ap (λ (z : Letter). whole_of z.bytes) same ∙ read))
    by_test next false at = next at
letter_says p (Told (entry.Packet (packet.Repeated q copy)) ∷ ms) l m differ h is read =
    body_one (Told (entry.Packet (packet.Repeated q copy))) ms l.from m.body differ.0 (letter_says (if copy == p then q else p) ms l m differ.1 h.1 is read)
letter_says p (x ∷ ms) l m differ h is read = body_one x ms l.from m.body differ.0 (letter_says p ms l m differ.1 h.1 is read)

-- ---- the message that comes

numbered_by : (M : Memberships) (l : Letter) (b : Body) → BodySound M l.before l.from l.to b → IsNumbered l b
numbered_by M l (body.Collect e members) h = h.last
numbered_by M l _ h = tt

says_by : (ms : List Moment) (l : Letter) (b : Body) (o : Option Message) → whole_of l.bytes ≡ o → option_map (λ (m : Message). m.body) o ≡ Some b → ((m : Message) → whole_of l.bytes ≡ Some m → BodySo ms l.from m.body)
    → BodySo ms l.from b
says_by ms l b None at is h = absurd (none_some b is)
says_by ms l b (Some m) at is h = subst (BodySo ms l.from) (same_some m.body b is) (h m at)

pub arrival : (c : Cluster) (s : Scene) (number : ℕ) (x : Packet) (m : Message) → packet_of s.links.packets number ≡ Some x → whole_of x.bytes ≡ Some m → KnownScene c s → AllJudged s.moments
    → Came (delivered number x.from x.to ∷ s.moments) x.to x.from m.body
arrival c s number x m is whole a judged =
    let came : Came_kept (delivered number x.from x.to ∷ s.moments) x.to x.from m.body = arrived_kept c s number x m is whole a in
    let l : Letter = came.letter in
    let here : letter_of number s.moments ≡ Some l = came.here in
    record {
      letter = l;
      read = came.read;
      called = came.called;
      sender = came.sender;
      receiver = came.receiver;
      numbered = numbered_by a.stage.machine l m.body (read_letter a.stage.machine l m.body (letter_sound a.stage.machine number s.moments l a.sound here) came.read).1;
      near = λ e test so. or_first (passes test (letter_of number s.moments)) (reached_since (is_attempt e) test s.moments) (ap (passes test) here ∙ so);
      had = came.had;
      stands = body_one (delivered number x.from x.to) s.moments x.from m.body tt
          (subst (λ from. BodySo s.moments from m.body) came.sender
          (says_by s.moments l m.body (whole_of l.bytes) refl came.read (λ z at. letter_says number s.moments l z a.stage.laws.once judged here at)));
    }

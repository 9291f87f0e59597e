-- A request to seize that comes is of the attempt of its sender, as it was sent.
use Rattle.std.specs.Prelude.{ℕ, ◌≡◌, ◌==◌, ◌&&◌, not, Bool, true, false, List, [], ◌∷◌, Option, None, Some, option_map, if◌then◌else◌}
use Rattle.std.proofs.Common.{refl, ap, subst, ◌∙◌}
use Rattle.cmm_attempt.proofs.Basics.{none_some, same_some}
use Rattle.status_report.specs.declared.entry.Entry.{Entry}
use Rattle.status_report.specs.declared.entry.Entry.TheVariants as entry
use Rattle.status_report.specs.declared.packet_entry.PacketEntry.{PacketEntry}
use Rattle.status_report.specs.declared.packet_entry.PacketEntry.TheVariants as packet
use Rattle.history.specs.Letters.{Letter, letter_of}
use Rattle.history.specs.Member.{number_of}
use Rattle.history.specs.Moment.{Moment, Part, Said, Told}
use Rattle.history.specs.Names.{named}
use Rattle.history.specs.Order.{Always}
use Rattle.history.specs.Seizing.{is_number}
use Rattle.history.specs.Setting.{Setting}
use Rattle.history_setting.specs.Settings.{setting_of}
use Rattle.node_model.specs.Members.{is_foreign_seizing}
use Rattle.run_devices.specs.queues.Told.{is_spelled}
use Rattle.run_history.specs.Happenings.{all_happened}
use Rattle.run_history.specs.Scenes.{first_scene}
use Rattle.run_seizings.proofs.Promising.{and_both, same_so}
use Rattle.wire.specs.Reads.{whole_of}
use Rattle.wire.specs.declared.message.Body.{Body}
use Rattle.wire.specs.declared.message.Body.TheVariants as body
use Rattle.wire.specs.declared.message.Message.{Message}
use Rattle.world_model.specs.First.{first_cluster}
use Rattle.run_outcomes.specs.reports.Laws.{AsksFor, AsksSo, RequestsAreOfAttempts}
use Rattle.run_outcomes.specs.tasks.Others.{AsksNatively, AsksPlainly, IsNative, IsNativeIn, IsPlainly, RequestsAreNative, RequestsArePlain}

-- ---- as it was sent

abbrev pub AsksIn : Letter → Type 0
AsksIn l = (m : Message) → whole_of l.bytes ≡ Some m → AsksFor l.before l.from m.body

-- what was sent before is so
abbrev Before : List Moment → Letter → Type 0
Before ms l = (p : ℕ) → letter_of p ms ≡ Some l → AsksIn l

packet_asks : (p : ℕ) (e : PacketEntry) (ms : List Moment) (l : Letter) → AsksSo ms (Told (entry.Packet e)) → Before ms l → letter_of p (Told (entry.Packet e) ∷ ms) ≡ Some l → AsksIn l
packet_asks p (packet.Sent q a b called bytes) ms l here k is = by_test (q == p) is
  where
    one : Letter
    one = record { from = a; to = b; name = named called; bytes = bytes; before = ms }

    by_test : (t : Bool) → (if t then Some one else letter_of p ms) ≡ Some l → AsksIn l
    by_test true found = subst AsksIn (same_some one l found) here.1
    by_test false found = k p found
packet_asks p (packet.Repeated q copy) ms l here k is = k (if copy == p then q else p) is
packet_asks p (packet.Delivered q a b) ms l here k is = k p is
packet_asks p (packet.Lost q) ms l here k is = k p is
packet_asks p (packet.Dropped q why) ms l here k is = k p is

entry_asks : (p : ℕ) (e : Entry) (ms : List Moment) (l : Letter) → AsksSo ms (Told e) → Before ms l → letter_of p (Told e ∷ ms) ≡ Some l → AsksIn l
entry_asks p (entry.Packet e) ms l here k is = packet_asks p e ms l here k is
entry_asks p _ ms l here k is = k p is

pub letter_asks : (p : ℕ) (ms : List Moment) (l : Letter) → Always AsksSo ms → letter_of p ms ≡ Some l → AsksIn l
letter_asks p [] l k is = absurd (none_some l is)
letter_asks p (Told e ∷ ms) l k is = entry_asks p e ms l k.0 (λ q found. letter_asks q ms l k.1 found) is
letter_asks p (Said e ∷ ms) l k is = letter_asks p ms l k.1 is
letter_asks p (Part e ∷ ms) l k is = letter_asks p ms l k.1 is

-- ---- so it is plain

spelled_so : (e : ℕ) (o : Option ℕ) (foreign : Bool) → o ≡ Some e → foreign ≡ false → (is_number e o && not foreign) ≡ true
spelled_so e o foreign is off =
    and_both (is_number e o) (not foreign) (ap (is_number e) is ∙ same_so e e refl) (ap not off)

body_spelled : (S : Setting) (n : ℕ) (l : Letter) (b : Body) → AsksFor l.before l.from b → IsNative S n (Some b) → is_spelled S n (number_of l) (Some b) ≡ true
body_spelled S n l (body.SeizeQuorum e members d) asks native = spelled_so e (number_of l) (is_foreign_seizing (first_cluster S.header) n members d) asks native
body_spelled S n l (body.SeizeData e members d) asks native = spelled_so e (number_of l) (is_foreign_seizing (first_cluster S.header) n members d) asks native
body_spelled S n l _ asks native = absurd native

whole_spelled : (S : Setting) (n : ℕ) (l : Letter) (o : Option Message) → whole_of l.bytes ≡ o → AsksIn l → IsNative S n (option_map (λ (m : Message). m.body) o)
    → is_spelled S n (number_of l) (option_map (λ (m : Message). m.body) o) ≡ true
whole_spelled S n l None is asks native = absurd native
whole_spelled S n l (Some m) is asks native = body_spelled S n l m.body (asks m is) native

plain_of : (S : Setting) (n : ℕ) (ms : List Moment) (o : Option Letter) → ((l : Letter) → o ≡ Some l → AsksIn l) → IsNativeIn S n o → IsPlainly S n ms o
plain_of S n ms None asks native = tt
plain_of S n ms (Some l) asks native = λ is. whole_spelled S n l (whole_of l.bytes) refl (asks l refl) (native is)

packet_plain : (S : Setting) (e : PacketEntry) (ms : List Moment) → Always AsksSo ms → AsksNatively S ms (Told (entry.Packet e)) → AsksPlainly S ms (Told (entry.Packet e))
packet_plain S (packet.Delivered p a m) ms k native = plain_of S m ms (letter_of p ms) (λ l is. letter_asks p ms l k is) native
packet_plain S _ ms k native = tt

entry_plain : (S : Setting) (e : Entry) (ms : List Moment) → Always AsksSo ms → AsksNatively S ms (Told e) → AsksPlainly S ms (Told e)
entry_plain S (entry.Packet e) ms k native = packet_plain S e ms k native
entry_plain S _ ms k native = tt

moment_plain : (S : Setting) (x : Moment) (ms : List Moment) → Always AsksSo ms → AsksNatively S ms x → AsksPlainly S ms x
moment_plain S (Told e) ms k native = entry_plain S e ms k native
moment_plain S (Said l) ms k native = tt
moment_plain S (Part e) ms k native = tt

all_plain : (S : Setting) (ms : List Moment) → Always AsksSo ms → Always (AsksNatively S) ms → Always (AsksPlainly S) ms
all_plain S [] k native = tt
all_plain S (x ∷ ms) k native = (moment_plain S x ms k.1 native.0, all_plain S ms k.1 native.1)

pub requests_plain : RequestsAreOfAttempts → RequestsAreNative → RequestsArePlain
requests_plain asks native h cells hs last nodes few small disks may shaped here boots left =
    all_plain (setting_of h) (all_happened (first_cluster h) (first_scene h cells) hs).moments (asks h cells hs few small may)
    (native h cells hs last nodes few small disks may shaped here boots left)

-- What is kept of records stays as the machine goes on, and as moments are added.
use Rattle.std.specs.Prelude.{ℕ, ◌≡◌, Bool, true, false, List, [], ◌∷◌, Option, None, Some, is_some, option_map, IfSome}
use Rattle.std.specs.List.{AllByRecursion}
use Rattle.std.proofs.Common.{refl, sym, ap, subst, ◌∙◌, inl, inr}
use Rattle.cmm_attempt.specs.Attempts.{AttemptState}
use Rattle.cmm_member.specs.Records.{NodeRecord}
use Rattle.history.specs.Contents.{IsInstalledBase, IsNewestBase, IsNewestInstalled, IsRecord}
use Rattle.history.specs.Letters.{Letter, arrived, letter_of}
use Rattle.history.specs.Member.{installed_of}
use Rattle.history.specs.Moment.{Moment, Part, Said, Told}
use Rattle.history.specs.Records.{NodeRecord as Shown, own_record, record_of}
use Rattle.history.specs.Setting.{coordinator}
use Rattle.history.specs.Starts.{Start, base_so_far, completed}
use Rattle.interconnect.specs.Links.{Packet}
use Rattle.membership_machine.specs.Growth.{Grows}
use Rattle.membership_machine.specs.State.{Memberships}
use Rattle.membership_machine.specs.Records.{Saved}
use Rattle.node_model.specs.Seats.{record_of as kept_record}
use Rattle.node_model.specs.declared.node.Node.{Node}
use Rattle.node_model.specs.declared.node.Node.TheVariants.{Down, Up}
use Rattle.node_model.specs.declared.node.UpNode.{UpNode}
use Rattle.node_model.specs.declared.seat.Seat.{Seat}
use Rattle.node_model.specs.declared.seat.Seat.TheVariants.{Forming, Member}
use Rattle.refinement.specs.Doings.{Site}
use Rattle.refinement.specs.Ties.{Delivered}
use Rattle.status_report.specs.declared.entry.Entry.TheVariants as entry
use Rattle.status_report.specs.declared.packet_entry.PacketEntry.{PacketEntry}
use Rattle.status_report.specs.declared.packet_entry.PacketEntry.TheVariants as packet_entry
use Rattle.wire.specs.declared.message.Body.{Body}
use Rattle.wire.specs.declared.message.Body.TheVariants as body
use Rattle.run_messages.specs.records.Kept.{AttemptIn, BytesOf, HandKept, HeardFrom, IsHad, Judged, NodeKept, SeatKept, SiteKept, UpKept, has_told}
use Rattle.run_messages.specs.records.Shown.{IsOf, shown}
use Rattle.run_messages.specs.records.Sound.{AllSound, BodySound, IsSound, PromiseSound, ShowsSo}

-- ---- the machine goes on

not_true : (b : Bool) → (b ≡ true → ⊥) → b ≡ false
not_true true h = absurd (h refl)
not_true false h = refl

true_false : true ≡ false → ⊥
true_false h = cc

shows_grow : (M N : Memberships) (q n : ℕ) (r : Saved) → Grows M N → (M.node n).answered q ≡ true → ShowsSo M q n r → ShowsSo N q n r
shows_grow M N q n r g answered (inl h) = inl ((g.node n).showed q answered ∙ h)
shows_grow M N q n r g answered (inr h) =
    inr (h.0, (g.epoch q).counted h.1, λ later. h.2 (not_true (M.epoch q).started (λ old. true_false (sym ((g.epoch q).started old) ∙ later))) ∙ sym ((g.epoch q).base h.1))

pub promise_grows : (M N : Memberships) (ms : List Moment) (n q : ℕ) (r : Saved) → Grows M N → PromiseSound M ms n q r → PromiseSound N ms n q r
promise_grows M N ms n q r g h = record {
  asked = h.asked;
  tried = (g.epoch q).tried h.tried;
  member = (g.epoch q).members h.tried n ∙ h.member;
  answered = (g.node n).answered q h.answered;
  shows = shows_grow M N q n r g h.answered h.shows;
}

pub body_grows : (M N : Memberships) (ms : List Moment) (n to : ℕ) (b : Body) → Grows M N → BodySound M ms n to b → BodySound N ms n to b
body_grows M N ms n to (body.Collect q members) g h = record { last = h.last; tried = (g.epoch q).tried h.tried; member = (g.epoch q).members h.tried to ∙ h.member }
body_grows M N ms n to (body.Promise q newest members valid flagged committed pending) g h = promise_grows M N ms n q _ g h
body_grows M N ms n to (body.Heartbeat promised session is_one) g h = tt
body_grows M N ms n to (body.Nack p promised) g h = tt
body_grows M N ms n to (body.SeizeQuorum p members d) g h = tt
body_grows M N ms n to (body.SeizeData p members d) g h = tt
body_grows M N ms n to (body.Seized p d outcome) g h = tt
body_grows M N ms n to (body.Install i) g h = tt
body_grows M N ms n to (body.Ready p joined report) g h = tt
body_grows M N ms n to (body.Start p) g h = tt
body_grows M N ms n to (body.Prepare p place text) g h = tt
body_grows M N ms n to (body.Prepared p place) g h = tt
body_grows M N ms n to (body.Commit p place) g h = tt
body_grows M N ms n to (body.Order o) g h = tt
body_grows M N ms n to (body.Done p number outcome) g h = tt
body_grows M N ms n to (body.Request p number text) g h = tt
body_grows M N ms n to (body.Answer p number text) g h = tt
body_grows M N ms n to (body.Excluded p newest) g h = tt

packet_grows : (M N : Memberships) (before : List Moment) (e : PacketEntry) → Grows M N → IsSound M before (Told (entry.Packet e)) → IsSound N before (Told (entry.Packet e))
packet_grows M N before (packet_entry.Sent p a b called bytes) g h = λ m is. ((h m is).0, body_grows M N before a b m.body g (h m is).1)
packet_grows M N before (packet_entry.Delivered p a b) g h = tt
packet_grows M N before (packet_entry.Lost p) g h = tt
packet_grows M N before (packet_entry.Repeated p copy) g h = tt
packet_grows M N before (packet_entry.Dropped p why) g h = tt

one_grows : (M N : Memberships) (before : List Moment) (x : Moment) → Grows M N → IsSound M before x → IsSound N before x
one_grows M N before (Said line) g h = tt
one_grows M N before (Part event) g h = tt
one_grows M N before (Told (entry.Packet e)) g h = packet_grows M N before e g h
one_grows M N before (Told (entry.Node n e)) g h = tt
one_grows M N before (Told (entry.Attempt e)) g h = tt
one_grows M N before (Told (entry.Start e)) g h = tt
one_grows M N before (Told (entry.Update e)) g h = tt
one_grows M N before (Told entry.Powered) g h = tt
one_grows M N before (Told (entry.Answered e)) g h = tt
one_grows M N before (Told (entry.Device e)) g h = tt
one_grows M N before (Told (entry.Call e)) g h = tt
one_grows M N before (Told (entry.Command e)) g h = tt
one_grows M N before (Told (entry.Status e)) g h = tt
one_grows M N before (Told (entry.Address e)) g h = tt
one_grows M N before (Told (entry.Schedule e)) g h = tt

pub sound_grows : (M N : Memberships) (ms : List Moment) → Grows M N → AllSound M ms → AllSound N ms
sound_grows M N [] g h = tt
sound_grows M N (x ∷ before) g h = (one_grows M N before x g h.0, sound_grows M N before g h.1)

if_of : (o : Option Shown) (s t : Saved) → t ≡ s → IfSome o (λ r. IsOf r s) → IfSome o (λ r. IsOf r t)
if_of o s t same h = subst (λ z. IfSome o (λ r. IsOf r z)) (sym same) h

pub attempt_grows : (M N : Memberships) (ms : List Moment) (n : ℕ) (r : NodeRecord) (o : Option AttemptState) → Grows M N → AttemptIn M ms n r o → AttemptIn N ms n r o
attempt_grows M N ms n r None g h = tt
attempt_grows M N ms n r (Some a) g h = record {
  own = h.own;
  first = if_of (own_record a.plan.epoch ms) _ _ ((g.node n).showed a.plan.epoch h.answered) h.first;
  answered = (g.node n).answered a.plan.epoch h.answered;
  heard = h.heard;
  epoch = h.epoch;
  installs = h.installs;
}

node_grows : (M N : Memberships) (ms : List Moment) (n : ℕ) (node : Node) → Grows M N → NodeKept M ms n node → NodeKept N ms n node
node_grows M N ms n Down g h = tt
node_grows M N ms n (Up x) g h = record { attempt = attempt_grows M N ms n (kept_record x) x.attempt g h.attempt; seat = h.seat }

pub site_grows : (M N : Memberships) (ms : List Moment) (n : ℕ) (x : Site) → Grows M N → SiteKept M ms n x → SiteKept N ms n x
site_grows M N ms n x g h = record { record_so = h.record_so; installed = h.installed; up = node_grows M N ms n x.node g h.up }

-- ---- a moment more

-- what node n has of records stays
pub record Keeps (before : List Moment) (n : ℕ) (x : Moment) : Type 0 where
  pub record_so : record_of n (x ∷ before) ≡ record_of n before
  pub installed_so : installed_of n (x ∷ before) ≡ installed_of n before
  pub told : (e k : ℕ) → coordinator e ≡ n → has_told e k before ≡ true → has_told e k (x ∷ before) ≡ true
  pub first : (e : ℕ) → coordinator e ≡ n → own_record e (x ∷ before) ≡ own_record e before

pub heard_stays : (before after : List Moment) (n e k : ℕ) → (has_told e k before ≡ true → has_told e k after ≡ true) → HeardFrom before n e k → HeardFrom after n e k
heard_stays before after n e k f (inl own) = inl own
heard_stays before after n e k f (inr told) = inr (f told)

attempt_stays : (M : Memberships) (before : List Moment) (n : ℕ) (x : Moment) (r : NodeRecord) (o : Option AttemptState) → Keeps before n x → AttemptIn M before n r o → AttemptIn M (x ∷ before) n r o
attempt_stays M before n x r None k h = tt
attempt_stays M before n x r (Some a) k h = record {
  own = h.own;
  first = subst (λ o. IfSome o (λ r. IsOf r ((M.node n).showed a.plan.epoch))) (sym (k.first a.plan.epoch h.own)) h.first;
  answered = h.answered;
  heard = λ i d lt. heard_stays before (x ∷ before) n a.plan.epoch _ (k.told a.plan.epoch _ h.own) (h.heard i d lt);
  epoch = λ is. k.installed_so ∙ h.epoch is;
  installs = h.installs;
}

pub seat_stays : (before after : List Moment) (n : ℕ) (seat : Seat) → (is_some (record_of n before) ≡ true → is_some (record_of n after) ≡ true) → SeatKept before n seat → SeatKept after n seat
seat_stays before after n (Forming s) f h = λ some same other. f (h some same other)
seat_stays before after n (Member s) f h = tt

pub up_stays : (M : Memberships) (before : List Moment) (n : ℕ) (x : Moment) (y : UpNode) → Keeps before n x → UpKept M before n y → UpKept M (x ∷ before) n y
up_stays M before n x y k h = record {
  attempt = attempt_stays M before n x (kept_record y) y.attempt k h.attempt;
  seat = seat_stays before (x ∷ before) n y.seat (λ is. ap is_some k.record_so ∙ is) h.seat;
}

node_stays : (M : Memberships) (before : List Moment) (n : ℕ) (x : Moment) (node : Node) → Keeps before n x → NodeKept M before n node → NodeKept M (x ∷ before) n node
node_stays M before n x Down k h = tt
node_stays M before n x (Up y) k h = up_stays M before n x y k h

pub site_stays : (M : Memberships) (before : List Moment) (n : ℕ) (x : Moment) (y : Site) → Keeps before n x → SiteKept M before n y → SiteKept M (x ∷ before) n y
site_stays M before n x y k h = record {
  record_so = subst (λ o. IfSome o (λ r. r ≡ shown y.disk)) (sym k.record_so) h.record_so;
  installed = subst (λ o. IfSome o (λ f. f ≡ y.disk.installed)) (sym k.installed_so) h.installed;
  up = node_stays M before n x y.node k h.up;
}

had_stays : (before : List Moment) (n : ℕ) (x : Moment) (from : ℕ) (b : Body) → ((e : ℕ) → coordinator e ≡ n → has_told e from before ≡ true → has_told e from (x ∷ before) ≡ true) → IsHad before n from b
    → IsHad (x ∷ before) n from b
had_stays before n x from (body.Promise e newest members valid flagged committed pending) f h = λ own. f e own (h own)
had_stays before n x from (body.Collect p members) f h = tt
had_stays before n x from (body.Heartbeat promised session is_one) f h = tt
had_stays before n x from (body.Nack p promised) f h = tt
had_stays before n x from (body.SeizeQuorum p members d) f h = tt
had_stays before n x from (body.SeizeData p members d) f h = tt
had_stays before n x from (body.Seized p d outcome) f h = tt
had_stays before n x from (body.Install i) f h = tt
had_stays before n x from (body.Ready p joined report) f h = tt
had_stays before n x from (body.Start p) f h = tt
had_stays before n x from (body.Prepare p place text) f h = tt
had_stays before n x from (body.Prepared p place) f h = tt
had_stays before n x from (body.Commit p place) f h = tt
had_stays before n x from (body.Order o) f h = tt
had_stays before n x from (body.Done p number outcome) f h = tt
had_stays before n x from (body.Request p number text) f h = tt
had_stays before n x from (body.Answer p number text) f h = tt
had_stays before n x from (body.Excluded p newest) f h = tt

pub hand_stays : (before : List Moment) (n : ℕ) (x : Moment) (told : Delivered) → ((e k : ℕ) → coordinator e ≡ n → has_told e k before ≡ true → has_told e k (x ∷ before) ≡ true) → arrived (x ∷ before) ≡ arrived before
    → HandKept before n told → HandKept (x ∷ before) n told
hand_stays before n x None f here h = here ∙ h
hand_stays before n x (Some d) f here h = record {
  letter = h.letter;
  here = here ∙ h.here;
  read = h.read;
  called = h.called;
  sender = h.sender;
  receiver = h.receiver;
  had = had_stays before n x d.0 d.1.body (λ e own. f e d.0 own) h.had;
}

pub bytes_stay : (before : List Moment) (x : Moment) (next : ℕ) (ps : List Packet) → ((p : ℕ) → letter_of p (x ∷ before) ≡ letter_of p before) → AllByRecursion (BytesOf before next) ps → AllByRecursion (BytesOf (x ∷ before) next) ps
bytes_stay before x next [] same h = tt
bytes_stay before x next (p ∷ ps) same h = ((ap (λ o. option_map (λ (l : Letter). l.bytes) o) (same p.number) ∙ h.0.0, h.0.1), bytes_stay before x next ps same h.1)

none_some : (o : Option Start) (P : Start → Type 0) → o ≡ None → IfSome o P
none_some o P none = subst (λ z. IfSome z P) (sym none) tt

-- no start is complete
pub judged_more : (before : List Moment) (x : Moment) → IsRecord before x → IsNewestInstalled before x → completed (x ∷ before) ≡ None → Judged before → Judged (x ∷ before)
judged_more before x r n none h = record {
  records = (r, h.records);
  newest = (n, h.newest);
  base = (none_some (completed (x ∷ before)) (λ s. IsInstalledBase (x ∷ before) s (base_so_far (x ∷ before))) none, h.base);
  newest_base = (none_some (completed (x ∷ before)) (λ s. IsNewestBase (x ∷ before) s (base_so_far (x ∷ before))) none, h.newest_base);
}

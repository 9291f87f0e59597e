-- Packets in flight stay the letters of their numbers, with what they say.
use Rattle.std.specs.Prelude.{List, None, Option, Some, [], false, nat_lt, not, ℕ, ◌+◌, ◌<◌, ◌==◌, ◌∷◌, ◌≡◌}
use Rattle.std.specs.List.{AllByRecursion}
use Rattle.std.proofs.Common.{ap, arith, refl, subst, sym, ◌∙◌}
use Rattle.cl_base.specs.declared.header.Header.{Header}
use Rattle.cmm_attempt.proofs.Basics.{if_either}
use Rattle.history.specs.Contact.{IsNew}
use Rattle.history.specs.Letters.{letter_of}
use Rattle.history.specs.Moment.{Moment}
use Rattle.history.specs.Names.{named}
use Rattle.history.specs.Trace.{delivered, repeated, sent}
use Rattle.interconnect.specs.Links.{Links, Packet, appending, count_on, crowding, dropping, free_cells_of, oldest_on, packet_of, refusing, removing, sending}
use Rattle.interconnect.specs.Links as links
use Rattle.refinement.proofs.Worlds.{all_append, all_filter, all_found}
use Rattle.run_history.proofs.ContactFlying.{number_found, sent_letter, sent_others}
use Rattle.wire.specs.Reads.{whole_of}
use Rattle.wire.specs.declared.message.Body.{Body}
use Rattle.wire.specs.declared.message.Message.{Message}
use Rattle.world_model.specs.Sends.{name_of}
use Rattle.run_seizings.proofs.Progress.{if_not, if_so, same_is}
use Rattle.run_devices.proofs.readings.Stays.{stands_stay}
use Rattle.run_devices.specs.readings.Readings.{SentSo, StandsSo}
use Rattle.run_devices.specs.readings.Sites.{Brought, Carried, Posted}

posted_so : (h : Header) (before after : List Moment) (next more : ℕ) (x : Packet) → (x.number < next → x.number < more)
    → (x.number < next → letter_of x.number after ≡ letter_of x.number before)
    → ((from : ℕ) (b : Body) → StandsSo h before from b → StandsSo h after from b) → Posted h before next x → Posted h after more x
posted_so h before after next more x low same last k = record {
  below = low k.below;
  letter = k.letter;
  sent_so = same k.below ∙ k.sent_so;
  sender = k.sender;
  receiver = k.receiver;
  bytes = k.bytes;
  says = λ m is. ((k.says m is).0, (k.says m is).1, last x.from m.body (k.says m is).2);
}

all_posted : (h : Header) (before after : List Moment) (next more : ℕ) (xs : List Packet) → ((p : ℕ) → p < next → p < more)
    → ((p : ℕ) → p < next → letter_of p after ≡ letter_of p before)
    → ((from : ℕ) (b : Body) → StandsSo h before from b → StandsSo h after from b) → AllByRecursion (Posted h before next) xs → AllByRecursion (Posted h after more) xs
all_posted h before after next more [] low same last k = tt
all_posted h before after next more (x ∷ xs) low same last k =
    (posted_so h before after next more x (low x.number) (same x.number) last k.0, all_posted h before after next more xs low same last k.1)

-- a moment of no packet
pub carried_stays : (h : Header) (before : List Moment) (x : Moment) (l : Links) → IsNew before x → ((p : ℕ) → letter_of p (x ∷ before) ≡ letter_of p before)
    → Carried h before l → Carried h (x ∷ before) l
carried_stays h before x l new same k = all_posted h before (x ∷ before) l.next l.next l.packets (λ p low. low) (λ p low. same p)
    (λ from b so. stands_stay h before x from b new so) k

pub removing_carried : (h : Header) (ms : List Moment) (l : Links) (number : ℕ) → Carried h ms l → Carried h ms (removing l number)
removing_carried h ms l number k = all_filter (Posted h ms l.next) (λ (p : Packet). not (p.number == number)) l.packets k

dropping_carried : (h : Header) (ms : List Moment) (l : Links) (number : ℕ) (o : Option ℕ) → Carried h ms l → Carried h ms (dropping l number o).after
dropping_carried h ms l number None k = k
dropping_carried h ms l number (Some oldest) k = removing_carried h ms l oldest k

abbrev After : Header → List Moment → links.Outcome → Type 0
After h ms o = Carried h ms o.after

crowding_carried : (h : Header) (ms : List Moment) (l : Links) (number from to : ℕ) → Carried h ms l → After h ms (crowding l number from to)
crowding_carried h ms l number from to k =
    if_either (After h ms) (nat_lt _ (count_on l.packets from to)) (dropping l number (oldest_on l.packets from to)) _
    (dropping_carried h ms l number (oldest_on l.packets from to) k) k

one_more : (p k : ℕ) → p < k → p < k + 1
one_more p k h = omega (arith, h)

less_more : (k : ℕ) → k < k + 1
less_more k = omega arith

sending_carried : (h : Header) (before after : List Moment) (l : Links) (from to : ℕ) (bytes : List ℕ) → ((p : ℕ) → p < l.next → letter_of p after ≡ letter_of p before)
    → ((from : ℕ) (b : Body) → StandsSo h before from b → StandsSo h after from b) → Carried h before l
    → Posted h after (l.next + 1) (record { number = l.next; from = from; to = to; bytes = bytes })
    → Carried h after (sending l from to bytes).after
sending_carried h before after l from to bytes same last k new =
    let old : AllByRecursion (Posted h after (l.next + 1)) l.packets = all_posted h before after l.next (l.next + 1) l.packets
    (λ p low. one_more p l.next low) same last k in
    if_either (After h after) (nat_lt (free_cells_of l) _) (refusing l) (crowding (appending l from to bytes) l.next from to) old
    (crowding_carried h after (appending l from to bytes) l.next from to
    (all_append (Posted h after (l.next + 1)) l.packets (record { number = l.next; from = from; to = to; bytes = bytes }) old new))

-- ---- a packet is sent

pub sent_carried : (h : Header) (before : List Moment) (l : Links) (from to : ℕ) (m : Message) (bytes : List ℕ)
    → ((other : Message) → whole_of bytes ≡ Some other → other ≡ m)
    → IsNew before (sent l.next from to (name_of m.body) bytes) → SentSo before from m.body → StandsSo h before from m.body → Carried h before l
    → Carried h (sent l.next from to (name_of m.body) bytes ∷ before) (sending l from to bytes).after
sent_carried h before l from to m bytes read new was stands k =
    let x : Moment = sent l.next from to (name_of m.body) bytes in
    sending_carried h before (x ∷ before) l from to bytes (sent_others before l.next from to (name_of m.body) bytes)
    (λ f b so. stands_stay h before x f b new so) k (record {
      below = less_more l.next;
      letter = record { from = from; to = to; name = named (name_of m.body); bytes = bytes; before = before };
      sent_so = sent_letter before l.next from to (name_of m.body) bytes;
      sender = refl;
      receiver = refl;
      bytes = refl;
      says = λ other is. (
        ap (λ (z : Message). named (name_of z.body)) (sym (read other is)),
        subst (λ (z : Message). SentSo before from z.body) (sym (read other is)) was,
        subst (λ (z : Message). StandsSo h (x ∷ before) from z.body) (sym (read other is)) (stands_stay h before x from m.body new stands),
      );
    })

-- ---- a packet is copied

other_is : (p k : ℕ) → p < k → (k == p) ≡ false
other_is p k h = grind arith

repeated_letter : (before : List Moment) (q copy : ℕ) → letter_of copy (repeated q copy ∷ before) ≡ letter_of q before
repeated_letter before q copy = ap (λ k. letter_of k before) (if_so (copy == copy) q copy (same_is copy))

repeated_others : (before : List Moment) (q copy p : ℕ) → p < copy → letter_of p (repeated q copy ∷ before) ≡ letter_of p before
repeated_others before q copy p low = ap (λ k. letter_of k before) (if_not (copy == p) q p (other_is p copy low))

pub found_carried : (h : Header) (ms : List Moment) (l : Links) (number : ℕ) (x : Packet) → Carried h ms l → packet_of l.packets number ≡ Some x → Posted h ms l.next x
found_carried h ms l number x k is = all_found (Posted h ms l.next) (λ (p : Packet). p.number == number) l.packets x k is

pub repeated_carried : (h : Header) (before : List Moment) (l : Links) (number : ℕ) (x : Packet) → packet_of l.packets number ≡ Some x → Carried h before l
    → Carried h (repeated number l.next ∷ before) (sending l x.from x.to x.bytes).after
repeated_carried h before l number x is k =
    let found : Posted h before l.next x = found_carried h before l number x k is in
    let y : Moment = repeated number l.next in
    sending_carried h before (y ∷ before) l x.from x.to x.bytes (λ p low. repeated_others before number l.next p low)
    (λ f b so. stands_stay h before y f b tt so) k (record {
      below = less_more l.next;
      letter = found.letter;
      sent_so = repeated_letter before number l.next ∙ (ap (λ k. letter_of k before) (sym (number_found l number x is)) ∙ found.sent_so);
      sender = found.sender;
      receiver = found.receiver;
      bytes = found.bytes;
      says = λ m at. ((found.says m at).0, (found.says m at).1, stands_stay h before y x.from m.body tt (found.says m at).2);
    })

-- ---- a packet comes

pub arrived_hand : (h : Header) (ms : List Moment) (l : Links) (number : ℕ) (x : Packet) (m : Message) → packet_of l.packets number ≡ Some x
    → whole_of x.bytes ≡ Some m → Carried h ms l
    → Brought h (delivered number x.from x.to ∷ ms) x.to x.from m.body
arrived_hand h ms l number x m is whole all =
    let k : Posted h ms l.next x = found_carried h ms l number x all is in
    record {
      letter = k.letter;
      here = ap (λ i. letter_of i ms) (sym (number_found l number x is)) ∙ k.sent_so;
      sender = k.sender;
      receiver = k.receiver;
      called = (k.says m whole).0;
      sent_so = (k.says m whole).1;
      stands = stands_stay h ms (delivered number x.from x.to) x.from m.body tt (k.says m whole).2;
    }

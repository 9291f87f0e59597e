-- Packets in flight stay the letters of their numbers.
use Rattle.std.specs.Prelude.{ℕ, ◌+◌, ◌≡◌, ◌<◌, ◌==◌, nat_lt, not, Bool, true, false, List, [], ◌∷◌, Option, None, Some, if◌then◌else◌}
use Rattle.std.specs.List.{AllByRecursion}
use Rattle.std.proofs.Common.{refl, sym, ap, subst, ◌∙◌, arith}
use Rattle.cl_base.specs.declared.packet.MessageName.{MessageName}
use Rattle.cmm_attempt.proofs.Basics.{if_either, same_some}
use Rattle.interconnect.specs.Links as links
use Rattle.interconnect.specs.Links.{Links, Packet, appending, count_on, crowding, dropping, free_cells_of, oldest_on, packet_of, refusing, removing, sending}
use Rattle.refinement.proofs.Worlds.{all_append, all_filter, all_found}
use Rattle.wire.specs.Reads.{whole_of}
use Rattle.wire.specs.declared.message.Body.{Body}
use Rattle.wire.specs.declared.message.Body.TheVariants as body
use Rattle.wire.specs.declared.message.Message.{Message}
use Rattle.world_model.specs.Sends.{name_of}
use Rattle.history.specs.Letters.{letter_of}
use Rattle.history.specs.Moment.{Moment}
use Rattle.history.specs.Names.{named}
use Rattle.history.specs.Trace.{repeated, sent}
use Rattle.run_history.specs.Causes.{Caused, Flying, Lasting, Posted}
use Rattle.run_history.proofs.ContactStays.{KeepsStarts, lasting_stays}

-- the same packets, over other moments and another number that is next
pub posted_so : (before after : List Moment) (next more : ℕ) (x : Packet) → (x.number < next → x.number < more) → (x.number < next → letter_of x.number after ≡ letter_of x.number before)
    → ((b : Body) → Lasting before b → Lasting after b) → Posted before next x → Posted after more x
posted_so before after next more x low same last h = record {
  below = low h.below;
  letter = h.letter;
  sent_so = same h.below ∙ h.sent_so;
  sender = h.sender;
  receiver = h.receiver;
  says = λ m is. ((h.says m is).0, (h.says m is).1, last m.body (h.says m is).2);
}

pub all_posted : (before after : List Moment) (next more : ℕ) (xs : List Packet) → ((p : ℕ) → p < next → p < more) → ((p : ℕ) → p < next → letter_of p after ≡ letter_of p before)
    → ((b : Body) → Lasting before b → Lasting after b) → AllByRecursion (Posted before next) xs → AllByRecursion (Posted after more) xs
all_posted before after next more [] low same last h = tt
all_posted before after next more (x ∷ xs) low same last h = (posted_so before after next more x (low x.number) (same x.number) last h.0, all_posted before after next more xs low same last h.1)

-- a moment of no packet
pub flying_stays : (before : List Moment) (x : Moment) (l : Links) → KeepsStarts before x → ((p : ℕ) → letter_of p (x ∷ before) ≡ letter_of p before) → Flying before l → Flying (x ∷ before) l
flying_stays before x l k same h = all_posted before (x ∷ before) l.next l.next l.packets (λ p low. low) (λ p low. same p) (λ b so. lasting_stays before x b k so) h

pub removing_posted : (ms : List Moment) (l : Links) (number : ℕ) → Flying ms l → Flying ms (removing l number)
removing_posted ms l number h = all_filter (Posted ms l.next) (λ (p : Packet). not (p.number == number)) l.packets h

dropping_posted : (ms : List Moment) (l : Links) (number : ℕ) (o : Option ℕ) → Flying ms l → Flying ms (dropping l number o).after
dropping_posted ms l number None h = h
dropping_posted ms l number (Some oldest) h = removing_posted ms l oldest h

abbrev AfterPosted : List Moment → links.Outcome → Type 0
AfterPosted ms o = Flying ms o.after

crowding_posted : (ms : List Moment) (l : Links) (number from to : ℕ) → Flying ms l → AfterPosted ms (crowding l number from to)
crowding_posted ms l number from to h =
    if_either (AfterPosted ms) (nat_lt _ (count_on l.packets from to)) (dropping l number (oldest_on l.packets from to)) _ (dropping_posted ms l number (oldest_on l.packets from to) h) h

one_more : (p k : ℕ) → p < k → p < k + 1
one_more p k h = omega (arith, h)

less_more : (k : ℕ) → k < k + 1
less_more k = omega arith

-- a packet more: those before it are over the same letters, and it is the letter of the number that was next
pub sending_posted : (before after : List Moment) (l : Links) (from to : ℕ) (bytes : List ℕ) → ((p : ℕ) → p < l.next → letter_of p after ≡ letter_of p before)
    → ((b : Body) → Lasting before b → Lasting after b) → Flying before l → Posted after (l.next + 1) (record { number = l.next; from = from; to = to; bytes = bytes }) → Flying after (sending l from to bytes).after
sending_posted before after l from to bytes same last h new =
    let old : AllByRecursion (Posted after (l.next + 1)) l.packets = all_posted before after l.next (l.next + 1) l.packets (λ p low. one_more p l.next low) same last h in
    if_either (AfterPosted after) (nat_lt (free_cells_of l) _) (refusing l) (crowding (appending l from to bytes) l.next from to) old
    (crowding_posted after (appending l from to bytes) l.next from to (all_append (Posted after (l.next + 1)) l.packets (record { number = l.next; from = from; to = to; bytes = bytes }) old new))

-- what its cause says of start lines stands on
caused_lasting : (before : List Moment) (x : Moment) (from : ℕ) (b : Body) → KeepsStarts before x → Caused before from b → Lasting (x ∷ before) b
caused_lasting before x from (body.Start p) k h = k p h.2
caused_lasting before x from (body.Heartbeat promised session is_one) k h = tt
caused_lasting before x from (body.Collect p members) k h = tt
caused_lasting before x from (body.Promise p newest members valid flagged committed pending) k h = tt
caused_lasting before x from (body.Nack p promised) k h = tt
caused_lasting before x from (body.SeizeQuorum p members d) k h = tt
caused_lasting before x from (body.SeizeData p members d) k h = tt
caused_lasting before x from (body.Seized p d outcome) k h = tt
caused_lasting before x from (body.Install i) k h = tt
caused_lasting before x from (body.Ready p joined report) k h = tt
caused_lasting before x from (body.Prepare p place text) k h = tt
caused_lasting before x from (body.Prepared p place) k h = tt
caused_lasting before x from (body.Commit p place) k h = tt
caused_lasting before x from (body.Order o) k h = tt
caused_lasting before x from (body.Done p number outcome) k h = tt
caused_lasting before x from (body.Request p number text) k h = tt
caused_lasting before x from (body.Answer p number text) k h = tt
caused_lasting before x from (body.Excluded p newest) k h = tt

-- ---- a packet is sent

if_so : {X : Type 0} (b : Bool) (x y : X) → b ≡ true → (if b then x else y) ≡ x
if_so true x y h = refl
if_so false x y h = absurd (no_truth h)
  where
    no_truth : false ≡ true → ⊥
    no_truth e = cc

if_not : {X : Type 0} (b : Bool) (x y : X) → b ≡ false → (if b then x else y) ≡ y
if_not true x y h = absurd (no_truth h)
  where
    no_truth : true ≡ false → ⊥
    no_truth e = cc
if_not false x y h = refl

same_is : (k : ℕ) → (k == k) ≡ true
same_is k = grind arith

other_is : (p k : ℕ) → p < k → (k == p) ≡ false
other_is p k h = grind arith

pub sent_letter : (before : List Moment) (q a b : ℕ) (called : MessageName) (bytes : List ℕ) → letter_of q (sent q a b called bytes ∷ before) ≡ Some (record { from = a; to = b; name = named called; bytes = bytes; before = before })
sent_letter before q a b called bytes = if_so (q == q) _ (letter_of q before) (same_is q)

pub sent_others : (before : List Moment) (q a b : ℕ) (called : MessageName) (bytes : List ℕ) (p : ℕ) → p < q → letter_of p (sent q a b called bytes ∷ before) ≡ letter_of p before
sent_others before q a b called bytes p low = if_not (q == p) _ (letter_of p before) (other_is p q low)

pub sent_posted : (before : List Moment) (l : Links) (from to : ℕ) (m : Message) (bytes : List ℕ) → ((other : Message) → whole_of bytes ≡ Some other → other ≡ m) → Caused before from m.body → Flying before l
    → Flying (sent l.next from to (name_of m.body) bytes ∷ before) (sending l from to bytes).after
sent_posted before l from to m bytes read cause h =
    sending_posted before (sent l.next from to (name_of m.body) bytes ∷ before) l from to bytes (sent_others before l.next from to (name_of m.body) bytes)
    (λ b so. lasting_stays before (sent l.next from to (name_of m.body) bytes) b (λ e s. s) so) h (record {
      below = less_more l.next;
      letter = record { from = from; to = to; name = named (name_of m.body); bytes = bytes; before = before };
      sent_so = sent_letter before l.next from to (name_of m.body) bytes;
      sender = refl;
      receiver = refl;
      says = λ other is. (ap (λ (z : Message). named (name_of z.body)) (sym (read other is)), subst (λ (z : Message). Caused before from z.body) (sym (read other is)) cause, subst (λ (z : Message). Lasting (sent l.next from to (name_of m.body) bytes ∷ before) z.body) (sym (read other is)) (caused_lasting before (sent l.next from to (name_of m.body) bytes) from m.body (λ e s. s) cause));
    })

-- ---- a packet is copied

repeated_letter : (before : List Moment) (q copy : ℕ) → letter_of copy (repeated q copy ∷ before) ≡ letter_of q before
repeated_letter before q copy = ap (λ k. letter_of k before) (if_so (copy == copy) q copy (same_is copy))

repeated_others : (before : List Moment) (q copy p : ℕ) → p < copy → letter_of p (repeated q copy ∷ before) ≡ letter_of p before
repeated_others before q copy p low = ap (λ k. letter_of k before) (if_not (copy == p) q p (other_is p copy low))

pub found_posted : (ms : List Moment) (l : Links) (number : ℕ) (x : Packet) → Flying ms l → packet_of l.packets number ≡ Some x → Posted ms l.next x
found_posted ms l number x h is = all_found (Posted ms l.next) (λ (p : Packet). p.number == number) l.packets x h is

-- a packet that is found has the number
find_number : (number : ℕ) (xs : List Packet) (x : Packet) → packet_of xs number ≡ Some x → x.number ≡ number
find_number number [] x h = absurd (none_is x h)
  where
    none_is : (y : Packet) → None ≡ Some y → ⊥
    none_is y e = cc
find_number number (y ∷ ys) x h = by_test (y.number == number) refl h (find_number number ys x)
  where
    by_test : (b : Bool) → (y.number == number) ≡ b → (if b then Some y else packet_of ys number) ≡ Some x → (packet_of ys number ≡ Some x → x.number ≡ number) → x.number ≡ number
    by_test true is found rest = subst (λ (z : Packet). z.number ≡ number) (same_some y x found) (number_of y.number number is)
      where
        number_of : (a b : ℕ) → (a == b) ≡ true → a ≡ b
        number_of a b e = grind arith
    by_test false is found rest = rest found

pub number_found : (l : Links) (number : ℕ) (x : Packet) → packet_of l.packets number ≡ Some x → x.number ≡ number
number_found l number x h = find_number number l.packets x h

pub repeated_posted : (before : List Moment) (l : Links) (number : ℕ) (x : Packet) → packet_of l.packets number ≡ Some x → Flying before l
    → Flying (repeated number l.next ∷ before) (sending l x.from x.to x.bytes).after
repeated_posted before l number x is h =
    let found : Posted before l.next x = found_posted before l number x h is in
    sending_posted before (repeated number l.next ∷ before) l x.from x.to x.bytes (λ p low. repeated_others before number l.next p low)
    (λ b so. lasting_stays before (repeated number l.next) b (λ e s. s) so) h (record {
      below = less_more l.next;
      letter = found.letter;
      sent_so = repeated_letter before number l.next ∙ (ap (λ k. letter_of k before) (sym (number_found l number x is)) ∙ found.sent_so);
      sender = found.sender;
      receiver = found.receiver;
      says = λ m at. ((found.says m at).0, (found.says m at).1, lasting_stays before (repeated number l.next) m.body (λ e s. s) (found.says m at).2);
    })

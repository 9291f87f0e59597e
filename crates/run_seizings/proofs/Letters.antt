-- Packets in flight stay the letters of their numbers, with what they say.
use Rattle.std.specs.Prelude.{ℕ, ◌+◌, ◌≡◌, ◌<◌, ◌==◌, ◌&&◌, nat_lt, not, Bool, true, false, List, [], ◌∷◌, Option, None, Some, option_map}
use Rattle.std.specs.List.{AllByRecursion}
use Rattle.std.proofs.Common.{refl, sym, ap, subst, ◌∙◌, arith}
use Rattle.cl_base.specs.Seizings.{SeizeResult}
use Rattle.cl_base.specs.declared.header.Header.{Header}
use Rattle.cl_base.specs.declared.seizing.SeizeEnd.TheVariants as end
use Rattle.cmm_attempt.proofs.Basics.{if_either}
use Rattle.interconnect.specs.Links as links
use Rattle.interconnect.specs.Links.{Links, Packet, appending, count_on, crowding, dropping, free_cells_of, oldest_on, packet_of, refusing, removing, sending}
use Rattle.refinement.proofs.Worlds.{all_append, all_filter, all_found}
use Rattle.wire.specs.Reads.{whole_of}
use Rattle.wire.specs.declared.message.Body.{Body}
use Rattle.wire.specs.declared.message.Body.TheVariants as body
use Rattle.wire.specs.declared.message.Message.{Message}
use Rattle.world_model.specs.Sends.{name_of}
use Rattle.history.specs.Contents.{says_held, tells_held}
use Rattle.history.specs.Letters.{Letter, is_letter, letter_of, passes, reached_since, says}
use Rattle.history.specs.Moment.{Moment}
use Rattle.history.specs.Names as name
use Rattle.history.specs.Names.{Name, kind_of, named, same_name}
use Rattle.history.specs.Seizing.{is_attempt, is_number}
use Rattle.history.specs.Trace.{delivered, repeated, sent}
use Rattle.cl_base.specs.Kinds.{kind_byte}
use Rattle.history.specs.Member.{session_of}
use Rattle.history.specs.Contact.{IsNew}
use Rattle.run_history.proofs.ContactFlying.{number_found, sent_letter, sent_others}
use Rattle.run_seizings.specs.Seized.{SentSo, StandsSo}
use Rattle.run_seizings.specs.Sites.{Brought, Carried, HeardSo, Posted}
use Rattle.run_seizings.proofs.Progress.{if_not, if_so, no_truth, or_left, same_is}
use Rattle.run_seizings.proofs.Stays.{stands_stay}

posted_so : (h : Header) (before after : List Moment) (next more : ℕ) (x : Packet) → (x.number < next → x.number < more)
    → (x.number < next → letter_of x.number after ≡ letter_of x.number before)
    → ((from : ℕ) (b : Body) → StandsSo h before from b → StandsSo h after from b) → Posted h before next x → Posted h after more x
posted_so h before after next more x low same last k = record {
  below = low k.below;
  letter = k.letter;
  sent_so = same k.below ∙ k.sent_so;
  sender = k.sender;
  receiver = k.receiver;
  bytes = k.bytes;
  says = λ m is. ((k.says m is).0, (k.says m is).1, last x.from m.body (k.says m is).2);
}

all_posted : (h : Header) (before after : List Moment) (next more : ℕ) (xs : List Packet) → ((p : ℕ) → p < next → p < more)
    → ((p : ℕ) → p < next → letter_of p after ≡ letter_of p before)
    → ((from : ℕ) (b : Body) → StandsSo h before from b → StandsSo h after from b) → AllByRecursion (Posted h before next) xs → AllByRecursion (Posted h after more) xs
all_posted h before after next more [] low same last k = tt
all_posted h before after next more (x ∷ xs) low same last k =
    (posted_so h before after next more x (low x.number) (same x.number) last k.0, all_posted h before after next more xs low same last k.1)

-- a moment of no packet
pub carried_stays : (h : Header) (before : List Moment) (x : Moment) (l : Links) → IsNew before x → ((p : ℕ) → letter_of p (x ∷ before) ≡ letter_of p before)
    → Carried h before l → Carried h (x ∷ before) l
carried_stays h before x l new same k = all_posted h before (x ∷ before) l.next l.next l.packets (λ p low. low) (λ p low. same p)
    (λ from b so. stands_stay h before x from b new so) k

pub removing_carried : (h : Header) (ms : List Moment) (l : Links) (number : ℕ) → Carried h ms l → Carried h ms (removing l number)
removing_carried h ms l number k = all_filter (Posted h ms l.next) (λ (p : Packet). not (p.number == number)) l.packets k

dropping_carried : (h : Header) (ms : List Moment) (l : Links) (number : ℕ) (o : Option ℕ) → Carried h ms l → Carried h ms (dropping l number o).after
dropping_carried h ms l number None k = k
dropping_carried h ms l number (Some oldest) k = removing_carried h ms l oldest k

abbrev After : Header → List Moment → links.Outcome → Type 0
After h ms o = Carried h ms o.after

crowding_carried : (h : Header) (ms : List Moment) (l : Links) (number from to : ℕ) → Carried h ms l → After h ms (crowding l number from to)
crowding_carried h ms l number from to k =
    if_either (After h ms) (nat_lt _ (count_on l.packets from to)) (dropping l number (oldest_on l.packets from to)) _
    (dropping_carried h ms l number (oldest_on l.packets from to) k) k

one_more : (p k : ℕ) → p < k → p < k + 1
one_more p k h = omega (arith, h)

less_more : (k : ℕ) → k < k + 1
less_more k = omega arith

sending_carried : (h : Header) (before after : List Moment) (l : Links) (from to : ℕ) (bytes : List ℕ) → ((p : ℕ) → p < l.next → letter_of p after ≡ letter_of p before)
    → ((from : ℕ) (b : Body) → StandsSo h before from b → StandsSo h after from b) → Carried h before l
    → Posted h after (l.next + 1) (record { number = l.next; from = from; to = to; bytes = bytes })
    → Carried h after (sending l from to bytes).after
sending_carried h before after l from to bytes same last k new =
    let old : AllByRecursion (Posted h after (l.next + 1)) l.packets = all_posted h before after l.next (l.next + 1) l.packets
    (λ p low. one_more p l.next low) same last k in
    if_either (After h after) (nat_lt (free_cells_of l) _) (refusing l) (crowding (appending l from to bytes) l.next from to) old
    (crowding_carried h after (appending l from to bytes) l.next from to
    (all_append (Posted h after (l.next + 1)) l.packets (record { number = l.next; from = from; to = to; bytes = bytes }) old new))

-- ---- a packet is sent

pub sent_carried : (h : Header) (before : List Moment) (l : Links) (from to : ℕ) (m : Message) (bytes : List ℕ)
    → ((other : Message) → whole_of bytes ≡ Some other → other ≡ m)
    → IsNew before (sent l.next from to (name_of m.body) bytes) → SentSo before from m.body → StandsSo h before from m.body → Carried h before l
    → Carried h (sent l.next from to (name_of m.body) bytes ∷ before) (sending l from to bytes).after
sent_carried h before l from to m bytes read new was stands k =
    let x : Moment = sent l.next from to (name_of m.body) bytes in
    sending_carried h before (x ∷ before) l from to bytes (sent_others before l.next from to (name_of m.body) bytes)
    (λ f b so. stands_stay h before x f b new so) k (record {
      below = less_more l.next;
      letter = record { from = from; to = to; name = named (name_of m.body); bytes = bytes; before = before };
      sent_so = sent_letter before l.next from to (name_of m.body) bytes;
      sender = refl;
      receiver = refl;
      bytes = refl;
      says = λ other is. (
        ap (λ (z : Message). named (name_of z.body)) (sym (read other is)),
        subst (λ (z : Message). SentSo before from z.body) (sym (read other is)) was,
        subst (λ (z : Message). StandsSo h (x ∷ before) from z.body) (sym (read other is)) (stands_stay h before x from m.body new stands),
      );
    })

-- ---- a packet is copied

other_is : (p k : ℕ) → p < k → (k == p) ≡ false
other_is p k h = grind arith

repeated_letter : (before : List Moment) (q copy : ℕ) → letter_of copy (repeated q copy ∷ before) ≡ letter_of q before
repeated_letter before q copy = ap (λ k. letter_of k before) (if_so (copy == copy) q copy (same_is copy))

repeated_others : (before : List Moment) (q copy p : ℕ) → p < copy → letter_of p (repeated q copy ∷ before) ≡ letter_of p before
repeated_others before q copy p low = ap (λ k. letter_of k before) (if_not (copy == p) q p (other_is p copy low))

pub found_carried : (h : Header) (ms : List Moment) (l : Links) (number : ℕ) (x : Packet) → Carried h ms l → packet_of l.packets number ≡ Some x → Posted h ms l.next x
found_carried h ms l number x k is = all_found (Posted h ms l.next) (λ (p : Packet). p.number == number) l.packets x k is

pub repeated_carried : (h : Header) (before : List Moment) (l : Links) (number : ℕ) (x : Packet) → packet_of l.packets number ≡ Some x → Carried h before l
    → Carried h (repeated number l.next ∷ before) (sending l x.from x.to x.bytes).after
repeated_carried h before l number x is k =
    let found : Posted h before l.next x = found_carried h before l number x k is in
    let y : Moment = repeated number l.next in
    sending_carried h before (y ∷ before) l x.from x.to x.bytes (λ p low. repeated_others before number l.next p low)
    (λ f b so. stands_stay h before y f b tt so) k (record {
      below = less_more l.next;
      letter = found.letter;
      sent_so = repeated_letter before number l.next ∙ (ap (λ k. letter_of k before) (sym (number_found l number x is)) ∙ found.sent_so);
      sender = found.sender;
      receiver = found.receiver;
      bytes = found.bytes;
      says = λ m at. ((found.says m at).0, (found.says m at).1, stands_stay h before y x.from m.body tt (found.says m at).2);
    })

-- ---- a packet comes

and_both : (a b : Bool) → a ≡ true → b ≡ true → (a && b) ≡ true
and_both true b h k = k
and_both false b h k = absurd (no_truth h)

same_seized : (d : ℕ) → same_name (name.Seized d) (name.Seized d) ≡ true
same_seized d = and_both (kind_byte (kind_of (name.Seized d)) == kind_byte (kind_of (name.Seized d))) (d == d) (same_is (kind_byte (kind_of (name.Seized d)))) (same_is d)

same_so : (a b : ℕ) → a ≡ b → (a == b) ≡ true
same_so a b h = grind arith

seized_comes : (h : Header) (ms : List Moment) (l : Links) (number e d : ℕ) (x : Packet) (m : Message) (r : SeizeResult) → m.body ≡ body.Seized e d r
    → packet_of l.packets number ≡ Some x
    → whole_of x.bytes ≡ Some m → Posted h ms l.next x → HeardSo (delivered number x.from x.to ∷ ms) x.to (body.Seized e d r)
seized_comes h ms l number e d x m (end.Held keys) at is whole k =
    or_left (passes (tells_held e x.to d) (letter_of number ms)) (reached_since (is_attempt e) (tells_held e x.to d) ms)
    (ap (λ (o : Option Letter). passes (tells_held e x.to d) o) (ap (λ i. letter_of i ms) (sym (number_found l number x is)) ∙ k.sent_so)
    ∙ and_both (is_letter (name.Seized d) k.letter.from x.to k.letter && number_so) says_so
    (and_both (is_letter (name.Seized d) k.letter.from x.to k.letter) number_so
    (and_both (same_name k.letter.name (name.Seized d) && (k.letter.from == k.letter.from)) (k.letter.to == x.to)
    (and_both (same_name k.letter.name (name.Seized d)) (k.letter.from == k.letter.from)
    (ap (λ z. same_name z (name.Seized d)) ((k.says m whole).0 ∙ ap (λ b. named (name_of b)) at) ∙ same_seized d) (same_is k.letter.from))
    (same_so k.letter.to x.to k.receiver))
    (ap (λ o. is_number e o) (ap (λ f. session_of f k.letter.before) k.sender ∙ subst (λ b. SentSo k.letter.before x.from b) at (k.says m whole).1) ∙ same_is e))
    (ap (λ z. says_held (says z)) k.bytes ∙ (ap (λ o. says_held (option_map (λ (z : Message). z.body) o)) whole ∙ ap says_held (ap Some at))))
  where
    number_so : Bool
    number_so = is_number e (session_of k.letter.from k.letter.before)

    says_so : Bool
    says_so = says_held (says k.letter.bytes)
seized_comes h ms l number e d x m (end.NotRegistered keys) at is whole k = tt
seized_comes h ms l number e d x m (end.Greater w) at is whole k = tt
seized_comes h ms l number e d x m end.Expelled at is whole k = tt
seized_comes h ms l number e d x m (end.Contended key) at is whole k = tt
seized_comes h ms l number e d x m end.Fault at is whole k = tt

heard_comes : (h : Header) (ms : List Moment) (l : Links) (number : ℕ) (x : Packet) (m : Message) (b : Body) → m.body ≡ b → packet_of l.packets number ≡ Some x
    → whole_of x.bytes ≡ Some m → Posted h ms l.next x → HeardSo (delivered number x.from x.to ∷ ms) x.to b
heard_comes h ms l number x m (body.Seized e d r) at is whole k = seized_comes h ms l number e d x m r at is whole k
heard_comes h ms l number x m (body.Collect p members) at is whole k = tt
heard_comes h ms l number x m (body.SeizeQuorum e members d) at is whole k = tt
heard_comes h ms l number x m (body.SeizeData e members d) at is whole k = tt
heard_comes h ms l number x m (body.Install i) at is whole k = tt
heard_comes h ms l number x m (body.Heartbeat promised session is_one) at is whole k = tt
heard_comes h ms l number x m (body.Promise p newest members valid flagged committed pending) at is whole k = tt
heard_comes h ms l number x m (body.Nack p promised) at is whole k = tt
heard_comes h ms l number x m (body.Ready p joined report) at is whole k = tt
heard_comes h ms l number x m (body.Start p) at is whole k = tt
heard_comes h ms l number x m (body.Prepare p place text) at is whole k = tt
heard_comes h ms l number x m (body.Prepared p place) at is whole k = tt
heard_comes h ms l number x m (body.Commit p place) at is whole k = tt
heard_comes h ms l number x m (body.Order o) at is whole k = tt
heard_comes h ms l number x m (body.Done p number' outcome) at is whole k = tt
heard_comes h ms l number x m (body.Request p number' text) at is whole k = tt
heard_comes h ms l number x m (body.Answer p number' text) at is whole k = tt
heard_comes h ms l number x m (body.Excluded p newest) at is whole k = tt

pub arrived_hand : (h : Header) (ms : List Moment) (l : Links) (number : ℕ) (x : Packet) (m : Message) → packet_of l.packets number ≡ Some x
    → whole_of x.bytes ≡ Some m → Carried h ms l
    → Brought h (delivered number x.from x.to ∷ ms) x.to x.from m.body
arrived_hand h ms l number x m is whole all =
    let k : Posted h ms l.next x = found_carried h ms l number x all is in
    record {
      letter = k.letter;
      here = ap (λ i. letter_of i ms) (sym (number_found l number x is)) ∙ k.sent_so;
      sender = k.sender;
      receiver = k.receiver;
      called = (k.says m whole).0;
      sent_so = (k.says m whole).1;
      stands = stands_stay h ms (delivered number x.from x.to) x.from m.body tt (k.says m whole).2;
      heard = heard_comes h ms l number x m m.body refl is whole k;
    }

-- Packets in flight are the letters of their numbers, byte by byte, and each Answer is of a membership that its sender coordinates.
use Rattle.std.specs.Prelude.{ℕ, ◌+◌, ◌≡◌, ◌<◌, ◌≤◌, ◌==◌, nat_le, nat_lt, not, Bool, true, false, List, [], ◌∷◌, length, Option, None, Some, if◌then◌else◌, option_map}
use Rattle.std.specs.List.{AllByRecursion}
use Rattle.std.proofs.Common.{refl, sym, ap, subst, ◌∙◌, arith}
use Rattle.attempt_laws.proofs.Walk.{if_with}
use Rattle.cl_base.specs.declared.packet.DropCause.{DropCause}
use Rattle.cmm_attempt.proofs.Basics.{and_cases, if_either, same_some}
use Rattle.interconnect.specs.Links as links
use Rattle.interconnect.specs.Links.{Links, Packet, appending, count_on, crowding, dropping, free_cells_of, oldest_on, packet_of, refusing, removing, sending}
use Rattle.refinement.proofs.node_widths.Lengths.{sent_messages_fit}
use Rattle.refinement.proofs.Worlds.{all_append, all_filter, all_found}
use Rattle.refinement.specs.Widths.{LetterFits}
use Rattle.status_report.specs.declared.entry.Entry.{Entry}
use Rattle.status_report.specs.declared.entry.Entry.TheVariants as entry
use Rattle.status_report.specs.declared.packet_entry.PacketEntry.TheVariants as packet
use Rattle.wire.proofs.Messages.{whole_again}
use Rattle.wire.specs.Reads.{whole_of}
use Rattle.wire.specs.Spelling.{Fits, spelling}
use Rattle.wire.specs.declared.message.Body.{Body}
use Rattle.wire.specs.declared.message.Message.{Message}
use Rattle.history.specs.Letters.{Letter, letter_of, says}
use Rattle.history.specs.Moment.{Moment, Told}
use Rattle.history.specs.Names.{named}
use Rattle.history.specs.Trace.{delivered, repeated, sent}
use Rattle.node_model.specs.declared.output.Output.{Output}
use Rattle.node_model.specs.declared.output.Output.TheVariants.{Sends, Tells}
use Rattle.world_model.specs.Sends.{is_sent, name_of}
use Rattle.run_history.proofs.ContactFlying.{number_found, sent_letter, sent_others}
use Rattle.run_history.specs.Scenes.{Scene, dropped_so, passing, posting, sent_as, telling, with_links}
use Rattle.run_messages.specs.Outputs.{AreGood, NoPacket}
use Rattle.run_commands.proofs.carried.Causes.{AnswerOwn, ArrivedSo}

-- the packet is the letter of its number; what it says, as it can be read, has the letter's name
pub record Posted (ms : List Moment) (next : ℕ) (x : Packet) : Type 0 where
  pub below : x.number < next
  pub letter : Letter
  pub sent_so : letter_of x.number ms ≡ Some letter
  pub receiver : letter.to ≡ x.to
  pub bytes : letter.bytes ≡ x.bytes
  pub reads : (m : Message) → whole_of x.bytes ≡ Some m → (letter.name ≡ named (name_of m.body)) × AnswerOwn letter.from m.body

abbrev pub Flying : List Moment → Links → Type 0
Flying ms l = AllByRecursion (Posted ms l.next) l.packets

posted_so : (before after : List Moment) (next more : ℕ) (x : Packet) → (x.number < next → x.number < more) → (x.number < next → letter_of x.number after ≡ letter_of x.number before)
    → Posted before next x → Posted after more x
posted_so before after next more x low same h =
    record { below = low h.below; letter = h.letter; sent_so = same h.below ∙ h.sent_so; receiver = h.receiver; bytes = h.bytes; reads = h.reads }

all_posted : (before after : List Moment) (next more : ℕ) (xs : List Packet) → ((p : ℕ) → p < next → p < more) → ((p : ℕ) → p < next → letter_of p after ≡ letter_of p before)
    → AllByRecursion (Posted before next) xs → AllByRecursion (Posted after more) xs
all_posted before after next more [] low same h = tt
all_posted before after next more (x ∷ xs) low same h = (posted_so before after next more x (low x.number) (same x.number) h.0, all_posted before after next more xs low same h.1)

-- a moment of no packet
pub flying_stays : (before : List Moment) (x : Moment) (l : Links) → ((p : ℕ) → letter_of p (x ∷ before) ≡ letter_of p before) → Flying before l → Flying (x ∷ before) l
flying_stays before x l same h = all_posted before (x ∷ before) l.next l.next l.packets (λ p low. low) (λ p low. same p) h

pub removing_posted : (ms : List Moment) (l : Links) (number : ℕ) → Flying ms l → Flying ms (removing l number)
removing_posted ms l number h = all_filter (Posted ms l.next) (λ (p : Packet). not (p.number == number)) l.packets h

dropping_posted : (ms : List Moment) (l : Links) (number : ℕ) (o : Option ℕ) → Flying ms l → Flying ms (dropping l number o).after
dropping_posted ms l number None h = h
dropping_posted ms l number (Some oldest) h = removing_posted ms l oldest h

abbrev AfterPosted : List Moment → links.Outcome → Type 0
AfterPosted ms o = Flying ms o.after

crowding_posted : (ms : List Moment) (l : Links) (number from to : ℕ) → Flying ms l → AfterPosted ms (crowding l number from to)
crowding_posted ms l number from to h =
    if_either (AfterPosted ms) (nat_lt _ (count_on l.packets from to)) (dropping l number (oldest_on l.packets from to)) _ (dropping_posted ms l number (oldest_on l.packets from to) h) h

one_more : (p k : ℕ) → p < k → p < k + 1
one_more p k h = omega (arith, h)

less_more : (k : ℕ) → k < k + 1
less_more k = omega arith

sending_posted : (before after : List Moment) (l : Links) (from to : ℕ) (bytes : List ℕ) → ((p : ℕ) → p < l.next → letter_of p after ≡ letter_of p before) → Flying before l
    → Posted after (l.next + 1) (record { number = l.next; from = from; to = to; bytes = bytes }) → Flying after (sending l from to bytes).after
sending_posted before after l from to bytes same h new =
    let old : AllByRecursion (Posted after (l.next + 1)) l.packets = all_posted before after l.next (l.next + 1) l.packets (λ p low. one_more p l.next low) same h in
    if_either (AfterPosted after) (nat_lt (free_cells_of l) _) (refusing l) (crowding (appending l from to bytes) l.next from to) old
    (crowding_posted after (appending l from to bytes) l.next from to (all_append (Posted after (l.next + 1)) l.packets (record { number = l.next; from = from; to = to; bytes = bytes }) old new))

-- ---- a packet is sent

sent_posted : (before : List Moment) (l : Links) (from to : ℕ) (m : Message) → Fits m → AnswerOwn from m.body → Flying before l
    → Flying (sent l.next from to (name_of m.body) (spelling m) ∷ before) (sending l from to (spelling m)).after
sent_posted before l from to m fits own h =
    sending_posted before (sent l.next from to (name_of m.body) (spelling m) ∷ before) l from to (spelling m) (sent_others before l.next from to (name_of m.body) (spelling m)) h (record {
      below = less_more l.next;
      letter = record { from = from; to = to; name = named (name_of m.body); bytes = spelling m; before = before };
      sent_so = sent_letter before l.next from to (name_of m.body) (spelling m);
      receiver = refl;
      bytes = refl;
      reads = λ other is.
          let same : m ≡ other = same_some m other (sym (whole_again m fits) ∙ is) in
          (ap (λ (z : Message). named (name_of z.body)) same, subst (λ (z : Message). AnswerOwn from z.body) same own);
    })

size : (k : ℕ) → nat_le k 131072 ≡ true → k ≤ 131072
size k e = grind arith

abbrev FlyingIn : Scene → Type 0
FlyingIn s = Flying s.moments s.links

pub dropped_flying : (o : Option (ℕ × DropCause)) (s : Scene) → FlyingIn s → FlyingIn (dropped_so o s)
dropped_flying None s h = h
dropped_flying (Some drop) s h = flying_stays s.moments (Told (entry.Packet (packet.Dropped drop.0 drop.1))) s.links (λ p. refl) h

posting_flying : (n to : ℕ) (b : Body) (s : Scene) → LetterFits (record { from = n; body = b }) → AnswerOwn n b → FlyingIn s → FlyingIn (posting n to (record { sender = n; body = b }) s)
posting_flying n to b s fits own h =
    let m : Message = record { sender = n; body = b } in
    let o : links.Outcome = sending s.links n to (spelling m) in
    if_with FlyingIn (is_sent s.links m) (is_sent s.links m) (sent_as n to m o s) s refl
    (λ e. dropped_flying o.sent.dropped (telling (entry.Packet (packet.Sent s.links.next n to (name_of m.body) (spelling m))) (with_links s o.after))
    (sent_posted s.moments s.links n to m (sent_messages_fit m fits.0 fits.1 (size (length (spelling m)) (and_cases _ _ e).0)) own h))
    (λ e. h)

told_flying : (e : Entry) (s : Scene) → NoPacket e → FlyingIn s → FlyingIn (telling e s)
told_flying (entry.Packet e) s q h = absurd q
told_flying (entry.Answered e) s q h = flying_stays s.moments (Told (entry.Answered e)) s.links (λ p. refl) h
told_flying entry.Powered s q h = flying_stays s.moments (Told entry.Powered) s.links (λ p. refl) h
told_flying (entry.Node m e) s q h = flying_stays s.moments (Told (entry.Node m e)) s.links (λ p. refl) h
told_flying (entry.Device e) s q h = flying_stays s.moments (Told (entry.Device e)) s.links (λ p. refl) h
told_flying (entry.Attempt e) s q h = flying_stays s.moments (Told (entry.Attempt e)) s.links (λ p. refl) h
told_flying (entry.Start e) s q h = flying_stays s.moments (Told (entry.Start e)) s.links (λ p. refl) h
told_flying (entry.Update e) s q h = flying_stays s.moments (Told (entry.Update e)) s.links (λ p. refl) h
told_flying (entry.Schedule e) s q h = flying_stays s.moments (Told (entry.Schedule e)) s.links (λ p. refl) h
told_flying (entry.Command e) s q h = flying_stays s.moments (Told (entry.Command e)) s.links (λ p. refl) h
told_flying (entry.Call e) s q h = flying_stays s.moments (Told (entry.Call e)) s.links (λ p. refl) h
told_flying (entry.Status e) s q h = flying_stays s.moments (Told (entry.Status e)) s.links (λ p. refl) h
told_flying (entry.Address e) s q h = flying_stays s.moments (Told (entry.Address e)) s.links (λ p. refl) h

-- each Answer among these is of a membership that the node coordinates
abbrev pub OwnOutput : ℕ → Output → Type 0
OwnOutput n (Tells e) = Unit {0}
OwnOutput n (Sends to b) = AnswerOwn n b

pub passing_flying : (n : ℕ) (os : List Output) (s : Scene) → AreGood n os → AllByRecursion (OwnOutput n) os → FlyingIn s → FlyingIn (passing n os s)
passing_flying n [] s good own h = h
passing_flying n (Tells e ∷ os) s good own h = passing_flying n os (telling e s) good.1 own.1 (told_flying e s good.0 h)
passing_flying n (Sends to b ∷ os) s good own h = passing_flying n os (posting n to (record { sender = n; body = b }) s) good.1 own.1 (posting_flying n to b s good.0 own.0 h)

-- ---- a packet is copied, and comes

same_is : (k : ℕ) → (k == k) ≡ true
same_is k = grind arith

other_is : (p k : ℕ) → p < k → (k == p) ≡ false
other_is p k h = grind arith

if_so : {X : Type 0} (b : Bool) (x y : X) → b ≡ true → (if b then x else y) ≡ x
if_so true x y h = refl
if_so false x y h = cc

if_not : {X : Type 0} (b : Bool) (x y : X) → b ≡ false → (if b then x else y) ≡ y
if_not true x y h = cc
if_not false x y h = refl

pub found_posted : (ms : List Moment) (l : Links) (number : ℕ) (x : Packet) → Flying ms l → packet_of l.packets number ≡ Some x → Posted ms l.next x
found_posted ms l number x h is = all_found (Posted ms l.next) (λ (p : Packet). p.number == number) l.packets x h is

pub repeated_posted : (before : List Moment) (l : Links) (number : ℕ) (x : Packet) → packet_of l.packets number ≡ Some x → Flying before l
    → Flying (repeated number l.next ∷ before) (sending l x.from x.to x.bytes).after
repeated_posted before l number x is h =
    let found : Posted before l.next x = found_posted before l number x h is in
    sending_posted before (repeated number l.next ∷ before) l x.from x.to x.bytes (λ p low. ap (λ k. letter_of k before) (if_not (l.next == p) number p (other_is p l.next low))) h (record {
      below = less_more l.next;
      letter = found.letter;
      sent_so = ap (λ k. letter_of k before) (if_so (l.next == l.next) number l.next (same_is l.next)) ∙ (ap (λ k. letter_of k before) (sym (number_found l number x is)) ∙ found.sent_so);
      receiver = found.receiver;
      bytes = found.bytes;
      reads = found.reads;
    })

-- the message of a packet that comes
pub arrived_so : (ms : List Moment) (l : Links) (number : ℕ) (x : Packet) (m : Message) → packet_of l.packets number ≡ Some x → whole_of x.bytes ≡ Some m → Flying ms l
    → ArrivedSo (delivered number x.from x.to ∷ ms) x.to x.from m
arrived_so ms l number x m is whole h =
    let found : Posted ms l.next x = found_posted ms l number x h is in
    record {
      letter = found.letter;
      here = ap (λ k. letter_of k ms) (sym (number_found l number x is)) ∙ found.sent_so;
      to = found.receiver;
      called = (found.reads m whole).0;
      says_so = ap (λ bytes. says bytes) found.bytes ∙ ap (λ (o : Option Message). option_map (λ (z : Message). z.body) o) whole;
      own = (found.reads m whole).1;
    }

-- Packets in flight keep the bytes of their letters.
use Rattle.std.specs.Prelude.{ℕ, ◌+◌, ◌≡◌, ◌<◌, ◌==◌, nat_lt, not, Bool, true, false, if◌then◌else◌, List, [], ◌∷◌, Option, None, Some, option_map}
use Rattle.std.specs.List.{AllByRecursion}
use Rattle.std.proofs.Common.{refl, sym, ap, ◌∙◌, arith}
use Rattle.cl_base.specs.declared.packet.MessageName.{MessageName}
use Rattle.cmm_attempt.proofs.Basics.{if_either}
use Rattle.interconnect.specs.Links as links
use Rattle.interconnect.specs.Links.{Links, Packet, appending, count_on, crowding, dropping, free_cells_of, oldest_on, packet_of, refusing, removing, sending}
use Rattle.refinement.proofs.Worlds.{all_append, all_filter, all_found}
use Rattle.history.specs.Letters.{Letter, letter_of}
use Rattle.history.specs.Moment.{Moment}
use Rattle.history.specs.Trace.{repeated, sent}
use Rattle.run_history.proofs.ContactFlying.{number_found, sent_letter, sent_others}
use Rattle.run_messages.specs.records.Kept.{AreBytes, BytesOf}

abbrev bytes_in : List Moment → ℕ → Option (List ℕ)
bytes_in ms p = option_map (λ (l : Letter). l.bytes) (letter_of p ms)

pub removing_bytes : (ms : List Moment) (l : Links) (number : ℕ) → AreBytes ms l → AreBytes ms (removing l number)
removing_bytes ms l number h = all_filter (BytesOf ms l.next) (λ (p : Packet). not (p.number == number)) l.packets h

dropping_bytes : (ms : List Moment) (l : Links) (number : ℕ) (o : Option ℕ) → AreBytes ms l → AreBytes ms (dropping l number o).after
dropping_bytes ms l number None h = h
dropping_bytes ms l number (Some oldest) h = removing_bytes ms l oldest h

abbrev After : List Moment → links.Outcome → Type 0
After ms o = AreBytes ms o.after

crowding_bytes : (ms : List Moment) (l : Links) (number from to : ℕ) → AreBytes ms l → After ms (crowding l number from to)
crowding_bytes ms l number from to h =
    if_either (After ms) (nat_lt _ (count_on l.packets from to)) (dropping l number (oldest_on l.packets from to)) _ (dropping_bytes ms l number (oldest_on l.packets from to) h) h

one_more : (p k : ℕ) → p < k → p < k + 1
one_more p k h = grind arith

less_more : (k : ℕ) → k < k + 1
less_more k = grind arith

later_bytes : (before after : List Moment) (next : ℕ) (ps : List Packet) → ((p : ℕ) → p < next → letter_of p after ≡ letter_of p before) → AllByRecursion (BytesOf before next) ps → AllByRecursion (BytesOf after (next + 1)) ps
later_bytes before after next [] same h = tt
later_bytes before after next (p ∷ ps) same h =
    ((ap (λ o. option_map (λ (l : Letter). l.bytes) o) (same p.number h.0.1) ∙ h.0.0, one_more p.number next h.0.1), later_bytes before after next ps same h.1)

sending_bytes : (before after : List Moment) (l : Links) (from to : ℕ) (bytes : List ℕ) → ((p : ℕ) → p < l.next → letter_of p after ≡ letter_of p before) → bytes_in after l.next ≡ Some bytes → AreBytes before l
    → AreBytes after (sending l from to bytes).after
sending_bytes before after l from to bytes same new h =
    let old : AllByRecursion (BytesOf after (l.next + 1)) l.packets = later_bytes before after l.next l.packets same h in
    if_either (After after) (nat_lt (free_cells_of l) _) (refusing l) (crowding (appending l from to bytes) l.next from to) old
    (crowding_bytes after (appending l from to bytes) l.next from to
    (all_append (BytesOf after (l.next + 1)) l.packets (record { number = l.next; from = from; to = to; bytes = bytes }) old (new, less_more l.next)))

pub sent_bytes : (before : List Moment) (l : Links) (from to : ℕ) (called : MessageName) (bytes : List ℕ) → AreBytes before l → AreBytes (sent l.next from to called bytes ∷ before) (sending l from to bytes).after
sent_bytes before l from to called bytes h =
    sending_bytes before (sent l.next from to called bytes ∷ before) l from to bytes (sent_others before l.next from to called bytes)
    (ap (λ o. option_map (λ (l : Letter). l.bytes) o) (sent_letter before l.next from to called bytes)) h

if_so : {X : Type 0} (b : Bool) (x y : X) → b ≡ true → (if b then x else y) ≡ x
if_so true x y h = refl
if_so false x y h = absurd (no_truth h)
  where
    no_truth : false ≡ true → ⊥
    no_truth e = cc

if_not : {X : Type 0} (b : Bool) (x y : X) → b ≡ false → (if b then x else y) ≡ y
if_not true x y h = absurd (no_truth h)
  where
    no_truth : true ≡ false → ⊥
    no_truth e = cc
if_not false x y h = refl

same_is : (k : ℕ) → (k == k) ≡ true
same_is k = grind arith

other_is : (p k : ℕ) → p < k → (k == p) ≡ false
other_is p k h = grind arith

pub found_bytes : (ms : List Moment) (l : Links) (number : ℕ) (x : Packet) → AreBytes ms l → packet_of l.packets number ≡ Some x → bytes_in ms number ≡ Some x.bytes
found_bytes ms l number x h is =
    ap (λ k. bytes_in ms k) (sym (number_found l number x is)) ∙ (all_found (BytesOf ms l.next) (λ (p : Packet). p.number == number) l.packets x h is).0

pub repeated_bytes : (before : List Moment) (l : Links) (number : ℕ) (x : Packet) → packet_of l.packets number ≡ Some x → AreBytes before l → AreBytes (repeated number l.next ∷ before) (sending l x.from x.to x.bytes).after
repeated_bytes before l number x is h =
    sending_bytes before (repeated number l.next ∷ before) l x.from x.to x.bytes
    (λ p low. ap (λ k. letter_of k before) (if_not (l.next == p) number p (other_is p l.next low)))
    (ap (λ o. option_map (λ (l : Letter). l.bytes) o) (ap (λ k. letter_of k before) (if_so (l.next == l.next) number l.next (same_is l.next))) ∙ found_bytes before l number x h is) h

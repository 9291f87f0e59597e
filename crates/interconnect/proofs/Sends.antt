use Rattle.std.proofs.Common.{◌≡◌, ℕ, ◌+◌, ◌≤◌, ◌++◌, true, false, Bool, if◌then◌else◌, nat_lt, List, Option, Some, None, Result, Ok, Err, length, take, drop, refl, ap, ◌∙◌, subst, arith}
use Rattle.std.specs.Option.{MatchOption}
use Rattle.std.specs.Result.{IsOkAnd}
use Rattle.std.proofs.lemmas.List.{take_at}
use Rattle.cell_pool.specs.Cells.{cells_for}
use Rattle.interconnect.specs.declared.packet.Sent.{Sent}
use Rattle.interconnect.specs.declared.packet.Delivery.{Delivery}
use Rattle.interconnect.specs.declared.packet.NoSuchPacket.{NoSuchPacket}
use Rattle.interconnect.specs.Links.{Packet, Links, packet_of, free_cells_of, count_on, oldest_on, refusing, dropping, crowding, appending, sending, resending, delivery_of, copied}

dropping_next : (net : Links) (number : ℕ) (oldest : Option ℕ) → (dropping net number oldest).after.next ≡ net.next
dropping_next net number None = refl
dropping_next net number (Some oldest) = refl

crowding_next : (net : Links) (number from to : ℕ) → (crowding net number from to).after.next ≡ net.next
crowding_next net number from to =
    elim (nat_lt 64 (count_on net.packets from to)) as (λ (b : Bool). (if b then dropping net number (oldest_on net.packets from to)
    else record { after = net; sent = record { number = Some number; dropped = None } }).after.next ≡ net.next) [
      | true ↦ dropping_next net number (oldest_on net.packets from to)
      | false ↦ refl
    ]

-- each send uses one number
pub sending_next : (net : Links) (from to : ℕ) (bytes : List ℕ) → (sending net from to bytes).after.next ≡ net.next + 1
sending_next net from to bytes =
    elim (nat_lt (free_cells_of net) (cells_for (length bytes))) as (λ (b : Bool). (if b then refusing net
    else crowding (appending net from to bytes) net.next from to).after.next ≡ net.next + 1) [
      | true ↦ refl
      | false ↦ crowding_next (appending net from to bytes) net.next from to
    ]

pub resending_next : (net : Links) (o : Option Packet) → (resending net o).next ≤ net.next + 1
resending_next net None = omega arith
resending_next net (Some p) = omega (arith, sending_next net p.from p.to p.bytes)

no : false ≡ true → ⊥
no h = cc

-- what a copy that was found says of the packet
pub record Copied (o : Option Packet) (found : Delivery) (piece : List ℕ) : Type 0 where
  pub packet : Packet
  pub is : o ≡ Some packet
  pub from_is : found.from ≡ packet.from
  pub to_is : found.to ≡ packet.to
  pub piece_is : piece ≡ packet.bytes

pub copied_found : (o : Option Packet) (found : Delivery) (piece out new : List ℕ)
    → MatchOption o (false ≡ true) (λ p. IsOkAnd (let r : Result Delivery NoSuchPacket = Ok found in r) (λ d. d ≡ delivery_of p))
    → new ≡ copied o out → piece ≡ take found.length new → Copied o found piece
copied_found None found piece out new a b c = absurd (no a)
copied_found (Some p) found piece out new a b c = let e : found ≡ delivery_of p = a in record {
  packet = p;
  is = refl;
  from_is = ap (λ (d : Delivery). d.from) e;
  to_is = ap (λ (d : Delivery). d.to) e;
  piece_is = c ∙ rw (b, e) (take_at p.bytes (drop (length p.bytes) out) (length p.bytes) refl);
}

pub repeat_answer : (old : Links) (o : Option Packet) (found : Delivery) (piece : List ℕ) (sent : Sent) → Copied o found piece
    → sent ≡ (sending old found.from found.to piece).sent
    → MatchOption o (false ≡ true) (λ p. IsOkAnd (let r : Result Sent NoSuchPacket = Ok sent in r) (λ s. s ≡ (sending old p.from p.to p.bytes).sent))
repeat_answer old o found piece sent k h =
    rw k.is (h ∙ rw (k.from_is, k.to_is, k.piece_is) refl)

pub repeat_after : (old after : Links) (o : Option Packet) (found : Delivery) (piece : List ℕ) → Copied o found piece
    → after ≡ (sending old found.from found.to piece).after → after ≡ resending old o
repeat_after old after o found piece k h =
    rw k.is (h ∙ rw (k.from_is, k.to_is, k.piece_is) refl)

-- where no packet was found there is none
pub missed : (o : Option Packet) (e : NoSuchPacket)
    → MatchOption o (true ≡ true) (λ p. IsOkAnd (let r : Result Delivery NoSuchPacket = Err e in r) (λ d. d ≡ delivery_of p)) → o ≡ None
missed None e h = refl
missed (Some p) e h = absurd h

pub repeat_answer_at : (old now : Links) (n : ℕ) (found : Delivery) (piece : List ℕ) (sent : Sent) → old ≡ now → Copied (packet_of old.packets n) found piece
    → sent ≡ (sending old found.from found.to piece).sent
    → MatchOption (packet_of now.packets n) (false ≡ true) (λ p. IsOkAnd (let r : Result Sent NoSuchPacket = Ok sent in r) (λ s. s ≡ (sending now p.from p.to p.bytes).sent))
repeat_answer_at old now n found piece sent e k h =
    subst (λ (l : Links). MatchOption (packet_of l.packets n) (false ≡ true) (λ p. IsOkAnd (let r : Result Sent NoSuchPacket = Ok sent in r) (λ s. s ≡ (sending l p.from p.to p.bytes).sent)))
    e (repeat_answer old (packet_of old.packets n) found piece sent k h)

pub repeat_after_at : (old now after : Links) (n : ℕ) (found : Delivery) (piece : List ℕ) → old ≡ now → Copied (packet_of old.packets n) found piece
    → after ≡ (sending old found.from found.to piece).after → after ≡ resending now (packet_of now.packets n)
repeat_after_at old now after n found piece e k h =
    subst (λ (l : Links). after ≡ resending l (packet_of l.packets n)) e (repeat_after old after (packet_of old.packets n) found piece k h)

-- a vector that was written as a slice is what was written
pub written : (n : ℕ) (old new : List ℕ) → n ≡ length old → length new ≡ length old → take n (new ++ drop (length new) old) ≡ new
written n old new e l = take_at new (drop (length new) old) n (omega arith)

use Rattle.std.proofs.Common.{◌≡◌, ℕ, ◌+◌, ◌<◌, ◌≤◌, ◌++◌, ◌==◌, not, List, [], ◌∷◌, Option, Some, None, Result, Ok, length, filter, get_or, set, remove, refl, sym, ap, ◌∙◌, subst, arith, length-set}
use Rattle.std.specs.Option.{MatchOption, option_map}
use Rattle.std.specs.Result.{IsOkAnd}
use Rattle.cell_pool.specs.Cells.{cells_for, free_cells}
use Rattle.interconnect.specs.Stored.{Stored}
use Rattle.interconnect.specs.declared.packet.Delivery.{Delivery}
use Rattle.interconnect.specs.declared.packet.NoSuchPacket.{NoSuchPacket}
use Rattle.interconnect.specs.Links.{Packet, Links, packet_of, removing, appending, delivery_of}
use Rattle.interconnect.specs.Flights.{shown, all_shown, IsSound}
use Rattle.interconnect.proofs.Shown.{named, others, HasPlace, others_remove, own_at, shown_frame, packets_fit}
use Rattle.interconnect.proofs.Steps.{appended_view, sound_removed}
use Rattle.interconnect.proofs.Indexes.{packet_shown, others_shown}

pub room_left : (pool : List (Option (List ℕ))) (held : List Stored) (room next n : ℕ) → IsSound pool held room next → cells_for n ≤ free_cells pool
    → length held < room
room_left pool held room next n s free =
    let u = s.used in let m = s.enough in let f = packets_fit pool held in omega arith

-- what was looked for, as the links show it
pub view_of : (pool : List (Option (List ℕ))) (held : List Stored) (n : ℕ) (found : Option Stored) (old : Links) → all_shown pool held ≡ old.packets
    → found ≡ named n held → packet_of old.packets n ≡ option_map (shown pool) found
view_of pool held n found old v e =
    ap (λ (ps : List Packet). packet_of ps n) (sym v) ∙ packet_shown pool held n ∙ ap (λ (o : Option Stored). option_map (shown pool) o) (sym e)

pub appended_links : (pool new : List (Option (List ℕ))) (held items : List Stored) (h : Stored) (room next : ℕ) (bytes : List ℕ) (old : Links)
    → IsSound pool held room next → h.number ≡ next → h.chain < length pool → get_or pool h.chain None ≡ None → new ≡ set pool h.chain (Some bytes)
    → items ≡ held ++ h ∷ []
    → (let l : Links = record { packets = all_shown pool held; next = next; cells = length pool } in l ≡ old)
    → (let l : Links = record { packets = all_shown new items; next = next + 1; cells = length new } in l ≡ appending old h.from h.to bytes)
appended_links pool new held items h room next bytes old s n low none is e v =
    let size : length new ≡ length pool = ap (λ (p : List (Option (List ℕ))). length p) is ∙ length-set pool h.chain (Some bytes) in
    let shows : all_shown new items ≡ all_shown pool held ++ (record { number = next; from = h.from; to = h.to; bytes = bytes }) ∷ [] =
    ap (λ (l : List Stored). all_shown new l) e ∙ appended_view pool new held h room next bytes s low none is
    ∙ ap (λ (m : ℕ). all_shown pool held ++ (record { number = m; from = h.from; to = h.to; bytes = bytes }) ∷ []) n in
    subst (λ (o : Links). (let l : Links = record { packets = all_shown new items; next = next + 1; cells = length new } in l ≡ appending o h.from h.to bytes)) v
    (rw (shows, size) refl)

-- the packets once the chain of one went back
pub sound_without : (pool new : List (Option (List ℕ))) (held : List Stored) (n : ℕ) (h : Stored) (room next : ℕ)
    → IsSound pool held room next → HasPlace held n h → new ≡ set pool h.chain None → IsSound new (others n held) room next
sound_without pool new held n h room next s p is =
    subst (λ (m : ℕ). IsSound new (others m held) room next) p.at
    (subst (λ (l : List Stored). IsSound new l room next) (sym (others_remove 1 next held p.place h s.rising p.low p.is))
    (sound_removed pool new held p.place h room room next s p.low p.is is refl))

shown_without : (pool new : List (Option (List ℕ))) (held : List Stored) (n : ℕ) (h : Stored) (room next : ℕ)
    → IsSound pool held room next → HasPlace held n h → new ≡ set pool h.chain None → all_shown new (others n held) ≡ all_shown pool (others n held)
shown_without pool new held n h room next s p is =
    let own = own_at pool held p.place h s.apart p.low p.is in
    let same : remove held p.place ≡ others n held =
    sym (others_remove 1 next held p.place h s.rising p.low p.is) ∙ ap (λ (m : ℕ). others m held) p.at in
    subst (λ (l : List Stored). all_shown new l ≡ all_shown pool l) same (rw is (shown_frame pool h.chain None (remove held p.place) own.alone))

pub removed_links : (pool new : List (Option (List ℕ))) (held : List Stored) (n : ℕ) (h : Stored) (room next : ℕ) (old : Links)
    → IsSound pool held room next → HasPlace held n h → new ≡ set pool h.chain None
    → (let l : Links = record { packets = all_shown pool held; next = next; cells = length pool } in l ≡ old)
    → (let l : Links = record { packets = all_shown new (others n held); next = next; cells = length new } in l ≡ removing old n)
removed_links pool new held n h room next old s p is v =
    let size : length new ≡ length pool = ap (λ (q : List (Option (List ℕ))). length q) is ∙ length-set pool h.chain None in
    let shows : all_shown new (others n held) ≡ filter (λ p. not (p.number == n)) (all_shown pool held) =
    shown_without pool new held n h room next s p is ∙ sym (others_shown pool held n) in
    subst (λ (o : Links). (let l : Links = record { packets = all_shown new (others n held); next = next; cells = length new } in l ≡ removing o n)) v
    (rw (shows, size) refl)

-- the packets where there is none of the number
pub kept_links : (pool : List (Option (List ℕ))) (held : List Stored) (n next : ℕ) (old : Links) → others n held ≡ held
    → (let l : Links = record { packets = all_shown pool held; next = next; cells = length pool } in l ≡ old)
    → (let l : Links = record { packets = all_shown pool held; next = next; cells = length pool } in l ≡ removing old n)
kept_links pool held n next old e v =
    let shows : all_shown pool held ≡ filter (λ p. not (p.number == n)) (all_shown pool held) =
    ap (λ (l : List Stored). all_shown pool l) (sym e) ∙ sym (others_shown pool held n) in
    subst (λ (o : Links). (let l : Links = record { packets = all_shown pool held; next = next; cells = length pool } in l ≡ removing o n)) v
    (ap (λ (ps : List Packet). let l : Links = record { packets = ps; next = next; cells = length pool } in l) shows)

pub copy_answer : (o : Option Packet) (p : Packet) (d : Delivery) (X : Type 0) → o ≡ Some p → d ≡ delivery_of p
    → MatchOption o X (λ q. IsOkAnd (let r : Result Delivery NoSuchPacket = Ok d in r) (λ e. e ≡ delivery_of q))
copy_answer o p d X e s = rw e s

use Rattle.std.proofs.Common.{◌≡◌, ℕ, suc, zero, ◌+◌, ◌-◌, ◌<◌, ◌≤◌, ◌++◌, true, false, List, [], ◌∷◌, Option, Some, None, IsSome, unwrap_or, length, get_or, set, remove, replicate, refl, ap, ◌∙◌, arith, length-set}
use Rattle.std.specs.List.{sum_by}
use Rattle.std.proofs.lemmas.List.Sums.{sum_by-cons, sum_by_push, sum_by-set}
use Rattle.std.proofs.lemmas.List.{get_or-set_same, map_push, length-replicate}
use Rattle.cell_pool.specs.Cells.{cells_for, cells_at, used_cells, free_cells, bytes_of}
use Rattle.interconnect.specs.Stored.{Stored}
use Rattle.interconnect.specs.Links.{Packet, cells_of}
use Rattle.interconnect.specs.Flights.{shown, all_shown, LacksChain, IsSound}
use Rattle.interconnect.proofs.Shown.{rising_push, rising_next, rising_remove, apart_push, apart_frame, apart_remove, unused_lacks, shown_frame, own_at, cells_remove}

pub sound_refused : (pool : List (Option (List ℕ))) (held : List Stored) (room next : ℕ) → IsSound pool held room next → IsSound pool held room (next + 1)
sound_refused pool held room next s =
    record { rising = rising_next 1 next held s.rising; apart = s.apart; used = s.used; enough = s.enough }

-- the packets once one more stands in its chain
pub shown_push : (pool : List (Option (List ℕ))) (held : List Stored) (h : Stored) (bytes : List ℕ) → LacksChain h.chain held → h.chain < length pool
    → all_shown (set pool h.chain (Some bytes)) (held ++ h ∷ [])
    ≡ all_shown pool held ++ (record { number = h.number; from = h.from; to = h.to; bytes = bytes }) ∷ []
shown_push pool held h bytes lacks low =
    let new : List (Option (List ℕ)) = set pool h.chain (Some bytes) in
    let got : get_or new h.chain None ≡ Some bytes = get_or-set_same pool h.chain (Some bytes) None low in
    map_push (shown new) held h ∙ rw (got, shown_frame pool h.chain (Some bytes) held lacks) refl

pub sound_appended : (pool new : List (Option (List ℕ))) (held : List Stored) (h : Stored) (room room' next : ℕ) (bytes : List ℕ)
    → IsSound pool held room next → h.number ≡ next → h.chain < length pool → get_or pool h.chain None ≡ None → new ≡ set pool h.chain (Some bytes)
    → length bytes ≤ 131072 → room ≤ room' → IsSound new (held ++ h ∷ []) room' (next + 1)
sound_appended pool new held h room room' next bytes s n low none is size more =
    let next_pool : List (Option (List ℕ)) = set pool h.chain (Some bytes) in
    let lacks = unused_lacks pool h.chain held none s.apart in
    let got : get_or next_pool h.chain None ≡ Some bytes = get_or-set_same pool h.chain (Some bytes) None low in
    let used : used_cells next_pool + 0 ≡ used_cells pool + cells_for (length bytes) = rw none at (sum_by-set cells_at pool h.chain (Some bytes) None low) in
    let cells : sum_by cells_of (all_shown next_pool (held ++ h ∷ [])) ≡ sum_by cells_of (all_shown pool held) + cells_for (length bytes) =
    rw (shown_push pool held h bytes lacks low) (sum_by_push cells_of (all_shown pool held) (record { number = h.number; from = h.from; to = h.to; bytes = bytes })) in
    let old = s.used in
    let enough = s.enough in
    rw is (record {
      rising = rising_push 1 next held h s.rising n;
      apart = apart_push next_pool held h (apart_frame pool h.chain (Some bytes) held lacks s.apart) lacks (rw got refl) (rw got size);
      used = omega arith;
      enough = omega (arith, length-set pool h.chain (Some bytes));
    })

pub appended_view : (pool new : List (Option (List ℕ))) (held : List Stored) (h : Stored) (room next : ℕ) (bytes : List ℕ)
    → IsSound pool held room next → h.chain < length pool → get_or pool h.chain None ≡ None → new ≡ set pool h.chain (Some bytes)
    → all_shown new (held ++ h ∷ []) ≡ all_shown pool held ++ (record { number = h.number; from = h.from; to = h.to; bytes = bytes }) ∷ []
appended_view pool new held h room next bytes s low none is =
    rw is (shown_push pool held h bytes (unused_lacks pool h.chain held none s.apart) low)

no_some : false ≡ true → ⊥
no_some h = cc

pub some_of : (o : Option (List ℕ)) → IsSome o → o ≡ Some (unwrap_or o [])
some_of None h = absurd (no_some h)
some_of (Some bytes) h = refl

pub low_of_used : (pool : List (Option (List ℕ))) (chain : ℕ) → IsSome (get_or pool chain None) → chain < length pool
low_of_used [] chain h = absurd (no_some h)
low_of_used (x ∷ rest) zero h = omega arith
low_of_used (x ∷ rest) (suc chain) h = let k = low_of_used rest chain h in omega arith

pub sound_removed : (pool new : List (Option (List ℕ))) (held : List Stored) (i : ℕ) (h : Stored) (room room' next : ℕ)
    → IsSound pool held room next → i < length held → h ≡ get_or held i h → new ≡ set pool h.chain None → room ≡ room'
    → IsSound new (remove held i) room' next
sound_removed pool new held i h room room' next s l e is more =
    let own = own_at pool held i h s.apart l e in
    let low = low_of_used pool h.chain own.in_use in
    let some : get_or pool h.chain None ≡ Some (bytes_of pool h.chain) = some_of (get_or pool h.chain None) own.in_use in
    let cells : cells_at (get_or pool h.chain None) ≡ cells_for (length (bytes_of pool h.chain)) = ap (λ (o : Option (List ℕ)). cells_at o) some in
    let used : used_cells (set pool h.chain None) + cells_at (get_or pool h.chain None) ≡ used_cells pool + 0 = sum_by-set cells_at pool h.chain None None low in
    let same : all_shown (set pool h.chain None) (remove held i) ≡ all_shown pool (remove held i) = shown_frame pool h.chain None (remove held i) own.alone in
    let sum : sum_by cells_of (all_shown (set pool h.chain None) (remove held i)) ≡ sum_by cells_of (all_shown pool (remove held i)) =
    ap (λ (ps : List Packet). sum_by cells_of ps) same in
    let old = s.used in
    let enough = s.enough in
    rw is (record {
      rising = rising_remove 1 next held i s.rising;
      apart = apart_frame pool h.chain None (remove held i) own.alone (apart_remove pool held i s.apart);
      used = omega (arith, cells_remove pool held i h l e);
      enough = omega (arith, length-set pool h.chain None);
    })

-- free cells, by the packets and by the pool
pub free_same : (pool : List (Option (List ℕ))) (held : List Stored) (room next : ℕ) → IsSound pool held room next
    → length pool - sum_by cells_of (all_shown pool held) ≡ free_cells pool
free_same pool held room next s = let u = s.used in omega arith

-- no packet at first

pub used_none : (n : ℕ) → used_cells (replicate n None) ≡ 0
used_none zero = refl
used_none (suc n) = sum_by-cons cells_at None (replicate n None) ∙ (let e : 0 + used_cells (replicate n None) ≡ 0 = omega (arith, used_none n) in e)

pub sound_none : (n : ℕ) → IsSound (replicate n None) [] n 1
sound_none n = record { rising = omega arith; apart = tt; used = used_none n; enough = omega (arith, length-replicate n (let o : Option (List ℕ) = None in o)) }

-- The whole pool, by the cells that are made.
use Rattle.std.proofs.Common.{◌≡◌, ℕ, suc, zero, ◌+◌, ◌-◌, ◌<◌, ◌≤◌, ◌++◌, false, true, List, [], ◌∷◌, Option, Some, None, IsSome, length, get_or, set, replicate, refl, sym, ap, ◌∙◌, subst, arith, append_assoc, length-append, length-set}
use Rattle.std.specs.Option.{IfSome}
use Rattle.std.proofs.lemmas.List.Sums.{sum_by-append, sum_by-cons}
use Rattle.std.proofs.lemmas.List.{length_push, length-replicate, set-append_left}
use Rattle.cell_pool.specs.Cells.{cells_at, used_cells}
use Rattle.cell_pool.specs.Region.{IsWhole, chains_from}
use Rattle.cell_pool.specs.Made.{Making, all_cells, IsMade}
use Rattle.cell_pool.proofs.Frames.{length-chains}
use Rattle.cell_pool.proofs.Makes.{whole_more, chains_with}

-- a cell that is not made begins no chain

none_there : (n i : ℕ) → get_or (replicate n (let o : Option (List ℕ) = None in o)) i None ≡ None
none_there zero i = refl
none_there (suc n) zero = refl
none_there (suc n) (suc i) = none_there n i

at_made : (pool : List (Option (List ℕ))) (n i : ℕ) → get_or (pool ++ replicate n None) i None ≡ get_or pool i None
at_made [] n i = none_there n i
at_made (x ∷ rest) n zero = refl
at_made (x ∷ rest) n (suc i) = at_made rest n i

pub at_all : (made : Making) (i : ℕ) → get_or (all_cells made) i None ≡ get_or made.pool i None
at_all made i = at_made made.pool (made.room - length made.pool) i

pub length-all : (made : Making) → length made.pool ≤ made.room → length (all_cells made) ≡ made.room
length-all made few =
    length-append made.pool (replicate (made.room - length made.pool) None)
    ∙ omega (arith, length-replicate (made.room - length made.pool) (let o : Option (List ℕ) = None in o))

none_used : (n : ℕ) → used_cells (replicate n None) ≡ 0
none_used zero = refl
none_used (suc n) = sum_by-cons cells_at None (replicate n None) ∙ (let e : 0 + used_cells (replicate n None) ≡ 0 = omega (arith, none_used n) in e)

pub used_all : (made : Making) → used_cells (all_cells made) ≡ used_cells made.pool
used_all made =
    sum_by-append cells_at made.pool (replicate (made.room - length made.pool) None)
    ∙ (let e : used_cells made.pool + used_cells (replicate (made.room - length made.pool) None) ≡ used_cells made.pool =
    omega (arith, none_used (made.room - length made.pool)) in e)

-- one more is made
pub all_more : (made new : Making) → length made.pool < made.room → new ≡ record made { pool = made.pool ++ None ∷ [] } → all_cells new ≡ all_cells made
all_more made new low e =
    let left : made.room - length made.pool ≡ suc (made.room - length (made.pool ++ None ∷ [])) = omega (arith, length_push made.pool (let o : Option (List ℕ) = None in o)) in
    ap (λ (m : Making). all_cells m) e
    ∙ append_assoc made.pool (None ∷ []) (replicate (made.room - length (made.pool ++ None ∷ [])) None)
    ∙ ap (λ (n : ℕ). made.pool ++ replicate n None) (sym left)

-- one chain comes or goes
pub all_set : (made new : Making) (i : ℕ) (x : Option (List ℕ)) → i < length made.pool → new ≡ record made { pool = set made.pool i x }
    → all_cells new ≡ set (all_cells made) i x
all_set made new i x low e =
    ap (λ (m : Making). all_cells m) e
    ∙ ap (λ (n : ℕ). set made.pool i x ++ replicate (made.room - n) None) (length-set made.pool i x)
    ∙ sym (set-append_left made.pool (replicate (made.room - length made.pool) None) i x low)

pub within_set : (made new : Making) (i : ℕ) (x : Option (List ℕ)) → length made.pool ≤ made.room → new ≡ record made { pool = set made.pool i x }
    → length new.pool ≤ new.room
within_set made new i x few e = rw e (omega (arith, length-set made.pool i x))

no_some : false ≡ true → ⊥
no_some h = cc

below_of_use : (pool : List (Option (List ℕ))) (i : ℕ) → IsSome (get_or pool i None) → i < length pool
below_of_use [] i h = absurd (no_some h)
below_of_use (x ∷ rest) zero h = omega arith
below_of_use (x ∷ rest) (suc i) h = let k = below_of_use rest i h in omega arith

-- a chain in use begins in a made cell
pub in_use_made : (made : Making) (all : List (Option (List ℕ))) (chain : ℕ) → all_cells made ≡ all → IsSome (get_or all chain None) → IsSome (get_or made.pool chain None)
in_use_made made all chain e h = rw (← at_all made chain, e) h

pub made_below : (made : Making) (all : List (Option (List ℕ))) (chain : ℕ) → all_cells made ≡ all → IsSome (get_or all chain None) → chain < length made.pool
made_below made all chain e h = below_of_use made.pool chain (in_use_made made all chain e h)

-- the fields, where one chain comes or goes

pub with_pool : (before new after : List (Option (List ℕ))) (room : ℕ) (old : Making) → (let m : Making = record { pool = before; room = room } in m ≡ old) → new ≡ after
    → (let m : Making = record { pool = new; room = room } in m ≡ record old { pool = after })
with_pool before new after room old v e = rw e (ap (λ (m : Making). record m { pool = after }) v)

pub made_set : {cells cells' : List (List ℕ)} {links links' : List ℕ} (lengths : List (Option ℕ)) (i : ℕ) (x : Option ℕ) {first free first' free' room a b c : ℕ}
    → IsMade cells links lengths first free room a b c → IsWhole cells' links' (set lengths i x) first' free'
    → IsMade cells' links' (set lengths i x) first' free' room a b c
made_set lengths i x k whole =
    let within = k.within in
    record { whole = whole; within = omega (arith, length-set lengths i x); few = k.few; of_cells = k.of_cells; of_links = k.of_links; of_lengths = k.of_lengths }

-- there may be more cells than are made
pub fewer : (cells : List (List ℕ)) (links : List ℕ) (lengths : List (Option ℕ)) (room : ℕ) (old : Making)
    → (let m : Making = record { pool = chains_from cells links 0 lengths; room = room } in m ≡ old) → length old.pool < old.room → length lengths < room
fewer cells links lengths room old v low =
    let l : length (chains_from cells links 0 lengths) < room = subst (λ (m : Making). length m.pool < m.room) (sym v) low in
    omega (arith, length-chains cells links 0 lengths)

-- one more is made, as the fields show it
pub is_made_more : (cells cells' : List (List ℕ)) (links links' : List ℕ) (lengths lengths' : List (Option ℕ)) (first free n room a b c a' b' c' : ℕ) (z : List ℕ)
    → IsMade cells links lengths first free room a b c → length lengths < room → n ≡ length lengths → length z ≡ 256
    → cells' ≡ cells ++ z ∷ [] → links' ≡ links ++ first ∷ [] → lengths' ≡ lengths ++ None ∷ [] → a' ≡ a → b' ≡ b → c' ≡ c
    → IsMade cells' links' lengths' n (free + 1) room a' b' c'
is_made_more cells cells' links links' lengths lengths' first free n room a b c a' b' c' z k low e size is_cells is_links is_lengths same_a same_b same_c =
    let of_cells = k.of_cells in let of_links = k.of_links in let of_lengths = k.of_lengths in
    rw (is_cells, is_links, is_lengths) (record {
      whole = whole_more cells links lengths first free n z k.whole e size;
      within = omega (arith, length_push lengths (let o : Option ℕ = None in o));
      few = k.few;
      of_cells = omega arith;
      of_links = omega arith;
      of_lengths = omega arith;
    })

pub made_view : (cells cells' : List (List ℕ)) (links links' : List ℕ) (lengths lengths' : List (Option ℕ)) (first free room : ℕ) (z : List ℕ) (old : Making)
    → IsWhole cells links lengths first free → cells' ≡ cells ++ z ∷ [] → links' ≡ links ++ first ∷ [] → lengths' ≡ lengths ++ None ∷ []
    → (let m : Making = record { pool = chains_from cells links 0 lengths; room = room } in m ≡ old)
    → (let m : Making = record { pool = chains_from cells' links' 0 lengths'; room = room } in m ≡ record old { pool = old.pool ++ None ∷ [] })
made_view cells cells' links links' lengths lengths' first free room z old k is_cells is_links is_lengths v =
    with_pool (chains_from cells links 0 lengths) (chains_from cells' links' 0 lengths') (old.pool ++ None ∷ []) room old v
    (rw (is_cells, is_links, is_lengths) (chains_with cells links lengths first free z k)
    ∙ ap (λ (m : Making). m.pool ++ None ∷ []) v)

pub put_all : (made new : Making) (result : Option ℕ) (bytes : List ℕ) (all : List (Option (List ℕ)))
    → IfSome result (λ chain. (chain < length made.pool) × (get_or made.pool chain None ≡ None))
    → IfSome result (λ chain. new ≡ record made { pool = set made.pool chain (Some bytes) }) → all_cells made ≡ all
    → IfSome result (λ chain. all_cells new ≡ set all chain (Some bytes))
put_all made new None bytes all fresh put v = tt
put_all made new (Some chain) bytes all fresh put v =
    all_set made new chain (Some bytes) fresh.0 put ∙ ap (λ (l : List (Option (List ℕ))). set l chain (Some bytes)) v

use Rattle.std.proofs.Common.{◌≡◌, ℕ, suc, zero, ◌+◌, ◌-◌, ◌<◌, ◌≤◌, ◌++◌, ◌≢◌, List, [], ◌∷◌, Option, Some, None, length, take, drop, get_or, set, refl, sym, ap, ◌∙◌, subst, arith, length-set}
use Rattle.std.specs.List.{sum_by}
use Rattle.std.proofs.lemmas.List.Sums.{sum_by-set}
use Rattle.std.proofs.lemmas.List.{get_or-set_same, get_or-set_other, take_at}
use Rattle.cell_pool.specs.Cells.{cells_for}
use Rattle.cell_pool.specs.Region.{walk, after, times, chained, content, text_at, chains_from, taken_by, IsWhole, filled}
use Rattle.cell_pool.proofs.Walks.{times-append, times_here, times_there}
use Rattle.cell_pool.proofs.Frames.{walk-add, walk_frame, chained_frame, chains_frame, chains_kept, chained_set, chains_set, chains_get, length-chains}
use Rattle.cell_pool.proofs.Fills.{filled_reads, filled_other, length-filled, full_filled, AreFull}
use Rattle.cell_pool.proofs.Whole.{length-walk, some_cell, cells_suffice, first_there, free_first_unused, full_of, Held}

-- the cells that a put takes are cells of the pool, and the first of them begins no chain yet
pub record Takes (links : List ℕ) (lengths : List (Option ℕ)) (first count : ℕ) : Type 0 where
  pub low : first < length lengths
  pub unused : get_or lengths first None ≡ None
  pub inside : (c : ℕ) → 0 < times c (walk links first count) → c < length lengths
  pub once : (c : ℕ) → times c (walk links first count) ≤ 1
  pub apart : (c : ℕ) → 0 < times c (chained links 0 lengths) → times c (walk links first count) ≡ 0

pub split_free : (c : ℕ) (links : List ℕ) (first count free : ℕ) → count ≤ free
    → times c (walk links first free) ≡ times c (walk links first count) + times c (walk links (after links first count) (free - count))
split_free c links first count free few =
    let e : count + (free - count) ≡ free = omega arith in
    ap (λ (n : ℕ). times c (walk links first n)) (sym e)
    ∙ rw (walk-add links first count (free - count)) (times-append c (walk links first count) (walk links (after links first count) (free - count)))

pub takes : (cells : List (List ℕ)) (links : List ℕ) (lengths : List (Option ℕ)) (first free count : ℕ)
    → IsWhole cells links lengths first free → 0 < count → count ≤ free → Takes links lengths first count
takes cells links lengths first free count h some few =
    let parts : (c : ℕ) → times c (walk links first free ++ chained links 0 lengths)
    ≡ times c (walk links first count) + times c (walk links (after links first count) (free - count)) + times c (chained links 0 lengths) =
    λ c. times-append c (walk links first free) (chained links 0 lengths) ∙ ap (λ (n : ℕ). n + times c (chained links 0 lengths)) (split_free c links first count free few) in
    let inside : (c : ℕ) → 0 < times c (walk links first count) → c < length lengths = λ c k. h.inside c (omega (arith, parts c)) in
    let low : first < length lengths = inside first (first_there links first count some) in
    record {
      low = low;
      unused = free_first_unused links lengths first free (omega arith) low (λ c. h.once c);
      inside = inside;
      once = λ c. omega (arith, parts c, h.once c);
      apart = λ c k. omega (arith, parts c, h.once c);
    }

-- where each cell stands as often as before, the region is whole as before
pub whole_again : (cells new : List (List ℕ)) (links links' : List ℕ) (lengths lengths' : List (Option ℕ)) (first free first' free' : ℕ)
    → IsWhole cells links lengths first free
    → length links' ≡ length links → length new ≡ length cells → length lengths' ≡ length lengths → AreFull new
    → ((c : ℕ) → times c (walk links' first' free' ++ chained links' 0 lengths') ≡ times c (walk links first free ++ chained links 0 lengths))
    → free' + sum_by taken_by lengths' ≡ length lengths'
    → IsWhole new links' lengths' first' free'
whole_again cells new links links' lengths lengths' first free first' free' h l n s full same all = record {
  a_link_each = l ∙ h.a_link_each ∙ sym s;
  a_cell_each = n ∙ h.a_cell_each ∙ sym s;
  full_size = full;
  once = λ c. rw (same c) (h.once c);
  inside = λ c k. rw s (h.inside c (rw (same c) at k));
  all = all;
}

-- a put leaves the region whole
pub whole_put : (cells : List (List ℕ)) (links : List ℕ) (lengths : List (Option ℕ)) (first free : ℕ) (bytes : List ℕ)
    → IsWhole cells links lengths first free → cells_for (length bytes) ≤ free
    → IsWhole (filled cells (walk links first (cells_for (length bytes))) bytes) links (set lengths first (Some (length bytes)))
    (after links first (cells_for (length bytes))) (free - cells_for (length bytes))
whole_put cells links lengths first free bytes h few =
    let size : ℕ = length bytes in
    let count : ℕ = cells_for size in
    let some : 0 < count = some_cell size in
    let t = takes cells links lengths first free count h some few in
    let e : 0 + first ≡ first = omega arith in
    let parts : (c : ℕ) → times c (walk links (after links first count) (free - count) ++ chained links 0 (set lengths first (Some size)))
    ≡ times c (walk links first free ++ chained links 0 lengths) =
    λ c.
    let change : times c (chained links 0 (set lengths first (Some size))) + 0 ≡ times c (chained links 0 lengths) + times c (walk links first count) =
    rw (e, t.unused) at (chained_set c links 0 lengths first (Some size) t.low) in
    omega (
      arith,
      times-append c (walk links (after links first count) (free - count)) (chained links 0 (set lengths first (Some size))),
      times-append c (walk links first free) (chained links 0 lengths),
      split_free c links first count free few,
    ) in
    let taken : sum_by taken_by (set lengths first (Some size)) + 0 ≡ sum_by taken_by lengths + count =
    rw t.unused at (sum_by-set taken_by lengths first (Some size) None t.low) in
    whole_again cells (filled cells (walk links first count) bytes) links links lengths (set lengths first (Some size)) first free
    (after links first count) (free - count) h refl (length-filled cells (walk links first count) bytes) (length-set lengths first (Some size))
    (full_filled cells (walk links first count) bytes (full_of cells links lengths first free h)) parts
    (omega (arith, h.all, length-set lengths first (Some size)))

-- a put adds its bytes, and the other chains stay
pub chains_put : (cells : List (List ℕ)) (links : List ℕ) (lengths : List (Option ℕ)) (first free : ℕ) (bytes : List ℕ)
    → IsWhole cells links lengths first free → cells_for (length bytes) ≤ free
    → chains_from (filled cells (walk links first (cells_for (length bytes))) bytes) links 0 (set lengths first (Some (length bytes)))
    ≡ set (chains_from cells links 0 lengths) first (Some bytes)
chains_put cells links lengths first free bytes h few =
    let size : ℕ = length bytes in
    let count : ℕ = cells_for size in
    let new : List (List ℕ) = filled cells (walk links first count) bytes in
    let t = takes cells links lengths first free count h (some_cell size) few in
    let e : 0 + first ≡ first = omega arith in
    let kept : chains_from new links 0 lengths ≡ chains_from cells links 0 lengths =
    chains_kept cells new links 0 lengths (λ c k. filled_other cells (walk links first count) bytes c (t.apart c k)) in
    let reads : take size (content new (walk links first count)) ≡ bytes =
    filled_reads cells (walk links first count) bytes (λ c. t.once c)
    (λ c k. let low = t.inside c k in omega (arith, h.a_cell_each))
    (full_of cells links lengths first free h) (omega (arith, length-walk links first count, cells_suffice size)) in
    let made : chains_from new links 0 (set lengths first (Some size)) ≡ set (chains_from new links 0 lengths) first (Some (take size (content new (walk links first count)))) =
    rw e at (chains_set new links 0 lengths first (Some size)) in
    made ∙ rw (kept, reads) refl

-- the last cell of a walk is in it
pub last_there : (links : List ℕ) (first m : ℕ) → 0 < times (after links first m) (walk links first (suc m))
last_there links first zero = omega (arith, times_here first [])
last_there links first (suc m) =
    omega (
      arith,
      last_there links (get_or links first 0) m,
      times_there (after links (get_or links first 0) m) first (walk links (get_or links first 0) (suc m)),
    )

twice_refused : (links : List ℕ) (first n : ℕ) → ((c : ℕ) → times c (walk links first (suc n)) ≤ 1)
    → 0 < times first (walk links (get_or links first 0) n) → ⊥
twice_refused links first n once h = omega (arith, times_here first (walk links (get_or links first 0) n), once first)

-- a chain's last cell gets a new link, and the free chain follows it
pub spliced : (links : List ℕ) (first m head free : ℕ)
    → ((c : ℕ) → times c (walk links first (suc m)) ≤ 1)
    → times (after links first m) (walk links head free) ≡ 0
    → after links first m < length links
    → walk (set links (after links first m) head) first (suc m + free) ≡ walk links first (suc m) ++ walk links head free
spliced links first zero head free once apart low =
    let e : suc zero + free ≡ suc free = omega arith in
    let next : get_or (set links first head) first 0 ≡ head = get_or-set_same links first head 0 low in
    rw (e, next) (ap (λ (r : List ℕ). first ∷ r) (walk_frame links first head head free apart))
spliced links first (suc m) head free once apart low =
    let e : suc (suc m) + free ≡ suc (suc m + free) = omega arith in
    let second : ℕ = get_or links first 0 in
    let last : ℕ = after links second m in
    let there : 0 < times last (walk links second (suc m)) = last_there links second m in
    let other : first ≢ last = λ (same : first ≡ last). twice_refused links first (suc m) once (subst (λ (x : ℕ). 0 < times x (walk links second (suc m))) (sym same) there) in
    let next : get_or (set links last head) first 0 ≡ second = get_or-set_other links last first head 0 other in
    rw (e, next) (ap (λ (r : List ℕ). first ∷ r)
    (spliced links second m head free (λ c. omega (arith, times_there c first (walk links second (suc m)), once c)) apart low))

pub joined : (links : List ℕ) (chain m first free last count : ℕ) → last ≡ after links chain m → suc m ≡ count
    → ((c : ℕ) → times c (walk links chain count) ≤ 1) → times last (walk links first free) ≡ 0 → last < length links
    → walk (set links last first) chain (free + count) ≡ walk links chain count ++ walk links first free
joined links chain m first free last count at_end size once apart low =
    let e : free + count ≡ suc m + free = omega arith in
    rw (at_end, e, ← size) (spliced links chain m first free (λ c. subst (λ (n : ℕ). times c (walk links chain n) ≤ 1) (sym size) (once c)) (rw at_end at apart) (rw at_end at low))

pub end_there : (links : List ℕ) (chain m last count : ℕ) → last ≡ after links chain m → suc m ≡ count → 0 < times last (walk links chain count)
end_there links chain m last count at_end size = rw (at_end, ← size) (last_there links chain m)

-- what giving a chain back does to the cells
pub record Backs (links : List ℕ) (lengths : List (Option ℕ)) (first free chain count last : ℕ) : Type 0 where
  pub low : last < length links
  pub apart : times last (chained links 0 (set lengths chain None)) ≡ 0
  pub same : (c : ℕ) → times c (walk (set links last first) chain (free + count) ++ chained (set links last first) 0 (set lengths chain None))
      ≡ times c (walk links first free ++ chained links 0 lengths)

pub backs : (cells : List (List ℕ)) (links : List ℕ) (lengths : List (Option ℕ)) (first free chain size last : ℕ) (bytes : List ℕ)
    → IsWhole cells links lengths first free → Held cells links lengths chain size bytes → last ≡ after links chain (cells_for size - 1)
    → Backs links lengths first free chain (cells_for size) last
backs cells links lengths first free chain size last bytes h k at_end =
    let m : ℕ = cells_for size - 1 in
    let count : suc m ≡ cells_for size = omega (arith, some_cell size) in
    let e : 0 + chain ≡ chain = omega arith in
    let left : List (Option ℕ) = set lengths chain None in
    let change : (c : ℕ) → times c (chained links 0 left) + times c (walk links chain (cells_for size)) ≡ times c (chained links 0 lengths) + 0 =
    λ c. rw (e, k.some) at (chained_set c links 0 lengths chain None k.low) in
    let whole : (c : ℕ) → times c (walk links first free ++ chained links 0 lengths) ≡ times c (walk links first free) + times c (chained links 0 lengths) =
    λ c. times-append c (walk links first free) (chained links 0 lengths) in
    let there : 0 < times last (walk links chain (cells_for size)) = end_there links chain m last (cells_for size) at_end count in
    let apart : times last (chained links 0 left) ≡ 0 = omega (arith, h.once last, whole last, change last) in
    let free_apart : times last (walk links first free) ≡ 0 = omega (arith, h.once last, whole last, change last) in
    let low : last < length links = let l = k.inside last there in omega (arith, h.a_link_each) in
    let once : (c : ℕ) → times c (walk links chain (cells_for size)) ≤ 1 = λ c. omega (arith, h.once c, whole c, change c) in
    let path : walk (set links last first) chain (free + cells_for size) ≡ walk links chain (cells_for size) ++ walk links first free =
    joined links chain m first free last (cells_for size) at_end count once free_apart low in
    record {
      low = low;
      apart = apart;
      same = λ c.
          rw (path, chained_frame links last first 0 left apart)
          (omega (
            arith,
            times-append c (walk links chain (cells_for size) ++ walk links first free) (chained links 0 left),
            times-append c (walk links chain (cells_for size)) (walk links first free),
            whole c,
            change c,
          ));
    }

-- a chain given back is whole again with the free chain
pub whole_back : (cells : List (List ℕ)) (links : List ℕ) (lengths : List (Option ℕ)) (first free chain size last : ℕ) (bytes : List ℕ)
    → IsWhole cells links lengths first free → Held cells links lengths chain size bytes → last ≡ after links chain (cells_for size - 1)
    → IsWhole cells (set links last first) (set lengths chain None) chain (free + cells_for size)
whole_back cells links lengths first free chain size last bytes h k at_end =
    let b = backs cells links lengths first free chain size last bytes h k at_end in
    let taken : sum_by taken_by (set lengths chain None) + cells_for size ≡ sum_by taken_by lengths + 0 =
    rw k.some at (sum_by-set taken_by lengths chain None None k.low) in
    whole_again cells cells links (set links last first) lengths (set lengths chain None) first free chain (free + cells_for size) h
    (length-set links last first) refl (length-set lengths chain None) (full_of cells links lengths first free h) b.same
    (omega (arith, h.all, length-set lengths chain None))

-- and it is gone, while the other chains stay
pub chains_back : (cells : List (List ℕ)) (links : List ℕ) (lengths : List (Option ℕ)) (first free chain size last : ℕ) (bytes : List ℕ)
    → IsWhole cells links lengths first free → Held cells links lengths chain size bytes → last ≡ after links chain (cells_for size - 1)
    → chains_from cells (set links last first) 0 (set lengths chain None) ≡ set (chains_from cells links 0 lengths) chain None
chains_back cells links lengths first free chain size last bytes h k at_end =
    let b = backs cells links lengths first free chain size last bytes h k at_end in
    chains_frame cells links last first 0 (set lengths chain None) b.apart ∙ chains_set cells links 0 lengths chain None

-- the cells that a put takes, as the code sees them
pub takes_in : (links : List ℕ) (lengths : List (Option ℕ)) (first count : ℕ) (links' : List ℕ) (n b : ℕ)
    → Takes links lengths first count → links' ≡ links → n ≡ count → length lengths ≡ b
    → (c : ℕ) → 0 < times c (walk links' first n) → c < b
takes_in links lengths first count links' n b t l m e c h =
    let low = t.inside c (rw (l, m) at h) in omega arith

-- a vector that was written as a slice is what was written
pub written : (n : ℕ) (old new : List (List ℕ)) → n ≡ length old → length new ≡ length old → take n (new ++ drop (length new) old) ≡ new
written n old new e l = take_at new (drop (length new) old) n (omega arith)

pub put_vec : (n : ℕ) (cells before new : List (List ℕ)) (ws bytes : List ℕ) → n ≡ length cells → before ≡ cells → new ≡ filled before ws bytes
    → take n (new ++ drop (length new) cells) ≡ filled cells ws bytes
put_vec n cells before new ws bytes e b f =
    let is : new ≡ filled cells ws bytes = f ∙ rw b refl in
    let size : length new ≡ length cells = ap (λ (l : List (List ℕ)). length l) is ∙ length-filled cells ws bytes in
    written n cells new e size ∙ is

pub put_leaves : (cells : List (List ℕ)) (links : List ℕ) (lengths : List (Option ℕ)) (first free : ℕ) (bytes : List ℕ)
    (cells' : List (List ℕ)) (links' : List ℕ) (count next : ℕ)
    → IsWhole cells links lengths first free → cells_for (length bytes) ≤ free
    → links' ≡ links → count ≡ cells_for (length bytes) → cells' ≡ filled cells (walk links' first count) bytes → next ≡ after links' first count
    → IsWhole cells' links (set lengths first (Some (length bytes))) next (free - count)
put_leaves cells links lengths first free bytes cells' links' count next h few l n f a =
    let cells_are : cells' ≡ filled cells (walk links first (cells_for (length bytes))) bytes = f ∙ rw (l, n) refl in
    let next_is : next ≡ after links first (cells_for (length bytes)) = a ∙ rw (l, n) refl in
    rw (cells_are, next_is, n) (whole_put cells links lengths first free bytes h few)

pub put_shows : (cells : List (List ℕ)) (links : List ℕ) (lengths : List (Option ℕ)) (first free : ℕ) (bytes : List ℕ)
    (cells' : List (List ℕ)) (links' : List ℕ) (count : ℕ) (pool : List (Option (List ℕ)))
    → IsWhole cells links lengths first free → cells_for (length bytes) ≤ free
    → links' ≡ links → count ≡ cells_for (length bytes) → cells' ≡ filled cells (walk links' first count) bytes
    → chains_from cells links 0 lengths ≡ pool
    → chains_from cells' links 0 (set lengths first (Some (length bytes))) ≡ set pool first (Some bytes)
put_shows cells links lengths first free bytes cells' links' count pool h few l n f v =
    let cells_are : cells' ≡ filled cells (walk links first (cells_for (length bytes))) bytes = f ∙ rw (l, n) refl in
    rw cells_are (chains_put cells links lengths first free bytes h few) ∙ ap (λ (p : List (Option (List ℕ))). set p first (Some bytes)) v

pub back_leaves : (cells : List (List ℕ)) (links : List ℕ) (lengths : List (Option ℕ)) (first free chain size : ℕ) (bytes : List ℕ)
    (links' : List ℕ) (count last : ℕ)
    → IsWhole cells links lengths first free → Held cells links lengths chain size bytes
    → links' ≡ links → count ≡ cells_for size → last ≡ after links' chain (count - 1)
    → IsWhole cells (set links last first) (set lengths chain None) chain (free + count)
back_leaves cells links lengths first free chain size bytes links' count last h k l n a =
    let at_end : last ≡ after links chain (cells_for size - 1) = a ∙ rw (l, n) refl in
    rw n (whole_back cells links lengths first free chain size last bytes h k at_end)

pub back_shows : (cells : List (List ℕ)) (links : List ℕ) (lengths : List (Option ℕ)) (first free chain size : ℕ) (bytes : List ℕ)
    (links' : List ℕ) (count last : ℕ) (pool : List (Option (List ℕ))) (name : ℕ)
    → IsWhole cells links lengths first free → Held cells links lengths chain size bytes
    → links' ≡ links → count ≡ cells_for size → last ≡ after links' chain (count - 1)
    → chains_from cells links 0 lengths ≡ pool → chain ≡ name
    → chains_from cells (set links last first) 0 (set lengths chain None) ≡ set pool name None
back_shows cells links lengths first free chain size bytes links' count last pool name h k l n a v e =
    let at_end : last ≡ after links chain (cells_for size - 1) = a ∙ rw (l, n) refl in
    chains_back cells links lengths first free chain size last bytes h k at_end ∙ rw (v, e) refl

pub back_low : (cells : List (List ℕ)) (links : List ℕ) (lengths : List (Option ℕ)) (first free chain size : ℕ) (bytes : List ℕ)
    (links' : List ℕ) (count last : ℕ)
    → IsWhole cells links lengths first free → Held cells links lengths chain size bytes
    → links' ≡ links → count ≡ cells_for size → last ≡ after links' chain (count - 1) → last < length links
back_low cells links lengths first free chain size bytes links' count last h k l n a =
    let at_end : last ≡ after links chain (cells_for size - 1) = a ∙ rw (l, n) refl in
    let b = backs cells links lengths first free chain size last bytes h k at_end in b.low

-- a fresh place of the pool's value
pub fresh_place : (cells : List (List ℕ)) (links : List ℕ) (lengths : List (Option ℕ)) (first count : ℕ) (pool : List (Option (List ℕ)))
    → Takes links lengths first count → chains_from cells links 0 lengths ≡ pool
    → (first < length pool) × (get_or pool first None ≡ None)
fresh_place cells links lengths first count pool t v =
    let e : 0 + first ≡ first = omega arith in
    let n : length (chains_from cells links 0 lengths) ≡ length lengths = length-chains cells links 0 lengths in
    let got : get_or (chains_from cells links 0 lengths) first None ≡ None =
    (rw e at (chains_get cells links 0 lengths first)) ∙ ap (λ (x : Option ℕ). text_at cells links first x) t.unused in
    let low : first < length pool = rw (← v, n) t.low in
    (low, rw (← v) got)

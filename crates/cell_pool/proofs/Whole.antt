use Rattle.std.proofs.Common.{◌≡◌, ℕ, suc, zero, ◌+◌, ◌-◌, ◌*◌, ◌<◌, ◌≤◌, ◌++◌, List, [], ◌∷◌, Option, Some, None, IsSome, unwrap_or, length, take, drop, get_or, set, refl, sym, ap, true, false, ◌∙◌, subst, arith, length-append, length-take}
use Rattle.std.specs.List.{sum_by}
use Rattle.std.proofs.lemmas.List.Sums.{sum_by-cons}
use Rattle.cell_pool.specs.Cells.{cells_for, cells_at, used_cells, free_cells, IsInUse, bytes_of}
use Rattle.cell_pool.specs.Region.{walk, times, chain_at, chained, content, text_at, chains_from, taken_by, IsWhole}
use Rattle.cell_pool.proofs.Walks.{times-append, times_here, times_there, walk_step}
use Rattle.cell_pool.proofs.Frames.{chained_set, chains_get, length-chains}
use Rattle.cell_pool.proofs.Fills.{AreFull}

pub length-walk : (links : List ℕ) (c n : ℕ) → length (walk links c n) ≡ n
length-walk links c zero = refl
length-walk links c (suc n) = ap (λ (m : ℕ). suc m) (length-walk links (get_or links c 0) n)

pub some_cell : (n : ℕ) → 0 < cells_for n
some_cell n = omega arith

pub cells_suffice : (n : ℕ) → n ≤ 256 * cells_for n
cells_suffice n = omega arith

pub first_there : (links : List ℕ) (c n : ℕ) → 0 < n → 0 < times c (walk links c n)
first_there links c n some = rw (walk_step links c n some) (omega (arith, times_here c (walk links (get_or links c 0) (n - 1))))

pub unused_of : (links : List ℕ) (place : ℕ) (x : Option ℕ) → times place (chain_at links place x) ≡ 0 → x ≡ None
unused_of links place None h = refl
unused_of links place (Some n) h = absurd (omega (arith, first_there links place (cells_for n) (some_cell n)))

-- a cell that the free chain begins with begins no chain in use
pub free_first_unused : (links : List ℕ) (lengths : List (Option ℕ)) (first free : ℕ) → 0 < free → first < length lengths
    → ((c : ℕ) → times c (walk links first free ++ chained links 0 lengths) ≤ 1)
    → get_or lengths first None ≡ None
free_first_unused links lengths first free some low once =
    let e : 0 + first ≡ first = omega arith in
    let all = times-append first (walk links first free) (chained links 0 lengths) in
    let here = first_there links first free some in
    let split : times first (chained links 0 (set lengths first None)) + times first (chain_at links first (get_or lengths first None))
    ≡ times first (chained links 0 lengths) + 0 = rw e at (chained_set first links 0 lengths first None low) in
    unused_of links first (get_or lengths first None) (omega (arith, once first))

-- the content of cells is 256 bytes for each
pub length-content : (cells : List (List ℕ)) (ws : List ℕ) → AreFull cells → ((c : ℕ) → 0 < times c ws → c < length cells)
    → length (content cells ws) ≡ 256 * length ws
length-content cells [] full inside = refl
length-content cells (w ∷ rest) full inside =
    let here = full w (inside w (omega (arith, times_here w rest))) in
    let later = length-content cells rest full (λ c k. inside c (omega (arith, times_there c w rest))) in
    length-append (get_or cells w []) (content cells rest) ∙ omega arith

-- a chain's bytes are as many as its length says
pub length-text : (cells : List (List ℕ)) (links : List ℕ) (place n : ℕ) → AreFull cells
    → ((c : ℕ) → 0 < times c (walk links place (cells_for n)) → c < length cells)
    → length (take n (content cells (walk links place (cells_for n)))) ≡ n
length-text cells links place n full inside =
    length-take n (content cells (walk links place (cells_for n)))
    ∙ omega (arith, length-content cells (walk links place (cells_for n)) full inside, length-walk links place (cells_for n), cells_suffice n)

pub cells_at_text : (cells : List (List ℕ)) (links : List ℕ) (place : ℕ) (x : Option ℕ) → AreFull cells
    → ((c : ℕ) → 0 < times c (chain_at links place x) → c < length cells)
    → cells_at (text_at cells links place x) ≡ taken_by x
cells_at_text cells links place None full inside = refl
cells_at_text cells links place (Some n) full inside = ap (λ (m : ℕ). cells_for m) (length-text cells links place n full inside)

-- the cells of the chains, read off their bytes
pub used_is : (cells : List (List ℕ)) (links : List ℕ) (place : ℕ) (xs : List (Option ℕ)) → AreFull cells
    → ((c : ℕ) → 0 < times c (chained links place xs) → c < length cells)
    → used_cells (chains_from cells links place xs) ≡ sum_by taken_by xs
used_is cells links place [] full inside = refl
used_is cells links place (x ∷ rest) full inside =
    let here = cells_at_text cells links place x full
    (λ c k. inside c (omega (arith, times-append c (chain_at links place x) (chained links (suc place) rest)))) in
    let later = used_is cells links (suc place) rest full
    (λ c k. inside c (omega (arith, times-append c (chain_at links place x) (chained links (suc place) rest)))) in
    sum_by-cons cells_at (text_at cells links place x) (chains_from cells links (suc place) rest)
    ∙ rw (here, later) refl ∙ sym (sum_by-cons taken_by x rest)

pub full_of : (cells : List (List ℕ)) (links : List ℕ) (lengths : List (Option ℕ)) (first free : ℕ)
    → IsWhole cells links lengths first free → AreFull cells
full_of cells links lengths first free h c low = h.full_size c low

pub chained_inside : (cells : List (List ℕ)) (links : List ℕ) (lengths : List (Option ℕ)) (first free : ℕ)
    → IsWhole cells links lengths first free → (c : ℕ) → 0 < times c (chained links 0 lengths) → c < length lengths
chained_inside cells links lengths first free h c k =
    h.inside c (omega (arith, times-append c (walk links first free) (chained links 0 lengths)))

-- the count of free cells is read off the chains in use
pub free_is : (cells : List (List ℕ)) (links : List ℕ) (lengths : List (Option ℕ)) (first free : ℕ)
    → IsWhole cells links lengths first free → free ≡ free_cells (chains_from cells links 0 lengths)
free_is cells links lengths first free h =
    let used = used_is cells links 0 lengths (full_of cells links lengths first free h)
    (λ c k. let low = chained_inside cells links lengths first free h c k in omega (arith, h.a_cell_each)) in
    omega (arith, length-chains cells links 0 lengths, h.all)

-- free and used are all cells
pub all_is : (cells : List (List ℕ)) (links : List ℕ) (lengths : List (Option ℕ)) (first free : ℕ)
    → IsWhole cells links lengths first free → used_cells (chains_from cells links 0 lengths) + free ≡ length (chains_from cells links 0 lengths)
all_is cells links lengths first free h =
    let used = used_is cells links 0 lengths (full_of cells links lengths first free h)
    (λ c k. let low = chained_inside cells links lengths first free h c k in omega (arith, h.a_cell_each)) in
    omega (arith, length-chains cells links 0 lengths, h.all)

-- what is known of a chain in use
pub record Held (cells : List (List ℕ)) (links : List ℕ) (lengths : List (Option ℕ)) (chain size : ℕ) (bytes : List ℕ) : Type 0 where
  pub low : chain < length lengths
  pub some : get_or lengths chain None ≡ Some size
  pub inside : (c : ℕ) → 0 < times c (walk links chain (cells_for size)) → c < length lengths
  pub bytes_are : bytes ≡ take size (content cells (walk links chain (cells_for size)))
  pub length_is : length bytes ≡ size

no_some : false ≡ true → ⊥
no_some h = cc

pub some_of_text : (cells : List (List ℕ)) (links : List ℕ) (place : ℕ) (x : Option ℕ) → IsSome (text_at cells links place x) → x ≡ Some (unwrap_or x 0)
some_of_text cells links place None h = absurd (no_some h)
some_of_text cells links place (Some n) h = refl

pub below_of_some : (lengths : List (Option ℕ)) (i n : ℕ) → get_or lengths i None ≡ Some n → i < length lengths
below_of_some [] i n h = absurd (cc)
below_of_some (x ∷ rest) zero n h = omega arith
below_of_some (x ∷ rest) (suc i) n h = let k = below_of_some rest i n h in omega arith

pub chain_cells_below : (links : List ℕ) (lengths : List (Option ℕ)) (i n c : ℕ) → get_or lengths i None ≡ Some n
    → times c (walk links i (cells_for n)) ≤ times c (chained links 0 lengths)
chain_cells_below links lengths i n c h =
    let e : 0 + i ≡ i = omega arith in
    let k = chained_set c links 0 lengths i None (below_of_some lengths i n h) in
    let m : times c (chained links 0 (set lengths i None)) + times c (walk links i (cells_for n)) ≡ times c (chained links 0 lengths) + 0 = rw (e, h) at k in
    omega arith

pub held : (cells : List (List ℕ)) (links : List ℕ) (lengths : List (Option ℕ)) (first free chain : ℕ)
    → IsWhole cells links lengths first free → IsInUse (chains_from cells links 0 lengths) chain
    → Held cells links lengths chain (unwrap_or (get_or lengths chain None) 0) (bytes_of (chains_from cells links 0 lengths) chain)
held cells links lengths first free chain h use_of =
    let size : ℕ = unwrap_or (get_or lengths chain None) 0 in
    let e : 0 + chain ≡ chain = omega arith in
    let got : get_or (chains_from cells links 0 lengths) chain None ≡ text_at cells links chain (get_or lengths chain None) =
    rw e at (chains_get cells links 0 lengths chain) in
    let is : get_or lengths chain None ≡ Some size = some_of_text cells links chain (get_or lengths chain None) (rw got at use_of) in
    let inside : (c : ℕ) → 0 < times c (walk links chain (cells_for size)) → c < length lengths =
    λ c k. chained_inside cells links lengths first free h c (omega (arith, chain_cells_below links lengths chain size c is)) in
    let text : get_or (chains_from cells links 0 lengths) chain None ≡ Some (take size (content cells (walk links chain (cells_for size)))) =
    got ∙ ap (λ (x : Option ℕ). text_at cells links chain x) is in
    let bytes : bytes_of (chains_from cells links 0 lengths) chain ≡ take size (content cells (walk links chain (cells_for size))) =
    ap (λ (x : Option (List ℕ)). unwrap_or x []) text in
    record {
      low = below_of_some lengths chain size is;
      some = is;
      inside = inside;
      bytes_are = bytes;
      length_is = ap (λ (b : List ℕ). length b) bytes ∙ length-text cells links chain size (full_of cells links lengths first free h)
          (λ c k. let low = inside c k in omega (arith, h.a_cell_each));
    }

-- the same of the pool's value
pub held_in : (cells : List (List ℕ)) (links : List ℕ) (lengths : List (Option ℕ)) (first free place : ℕ) (pool : List (Option (List ℕ))) (chain : ℕ)
    → IsWhole cells links lengths first free → chains_from cells links 0 lengths ≡ pool → place ≡ chain → IsInUse pool chain
    → Held cells links lengths place (unwrap_or (get_or lengths place None) 0) (bytes_of pool chain)
held_in cells links lengths first free place pool chain h e f use_of =
    let same : bytes_of (chains_from cells links 0 lengths) place ≡ bytes_of pool chain = rw (e, f) refl in
    subst (λ (b : List ℕ). Held cells links lengths place (unwrap_or (get_or lengths place None) 0) b) same
    (held cells links lengths first free place h (rw (e, f) use_of))

-- the cells of a chain in use, as a reader of the fields sees them
pub inside_of : (cells : List (List ℕ)) (links : List ℕ) (lengths : List (Option ℕ)) (place size : ℕ) (bytes : List ℕ) (links' : List ℕ) (n b : ℕ)
    → Held cells links lengths place size bytes → links' ≡ links → n ≡ cells_for size → length lengths ≡ b
    → (c : ℕ) → 0 < times c (walk links' place n) → c < b
inside_of cells links lengths place size bytes links' n b k l m e c h =
    let low = k.inside c (rw (l, m) at h) in omega arith

pub read_gives : (cells : List (List ℕ)) (links : List ℕ) (lengths : List (Option ℕ)) (place size : ℕ) (bytes : List ℕ)
    (cells' : List (List ℕ)) (links' : List ℕ) (count n : ℕ) (out new : List ℕ)
    → Held cells links lengths place size bytes → cells' ≡ cells → links' ≡ links → count ≡ cells_for size → n ≡ size
    → new ≡ take n (content cells' (walk links' place count)) ++ drop n out → new ≡ bytes ++ drop (length bytes) out
read_gives cells links lengths place size bytes cells' links' count n out new k cells_are links_are count_is n_is h =
    let text : take n (content cells' (walk links' place count)) ≡ bytes = rw (n_is, cells_are, links_are, count_is) (sym k.bytes_are) in
    let tail : drop n out ≡ drop (length bytes) out = rw (n_is, k.length_is) refl in
    h ∙ rw (text, tail) refl

pub size_of : (lengths all : List (Option ℕ)) (place n : ℕ) → all ≡ lengths → n ≡ unwrap_or (get_or all place None) 0
    → n ≡ unwrap_or (get_or lengths place None) 0
size_of lengths all place n e h = h ∙ rw e refl

use Rattle.std.proofs.Common.{◌≡◌, ℕ, suc, zero, ◌+◌, ◌<◌, ◌++◌, ◌≢◌, List, [], ◌∷◌, Option, Some, None, length, take, get_or, set, refl, ap, arith}
use Rattle.std.proofs.lemmas.List.{get_or-set_other}
use Rattle.std.proofs.lemmas.Bool.Decides.{nat_tests}
use Rattle.cell_pool.specs.Cells.{cells_for}
use Rattle.cell_pool.specs.Region.{walk, after, times, chain_at, chained, content, text_at, chains_from}
use Rattle.cell_pool.proofs.Walks.{times-append, times_here, times_there}

-- a walk in two parts
pub walk-add : (links : List ℕ) (c m n : ℕ) → walk links c (m + n) ≡ walk links c m ++ walk links (after links c m) n
walk-add links c zero n = let e : 0 + n ≡ n = omega arith in rw e refl
walk-add links c (suc m) n =
    let e : suc m + n ≡ suc (m + n) = omega arith in
    rw e (ap (λ (r : List ℕ). c ∷ r) (walk-add links (get_or links c 0) m n))

-- a cell that is not in a list is not its head
pub not_head : (t c : ℕ) (rest : List ℕ) → times t (c ∷ rest) ≡ 0 → c ≢ t
not_head t c rest h = grind (arith, nat_tests)

pub not_rest : (t c : ℕ) (rest : List ℕ) → times t (c ∷ rest) ≡ 0 → times t rest ≡ 0
not_rest t c rest h = omega (arith, times_there t c rest)

-- a link that a walk does not use may change
pub walk_frame : (links : List ℕ) (t v c n : ℕ) → times t (walk links c n) ≡ 0 → walk (set links t v) c n ≡ walk links c n
walk_frame links t v c zero h = refl
walk_frame links t v c (suc n) h =
    let e : get_or (set links t v) c 0 ≡ get_or links c 0 = get_or-set_other links t c v 0 (not_head t c (walk links (get_or links c 0) n) h) in
    rw e (ap (λ (r : List ℕ). c ∷ r) (walk_frame links t v (get_or links c 0) n (not_rest t c (walk links (get_or links c 0) n) h)))

pub chain_frame : (links : List ℕ) (t v place : ℕ) (x : Option ℕ) → times t (chain_at links place x) ≡ 0
    → chain_at (set links t v) place x ≡ chain_at links place x
chain_frame links t v place None h = refl
chain_frame links t v place (Some count) h = walk_frame links t v place (cells_for count) h

pub text_frame : (cells : List (List ℕ)) (links : List ℕ) (t v place : ℕ) (x : Option ℕ) → times t (chain_at links place x) ≡ 0
    → text_at cells (set links t v) place x ≡ text_at cells links place x
text_frame cells links t v place None h = refl
text_frame cells links t v place (Some count) h =
    ap (λ (ws : List ℕ). Some (take count (content cells ws))) (walk_frame links t v place (cells_for count) h)

pub chained_frame : (links : List ℕ) (t v place : ℕ) (xs : List (Option ℕ)) → times t (chained links place xs) ≡ 0
    → chained (set links t v) place xs ≡ chained links place xs
chained_frame links t v place [] h = refl
chained_frame links t v place (x ∷ rest) h =
    let k = times-append t (chain_at links place x) (chained links (suc place) rest) in
    let first : times t (chain_at links place x) ≡ 0 = omega arith in
    let later : times t (chained links (suc place) rest) ≡ 0 = omega arith in
    rw (chain_frame links t v place x first, chained_frame links t v (suc place) rest later) refl

pub chains_frame : (cells : List (List ℕ)) (links : List ℕ) (t v place : ℕ) (xs : List (Option ℕ)) → times t (chained links place xs) ≡ 0
    → chains_from cells (set links t v) place xs ≡ chains_from cells links place xs
chains_frame cells links t v place [] h = refl
chains_frame cells links t v place (x ∷ rest) h =
    let k = times-append t (chain_at links place x) (chained links (suc place) rest) in
    let first : times t (chain_at links place x) ≡ 0 = omega arith in
    let later : times t (chained links (suc place) rest) ≡ 0 = omega arith in
    rw (text_frame cells links t v place x first, chains_frame cells links t v (suc place) rest later) refl

-- cells that a list does not hold may change
pub content_frame : (cells new : List (List ℕ)) (ws : List ℕ) → ((c : ℕ) → 0 < times c ws → get_or new c [] ≡ get_or cells c [])
    → content new ws ≡ content cells ws
content_frame cells new [] h = refl
content_frame cells new (w ∷ rest) h =
    let here : get_or new w [] ≡ get_or cells w [] = h w (omega (arith, times_here w rest)) in
    let there : content new rest ≡ content cells rest = content_frame cells new rest (λ c k. h c (omega (arith, times_there c w rest))) in
    rw (here, there) refl

pub text_kept : (cells new : List (List ℕ)) (links : List ℕ) (place : ℕ) (x : Option ℕ)
    → ((c : ℕ) → 0 < times c (chain_at links place x) → get_or new c [] ≡ get_or cells c [])
    → text_at new links place x ≡ text_at cells links place x
text_kept cells new links place None h = refl
text_kept cells new links place (Some count) h =
    ap (λ (bytes : List ℕ). Some (take count bytes)) (content_frame cells new (walk links place (cells_for count)) h)

pub chains_kept : (cells new : List (List ℕ)) (links : List ℕ) (place : ℕ) (xs : List (Option ℕ))
    → ((c : ℕ) → 0 < times c (chained links place xs) → get_or new c [] ≡ get_or cells c [])
    → chains_from new links place xs ≡ chains_from cells links place xs
chains_kept cells new links place [] h = refl
chains_kept cells new links place (x ∷ rest) h =
    let here : text_at new links place x ≡ text_at cells links place x =
    text_kept cells new links place x (λ c k. h c (omega (arith, times-append c (chain_at links place x) (chained links (suc place) rest)))) in
    let there : chains_from new links (suc place) rest ≡ chains_from cells links (suc place) rest =
    chains_kept cells new links (suc place) rest (λ c k. h c (omega (arith, times-append c (chain_at links place x) (chained links (suc place) rest)))) in
    rw (here, there) refl

-- another chain at one place: the cells that come and go
pub chained_set : (c : ℕ) (links : List ℕ) (place : ℕ) (xs : List (Option ℕ)) (i : ℕ) (y : Option ℕ) → i < length xs
    → times c (chained links place (set xs i y)) + times c (chain_at links (place + i) (get_or xs i None))
    ≡ times c (chained links place xs) + times c (chain_at links (place + i) y)
chained_set c links place [] i y h = absurd (omega arith)
chained_set c links place (x ∷ rest) zero y h =
    let e : place + 0 ≡ place = omega arith in
    rw e (omega (arith, times-append c (chain_at links place x) (chained links (suc place) rest), times-append c (chain_at links place y) (chained links (suc place) rest)))
chained_set c links place (x ∷ rest) (suc i) y h =
    let e : place + suc i ≡ suc place + i = omega arith in
    rw e (omega (
      arith,
      times-append c (chain_at links place x) (chained links (suc place) rest),
      times-append c (chain_at links place x) (chained links (suc place) (set rest i y)),
      chained_set c links (suc place) rest i y (omega arith),
    ))

pub chains_set : (cells : List (List ℕ)) (links : List ℕ) (place : ℕ) (xs : List (Option ℕ)) (i : ℕ) (y : Option ℕ)
    → chains_from cells links place (set xs i y) ≡ set (chains_from cells links place xs) i (text_at cells links (place + i) y)
chains_set cells links place [] i y = refl
chains_set cells links place (x ∷ rest) zero y = let e : place + 0 ≡ place = omega arith in rw e refl
chains_set cells links place (x ∷ rest) (suc i) y =
    let e : place + suc i ≡ suc place + i = omega arith in
    rw e (ap (λ (r : List (Option (List ℕ))). text_at cells links place x ∷ r) (chains_set cells links (suc place) rest i y))

pub chains_get : (cells : List (List ℕ)) (links : List ℕ) (place : ℕ) (xs : List (Option ℕ)) (i : ℕ)
    → get_or (chains_from cells links place xs) i None ≡ text_at cells links (place + i) (get_or xs i None)
chains_get cells links place [] i = refl
chains_get cells links place (x ∷ rest) zero = let e : place + 0 ≡ place = omega arith in rw e refl
chains_get cells links place (x ∷ rest) (suc i) =
    let e : place + suc i ≡ suc place + i = omega arith in rw e (chains_get cells links (suc place) rest i)

pub length-chains : (cells : List (List ℕ)) (links : List ℕ) (place : ℕ) (xs : List (Option ℕ)) → length (chains_from cells links place xs) ≡ length xs
length-chains cells links place [] = refl
length-chains cells links place (x ∷ rest) = ap (λ (n : ℕ). suc n) (length-chains cells links (suc place) rest)

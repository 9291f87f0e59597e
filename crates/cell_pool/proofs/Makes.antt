-- One more cell is made: it leads to the free cells, and no chain begins in it.
use Rattle.std.proofs.Common.{◌≡◌, ℕ, suc, zero, ◌+◌, ◌<◌, ◌≤◌, ◌++◌, inl, inr, List, [], ◌∷◌, Option, Some, None, length, take, get_or, refl, sym, ap, ◌∙◌, arith, add-one}
use Rattle.std.proofs.lemmas.List.Sums.{sum_by_push}
use Rattle.std.proofs.lemmas.List.{length_push, get_or_append_left, get_or-append-add}
use Rattle.std.proofs.lemmas.Bool.{cases_eq}
use Rattle.cell_pool.specs.Cells.{cells_for}
use Rattle.cell_pool.specs.Region.{walk, times, chain_at, chained, content, text_at, chains_from, taken_by, IsWhole}
use Rattle.cell_pool.proofs.Walks.{times-append, times_here, times_there, times_most, times_other}
use Rattle.cell_pool.proofs.Frames.{chains_kept}
use Rattle.cell_pool.proofs.Whole.{chained_inside}

-- one more link, to which no walk comes

walk_more : (links : List ℕ) (v c n : ℕ) → ((x : ℕ) → 0 < times x (walk links c n) → x < length links) → walk (links ++ v ∷ []) c n ≡ walk links c n
walk_more links v c zero inside = refl
walk_more links v c (suc n) inside =
    let low : c < length links = inside c (omega (arith, times_here c (walk links (get_or links c 0) n))) in
    let e : get_or (links ++ v ∷ []) c 0 ≡ get_or links c 0 = get_or_append_left links (v ∷ []) 0 c low in
    rw e (ap (λ (r : List ℕ). c ∷ r)
    (walk_more links v (get_or links c 0) n (λ x h. inside x (omega (arith, times_there x c (walk links (get_or links c 0) n))))))

chain_more : (links : List ℕ) (v place : ℕ) (x : Option ℕ) → ((c : ℕ) → 0 < times c (chain_at links place x) → c < length links)
    → chain_at (links ++ v ∷ []) place x ≡ chain_at links place x
chain_more links v place None inside = refl
chain_more links v place (Some count) inside = walk_more links v place (cells_for count) inside

text_more : (cells : List (List ℕ)) (links : List ℕ) (v place : ℕ) (x : Option ℕ) → ((c : ℕ) → 0 < times c (chain_at links place x) → c < length links)
    → text_at cells (links ++ v ∷ []) place x ≡ text_at cells links place x
text_more cells links v place None inside = refl
text_more cells links v place (Some count) inside =
    ap (λ (ws : List ℕ). Some (take count (content cells ws))) (walk_more links v place (cells_for count) inside)

chained_more : (links : List ℕ) (v place : ℕ) (xs : List (Option ℕ)) → ((c : ℕ) → 0 < times c (chained links place xs) → c < length links)
    → chained (links ++ v ∷ []) place xs ≡ chained links place xs
chained_more links v place [] inside = refl
chained_more links v place (x ∷ rest) inside =
    let here : chain_at (links ++ v ∷ []) place x ≡ chain_at links place x =
    chain_more links v place x (λ c h. inside c (omega (arith, times-append c (chain_at links place x) (chained links (suc place) rest)))) in
    let later : chained (links ++ v ∷ []) (suc place) rest ≡ chained links (suc place) rest =
    chained_more links v (suc place) rest (λ c h. inside c (omega (arith, times-append c (chain_at links place x) (chained links (suc place) rest)))) in
    rw (here, later) refl

chains_more : (cells : List (List ℕ)) (links : List ℕ) (v place : ℕ) (xs : List (Option ℕ)) → ((c : ℕ) → 0 < times c (chained links place xs) → c < length links)
    → chains_from cells (links ++ v ∷ []) place xs ≡ chains_from cells links place xs
chains_more cells links v place [] inside = refl
chains_more cells links v place (x ∷ rest) inside =
    let here : text_at cells (links ++ v ∷ []) place x ≡ text_at cells links place x =
    text_more cells links v place x (λ c h. inside c (omega (arith, times-append c (chain_at links place x) (chained links (suc place) rest)))) in
    let later : chains_from cells (links ++ v ∷ []) (suc place) rest ≡ chains_from cells links (suc place) rest =
    chains_more cells links v (suc place) rest (λ c h. inside c (omega (arith, times-append c (chain_at links place x) (chained links (suc place) rest)))) in
    rw (here, later) refl

-- one more place, where no chain begins

chained_push : (links : List ℕ) (place : ℕ) (xs : List (Option ℕ)) → chained links place (xs ++ None ∷ []) ≡ chained links place xs
chained_push links place [] = refl
chained_push links place (x ∷ rest) = ap (λ (r : List ℕ). chain_at links place x ++ r) (chained_push links (suc place) rest)

chains_push : (cells : List (List ℕ)) (links : List ℕ) (place : ℕ) (xs : List (Option ℕ)) → chains_from cells links place (xs ++ None ∷ []) ≡ chains_from cells links place xs ++ None ∷ []
chains_push cells links place [] = refl
chains_push cells links place (x ∷ rest) =
    ap (λ (r : List (Option (List ℕ))). text_at cells links place x ∷ r) (chains_push cells links (suc place) rest)

-- the cells in which chains are, and the free ones, with the new cell in front of them
all_more : (links : List ℕ) (lengths : List (Option ℕ)) (first free n : ℕ) → n ≡ length links
    → ((c : ℕ) → 0 < times c (walk links first free ++ chained links 0 lengths) → c < length links)
    → walk (links ++ first ∷ []) n (free + 1) ++ chained (links ++ first ∷ []) 0 (lengths ++ None ∷ []) ≡ n ∷ (walk links first free ++ chained links 0 lengths)
all_more links lengths first free n e inside =
    let end : n + 0 ≡ n = omega arith in
    let next : get_or (links ++ first ∷ []) n 0 ≡ first =
    ap (λ (k : ℕ). get_or (links ++ first ∷ []) k 0) (sym end ∙ ap (λ (k : ℕ). k + 0) e) ∙ get_or-append-add links (first ∷ []) 0 0 in
    let frees : walk (links ++ first ∷ []) first free ≡ walk links first free =
    walk_more links first first free (λ c h. inside c (omega (arith, times-append c (walk links first free) (chained links 0 lengths)))) in
    let chains : chained (links ++ first ∷ []) 0 (lengths ++ None ∷ []) ≡ chained links 0 lengths =
    chained_push (links ++ first ∷ []) 0 lengths
    ∙ chained_more links first 0 lengths (λ c h. inside c (omega (arith, times-append c (walk links first free) (chained links 0 lengths)))) in
    rw (add-one free, next, frees, chains) refl

none_of : (t c n : ℕ) → n ≡ c → (0 < t → c < n) → t ≤ 0
none_of zero c n same low = omega arith
none_of (suc t) c n same low = (let l = low (omega arith) in omega arith)

once_more : (c n : ℕ) (rest : List ℕ) → times c rest ≤ 1 → (0 < times c rest → c < n) → times c (n ∷ rest) ≤ 1
once_more c n rest once low = elim (cases_eq n c) as (λ _. times c (n ∷ rest) ≤ 1) [
  | inl same ↦
      let none : times c rest ≤ 0 = none_of (times c rest) c n same low in
      omega (arith, times_most c n rest)
  | inr other ↦ omega (arith, times_other c n rest other)
]

inside_more : (c n : ℕ) (rest : List ℕ) → (0 < times c rest → c < n) → 0 < times c (n ∷ rest) → c < n + 1
inside_more c n rest low h = elim (cases_eq n c) as (λ _. c < n + 1) [
  | inl same ↦ omega arith
  | inr other ↦ (let l = low (omega (arith, times_other c n rest other)) in omega arith)
]

full_more : (cells : List (List ℕ)) (z : List ℕ) → ((c : ℕ) → c < length cells → length (get_or cells c []) ≡ 256) → length z ≡ 256
    → (c : ℕ) → c < length (cells ++ z ∷ []) → length (get_or (cells ++ z ∷ []) c []) ≡ 256
full_more cells z full size c low = elim (cases_eq c (length cells)) as (λ _. length (get_or (cells ++ z ∷ []) c []) ≡ 256) [
  | inl same ↦
      let end : length cells + 0 ≡ length cells = omega arith in
      let is : get_or (cells ++ z ∷ []) c [] ≡ z =
      ap (λ (k : ℕ). get_or (cells ++ z ∷ []) k []) (same ∙ sym end) ∙ get_or-append-add cells (z ∷ []) 0 [] in
      rw is size
  | inr other ↦
      let inside : c < length cells = omega (arith, length_push cells z) in
      rw (get_or_append_left cells (z ∷ []) [] c inside) (full c inside)
]

pub whole_more : (cells : List (List ℕ)) (links : List ℕ) (lengths : List (Option ℕ)) (first free n : ℕ) (z : List ℕ)
    → IsWhole cells links lengths first free → n ≡ length lengths → length z ≡ 256
    → IsWhole (cells ++ z ∷ []) (links ++ first ∷ []) (lengths ++ None ∷ []) n (free + 1)
whole_more cells links lengths first free n z h e size =
    let inside : (c : ℕ) → 0 < times c (walk links first free ++ chained links 0 lengths) → c < length links = λ c k. (let l = h.inside c k in omega (arith, h.a_link_each)) in
    let all = all_more links lengths first free n (omega (arith, h.a_link_each)) inside in
    let more : length (lengths ++ None ∷ []) ≡ length lengths + 1 = length_push lengths None in
    record {
      a_link_each = omega (arith, length_push links first, h.a_link_each);
      a_cell_each = omega (arith, length_push cells z, h.a_cell_each);
      full_size = full_more cells z (λ c l. h.full_size c l) size;
      once = λ c. rw all (once_more c n (walk links first free ++ chained links 0 lengths) (h.once c) (λ k. (let l = h.inside c k in omega arith)));
      inside = λ c k.
          let l : c < n + 1 = inside_more c n (walk links first free ++ chained links 0 lengths) (λ k. (let l = h.inside c k in omega arith)) (rw all at k) in
          omega arith;
      all = omega (arith, h.all, sum_by_push taken_by lengths None);
    }

pub chains_with : (cells : List (List ℕ)) (links : List ℕ) (lengths : List (Option ℕ)) (first free : ℕ) (z : List ℕ) → IsWhole cells links lengths first free
    → chains_from (cells ++ z ∷ []) (links ++ first ∷ []) 0 (lengths ++ None ∷ []) ≡ chains_from cells links 0 lengths ++ None ∷ []
chains_with cells links lengths first free z h =
    let inside : (c : ℕ) → 0 < times c (chained links 0 lengths) → c < length lengths = chained_inside cells links lengths first free h in
    chains_push (cells ++ z ∷ []) (links ++ first ∷ []) 0 lengths
    ∙ ap (λ (r : List (Option (List ℕ))). r ++ None ∷ [])
    (chains_more (cells ++ z ∷ []) links first 0 lengths (λ c k. (let l = inside c k in omega (arith, h.a_link_each)))
    ∙ chains_kept cells (cells ++ z ∷ []) links 0 lengths
    (λ c k. get_or_append_left cells (z ∷ []) [] c (let l = inside c k in omega (arith, h.a_cell_each))))

use Rattle.std.proofs.Common.{◌≡◌, ℕ, ◌-◌, ◌*◌, ◌<◌, ◌≤◌, ◌++◌, ◌≢◌, inl, inr, List, [], ◌∷◌, length, take, drop, get_or, set, refl, sym, ap, ◌∙◌, arith, length-append, length-drop, length-take, length-set}
use Rattle.std.proofs.lemmas.List.{get_or-set_other, get_or-set_same, take_at, take_all, drop_all, append-nil, take-append-drop}
use Rattle.std.proofs.lemmas.Bool.{cases_lt, cases_eq}
use Rattle.cell_pool.specs.Region.{times, content, filled}
use Rattle.cell_pool.proofs.Walks.{times_here, times_there}
use Rattle.cell_pool.proofs.Frames.{not_head, not_rest}
use Rattle.cell_pool.proofs.Pieces.{take-append}

-- a cell with the first 256 bytes of a text over it
abbrev pub over : List ℕ → List ℕ → List ℕ
over bytes old = take 256 bytes ++ drop (length (take 256 bytes)) old

pub length-over : (bytes old : List ℕ) → length old ≡ 256 → length (over bytes old) ≡ 256
length-over bytes old h =
    length-append (take 256 bytes) (drop (length (take 256 bytes)) old)
    ∙ omega (arith, length-take 256 bytes, length-drop (length (take 256 bytes)) old)

pub length-filled : (cells : List (List ℕ)) (ws : List ℕ) (bytes : List ℕ) → length (filled cells ws bytes) ≡ length cells
length-filled cells [] bytes = refl
length-filled cells (w ∷ rest) bytes =
    length-filled (set cells w (over bytes (get_or cells w []))) rest (drop 256 bytes) ∙ length-set cells w (over bytes (get_or cells w []))

-- the other cells stay
pub filled_other : (cells : List (List ℕ)) (ws : List ℕ) (bytes : List ℕ) (c : ℕ) → times c ws ≡ 0
    → get_or (filled cells ws bytes) c [] ≡ get_or cells c []
filled_other cells [] bytes c h = refl
filled_other cells (w ∷ rest) bytes c h =
    let other : c ≢ w = λ (e : c ≡ w). not_head c w rest h (sym e) in
    filled_other (set cells w (over bytes (get_or cells w []))) rest (drop 256 bytes) c (not_rest c w rest h)
    ∙ get_or-set_other cells w c (over bytes (get_or cells w [])) [] other

abbrev pub AreFull : List (List ℕ) → Type 0
AreFull cells = (c : ℕ) → c < length cells → length (get_or cells c []) ≡ 256

-- each cell keeps its size
pub full_after_set : (cells : List (List ℕ)) (w : ℕ) (bytes : List ℕ) → AreFull cells → AreFull (set cells w (over bytes (get_or cells w [])))
full_after_set cells w bytes full c below =
    let inside : c < length cells = omega (arith, length-set cells w (over bytes (get_or cells w []))) in
    elim (cases_eq c w) as (λ _. length (get_or (set cells w (over bytes (get_or cells w []))) c []) ≡ 256) [
      | inl same ↦ rw (same, get_or-set_same cells w (over bytes (get_or cells w [])) [] (rw same at inside))
          (length-over bytes (get_or cells w []) (full w (rw same at inside)))
      | inr other ↦ rw (get_or-set_other cells w c (over bytes (get_or cells w [])) [] other) (full c inside)
    ]

pub full_filled : (cells : List (List ℕ)) (ws : List ℕ) (bytes : List ℕ) → AreFull cells → AreFull (filled cells ws bytes)
full_filled cells [] bytes full = full
full_filled cells (w ∷ rest) bytes full =
    full_filled (set cells w (over bytes (get_or cells w []))) rest (drop 256 bytes) (full_after_set cells w bytes full)

-- the front of a cell that was written over is the front of the text
pub front_over : (bytes old : List ℕ) → length old ≡ 256 → take (length bytes) (over bytes old) ≡ take 256 bytes
front_over bytes old h =
    elim (cases_lt 256 (length bytes)) as (λ _. take (length bytes) (over bytes old) ≡ take 256 bytes) [
      | inl more ↦
          let long : length (take 256 bytes) ≡ 256 = omega (arith, length-take 256 bytes) in
          let none : drop (length (take 256 bytes)) old ≡ [] = drop_all (length (take 256 bytes)) old (omega arith) in
          rw (none, append-nil (take 256 bytes)) (take_all (length bytes) (take 256 bytes) (omega arith))
      | inr few ↦
          let long : length (take 256 bytes) ≡ length bytes = omega (arith, length-take 256 bytes) in
          take_at (take 256 bytes) (drop (length (take 256 bytes)) old) (length bytes) long
    ]

-- a text that fits reads as it was written
pub filled_reads : (cells : List (List ℕ)) (ws : List ℕ) (bytes : List ℕ)
    → ((c : ℕ) → times c ws ≤ 1) → ((c : ℕ) → 0 < times c ws → c < length cells) → AreFull cells → length bytes ≤ 256 * length ws
    → take (length bytes) (content (filled cells ws bytes) ws) ≡ bytes
filled_reads cells [] [] once inside full fits = refl
filled_reads cells [] (b ∷ bs) once inside full fits = absurd (omega arith)
filled_reads cells (w ∷ rest) bytes once inside full fits =
    let new : List ℕ = over bytes (get_or cells w []) in
    let next : List (List ℕ) = set cells w new in
    let F : List (List ℕ) = filled next rest (drop 256 bytes) in
    let w_in : w < length cells = inside w (omega (arith, times_here w rest)) in
    let alone : times w rest ≡ 0 = omega (arith, times_here w rest, once w) in
    let here : get_or F w [] ≡ new = filled_other next rest (drop 256 bytes) w alone ∙ get_or-set_same cells w new [] w_in in
    let size : length new ≡ 256 = length-over bytes (get_or cells w []) (full w w_in) in
    let later : take (length (drop 256 bytes)) (content F rest) ≡ drop 256 bytes =
    filled_reads next rest (drop 256 bytes) (λ c. omega (arith, times_there c w rest, once c))
    (λ c k. let low : c < length cells = inside c (omega (arith, times_there c w rest)) in omega (arith, length-set cells w new))
    (full_after_set cells w bytes full) (omega (arith, length-drop 256 bytes)) in
    let left : length bytes - length new ≡ length (drop 256 bytes) = omega (arith, length-drop 256 bytes) in
    let split : take (length bytes) (new ++ content F rest) ≡ take (length bytes) new ++ take (length bytes - length new) (content F rest) =
    take-append (length bytes) new (content F rest) in
    let parts : take (length bytes) new ++ take (length bytes - length new) (content F rest) ≡ take 256 bytes ++ drop 256 bytes =
    rw (left, later, front_over bytes (get_or cells w []) (full w w_in)) refl in
    ap (λ (p : List ℕ). take (length bytes) (p ++ content F rest)) here ∙ split ∙ parts ∙ take-append-drop 256 bytes

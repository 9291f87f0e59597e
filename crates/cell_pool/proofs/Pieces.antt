use Rattle.std.proofs.Common.{◌≡◌, ℕ, suc, zero, ◌+◌, ◌-◌, ◌≤◌, ◌++◌, min, List, [], ◌∷◌, length, take, drop, get_or, set, refl, sym, ap, ◌∙◌, arith, length-append, append_assoc, length-drop, length-take}
use Rattle.std.proofs.lemmas.List.{take_min, drop_min, drop-drop, take_at, drop_at}
use Rattle.cell_pool.specs.Region.{filled}

-- what is left of a text, a piece of 256 bytes or all of it further on
pub piece_front : (bytes : List ℕ) (done part : ℕ) → part ≡ min (length bytes - done) 256 → take 256 (drop done bytes) ≡ take part (drop done bytes)
piece_front bytes done part e =
    let k : part ≡ min 256 (length (drop done bytes)) = omega (arith, length-drop done bytes) in
    rw k (sym (take_min 256 (drop done bytes)))

pub piece_rest : (bytes : List ℕ) (done part : ℕ) → part ≡ min (length bytes - done) 256 → drop 256 (drop done bytes) ≡ drop (done + part) bytes
piece_rest bytes done part e =
    let k : part ≡ min 256 (length (drop done bytes)) = omega (arith, length-drop done bytes) in
    rw (← drop-drop part done bytes, k) (sym (drop_min 256 (drop done bytes)))

-- one cell is filled
pub fill_step : (cells : List (List ℕ)) (c : ℕ) (ws : List ℕ) (bytes new : List ℕ) (done part : ℕ) (whole : List (List ℕ))
    → part ≡ min (length bytes - done) 256
    → new ≡ take part (drop done bytes) ++ drop (length (take part (drop done bytes))) (get_or cells c [])
    → filled cells (c ∷ ws) (drop done bytes) ≡ whole
    → filled (set cells c new) ws (drop (done + part) bytes) ≡ whole
fill_step cells c ws bytes new done part whole e n h =
    rw (n, ← piece_front bytes done part e, ← piece_rest bytes done part e) h

-- a front that ends inside the first of two lists, or past it
pub take-append : (n : ℕ) (xs ys : List ℕ) → take n (xs ++ ys) ≡ take n xs ++ take (n - length xs) ys
take-append zero xs ys = rw (let e : 0 - length xs ≡ 0 = omega arith in e) refl
take-append (suc n) [] ys = let e : suc n - 0 ≡ suc n = omega arith in rw e refl
take-append (suc n) (x ∷ xs) ys =
    let e : suc n - suc (length xs) ≡ n - length xs = omega arith in
    rw e (ap (λ (r : List ℕ). x ∷ r) (take-append n xs ys))

-- one cell is copied: the front grows by its part of the whole
pub front_step : (out new cell rest whole : List ℕ) (done size part : ℕ)
    → length cell ≡ 256 → done ≤ size → size ≤ length out → part ≡ min (size - done) 256
    → new ≡ take done out ++ take part cell ++ drop (done + length (take part cell)) out
    → take done out ++ take (size - done) (cell ++ rest) ≡ whole
    → take (done + part) new ++ take (size - (done + part)) rest ≡ whole
front_step out new cell rest whole done size part full within room e n h =
    let m : part ≡ min (size - done) (length cell) = omega arith in
    let long : length (take done out ++ take part cell) ≡ done + part =
    length-append (take done out) (take part cell) ∙ omega (arith, length-take done out, length-take part cell) in
    let front : take (done + part) new ≡ take done out ++ take part cell =
    rw n (take_at (take done out ++ take part cell) (drop (done + length (take part cell)) out) (done + part) long) in
    let same : take (size - done) cell ≡ take part cell = rw m (sym (take_min (size - done) cell)) in
    let rest_size : size - done - length cell ≡ size - (done + part) = omega arith in
    rw (front, append_assoc (take done out) (take part cell) (take (size - (done + part)) rest), ← same, ← rest_size, ← take-append (size - done) cell rest) h

-- what stands past the size stays
pub back_step : (out new piece : List ℕ) (done size : ℕ) → done + length piece ≤ size → size ≤ length out
    → new ≡ take done out ++ piece ++ drop (done + length piece) out → drop size new ≡ drop size out
back_step out new piece done size within room n =
    let front : List ℕ = take done out ++ piece in
    let long : length front ≡ done + length piece = length-append (take done out) piece ∙ omega (arith, length-take done out) in
    let gap : ℕ = size - (done + length piece) in
    let reach : done + length piece + gap ≡ size = omega arith in
    let cut : drop size new ≡ drop gap (drop (done + length piece) new) = rw (drop-drop gap (done + length piece) new, reach) refl in
    let same : drop gap (drop (done + length piece) out) ≡ drop size out = rw (drop-drop gap (done + length piece) out, reach) refl in
    rw (cut, n, drop_at front (drop (done + length piece) out) (done + length piece) long) same

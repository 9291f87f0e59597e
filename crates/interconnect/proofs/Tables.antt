use Rattle.std.proofs.Common.{◌≡◌, ℕ, ◌<◌, ◌≢◌, true, false, List, [], length, map, get_or, set, sym, ap, ◌∙◌, arith, length-set}
use Rattle.std.proofs.lemmas.List.{get_or-map, map-set, get_or-set_same, get_or-set_other}
use Rattle.interconnect.specs.Keys.{AreNodes, IsOther, link_of}
use Rattle.interconnect.proofs.Places.{test_same}

no : true ≡ false → ⊥
no h = cc

-- two links have two places
pub links_apart : (f t from to : ℕ) → AreNodes f t → AreNodes from to → IsOther f t from to → link_of f t ≢ link_of from to
links_apart f t from to a b other s =
    let fl = a.from_low in let fh = a.from_high in let tl = a.to_low in let th = a.to_high in
    let gl = b.from_low in let gh = b.from_high in let ul = b.to_low in let uh = b.to_high in
    let e : from ≡ f = omega arith in
    let g : to ≡ t = omega arith in
    no (rw (test_same from f e, test_same to t g) at other)

-- what a table of lists has at a place, once one is written

pub own_now : {X : Type 0} (items : X → List ℕ) (links : List X) (place : ℕ) (y : X) → place < length links
    → get_or (map items (set links place y)) place [] ≡ items y
own_now items links place y l =
    get_or-map items (set links place y) place y [] (omega (arith, length-set links place y)) ∙ ap items (get_or-set_same links place y y l)

pub own_before : {X : Type 0} (items : X → List ℕ) (links : List X) (place : ℕ) (x : X) → place < length links → x ≡ get_or links place x
    → items x ≡ get_or (map items links) place []
own_before items links place x l e = ap items e ∙ sym (get_or-map items links place x [] l)

pub others_now : {X : Type 0} (items : X → List ℕ) (links : List X) (place k : ℕ) (y : X) → k ≢ place
    → get_or (map items (set links place y)) k [] ≡ get_or (map items links) k []
others_now items links place k y ne =
    ap (λ (l : List (List ℕ)). get_or l k []) (map-set items links place y) ∙ get_or-set_other (map items links) place k (items y) [] ne

use Rattle.std.proofs.Common.{◌≡◌, ℕ, suc, zero, ◌+◌, ◌<◌, ◌≤◌, ◌++◌, ◌==◌, not, true, false, ◌≢◌, List, [], ◌∷◌, filter, Option, Some, None, IsSome, length, Bool, cond, get_or, set, remove, refl, sym, ap, ◌∙◌, subst, arith}
use Rattle.std.specs.List.{sum_by, find}
use Rattle.std.proofs.lemmas.List.Sums.{sum_by-cons}
use Rattle.std.proofs.lemmas.List.{get_or-set_other}
use Rattle.std.proofs.lemmas.Bool.{eqb-true}
use Rattle.cell_pool.specs.Cells.{cells_for, IsInUse, bytes_of}
use Rattle.interconnect.specs.Stored.{Stored}
use Rattle.interconnect.specs.Links.{cells_of}
use Rattle.interconnect.proofs.Places.{test_same, test_other}
use Rattle.interconnect.specs.Flights.{shown, all_shown, IsRising, LacksChain, IsApart}

-- the packet of a number, and those of others
abbrev pub named : ℕ → List Stored → Option Stored
named n held = find (λ h. h.number == n) held

abbrev pub others : ℕ → List Stored → List Stored
others n held = filter (λ h. not (h.number == n)) held

-- numbers that rise are at least the first
pub low_at : (low next : ℕ) (held : List Stored) (i : ℕ) (h : Stored) → IsRising low held next → i < length held → h ≡ get_or held i h → low ≤ h.number
low_at low next [] i h r l e = absurd (omega arith)
low_at low next (x ∷ rest) zero h r l e = let n : h.number ≡ x.number = ap (λ (v : Stored). v.number) e in let m = r.0 in omega arith
low_at low next (x ∷ rest) (suc i) h r l e =
    let m = r.0 in let k = low_at (x.number + 1) next rest i h r.1 (omega arith) e in omega arith

pub rising_ends : (low next : ℕ) (held : List Stored) → IsRising low held next → low ≤ next
rising_ends low next [] r = r
rising_ends low next (x ∷ rest) r = let m = r.0 in let k = rising_ends (x.number + 1) next rest r.1 in omega arith

pub rising_lower : (low base next : ℕ) (held : List Stored) → base ≤ low → IsRising low held next → IsRising base held next
rising_lower low base next [] b r = omega arith
rising_lower low base next (x ∷ rest) b r = (let m = r.0 in omega arith, r.1)

-- the packet of a number has a place
pub record HasPlace (held : List Stored) (n : ℕ) (h : Stored) : Type 0 where
  pub place : ℕ
  pub low : place < length held
  pub is : h ≡ get_or held place h
  pub at : h.number ≡ n

place_in : (b : Bool) (x : Stored) (rest : List Stored) (n : ℕ) (h : Stored) → (x.number == n) ≡ b → cond b (Some x) (named n rest) ≡ Some h
    → (named n rest ≡ Some h → HasPlace rest n h) → HasPlace (x ∷ rest) n h
place_in true x rest n h t e k =
    let same : x ≡ h = cc in
    record { place = 0; low = omega arith; is = sym same; at = ap (λ (v : Stored). v.number) (sym same) ∙ eqb-true x.number n t }
place_in false x rest n h t e k =
    let found = k e in let low = found.low in
    record { place = suc found.place; low = omega arith; is = found.is; at = found.at }

no_held : (h : Stored) → (let o : Option Stored = None in o ≡ Some h) → ⊥
no_held h e = cc

pub has_place : (held : List Stored) (n : ℕ) (h : Stored) → named n held ≡ Some h → HasPlace held n h
has_place [] n h e = absurd (no_held h e)
has_place (x ∷ rest) n h e = place_in (x.number == n) x rest n h refl e (has_place rest n h)

-- no packet has a number below all
others_all : (low next : ℕ) (held : List Stored) (n : ℕ) → IsRising low held next → n < low → others n held ≡ held
others_all low next [] n r b = refl
others_all low next (x ∷ rest) n r b =
    let m = r.0 in
    let t : (x.number == n) ≡ false = test_other x.number n (λ (s : x.number ≡ n). omega arith) in
    rw t (ap (λ (l : List Stored). x ∷ l) (others_all (x.number + 1) next rest n r.1 (omega arith)))

some_held : (h : Stored) → (let o : Option Stored = Some h in o ≡ None) → ⊥
some_held h e = cc

none_in : (b : Bool) (x : Stored) (rest : List Stored) (n : ℕ) → cond b (Some x) (named n rest) ≡ None → (named n rest ≡ None → others n rest ≡ rest)
    → cond (not b) (x ∷ others n rest) (others n rest) ≡ x ∷ rest
none_in true x rest n e k = absurd (some_held x e)
none_in false x rest n e k = ap (λ (l : List Stored). x ∷ l) (k e)

-- where there is no packet of a number, none is taken away
pub others_none : (held : List Stored) (n : ℕ) → named n held ≡ None → others n held ≡ held
others_none [] n e = refl
others_none (x ∷ rest) n e = none_in (x.number == n) x rest n e (others_none rest n)

-- without the packet at a place, by its number
pub others_remove : (low next : ℕ) (held : List Stored) (i : ℕ) (h : Stored) → IsRising low held next → i < length held
    → h ≡ get_or held i h → others h.number held ≡ remove held i
others_remove low next [] i h r l e = absurd (omega arith)
others_remove low next (x ∷ rest) zero h r l e =
    let n : h.number ≡ x.number = ap (λ (v : Stored). v.number) e in
    let t : (x.number == h.number) ≡ true = test_same x.number h.number (sym n) in
    rw t (others_all (x.number + 1) next rest h.number r.1 (omega arith))
others_remove low next (x ∷ rest) (suc i) h r l e =
    let k = low_at (x.number + 1) next rest i h r.1 (omega arith) e in
    let t : (x.number == h.number) ≡ false = test_other x.number h.number (λ (s : x.number ≡ h.number). omega arith) in
    rw t (ap (λ (q : List Stored). x ∷ q) (others_remove (x.number + 1) next rest i h r.1 (omega arith) e))

pub rising_remove : (low next : ℕ) (held : List Stored) (i : ℕ) → IsRising low held next → IsRising low (remove held i) next
rising_remove low next [] zero r = r
rising_remove low next [] (suc i) r = r
rising_remove low next (x ∷ rest) zero r = rising_lower (x.number + 1) low next rest (let m = r.0 in omega arith) r.1
rising_remove low next (x ∷ rest) (suc i) r = (r.0, rising_remove (x.number + 1) next rest i r.1)

pub rising_push : (low next : ℕ) (held : List Stored) (h : Stored) → IsRising low held next → h.number ≡ next → IsRising low (held ++ h ∷ []) (next + 1)
rising_push low next [] h r e = (omega arith, omega arith)
rising_push low next (x ∷ rest) h r e = (r.0, rising_push (x.number + 1) next rest h r.1 e)

pub rising_next : (low next : ℕ) (held : List Stored) → IsRising low held next → IsRising low held (next + 1)
rising_next low next [] r = omega arith
rising_next low next (x ∷ rest) r = (r.0, rising_next (x.number + 1) next rest r.1)

pub lacks_remove : (chain : ℕ) (held : List Stored) (i : ℕ) → LacksChain chain held → LacksChain chain (remove held i)
lacks_remove chain [] zero l = l
lacks_remove chain [] (suc i) l = l
lacks_remove chain (x ∷ rest) zero l = l.1
lacks_remove chain (x ∷ rest) (suc i) l = (l.0, lacks_remove chain rest i l.1)

pub lacks_push : (chain : ℕ) (held : List Stored) (h : Stored) → LacksChain chain held → h.chain ≢ chain → LacksChain chain (held ++ h ∷ [])
lacks_push chain [] h l e = (e, tt)
lacks_push chain (x ∷ rest) h l e = (l.0, lacks_push chain rest h l.1 e)

pub lacks_at : (chain : ℕ) (held : List Stored) (i : ℕ) (h : Stored) → LacksChain chain held → i < length held → h ≡ get_or held i h → h.chain ≢ chain
lacks_at chain [] i h l b e = absurd (omega arith)
lacks_at chain (x ∷ rest) zero h l b e = λ (s : h.chain ≡ chain). l.0 (ap (λ (v : Stored). v.chain) (sym e) ∙ s)
lacks_at chain (x ∷ rest) (suc i) h l b e = lacks_at chain rest i h l.1 (omega arith) e

-- a chain that goes or comes changes no other packet
pub shown_frame : (pool : List (Option (List ℕ))) (chain : ℕ) (y : Option (List ℕ)) (held : List Stored) → LacksChain chain held
    → all_shown (set pool chain y) held ≡ all_shown pool held
shown_frame pool chain y [] l = refl
shown_frame pool chain y (x ∷ rest) l =
    let same : get_or (set pool chain y) x.chain None ≡ get_or pool x.chain None = get_or-set_other pool chain x.chain y None l.0 in
    rw (same, shown_frame pool chain y rest l.1) refl

pub apart_frame : (pool : List (Option (List ℕ))) (chain : ℕ) (y : Option (List ℕ)) (held : List Stored) → LacksChain chain held
    → IsApart pool held → IsApart (set pool chain y) held
apart_frame pool chain y [] l a = a
apart_frame pool chain y (x ∷ rest) l a =
    let same : get_or (set pool chain y) x.chain None ≡ get_or pool x.chain None = get_or-set_other pool chain x.chain y None l.0 in
    (rw same a.0, rw same a.1, a.2, apart_frame pool chain y rest l.1 a.3)

no_some : false ≡ true → ⊥
no_some h = cc

-- a chain that is not in use is no packet's
pub unused_lacks : (pool : List (Option (List ℕ))) (chain : ℕ) (held : List Stored) → get_or pool chain None ≡ None → IsApart pool held → LacksChain chain held
unused_lacks pool chain [] e a = tt
unused_lacks pool chain (x ∷ rest) e a =
    (λ (s : x.chain ≡ chain). no_some (let used : IsSome (get_or pool x.chain None) = a.0 in rw (s, e) at used), unused_lacks pool chain rest e a.3)

pub apart_push : (pool : List (Option (List ℕ))) (held : List Stored) (h : Stored) → IsApart pool held → LacksChain h.chain held → IsInUse pool h.chain
    → length (bytes_of pool h.chain) ≤ 131072 → IsApart pool (held ++ h ∷ [])
apart_push pool [] h a l u s = (u, s, tt, tt)
apart_push pool (x ∷ rest) h a l u s =
    (a.0, a.1, lacks_push x.chain rest h a.2 (λ (e : h.chain ≡ x.chain). l.0 (sym e)), apart_push pool rest h a.3 l.1 u s)

pub apart_remove : (pool : List (Option (List ℕ))) (held : List Stored) (i : ℕ) → IsApart pool held → IsApart pool (remove held i)
apart_remove pool [] zero a = a
apart_remove pool [] (suc i) a = a
apart_remove pool (x ∷ rest) zero a = a.3
apart_remove pool (x ∷ rest) (suc i) a = (a.0, a.1, lacks_remove x.chain rest i a.2, apart_remove pool rest i a.3)

-- the packet at a place: its chain is in use, and the others have another
pub record Own (pool : List (Option (List ℕ))) (others : List Stored) (chain : ℕ) : Type 0 where
  pub in_use : IsInUse pool chain
  pub size : length (bytes_of pool chain) ≤ 131072
  pub alone : LacksChain chain others

pub own_at : (pool : List (Option (List ℕ))) (held : List Stored) (i : ℕ) (h : Stored) → IsApart pool held → i < length held → h ≡ get_or held i h
    → Own pool (remove held i) h.chain
own_at pool [] i h a l e = absurd (omega arith)
own_at pool (x ∷ rest) zero h a l e =
    let n : x.chain ≡ h.chain = sym (ap (λ (v : Stored). v.chain) e) in
    subst (λ (c : ℕ). Own pool rest c) n (record { in_use = a.0; size = a.1; alone = a.2 })
own_at pool (x ∷ rest) (suc i) h a l e =
    let k = own_at pool rest i h a.3 (omega arith) e in
    record { in_use = k.in_use; size = k.size; alone = ((λ (s : x.chain ≡ h.chain). lacks_at x.chain rest i h a.2 (omega arith) e (sym s)), k.alone) }

-- the cells of the packets but one
pub cells_remove : (pool : List (Option (List ℕ))) (held : List Stored) (i : ℕ) (h : Stored) → i < length held → h ≡ get_or held i h
    → sum_by cells_of (all_shown pool (remove held i)) + cells_for (length (bytes_of pool h.chain)) ≡ sum_by cells_of (all_shown pool held)
cells_remove pool [] i h l e = absurd (omega arith)
cells_remove pool (x ∷ rest) zero h l e =
    let n : bytes_of pool h.chain ≡ bytes_of pool x.chain = ap (λ (v : Stored). bytes_of pool v.chain) e in
    rw n (omega (arith, sum_by-cons cells_of (shown pool x) (all_shown pool rest)))
cells_remove pool (x ∷ rest) (suc i) h l e =
    omega (
      arith,
      sum_by-cons cells_of (shown pool x) (all_shown pool rest),
      sum_by-cons cells_of (shown pool x) (all_shown pool (remove rest i)),
      cells_remove pool rest i h (omega arith) e,
    )

-- each packet takes a cell at least
pub packets_fit : (pool : List (Option (List ℕ))) (held : List Stored) → length held ≤ sum_by cells_of (all_shown pool held)
packets_fit pool [] = omega arith
packets_fit pool (x ∷ rest) = omega (arith, sum_by-cons cells_of (shown pool x) (all_shown pool rest), packets_fit pool rest)

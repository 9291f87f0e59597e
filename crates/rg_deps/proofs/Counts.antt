-- Counts of edges.
use Rattle.std.proofs.Common.{◌≡◌, ℕ, suc, ◌+◌, ◌<◌, ◌≤◌, ◌==◌, nat_eq, Bool, true, false, cond, not, ◌&&◌, ◌||◌, filter, List, [], ◌∷◌, ◌++◌, length, take, get_or, refl, sym, ap, ◌∙◌, append-nil, append_assoc, arith}
use Rattle.std.proofs.lemmas.Bool.{eqb-true, ne_eqb}
use Rattle.std.proofs.lemmas.List.{take_more}
use Rattle.std.specs.Cmp.{nat_eq_equiv}
use Rattle.std.specs.List.{list_any}
use Rattle.rg_deps.specs.declared.graph.Edge.{Edge}
use Rattle.rg_deps.specs.Choice.{times, left_count}
use Rattle.rg_deps.specs.Cycles.{edges_left}
use Rattle.rg_deps.specs.Order.{stands}
use Rattle.rg_deps.specs.Places.{behind, behind_by, edge_count}

behind-append : (xs ys : List Edge) (q : ℕ) → behind (xs ++ ys) q ≡ behind xs q ++ behind ys q
behind-append [] ys q = refl
behind-append (x ∷ xs) ys q = ap (λ (l : List ℕ). behind_by x q ++ l) (behind-append xs ys q) ∙ sym (append_assoc (behind_by x q) (behind xs q) (behind ys q))

pub behind_more : (edges : List Edge) (i : ℕ) (d : Edge) (q : ℕ) → i < length edges → behind (take (i + 1) edges) q ≡ behind (take i edges) q ++ behind_by (get_or edges i d) q
behind_more edges i d q lt =
    ap (λ (l : List Edge). behind l q) (take_more edges i d lt) ∙ behind-append (take i edges) (get_or edges i d ∷ []) q
    ∙ ap (λ (l : List ℕ). behind (take i edges) q ++ l) (append-nil (behind_by (get_or edges i d) q))

pub count_most : (edges : List Edge) (p : ℕ) → edge_count edges p ≤ length edges
count_most [] p = omega arith
count_most (e ∷ es) p = by (p == e.from) (count_most es p)
  where
    by : (b : Bool) → edge_count es p ≤ length es → length (cond b (e ∷ filter (λ e. p == e.from) es) (filter (λ e. p == e.from) es)) ≤ length (e ∷ es)
    by true ih = omega (arith, ih)
    by false ih = omega (arith, ih)

-- there are some where the count is not 0
pub any_counted : {A : Type 0} (test : A → Bool) (xs : List A) → list_any test xs ≡ not (length (filter test xs) == 0)
any_counted test [] = refl
any_counted {A} test (x ∷ xs) = by (test x) (any_counted test xs)
  where
    by : (b : Bool) → list_any test xs ≡ not (length (filter test xs) == 0) → (b || list_any test xs) ≡ not (length (cond b (x ∷ filter test xs) (filter test xs)) == 0)
    by true ih = ap not (sym (ne_eqb (length (x ∷ filter test xs)) 0 (λ s. omega (arith, s))))
    by false ih = ih

-- where nothing stands, all edges of a place are left
pub all_left : (edges : List Edge) (p : ℕ) → edge_count edges p ≡ left_count edges [] p
all_left [] p = refl
all_left (e ∷ es) p = by (p == e.from) (all_left es p) ∙ ap (λ (b : Bool). length (cond b (e ∷ edges_left es (stands []) p) (edges_left es (stands []) p))) (whole (p == e.from) ∙ ap (λ (b : Bool). b && true) (nat_eq_equiv.symm p e.from))
  where
    whole : (b : Bool) → b ≡ (b && true)
    whole true = refl
    whole false = refl

    by : (b : Bool) → edge_count es p ≡ left_count es [] p → length (cond b (e ∷ filter (λ e. p == e.from) es) (filter (λ e. p == e.from) es)) ≡ length (cond b (e ∷ edges_left es (stands []) p) (edges_left es (stands []) p))
    by true ih = ap suc ih
    by false ih = ih

-- Where q comes to stand, so many fewer are left of a place as it has edges to q.
pub fewer_left : (edges : List Edge) (few many : ℕ → Bool) (q : ℕ) → few q ≡ false → ((p : ℕ) → many p ≡ (few p || nat_eq p q)) → (p : ℕ)
    → length (edges_left edges few p) ≡ length (edges_left edges many p) + times (behind edges q) p
fewer_left [] few many q new more p = refl
fewer_left (e ∷ es) few many q new more p =
    by (e.from == p) (q == e.to) (few e.to) off (fewer_left es few many q new more p)
    ∙ (λ i. length (cond ((e.from == p) && not (sym stood i)) (e ∷ many_left) many_left) + length (cond (q == e.to) (cond (nat_eq_equiv.symm e.from p i) (e.from ∷ ts) ts) ts))
    ∙ ap (λ (l : List ℕ). length (cond ((e.from == p) && not (many e.to)) (e ∷ many_left) many_left) + length l) (split (q == e.to))
  where
    few_left : List Edge
    few_left = edges_left es few p

    many_left : List Edge
    many_left = edges_left es many p

    ts : List ℕ
    ts = filter (λ x. p == x) (behind es q)

    stood : many e.to ≡ (few e.to || (q == e.to))
    stood = more e.to ∙ ap (λ (b : Bool). few e.to || b) (nat_eq_equiv.symm e.to q)

    off : (q == e.to) ≡ true → few e.to ≡ false
    off same = ap few (sym (eqb-true q e.to same)) ∙ new

    split : (b : Bool) → cond b (cond (p == e.from) (e.from ∷ ts) ts) ts ≡ filter (λ x. p == x) (cond b (e.from ∷ []) [] ++ behind es q)
    split true = refl
    split false = refl

    by : (a b c : Bool) → (b ≡ true → c ≡ false) → length few_left ≡ length many_left + length ts
        → length (cond (a && not c) (e ∷ few_left) few_left) ≡ length (cond (a && not (c || b)) (e ∷ many_left) many_left) + length (cond b (cond a (e.from ∷ ts) ts) ts)
    by true true true h ih = cc (h refl)
    by true true false h ih = omega (arith, ih)
    by true false true h ih = omega (arith, ih)
    by true false false h ih = omega (arith, ih)
    by false true c h ih = omega (arith, ih)
    by false false c h ih = omega (arith, ih)

-- A walk ends in a cycle.
use Rattle.std.proofs.Common.{◌≡◌, ℕ, zero, suc, add-one, ◌+◌, ◌<◌, ◌==◌, nat_eq, nat_lt, min, Bool, true, false, not, ◌&&◌, inl, inr, fold, filter, Option, None, Some, List, [], ◌∷◌, ◌++◌, length, drop, position, get_or, refl, sym, subst, arith, IfSome}
use Rattle.std.proofs.lemmas.Bool.{and_parts, and_from, or_left, or_right, cases_lt, ltb-false, eqb-true, eq-eqb}
use Rattle.std.proofs.lemmas.List.Sums.{prefix_len-le-length}
use Rattle.std.specs.List.{All, position_or_len}
use Rattle.std.specs.Option.{unwrap_or}
use Rattle.rg_deps.specs.declared.graph.Edge.{Edge}
use Rattle.rg_deps.specs.Cycles.{earlier, first_target, walk}
use Rattle.rg_deps.specs.Laws.{has_target, Lead, IsClosed, CycleIsClosed}
use Rattle.rg_deps.specs.Order.{stands, first_left}

-- a first target is a target
module _ (P : ℕ → Type 0) (test : Edge → Bool) where
  pub first_is : (edges : List Edge) → All (λ e. test e ≡ true → P e.to) edges → (best : Option ℕ) → IfSome best P → IfSome (fold earlier best (filter test edges)) P
  first_is [] h best b = b
  first_is (e ∷ es) h best b = by (test e) refl (first_is es (λ k d lt. h (suc k) d (omega (arith, lt, add-one k))))
    where
      kept : P e.to → (best : Option ℕ) → IfSome best P → IfSome (earlier best e) P
      kept own None b = own
      kept own (Some p) b = elim (cases_lt p e.to) [
        | inl less ↦ let m : min p e.to ≡ p = omega (arith, less) in subst P (sym m) b
        | inr more ↦ let m : min p e.to ≡ e.to = omega (arith, more) in subst P (sym m) own
      ]

      by : (c : Bool) → test e ≡ c → ((best : Option ℕ) → IfSome best P → IfSome (fold earlier best (filter test es)) P) → IfSome (fold earlier best (filter test (e ∷ es))) P
      by true q ih = rw q (ih (earlier best e) (kept (h 0 e (omega arith) q) best b))
      by false q ih = rw q (ih best b)

pub targets_are : (edges : List Edge) (standing : ℕ → Bool) (p : ℕ) (k : ℕ) (d : Edge) → k < length edges
    → (((get_or edges k d).from == p) && not (standing (get_or edges k d).to)) ≡ true → has_target edges p (get_or edges k d).to ≡ true
targets_are [] standing p k d lt h = absurd (omega (arith, lt))
targets_are (e ∷ es) standing p zero d lt h =
    let from : e.from ≡ p = eqb-true e.from p (and_parts (e.from == p) (not (standing e.to)) h).0 in
    or_left (nat_eq p e.from && nat_eq e.to e.to) (has_target es p e.to) (and_from (nat_eq p e.from) (nat_eq e.to e.to) (eq-eqb p e.from (sym from)) (eq-eqb e.to e.to refl))
targets_are (e ∷ es) standing p (suc k) d lt h =
    or_right (nat_eq p e.from && nat_eq (get_or es k d).to e.to) (has_target es p (get_or es k d).to) (targets_are es standing p k d (omega (arith, lt, add-one k)) h)

is_target : (edges : List Edge) (standing : ℕ → Bool) (p : ℕ) → IfSome (first_target edges standing p) (λ q. has_target edges p q ≡ true)
is_target edges standing p =
    first_is (λ q. has_target edges p q ≡ true) (λ e. (e.from == p) && not (standing e.to)) edges (λ k d lt h. targets_are edges standing p k d lt h) None tt

lead_more : (edges : List Edge) (path : List ℕ) (p q : ℕ) → Lead edges path p → has_target edges p q ≡ true → Lead edges (path ++ p ∷ []) q
lead_more edges [] p q h e = e
lead_more edges (x ∷ []) p q h e = (h, e)
lead_more edges (x ∷ y ∷ rest) p q h e = (h.0, lead_more edges (y ∷ rest) p q h.1 e)

-- the path from a place on, one place after the other
pub unwrapped : (p : ℕ) (path : List ℕ) → unwrap_or (position (nat_eq p) path) (length path) ≡ position_or_len (nat_eq p) path
unwrapped p path = by (nat_lt (position_or_len (nat_eq p) path) (length path)) refl
  where
    by : (b : Bool) → nat_lt (position_or_len (nat_eq p) path) (length path) ≡ b → unwrap_or (position (nat_eq p) path) (length path) ≡ position_or_len (nat_eq p) path
    by true e = rw e refl
    by false e = rw e (omega (arith, ltb-false (position_or_len (nat_eq p) path) (length path) e, prefix_len-le-length (λ x. not (nat_eq p x)) path))

tail_lead : (edges : List Edge) (x : ℕ) (xs : List ℕ) (p : ℕ) → Lead edges (x ∷ xs) p → Lead edges xs p
tail_lead edges x [] p h = tt
tail_lead edges x (y ∷ ys) p h = h.1

closed_from : (edges : List Edge) (p : ℕ) (path : List ℕ) → Lead edges path p → IsClosed edges (drop (position_or_len (nat_eq p) path) path)
closed_from edges p [] h = tt
closed_from edges p (x ∷ xs) h = by (nat_eq p x) refl (closed_from edges p xs (tail_lead edges x xs p h))
  where
    by : (b : Bool) → nat_eq p x ≡ b → IsClosed edges (drop (position_or_len (nat_eq p) xs) xs) → IsClosed edges (drop (position_or_len (nat_eq p) (x ∷ xs)) (x ∷ xs))
    by true e ih = let own : p ≡ x = eqb-true p x e in rw e (subst (λ (q : ℕ). Lead edges (x ∷ xs) q) own h)
    by false e ih =
        let n : ℕ = position_or_len (nat_eq p) xs in
        let one : suc n ≡ 1 + n = omega (arith, add-one n) in
        rw e (subst (λ (k : ℕ). IsClosed edges (drop k (x ∷ xs))) one ih)

walk_closed : (edges : List Edge) (target : ℕ → Option ℕ) → ((p : ℕ) → IfSome (target p) (λ q. has_target edges p q ≡ true)) → (n : ℕ) (path : List ℕ) (at : Option ℕ) → IfSome at (λ p. Lead edges path p) → IsClosed edges (walk target n path at)
walk_closed edges target sound zero path at h = tt
walk_closed edges target sound (suc n) path None h = tt
walk_closed edges target sound (suc n) path (Some p) h = by (stands path p) refl (walk_closed edges target sound n (path ++ p ∷ []) (target p) (onward (target p) (sound p)))
  where
    onward : (o : Option ℕ) → IfSome o (λ q. has_target edges p q ≡ true) → IfSome o (λ q. Lead edges (path ++ p ∷ []) q)
    onward None e = tt
    onward (Some q) e = lead_more edges path p q h e

    by : (b : Bool) → stands path p ≡ b → IsClosed edges (walk target n (path ++ p ∷ []) (target p)) → IsClosed edges (walk target (suc n) path (Some p))
    by true e ih = rw e (subst (λ (k : ℕ). IsClosed edges (drop k path)) (sym (unwrapped p path)) (closed_from edges p path h))
    by false e ih = rw e ih

pub cycle_is_closed : CycleIsClosed
cycle_is_closed things edges standing =
    walk_closed edges (first_target edges standing) (is_target edges standing) (length things + 1) [] (first_left things standing) (start (first_left things standing))
  where
    start : (o : Option ℕ) → IfSome o (λ p. Lead edges [] p)
    start None = tt
    start (Some p) = tt

-- Which nodes a set has, and how many, once nodes are added.
use Rattle.std.proofs.Common.{◌≡◌, ◌≢◌, ◌⊎◌, inl, inr, ℕ, zero, suc, ◌+◌, ◌-◌, ◌^◌, ◌<◌, ◌≤◌, ◌==◌, Bool, true, false, cond, ◌&&◌, ◌||◌, List, [], ◌∷◌, ◌++◌, filter, fold, refl, sym, ap, subst, ◌∙◌, add-one, arith}
use Rattle.std.specs.List.{list_any}
use Rattle.std.proofs.lemmas.Bool.Decides.{eqb_tells, nat_tests}
use Rattle.std.proofs.lemmas.List.Folds.{list_any-append}
use Rattle.cl_base.specs.Sets.{has, set_with, count_to}
use Rattle.cl_base.proofs.SetLemmas.{has_with, or_bit_value, none_of_zero}
use Rattle.placement.specs.Best.{is_listed}
use Rattle.placement.specs.Goals.{set_of}

-- a node's number
pub record IsNode (n : ℕ) : Type 0 where
  pub low : 1 ≤ n
  pub high : n ≤ 32

pub has_joined : (s n m : ℕ) → IsNode n → has (set_with s n) m ≡ ((m == n) || has s m)
has_joined s n m node = subst (λ z. has z m ≡ ((m == n) || has s m)) (or_bit_value s n node.high) (has_with s n node.low node.high m)

pub same_number : (m n : ℕ) → (m == n) ≡ true → m ≡ n
same_number m n e = by (eqb_tells m n)
  where
    by : ((m == n) ≡ true) × (m ≡ n) ⊎ ((m == n) ≡ false) × (m ≢ n) → m ≡ n
    by (inl (_, same)) = same
    by (inr (off, _)) = absurd (cc)

pub number_itself : (n : ℕ) → (n == n) ≡ true
number_itself n = grind (arith, nat_tests)

pub has_added : (s n : ℕ) → IsNode n → has (set_with s n) n ≡ true
has_added s n node = has_joined s n n node ∙ rw (number_itself n) refl

pub has_still : (s n m : ℕ) → IsNode n → has s m ≡ true → has (set_with s n) m ≡ true
has_still s n m node h = has_joined s n m node ∙ rw h (by (m == n))
  where
    by : (b : Bool) → (b || true) ≡ true
    by true = refl
    by false = refl

pub has_before : (s n m : ℕ) → IsNode n → has (set_with s n) m ≡ true → (m ≡ n) ⊎ (has s m ≡ true)
has_before s n m node h = by (eqb_tells m n)
  where
    by : ((m == n) ≡ true) × (m ≡ n) ⊎ ((m == n) ≡ false) × (m ≢ n) → (m ≡ n) ⊎ (has s m ≡ true)
    by (inl (_, same)) = inl same
    by (inr (off, _)) = inr (sym (sym h ∙ has_joined s n m node ∙ ap (λ (b : Bool). b || has s m) off))

-- the count of a set with one more node
counted_to : (s n k : ℕ) → IsNode n → has s n ≡ false → (k < n → count_to (set_with s n) k ≡ count_to s k) × (n ≤ k → count_to (set_with s n) k ≡ count_to s k + 1)
counted_to s n zero node out = (λ lt. refl, λ le. absurd (omega (arith, node.low)))
counted_to s n (suc k) node out = by (eqb_tells (k + 1) n) (counted_to s n k node out)
  where
    by : ((k + 1 == n) ≡ true) × (k + 1 ≡ n) ⊎ ((k + 1 == n) ≡ false) × (k + 1 ≢ n)
        → (k < n → count_to (set_with s n) k ≡ count_to s k) × (n ≤ k → count_to (set_with s n) k ≡ count_to s k + 1)
        → (suc k < n → count_to (set_with s n) (suc k) ≡ count_to s (suc k)) × (n ≤ suc k → count_to (set_with s n) (suc k) ≡ count_to s (suc k) + 1)
    by (inl (on, e)) before =
        let there : has (set_with s n) (k + 1) ≡ true = has_joined s n (k + 1) node ∙ ap (λ (b : Bool). b || has s (k + 1)) on in
        let old : has s (k + 1) ≡ false = ap (has s) e ∙ out in
        (λ lt. absurd (omega arith), λ le. rw (there, old) (omega (arith, before.0 (omega arith))))
    by (inr (off, e)) before =
        let there : has (set_with s n) (k + 1) ≡ has s (k + 1) = has_joined s n (k + 1) node ∙ ap (λ (b : Bool). b || has s (k + 1)) off in
        (λ lt. rw there (omega (arith, before.0 (omega arith))), λ le. rw there (omega (arith, before.1 (omega arith))))

pub count_joined : (s n : ℕ) → IsNode n → has s n ≡ false → count_to (set_with s n) 32 ≡ count_to s 32 + 1
count_joined s n node out = (counted_to s n 32 node out).1 node.high

-- the listed nodes that pass a test
both : (m n : ℕ) (test : ℕ → Bool) → ((m == n) && test n) ≡ ((m == n) && test m)
both m n test = by (eqb_tells m n)
  where
    by : ((m == n) ≡ true) × (m ≡ n) ⊎ ((m == n) ≡ false) × (m ≢ n) → ((m == n) && test n) ≡ ((m == n) && test m)
    by (inl (_, same)) = ap (λ (k : ℕ). (m == n) && test k) (sym same)
    by (inr (off, _)) = rw off refl

pub has_set_of : (test : ℕ → Bool) (nodes : List ℕ) (a m : ℕ) → ((n : ℕ) → test n ≡ true → IsNode n)
    → has (fold set_with a (filter test nodes)) m ≡ (has a m || (is_listed nodes m && test m))
unfolding is_listed
has_set_of test [] a m ok = by (has a m)
  where
    by : (b : Bool) → b ≡ (b || false)
    by true = refl
    by false = refl
has_set_of test (n ∷ ns) a m ok = by (test n) refl (λ start. has_set_of test ns start m ok)
  where
    with : (p q r t : Bool) → (p && true) ≡ (p && t) → ((p || q) || (r && t)) ≡ (q || ((p || r) && t))
    with true true true true e = refl
    with true true true false e = refl
    with true true false true e = refl
    with true true false false e = refl
    with true false true true e = refl
    with true false true false e = e
    with true false false true e = refl
    with true false false false e = e
    with false q r t e = refl

    without : (p q r t : Bool) → (p && false) ≡ (p && t) → (q || (r && t)) ≡ (q || ((p || r) && t))
    without true true r t e = refl
    without true false true true e = refl
    without true false false true e = e
    without true false true false e = refl
    without true false false false e = refl
    without false q r t e = refl

    by : (b : Bool) → b ≡ test n → ((start : ℕ) → has (fold set_with start (filter test ns)) m ≡ (has start m || (is_listed ns m && test m)))
        → has (fold set_with a (cond b (n ∷ filter test ns) (filter test ns))) m ≡ (has a m || (((m == n) || is_listed ns m) && test m))
    by true e rest = rest (set_with a n) ∙ ap (λ (b : Bool). b || (is_listed ns m && test m)) (has_joined a n m (ok n (sym e)))
        ∙ with (m == n) (has a m) (is_listed ns m) (test m) (ap (λ (b : Bool). (m == n) && b) e ∙ both m n test)
    by false e rest = rest a ∙ without (m == n) (has a m) (is_listed ns m) (test m) (ap (λ (b : Bool). (m == n) && b) e ∙ both m n test)

pub has_set : (test : ℕ → Bool) (nodes : List ℕ) (m : ℕ) → ((n : ℕ) → test n ≡ true → IsNode n) → has (set_of test nodes) m ≡ (is_listed nodes m && test m)
has_set test nodes m ok = has_set_of test nodes 0 m ok ∙ ap (λ (b : Bool). b || (is_listed nodes m && test m)) (none_of_zero m)

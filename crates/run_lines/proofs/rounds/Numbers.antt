-- The nodes of a set are numbers of which none stands twice.
use Rattle.std.specs.Prelude.{ℕ, zero, suc, ◌≢◌, ◌≤◌, ◌<◌, ◌++◌, List, [], ◌∷◌}
use Rattle.std.specs.List.{AllByRecursion}
use Rattle.std.proofs.Common.{refl, inl, inr, arith}
use Rattle.cl_base.specs.Limits.{most_nodes}
use Rattle.cl_base.specs.Numbers.{numbers_to}
use Rattle.cl_base.specs.Sets.{has}
use Rattle.cmm_attempt.proofs.Basics.{if_either}
use Rattle.run_history.specs.Rounds.{listed, numbers_below}
use Rattle.run_lines.specs.rounds.Following.{AreOf, Differ, IsIn}

-- ---- one more at the end

all_one : (P : ℕ → Type 0) (ns : List ℕ) (k : ℕ) → AllByRecursion P ns → P k → AllByRecursion P (ns ++ k ∷ [])
all_one P [] k h p = (p, tt)
all_one P (n ∷ ns) k h p = (h.0, all_one P ns k h.1 p)

all_grow : (P Q : ℕ → Type 0) (ns : List ℕ) → ((n : ℕ) → P n → Q n) → AllByRecursion P ns → AllByRecursion Q ns
all_grow P Q [] f h = tt
all_grow P Q (n ∷ ns) f h = (f n h.0, all_grow P Q ns f h.1)

differ_one : (ns : List ℕ) (k : ℕ) → Differ ns → AllByRecursion (λ n. n < k) ns → Differ (ns ++ k ∷ [])
differ_one [] k h low = (tt, tt)
differ_one (n ∷ ns) k h low = (all_one (λ m. m ≢ n) ns k h.0 (apart n k low.0), differ_one ns k h.1 low.1)
  where
    apart : (a b : ℕ) → a < b → b ≢ a
    apart a b l e = omega (arith, l, e)

-- ---- the numbers of a set

more : (k n : ℕ) → n < k → n < suc k
more k n h = omega (arith, h)

last : (k : ℕ) → k < suc k
last k = omega arith

low_step : (set k : ℕ) → AllByRecursion (λ n. n < suc k) (numbers_to set k) → AllByRecursion (λ n. n < suc (suc k)) (numbers_to set (suc k))
low_step set k h =
    let lower : AllByRecursion (λ n. n < suc (suc k)) (numbers_to set k) = all_grow (λ n. n < suc k) (λ n. n < suc (suc k)) (numbers_to set k) (λ n less. more (suc k) n less) h in
    if_either (λ ns. AllByRecursion (λ n. n < suc (suc k)) ns) (has set (suc k)) (numbers_to set k ++ suc k ∷ []) (numbers_to set k)
    (all_one (λ n. n < suc (suc k)) (numbers_to set k) (suc k) lower (last (suc k))) lower

numbers_low : (set k : ℕ) → AllByRecursion (λ n. n < suc k) (numbers_to set k)
numbers_low set zero = tt
numbers_low set (suc k) = low_step set k (numbers_low set k)

numbers_differ : (set k : ℕ) → Differ (numbers_to set k)
numbers_differ set zero = tt
numbers_differ set (suc k) =
    if_either Differ (has set (suc k)) (numbers_to set k ++ suc k ∷ []) (numbers_to set k) (differ_one (numbers_to set k) (suc k) (numbers_differ set k) (numbers_low set k)) (numbers_differ set k)

-- each is among all
all_in : (all ns : List ℕ) → ((n : ℕ) → IsIn n ns → IsIn n all) → AllByRecursion (λ n. IsIn n all) ns
all_in all [] f = tt
all_in all (n ∷ ns) f = (f n (inl refl), all_in all ns (λ m h. f m (inr h)))

pub listed_are : (nodes : ℕ) → AreOf nodes (listed nodes)
unfolding listed
listed_are nodes = record { differ = numbers_differ nodes most_nodes; among = all_in (numbers_to nodes most_nodes) (numbers_to nodes most_nodes) (λ n h. h) }

-- all but the first
pub others_are : (nodes n : ℕ) (ns : List ℕ) → AreOf nodes (n ∷ ns) → AreOf nodes ns
others_are nodes n ns h = record { differ = h.differ.1; among = h.among.1 }

-- ---- the numbers below another

below_more : (k m : ℕ) → k ≤ m → AllByRecursion (λ j. j < m) (numbers_below k)
below_more zero m h = tt
below_more (suc k) m h = all_one (λ j. j < m) (numbers_below k) k (below_more k m (less k m h)) (first k m h)
  where
    less : (a b : ℕ) → suc a ≤ b → a ≤ b
    less a b h = omega (arith, h)

    first : (a b : ℕ) → suc a ≤ b → a < b
    first a b h = omega (arith, h)

pub below_low : (k : ℕ) → AllByRecursion (λ j. j < k) (numbers_below k)
below_low k = below_more k k (omega arith)

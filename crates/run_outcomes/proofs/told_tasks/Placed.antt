-- The members of an attempt, led by the least, and the devices of the header.
use Rattle.std.specs.Prelude.{ℕ, zero, suc, ◌+◌, ◌-◌, ◌≡◌, ◌<◌, ◌≤◌, ◌==◌, ◌||◌, Bool, true, false, if◌then◌else◌, List, [], ◌∷◌, ◌++◌, length, slice_get}
use Rattle.std.specs.List.{AllByRecursion, list_any}
use Rattle.std.proofs.Common.{refl, sym, ap, subst, ◌∙◌, arith}
use Rattle.cl_base.specs.Numbers.{numbers_to}
use Rattle.cl_base.specs.Sets.{has}
use Rattle.cl_base.specs.declared.header.Header.{Header}
use Rattle.cl_base.specs.declared.header.HeaderDevice.{HeaderDevice}
use Rattle.cmm_attempt.proofs.Basics.{false_true, same_number}
use Rattle.cmm_attempt.specs.declared.attached.AttachedDevice.{AttachedDevice}
use Rattle.cmm_attempt.specs.declared.plan.Plan.{Plan}
use Rattle.attempt_laws.specs.Asking.{AreApart, numbers_of}
use Rattle.history.specs.Setting.{all_to, paths_in, paths_of}
use Rattle.run_devices.specs.readings.Readings.{AreInOrder}
use Rattle.run_devices.proofs.queues.Ascending.{numbers_order}
use Rattle.run_history.proofs.Lists.{both}
use Rattle.run_history.specs.WorldLines.{IsDevice}
use Rattle.world_model.specs.First.{attached_from}
use Rattle.run_outcomes.specs.tasks.Entries.{LedBy}

-- ---- members

below_all : (set k b : ℕ) → k < b → AllByRecursion (λ n. n < b) (numbers_to set k)
below_all set zero b low = tt
below_all set (suc k) b low = by_test (has set (suc k)) (below_all set k b (less k b low))
  where
    less : (p q : ℕ) → suc p < q → p < q
    less p q l = omega (arith, l)

    by_test : (t : Bool) → AllByRecursion (λ n. n < b) (numbers_to set k) → AllByRecursion (λ n. n < b) (if t then numbers_to set k ++ suc k ∷ [] else numbers_to set k)
    by_test true rest = both (λ n. n < b) (numbers_to set k) (suc k ∷ []) rest (low, tt)
    by_test false rest = rest

order_more : (xs : List ℕ) (y : ℕ) → AreInOrder xs → AllByRecursion (λ x. x < y) xs → AreInOrder (xs ++ y ∷ [])
order_more [] y order low = (tt, tt)
order_more (x ∷ xs) y order low = (both (λ z. x < z) xs (y ∷ []) order.0 (low.0, tt), order_more xs y order.1 low.1)

members_order : (set k : ℕ) → AreInOrder (numbers_to set k)
members_order set zero = tt
members_order set (suc k) = by_test (has set (suc k)) (members_order set k)
  where
    next : (p : ℕ) → p < suc p
    next p = omega arith

    by_test : (t : Bool) → AreInOrder (numbers_to set k) → AreInOrder (if t then numbers_to set k ++ suc k ∷ [] else numbers_to set k)
    by_test true rest = order_more (numbers_to set k) (suc k) rest (below_all set k (suc k) (next k))
    by_test false rest = rest

members_range : (set k : ℕ) → k ≤ 32 → AllByRecursion (λ m. (1 ≤ m) × (m ≤ 32)) (numbers_to set k)
members_range set zero low = tt
members_range set (suc k) low = by_test (has set (suc k)) (members_range set k (less k low))
  where
    less : (p : ℕ) → suc p ≤ 32 → p ≤ 32
    less p l = omega (arith, l)

    one : (p : ℕ) → 1 ≤ suc p
    one p = omega arith

    by_test : (t : Bool) → AllByRecursion (λ m. (1 ≤ m) × (m ≤ 32)) (numbers_to set k)
        → AllByRecursion (λ m. (1 ≤ m) × (m ≤ 32)) (if t then numbers_to set k ++ suc k ∷ [] else numbers_to set k)
    by_test true rest = both (λ m. (1 ≤ m) × (m ≤ 32)) (numbers_to set k) (suc k ∷ []) rest ((one k, low), tt)
    by_test false rest = rest

-- the least of them is the first
record Leads (c : ℕ) (ns : List ℕ) : Type 0 where
  others : List ℕ
  is : ns ≡ c ∷ others
  above : AllByRecursion (λ m. c < m) others

above_in : (d e : ℕ) (ds : List ℕ) → AllByRecursion (λ x. d < x) ds → list_any (λ x. x == e) ds ≡ true → d < e
above_in d e [] above is = absurd (false_true is)
above_in d e (x ∷ xs) above is = by_test (x == e) refl (λ k. above_in d e xs above.1 k) is
  where
    by_test : (b : Bool) → (x == e) ≡ b → (list_any (λ y. y == e) xs ≡ true → d < e) → (b || list_any (λ y. y == e) xs) ≡ true → d < e
    by_test true at rest k = subst (λ z. d < z) (same_number x e at) above.0
    by_test false at rest k = rest k

first_leads : (c : ℕ) (ns : List ℕ) → AreInOrder ns → list_any (λ m. m == c) ns ≡ true → AllByRecursion (λ m. c ≤ m) ns → Leads c ns
first_leads c [] order among least = absurd (false_true among)
first_leads c (n ∷ ns) order among least = by_test (n == c) refl among
  where
    never : (p q : ℕ) → p < q → q ≤ p → ⊥
    never p q l m = omega (arith, l, m)

    by_test : (b : Bool) → (n == c) ≡ b → (b || list_any (λ m. m == c) ns) ≡ true → Leads c (n ∷ ns)
    by_test true is k =
        let same : n ≡ c = same_number n c is in record { others = ns; is = ap (λ z. z ∷ ns) same; above = subst (λ z. AllByRecursion (λ m. z < m) ns) same order.0 }
    by_test false is k = absurd (never n c (above_in n c ns order.0 k) least.0)

-- ---- devices

numbers_attached : (k : ℕ) (ds : List HeaderDevice) → all_to k ++ numbers_of (attached_from (suc k) ds) ≡ all_to (k + length ds)
numbers_attached k [] = append_none (all_to k) ∙ ap all_to (sym (none k))
  where
    append_none : (xs : List ℕ) → xs ++ [] ≡ xs
    append_none [] = refl
    append_none (x ∷ xs) = ap (λ ys. x ∷ ys) (append_none xs)

    none : (a : ℕ) → a + 0 ≡ a
    none a = grind arith
numbers_attached k (d ∷ ds) =
    shifted (all_to k) (suc k) (numbers_of (attached_from (suc k + 1) ds))
    ∙ (ap (λ j. all_to (suc k) ++ numbers_of (attached_from j ds)) (next k) ∙ (numbers_attached (suc k) ds ∙ ap all_to (moved k (length ds))))
  where
    shifted : (xs : List ℕ) (y : ℕ) (ys : List ℕ) → xs ++ y ∷ ys ≡ (xs ++ y ∷ []) ++ ys
    shifted [] y ys = refl
    shifted (x ∷ xs) y ys = ap (λ zs. x ∷ zs) (shifted xs y ys)

    next : (a : ℕ) → suc a + 1 ≡ suc (suc a)
    next a = omega arith

    moved : (a b : ℕ) → suc a + b ≡ a + suc b
    moved a b = omega arith

pub numbers_so : (ds : List HeaderDevice) → numbers_of (attached_from 1 ds) ≡ all_to (length ds)
numbers_so ds = numbers_attached 0 ds ∙ ap all_to (none (length ds))
  where
    none : (a : ℕ) → 0 + a ≡ a
    none a = omega arith

ordered_apart : (ds : List ℕ) → AreInOrder ds → AreApart ds
ordered_apart [] order = tt
ordered_apart (d ∷ ds) order = (absent ds order.0, ordered_apart ds order.1)
  where
    differs : (a b : ℕ) → a < b → (b == a) ≡ false
    differs a b l = grind arith

    absent : (xs : List ℕ) → AllByRecursion (λ x. d < x) xs → list_any (λ x. x == d) xs ≡ false
    absent [] above = refl
    absent (x ∷ xs) above = ap (λ b. b || list_any (λ y. y == d) xs) (differs d x above.0) ∙ absent xs above.1

pub attached_apart : (ds : List HeaderDevice) → AreApart (numbers_of (attached_from 1 ds))
attached_apart ds = subst AreApart (sym (numbers_so ds)) (ordered_apart (all_to (length ds)) (numbers_order (length ds)))

paths_from : (all : List HeaderDevice) (j : ℕ) (ds : List HeaderDevice) → ((i : ℕ) → slice_get all (j + i) ≡ slice_get ds i)
    → AllByRecursion (λ (a : AttachedDevice). a.nodes ≡ paths_in (slice_get all (a.device - 1))) (attached_from (suc j) ds)
paths_from all j [] f = tt
paths_from all j (d ∷ ds) f = (
  sym (ap paths_in (ap (slice_get all) (first j) ∙ f 0)),
  subst (λ k. AllByRecursion (λ (a : AttachedDevice). a.nodes ≡ paths_in (slice_get all (a.device - 1))) (attached_from k ds)) (sym (next j))
      (paths_from all (suc j) ds (λ i. ap (slice_get all) (moved j i) ∙ f (suc i))),
)
  where
    first : (a : ℕ) → suc a - 1 ≡ a + 0
    first a = omega arith

    next : (a : ℕ) → suc a + 1 ≡ suc (suc a)
    next a = omega arith

    moved : (a b : ℕ) → suc a + b ≡ a + suc b
    moved a b = omega arith

pub paths_so : (h : Header) → AllByRecursion (λ (a : AttachedDevice). a.nodes ≡ paths_of h a.device) (attached_from 1 h.devices)
paths_so h = paths_from h.devices 0 h.devices (λ i. ap (slice_get h.devices) (none i))
  where
    none : (a : ℕ) → 0 + a ≡ a
    none a = omega arith

-- ---- the plan

pub led_so : (plan : Plan) (set : ℕ) (ds : List HeaderDevice) → plan.nodes ≡ numbers_to set 32 → list_any (λ m. m == plan.coordinator) plan.nodes ≡ true
    → AllByRecursion (λ m. plan.coordinator ≤ m) plan.nodes → plan.attached ≡ attached_from 1 ds → LedBy plan
led_so plan set ds nodes among least attached =
    let order : AreInOrder plan.nodes = subst AreInOrder (sym nodes) (members_order set 32) in
    let l : Leads plan.coordinator plan.nodes = first_leads plan.coordinator plan.nodes order among least in
    record {
      others = l.others;
      nodes = l.is;
      above = l.above;
      range = subst (AllByRecursion (λ m. (1 ≤ m) × (m ≤ 32))) (sym nodes) (members_range set 32 high);
      apart = subst (λ xs. AreApart (numbers_of xs)) (sym attached) (attached_apart ds);
    }
  where
    high : 32 ≤ 32
    high = omega arith

-- ---- each device is one of the header

devices_from : (h : Header) (k : ℕ) (ds : List HeaderDevice) → 1 ≤ k → k + length ds ≤ suc (length h.devices) → AllByRecursion (λ (a : AttachedDevice). IsDevice h a.device) (attached_from k ds)
devices_from h k [] low high = tt
devices_from h k (d ∷ ds) low high = ((low, first k (length ds) (length h.devices) high), devices_from h (k + 1) ds (more k low) (next k (length ds) (length h.devices) high))
  where
    first : (a b c : ℕ) → a + suc b ≤ suc c → a ≤ c
    first a b c l = omega (arith, l)

    more : (a : ℕ) → 1 ≤ a → 1 ≤ a + 1
    more a l = omega (arith, l)

    next : (a b c : ℕ) → a + suc b ≤ suc c → (a + 1) + b ≤ suc c
    next a b c l = omega (arith, l)

pub devices_so : (h : Header) → AllByRecursion (λ (a : AttachedDevice). IsDevice h a.device) (attached_from 1 h.devices)
devices_so h = devices_from h 1 h.devices one (same (length h.devices))
  where
    one : 1 ≤ 1
    one = omega arith

    same : (a : ℕ) → 1 + a ≤ suc a
    same a = omega arith

-- The devices of the header, which have the numbers from 1 on: what is told of each, and whether a member has a path to it.
use Rattle.std.specs.Prelude.{ℕ, ◌+◌, ◌≡◌, ◌<◌, ◌≤◌, ◌==◌, ◌&&◌, ◌||◌, ◌⊎◌, Bool, true, false, if◌then◌else◌, List, [], ◌∷◌, fold, length, Option, None, Some, is_some, slice_get, suc, zero}
use Rattle.std.specs.List.{cons_option, filter_map, list_any}
use Rattle.std.proofs.Common.{refl, sym, ap, subst, ◌∙◌, arith, inl, inr}
use Rattle.cl_base.proofs.SetLemmas.{has_with, none_of_zero, or_bit_value}
use Rattle.cl_base.specs.Sets.{has, set_with}
use Rattle.cl_base.specs.declared.header.Header.{Header}
use Rattle.cl_base.specs.declared.header.HeaderDevice.{HeaderDevice}
use Rattle.cl_base.specs.declared.seizing.Lack.{Lack}
use Rattle.cmm_attempt.specs.Plans.{is_reachable}
use Rattle.cmm_attempt.specs.declared.attached.AttachedDevice.{AttachedDevice}
use Rattle.cmm_attempt.specs.declared.plan.Plan.{Plan}
use Rattle.history.specs.Setting.{nodes_of, paths_in}
use Rattle.world_model.specs.First.{attached_from}

-- a device of the header, and who has a path to it
abbrev pub device_of : ℕ → HeaderDevice → AttachedDevice
device_of d x = record { device = d; nodes = x.attached }

-- a is device d of these, whose numbers begin with k
abbrev pub IsAt : ℕ → List HeaderDevice → ℕ → AttachedDevice → Type 0
IsAt k [] d a = ⊥
IsAt k (x ∷ hs) d a = ((d ≡ k) × (a ≡ device_of k x)) ⊎ IsAt (k + 1) hs d a

pub at_low : (k : ℕ) (hs : List HeaderDevice) (d : ℕ) (a : AttachedDevice) → IsAt k hs d a → k ≤ d
at_low k [] d a at = absurd at
at_low k (x ∷ hs) d a (inl here) = equal_low k d here.0
  where
    equal_low : (k d : ℕ) → d ≡ k → k ≤ d
    equal_low k d e = grind arith
at_low k (x ∷ hs) d a (inr there) = less_low k d (at_low (k + 1) hs d a there)
  where
    less_low : (k d : ℕ) → k + 1 ≤ d → k ≤ d
    less_low k d e = grind arith

pub at_device : (k : ℕ) (hs : List HeaderDevice) (d : ℕ) (a : AttachedDevice) → IsAt k hs d a → a.device ≡ d
at_device k [] d a at = absurd at
at_device k (x ∷ hs) d a (inl here) = ap (λ (z : AttachedDevice). z.device) here.1 ∙ sym here.0
at_device k (x ∷ hs) d a (inr there) = at_device (k + 1) hs d a there

-- each number has its device
pub at_place : (k : ℕ) (hs : List HeaderDevice) (i : ℕ) → i < length hs → IsAt k hs (k + i) (record { device = k + i; nodes = paths_in (slice_get hs i) })
at_place k [] i less = absurd (none_less i less)
  where
    none_less : (i : ℕ) → i < 0 → ⊥
    none_less i l = grind arith
at_place k (x ∷ hs) zero less = inl (no_more k, ap (λ j. device_of j x) (no_more k))
  where
    no_more : (k : ℕ) → k + 0 ≡ k
    no_more k = grind arith
at_place k (x ∷ hs) (suc i) less = inr (subst (λ j. IsAt (k + 1) hs j (record { device = j; nodes = paths_in (slice_get hs i) })) (moved k i) (at_place (k + 1) hs i (fewer i (length hs) less)))
  where
    moved : (k i : ℕ) → (k + 1) + i ≡ k + suc i
    moved k i = omega arith

    fewer : (i n : ℕ) → suc i < suc n → i < n
    fewer i n l = omega (arith, l)

-- what the attempt knows of the header
pub record OfHeader (h : Header) (plan : Plan) : Type 0 where
  pub few : length h.devices ≤ 16
  pub attached : plan.attached ≡ attached_from 1 h.devices
  pub nodes : plan.nodes ≡ nodes_of plan.members

-- ---- what is listed

pub not_same : (a b : ℕ) → a < b → (b == a) ≡ false
not_same a b l = grind arith

pub above_next : (d k : ℕ) → d < k → d < k + 1
above_next d k l = grind arith

pub same_next : (d k : ℕ) → d ≡ k → d < k + 1
same_next d k e = grind arith

pub next_above : (k d : ℕ) → k + 1 ≤ d → (k == d) ≡ false
next_above k d l = grind arith

pub same_is : (a b : ℕ) → a ≡ b → (a == b) ≡ true
same_is a b e = grind arith

abbrev pub TellsOwn : (AttachedDevice → Option Lack) → Type 0
TellsOwn f = (a : AttachedDevice) (x : Lack) → f a ≡ Some x → x.device ≡ a.device

none_listed : (f : AttachedDevice → Option Lack) → TellsOwn f → (k : ℕ) (hs : List HeaderDevice) (d : ℕ) → d < k → list_any (λ (x : Lack). x.device == d) (filter_map f (attached_from k hs)) ≡ false
none_listed f own k [] d less = refl
none_listed f own k (x ∷ hs) d less = by_lack (f (device_of k x)) refl (none_listed f own (k + 1) hs d (above_next d k less))
  where
    rest : List Lack
    rest = filter_map f (attached_from (k + 1) hs)

    by_lack : (o : Option Lack) → f (device_of k x) ≡ o → list_any (λ (y : Lack). y.device == d) rest ≡ false → list_any (λ (y : Lack). y.device == d) (cons_option o rest) ≡ false
    by_lack None is h = h
    by_lack (Some y) is h = ap (λ b. b || list_any (λ (z : Lack). z.device == d) rest) (ap (λ j. j == d) (own (device_of k x) y is) ∙ not_same d k less) ∙ h

pub listed_at : (f : AttachedDevice → Option Lack) → TellsOwn f → (k : ℕ) (hs : List HeaderDevice) (d : ℕ) (a : AttachedDevice) → IsAt k hs d a → list_any (λ (x : Lack). x.device == d) (filter_map f (attached_from k hs)) ≡ is_some (f a)
listed_at f own k [] d a at = absurd at
listed_at f own k (x ∷ hs) d a (inl here) = by_lack (f (device_of k x)) refl ∙ ap (λ z. is_some (f z)) (sym here.1)
  where
    rest : List Lack
    rest = filter_map f (attached_from (k + 1) hs)

    by_lack : (o : Option Lack) → f (device_of k x) ≡ o → list_any (λ (y : Lack). y.device == d) (cons_option o rest) ≡ is_some o
    by_lack None is = none_listed f own (k + 1) hs d (same_next d k here.0)
    by_lack (Some y) is = ap (λ b. b || list_any (λ (z : Lack). z.device == d) rest) (same_is y.device d (own (device_of k x) y is ∙ sym here.0))
listed_at f own k (x ∷ hs) d a (inr there) = by_lack (f (device_of k x)) refl (listed_at f own (k + 1) hs d a there)
  where
    rest : List Lack
    rest = filter_map f (attached_from (k + 1) hs)

    by_lack : (o : Option Lack) → f (device_of k x) ≡ o → list_any (λ (y : Lack). y.device == d) rest ≡ is_some (f a) → list_any (λ (y : Lack). y.device == d) (cons_option o rest) ≡ is_some (f a)
    by_lack None is h = h
    by_lack (Some y) is h = ap (λ b. b || list_any (λ (z : Lack). z.device == d) rest) (ap (λ j. j == d) (own (device_of k x) y is) ∙ next_above k d (at_low (k + 1) hs d a there)) ∙ h

-- ---- who is reached

none_tests : (test : AttachedDevice → Bool) (k : ℕ) (hs : List HeaderDevice) (d : ℕ) → d < k → list_any (λ a. (a.device == d) && test a) (attached_from k hs) ≡ false
none_tests test k [] d less = refl
none_tests test k (x ∷ hs) d less = ap (λ b. (b && test (device_of k x)) || list_any (λ a. (a.device == d) && test a) (attached_from (k + 1) hs)) (not_same d k less) ∙ none_tests test (k + 1) hs d (above_next d k less)

tests_at : (test : AttachedDevice → Bool) (k : ℕ) (hs : List HeaderDevice) (d : ℕ) (a : AttachedDevice) → IsAt k hs d a → list_any (λ b. (b.device == d) && test b) (attached_from k hs) ≡ test a
tests_at test k [] d a at = absurd at
tests_at test k (x ∷ hs) d a (inl here) =
    ap (λ b. (b && test (device_of k x)) || list_any (λ z. (z.device == d) && test z) (attached_from (k + 1) hs)) (same_is k d (sym here.0))
    ∙ (ap (λ b. test (device_of k x) || b) (none_tests test (k + 1) hs d (same_next d k here.0)) ∙ (or_false (test (device_of k x)) ∙ ap test (sym here.1)))
  where
    or_false : (b : Bool) → (b || false) ≡ b
    or_false true = refl
    or_false false = refl
tests_at test k (x ∷ hs) d a (inr there) =
    ap (λ b. (b && test (device_of k x)) || list_any (λ z. (z.device == d) && test z) (attached_from (k + 1) hs)) (next_above k d (at_low (k + 1) hs d a there)) ∙ tests_at test (k + 1) hs d a there

pub has_set_with : (s n m : ℕ) → 1 ≤ n → n ≤ 32 → has (set_with s n) m ≡ ((m == n) || has s m)
has_set_with s n m low high = subst (λ z. has z m ≡ ((m == n) || has s m)) (or_bit_value s n high) (has_with s n low high m)

pub turned : (m n : ℕ) → (m == n) ≡ (n == m)
turned m n = grind arith

reached_from : (plan : Plan) (k : ℕ) (hs : List HeaderDevice) (set d : ℕ) → 1 ≤ k → k + length hs ≤ 33
    → has (fold (λ (z : ℕ) (a : AttachedDevice). if is_reachable plan a then set_with z a.device else z) set (attached_from k hs)) d ≡ (has set d || list_any (λ a. (a.device == d) && is_reachable plan a) (attached_from k hs))
reached_from plan k [] set d low high = sym (or_false (has set d))
  where
    or_false : (b : Bool) → (b || false) ≡ b
    or_false true = refl
    or_false false = refl
reached_from plan k (x ∷ hs) set d low high =
    reached_from plan (k + 1) hs (if is_reachable plan (device_of k x) then set_with set k else set) d (one_more k low) (same_room k (length hs) high)
    ∙ by_test (is_reachable plan (device_of k x))
  where
    one_more : (k : ℕ) → 1 ≤ k → 1 ≤ k + 1
    one_more k l = grind arith

    same_room : (k n : ℕ) → k + suc n ≤ 33 → (k + 1) + n ≤ 33
    same_room k n l = omega (arith, l)

    room : (k n : ℕ) → k + suc n ≤ 33 → k ≤ 32
    room k n l = omega (arith, l)

    rest : Bool
    rest = list_any (λ a. (a.device == d) && is_reachable plan a) (attached_from (k + 1) hs)

    by_test : (t : Bool) → (has (if t then set_with set k else set) d || rest) ≡ (has set d || (((k == d) && t) || rest))
    by_test true = ap (λ b. b || rest) (has_set_with set k d low (room k (length hs) high) ∙ ap (λ b. b || has set d) (turned d k)) ∙ by_bools (k == d) (has set d) rest
      where
        by_bools : (a b c : Bool) → ((a || b) || c) ≡ (b || ((a && true) || c))
        by_bools true true c = refl
        by_bools true false c = refl
        by_bools false true c = refl
        by_bools false false c = refl
    by_test false = by_bools (k == d) (has set d) rest
      where
        by_bools : (a b c : Bool) → (b || c) ≡ (b || ((a && false) || c))
        by_bools true true c = refl
        by_bools true false c = refl
        by_bools false true c = refl
        by_bools false false c = refl

pub reached_at : (plan : Plan) (hs : List HeaderDevice) (d : ℕ) (a : AttachedDevice) → length hs ≤ 16 → IsAt 1 hs d a
    → has (fold (λ (z : ℕ) (b : AttachedDevice). if is_reachable plan b then set_with z b.device else z) 0 (attached_from 1 hs)) d ≡ is_reachable plan a
reached_at plan hs d a few at =
    reached_from plan 1 hs 0 d (omega arith) (room (length hs) few) ∙ (ap (λ b. b || list_any (λ z. (z.device == d) && is_reachable plan z) (attached_from 1 hs)) (none_of_zero d) ∙ tests_at (is_reachable plan) 1 hs d a at)
  where
    room : (n : ℕ) → n ≤ 16 → 1 + n ≤ 33
    room n l = omega (arith, l)

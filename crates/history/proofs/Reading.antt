-- What the definitions say of a number's start, and of a node that is left out.
use Rattle.std.proofs.Common.{◌≡◌, ◌⊎◌, inl, inr, ℕ, ◌<◌, ◌≤◌, ◌==◌, ◌||◌, Bool, true, false, refl, sym, subst, List, [], ◌∷◌, length, arith, Option, Some, None, find, filter, MatchOption}
use Rattle.std.specs.List.{list_any}
use Rattle.cl_base.specs.Sets.{has}
use Rattle.cl_base.specs.declared.header.Header.{Header}
use Rattle.pgr_device.specs.declared.command.PrCommand.TheVariants.{Write}
use Rattle.status_report.specs.declared.device_entry.DeviceAnswer.{DeviceAnswer}
use Rattle.history.specs.Moment.{Moment}
use Rattle.history.specs.Trace.{device}
use Rattle.history.specs.Member.{last_member}
use Rattle.history.specs.Starts.{Start, starts, start_of}
use Rattle.history.specs.Deeds.{Deed, start_numbers}
use Rattle.history.specs.Lineage.{Lineage, AllDiffer}
use Rattle.history.specs.DiskRule.{DiskRule, IsMembersWrite, takes}
use Rattle.history.proofs.Among.{In, all_at, true_or_false}

-- ---- at most one start a number

differs : (numbers : List ℕ) (e : ℕ) → list_any (λ f. f == e) numbers ≡ false → length (filter (λ f. f == e) numbers) ≡ 0
differs [] e h = refl
differs (n ∷ numbers) e h = go (differs numbers e) (true_or_false (n == e))
  where
    go : (list_any (λ f. f == e) numbers ≡ false → length (filter (λ f. f == e) numbers) ≡ 0)
        → (n == e ≡ true) ⊎ (n == e ≡ false) → length (filter (λ f. f == e) (n ∷ numbers)) ≡ 0
    go rest (inl y) = absurd (taken (n == e) (list_any (λ f. f == e) numbers) y h)
      where
        taken : (a b : Bool) → a ≡ true → (a || b) ≡ false → ⊥
        taken a b p q = grind arith
    go rest (inr no_one) = rw no_one (rest (left (n == e) (list_any (λ f. f == e) numbers) h))
      where
        left : (a b : Bool) → (a || b) ≡ false → b ≡ false
        left a b q = grind arith

is_equal : (a b : ℕ) → (a == b) ≡ true → a ≡ b
is_equal a b h = grind arith

once : (numbers : List ℕ) (e : ℕ) → AllDiffer numbers → length (filter (λ f. f == e) numbers) ≤ 1
once [] e h = omega arith
once (n ∷ numbers) e h = go (once numbers e h.1) (true_or_false (n == e))
  where
    go : length (filter (λ f. f == e) numbers) ≤ 1 → (n == e ≡ true) ⊎ (n == e ≡ false) → length (filter (λ f. f == e) (n ∷ numbers)) ≤ 1
    go rest (inl y) =
        let zero : length (filter (λ f. f == e) numbers) ≡ 0 =
        differs numbers e (subst (λ (k : ℕ). list_any (λ f. f == k) numbers ≡ false) (is_equal n e y) h.0) in
        rw y (omega (arith, zero))
    go rest (inr no_one) = rw no_one rest

pub starts_once : (ds : List Deed) (e : ℕ) → Lineage ds → length (filter (λ f. f == e) (start_numbers ds)) ≤ 1
starts_once ds e l = once (start_numbers ds) e l.once

-- ---- a node that is left out

record IsFound (e : ℕ) (ss : List Start) (s : Start) : Type 0 where
  pub among : In s ss
  pub number : s.epoch ≡ e

some_same : {A : Type 0} (a b : A) → Some a ≡ Some b → a ≡ b
some_same a b e = cc

found : (ss : List Start) (e : ℕ) (s : Start) → find (λ (t : Start). t.epoch == e) ss ≡ Some s → IsFound e ss s
found [] e s h = absurd (cc)
found (t ∷ ss) e s h = go (found ss e s) (true_or_false (t.epoch == e))
  where
    go : (find (λ (k : Start). k.epoch == e) ss ≡ Some s → IsFound e ss s) → (t.epoch == e ≡ true) ⊎ (t.epoch == e ≡ false) → IsFound e (t ∷ ss) s
    go rest (inl y) =
        let same : t ≡ s = some_same t s (rw y at h) in
        record { among = inl (sym same); number = subst (λ (k : Start). k.epoch ≡ e) same (is_equal t.epoch e y) }
    go rest (inr n) =
        let other : IsFound e ss s = rest (rw n at h) in
        record { among = inr other.among; number = other.number }

left_out : (before : List Moment) (n d e : ℕ) (s : Start) → start_of s.epoch before ≡ Some s → e < s.epoch → has s.held d ≡ true
    → has s.members n ≡ false → MatchOption (start_of e before) ⊥ (IsMembersWrite before n d) → ⊥
left_out before n d e s is lt held out own = go (start_of e before) refl own
  where
    go : (o : Option Start) → start_of e before ≡ o → MatchOption o ⊥ (IsMembersWrite before n d) → ⊥
    go None eq w = w
    go (Some t) eq w =
        let here : IsFound e (starts before) t = found (starts before) e t eq in
        let there : IsFound s.epoch (starts before) s = found (starts before) s.epoch s is in
        let listed : has s.members n ≡ true =
        all_at (λ (x : Start). t.epoch < x.epoch → has x.held d ≡ true → has x.members n ≡ true) (starts before) s w.left_out_by_none there.among (omega (arith, here.number, lt)) held in
        cc (listed, out)

pub nothing_taken : (h : Header) (n d value e : ℕ) (answer : DeviceAnswer) (before : List Moment) (s : Start)
    → DiskRule h (device n d (Write value) answer ∷ before) → last_member n before ≡ Some e → start_of s.epoch before ≡ Some s
    → e < s.epoch → has s.held d ≡ true → has s.members n ≡ false → takes h before n d value ≡ false
nothing_taken h n d value e answer before s rule last is lt held out = go (true_or_false (takes h before n d value))
  where
    go : (takes h before n d value ≡ true) ⊎ (takes h before n d value ≡ false) → takes h before n d value ≡ false
    go (inr no_write) = no_write
    go (inl write) =
        absurd (left_out before n d e s is lt held out
        (subst (λ (o : Option ℕ). MatchOption o ⊥ (λ f. MatchOption (start_of f before) ⊥ (IsMembersWrite before n d))) last (rule.0 write)))

pub same_membership : (e f : ℕ) (o : Option ℕ) → o ≡ Some e → o ≡ Some f → e ≡ f
same_membership e f o a b = cc

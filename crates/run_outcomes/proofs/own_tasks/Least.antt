-- In each run the coordinator of an attempt is the least of its members.
use Rattle.std.specs.Prelude.{ℕ, zero, suc, ◌≡◌, ◌≤◌, ◌<◌, ◌^◌, ◌==◌, ◌++◌, ◌||◌, nat_le, ◌&&◌, Bool, true, false, List, [], ◌∷◌, length, Some, slice_get, if◌then◌else◌}
use Rattle.std.specs.List.{AllByRecursion, list_any}
use Rattle.std.proofs.Common.{arith, refl, sym, subst, ◌∙◌}
use Rattle.attempt_laws.proofs.Told.{is_among}
use Rattle.attempt_laws.proofs.Walk.{if_with}
use Rattle.cl_base.specs.Limits.{most_devices}
use Rattle.cl_base.specs.Numbers.{numbers_to}
use Rattle.cl_base.specs.Sets.{has}
use Rattle.cl_base.specs.declared.header.Header.{Header}
use Rattle.cmm_attempt.proofs.Basics.{false_true, if_either, same_number, same_some}
use Rattle.history.specs.Member.{members_of}
use Rattle.history.specs.Moment.{Moment}
use Rattle.history.specs.Order.{Always}
use Rattle.history.specs.Seizing.{is_attempt}
use Rattle.history.specs.Setting.{Setting, coordinator, nodes_of}
use Rattle.history.specs.Trace.{attempt}
use Rattle.history_setting.specs.Settings.{setting_of}
use Rattle.run_attempts.proofs.Runs.{attempts_begin_in_each_run}
use Rattle.run_attempts.specs.Laws.{Begins}
use Rattle.run_history.specs.Happenings.{Happening, MayAllHappen, all_happened}
use Rattle.run_history.specs.Scenes.{first_scene}
use Rattle.world_model.specs.First.{first_cluster}

-- ---- the line of an attempt

first_of_line : (S : Setting) (e : ℕ) (ms : List Moment) → Always (Begins S) ms → list_any (is_attempt e) ms ≡ true → slice_get (nodes_of (members_of e ms)) 0 ≡ Some (coordinator e)
first_of_line S e [] always is = absurd (false_true is)
first_of_line S e (attempt f members ∷ ms) always is = by_test (f == e) refl (λ k. first_of_line S e ms always.1 k) is
  where
    by_test : (b : Bool) → (f == e) ≡ b → (list_any (is_attempt e) ms ≡ true → slice_get (nodes_of (members_of e ms)) 0 ≡ Some (coordinator e)) → (b || list_any (is_attempt e) ms) ≡ true
        → slice_get (nodes_of (if b then members else members_of e ms)) 0 ≡ Some (coordinator e)
    by_test true same rest k = subst (λ q. slice_get (nodes_of members) 0 ≡ Some (coordinator q)) (same_number f e same) always.0.least
    by_test false other rest k = rest k
first_of_line S e (_ ∷ ms) always is = first_of_line S e ms always.1 is

pub first_in_run : (h : Header) (cells : ℕ) (hs : List Happening) (e : ℕ) → length h.devices ≤ most_devices → h.cluster < 2 ^ 32 → MayAllHappen (first_cluster h) (first_scene h cells) hs
    → list_any (is_attempt e) (all_happened (first_cluster h) (first_scene h cells) hs).moments ≡ true
    → slice_get (nodes_of (members_of e (all_happened (first_cluster h) (first_scene h cells) hs).moments)) 0 ≡ Some (coordinator e)
first_in_run h cells hs e few small may is = first_of_line (setting_of h) e (all_happened (first_cluster h) (first_scene h cells) hs).moments (attempts_begin_in_each_run h cells hs few small may) is

-- ---- a list of the numbers of a set

all_before : (set k j : ℕ) → k ≤ j → AllByRecursion (λ m. m ≤ j) (numbers_to set k)
all_before set zero j low = tt
all_before set (suc k) j low =
    if_either (AllByRecursion (λ m. m ≤ j)) (has set (suc k)) (numbers_to set k ++ suc k ∷ []) (numbers_to set k) (one_more (λ m. m ≤ j) (numbers_to set k) (suc k) (all_before set k j (omega (arith, low))) low)
    (all_before set k j (omega (arith, low)))
  where
    one_more : (P : ℕ → Type 0) (ms : List ℕ) (m : ℕ) → AllByRecursion P ms → P m → AllByRecursion P (ms ++ m ∷ [])
    one_more P [] m all last = (last, tt)
    one_more P (x ∷ ms) m all last = (all.0, one_more P ms m all.1 last)

-- the first is the least
pub least_first : (set k c : ℕ) → slice_get (numbers_to set k) 0 ≡ Some c → AllByRecursion (λ m. c ≤ m) (numbers_to set k)
least_first set zero c first = tt
least_first set (suc k) c first =
    if_with (λ ms. slice_get ms 0 ≡ Some c → AllByRecursion (λ m. c ≤ m) ms) (has set (suc k)) (has set (suc k)) (numbers_to set k ++ suc k ∷ []) (numbers_to set k) refl
    (λ so f. behind (numbers_to set k) (all_before set k k (omega arith)) (λ g. least_first set k c g) f) (λ lacks f. least_first set k c f) first
  where
    one_more : (P : ℕ → Type 0) (ms : List ℕ) (m : ℕ) → AllByRecursion P ms → P m → AllByRecursion P (ms ++ m ∷ [])
    one_more P [] m all last = (last, tt)
    one_more P (x ∷ ms) m all last = (all.0, one_more P ms m all.1 last)

    behind : (ms : List ℕ) → AllByRecursion (λ m. m ≤ k) ms → (slice_get ms 0 ≡ Some c → AllByRecursion (λ m. c ≤ m) ms) → slice_get (ms ++ suc k ∷ []) 0 ≡ Some c → AllByRecursion (λ m. c ≤ m) (ms ++ suc k ∷ [])
    behind [] low rest f = (subst (λ j. j ≤ suc k) (same_some (suc k) c f) (omega arith), tt)
    behind (x ∷ ms) low rest f = one_more (λ m. c ≤ m) (x ∷ ms) (suc k) (rest f) (subst (λ j. j ≤ suc k) (same_some x c f) (up x k low.0))
      where
        up : (a b : ℕ) → a ≤ b → a ≤ suc b
        up a b l = omega (arith, l)

-- .. and one of them
pub first_member : (set k c : ℕ) → slice_get (numbers_to set k) 0 ≡ Some c → (nat_le c k && has set c) ≡ true
first_member set k c first = sym (is_among set k c) ∙ among (numbers_to set k) first
  where
    itself : (b : Bool) → ((c == c) || b) ≡ true
    itself b = grind arith

    among : (ms : List ℕ) → slice_get ms 0 ≡ Some c → list_any (λ m. m == c) ms ≡ true
    among [] f = absurd (never f)
      where
        never : slice_get [] 0 ≡ Some c → ⊥
        never f = cc
    among (x ∷ ms) f = subst (λ j. ((j == c) || list_any (λ m. m == c) ms) ≡ true) (sym (same_some x c f)) (itself (list_any (λ m. m == c) ms))

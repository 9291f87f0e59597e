-- What becomes of the devices that a record holds valid, while its node seizes for a session that it has not installed.
use Rattle.std.specs.Prelude.{ℕ, suc, zero, ◌-◌, ◌≡◌, ◌≢◌, ◌<◌, ◌≤◌, ◌⊎◌, ◌==◌, ◌&&◌, max, Bool, true, false, List, Option, None, Some, is_some, if◌then◌else◌, [], ◌∷◌, length}
use Rattle.std.specs.Int.{bit_at}
use Rattle.std.specs.Option.{option_and_then}
use Rattle.std.proofs.Common.{refl, sym, ap, subst, ◌∙◌, inl, inr, arith, w32}
use Rattle.std.proofs.lemmas.Bool.Decides.{nat_tests}
use Rattle.std.proofs.lemmas.Nat.Bits.{bit_at-lt, bit_at_clear_other, bit_at_or}
use Rattle.cl_base.proofs.SetLemmas.{and_bit_value, has_at, has_not_zero}
use Rattle.cl_base.specs.Sets.{has, set_with, set_without}
use Rattle.cl_base.specs.declared.header.Header.{Header}
use Rattle.cmm_attempt.proofs.Basics.{false_true, none_some, same_some}
use Rattle.machine_base.proofs.Puts.{same_or_not}
use Rattle.device_queue.specs.Queue.{begins_plainly, first_of, seizure_of}
use Rattle.device_queue.specs.Tasks.{is_queued, is_seizing, is_seizure_of, registers_first}
use Rattle.device_queue.specs.declared.task.Task.{Task}
use Rattle.device_queue.specs.declared.task.Work.{Work}
use Rattle.device_queue.specs.declared.task.Work.TheVariants.{Joining as Joins, Seizing as Seizes}
use Rattle.history.specs.Moment.{Moment}
use Rattle.node_model.specs.Seats.{installed_of, record_of, session_of}
use Rattle.node_model.specs.declared.node.UpNode.{UpNode}
use Rattle.run_outcomes.specs.results.Tried.{Collected, HeldOr, SeatHeld}

-- ---- sets

above_zero : (a b : ℕ) → (a == 1) ≡ true → b < 2 → (max a b == 1) ≡ true
above_zero a b i j = grind (arith, nat_tests)

one_low : (e : ℕ) → 1 ≤ suc e
one_low e = omega arith

-- what a set has it has with one more
pub more_has : (s d e : ℕ) → has (set_with s d) e ≡ false → has s e ≡ false
unfolding set_with
more_has s d zero none = has_not_zero s
more_has s d (suc e) none = by_test (has s (suc e)) refl
  where
    by_test : (b : Bool) → has s (suc e) ≡ b → b ≡ false
    by_test false is = refl
    by_test true is =
        absurd (false_true (sym none ∙ (has_at (set_with s d) (suc e) (one_low e)
        ∙ (ap (λ k. k == 1) (bit_at_or s _ (suc e - 1)) ∙ above_zero (bit_at s (suc e - 1)) _ (sym (has_at s (suc e) (one_low e)) ∙ is) (bit_at-lt _ (suc e - 1))))))

-- without one it has the others still
pub less_has : (s d e : ℕ) → 1 ≤ d → d ≤ 32 → 1 ≤ e → e ≤ 32 → e ≢ d → has (set_without s d) e ≡ has s e
less_has s d e low high le he other =
    ap (λ z. has z e) (sym (and_bit_value s d high))
    ∙ (has_at _ e le ∙ (ap (λ k. k == 1) (bit_at_clear_other w32 s (d - 1) (omega (arith, low, high)) (e - 1) (omega (arith, le, he)) (λ is. other (omega (arith, le, low, is)))) ∙ sym (has_at s e le)))

-- ---- seats

-- with the same session, installed epoch, valid devices and tasks
pub seat_same : (h : Header) (past : Collected) (ms : List Moment) (n : ℕ) (x y : UpNode) → session_of y ≡ session_of x → installed_of y ≡ installed_of x → (record_of y).valid ≡ (record_of x).valid → y.tasks ≡ x.tasks
    → SeatHeld h past ms n x → SeatHeld h past ms n y
seat_same h past ms n x y session installed valid tasks k some ahead d is none =
    subst (λ q. HeldOr h past ms n q d y.tasks) (sym session)
    (subst (λ ts. HeldOr h past ms n (session_of x) d ts) (sym tasks)
    (k (subst (λ q. 0 < q) session some) (λ same. ahead (installed ∙ (same ∙ sym session))) d is (ap (λ z. has z d) (sym valid) ∙ none)))

-- with more of these, and seizing more
pub seat_more : (h : Header) (past : Collected) (ms : List Moment) (n : ℕ) (x y : UpNode) → session_of y ≡ session_of x → installed_of y ≡ installed_of x
    → ((d : ℕ) → has (record_of y).valid d ≡ false → has (record_of x).valid d ≡ false) → ((d : ℕ) → is_some (seizure_of x.tasks d) ≡ true → is_some (seizure_of y.tasks d) ≡ true)
    → SeatHeld h past ms n x → SeatHeld h past ms n y
seat_more h past ms n x y session installed valid tasks k some ahead d is none =
    subst (λ q. HeldOr h past ms n q d y.tasks) (sym session)
    (by_case (k (subst (λ q. 0 < q) session some) (λ same. ahead (installed ∙ (same ∙ sym session))) d is (valid d none)))
  where
    by_case : HeldOr h past ms n (session_of x) d x.tasks → HeldOr h past ms n (session_of x) d y.tasks
    by_case (inl w) = inl w
    by_case (inr seizes) = inr (tasks d seizes.0, seizes.1)

-- the first task begins to seize a device without its votes
found_seizes : (ts : List Task) (t : Task) (d : ℕ) → is_seizure_of d t ≡ true → first_of ts ≡ Some t → is_some (seizure_of ts d) ≡ true
found_seizes ts t d is first = walk ts first
  where
    walk : (zs : List Task) → first_of zs ≡ Some t → is_some (seizure_of zs d) ≡ true
    walk [] found = absurd (none_some t found)
    walk (z ∷ zs) found = by_test (is_queued z) found (is_seizure_of d z) refl (walk zs)
      where
        by_test : (b : Bool) → (if b then Some z else first_of zs) ≡ Some t → (e : Bool) → is_seizure_of d z ≡ e → (first_of zs ≡ Some t → is_some (seizure_of zs d) ≡ true)
            → is_some (if e then Some z else seizure_of zs d) ≡ true
        by_test b found true same next = refl
        by_test true found false same next = absurd (false_true (sym same ∙ subst (λ y. is_seizure_of d y ≡ true) (sym (same_some z t found)) is))
        by_test false found false same next = next found

pub begins_seizing : (ts : List Task) (d : ℕ) → begins_plainly ts ≡ Some d → is_some (seizure_of ts d) ≡ true
begins_seizing ts d is = by_first (first_of ts) refl is
  where
    by_work : (t : Task) (w : Work) → t.work ≡ w → (if registers_first w then Some t.device else None) ≡ Some d → first_of ts ≡ Some t → is_some (seizure_of ts d) ≡ true
    by_work t (Joins j) at some first = absurd (none_some d some)
    by_work t (Seizes s) at some first = by_test (registers_first (Seizes s)) some
      where
        same_self : (a b : ℕ) → a ≡ b → (a == b) ≡ true
        same_self a b e = grind arith

        both_true : (a b : Bool) → a ≡ true → b ≡ true → (a && b) ≡ true
        both_true true b i j = j
        both_true false b i j = absurd (false_true i)

        by_test : (b : Bool) → (if b then Some t.device else None) ≡ Some d → is_some (seizure_of ts d) ≡ true
        by_test false none = absurd (none_some d none)
        by_test true here =
            found_seizes ts t d (both_true (t.device == d) (is_seizing t.work) (same_self t.device d (same_some t.device d here)) (ap is_seizing at)) first

    by_first : (o : Option Task) → first_of ts ≡ o → option_and_then (λ (t : Task). if registers_first t.work then Some t.device else None) o ≡ Some d → is_some (seizure_of ts d) ≡ true
    by_first None first none = absurd (none_some d none)
    by_first (Some t) first some = by_work t t.work refl some first

-- one of its marks goes, of a device that it seizes
pub distrusts_seat : (h : Header) (past : Collected) (ms : List Moment) (n : ℕ) (x y : UpNode) (d : ℕ) → session_of y ≡ session_of x → installed_of y ≡ installed_of x
    → (record_of y).valid ≡ set_without (record_of x).valid d → y.tasks ≡ x.tasks → length h.devices ≤ 32 → (1 ≤ d) × (d ≤ 16) → is_some (seizure_of x.tasks d) ≡ true
    → (0 < session_of x → installed_of x ≢ session_of x → past (session_of x)) → SeatHeld h past ms n x → SeatHeld h past ms n y
distrusts_seat h past ms n x y d session installed valid tasks few low seizes gone k some ahead e is none = by_same (same_or_not e d)
  where
    at_most : (a b c : ℕ) → a ≤ b → b ≤ c → a ≤ c
    at_most a b c i j = omega (arith, i, j)

    high : (a : ℕ) → a ≤ 16 → a ≤ 32
    high a i = omega (arith, i)

    here : 0 < session_of x
    here = subst (λ q. 0 < q) session some

    not_yet : installed_of x ≢ session_of x
    not_yet same = ahead (installed ∙ (same ∙ sym session))

    with_session : HeldOr h past ms n (session_of x) e y.tasks → HeldOr h past ms n (session_of y) e y.tasks
    with_session old = subst (λ q. HeldOr h past ms n q e y.tasks) (sym session) old

    with_tasks : HeldOr h past ms n (session_of x) e x.tasks → HeldOr h past ms n (session_of x) e y.tasks
    with_tasks old = subst (λ ts. HeldOr h past ms n (session_of x) e ts) (sym tasks) old

    by_same : (e ≡ d) ⊎ (e ≢ d) → HeldOr h past ms n (session_of y) e y.tasks
    by_same (inl same) = with_session (with_tasks (inr (subst (λ j. is_some (seizure_of x.tasks j) ≡ true) (sym same) seizes, gone here not_yet)))
    by_same (inr other) =
        with_session (with_tasks (k here not_yet e is
        (sym (less_has (record_of x).valid d e low.0 (high d low.1) is.0 (at_most e (length h.devices) 32 is.1 few) other) ∙ (ap (λ z. has z e) (sym valid) ∙ none))))

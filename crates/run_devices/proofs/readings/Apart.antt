-- The devices of an attempt are apart: no two seizings are of one.
use Rattle.std.specs.Prelude.{ℕ, ◌≡◌, ◌==◌, ◌&&◌, ◌||◌, ◌++◌, Bool, true, false, List, [], ◌∷◌, Option, None, Some, find, map, is_none}
use Rattle.std.specs.List.{cons_option, filter_map, list_any}
use Rattle.std.proofs.Common.{refl, sym, subst, arith}
use Rattle.attempt_laws.specs.Asking.{AreApart, entry_numbers, numbers_of}
use Rattle.cl_base.specs.Sets.{has, set_with}
use Rattle.cl_base.specs.Seizings.{SeizeResult}
use Rattle.cmm_attempt.proofs.Basics.{if_either, same_number}
use Rattle.cmm_attempt.specs.Attempts.{AttemptState, plain_devices, vote_entries_under}
use Rattle.cmm_attempt.specs.Counts.{is_quorum, vote_new}
use Rattle.cmm_attempt.specs.Plans.{is_reachable}
use Rattle.cmm_attempt.specs.Seizings.{first_seizer, is_seized, plain_entry, plain_new, vote_entry, with_next, with_result}
use Rattle.cmm_attempt.specs.declared.attached.AttachedDevice.{AttachedDevice}
use Rattle.cmm_attempt.specs.declared.counting.BothVotes.{BothVotes}
use Rattle.cmm_attempt.specs.declared.plan.Plan.{Plan}
use Rattle.cmm_attempt.specs.declared.promised.Promised.{Promised}
use Rattle.cmm_attempt.specs.declared.seizing.Seizing.{Seizing}
use Rattle.run_seizings.proofs.Progress.{no_truth, or_right}

-- ---- of what a new entry is

abbrev IsOf : AttachedDevice → Option Seizing → Type 0
IsOf a None = Unit {0}
IsOf a (Some e) = e.attached ≡ a

lacks_with : (a : AttachedDevice) (o : Option Seizing) (es : List Seizing) (d : ℕ) → IsOf a o → (a.device == d) ≡ false
    → list_any (λ x. x == d) (entry_numbers es) ≡ false → list_any (λ x. x == d) (entry_numbers (cons_option o es)) ≡ false
lacks_with a None es d is ne h = h
lacks_with a (Some e) es d is ne h = rw (is, ne) h

pub or_false : (a b : Bool) → (a || b) ≡ false → (a ≡ false) × (b ≡ false)
or_false true b k = absurd (no_truth (sym k))
or_false false b k = (refl, k)

lacks : (f : AttachedDevice → Option Seizing) → ((a : AttachedDevice) → IsOf a (f a)) → (xs : List AttachedDevice) (d : ℕ)
    → list_any (λ x. x == d) (numbers_of xs) ≡ false → list_any (λ x. x == d) (entry_numbers (filter_map f xs)) ≡ false
lacks f keeps [] d h = refl
lacks f keeps (a ∷ xs) d h =
    let two : ((a.device == d) ≡ false) × (list_any (λ x. x == d) (numbers_of xs) ≡ false) = or_false (a.device == d) (list_any (λ x. x == d) (numbers_of xs)) h in
    lacks_with a (f a) (filter_map f xs) d (keeps a) two.0 (lacks f keeps xs d two.1)

apart_with : (a : AttachedDevice) (o : Option Seizing) (es : List Seizing) → IsOf a o → list_any (λ x. x == a.device) (entry_numbers es) ≡ false
    → AreApart (entry_numbers es) → AreApart (entry_numbers (cons_option o es))
apart_with a None es is h apart = apart
apart_with a (Some e) es is h apart = (rw is h, apart)

apart_new : (f : AttachedDevice → Option Seizing) → ((a : AttachedDevice) → IsOf a (f a)) → (xs : List AttachedDevice) → AreApart (numbers_of xs)
    → AreApart (entry_numbers (filter_map f xs))
apart_new f keeps [] h = tt
apart_new f keeps (a ∷ xs) h = apart_with a (f a) (filter_map f xs) (keeps a) (lacks f keeps xs a.device h.0) (apart_new f keeps xs h.1)

vote_of_device : (a : AttachedDevice) (o : Option ℕ) → IsOf a (Some (vote_entry a o))
vote_of_device a None = refl
vote_of_device a (Some n) = refl

vote_keeps : (plan : Plan) (promises : List Promised) (both : BothVotes) (a : AttachedDevice) → IsOf a (vote_new plan promises both a)
vote_keeps plan promises both a =
    if_either (IsOf a) (is_quorum both a.device && is_reachable plan a) (Some (vote_entry a (first_seizer plan promises a))) None
    (vote_of_device a (first_seizer plan promises a)) tt

plain_of_device : (a : AttachedDevice) (o : Option ℕ) → IsOf a (plain_entry a o)
plain_of_device a None = tt
plain_of_device a (Some n) = refl

plain_keeps : (plan : Plan) (devices : List Seizing) (a : AttachedDevice) → IsOf a (plain_new plan devices a)
plain_keeps plan devices a =
    if_either (IsOf a) (is_seized devices a.device) None (plain_entry a (find (λ n. has a.nodes n) plan.nodes)) tt (plain_of_device a (find (λ n. has a.nodes n) plan.nodes))

-- ---- the quorum devices, and the others beside them

pub votes_apart : (s : AttemptState) (o : Option BothVotes) → AreApart (numbers_of s.plan.attached) → AreApart (entry_numbers (vote_entries_under s o))
votes_apart s None h = tt
votes_apart s (Some both) h = apart_new (vote_new s.plan s.promises both) (vote_keeps s.plan s.promises both) s.plan.attached h

lacks_seized : (plan : Plan) (devices : List Seizing) (xs : List AttachedDevice) (d : ℕ) → is_seized devices d ≡ true
    → list_any (λ x. x == d) (entry_numbers (filter_map (plain_new plan devices) xs)) ≡ false
lacks_seized plan devices [] d h = refl
lacks_seized plan devices (a ∷ xs) d h = by_test (lacks_seized plan devices xs d h) (a.device == d) refl
  where
    seized : (a.device == d) ≡ true → is_seized devices a.device ≡ true
    seized e = subst (λ n. is_seized devices n ≡ true) (sym (same_number a.device d e)) h

    by_test : list_any (λ x. x == d) (entry_numbers (filter_map (plain_new plan devices) xs)) ≡ false → (b : Bool) → (a.device == d) ≡ b
        → list_any (λ x. x == d) (entry_numbers (filter_map (plain_new plan devices) (a ∷ xs))) ≡ false
    by_test rest true e = rw (seized e) rest
    by_test rest false e = lacks_with a (plain_new plan devices a) (filter_map (plain_new plan devices) xs) d (plain_keeps plan devices a) e rest

apart_append : (es more : List Seizing) → AreApart (entry_numbers es) → AreApart (entry_numbers more)
    → ((d : ℕ) → is_seized es d ≡ true → list_any (λ x. x == d) (entry_numbers more) ≡ false) → AreApart (entry_numbers (es ++ more))
apart_append [] more h k apart = k
apart_append (e ∷ es) more h k apart = (
  lacks_both es e.attached.device h.0 (apart e.attached.device (itself e.attached.device (is_seized es e.attached.device))),
  apart_append es more h.1 k (λ d is. apart d (or_right (e.attached.device == d) (is_seized es d) is)),
)
  where
    itself : (n : ℕ) (b : Bool) → ((n == n) || b) ≡ true
    itself n b = grind arith

    lacks_both : (xs : List Seizing) (d : ℕ) → list_any (λ x. x == d) (entry_numbers xs) ≡ false → list_any (λ x. x == d) (entry_numbers more) ≡ false
        → list_any (λ x. x == d) (entry_numbers (xs ++ more)) ≡ false
    lacks_both [] d p q = q
    lacks_both (x ∷ xs) d p q =
        let two : ((x.attached.device == d) ≡ false) × (list_any (λ y. y == d) (entry_numbers xs) ≡ false) =
        or_false (x.attached.device == d) (list_any (λ y. y == d) (entry_numbers xs)) p in
        rw two.0 (lacks_both xs d two.1 q)

pub plain_apart : (s : AttemptState) → AreApart (numbers_of s.plan.attached) → AreApart (entry_numbers s.devices) → AreApart (entry_numbers (s.devices ++ plain_devices s))
plain_apart s attached k =
    apart_append s.devices (plain_devices s) k (apart_new (plain_new s.plan s.devices) (plain_keeps s.plan s.devices) s.plan.attached attached)
    (λ d is. lacks_seized s.plan s.devices s.plan.attached d is)

-- ---- an answer, and the next that is asked

numbers_mapped : (f : Seizing → Seizing) → ((e : Seizing) → (f e).attached ≡ e.attached) → (es : List Seizing) → entry_numbers (map f es) ≡ entry_numbers es
numbers_mapped f same [] = refl
numbers_mapped f same (e ∷ es) = rw (same e, numbers_mapped f same es) refl

result_same : (d : ℕ) (r : SeizeResult) (e : Seizing) → (with_result d r e).attached ≡ e.attached
result_same d r e = if_either (λ (z : Seizing). z.attached ≡ e.attached) ((e.attached.device == d) && is_none e.result) (record e { result = Some r }) e refl refl

next_same : (d n : ℕ) (e : Seizing) → (with_next d n e).attached ≡ e.attached
next_same d n e =
    if_either (λ (z : Seizing). z.attached ≡ e.attached) ((e.attached.device == d) && is_none e.result) (record e { seizer = Some n; asked = set_with e.asked n }) e refl refl

pub results_apart : (d : ℕ) (r : SeizeResult) (es : List Seizing) → AreApart (entry_numbers es) → AreApart (entry_numbers (map (with_result d r) es))
results_apart d r es k = subst AreApart (sym (numbers_mapped (with_result d r) (result_same d r) es)) k

pub nexts_apart : (d n : ℕ) (es : List Seizing) → AreApart (entry_numbers es) → AreApart (entry_numbers (map (with_next d n) es))
nexts_apart d n es k = subst AreApart (sym (numbers_mapped (with_next d n) (next_same d n) es)) k

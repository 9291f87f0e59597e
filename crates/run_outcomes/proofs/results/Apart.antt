-- The devices that an attempt seizes are apart, and so the answer that it awaits is of one entry.
use Rattle.std.specs.Prelude.{ℕ, ◌+◌, ◌<◌, ◌≡◌, ◌==◌, ◌&&◌, ◌||◌, ◌++◌, Bool, true, false, List, [], ◌∷◌, Option, None, Some, find, map, is_none, if◌then◌else◌}
use Rattle.std.specs.List.{AllByRecursion, cons_option, filter_map, list_any}
use Rattle.std.proofs.Common.{refl, sym, ap, subst, ◌∙◌, arith}
use Rattle.attempt_laws.specs.Asking.{AreApart, entry_numbers, numbers_of}
use Rattle.cl_base.specs.Sets.{has}
use Rattle.cmm_attempt.proofs.Basics.{and_cases, false_true, if_either, none_some, same_number, same_some}
use Rattle.cmm_attempt.specs.Attempts.{AttemptState, plain_devices, vote_entries_under}
use Rattle.cmm_attempt.specs.Counts.{is_quorum, vote_new}
use Rattle.cmm_attempt.specs.Plans.{is_reachable}
use Rattle.cmm_attempt.specs.Seizings.{awaits, first_seizer, is_asked, is_seized, plain_entry, plain_new, vote_entry}
use Rattle.cmm_attempt.specs.declared.attached.AttachedDevice.{AttachedDevice}
use Rattle.cmm_attempt.specs.declared.counting.BothVotes.{BothVotes}
use Rattle.cmm_attempt.specs.declared.plan.Plan.{Plan}
use Rattle.cmm_attempt.specs.declared.promised.Promised.{Promised}
use Rattle.cmm_attempt.specs.declared.seizing.Seizing.{Seizing}
use Rattle.cl_base.specs.declared.header.HeaderDevice.{HeaderDevice}
use Rattle.world_model.specs.First.{attached_from}

or_false : (a b : Bool) → (a || b) ≡ false → (a ≡ false) × (b ≡ false)
or_false true b k = absurd (false_true (sym k))
or_false false b k = (refl, k)

-- ---- new entries

abbrev IsOf : AttachedDevice → Option Seizing → Type 0
IsOf a None = Unit {0}
IsOf a (Some e) = e.attached ≡ a

abbrev Lacks : ℕ → List Seizing → Type 0
Lacks d es = list_any (λ x. x == d) (entry_numbers es) ≡ false

lacks_with : (a : AttachedDevice) (o : Option Seizing) (es : List Seizing) (d : ℕ) → IsOf a o → (a.device == d) ≡ false → Lacks d es → Lacks d (cons_option o es)
lacks_with a None es d is ne h = h
lacks_with a (Some e) es d is ne h = ap (λ b. b || list_any (λ x. x == d) (entry_numbers es)) (ap (λ (z : AttachedDevice). z.device == d) is ∙ ne) ∙ h

lacks : (f : AttachedDevice → Option Seizing) → ((a : AttachedDevice) → IsOf a (f a)) → (xs : List AttachedDevice) (d : ℕ) → list_any (λ x. x == d) (numbers_of xs) ≡ false → Lacks d (filter_map f xs)
lacks f keeps [] d h = refl
lacks f keeps (a ∷ xs) d h =
    let two : ((a.device == d) ≡ false) × (list_any (λ x. x == d) (numbers_of xs) ≡ false) = or_false (a.device == d) (list_any (λ x. x == d) (numbers_of xs)) h in
    lacks_with a (f a) (filter_map f xs) d (keeps a) two.0 (lacks f keeps xs d two.1)

apart_with : (a : AttachedDevice) (o : Option Seizing) (es : List Seizing) → IsOf a o → Lacks a.device es → AreApart (entry_numbers es) → AreApart (entry_numbers (cons_option o es))
apart_with a None es is h apart = apart
apart_with a (Some e) es is h apart = (subst (λ (z : AttachedDevice). Lacks z.device es) (sym is) h, apart)

apart_new : (f : AttachedDevice → Option Seizing) → ((a : AttachedDevice) → IsOf a (f a)) → (xs : List AttachedDevice) → AreApart (numbers_of xs) → AreApart (entry_numbers (filter_map f xs))
apart_new f keeps [] h = tt
apart_new f keeps (a ∷ xs) h = apart_with a (f a) (filter_map f xs) (keeps a) (lacks f keeps xs a.device h.0) (apart_new f keeps xs h.1)

vote_of : (a : AttachedDevice) (o : Option ℕ) → (vote_entry a o).attached ≡ a
vote_of a None = refl
vote_of a (Some n) = refl

vote_keeps : (plan : Plan) (promises : List Promised) (both : BothVotes) (a : AttachedDevice) → IsOf a (vote_new plan promises both a)
vote_keeps plan promises both a =
    if_either (IsOf a) (is_quorum both a.device && is_reachable plan a) (Some (vote_entry a (first_seizer plan promises a))) None (vote_of a (first_seizer plan promises a)) tt

plain_of : (a : AttachedDevice) (o : Option ℕ) → IsOf a (plain_entry a o)
plain_of a None = tt
plain_of a (Some n) = refl

plain_keeps : (plan : Plan) (devices : List Seizing) (a : AttachedDevice) → IsOf a (plain_new plan devices a)
plain_keeps plan devices a = if_either (IsOf a) (is_seized devices a.device) None (plain_entry a (find (λ n. has a.nodes n) plan.nodes)) tt (plain_of a (find (λ n. has a.nodes n) plan.nodes))

pub votes_apart : (s : AttemptState) (o : Option BothVotes) → AreApart (numbers_of s.plan.attached) → AreApart (entry_numbers (vote_entries_under s o))
votes_apart s None h = tt
votes_apart s (Some both) h = apart_new (vote_new s.plan s.promises both) (vote_keeps s.plan s.promises both) s.plan.attached h

-- a device that is seized already is not among the others
seized_lacks : (plan : Plan) (devices : List Seizing) (d : ℕ) → is_seized devices d ≡ true → (xs : List AttachedDevice) → Lacks d (filter_map (plain_new plan devices) xs)
seized_lacks plan devices d h [] = refl
seized_lacks plan devices d h (a ∷ xs) = by_test (a.device == d) refl (seized_lacks plan devices d h xs)
  where
    by_test : (b : Bool) → (a.device == d) ≡ b → Lacks d (filter_map (plain_new plan devices) xs) → Lacks d (cons_option (plain_new plan devices a) (filter_map (plain_new plan devices) xs))
    by_test true is rest =
        subst (λ b. Lacks d (cons_option (if b then None else plain_entry a (find (λ n. has a.nodes n) plan.nodes)) (filter_map (plain_new plan devices) xs)))
        (sym (subst (λ n. is_seized devices n ≡ true) (sym (same_number a.device d is)) h)) rest
    by_test false is rest = lacks_with a (plain_new plan devices a) (filter_map (plain_new plan devices) xs) d (plain_keeps plan devices a) is rest

apart_append : (es more : List Seizing) → AreApart (entry_numbers es) → AreApart (entry_numbers more) → ((d : ℕ) → is_seized es d ≡ true → Lacks d more) → AreApart (entry_numbers (es ++ more))
apart_append [] more h k apart = k
apart_append (e ∷ es) more h k apart = (
  lacks_both es e.attached.device h.0 (apart e.attached.device (itself e.attached.device (is_seized es e.attached.device))),
  apart_append es more h.1 k (λ d is. apart d (second (e.attached.device == d) (is_seized es d) is)),
)
  where
    itself : (n : ℕ) (b : Bool) → ((n == n) || b) ≡ true
    itself n b = grind arith

    second : (a b : Bool) → b ≡ true → (a || b) ≡ true
    second true b q = refl
    second false b q = q

    lacks_both : (xs : List Seizing) (d : ℕ) → Lacks d xs → Lacks d more → Lacks d (xs ++ more)
    lacks_both [] d p q = q
    lacks_both (x ∷ xs) d p q =
        let two : ((x.attached.device == d) ≡ false) × Lacks d xs = or_false (x.attached.device == d) (list_any (λ y. y == d) (entry_numbers xs)) p in
        ap (λ b. b || list_any (λ y. y == d) (entry_numbers (xs ++ more))) two.0 ∙ lacks_both xs d two.1 q

pub others_apart : (s : AttemptState) → AreApart (numbers_of s.plan.attached) → AreApart (entry_numbers s.devices) → AreApart (entry_numbers (s.devices ++ plain_devices s))
others_apart s attached apart =
    apart_append s.devices (plain_devices s) apart (apart_new (plain_new s.plan s.devices) (plain_keeps s.plan s.devices) s.plan.attached attached)
    (λ d is. seized_lacks s.plan s.devices d is s.plan.attached)

pub mapped_apart : (f : Seizing → Seizing) → ((e : Seizing) → (f e).attached ≡ e.attached) → (es : List Seizing) → AreApart (entry_numbers es) → AreApart (entry_numbers (map f es))
mapped_apart f same es h = subst AreApart (sym (numbers es)) h
  where
    numbers : (xs : List Seizing) → entry_numbers (map f xs) ≡ entry_numbers xs
    numbers [] = refl
    numbers (x ∷ xs) = ap (λ (z : AttachedDevice). z.device ∷ entry_numbers (map f xs)) (same x) ∙ ap (λ ns. x.attached.device ∷ ns) (numbers xs)

-- ---- the entry that is awaited

abbrev pub IsTheOne : ℕ → Seizing → Seizing → Type 0
IsTheOne d e y = (y.attached.device == d) ≡ true → y ≡ e

pub found_awaits : (d from : ℕ) (es : List Seizing) (e : Seizing) → find (awaits d from) es ≡ Some e → awaits d from e ≡ true
found_awaits d from [] e is = absurd (none_some e is)
found_awaits d from (x ∷ es) e is = by_test (awaits d from x) refl is (found_awaits d from es e)
  where
    by_test : (b : Bool) → awaits d from x ≡ b → (if b then Some x else find (awaits d from) es) ≡ Some e → (find (awaits d from) es ≡ Some e → awaits d from e ≡ true) → awaits d from e ≡ true
    by_test true at here next = subst (λ z. awaits d from z ≡ true) (same_some x e here) at
    by_test false at there next = next there

pub awaited_device : (d from : ℕ) (e : Seizing) → awaits d from e ≡ true → (e.attached.device == d) ≡ true
awaited_device d from e is = (and_cases (e.attached.device == d) (is_none e.result) (and_cases ((e.attached.device == d) && is_none e.result) (is_asked e.seizer from) is).0).0

pub awaited_none : (d from : ℕ) (e : Seizing) → awaits d from e ≡ true → is_none e.result ≡ true
awaited_none d from e is = (and_cases (e.attached.device == d) (is_none e.result) (and_cases ((e.attached.device == d) && is_none e.result) (is_asked e.seizer from) is).0).1

pub awaited_seizer : (d from : ℕ) (e : Seizing) → awaits d from e ≡ true → e.seizer ≡ Some from
awaited_seizer d from e is = by_seizer e.seizer (and_cases ((e.attached.device == d) && is_none e.result) (is_asked e.seizer from) is).1
  where
    by_seizer : (o : Option ℕ) → is_asked o from ≡ true → o ≡ Some from
    by_seizer None k = absurd (false_true k)
    by_seizer (Some m) k = ap Some (same_number m from k)

-- no other entry is of its device
lacks_all : (d : ℕ) (e : Seizing) (es : List Seizing) → Lacks d es → AllByRecursion (IsTheOne d e) es
lacks_all d e [] h = tt
lacks_all d e (x ∷ es) h =
    let two : ((x.attached.device == d) ≡ false) × Lacks d es = or_false (x.attached.device == d) (list_any (λ y. y == d) (entry_numbers es)) h in
    ((λ is. absurd (false_true (sym two.0 ∙ is))), lacks_all d e es two.1)

lacks_found : (d from : ℕ) (es : List Seizing) (e : Seizing) → Lacks d es → find (awaits d from) es ≡ Some e → ⊥
lacks_found d from [] e h is = none_some e is
lacks_found d from (x ∷ es) e h is =
    let two : ((x.attached.device == d) ≡ false) × Lacks d es = or_false (x.attached.device == d) (list_any (λ y. y == d) (entry_numbers es)) h in
    by_test two.0 (awaits d from x) refl is (lacks_found d from es e two.1)
  where
    by_test : (x.attached.device == d) ≡ false → (b : Bool) → awaits d from x ≡ b → (if b then Some x else find (awaits d from) es) ≡ Some e → (find (awaits d from) es ≡ Some e → ⊥) → ⊥
    by_test other true at here next = false_true (sym other ∙ awaited_device d from x at)
    by_test other false at there next = next there

pub only_one : (d from : ℕ) (es : List Seizing) (e : Seizing) → AreApart (entry_numbers es) → find (awaits d from) es ≡ Some e → AllByRecursion (IsTheOne d e) es
only_one d from [] e apart is = tt
only_one d from (x ∷ es) e apart is = by_test (awaits d from x) refl is (only_one d from es e apart.1)
  where
    device : (x.attached.device == d) ≡ true → Lacks d es
    device at = subst (λ k. Lacks k es) (same_number x.attached.device d at) apart.0

    by_test : (b : Bool) → awaits d from x ≡ b → (if b then Some x else find (awaits d from) es) ≡ Some e → (find (awaits d from) es ≡ Some e → AllByRecursion (IsTheOne d e) es)
        → IsTheOne d e x × AllByRecursion (IsTheOne d e) es
    by_test true at here next = ((λ is. same_some x e here), lacks_all d e es (device (awaited_device d from x at)))
    by_test false at there next = ((λ is. absurd (lacks_found d from es e (device is) there)), next there)

-- ---- the devices of the header

not_among : (d number : ℕ) (ds : List HeaderDevice) → d < number → list_any (λ x. x == d) (numbers_of (attached_from number ds)) ≡ false
not_among d number [] low = refl
not_among d number (e ∷ ds) low = both_not (number == d) (list_any (λ x. x == d) (numbers_of (attached_from (number + 1) ds))) (other d number low) (not_among d (number + 1) ds (above d number low))
  where
    other : (a b : ℕ) → a < b → (b == a) ≡ false
    other a b h = grind arith

    above : (a b : ℕ) → a < b → a < b + 1
    above a b h = omega (arith, h)

    both_not : (p q : Bool) → p ≡ false → q ≡ false → (p || q) ≡ false
    both_not false q e h = h
    both_not true q e h = absurd (false_true (sym e))

pub header_apart : (number : ℕ) (ds : List HeaderDevice) → AreApart (numbers_of (attached_from number ds))
header_apart number [] = tt
header_apart number (d ∷ ds) = (not_among number (number + 1) ds (next number), header_apart (number + 1) ds)
  where
    next : (a : ℕ) → a < a + 1
    next a = omega arith

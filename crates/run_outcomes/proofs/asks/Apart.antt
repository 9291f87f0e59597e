-- Entries of devices that are apart: the one of a device is found, and new ones leave them apart.
use Rattle.std.specs.Prelude.{ℕ, ◌==◌, ◌&&◌, ◌||◌, ◌++◌, ◌≡◌, Bool, true, false, List, [], ◌∷◌, Option, None, Some, is_none, is_some, map, option_map, if◌then◌else◌}
use Rattle.std.specs.List.{cons_option, filter_map, find, list_any}
use Rattle.std.proofs.Common.{arith, refl, sym, ap, subst, ◌∙◌}
use Rattle.attempt_laws.specs.Asking.{AreApart, entry_numbers, entry_of, numbers_of}
use Rattle.cl_base.specs.Seizings.{SeizeResult}
use Rattle.cl_base.specs.Sets.{has}
use Rattle.cmm_attempt.proofs.Basics.{and_cases, false_true, if_either, none_some, same_number, same_some}
use Rattle.cmm_attempt.specs.Counts.{is_quorum, vote_new}
use Rattle.cmm_attempt.specs.Plans.{is_reachable}
use Rattle.cmm_attempt.specs.Seizings.{all_settled, first_seizer, is_seized, plain_entry, plain_new, vote_entry}
use Rattle.cmm_attempt.specs.declared.attached.AttachedDevice.{AttachedDevice}
use Rattle.cmm_attempt.specs.declared.counting.BothVotes.{BothVotes}
use Rattle.cmm_attempt.specs.declared.plan.Plan.{Plan}
use Rattle.cmm_attempt.specs.declared.promised.Promised.{Promised}
use Rattle.cmm_attempt.specs.declared.seizing.Seizing.{Seizing}

pub entry_mapped : (f : Seizing → Seizing) → ((e : Seizing) → (f e).attached ≡ e.attached) → (es : List Seizing) (d : ℕ) → entry_of (map f es) d ≡ option_map f (entry_of es d)
entry_mapped f same [] d = refl
entry_mapped f same (e ∷ es) d =
    ap (λ b. if b then Some (f e) else entry_of (map f es) d) (ap (λ a. a.device == d) (same e)) ∙ by_test (entry_mapped f same es d) (e.attached.device == d)
  where
    by_test : entry_of (map f es) d ≡ option_map f (entry_of es d) → (b : Bool)
        → (if b then Some (f e) else entry_of (map f es) d) ≡ option_map f (if b then Some e else entry_of es d)
    by_test rest true = refl
    by_test rest false = rest

pub numbers_mapped : (f : Seizing → Seizing) → ((e : Seizing) → (f e).attached ≡ e.attached) → (es : List Seizing) → entry_numbers (map f es) ≡ entry_numbers es
numbers_mapped f same [] = refl
numbers_mapped f same (e ∷ es) = rw (same e, numbers_mapped f same es) refl

any_appended : (d : ℕ) (es more : List Seizing) → entry_of (es ++ more) d ≡ (if is_some (entry_of es d) then entry_of es d else entry_of more d)
any_appended d [] more = refl
any_appended d (e ∷ es) more = by_test (any_appended d es more) (e.attached.device == d)
  where
    by_test : entry_of (es ++ more) d ≡ (if is_some (entry_of es d) then entry_of es d else entry_of more d) → (b : Bool)
        → (if b then Some e else entry_of (es ++ more) d) ≡ (if is_some (if b then Some e else entry_of es d) then (if b then Some e else entry_of es d) else entry_of more d)
    by_test rest true = refl
    by_test rest false = rest

pub appended_by : (d : ℕ) (es more : List Seizing) (o : Option Seizing) → entry_of es d ≡ o → entry_of (es ++ more) d ≡ (if is_some o then o else entry_of more d)
appended_by d es more o h = subst (λ x. entry_of (es ++ more) d ≡ (if is_some x then x else entry_of more d)) h (any_appended d es more)

none_listed : (d : ℕ) (es : List Seizing) → list_any (λ x. x == d) (entry_numbers es) ≡ false → (p : Seizing → Bool) → ((e : Seizing) → p e ≡ true → (e.attached.device == d) ≡ true)
    → (e : Seizing) → find p es ≡ Some e → ⊥
none_listed d [] none p is e h = none_some e h
none_listed d (x ∷ es) none p is e h = by_test (λ no. none_listed d es no p is e) (p x) refl h
  where
    or_false : (a b : Bool) → (a || b) ≡ false → (a ≡ false) × (b ≡ false)
    or_false true b k = absurd (false_true (sym k))
    or_false false b k = (refl, k)

    two : ((x.attached.device == d) ≡ false) × (list_any (λ y. y == d) (entry_numbers es) ≡ false)
    two = or_false (x.attached.device == d) (list_any (λ y. y == d) (entry_numbers es)) none

    by_test : (list_any (λ y. y == d) (entry_numbers es) ≡ false → find p es ≡ Some e → ⊥) → (b : Bool) → p x ≡ b → (if b then Some x else find p es) ≡ Some e → ⊥
    by_test rest true e' k = false_true (sym two.0 ∙ is x e')
    by_test rest false e' k = rest two.1 k

pub entry_found : (d : ℕ) (p : Seizing → Bool) → ((e : Seizing) → p e ≡ true → (e.attached.device == d) ≡ true) → (es : List Seizing) → AreApart (entry_numbers es)
    → (e : Seizing) → find p es ≡ Some e → (entry_of es d ≡ Some e) × (p e ≡ true)
entry_found d p is [] apart e h = absurd (none_some e h)
entry_found d p is (x ∷ es) apart e h = by_test (entry_found d p is es apart.1 e) (p x) refl h
  where
    here : (find p es ≡ Some e → (entry_of es d ≡ Some e) × (p e ≡ true)) → (b : Bool) → (x.attached.device == d) ≡ b → p x ≡ false → (find p es ≡ Some e)
        → ((if b then Some x else entry_of es d) ≡ Some e) × (p e ≡ true)
    here rest true k lacks_it f =
        absurd (none_listed d es (subst (λ n. list_any (λ y. y == n) (entry_numbers es) ≡ false) (same_number x.attached.device d k) apart.0) p is e f)
    here rest false k lacks_it f = rest f

    by_test : (find p es ≡ Some e → (entry_of es d ≡ Some e) × (p e ≡ true)) → (b : Bool) → p x ≡ b → (if b then Some x else find p es) ≡ Some e
        → ((if x.attached.device == d then Some x else entry_of es d) ≡ Some e) × (p e ≡ true)
    by_test rest true k f = (rw (is x k) f, subst (λ y. p y ≡ true) (same_some x e f) k)
    by_test rest false k f = here rest (x.attached.device == d) refl k f

pub settled_one : (es : List Seizing) (d : ℕ) (e : Seizing) → all_settled es ≡ true → entry_of es d ≡ Some e → is_some e.result ≡ true
settled_one [] d e all h = absurd (none_some e h)
settled_one (x ∷ es) d e all h =
    by_test (settled_one es d e (and_cases (is_some x.result) (all_settled es) all).1) (x.attached.device == d) h
  where
    two : (is_some x.result ≡ true) × (all_settled es ≡ true)
    two = and_cases (is_some x.result) (all_settled es) all

    by_test : (entry_of es d ≡ Some e → is_some e.result ≡ true) → (b : Bool) → (if b then Some x else entry_of es d) ≡ Some e → is_some e.result ≡ true
    by_test rest true k = subst (λ y. is_some y.result ≡ true) (same_some x e k) two.0
    by_test rest false k = rest k

pub found_device : (es : List Seizing) (d : ℕ) (e : Seizing) → entry_of es d ≡ Some e → e.attached.device ≡ d
found_device [] d e h = absurd (none_some e h)
found_device (x ∷ es) d e h = by_test (found_device es d e) (x.attached.device == d) refl h
  where
    by_test : (entry_of es d ≡ Some e → e.attached.device ≡ d) → (b : Bool) → (x.attached.device == d) ≡ b → (if b then Some x else entry_of es d) ≡ Some e → e.attached.device ≡ d
    by_test rest true is k = subst (λ y. y.attached.device ≡ d) (same_some x e k) (same_number x.attached.device d is)
    by_test rest false is k = rest k

abbrev IsOf : AttachedDevice → Option Seizing → Type 0
IsOf a None = Unit {0}
IsOf a (Some e) = e.attached ≡ a

lacks_with : (a : AttachedDevice) (o : Option Seizing) (es : List Seizing) (d : ℕ) → IsOf a o → (a.device == d) ≡ false
    → list_any (λ x. x == d) (entry_numbers es) ≡ false → list_any (λ x. x == d) (entry_numbers (cons_option o es)) ≡ false
lacks_with a None es d is ne h = h
lacks_with a (Some e) es d is ne h = rw (is, ne) h

or_false : (a b : Bool) → (a || b) ≡ false → (a ≡ false) × (b ≡ false)
or_false true b k = absurd (false_true (sym k))
or_false false b k = (refl, k)

lacks : (f : AttachedDevice → Option Seizing) → ((a : AttachedDevice) → IsOf a (f a)) → (xs : List AttachedDevice) (d : ℕ)
    → list_any (λ x. x == d) (numbers_of xs) ≡ false → list_any (λ x. x == d) (entry_numbers (filter_map f xs)) ≡ false
lacks f keeps [] d h = refl
lacks f keeps (a ∷ xs) d h =
    let two : ((a.device == d) ≡ false) × (list_any (λ x. x == d) (numbers_of xs) ≡ false) = or_false (a.device == d) (list_any (λ x. x == d) (numbers_of xs)) h in
    lacks_with a (f a) (filter_map f xs) d (keeps a) two.0 (lacks f keeps xs d two.1)

apart_with : (a : AttachedDevice) (o : Option Seizing) (es : List Seizing) → IsOf a o → list_any (λ x. x == a.device) (entry_numbers es) ≡ false
    → AreApart (entry_numbers es) → AreApart (entry_numbers (cons_option o es))
apart_with a None es is h apart = apart
apart_with a (Some e) es is h apart = (rw is h, apart)

pub apart_new : (f : AttachedDevice → Option Seizing) → ((a : AttachedDevice) → IsOf a (f a)) → (xs : List AttachedDevice) → AreApart (numbers_of xs)
    → AreApart (entry_numbers (filter_map f xs))
apart_new f keeps [] h = tt
apart_new f keeps (a ∷ xs) h = apart_with a (f a) (filter_map f xs) (keeps a) (lacks f keeps xs a.device h.0) (apart_new f keeps xs h.1)

pub entry_new : (f : AttachedDevice → Option Seizing) (Q : Seizing → Type 0) → ((a : AttachedDevice) (e : Seizing) → f a ≡ Some e → Q e) → (xs : List AttachedDevice) (d : ℕ) (e : Seizing)
    → entry_of (filter_map f xs) d ≡ Some e → Q e
entry_new f Q made [] d e h = absurd (none_some e h)
entry_new f Q made (a ∷ xs) d e h = by_option (entry_new f Q made xs d e) (f a) refl h
  where
    by_test : (entry_of (filter_map f xs) d ≡ Some e → Q e) → (x : Seizing) → Q x → (b : Bool) → (if b then Some x else entry_of (filter_map f xs) d) ≡ Some e → Q e
    by_test rest x q true k = subst Q (same_some x e k) q
    by_test rest x q false k = rest k

    by_option : (entry_of (filter_map f xs) d ≡ Some e → Q e) → (o : Option Seizing) → f a ≡ o → entry_of (cons_option o (filter_map f xs)) d ≡ Some e → Q e
    by_option rest None is k = rest k
    by_option rest (Some x) is k = by_test rest x (made a x is) (x.attached.device == d) k

vote_of_device : (a : AttachedDevice) (o : Option ℕ) → IsOf a (Some (vote_entry a o))
vote_of_device a None = refl
vote_of_device a (Some n) = refl

pub vote_keeps : (plan : Plan) (promises : List Promised) (both : BothVotes) (a : AttachedDevice) → IsOf a (vote_new plan promises both a)
vote_keeps plan promises both a =
    if_either (IsOf a) (is_quorum both a.device && is_reachable plan a) (Some (vote_entry a (first_seizer plan promises a))) None
    (vote_of_device a (first_seizer plan promises a)) tt

plain_of_device : (a : AttachedDevice) (o : Option ℕ) → IsOf a (plain_entry a o)
plain_of_device a None = tt
plain_of_device a (Some n) = refl

pub plain_keeps : (plan : Plan) (devices : List Seizing) (a : AttachedDevice) → IsOf a (plain_new plan devices a)
plain_keeps plan devices a =
    if_either (IsOf a) (is_seized devices a.device) None (plain_entry a (find (λ n. has a.nodes n) plan.nodes)) tt (plain_of_device a (find (λ n. has a.nodes n) plan.nodes))

listed_number : (es : List Seizing) (d : ℕ) → is_seized es d ≡ list_any (λ x. x == d) (entry_numbers es)
listed_number [] d = refl
listed_number (e ∷ es) d = rw (listed_number es d) refl

pub lacks_seized : (plan : Plan) (devices : List Seizing) (xs : List AttachedDevice) (d : ℕ) → is_seized devices d ≡ true
    → list_any (λ x. x == d) (entry_numbers (filter_map (plain_new plan devices) xs)) ≡ false
lacks_seized plan devices [] d h = refl
lacks_seized plan devices (a ∷ xs) d h = by_test (lacks_seized plan devices xs d h) (a.device == d) refl
  where
    seized : (a.device == d) ≡ true → is_seized devices a.device ≡ true
    seized e = subst (λ n. is_seized devices n ≡ true) (sym (same_number a.device d e)) h

    by_test : list_any (λ x. x == d) (entry_numbers (filter_map (plain_new plan devices) xs)) ≡ false → (b : Bool) → (a.device == d) ≡ b
        → list_any (λ x. x == d) (entry_numbers (filter_map (plain_new plan devices) (a ∷ xs))) ≡ false
    by_test rest true e = rw (seized e) rest
    by_test rest false e = lacks_with a (plain_new plan devices a) (filter_map (plain_new plan devices) xs) d (plain_keeps plan devices a) e rest

pub apart_append : (es more : List Seizing) → AreApart (entry_numbers es) → AreApart (entry_numbers more)
    → ((d : ℕ) → is_seized es d ≡ true → list_any (λ x. x == d) (entry_numbers more) ≡ false) → AreApart (entry_numbers (es ++ more))
apart_append [] more h k apart = k
apart_append (e ∷ es) more h k apart = (
  lacks_both es e.attached.device h.0 (apart e.attached.device (itself e.attached.device (is_seized es e.attached.device))),
  apart_append es more h.1 k (λ d is. apart d (second (e.attached.device == d) (is_seized es d) is)),
)
  where
    itself : (n : ℕ) (b : Bool) → ((n == n) || b) ≡ true
    itself n b = grind arith

    second : (a b : Bool) → b ≡ true → (a || b) ≡ true
    second true b q = refl
    second false b q = q

    lacks_both : (xs : List Seizing) (d : ℕ) → list_any (λ x. x == d) (entry_numbers xs) ≡ false → list_any (λ x. x == d) (entry_numbers more) ≡ false
        → list_any (λ x. x == d) (entry_numbers (xs ++ more)) ≡ false
    lacks_both [] d p q = q
    lacks_both (x ∷ xs) d p q =
        let two : ((x.attached.device == d) ≡ false) × (list_any (λ y. y == d) (entry_numbers xs) ≡ false) =
        or_false (x.attached.device == d) (list_any (λ y. y == d) (entry_numbers xs)) p in
        rw two.0 (lacks_both xs d two.1 q)

pub is_itself : (n d : ℕ) → n ≡ d → (n == d) ≡ true
is_itself n d h = grind arith

pub is_none_of : (o : Option SeizeResult) → is_none o ≡ true → o ≡ None
is_none_of None h = refl
is_none_of (Some r) h = absurd (false_true h)

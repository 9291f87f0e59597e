-- The entry of a device: as entries are changed and put together, and as the one of which the answer is awaited.
use Rattle.std.specs.Prelude.{ℕ, ◌==◌, ◌≡◌, ◌&&◌, ◌||◌, ◌++◌, Bool, true, false, List, [], ◌∷◌, Option, None, Some, find, is_none, map, if◌then◌else◌}
use Rattle.std.specs.List.{AllByRecursion, list_any}
use Rattle.std.specs.Option.{option_map}
use Rattle.std.proofs.Common.{arith, refl, sym, ap, subst, ◌∙◌}
use Rattle.attempt_laws.specs.Asking.{AreApart, entry_numbers, entry_of}
use Rattle.cl_base.specs.Seizings.{SeizeResult}
use Rattle.cmm_attempt.proofs.Basics.{and_cases, false_true, none_some, same_number, same_some}
use Rattle.cmm_attempt.specs.Seizings.{awaits, is_asked}
use Rattle.cmm_attempt.specs.declared.attached.AttachedDevice.{AttachedDevice}
use Rattle.cmm_attempt.specs.declared.seizing.Seizing.{Seizing}

-- ---- lists of entries

pub if_one : {X : Type 0} (b : Bool) (x y : X) → b ≡ true → (if b then x else y) ≡ x
if_one true x y is = refl
if_one false x y is = absurd (false_true is)

pub if_two : {X : Type 0} (b : Bool) (x y : X) → b ≡ false → (if b then x else y) ≡ y
if_two true x y is = absurd (false_true (sym is))
if_two false x y is = refl

pub entry_mapped : (f : Seizing → Seizing) → ((e : Seizing) → (f e).attached ≡ e.attached) → (es : List Seizing) (d : ℕ) → entry_of (map f es) d ≡ option_map f (entry_of es d)
entry_mapped f same [] d = refl
entry_mapped f same (e ∷ es) d =
    ap (λ b. if b then Some (f e) else entry_of (map f es) d) (ap (λ (a : AttachedDevice). a.device == d) (same e)) ∙ by_test (entry_mapped f same es d) (e.attached.device == d)
  where
    by_test : entry_of (map f es) d ≡ option_map f (entry_of es d) → (b : Bool) → (if b then Some (f e) else entry_of (map f es) d) ≡ option_map f (if b then Some e else entry_of es d)
    by_test rest true = refl
    by_test rest false = rest

pub entry_first : (d : ℕ) (es others : List Seizing) (e : Seizing) → entry_of es d ≡ Some e → entry_of (es ++ others) d ≡ Some e
entry_first d [] others e is = absurd (none_some e is)
entry_first d (x ∷ es) others e is = by_test (x.attached.device == d) (λ there. entry_first d es others e there) is
  where
    by_test : (b : Bool) → (entry_of es d ≡ Some e → entry_of (es ++ others) d ≡ Some e) → (if b then Some x else entry_of es d) ≡ Some e → (if b then Some x else entry_of (es ++ others) d) ≡ Some e
    by_test true rest at = at
    by_test false rest at = rest at

pub entry_second : (d : ℕ) (es others : List Seizing) → entry_of es d ≡ None → entry_of (es ++ others) d ≡ entry_of others d
entry_second d [] others none = refl
entry_second d (x ∷ es) others none = by_test (x.attached.device == d) (λ there. entry_second d es others there) none
  where
    by_test : (b : Bool) → (entry_of es d ≡ None → entry_of (es ++ others) d ≡ entry_of others d) → (if b then Some x else entry_of es d) ≡ None
        → (if b then Some x else entry_of (es ++ others) d) ≡ entry_of others d
    by_test true rest at = absurd (none_some x (sym at))
    by_test false rest at = rest at

pub entry_among : (Q : Seizing → Type 0) (d : ℕ) (es : List Seizing) (e : Seizing) → AllByRecursion Q es → entry_of es d ≡ Some e → Q e
entry_among Q d [] e all is = absurd (none_some e is)
entry_among Q d (x ∷ es) e all is = by_test (x.attached.device == d) (λ there. entry_among Q d es e all.1 there) is
  where
    by_test : (b : Bool) → (entry_of es d ≡ Some e → Q e) → (if b then Some x else entry_of es d) ≡ Some e → Q e
    by_test true rest at = subst Q (same_some x e at) all.0
    by_test false rest at = rest at

pub or_false : (a b : Bool) → (a || b) ≡ false → (a ≡ false) × (b ≡ false)
or_false true b k = absurd (false_true (sym k))
or_false false b k = (refl, k)

none_listed : (d : ℕ) (p : Seizing → Bool) → ((e : Seizing) → p e ≡ true → (e.attached.device == d) ≡ true) → (es : List Seizing) (e : Seizing) → list_any (λ x. x == d) (entry_numbers es) ≡ false
    → find p es ≡ Some e → ⊥
none_listed d p is [] e none h = none_some e h
none_listed d p is (x ∷ es) e none h = by_test (p x) refl (λ there. none_listed d p is es e two.1 there) h
  where
    two : ((x.attached.device == d) ≡ false) × (list_any (λ y. y == d) (entry_numbers es) ≡ false)
    two = or_false (x.attached.device == d) (list_any (λ y. y == d) (entry_numbers es)) none

    by_test : (b : Bool) → p x ≡ b → (find p es ≡ Some e → ⊥) → (if b then Some x else find p es) ≡ Some e → ⊥
    by_test true at rest k = false_true (sym two.0 ∙ is x at)
    by_test false at rest k = rest k

-- of devices apart, what is found for d is the entry of d
entry_found : (d : ℕ) (p : Seizing → Bool) → ((e : Seizing) → p e ≡ true → (e.attached.device == d) ≡ true) → (es : List Seizing) (e : Seizing) → AreApart (entry_numbers es) → find p es ≡ Some e
    → (entry_of es d ≡ Some e) × (p e ≡ true)
entry_found d p is [] e apart h = absurd (none_some e h)
entry_found d p is (x ∷ es) e apart h = by_test (p x) refl (λ there. entry_found d p is es e apart.1 there) h
  where
    here : (b : Bool) → (x.attached.device == d) ≡ b → (find p es ≡ Some e → (entry_of es d ≡ Some e) × (p e ≡ true)) → find p es ≡ Some e → ((if b then Some x else entry_of es d) ≡ Some e) × (p e ≡ true)
    here true k rest f = absurd (none_listed d p is es e (subst (λ n. list_any (λ y. y == n) (entry_numbers es) ≡ false) (same_number x.attached.device d k) apart.0) f)
    here false k rest f = rest f

    by_test : (b : Bool) → p x ≡ b → (find p es ≡ Some e → (entry_of es d ≡ Some e) × (p e ≡ true)) → (if b then Some x else find p es) ≡ Some e
        → ((if x.attached.device == d then Some x else entry_of es d) ≡ Some e) × (p e ≡ true)
    by_test true k rest f = (if_one (x.attached.device == d) (Some x) (entry_of es d) (is x k) ∙ f, subst (λ y. p y ≡ true) (same_some x e f) k)
    by_test false k rest f = here (x.attached.device == d) refl rest f

-- .. and nothing is found only where that is not what is sought
pub not_found : (d : ℕ) (p : Seizing → Bool) (es : List Seizing) (e : Seizing) → entry_of es d ≡ Some e → p e ≡ true → find p es ≡ None → ⊥
not_found d p [] e at is none = none_some e at
not_found d p (x ∷ es) e at is none = by_test (p x) refl (x.attached.device == d) (λ there h. not_found d p es e there is h) at none
  where
    by_test : (b : Bool) → p x ≡ b → (z : Bool) → (entry_of es d ≡ Some e → find p es ≡ None → ⊥) → (if z then Some x else entry_of es d) ≡ Some e → (if b then Some x else find p es) ≡ None → ⊥
    by_test true k z rest here h = none_some x (sym h)
    by_test false k true rest here h = false_true (sym k ∙ subst (λ y. p y ≡ true) (sym (same_some x e here)) is)
    by_test false k false rest here h = rest here h

-- ---- who is awaited

asked_is : (o : Option ℕ) (n : ℕ) → is_asked o n ≡ true → o ≡ Some n
asked_is None n h = absurd (false_true h)
asked_is (Some m) n h = ap Some (same_number m n h)

none_is : (o : Option SeizeResult) → is_none o ≡ true → o ≡ None
none_is None h = refl
none_is (Some r) h = absurd (false_true h)

pub itself : (a b : ℕ) → a ≡ b → (a == b) ≡ true
itself a b e = grind arith

pub both : (a b : Bool) → a ≡ true → b ≡ true → (a && b) ≡ true
both true b h k = k
both false b h k = absurd (false_true h)

awaits_device : (d from : ℕ) (e : Seizing) → awaits d from e ≡ true → (e.attached.device == d) ≡ true
awaits_device d from e is = (and_cases (e.attached.device == d) (is_none e.result) (and_cases ((e.attached.device == d) && is_none e.result) (is_asked e.seizer from) is).0).0

-- the entry of which the answer is awaited
pub record Awaited (d from : ℕ) (es : List Seizing) (e : Seizing) : Type 0 where
  pub there : entry_of es d ≡ Some e
  pub device : e.attached.device ≡ d
  pub result : e.result ≡ None
  pub seizer : e.seizer ≡ Some from

pub awaited : (d from : ℕ) (es : List Seizing) (e : Seizing) → AreApart (entry_numbers es) → find (awaits d from) es ≡ Some e → Awaited d from es e
awaited d from es e apart found =
    let z : (entry_of es d ≡ Some e) × (awaits d from e ≡ true) = entry_found d (awaits d from) (λ x is. awaits_device d from x is) es e apart found in
    let two : (((e.attached.device == d) && is_none e.result) ≡ true) × (is_asked e.seizer from ≡ true) = and_cases ((e.attached.device == d) && is_none e.result) (is_asked e.seizer from) z.1 in
    let one : ((e.attached.device == d) ≡ true) × (is_none e.result ≡ true) = and_cases (e.attached.device == d) (is_none e.result) two.0 in
    record { there = z.0; device = same_number e.attached.device d one.0; result = none_is e.result one.1; seizer = asked_is e.seizer from two.1 }

pub entry_device : (d : ℕ) (es : List Seizing) (e : Seizing) → entry_of es d ≡ Some e → e.attached.device ≡ d
entry_device d [] e is = absurd (none_some e is)
entry_device d (x ∷ es) e is = by_test (x.attached.device == d) refl (λ there. entry_device d es e there) is
  where
    by_test : (b : Bool) → (x.attached.device == d) ≡ b → (entry_of es d ≡ Some e → e.attached.device ≡ d) → (if b then Some x else entry_of es d) ≡ Some e → e.attached.device ≡ d
    by_test true at rest h = subst (λ (y : Seizing). y.attached.device ≡ d) (same_some x e h) (same_number x.attached.device d at)
    by_test false at rest h = rest h

-- an entry of d that waits for the answer of this member is found
pub is_awaited : (d from : ℕ) (es : List Seizing) (e : Seizing) → entry_of es d ≡ Some e → e.seizer ≡ Some from → e.result ≡ None → find (awaits d from) es ≡ None → ⊥
is_awaited d from es e at seizer result none =
    not_found d (awaits d from) es e at
    (both ((e.attached.device == d) && is_none e.result) (is_asked e.seizer from)
    (both (e.attached.device == d) (is_none e.result) (itself e.attached.device d (entry_device d es e at)) (ap (λ o. is_none o) result))
    (ap (λ o. is_asked o from) seizer ∙ itself from from refl)) none

-- Lists of which each part has a property.
use Rattle.std.specs.Prelude.{◌≡◌, ◌++◌, Bool, List, [], ◌∷◌, Option, None, Some, IfSome, find, flat_map, map}
use Rattle.std.proofs.Common.{subst}
use Rattle.std.specs.List.{AllByRecursion, cons_option}
use Rattle.cmm_attempt.proofs.Basics.{if_either, none_some, same_some}

pub all_and : {X : Type 0} (P : X → Type 0) (xs : List X) (y : X) → AllByRecursion P xs → P y → AllByRecursion P (xs ++ y ∷ [])
all_and P [] y h p = (p, tt)
all_and P (x ∷ xs) y h p = (h.0, all_and P xs y h.1 p)

pub both : {X : Type 0} (P : X → Type 0) (xs ys : List X) → AllByRecursion P xs → AllByRecursion P ys → AllByRecursion P (xs ++ ys)
both P [] ys h k = k
both P (x ∷ xs) ys h k = (h.0, both P xs ys h.1 k)

pub second : {X : Type 0} (P : X → Type 0) (xs ys : List X) → AllByRecursion P (xs ++ ys) → AllByRecursion P ys
second P [] ys h = h
second P (x ∷ xs) ys h = second P xs ys h.1

pub more : {X : Type 0} (P : X → Type 0) (o : Option X) (xs : List X) → IfSome o P → AllByRecursion P xs → AllByRecursion P (cons_option o xs)
more P None xs q h = h
more P (Some x) xs q h = (q, h)

pub of_each : {X Y : Type 0} (P : Y → Type 0) (f : X → List Y) (xs : List X) → ((x : X) → AllByRecursion P (f x)) → AllByRecursion P (flat_map f xs)
of_each P f [] h = tt
of_each P f (x ∷ xs) h = both P (f x) (flat_map f xs) (h x) (of_each P f xs h)

pub mapped : {X Y : Type 0} (P : Y → Type 0) (f : X → Y) (xs : List X) → ((x : X) → P (f x)) → AllByRecursion P (map f xs)
mapped P f [] h = tt
mapped P f (x ∷ xs) h = (h x, mapped P f xs h)

pub when_some : {X : Type 0} (P : X → Type 0) (o : Option X) (x : X) → IfSome o P → o ≡ Some x → P x
when_some P None x h e = absurd (none_some x e)
when_some P (Some y) x h e = subst P (same_some y x e) h

-- the first that passes the test
pub found : {X : Type 0} (P : X → Type 0) (test : X → Bool) (xs : List X) → AllByRecursion P xs → IfSome (find test xs) P
found P test [] h = tt
found P test (x ∷ xs) h = if_either (λ o. IfSome o P) (test x) (Some x) (find test xs) h.0 (found P test xs h.1)

-- Truth values, options and numbers.
use Rattle.std.proofs.Common.{◌≡◌, ℕ, ◌<◌, ◌⊎◌, inl, inr, arith, refl, ap, subst}
use Rattle.std.specs.Prelude.{◌==◌, ◌&&◌, ◌||◌, nat_lt, Bool, true, false, Option, Some, None, unwrap_or, if◌then◌else◌}

IsNoneOf : {X : Type 0} → Option X → Type 0
IsNoneOf None = Unit {0}
IsNoneOf (Some x) = ⊥

pub none_some : {X : Type 0} (x : X) → None ≡ Some x → ⊥
unfolding IsNoneOf
none_some x h = subst IsNoneOf h tt

IsFalseOf : Bool → Type 0
IsFalseOf false = Unit {0}
IsFalseOf true = ⊥

pub false_true : false ≡ true → ⊥
unfolding IsFalseOf
false_true h = subst IsFalseOf h tt

pub same_some : {X : Type 0} (x y : X) → Some x ≡ Some y → x ≡ y
same_some x y h = ap (λ o. unwrap_or o x) h

pub or_cases : (a b : Bool) → (a || b) ≡ true → (a ≡ true) ⊎ (b ≡ true)
or_cases true b h = inl refl
or_cases false b h = inr h

pub and_cases : (a b : Bool) → (a && b) ≡ true → (a ≡ true) × (b ≡ true)
and_cases true b h = (refl, h)
and_cases false b h = absurd (false_true h)

pub either_of : {A B C : Type 0} → A ⊎ B → (A → C) → (B → C) → C
either_of (inl a) f g = f a
either_of (inr b) f g = g b

pub same_number : (a b : ℕ) → (a == b) ≡ true → a ≡ b
same_number a b h = grind arith

pub less : (a b : ℕ) → nat_lt a b ≡ true → a < b
less a b h = grind arith

pub if_either : {X : Type 0} (P : X → Type 0) (b : Bool) (x y : X) → P x → P y → P (if b then x else y)
if_either P true x y p q = p
if_either P false x y p q = q

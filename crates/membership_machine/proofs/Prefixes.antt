-- First parts of lists.
use Rattle.std.proofs.Common.{ℕ, zero, suc, ◌≤◌, ◌≡◌, sym, ap, ◌∙◌, List, [], ◌∷◌, ◌++◌, length, take, slice_get, Some, arith, take-take}
use Rattle.std.proofs.lemmas.List.{take-append-le, length-take-le}
use Rattle.membership_machine.specs.Records.{Update}
use Rattle.membership_machine.specs.Starts.{Alike}

-- a list that is a first part of another has that other's shorter first parts
pub first_of_part : (v : ℕ) (xs ys : List Update) → xs ≡ take (length xs) ys → v ≤ length xs → take v xs ≡ take v ys
first_of_part v xs ys e h = ap (take v) e ∙ take-take v (length xs) ys h

-- a first part has as many entries as asked for
pub part_length : (v : ℕ) (xs : List Update) → v ≤ length xs → length (take v xs) ≡ v
part_length v xs h = length-take-le v xs h

-- a first part of a list is one of that list with more behind it
pub part_grows : (xs ys : List Update) (u : Update) → xs ≡ take (length xs) ys → length xs ≤ length ys → xs ≡ take (length xs) (ys ++ u ∷ [])
part_grows xs ys u e h = e ∙ sym (take-append-le (length xs) ys (u ∷ []) h)

-- the next entry, put at the end of a first part, gives the next first part
pub next_part : (n : ℕ) (ys : List Update) (u : Update) → slice_get ys n ≡ Some u → take n ys ++ u ∷ [] ≡ take (suc n) ys
next_part zero [] u e = absurd (cc)
next_part zero (y ∷ ys) u e = cc
next_part (suc n) [] u e = absurd (cc)
next_part (suc n) (y ∷ ys) u e = ap (λ (zs : List Update). y ∷ zs) (next_part n ys u e)

pub next_within : (n : ℕ) (ys : List Update) (u : Update) → slice_get ys n ≡ Some u → suc n ≤ length ys
next_within zero [] u e = absurd (cc)
next_within zero (y ∷ ys) u e = omega arith
next_within (suc n) [] u e = absurd (cc)
next_within (suc n) (y ∷ ys) u e = omega (arith, next_within n ys u e)

pub alike_from_part : (v : ℕ) (xs ys : List Update) → xs ≡ take (length xs) ys → length xs ≤ length ys → v ≤ length xs → Alike v xs ys
alike_from_part v xs ys e k h = record { same = first_of_part v xs ys e h; first_reaches = h; second_reaches = omega arith }

pub alike_back : (v : ℕ) (xs ys : List Update) → Alike v xs ys → Alike v ys xs
alike_back v xs ys a = record { same = sym a.same; first_reaches = a.second_reaches; second_reaches = a.first_reaches }

pub alike_over : (v : ℕ) (xs ys zs : List Update) → Alike v xs ys → Alike v ys zs → Alike v xs zs
alike_over v xs ys zs a b = record { same = a.same ∙ b.same; first_reaches = a.first_reaches; second_reaches = b.second_reaches }

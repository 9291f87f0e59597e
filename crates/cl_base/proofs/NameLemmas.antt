-- Names compare as their bytes do.
use Rattle.std.proofs.Common.{◌≡◌, ℕ, ◌-◌, ◌++◌, Bool, true, false, cond, ◌&&◌, Option, List, length, take, replicate, eqb, refl, sym, ap, subst, ◌∙◌, eq-eqb}
use Rattle.std.proofs.Math.Seq.{take-append_seam}
use Rattle.std.proofs.lemmas.Bool.{eqb-true}
use Rattle.std.specs.Str.{bytes_eq}
use Rattle.std.specs.Cmp.Lexicographic.{same_text, other_text}
use Rattle.std.specs.Map.{lookup, remove_entry}
use Rattle.cl_base.specs.contracts.name.NamePartialEq.TheImpl.{eq-value}

same_tests : (p q : Bool) → (p ≡ true → q ≡ true) → (q ≡ true → p ≡ true) → p ≡ q
same_tests true true _ _ = refl
same_tests true false on _ = cc (on refl)
same_tests false true _ back = cc (back refl)
same_tests false false _ _ = refl

first_of_both : (p q : Bool) → (p && q) ≡ true → p ≡ true
first_of_both true q h = refl
first_of_both false q h = h

second_of_both : (p q : Bool) → (p && q) ≡ true → q ≡ true
second_of_both true q h = h
second_of_both false q h = cc h

pub texts_pass : (xs ys : List ℕ) → xs ≡ ys → bytes_eq xs ys ≡ true
texts_pass xs ys e = told (bytes_eq xs ys) refl
  where
    told : (r : Bool) → r ≡ bytes_eq xs ys → bytes_eq xs ys ≡ true
    told true p = sym p
    told false p = absurd (other_text xs ys p e)

same_front : (a b za zb : List ℕ) → length a ≡ length b → a ++ za ≡ b ++ zb → a ≡ b
same_front a b za zb len e = sym (take-append_seam a za) ∙ ap (λ (xs : List ℕ). take (length a) xs) e ∙ ap (λ (n : ℕ). take n (b ++ zb)) len ∙ take-append_seam b zb

on_names : (a b : List ℕ) → eq-value.it a b ≡ true → bytes_eq a b ≡ true
on_names a b h =
    let whole : bytes_eq (a ++ replicate (32 - length a) 0) (b ++ replicate (32 - length b) 0) ≡ true = first_of_both _ _ h in
    let len : eqb (length a) (length b) ≡ true = second_of_both _ _ h in
    texts_pass a b (same_front a b (replicate (32 - length a) 0) (replicate (32 - length b) 0) (eqb-true (length a) (length b) len) (same_text _ _ (sym whole)))

both_pass : (p q : Bool) → p ≡ true → q ≡ true → (p && q) ≡ true
both_pass true q _ h = h
both_pass false q h _ = h

back_names : (a b : List ℕ) → bytes_eq a b ≡ true → eq-value.it a b ≡ true
back_names a b h =
    let e : a ≡ b = same_text a b (sym h) in
    both_pass _ _ (texts_pass (a ++ replicate (32 - length a) 0) (b ++ replicate (32 - length b) 0) (ap (λ (xs : List ℕ). xs ++ replicate (32 - length xs) 0) e)) (eq-eqb (length a) (length b) (ap length e))

pub same_names : (a b : List ℕ) → eq-value.it a b ≡ bytes_eq a b
same_names a b = same_tests (eq-value.it a b) (bytes_eq a b) (on_names a b) (back_names a b)

pub text_flips : (a b : List ℕ) → bytes_eq a b ≡ bytes_eq b a
text_flips a b = same_tests (bytes_eq a b) (bytes_eq b a) (λ h. texts_pass b a (sym (same_text a b (sym h)))) (λ h. texts_pass a b (sym (same_text b a (sym h))))

module _ {X : Type 0} (name : List ℕ) (es : List (List ℕ × X)) where
  pub name_found : lookup (eq-value.it name) es ≡ lookup (bytes_eq name) es
  name_found = ap (λ (test : List ℕ → Bool). lookup test es) (λ i k. same_names name k i)

  pub name_removed : remove_entry (eq-value.it name) es ≡ remove_entry (bytes_eq name) es
  name_removed = ap (λ (test : List ℕ → Bool). remove_entry test es) (λ i k. same_names name k i)

-- a lookup afterwards, by names or by their bytes
pub found_at : {X : Type 0} (name other : List ℕ) (old new : List (List ℕ × X)) (found : Option X)
    → lookup (eq-value.it other) new ≡ cond (eq-value.it name other) found (lookup (eq-value.it other) old)
    → lookup (bytes_eq other) new ≡ cond (bytes_eq name other) found (lookup (bytes_eq other) old)
found_at {X} name other old new found h =
    sym (name_found other new) ∙ h ∙ ap (λ (t : Bool). cond t found (lookup (eq-value.it other) old)) (same_names name other)
    ∙ ap (λ (x : Option X). cond (bytes_eq name other) found x) (name_found other old)

-- so what is said by the names' comparison is said by their bytes
pub by_bytes : (P : (List ℕ → List ℕ → Bool) → Type 0) → P eq-value.it → P bytes_eq
by_bytes P h = subst P (λ i a b. same_names a b i) h

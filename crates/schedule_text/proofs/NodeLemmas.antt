-- A set with one more node.
use Rattle.std.proofs.Common.{◌≡◌, ◌≢◌, ℕ, ◌≤◌, ◌==◌, ◌||◌, Bool, true, false, Result, Ok, Err, IfOk, refl, sym, ap, subst, ◌∙◌, arith}
use Rattle.std.proofs.lemmas.Bool.Decides.{nat_tests}
use Rattle.cl_base.proofs.SetLemmas.{none_of_zero}
use Rattle.cl_base.specs.Sets.{has}
use Rattle.schedule_text.specs.declared.kind.Kind.{Kind}
use Rattle.schedule_text.specs.Allowed.{AreNodes, AreWithin}
use Rattle.schedule_text.specs.Fields.{both}

same_number : (n : ℕ) → (n == n) ≡ true
same_number n = grind (arith, nat_tests)

has_new : (set n new : ℕ) → ((m : ℕ) → has new m ≡ ((m == n) || has set m)) → has new n ≡ true
has_new set n new members = members n ∙ rw (same_number n) refl

differ : false ≡ true → ⊥
differ h = absurd (cc)

-- a set that has a number is not empty
not_empty : (n new : ℕ) → has new n ≡ true → new ≢ 0
not_empty n new h is = differ (sym (none_of_zero n) ∙ ap (λ (s : ℕ). has s n) (sym is) ∙ h)

one_within : (set n most m : ℕ) (t : Bool) → (m == n) ≡ t → (t || has set m) ≡ true → AreWithin most set → 1 ≤ n → n ≤ most → (1 ≤ m) × (m ≤ most)
one_within set n most m true is h within low high =
    let same : m ≡ n = grind (arith, nat_tests) in
    (omega arith, omega arith)
one_within set n most m false is h within low high = within m h

more_within : (set n new most : ℕ) → ((m : ℕ) → has new m ≡ ((m == n) || has set m)) → AreWithin most set → 1 ≤ n → n ≤ most → AreWithin most new
more_within set n new most members within low high = λ m h. one_within set n most m (m == n) refl (sym (members m) ∙ h) within low high

abbrev left_of : Result (ℕ × ℕ) Kind → ℕ
left_of (Ok p) = p.0
left_of (Err kind) = 0

abbrev right_of : Result (ℕ × ℕ) Kind → ℕ
right_of (Ok p) = p.1
right_of (Err kind) = 0

pub more_nodes : (x y : Result ℕ Kind) (set n new high most : ℕ) → both x y ≡ Ok (set, n) → IfOk x (AreWithin most)
    → IfOk y (λ (n : ℕ). (1 ≤ n) × (n ≤ high) × (n ≤ most)) → ((m : ℕ) → has new m ≡ ((m == n) || has set m)) → AreNodes most new
more_nodes (Ok a) (Ok b) set n new high most is within node members =
    let left : a ≡ set = ap (λ (r : Result (ℕ × ℕ) Kind). left_of r) is in
    let right : b ≡ n = ap (λ (r : Result (ℕ × ℕ) Kind). right_of r) is in (
      not_empty n new (has_new set n new members),
      more_within set n new most members (subst (AreWithin most) left within) (omega (arith, right, node.0)) (omega (arith, right, node.2)),
    )
more_nodes (Ok a) (Err kind) set n new high most is within node members = absurd (cc)
more_nodes (Err kind) (Ok b) set n new high most is within node members = absurd (cc)
more_nodes (Err kind) (Err other) set n new high most is within node members = absurd (cc)

-- The devices that an attempt has asked its coordinator to seize are the same where it has asked nobody anew.
use Rattle.std.specs.Prelude.{ℕ, ◌==◌, ◌||◌, ◌≡◌, Bool, true, false, if◌then◌else◌, List, [], ◌∷◌, Option, None, Some, map}
use Rattle.std.specs.List.{filter, list_any}
use Rattle.std.proofs.Common.{refl, sym, ap, ◌∙◌}
use Rattle.attempt_laws.specs.Asking.{AreApart, entry_numbers, entry_of}
use Rattle.cl_base.specs.Sets.{has}
use Rattle.cmm_attempt.proofs.Basics.{false_true, none_some, same_number, same_some}
use Rattle.cmm_attempt.specs.declared.seizing.Seizing.{Seizing}
use Rattle.seize.specs.declared.kind.SeizeKind.{SeizeKind}
use Rattle.run_outcomes.specs.silence.Still.{asked_at}
use Rattle.run_outcomes.proofs.silence.Data.{lacks_entry}
use Rattle.run_outcomes.proofs.silence.tasks.Fresh.{among}

abbrev devices_in : List Seizing → List ℕ
devices_in es = map (λ (e : Seizing). e.attached.device) es

or_true : (a b : Bool) → b ≡ true → (a || b) ≡ true
or_true true b h = refl
or_true false b h = h

-- an entry of the device that passes the test
pub record Found (P : Seizing → Bool) (d : ℕ) (o : Option Seizing) : Type 0 where
  pub entry : Seizing
  pub is : o ≡ Some entry
  pub passes : P entry ≡ true

pub found : (P : Seizing → Bool) (d : ℕ) (es : List Seizing) → AreApart (entry_numbers es) → among d (devices_in (filter P es)) ≡ true → Found P d (entry_of es d)
found P d [] apart h = absurd (false_true h)
found P d (e ∷ es) apart h = by_test (P e) (e.attached.device == d) refl refl (λ k. found P d es apart.1 k) h
  where
    Rest : Type 0
    Rest = among d (devices_in (filter P es)) ≡ true → Found P d (entry_of es d)

    later : (e.attached.device == d) ≡ false → Found P d (entry_of es d) → Found P d (entry_of (e ∷ es) d)
    later off f = record { entry = f.entry; is = ap (λ b. if b then Some e else entry_of es d) off ∙ f.is; passes = f.passes }

    never : (e.attached.device == d) ≡ true → Found P d (entry_of es d) → ⊥
    never at f = none_some f.entry (sym (lacks_entry es d (ap (λ j. list_any (λ x. x == j) (entry_numbers es)) (sym (same_number e.attached.device d at)) ∙ apart.0)) ∙ f.is)

    by_test : (b t : Bool) → P e ≡ b → (e.attached.device == d) ≡ t → Rest → among d (devices_in (if b then e ∷ filter P es else filter P es)) ≡ true → Found P d (entry_of (e ∷ es) d)
    by_test true true is at rest k = record { entry = e; is = ap (λ b. if b then Some e else entry_of es d) at; passes = is }
    by_test true false is at rest k = later at (rest (sym (ap (λ b. b || among d (devices_in (filter P es))) at) ∙ k))
    by_test false true is at rest k = absurd (never at (rest k))
    by_test false false is at rest k = later at (rest k)

pub listed : (P : Seizing → Bool) (d : ℕ) (es : List Seizing) → Found P d (entry_of es d) → among d (devices_in (filter P es)) ≡ true
listed P d [] f = absurd (none_some f.entry f.is)
listed P d (e ∷ es) f = by_test (e.attached.device == d) refl (λ k. listed P d es k) f.is
  where
    more : (b : Bool) → among d (devices_in (filter P es)) ≡ true → among d (devices_in (if b then e ∷ filter P es else filter P es)) ≡ true
    more true k = or_true (e.attached.device == d) (among d (devices_in (filter P es))) k
    more false k = k

    by_test : (t : Bool) → (e.attached.device == d) ≡ t → (Found P d (entry_of es d) → among d (devices_in (filter P es)) ≡ true) → (if t then Some e else entry_of es d) ≡ Some f.entry
        → among d (devices_in (if P e then e ∷ filter P es else filter P es)) ≡ true
    by_test true at rest is =
        ap (λ b. among d (devices_in (if b then e ∷ filter P es else filter P es))) (ap P (same_some e f.entry is) ∙ f.passes) ∙ ap (λ b. b || among d (devices_in (filter P es))) at
    by_test false at rest is = more (P e) (rest (record { entry = f.entry; is = is; passes = f.passes }))

-- ---- asked already

asked_already : (c d : ℕ) (o q : Option Seizing) → asked_at q ≡ asked_at o → Found (λ (e : Seizing). has e.asked c) d q → Found (λ (e : Seizing). has e.asked c) d o
asked_already c d o None same f = absurd (none_some f.entry f.is)
asked_already c d None (Some e) same f = absurd (none_some (e.kind, e.asked) (sym same))
asked_already c d (Some g) (Some e) same f = record {
  entry = g;
  is = refl;
  passes = ap (λ j. has j c) (sym (ap (λ (z : SeizeKind × ℕ). z.1) (same_some (e.kind, e.asked) (g.kind, g.asked) same))) ∙ (ap (λ (z : Seizing). has z.asked c) (same_some e f.entry f.is) ∙ f.passes);
}

-- a device that it has asked for now, it had asked for before
pub asked_before : (c d : ℕ) (es fs : List Seizing) → AreApart (entry_numbers fs) → ((k : ℕ) → asked_at (entry_of fs k) ≡ asked_at (entry_of es k)) → among d (map (λ (e : Seizing). e.attached.device) (filter (λ (e : Seizing). has e.asked c) fs)) ≡ true
    → among d (map (λ (e : Seizing). e.attached.device) (filter (λ (e : Seizing). has e.asked c) es)) ≡ true
asked_before c d es fs apart same h = listed (λ (e : Seizing). has e.asked c) d es (asked_already c d (entry_of es d) (entry_of fs d) (same d) (found (λ (e : Seizing). has e.asked c) d fs apart h))

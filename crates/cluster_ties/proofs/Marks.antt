-- What an install makes of the marks of a node, device by device.
use Rattle.std.specs.Prelude.{ℕ, ◌^◌, ◌≡◌, ◌≢◌, ◌<◌, ◌≤◌, ◌==◌, ◌&&◌, ◌||◌, not, Bool, true, false, List, [], ◌∷◌, Option, None, Some, find, if◌then◌else◌}
use Rattle.std.proofs.Common.{refl, sym, ap, subst, ◌∙◌, arith}
use Rattle.cl_base.specs.Sets.{has, set_with, set_without}
use Rattle.cl_base.proofs.SetLemmas.{and_bit_value, has_without}
use Rattle.cluster_machine.specs.Cluster.{Cluster as Whole}
use Rattle.cmm_attempt.proofs.Basics.{same_number}
use Rattle.cmm_member.specs.Nodes.{Devices, has_key_of, joining_all, joining_one, joins}
use Rattle.refinement.proofs.node_widths.Nodes.{TwoFit, one_fits}
use Rattle.wire.specs.declared.lists.Reading.{Reading}
use Rattle.wire.specs.Spelling.{IsDevice, IsDevices}
use Rattle.cluster_ties.specs.Laws.{AreRead, LacksDevice}
use Rattle.cluster_ties.proofs.Commands.{has_new, has_same}

-- what was read of device d
abbrev pub reading_at : List Reading → ℕ → Option Reading
reading_at readings d = find (λ r. r.device == d) readings

abbrev pub joins_by : ℕ → Bool → Reading → Bool
joins_by me valid r = (r.seizer == me) || (has_key_of me r.keys && valid)

-- whether the device is valid, and joined
abbrev pub valid_by : ℕ → Bool → Option Reading → Bool
valid_by me valid None = valid
valid_by me valid (Some r) = joins_by me valid r

abbrev pub joined_by : ℕ → Bool → Bool → Option Reading → Bool
joined_by me valid joined None = joined
joined_by me valid joined (Some r) = joins_by me valid r

few : (d : ℕ) → d ≤ 16 → d ≤ 32
few d h = omega (arith, h)

wide : (s : ℕ) → s < 2 ^ 16 → s < 2 ^ 32
wide s h = omega (arith, h)

differ : (a b : ℕ) → a ≢ b → (a == b) ≡ false
differ a b ne = grind arith

itself : (a : ℕ) → (a == a) ≡ true
itself a = grind arith

has_less : (set d e : ℕ) → IsDevices set → IsDevice d → has (set_without set d) e ≡ (not (e == d) && has set e)
has_less set d e small is = ap (λ s. has s e) (sym (and_bit_value set d (few d is.1))) ∙ has_without set d is.0 (few d is.1) (wide set small) e

pub less_here : (set d : ℕ) → IsDevices set → IsDevice d → has (set_without set d) d ≡ false
less_here set d small is = has_less set d d small is ∙ ap (λ b. not b && has set d) (itself d)

pub less_there : (set d e : ℕ) → IsDevices set → IsDevice d → e ≢ d → has (set_without set d) e ≡ has set e
less_there set d e small is ne = has_less set d e small is ∙ ap (λ b. not b && has set e) (differ e d ne)

-- One reading.

record OneMark (me : ℕ) (D : Devices) (r : Reading) (E : Devices) : Type 0 where
  valid : has E.valid r.device ≡ joins_by me (has D.valid r.device) r
  joined : has E.joined r.device ≡ joins_by me (has D.valid r.device) r
  other_valid : (e : ℕ) → e ≢ r.device → has E.valid e ≡ has D.valid e
  other_joined : (e : ℕ) → e ≢ r.device → has E.joined e ≡ has D.joined e

one_mark : (me : ℕ) (D : Devices) (r : Reading) → TwoFit D → IsDevice r.device → OneMark me D r (joining_one me D r)
one_mark me D r f is = go (joins me D.valid r) refl
  where
    go : (b : Bool) → joins me D.valid r ≡ b
        → OneMark me D r (if b then record { valid = set_with D.valid r.device; joined = set_with D.joined r.device } else record { valid = set_without D.valid r.device; joined = set_without D.joined r.device })
    go true e = record {
      valid = has_new D.valid r.device is.0 (few r.device is.1) ∙ sym e;
      joined = has_new D.joined r.device is.0 (few r.device is.1) ∙ sym e;
      other_valid = λ k ne. has_same D.valid r.device k is.0 (few r.device is.1) ne;
      other_joined = λ k ne. has_same D.joined r.device k is.0 (few r.device is.1) ne;
    }
    go false e = record {
      valid = less_here D.valid r.device f.0 is ∙ sym e;
      joined = less_here D.joined r.device f.1 is ∙ sym e;
      other_valid = λ k ne. less_there D.valid r.device k f.0 is ne;
      other_joined = λ k ne. less_there D.joined r.device k f.1 is ne;
    }

-- All readings.

turned : (a b : ℕ) → a ≢ b → b ≢ a
turned a b ne e = ne (sym e)

untouched : (W : Whole) (q me : ℕ) (D : Devices) (rs : List Reading) (e : ℕ) → TwoFit D → AreRead W q rs → LacksDevice e rs
    → (has (joining_all me D rs).valid e ≡ has D.valid e) × (has (joining_all me D rs).joined e ≡ has D.joined e)
untouched W q me D [] e f read lacks = (refl, refl)
untouched W q me D (r ∷ rs) e f read lacks =
    let one : OneMark me D r (joining_one me D r) = one_mark me D r f read.0.device in
    let rest = untouched W q me (joining_one me D r) rs e (one_fits me D r read.0.device f) read.2 lacks.1 in
    (rest.0 ∙ one.other_valid e (turned r.device e lacks.0), rest.1 ∙ one.other_joined e (turned r.device e lacks.0))

pub all_marks : (W : Whole) (q me : ℕ) (D : Devices) (rs : List Reading) (e : ℕ) → TwoFit D → AreRead W q rs
    → (has (joining_all me D rs).valid e ≡ valid_by me (has D.valid e) (reading_at rs e)) × (has (joining_all me D rs).joined e ≡ joined_by me (has D.valid e) (has D.joined e) (reading_at rs e))
all_marks W q me D [] e f read = (refl, refl)
all_marks W q me D (r ∷ rs) e f read = go (r.device == e) refl (all_marks W q me (joining_one me D r) rs e (one_fits me D r read.0.device f) read.2)
  where
    E : Devices
    E = joining_one me D r

    one : OneMark me D r E
    one = one_mark me D r f read.0.device

    fits : TwoFit E
    fits = one_fits me D r read.0.device f

    other : (a b : ℕ) → (a == b) ≡ false → b ≢ a
    other a b h k = grind arith

    Later : Type 0
    Later = (has (joining_all me E rs).valid e ≡ valid_by me (has E.valid e) (reading_at rs e)) × (has (joining_all me E rs).joined e ≡ joined_by me (has E.valid e) (has E.joined e) (reading_at rs e))

    go : (b : Bool) → (r.device == e) ≡ b → Later
        → (has (joining_all me E rs).valid e ≡ valid_by me (has D.valid e) (if b then Some r else reading_at rs e))
        × (has (joining_all me E rs).joined e ≡ joined_by me (has D.valid e) (has D.joined e) (if b then Some r else reading_at rs e))
    go true is later =
        let here : r.device ≡ e = same_number r.device e is in
        let rest = untouched W q me E rs e fits read.2 (subst (λ k. LacksDevice k rs) here read.1) in
        (rest.0 ∙ subst (λ k. has E.valid k ≡ joins_by me (has D.valid k) r) here one.valid, rest.1 ∙ subst (λ k. has E.joined k ≡ joins_by me (has D.valid k) r) here one.joined)
    go false is rest =
        let ne : e ≢ r.device = other r.device e is in (
          rest.0 ∙ ap (λ b. valid_by me b (reading_at rs e)) (one.other_valid e ne),
          rest.1 ∙ (ap (λ b. joined_by me b (has E.joined e) (reading_at rs e)) (one.other_valid e ne) ∙ ap (λ b. joined_by me (has D.valid e) b (reading_at rs e)) (one.other_joined e ne)),
        )

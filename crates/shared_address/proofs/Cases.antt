-- The ways that a request can go.
use Rattle.std.proofs.Common.{◌≡◌, ℕ, ◌<◌, Bool, true, false, List, length, Option, None, Some, eqb, refl, arith, if◌then◌else◌}
use Rattle.std.proofs.lemmas.Bool.{eqb-true}
use Rattle.std.proofs.lemmas.Bool.Decides.{nat_tests}
use Rattle.shared_address.specs.declared.choice.Client.{Client}
use Rattle.shared_address.specs.declared.choice.Target.{Target}
use Rattle.shared_address.specs.States.{AddressState}
use Rattle.shared_address.specs.Choosing.{by_client, by_entry, by_kept_turn, by_turn, kept_target, seen, served, without_turn, Outcome}

-- the state, with the targets shown to it
abbrev pub shown : AddressState → List Target → AddressState
shown s ts = record { turns = seen s.turns ts; kept = s.kept }

not_zero : (n : ℕ) → eqb n 0 ≡ false → 0 < n
not_zero n h = grind (arith, nat_tests)

module _ (P : Outcome → Type 0) (s : AddressState) (k : Option Client) (ts : List Target)
    (none : length ts ≡ 0 → P (without_turn (shown s ts) None))
    (turn : 0 < length ts → k ≡ None → P (by_turn (shown s ts)))
    (kept_turn : (c : Client) → 0 < length ts → k ≡ Some c → kept_target s.kept c ts ≡ None → P (by_kept_turn (shown s ts) c))
    (hit : (c : Client) (n : ℕ) → 0 < length ts → k ≡ Some c → kept_target s.kept c ts ≡ Some n → P (without_turn (shown s ts) (Some n))) where
  of_entry : (c : Client) → 0 < length ts → k ≡ Some c → P (by_entry (shown s ts) c (kept_target s.kept c ts))
  of_entry c some is = by (kept_target s.kept c ts) refl
    where
      by : (o : Option ℕ) → kept_target s.kept c ts ≡ o → P (by_entry (shown s ts) c o)
      by None e = kept_turn c some is e
      by (Some n) e = hit c n some is e

  of_client : 0 < length ts → P (by_client (shown s ts) k ts)
  of_client some = by k refl
    where
      by : (o : Option Client) → k ≡ o → P (by_client (shown s ts) o ts)
      by None is = turn some is
      by (Some c) is = of_entry c some is

  pub served_cases : P (served s k ts)
  served_cases = by (eqb (length ts) 0) refl
    where
      by : (b : Bool) → eqb (length ts) 0 ≡ b → P (if b then without_turn (shown s ts) None else by_client (shown s ts) k ts)
      by true h = none (eqb-true (length ts) 0 h)
      by false h = of_client (not_zero (length ts) h)

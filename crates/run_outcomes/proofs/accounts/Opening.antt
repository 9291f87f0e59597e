-- The lines of a start, as they are told one after another: where they are complete, they have the updates that were installed.
use Rattle.std.specs.Prelude.{ℕ, suc, ◌≡◌, ◌==◌, ◌++◌, Bool, true, false, List, [], ◌∷◌, length, None, Some, IfSome, if◌then◌else◌}
use Rattle.std.specs.Option.{option_and_then}
use Rattle.std.proofs.Common.{arith, refl, sym, ap, subst, ◌∙◌}
use Rattle.history.specs.Attempts.{IsAccounted}
use Rattle.history.specs.Moment.{Moment}
use Rattle.history.specs.Order.{before_last}
use Rattle.history.specs.Seizing.{is_start}
use Rattle.history.specs.Setting.{Setting}
use Rattle.history.specs.Starts.{Start, base_so_far, start_so_far}
use Rattle.history.specs.Trace.{base, start}
use Rattle.run_seizings.proofs.Progress.{if_so, no_truth, same_is}
use Rattle.run_outcomes.specs.accounts.Kept.{AreAccounted}
use Rattle.run_outcomes.specs.results.Shown.{StartShown}

-- the line of this start was told after these moments, and the first of its updates since
pub record Opening (st : Start) (before : List Moment) (done : List (List ℕ)) (ms : List Moment) : Type 0 where
  pub so_far : start_so_far ms ≡ Some st
  pub updates : base_so_far ms ≡ done
  pub last : before_last (is_start st.epoch) ms ≡ before

pub opened : (e members held count : ℕ) (ms : List Moment) → Opening (record { epoch = e; members = members; held = held; count = count }) ms [] (start e members held count ∷ ms)
opened e members held count ms = record { so_far = refl; updates = refl; last = if_so (e == e) ms (before_last (is_start e) ms) (same_is e) }

pub opened_more : (st : Start) (before : List Moment) (done : List (List ℕ)) (ms : List Moment) (e v : ℕ) (words : List ℕ) → Opening st before done ms → Opening st before (done ++ words ∷ []) (base e v words ∷ ms)
opened_more st before done ms e v words k = record { so_far = k.so_far; updates = ap (λ us. us ++ words ∷ []) k.updates; last = k.last }

-- no more are left where so many were told
none_left : (done left : List (List ℕ)) → (length done == length (done ++ left)) ≡ true → done ≡ done ++ left
none_left [] [] is = refl
none_left [] (x ∷ left) is = absurd (no_truth (sym (no_length (length left)) ∙ is))
  where
    no_length : (n : ℕ) → (0 == suc n) ≡ false
    no_length n = grind arith
none_left (x ∷ done) left is = ap (λ (us : List (List ℕ)). x ∷ us) (none_left done left (less (length done) (length (done ++ left)) is))
  where
    less : (a b : ℕ) → (suc a == suc b) ≡ true → (a == b) ≡ true
    less a b k = grind arith

pub opening_shown : (S : Setting) (st : Start) (before : List Moment) (updates done left : List (List ℕ)) (ms : List Moment) → updates ≡ done ++ left → st.count ≡ length updates → AreAccounted S st updates before
    → Opening st before done ms → StartShown S ms
opening_shown S st before updates done left ms cut count accounted k =
    subst (λ o. IfSome (option_and_then (λ (s : Start). if length (base_so_far ms) == s.count then Some s else None) o) (λ s. IsAccounted S ms s (base_so_far ms))) (sym k.so_far)
    (by_test (length (base_so_far ms) == st.count) refl)
  where
    whole : (length (base_so_far ms) == st.count) ≡ true → updates ≡ base_so_far ms
    whole is =
        cut ∙ (sym (none_left done left (subst (λ us. (length done == length us) ≡ true) cut (subst (λ j. (length done == j) ≡ true) count (subst (λ us. (length us == st.count) ≡ true) k.updates is)))) ∙ sym k.updates)

    by_test : (b : Bool) → (length (base_so_far ms) == st.count) ≡ b → IfSome (if b then Some st else None) (λ s. IsAccounted S ms s (base_so_far ms))
    by_test true is = subst (λ us. IsAccounted S ms st us) (whole is) (subst (λ zs. AreAccounted S st updates zs) (sym k.last) accounted)
    by_test false is = tt

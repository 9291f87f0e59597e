-- A node does its queued commands one after another.
use Rattle.std.proofs.Common.{◌≡◌, ◌⊎◌, ℕ, suc, zero, ◌+◌, ◌<◌, ◌≤◌, inl, inr, true, false, Option, is_some, Some, None, refl, sym, subst, ap, ◌∙◌, arith, add-one}
use Rattle.std.proofs.lemmas.Bool.{cases_lt}
use Rattle.pgr_device.specs.declared.command.PrCommand.{PrCommand}
use Rattle.world_model.specs.Worlds.{Play}
use Rattle.world_model.specs.Devices.{doing_command, due}
use Rattle.world_model.specs.Rounds.{doing_one, doing_some}

-- where none is due, those that follow change nothing
none_due : (n : ℕ) (o : Option (ℕ × PrCommand)) (q : Play) → is_some o ≡ false → doing_one n o q ≡ q
none_due n None q e = refl
none_due n (Some due) q e = cc

one_idle : (n i most : ℕ) (p q : Play) → doing_some n i p ≡ q → is_some (due q.world n) ≡ false → i ≤ suc most
    → (i ≤ most → doing_some n most p ≡ q) → doing_some n (suc most) p ≡ q
unfolding doing_some
one_idle n i most p q e none le before = split (cases_lt most i)
  where
    split : (most < i) ⊎ (i ≤ most) → doing_some n (suc most) p ≡ q
    split (inl less) = let z : i ≡ suc most = omega arith in subst (λ (m : ℕ). doing_some n m p ≡ q) z e
    split (inr more) = ap (λ (s : Play). doing_one n (due s.world n) s) (before more) ∙ none_due n (due q.world n) q none

idle : (n i most : ℕ) (p q : Play) → doing_some n i p ≡ q → is_some (due q.world n) ≡ false → i ≤ most → doing_some n most p ≡ q
idle n i zero p q e none le = let z : i ≡ zero = omega arith in subst (λ (m : ℕ). doing_some n m p ≡ q) z e
idle n i (suc most) p q e none le = one_idle n i most p q e none le (λ more. idle n i most p q e none more)

pub done_early : (n i most : ℕ) (p q : Play) (o : Option (ℕ × PrCommand)) → doing_some n i p ≡ q → o ≡ due q.world n → is_some o ≡ false → i ≤ most
    → q ≡ doing_some n most p
done_early n i most p q o e is none le = sym (idle n i most p q e (rw (sym is) none) le)

-- one more command
some_due : (n : ℕ) (o : Option (ℕ × PrCommand)) (q : Play) → is_some o ≡ true → doing_one n o q ≡ doing_command n q
some_due n None q e = cc
some_due n (Some due) q e = refl

pub one_done : (n i : ℕ) (p q r : Play) (o : Option (ℕ × PrCommand)) → doing_some n i p ≡ q → o ≡ due q.world n → is_some o ≡ true
    → r ≡ doing_command n q → doing_some n (i + 1) p ≡ r
unfolding doing_some
one_done n i p q r o e is some f =
    ap (λ (k : ℕ). doing_some n k p) (add-one i)
    ∙ ap (λ (s : Play). doing_one n (due s.world n) s) e
    ∙ some_due n (due q.world n) q (rw (sym is) some)
    ∙ sym f

pub none_done : (n : ℕ) (p : Play) → doing_some n 0 p ≡ p
unfolding doing_some
none_done n p = refl

-- What the entries of a command are to be, by the case that it is.
use Rattle.std.specs.Prelude.{ℕ, ◌+◌, ◌≡◌, ◌==◌, ◌&&◌, nat_le, not, Bool, true, false, List, [], ◌∷◌, Option, None, Some, if◌then◌else◌}
use Rattle.std.specs.List.{list_any}
use Rattle.std.proofs.Common.{sym, subst, inl, inr}
use Rattle.status_report.specs.declared.command_entry.Answer.{Answer}
use Rattle.status_report.specs.declared.command_entry.Answer.TheVariants as answer
use Rattle.history.specs.Commands.{AnswersQuery, FitsOwn, Own, full, has_own_answer, is_own_query, is_word_error, own_case, count_monitors, count_waiting}
use Rattle.history.specs.Commands.Own.{Elsewhere, Full, MayBeFull, Taken}
use Rattle.history.specs.Moment.{Moment}
use Rattle.history.specs.Setting.{Setting, coordinator}
use Rattle.history.specs.Trace.{answered, asked}

-- the command, and these entries alone
abbrev pub replies : ℕ → ℕ → Answer → List Moment
replies n q reply = asked n q ∷ answered n q reply ∷ []

-- what is to be so of a case
abbrev pub Fits : Setting → ℕ → ℕ → List ℕ → List Moment → Option (List ℕ) → Option ℕ → Own → Type 0
Fits S n q words later canonical membership own = FitsOwn S words own n q later × AnswersQuery (is_own_query S n canonical membership own) n q later

-- .. of the case that the command is behind these moments, with these canonical words, in this membership
abbrev pub FitsIn : Setting → ℕ → ℕ → List ℕ → List Moment → List Moment → Option (List ℕ) → Option ℕ → Type 0
FitsIn S n q words ms later canonical membership = Fits S n q words later canonical membership (own_case S ms n canonical membership)

module _ (S : Setting) (n q : ℕ) (words : List ℕ) (ms later : List Moment) where
  -- ---- a node that is no member, or words that are no command's

  pub bad_fits : (membership : Option ℕ) → is_word_error (S.word_error words) ≡ true → later ≡ replies n q (S.word_error words) → FitsIn S n q words ms later None membership
  bad_fits membership error is = ((error, is), tt)

  pub stranger_fits : (canonical : List ℕ) → later ≡ replies n q answer.NotMember → FitsIn S n q words ms later (Some canonical) None
  stranger_fits canonical is = (is, tt)

  -- ---- a member

  -- of a query of which another is president, or not
  abbrev InCase : List ℕ → ℕ → Bool → Type 0
  InCase canonical e other = Fits S n q words later (Some canonical) (Some e) (if other then Elsewhere (coordinator e) else full (count_waiting n ms) (count_monitors n ms))

  pub elsewhere_fits : (canonical : List ℕ) (e : ℕ) → (S.is_query canonical && not (coordinator e == n)) ≡ true → later ≡ replies n q (answer.Ask (coordinator e))
      → FitsIn S n q words ms later (Some canonical) (Some e)
  elsewhere_fits canonical e other is = subst (λ b. InCase canonical e b) (sym other) (is, tt)

  -- its queue is full of commands and of monitors' requests
  pub full_fits : (canonical : List ℕ) (e : ℕ) → (S.is_query canonical && not (coordinator e == n)) ≡ false → nat_le 64 (count_waiting n ms + count_monitors n ms) ≡ true
      → later ≡ replies n q answer.QueueFull → FitsIn S n q words ms later (Some canonical) (Some e)
  full_fits canonical e here enough is = subst (λ b. InCase canonical e b) (sym here) (by_tests (nat_le 64 (count_waiting n ms)) (nat_le 64 (count_waiting n ms + count_monitors n ms)) enough)
    where
      by_tests : (a b : Bool) → b ≡ true → Fits S n q words later (Some canonical) (Some e) (if a then Full else (if b then MayBeFull else Taken))
      by_tests true b is_enough = (is, tt)
      by_tests false true is_enough = (inl is, tt)
      by_tests false false is_enough = cc

  -- it is not full of commands
  pub taken_fits : (canonical : List ℕ) (e : ℕ) → (S.is_query canonical && not (coordinator e == n)) ≡ false → nat_le 64 (count_waiting n ms) ≡ false → list_any has_own_answer later ≡ false
      → AnswersQuery (S.is_query canonical && (coordinator e == n)) n q later → FitsIn S n q words ms later (Some canonical) (Some e)
  taken_fits canonical e here few none answers = subst (λ b. InCase canonical e b) (sym here) (by_tests (nat_le 64 (count_waiting n ms)) (nat_le 64 (count_waiting n ms + count_monitors n ms)) few)
    where
      by_tests : (a b : Bool) → a ≡ false → Fits S n q words later (Some canonical) (Some e) (if a then Full else (if b then MayBeFull else Taken))
      by_tests false true is_few = (inr none, tt)
      by_tests false false is_few = (none, answers)
      by_tests true b is_few = cc

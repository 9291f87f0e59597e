-- The sample run, step by step.
use Rattle.std.proofs.Common.{◌≡◌, ℕ, ◌⊎◌, inl, inr, true, refl, sym, subst, List, [], ◌∷◌, ◌++◌, arith}
use Rattle.machine_base.specs.Epochs.{coordinator}
use Rattle.membership_machine.specs.Votes.{Setting, IsMajority}
use Rattle.membership_machine.specs.State.{Memberships, first_memberships}
use Rattle.membership_machine.specs.Events.{Event, after, Run}
use Rattle.membership_machine.specs.Sample.{both, only, none, sample_votes, sample_setting, forming, formed, changing, changed, reforming, reformed, updating, updated, splitting, split, add_device, create_group}

-- two runs, one after the other
pub run_on : (S : Setting) (w v u : Memberships) (es fs : List Event) → Run S w es v → Run S v fs u → Run S w (es ++ fs) u
run_on S w v u [] fs r x = subst (λ y. Run S y fs u) r x
run_on S w v u (e ∷ es) fs r x = (r.0, run_on S (after w e) v u es fs r.1 x)

-- what holds of each node of a set
pub for_only : (P : ℕ → Type 0) (a : ℕ) → P a → (m : ℕ) → only a m ≡ true → P m
for_only P a x m h = let e : m ≡ a = grind arith in subst P (sym e) x

one_of_both : (m : ℕ) → both m ≡ true → (m ≡ 1) ⊎ (m ≡ 2)
one_of_both m h = grind arith

pub for_both : (P : ℕ → Type 0) → P 1 → P 2 → (m : ℕ) → both m ≡ true → P m
for_both P x y m h = go (one_of_both m h)
  where
    go : (m ≡ 1) ⊎ (m ≡ 2) → P m
    go (inl e) = subst P (sym e) x
    go (inr e) = subst P (sym e) y

-- two nodes are a majority of two, and of three votes; one node with the device is one of three
two_of_two : IsMajority sample_setting (sample_votes []) both none
two_of_two = record { more_than_half = omega arith }

two_of_three : IsMajority sample_setting (sample_votes (add_device ∷ [])) both none
two_of_three = record { more_than_half = omega arith }

one_and_device : (us : List (List ℕ)) → IsMajority sample_setting (sample_votes (add_device ∷ us)) (only 2) (only 1)
one_and_device us = record { more_than_half = omega arith }

pub forming_run : Run sample_setting first_memberships forming formed
unfolding coordinator
forming_run = (
  (omega arith, refl),
  (
    (refl, omega arith),
    (
      (
        refl,
        refl,
        record { all_answered = for_both _ refl refl; of_member = refl; none_newer = for_both _ (inr (refl, inr (refl, omega arith))) (inr (refl, inr (refl, omega arith))) },
        record { under_committed = two_of_two; under_pending = two_of_two },
      ),
      (
        (refl, refl, refl, omega arith),
        (
          (refl, refl, refl, for_both _ refl refl),
          (
            (refl, refl, refl, refl),
            refl,
          ),
        ),
      ),
    ),
  ),
)

pub changing_run : Run sample_setting formed changing changed
unfolding coordinator
changing_run = (
  ((refl, refl), refl),
  (
    ((refl, refl), (λ e. omega arith), refl),
    (
      tt,
      refl,
    ),
  ),
)

pub reforming_run : Run sample_setting changed reforming reformed
unfolding coordinator
reforming_run = (
  (omega arith, refl),
  (
    (refl, omega arith),
    (
      (
        refl,
        refl,
        record { all_answered = for_both _ refl refl; of_member = refl; none_newer = for_both _ (inr (refl, inr (refl, omega arith))) (inr (refl, inr (refl, omega arith))) },
        record { under_committed = two_of_two; under_pending = two_of_three },
      ),
      (
        (refl, refl, refl, omega arith),
        (
          (refl, refl, refl, for_both _ refl refl),
          (
            (refl, refl, refl, refl),
            refl,
          ),
        ),
      ),
    ),
  ),
)

pub updating_run : Run sample_setting reformed updating updated
unfolding coordinator
updating_run = (
  ((refl, refl), refl),
  (
    ((refl, refl), (λ e. omega arith), refl),
    (
      ((refl, refl), for_both _ (omega arith) (omega arith)),
      (
        ((refl, refl), (λ e. omega arith), omega arith),
        refl,
      ),
    ),
  ),
)

pub splitting_run : Run sample_setting updated splitting split
unfolding coordinator
splitting_run = (
  (omega arith, refl),
  (
    (
      refl,
      refl,
      record { all_answered = for_only _ 2 refl; of_member = refl; none_newer = for_only _ 2 (inr (refl, inr (refl, omega arith))) },
      record { under_committed = one_and_device (create_group ∷ []); under_pending = one_and_device (create_group ∷ []) },
    ),
    (
      (refl, refl, refl, for_only _ 2 refl),
      refl,
    ),
  ),
)

-- what it came to

pub formed_members : ((formed.node 1).member ≡ true) × ((formed.node 2).member ≡ true)
unfolding coordinator
formed_members = (refl, refl)

pub split_started : ((split.epoch 194).started ≡ true) × ((split.node 2).member ≡ true)
unfolding coordinator
split_started = (refl, refl)

pub split_base : (split.epoch 194).base ≡ add_device ∷ create_group ∷ []
unfolding coordinator
split_base = refl

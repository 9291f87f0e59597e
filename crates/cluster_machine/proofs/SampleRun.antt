-- The sample run, step by step.
use Rattle.std.proofs.Common.{◌≡◌, ℕ, ◌⊎◌, inl, inr, true, false, refl, sym, subst, Bool, List, [], ◌∷◌, ◌++◌, arith}
use Rattle.machine_base.specs.Put.{put}
use Rattle.machine_base.specs.Epochs.{coordinator}
use Rattle.machine_base.proofs.Puts.{true_or_false}
use Rattle.std.specs.Prelude.{nat_eq}
use Rattle.membership_machine.specs.Votes.{Setting, IsMajority}
use Rattle.membership_machine.specs.Sample.{both, only, create_group}
use Rattle.membership_machine.proofs.SampleRun.{for_only, for_both}
use Rattle.device_machine.specs.Device.{LetsWrite}
use Rattle.cluster_machine.specs.Cluster.{Cluster, first_cluster, Event, after, Run}
use Rattle.cluster_machine.specs.Sample.{attached, three_votes, sample_setting, seizing, seized, forming, formed, updating, updated, fencing, fenced, splitting, split}

-- two runs, one after the other
pub run_on : (S : Setting) (w v u : Cluster) (es fs : List Event) → Run S w es v → Run S v fs u → Run S w (es ++ fs) u
run_on S w v u [] fs r x = subst (λ y. Run S y fs u) r x
run_on S w v u (e ∷ es) fs r x = (r.0, run_on S (after w e) v u es fs r.1 x)

-- what holds of device 1, and of each other
by_device : (P : ℕ → Type 0) → P 1 → ((d : ℕ) → nat_eq d 1 ≡ false → P d) → (d : ℕ) → P d
by_device P one more d = go (true_or_false (nat_eq d 1))
  where
    is_one : nat_eq d 1 ≡ true → d ≡ 1
    is_one h = grind arith

    go : (nat_eq d 1 ≡ true) ⊎ (nat_eq d 1 ≡ false) → P d
    go (inl h) = subst P (sym (is_one h)) one
    go (inr h) = more d h

-- all three votes, and two of them
all_votes : IsMajority sample_setting three_votes both (only 1)
all_votes = record { more_than_half = omega arith }

two_votes : IsMajority sample_setting three_votes (only 1) (only 1)
two_votes = record { more_than_half = omega arith }

-- without the key of node 2 there is that of node 1 alone
left_key : (k : ℕ) → put (attached 1) 2 false k ≡ true → only 1 k ≡ true
left_key k h = grind arith

pub seizing_run : Run sample_setting (first_cluster attached) seizing seized
unfolding coordinator
seizing_run = (
  ((omega arith, refl), (λ d. (omega arith, tt)), tt),
  (
    ((refl, omega arith), (λ d. (omega arith, tt)), tt),
    (
      (refl, for_both _ refl refl, λ d. (omega arith, refl, for_both _ (omega arith) (omega arith))),
      (
        (refl, (refl, refl, refl, refl, inl refl), tt),
        (
          (refl, ((omega arith, refl, refl), refl, omega arith, refl), tt),
          (
            (refl, (refl, refl, refl, refl), tt),
            (
              (refl, ((omega arith, omega arith), omega arith), tt),
              (
                (refl, (refl, refl, inr refl), tt),
                (
                  (refl, refl, tt),
                  (
                    (refl, (refl, refl, λ k h. h), tt),
                    (
                      (refl, (refl, refl), tt),
                      refl,
                    ),
                  ),
                ),
              ),
            ),
          ),
        ),
      ),
    ),
  ),
)

pub forming_run : Run sample_setting seized forming formed
unfolding coordinator
forming_run = (
  (
    (
      refl,
      refl,
      record { all_answered = for_both _ refl refl; of_member = refl; none_newer = for_both _ (inr (refl, inr (refl, omega arith))) (inr (refl, inr (refl, omega arith))) },
      record { under_committed = all_votes; under_pending = all_votes },
    ),
    by_device _ ((refl, refl, refl, refl), (((omega arith, refl, refl, omega arith), refl, refl), tt))
        (λ d h. rw h ((refl, refl, inl refl), ((omega arith, refl, refl, omega arith), tt))),
    for_only _ 1 (λ v. refl),
  ),
  (
    (
      (refl, refl, refl, omega arith),
      by_device _ (((omega arith, refl, refl, omega arith), refl, refl), tt) (λ d h. rw h ((omega arith, refl, refl, omega arith), tt)),
      tt,
    ),
    (
      ((refl, refl, refl, for_both _ refl refl), (λ d. tt), tt),
      (
        ((refl, refl, refl, refl), (λ d. tt), tt),
        (
          (refl, (refl, inr refl), refl),
          (
            (refl, (refl, inr refl), refl),
            refl,
          ),
        ),
      ),
    ),
  ),
)

pub updating_run : Run sample_setting formed updating updated
unfolding coordinator
updating_run = (
  (((refl, refl), refl), (λ d. tt), tt),
  (
    (((refl, refl), (λ e. omega arith), refl), (λ d. tt), tt),
    (
      (((refl, refl), for_both _ (omega arith) (omega arith)), (λ d. tt), tt),
      (
        (((refl, refl), (λ e. omega arith), omega arith), (λ d. tt), tt),
        refl,
      ),
    ),
  ),
)

pub fencing_run : Run sample_setting updated fencing fenced
unfolding coordinator
fencing_run = (
  ((omega arith, refl), by_device _ (omega arith, tt) (λ d h. rw h (omega arith, tt)), tt),
  (
    (refl, for_only _ 1 refl, by_device _ (omega arith, refl, for_only _ 1 (omega arith)) (λ d h. rw h (omega arith, refl, for_only _ 1 (omega arith)))),
    (
      (refl, (refl, refl, refl, refl, inl refl), tt),
      (
        (refl, ((omega arith, refl, refl), refl, omega arith, refl), tt),
        (
          (refl, (refl, refl, refl, refl), tt),
          (
            (refl, ((omega arith, omega arith), omega arith), tt),
            (
              (refl, (refl, refl, inr refl), tt),
              (
                (refl, refl, tt),
                (
                  (refl, (refl, refl, refl, refl), tt),
                  (
                    (refl, refl, tt),
                    (
                      (refl, (refl, refl, left_key), tt),
                      (
                        (refl, (refl, refl), tt),
                        refl,
                      ),
                    ),
                  ),
                ),
              ),
            ),
          ),
        ),
      ),
    ),
  ),
)

pub splitting_run : Run sample_setting fenced splitting split
unfolding coordinator
splitting_run = (
  (
    (
      refl,
      refl,
      record { all_answered = for_only _ 1 refl; of_member = refl; none_newer = for_only _ 1 (inr (refl, inr (refl, omega arith))) },
      record { under_committed = two_votes; under_pending = two_votes },
    ),
    by_device _ ((refl, refl, refl, refl), (((omega arith, refl, refl, omega arith), refl, refl), tt))
        (λ d h. rw h ((refl, refl, inl refl), ((omega arith, refl, refl, omega arith), tt))),
    for_only _ 1 (λ v. refl),
  ),
  (
    ((refl, refl, refl, for_only _ 1 refl), (λ d. tt), tt),
    (
      (refl, (refl, inr refl), refl),
      refl,
    ),
  ),
)

-- what it came to

pub split_started : ((split.memberships.epoch 129).started ≡ true) × ((split.memberships.epoch 129).holds 1 ≡ true)
unfolding coordinator
split_started = (refl, refl)

pub split_base : (split.memberships.epoch 129).base ≡ create_group ∷ []
unfolding coordinator
split_base = refl

pub still_member : ((split.memberships.node 2).member ≡ true) × (((split.device 1).node 2).joined ≡ true)
unfolding coordinator
still_member = (refl, refl)

refused : (b : Bool) (k : Bool) → b ≡ true → k ≡ false → (b ≡ false) ⊎ (k ≡ true) → ⊥
refused b k p q (inl h) = absurd (cc)
refused b k p q (inr h) = absurd (cc)

pub write_refused : LetsWrite (split.device 1).device 2 → ⊥
unfolding coordinator
write_refused = refused (split.device 1).device.reserved ((split.device 1).device.keys 2) refl refl

pub content : (split.device 1).device.content ≡ 9
unfolding coordinator
content = refl

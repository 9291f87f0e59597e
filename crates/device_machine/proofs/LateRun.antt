-- The run of the late registration, step by step: each event may come where it stands.
use Rattle.std.proofs.Common.{◌≡◌, ℕ, ◌≤◌, inl, inr, true, false, refl, [], ◌∷◌, arith}
use Rattle.machine_base.specs.Put.{put}
use Rattle.device_machine.specs.Sharing.{Event, Run, first_sharing}
use Rattle.device_machine.specs.Sample.{all_of, pair, three, no_node, sharing, shared, leaving_out, left_out, registering_late, late, seizing_again, cleaned}
use Rattle.device_machine.proofs.Samples.{for_pair, for_three}

-- the last readings of the keys: members' alone
shared_keys : (k : ℕ) → put no_node 1 true k ≡ true → three 1 2 3 k ≡ true
shared_keys k h = grind arith

left_out_keys : (k : ℕ) → put (put (put no_node 1 true) 2 true) 1 true k ≡ true → pair 1 2 k ≡ true
left_out_keys k h = grind arith

cleaned_keys : (k : ℕ) → put (put (put (put (put (put no_node 1 true) 2 true) 1 true) 3 true) 1 true) 3 false k ≡ true → pair 1 2 k ≡ true
cleaned_keys k h = grind arith

pub sharing_run : Run (first_sharing no_node) sharing shared
sharing_run = (
  omega arith,
  (
    omega arith,
    (
      omega arith,
      (
        (omega arith, refl, λ m h. for_three (λ j. 65 ≤ ((all_of (first_sharing no_node) (Event.Promise 1 65 ∷ Event.Promise 2 65 ∷ Event.Promise 3 65 ∷ [])).node j).promised) 1 2 3 m (omega arith) (omega arith) (omega arith) h),
        (
          (refl, refl, refl, refl, inl refl),
          (
            ((omega arith, refl, refl), refl, omega arith, refl),
            (
              (refl, refl),
              (
                refl,
                (
                  ((omega arith, omega arith), omega arith),
                  (
                    (refl, refl, inl refl),
                    (
                      refl,
                      (
                        (refl, refl, shared_keys),
                        (
                          (refl, refl),
                          (
                            (refl, refl, refl, refl),
                            (
                              ((omega arith, refl, refl, omega arith), refl, refl),
                              (
                                ((omega arith, refl, refl, omega arith), refl),
                                (((omega arith, refl, refl, omega arith), refl), (refl, ((refl, refl), ((refl, inr refl), refl)))),
                              ),
                            ),
                          ),
                        ),
                      ),
                    ),
                  ),
                ),
              ),
            ),
          ),
        ),
      ),
    ),
  ),
)

pub leaving_out_run : Run shared leaving_out left_out
leaving_out_run = (
  omega arith,
  (
    omega arith,
    (
      (omega arith, refl, λ m h. for_pair (λ j. 129 ≤ ((all_of shared (Event.Promise 1 129 ∷ Event.Promise 2 129 ∷ [])).node j).promised) 1 2 m (omega arith) (omega arith) h),
      (
        (refl, refl, refl, refl, inl refl),
        (
          ((omega arith, refl, refl), refl, omega arith, refl),
          (
            (refl, refl),
            (
              refl,
              (
                ((omega arith, omega arith), omega arith),
                (
                  (refl, refl, inr refl),
                  (
                    refl,
                    (
                      (refl, refl, left_out_keys),
                      (
                        (refl, refl),
                        (
                          (refl, refl, refl, refl),
                          (
                            ((omega arith, refl, refl, omega arith), refl, refl),
                            (
                              ((omega arith, refl, refl, omega arith), refl, refl),
                              ((refl, inr refl), refl),
                            ),
                          ),
                        ),
                      ),
                    ),
                  ),
                ),
              ),
            ),
          ),
        ),
      ),
    ),
  ),
)

pub registering_late_run : Run left_out registering_late late
registering_late_run =
    (refl, (omega arith, refl))

pub seizing_again_run : Run late seizing_again cleaned
seizing_again_run = (
  omega arith,
  (
    omega arith,
    (
      (omega arith, refl, λ m h. for_pair (λ j. 193 ≤ ((all_of late (Event.Promise 1 193 ∷ Event.Promise 2 193 ∷ [])).node j).promised) 1 2 m (omega arith) (omega arith) h),
      (
        (refl, refl, refl, refl, inl refl),
        (
          ((omega arith, refl, refl), refl, omega arith, refl),
          (
            (refl, refl),
            (
              refl,
              (
                ((omega arith, omega arith), omega arith),
                (
                  (refl, refl, inr refl),
                  (
                    refl,
                    (
                      (refl, refl, refl, refl),
                      (
                        refl,
                        (
                          (refl, refl, cleaned_keys),
                          (
                            (refl, refl),
                            (
                              (refl, refl, refl, refl),
                              (
                                ((omega arith, refl, refl, omega arith), refl, refl),
                                (((omega arith, refl, refl, omega arith), refl, refl), ((refl, inr refl), refl)),
                              ),
                            ),
                          ),
                        ),
                      ),
                    ),
                  ),
                ),
              ),
            ),
          ),
        ),
      ),
    ),
  ),
)

-- The run of the split, step by step: each event may come where it stands.
use Rattle.std.proofs.Common.{◌≡◌, ℕ, ◌≤◌, inl, inr, true, false, refl, [], ◌∷◌, arith}
use Rattle.machine_base.specs.Put.{put}
use Rattle.device_machine.specs.Sharing.{Event, Run, first_sharing}
use Rattle.device_machine.specs.Sample.{all_of, just, pair, forming, formed, faulting, faulted, splitting, split, returning, returned, reforming, reformed}
use Rattle.device_machine.proofs.Samples.{for_just, for_pair}

-- the last readings of the keys: members' alone
formed_keys : (k : ℕ) → pair 1 2 k ≡ true → pair 1 2 k ≡ true
formed_keys k h = h

split_keys : (k : ℕ) → put (pair 1 2) 2 false k ≡ true → just 1 k ≡ true
split_keys k h = grind arith

reformed_keys : (k : ℕ) → put (pair 1 2) 2 false k ≡ true → pair 1 2 k ≡ true
reformed_keys k h = grind arith

pub forming_run : Run (first_sharing (pair 1 2)) forming formed
forming_run = (
  omega arith,
  (
    omega arith,
    (
      (omega arith, refl, λ m h. for_pair (λ j. 65 ≤ ((all_of (first_sharing (pair 1 2)) (Event.Promise 1 65 ∷ Event.Promise 2 65 ∷ [])).node j).promised) 1 2 m (omega arith) (omega arith) h),
      (
        (refl, refl, refl, refl, inl refl),
        (
          ((omega arith, refl, refl), refl, omega arith, refl),
          (
            (refl, refl, refl, refl),
            (
              ((omega arith, omega arith), omega arith),
              (
                (refl, refl, inl refl),
                (
                  refl,
                  (
                    (refl, refl, formed_keys),
                    (
                      (refl, refl),
                      (
                        (refl, refl, refl, refl),
                        (
                          ((omega arith, refl, refl, omega arith), refl, refl),
                          (
                            ((omega arith, refl, refl, omega arith), refl, refl),
                            (
                              (refl, inr refl),
                              ((refl, inr refl), refl),
                            ),
                          ),
                        ),
                      ),
                    ),
                  ),
                ),
              ),
            ),
          ),
        ),
      ),
    ),
  ),
)

pub faulting_run : Run formed faulting faulted
faulting_run = (
  omega arith,
  (
    (omega arith, refl, λ m h. for_just (λ j. 129 ≤ ((all_of formed (Event.Promise 1 129 ∷ [])).node j).promised) 1 m (omega arith) h),
    (
      (refl, refl, refl, refl, inl refl),
      (
        ((omega arith, refl, refl), refl, omega arith, refl),
        (
          (refl, refl, refl, refl),
          (((omega arith, omega arith), omega arith), ((refl, refl, inr refl), (refl, ((refl, refl, refl, refl), (refl, refl))))),
        ),
      ),
    ),
  ),
)

pub splitting_run : Run faulted splitting split
splitting_run = (
  omega arith,
  (
    (omega arith, refl, λ m h. for_just (λ j. 193 ≤ ((all_of faulted (Event.Promise 1 193 ∷ [])).node j).promised) 1 m (omega arith) h),
    (
      (refl, refl, refl, refl, inl refl),
      (
        ((omega arith, refl, refl), refl, omega arith, refl),
        (
          (refl, refl, refl, refl),
          (
            ((omega arith, omega arith), omega arith),
            (
              (refl, refl, inr refl),
              (
                refl,
                (
                  (refl, refl, split_keys),
                  (
                    (refl, refl),
                    (
                      (refl, refl, refl, refl),
                      (((omega arith, refl, refl, omega arith), refl, refl), ((refl, inr refl), refl)),
                    ),
                  ),
                ),
              ),
            ),
          ),
        ),
      ),
    ),
  ),
)

pub returning_run : Run split returning returned
returning_run = (
  tt,
  (
    omega arith,
    (
      (omega arith, refl, λ m h. for_just (λ j. 130 ≤ ((all_of split (Event.Crash 2 ∷ Event.Promise 2 130 ∷ [])).node j).promised) 2 m (omega arith) h),
      ((refl, refl, refl, refl, inl refl), (((omega arith, refl, refl), refl, omega arith, refl), ((refl, refl, inl refl), refl))),
    ),
  ),
)

pub reforming_run : Run returned reforming reformed
reforming_run = (
  omega arith,
  (
    omega arith,
    (
      (omega arith, refl, λ m h. for_pair (λ j. 257 ≤ ((all_of returned (Event.Promise 1 257 ∷ Event.Promise 2 257 ∷ [])).node j).promised) 1 2 m (omega arith) (omega arith) h),
      (
        (refl, refl, refl, refl, inl refl),
        (
          ((omega arith, refl, refl), refl, omega arith, refl),
          (
            (refl, refl, refl, refl),
            (
              ((omega arith, omega arith), omega arith),
              (
                (refl, refl, inr refl),
                (
                  refl,
                  (
                    (refl, refl, reformed_keys),
                    (
                      (refl, refl),
                      (
                        (refl, refl, refl, refl),
                        (
                          ((omega arith, refl, refl, omega arith), refl, refl),
                          (
                            ((omega arith, refl, refl, omega arith), refl),
                            (
                              refl,
                              ((refl, refl), ((refl, inr refl), refl)),
                            ),
                          ),
                        ),
                      ),
                    ),
                  ),
                ),
              ),
            ),
          ),
        ),
      ),
    ),
  ),
)

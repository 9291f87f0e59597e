-- A node that read members' keys alone, and the step of another node: while the word stays, no claim of a node that is no member comes.
use Rattle.std.proofs.Common.{◌≡◌, ◌≢◌, ℕ, ◌≤◌, ◌⊎◌, inl, inr, true, arith}
use Rattle.device_machine.specs.Phase.{rank}
use Rattle.device_machine.specs.Device.{Device}
use Rattle.device_machine.specs.Initiator.{Initiator}
use Rattle.device_machine.specs.Attempt.{Attempt}
use Rattle.device_machine.proofs.Invariant.{PastOk, NodeOk, OnDevice, Alone}
use Rattle.device_machine.specs.Growth.{NodeGrows}
use Rattle.device_machine.proofs.Frames.{NodeSteps}

-- what a node had that is registered and claims the device
pub record Had (d : Device) (n : ℕ) (v : Initiator) : Type 0 where
  pub key : d.keys n ≡ true
  pub claim : (v.valid ≡ true) ⊎ (rank v.phase ≡ 9)

-- the word was n's session before, if it is now
unchanged : (A : ℕ → Attempt) (d d' : Device) (top j : ℕ) (u : Initiator) → d.word ≤ d'.word → OnDevice A d top j u → rank u.phase ≡ 8 → d'.word ≡ u.session → d.word ≡ u.session
unchanged A d d' top j u le i h w = let low : u.session ≤ d.word = i.word (omega (arith, h)) (omega (arith, h)) in omega arith

had_member : (A : ℕ → Attempt) (d : Device) (n : ℕ) (v u : Initiator) → Alone A d u n v → Had d n v → rank u.phase ≡ 8 → d.word ≡ u.session → (A u.session).members n ≡ true
had_member A d n v u x had h w = by had.claim
  where
    by : ((v.valid ≡ true) ⊎ (rank v.phase ≡ 9)) → (A u.session).members n ≡ true
    by (inl c) = x.valid h w had.key c
    by (inr c) = x.seized h w had.key c

-- whoever claims after its step did so before
pub claims_stay : (A : ℕ → Attempt) (d d' : Device) (top n : ℕ) (v v' : Initiator) → d.word ≤ d'.word
    → (d'.keys n ≡ true → v'.valid ≡ true → Had d n v) → (d'.keys n ≡ true → rank v'.phase ≡ 9 → Had d n v)
    → (j : ℕ) (u : Initiator) → OnDevice A d top j u → Alone A d u n v → Alone A d' u n v'
claims_stay A d d' top n v v' le valid seized j u i x = record {
  valid = λ h w key c. had_member A d n v u x (valid key c) h (unchanged A d d' top j u le i h w);
  seized = λ h w key c. had_member A d n v u x (seized key c) h (unchanged A d d' top j u le i h w);
}

-- or it reads that the word is its session, and is a member of that attempt
pub claims_member : (A : ℕ → Attempt) (d : Device) (n : ℕ) (v' : Initiator) → d.word ≡ v'.session → (A v'.session).members n ≡ true → (u : Initiator) → Alone A d u n v'
claims_member A d n v' w m u = record { valid = λ h e key c. grind arith; seized = λ h e key c. grind arith }

-- a node whose last reading is not members' keys alone
pub not_alone : (A : ℕ → Attempt) (d : Device) (v : Initiator) → rank v.phase ≢ 8 → (k : ℕ) (u : Initiator) → Alone A d v k u
not_alone A d v ne k u = record { valid = λ h w key c. absurd (ne h); seized = λ h w key c. absurd (ne h) }

-- A step that brings no claim and is no reading of members' keys alone, the usual one.
pub quiet_steps : (A : ℕ → Attempt) (d d' : Device) (top n : ℕ) (v v' : Initiator) → d.word ≤ d'.word → (d'.keys n ≡ true → v'.valid ≡ true → Had d n v)
    → rank v'.phase ≢ 8 → rank v'.phase ≢ 9 → NodeGrows v v' → PastOk A n v'.promised v'.past → NodeOk A n v' → OnDevice A d' top n v' → NodeSteps A d d' top n v v'
quiet_steps A d d' top n v v' le valid off8 off9 grows past node on = record {
  grows = grows;
  past = past;
  node = node;
  on = on;
  alone = not_alone A d' v' off8;
  claims = claims_stay A d d' top n v v' le valid (λ key h. absurd (off9 h));
}

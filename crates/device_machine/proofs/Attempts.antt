-- Each step of an attempt: what it leaves true of it.
use Rattle.std.proofs.Common.{◌≡◌, ◌≢◌, ℕ, ◌<◌, ◌≤◌, ◌⊎◌, inl, inr, Bool, true, false, refl, sym, subst}
use Rattle.machine_base.specs.Put.{put}
use Rattle.machine_base.proofs.Puts.{put_here, put_true, put_true_stays}
use Rattle.device_machine.specs.Initiator.{Initiator}
use Rattle.device_machine.specs.Attempt.{Attempt, collecting, asking_node, counting}
use Rattle.device_machine.proofs.Invariant.{AttemptOk}
use Rattle.device_machine.specs.Growth.{AttemptGrows}

module _ (N : ℕ → Initiator) (q : ℕ) (e : Attempt) (i : AttemptOk N q e) where
  -- Collected: nothing else was done for the attempt before
  pub collecting_ok : (members : ℕ → Bool) → e.collected ≡ false → 0 < q → ((m : ℕ) → members m ≡ true → q ≤ (N m).promised) → AttemptOk N q (collecting e members)
  collecting_ok members none p all = record {
    positive = λ c. p;
    promised = λ m c h. all m h;
    collected_asking = λ h. refl;
    collected_held = λ h. refl;
    collected_counted = λ h. refl;
    asking = i.asking;
    asked_member = λ m h. let a = i.asking m h in let c = i.collected_asking a in absurd (cc);
    asked_seizer = i.asked_seizer;
    asked_last = i.asked_last;
    answered = i.answered;
    holds_asking = i.holds_asking;
    holds_held = i.holds_held;
    holds_seized = i.holds_seized;
  }

  pub collecting_grows : (members : ℕ → Bool) → e.collected ≡ false → AttemptGrows e (collecting e members)
  collecting_grows members none = record { collected = λ h. refl; members = λ m h. absurd (cc); asked = λ m h. h; quorum = λ m h. refl; held = λ h. h; counted = λ h. h; holds = λ h. refl; seizer = λ h. refl }

  -- Ask: the votes are not counted, and whoever was asked last, if anyone, ended not-registered
  module _ (n : ℕ) (k : Bool) (collected : e.collected ≡ true) (open_yet : e.counted ≡ false) (member : e.members n ≡ true)
      (last : (e.asking ≡ false) ⊎ (((N e.seizer).past.unregistered q ≡ true) × (e.quorum ≡ k))) where
    before : (m : ℕ) → e.asked m ≡ true → (N m).past.unregistered q ≡ true
    before m h = go last (i.asked_last m h)
      where
        go : ((e.asking ≡ false) ⊎ (((N e.seizer).past.unregistered q ≡ true) × (e.quorum ≡ k))) → ((m ≡ e.seizer) ⊎ ((N m).past.unregistered q ≡ true)) → (N m).past.unregistered q ≡ true
        go (inl off) x = let a = i.asking m h in absurd (cc)
        go (inr l) (inl same) = subst (λ j. (N j).past.unregistered q ≡ true) (sym same) l.0
        go (inr l) (inr u) = u

    same_kind : (m : ℕ) → e.asked m ≡ true → k ≡ e.quorum
    same_kind m h = go last
      where
        go : ((e.asking ≡ false) ⊎ (((N e.seizer).past.unregistered q ≡ true) × (e.quorum ≡ k))) → k ≡ e.quorum
        go (inl off) = let a = i.asking m h in absurd (cc)
        go (inr l) = sym l.1

    by_case : (P : ℕ → Type 0) → P n → ((m : ℕ) → e.asked m ≡ true → P m) → (m : ℕ) → put e.asked n true m ≡ true → P m
    by_case P here there m h = go (put_true e.asked n m h)
      where
        go : ((m ≡ n) ⊎ ((m ≢ n) × (e.asked m ≡ true))) → P m
        go (inl same) = subst (λ j. P j) (sym same) here
        go (inr other) = there m other.1

    pub asking_ok : AttemptOk N q (asking_node e n k)
    asking_ok = record {
      positive = i.positive;
      promised = i.promised;
      collected_asking = λ h. collected;
      collected_held = i.collected_held;
      collected_counted = i.collected_counted;
      asking = λ m h. refl;
      asked_member = by_case (λ m. e.members m ≡ true) member i.asked_member;
      asked_seizer = λ h. put_here e.asked n true;
      asked_last = by_case (λ m. (m ≡ n) ⊎ ((N m).past.unregistered q ≡ true)) (inl refl) (λ m h. inr (before m h));
      answered = λ m c h. absurd (cc);
      holds_asking = λ c h. refl;
      holds_held = i.holds_held;
      holds_seized = λ c h. absurd (cc);
    }

    pub asking_grows : AttemptGrows e (asking_node e n k)
    asking_grows = record {
      collected = λ h. h;
      members = λ m h. refl;
      asked = λ m h. put_true_stays e.asked n m h;
      quorum = λ m h. same_kind m h;
      held = λ h. h;
      counted = λ h. h;
      holds = λ h. refl;
      seizer = λ h. absurd (cc);
    }

  -- Count: whoever was asked has answered
  module _ (holds : Bool) (collected : e.collected ≡ true) (open_yet : e.counted ≡ false) (ended : (m : ℕ) → e.asked m ≡ true → (N m).past.ended q ≡ true)
      (seized : holds ≡ true → (e.asking ≡ true) × (e.held ≡ true) × ((N e.seizer).past.seized q ≡ true)) where
    pub counting_ok : AttemptOk N q (counting e holds)
    counting_ok = record {
      positive = i.positive;
      promised = i.promised;
      collected_asking = i.collected_asking;
      collected_held = i.collected_held;
      collected_counted = λ h. collected;
      asking = i.asking;
      asked_member = i.asked_member;
      asked_seizer = i.asked_seizer;
      asked_last = i.asked_last;
      answered = λ m c h. ended m h;
      holds_asking = λ c h. (seized h).0;
      holds_held = λ c h. (seized h).1;
      holds_seized = λ c h. (seized h).2;
    }

    pub counting_grows : AttemptGrows e (counting e holds)
    counting_grows = record { collected = λ h. h; members = λ m h. refl; asked = λ m h. h; quorum = λ m h. refl; held = λ h. h; counted = λ h. refl; holds = λ h. absurd (cc); seizer = λ h. refl }

  -- The histories of those that were asked: where the one asked last ended, all did.
  pub all_ended : ((m : ℕ) → (r : ℕ) → (N m).past.unregistered r ≡ true → (N m).past.ended r ≡ true) → ((e.asking ≡ false) ⊎ ((N e.seizer).past.ended q ≡ true)) → (m : ℕ) → e.asked m ≡ true → (N m).past.ended q ≡ true
  all_ended past last m h = go last (i.asked_last m h)
    where
      go : ((e.asking ≡ false) ⊎ ((N e.seizer).past.ended q ≡ true)) → ((m ≡ e.seizer) ⊎ ((N m).past.unregistered q ≡ true)) → (N m).past.ended q ≡ true
      go (inl off) x = let a = i.asking m h in absurd (cc)
      go (inr l) (inl same) = subst (λ j. (N j).past.ended q ≡ true) (sym same) l
      go (inr l) (inr u) = past m q u

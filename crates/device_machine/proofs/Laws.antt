-- The laws, of each state in which the invariant holds.
use Rattle.std.proofs.Common.{◌≡◌, ◌≢◌, ℕ, zero, suc, ◌<◌, ◌≤◌, ◌⊎◌, inl, inr, Bool, true, false, refl, sym, subst, ◌∙◌, arith}
use Rattle.device_machine.specs.Phase.{Phase, rank, IsSeizing}
use Rattle.device_machine.specs.Device.{LetsWrite}
use Rattle.device_machine.specs.Sharing.{Sharing, MayInstall, Writes}
use Rattle.device_machine.specs.Laws.{Holds, MemberOrAbove, HasJoined}
use Rattle.device_machine.proofs.Steps.{not_true}
use Rattle.device_machine.proofs.Invariant.{Inv}

clash : (b : Bool) → b ≡ true → b ≡ false → ⊥
clash b h h' = let e : true ≡ false = sym h ∙ h' in apart e
  where
    apart : true ≡ false → ⊥
    apart e = grind arith

is_over : (p : Phase) → rank p ≡ 10 → p ≡ Phase.Over
is_over p h = grind arith

module _ (s : Sharing) (i : Inv s) where
  -- a counted attempt that holds the device had its seizing end held, so it is no greater than the greatest
  pub held : (q : ℕ) → Holds s q → (s.attempt q).held ≡ true
  held q h = (i.attempt q).holds_held h.0 h.1

  pub below_top : (q : ℕ) → (s.attempt q).held ≡ true → (0 < q) × (q ≤ s.top)
  below_top q h = ((i.attempt q).positive ((i.attempt q).collected_held h), i.device.held_top q h)

  -- a reservation stands from then on, so whom the device lets write is registered
  registered : (n q : ℕ) → (s.attempt q).held ≡ true → LetsWrite s.device n → s.device.keys n ≡ true
  registered n q h (inl none) = let r = i.device.reserved q h in absurd (cc)
  registered n q h (inr key) = key

  promised_top : (n : ℕ) → 0 < s.top → (s.attempt s.top).members n ≡ true → s.top ≤ (s.node n).promised
  promised_top n t m = (i.attempt s.top).promised n ((i.attempt s.top).collected_held (i.device.top_held t)) m

  pub joined : (n : ℕ) → (s.node n).joined ≡ true → HasJoined s n
  joined n j = record {
    in_session = (i.node n).busy busy;
    promised = (i.node n).session ((i.node n).busy busy);
    installed = (i.node n).joined_installed j;
    member = (i.node n).member busy;
    holds = ((i.node n).joined_counted j, (i.node n).joined_held j);
    valid = (i.node n).joined_valid j;
  }
    where
      busy : 0 < rank (s.node n).phase
      busy = let r = (i.node n).joined j in omega arith

  -- the word is no smaller than an attempt that holds the device
  word_above : (q : ℕ) → Holds s q → q ≤ s.device.word
  word_above q h = omega (arith, (below_top q (held q h)).1, i.device.top_word)

  pub joining_word : (n : ℕ) → 11 ≤ rank (s.node n).phase → (s.node n).session ≤ s.device.word
  joining_word n h = word_above (s.node n).session ((i.node n).joining_counted h, (i.node n).joining_held h)

  pub joined_word : (n : ℕ) → (s.node n).joined ≡ true → (s.node n).session ≤ s.device.word
  joined_word n j = word_above (s.node n).session (joined n j).holds

  pub disk_rule : (n f : ℕ) → Writes s n → Holds s f → f ≤ (s.node n).session
  disk_rule n f w h =
      let low = below_top f (held f h) in
      let zero_low : 0 < s.top = let a = low.0 in let b = low.1 in omega arith in
      let m = (i.on n).valid_top ((i.node n).joined_valid w.0) (registered n f (held f h) w.1) zero_low in
      let p : s.top ≤ (s.node n).promised = promised_top n zero_low m in
      let e = (joined n w.0).promised in
      let up = low.1 in
      omega arith

  -- a node that an attempt left out, which holds the device, writes as a member of a greater one alone
  pub left_out : (n f : ℕ) → Writes s n → Holds s f → (s.attempt f).members n ≡ false → f < (s.node n).session
  left_out n f w h out = let le = disk_rule n f w h in let ne : f ≢ (s.node n).session = other in omega arith
    where
      other : f ≢ (s.node n).session
      other e = let m = (joined n w.0).member in let o : (s.attempt (s.node n).session).members n ≡ false = subst (λ q. (s.attempt q).members n ≡ false) e out in absurd (cc)

  pub word_of_attempt : (s.device.word ≡ 0) ⊎ ((s.attempt s.device.word).collected ≡ true)
  word_of_attempt = go s.device.word i.device.word
    where
      go : (w : ℕ) → (0 < w → (s.attempt w).collected ≡ true) → (w ≡ 0) ⊎ ((s.attempt w).collected ≡ true)
      go zero h = inl refl
      go (suc w) h = inr (h (omega arith))

  pub one_writer : (q n m : ℕ) → (s.node n).past.wrote q ≡ true → (s.node m).past.wrote q ≡ true → n ≡ m
  one_writer q n m a b = last n a ∙ sym (last m b)
    where
      by : (k : ℕ) → (s.node k).past.wrote q ≡ true → ((k ≡ (s.attempt q).seizer) ⊎ ((s.node k).past.unregistered q ≡ true)) → k ≡ (s.attempt q).seizer
      by k w (inl e) = e
      by k w (inr u) = let none = (i.past k).unregistered_unwritten q u in absurd (cc)

      last : (k : ℕ) → (s.node k).past.wrote q ≡ true → k ≡ (s.attempt q).seizer
      last k w = by k w ((i.attempt q).asked_last k ((i.past k).wrote_asked q w))

  -- one node, of all that were asked, seized the device for an attempt
  pub one_seizer : (q n : ℕ) → (s.node n).past.seized q ≡ true → n ≡ (s.attempt q).seizer
  one_seizer q n h = by ((i.attempt q).asked_last n ((i.past n).seized_asked q h))
    where
      by : ((n ≡ (s.attempt q).seizer) ⊎ ((s.node n).past.unregistered q ≡ true)) → n ≡ (s.attempt q).seizer
      by (inl e) = e
      by (inr u) = let none = (i.past n).unregistered_unseized q u in absurd (cc)

  pub outsider : (n : ℕ) → 0 < s.top → (s.attempt s.top).members n ≡ false → s.device.keys n ≡ true → ((s.node n).valid ≡ false) × ((s.node n).joined ≡ false)
  outsider n t out key = (unclaimed, unjoined)
    where
      unclaimed : (s.node n).valid ≡ false
      unclaimed = not_true (s.node n).valid (λ c. clash ((s.attempt s.top).members n) ((i.on n).valid_top c key t) out)

      unjoined : (s.node n).joined ≡ false
      unjoined = not_true (s.node n).joined (λ j. clash (s.node n).valid ((i.node n).joined_valid j) unclaimed)

  pub valid_member : (n : ℕ) → (s.node n).valid ≡ true → s.device.keys n ≡ true → 0 < s.top → ((s.attempt s.top).members n ≡ true) × (s.top ≤ (s.node n).promised)
  valid_member n c key t = let m = (i.on n).valid_top c key t in (m, promised_top n t m)

  pub valid_above : (n e : ℕ) → (s.node n).valid ≡ true → s.device.keys n ≡ true → (s.attempt e).held ≡ true → MemberOrAbove s n e (s.node n).installed
  valid_above n e c key h = (i.on n).valid_held e c key h

  -- the node that was asked last is a member, and a later attempt that holds the device as a quorum device meets each earlier one in it
  pub seizer_member : (q : ℕ) → Holds s q → (s.attempt q).members (s.attempt q).seizer ≡ true
  seizer_member q h = (i.attempt q).asked_member (s.attempt q).seizer ((i.attempt q).asked_seizer ((i.attempt q).holds_asking h.0 h.1))

  pub meets : (e q : ℕ) → Holds s e → Holds s q → (s.attempt q).quorum ≡ true → e < q
      → ((s.attempt q).members (s.attempt q).seizer ≡ true) × MemberOrAbove s (s.attempt q).seizer e ((s.node (s.attempt q).seizer).past.showed q)
  meets e q he hq kind lt = (seizer_member q hq, (i.on (s.attempt q).seizer).seized_showed q e ((i.attempt q).holds_seized hq.0 hq.1) kind (held e he) lt)

  -- whoever installs was asked for nothing that it has not answered
  pub at_install : (n : ℕ) → MayInstall s n → IsSeizing (s.node n).phase → ⊥
  at_install n g b = let asked = (i.node n).asked b.0 (omega (arith, b.1)) in
      clash ((s.node n).past.ended (s.node n).session) ((i.attempt (s.node n).session).answered n g.1 asked) ((i.node n).running g.0 b.1)

  pub over_when_joined : (n : ℕ) → (s.node n).joined ≡ true → (s.node n).phase ≡ Phase.Over
  over_when_joined n j = is_over (s.node n).phase ((i.node n).joined j)

  pub session_of : (n : ℕ) → ((s.node n).session ≡ 0) ⊎ ((s.node n).session ≡ (s.node n).promised)
  session_of n = go (s.node n).session (i.node n).session
    where
      go : (p : ℕ) → (0 < p → p ≡ (s.node n).promised) → (p ≡ 0) ⊎ (p ≡ (s.node n).promised)
      go zero h = inl refl
      go (suc p) h = inr (h (omega arith))

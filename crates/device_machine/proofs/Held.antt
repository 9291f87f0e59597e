-- The one step that makes an attempt hold the device: node n, which read its own key and members' keys alone,
-- reads after it that the word is still its session. From then on this attempt is the greatest that holds the device.
use Rattle.std.proofs.Common.{◌≡◌, ◌≢◌, ℕ, ◌<◌, ◌≤◌, ◌⊎◌, inl, inr, true, false, refl, sym, ap, subst, ◌∙◌, arith}
use Rattle.machine_base.specs.Put.{put}
use Rattle.machine_base.proofs.Puts.{put_here, put_there, put_true, put_true_stays, put_cases, same_or_not}
use Rattle.device_machine.specs.Phase.{Phase, rank}
use Rattle.device_machine.specs.Device.{Device}
use Rattle.device_machine.specs.Initiator.{Initiator, holding}
use Rattle.device_machine.specs.Attempt.{Attempt, holding_for}
use Rattle.device_machine.specs.Sharing.{Sharing, at_held}
use Rattle.device_machine.specs.Growth.{AttemptGrows, NodeGrows}
use Rattle.device_machine.proofs.Invariant.{PastOk, NodeOk, OnDevice, Alone, AttemptOk, DeviceOk, Inv}
use Rattle.device_machine.proofs.Growth.{attempt_same, node_same, leaves_same, past_stays, node_stays, alone_stays, attempt_stays}
use Rattle.device_machine.proofs.Frames.{Goes}
use Rattle.device_machine.proofs.Claims.{claims_member, not_alone}
use Rattle.device_machine.proofs.Steps.{ended_other}

-- The attempts after it: they grew, and those that hold the device are p's and those that held it before.
record Becomes (A A' : ℕ → Attempt) (p : ℕ) : Type 0 where
  grows : (q : ℕ) → AttemptGrows (A q) (A' q)
  members : (q m : ℕ) → (A' q).members m ≡ (A q).members m
  quorum : (q : ℕ) → (A' q).quorum ≡ (A q).quorum
  now : (A' p).held ≡ true
  held : (q : ℕ) → (A' q).held ≡ true → (q ≡ p) ⊎ ((q ≢ p) × ((A q).held ≡ true))

becomes : (A : ℕ → Attempt) (p : ℕ) → Becomes A (put A p (holding_for (A p))) p
becomes A p = record {
  grows = put_cases (λ k x. AttemptGrows (A k) x) A p (holding_for (A p))
      (record { collected = λ h. h; members = λ m h. refl; asked = λ m h. h; quorum = λ m h. refl; held = λ h. refl; counted = λ h. h; holds = λ h. refl; seizer = λ h. refl }) (λ k ne. attempt_same (A k));
  members = λ q m. put_cases (λ k x. x.members m ≡ (A k).members m) A p (holding_for (A p)) refl (λ k ne. refl) q;
  quorum = put_cases (λ k x. x.quorum ≡ (A k).quorum) A p (holding_for (A p)) refl (λ k ne. refl);
  now = ap (λ (x : Attempt). x.held) (put_here A p (holding_for (A p)));
  held = put_cases (λ k x. x.held ≡ true → (k ≡ p) ⊎ ((k ≢ p) × ((A k).held ≡ true))) A p (holding_for (A p)) (λ h. inl refl) (λ k ne h. inr (ne, h));
}

-- Any other node k.
module _ (A A' : ℕ → Attempt) (d : Device) (top p : ℕ) (b : Becomes A A' p) (dev : DeviceOk A d top) (at_word : d.word ≡ p)
    (k : ℕ) (u : Initiator) (past : PastOk A k u.promised u.past) (i : OnDevice A d top k u)
    (valid_member : d.keys k ≡ true → u.valid ≡ true → (A p).members k ≡ true) (seized_member : d.keys k ≡ true → rank u.phase ≡ 9 → (A p).members k ≡ true) where
  carried : (e : ℕ) (P : Type 0) → (((A e).members k ≡ true) ⊎ P) → ((A' e).members k ≡ true) ⊎ P
  carried e P (inl h) = inl (b.members e k ∙ h)
  carried e P (inr h) = inr h

  -- of the attempts that hold the device, p is dealt with here and the others as before
  split : (e : ℕ) (P : Type 0) → (A' e).held ≡ true → (e ≡ p → ((A e).members k ≡ true) ⊎ P) → ((A e).held ≡ true → ((A e).members k ≡ true) ⊎ P) → ((A' e).members k ≡ true) ⊎ P
  split e P h here there = carried e P (go (b.held e h))
    where
      go : ((e ≡ p) ⊎ ((e ≢ p) × ((A e).held ≡ true))) → ((A e).members k ≡ true) ⊎ P
      go (inl same) = here same
      go (inr other) = there other.1

  at : (e : ℕ) (P : Type 0) → (A p).members k ≡ true → e ≡ p → ((A e).members k ≡ true) ⊎ P
  at e P m same = inl (subst (λ q. (A q).members k ≡ true) (sym same) m)

  other_on : OnDevice A' d p k u
  other_on = record {
    word = i.word;
    reserved_own = i.reserved_own;
    reserved = i.reserved;
    valid_top = λ c key t. b.members p k ∙ valid_member key c;
    seized_top = λ c key t. b.members p k ∙ seized_member key c;
    valid_held = λ e c key h. split e (e < u.installed) h (at e (e < u.installed) (valid_member key c)) (i.valid_held e c key);
    seized_held = λ e c key h. split e (e < u.session) h (at e (e < u.session) (seized_member key c)) (i.seized_held e c key);
    quorum_held = λ e q h h' held lt. split e (e < u.installed) held
        (λ same. let low : u.session ≤ d.word = i.word (omega (arith, h)) h' in absurd (omega arith)) (λ old. i.quorum_held e q h h' old lt);
    seized_showed = λ q e s kind held lt. split e (e < u.past.showed q) held
        (λ same. let low = dev.held_top q (past.seized_held q s) in let up = dev.top_word in absurd (omega arith))
        (λ old. i.seized_showed q e s (sym (b.quorum q) ∙ kind) old lt);
  }

-- The node itself.
module _ (A A' : ℕ → Attempt) (d : Device) (top n : ℕ) (v : Initiator) (b : Becomes A A' v.session) (dev : DeviceOk A d top) (at_word : d.word ≡ v.session) (phase : v.phase ≡ Phase.Cleared)
    (past : PastOk A n v.promised v.past) (ok : NodeOk A n v) (i : OnDevice A d top n v) (alone : Alone A d v n v) where
  eight : rank v.phase ≡ 8
  eight = ap rank phase

  member : (A v.session).members n ≡ true
  member = ok.member (omega (arith, eight))

  -- it is a member of the attempt, and of an earlier one what its reading of the keys left holds
  own : (e : ℕ) (P : Type 0) → (A' e).held ≡ true → ((A e).held ≡ true → e < v.session → ((A e).members n ≡ true) ⊎ P) → ((A' e).members n ≡ true) ⊎ P
  own e P h there = go (b.held e h)
    where
      carry : (((A e).members n ≡ true) ⊎ P) → ((A' e).members n ≡ true) ⊎ P
      carry (inl m) = inl (b.members e n ∙ m)
      carry (inr x) = inr x

      go : ((e ≡ v.session) ⊎ ((e ≢ v.session) × ((A e).held ≡ true))) → ((A' e).members n ≡ true) ⊎ P
      go (inl same) = inl (b.members e n ∙ subst (λ q. (A q).members n ≡ true) (sym same) member)
      go (inr other) = let ne : e ≢ v.session = other.0 in let low = dev.held_top e other.1 in let up = dev.top_word in carry (there other.1 (omega arith))

  showing : (e : ℕ) → (((A e).members n ≡ true) ⊎ (e < v.installed)) → ((A e).members n ≡ true) ⊎ (e < v.past.showed v.session)
  showing e (inl m) = inl m
  showing e (inr lt) = let s : v.past.showed v.session ≡ v.installed = ok.showed (ok.busy (omega (arith, eight))) (ok.before (omega (arith, eight)) (omega (arith, eight))) in inr (omega arith)

  shown : (q e : ℕ) → ((q ≡ v.session) ⊎ ((q ≢ v.session) × (v.past.seized q ≡ true))) → (A q).quorum ≡ true → (A' e).held ≡ true → e < q → ((A' e).members n ≡ true) ⊎ (e < v.past.showed q)
  shown q e (inl same) kind held lt = subst (λ j. ((A' e).members n ≡ true) ⊎ (e < v.past.showed j)) (sym same)
      (own e (e < v.past.showed v.session) held (λ old less. showing e (i.quorum_held e quorum (omega (arith, eight)) (omega (arith, eight)) old less)))
    where
      quorum : v.quorum ≡ true
      quorum = sym (ok.kind (omega (arith, eight)) (omega (arith, eight))) ∙ subst (λ j. (A j).quorum ≡ true) same kind
  shown q e (inr other) kind held lt = own e (e < v.past.showed q) held (λ old less. i.seized_showed q e other.1 kind old lt)

  own_on : OnDevice A' d v.session n (holding v)
  own_on = record {
    word = λ h h'. omega (arith, at_word);
    reserved_own = λ h h'. absurd (omega (arith, h, h'));
    reserved = λ h h'. i.reserved (omega (arith, eight)) (omega (arith, eight));
    valid_top = λ c key t. b.members v.session n ∙ member;
    seized_top = λ c key t. b.members v.session n ∙ member;
    valid_held = λ e c key h. own e (e < v.installed) h (λ old lt. i.valid_held e c key old);
    seized_held = λ e c key h. own e (e < v.session) h (λ old lt. inr lt);
    quorum_held = λ e q h h' held lt. own e (e < v.installed) held (λ old less. i.quorum_held e q (omega (arith, eight)) (omega (arith, eight)) old less);
    seized_showed = λ q e s kind held lt. shown q e (put_true v.past.seized v.session q s) (sym (b.quorum q) ∙ kind) held lt;
  }

  own_past : PastOk A' n v.promised (holding v).past
  own_past = record {
    seized_held = λ q s. held_too q (put_true v.past.seized v.session q s);
    seized_asked = λ q s. (b.grows q).asked n (asked_too q (put_true v.past.seized v.session q s));
    seized_ended = λ q s. ended_too q (put_true v.past.seized v.session q s);
    unregistered_ended = λ q u. put_true_stays v.past.ended v.session q (past.unregistered_ended q u);
    unregistered_unwritten = past.unregistered_unwritten;
    unregistered_unseized = λ q u. other q u (same_or_not q v.session);
    ended_low = λ q s. low q (put_true v.past.ended v.session q s);
    wrote_asked = λ q w. (b.grows q).asked n (past.wrote_asked q w);
    wrote_low = past.wrote_low;
    seizings = past.seizings;
    seizings_low = past.seizings_low;
    joinings = past.joinings;
    joinings_low = past.joinings_low;
  }
    where
      other : (q : ℕ) → v.past.unregistered q ≡ true → ((q ≡ v.session) ⊎ (q ≢ v.session)) → put v.past.seized v.session true q ≡ false
      other q u (inl same) = let o : 10 ≤ rank v.phase = ok.unregistered_over (ok.busy (omega (arith, eight))) (subst (λ j. v.past.unregistered j ≡ true) same u) in absurd (omega (arith, eight))
      other q u (inr ne) = put_there v.past.seized v.session true q ne ∙ past.unregistered_unseized q u

      held_too : (q : ℕ) → ((q ≡ v.session) ⊎ ((q ≢ v.session) × (v.past.seized q ≡ true))) → (A' q).held ≡ true
      held_too q (inl same) = subst (λ j. (A' j).held ≡ true) (sym same) b.now
      held_too q (inr other) = (b.grows q).held (past.seized_held q other.1)

      asked_too : (q : ℕ) → ((q ≡ v.session) ⊎ ((q ≢ v.session) × (v.past.seized q ≡ true))) → (A q).asked n ≡ true
      asked_too q (inl same) = subst (λ j. (A j).asked n ≡ true) (sym same) (ok.asked (omega (arith, eight)) (omega (arith, eight)))
      asked_too q (inr other) = past.seized_asked q other.1

      ended_too : (q : ℕ) → ((q ≡ v.session) ⊎ ((q ≢ v.session) × (v.past.seized q ≡ true))) → put v.past.ended v.session true q ≡ true
      ended_too q (inl same) = subst (λ j. put v.past.ended v.session true j ≡ true) (sym same) (put_here v.past.ended v.session true)
      ended_too q (inr other) = put_true_stays v.past.ended v.session q (past.seized_ended q other.1)

      low : (q : ℕ) → ((q ≡ v.session) ⊎ ((q ≢ v.session) × (v.past.ended q ≡ true))) → q ≤ v.promised
      low q (inl same) = let s : v.session ≡ v.promised = ok.session (ok.busy (omega (arith, eight))) in omega arith
      low q (inr other) = past.ended_low q other.1

  own_device : DeviceOk A' d v.session
  own_device = record {
    held_top = λ e h. lows e (b.held e h);
    top_held = λ h. b.now;
    top_word = omega (arith, at_word);
    word = λ h. (b.grows d.word).collected (dev.word h);
    reserved = λ e h. i.reserved (omega (arith, eight)) (omega (arith, eight));
    holder = dev.holder;
  }
    where
      lows : (e : ℕ) → ((e ≡ v.session) ⊎ ((e ≢ v.session) × ((A e).held ≡ true))) → e ≤ v.session
      lows e (inl same) = omega (arith, same)
      lows e (inr other) = let l = dev.held_top e other.1 in let up = dev.top_word in omega arith

-- what becomes of node n and of its attempt
holding_node : (A : ℕ → Attempt) (n : ℕ) (v : Initiator) → NodeOk A n v → v.phase ≡ Phase.Cleared → NodeOk A n (holding v)
holding_node A n v i at = record {
  session = grind arith;
  installed = grind arith;
  showed = grind arith;
  busy = grind arith;
  collected = grind arith;
  member = grind arith;
  asked = grind arith;
  kind = grind arith;
  before = grind arith;
  running = grind arith;
  untrusted = grind arith;
  plain = grind arith;
  trusted = grind arith;
  less = grind arith;
  outside = grind arith;
  unwritten = grind arith;
  distrusted = grind arith;
  joining = grind arith;
  joining_counted = grind arith;
  joining_held = grind arith;
  joined = grind arith;
  joined_valid = grind arith;
  joined_installed = grind arith;
  joined_counted = grind arith;
  joined_held = grind arith;
  seized_phase = grind arith;
  unregistered_over = grind arith;
  seizings_none = grind arith;
  joinings_none = grind arith;
}

holding_attempt : (N : ℕ → Initiator) (q : ℕ) (e : Attempt) → e.collected ≡ true → AttemptOk N q e → AttemptOk N q (holding_for e)
holding_attempt N q e c i = record {
  positive = i.positive;
  promised = i.promised;
  collected_asking = i.collected_asking;
  collected_held = λ h. c;
  collected_counted = i.collected_counted;
  asking = i.asking;
  asked_member = i.asked_member;
  asked_seizer = i.asked_seizer;
  asked_last = i.asked_last;
  answered = i.answered;
  holds_asking = i.holds_asking;
  holds_held = λ x h. refl;
  holds_seized = i.holds_seized;
}

pub confirm_kept : (s : Sharing) (n : ℕ) → Inv s → (s.node n).phase ≡ Phase.Cleared → s.device.word ≡ (s.node n).session → Goes s (at_held s n)
confirm_kept s n i at w = record {
  inv = record {
    past = put_cases (λ k x. PastOk A' k x.promised x.past) s.node n v' (own_past s.attempt A' s.device s.top n v b i.device w at (i.past n) (i.node n) (i.on n) (i.alone n n))
        (λ k ne. past_stays s.attempt A' k (s.node k).promised (s.node k).past b.grows (i.past k));
    node = put_cases (λ k x. NodeOk A' k x) s.node n v' (node_stays s.attempt A' n v' b.grows (holding_node s.attempt n v (i.node n) at)) (λ k ne. node_stays s.attempt A' k (s.node k) b.grows (i.node k));
    on = put_cases (λ k x. OnDevice A' s.device v.session k x) s.node n v' (own_on s.attempt A' s.device s.top n v b i.device w at (i.past n) (i.node n) (i.on n) (i.alone n n))
        (λ k ne. other_on s.attempt A' s.device s.top v.session b i.device w k (s.node k) (i.past k) (i.on k) (λ key c. (i.alone n k).valid eight w key c) (λ key c. (i.alone n k).seized eight w key c));
    alone = λ j k. put_cases (λ m x. Alone A' s.device x k (put s.node n v' k)) s.node n v' (not_alone A' s.device v' (grind arith) k (put s.node n v' k))
        (λ m ne. put_cases (λ h y. Alone A' s.device (s.node m) h y) s.node n v'
        (claims_member A' s.device n v' w (b.members v.session n ∙ (i.node n).member (omega (arith, eight))) (s.node m))
        (λ h off. alone_stays s.attempt A' s.device s.device s.top m h (s.node m) (s.node h) b.grows (leaves_same s.device h) (i.node m) (i.on m) (i.alone m h)) k) j;
    attempt = λ q. attempt_stays s.node (put s.node n v') q (A' q) nodes
        (put_cases (λ k x. AttemptOk s.node k x) s.attempt v.session (holding_for (s.attempt v.session))
        (holding_attempt s.node v.session (s.attempt v.session) ((i.node n).collected (omega (arith, eight))) (i.attempt v.session)) (λ k ne. i.attempt k) q);
    device = own_device s.attempt A' s.device s.top n v b i.device w at (i.past n) (i.node n) (i.on n) (i.alone n n);
  };
  grows = record { node = nodes; attempt = b.grows };
}
  where
    v : Initiator
    v = s.node n

    v' : Initiator
    v' = holding (s.node n)

    A' : ℕ → Attempt
    A' = put s.attempt (s.node n).session (holding_for (s.attempt (s.node n).session))

    b : Becomes s.attempt A' v.session
    b = becomes s.attempt (s.node n).session

    eight : rank v.phase ≡ 8
    eight = ap rank at

    going : (s.node n).past.ended (s.node n).session ≡ false
    going = (i.node n).running ((i.node n).busy (omega (arith, eight))) (omega (arith, eight))

    grown : NodeGrows v v'
    grown = record {
      promised = grind arith;
      seized = λ q h. put_true_stays (s.node n).past.seized (s.node n).session q h;
      unregistered = λ q h. h;
      ended = λ q h. put_true_stays (s.node n).past.ended (s.node n).session q h;
      wrote = λ q h. h;
      seized_settled = λ q h. put_there (s.node n).past.seized (s.node n).session true q (ended_other (s.node n).past.ended (s.node n).session q h going);
      unregistered_settled = λ q h. refl;
    }

    nodes : (k : ℕ) → NodeGrows (s.node k) (put s.node n v' k)
    nodes = put_cases (λ k x. NodeGrows (s.node k) x) s.node n v' grown (λ k ne. node_same (s.node k))

-- Attempts and nodes grow, and a device goes on: whoever does not step keeps what it has.
use Rattle.std.proofs.Common.{◌≡◌, ℕ, ◌<◌, ◌≤◌, ◌⊎◌, inl, inr, true, refl, sym, ◌∙◌, arith}
use Rattle.device_machine.specs.Phase.{rank}
use Rattle.device_machine.specs.Device.{Device}
use Rattle.device_machine.specs.Initiator.{Past, Initiator}
use Rattle.device_machine.specs.Attempt.{Attempt}
use Rattle.device_machine.specs.Growth.{AttemptGrows, NodeGrows}
use Rattle.device_machine.proofs.Invariant.{PastOk, NodeOk, OnDevice, Alone, AttemptOk, DeviceOk}

-- what a device that goes from d to d' leaves node k: no registration of k is added, the word only grows, a reservation stays
pub record Leaves (d d' : Device) (k : ℕ) : Type 0 where
  pub keys : d'.keys k ≡ true → d.keys k ≡ true
  pub word : d.word ≤ d'.word
  pub reserved : d.reserved ≡ true → d'.reserved ≡ true

pub attempt_same : (e : Attempt) → AttemptGrows e e
attempt_same e = record { collected = λ h. h; members = λ m h. refl; asked = λ m h. h; quorum = λ m h. refl; held = λ h. h; counted = λ h. h; holds = λ h. refl; seizer = λ h. refl }

pub node_same : (v : Initiator) → NodeGrows v v
node_same v = record { promised = grind arith; seized = λ q h. h; unregistered = λ q h. h; ended = λ q h. h; wrote = λ q h. h; seized_settled = λ q h. refl; unregistered_settled = λ q h. refl }

pub leaves_same : (d : Device) (k : ℕ) → Leaves d d k
leaves_same d k = record { keys = λ h. h; word = grind arith; reserved = λ h. h }

pub past_stays : (A A' : ℕ → Attempt) (n p : ℕ) (h : Past) → ((q : ℕ) → AttemptGrows (A q) (A' q)) → PastOk A n p h → PastOk A' n p h
past_stays A A' n p h g i = record {
  seized_held = λ q s. (g q).held (i.seized_held q s);
  seized_asked = λ q s. (g q).asked n (i.seized_asked q s);
  seized_ended = i.seized_ended;
  unregistered_ended = i.unregistered_ended;
  unregistered_unwritten = i.unregistered_unwritten;
  unregistered_unseized = i.unregistered_unseized;
  ended_low = i.ended_low;
  wrote_asked = λ q s. (g q).asked n (i.wrote_asked q s);
  wrote_low = i.wrote_low;
  seizings = i.seizings;
  seizings_low = i.seizings_low;
  joinings = i.joinings;
  joinings_low = i.joinings_low;
}

pub node_stays : (A A' : ℕ → Attempt) (n : ℕ) (v : Initiator) → ((q : ℕ) → AttemptGrows (A q) (A' q)) → NodeOk A n v → NodeOk A' n v
node_stays A A' n v g i = record {
  session = i.session;
  installed = i.installed;
  showed = i.showed;
  busy = i.busy;
  collected = λ h. (g v.session).collected (i.collected h);
  member = λ h. (g v.session).members n (i.collected h) ∙ i.member h;
  asked = λ h l. (g v.session).asked n (i.asked h l);
  kind = λ h l. (g v.session).quorum n (i.asked h l) ∙ i.kind h l;
  before = i.before;
  running = i.running;
  untrusted = i.untrusted;
  plain = i.plain;
  trusted = i.trusted;
  less = i.less;
  outside = λ h. (g v.session).members v.target (i.collected (omega (arith, h))) ∙ i.outside h;
  unwritten = i.unwritten;
  distrusted = i.distrusted;
  joining = i.joining;
  joining_counted = λ h. (g v.session).counted (i.joining_counted h);
  joining_held = λ h. (g v.session).holds (i.joining_counted h) ∙ i.joining_held h;
  joined = i.joined;
  joined_valid = i.joined_valid;
  joined_installed = i.joined_installed;
  joined_counted = λ h. (g v.session).counted (i.joined_counted h);
  joined_held = λ h. (g v.session).holds (i.joined_counted h) ∙ i.joined_held h;
  seized_phase = i.seized_phase;
  unregistered_over = i.unregistered_over;
  seizings_none = i.seizings_none;
  joinings_none = i.joinings_none;
}

-- Of a node and a device while nothing more is held: what is said of attempts that hold the device is said of the same ones.
module _ (A A' : ℕ → Attempt) (g : (q : ℕ) → AttemptGrows (A q) (A' q)) (same : (e : ℕ) → (A' e).held ≡ (A e).held) where
  held_then : (e : ℕ) → (A' e).held ≡ true → (A e).held ≡ true
  held_then e h = sym (same e) ∙ h

  member_still : (e m : ℕ) → (A e).collected ≡ true → (A e).members m ≡ true → (A' e).members m ≡ true
  member_still e m c h = (g e).members m c ∙ h

  either_still : (e m : ℕ) (P : Type 0) → (A e).collected ≡ true → (((A e).members m ≡ true) ⊎ P) → ((A' e).members m ≡ true) ⊎ P
  either_still e m P c (inl h) = inl (member_still e m c h)
  either_still e m P c (inr h) = inr h

  pub on_stays : (N : ℕ → Initiator) (d d' : Device) (top n : ℕ) (v : Initiator) → Leaves d d' n → ((q : ℕ) → AttemptOk N q (A q)) → DeviceOk A d top
      → PastOk A n v.promised v.past → OnDevice A d top n v → OnDevice A' d' top n v
  on_stays N d d' top n v l a dev past i = record {
    word = λ h h'. let w = i.word h h' in let le = l.word in omega arith;
    reserved_own = λ h h' k. l.reserved (i.reserved_own h h' (l.keys k));
    reserved = λ h h'. l.reserved (i.reserved h h');
    valid_top = λ h k t. member_still top n ((a top).collected_held (dev.top_held t)) (i.valid_top h (l.keys k) t);
    seized_top = λ h k t. member_still top n ((a top).collected_held (dev.top_held t)) (i.seized_top h (l.keys k) t);
    valid_held = λ e h k held. either_still e n (e < v.installed) ((a e).collected_held (held_then e held)) (i.valid_held e h (l.keys k) (held_then e held));
    seized_held = λ e h k held. either_still e n (e < v.session) ((a e).collected_held (held_then e held)) (i.seized_held e h (l.keys k) (held_then e held));
    quorum_held = λ e q h h' held lt. either_still e n (e < v.installed) ((a e).collected_held (held_then e held)) (i.quorum_held e q h h' (held_then e held) lt);
    seized_showed = λ q e s kind held lt. either_still e n (e < v.past.showed q) ((a e).collected_held (held_then e held))
        (i.seized_showed q e s (sym ((g q).quorum n (past.seized_asked q s)) ∙ kind) (held_then e held) lt);
  }

  pub device_stays : (N : ℕ → Initiator) (d : Device) (top : ℕ) → ((q : ℕ) → AttemptOk N q (A q)) → DeviceOk A d top → DeviceOk A' d top
  device_stays N d top a i = record {
    held_top = λ e h. i.held_top e (held_then e h);
    top_held = λ h. same top ∙ i.top_held h;
    top_word = i.top_word;
    word = λ h. (g d.word).collected (i.word h);
    reserved = λ e h. i.reserved e (held_then e h);
    holder = i.holder;
  }

-- The word of a node past its swap is no greater than the device's, so where it is equal now it was equal before.
pub alone_stays : (A A' : ℕ → Attempt) (d d' : Device) (top n k : ℕ) (v u : Initiator) → ((q : ℕ) → AttemptGrows (A q) (A' q)) → Leaves d d' k
    → NodeOk A n v → OnDevice A d top n v → Alone A d v k u → Alone A' d' v k u
alone_stays A A' d d' top n k v u g l i on x = record {
  valid = λ h w key claim. (g v.session).members k (i.collected (omega (arith, h))) ∙ x.valid h (equal h w) (l.keys key) claim;
  seized = λ h w key claim. (g v.session).members k (i.collected (omega (arith, h))) ∙ x.seized h (equal h w) (l.keys key) claim;
}
  where
    equal : rank v.phase ≡ 8 → d'.word ≡ v.session → d.word ≡ v.session
    equal h w = let low : v.session ≤ d.word = on.word (omega (arith, h)) (omega (arith, h)) in let up = l.word in omega arith

pub attempt_stays : (N N' : ℕ → Initiator) (q : ℕ) (e : Attempt) → ((m : ℕ) → NodeGrows (N m) (N' m)) → AttemptOk N q e → AttemptOk N' q e
attempt_stays N N' q e g i = record {
  positive = i.positive;
  promised = λ m c h. let low = i.promised m c h in let up = (g m).promised in omega arith;
  collected_asking = i.collected_asking;
  collected_held = i.collected_held;
  collected_counted = i.collected_counted;
  asking = i.asking;
  asked_member = i.asked_member;
  asked_seizer = i.asked_seizer;
  asked_last = λ m h. still m (i.asked_last m h);
  answered = λ m c h. (g m).ended q (i.answered m c h);
  holds_asking = i.holds_asking;
  holds_held = i.holds_held;
  holds_seized = λ c h. (g e.seizer).seized q (i.holds_seized c h);
}
  where
    still : (m : ℕ) → ((m ≡ e.seizer) ⊎ ((N m).past.unregistered q ≡ true)) → (m ≡ e.seizer) ⊎ ((N' m).past.unregistered q ≡ true)
    still m (inl h) = inl h
    still m (inr h) = inr ((g m).unregistered q h)

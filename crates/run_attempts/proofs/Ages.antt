-- A tick, and a packet that comes: what a node has heard then is what the lines tell.
use Rattle.std.specs.Prelude.{ℕ, zero, suc, ◌+◌, ◌-◌, ◌==◌, ◌&&◌, ◌≡◌, ◌≢◌, ◌≤◌, ◌<◌, ◌⊎◌, nat_le, Bool, true, false, List, [], ◌∷◌, map, replicate, slice_index_or, slice_set, Option, None, Some, option_map, if◌then◌else◌}
use Rattle.std.specs.Option.{option_and_then}
use Rattle.std.proofs.Common.{refl, sym, ap, subst, ◌∙◌, inl, inr, arith}
use Rattle.std.proofs.lemmas.List.{get_or-set_other, get_or-set_same, length-map, length-replicate, length-set}
use Rattle.attempt_laws.proofs.Walk.{if_with}
use Rattle.heartbeats.specs.declared.peer.Beat.{Beat}
use Rattle.heartbeats.specs.declared.peer.Peer.{Peer}
use Rattle.heartbeats.specs.Peers.{at_boot, beat_after, heard, older, peer_in}
use Rattle.heartbeats.specs.State.{State}
use Rattle.heartbeats.specs.Views.{ticked as ticked_so}
use Rattle.history.specs.Attempts.{age_of, last_heartbeat}
use Rattle.history.specs.Letters.{Letter, is_letter, letter_of, passes, says}
use Rattle.history.specs.Moment.{Moment}
use Rattle.history.specs.Names as name
use Rattle.history.specs.Names.{Name, same_name}
use Rattle.history.specs.Trace.{delivered, ticked, up}
use Rattle.machine_base.proofs.Puts.{same_or_not}
use Rattle.node_model.specs.Members.{beat_in}
use Rattle.wire.specs.declared.message.Body.{Body}
use Rattle.wire.specs.declared.message.Body.TheVariants as body
use Rattle.run_attempts.specs.Laws.{beat_age_of}
use Rattle.run_attempts.specs.Heard.{AgeSo, BeatsSo, NearSo, PeerSo, beat_of, beat_told, is_beat}

pub if_true : {X : Type 0} (b : Bool) (x y : X) → b ≡ true → (if b then x else y) ≡ x
if_true true x y e = refl
if_true false x y e = absurd (cc)

pub if_false : {X : Type 0} (b : Bool) (x y : X) → b ≡ false → (if b then x else y) ≡ y
if_false true x y e = absurd (cc)
if_false false x y e = refl

pub same_self : (n : ℕ) → (n == n) ≡ true
same_self n = grind arith

pub not_same : (a b : ℕ) → a ≢ b → (a == b) ≡ false
not_same a b ne = grind arith

-- ---- places

none_older : (peers : List (Option Peer)) (i : ℕ) → slice_index_or (map older peers) i None ≡ older (slice_index_or peers i None)
none_older [] i = refl
none_older (p ∷ peers) zero = refl
none_older (p ∷ peers) (suc i) = none_older peers i

pub none_at_boot : (k i : ℕ) → (let xs : List (Option Peer) = replicate k None in slice_index_or xs i None ≡ None)
none_at_boot zero i = refl
none_at_boot (suc k) zero = refl
none_at_boot (suc k) (suc i) = none_at_boot k i

place_apart : (m n : ℕ) → 1 ≤ m → 1 ≤ n → m ≢ n → (m - 1) ≢ (n - 1)
place_apart m n low one ne e = ne (omega (arith, low, one, e))

place_within : (n : ℕ) → 1 ≤ n → n ≤ 32 → n - 1 < 32
place_within n low high = omega (arith, low, high)

-- ---- a tick

age_grows : (a k : ℕ) → (a ≤ 3 → k ≤ a) → (if nat_le 4 a then 4 else a + 1) ≤ 3 → k + 1 ≤ (if nat_le 4 a then 4 else a + 1)
age_grows a k h = if_with (λ z. z ≤ 3 → k + 1 ≤ z) (nat_le 4 a) (nat_le 4 a) 4 (a + 1) refl (λ old few. absurd (too_many few)) (λ young few. omega (arith, few, h (below a few)))
  where
    too_many : 4 ≤ 3 → ⊥
    too_many e = grind arith

    below : (a : ℕ) → a + 1 ≤ 3 → a ≤ 3
    below a e = omega (arith, e)

older_age : (peer : Option Peer) (age : Option ℕ) → AgeSo peer age → AgeSo (older peer) (option_map (λ k. k + 1) age)
older_age None age h = tt
older_age (Some peer) None h = absurd h
older_age (Some peer) (Some k) h = age_grows peer.age k h

near_grows : (a k : ℕ) → a ≤ k → (if nat_le 4 a then 4 else a + 1) ≤ k + 1
near_grows a k h = if_with (λ z. z ≤ k + 1) (nat_le 4 a) (nat_le 4 a) 4 (a + 1) refl (λ old. above a k old h) (λ young. omega (arith, h))
  where
    above : (a k : ℕ) → nat_le 4 a ≡ true → a ≤ k → 4 ≤ k + 1
    above a k old h = grind arith

older_near : (peer : Option Peer) (age : Option ℕ) → NearSo peer age → NearSo (older peer) (option_map (λ k. k + 1) age)
older_near peer None h = tt
older_near None (Some k) h = absurd h
older_near (Some peer) (Some k) h = near_grows peer.age k h

older_beat : (peer : Option Peer) → beat_of (older peer) ≡ beat_of peer
older_beat None = refl
older_beat (Some peer) = refl

peer_ticks : (ms : List Moment) (n m : ℕ) (peer : Option Peer) → PeerSo ms n m peer → PeerSo (ticked n ∷ ms) n m (older peer)
peer_ticks ms n m peer h = record {
  age = subst (λ o. AgeSo (older peer) o) (sym (if_true (n == n) (option_map (λ k. k + 1) (age_of n m ms)) (age_of n m ms) (same_self n))) (older_age peer (age_of n m ms) h.age);
  near = subst (λ o. NearSo (older peer) o) (sym (if_true (n == n) (option_map (λ k. k + 1) (beat_age_of n m ms)) (beat_age_of n m ms) (same_self n))) (older_near peer (beat_age_of n m ms) h.near);
  beat = older_beat peer ∙ h.beat;
}

pub beats_tick : (ms : List Moment) (n configured : ℕ) (s : State) → BeatsSo ms n s → BeatsSo (ticked n ∷ ms) n (ticked_so s configured)
beats_tick ms n configured s h = record {
  me = h.me;
  room = length-map s.peers older ∙ h.room;
  peers = λ m low high. subst (PeerSo (ticked n ∷ ms) n m) (sym (none_older s.peers (m - 1))) (peer_ticks ms n m (peer_in s.peers m) (h.peers m low high));
}

-- ---- a boot

pub beats_boot : (ms : List Moment) (n : ℕ) → BeatsSo (up n ∷ ms) n (at_boot n)
beats_boot ms n = record {
  me = refl;
  room = let none : Option Peer = None in length-replicate 32 none;
  peers = λ m low high. subst (PeerSo (up n ∷ ms) n m) (sym (none_at_boot 32 (m - 1))) (record {
    age = tt;
    near = subst (λ o. NearSo None o) (sym (if_true (n == n) None (beat_age_of n m ms) (same_self n))) tt;
    beat = ap beat_told (sym (if_true (n == n) None (last_heartbeat n m ms) (same_self n)));
  });
}

-- ---- a packet

-- what came to node n, from the node that sent it
pub record Comes (ms : List Moment) (p from n : ℕ) (b : Body) : Type 0 where
  pub letter : Letter
  pub here : letter_of p ms ≡ Some letter
  pub sender : letter.from ≡ from
  pub receiver : letter.to ≡ n
  pub read : says letter.bytes ≡ Some b
  -- it is called a Heartbeat where it is one
  pub called : same_name letter.name name.Heartbeat ≡ is_beat b

and_so : (a b : Bool) → b ≡ true → (a && b) ≡ a
and_so true b h = h
and_so false b h = refl

-- whether a Heartbeat of m has come to node k
came_from : (ms : List Moment) (p from n : ℕ) (b : Body) (m k : ℕ) → Comes ms p from n b → passes (is_letter name.Heartbeat m k) (letter_of p ms) ≡ ((is_beat b && (from == m)) && (n == k))
came_from ms p from n b m k came =
    ap (λ (o : Option Letter). passes (is_letter name.Heartbeat m k) o) came.here
    ∙ (ap (λ x. (x && (came.letter.from == m)) && (came.letter.to == k)) came.called
    ∙ (ap (λ x. (is_beat b && (x == m)) && (came.letter.to == k)) came.sender ∙ ap (λ x. (is_beat b && (from == m)) && (x == k)) came.receiver))

says_of : (ms : List Moment) (p from n : ℕ) (b : Body) → Comes ms p from n b → option_and_then (λ (l : Letter). says l.bytes) (letter_of p ms) ≡ Some b
says_of ms p from n b came = ap (λ (o : Option Letter). option_and_then (λ (l : Letter). says l.bytes) o) came.here ∙ came.read

other_beat : (b : Body) → is_beat b ≡ false → beat_in b ≡ None
other_beat (body.Heartbeat promised session is_one) is = absurd (cc)
other_beat _ is = refl

a_beat : (b : Body) (peer : Option Peer) → is_beat b ≡ true → beat_after (beat_in b) peer ≡ beat_in b
a_beat (body.Heartbeat promised session is_one) peer is = refl
a_beat _ peer is = absurd (cc)

after_none : (peer : Option Peer) → beat_after None peer ≡ beat_of peer
after_none None = refl
after_none (Some peer) = refl

-- the packet is none that tells anew of m
pub peer_stays : (ms : List Moment) (p a b n m : ℕ) (peer : Option Peer) → ((a == m) && (b == n)) ≡ false → passes (is_letter name.Heartbeat m n) (letter_of p ms) ≡ false → PeerSo ms n m peer
    → PeerSo (delivered p a b ∷ ms) n m peer
peer_stays ms p a b n m peer apart other h = record {
  age = subst (λ o. AgeSo peer o) (sym (if_false ((a == m) && (b == n)) (Some 0) (age_of n m ms) apart)) h.age;
  near = subst (λ o. NearSo peer o) (sym (if_false (passes (is_letter name.Heartbeat m n) (letter_of p ms)) (Some 0) (beat_age_of n m ms) other)) h.near;
  beat = h.beat ∙ ap beat_told (sym (if_false (passes (is_letter name.Heartbeat m n) (letter_of p ms)) (option_and_then (λ (l : Letter). says l.bytes) (letter_of p ms)) (last_heartbeat n m ms) other));
}

none_zero : (beat : Option Beat) (o : Option ℕ) → NearSo (Some (record { age = 0; beat = beat })) o
none_zero beat None = tt
none_zero beat (Some k) = omega arith

zero_age : (beat : Option Beat) → AgeSo (Some (record { age = 0; beat = beat })) (Some 0)
zero_age beat few = omega arith

both_self : (a b : ℕ) → ((a == a) && (b == b)) ≡ true
both_self a b = grind arith

-- it is the sender that is heard
peer_heard : (ms : List Moment) (p from n : ℕ) (b : Body) (peer : Option Peer) → Comes ms p from n b → PeerSo ms n from peer
    → PeerSo (delivered p from n ∷ ms) n from (Some (record { age = 0; beat = beat_after (beat_in b) peer }))
peer_heard ms p from n b peer came h = record {
  age = subst (λ o. AgeSo (Some (record { age = 0; beat = beat_after (beat_in b) peer })) o) (sym (if_true ((from == from) && (n == n)) (Some 0) (age_of n from ms) (both_self from n))) (zero_age (beat_after (beat_in b) peer));
  near = none_zero (beat_after (beat_in b) peer) (beat_age_of n from (delivered p from n ∷ ms));
  beat = by_kind (is_beat b) refl;
}
  where
    is : passes (is_letter name.Heartbeat from n) (letter_of p ms) ≡ is_beat b
    is = came_from ms p from n b from n came ∙ (and_so (is_beat b && (from == from)) (n == n) (same_self n) ∙ and_so (is_beat b) (from == from) (same_self from))

    told : Option Body
    told = option_and_then (λ (l : Letter). says l.bytes) (letter_of p ms)

    by_kind : (t : Bool) → is_beat b ≡ t → beat_after (beat_in b) peer ≡ beat_told (if passes (is_letter name.Heartbeat from n) (letter_of p ms) then told else last_heartbeat n from ms)
    by_kind true so =
        a_beat b peer so ∙ (ap beat_told (sym (says_of ms p from n b came)) ∙ ap beat_told (sym (if_true (passes (is_letter name.Heartbeat from n) (letter_of p ms)) told (last_heartbeat n from ms) (is ∙ so))))
    by_kind false so =
        ap (λ o. beat_after o peer) (other_beat b so)
        ∙ (after_none peer ∙ (h.beat ∙ ap beat_told (sym (if_false (passes (is_letter name.Heartbeat from n) (letter_of p ms)) told (last_heartbeat n from ms) (is ∙ so)))))

and_off : (a b c : Bool) → b ≡ false → ((a && b) && c) ≡ false
and_off true b c h = ap (λ x. x && c) h
and_off false b c h = refl

first_off : (a b : Bool) → a ≡ false → (a && b) ≡ false
first_off a b h = ap (λ x. x && b) h

pub beats_hear : (ms : List Moment) (p from n : ℕ) (b : Body) (s : State) → 1 ≤ from → from ≤ 32 → Comes ms p from n b → BeatsSo ms n s → BeatsSo (delivered p from n ∷ ms) n (heard s from (beat_in b))
beats_hear ms p from n b s low high came h =
    let new : Option Peer = Some (record { age = 0; beat = beat_after (beat_in b) (peer_in s.peers from) }) in
    record {
      me = h.me;
      room = length-set s.peers (from - 1) new ∙ h.room;
      peers = by_node new (peer_heard ms p from n b (peer_in s.peers from) came (h.peers from low high));
    }
  where
    by_node : (new : Option Peer) → PeerSo (delivered p from n ∷ ms) n from new → (m : ℕ) → 1 ≤ m → m ≤ 32 → PeerSo (delivered p from n ∷ ms) n m (peer_in (slice_set s.peers (from - 1) new) m)
    by_node new here m one most = go (same_or_not m from)
      where
        go : (m ≡ from) ⊎ (m ≢ from) → PeerSo (delivered p from n ∷ ms) n m (peer_in (slice_set s.peers (from - 1) new) m)
        go (inl e) =
            subst (λ k. PeerSo (delivered p from n ∷ ms) n k (peer_in (slice_set s.peers (from - 1) new) k)) (sym e)
            (subst (PeerSo (delivered p from n ∷ ms) n from) (sym (get_or-set_same s.peers (from - 1) new None (subst (λ z. from - 1 < z) (sym h.room) (place_within from low high)))) here)
        go (inr ne) =
            subst (PeerSo (delivered p from n ∷ ms) n m) (sym (get_or-set_other s.peers (from - 1) (m - 1) new None (place_apart m from one low ne)))
            (peer_stays ms p from n n m (peer_in s.peers m) (first_off (from == m) (n == n) (not_same from m (λ e. ne (sym e))))
            (came_from ms p from n b m n came ∙ and_off (is_beat b) (from == m) (n == n) (not_same from m (λ e. ne (sym e)))) (h.peers m one most))

-- a packet that comes to another node, or is no Heartbeat, tells nothing else of Heartbeats
age_stays : (peer : Option Peer) (t : Bool) (age : Option ℕ) → AgeSo peer age → AgeSo peer (if t then Some 0 else age)
age_stays None true age h = tt
age_stays (Some peer) true age h = λ few. omega arith
age_stays peer false age h = h

pub beats_miss : (ms : List Moment) (p a b n : ℕ) (s : State) → ((m : ℕ) → passes (is_letter name.Heartbeat m n) (letter_of p ms) ≡ false) → BeatsSo ms n s → BeatsSo (delivered p a b ∷ ms) n s
beats_miss ms p a b n s other h = record {
  me = h.me;
  room = h.room;
  peers = λ m one most. record {
    age = age_stays (peer_in s.peers m) ((a == m) && (b == n)) (age_of n m ms) (h.peers m one most).age;
    near = subst (λ o. NearSo (peer_in s.peers m) o) (sym (if_false (passes (is_letter name.Heartbeat m n) (letter_of p ms)) (Some 0) (beat_age_of n m ms) (other m))) (h.peers m one most).near;
    beat = (h.peers m one most).beat
        ∙ ap beat_told (sym (if_false (passes (is_letter name.Heartbeat m n) (letter_of p ms)) (option_and_then (λ (l : Letter). says l.bytes) (letter_of p ms)) (last_heartbeat n m ms) (other m)));
  };
}

-- a Heartbeat that comes to another node
pub none_elsewhere : (ms : List Moment) (p from n : ℕ) (b : Body) (k m : ℕ) → k ≢ n → Comes ms p from n b → passes (is_letter name.Heartbeat m k) (letter_of p ms) ≡ false
none_elsewhere ms p from n b k m ne came = came_from ms p from n b m k came ∙ last_off (is_beat b && (from == m)) (n == k) (not_same n k (λ e. ne (sym e)))
  where
    last_off : (a b : Bool) → b ≡ false → (a && b) ≡ false
    last_off true b h = h
    last_off false b h = refl

-- what is no Heartbeat
pub none_here : (ms : List Moment) (p from n : ℕ) (b : Body) (m k : ℕ) → is_beat b ≡ false → Comes ms p from n b → passes (is_letter name.Heartbeat m k) (letter_of p ms) ≡ false
none_here ms p from n b m k other came = came_from ms p from n b m k came ∙ ap (λ x. (x && (from == m)) && (n == k)) other

-- A boot, a tick, and a packet that comes: what a node keeps of ages then is what the lines tell.
use Rattle.std.specs.Prelude.{ℕ, zero, suc, ◌+◌, ◌-◌, ◌==◌, ◌&&◌, not, ◌≡◌, ◌≢◌, ◌≤◌, ◌<◌, ◌⊎◌, nat_le, Bool, true, false, List, [], ◌∷◌, map, replicate, slice_index_or, slice_set, Option, None, Some, option_map, if◌then◌else◌}
use Rattle.std.proofs.Common.{refl, sym, ap, subst, ◌∙◌, inl, inr, arith}
use Rattle.std.proofs.lemmas.List.{get_or-set_other, get_or-set_same, length-map, length-replicate, length-set}
use Rattle.heartbeats.specs.declared.peer.Beat.{Beat}
use Rattle.heartbeats.specs.declared.peer.Peer.{Peer}
use Rattle.heartbeats.specs.Peers.{at_boot, beat_after, heard, is_near, older, peer_in}
use Rattle.heartbeats.specs.State.{State}
use Rattle.heartbeats.specs.Views.{ticked as ticked_so}
use Rattle.history.specs.Attempts.{is_recent}
use Rattle.history.specs.Moment.{Moment}
use Rattle.history.specs.Trace.{delivered, ticked, up}
use Rattle.machine_base.proofs.Puts.{same_or_not}
use Rattle.run_attempts.proofs.Ages.{if_false, if_true, none_at_boot, not_same, same_self}
use Rattle.run_packets.specs.views.Heard.{AgeIs, BeatsAre, capped}
use Rattle.run_packets.specs.views.Laws.{Account, heard_age_of}

-- ---- ages above 3 are one

four_four : nat_le 4 4 ≡ true
four_four = grind arith

four_three : nat_le 4 3 ≡ false
four_three = grind arith

zero_capped : 0 ≡ capped 0
zero_capped = sym (if_false (nat_le 4 0) 4 0 none)
  where
    none : nat_le 4 0 ≡ false
    none = grind arith

pub cap_next : (k : ℕ) → (if nat_le 4 (capped k) then 4 else capped k + 1) ≡ capped (k + 1)
cap_next k = go (nat_le 4 k) refl
  where
    above : nat_le 4 k ≡ true → nat_le 4 (k + 1) ≡ true
    above old = grind arith

    below : nat_le 4 k ≡ false → k < 4
    below young = grind arith

    reached : nat_le 4 (k + 1) ≡ true → 4 ≤ k + 1
    reached is = grind arith

    by_next : nat_le 4 k ≡ false → (t : Bool) → nat_le 4 (k + 1) ≡ t → k + 1 ≡ capped (k + 1)
    by_next young true is = omega (arith, below young, reached is) ∙ sym (if_true (nat_le 4 (k + 1)) 4 (k + 1) is)
    by_next young false is = sym (if_false (nat_le 4 (k + 1)) 4 (k + 1) is)

    go : (t : Bool) → nat_le 4 k ≡ t → (if nat_le 4 (capped k) then 4 else capped k + 1) ≡ capped (k + 1)
    go true old =
        ap (λ z. if nat_le 4 z then 4 else z + 1) (if_true (nat_le 4 k) 4 k old)
        ∙ (if_true (nat_le 4 4) 4 (4 + 1) four_four ∙ sym (if_true (nat_le 4 (k + 1)) 4 (k + 1) (above old)))
    go false young =
        ap (λ z. if nat_le 4 z then 4 else z + 1) (if_false (nat_le 4 k) 4 k young)
        ∙ (if_false (nat_le 4 k) 4 (k + 1) young ∙ by_next young (nat_le 4 (k + 1)) refl)

cap_three : (k : ℕ) → nat_le (capped k) 3 ≡ nat_le k 3
cap_three k = go (nat_le 4 k) refl
  where
    late : nat_le 4 k ≡ true → nat_le k 3 ≡ false
    late old = grind arith

    go : (t : Bool) → nat_le 4 k ≡ t → nat_le (capped k) 3 ≡ nat_le k 3
    go true old = ap (λ z. nat_le z 3) (if_true (nat_le 4 k) 4 k old) ∙ (four_three ∙ sym (late old))
    go false young = ap (λ z. nat_le z 3) (if_false (nat_le 4 k) 4 k young)

pub near_is : (peer : Option Peer) (age : Option ℕ) → AgeIs peer age → is_near peer ≡ is_recent age
near_is None None h = refl
near_is (Some peer) (Some k) h = ap (λ z. nat_le z 3) h ∙ cap_three k
near_is None (Some k) h = absurd h
near_is (Some peer) None h = absurd h

-- ---- places

none_older : (peers : List (Option Peer)) (i : ℕ) → slice_index_or (map older peers) i None ≡ older (slice_index_or peers i None)
none_older [] i = refl
none_older (p ∷ peers) zero = refl
none_older (p ∷ peers) (suc i) = none_older peers i

place_apart : (m n : ℕ) → 1 ≤ m → 1 ≤ n → m ≢ n → (m - 1) ≢ (n - 1)
place_apart m n low one ne e = ne (omega (arith, low, one, e))

place_within : (n : ℕ) → 1 ≤ n → n ≤ 32 → n - 1 < 32
place_within n low high = omega (arith, low, high)

-- ---- a tick

older_is : (peer : Option Peer) (age : Option ℕ) → AgeIs peer age → AgeIs (older peer) (option_map (λ k. k + 1) age)
older_is None None h = tt
older_is (Some peer) (Some k) h = ap (λ z. if nat_le 4 z then 4 else z + 1) h ∙ cap_next k
older_is None (Some k) h = absurd h
older_is (Some peer) None h = absurd h

peer_ticks : (f : Account) (ms : List Moment) (n m : ℕ) (peer : Option Peer) → AgeIs peer (heard_age_of f n m ms) → AgeIs (older peer) (heard_age_of f n m (ticked n ∷ ms))
peer_ticks f ms n m peer h =
    subst (AgeIs (older peer)) (sym (if_true (n == n) (option_map (λ k. k + 1) (heard_age_of f n m ms)) (heard_age_of f n m ms) (same_self n))) (older_is peer (heard_age_of f n m ms) h)

pub beats_tick : (f : Account) (ms : List Moment) (n configured : ℕ) (s : State) → BeatsAre f ms n s → BeatsAre f (ticked n ∷ ms) n (ticked_so s configured)
beats_tick f ms n configured s h = record {
  me = h.me;
  room = length-map s.peers older ∙ h.room;
  peers = λ m low high.
      subst (λ (o : Option Peer). AgeIs o (heard_age_of f n m (ticked n ∷ ms))) (sym (none_older s.peers (m - 1))) (peer_ticks f ms n m (peer_in s.peers m) (h.peers m low high));
}

-- ---- a boot

pub beats_boot : (f : Account) (ms : List Moment) (n : ℕ) → BeatsAre f (up n ∷ ms) n (at_boot n)
beats_boot f ms n = record {
  me = refl;
  room = let none : Option Peer = None in length-replicate 32 none;
  peers = λ m low high.
      subst (λ (o : Option Peer). AgeIs o (heard_age_of f n m (up n ∷ ms))) (sym (none_at_boot 32 (m - 1)))
      (subst (λ (age : Option ℕ). AgeIs None age) (sym (if_true (n == n) None (heard_age_of f n m ms) (same_self n))) tt);
}

-- ---- a packet

-- the delivery counts for nothing here
pub beats_miss : (f : Account) (ms : List Moment) (p a b n : ℕ) (s : State) → ((m : ℕ) → ((a == m) && (b == n) && not (f ms)) ≡ false) → BeatsAre f ms n s → BeatsAre f (delivered p a b ∷ ms) n s
beats_miss f ms p a b n s apart h = record {
  me = h.me;
  room = h.room;
  peers = λ m low high.
      subst (AgeIs (peer_in s.peers m)) (sym (if_false ((a == m) && (b == n) && not (f ms)) (Some 0) (heard_age_of f n m ms) (apart m))) (h.peers m low high);
}

-- it comes to another node
pub elsewhere : (f : Account) (ms : List Moment) (a b n : ℕ) → n ≢ b → (m : ℕ) → ((a == m) && (b == n) && not (f ms)) ≡ false
elsewhere f ms a b n ne m = middle (a == m) (b == n) (not (f ms)) (not_same b n (λ e. ne (sym e)))
  where
    middle : (x y z : Bool) → y ≡ false → (x && y && z) ≡ false
    middle true y z h = ap (λ t. t && z) h
    middle false y z h = refl

-- it is foreign
pub refused : (f : Account) (ms : List Moment) (a b n : ℕ) → f ms ≡ true → (m : ℕ) → ((a == m) && (b == n) && not (f ms)) ≡ false
refused f ms a b n is m = last (a == m) (b == n) (not (f ms)) (ap not is)
  where
    last : (x y z : Bool) → z ≡ false → (x && y && z) ≡ false
    last true true z h = h
    last true false z h = refl
    last false y z h = refl

-- its sender is heard
pub beats_hear : (f : Account) (ms : List Moment) (p from n : ℕ) (beat : Option Beat) (s : State) → 1 ≤ from → from ≤ 32 → f ms ≡ false → BeatsAre f ms n s → BeatsAre f (delivered p from n ∷ ms) n (heard s from beat)
beats_hear f ms p from n beat s low high known h = record {
  me = h.me;
  room = length-set s.peers (from - 1) new ∙ h.room;
  peers = λ m one most. go m one most (same_or_not m from);
}
  where
    new : Option Peer
    new = Some (record { age = 0; beat = beat_after beat (peer_in s.peers from) })

    all_true : (x y z : Bool) → x ≡ true → y ≡ true → z ≡ true → (x && y && z) ≡ true
    all_true true true z a b c = c
    all_true true false z a b c = b
    all_true false y z a b c = absurd (cc)

    here : AgeIs new (heard_age_of f n from (delivered p from n ∷ ms))
    here =
        subst (AgeIs new)
        (sym (if_true ((from == from) && (n == n) && not (f ms)) (Some 0) (heard_age_of f n from ms) (all_true (from == from) (n == n) (not (f ms)) (same_self from) (same_self n) (ap not known))))
        zero_capped

    first : (x y z : Bool) → x ≡ false → (x && y && z) ≡ false
    first x y z e = ap (λ t. t && y && z) e

    go : (m : ℕ) → 1 ≤ m → m ≤ 32 → (m ≡ from) ⊎ (m ≢ from) → AgeIs (peer_in (slice_set s.peers (from - 1) new) m) (heard_age_of f n m (delivered p from n ∷ ms))
    go m one most (inl e) =
        subst (λ k. AgeIs (peer_in (slice_set s.peers (from - 1) new) k) (heard_age_of f n k (delivered p from n ∷ ms))) (sym e)
        (subst (λ (o : Option Peer). AgeIs o (heard_age_of f n from (delivered p from n ∷ ms)))
        (sym (get_or-set_same s.peers (from - 1) new None (subst (λ z. from - 1 < z) (sym h.room) (place_within from low high)))) here)
    go m one most (inr ne) =
        subst (λ (o : Option Peer). AgeIs o (heard_age_of f n m (delivered p from n ∷ ms))) (sym (get_or-set_other s.peers (from - 1) (m - 1) new None (place_apart m from one low ne)))
        (subst (AgeIs (peer_in s.peers m))
        (sym (if_false ((from == m) && (n == n) && not (f ms)) (Some 0) (heard_age_of f n m ms) (first (from == m) (n == n) (not (f ms)) (not_same from m (λ e. ne (sym e))))))
        (h.peers m one most))

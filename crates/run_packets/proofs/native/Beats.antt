-- Whom a node has heard, and whom it sees: nodes of the header.
use Rattle.std.specs.Prelude.{ℕ, zero, suc, ◌-◌, ◌==◌, ◌&&◌, ◌||◌, not, ◌≡◌, ◌≢◌, ◌≤◌, ◌<◌, ◌⊎◌, Bool, true, List, [], ◌∷◌, map, replicate, slice_index_or, slice_set, Option, None, Some}
use Rattle.std.proofs.Common.{refl, sym, ap, subst, ◌∙◌, inl, inr, arith}
use Rattle.std.proofs.lemmas.List.{get_or-set_other}
use Rattle.cl_base.proofs.SetLemmas.{has_not_above, has_not_zero}
use Rattle.cl_base.specs.Sets.{has}
use Rattle.cmm_attempt.proofs.Basics.{and_cases, false_true, or_cases, same_number}
use Rattle.heartbeats.specs.Peers.{heard, is_near, older, peer_in}
use Rattle.heartbeats.specs.Views.{is_heard, is_in_view, set_where, view_of}
use Rattle.heartbeats.specs.declared.peer.Peer.{Peer}
use Rattle.machine_base.proofs.Puts.{same_or_not}
use Rattle.node_model.specs.Configurations.{configured_at}
use Rattle.node_model.specs.Members.{hearing}
use Rattle.node_model.specs.Ticks.{later}
use Rattle.node_model.specs.declared.cluster.Cluster.{Cluster}
use Rattle.node_model.specs.declared.node.UpNode.{UpNode}
use Rattle.run_attempts.proofs.Ages.{none_at_boot}
use Rattle.refinement.proofs.node_widths.Sets.{nodes_where}
use Rattle.run_attempts.proofs.Sets.{has_where}
use Rattle.wire.specs.declared.message.Body.{Body}
use Rattle.run_packets.specs.native.Named.{InNodes, UpNamed}

-- the peers that were heard are nodes
abbrev pub PeersNamed : Cluster → List (Option Peer) → Type 0
PeersNamed c peers = (m : ℕ) → 1 ≤ m → m ≤ 32 → is_heard (peer_in peers m) ≡ true → has c.nodes m ≡ true

-- ---- a boot

pub boot_named : (c : Cluster) → PeersNamed c (replicate 32 None)
boot_named c m low high is = absurd (false_true (sym (ap is_heard (none_at_boot 32 (m - 1))) ∙ is))

-- ---- a packet

heard_named : (c : Cluster) (peers : List (Option Peer)) (from : ℕ) (new : Option Peer) → 1 ≤ from → has c.nodes from ≡ true → PeersNamed c peers
    → PeersNamed c (slice_set peers (from - 1) new)
heard_named c peers from new one is h m low high heard_so = go (same_or_not m from)
  where
    apart : (m n : ℕ) → 1 ≤ m → 1 ≤ n → m ≢ n → (m - 1) ≢ (n - 1)
    apart m n low one ne e = ne (omega (arith, low, one, e))

    go : (m ≡ from) ⊎ (m ≢ from) → has c.nodes m ≡ true
    go (inl e) = subst (λ k. has c.nodes k ≡ true) (sym e) is
    go (inr ne) = h m low high (sym (ap is_heard (get_or-set_other peers (from - 1) (m - 1) new None (apart m from low one ne))) ∙ heard_so)

-- a number that a set has is 1 at least
pub some_low : (set m : ℕ) → has set m ≡ true → 1 ≤ m
some_low set zero is = absurd (false_true (sym (has_not_zero set) ∙ is))
some_low set (suc m) is = omega arith

pub hearing_named : (c : Cluster) (n : ℕ) (x : UpNode) (from : ℕ) (b : Body) → has c.nodes from ≡ true → UpNamed c n x → UpNamed c n (hearing x from b)
hearing_named c n x from b is h = record {
  node = h.node;
  attached_known = h.attached_known;
  members_so = h.members_so;
  attempt_so = h.attempt_so;
  me_so = h.me_so;
  peers_so = heard_named c x.beats.peers from _ (some_low c.nodes from is) is h.peers_so;
  view_so = h.view_so;
}

-- ---- a tick

none_older : (peers : List (Option Peer)) (i : ℕ) → slice_index_or (map older peers) i None ≡ older (slice_index_or peers i None)
none_older [] i = refl
none_older (p ∷ peers) zero = refl
none_older (p ∷ peers) (suc i) = none_older peers i

older_heard : (o : Option Peer) → is_heard (older o) ≡ is_heard o
older_heard None = refl
older_heard (Some peer) = refl

older_named : (c : Cluster) (peers : List (Option Peer)) → PeersNamed c peers → PeersNamed c (map older peers)
older_named c peers h m low high is = h m low high (sym (ap is_heard (none_older peers (m - 1)) ∙ older_heard (peer_in peers m)) ∙ is)

near_heard : (o : Option Peer) → is_near o ≡ true → is_heard o ≡ true
near_heard None is = absurd (false_true is)
near_heard (Some peer) is = refl

seen_named : (c : Cluster) (me : ℕ) (peers : List (Option Peer)) (configured m : ℕ) → has c.nodes me ≡ true → PeersNamed c peers → 1 ≤ m → m ≤ 32
    → is_in_view me peers configured m ≡ true → has c.nodes m ≡ true
seen_named c me peers configured m self h low high is = go (or_cases (m == me) (is_near (peer_in peers m) && (not (has configured me) || has configured m)) is)
  where
    go : ((m == me) ≡ true) ⊎ ((is_near (peer_in peers m) && (not (has configured me) || has configured m)) ≡ true) → has c.nodes m ≡ true
    go (inl same) = subst (λ k. has c.nodes k ≡ true) (sym (same_number m me same)) self
    go (inr near) = h m low high (near_heard (peer_in peers m) (and_cases (is_near (peer_in peers m)) (not (has configured me) || has configured m) near).0)

view_named : (c : Cluster) (me : ℕ) (peers : List (Option Peer)) (configured : ℕ) → has c.nodes me ≡ true → PeersNamed c peers → InNodes c (view_of me peers configured)
unfolding view_of
view_named c me peers configured self h m is = go (low_or_high m)
  where
    test : ℕ → Bool
    test = is_in_view me peers configured

    low_or_high : (m : ℕ) → (m ≤ 32) ⊎ (32 < m)
    low_or_high m = grind arith

    go : (m ≤ 32) ⊎ (32 < m) → has c.nodes m ≡ true
    go (inl high) =
        let low : 1 ≤ m = some_low (set_where test 32) m is in
        seen_named c me peers configured m self h low high (sym (has_where test 32 m (omega arith) low high) ∙ is)
    go (inr above) = absurd (false_true (sym (has_not_above (set_where test 32) 32 m (nodes_where test 32 (omega arith)) above) ∙ is))

pub later_named : (c : Cluster) (n : ℕ) (x : UpNode) → UpNamed c n x → UpNamed c n (later c x)
later_named c n x h =
    let peers : PeersNamed c (map older x.beats.peers) = older_named c x.beats.peers h.peers_so in
    record {
      node = h.node;
      attached_known = h.attached_known;
      members_so = h.members_so;
      attempt_so = h.attempt_so;
      me_so = h.me_so;
      peers_so = peers;
      view_so = view_named c x.beats.me (map older x.beats.peers) (configured_at c x) h.me_so peers;
    }

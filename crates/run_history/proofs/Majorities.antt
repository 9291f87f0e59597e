-- A majority in the machine is one of the table of votes.
use Rattle.std.specs.Prelude.{ℕ, zero, suc, ◌+◌, ◌*◌, ◌≡◌, ◌≤◌, ◌<◌, ◌==◌, ◌&&◌, nat_le, Bool, true, false, if◌then◌else◌}
use Rattle.std.proofs.Common.{refl, ap, subst, ◌∙◌, arith}
use Rattle.attempt_laws.specs.Machine.{is_member}
use Rattle.cl_base.specs.Sets.{has}
use Rattle.membership_machine.specs.Votes.{IsMajority, Setting, weight}
use Rattle.quorum_votes.specs.Quorum as quorum
use Rattle.quorum_votes.specs.Sums.{sum_to}
use Rattle.quorum_votes.specs.Tables.{VoteTable}
use Rattle.quorum_votes.specs.Votes.{device_share, device_votes_of, node_share, total_of, vote_of}
use Rattle.refinement.specs.Ties.{votes_of}

none_at_zero : (b : Bool) (x : ℕ) → x ≡ 0 → (if b then x else zero) ≡ 0
none_at_zero true x h = h
none_at_zero false x h = refl

-- what is chosen among the numbers from 0 to k weighs the sum from 1 to k, where 0 weighs nothing
weighs : (f : ℕ → ℕ) (chosen : ℕ → Bool) (g : ℕ → ℕ) → f 0 ≡ 0 → (k : ℕ) → ((n : ℕ) → 1 ≤ n → n ≤ k → (if chosen n then f n else zero) ≡ g n)
    → weight f chosen (suc k) ≡ sum_to g k
unfolding sum_to
weighs f chosen g none zero each = ap (λ x. 0 + x) (none_at_zero (chosen 0) (f 0) none)
weighs f chosen g none (suc k) each =
    rw (weighs f chosen g none k (λ n low high. each n low (omega arith)), each (suc k) (omega arith) (omega arith)) refl

chosen_of : (b c : Bool) (x y : ℕ) → b ≡ c → x ≡ y → (if b then x else zero) ≡ (if c then y else 0)
chosen_of b true x y h e = rw h e
chosen_of b false x y h e = rw h refl

within : (most set n : ℕ) → n ≤ most → (nat_le n most && has set n) ≡ has set n
within most set n h = grind arith

-- from number 1 on
numbered : (f : ℕ → ℕ) (n : ℕ) → 1 ≤ n → (if n == 0 then 0 else f n) ≡ f n
numbered f n low = by_test (n == 0) (not_zero n low)
  where
    not_zero : (k : ℕ) → 1 ≤ k → (k == 0) ≡ false
    not_zero k l = grind arith

    by_test : (b : Bool) → b ≡ false → (if b then 0 else f n) ≡ f n
    by_test true e = absurd (no_truth e)
      where
        no_truth : true ≡ false → ⊥
        no_truth h = cc
    by_test false e = refl

nodes_weigh : (t : VoteTable) (members : ℕ) (chosen : ℕ → Bool) → ((m : ℕ) → chosen m ≡ is_member members m) → weight (votes_of t).of_node chosen 33 ≡ sum_to (node_share t members) 32
nodes_weigh t members chosen same =
    weighs (votes_of t).of_node chosen (node_share t members) refl 32
    (λ n low high. chosen_of (chosen n) (has members n) ((votes_of t).of_node n) (vote_of t n) (same n ∙ within 32 members n high) (numbered (vote_of t) n low))

devices_weigh : (t : VoteTable) (held : ℕ) (chosen : ℕ → Bool) → ((d : ℕ) → chosen d ≡ has held d) → weight (votes_of t).of_device chosen 17 ≡ sum_to (device_share t held) 16
devices_weigh t held chosen same =
    weighs (votes_of t).of_device chosen (device_share t held) refl 16
    (λ d low high. chosen_of (chosen d) (has held d) ((votes_of t).of_device d) (device_votes_of t d) (same d) (numbered (device_votes_of t) d low))

total_is : (t : VoteTable) → weight (votes_of t).of_node (λ _. true) 33 + weight (votes_of t).of_device (λ _. true) 17 ≡ total_of t
total_is t =
    let nodes : weight (votes_of t).of_node (λ _. true) 33 ≡ sum_to (vote_of t) 32 = weighs (votes_of t).of_node (λ _. true) (vote_of t) refl 32 (λ n low high. numbered (vote_of t) n low) in
    let devices : weight (votes_of t).of_device (λ _. true) 17 ≡ sum_to (device_votes_of t) 16 =
    weighs (votes_of t).of_device (λ _. true) (device_votes_of t) refl 16 (λ d low high. numbered (device_votes_of t) d low) in
    rw (nodes, devices) refl

pub majority_of : (S : Setting) (t : VoteTable) (members held : ℕ) (chosen with_devices : ℕ → Bool) → S.nodes ≡ 33 → S.devices ≡ 17 → ((m : ℕ) → chosen m ≡ is_member members m) → ((d : ℕ) → with_devices d ≡ has held d)
    → IsMajority S (votes_of t) chosen with_devices → quorum.IsMajority t members held
majority_of S t members held chosen with_devices nodes devices same held_so h =
    subst (λ k. k < 2 * (sum_to (node_share t members) 32 + sum_to (device_share t held) 16)) (total_is t)
    (subst (λ k. weight (votes_of t).of_node (λ _. true) 33 + weight (votes_of t).of_device (λ _. true) 17 < 2 * (k + sum_to (device_share t held) 16)) (nodes_weigh t members chosen same)
    (subst (λ k. weight (votes_of t).of_node (λ _. true) 33 + weight (votes_of t).of_device (λ _. true) 17 < 2 * (weight (votes_of t).of_node chosen 33 + k)) (devices_weigh t held with_devices held_so)
    (by_numbers S.nodes S.devices nodes devices h.more_than_half)))
  where
    by_numbers : (a b : ℕ) → a ≡ 33 → b ≡ 17
        → weight (votes_of t).of_node (λ _. true) a + weight (votes_of t).of_device (λ _. true) b < 2 * (weight (votes_of t).of_node chosen a + weight (votes_of t).of_device with_devices b)
        → weight (votes_of t).of_node (λ _. true) 33 + weight (votes_of t).of_device (λ _. true) 17 < 2 * (weight (votes_of t).of_node chosen 33 + weight (votes_of t).of_device with_devices 17)
    by_numbers a b e f k =
        subst (λ z. weight (votes_of t).of_node (λ _. true) 33 + weight (votes_of t).of_device (λ _. true) z < 2 * (weight (votes_of t).of_node chosen 33 + weight (votes_of t).of_device with_devices z)) f
        (subst (λ z. weight (votes_of t).of_node (λ _. true) z + weight (votes_of t).of_device (λ _. true) b < 2 * (weight (votes_of t).of_node chosen z + weight (votes_of t).of_device with_devices b)) e k)

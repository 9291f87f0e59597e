-- The machine counts as `quorum_votes` does.
use Rattle.std.proofs.Common.{◌≡◌, ℕ, ◌+◌, ◌*◌, ◌<◌, ◌≤◌, ◌⊎◌, inl, inr, List, [], ◌∷◌, zero, suc, refl, sym, ap, subst, ◌∙◌, arith}
use Rattle.std.specs.Prelude.{All, fold, ◌==◌, ◌&&◌, ◌||◌, nat_le, Bool, true, false, Option, Some, None, unwrap_or, take, if◌then◌else◌}
use Rattle.std.proofs.lemmas.List.Elements.{All-nil, All-cons, All-head, All-tail}
use Rattle.cl_base.specs.Sets.{has, set_with}
use Rattle.cl_base.proofs.SetLemmas.{has_with, or_bit_value, none_of_zero}
use Rattle.membership_machine.specs.Records.{Saved}
use Rattle.membership_machine.specs.Votes.{Votes, Setting, IsMajority, weight, total}
use Rattle.membership_machine.specs.Events.{IsCounted}
use Rattle.quorum_votes.specs.Sums.{sum_to}
use Rattle.quorum_votes.specs.Tables.{VoteTable}
use Rattle.quorum_votes.specs.Votes.{vote_of, device_votes_of, node_share, device_share, total_of}
use Rattle.quorum_votes.specs.Quorum as quorum
use Rattle.cmm_attempt.specs.declared.counting.BothVotes.{BothVotes}
use Rattle.attempt_laws.specs.Laws.{IsMajorityPending, HasVotes, is_held_in, is_listed_in, CountsHeld}
use Rattle.cmm_attempt.specs.Seizings.{is_held_by}
use Rattle.attempt_laws.specs.Machine.{is_member, AreVotes, AreVotesOf}
use Rattle.cmm_attempt.proofs.Basics.{false_true, or_cases, either_of, same_number}
use Rattle.attempt_laws.proofs.Numbered.{IsNumbered}
use Rattle.cmm_attempt.specs.declared.seizing.Seizing.{Seizing}

none_at_zero : (b : Bool) (x : ℕ) → x ≡ 0 → (if b then x else zero) ≡ 0
none_at_zero true x h = h
none_at_zero false x h = refl

-- what is chosen among the numbers from 0 to k weighs the sum from 1 to k, where 0 weighs nothing
weighs : (f : ℕ → ℕ) (chosen : ℕ → Bool) (g : ℕ → ℕ) → f 0 ≡ 0 → (k : ℕ) → ((n : ℕ) → 1 ≤ n → n ≤ k → (if chosen n then f n else zero) ≡ g n)
    → weight f chosen (suc k) ≡ sum_to g k
unfolding sum_to
weighs f chosen g none zero each = ap (λ x. 0 + x) (none_at_zero (chosen 0) (f 0) none)
weighs f chosen g none (suc k) each =
    rw (weighs f chosen g none k (λ n low high. each n low (omega arith)), each (suc k) (omega arith) (omega arith)) refl

chosen_of : (b c : Bool) (x y : ℕ) → b ≡ c → x ≡ y → (if b then x else zero) ≡ (if c then y else 0)
chosen_of b true x y h e = rw h e
chosen_of b false x y h e = rw h refl

within : (most set n : ℕ) → n ≤ most → (nat_le n most && has set n) ≡ has set n
within most set n h = grind arith

share_of_node : (v : Votes) (t : VoteTable) (members n : ℕ) (chosen : ℕ → Bool) → AreVotes v t → ((m : ℕ) → chosen m ≡ is_member members m) → 1 ≤ n → n ≤ 32
    → (if chosen n then v.of_node n else zero) ≡ node_share t members n
share_of_node v t members n chosen votes same low high =
    chosen_of (chosen n) (has members n) (v.of_node n) (vote_of t n) (same n ∙ within 32 members n high) (votes.node n low)

-- what is chosen weighs at least the sum of what weighs no more, place by place
weighs_more : (f : ℕ → ℕ) (chosen : ℕ → Bool) (g : ℕ → ℕ) → (k : ℕ) → ((n : ℕ) → 1 ≤ n → n ≤ k → g n ≤ (if chosen n then f n else zero))
    → sum_to g k ≤ weight f chosen (suc k)
unfolding sum_to
weighs_more f chosen g zero each = omega arith
weighs_more f chosen g (suc k) each =
    let rest : sum_to g k ≤ weight f chosen (suc k) = weighs_more f chosen g k (λ n low high. each n low (omega arith)) in
    let last : g (suc k) ≤ (if chosen (suc k) then f (suc k) else zero) = each (suc k) (omega arith) (omega arith) in
    omega arith

share_at_most : (b c : Bool) (x y : ℕ) → (b ≡ true → c ≡ true) → x ≡ y → (if b then x else 0) ≤ (if c then y else zero)
share_at_most true c x y f e = rw (f refl, e) (omega arith)
share_at_most false c x y f e = omega arith

nodes_weigh : (v : Votes) (t : VoteTable) (members : ℕ) (chosen : ℕ → Bool) → AreVotes v t → ((m : ℕ) → chosen m ≡ is_member members m)
    → weight v.of_node chosen 33 ≡ sum_to (node_share t members) 32
nodes_weigh v t members chosen votes same =
    weighs v.of_node chosen (node_share t members) votes.no_node 32 (λ n low high. share_of_node v t members n chosen votes same low high)

devices_weigh : (v : Votes) (t : VoteTable) (devices : ℕ) (held_now : ℕ → Bool) → AreVotes v t → ((d : ℕ) → has devices d ≡ true → held_now d ≡ true)
    → sum_to (device_share t devices) 16 ≤ weight v.of_device held_now 17
devices_weigh v t devices held_now votes more =
    weighs_more v.of_device held_now (device_share t devices) 16
    (λ d low high. share_at_most (has devices d) (held_now d) (device_votes_of t d) (v.of_device d) (more d) (sym (votes.device d low)))

total_is : (v : Votes) (t : VoteTable) → AreVotes v t → weight v.of_node (λ _. true) 33 + weight v.of_device (λ _. true) 17 ≡ total_of t
total_is v t votes =
    let nodes : weight v.of_node (λ _. true) 33 ≡ sum_to (vote_of t) 32 = weighs v.of_node (λ _. true) (vote_of t) votes.no_node 32 (λ n low high. votes.node n low) in
    let all_devices : weight v.of_device (λ _. true) 17 ≡ sum_to (device_votes_of t) 16 =
    weighs v.of_device (λ _. true) (device_votes_of t) votes.no_device 16 (λ d low high. votes.device d low) in
    rw (nodes, all_devices) refl

more_still : (all a b c d : ℕ) → all < 2 * (a + b) → c ≡ a → b ≤ d → all < 2 * (c + d)
more_still all a b c d h e le = omega arith

is_majority : (S : Setting) (v : Votes) (t : VoteTable) (members devices : ℕ) (chosen held_now : ℕ → Bool) → S.nodes ≡ 33 → S.devices ≡ 17 → AreVotes v t
    → ((m : ℕ) → chosen m ≡ is_member members m) → ((d : ℕ) → has devices d ≡ true → held_now d ≡ true) → quorum.IsMajority t members devices
    → IsMajority S v chosen held_now
is_majority S v t members devices chosen held_now nodes numbers votes same more enough =
    let all : total S v ≡ total_of t = rw (nodes, numbers) (total_is v t votes) in
    record {
      more_than_half =
          rw (all, nodes, numbers)
          (more_still (total_of t) (sum_to (node_share t members) 32) (sum_to (device_share t devices) 16) (weight v.of_node chosen 33) (weight v.of_device held_now 17) enough
          (nodes_weigh v t members chosen votes same) (devices_weigh v t devices held_now votes more));
    }

under_pending : (o : Option VoteTable) (committed : VoteTable) (members devices : ℕ) → quorum.IsMajority committed members devices → IsMajorityPending o members devices
    → quorum.IsMajority (unwrap_or o committed) members devices
under_pending None committed members devices h k = h
under_pending (Some v) committed members devices h k = k

is_counted_by : (S : Setting) (r : Saved) (both : BothVotes) (members devices : ℕ) (chosen held_now : ℕ → Bool) → AreVotesOf S r both
    → ((m : ℕ) → chosen m ≡ is_member members m) → ((d : ℕ) → has devices d ≡ true → held_now d ≡ true) → HasVotes (Some both) members devices
    → IsCounted S r chosen held_now
is_counted_by S r both members devices chosen held_now votes same more enough = record {
  under_committed =
      is_majority S (S.config (take r.committed r.entries)) both.committed members devices chosen held_now votes.nodes votes.devices votes.committed same more enough.0;
  under_pending =
      is_majority S (S.config r.entries) (unwrap_or both.pending both.committed) members devices chosen held_now votes.nodes votes.devices votes.pending same more
      (under_pending both.pending both.committed members devices enough.0 enough.1);
}

-- The devices that were counted are held.

has_with_it : (set n d : ℕ) → 1 ≤ n → n ≤ 16 → has (set_with set n) d ≡ true → (n ≡ d) ⊎ (has set d ≡ true)
has_with_it set n d low high h = or_same d n (has set d) (sym (has_with set n low (omega arith) d) ∙ (ap (λ s. has s d) (or_bit_value set n (omega arith)) ∙ h))
  where
    or_same : (d n : ℕ) (b : Bool) → ((d == n) || b) ≡ true → (n ≡ d) ⊎ (b ≡ true)
    or_same d n b h = grind arith

held_with : (set d : ℕ) (e : Seizing) (b : Bool) → is_held_by e.result ≡ b → IsNumbered e → has (if b then set_with set e.attached.device else set) d ≡ true
    → (has set d ≡ true) ⊎ (((e.attached.device == d) && is_held_by e.result) ≡ true)
held_with set d e true is numbered h =
    elim (has_with_it set e.attached.device d numbered.0 numbered.1 h) [
      | inl k ↦ inr (held_here e.attached.device d (is_held_by e.result) k is)
      | inr k ↦ inl k
    ]
  where
    held_here : (n d : ℕ) (b : Bool) → n ≡ d → b ≡ true → ((n == d) && b) ≡ true
    held_here n d b e h = grind arith
held_with set d e false is numbered h = inl h

first_or : (a b : Bool) → a ≡ true → (a || b) ≡ true
first_or true b h = refl
first_or false b h = absurd (false_true h)

second_or : (a b : Bool) → b ≡ true → (a || b) ≡ true
second_or true b h = refl
second_or false b h = h

has_held : (es : List Seizing) (set d : ℕ) → All IsNumbered es
    → has (fold (λ held_now e. if is_held_by e.result then set_with held_now e.attached.device else held_now) set es) d ≡ true
    → (has set d ≡ true) ⊎ (is_held_in es d ≡ true)
has_held [] set d numbered h = inl h
has_held (e ∷ es) set d numbered h =
    let next : ℕ = if is_held_by e.result then set_with set e.attached.device else set in
    let here : Bool = (e.attached.device == d) && is_held_by e.result in
    either_of (has_held es next d (All-tail IsNumbered e es numbered) h)
    (λ k. either_of (held_with set d e (is_held_by e.result) refl (All-head IsNumbered e es numbered) k) (λ x. inl x) (λ x. inr (first_or here (is_held_in es d) x)))
    (λ k. inr (second_or here (is_held_in es d) k))

numbered_one : (es : List Seizing) (d : ℕ) → All IsNumbered es → is_listed_in es d ≡ true → (1 ≤ d) × (d ≤ 16)
numbered_one [] d all h = absurd (false_true h)
numbered_one (e ∷ es) d all h =
    either_of (or_cases (e.attached.device == d) (is_listed_in es d) h)
    (λ k. subst (λ n. (1 ≤ n) × (n ≤ 16)) (same_number e.attached.device d k) (All-head IsNumbered e es all))
    (λ k. numbered_one es d (All-tail IsNumbered e es all) k)

itself : (n : ℕ) (b : Bool) → ((n == n) || b) ≡ true
itself n b = grind arith

numbered_before : (es now : List Seizing) → All IsNumbered now → ((d : ℕ) → is_listed_in es d ≡ true → is_listed_in now d ≡ true) → All IsNumbered es
numbered_before [] now all listed = All-nil IsNumbered
numbered_before (e ∷ es) now all listed =
    All-cons IsNumbered e es (numbered_one now e.attached.device all (listed e.attached.device (itself e.attached.device (is_listed_in es e.attached.device))))
    (numbered_before es now all (λ d h. listed d (second_or (e.attached.device == d) (is_listed_in es d) h)))

held_if_counted : (counted : ℕ) (devices : List Seizing) → CountsHeld counted devices → All IsNumbered devices → (d : ℕ) → has counted d ≡ true → is_held_in devices d ≡ true
held_if_counted counted devices c all d h =
    either_of (has_held c.before 0 d (numbered_before c.before devices all c.listed) (ap (λ s. has s d) (sym c.set) ∙ h))
    (λ k. absurd (false_true (sym (none_of_zero d) ∙ k))) (λ k. c.still d k)

-- the members and the devices that are held are counted
pub counted_with_held : (S : Setting) (r : Saved) (both : BothVotes) (members counted : ℕ) (devices : List Seizing) (chosen : ℕ → Bool) → AreVotesOf S r both
    → ((m : ℕ) → chosen m ≡ is_member members m) → CountsHeld counted devices → All IsNumbered devices → HasVotes (Some both) members counted
    → IsCounted S r chosen (is_held_in devices)
counted_with_held S r both members counted devices chosen votes same c all enough =
    is_counted_by S r both members counted chosen (is_held_in devices) votes same (held_if_counted counted devices c all) enough

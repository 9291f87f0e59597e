-- A row of places that is filled from the front.
use Rattle.std.proofs.Common.{◌≡◌, ◌≤◌, ◌⊎◌, inl, inr, get_or, ℕ, zero, suc, ◌+◌, ◌-◌, ◌<◌, List, [], ◌∷◌, ◌++◌, length, set, replicate, refl, arith, add-one, append_assoc}
use Rattle.std.proofs.lemmas.Bool.{cases_lt}
use Rattle.std.proofs.Math.Seq.{set-append_seam, get_or-append_seam}
use Rattle.std.proofs.lemmas.List.{length-append, get_or_append_left}
use Rattle.quorum_votes.specs.declared.state.NodeState.TheVariants.{Unconfigured}
use Rattle.quorum_votes.specs.Votes.{first_node, first_nodes}

-- the next place is filled
pub place_next : {X : Type 0} (front : List X) (i rest : ℕ) (old new : X) → length front ≡ i → set (front ++ replicate (rest + 1) old) i new ≡ (front ++ new ∷ []) ++ replicate rest old
place_next front i rest old new at = rw (add-one, ← at, set-append_seam, append_assoc) refl

pub filled : {X : Type 0} (width i : ℕ) (old new : X) (front next places : List X) → i < width → length front ≡ i → next ≡ front ++ new ∷ []
    → places ≡ front ++ replicate (width - i) old → set places i new ≡ next ++ replicate (width - (i + 1)) old
filled width i old new front next places lt at more are =
    let left : width - i ≡ width - (i + 1) + 1 = omega arith in
    rw (are, more, left) (place_next front i (width - (i + 1)) old new at)

-- the first nodes, one more
pub first_nodes_size : (configured k : ℕ) → length (first_nodes configured k) ≡ k
first_nodes_size configured zero = refl
first_nodes_size configured (suc k) = omega (arith, length-append (first_nodes configured k) (first_node configured (suc k) ∷ []), first_nodes_size configured k)

pub first_nodes_more : (configured k : ℕ) → first_nodes configured (k + 1) ≡ first_nodes configured k ++ first_node configured (k + 1) ∷ []
first_nodes_more configured k = rw add-one refl

last_or_before : (configured k n : ℕ) → 1 ≤ n → n ≤ suc k → (n ≤ k → get_or (first_nodes configured k) (n - 1) Unconfigured ≡ first_node configured n) → (k < n) ⊎ (n ≤ k)
    → get_or (first_nodes configured (suc k)) (n - 1) Unconfigured ≡ first_node configured n
last_or_before configured k n low high before (inr le) = rw (get_or_append_left (first_nodes configured k) (first_node configured (suc k) ∷ []) Unconfigured (n - 1) (omega (arith, first_nodes_size configured k))) (before le)
last_or_before configured k n low high before (inl lt) =
    let last : n ≡ suc k = omega arith in
    let at : n - 1 ≡ length (first_nodes configured k) = omega (arith, first_nodes_size configured k) in
    rw (at, last) (get_or-append_seam (first_nodes configured k) (first_node configured (suc k)) [] Unconfigured)

pub first_nodes_at : (configured k n : ℕ) → 1 ≤ n → n ≤ k → get_or (first_nodes configured k) (n - 1) Unconfigured ≡ first_node configured n
first_nodes_at configured zero n low high = absurd (omega arith)
first_nodes_at configured (suc k) n low high = last_or_before configured k n low high (first_nodes_at configured k n low) (cases_lt k n)

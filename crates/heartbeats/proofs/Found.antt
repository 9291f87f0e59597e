-- Of tests over the numbers 1 to k.
use Rattle.std.proofs.Common.{◌≡◌, ℕ, ◌+◌, ◌++◌, ◌<◌, ◌≤◌, ◌||◌, ◌⊎◌, inl, inr, Bool, true, false, suc, zero, refl, sym, ap, ◌∙◌, subst, arith, List, Option, Some, map, length, take, drop}
use Rattle.std.proofs.lemmas.List.{length-map}
use Rattle.std.proofs.Math.Seq.{take-append_seam}
use Rattle.std.proofs.lemmas.Bool.Decides.{leb_tells}
use Rattle.heartbeats.specs.declared.peer.Peer.{Peer}
use Rattle.heartbeats.specs.State.{State}
use Rattle.heartbeats.specs.Peers.{older}
use Rattle.heartbeats.specs.Views.{stable_after, ticked, view_of}
use Rattle.heartbeats.specs.Due.{some_to}

-- a number up to k that passes tells that some does
pub some_there : (test : ℕ → Bool) (k n : ℕ) → 1 ≤ n → n ≤ k → test n ≡ true → some_to test k ≡ true
some_there test zero n low high there = absurd (omega arith)
some_there test (suc k) n low high there = next (leb_tells n k) (λ le. some_there test k n low le there)
  where
    last : n ≡ suc k → test (suc k) ≡ true
    last e = subst (λ z. test z ≡ true) e there

    either : (b : Bool) → (b || true) ≡ true
    either true = refl
    either false = refl

    next : {t : Bool} → (t ≡ true) × (n ≤ k) ⊎ (t ≡ false) × (k < n) → (n ≤ k → some_to test k ≡ true) → (some_to test k || test (suc k)) ≡ true
    next (inl (_, le)) earlier = rw (earlier le) refl
    next (inr (_, lt)) earlier = rw (last (omega arith)) (either (some_to test k))

pub found_at : (test : ℕ → Bool) (b : Bool) (n : ℕ) → n < 32 → b ≡ test (n + 1) → b ≡ true → true ≡ some_to test 32
found_at test b n lt is holds = sym (some_there test 32 (n + 1) (omega arith) (omega arith) (sym is ∙ holds))

pub tick_done : (s : State) (configured : ℕ) (peers : List (Option Peer)) (view stable : ℕ) → peers ≡ map older s.peers → view ≡ view_of s.me peers configured → stable ≡ stable_after s.view s.stable view
    → (let after : State = record { me = s.me; peers = peers; view = Some view; stable = stable; wait = s.wait } in after ≡ ticked s configured)
tick_done s configured peers view stable p v t = rw (t, v, p) refl

pub none_found : (test : ℕ → Bool) (n : ℕ) → n ≡ 32 → some_to test n ≡ false → false ≡ some_to test 32
none_found test n last none = sym (subst (λ k. some_to test k ≡ false) last none)

-- a slice of all of them is written back
pub whole_back : (n : ℕ) (xs ys : List (Option Peer)) → n ≡ length xs → ys ≡ map older xs → take n (ys ++ drop (length ys) xs) ≡ map older xs
whole_back n xs ys is aged =
    let long : n ≡ length ys = is ∙ sym (ap length aged ∙ length-map xs older) in
    subst (λ k. take k (ys ++ drop (length ys) xs) ≡ map older xs) (sym long) (take-append_seam ys (drop (length ys) xs) ∙ aged)

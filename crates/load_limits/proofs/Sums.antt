-- A sum that stays at its greatest value, one factor after the other.
use Rattle.std.proofs.Common.{◌≡◌, ℕ, ◌+◌, ◌-◌, ◌^◌, ◌<◌, min, List, length, take, get_or, arith}
use Rattle.std.specs.List.{sum_by}
use Rattle.std.proofs.lemmas.List.Sums.{sum_by_more}
use Rattle.load_limits.specs.declared.limits.Factor.{Factor}
use Rattle.load_limits.specs.Loads.{share, load}

capped : (s f : ℕ) → min (min (min s (2 ^ 63 - 1) + f) (2 ^ 64 - 1)) (2 ^ 63 - 1) ≡ min (s + f) (2 ^ 63 - 1)
capped s f = omega arith

pub load_more : (name : List ℕ) (factors : List Factor) (i f sofar : ℕ) (d : Factor) → i < length factors → sofar ≡ load name (take i factors) → f ≡ share name (get_or factors i d)
    → min (min (sofar + f) (2 ^ 64 - 1)) (2 ^ 63 - 1) ≡ load name (take (i + 1) factors)
unfolding load
load_more name factors i f sofar d lt is adds = rw (is, adds, sum_by_more (share name) factors i d lt) (capped (sum_by (share name) (take i factors)) (share name (get_or factors i d)))

-- A node that comes up.
use Rattle.std.proofs.Common.{◌≡◌, ℕ, refl}
use Rattle.cmm_member.specs.Records.{NodeRecord}
use Rattle.cmm_member.specs.Nodes.{DownState, NodeState, booted}

pub booted_as : (d : DownState) (me first : ℕ) (k r : NodeRecord) (session joined : ℕ) → (let inside : DownState = record { me = me; first_valid = first } in inside ≡ d) → k ≡ r → session ≡ 0 → joined ≡ 0
    → (let s : NodeState = record { me = me; first_valid = first; saved = k; session = session; joined = joined } in s ≡ booted d r)
booted_as d me first k r session joined view same zero none = rw (← view, same, zero, none) refl

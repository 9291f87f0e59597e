-- A request to seize in the node's session.
use Rattle.std.proofs.Common.{◌≡◌, ℕ, ◌==◌, nat_le, not, Bool, true, false, List, Option, Result, refl, subst, sym, ◌∙◌, arith}
use Rattle.cl_base.specs.Seizings.{SeizeResult}
use Rattle.device_queue.specs.Queue.{kept_of}
use Rattle.seize.specs.declared.kind.SeizeKind.{SeizeKind}
use Rattle.node_model.specs.declared.cluster.Cluster.{Cluster}
use Rattle.node_model.specs.declared.node.UpNode.{UpNode}
use Rattle.node_model.specs.declared.output.Output.{Output}
use Rattle.node_model.specs.declared.stop.Stop.{Stop}
use Rattle.node_model.specs.Members.{on_request, on_seizing}
use Rattle.node_model.specs.Plans.{Gives, Plan}
use Rattle.node_model.specs.Seats.{session_of}
use Rattle.node_model.specs.Left.{left_so}

some_of : (n : ℕ) → (n == 0) ≡ false → nat_le 1 n ≡ true
some_of n h = grind arith

holds_so : (b : Bool) → not b ≡ false → b ≡ true
holds_so true h = refl
holds_so false h = sym h

-- the session is tested by its complement
pub is_its : (s t e : ℕ) (b : Bool) → s ≡ t → b ≡ not (s == e) → b ≡ false → (t == e) ≡ true
is_its s t e b same is ends = subst (λ (n : ℕ). (n == e) ≡ true) same (holds_so (s == e) (sym is ∙ ends))

in_session : (c : Cluster) (me : ℕ) (x : UpNode) (from : ℕ) (kind : SeizeKind) (e members d : ℕ) → nat_le 1 e ≡ true → (session_of x == e) ≡ true
    → on_request c me x from kind e members d (kept_of x.tasks d) ≡ on_seizing c me x from kind e members d
in_session c me x from kind e members d some is = rw (some, is) refl

pub seizes_then : {T : Type 0} → (c : Cluster) (me : ℕ) (x y : UpNode) (from : ℕ) (kind : SeizeKind) (e members d : ℕ) (kept : Option SeizeResult) (given after : List Output) (call : Result T Stop) (result : Result UpNode Stop)
    → (e == 0) ≡ false → (session_of x == e) ≡ true → kept ≡ kept_of x.tasks d → result ≡ left_so y call
    → Gives (on_request c me x from kind e members d kept) given (left_so y call) after → Gives (on_seizing c me x from kind e members d) given result after
seizes_then c me x y from kind e members d kept given after call result some is same ends h =
    subst (λ (r : Result UpNode Stop). Gives (on_seizing c me x from kind e members d) given r after) (sym ends)
    (subst (λ (plan : Plan). Gives plan given (left_so y call) after) (in_session c me x from kind e members d (some_of e some) is)
    (subst (λ (k : Option SeizeResult). Gives (on_request c me x from kind e members d k) given (left_so y call) after) same h))

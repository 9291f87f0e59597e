-- A node that promises an epoch.
use Rattle.std.proofs.Common.{◌≡◌, ℕ, nat_lt, true, false, ◌<◌, ◌≤◌, List, Option, Some, None, Result, refl, subst, sym, arith}
use Rattle.cmm_attempt.specs.Attempts.{AttemptState}
use Rattle.cmm_member.specs.Nodes.{NodeState, promised_to}
use Rattle.cmm_member.specs.Records.{NodeRecord}
use Rattle.record_disk.specs.Savings.{Saving}
use Rattle.node_model.specs.declared.node.UpNode.{UpNode}
use Rattle.node_model.specs.declared.output.Output.{Output}
use Rattle.node_model.specs.declared.seat.Seat.TheVariants.{Forming}
use Rattle.node_model.specs.declared.stop.Stop.{Stop}
use Rattle.node_model.specs.Attempts.{promise_of}
use Rattle.node_model.specs.Entries.{answering, keeping, unknown_lines}
use Rattle.node_model.specs.Members.{on_collect, rested_by, superseded_by}
use Rattle.node_model.specs.Plans.{Follows, Gives, Plan}
use Rattle.node_model.specs.Plans.Plan.{Says}
use Rattle.node_model.specs.Seats.{promised_of, promising, state_of}
use Rattle.node_model.proofs.Plans.{gives_follows}
use Rattle.node_model.specs.Left.{left_so}
use Rattle.node_members.specs.Promises.{answered_again, epoch_of, leaving, promise_answered, superseded_at, without_session}

abbrev promised : UpNode → ℕ → UpNode
promised x p = record x { seat = Forming (promised_to (state_of x.seat) p) }

abbrev collected : ℕ → UpNode → ℕ → ℕ → Option AttemptState → Plan
collected me x from p attempt =
    keeping me (rested_by (promising x p) attempt)
    (superseded_by x p attempt (Says (unknown_lines me x.requests.waiting) (answering from (promise_of (rested_by (promising x p) attempt) p) (rested_by (promising x p) attempt))))

abbrev left_with : ℕ → UpNode → ℕ → ℕ → Option AttemptState → Plan
left_with me x from p attempt =
    keeping me (promised x p) (superseded_at p (epoch_of attempt) (promise_answered me (rested_by (without_session (promised x p)) attempt) from p))

leaves : (me : ℕ) (x : UpNode) (from p : ℕ) (attempt : Option AttemptState) → left_with me x from p attempt ≡ collected me x from p attempt
leaves me x from p None = refl
leaves me x from p (Some a) = refl

below : (a b : ℕ) → a < b → nat_lt a b ≡ true
below a b less = grind arith

greater : (me : ℕ) (x : UpNode) (from p : ℕ) → nat_lt (promised_of x) p ≡ true → on_collect me x from p ≡ collected me x from p x.attempt
greater me x from p is = rw is refl

pub promise_then : {K T : Type 0} → (saving : K → NodeRecord → Saving K) (me : ℕ) (x : UpNode) (from p : ℕ) (s : NodeState) (y : UpNode) (given after : List Output) (disk left : K) (call : Result T Stop) (result : Result UpNode Stop)
    → promised_of x < p → s ≡ promised_to (state_of x.seat) p → result ≡ left_so y call
    → Follows saving (leaving me (record x { seat = Forming s }) from p) given disk (left_so y call) after left
    → Follows saving (on_collect me x from p) given disk result after left
promise_then saving me x from p s y given after disk left call result is now ends h =
    subst (λ (plan : Plan). Follows saving plan given disk result after left) (sym (greater me x from p (below (promised_of x) p is)))
    (subst (λ (plan : Plan). Follows saving plan given disk result after left) (leaves me x from p x.attempt)
    (subst (λ (n : NodeState). Follows saving (leaving me (record x { seat = Forming n }) from p) given disk result after left) now
    (subst (λ (r : Result UpNode Stop). Follows saving (leaving me (record x { seat = Forming s }) from p) given disk r after left) (sym ends) h)))

not_below : (a b : ℕ) → b ≤ a → nat_lt a b ≡ false
not_below a b less = grind arith

pub again_then : {K T : Type 0} → (saving : K → NodeRecord → Saving K) (me : ℕ) (x : UpNode) (from p : ℕ) (given after : List Output) (disk : K) (call : Result T Stop) (result : Result UpNode Stop)
    → p ≤ promised_of x → result ≡ left_so x call → Gives (answered_again x from p) given (left_so x call) after
    → Follows saving (on_collect me x from p) given disk result after disk
again_then saving me x from p given after disk call result is ends h =
    subst (λ (r : Result UpNode Stop). Follows saving (on_collect me x from p) given disk r after disk) (sym ends)
    (subst (λ (plan : Plan). Follows saving plan given disk (left_so x call) after disk) (sym (not_greater me x from p (not_below (promised_of x) p is)))
    (gives_follows saving (answered_again x from p) given after (left_so x call) disk h))
  where
    not_greater : (me : ℕ) (x : UpNode) (from p : ℕ) → nat_lt (promised_of x) p ≡ false → on_collect me x from p ≡ answered_again x from p
    not_greater me x from p is = rw is refl

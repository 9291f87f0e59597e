-- A number is promised to the Collect that has come.
use Rattle.std.specs.Prelude.{ℕ, ◌≡◌, ◌==◌, ◌&&◌, true, List, None, Some}
use Rattle.std.specs.Option.{option_and_then}
use Rattle.std.proofs.Common.{refl, ap, ◌∙◌}
use Rattle.cl_base.specs.declared.header.Header.{Header}
use Rattle.history.specs.Letters.{passes}
use Rattle.history.specs.Member as member
use Rattle.history.specs.Member.{in_collect, promised_to}
use Rattle.history.specs.Moment.{Moment}
use Rattle.history.specs.Names as name
use Rattle.history.specs.Names.{same_name}
use Rattle.node_model.specs.declared.cluster.Cluster.{Cluster}
use Rattle.node_model.specs.declared.node.Node.{Node}
use Rattle.node_model.specs.declared.node.Node.TheVariants.{Down, Up}
use Rattle.refinement.specs.Doings.{Site}
use Rattle.refinement.specs.Doings.Change.{Promises}
use Rattle.refinement.specs.Doings.Doing.{Saves}
use Rattle.refinement.specs.Guards.{Asks, May, MayChange, OfUp, Says}
use Rattle.refinement.specs.Ties.{Delivered}
use Rattle.run_seizings.specs.Sites.{Brought, InHand}
use Rattle.wire.specs.declared.message.Body.{Body}
use Rattle.wire.specs.declared.message.Body.TheVariants as body
use Rattle.run_devices.specs.validity.Kept.{DoingAgrees, RecordAgrees}
use Rattle.run_devices.proofs.readings.Promising.{and_both, same_so}

same_collect : same_name name.Collect name.Collect ≡ true
same_collect = refl

collect_in : (h : Header) (ms : List Moment) (n from p : ℕ) (b : Body) → Asks p b → Brought h ms n from b → (in_collect n ms ≡ true) × (promised_to ms ≡ Some p)
collect_in h ms n from p (body.Collect e members) asks k = (
  ap (λ o. passes (λ l. same_name l.name name.Collect && (l.to == n)) o) k.here
      ∙ and_both (same_name k.letter.name name.Collect) (k.letter.to == n) (ap (λ z. same_name z name.Collect) k.called ∙ same_collect)
      (same_so k.letter.to n k.receiver),
  ap (λ o. option_and_then member.number_of o) k.here ∙ (ap (λ z. member.attempt_of z k.letter.before) k.sender ∙ (k.sent_so ∙ ap Some asks)),
)
collect_in h ms n from p _ asks k = absurd asks

asked_in : (h : Header) (ms : List Moment) (n p : ℕ) (told : Delivered) → Says (Asks p) told → InHand h ms n told → (in_collect n ms ≡ true) × (promised_to ms ≡ Some p)
asked_in h ms n p None says hand = absurd says
asked_in h ms n p (Some d) says hand = collect_in h ms n d.0 p d.1.body says hand

pub promise_agrees : (h : Header) (c : Cluster) (n : ℕ) (told : Delivered) (x : Site) (ms : List Moment) (p : ℕ) → May c n told x (Saves (Promises p)) → InHand h ms n told → RecordAgrees h n ms x.disk
    → DoingAgrees h n x ms (Saves (Promises p))
promise_agrees h c n told x ms p may hand k = by_node x.node may
  where
    by_node : (node : Node) → OfUp (λ y. MayChange c n told y (Promises p)) node → (in_collect n ms ≡ true) × (promised_to ms ≡ Some p) × RecordAgrees h n ms x.disk
    by_node Down m = absurd m
    by_node (Up y) m = ((asked_in h ms n p told m.0 hand).0, (asked_in h ms n p told m.0 hand).1, k)

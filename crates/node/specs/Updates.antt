-- What a node does with a message that belongs to updates of the configuration, or to orders.
use Rattle.std.specs.Prelude.{ℕ, Bool, true}
use Rattle.answer_words.specs.Answers.{answer_in}
use Rattle.cl_base.specs.declared.method.Outcome.{Outcome}
use Rattle.wire.specs.declared.message.Body.{Body}
use Rattle.wire.specs.declared.message.Body.TheVariants as body
use Rattle.node_groups.specs.Carrying.{names}
use Rattle.node_model.specs.declared.cluster.Cluster.{Cluster}
use Rattle.node_model.specs.declared.node.UpNode.{UpNode}
use Rattle.node_model.specs.Groups.{on_done, on_order}
use Rattle.node_model.specs.Plans.{Plan}
use Rattle.node_model.specs.Plans.Plan.{Stays}
use Rattle.node_model.specs.Requests.{on_reply}
use Rattle.node_model.specs.Updates.{on_asked, on_commit_as, on_prepare_as, on_prepared}

-- where it holds an order, that is of a name
abbrev pub orders_name : Body → Bool
orders_name (body.Order o) = names o.resource
orders_name _ = true

-- a method that the node calls for an order ends so: that is given beside
abbrev pub on_update : Cluster → ℕ → Outcome → UpNode → ℕ → Body → Plan
on_update c me outcome x from (body.Request e number text) = on_asked c me x from e number text
on_update c me outcome x from (body.Prepare e place text) = on_prepare_as c me x from e place text x.seat
on_update c me outcome x from (body.Prepared e place) = on_prepared c me x from e place
on_update c me outcome x from (body.Commit e place) = on_commit_as me x e place x.seat
on_update c me outcome x from (body.Answer e number text) = on_reply c me x e number (answer_in text)
on_update c me outcome x from (body.Order o) = on_order c me outcome x from o
on_update c me outcome x from (body.Done e number ended) = on_done c me x from e number ended
on_update c me outcome x from _ = Stays x

-- What the president of a membership that starts has in hand, part by part.
use Rattle.std.proofs.Common.{◌≡◌, ℕ, List, [], Option, refl}
use Rattle.cmm_attempt.specs.Attempts.{AttemptState}
use Rattle.cmm_attempt.specs.Seizings.{held_set}
use Rattle.proposals.specs.State.{State, nothing_yet}
use Rattle.rgm_member.specs.Reports.{report_of}
use Rattle.rgm_president.specs.Acts.{president_of}
use Rattle.rgm_president.specs.State.{PresidentState}
use Rattle.sent_orders.specs.Ages.{nothing_sent}
use Rattle.shared_address.specs.States.{AddressState}
use Rattle.wire.specs.declared.report.Report.{Report}
use Rattle.node_model.specs.declared.cluster.Cluster.{Cluster}
use Rattle.node_model.specs.declared.node.UpNode.{UpNode}
use Rattle.node_model.specs.declared.presidency.Presidency.{Presidency}
use Rattle.node_model.specs.Attempts.{presiding, reports_of}
use Rattle.node_model.specs.Configurations.{own_config}

-- y is the node once its own report is made
pub presides : (c : Cluster) (me : ℕ) (x y : UpNode) (a : AttemptState) (own : Report) (reports : List (ℕ × Report)) (proposals : State) (held : ℕ) (groups : PresidentState) (sent : List (Option ℕ)) (balancer : List (List ℕ × AddressState))
    → y ≡ x → own ≡ report_of x.worker (own_config c x) → reports ≡ reports_of me own a → proposals ≡ nothing_yet → held ≡ held_set a.devices
    → groups ≡ president_of (own_config c y) a.plan.epoch a.plan.members reports y.second → sent ≡ nothing_sent → balancer ≡ []
    → (let p : Presidency = record { proposals = proposals; held = held; groups = groups; sent = sent; balancer = balancer } in p ≡ presiding c me x a)
presides c me x y a own reports proposals held groups sent balancer same reported all proposed holds known sends empty = rw (proposed, holds, sends, empty, known, same, all, reported) refl

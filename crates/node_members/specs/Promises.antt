-- How a node that has promised an epoch goes on.
use Rattle.std.specs.Prelude.{ℕ, [], Option, None, Some, if◌then◌else◌}
use Rattle.cmm_attempt.specs.Attempts.{AttemptState}
use Rattle.request_queue.specs.Queue.{ended}
use Rattle.status_report.specs.declared.attempt_entry.AttemptEntry.TheVariants as attempt
use Rattle.status_report.specs.declared.entry.Entry.TheVariants as entry
use Rattle.wire.specs.declared.message.Body.TheVariants as body
use Rattle.node_model.specs.declared.node.UpNode.{UpNode}
use Rattle.node_model.specs.Attempts.{promise_of}
use Rattle.node_model.specs.Entries.{answering, keeping, telling, unknown_lines}
use Rattle.node_model.specs.Members.{rested_by}
use Rattle.node_model.specs.Plans.{Plan}
use Rattle.node_model.specs.Plans.Plan.{Says}
use Rattle.node_model.specs.Seats.{is_in, promised_of}

-- an epoch that is not greater: the session's promise again, or a refusal
abbrev pub answered_again : UpNode → ℕ → ℕ → Plan
answered_again x from p = if is_in x p then answering from (promise_of x p) x else answering from (body.Nack p (promised_of x)) x

abbrev pub without_requests : UpNode → UpNode
without_requests x = record x { requests = ended x.requests }

-- what waited is told as unknown
abbrev pub promise_answered : ℕ → UpNode → ℕ → ℕ → Plan
promise_answered me x from p = Says (unknown_lines me x.requests.waiting) (answering from (promise_of (without_requests x) p) (without_requests x))

abbrev pub without_session : UpNode → UpNode
without_session x = record x { tasks = []; attempt = None; presidency = None }

abbrev pub epoch_of : Option AttemptState → Option ℕ
epoch_of None = None
epoch_of (Some a) = Some a.plan.epoch

-- the attempt of this epoch is superseded
abbrev pub superseded_at : ℕ → Option ℕ → Plan → Plan
superseded_at p None rest = rest
superseded_at p (Some e) rest = telling (entry.Attempt (attempt.Superseded e p)) rest

-- it saves, and gives up what was under way
abbrev pub leaving : ℕ → UpNode → ℕ → ℕ → Plan
leaving me x from p = keeping me x (superseded_at p (epoch_of x.attempt) (promise_answered me (rested_by (without_session x) x.attempt) from p))

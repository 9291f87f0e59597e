-- What plans send, one after another.
use Rattle.std.specs.Prelude.{ℕ, ◌+◌, ◌≡◌, ◌≤◌, Bool, List, if◌then◌else◌}
use Rattle.std.proofs.Common.{arith}
use Rattle.cmm_attempt.proofs.Basics.{if_either}
use Rattle.status_report.specs.declared.command_entry.Answer.{Answer}
use Rattle.status_report.specs.declared.node_entry.DownCause.{DownCause}
use Rattle.wire.specs.declared.message.Body.{Body}
use Rattle.node_model.specs.declared.node.UpNode.{UpNode}
use Rattle.node_model.specs.declared.output.Output.{Output}
use Rattle.node_model.specs.Entries.{answering, keeping, replying}
use Rattle.node_model.specs.Plans.{Plan, and_then}
use Rattle.node_model.specs.Plans.Plan.{Stays, Falls, Says, Saves}
use Rattle.refinement.specs.node_bounds.Bounded.{UpIsBounded}
use Rattle.refinement.specs.node_bounds.Laws.{EndsBounded}
use Rattle.refinement.specs.node_bounds.Sends.{sends_in, sends_of}

-- it sends so many messages at most, and leaves a bounded node
pub record Costs (k : ℕ) (p : Plan) : Type 0 where
  pub few : sends_in p ≤ k
  pub ends : EndsBounded p

added : (a b k j : ℕ) → a ≤ k → b ≤ j → a + b ≤ k + j
added a b k j h l = omega (arith, h, l)

pub stays : (x : UpNode) (k : ℕ) → UpIsBounded x → Costs k (Stays x)
stays x k h = record { few = omega arith; ends = h }

pub costs_less : (p : Plan) (j k : ℕ) → j ≤ k → Costs j p → Costs k p
costs_less p j k less h = record { few = omega (arith, less, h.few); ends = h.ends }

pub says : (os : List Output) (p : Plan) (j k : ℕ) → sends_of os ≤ j → Costs k p → Costs (j + k) (Says os p)
says os p j k few h = record { few = added (sends_of os) (sends_in p) j k few h.few; ends = h.ends }

-- what it says is no message
pub tells : (os : List Output) (p : Plan) (k : ℕ) → sends_of os ≡ 0 → Costs k p → Costs k (Says os p)
tells os p k quiet h = record { few = omega (arith, quiet, h.few); ends = h.ends }

pub then_costs : (p : Plan) (next : UpNode → Plan) (j k : ℕ) → Costs j p → ((y : UpNode) → UpIsBounded y → Costs k (next y)) → Costs (j + k) (and_then p next)
then_costs (Stays x) next j k h f = costs_less (next x) k (j + k) (omega arith) (f x h.ends)
then_costs (Falls why) next j k h f = record { few = omega arith; ends = tt }
then_costs (Says os rest) next j k h f =
    let room : ℕ = sends_in rest in
    let after : Costs (room + k) (and_then rest next) = then_costs rest next room k (record { few = omega arith; ends = h.ends }) f in
    record { few = omega (arith, h.few, after.few); ends = after.ends }
then_costs (Saves r rest) next j k h f =
    let after : Costs (j + k) (and_then rest next) = then_costs rest next j k (record { few = h.few; ends = h.ends }) f in
    record { few = after.few; ends = after.ends }

pub falls : (why : DownCause) (k : ℕ) → Costs k (Falls why)
falls why k = record { few = omega arith; ends = tt }

pub either_costs : (b : Bool) (p q : Plan) (k : ℕ) → Costs k p → Costs k q → Costs k (if b then p else q)
either_costs b p q k h l = if_either (Costs k) b p q h l

pub answers : (to : ℕ) (b : Body) (x : UpNode) (k : ℕ) → 1 ≤ k → UpIsBounded x → Costs k (answering to b x)
answers to b x k room h = record { few = omega (arith, room); ends = h }

pub keeps : (n : ℕ) (y : UpNode) (rest : Plan) (k : ℕ) → Costs k rest → Costs k (keeping n y rest)
keeps n y rest k h = record { few = omega (arith, h.few); ends = h.ends }

pub replies : (n number : ℕ) (told : Answer) (x : UpNode) (k : ℕ) → UpIsBounded x → Costs k (replying n number told x)
replies n number told x k h = record { few = omega arith; ends = h }

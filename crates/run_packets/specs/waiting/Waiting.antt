-- The queue of a node's requests: the oldest has the least number, and those of commands have a packet's size. The oldest was sent in the step, unless
-- it was the oldest before.
use Rattle.std.specs.Prelude.{ℕ, ◌-◌, ◌≡◌, ◌≤◌, ◌⊎◌, ◌^◌, true, IfSome, List, [], ◌∷◌, length, Option, None, Some, is_some}
use Rattle.std.specs.List.{AllByRecursion}
use Rattle.history.specs.Moment.{Moment}
use Rattle.history.specs.Order.{Always}
use Rattle.history.specs.Setting.{Setting}
use Rattle.history.specs.Trace.{gives}
use Rattle.node_model.specs.Seats.{coordinator_of}
use Rattle.node_model.specs.declared.cluster.Cluster.{Cluster}
use Rattle.node_model.specs.declared.input.Input.{Input}
use Rattle.node_model.specs.declared.node.Node.{Node}
use Rattle.node_model.specs.declared.node.Node.TheVariants.{Down, Up}
use Rattle.node_model.specs.declared.node.UpNode.{UpNode}
use Rattle.request_queue.specs.Queue.{oldest}
use Rattle.request_queue.specs.declared.request.Request.{Request}
use Rattle.wire.specs.declared.message.Body.{Body}
use Rattle.wire.specs.declared.message.Body.TheVariants as body
use Rattle.run_packets.specs.waiting.Asking.{HasWords}

-- ---- the queue

abbrev pub AreAbove : ℕ → List Request → Type 0
AreAbove k rs = AllByRecursion (λ (r : Request). k ≤ r.number) rs

abbrev pub AreLow : ℕ → List Request → Type 0
AreLow top rs = AllByRecursion (λ (r : Request). r.number ≤ top) rs

-- none has a lesser number than one before it
abbrev pub AreRising : List Request → Type 0
AreRising [] = Unit {0}
AreRising (r ∷ rs) = AreAbove r.number rs × AreRising rs

-- the text of a command's request has at most so many bytes
abbrev pub IsFit : Request → Type 0
IsFit r = r.told ≡ true → length r.text ≤ 65536

-- of a queue with this last number and these requests
pub record IsQueue (top : ℕ) (rs : List Request) : Type 0 where
  pub rising : AreRising rs
  pub low : AreLow top rs
  pub word : top ≤ 2 ^ 64 - 1
  pub fit : AllByRecursion IsFit rs

abbrev pub NodeQueues : Node → Type 0
NodeQueues Down = Unit {0}
NodeQueues (Up x) = IsQueue x.requests.asked x.requests.waiting

-- and so have the canonical words of each command
abbrev pub CommandFits : Setting → List Moment → Moment → Type 0
CommandFits S before (gives n words) = IfSome (S.canonical words) (λ text. length text ≤ 65536)
CommandFits S before _ = Unit {0}

abbrev pub CommandsFit : Setting → List Moment → Type 0
CommandsFit S moments = Always (CommandFits S) moments

-- the canonical words of the command that came have at most as many
abbrev pub WordsFit : Cluster → Input → Type 0
WordsFit c came = (r : Request) → HasWords c came r → length r.text ≤ 65536

-- ---- the oldest is sent

-- what was sent, and to whom
abbrev pub Sendings : Type 1
Sendings = ℕ → Body → Type 0

-- it was sent to the president
pub record IsSent (G : Sendings) (x : UpNode) : Type 0 where
  pub to : ℕ
  pub leads : coordinator_of x ≡ Some to
  pub request : Request
  pub first : oldest x.requests ≡ Some request
  pub epoch : ℕ
  pub given : G to (body.Request epoch request.number request.text)

-- the node presides, or its oldest request is this one still, or none waits, or it has no president, or the oldest is sent
abbrev pub IsPaid : Option Request → Sendings → UpNode → Type 0
IsPaid first G x = (is_some x.presidency ≡ true) ⊎ (oldest x.requests ≡ first) ⊎ (oldest x.requests ≡ None) ⊎ (coordinator_of x ≡ None) ⊎ IsSent G x

abbrev pub NodePaid : Option Request → Sendings → Node → Type 0
NodePaid first G Down = Unit {0}
NodePaid first G (Up x) = IsPaid first G x

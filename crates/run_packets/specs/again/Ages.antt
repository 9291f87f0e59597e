-- How many ticks ago the oldest request of a member was sent: of the node, and against the lines since it became a member.
use Rattle.std.specs.Prelude.{ℕ, ◌≡◌, ◌⊎◌, true, IfSome, List, Option, None, Some}
use Rattle.history.specs.Letters.{is_exchanged}
use Rattle.history.specs.Messages.{is_membership_of, last_request, ticks_since}
use Rattle.history.specs.Moment.{Moment}
use Rattle.history.specs.Names as name
use Rattle.history.specs.Order.{since}
use Rattle.history.specs.Setting.{coordinator}
use Rattle.node_model.specs.Seats.{node_numbered}
use Rattle.node_model.specs.declared.node.Node.{Node}
use Rattle.node_model.specs.declared.node.Node.TheVariants.{Down, Up}
use Rattle.node_model.specs.declared.presidency.Presidency.{Presidency}
use Rattle.node_model.specs.declared.seat.Seat.{Seat}
use Rattle.node_model.specs.declared.seat.Seat.TheVariants.{Forming, Member}
use Rattle.request_queue.specs.Queue.{Queue, oldest}
use Rattle.request_queue.specs.declared.request.Request.{Request}
use Rattle.wire.specs.declared.message.Body.TheVariants as body
use Rattle.run_packets.specs.prepares.Proposals.{IsShort}
use Rattle.run_packets.specs.again.Asking.{Heard}

-- what came since n became a member
abbrev pub current : ℕ → List Moment → List Moment
current n ms = since (is_membership_of n) ms

-- the Request of n with this number has its Answer, of the president of e, among these moments
abbrev pub HasAnswer : ℕ → ℕ → List Moment → ℕ → Type 0
HasAnswer n e ms q = is_exchanged (name.Request q) (name.Answer q) n (coordinator e) ms ≡ true

-- the last Request that n sent has its Answer, if it sent one
abbrev pub IsAnswered : ℕ → ℕ → List Moment → Type 0
IsAnswered n e ms = IfSome (last_request n ms) (HasAnswer n e ms)

-- The last Request that n sent is that of the oldest that waits, and was sent so many ticks ago; n does not preside.
pub record IsAwaited (n e : ℕ) (ms : List Moment) (q : Queue) (o : Option Presidency) : Type 0 where
  pub request : Request
  pub first : oldest q ≡ Some request
  pub none : o ≡ None
  pub leads : node_numbered (coordinator e) ≡ Some (coordinator e)
  pub last : last_request n ms ≡ Some request.number
  pub aged : ticks_since n (coordinator e) (name.Request request.number) ms ≡ Some q.age
  pub short : IsShort n (body.Request e request.number request.text)

abbrev pub SeatIn : ℕ → List Moment → Queue → Option Presidency → Seat → Type 0
SeatIn n ms q o (Forming s) = Unit {0}
SeatIn n ms q o (Member s) = IsAnswered n s.session ms ⊎ IsAwaited n s.session ms q o

abbrev pub NodeIn : ℕ → List Moment → Node → Type 0
NodeIn n ms Down = Unit {0}
NodeIn n ms (Up x) = SeatIn n (current n ms) x.requests x.presidency x.seat

-- ---- an Answer that came

-- where the node is a member of its membership, it is to a Request that came to the president since
abbrev pub HeardIn : Option Heard → ℕ → List Moment → Seat → Type 0
HeardIn heard n ms (Forming s) = Unit {0}
HeardIn heard n ms (Member s) = (q : ℕ) → heard ≡ Some (record { epoch = s.session; number = q }) → HasAnswer n s.session ms q

abbrev pub NodeHeard : Option Heard → ℕ → List Moment → Node → Type 0
NodeHeard heard n ms Down = Unit {0}
NodeHeard heard n ms (Up x) = HeardIn heard n (current n ms) x.seat

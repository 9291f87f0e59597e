-- Which outputs of a node's small steps change nothing of who is a member, and what its seat is after each.
use Rattle.std.specs.Prelude.{ℕ, ◌+◌, ◌≡◌, List, [], ◌∷◌, Option, None, Some, Ok, is_some}
use Rattle.std.proofs.Common.{refl, ap}
use Rattle.std.specs.List.{AllByRecursion}
use Rattle.ccr_tables.specs.State.{ConfigState}
use Rattle.cl_base.specs.Limits.{most_nodes}
use Rattle.cl_base.specs.Numbers.{numbers_to}
use Rattle.cmm_attempt.specs.Attempts.{AttemptState}
use Rattle.cmm_attempt.specs.declared.step.AttemptEnd.{AttemptEnd}
use Rattle.cmm_attempt.specs.declared.step.AttemptEnd.TheVariants as end
use Rattle.cmm_attempt.proofs.Basics.{if_either}
use Rattle.cmm_member.specs.Nodes.{NodeState}
use Rattle.heartbeats.specs.Views.{receivers_of}
use Rattle.node_model.specs.Attempts.{adopted_line, adopted_lines, adopted_of, adopted_on, base_lines, ended_entry, is_adopted}
use Rattle.node_model.specs.Configurations.{configured_at}
use Rattle.node_model.specs.declared.cluster.Cluster.{Cluster}
use Rattle.node_model.specs.declared.node.UpNode.{UpNode}
use Rattle.node_model.specs.declared.output.Output.{Output}
use Rattle.node_model.specs.declared.output.Output.TheVariants.{Sends, Tells}
use Rattle.node_model.specs.declared.presidency.Presidency.{Presidency}
use Rattle.node_model.specs.declared.seat.Seat.{Seat}
use Rattle.node_model.specs.declared.seat.Seat.TheVariants.{Forming, Member}
use Rattle.node_model.specs.Entries.{unknown_line, unknown_lines}
use Rattle.node_model.specs.Members.{rested_by}
use Rattle.node_model.specs.Presidents.{sent_to}
use Rattle.node_model.specs.Seats.{coordinator_of, is_member, promising, state_of, with_state}
use Rattle.node_model.specs.Ticks.{heartbeat_of, heartbeats_to, later, ticked_output}
use Rattle.node_model.specs.Updates.{request_again, request_again_by, request_again_to}
use Rattle.pgr_device.specs.declared.command.PrAnswer.TheVariants as given
use Rattle.refinement.specs.Doings.{Change, first_lines, superseded_lines, write_lines}
use Rattle.refinement.specs.Doings.Change.{Acks, Admits, Commits, Counts, Distrusts, Installs, Leads, Prepares, Promises, Proposes, Sits, Starts}
use Rattle.refinement.specs.Guards.{MayWrite, TellNothing}
use Rattle.request_queue.specs.Queue as queue
use Rattle.request_queue.specs.declared.request.Request.{Request}
use Rattle.rg_props.specs.declared.group.Resource.{Resource}
use Rattle.rg_view.specs.States as states
use Rattle.rg_view.specs.declared.states.ResourceAt.{ResourceAt}
use Rattle.rg_view.specs.declared.view.GroupView.{GroupView}
use Rattle.run_history.proofs.Lists.{both, mapped, of_each}
use Rattle.run_history.proofs.Ordinary.{GivesAside, IsAside}
use Rattle.seize.specs.Answers.{Answer}
use Rattle.status_report.specs.declared.entry.Entry.{Entry}
use Rattle.status_report.specs.declared.entry.Entry.TheVariants as entry
use Rattle.wire.specs.declared.message.Body.{Body}
use Rattle.wire.specs.declared.message.Body.TheVariants as body
use Rattle.run_messages.specs.Laws.{membership_in}
use Rattle.run_messages.specs.Outputs.{AreEven, AreStill, AreTruthful, IsEven, IsEvenOutput, IsStillOutput, IsTruthful, NoBeat}

-- ---- lines

aside_even : (e : Entry) → IsAside e → IsEven e
aside_even (entry.Command e) h = tt
aside_even (entry.Status e) h = tt
aside_even (entry.Call e) h = tt
aside_even (entry.Address e) h = tt
aside_even _ h = absurd h

pub given_even : (os : List Output) → AllByRecursion GivesAside os → TellNothing os → AreEven os
given_even [] h k = tt
given_even (Tells e ∷ os) h k = (aside_even e h.0, given_even os h.1 k.1)
given_even (Sends to (body.Request p number text) ∷ os) h k = (tt, given_even os h.1 k.1)
given_even (Sends to (body.Answer p number text) ∷ os) h k = (tt, given_even os h.1 k.1)
given_even (Sends to (body.Order o) ∷ os) h k = (tt, given_even os h.1 k.1)
given_even (Sends to b ∷ os) h k = absurd k.0

pub superseded_even : (p : ℕ) (o : Option AttemptState) → AreEven (superseded_lines p o)
superseded_even p None = tt
superseded_even p (Some a) = (tt, tt)

pub unknown_even : (me : ℕ) (rs : List Request) → AreEven (unknown_lines me rs)
unknown_even me [] = tt
unknown_even me (r ∷ rs) = both IsEvenOutput (unknown_line me r) (unknown_lines me rs) (if_either AreEven r.told _ [] (tt, tt) tt) (unknown_even me rs)

pub base_even : (e before : ℕ) (texts : List (List ℕ)) → AreEven (base_lines e before texts)
base_even e before [] = tt
base_even e before (text ∷ texts) = (tt, base_even e (before + 1) texts)

line_even : (e n : ℕ) (r : List ℕ) (s : ResourceAt) → AreEven (adopted_line e n r s)
line_even e n r s = if_either AreEven (is_adopted s) _ [] (tt, tt) tt

lines_even : (e : ℕ) (v : GroupView) (resources : List (List ℕ × Resource)) → AreEven (adopted_lines e v resources)
unfolding adopted_lines
lines_even e v resources =
    of_each IsEvenOutput (adopted_on e v resources) (numbers_to v.members most_nodes)
    (λ n. of_each IsEvenOutput (λ x. adopted_line e n x.0 (states.state_of v.resources x.0 n)) resources (λ x. line_even e n x.0 (states.state_of v.resources x.0 n)))

pub adopted_even : (e : ℕ) (s : ConfigState) (o : Option Presidency) → AreEven (adopted_of e s o)
adopted_even e s None = tt
adopted_even e s (Some p) = lines_even e p.groups.view s.groups.resources

pub first_even : (me : ℕ) (change : Change) → AreEven (first_lines me change)
first_even me (Admits at command a d) = (tt, tt)
first_even me (Proposes s p text) = (tt, tt)
first_even me (Promises p) = tt
first_even me (Leads p members) = tt
first_even me (Counts a k s i) = tt
first_even me (Installs s i) = tt
first_even me (Starts a k s) = tt
first_even me (Sits s e) = tt
first_even me (Distrusts d) = tt
first_even me (Acks s p q left text) = tt
first_even me (Prepares s text) = tt
first_even me (Commits s) = tt

pub ended_even : (e : ℕ) (ended : AttemptEnd) → IsEven (entry.Attempt (ended_entry e ended))
ended_even e (end.Votes have need lacking) = tt
ended_even e (end.Superseded p) = tt
ended_even e (end.Silent n) = tt
ended_even e (end.Foreign n) = tt
ended_even e (end.Excluded n) = tt

pub write_even : (me : ℕ) (x : UpNode) (d value : ℕ) (a : Answer) → AreEven (write_lines me x d value a)
write_even me x d value (Ok given.Good) = (tt, tt)
write_even me x d value (Ok given.Conflict) = (tt, tt)
write_even me x d value _ = (tt, tt)

-- ---- messages

pub written_even : (x : UpNode) (b : Body) → MayWrite x b → NoBeat b
written_even x (body.Heartbeat promised session member) may = absurd may
written_even x _ may = tt

pub spread_even : (receivers : ℕ) (b : Body) → NoBeat b → AreEven (sent_to receivers b)
unfolding sent_to
spread_even receivers b h = mapped IsEvenOutput (λ n. Sends n b) (numbers_to receivers most_nodes) (λ n. h)

-- at a tick the Heartbeats say whether the node has a membership
pub seat_tells : (seat : Seat) → is_member seat ≡ is_some (membership_in seat)
seat_tells (Forming s) = refl
seat_tells (Member s) = refl

beats_truthful : (x : UpNode) (receivers : ℕ) → AreTruthful (membership_in x.seat) (heartbeats_to x receivers)
unfolding heartbeats_to
beats_truthful x receivers = mapped (IsTruthful (membership_in x.seat)) (λ n. Sends n (heartbeat_of x)) (numbers_to receivers most_nodes) (λ n. seat_tells x.seat)

again_to_truthful : (v : Option ℕ) (x : UpNode) (r : Option Request) (o : Option ℕ) → AreTruthful v (request_again_to x r o)
again_to_truthful v x (Some r) (Some president) = (tt, tt)
again_to_truthful v x None president = tt
again_to_truthful v x (Some r) None = tt

again_by_truthful : (v : Option ℕ) (x : UpNode) (o : Option Presidency) → AreTruthful v (request_again_by x o)
again_by_truthful v x None =
    if_either (AreTruthful v) (queue.goes_again x.requests) (request_again_to x (queue.oldest x.requests) (coordinator_of x)) []
    (again_to_truthful v x (queue.oldest x.requests) (coordinator_of x)) tt
again_by_truthful v x (Some p) = tt

pub ticked_truthful : (c : Cluster) (x : UpNode) → AreTruthful (membership_in x.seat) (ticked_output c x (later c x))
ticked_truthful c x =
    both (IsTruthful (membership_in x.seat)) (heartbeats_to (later c x) (receivers_of (later c x).beats (configured_at c (later c x)))) (request_again x)
    (beats_truthful (later c x) (receivers_of (later c x).beats (configured_at c (later c x)))) (again_by_truthful (membership_in x.seat) x x.presidency)

-- ---- seats

-- another state of the same session
pub seat_with : (seat : Seat) (t : NodeState) → t.session ≡ (state_of seat).session → membership_in (with_state seat t) ≡ membership_in seat
seat_with (Forming s) t same = refl
seat_with (Member s) t same = ap (λ q. Some q) same

pub rested_seat : (p : ℕ) (x : UpNode) (o : Option AttemptState) → membership_in (rested_by (promising x p) o).seat ≡ None
rested_seat p x None = refl
rested_seat p x (Some a) = refl

-- messages say nothing of who is a member
again_to_still : (k : ℕ) (x : UpNode) (r : Option Request) (o : Option ℕ) → AreStill k (request_again_to x r o)
again_to_still k x (Some r) (Some president) = (tt, tt)
again_to_still k x None president = tt
again_to_still k x (Some r) None = tt

again_by_still : (k : ℕ) (x : UpNode) (o : Option Presidency) → AreStill k (request_again_by x o)
again_by_still k x None =
    if_either (AreStill k) (queue.goes_again x.requests) (request_again_to x (queue.oldest x.requests) (coordinator_of x)) []
    (again_to_still k x (queue.oldest x.requests) (coordinator_of x)) tt
again_by_still k x (Some p) = tt

beats_still : (k : ℕ) (x : UpNode) (receivers : ℕ) → AreStill k (heartbeats_to x receivers)
unfolding heartbeats_to
beats_still k x receivers = mapped (IsStillOutput k) (λ n. Sends n (heartbeat_of x)) (numbers_to receivers most_nodes) (λ n. tt)

pub ticked_still : (k : ℕ) (c : Cluster) (x : UpNode) → AreStill k (ticked_output c x (later c x))
ticked_still k c x =
    both (IsStillOutput k) (heartbeats_to (later c x) (receivers_of (later c x).beats (configured_at c (later c x)))) (request_again x)
    (beats_still k (later c x) (receivers_of (later c x).beats (configured_at c (later c x)))) (again_by_still k x x.presidency)

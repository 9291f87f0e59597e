-- Which lines and messages tell nothing of what a node has heard, and begin no attempt.
use Rattle.std.specs.Prelude.{ℕ, ◌+◌, ◌≡◌, List, [], ◌∷◌, Option, None, Some, Ok}
use Rattle.std.specs.List.{AllByRecursion}
use Rattle.std.proofs.Common.{refl}
use Rattle.ccr_commit.specs.Entries.{all_committed}
use Rattle.ccr_tables.specs.State.{ConfigState}
use Rattle.cl_base.specs.Limits.{most_nodes}
use Rattle.cl_base.specs.Numbers.{numbers_to}
use Rattle.cmm_attempt.specs.Attempts.{AttemptState}
use Rattle.cmm_attempt.specs.Calls.{turn}
use Rattle.cmm_attempt.specs.declared.step.AttemptEnd.{AttemptEnd}
use Rattle.cmm_attempt.specs.declared.step.AttemptEnd.TheVariants as end
use Rattle.cmm_attempt.proofs.Basics.{if_either}
use Rattle.node_model.specs.Attempts.{adopted_line, adopted_lines, adopted_of, adopted_on, base_lines, ended_entry, is_adopted, starting_as}
use Rattle.node_model.specs.Configurations.{in_force}
use Rattle.node_model.specs.Entries.{unknown_line, unknown_lines}
use Rattle.node_model.specs.Presidents.{sent_to}
use Rattle.node_model.specs.Seats.{coordinator_of}
use Rattle.node_model.specs.Updates.{request_again, request_again_by, request_again_to}
use Rattle.node_model.specs.declared.cluster.Cluster.{Cluster}
use Rattle.node_model.specs.declared.node.UpNode.{UpNode}
use Rattle.node_model.specs.declared.output.Output.{Output}
use Rattle.node_model.specs.declared.output.Output.TheVariants.{Sends, Tells}
use Rattle.node_model.specs.declared.presidency.Presidency.{Presidency}
use Rattle.pgr_device.specs.declared.command.PrAnswer.TheVariants as given
use Rattle.refinement.specs.Doings.{Act, Change, adopted_by, first_lines, last_lines, said, superseded_lines, write_lines}
use Rattle.refinement.specs.Doings.Act.{Accepts, Dates, Ends, Gives, Goes_on, Hears, Makes, Minds, Notes, Queues, Spreads, Stores, Takes, Ticks, Waits, Works, Writes}
use Rattle.refinement.specs.Doings.Change.{Acks, Admits, Commits, Counts, Distrusts, Installs, Leads, Prepares, Promises, Proposes, Sits, Starts}
use Rattle.refinement.specs.Guards.{MayAct, MayWrite, TellNothing}
use Rattle.refinement.specs.Ties.{Delivered}
use Rattle.request_queue.specs.Queue as queue
use Rattle.request_queue.specs.declared.request.Request.{Request}
use Rattle.rg_props.specs.declared.group.Resource.{Resource}
use Rattle.rg_view.specs.States as states
use Rattle.rg_view.specs.declared.states.ResourceAt.{ResourceAt}
use Rattle.rg_view.specs.declared.view.GroupView.{GroupView}
use Rattle.run_history.proofs.Lists.{both, mapped, of_each}
use Rattle.run_history.proofs.Ordinary.{GivesAside, IsAside}
use Rattle.run_history.proofs.Small.{IsSmallAct}
use Rattle.seize.specs.Answers.{Answer}
use Rattle.status_report.specs.declared.attempt_entry.AttemptEntry.TheVariants as attempt
use Rattle.status_report.specs.declared.entry.Entry.{Entry}
use Rattle.status_report.specs.declared.entry.Entry.TheVariants as entry
use Rattle.status_report.specs.declared.node_entry.NodeEntry.TheVariants as note
use Rattle.wire.specs.declared.message.Body.{Body}
use Rattle.wire.specs.declared.message.Body.TheVariants as body
use Rattle.run_messages.specs.Outputs.{NoBeat}
use Rattle.run_attempts.specs.Steps.{ActSo, CalmChange, Wish}

abbrev pub IsMildLine : Entry → Type 0
IsMildLine (entry.Packet e) = ⊥
IsMildLine (entry.Node m note.Up) = ⊥
IsMildLine (entry.Node m note.Ticked) = ⊥
IsMildLine (entry.Attempt (attempt.Begun e members)) = ⊥
IsMildLine _ = Unit {0}

abbrev pub IsMild : Output → Type 0
IsMild (Tells e) = IsMildLine e
IsMild (Sends to b) = NoBeat b

abbrev pub AreMild : List Output → Type 0
AreMild os = AllByRecursion IsMild os

-- ---- lines

aside_mild : (e : Entry) → IsAside e → IsMildLine e
aside_mild (entry.Command e) h = tt
aside_mild (entry.Status e) h = tt
aside_mild (entry.Call e) h = tt
aside_mild (entry.Address e) h = tt
aside_mild _ h = absurd h

given_mild : (os : List Output) → AllByRecursion GivesAside os → TellNothing os → AreMild os
given_mild [] h k = tt
given_mild (Tells e ∷ os) h k = (aside_mild e h.0, given_mild os h.1 k.1)
given_mild (Sends to (body.Request p number text) ∷ os) h k = (tt, given_mild os h.1 k.1)
given_mild (Sends to (body.Answer p number text) ∷ os) h k = (tt, given_mild os h.1 k.1)
given_mild (Sends to (body.Order o) ∷ os) h k = (tt, given_mild os h.1 k.1)
given_mild (Sends to b ∷ os) h k = absurd k.0

superseded_mild : (p : ℕ) (o : Option AttemptState) → AreMild (superseded_lines p o)
superseded_mild p None = tt
superseded_mild p (Some a) = (tt, tt)

pub unknown_mild : (me : ℕ) (rs : List Request) → AreMild (unknown_lines me rs)
unknown_mild me [] = tt
unknown_mild me (r ∷ rs) = both IsMild (unknown_line me r) (unknown_lines me rs) (if_either AreMild r.told _ [] (tt, tt) tt) (unknown_mild me rs)

base_mild : (e before : ℕ) (texts : List (List ℕ)) → AreMild (base_lines e before texts)
base_mild e before [] = tt
base_mild e before (text ∷ texts) = (tt, base_mild e (before + 1) texts)

line_mild : (e n : ℕ) (r : List ℕ) (s : ResourceAt) → AreMild (adopted_line e n r s)
line_mild e n r s = if_either AreMild (is_adopted s) _ [] (tt, tt) tt

lines_mild : (e : ℕ) (v : GroupView) (resources : List (List ℕ × Resource)) → AreMild (adopted_lines e v resources)
unfolding adopted_lines
lines_mild e v resources =
    of_each IsMild (adopted_on e v resources) (numbers_to v.members most_nodes)
    (λ n. of_each IsMild (λ x. adopted_line e n x.0 (states.state_of v.resources x.0 n)) resources (λ x. line_mild e n x.0 (states.state_of v.resources x.0 n)))

adopted_mild : (e : ℕ) (s : ConfigState) (o : Option Presidency) → AreMild (adopted_of e s o)
adopted_mild e s None = tt
adopted_mild e s (Some p) = lines_mild e p.groups.view s.groups.resources

pub first_mild : (me : ℕ) (change : Change) → AreMild (first_lines me change)
first_mild me (Admits at command a d) = (tt, tt)
first_mild me (Proposes s p text) = (tt, tt)
first_mild me _ = tt

-- those of all changes but the beginning of an attempt
pub last_mild : (c : Cluster) (me : ℕ) (x : UpNode) (change : Change) → CalmChange change → AreMild (last_lines c me x change)
last_mild c me x (Promises p) h =
    both IsMild (superseded_lines p x.attempt) (unknown_lines me x.requests.waiting) (superseded_mild p x.attempt) (unknown_mild me x.requests.waiting)
last_mild c me x (Leads p members) h = absurd h
last_mild c me x (Counts a k s i) h = (tt, tt)
last_mild c me x (Installs s i) h = (tt, tt)
last_mild c me x (Starts a k s) h =
    let after : AttemptState = (turn a k).after in
    let y : UpNode = starting_as c me x after s in (
      tt,
      both IsMild (base_lines after.plan.epoch 0 (all_committed s.saved.entries).committed) _ (base_mild after.plan.epoch 0 (all_committed s.saved.entries).committed)
          (both IsMild (adopted_by c after y) _ (adopted_mild after.plan.epoch (in_force c y) y.presidency) (tt, tt)),
    )
last_mild c me x (Sits s e) h = (tt, tt)
last_mild c me x (Distrusts d) h = tt
last_mild c me x (Admits at command a d) h = tt
last_mild c me x (Proposes s p text) h = tt
last_mild c me x (Acks s p q left text) h = (tt, tt)
last_mild c me x (Prepares s text) h = tt
last_mild c me x (Commits s) h = tt

ended_mild : (e : ℕ) (ended : AttemptEnd) → IsMildLine (entry.Attempt (ended_entry e ended))
ended_mild e (end.Votes have need lacking) = tt
ended_mild e (end.Superseded p) = tt
ended_mild e (end.Silent n) = tt
ended_mild e (end.Foreign n) = tt
ended_mild e (end.Excluded n) = tt

write_mild : (me : ℕ) (x : UpNode) (d value : ℕ) (a : Answer) → AreMild (write_lines me x d value a)
write_mild me x d value (Ok given.Good) = (tt, tt)
write_mild me x d value (Ok given.Conflict) = (tt, tt)
write_mild me x d value _ = (tt, tt)

-- ---- messages

written_mild : (x : UpNode) (b : Body) → MayWrite x b → NoBeat b
written_mild x (body.Heartbeat promised session is_one) may = absurd may
written_mild x _ may = tt

spread_mild : (receivers : ℕ) (b : Body) → NoBeat b → AreMild (sent_to receivers b)
unfolding sent_to
spread_mild receivers b h = mapped IsMild (λ n. Sends n b) (numbers_to receivers most_nodes) (λ n. h)

again_to_mild : (x : UpNode) (r : Option Request) (o : Option ℕ) → AreMild (request_again_to x r o)
again_to_mild x (Some r) (Some president) = (tt, tt)
again_to_mild x None president = tt
again_to_mild x (Some r) None = tt

again_by_mild : (x : UpNode) (o : Option Presidency) → AreMild (request_again_by x o)
again_by_mild x None =
    if_either AreMild (queue.goes_again x.requests) (request_again_to x (queue.oldest x.requests) (coordinator_of x)) []
    (again_to_mild x (queue.oldest x.requests) (coordinator_of x)) tt
again_by_mild x (Some p) = tt

pub again_mild : (x : UpNode) → AreMild (request_again x)
again_mild x = again_by_mild x x.presidency

-- ---- acts, but for the beginning of an attempt

pub said_mild : (c : Cluster) (n : ℕ) (told : Delivered) (P : Wish) (x : UpNode) (a : Act) → MayAct c n told x a → IsSmallAct a → ActSo P x a → ((change : Change) → a ≡ Makes change → CalmChange change) → AreMild (said c n x a)
said_mild c n told P x (Hears from b) may small so calm = absurd so
said_mild c n told P x Ticks may small so calm = absurd so
said_mild c n told P x Waits may small so calm = tt
said_mild c n told P x (Goes_on a k) may small so calm = tt
said_mild c n told P x (Ends a e) may small so calm = (ended_mild a.plan.epoch e, tt)
said_mild c n told P x (Queues a d kind) may small so calm = tt
said_mild c n told P x (Accepts kind e members d) may small so calm = tt
said_mild c n told P x (Takes at command a) may small so calm = (tt, tt)
said_mild c n told P x (Stores d value a) may small so calm = (tt, write_mild n x d value a)
said_mild c n told P x (Writes to b) may small so calm = (written_mild x b may, tt)
said_mild c n told P x (Makes change) may small so calm = both IsMild (first_lines n change) (last_lines c n x change) (first_mild n change) (last_mild c n x change (calm change refl))
said_mild c n told P x (Gives os) may small so calm = given_mild os small may
said_mild c n told P x (Spreads receivers b) may small so calm = spread_mild receivers b (written_mild x b may)
said_mild c n told P x (Minds q p) may small so calm = tt
said_mild c n told P x (Notes from place p) may small so calm = tt
said_mild c n told P x (Dates now) may small so calm = tt
said_mild c n told P x (Works w) may small so calm = tt

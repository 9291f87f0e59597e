-- What tells no install.
use Rattle.std.specs.Prelude.{ℕ, ◌+◌, ◌++◌, List, [], ◌∷◌, Option, None, Some, Ok, flat_map, map}
use Rattle.std.specs.List.{AllByRecursion}
use Rattle.ccr_commit.specs.Entries.{all_committed}
use Rattle.ccr_tables.specs.State.{ConfigState}
use Rattle.cl_base.specs.Limits.{most_nodes}
use Rattle.cl_base.specs.Numbers.{numbers_to}
use Rattle.cmm_attempt.proofs.Basics.{if_either}
use Rattle.cmm_attempt.specs.Attempts.{AttemptState}
use Rattle.cmm_attempt.specs.Calls.{turn}
use Rattle.heartbeats.specs.Views.{receivers_of}
use Rattle.node_model.specs.Attempts.{adopted_line, adopted_lines, adopted_of, adopted_on, base_lines, is_adopted, starting_as}
use Rattle.node_model.specs.Configurations.{configured_at, in_force}
use Rattle.node_model.specs.Entries.{unknown_line, unknown_lines}
use Rattle.node_model.specs.Presidents.{sent_to}
use Rattle.node_model.specs.Seats.{coordinator_of}
use Rattle.node_model.specs.Ticks.{heartbeat_of, heartbeats_to, later, ticked_output}
use Rattle.node_model.specs.Updates.{request_again, request_again_by, request_again_to}
use Rattle.node_model.specs.declared.cluster.Cluster.{Cluster}
use Rattle.node_model.specs.declared.node.UpNode.{UpNode}
use Rattle.node_model.specs.declared.output.Output.{Output}
use Rattle.node_model.specs.declared.output.Output.TheVariants.{Sends, Tells}
use Rattle.node_model.specs.declared.presidency.Presidency.{Presidency}
use Rattle.pgr_device.specs.declared.command.PrAnswer.TheVariants as given
use Rattle.refinement.specs.Doings.{Act, Change, adopted_by, first_lines, gone_line, last_lines, of_node, said, start_lines, superseded_lines, write_lines}
use Rattle.refinement.specs.Doings.Act.{Accepts, Dates, Ends, Gives, Goes_on, Hears, Makes, Minds, Notes, Queues, Spreads, Stores, Takes, Ticks, Waits, Works, Writes}
use Rattle.refinement.specs.Doings.Change.{Acks, Admits, Commits, Counts, Distrusts, Installs, Leads, Prepares, Promises, Proposes, Sits, Starts}
use Rattle.request_queue.specs.Queue as queue
use Rattle.request_queue.specs.declared.request.Request.{Request}
use Rattle.rg_props.specs.declared.group.Resource.{Resource}
use Rattle.rg_view.specs.States as states
use Rattle.rg_view.specs.declared.states.ResourceAt.{ResourceAt}
use Rattle.rg_view.specs.declared.view.GroupView.{GroupView}
use Rattle.run_history.proofs.Lists.{both}
use Rattle.run_history.proofs.Ordinary.{GivesAside, IsAside}
use Rattle.run_history.proofs.Small.{IsSmallAct}
use Rattle.run_history.specs.Guards.{MadeAt}
use Rattle.seize.specs.Answers.{Answer as DeviceAnswer}
use Rattle.status_report.specs.declared.entry.Entry.{Entry}
use Rattle.status_report.specs.declared.entry.Entry.TheVariants as entry
use Rattle.status_report.specs.declared.node_entry.DownCause.{DownCause}
use Rattle.status_report.specs.declared.node_entry.NodeEntry.TheVariants as note
use Rattle.wire.specs.declared.message.Body.{Body}
use Rattle.run_packets.specs.installs.Passing.{AreElse, IsElse}

-- ---- lists

both_else : (xs ys : List Output) → AreElse xs → AreElse ys → AreElse (xs ++ ys)
both_else xs ys h k = both IsElse xs ys h k

each_else : {X : Type 0} → (f : X → List Output) (xs : List X) → ((x : X) → AreElse (f x)) → AreElse (flat_map f xs)
each_else f [] h = tt
each_else f (x ∷ xs) h = both_else (f x) (flat_map f xs) (h x) (each_else f xs h)

sent_else : {X : Type 0} → (to : X → ℕ) (b : X → Body) (xs : List X) → AreElse (map (λ x. Sends (to x) (b x)) xs)
sent_else to b [] = tt
sent_else to b (x ∷ xs) = (tt, sent_else to b xs)

spread_else : (receivers : ℕ) (b : Body) → AreElse (sent_to receivers b)
unfolding sent_to
spread_else receivers b = sent_else (λ k. k) (λ k. b) (numbers_to receivers most_nodes)

-- ---- requests

unknown_else : (n : ℕ) (rs : List Request) → AreElse (unknown_lines n rs)
unknown_else n [] = tt
unknown_else n (r ∷ rs) = both_else (unknown_line n r) (unknown_lines n rs) (if_either AreElse r.told _ [] (tt, tt) tt) (unknown_else n rs)

again_to_else : (x : UpNode) (r : Option Request) (o : Option ℕ) → AreElse (request_again_to x r o)
again_to_else x (Some r) (Some president) = (tt, tt)
again_to_else x None president = tt
again_to_else x (Some r) None = tt

again_by_else : (x : UpNode) (o : Option Presidency) → AreElse (request_again_by x o)
again_by_else x None =
    if_either AreElse (queue.goes_again x.requests) (request_again_to x (queue.oldest x.requests) (coordinator_of x)) []
    (again_to_else x (queue.oldest x.requests) (coordinator_of x)) tt
again_by_else x (Some p) = tt

heartbeats_else : (x : UpNode) (receivers : ℕ) → AreElse (heartbeats_to x receivers)
unfolding heartbeats_to
heartbeats_else x receivers = sent_else (λ k. k) (λ k. heartbeat_of x) (numbers_to receivers most_nodes)

ticked_else : (c : Cluster) (before x : UpNode) → AreElse (ticked_output c before x)
ticked_else c before x =
    both_else (heartbeats_to x (receivers_of x.beats (configured_at c x))) (request_again before) (heartbeats_else x (receivers_of x.beats (configured_at c x))) (again_by_else before before.presidency)

-- ---- attempts and starts

superseded_else : (p : ℕ) (o : Option AttemptState) → AreElse (superseded_lines p o)
superseded_else p None = tt
superseded_else p (Some a) = (tt, tt)

bases_else : (e before : ℕ) (texts : List (List ℕ)) → AreElse (base_lines e before texts)
bases_else e before [] = tt
bases_else e before (text ∷ texts) = (tt, bases_else e (before + 1) texts)

adopted_line_else : (e k : ℕ) (r : List ℕ) (s : ResourceAt) → AreElse (adopted_line e k r s)
adopted_line_else e k r s = if_either AreElse (is_adopted s) _ [] (tt, tt) tt

adopted_lines_else : (e : ℕ) (v : GroupView) (resources : List (List ℕ × Resource)) → AreElse (adopted_lines e v resources)
unfolding adopted_lines
adopted_lines_else e v resources =
    each_else (adopted_on e v resources) (numbers_to v.members most_nodes)
    (λ k. each_else (λ x. adopted_line e k x.0 (states.state_of v.resources x.0 k)) resources (λ x. adopted_line_else e k x.0 (states.state_of v.resources x.0 k)))

adopted_else : (e : ℕ) (s : ConfigState) (o : Option Presidency) → AreElse (adopted_of e s o)
adopted_else e s None = tt
adopted_else e s (Some p) = adopted_lines_else e p.groups.view s.groups.resources

write_else : (n : ℕ) (x : UpNode) (d value : ℕ) (a : DeviceAnswer) → AreElse (write_lines n x d value a)
write_else n x d value (Ok given.Good) = (tt, tt)
write_else n x d value (Ok given.Conflict) = (tt, tt)
write_else n x d value _ = (tt, tt)

-- ---- changes

-- it installs nothing
abbrev pub IsOtherChange : Change → Type 0
IsOtherChange (Counts a k s i) = ⊥
IsOtherChange (Installs s i) = ⊥
IsOtherChange _ = Unit {0}

pub first_else : (n : ℕ) (change : Change) → AreElse (first_lines n change)
first_else n (Admits at command a d) = (tt, tt)
first_else n (Proposes s p text) = (tt, tt)
first_else n _ = tt

pub last_else : (c : Cluster) (n : ℕ) (x : UpNode) (change : Change) → IsOtherChange change → AreElse (last_lines c n x change)
last_else c n x (Promises p) is = both_else (superseded_lines p x.attempt) (unknown_lines n x.requests.waiting) (superseded_else p x.attempt) (unknown_else n x.requests.waiting)
last_else c n x (Leads p members) is = (tt, unknown_else n x.requests.waiting)
last_else c n x (Counts a k s i) is = absurd is
last_else c n x (Installs s i) is = absurd is
last_else c n x (Starts a k s) is =
    let t : AttemptState = (turn a k).after in
    let y : UpNode = starting_as c n x t s in
    let member : List Output = of_node n (note.Member t.plan.epoch) ∷ [] in
    both_else (start_lines t s) (adopted_by c t y ++ member) (tt, bases_else t.plan.epoch 0 (all_committed s.saved.entries).committed)
    (both_else (adopted_by c t y) member (adopted_else t.plan.epoch (in_force c y) y.presidency) (tt, tt))
last_else c n x (Sits s e) is = (tt, tt)
last_else c n x (Distrusts d) is = tt
last_else c n x (Admits at command a d) is = tt
last_else c n x (Proposes s p text) is = tt
last_else c n x (Acks s p q left text) is = (tt, tt)
last_else c n x (Prepares s text) is = tt
last_else c n x (Commits s) is = tt

made_other : (change : Change) → MadeAt change → IsOtherChange change
made_other (Counts a k s i) h = absurd h
made_other (Installs s i) h = absurd h
made_other _ h = tt

-- ---- acts

aside_else : (o : Output) → GivesAside o → IsElse o
aside_else (Sends to b) h = tt
aside_else (Tells e) h = entry_else e h
  where
    entry_else : (e : Entry) → IsAside e → IsElse (Tells e)
    entry_else (entry.Node k note) h = absurd h
    entry_else _ h = tt

asides_else : (os : List Output) → AllByRecursion GivesAside os → AreElse os
asides_else [] h = tt
asides_else (o ∷ os) h = (aside_else o h.0, asides_else os h.1)

-- a change that is made in memory alone
abbrev pub MadeIn : Act → Type 0
MadeIn (Makes change) = MadeAt change
MadeIn _ = Unit {0}

pub act_else : (c : Cluster) (n : ℕ) (x : UpNode) (a : Act) → MadeIn a → IsSmallAct a → AreElse (said c n x a)
act_else c n x (Hears from b) made small = tt
act_else c n x Ticks made small = (tt, ticked_else c x (later c x))
act_else c n x Waits made small = tt
act_else c n x (Goes_on a k) made small = tt
act_else c n x (Ends a e) made small = (tt, tt)
act_else c n x (Queues a d kind) made small = tt
act_else c n x (Accepts kind e members d) made small = tt
act_else c n x (Takes at command a) made small = (tt, tt)
act_else c n x (Stores d value a) made small = (tt, write_else n x d value a)
act_else c n x (Writes to b) made small = (tt, tt)
act_else c n x (Makes change) made small = both_else (first_lines n change) (last_lines c n x change) (first_else n change) (last_else c n x change (made_other change made))
act_else c n x (Gives os) made small = asides_else os small
act_else c n x (Spreads receivers b) made small = spread_else receivers b
act_else c n x (Minds q p) made small = tt
act_else c n x (Notes from place p) made small = tt
act_else c n x (Dates now) made small = tt
act_else c n x (Works w) made small = tt

pub gone_else : (n : ℕ) (change : Change) (why : DownCause) → AreElse (first_lines n change ++ gone_line n why)
gone_else n change why = both_else (first_lines n change) (gone_line n why) (first_else n change) (tt, tt)

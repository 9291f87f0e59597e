-- What a node gives by a small step tells of devices what is so.
use Rattle.std.specs.Prelude.{ℕ, ◌+◌, List, [], ◌∷◌, ◌++◌, Option, None, Some, flat_map, map, Ok, Err}
use Rattle.ccr_commit.specs.Entries.{all_committed}
use Rattle.cl_base.specs.Limits.{most_nodes}
use Rattle.cl_base.specs.Numbers.{numbers_to}
use Rattle.cluster_machine.specs.Cluster.{Cluster as Whole}
use Rattle.cmm_attempt.proofs.Basics.{if_either}
use Rattle.cmm_attempt.specs.Attempts.{AttemptState}
use Rattle.cmm_attempt.specs.Calls.{turn}
use Rattle.heartbeats.specs.Views.{receivers_of}
use Rattle.node_model.specs.Attempts.{adopted_line, adopted_lines, adopted_of, adopted_on, base_lines, is_adopted, starting_as}
use Rattle.node_model.specs.Configurations.{configured_at, in_force}
use Rattle.node_model.specs.Entries.{unknown_line, unknown_lines}
use Rattle.node_model.specs.Presidents.{sent_to}
use Rattle.node_model.specs.Seats.{coordinator_of}
use Rattle.node_model.specs.Ticks.{heartbeat_of, heartbeats_to, later, ticked_output}
use Rattle.node_model.specs.Updates.{request_again, request_again_by, request_again_to}
use Rattle.node_model.specs.declared.cluster.Cluster.{Cluster}
use Rattle.node_model.specs.declared.node.UpNode.{UpNode}
use Rattle.node_model.specs.declared.output.Output.{Output}
use Rattle.node_model.specs.declared.output.Output.TheVariants.{Sends, Tells}
use Rattle.node_model.specs.declared.presidency.Presidency.{Presidency}
use Rattle.pgr_device.specs.declared.command.PrAnswer.TheVariants as given
use Rattle.refinement.specs.Doings.{Change, adopted_by, first_lines, gone_line, last_lines, saved_lines, start_lines, superseded_lines, write_lines}
use Rattle.refinement.specs.Doings.Change.{Acks, Admits, Commits, Counts, Distrusts, Installs, Leads, Prepares, Promises, Proposes, Sits, Starts}
use Rattle.refinement.specs.Guards.{TellNothing, TellsNothing}
use Rattle.request_queue.specs.Queue.{goes_again, oldest}
use Rattle.request_queue.specs.declared.request.Request.{Request}
use Rattle.rg_view.specs.States as states
use Rattle.seize.specs.Answers.{Answer}
use Rattle.status_report.specs.declared.node_entry.DownCause.{DownCause}
use Rattle.wire.specs.declared.message.Body.{Body}
use Rattle.wire.specs.declared.message.Body.TheVariants as body
use Rattle.cluster_ties.specs.Told.{ToldOf}
use Rattle.run_history.specs.Guards.{IsPlainBody}
use Rattle.run_history.specs.Sites.{AllToldOf}
use Rattle.run_history.proofs.Stays.{told_of_append}

-- nothing but lines
abbrev pub Mute : List Output → Type 0
Mute [] = Unit {0}
Mute (Tells e ∷ os) = Mute os
Mute (Sends to b ∷ os) = ⊥

pub mute_told : (W : Whole) (n : ℕ) (os : List Output) → Mute os → AllToldOf W n os
mute_told W n [] h = tt
mute_told W n (Tells e ∷ os) h = mute_told W n os h
mute_told W n (Sends to b ∷ os) h = absurd h

pub mute_append : (os more : List Output) → Mute os → Mute more → Mute (os ++ more)
mute_append [] more h k = k
mute_append (Tells e ∷ os) more h k = mute_append os more h k
mute_append (Sends to b ∷ os) more h k = absurd h

mute_each : {X : Type 0} → (f : X → List Output) (xs : List X) → ((x : X) → Mute (f x)) → Mute (flat_map f xs)
mute_each f [] h = tt
mute_each f (x ∷ xs) h = mute_append (f x) (flat_map f xs) (h x) (mute_each f xs h)

mute_base : (e before : ℕ) (texts : List (List ℕ)) → Mute (base_lines e before texts)
mute_base e before [] = tt
mute_base e before (text ∷ texts) = mute_base e (before + 1) texts

mute_superseded : (p : ℕ) (o : Option AttemptState) → Mute (superseded_lines p o)
mute_superseded p None = tt
mute_superseded p (Some a) = tt

mute_unknown : (n : ℕ) (rs : List Request) → Mute (unknown_lines n rs)
mute_unknown n [] = tt
mute_unknown n (r ∷ rs) = mute_append (unknown_line n r) (unknown_lines n rs) (one_unknown r) (mute_unknown n rs)
  where
    one_unknown : (q : Request) → Mute (unknown_line n q)
    one_unknown q = if_either Mute q.told _ [] tt tt

mute_adopted : (c : Cluster) (a : AttemptState) (y : UpNode) → Mute (adopted_by c a y)
unfolding adopted_lines
mute_adopted c a y = by_presidency y.presidency
  where
    by_presidency : (o : Option Presidency) → Mute (adopted_of a.plan.epoch (in_force c y) o)
    by_presidency None = tt
    by_presidency (Some p) =
        mute_each (adopted_on a.plan.epoch p.groups.view (in_force c y).groups.resources) (numbers_to p.groups.view.members most_nodes)
        (λ m. mute_each (λ r. adopted_line a.plan.epoch m r.0 (states.state_of p.groups.view.resources r.0 m)) (in_force c y).groups.resources
        (λ r. if_either Mute (is_adopted (states.state_of p.groups.view.resources r.0 m)) _ [] tt tt))

pub mute_first : (n : ℕ) (ch : Change) → Mute (first_lines n ch)
mute_first n (Admits at command a d) = tt
mute_first n (Proposes s p text) = tt
mute_first n (Acks s p q left text) = tt
mute_first n (Prepares s text) = tt
mute_first n (Commits s) = tt
mute_first n (Promises p) = tt
mute_first n (Leads p members) = tt
mute_first n (Counts a k s i) = tt
mute_first n (Installs s i) = tt
mute_first n (Starts a k s) = tt
mute_first n (Sits s e) = tt
mute_first n (Distrusts d) = tt

pub mute_last : (c : Cluster) (n : ℕ) (x : UpNode) (ch : Change) → Mute (last_lines c n x ch)
mute_last c n x (Promises p) = mute_append (superseded_lines p x.attempt) (unknown_lines n x.requests.waiting) (mute_superseded p x.attempt) (mute_unknown n x.requests.waiting)
mute_last c n x (Leads p members) = mute_unknown n x.requests.waiting
mute_last c n x (Counts a k s i) = tt
mute_last c n x (Installs s i) = tt
mute_last c n x (Starts a k s) =
    let t : AttemptState = (turn a k).after in
    let adopted : List Output = adopted_by c t (starting_as c n x t s) in
    mute_append (start_lines t s) (adopted ++ _) (mute_base t.plan.epoch 0 (all_committed s.saved.entries).committed) (mute_append adopted _ (mute_adopted c t (starting_as c n x t s)) tt)
mute_last c n x (Sits s e) = tt
mute_last c n x (Distrusts d) = tt
mute_last c n x (Admits at command a d) = tt
mute_last c n x (Proposes s p text) = tt
mute_last c n x (Acks s p q left text) = tt
mute_last c n x (Prepares s text) = tt
mute_last c n x (Commits s) = tt

pub saved_mute : (c : Cluster) (n : ℕ) (x : UpNode) (ch : Change) → Mute (first_lines n ch ++ saved_lines c n x ch)
saved_mute c n x ch = mute_append (first_lines n ch) (saved_lines c n x ch) (mute_first n ch) (mute_last c n x ch)

pub lost_mute : (n : ℕ) (ch : Change) (why : DownCause) → Mute (first_lines n ch ++ gone_line n why)
lost_mute n ch why = mute_append (first_lines n ch) (gone_line n why) (mute_first n ch) tt

pub made_mute : (c : Cluster) (n : ℕ) (x : UpNode) (ch : Change) → Mute (first_lines n ch ++ last_lines c n x ch)
made_mute c n x ch = mute_append (first_lines n ch) (last_lines c n x ch) (mute_first n ch) (mute_last c n x ch)

pub write_mute : (n : ℕ) (x : UpNode) (d value : ℕ) (a : Answer) → Mute (write_lines n x d value a)
write_mute n x d value (Ok given.Good) = tt
write_mute n x d value (Ok given.Conflict) = tt
write_mute n x d value (Ok given.InvalidRelease) = tt
write_mute n x d value (Ok given.NoPath) = tt
write_mute n x d value (Ok (given.Keys keys)) = tt
write_mute n x d value (Ok (given.Holder holder)) = tt
write_mute n x d value (Ok (given.Word w)) = tt
write_mute n x d value (Ok (given.Value v)) = tt
write_mute n x d value (Ok (given.Miscompare w)) = tt
write_mute n x d value (Err e) = tt

-- Messages that tell nothing of devices.

pub plain_told : (W : Whole) (n to : ℕ) (b : Body) → IsPlainBody b → ToldOf W n to b
plain_told W n to (body.Promise epoch installed members valid flagged committed pending) h = absurd h
plain_told W n to (body.SeizeQuorum e members d) h = absurd h
plain_told W n to (body.SeizeData e members d) h = absurd h
plain_told W n to (body.Seized e d r) h = absurd h
plain_told W n to (body.Install i) h = absurd h
plain_told W n to _ h = tt

plain_each : (W : Whole) (n : ℕ) (b : Body) (ns : List ℕ) → IsPlainBody b → AllToldOf W n (map (λ k. Sends k b) ns)
plain_each W n b [] h = tt
plain_each W n b (k ∷ ns) h = (plain_told W n k b h, plain_each W n b ns h)

pub spread_told : (W : Whole) (n receivers : ℕ) (b : Body) → IsPlainBody b → AllToldOf W n (sent_to receivers b)
unfolding sent_to
spread_told W n receivers b h = plain_each W n b (numbers_to receivers most_nodes) h

one_nothing : (W : Whole) (n to : ℕ) (b : Body) → TellsNothing (Sends to b) → ToldOf W n to b
one_nothing W n to (body.Promise epoch installed members valid flagged committed pending) h = absurd h
one_nothing W n to (body.SeizeQuorum e members d) h = absurd h
one_nothing W n to (body.SeizeData e members d) h = absurd h
one_nothing W n to (body.Seized e d r) h = absurd h
one_nothing W n to (body.Install i) h = absurd h
one_nothing W n to _ h = tt

pub nothing_told : (W : Whole) (n : ℕ) (os : List Output) → TellNothing os → AllToldOf W n os
nothing_told W n [] h = tt
nothing_told W n (Tells e ∷ os) h = nothing_told W n os h.1
nothing_told W n (Sends to b ∷ os) h = (one_nothing W n to b h.0, nothing_told W n os h.1)

-- A tick.

beats_told : (W : Whole) (n : ℕ) (x : UpNode) (ns : List ℕ) → AllToldOf W n (map (λ k. Sends k (heartbeat_of x)) ns)
beats_told W n x [] = tt
beats_told W n x (k ∷ ns) = (tt, beats_told W n x ns)

heartbeats_told : (W : Whole) (n : ℕ) (x : UpNode) (receivers : ℕ) → AllToldOf W n (heartbeats_to x receivers)
unfolding heartbeats_to
heartbeats_told W n x receivers = beats_told W n x (numbers_to receivers most_nodes)

request_told : (W : Whole) (n : ℕ) (x : UpNode) (r : Option Request) (o : Option ℕ) → AllToldOf W n (request_again_to x r o)
request_told W n x (Some r) (Some president) = (tt, tt)
request_told W n x None o = tt
request_told W n x (Some r) None = tt

request_told_by : (W : Whole) (n : ℕ) (x : UpNode) (o : Option Presidency) → AllToldOf W n (request_again_by x o)
request_told_by W n x None = if_either (λ os. AllToldOf W n os) (goes_again x.requests) (request_again_to x (oldest x.requests) (coordinator_of x)) [] (request_told W n x (oldest x.requests) (coordinator_of x)) tt
request_told_by W n x (Some p) = tt

pub tick_told : (c : Cluster) (W : Whole) (n : ℕ) (x : UpNode) → AllToldOf W n (ticked_output c x (later c x))
tick_told c W n x =
    let beats : List Output = heartbeats_to (later c x) (receivers_of (later c x).beats (configured_at c (later c x))) in
    told_of_append W n beats (request_again x) (heartbeats_told W n (later c x) (receivers_of (later c x).beats (configured_at c (later c x)))) (request_told_by W n x x.presidency)

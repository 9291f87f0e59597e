-- Which outputs of a node tell nothing of seizings.
use Rattle.std.specs.Prelude.{ℕ, ◌+◌, Err, List, None, Ok, Option, Some, [], ◌∷◌, flat_map, map}
use Rattle.cl_base.specs.Limits.{most_nodes}
use Rattle.cl_base.specs.Numbers.{numbers_to}
use Rattle.cmm_attempt.proofs.Basics.{if_either}
use Rattle.cmm_attempt.specs.Attempts.{AttemptState}
use Rattle.heartbeats.specs.Views.{receivers_of}
use Rattle.node_model.specs.Attempts.{adopted_line, adopted_lines, adopted_of, adopted_on, base_lines, is_adopted}
use Rattle.node_model.specs.Configurations.{configured_at, in_force}
use Rattle.node_model.specs.Entries.{unknown_line, unknown_lines}
use Rattle.node_model.specs.Presidents.{sent_to}
use Rattle.node_model.specs.Seats.{coordinator_of}
use Rattle.node_model.specs.Ticks.{heartbeat_of, heartbeats_to, later, ticked_output}
use Rattle.node_model.specs.Updates.{request_again, request_again_by, request_again_to}
use Rattle.node_model.specs.declared.cluster.Cluster.{Cluster}
use Rattle.node_model.specs.declared.node.UpNode.{UpNode}
use Rattle.node_model.specs.declared.output.Output.{Output}
use Rattle.node_model.specs.declared.output.Output.TheVariants.{Sends, Tells}
use Rattle.node_model.specs.declared.presidency.Presidency.{Presidency}
use Rattle.pgr_device.specs.declared.command.PrAnswer.TheVariants as given
use Rattle.refinement.specs.Doings.{adopted_by, superseded_lines, write_lines}
use Rattle.refinement.specs.Guards.{TellNothing, TellsNothing}
use Rattle.request_queue.specs.Queue.{goes_again, oldest}
use Rattle.request_queue.specs.declared.request.Request.{Request}
use Rattle.rg_view.specs.States as states
use Rattle.run_history.specs.Guards as guards
use Rattle.seize.specs.Answers.{Answer}
use Rattle.wire.specs.declared.message.Body.{Body}
use Rattle.wire.specs.declared.message.Body.TheVariants as body
use Rattle.run_devices.proofs.installs.Links.{Gives, Says, gives_append}

-- what is said of a body that is neither a Seized nor an Install
abbrev pub OfSeizings : Body → Type 0
OfSeizings (body.Seized e d r) = ⊥
OfSeizings (body.Install i) = ⊥
OfSeizings _ = Unit {0}

-- such a body says nothing
abbrev pub Silent : Says → Type 0
Silent P = (n : ℕ) (b : Body) → OfSeizings b → P n b

pub write_gives : (P : Says) (n : ℕ) (x : UpNode) (d value : ℕ) (a : Answer) → Gives P n (write_lines n x d value a)
write_gives P n x d value (Ok given.Good) = tt
write_gives P n x d value (Ok given.Conflict) = tt
write_gives P n x d value (Ok given.InvalidRelease) = tt
write_gives P n x d value (Ok given.NoPath) = tt
write_gives P n x d value (Ok (given.Keys keys)) = tt
write_gives P n x d value (Ok (given.Holder holder)) = tt
write_gives P n x d value (Ok (given.Word word)) = tt
write_gives P n x d value (Ok (given.Value v)) = tt
write_gives P n x d value (Ok (given.Miscompare word)) = tt
write_gives P n x d value (Err e) = tt

each_gives : (P : Says) (n : ℕ) (b : Body) (ns : List ℕ) → P n b → Gives P n (map (λ k. Sends k b) ns)
each_gives P n b [] k = tt
each_gives P n b (m ∷ ns) k = (k, each_gives P n b ns k)

pub spread_gives : (P : Says) (n receivers : ℕ) (b : Body) → P n b → Gives P n (sent_to receivers b)
unfolding sent_to
spread_gives P n receivers b k = each_gives P n b (numbers_to receivers most_nodes) k

plain_silent : (b : Body) → guards.IsPlainBody b → OfSeizings b
plain_silent (body.Promise epoch newest members valid flagged committed pending) k = absurd k
plain_silent (body.SeizeQuorum e members d) k = absurd k
plain_silent (body.SeizeData e members d) k = absurd k
plain_silent (body.Seized e d r) k = absurd k
plain_silent (body.Install i) k = absurd k
plain_silent _ k = tt

pub plain_spread : (P : Says) (n receivers : ℕ) (b : Body) → Silent P → guards.IsPlainBody b → Gives P n (sent_to receivers b)
plain_spread P n receivers b silent plain = spread_gives P n receivers b (silent n b (plain_silent b plain))

heartbeats_give : (P : Says) (n : ℕ) (x : UpNode) (receivers : ℕ) → Silent P → Gives P n (heartbeats_to x receivers)
unfolding heartbeats_to
heartbeats_give P n x receivers silent = each_gives P n (heartbeat_of x) (numbers_to receivers most_nodes) (silent n (heartbeat_of x) tt)

request_gives : (P : Says) (n : ℕ) (x : UpNode) (r : Option Request) (o : Option ℕ) → Silent P → Gives P n (request_again_to x r o)
request_gives P n x (Some r) (Some president) silent = (silent n _ tt, tt)
request_gives P n x None o silent = tt
request_gives P n x (Some r) None silent = tt

request_by : (P : Says) (n : ℕ) (x : UpNode) (o : Option Presidency) → Silent P → Gives P n (request_again_by x o)
request_by P n x None silent =
    if_either (λ os. Gives P n os) (goes_again x.requests) (request_again_to x (oldest x.requests) (coordinator_of x)) []
    (request_gives P n x (oldest x.requests) (coordinator_of x) silent) tt
request_by P n x (Some p) silent = tt

pub tick_gives : (P : Says) (c : Cluster) (n : ℕ) (x : UpNode) → Silent P → Gives P n (ticked_output c x (later c x))
tick_gives P c n x silent =
    let beats : List Output = heartbeats_to (later c x) (receivers_of (later c x).beats (configured_at c (later c x))) in
    gives_append P n beats (request_again x) (heartbeats_give P n (later c x) (receivers_of (later c x).beats (configured_at c (later c x))) silent)
    (request_by P n x x.presidency silent)

nothing_silent : (to : ℕ) (b : Body) → TellsNothing (Sends to b) → OfSeizings b
nothing_silent to (body.Request p number text) k = tt
nothing_silent to (body.Answer p number text) k = tt
nothing_silent to (body.Order o) k = tt
nothing_silent to _ k = absurd k

pub minor_gives : (P : Says) (n : ℕ) (os : List Output) → Silent P → TellNothing os → Gives P n os
minor_gives P n [] silent l = tt
minor_gives P n (Tells e ∷ os) silent l = minor_gives P n os silent l.1
minor_gives P n (Sends to b ∷ os) silent l = (silent n b (nothing_silent to b l.0), minor_gives P n os silent l.1)

-- ---- lines

pub superseded_gives : (P : Says) (n p : ℕ) (o : Option AttemptState) → Gives P n (superseded_lines p o)
superseded_gives P n p None = tt
superseded_gives P n p (Some a) = tt

pub unknown_gives : (P : Says) (n : ℕ) (rs : List Request) → Gives P n (unknown_lines n rs)
unknown_gives P n [] = tt
unknown_gives P n (r ∷ rs) = gives_append P n (unknown_line n r) (unknown_lines n rs) (if_either (λ os. Gives P n os) r.told _ [] tt tt) (unknown_gives P n rs)

pub bases_give : (P : Says) (n e k : ℕ) (texts : List (List ℕ)) → Gives P n (base_lines e k texts)
bases_give P n e k [] = tt
bases_give P n e k (text ∷ texts) = bases_give P n e (k + 1) texts

each_of : {X : Type 0} (P : Says) (n : ℕ) (f : X → List Output) (xs : List X) → ((x : X) → Gives P n (f x)) → Gives P n (flat_map f xs)
each_of P n f [] k = tt
each_of P n f (x ∷ xs) k = gives_append P n (f x) (flat_map f xs) (k x) (each_of P n f xs k)

pub adopted_give : (P : Says) (n : ℕ) (c : Cluster) (a : AttemptState) (y : UpNode) → Gives P n (adopted_by c a y)
unfolding adopted_lines
adopted_give P n c a y = by_presidency y.presidency
  where
    by_presidency : (o : Option Presidency) → Gives P n (adopted_of a.plan.epoch (in_force c y) o)
    by_presidency None = tt
    by_presidency (Some p) =
        each_of P n (adopted_on a.plan.epoch p.groups.view (in_force c y).groups.resources) (numbers_to p.groups.view.members most_nodes)
        (λ m. each_of P n (λ r. adopted_line a.plan.epoch m r.0 (states.state_of p.groups.view.resources r.0 m)) (in_force c y).groups.resources
        (λ r. if_either (λ os. Gives P n os) (is_adopted (states.state_of p.groups.view.resources r.0 m)) _ [] tt tt))

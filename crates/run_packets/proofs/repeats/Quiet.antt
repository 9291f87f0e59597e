-- Lines that say nothing of updates, and messages that are no Prepares.
use Rattle.std.specs.Prelude.{ℕ, ◌+◌, ◌++◌, List, [], ◌∷◌, Option, None, Some, Ok}
use Rattle.ccr_commit.specs.Entries.{all_committed}
use Rattle.ccr_tables.specs.State.{ConfigState}
use Rattle.cl_base.specs.Limits.{most_nodes}
use Rattle.cl_base.specs.Numbers.{numbers_to}
use Rattle.cmm_attempt.proofs.Basics.{if_either}
use Rattle.cmm_attempt.specs.Attempts.{AttemptState}
use Rattle.cmm_attempt.specs.Calls.{turn}
use Rattle.heartbeats.specs.Views.{receivers_of}
use Rattle.node_model.specs.Attempts.{adopted_line, adopted_lines, adopted_of, adopted_on, base_lines, is_adopted, starting_as}
use Rattle.node_model.specs.Configurations.{configured_at, in_force}
use Rattle.node_model.specs.Entries.{unknown_line, unknown_lines}
use Rattle.node_model.specs.Presidents.{sent_to}
use Rattle.node_model.specs.Seats.{coordinator_of}
use Rattle.node_model.specs.Ticks.{heartbeat_of, heartbeats_to, ticked_output}
use Rattle.node_model.specs.Updates.{request_again, request_again_by, request_again_to}
use Rattle.node_model.specs.declared.cluster.Cluster.{Cluster}
use Rattle.node_model.specs.declared.node.UpNode.{UpNode}
use Rattle.node_model.specs.declared.output.Output.{Output}
use Rattle.node_model.specs.declared.output.Output.TheVariants.{Sends, Tells}
use Rattle.node_model.specs.declared.presidency.Presidency.{Presidency}
use Rattle.pgr_device.specs.declared.command.PrAnswer.TheVariants as given
use Rattle.refinement.specs.Doings.{Change, adopted_by, first_lines, last_lines, saved_lines, start_lines, superseded_lines, write_lines}
use Rattle.refinement.specs.Doings.Change.{Acks, Admits, Commits, Counts, Distrusts, Installs, Leads, Prepares, Promises, Proposes, Sits, Starts}
use Rattle.refinement.specs.Guards.{TellNothing}
use Rattle.request_queue.specs.Queue as requests
use Rattle.request_queue.specs.declared.request.Request.{Request}
use Rattle.rg_props.specs.declared.group.Resource.{Resource}
use Rattle.rg_view.specs.States as states
use Rattle.rg_view.specs.declared.view.GroupView.{GroupView}
use Rattle.run_history.proofs.Lists.{both, mapped, of_each}
use Rattle.run_history.specs.Marks.{AreMinor}
use Rattle.seize.specs.Answers.{Answer}
use Rattle.status_report.specs.declared.entry.Entry.TheVariants as entry
use Rattle.wire.specs.declared.message.Body.{Body}
use Rattle.wire.specs.declared.message.Body.TheVariants as body
use Rattle.run_packets.specs.repeats.Ages.{NoPrepare}
use Rattle.run_packets.proofs.repeats.Lines.{ArePlain, AreQuiet, PlainOut, QuietOut}

-- ---- changes

superseded_quiet : (p : ℕ) (o : Option AttemptState) → AreQuiet (superseded_lines p o)
superseded_quiet p None = tt
superseded_quiet p (Some a) = (tt, tt)

unknown_quiet : (n : ℕ) (rs : List Request) → AreQuiet (unknown_lines n rs)
unknown_quiet n [] = tt
unknown_quiet n (r ∷ rs) = both QuietOut (unknown_line n r) (unknown_lines n rs) (if_either AreQuiet r.told _ [] (tt, tt) tt) (unknown_quiet n rs)

bases_quiet : (e before : ℕ) (texts : List (List ℕ)) → AreQuiet (base_lines e before texts)
bases_quiet e before [] = tt
bases_quiet e before (text ∷ texts) = (tt, bases_quiet e (before + 1) texts)

adopted_lines_quiet : (e : ℕ) (v : GroupView) (resources : List (List ℕ × Resource)) → AreQuiet (adopted_lines e v resources)
unfolding adopted_lines
adopted_lines_quiet e v resources =
    of_each QuietOut (adopted_on e v resources) (numbers_to v.members most_nodes)
    (λ k. of_each QuietOut (λ x. adopted_line e k x.0 (states.state_of v.resources x.0 k)) resources
    (λ x. if_either AreQuiet (is_adopted (states.state_of v.resources x.0 k)) _ [] (tt, tt) tt))

adopted_quiet : (e : ℕ) (s : ConfigState) (o : Option Presidency) → AreQuiet (adopted_of e s o)
adopted_quiet e s None = tt
adopted_quiet e s (Some p) = adopted_lines_quiet e p.groups.view s.groups.resources

-- a change that is about no update
abbrev pub NoUpdate : Change → Type 0
NoUpdate (Proposes s p text) = ⊥
NoUpdate (Acks s p q left text) = ⊥
NoUpdate _ = Unit {0}

pub first_quiet : (n : ℕ) (change : Change) → NoUpdate change → AreQuiet (first_lines n change)
first_quiet n (Admits at command a d) none = (tt, tt)
first_quiet n (Proposes s p text) none = absurd none
first_quiet n _ none = tt

pub last_quiet : (c : Cluster) (n : ℕ) (x : UpNode) (change : Change) → NoUpdate change → AreQuiet (last_lines c n x change)
last_quiet c n x (Promises p) none = both QuietOut (superseded_lines p x.attempt) (unknown_lines n x.requests.waiting) (superseded_quiet p x.attempt) (unknown_quiet n x.requests.waiting)
last_quiet c n x (Leads p members) none = (tt, unknown_quiet n x.requests.waiting)
last_quiet c n x (Counts a k s i) none = (tt, tt)
last_quiet c n x (Installs s i) none = (tt, tt)
last_quiet c n x (Starts a k s) none =
    let t : AttemptState = (turn a k).after in
    let y : UpNode = starting_as c n x t s in
    both QuietOut (start_lines t s) _ (tt, bases_quiet t.plan.epoch 0 (all_committed s.saved.entries).committed)
    (both QuietOut (adopted_by c t y) _ (adopted_quiet t.plan.epoch (in_force c y) y.presidency) (tt, tt))
last_quiet c n x (Sits s e) none = (tt, tt)
last_quiet c n x (Distrusts d) none = tt
last_quiet c n x (Admits at command a d) none = tt
last_quiet c n x (Proposes s p text) none = absurd none
last_quiet c n x (Acks s p q left text) none = absurd none
last_quiet c n x (Prepares s text) none = tt
last_quiet c n x (Commits s) none = tt

pub made_quiet : (c : Cluster) (n : ℕ) (x : UpNode) (change : Change) → NoUpdate change → AreQuiet (first_lines n change ++ last_lines c n x change)
made_quiet c n x change none = both QuietOut (first_lines n change) (last_lines c n x change) (first_quiet n change none) (last_quiet c n x change none)

pub saved_quiet : (c : Cluster) (n : ℕ) (x : UpNode) (change : Change) → NoUpdate change → AreQuiet (first_lines n change ++ saved_lines c n x change)
saved_quiet c n x change none = both QuietOut (first_lines n change) (saved_lines c n x change) (first_quiet n change none) (tt, last_quiet c n x change none)

-- ---- acts

pub given_quiet : (os : List Output) → AreMinor os → TellNothing os → AreQuiet os
given_quiet [] minor none = tt
given_quiet (Tells (entry.Command e) ∷ os) minor none = (tt, given_quiet os minor.1 none.1)
given_quiet (Tells (entry.Call e) ∷ os) minor none = (tt, given_quiet os minor.1 none.1)
given_quiet (Tells (entry.Status e) ∷ os) minor none = (tt, given_quiet os minor.1 none.1)
given_quiet (Tells (entry.Address e) ∷ os) minor none = (tt, given_quiet os minor.1 none.1)
given_quiet (Tells _ ∷ os) minor none = absurd minor.0
given_quiet (Sends to (body.Prepare e v text) ∷ os) minor none = absurd none.0
given_quiet (Sends to b ∷ os) minor none = (tt, given_quiet os minor none.1)

pub write_quiet : (n : ℕ) (x : UpNode) (d value : ℕ) (a : Answer) → AreQuiet (write_lines n x d value a)
write_quiet n x d value (Ok given.Good) = (tt, tt)
write_quiet n x d value (Ok given.Conflict) = (tt, tt)
write_quiet n x d value _ = (tt, tt)

pub spread_quiet : (receivers : ℕ) (b : Body) → NoPrepare b → AreQuiet (sent_to receivers b)
unfolding sent_to
spread_quiet receivers b none = mapped QuietOut (λ k. Sends k b) (numbers_to receivers most_nodes) (λ k. none)

pub spread_plain : (receivers : ℕ) (b : Body) → ArePlain (sent_to receivers b)
unfolding sent_to
spread_plain receivers b = mapped PlainOut (λ k. Sends k b) (numbers_to receivers most_nodes) (λ k. tt)

again_to_quiet : (x : UpNode) (r : Option Request) (o : Option ℕ) → AreQuiet (request_again_to x r o)
again_to_quiet x (Some r) (Some president) = (tt, tt)
again_to_quiet x None president = tt
again_to_quiet x (Some r) None = tt

again_by_quiet : (x : UpNode) (o : Option Presidency) → AreQuiet (request_again_by x o)
again_by_quiet x None =
    if_either AreQuiet (requests.goes_again x.requests) (request_again_to x (requests.oldest x.requests) (coordinator_of x)) []
    (again_to_quiet x (requests.oldest x.requests) (coordinator_of x)) tt
again_by_quiet x (Some p) = tt

beats_quiet : (x : UpNode) (receivers : ℕ) → AreQuiet (heartbeats_to x receivers)
unfolding heartbeats_to
beats_quiet x receivers = mapped QuietOut (λ k. Sends k (heartbeat_of x)) (numbers_to receivers most_nodes) (λ k. tt)

pub ticked_quiet : (c : Cluster) (x y : UpNode) → AreQuiet (ticked_output c x y)
ticked_quiet c x y =
    both QuietOut (heartbeats_to y (receivers_of y.beats (configured_at c y))) (request_again x) (beats_quiet y (receivers_of y.beats (configured_at c y))) (again_by_quiet x x.presidency)

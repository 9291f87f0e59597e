-- The lines of changes are of no message, and of a command they say no more than that it is not known what comes of it.
use Rattle.std.specs.Prelude.{ℕ, ◌+◌, List, [], ◌∷◌, Option, None, Some}
use Rattle.std.proofs.Common.{refl}
use Rattle.std.specs.List.{AllByRecursion}
use Rattle.ccr_tables.specs.State.{ConfigState}
use Rattle.cl_base.specs.Limits.{most_nodes}
use Rattle.cl_base.specs.Numbers.{numbers_to}
use Rattle.cmm_attempt.specs.Attempts.{AttemptState}
use Rattle.cmm_attempt.proofs.Basics.{if_either}
use Rattle.node_model.specs.Attempts.{adopted_line, adopted_lines, adopted_of, adopted_on, base_lines, is_adopted}
use Rattle.node_model.specs.declared.cluster.Cluster.{Cluster}
use Rattle.node_model.specs.declared.node.UpNode.{UpNode}
use Rattle.node_model.specs.declared.output.Output.{Output}
use Rattle.node_model.specs.declared.presidency.Presidency.{Presidency}
use Rattle.node_model.specs.Entries.{unknown_line, unknown_lines}
use Rattle.refinement.specs.Doings.{Change, first_lines, superseded_lines}
use Rattle.refinement.specs.Doings.Change.{Acks, Admits, Commits, Counts, Distrusts, Installs, Leads, Prepares, Promises, Proposes, Sits, Starts}
use Rattle.request_queue.specs.declared.request.Request.{Request}
use Rattle.rg_props.specs.declared.group.Resource.{Resource}
use Rattle.rg_view.specs.States as states
use Rattle.rg_view.specs.declared.states.ResourceAt.{ResourceAt}
use Rattle.rg_view.specs.declared.view.GroupView.{GroupView}
use Rattle.run_history.proofs.Lists.{both, of_each}
use Rattle.cmm_attempt.specs.Calls.{turn}
use Rattle.node_model.specs.Attempts.{starting_as}
use Rattle.ccr_commit.specs.Entries.{all_committed}
use Rattle.node_model.specs.Configurations.{in_force}
use Rattle.refinement.specs.Doings.{last_lines, start_lines, adopted_by}
use Rattle.run_commands.proofs.carried.Carried.{IsMute}

abbrev pub AreMute : List Output → Type 0
AreMute os = AllByRecursion IsMute os

superseded_mute : (p : ℕ) (o : Option AttemptState) → AreMute (superseded_lines p o)
superseded_mute p None = tt
superseded_mute p (Some a) = (tt, tt)

unknown_mute : (me : ℕ) (rs : List Request) → AreMute (unknown_lines me rs)
unknown_mute me [] = tt
unknown_mute me (r ∷ rs) = both IsMute (unknown_line me r) (unknown_lines me rs) (if_either AreMute r.told _ [] (refl, tt) tt) (unknown_mute me rs)

base_mute : (e before : ℕ) (texts : List (List ℕ)) → AreMute (base_lines e before texts)
base_mute e before [] = tt
base_mute e before (text ∷ texts) = (tt, base_mute e (before + 1) texts)

line_mute : (e n : ℕ) (r : List ℕ) (s : ResourceAt) → AreMute (adopted_line e n r s)
line_mute e n r s = if_either AreMute (is_adopted s) _ [] (tt, tt) tt

lines_mute : (e : ℕ) (v : GroupView) (resources : List (List ℕ × Resource)) → AreMute (adopted_lines e v resources)
unfolding adopted_lines
lines_mute e v resources =
    of_each IsMute (adopted_on e v resources) (numbers_to v.members most_nodes)
    (λ n. of_each IsMute (λ x. adopted_line e n x.0 (states.state_of v.resources x.0 n)) resources (λ x. line_mute e n x.0 (states.state_of v.resources x.0 n)))

adopted_mute : (e : ℕ) (s : ConfigState) (o : Option Presidency) → AreMute (adopted_of e s o)
adopted_mute e s None = tt
adopted_mute e s (Some p) = lines_mute e p.groups.view s.groups.resources

pub last_mute : (c : Cluster) (me : ℕ) (x : UpNode) (change : Change) → AreMute (last_lines c me x change)
last_mute c me x (Promises p) = both IsMute (superseded_lines p x.attempt) (unknown_lines me x.requests.waiting) (superseded_mute p x.attempt) (unknown_mute me x.requests.waiting)
last_mute c me x (Leads p members) = (tt, unknown_mute me x.requests.waiting)
last_mute c me x (Counts a k s i) = (tt, tt)
last_mute c me x (Installs s i) = (tt, tt)
last_mute c me x (Starts a k s) =
    let t : AttemptState = (turn a k).after in
    let y : UpNode = starting_as c me x t s in
    both IsMute (start_lines t s) _ (tt, base_mute t.plan.epoch 0 (all_committed s.saved.entries).committed)
    (both IsMute (adopted_by c t y) _ (adopted_mute t.plan.epoch (in_force c y) y.presidency) (tt, tt))
last_mute c me x (Sits s e) = (tt, tt)
last_mute c me x (Distrusts d) = tt
last_mute c me x (Admits at command a d) = tt
last_mute c me x (Proposes s p text) = tt
last_mute c me x (Acks s p q left text) = (tt, tt)
last_mute c me x (Prepares s text) = tt
last_mute c me x (Commits s) = tt

pub first_mute : (me : ℕ) (change : Change) → AreMute (first_lines me change)
first_mute me (Admits at command a d) = (tt, tt)
first_mute me (Proposes s p text) = (tt, tt)
first_mute me (Promises p) = tt
first_mute me (Leads p members) = tt
first_mute me (Counts a k s i) = tt
first_mute me (Installs s i) = tt
first_mute me (Starts a k s) = tt
first_mute me (Sits s e) = tt
first_mute me (Distrusts d) = tt
first_mute me (Acks s p q left text) = tt
first_mute me (Prepares s text) = tt
first_mute me (Commits s) = tt

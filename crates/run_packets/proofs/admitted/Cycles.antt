-- A cycle that is told names what is there.
use Rattle.std.specs.Prelude.{ℕ, zero, suc, ◌-◌, ◌≡◌, ◌≢◌, ◌≤◌, List, [], ◌∷◌, length, Option, None, Some, IfSome, Result, Ok, Err, option_map, slice_get}
use Rattle.std.specs.List.{AllByRecursion, cons_option}
use Rattle.std.proofs.Common.{refl, ap, subst, arith}
use Rattle.admin_commands.specs.Orders.{cycle, cycle_of, makes_order}
use Rattle.answer_words.specs.Laws.{IsRefusal}
use Rattle.ccr_tables.specs.Changes as changes
use Rattle.ccr_tables.specs.Changes.{applied, changed}
use Rattle.ccr_tables.specs.Refusals.{refusal_of}
use Rattle.ccr_tables.specs.State.{ConfigState}
use Rattle.ccr_tables.specs.declared.update.Update.{Update}
use Rattle.cl_base.specs.Names.{IsName}
use Rattle.cl_base.specs.declared.header.Header.{Header}
use Rattle.cl_base.specs.declared.header.Version.{Version}
use Rattle.cl_base.specs.declared.refusal.Refusal.TheVariants as refusal
use Rattle.cmm_attempt.proofs.Basics.{if_either}
use Rattle.order_laws.specs.Laws.{ToldCyclesHaveNames}
use Rattle.rg_deps.specs.Orderings as orderings
use Rattle.rg_deps.specs.Orderings.{cycle_in, first_cycle, resource_cycle}
use Rattle.rg_deps.specs.Cycles.{arrangement}
use Rattle.rg_deps.specs.Edges.{group_edges, resource_edges}
use Rattle.rg_deps.specs.Things.{group_things, names_at, resource_things}
use Rattle.rg_props.specs.Table.{GroupTable}
use Rattle.rg_props.specs.declared.group.Group.{Group}
use Rattle.rg_props.specs.declared.group.Resource.{Resource}
use Rattle.row_laws.proofs.Sound.{IsSound}
use Rattle.word_laws.specs.Spelled.{IsSpelled}
use Rattle.run_packets.proofs.admitted.Made.{Made, given_of, made_more, of_map, sound_of}
use Rattle.run_packets.proofs.admitted.Found.{keys_of}

-- ---- cycles

get_named : {X : Type 0} (things : List (List ℕ × X)) (k : ℕ) → AllByRecursion (λ (p : List ℕ × X). IsName p.0) things → IfSome (slice_get things k) (λ (p : List ℕ × X). IsName p.0)
get_named [] k h = tt
get_named (p ∷ things) zero h = h.0
get_named (p ∷ things) (suc k) h = get_named things k h.1

cons_named : (o : Option (List ℕ)) (names : List (List ℕ)) → IfSome o IsName → AllByRecursion IsName names → AllByRecursion IsName (cons_option o names)
cons_named None names h k = k
cons_named (Some name) names h k = (h, k)

names_named : {X : Type 0} (things : List (List ℕ × X)) (places : List ℕ) → AllByRecursion (λ (p : List ℕ × X). IsName p.0) things → AllByRecursion IsName (names_at things places)
names_named things [] h = tt
names_named {X} things (k ∷ places) h =
    cons_named (option_map (λ (e : List ℕ × X). e.0) (slice_get things k)) (names_at things places)
    (of_map (λ (p : List ℕ × X). IsName p.0) IsName (λ p. p.0) (slice_get things k) (λ p n. n) (get_named things k h)) (names_named things places h)

cycle_named : {X : Type 0} (things : List (List ℕ × X)) (r : Result (List ℕ) (List ℕ)) → AllByRecursion (λ (p : List ℕ × X). IsName p.0) things → IfSome (cycle_in things r) (AllByRecursion IsName)
cycle_named things (Ok places) h = tt
cycle_named things (Err places) h = names_named things places h

or_cycle : (a b : Option (List (List ℕ))) → IfSome a (AllByRecursion IsName) → IfSome b (AllByRecursion IsName) → IfSome (orderings.or_else a b) (AllByRecursion IsName)
or_cycle None b h k = k
or_cycle (Some names) b h k = h

order_named : (t : GroupTable) → AllByRecursion (λ (q : List ℕ × Group). IsName q.0) t.groups → AllByRecursion (λ (q : List ℕ × Resource). IsName q.0) t.resources
    → IfSome (first_cycle t) (AllByRecursion IsName)
order_named t groups resources =
    or_cycle (cycle_in t.groups (arrangement (group_things t) (group_edges t))) (resource_cycle t) (cycle_named t.groups (arrangement (group_things t) (group_edges t)) groups)
    (cycle_named t.resources (arrangement (resource_things t) (resource_edges t)) resources)

some_long : (names : List (List ℕ)) → names ≢ [] → 1 ≤ length names
some_long [] ne = absurd (ne refl)
some_long (name ∷ names) ne = omega arith

cycle_of_good : ToldCyclesHaveNames → (t : GroupTable) → IfSome (first_cycle t) (AllByRecursion IsName) → IfSome (cycle_of t) IsRefusal
unfolding cycle_of
cycle_of_good law t all = by (first_cycle t) refl all
  where
    by : (o : Option (List (List ℕ))) → first_cycle t ≡ o → IfSome o (AllByRecursion IsName) → IfSome (option_map (λ names. refusal.Cycle names) o) IsRefusal
    by None is h = tt
    by (Some names) is h = (some_long names (law t names is), h)

pub cycle_good : ToldCyclesHaveNames → (h : Header) (v : Version) (s : ConfigState) (u : Update) → Made h s → IsSpelled v u → refusal_of s u ≡ None → IfSome (cycle s u) IsRefusal
cycle_good law h v s u k p none =
    if_either (λ o. IfSome o IsRefusal) (makes_order s u) (cycle_of (changed s u).groups) None (cycle_of_good law (changed s u).groups (order_named (changed s u).groups groups resources)) tt
  where
    sound : IsSound (applied s u)
    sound = sound_of h (applied s u) (made_more h s u (given_of v u p) k)

    same : (applied s u).groups ≡ (changed s u).groups
    same = ap (λ o. (changes.unless_refused s u o).groups) none

    groups : AllByRecursion (λ (q : List ℕ × Group). IsName q.0) (changed s u).groups.groups
    groups = subst (λ (t : GroupTable). AllByRecursion (λ (q : List ℕ × Group). IsName q.0) t.groups) same (keys_of _ (applied s u).groups.groups sound.groups)

    resources : AllByRecursion (λ (q : List ℕ × Resource). IsName q.0) (changed s u).groups.resources
    resources = subst (λ (t : GroupTable). AllByRecursion (λ (q : List ℕ × Resource). IsName q.0) t.resources) same (keys_of _ (applied s u).groups.resources sound.resources)

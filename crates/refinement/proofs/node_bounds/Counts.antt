-- How many messages lists of outputs hold.
use Rattle.std.specs.Prelude.{ℕ, zero, suc, ◌+◌, ◌≡◌, ◌≤◌, ◌++◌, Bool, List, [], ◌∷◌, length, flat_map, map, filter, Option, None, Some, if◌then◌else◌}
use Rattle.std.specs.List.{cons_option, filter_map}
use Rattle.std.proofs.Common.{refl, ap, ◌∙◌, arith}
use Rattle.std.proofs.lemmas.List.{length-append}
use Rattle.cl_base.specs.Limits.{most_nodes}
use Rattle.cl_base.specs.Numbers.{numbers_to}
use Rattle.cl_base.specs.Sets.{has}
use Rattle.cl_base.proofs.SetLemmas.{none_of_zero}
use Rattle.cmm_attempt.proofs.Basics.{if_either}
use Rattle.ccr_tables.specs.State.{ConfigState}
use Rattle.request_queue.specs.declared.request.Request.{Request}
use Rattle.rg_props.specs.declared.group.Resource.{Resource}
use Rattle.rg_view.specs.States as states
use Rattle.rg_view.specs.declared.view.GroupView.{GroupView}
use Rattle.status_report.specs.declared.command_entry.Answer.{Answer}
use Rattle.status_report.specs.declared.status_entry.StatusEntry.{StatusEntry}
use Rattle.wire.specs.declared.message.Body.{Body}
use Rattle.node_model.specs.declared.node.UpNode.{UpNode}
use Rattle.node_model.specs.declared.output.Output.{Output}
use Rattle.node_model.specs.declared.output.Output.TheVariants.{Tells, Sends}
use Rattle.node_model.specs.declared.presidency.Presidency.{Presidency}
use Rattle.node_model.specs.Attempts.{adopted_line, adopted_lines, adopted_of, adopted_on, base_lines, is_adopted}
use Rattle.node_model.specs.Entries.{unknown_line, unknown_lines}
use Rattle.node_model.specs.Presidents.{own_line, sent_to, told_lines}
use Rattle.node_model.specs.Ticks.{heartbeat_of, heartbeats_to}
use Rattle.refinement.specs.node_bounds.Sends.{sends_of}

pub sends_append : (first second : List Output) → sends_of (first ++ second) ≡ sends_of first + sends_of second
sends_append [] second = omega arith
sends_append (Tells e ∷ os) second = sends_append os second
sends_append (Sends to b ∷ os) second = omega (arith, sends_append os second)

-- Lists no longer than others.

pub filtered_few : {X : Type 0} (f : X → Bool) (xs : List X) (k : ℕ) → length xs ≤ k → length (filter f xs) ≤ k
filtered_few f [] k h = h
filtered_few f (x ∷ xs) zero h = absurd (omega (arith, h))
filtered_few f (x ∷ xs) (suc k) h =
    let rest : length (filter f xs) ≤ k = filtered_few f xs k (omega (arith, h)) in
    if_either (λ ys. length ys ≤ suc k) (f x) (x ∷ filter f xs) (filter f xs) (omega (arith, rest)) (omega (arith, rest))

pub found_few : {X Y : Type 0} (f : X → Option Y) (xs : List X) (k : ℕ) → length xs ≤ k → length (filter_map f xs) ≤ k
found_few f [] k h = h
found_few f (x ∷ xs) zero h = absurd (omega (arith, h))
found_few f (x ∷ xs) (suc k) h = one (f x) (filter_map f xs) (found_few f xs k (omega (arith, h)))
  where
    one : {Y : Type 0} (o : Option Y) (ys : List Y) → length ys ≤ k → length (cons_option o ys) ≤ suc k
    one None ys rest = omega (arith, rest)
    one (Some y) ys rest = omega (arith, rest)

pub mapped_few : {X Y : Type 0} (f : X → Y) (xs : List X) (k : ℕ) → length xs ≤ k → length (map f xs) ≤ k
mapped_few f [] k h = h
mapped_few f (x ∷ xs) zero h = absurd (omega (arith, h))
mapped_few f (x ∷ xs) (suc k) h = omega (arith, mapped_few f xs k (omega (arith, h)))

-- a set has at most as many numbers as there may be
pub numbers_few : (set k : ℕ) → length (numbers_to set k) ≤ k
numbers_few set zero = omega arith
numbers_few set (suc k) =
    let rest : length (numbers_to set k) ≤ k = numbers_few set k in
    if_either (λ ns. length ns ≤ suc k) (has set (suc k)) (numbers_to set k ++ suc k ∷ []) (numbers_to set k)
    (omega (arith, rest, length-append (numbers_to set k) (suc k ∷ []))) (omega (arith, rest))

pub no_numbers : (k : ℕ) → numbers_to 0 k ≡ []
no_numbers zero = refl
no_numbers (suc k) = ap (λ (b : Bool). if b then numbers_to 0 k ++ suc k ∷ [] else numbers_to 0 k) (none_of_zero (suc k)) ∙ no_numbers k

-- One message to each of some nodes.

each_sends : (b : Body) (ns : List ℕ) → sends_of (map (λ n. Sends n b) ns) ≡ length ns
each_sends b [] = refl
each_sends b (n ∷ ns) = omega (arith, each_sends b ns)

same_bound : (a b k : ℕ) → a ≡ b → b ≤ k → a ≤ k
same_bound a b k e h = omega (arith, e, h)

pub sent_few : (receivers : ℕ) (b : Body) → sends_of (sent_to receivers b) ≤ 32
unfolding sent_to
sent_few receivers b = same_bound _ _ 32 (each_sends b (numbers_to receivers most_nodes)) (numbers_few receivers 32)

pub sent_to_none : (receivers : ℕ) (b : Body) → receivers ≡ 0 → sends_of (sent_to receivers b) ≡ 0
unfolding sent_to
sent_to_none receivers b e =
    each_sends b (numbers_to receivers most_nodes) ∙ (ap (λ set. length (numbers_to set 32)) e ∙ ap (λ (ns : List ℕ). length ns) (no_numbers 32))

pub heartbeats_few : (x : UpNode) (receivers : ℕ) → sends_of (heartbeats_to x receivers) ≤ 32
unfolding heartbeats_to
heartbeats_few x receivers = same_bound _ _ 32 (each_sends (heartbeat_of x) (numbers_to receivers most_nodes)) (numbers_few receivers 32)

-- Lines send nothing.

pub base_quiet : (e before : ℕ) (texts : List (List ℕ)) → sends_of (base_lines e before texts) ≡ 0
base_quiet e before [] = refl
base_quiet e before (text ∷ texts) = base_quiet e (before + 1) texts

each_quiet : {X : Type 0} (f : X → List Output) (xs : List X) → ((x : X) → sends_of (f x) ≡ 0) → sends_of (flat_map f xs) ≡ 0
each_quiet f [] h = refl
each_quiet f (x ∷ xs) h = omega (arith, sends_append (f x) (flat_map f xs), h x, each_quiet f xs h)

lines_quiet : (e : ℕ) (v : GroupView) (resources : List (List ℕ × Resource)) → sends_of (adopted_lines e v resources) ≡ 0
unfolding adopted_lines
lines_quiet e v resources =
    each_quiet (adopted_on e v resources) (numbers_to v.members most_nodes)
    (λ n. each_quiet (λ x. adopted_line e n x.0 (states.state_of v.resources x.0 n)) resources
    (λ x. if_either (λ os. sends_of os ≡ 0) (is_adopted (states.state_of v.resources x.0 n)) _ [] refl refl))

pub adopted_quiet : (e : ℕ) (s : ConfigState) (o : Option Presidency) → sends_of (adopted_of e s o) ≡ 0
adopted_quiet e s None = refl
adopted_quiet e s (Some p) = lines_quiet e p.groups.view s.groups.resources

unknown_one : (n : ℕ) (r : Request) → sends_of (unknown_line n r) ≡ 0
unknown_one n r = if_either (λ os. sends_of os ≡ 0) r.told _ [] refl refl

pub unknown_quiet : (n : ℕ) (rs : List Request) → sends_of (unknown_lines n rs) ≡ 0
unknown_quiet n [] = refl
unknown_quiet n (r ∷ rs) = omega (arith, sends_append (unknown_line n r) (unknown_lines n rs), unknown_one n r, unknown_quiet n rs)

pub own_quiet : (n : ℕ) (told : Answer) (o : Option Request) → sends_of (own_line n told o) ≡ 0
own_quiet n told None = refl
own_quiet n told (Some r) = if_either (λ os. sends_of os ≡ 0) r.told _ [] refl refl

pub told_quiet : (lines : List StatusEntry) → sends_of (told_lines lines) ≡ 0
told_quiet [] = refl
told_quiet (l ∷ lines) = told_quiet lines

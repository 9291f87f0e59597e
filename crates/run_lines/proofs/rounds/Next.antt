-- The part that comes next by the lines is the one that comes next in the world, where it is told which nodes have work.
use Rattle.std.specs.Prelude.{ℕ, zero, suc, ◌+◌, ◌-◌, ◌==◌, ◌≡◌, ◌≤◌, ◌<◌, ◌&&◌, nat_lt, Bool, true, false, List, [], ◌∷◌, filter, Option, None, Some, is_some, if◌then◌else◌}
use Rattle.std.specs.List.{AllByRecursion}
use Rattle.std.specs.Option.{option_map, option_or}
use Rattle.std.proofs.Common.{refl, sym, ap, subst, ◌∙◌, arith}
use Rattle.cmm_attempt.proofs.Basics.{false_true, none_some}
use Rattle.interconnect.specs.Links.{Links, Packet, packet_of}
use Rattle.schedule_text.specs.declared.event.Event.{Event}
use Rattle.schedule_text.specs.declared.event.Event.TheVariants as event
use Rattle.history.specs.Links.{links_after}
use Rattle.history.specs.Member.{is_up}
use Rattle.history.specs.Moment.{Moment, Part}
use Rattle.history.specs.Round as told
use Rattle.history.specs.Round.{Next, Progress, Stage}
use Rattle.history.specs.Round.Stage.{Delivering, Working, Ticking}
use Rattle.history.specs.Setting.{Setting, nodes_of}
use Rattle.refinement.specs.Runs.{Nodes}
use Rattle.world_model.specs.Rounds.{is_between}
use Rattle.world_model.specs.Worlds.{is_up_node}
use Rattle.run_history.specs.Rounds as world
use Rattle.run_history.specs.Rounds.{at, has_turn, listed, most_commands, numbers_below}
use Rattle.run_lines.specs.rounds.Following.{AllPassed, AreOf, Reckons, SameLeft, SameStage, TellsPart, TellsStage, TellsWork, next_of}
use Rattle.run_lines.specs.rounds.Laws.{in_a_row}
use Rattle.run_lines.specs.rounds.Parts as parts
use Rattle.run_lines.specs.rounds.Parts.{Works}
use Rattle.run_lines.proofs.rounds.Links.{round_same}
use Rattle.run_lines.proofs.rounds.Numbers.{listed_are, others_are}

-- ---- tests that are the same

both_tests : {A B : Type 0} (R : A → B → Type 0) (b d : Bool) (x y : A) (z w : B) → b ≡ d → (b ≡ true → R x z) → (b ≡ false → R y w) → R (if b then x else y) (if d then z else w)
both_tests R true true x y z w e f g = f refl
both_tests R true false x y z w e f g = absurd (false_true (sym e))
both_tests R false true x y z w e f g = absurd (false_true e)
both_tests R false false x y z w e f g = g refl

-- a packet between the nodes, and one that was kept and is in flight
packet_tests : {A B : Type 0} (R : A → B → Type 0) (nodes : ℕ) (t : Bool) (o : Option Packet) (x y : A) (z w : B) → ((p : Packet) → o ≡ Some p → t ≡ is_between nodes (Some p))
    → (t ≡ true → R x z) → (is_between nodes o ≡ false → R y w) → R (if is_between nodes o then x else y) (if t then if is_some o then z else w else w)
packet_tests R nodes true None x y z w right f g = g refl
packet_tests R nodes false None x y z w right f g = g refl
packet_tests R nodes true (Some p) x y z w right f g = by_kind (is_between nodes (Some p)) refl
  where
    by_kind : (b : Bool) → is_between nodes (Some p) ≡ b → R (if b then x else y) z
    by_kind true e = f refl
    by_kind false e = absurd (false_true (sym e ∙ sym (right p refl)))
packet_tests R nodes false (Some p) x y z w right f g = by_kind (is_between nodes (Some p)) refl
  where
    by_kind : (b : Bool) → is_between nodes (Some p) ≡ b → R (if b then x else y) w
    by_kind true e = absurd (false_true (right p refl ∙ e))
    by_kind false e = g e

-- ---- in a round

abbrev SameIn : Links → List Moment → ℕ → ℕ → Option (Event × world.Stage) → Option Next → Type 0
SameIn l ms left nodes None None = Unit {0}
SameIn l ms left nodes (Some z) (Some n) = (n.event ≡ z.0) × SameLeft l (Part z.0 ∷ ms) (record { left = left; nodes = nodes; stage = z.1 }) n.after
SameIn l ms left nodes _ _ = ⊥

-- what is left of a round by the lines: its rounds and its nodes
abbrev IsLeft : ℕ → ℕ → Progress → Type 0
IsLeft left nodes q = (q.left ≡ left) × (q.nodes ≡ nodes)

-- which nodes are up is told
abbrev pub UpsTold : Nodes → List Moment → Type 0
UpsTold v ms = (n : ℕ) → is_up_node (Some (v.node n)) ≡ is_up n ms

ticks_same : (v : Nodes) (l : Links) (ms : List Moment) (left nodes : ℕ) (q : Progress) → UpsTold v ms → IsLeft left nodes q → (ns : List ℕ)
    → SameIn l ms left nodes (world.next_tick v ns) (told.next_tick ms q ns)
ticks_same v l ms left nodes q ups is [] = tt
ticks_same v l ms left nodes q ups is (n ∷ ns) =
    both_tests (SameIn l ms left nodes) (is_up_node (Some (v.node n))) (is_up n ms) (Some (event.Tick n, world.Ticking ns)) (world.next_tick v ns)
    (Some (record { event = event.Tick n; after = record q { stage = Ticking ns } })) (told.next_tick ms q ns) (ups n)
    (λ t. (refl, record { left = is.0; nodes = is.1; stage = refl })) (λ f. ticks_same v l ms left nodes q ups is ns)

listed_told : (nodes : ℕ) → nodes_of nodes ≡ listed nodes
unfolding listed
listed_told nodes = refl

-- the nodes of these rounds
nodes_told : (left nodes : ℕ) (q : Progress) → IsLeft left nodes q → nodes_of q.nodes ≡ listed nodes
nodes_told left nodes q is = ap (λ k. nodes_of k) is.1 ∙ listed_told nodes

most_reckons : (ns : List ℕ) (ms : List Moment) → Reckons most_commands ns ms
most_reckons [] ms = tt
most_reckons (n ∷ ns) ms = enough most_commands (in_a_row n ms)
  where
    enough : (a b : ℕ) → a ≤ a + b
    enough a b = omega arith

may_do : (commands : ℕ) (b : Bool) → (nat_lt 0 commands && b) ≡ true → 1 ≤ commands
may_do commands b e = grind arith

-- one command more is done, and one less may be
one_done : (commands n : ℕ) (ns : List ℕ) (ms : List Moment) → 1 ≤ commands → Reckons commands (n ∷ ns) ms → Reckons (commands - 1) (n ∷ ns) (Part (event.Disk n) ∷ ms)
one_done commands n ns ms some h = subst (λ b. most_commands ≤ (commands - 1) + (if b then suc (in_a_row n ms) else 0)) (sym (is_self n)) (moved most_commands commands (in_a_row n ms) some h)
  where
    is_self : (a : ℕ) → (a == a) ≡ true
    is_self a = grind arith

    moved : (a b d : ℕ) → 1 ≤ b → a ≤ b + d → a ≤ (b - 1) + suc d
    moved a b d h k = omega (arith, h, k)

works_same : (works : Works) (coming : Option Event) (v : Nodes) (l : Links) (ms : List Moment) (left nodes : ℕ) (q : Progress) → UpsTold v ms → IsLeft left nodes q → (commands : ℕ) (ns : List ℕ)
    → AreOf nodes ns → Reckons commands ns ms → TellsWork (λ n. works coming n ms) v commands ns
    → SameIn l ms left nodes (world.next_work v nodes commands ns) (parts.next_work works coming ms q ns)
works_same works coming v l ms left nodes q ups is commands [] are reckons tells =
    subst (λ ns. SameIn l ms left nodes (world.next_tick v (listed nodes)) (told.next_tick ms q ns)) (sym (nodes_told left nodes q is)) (ticks_same v l ms left nodes q ups is (listed nodes))
works_same works coming v l ms left nodes q ups is commands (n ∷ ns) are reckons tells =
    both_tests (SameIn l ms left nodes) (has_turn v commands n) (works coming n ms) (Some (event.Disk n, world.Working (commands - 1) (n ∷ ns))) (world.next_work v nodes most_commands ns)
    (Some (record { event = event.Disk n; after = record q { stage = Working (n ∷ ns) } })) (parts.next_work works coming ms q ns) tells.0
    (λ t. (refl, record { left = is.0; nodes = is.1; stage = (refl, are, one_done commands n ns ms (may_do commands _ t) reckons) }))
    (λ f. works_same works coming v l ms left nodes q ups is most_commands ns (others_are nodes n ns are) (most_reckons ns ms) (tells.1 f))

-- all nodes are to work
all_work : (works : Works) (coming : Option Event) (v : Nodes) (l : Links) (ms : List Moment) (left nodes : ℕ) (q : Progress) → UpsTold v ms → IsLeft left nodes q
    → TellsWork (λ n. works coming n ms) v most_commands (listed nodes)
    → SameIn l ms left nodes (world.next_work v nodes most_commands (listed nodes)) (parts.next_work works coming ms q (nodes_of q.nodes))
all_work works coming v l ms left nodes q ups is tells =
    subst (λ ns. SameIn l ms left nodes (world.next_work v nodes most_commands (listed nodes)) (parts.next_work works coming ms q ns)) (sym (nodes_told left nodes q is))
    (works_same works coming v l ms left nodes q ups is most_commands (listed nodes) (listed_are nodes) (most_reckons (listed nodes) ms) tells)

-- what is kept of a list, by its first
kept_first : (S : Setting) (works : Works) (coming : Option Event) (ms : List Moment) (q : Progress) (k : ℕ) (ks : List ℕ) (t : Bool)
    → parts.next_delivery S works coming ms q (if t then k ∷ ks else ks) ≡ (if t then parts.next_delivery S works coming ms q (k ∷ ks) else parts.next_delivery S works coming ms q ks)
kept_first S works coming ms q k ks true = refl
kept_first S works coming ms q k ks false = refl

packets_same : (S : Setting) (works : Works) (coming : Option Event) (v : Nodes) (ms : List Moment) (left nodes : ℕ) (q : Progress) → UpsTold v ms → IsLeft left nodes q
    → (test : ℕ → Bool) (bound : ℕ) → bound ≤ (links_after S.cells ms).next
    → ((k : ℕ) (x : Packet) → k < bound → packet_of (links_after S.cells ms).packets k ≡ Some x → test k ≡ is_between nodes (Some x))
    → (ks : List ℕ) → AllByRecursion (λ k. k < bound) ks
    → (AllPassed (links_after S.cells ms) nodes ks → TellsWork (λ n. works coming n ms) v most_commands (listed nodes))
    → SameIn (links_after S.cells ms) ms left nodes (world.next_delivery v (links_after S.cells ms) nodes ks) (parts.next_delivery S works coming ms q (filter test ks))
packets_same S works coming v ms left nodes q ups is test bound old right [] below tells = all_work works coming v (links_after S.cells ms) ms left nodes q ups is (tells tt)
packets_same S works coming v ms left nodes q ups is test bound old right (k ∷ ks) below tells =
    let l : Links = links_after S.cells ms in
    let o : Option Packet = packet_of l.packets k in
    subst (λ (r : Option Next). SameIn l ms left nodes (world.next_delivery v l nodes (k ∷ ks)) r) (sym (kept_first S works coming ms q k (filter test ks) (test k)))
    (packet_tests (SameIn l ms left nodes) nodes (test k) o (Some (event.Deliver k, world.Delivering ks)) (world.next_delivery v l nodes ks)
    (Some (record { event = event.Deliver k; after = record q { stage = Delivering (filter test ks) } })) (parts.next_delivery S works coming ms q (filter test ks))
    (λ x at_it. right k x below.0 at_it)
    (λ t. (refl, record { left = is.0; nodes = is.1; stage = record { test = test; bound = bound; below = below.1; old = old; are = refl; right = right } }))
    (λ none. packets_same S works coming v ms left nodes q ups is test bound old right ks below.1 (λ passed. tells (none, passed))))

stage_same : (S : Setting) (works : Works) (coming : Option Event) (v : Nodes) (ms : List Moment) (left nodes : ℕ) (q : Progress) → UpsTold v ms → IsLeft left nodes q → (a : world.Stage) (b : Stage)
    → SameStage (links_after S.cells ms) ms nodes a b → TellsStage (λ n. works coming n ms) v (links_after S.cells ms) nodes a
    → SameIn (links_after S.cells ms) ms left nodes (world.next_at v (links_after S.cells ms) nodes a) (parts.next_at S works coming ms q b)
stage_same S works coming v ms left nodes q ups is (world.Delivering all) (Delivering kept) h tells =
    let l : Links = links_after S.cells ms in
    subst (λ ks. SameIn l ms left nodes (world.next_delivery v l nodes all) (parts.next_delivery S works coming ms q ks)) (sym h.are)
    (packets_same S works coming v ms left nodes q ups is h.test h.bound h.old h.right all h.below tells)
stage_same S works coming v ms left nodes q ups is (world.Working commands ns) (Working others) h tells =
    let l : Links = links_after S.cells ms in
    subst (λ ks. SameIn l ms left nodes (world.next_work v nodes commands ns) (parts.next_work works coming ms q ks)) (sym h.0)
    (works_same works coming v l ms left nodes q ups is commands ns h.1 h.2 tells)
stage_same S works coming v ms left nodes q ups is (world.Ticking ns) (Ticking others) h tells =
    let l : Links = links_after S.cells ms in
    subst (λ ks. SameIn l ms left nodes (world.next_tick v ns) (told.next_tick ms q ks)) (sym h) (ticks_same v l ms left nodes q ups is ns)
stage_same S works coming v ms left nodes q ups is _ _ h tells = absurd h

-- ---- in rounds

abbrev pub SameNext : Links → List Moment → Option (Event × world.Progress) → Option Next → Type 0
SameNext l ms None None = Unit {0}
SameNext l ms (Some z) (Some n) = (n.event ≡ z.0) × SameLeft l (Part z.0 ∷ ms) z.1 n.after
SameNext l ms _ _ = ⊥

in_it : (l : Links) (ms : List Moment) (p : world.Progress) (o : Option (Event × world.Stage)) (r : Option Next) → SameIn l ms p.left p.nodes o r
    → SameNext l ms (option_map (λ (next : Event × world.Stage). (next.0, at p next.1)) o) r
in_it l ms p None None h = tt
in_it l ms p (Some z) (Some n) h = h
in_it l ms p _ _ h = absurd h

in_same : (S : Setting) (works : Works) (coming : Option Event) (v : Nodes) (ms : List Moment) (p : world.Progress) (q : Progress) → UpsTold v ms → SameLeft (links_after S.cells ms) ms p q
    → TellsStage (λ n. works coming n ms) v (links_after S.cells ms) p.nodes p.stage
    → SameNext (links_after S.cells ms) ms (world.next_in v (links_after S.cells ms) p) (parts.next_in S works coming ms q)
in_same S works coming v ms p q ups h tells =
    in_it (links_after S.cells ms) ms p (world.next_at v (links_after S.cells ms) p.nodes p.stage) (parts.next_in S works coming ms q)
    (stage_same S works coming v ms p.left p.nodes q ups (h.left, h.nodes) p.stage q.stage h.stage tells)

either : (l : Links) (ms : List Moment) (a b : Option (Event × world.Progress)) (c d : Option Next) → SameNext l ms a c → (a ≡ None → SameNext l ms b d)
    → SameNext l ms (option_or a b) (option_or c d)
either l ms None b None d h k = k refl
either l ms (Some z) b (Some n) d h k = h
either l ms _ b _ d h k = absurd h

-- where no round has a part, the lines need look at one alone
first_alone : (l : Links) (ms : List Moment) (a b : Option (Event × world.Progress)) (c : Option Next) → SameNext l ms a c → (a ≡ None → b ≡ None) → SameNext l ms (option_or a b) c
first_alone l ms None b None h k = subst (λ o. SameNext l ms o None) (sym (k refl)) tt
first_alone l ms (Some z) b (Some n) h k = h
first_alone l ms _ b _ h k = absurd h

none_mapped : (p : world.Progress) (o : Option (Event × world.Stage)) → option_map {U = Event × world.Progress} (λ (next : Event × world.Stage). (next.0, at p next.1)) o ≡ None → o ≡ None
none_mapped p None e = refl
none_mapped p (Some z) e = absurd (none_some (z.0, at p z.1) (sym e))

none_again : (p : world.Progress) (o : Option (Event × world.Stage)) → o ≡ None → option_map {U = Event × world.Progress} (λ (next : Event × world.Stage). (next.0, at p next.1)) o ≡ None
none_again p o e = ap (λ z. option_map {U = Event × world.Progress} (λ (next : Event × world.Stage). (next.0, at p next.1)) z) e

none_from : (v : Nodes) (l : Links) (nodes k : ℕ) → world.next_at v l nodes (world.Delivering (numbers_below l.next)) ≡ None → world.next_from v l k nodes ≡ None
none_from v l nodes zero e = refl
none_from v l nodes (suc k) e =
    ap (λ o. option_or o (world.next_from v l k nodes)) (none_again (world.round_of l (suc k) nodes) (world.next_at v l nodes (world.Delivering (numbers_below l.next))) e) ∙ none_from v l nodes k e

one_left : (left k : ℕ) → (left - 1) ≡ suc k → nat_lt 1 left ≡ true
one_left left k e = grind (arith, e)

none_left : (left : ℕ) → (left - 1) ≡ 0 → nat_lt 1 left ≡ false
none_left left e = grind (arith, e)

-- the rounds that are to come: so many in the world, and by the lines the first of them
from_same : (S : Setting) (works : Works) (coming : Option Event) (v : Nodes) (ms : List Moment) (left nodes k : ℕ) → UpsTold v ms → (left - 1) ≡ k
    → ((j : ℕ) → k ≡ suc j → TellsStage (λ n. works coming n ms) v (links_after S.cells ms) nodes (world.Delivering (numbers_below (links_after S.cells ms).next)))
    → SameNext (links_after S.cells ms) ms (world.next_from v (links_after S.cells ms) k nodes)
    (if nat_lt 1 left then parts.next_in S works coming ms (told.round_of S (left - 1) nodes ms) else None)
from_same S works coming v ms left nodes zero ups is tells =
    subst (λ b. SameNext (links_after S.cells ms) ms None (if b then parts.next_in S works coming ms (told.round_of S (left - 1) nodes ms) else None)) (sym (none_left left is)) tt
from_same S works coming v ms left nodes (suc k) ups is tells =
    let l : Links = links_after S.cells ms in
    subst (λ b. SameNext l ms (world.next_from v l (suc k) nodes) (if b then parts.next_in S works coming ms (told.round_of S (left - 1) nodes ms) else None)) (sym (one_left left k is))
    (subst (λ j. SameNext l ms (world.next_from v l (suc k) nodes) (parts.next_in S works coming ms (told.round_of S j nodes ms))) (sym is)
    (first_alone l ms (world.next_in v l (world.round_of l (suc k) nodes)) (world.next_from v l k nodes) (parts.next_in S works coming ms (told.round_of S (suc k) nodes ms))
    (in_same S works coming v ms (world.round_of l (suc k) nodes) (told.round_of S (suc k) nodes ms) ups (round_same S (suc k) nodes ms) (tells k refl))
    (λ none. none_from v l nodes k (none_mapped (world.round_of l (suc k) nodes) (world.next_at v l nodes (world.Delivering (numbers_below l.next))) none))))

pub next_same : (S : Setting) (works : Works) (coming : Option Event) (v : Nodes) (ms : List Moment) (p : world.Progress) (q : Progress) → UpsTold v ms → SameLeft (links_after S.cells ms) ms p q
    → TellsPart (λ n. works coming n ms) v (links_after S.cells ms) p
    → SameNext (links_after S.cells ms) ms (next_of v (links_after S.cells ms) p) (parts.next_part S works coming ms q)
next_same S works coming v ms p q ups h tells =
    let l : Links = links_after S.cells ms in
    either l ms (world.next_in v l p) (world.next_from v l (p.left - 1) p.nodes) (parts.next_in S works coming ms q)
    (if nat_lt 1 q.left then parts.next_in S works coming ms (told.round_of S (q.left - 1) q.nodes ms) else None) (in_same S works coming v ms p q ups h tells.here)
    (λ none. subst (λ j. SameNext l ms (world.next_from v l (p.left - 1) p.nodes) (if nat_lt 1 j then parts.next_in S works coming ms (told.round_of S (j - 1) q.nodes ms) else None)) (sym h.left)
    (subst (λ j. SameNext l ms (world.next_from v l (p.left - 1) p.nodes) (if nat_lt 1 p.left then parts.next_in S works coming ms (told.round_of S (p.left - 1) j ms) else None)) (sym h.nodes)
    (from_same S works coming v ms p.left p.nodes (p.left - 1) ups refl (λ j is. tells.later j is (none_mapped p (world.next_at v l p.nodes p.stage) none)))))

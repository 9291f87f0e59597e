-- Rounds in the world: each part is the one that comes next, and after the last none does.
use Rattle.std.specs.Prelude.{ℕ, zero, suc, ◌+◌, ◌-◌, ◌≡◌, ◌≤◌, ◌++◌, ◌&&◌, nat_lt, Bool, true, false, List, [], ◌∷◌, Option, None, Some, is_some, if◌then◌else◌}
use Rattle.std.specs.List.{AllByRecursion}
use Rattle.std.specs.Option.{option_map, option_or}
use Rattle.std.proofs.Common.{refl, sym, ap, subst, ◌∙◌, append-nil, append_assoc, arith}
use Rattle.std.proofs.lemmas.Bool.{cond_both}
use Rattle.cl_base.specs.Limits.{most_nodes}
use Rattle.cl_base.specs.Numbers.{numbers_to}
use Rattle.cl_base.specs.Sets.{has}
use Rattle.cmm_attempt.proofs.Basics.{if_either}
use Rattle.interconnect.specs.Links.{packet_of}
use Rattle.pgr_device.specs.declared.command.PrCommand.{PrCommand}
use Rattle.schedule_text.specs.declared.event.Event.{Event}
use Rattle.schedule_text.specs.declared.event.Event.TheVariants as event
use Rattle.schedule_text.specs.declared.line.Line.{Line}
use Rattle.status_report.specs.declared.schedule_entry.ScheduleEntry.TheVariants.{RoundsDone}
use Rattle.node_model.specs.declared.cluster.Cluster.{Cluster}
use Rattle.node_model.specs.declared.input.Input.TheVariants as input
use Rattle.node_model.specs.declared.node.Node.TheVariants.{Up}
use Rattle.node_model.specs.declared.node.UpNode.{UpNode}
use Rattle.world_model.specs.Devices as world
use Rattle.world_model.specs.Packets.{delivering}
use Rattle.world_model.specs.Rounds as play
use Rattle.world_model.specs.Rounds.{bringing, bringing_all, bringing_below, doing_all, doing_one, doing_some, for_each, is_between, rounds, rounds_of, ticking_one}
use Rattle.world_model.specs.Sends.{giving}
use Rattle.world_model.specs.Worlds.{Play, is_up, is_up_node, node_at, noting}
use Rattle.refinement.specs.Worlds.{DevicesFit, GivesFit}
use Rattle.run_history.specs.Rounds.{Progress, Stage, at, has_turn, listed, most_commands, next_delivery, next_from, next_in, next_part, next_tick, next_work, numbers_below, round_of, starting}
use Rattle.run_history.specs.Rounds.Stage.{Delivering, Ticking, Working}
use Rattle.run_history.specs.Scenes.{Scene}
use Rattle.run_history.specs.Shapes.{Want, commanding, delivering as delivering_wants, due, if_up, nothing, taking_this}
use Rattle.run_history.specs.Shapes.Want.{Command, Take}
use Rattle.run_history.proofs.Packets.{delivered_so}
use Rattle.run_history.proofs.Stands.{Stands, begun, due_seen, ended, given_so, seen, up_is_there, up_seen, up_there}
use Rattle.run_history.proofs.WorldCommands.{command_so, due_there}

-- ---- what comes next

abbrev in_it : Progress → Event × Stage → Event × Progress
in_it q next = (next.0, at q next.1)

-- what comes next of this stage, or of the rounds behind it
abbrev comes_of : Scene → Progress → Option (Event × Stage) → Option (Event × Progress)
comes_of s q o = option_or (option_map (in_it q) o) (next_from s.nodes s.links (q.left - 1) q.nodes)

tick_next : (s : Scene) (q : Progress) (n : ℕ) (ns : List ℕ) → is_up_node (Some (s.nodes.node n)) ≡ true → next_part s (at q (Ticking (n ∷ ns))) ≡ Some (event.Tick n, at q (Ticking ns))
tick_next s q n ns up = ap (λ b. comes_of s q (if b then Some (event.Tick n, Ticking ns) else next_tick s.nodes ns)) up

tick_passed : (s : Scene) (q : Progress) (n : ℕ) (ns : List ℕ) → is_up_node (Some (s.nodes.node n)) ≡ false → next_part s (at q (Ticking (n ∷ ns))) ≡ next_part s (at q (Ticking ns))
tick_passed s q n ns down = ap (λ b. comes_of s q (if b then Some (event.Tick n, Ticking ns) else next_tick s.nodes ns)) down

work_next : (s : Scene) (q : Progress) (k n : ℕ) (ns : List ℕ) → has_turn s.nodes k n ≡ true
    → next_part s (at q (Working k (n ∷ ns))) ≡ Some (event.Disk n, at q (Working (k - 1) (n ∷ ns)))
work_next s q k n ns turn =
    ap (λ b. comes_of s q (if b then Some (event.Disk n, Working (k - 1) (n ∷ ns)) else next_work s.nodes q.nodes most_commands ns)) turn

work_passed : (s : Scene) (q : Progress) (k n : ℕ) (ns : List ℕ) → has_turn s.nodes k n ≡ false
    → next_part s (at q (Working k (n ∷ ns))) ≡ next_part s (at q (Working most_commands ns))
work_passed s q k n ns none =
    ap (λ b. comes_of s q (if b then Some (event.Disk n, Working (k - 1) (n ∷ ns)) else next_work s.nodes q.nodes most_commands ns)) none

packet_next : (s : Scene) (q : Progress) (k : ℕ) (ks : List ℕ) → is_between q.nodes (packet_of s.links.packets k) ≡ true
    → next_part s (at q (Delivering (k ∷ ks))) ≡ Some (event.Deliver k, at q (Delivering ks))
packet_next s q k ks there = ap (λ b. comes_of s q (if b then Some (event.Deliver k, Delivering ks) else next_delivery s.nodes s.links q.nodes ks)) there

packet_passed : (s : Scene) (q : Progress) (k : ℕ) (ks : List ℕ) → is_between q.nodes (packet_of s.links.packets k) ≡ false
    → next_part s (at q (Delivering (k ∷ ks))) ≡ next_part s (at q (Delivering ks))
packet_passed s q k ks none = ap (λ b. comes_of s q (if b then Some (event.Deliver k, Delivering ks) else next_delivery s.nodes s.links q.nodes ks)) none

-- behind the last packet the nodes work, behind the last command they tick, and behind the last tick another round begins
works_next : (s : Scene) (q : Progress) → next_part s (at q (Delivering [])) ≡ next_part s (at q (Working most_commands (listed q.nodes)))
works_next s q = refl

ticks_next : (s : Scene) (q : Progress) (k : ℕ) → next_part s (at q (Working k [])) ≡ next_part s (at q (Ticking (listed q.nodes)))
ticks_next s q k = refl

abbrev over : ℕ → ℕ → Progress
over left nodes = record { left = left; nodes = nodes; stage = Ticking [] }

one_less : (k : ℕ) → (suc k - 1) ≡ k
one_less k = omega arith

round_next : (s : Scene) (k nodes : ℕ) → next_part s (over (suc (suc k)) nodes) ≡ next_part s (round_of s.links (suc k) nodes)
round_next s k nodes =
    ap (λ j. next_from s.nodes s.links j nodes) (one_less (suc k))
    ∙ sym (ap (λ j. option_or (next_in s.nodes s.links (round_of s.links (suc k) nodes)) (next_from s.nodes s.links j nodes)) (one_less k))

-- ---- where a play stands

-- of the rounds this is left: what is due comes as if it were that
record Rests (c : Cluster) (first : Scene) (text : List ℕ) (said : List Line) (q : Progress) (p : Play) : Type 0 where
  part : Progress
  stands : Stands c first text said (due [] (Some part)) p
  same : next_part (seen c first text said (due [] (Some part)) p stands) part ≡ next_part (seen c first text said (due [] (Some part)) p stands) q

abbrev scene_of : (c : Cluster) (first : Scene) (text : List ℕ) (said : List Line) (q : Progress) (p : Play) → Rests c first text said q p → Scene
scene_of c first text said q p k = seen c first text said (due [] (Some k.part)) p k.stands

abbrev rests : (c : Cluster) (first : Scene) (text : List ℕ) (said : List Line) (q : Progress) (p : Play) → Stands c first text said (due [] (Some q)) p → Rests c first text said q p
rests c first text said q p h = record { part = q; stands = h; same = refl }

-- what has nothing to do is passed over
abbrev passes : (c : Cluster) (first : Scene) (text : List ℕ) (said : List Line) (q r : Progress) (p : Play) (k : Rests c first text said q p)
    → next_part (scene_of c first text said q p k) q ≡ next_part (scene_of c first text said q p k) r → Rests c first text said r p
passes c first text said q r p k is = record { part = k.part; stands = k.stands; same = k.same ∙ is }

-- ---- ticks

tick_so : (c : Cluster) → GivesFit c → (first : Scene) (text : List ℕ) (said : List Line) (q : Progress) (p : Play) (n : ℕ) (ns : List ℕ) → 1 ≤ n
    → Rests c first text said (at q (Ticking (n ∷ ns))) p → Rests c first text said (at q (Ticking ns)) (ticking_one n p)
tick_so c gives first text said q p n ns low k =
    let h : Stands c first text said (due [] (Some k.part)) p = k.stands in
    let s : Scene = seen c first text said (due [] (Some k.part)) p h in
    let next : Progress = at q (Ticking ns) in
    let here : is_up_node (Some (h.nodes.node n)) ≡ is_up p.world n = up_seen c h.nodes p.world n low h.alike in
    cond_both (is_up p.world n) (giving n input.Tick p) p (Rests c first text said next)
    (λ up. up_there (node_at p.world n) (Rests c first text said next (giving n input.Tick p)) up
    (λ x place. rests c first text said next (giving n input.Tick p)
    (given_so c gives first text said (Some next) p n input.Tick low (up_is_there p.world n x place) tt (λ v. tt) tt
    (begun c first text said p k.part next (event.Tick n) (taking_this n input.Tick) h (k.same ∙ tick_next s q n ns (here ∙ up))
    (ap (λ z. if_up z takes) (h.alike.shows.node n (Up x) low place))) refl tt refl)))
    (λ down. passes c first text said (at q (Ticking (n ∷ ns))) next p k (tick_passed s q n ns (here ∙ down)))
  where
    takes : UpNode → List Want
    takes x = taking_this n input.Tick

abbrev AreSome : List ℕ → Type 0
AreSome ns = AllByRecursion (λ n. 1 ≤ n) ns

ticks_so : (c : Cluster) → GivesFit c → (first : Scene) (text : List ℕ) (said : List Line) (q : Progress) (ns : List ℕ) (p : Play) → AreSome ns
    → Rests c first text said (at q (Ticking ns)) p → Rests c first text said (at q (Ticking [])) (for_each ticking_one ns p)
ticks_so c gives first text said q [] p low k = k
ticks_so c gives first text said q (n ∷ ns) p low k = ticks_so c gives first text said q ns (ticking_one n p) low.1 (tick_so c gives first text said q p n ns low.0 k)

-- ---- commands

and_false : (b : Bool) → (b && false) ≡ false
and_false true = refl
and_false false = refl

may_go : (k : ℕ) → (nat_lt 0 (suc k) && true) ≡ true
may_go k = grind arith

-- a node whose command is due has a turn, while it may do one more
turn_so : (s : Scene) (n k : ℕ) (o : Option (ℕ × PrCommand)) → world.due_at (Some (s.nodes.node n)) ≡ o → has_turn s.nodes k n ≡ (nat_lt 0 k && is_some o)
turn_so s n k o is = ap (λ z. nat_lt 0 k && is_some z) is

one_done : (c : Cluster) → GivesFit c → DevicesFit c → (first : Scene) (text : List ℕ) (said : List Line) (q : Progress) (p : Play) (n k : ℕ) (ns : List ℕ) (o : Option (ℕ × PrCommand)) → 1 ≤ n
    → world.due p.world n ≡ o → Rests c first text said (at q (Working (suc k) (n ∷ ns))) p → Rests c first text said (at q (Working k (n ∷ ns))) (doing_one n o p)
one_done c gives fit first text said q p n k ns None low is r =
    let s : Scene = scene_of c first text said (at q (Working (suc k) (n ∷ ns))) p r in
    let here : world.due_at (Some (s.nodes.node n)) ≡ None = due_seen c r.stands.nodes p.world n low r.stands.alike ∙ is in
    passes c first text said (at q (Working (suc k) (n ∷ ns))) (at q (Working k (n ∷ ns))) p r
    (work_passed s q (suc k) n ns (turn_so s n (suc k) None here ∙ and_false (nat_lt 0 (suc k)))
    ∙ sym (work_passed s q k n ns (turn_so s n k None here ∙ and_false (nat_lt 0 k))))
one_done c gives fit first text said q p n k ns (Some (d, j)) low is r =
    let h : Stands c first text said (due [] (Some r.part)) p = r.stands in
    let s : Scene = seen c first text said (due [] (Some r.part)) p h in
    let next : Progress = at q (Working k (n ∷ ns)) in
    let here : world.due_at (Some (h.nodes.node n)) ≡ Some (d, j) = due_seen c h.nodes p.world n low h.alike ∙ is in
    due_there (node_at p.world n) d j (Rests c first text said next (doing_one n (Some (d, j)) p)) is
    (λ x place. rests c first text said next (doing_one n (Some (d, j)) p)
    (command_so c gives fit first text said (Some next) p n low (up_is_there p.world n x place)
    (begun c first text said p r.part next (event.Disk n) (Take n input.CommandDue ∷ Command n ∷ []) h
    (r.same ∙ (work_next s q (suc k) n ns (turn_so s n (suc k) (Some (d, j)) here ∙ may_go k) ∙ ap (λ z. Some (event.Disk n, at q (Working z (n ∷ ns)))) (one_less k)))
    (ap (λ z. if_up z works) (h.alike.shows.node n (Up x) low place) ∙ ap (λ o. commanding n o) here)) refl refl))
  where
    works : UpNode → List Want
    works x = commanding n (world.due_at (Some (r.stands.nodes.node n)))

one_more : (m k l : ℕ) → m ≡ suc k + l → m ≡ k + suc l
one_more m k l e = omega (arith, e)

no_more : (m l : ℕ) → m ≡ 0 + l → m ≡ l
no_more m l e = omega (arith, e)

some_done : (c : Cluster) → GivesFit c → DevicesFit c → (first : Scene) (text : List ℕ) (said : List Line) (q : Progress) (p : Play) (n k l m : ℕ) (ns : List ℕ) → 1 ≤ n → m ≡ k + l
    → Rests c first text said (at q (Working m (n ∷ ns))) p → Rests c first text said (at q (Working l (n ∷ ns))) (doing_some n k p)
unfolding doing_some
some_done c gives fit first text said q p n zero l m ns low is r = subst (λ z. Rests c first text said (at q (Working z (n ∷ ns))) p) (no_more m l is) r
some_done c gives fit first text said q p n (suc k) l m ns low is r =
    let before : Play = doing_some n k p in
    one_done c gives fit first text said q before n l ns (world.due before.world n) low refl (some_done c gives fit first text said q p n k (suc l) m ns low (one_more m k l is) r)

most_is : most_commands ≡ 4096 + 0
unfolding most_commands
most_is = refl

all_done : (c : Cluster) → GivesFit c → DevicesFit c → (first : Scene) (text : List ℕ) (said : List Line) (q : Progress) (p : Play) (n : ℕ) (ns : List ℕ) → 1 ≤ n
    → Rests c first text said (at q (Working most_commands (n ∷ ns))) p → Rests c first text said (at q (Working most_commands ns)) (doing_all n p)
unfolding doing_all
all_done c gives fit first text said q p n ns low r =
    let k : Rests c first text said (at q (Working 0 (n ∷ ns))) (doing_some n 4096 p) = some_done c gives fit first text said q p n 4096 0 most_commands ns low most_is r in
    passes c first text said (at q (Working 0 (n ∷ ns))) (at q (Working most_commands ns)) (doing_some n 4096 p) k
    (work_passed (scene_of c first text said (at q (Working 0 (n ∷ ns))) (doing_some n 4096 p) k) q 0 n ns refl)

works_so : (c : Cluster) → GivesFit c → DevicesFit c → (first : Scene) (text : List ℕ) (said : List Line) (q : Progress) (ns : List ℕ) (p : Play) → AreSome ns
    → Rests c first text said (at q (Working most_commands ns)) p → Rests c first text said (at q (Working most_commands [])) (for_each doing_all ns p)
works_so c gives fit first text said q [] p low k = k
works_so c gives fit first text said q (n ∷ ns) p low k = works_so c gives fit first text said q ns (doing_all n p) low.1 (all_done c gives fit first text said q p n ns low.0 k)

-- ---- packets

brought_so : (c : Cluster) → GivesFit c → (first : Scene) (text : List ℕ) (said : List Line) (q : Progress) (p : Play) (number : ℕ) (others : List ℕ)
    → Rests c first text said (at q (Delivering (number ∷ others))) p → Rests c first text said (at q (Delivering others)) (bringing q.nodes number p)
brought_so c gives first text said q p number others k =
    let h : Stands c first text said (due [] (Some k.part)) p = k.stands in
    let s : Scene = seen c first text said (due [] (Some k.part)) p h in
    let next : Progress = at q (Delivering others) in
    let wants : List Want = delivering_wants s number in
    cond_both (is_between q.nodes (packet_of p.world.links.packets number)) (delivering number p) p (Rests c first text said next)
    (λ e. rests c first text said next (delivering number p)
    (delivered_so c gives first text said wants (Some next) p number
    (begun c first text said p k.part next (event.Deliver number) wants h (k.same ∙ packet_next s q number others e) refl) refl refl))
    (λ e. passes c first text said (at q (Delivering (number ∷ others))) next p k (packet_passed s q number others e))

brought_below : (c : Cluster) → GivesFit c → (first : Scene) (text : List ℕ) (said : List Line) (q : Progress) (p : Play) (number : ℕ) (others : List ℕ)
    → Rests c first text said (at q (Delivering (numbers_below number ++ others))) p → Rests c first text said (at q (Delivering others)) (bringing_below q.nodes number p)
brought_below c gives first text said q p zero others k = k
brought_below c gives first text said q p (suc number) others k =
    brought_so c gives first text said q (bringing_below q.nodes number p) number others
    (brought_below c gives first text said q p number (number ∷ others)
    (subst (λ ns. Rests c first text said (at q (Delivering ns)) p) (append_assoc (numbers_below number) (number ∷ []) others) k))

-- ---- rounds

some_append : (ns : List ℕ) (k : ℕ) → 1 ≤ k → AreSome ns → AreSome (ns ++ k ∷ [])
some_append [] k low h = (low, tt)
some_append (n ∷ ns) k low h = (h.0, some_append ns k low h.1)

numbers_some : (set k : ℕ) → AreSome (numbers_to set k)
numbers_some set zero = tt
numbers_some set (suc k) =
    if_either AreSome (has set (suc k)) (numbers_to set k ++ suc k ∷ []) (numbers_to set k) (some_append (numbers_to set k) (suc k) (positive k) (numbers_some set k)) (numbers_some set k)
  where
    positive : (j : ℕ) → 1 ≤ suc j
    positive j = omega arith

listed_is : (nodes : ℕ) → numbers_to nodes most_nodes ≡ listed nodes
unfolding listed
listed_is nodes = refl

round_so : (c : Cluster) → GivesFit c → DevicesFit c → (first : Scene) (text : List ℕ) (said : List Line) (p : Play) (k nodes : ℕ) (ns : List ℕ) → AreSome ns → ns ≡ listed nodes
    → Rests c first text said (over (suc (suc k)) nodes) p → Rests c first text said (over (suc k) nodes) (play.round_of nodes ns p)
round_so c gives fit first text said p k nodes ns low all r =
    let q : Progress = over (suc k) nodes in
    let numbers : List ℕ = numbers_below p.world.links.next in
    let p1 : Play = bringing_all nodes p in
    let p2 : Play = for_each doing_all ns p1 in
    let begins : Rests c first text said (at q (Delivering numbers)) p =
    passes c first text said (over (suc (suc k)) nodes) (at q (Delivering numbers)) p r (round_next (scene_of c first text said (over (suc (suc k)) nodes) p r) k nodes) in
    let brought : Rests c first text said (at q (Delivering [])) p1 =
    brought_below c gives first text said q p p.world.links.next [] (subst (λ ks. Rests c first text said (at q (Delivering ks)) p) (sym (append-nil numbers)) begins) in
    let works : Rests c first text said (at q (Working most_commands ns)) p1 =
    subst (λ zs. Rests c first text said (at q (Working most_commands zs)) p1) (sym all)
    (passes c first text said (at q (Delivering [])) (at q (Working most_commands (listed nodes))) p1 brought (works_next (scene_of c first text said (at q (Delivering [])) p1 brought) q)) in
    let worked : Rests c first text said (at q (Working most_commands [])) p2 = works_so c gives fit first text said q ns p1 low works in
    let ticks : Rests c first text said (at q (Ticking ns)) p2 =
    subst (λ zs. Rests c first text said (at q (Ticking zs)) p2) (sym all)
    (passes c first text said (at q (Working most_commands [])) (at q (Ticking (listed nodes))) p2 worked
    (ticks_next (scene_of c first text said (at q (Working most_commands [])) p2 worked) q most_commands)) in
    ticks_so c gives first text said q ns p2 low ticks

rounds_so : (c : Cluster) → GivesFit c → DevicesFit c → (first : Scene) (text : List ℕ) (said : List Line) (p : Play) (k l m nodes : ℕ) (ns : List ℕ) → AreSome ns → ns ≡ listed nodes → m ≡ k + l
    → Rests c first text said (over (suc m) nodes) p → Rests c first text said (over (suc l) nodes) (rounds_of nodes ns k p)
rounds_so c gives fit first text said p zero l m nodes ns low all is r = subst (λ z. Rests c first text said (over (suc z) nodes) p) (no_more m l is) r
rounds_so c gives fit first text said p (suc k) l m nodes ns low all is r =
    round_so c gives fit first text said (rounds_of nodes ns k p) l nodes ns low all
    (rounds_so c gives fit first text said p k (suc l) m nodes ns low all (one_more m k l is) r)

-- the rounds of a line, which are done then
pub all_rounds : (c : Cluster) → GivesFit c → DevicesFit c → (first : Scene) (text : List ℕ) (said : List Line) (p : Play) (nodes count : ℕ)
    → Stands c first text said (due [] (Some (starting p.world.links count nodes))) p → Stands c first text said nothing (noting RoundsDone (rounds nodes count p))
unfolding rounds
all_rounds c gives fit first text said p nodes zero h = ended c first text said p (starting p.world.links zero nodes) h refl
all_rounds c gives fit first text said p nodes (suc k) h =
    let begins : Rests c first text said (over (suc (suc k)) nodes) p = record { part = round_of p.world.links (suc k) nodes; stands = h; same = sym (round_next (seen c first text said (due [] (Some (round_of p.world.links (suc k) nodes))) p h) k nodes) } in
    let last : Play = rounds_of nodes (numbers_to nodes most_nodes) (suc k) p in
    let done : Rests c first text said (over 1 nodes) last =
    rounds_so c gives fit first text said p (suc k) 0 (suc k) nodes (numbers_to nodes most_nodes) (numbers_some nodes most_nodes) (listed_is nodes) (none_more (suc k)) begins in
    ended c first text said last done.part done.stands done.same
  where
    none_more : (j : ℕ) → j ≡ j + 0
    none_more j = omega arith

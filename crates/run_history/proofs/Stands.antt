-- A play that things that happen lead to: what each line, part and note makes of it.
use Rattle.std.specs.Prelude.{ℕ, ◌-◌, ◌^◌, ◌≡◌, ◌≤◌, ◌<◌, ◌++◌, true, false, List, [], ◌∷◌, Option, None, Some, length, slice_get}
use Rattle.std.specs.Option.{option_map}
use Rattle.std.proofs.Common.{refl, sym, ap, subst, ◌∙◌, inl, inr, arith}
use Rattle.std.proofs.lemmas.Option.{slice_get_within}
use Rattle.agents.specs.Calls.{AgentState}
use Rattle.cmm_attempt.proofs.Basics.{false_true, none_some}
use Rattle.schedule_text.specs.declared.event.Event.{Event}
use Rattle.schedule_text.specs.declared.line.Line.{Line}
use Rattle.schedule_text.specs.declared.line.Line.TheVariants as line
use Rattle.status_report.specs.declared.entry.Entry.TheVariants as entry
use Rattle.status_report.specs.declared.schedule_entry.ScheduleEntry.{ScheduleEntry}
use Rattle.status_report.specs.declared.schedule_entry.ScheduleEntry.TheVariants.{RoundsDone}
use Rattle.history.specs.Letters.{arrived}
use Rattle.history.specs.Moment.{Moment, Said, Part, lines_of}
use Rattle.history.specs.Order.{under_way}
use Rattle.node_model.specs.declared.cluster.Cluster.{Cluster}
use Rattle.node_model.specs.declared.input.Input.{Input}
use Rattle.node_model.specs.declared.node.Node.{Node}
use Rattle.node_model.specs.declared.node.Node.TheVariants.{Down, Up}
use Rattle.node_model.specs.declared.node.UpNode.{UpNode}
use Rattle.world_model.specs.declared.scripted.Scripted.{Scripted}
use Rattle.world_model.specs.Devices as world
use Rattle.world_model.specs.Sends.{giving}
use Rattle.world_model.specs.Worlds.{Play, WorldState, is_up_node, noting, with_world}
use Rattle.refinement.specs.Guards.{IsDown}
use Rattle.refinement.specs.Runs.{AnswersFit, Nodes, WasSent}
use Rattle.refinement.specs.Worlds.{GivesFit}
use Rattle.refinement.proofs.Worlds.{number_low}
use Rattle.run_history.specs.Bringing.{IsBrought}
use Rattle.run_history.specs.Happenings.{IsNode, IsPlaced, IsPlain, IsSaid, IsUp, armed_by, happened, taking}
use Rattle.run_history.specs.Happenings.Happening.{Begins, Notes, Speaks, Takes}
use Rattle.run_history.specs.Scenes.{Scene, adding, text_of}
use Rattle.run_history.proofs.Alike.{Alike, alike_calls, alike_clock, in_range, with_calls}
use Rattle.run_history.proofs.Gives.{Gave, Took, gave_so}
use Rattle.run_history.specs.Rounds.{Progress, begun_by, next_part}
use Rattle.run_history.specs.Shapes.{Due, Want, behind, brings, due, nothing, still}
use Rattle.run_history.specs.Shapes.Want.{Note, Take}
use Rattle.run_history.proofs.Reached.{ReachedAs, reached_as}
use Rattle.run_history.proofs.Views.{Follows, part_so, said_so, told_so, view}

-- the scene of the play is reached from the first, and this is due; these lines were said, and this text stood before
pub record Stands (c : Cluster) (first : Scene) (text : List ℕ) (said : List Line) (d : Due) (p : Play) : Type 0 where
  pub nodes : Nodes
  pub moments : List Moment
  pub reached : ReachedAs c first d (view nodes p.world moments)
  pub alike : Alike c nodes p.world
  pub spoken : lines_of moments ≡ said
  pub written : p.text ≡ text ++ text_of moments

abbrev pub stands_so : (c : Cluster) (first : Scene) (text : List ℕ) (said : List Line) (d : Due) (p : Play) (v : Nodes) (s : Scene) → ReachedAs c first d s → Follows c text said v s p
    → Stands c first text said d p
stands_so c first text said d p v s r f =
    record { nodes = v; moments = f.moments; reached = subst (ReachedAs c first d) (sym f.is) r; alike = f.alike; spoken = f.spoken; written = f.written }

abbrev pub seen : (c : Cluster) (first : Scene) (text : List ℕ) (said : List Line) (d : Due) (p : Play) → Stands c first text said d p → Scene
seen c first text said d p h = view h.nodes p.world h.moments

abbrev pub followed : (c : Cluster) (first : Scene) (text : List ℕ) (said : List Line) (d : Due) (p : Play) (h : Stands c first text said d p)
    → Follows c text said h.nodes (seen c first text said d p h) p
followed c first text said d p h = record { moments = h.moments; is = refl; alike = h.alike; spoken = h.spoken; written = h.written }

-- the same is due
abbrev pub as_due : (c : Cluster) (first : Scene) (text : List ℕ) (said : List Line) (rounds : Option Progress) (p : Play) (wants others : List Want) → wants ≡ others
    → Stands c first text said (due wants rounds) p → Stands c first text said (due others rounds) p
as_due c first text said rounds p wants others same h =
    let s : Scene = seen c first text said (due wants rounds) p h in
    record { nodes = h.nodes; moments = h.moments; reached = subst (λ ws. ReachedAs c first (due ws rounds) s) same h.reached; alike = h.alike; spoken = h.spoken; written = h.written }

-- A note that is due; the note that rounds are done; a part of a round; a line.

abbrev pub noted : (c : Cluster) (first : Scene) (text : List ℕ) (said : List Line) (rounds : Option Progress) (p : Play) (e : ScheduleEntry) → Stands c first text said (due (Note e ∷ []) rounds) p
    → Stands c first text said (due [] rounds) (noting e p)
noted c first text said rounds p e h =
    let d : Due = due (Note e ∷ []) rounds in
    let s : Scene = seen c first text said d p h in
    stands_so c first text said (due [] rounds) (noting e p) h.nodes (happened c s (Notes e)) (reached_as c first d (due [] rounds) s (Notes e) h.reached tt refl refl)
    (told_so c text said h.nodes s p (entry.Schedule e) (followed c first text said d p h))

abbrev pub ended : (c : Cluster) (first : Scene) (text : List ℕ) (said : List Line) (p : Play) (q : Progress) (h : Stands c first text said (due [] (Some q)) p)
    → next_part (seen c first text said (due [] (Some q)) p h) q ≡ None → Stands c first text said nothing (noting RoundsDone p)
ended c first text said p q h none =
    let d : Due = due [] (Some q) in
    let s : Scene = seen c first text said d p h in
    stands_so c first text said nothing (noting RoundsDone p) h.nodes (happened c s (Notes RoundsDone)) (reached_as c first d nothing s (Notes RoundsDone) h.reached tt (refl, none) refl)
    (told_so c text said h.nodes s p (entry.Schedule RoundsDone) (followed c first text said d p h))

abbrev pub begun : (c : Cluster) (first : Scene) (text : List ℕ) (said : List Line) (p : Play) (q next : Progress) (e : Event) (wants : List Want)
    (h : Stands c first text said (due [] (Some q)) p) → next_part (seen c first text said (due [] (Some q)) p h) q ≡ Some (e, next)
    → brings c (adding (Part e) (seen c first text said (due [] (Some q)) p h)) e ≡ wants → Stands c first text said (due wants (Some next)) p
begun c first text said p q next e wants h comes is =
    let d : Due = due [] (Some q) in
    let s : Scene = seen c first text said d p h in
    stands_so c first text said (due wants (Some next)) p h.nodes (happened c s (Begins e))
    (reached_as c first d (due wants (Some next)) s (Begins e) h.reached tt (ap (λ o. option_map (λ (z : Event × Progress). z.0) o) comes)
    (ap (λ ws. due ws (behind (adding (Part e) s) (Some q))) is ∙ ap (λ o. due wants (option_map (λ (z : Event × Progress). z.1) o)) comes))
    (part_so c text said h.nodes s p e (followed c first text said d p h))

-- a line that arms nothing
abbrev pub spoke : (c : Cluster) (first : Scene) (text : List ℕ) (said : List Line) (p : Play) (e : Event) (wants : List Want) (rounds : Option Progress) → ((s : Scene) → IsPlaced c s e)
    → ((s : Scene) → armed_by c e s ≡ s) → (h : Stands c first text said nothing p) → brings c (adding (Said (line.Event e)) (seen c first text said nothing p h)) e ≡ wants
    → begun_by (adding (Said (line.Event e)) (seen c first text said nothing p h)) e ≡ rounds → Stands c first text (line.Event e ∷ said) (due wants rounds) p
spoke c first text said p e wants rounds placed same h is starts =
    let s : Scene = seen c first text said nothing p h in
    let next : Due = due wants rounds in
    let t : Scene = adding (Said (line.Event e)) s in
    stands_so c first text (line.Event e ∷ said) next p h.nodes t
    (subst (ReachedAs c first next) (same t)
    (reached_as c first nothing next s (Speaks e) h.reached (placed s) tt
    (ap (λ z. due (brings c z e) (begun_by z e)) (same t) ∙ (ap (λ ws. due ws (begun_by t e)) is ∙ ap (λ o. due wants o) starts))))
    (said_so c text said h.nodes s p e (followed c first text said nothing p h))

-- Outcomes that are queued, and the clock, are no part of a scene.

abbrev pub queued : (c : Cluster) (first : Scene) (text : List ℕ) (said : List Line) (d : Due) (p : Play) (script : List Scripted) (agents : List AgentState) → Stands c first text said d p
    → Stands c first text said d (with_world p (with_calls p.world script agents))
queued c first text said d p script agents h =
    record { nodes = h.nodes; moments = h.moments; reached = h.reached; alike = alike_calls c h.nodes p.world script agents h.alike; spoken = h.spoken; written = h.written }

abbrev pub clocked : (c : Cluster) (first : Scene) (text : List ℕ) (said : List Line) (d : Due) (p : Play) (second : ℕ) → second < 2 ^ 64 → Stands c first text said d p
    → Stands c first text said d (with_world p (record p.world { clock = second }))
clocked c first text said d p second time h =
    record { nodes = h.nodes; moments = h.moments; reached = h.reached; alike = alike_clock c h.nodes p.world second time h.alike; spoken = h.spoken; written = h.written }

-- Something comes to a node that is no packet, and no answer of a device.

pub gives_so : (c : Cluster) → GivesFit c → (first : Scene) (text : List ℕ) (said : List Line) (d : Due) (p : Play) (n : ℕ) (i : Input) (h : Stands c first text said d p) → 1 ≤ n
    → WasSent h.nodes i → AnswersFit i
    → Gave c text said h.nodes (seen c first text said d p h) n p.world.clock p.world.nodes i (giving n i p)
gives_so c gives first text said d p n i h low sent bounded = gave_so c gives text said h.nodes h.moments p n i h.spoken h.written low sent bounded h.alike

abbrev pub took_plain : (c : Cluster) (first : Scene) (text : List ℕ) (said : List Line) (wants : List Want) (rounds : Option Progress) (p : Play) (n : ℕ) (i : Input)
    (h : Stands c first text said (due (Take n i ∷ wants) rounds) p) → IsPlain i
    → arrived h.moments ≡ None → IsSaid h.moments n i → IsBrought (under_way h.moments) n i
    → (k : Took c text said h.nodes (seen c first text said (due (Take n i ∷ wants) rounds) p h) n p.world.clock i (giving n i p)) → (rest : List Want)
    → still (taking c n p.world.clock k.ends i (seen c first text said (due (Take n i ∷ wants) rounds) p h)) wants ≡ rest
    → Stands c first text said (due rest rounds) (giving n i p)
took_plain c first text said wants rounds p n i h plain apart lined brought k rest is =
    let d : Due = due (Take n i ∷ wants) rounds in
    let s : Scene = seen c first text said d p h in
    stands_so c first text said (due rest rounds) (giving n i p) _ (happened c s (Takes n p.world.clock k.ends i))
    (reached_as c first d (due rest rounds) s (Takes n p.world.clock k.ends i) h.reached ((k.may.0, k.may.1), plain, h.alike.shows.clock, apart, lined, brought) (refl, refl)
    (ap (λ ws. due ws rounds) is)) k.follows

-- the node has a place in the world
abbrev pub IsThere : WorldState → ℕ → Type 0
IsThere w n = slice_get w.nodes (n - 1) ≡ None → ⊥

pub given_so : (c : Cluster) → GivesFit c → (first : Scene) (text : List ℕ) (said : List Line) (rounds : Option Progress) (p : Play) (n : ℕ) (i : Input) → 1 ≤ n → IsThere p.world n → IsPlain i
    → ((v : Nodes) → WasSent v i) → AnswersFit i → (h : Stands c first text said (due (Take n i ∷ []) rounds) p) → arrived h.moments ≡ None → IsSaid h.moments n i
    → IsBrought (under_way h.moments) n i → Stands c first text said (due [] rounds) (giving n i p)
given_so c gives first text said rounds p n i low there plain sent bounded h apart lined brought = go (gives_so c gives first text said d p n i h low (sent h.nodes) bounded)
  where
    d : Due
    d = due (Take n i ∷ []) rounds

    go : Gave c text said h.nodes (seen c first text said d p h) n p.world.clock p.world.nodes i (giving n i p) → Stands c first text said (due [] rounds) (giving n i p)
    go (inl none) = absurd (there none.nobody)
    go (inr k) = took_plain c first text said [] rounds p n i h plain apart lined brought k [] refl

-- Nodes at their places.

pub node_number : (c : Cluster) (v : Nodes) (w : WorldState) (n : ℕ) (node : Node) → 1 ≤ n → slice_get w.nodes (n - 1) ≡ Some node → Alike c v w → IsNode n
node_number c v w n node low at h = (low, number_low n (length w.nodes) low (slice_get_within w.nodes (n - 1) node at) h.shows.few)

pub up_there : (o : Option Node) (P : Type 0) → is_up_node o ≡ true → ((x : UpNode) → o ≡ Some (Up x) → P) → P
up_there None P up f = absurd (false_true up)
up_there (Some Down) P up f = absurd (false_true up)
up_there (Some (Up x)) P up f = f x refl

true_false : true ≡ false → ⊥
true_false e = false_true (sym e)

pub down_there : (c : Cluster) (v : Nodes) (w : WorldState) (n : ℕ) (o : Option Node) → 1 ≤ n → slice_get w.nodes (n - 1) ≡ o → is_up_node o ≡ false → Alike c v w → IsDown (v.node n)
down_there c v w n None low at down h = subst IsDown (sym (h.absent n low at)) tt
down_there c v w n (Some Down) low at down h = subst IsDown (sym (h.shows.node n Down low at)) tt
down_there c v w n (Some (Up x)) low at down h = absurd (true_false down)

pub is_up_in : (c : Cluster) (v : Nodes) (w : WorldState) (n : ℕ) (x : UpNode) → 1 ≤ n → slice_get w.nodes (n - 1) ≡ Some (Up x) → Alike c v w → IsUp (v.node n)
is_up_in c v w n x low at h = subst IsUp (sym (h.shows.node n (Up x) low at)) tt

pub up_is_there : (w : WorldState) (n : ℕ) (x : UpNode) → slice_get w.nodes (n - 1) ≡ Some (Up x) → IsThere w n
up_is_there w n x at none = none_some (Up x) (sym none ∙ at)

-- a node of the header has a place
pub placed_there : (c : Cluster) (v : Nodes) (w : WorldState) (n : ℕ) → 1 ≤ n → n ≤ c.header.nodes → Alike c v w → IsThere w n
placed_there c v w n low most h = in_range w.nodes (n - 1) (subst (λ k. n - 1 < k) (sym h.placed) (below n c.header.nodes low most))
  where
    below : (m k : ℕ) → 1 ≤ m → m ≤ k → m - 1 < k
    below m k l e = omega (arith, l, e)

-- the command that is due at a node is the one that is due in the world
pub due_seen : (c : Cluster) (v : Nodes) (w : WorldState) (n : ℕ) → 1 ≤ n → Alike c v w → world.due_at (Some (v.node n)) ≡ world.due w n
due_seen c v w n low h = by_place (slice_get w.nodes (n - 1)) refl
  where
    by_place : (o : Option Node) → slice_get w.nodes (n - 1) ≡ o → world.due_at (Some (v.node n)) ≡ world.due_at o
    by_place None at = ap (λ z. world.due_at (Some z)) (h.absent n low at)
    by_place (Some z) at = ap (λ y. world.due_at (Some y)) (h.shows.node n z low at)

-- .. and a node is up where it is up in the world
pub up_seen : (c : Cluster) (v : Nodes) (w : WorldState) (n : ℕ) → 1 ≤ n → Alike c v w → is_up_node (Some (v.node n)) ≡ is_up_node (slice_get w.nodes (n - 1))
up_seen c v w n low h = by_place (slice_get w.nodes (n - 1)) refl
  where
    by_place : (o : Option Node) → slice_get w.nodes (n - 1) ≡ o → is_up_node (Some (v.node n)) ≡ is_up_node o
    by_place None at = ap (λ z. is_up_node (Some z)) (h.absent n low at)
    by_place (Some z) at = ap (λ y. is_up_node (Some y)) (h.shows.node n z low at)

-- Something comes to a node in the world: it is the scene's step, or no node is there.
use Rattle.std.specs.Prelude.{ℕ, ◌-◌, ◌≡◌, ◌≤◌, ◌<◌, ◌⊎◌, ◌++◌, List, Option, None, Some, length, position, slice_get}
use Rattle.std.proofs.Common.{refl, sym, subst, inl, inr}
use Rattle.std.proofs.lemmas.Option.{slice_get_within}
use Rattle.cl_base.specs.declared.method.Outcome as method
use Rattle.record_disk.specs.Disks.{DiskState}
use Rattle.rgm_member.specs.declared.due.Due.{Due}
use Rattle.schedule_text.specs.declared.line.Line.{Line}
use Rattle.history.specs.Moment.{Moment, lines_of}
use Rattle.node_model.specs.declared.cluster.Cluster.{Cluster}
use Rattle.node_model.specs.declared.input.Input.{Input}
use Rattle.node_model.specs.declared.node.Node.{Node}
use Rattle.node_model.specs.Steps.{Outcome, stepped}
use Rattle.world_model.specs.declared.scripted.Scripted.{Scripted}
use Rattle.world_model.specs.Calls.{Ended, asked_of, ended, ended_so, fits, taken_out}
use Rattle.world_model.specs.Sends.{come_to, due_in, giving, giving_so, rules, stepped_to, stepping_at}
use Rattle.world_model.specs.Worlds.{Play, WorldState, with_world}
use Rattle.refinement.specs.Runs.{AnswersFit, MayMove, Nodes, WasSent, moved}
use Rattle.refinement.specs.Runs.Move.{Takes}
use Rattle.refinement.specs.Steps.{disk_rules}
use Rattle.refinement.specs.Worlds.{GivesFit}
use Rattle.refinement.proofs.Worlds.{number_low}
use Rattle.run_history.specs.Happenings.{taking}
use Rattle.run_history.specs.Scenes.{Scene, text_of}
use Rattle.run_history.proofs.Alike.{Alike, alike_calls, alike_step, among_own, in_range, with_calls, with_step}
use Rattle.run_history.proofs.Views.{Follows, passed_so, view}

-- no node is there, and nothing comes of it
pub record Nobody (c : Cluster) (text : List ℕ) (said : List Line) (v : Nodes) (s : Scene) (n : ℕ) (nodes : List Node) (r : Play) : Type 0 where
  pub nobody : slice_get nodes (n - 1) ≡ None
  pub follows : Follows c text said v s r

-- the node takes it
pub record Took (c : Cluster) (text : List ℕ) (said : List Line) (v : Nodes) (s : Scene) (n now : ℕ) (i : Input) (r : Play) : Type 0 where
  pub ends : method.Outcome
  pub may : MayMove v (Takes n now ends i)
  pub follows : Follows c text said (moved c v (Takes n now ends i)) (taking c n now ends i s) r

abbrev pub Gave : Cluster → List ℕ → List Line → Nodes → Scene → ℕ → ℕ → List Node → Input → Play → Type 0
Gave c text said v s n now nodes i r = Nobody c text said v s n nodes r ⊎ Took c text said v s n now i r

stepped_so : (c : Cluster) → GivesFit c
    → (text : List ℕ) (said : List Line) (v : Nodes) (moments : List Moment) (p : Play) (n : ℕ) (ends : method.Outcome) (i : Input) (node : Node) (disk : DiskState)
    → lines_of moments ≡ said → p.text ≡ text ++ text_of moments → MayMove v (Takes n p.world.clock ends i) → slice_get p.world.nodes (n - 1) ≡ Some node
    → slice_get p.world.disks (n - 1) ≡ Some disk → Alike c v p.world
    → Follows c text said (moved c v (Takes n p.world.clock ends i)) (taking c n p.world.clock ends i (view v p.world moments))
    (come_to n (stepped_to n p.world.nodes p.world.disks (stepped rules c n p.world.clock ends (v.node n) (v.disk n) i)) p)
stepped_so c gives text said v moments p n ends i node disk spoken written may at_node at_disk h =
    passed_so c text said w n o.given (view w p.world moments) (with_world p (with_step p.world n o)) (gives h.moves v n p.world.clock ends i h.run h.in_time h.shows.clock may) (among_own n o.given v.sent)
    (record { moments = moments; is = refl; alike = alike_step c v p.world n ends i node disk may at_node at_disk h; spoken = spoken; written = written })
  where
    o : Outcome DiskState
    o = stepped disk_rules c n p.world.clock ends (v.node n) (v.disk n) i

    w : Nodes
    w = moved c v (Takes n p.world.clock ends i)

gave_by : (c : Cluster) → GivesFit c → (text : List ℕ) (said : List Line) (v : Nodes) (moments : List Moment) (p : Play) (n : ℕ) (ends : method.Outcome) (i : Input) (a : Option Node)
    (b : Option DiskState) → lines_of moments ≡ said → p.text ≡ text ++ text_of moments → 1 ≤ n → WasSent v i → AnswersFit i → slice_get p.world.nodes (n - 1) ≡ a
    → slice_get p.world.disks (n - 1) ≡ b → Alike c v p.world
    → Gave c text said v (view v p.world moments) n p.world.clock p.world.nodes i (come_to n (stepping_at p.world.cluster n p.world.clock ends i p.world.nodes p.world.disks a b) p)
gave_by c gives text said v moments p n ends i None b spoken written low sent bounded at_node at_disk h =
    inl (record { nobody = at_node; follows = record { moments = moments; is = refl; alike = h; spoken = spoken; written = written } })
gave_by c gives text said v moments p n ends i (Some node) None spoken written low sent bounded at_node at_disk h =
    absurd (in_range p.world.disks (n - 1) (subst (λ k. n - 1 < k) (sym h.paired) (slice_get_within p.world.nodes (n - 1) node at_node)) at_disk)
gave_by c gives text said v moments p n ends i (Some node) (Some disk) spoken written low sent bounded at_node at_disk h =
    let now : ℕ = p.world.clock in
    let may : MayMove v (Takes n now ends i) =
    (low, number_low n (length p.world.nodes) low (slice_get_within p.world.nodes (n - 1) node at_node) h.shows.few, sent, bounded) in
    inr (record {
      ends = ends;
      may = may;
      follows =
          subst (λ z. Follows c text said (moved c v (Takes n now ends i)) (taking c n now ends i (view v p.world moments)) (come_to n (stepped_to n p.world.nodes p.world.disks (stepped rules z n now ends node disk i)) p))
          (sym h.shows.cluster)
          (subst (λ x. Follows c text said (moved c v (Takes n now ends i)) (taking c n now ends i (view v p.world moments)) (come_to n (stepped_to n p.world.nodes p.world.disks (stepped rules c n now ends x disk i)) p))
          (h.shows.node n node low at_node)
          (subst (λ d. Follows c text said (moved c v (Takes n now ends i)) (taking c n now ends i (view v p.world moments)) (come_to n (stepped_to n p.world.nodes p.world.disks (stepped rules c n now ends (v.node n) d i)) p))
          (h.shows.disk n disk low at_disk) (stepped_so c gives text said v moments p n ends i node disk spoken written may at_node at_disk h)));
    })

-- The method that the node calls ends: outcomes that are queued, and agents, are no part of a scene.

abbrev OnlyCalls : WorldState → WorldState → Type 0
OnlyCalls w z = with_calls w z.script z.agents ≡ z

only_ended : (w : WorldState) (o : Option Due) → OnlyCalls w (ended w o).world
only_ended w None = refl
only_ended w (Some d) = by_place (position (fits d.call) w.script)
  where
    by_script : (place : ℕ) (s : Option Scripted) → OnlyCalls w (taken_out w place s).world
    by_script place None = refl
    by_script place (Some s) = refl

    by_agent : (name : Option (List ℕ)) → OnlyCalls w (asked_of w d.call name).world
    by_agent None = refl
    by_agent (Some name) = refl

    by_place : (o : Option ℕ) → OnlyCalls w (ended_so w d o).world
    by_place (Some place) = by_script place (slice_get w.script place)
    by_place None = by_agent d.agent

pub gave_so : (c : Cluster) → GivesFit c → (text : List ℕ) (said : List Line) (v : Nodes) (moments : List Moment) (p : Play) (n : ℕ) (i : Input) → lines_of moments ≡ said
    → p.text ≡ text ++ text_of moments → 1 ≤ n → WasSent v i → AnswersFit i → Alike c v p.world
    → Gave c text said v (view v p.world moments) n p.world.clock p.world.nodes i (giving n i p)
gave_so c gives text said v moments p n i spoken written low sent bounded h =
    let e : Ended = ended p.world (due_in p.world n i) in
    let q : Play = with_world p (with_calls p.world e.world.script e.world.agents) in
    subst (λ w. Gave c text said v (view v p.world moments) n p.world.clock p.world.nodes i (giving_so n i e.outcome (with_world p w))) (only_ended p.world (due_in p.world n i))
    (gave_by c gives text said v moments q n e.outcome i (slice_get p.world.nodes (n - 1)) (slice_get p.world.disks (n - 1)) spoken written low sent bounded refl refl
    (alike_calls c v p.world e.world.script e.world.agents h))

-- One act of a course, and what is known behind it.
use Rattle.std.specs.Prelude.{ℕ, ◌≡◌, ◌≢◌, All, List, ◌∷◌, Option}
use Rattle.std.specs.List.{AllByRecursion}
use Rattle.std.proofs.Common.{◌∙◌}
use Rattle.cmm_attempt.specs.Calls.{IsDevice}
use Rattle.cmm_member.specs.Records.{NodeRecord}
use Rattle.membership_machine.specs.Invariant.{Holds}
use Rattle.membership_machine.specs.State.{Memberships}
use Rattle.history.specs.Member.{in_collect}
use Rattle.history.specs.Setting.{Setting}
use Rattle.node_model.specs.declared.cluster.Cluster.{Cluster}
use Rattle.node_model.specs.declared.input.Input.{Input}
use Rattle.node_model.specs.declared.node.Node.TheVariants.{Up}
use Rattle.node_model.specs.declared.node.UpNode.{UpNode}
use Rattle.node_model.specs.declared.output.Output.{Output}
use Rattle.refinement.proofs.Acts.{does_one}
use Rattle.refinement.proofs.Handlers.{delivered_by}
use Rattle.refinement.proofs.Ties.{known_stays}
use Rattle.refinement.specs.Courses.{Course, Reply, under}
use Rattle.refinement.specs.Doings.{Act, Doing, acted, after_all, given_all, said, site}
use Rattle.refinement.specs.Doings.Doing.{Does}
use Rattle.refinement.specs.Guards.{MayAll}
use Rattle.refinement.specs.Ties.{Delivered, GoesOn, Known, NodeTied, setting_of}
use Rattle.run_history.proofs.Small.{AllSmall}
use Rattle.run_history.specs.Scenes.{Scene, passing}
use Rattle.run_messages.specs.Laws.{IsSeated}
use Rattle.run_messages.specs.Outputs.{AreGood}
use Rattle.run_messages.specs.Steps.{AreCollected, Leads as Leads_so, collecting}
use Rattle.run_messages.proofs.Doings.{collects_after, doing_leads, first_good, then_good}
use Rattle.run_messages.proofs.Lines.{passing_arrived}
use Rattle.run_commands.specs.carried.Guards.{ActAsk, Command, GoesAsk, hand_act}
use Rattle.run_commands.proofs.carried.Causes.{ReadsAnswers, came_stays}
use Rattle.run_commands.proofs.carried.Flying.{OwnOutput}
use Rattle.run_commands.proofs.carried.Lines.{IsApartOutput}
use Rattle.run_commands.proofs.carried.Doings.{ActLeaves, act_leaves}
use Rattle.run_commands.proofs.carried.Leaving.{Leaves}
use Rattle.run_commands.proofs.carried.Walk.{Between, before_of, then_leaves, walk_so}

-- the node is about to take these small steps, and may
pub record Ready (c : Cluster) (n : ℕ) (told : Delivered) (x : UpNode) (disk : NodeRecord) (ds : List Doing) (s : Scene) : Type 0 where
  pub machine : Memberships
  pub holds : Holds (setting_of c) machine
  pub known : Known machine told
  pub tied : NodeTied c machine n disk (Up x)
  pub may : MayAll c n told (site (Up x) disk) ds
  pub small : AllSmall ds
  pub calm : AreCollected (collecting told) ds
  pub at : in_collect n s.moments ≡ collecting told
  pub good : AreGood n (given_all c n (site (Up x) disk) ds)
  pub seated : IsSeated s.moments n (Up x)

pub ready_act : (c : Cluster) (n : ℕ) (told : Delivered) (x : UpNode) (disk : NodeRecord) (a : Act) (ds : List Doing) (s : Scene) → All IsDevice c.attached → Ready c n told x disk (Does a ∷ ds) s
    → Ready c n told (acted c n x a) disk ds (passing n (said c n x a) s)
ready_act c n told x disk a ds s fits r =
    let os : List Output = said c n x a in
    let more : List Output = given_all c n (site (Up (acted c n x a)) disk) ds in
    let here : AreGood n os = first_good n os more r.good in
    let g : GoesOn c r.machine n (site (Up (acted c n x a)) disk) os _ = does_one c r.machine n told (site (Up x) disk) (Does a) fits r.holds r.known r.tied r.may.0 in
    let seat : Leads_so n (Up (acted c n x a)) os s = doing_leads c n told (Up x) disk (Does a) s r.may.0 r.small.0 r.calm.0 r.at here r.seated in
    record {
      machine = g.machine;
      holds = g.holds;
      known = known_stays c r.machine g.machine told r.holds g.grows r.known;
      tied = g.tied;
      may = r.may.1;
      small = r.small.1;
      calm = r.calm.1;
      at = collects_after n os s here ∙ r.at;
      good = then_good n os more r.good;
      seated = seat.own;
    }

-- an act that keeps the guards leaves what is known between small steps
pub record Goes (S : Setting) (n : ℕ) (i : Input) (o : Option Command) (h : Option ℕ) (last : ℕ) (y : UpNode) (os : List Output) (s : Scene) : Type 0 where
  pub left : ActLeaves S n o h last y os s
  pub between : Between S n i o h last y (passing n os s)

pub goes_act : (S : Setting) (c : Cluster) (n : ℕ) (i : Input) (o : Option Command) (h : Option ℕ) (x : UpNode) (disk : NodeRecord) (a : Act) (ds : List Doing) (s : Scene) → ReadsAnswers S
    → Ready c n (delivered_by i) x disk (Does a ∷ ds) s → ActAsk n i o h x a → Between S n i o h x.requests.asked x s
    → Goes S n i o (hand_act x h a) x.requests.asked (acted c n x a) (said c n x a) s
goes_act S c n i o h x disk a ds s exact r ask b =
    let os : List Output = said c n x a in
    let t : Scene = passing n os s in
    let here : AreGood n os = first_good n os (given_all c n (site (Up (acted c n x a)) disk) ds) r.good in
    let l : ActLeaves S n o (hand_act x h a) x.requests.asked (acted c n x a) os s =
    act_leaves S c r.machine n (delivered_by i) i o h x disk a s exact r.holds r.known r.tied r.may.0 r.small.0 ask here r.seated (before_of S c r.machine n i o h x.requests.asked x disk s r.tied b) in
    record { left = l; between = record { so = l.acted_to; carried = l.carried; came = came_stays i n s.moments t.moments (passing_arrived n os s here) b.came } }

-- the rest of a course
pub walked : (S : Setting) (c : Cluster) (n : ℕ) (i : Input) (o : Option Command) (replies : List Reply) (k : Course) (h : Option ℕ) (last : ℕ) (x : UpNode) (disk : NodeRecord) (s : Scene) → ReadsAnswers S
    → All IsDevice c.attached → Ready c n (delivered_by i) x disk (under replies k) s → GoesAsk c n i o h x k → Between S n i o h last x s
    → Leaves S n last (after_all c n (site (Up x) disk) (under replies k)).node (given_all c n (site (Up x) disk) (under replies k)) s
walked S c n i o replies k h last x disk s exact fits r goes b = walk_so S c n i o replies k r.machine h last x disk s exact fits r.holds r.known r.tied r.may r.small r.calm r.at r.good r.seated goes b

-- an act before the rest, under all replies
pub act_first : (S : Setting) (c : Cluster) (n last : ℕ) (x : UpNode) (disk : NodeRecord) (a : Act) (ds : List Doing) (s : Scene) → ((k : ℕ) → k ≢ n → AllByRecursion (IsApartOutput k) (said c n x a))
    → AllByRecursion (OwnOutput n) (said c n x a)
    → Leaves S n last (after_all c n (site (Up (acted c n x a)) disk) ds).node (given_all c n (site (Up (acted c n x a)) disk) ds) (passing n (said c n x a) s)
    → Leaves S n last (after_all c n (site (Up x) disk) (Does a ∷ ds)).node (given_all c n (site (Up x) disk) (Does a ∷ ds)) s
act_first S c n last x disk a ds s apart own rest =
    then_leaves S n last (after_all c n (site (Up (acted c n x a)) disk) ds).node (said c n x a) (given_all c n (site (Up (acted c n x a)) disk) ds) s apart own rest

-- A course of a node that is up, under all replies of its disk.
use Rattle.std.specs.Prelude.{ℕ, ◌≡◌, ◌≢◌, ◌++◌, All, true, List, [], ◌∷◌, Option, is_some}
use Rattle.std.specs.List.{AllByRecursion}
use Rattle.std.proofs.Common.{refl, sym, subst, ◌∙◌, inr}
use Rattle.cmm_attempt.specs.Calls.{IsDevice}
use Rattle.cmm_member.specs.Records.{NodeRecord}
use Rattle.membership_machine.specs.Invariant.{Holds}
use Rattle.membership_machine.specs.State.{Memberships}
use Rattle.status_report.specs.declared.node_entry.DownCause.{DownCause}
use Rattle.status_report.specs.declared.node_entry.NodeEntry.TheVariants as note
use Rattle.history.specs.Member.{in_collect}
use Rattle.history.specs.Moment.{Moment}
use Rattle.history.specs.Setting.{Setting}
use Rattle.node_model.specs.declared.cluster.Cluster.{Cluster}
use Rattle.node_model.specs.declared.input.Input.{Input}
use Rattle.node_model.specs.declared.node.Node.{Node}
use Rattle.node_model.specs.declared.node.Node.TheVariants.{Down, Up}
use Rattle.node_model.specs.declared.node.UpNode.{UpNode}
use Rattle.node_model.specs.declared.output.Output.{Output}
use Rattle.refinement.proofs.Acts.{does_one}
use Rattle.refinement.proofs.Handlers.{delivered_by}
use Rattle.refinement.proofs.Ties.{known_stays}
use Rattle.refinement.specs.Courses.{Course, Reply, under}
use Rattle.refinement.specs.Courses.Course.{Acts, Falls, Keeps, Stops}
use Rattle.refinement.specs.Courses.Reply.{Done, Lost_new, Lost_old}
use Rattle.refinement.specs.Doings.{Change, acted, after_all, changed, effect, first_lines, given_all, gone_line, of_node, said, saved_lines, site}
use Rattle.refinement.specs.Doings.Doing.{Does, Saves}
use Rattle.refinement.specs.Guards.{MayAll, MayChange}
use Rattle.refinement.specs.Ties.{Delivered, GoesOn, Known, NodeTied, setting_of}
use Rattle.run_history.proofs.Idle.{passing_append}
use Rattle.run_history.proofs.Lists.{both}
use Rattle.run_history.proofs.Small.{AllSmall}
use Rattle.run_history.specs.Scenes.{Scene, passing}
use Rattle.run_messages.specs.Laws.{IsSeated}
use Rattle.run_messages.specs.Outputs.{AreGood}
use Rattle.run_messages.specs.Steps.{AreCollected, Leads as Leads_so, collecting}
use Rattle.run_messages.proofs.Doings.{collects_after, doing_leads, first_good, then_good}
use Rattle.run_messages.proofs.Lines.{passing_arrived}
use Rattle.run_commands.specs.carried.Guards.{Command, GoesAsk, hand_act, hand_change}
use Rattle.run_commands.specs.carried.Steps.{CarriedSo}
use Rattle.run_commands.proofs.carried.Acts.{Before}
use Rattle.run_commands.proofs.carried.Causes.{CameSo, PresidentAt, ReadsAnswers, came_stays, president_at}
use Rattle.run_commands.proofs.carried.Changes.{Changed}
use Rattle.run_commands.proofs.carried.Lines.{AreApart}
use Rattle.run_commands.proofs.carried.Mute.{first_mute}
use Rattle.run_commands.proofs.carried.Flying.{OwnOutput}
use Rattle.run_commands.proofs.carried.Doings.{ActLeaves, act_leaves}
use Rattle.run_commands.proofs.carried.Leaving.{ChangeLeaves, Leaves, NodeSo, change_leaves, down_ends, first_apart}

-- what is known between two small steps, but for the machine
pub record Between (S : Setting) (n : ℕ) (i : Input) (o : Option Command) (h : Option ℕ) (last : ℕ) (x : UpNode) (s : Scene) : Type 0 where
  pub so : Changed S n o h last x s.moments
  pub carried : CarriedSo S s.moments
  pub came : CameSo i n s.moments

pub before_of : (S : Setting) (c : Cluster) (M : Memberships) (n : ℕ) (i : Input) (o : Option Command) (h : Option ℕ) (last : ℕ) (x : UpNode) (disk : NodeRecord) (s : Scene) → NodeTied c M n disk (Up x) → Between S n i o h last x s
    → Before S n i o h x s
before_of S c M n i o h last x disk s tied b = record {
  queued = b.so.queued;
  now = b.so.now;
  hand = b.so.hand;
  pending = b.so.pending;
  carried = b.carried;
  came = b.came;
  president = president_at M n x tied.1;
}

pub then_leaves : (S : Setting) (n last : ℕ) (node : Node) (os more : List Output) (s : Scene) → ((k : ℕ) → k ≢ n → AreApart k os) → AllByRecursion (OwnOutput n) os → Leaves S n last node more (passing n os s) → Leaves S n last node (os ++ more) s
then_leaves S n last node os more s apart own r = record {
  own = subst (λ (z : Scene). NodeSo S n last node z.moments) (sym (passing_append n os more s)) r.own;
  carried = subst (λ (z : Scene). CarriedSo S z.moments) (sym (passing_append n os more s)) r.carried;
  apart = λ k ne. both _ os more (apart k ne) (r.apart k ne);
  answers = both _ os more own r.answers;
}

stays_up : (S : Setting) (n : ℕ) (i : Input) (o : Option Command) (h : Option ℕ) (last : ℕ) (x : UpNode) (s : Scene) → Between S n i o h last x s → Leaves S n last (Up x) [] s
stays_up S n i o h last x s b = record { own = record { last_so = b.so.last_so; queued = b.so.queued; pending = b.so.pending }; carried = b.carried; apart = λ k ne. tt; answers = tt }

falls : (S : Setting) (c : Cluster) (n last : ℕ) (told : Delivered) (x : UpNode) (change : Change) (why : DownCause) (s : Scene) → MayChange c n told x change → (is_some x.presidency ≡ true → PresidentAt x n)
    → CarriedSo S s.moments → Leaves S n last Down ((first_lines n change ++ gone_line n why) ++ []) s
falls S c n last told x change why s may president carried =
    let d : Leaves S n last Down (first_lines n change ++ gone_line n why) s = down_ends S n last (first_lines n change) why s (first_mute n change) (first_apart c n told x change may president) carried in
    then_leaves S n last Down (first_lines n change ++ gone_line n why) [] s d.apart d.answers (record { own = tt; carried = d.carried; apart = λ k ne. tt; answers = tt })

pub under_last : (S : Setting) (n : ℕ) (o : Option Command) (h : Option ℕ) (was last : ℕ) (y : UpNode) (ms : List Moment) → was ≡ last → Changed S n o h was y ms → Changed S n o h last y ms
under_last S n o h was last y ms same k = record { queued = k.queued; now = k.now; hand = k.hand; pending = k.pending; last_so = k.last_so ∙ same }

pub walk_so : (S : Setting) (c : Cluster) (n : ℕ) (i : Input) (o : Option Command) (replies : List Reply) (k : Course) (M : Memberships) (h : Option ℕ) (last : ℕ) (x : UpNode) (disk : NodeRecord) (s : Scene) → ReadsAnswers S
    → All IsDevice c.attached → Holds (setting_of c) M → Known M (delivered_by i) → NodeTied c M n disk (Up x) → MayAll c n (delivered_by i) (site (Up x) disk) (under replies k) → AllSmall (under replies k)
    → AreCollected (collecting (delivered_by i)) (under replies k) → in_collect n s.moments ≡ collecting (delivered_by i) → AreGood n (given_all c n (site (Up x) disk) (under replies k))
    → IsSeated s.moments n (Up x) → GoesAsk c n i o h x k → Between S n i o h last x s
    → Leaves S n last (after_all c n (site (Up x) disk) (under replies k)).node (given_all c n (site (Up x) disk) (under replies k)) s
walk_so S c n i o replies Stops M h last x disk s exact fits holds known tied may small calm at good seated goes b = stays_up S n i o h last x s b
walk_so S c n i o replies (Acts a rest) M h last x disk s exact fits holds known tied may small calm at good seated goes b =
    let told : Delivered = delivered_by i in
    let os : List Output = said c n x a in
    let t : Scene = passing n os s in
    let more : List Output = given_all c n (site (Up (acted c n x a)) disk) (under replies rest) in
    let here : AreGood n os = first_good n os more good in
    let g : GoesOn c M n (site (Up (acted c n x a)) disk) os _ = does_one c M n told (site (Up x) disk) (Does a) fits holds known tied may.0 in
    let seat : Leads_so n (Up (acted c n x a)) os s = doing_leads c n told (Up x) disk (Does a) s may.0 small.0 calm.0 at here seated in
    let l : ActLeaves S n o (hand_act x h a) x.requests.asked (acted c n x a) os s =
    act_leaves S c M n told i o h x disk a s exact holds known tied may.0 small.0 goes.0 here seated (before_of S c M n i o h last x disk s tied b) in
    then_leaves S n last (after_all c n (site (Up (acted c n x a)) disk) (under replies rest)).node os more s l.apart l.answers
    (walk_so S c n i o replies rest g.machine (hand_act x h a) last (acted c n x a) disk t exact fits g.holds (known_stays c M g.machine told holds g.grows known) g.tied may.1 small.1 calm.1
    (collects_after n os s here ∙ at) (then_good n os more good) seat.own goes.1
    (record { so = under_last S n o (hand_act x h a) x.requests.asked last (acted c n x a) t.moments b.so.last_so l.acted_to; carried = l.carried; came = came_stays i n s.moments t.moments (passing_arrived n os s here) b.came }))
walk_so S c n i o [] (Keeps change rest) M h last x disk s exact fits holds known tied may small calm at good seated goes b =
    falls S c n last (delivered_by i) x change _ s may.0 (president_at M n x tied.1) b.carried
walk_so S c n i o (Done ∷ replies) (Keeps change rest) M h last x disk s exact fits holds known tied may small calm at good seated goes b =
    let told : Delivered = delivered_by i in
    let os : List Output = first_lines n change ++ saved_lines c n x change in
    let t : Scene = passing n os s in
    let y : UpNode = changed c n x change in
    let more : List Output = given_all c n (effect c n (site (Up x) disk) (Saves change)) (under replies rest) in
    let here : AreGood n os = first_good n os more good in
    let g : GoesOn c M n (effect c n (site (Up x) disk) (Saves change)) os _ = does_one c M n told (site (Up x) disk) (Saves change) fits holds known tied may.0 in
    let seat : Leads_so n (Up y) os s = doing_leads c n told (Up x) disk (Saves change) s may.0 small.0 calm.0 at here seated in
    let l : ChangeLeaves S n o (hand_change x h change) x.requests.asked y os s =
    change_leaves S c M n told i o h x disk change (of_node n note.Saved ∷ []) s holds known tied may.0 goes.0 (inr refl) (before_of S c M n i o h last x disk s tied b) in
    then_leaves S n last (after_all c n (effect c n (site (Up x) disk) (Saves change)) (under replies rest)).node os more s l.apart l.answers
    (walk_so S c n i o replies rest g.machine (hand_change x h change) last y _ t exact fits g.holds (known_stays c M g.machine told holds g.grows known) g.tied may.1 small.1 calm.1
    (collects_after n os s here ∙ at) (then_good n os more good) seat.own goes.1
    (record { so = under_last S n o (hand_change x h change) x.requests.asked last y t.moments b.so.last_so l.changed_to; carried = l.carried; came = came_stays i n s.moments t.moments (passing_arrived n os s here) b.came }))
walk_so S c n i o (Lost_new why ∷ replies) (Keeps change rest) M h last x disk s exact fits holds known tied may small calm at good seated goes b =
    falls S c n last (delivered_by i) x change why s may.0 (president_at M n x tied.1) b.carried
walk_so S c n i o (Lost_old why ∷ replies) (Keeps change rest) M h last x disk s exact fits holds known tied may small calm at good seated goes b =
    falls S c n last (delivered_by i) x change why s may.0 (president_at M n x tied.1) b.carried
walk_so S c n i o replies (Falls why) M h last x disk s exact fits holds known tied may small calm at good seated goes b =
    then_leaves S n last Down (gone_line n why) [] s (λ k ne. (tt, tt)) (tt, tt) (record { own = tt; carried = (down_ends S n last [] why s tt (λ k ne. tt) b.carried).carried; apart = λ k ne. tt; answers = tt })

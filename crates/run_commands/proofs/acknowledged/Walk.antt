-- A course of a node that is up keeps what is known of requests, under all replies of its disk.
use Rattle.std.specs.Prelude.{ℕ, ◌≡◌, ◌≤◌, ◌<◌, ◌⊎◌, ◌++◌, All, true, List, [], ◌∷◌, Option, None, Some, is_some}
use Rattle.std.proofs.Common.{refl, sym, ap, subst, ◌∙◌, arith, inl, inr}
use Rattle.cmm_attempt.specs.Calls.{IsDevice}
use Rattle.cmm_member.specs.Records.{NodeRecord}
use Rattle.membership_machine.specs.Invariant.{Holds}
use Rattle.membership_machine.specs.State.{Memberships}
use Rattle.status_report.specs.declared.node_entry.DownCause.{DownCause}
use Rattle.status_report.specs.declared.node_entry.NodeEntry.TheVariants as note
use Rattle.history.specs.Member.{in_collect}
use Rattle.history.specs.Setting.{Setting}
use Rattle.node_model.specs.Seats.{promised_of, record_of, session_of}
use Rattle.node_model.specs.declared.cluster.Cluster.{Cluster}
use Rattle.node_model.specs.declared.input.Input.{Input}
use Rattle.node_model.specs.declared.node.Node.{Node}
use Rattle.node_model.specs.declared.node.Node.TheVariants.{Down, Up}
use Rattle.node_model.specs.declared.node.UpNode.{UpNode}
use Rattle.node_model.specs.declared.output.Output.{Output}
use Rattle.refinement.proofs.Acts.{does_one}
use Rattle.refinement.proofs.Handlers.{delivered_by}
use Rattle.refinement.proofs.Ties.{known_stays}
use Rattle.refinement.specs.Courses.{Course, Reply, under}
use Rattle.refinement.specs.Courses.Course.{Acts, Falls, Keeps, Stops}
use Rattle.refinement.specs.Courses.Reply.{Done, Lost_new, Lost_old}
use Rattle.refinement.specs.Doings.{Act, Change, acted, after_all, changed, effect, first_lines, given_all, gone_line, last_lines, of_node, said, saved_lines, site}
use Rattle.refinement.specs.Doings.Act.{Makes}
use Rattle.refinement.specs.Doings.Doing.{Does, Saves}
use Rattle.refinement.specs.Guards.{MayAct, MayAll, MayChange}
use Rattle.refinement.specs.Ties.{Delivered, GoesOn, Known, NodeTied, setting_of}
use Rattle.run_history.proofs.Idle.{passing_append}
use Rattle.run_history.proofs.Small.{AllSmall, IsSmallAct}
use Rattle.run_history.specs.Scenes.{Scene, passing}
use Rattle.run_messages.specs.Laws.{IsSeated, membership_in}
use Rattle.run_messages.specs.Outputs.{AreGood}
use Rattle.run_messages.specs.Steps.{AreCollected, Leads as Leads_so, collecting}
use Rattle.run_messages.proofs.Doings.{collects_after, doing_leads, first_good, then_good}
use Rattle.run_messages.proofs.Lines.{passing_arrived}
use Rattle.run_commands.specs.carried.Guards.{ActAsk, ChangeAsk, Command, GoesAsk, hand_act, hand_change}
use Rattle.run_commands.proofs.carried.Acts.{Before, NoMakes}
use Rattle.run_commands.proofs.carried.Causes.{PresidentAt, ReadsAnswers, came_stays, president_at}
use Rattle.run_commands.proofs.carried.Doings.{ActLeaves, act_leaves}
use Rattle.run_commands.proofs.carried.Leaving.{ChangeLeaves, change_leaves}
use Rattle.run_commands.proofs.carried.Mute.{last_mute}
use Rattle.run_commands.proofs.carried.Plain.{last_plain}
use Rattle.run_commands.proofs.carried.Walk.{Between, before_of, under_last}
use Rattle.run_commands.specs.acknowledged.Guards.{ActHand, ChangeHand, GoesHand}
use Rattle.run_commands.specs.acknowledged.Steps.{NodeSo, ToldSo, UpSo}
use Rattle.run_commands.proofs.acknowledged.Acts.{Holding, act_holds}
use Rattle.run_commands.proofs.acknowledged.Changes.{Bound, begun, promise_rises, within_begun, within_bound}
use Rattle.run_commands.proofs.acknowledged.Frames.{passing_mute, unused_stays}
use Rattle.run_commands.proofs.acknowledged.Saying.{passing_told}
use Rattle.run_commands.proofs.acknowledged.Waiting.{ReadsUpdates}
use Rattle.run_commands.proofs.acknowledged.Changing.{Passed, bound_of, change_holds, member_some, passed, told_begun}

-- ---- what is left

pub record Left (S : Setting) (c : Cluster) (n promised : ℕ) (node : Node) (os : List Output) (s : Scene) : Type 0 where
  pub own : NodeSo S c n (passing n os s).moments promised node
  pub told : ToldSo S c (passing n os s).moments

pub then_left : (S : Setting) (c : Cluster) (n promised : ℕ) (node : Node) (os more : List Output) (s : Scene) → Left S c n promised node more (passing n os s) → Left S c n promised node (os ++ more) s
then_left S c n promised node os more s r = record {
  own = subst (λ (z : Scene). NodeSo S c n z.moments promised node) (sym (passing_append n os more s)) r.own;
  told = subst (λ (z : Scene). ToldSo S c z.moments) (sym (passing_append n os more s)) r.told;
}

then_above : (p q e : ℕ) → p ≤ q → q < e → p < e
then_above p q e h k = omega (arith, h, k)

-- the node goes down in a save
falls : (S : Setting) (c : Cluster) (n : ℕ) (told : Delivered) (i : Input) (v : Option ℕ) (promised after : ℕ) (x : UpNode) (change : Change) (why : DownCause) (s : Scene) → MayChange c n told x change → ChangeHand c i n v x change
    → Bound promised x → AreGood n (first_lines n change ++ gone_line n why) → promised ≤ after → UpSo S c n s.moments promised x → ToldSo S c s.moments → Left S c n after Down ((first_lines n change ++ gone_line n why) ++ []) s
falls S c n told i v promised after x change why s may hand bound good low held_so h =
    let pass : Passed S c n change (gone_line n why) s = passed S c n change (gone_line n why) s (tt, tt) (tt, tt) good in
    then_left S c n after Down (first_lines n change ++ gone_line n why) [] s (record {
      own = λ e above. unused_stays S n e (begun s.moments change) _ pass.frame (within_begun c n told promised x change s.moments may bound held_so.within e (then_above promised after e low above));
      told = pass.told (told_begun S c n told i v promised x change s.moments may hand held_so h);
    })

good_fall : (n : ℕ) (os more : List Output) → AreGood n (os ++ more) → AreGood n os
good_fall n os more h = first_good n os more h

no_less : (a b : ℕ) → a ≡ b → a ≤ b
no_less a b h = omega (arith, h)

-- an act
record After (S : Setting) (c : Cluster) (n : ℕ) (i : Input) (v : Option ℕ) (promised : ℕ) (x : UpNode) (a : Act) (s : Scene) : Type 0 where
  holds : Holding S c n i v promised (acted c n x a) (passing n (said c n x a) s).moments

makes_or : (a : Act) → NoMakes a ⊎ ((change : Change) × (a ≡ Makes change))
makes_or (Makes change) = inr (change, refl)
makes_or _ = inl tt

act_after : (S : Setting) (c : Cluster) (n : ℕ) (told : Delivered) (i : Input) (v : Option ℕ) (o : Option Command) (h : Option ℕ) (promised : ℕ) (x : UpNode) (a : Act) (s : Scene) → ReadsUpdates c S → (1 ≤ n) × (n ≤ 32)
    → MayAct c n told x a → IsSmallAct a → ActAsk n i o h x a → ActHand c i n v x a → AreGood n (said c n x a) → Bound promised x → (is_some (acted c n x a).presidency ≡ true → PresidentAt (acted c n x a) n)
    → ((e : ℕ) → membership_in (acted c n x a).seat ≡ Some e → 0 < session_of (acted c n x a)) → Before S n i o h x s → Holding S c n i v promised x s.moments → After S c n i v promised x a s
act_after S c n told i v o h promised x a s reads range may small ask hand good bound president some b k = by (makes_or a)
  where
    by : (NoMakes a ⊎ ((change : Change) × (a ≡ Makes change))) → After S c n i v promised x a s
    by (inl nm) = record { holds = act_holds S c n told i v o h promised x a s reads range nm may small ask hand good (within_bound promised x bound) b k }
    by (inr it) =
        subst (λ (z : Act). After S c n i v promised x z s) (sym it.1)
        (made it.0 (subst (λ (z : Act). MayAct c n told x z) it.1 may) (subst (λ (z : Act). ActAsk n i o h x z) it.1 ask) (subst (λ (z : Act). ActHand c i n v x z) it.1 hand)
        (subst (λ (z : Act). AreGood n (said c n x z)) it.1 good) (subst (λ (z : Act). is_some (acted c n x z).presidency ≡ true → PresidentAt (acted c n x z) n) it.1 president)
        (subst (λ (z : Act). (e : ℕ) → membership_in (acted c n x z).seat ≡ Some e → 0 < session_of (acted c n x z)) it.1 some))
      where
        made : (change : Change) → MayAct c n told x (Makes change) → ChangeAsk o x change → ChangeHand c i n v x change → AreGood n (first_lines n change ++ last_lines c n x change)
            → (is_some (changed c n x change).presidency ≡ true → PresidentAt (changed c n x change) n) → ((e : ℕ) → membership_in (changed c n x change).seat ≡ Some e → 0 < session_of (changed c n x change))
            → After S c n i v promised x (Makes change) s
        made change may ask hand good president some =
            let k2 : Holding S c n i v (promised_of (changed c n x change)) (changed c n x change) (passing n (first_lines n change ++ last_lines c n x change) s).moments =
            change_holds S c n told i v o h promised x change (last_lines c n x change) s reads range may.0 ask hand bound (last_plain c n x change) (last_mute c n x change) good president some b k in
            record { holds = subst (λ p. Holding S c n i v p (changed c n x change) (passing n (first_lines n change ++ last_lines c n x change) s).moments) (ap (λ (r : NodeRecord). r.promised) may.1 ∙ sym bound.promise) k2 }

pub walk_left : (S : Setting) (c : Cluster) (n : ℕ) (i : Input) (v : Option ℕ) (o : Option Command) (replies : List Reply) (k : Course) (M : Memberships) (h : Option ℕ) (last : ℕ) (x : UpNode) (disk : NodeRecord) (s : Scene) → ReadsAnswers S
    → ReadsUpdates c S → (1 ≤ n) × (n ≤ 32) → All IsDevice c.attached → Holds (setting_of c) M → Known M (delivered_by i) → NodeTied c M n disk (Up x) → MayAll c n (delivered_by i) (site (Up x) disk) (under replies k)
    → AllSmall (under replies k) → AreCollected (collecting (delivered_by i)) (under replies k) → in_collect n s.moments ≡ collecting (delivered_by i) → AreGood n (given_all c n (site (Up x) disk) (under replies k))
    → IsSeated s.moments n (Up x) → GoesAsk c n i o h x k → GoesHand c i n v x k → Between S n i o h last x s → Holding S c n i v disk.promised x s.moments
    → Left S c n (after_all c n (site (Up x) disk) (under replies k)).disk.promised (after_all c n (site (Up x) disk) (under replies k)).node (given_all c n (site (Up x) disk) (under replies k)) s
walk_left S c n i v o replies Stops M h last x disk s exact reads range fits holds known tied may small calm at good seated goes hand b k = record { own = k.up; told = k.told }
walk_left S c n i v o replies (Acts a rest) M h last x disk s exact reads range fits holds known tied may small calm at good seated goes hand b k =
    let told : Delivered = delivered_by i in
    let y : UpNode = acted c n x a in
    let os : List Output = said c n x a in
    let t : Scene = passing n os s in
    let more : List Output = given_all c n (site (Up y) disk) (under replies rest) in
    let here : AreGood n os = first_good n os more good in
    let g : GoesOn c M n (site (Up y) disk) os _ = does_one c M n told (site (Up x) disk) (Does a) fits holds known tied may.0 in
    let seat : Leads_so n (Up y) os s = doing_leads c n told (Up x) disk (Does a) s may.0 small.0 calm.0 at here seated in
    let before : Before S n i o h x s = before_of S c M n i o h last x disk s tied b in
    let l : ActLeaves S n o (hand_act x h a) x.requests.asked y os s = act_leaves S c M n told i o h x disk a s exact holds known tied may.0 small.0 goes.0 here seated before in
    let next : After S c n i v disk.promised x a s =
    act_after S c n told i v o h disk.promised x a s reads range may.0 small.0 goes.0 hand.0 here (bound_of c M n x disk holds tied) (president_at g.machine n y g.tied.1) (member_some c g.machine n y disk g.holds g.tied) before k in
    then_left S c n (after_all c n (site (Up y) disk) (under replies rest)).disk.promised (after_all c n (site (Up y) disk) (under replies rest)).node os more s
    (walk_left S c n i v o replies rest g.machine (hand_act x h a) last y disk t exact reads range fits g.holds (known_stays c M g.machine told holds g.grows known) g.tied may.1 small.1 calm.1
    (collects_after n os s here ∙ at) (then_good n os more good) seat.own goes.1 hand.1
    (record { so = under_last S n o (hand_act x h a) x.requests.asked last y t.moments b.so.last_so l.acted_to; carried = l.carried; came = came_stays i n s.moments t.moments (passing_arrived n os s here) b.came }) next.holds)
walk_left S c n i v o [] (Keeps change rest) M h last x disk s exact reads range fits holds known tied may small calm at good seated goes hand b k =
    falls S c n (delivered_by i) i v disk.promised disk.promised x change _ s may.0 hand.0 (bound_of c M n x disk holds tied) (first_good n _ [] good) (no_less disk.promised disk.promised refl) k.up k.told
walk_left S c n i v o (Done ∷ replies) (Keeps change rest) M h last x disk s exact reads range fits holds known tied may small calm at good seated goes hand b k =
    let told : Delivered = delivered_by i in
    let y : UpNode = changed c n x change in
    let os : List Output = first_lines n change ++ saved_lines c n x change in
    let t : Scene = passing n os s in
    let more : List Output = given_all c n (effect c n (site (Up x) disk) (Saves change)) (under replies rest) in
    let here : AreGood n os = first_good n os more good in
    let g : GoesOn c M n (effect c n (site (Up x) disk) (Saves change)) os _ = does_one c M n told (site (Up x) disk) (Saves change) fits holds known tied may.0 in
    let seat : Leads_so n (Up y) os s = doing_leads c n told (Up x) disk (Saves change) s may.0 small.0 calm.0 at here seated in
    let before : Before S n i o h x s = before_of S c M n i o h last x disk s tied b in
    let l : ChangeLeaves S n o (hand_change x h change) x.requests.asked y os s =
    change_leaves S c M n told i o h x disk change (of_node n note.Saved ∷ []) s holds known tied may.0 goes.0 (inr refl) before in
    let next : Holding S c n i v (promised_of y) y t.moments =
    change_holds S c n told i v o h disk.promised x change (saved_lines c n x change) s reads range may.0 goes.0 hand.0 (bound_of c M n x disk holds tied) (tt, last_plain c n x change) (tt, last_mute c n x change) here
    (president_at g.machine n y g.tied.1) (member_some c g.machine n y (record_of y) g.holds g.tied) before k in
    then_left S c n (after_all c n (effect c n (site (Up x) disk) (Saves change)) (under replies rest)).disk.promised (after_all c n (effect c n (site (Up x) disk) (Saves change)) (under replies rest)).node os more s
    (walk_left S c n i v o replies rest g.machine (hand_change x h change) last y (record_of y) t exact reads range fits g.holds (known_stays c M g.machine told holds g.grows known) g.tied may.1 small.1 calm.1
    (collects_after n os s here ∙ at) (then_good n os more good) seat.own goes.1 hand.1
    (record { so = under_last S n o (hand_change x h change) x.requests.asked last y t.moments b.so.last_so l.changed_to; carried = l.carried; came = came_stays i n s.moments t.moments (passing_arrived n os s here) b.came }) next)
walk_left S c n i v o (Lost_new why ∷ replies) (Keeps change rest) M h last x disk s exact reads range fits holds known tied may small calm at good seated goes hand b k =
    let bound : Bound disk.promised x = bound_of c M n x disk holds tied in
    falls S c n (delivered_by i) i v disk.promised (promised_of (changed c n x change)) x change why s may.0 hand.0 bound (first_good n _ [] good)
    (subst (λ j. j ≤ promised_of (changed c n x change)) (sym bound.promise) (promise_rises c n (delivered_by i) x change may.0)) k.up k.told
walk_left S c n i v o (Lost_old why ∷ replies) (Keeps change rest) M h last x disk s exact reads range fits holds known tied may small calm at good seated goes hand b k =
    falls S c n (delivered_by i) i v disk.promised disk.promised x change why s may.0 hand.0 (bound_of c M n x disk holds tied) (first_good n _ [] good) (no_less disk.promised disk.promised refl) k.up k.told
walk_left S c n i v o replies (Falls why) M h last x disk s exact reads range fits holds known tied may small calm at good seated goes hand b k =
    let os : List Output = gone_line n why in
    then_left S c n disk.promised Down os [] s (record {
      own = λ e above. unused_stays S n e s.moments (passing n os s).moments (passing_mute S n n os s (tt, tt) (tt, tt)) (k.up.within e above);
      told = passing_told S c n None 0 os s (first_good n os [] good) (tt, tt) (tt, tt) k.told;
    })

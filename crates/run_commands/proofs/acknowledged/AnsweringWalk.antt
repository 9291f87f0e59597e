-- A course of a node that is up keeps what is carried, under all replies of its disk.
use Rattle.std.specs.Prelude.{ℕ, ◌≡◌, ◌≤◌, ◌⊎◌, ◌++◌, All, List, [], ◌∷◌, length, Option, None, Some}
use Rattle.std.proofs.Common.{refl, sym, ap, subst, ◌∙◌, arith, inl, inr}
use Rattle.ccr_commit.specs.Entries.{texts_of}
use Rattle.cmm_attempt.specs.Calls.{IsDevice}
use Rattle.cmm_attempt.proofs.Basics.{same_some}
use Rattle.cmm_member.specs.Records.{NodeRecord}
use Rattle.membership_machine.specs.Invariant.{Holds}
use Rattle.membership_machine.specs.State.{Memberships}
use Rattle.proposals.specs.declared.arrived.Proposed.{Proposed}
use Rattle.status_report.specs.declared.node_entry.DownCause.{DownCause}
use Rattle.status_report.specs.declared.node_entry.NodeEntry.TheVariants as note
use Rattle.history.specs.Letters.{arrived}
use Rattle.history.specs.Member.{in_collect}
use Rattle.history.specs.Moment.{Moment}
use Rattle.history.specs.Setting.{Setting}
use Rattle.node_model.specs.Presidents.{last_place}
use Rattle.node_model.specs.Seats.{promised_of, record_of, state_of}
use Rattle.node_model.specs.declared.cluster.Cluster.{Cluster}
use Rattle.node_model.specs.declared.input.Input.{Input}
use Rattle.node_model.specs.declared.input.Input.TheVariants.{Packet}
use Rattle.node_model.specs.declared.node.Node.{Node}
use Rattle.node_model.specs.declared.node.Node.TheVariants.{Down, Up}
use Rattle.node_model.specs.declared.node.UpNode.{UpNode}
use Rattle.node_model.specs.declared.output.Output.{Output}
use Rattle.node_model.specs.declared.presidency.Presidency.{Presidency}
use Rattle.node_model.specs.declared.seat.Seat.{Seat}
use Rattle.node_model.specs.declared.seat.Seat.TheVariants.{Forming, Member}
use Rattle.refinement.proofs.Acts.{does_one}
use Rattle.refinement.proofs.Handlers.{delivered_by}
use Rattle.refinement.proofs.Ties.{known_stays}
use Rattle.refinement.specs.Courses.{Course, Reply, under}
use Rattle.refinement.specs.Courses.Course.{Acts, Falls, Keeps, Stops}
use Rattle.refinement.specs.Courses.Reply.{Done, Lost_new, Lost_old}
use Rattle.refinement.specs.Doings.{Act, Change, acted, after_all, changed, effect, first_lines, given_all, gone_line, last_lines, of_node, said, saved_lines, site}
use Rattle.refinement.specs.Doings.Act.{Makes}
use Rattle.refinement.specs.Doings.Doing.{Does, Saves}
use Rattle.refinement.specs.Guards.{MayAct, MayAll, MayChange}
use Rattle.refinement.specs.Ties.{GoesOn, Known, NodeTied, PresidentTied, ProposedTied, setting_of}
use Rattle.run_history.proofs.Idle.{passing_append}
use Rattle.run_history.proofs.Small.{AllSmall, IsSmallAct}
use Rattle.run_history.specs.Scenes.{Scene, passing}
use Rattle.run_messages.specs.Laws.{IsSeated}
use Rattle.run_messages.specs.Outputs.{AreGood}
use Rattle.run_messages.specs.Steps.{AreCollected, Leads as Leads_so, collecting}
use Rattle.run_messages.proofs.Doings.{collects_after, doing_leads, first_good, then_good}
use Rattle.run_messages.proofs.Lines.{passing_arrived}
use Rattle.run_commands.specs.carried.Guards.{ActAsk, ChangeAsk, Command, GoesAsk, hand_act, hand_change}
use Rattle.run_commands.proofs.carried.Acts.{Before, NoMakes}
use Rattle.run_commands.proofs.carried.Causes.{ReadsAnswers, came_stays, president_at}
use Rattle.run_commands.proofs.carried.Doings.{ActLeaves, act_leaves, plain_act}
use Rattle.run_commands.proofs.carried.Leaving.{ChangeLeaves, change_leaves}
use Rattle.run_commands.proofs.carried.Mute.{last_mute}
use Rattle.run_commands.proofs.carried.Plain.{last_plain}
use Rattle.run_commands.proofs.carried.Walk.{Between, before_of, under_last}
use Rattle.run_commands.specs.acknowledged.Guards.{ActHand, ChangeHand, GoesHand}
use Rattle.run_commands.proofs.acknowledged.Acts.{Holding, act_holds}
use Rattle.run_commands.proofs.acknowledged.Changes.{Bound, promise_rises, within_bound}
use Rattle.run_commands.proofs.acknowledged.Changing.{bound_of, change_holds, member_some}
use Rattle.run_commands.proofs.acknowledged.Waiting.{ReadsUpdates}
use Rattle.run_commands.proofs.acknowledged.Carrying.{Around, At, CameFrom, Carries, ChangedTo, GoesAlso, NodeAt, PlaceSo}
use Rattle.run_commands.specs.acknowledged.AnsweringGuards.{ActSo, ChangeSo, Due, GoesSo}
use Rattle.run_commands.proofs.acknowledged.Settled.{AcksArePending}
use Rattle.run_commands.proofs.acknowledged.Own.{Elsewhere, NowAsked}
use Rattle.run_commands.proofs.acknowledged.Acks.{first_acks, then_acks}
use Rattle.run_commands.proofs.acknowledged.Elsewhere.{elsewhere}
use Rattle.run_commands.proofs.acknowledged.OwnNow.{AreAskless, change_askless, now_stays, passing_askless, plains_askless}

-- ---- what is known of the node

place_in : (M : Memberships) (n : ℕ) (x : UpNode) (o : Option Presidency) (seat : Seat) → x.seat ≡ seat → PresidentTied M n o seat → (p : Presidency) (pr : Proposed) → o ≡ Some p → p.proposals.proposed ≡ Some pr
    → pr.place ≡ last_place x
place_in M n x None seat at h p pr is some = cc
place_in M n x (Some q) (Forming s) at h p pr is some = absurd h
place_in M n x (Some q) (Member s) at h p pr is some =
    (subst (λ o. ProposedTied M n s o) (ap (λ (z : Presidency). z.proposals.proposed) (same_some q p is) ∙ some) h.proposed).0
    ∙ sym (ap (λ (z : Seat). length (texts_of (state_of z).saved.entries)) at)

pub place_so : (M : Memberships) (n : ℕ) (x : UpNode) → PresidentTied M n x.presidency x.seat → PlaceSo x
place_so M n x tied p pr is some = place_in M n x x.presidency x.seat refl tied p pr is some

pub from_stays : (i : Input) (before after : List Moment) → arrived after ≡ arrived before → CameFrom i before → CameFrom i after
from_stays (Packet from m) before after same h = record { letter = h.letter; here = same ∙ h.here; sender = h.sender; says_so = h.says_so }
from_stays _ before after same h = tt

-- ---- what is left

pub record Left (P : ℕ → ℕ → Due → UpNode → ℕ → List Moment → Type 0) (Q : ℕ → ℕ → List Moment → Type 0) (W : List Moment → Type 0) (n promised : ℕ) (node : Node) (os : List Output) (s : Scene) : Type 0 where
  pub own : NodeAt P Q n promised node (passing n os s)
  pub told : W (passing n os s).moments

pub then_left : (P : ℕ → ℕ → Due → UpNode → ℕ → List Moment → Type 0) (Q : ℕ → ℕ → List Moment → Type 0) (W : List Moment → Type 0) (n promised : ℕ) (node : Node) (os more : List Output) (s : Scene)
    → Left P Q W n promised node more (passing n os s) → Left P Q W n promised node (os ++ more) s
then_left P Q W n promised node os more s r = record {
  own = subst (λ (z : Scene). NodeAt P Q n promised node z) (sym (passing_append n os more s)) r.own;
  told = subst (λ (z : Scene). W z.moments) (sym (passing_append n os more s)) r.told;
}

no_less : (a b : ℕ) → a ≡ b → a ≤ b
no_less a b h = omega (arith, h)

-- ---- one small step

pub record Next (S : Setting) (c : Cluster) (P : ℕ → ℕ → Due → UpNode → ℕ → List Moment → Type 0) (W : List Moment → Type 0) (n : ℕ) (i : Input) (v : Option ℕ) (promised : ℕ) (d : Due) (y : UpNode) (t : Scene) : Type 0 where
  pub holds : Holding S c n i v promised y t.moments
  pub inside : At P n promised d y t
  pub told : W t.moments

record ItMakes (a : Act) : Type 0 where
  change : Change
  is : a ≡ Makes change

makes_or : (a : Act) → NoMakes a ⊎ ItMakes a
makes_or (Makes change) = inr (record { change = change; is = refl })
makes_or _ = inl tt

-- an act asks nothing
act_askless : (c : Cluster) (n : ℕ) (i : Input) (o : Option Command) (h : Option ℕ) (x : UpNode) (a : Act) → IsSmallAct a → ActAsk n i o h x a → AreAskless (said c n x a)
act_askless c n i o h x a small ask = by (makes_or a)
  where
    by : NoMakes a ⊎ ItMakes a → AreAskless (said c n x a)
    by (inl nm) = plains_askless (said c n x a) (plain_act c n i o h x a nm small ask)
    by (inr it) = subst (λ (z : Act). AreAskless (said c n x z)) (sym it.is) (change_askless c n x it.change [] (inl refl))

pub act_next : (S : Setting) (c : Cluster) (P : ℕ → ℕ → Due → UpNode → ℕ → List Moment → Type 0) (Q : ℕ → ℕ → List Moment → Type 0) (W : List Moment → Type 0) (N : ℕ → UpNode → Type 0) (A : Input → ℕ → Option ℕ → UpNode → Act → Type 0)
    (B : Input → ℕ → Option ℕ → UpNode → Change → Type 0) → Carries S c P Q W N A B → (n : ℕ) (i : Input) (v : Option ℕ) (o : Option Command) (h : Option ℕ) (promised : ℕ) (x : UpNode) (a : Act) (d g : Due) (s : Scene) → ReadsUpdates c S
    → ((change : Change) → MayChange c n (delivered_by i) x change → Elsewhere n change) → Around S c n i v o h promised x s → MayAct c n (delivered_by i) x a → IsSmallAct a → ActAsk n i o h x a → ActHand c i n v x a → ActSo c i n v x d a g → A i n v x a → AreGood n (said c n x a)
    → AcksArePending (passing n (said c n x a) s).moments → ChangedTo n (acted c n x a) → At P n promised d x s → W s.moments → Next S c P W n i v promised g (acted c n x a) (passing n (said c n x a) s)
act_next S c P Q W N A B R n i v o h promised x a d g s reads away k may small ask hand so also good acks after inside told = by (makes_or a)
  where
    by : NoMakes a ⊎ ItMakes a → Next S c P W n i v promised g (acted c n x a) (passing n (said c n x a) s)
    by (inl nm) =
        let r : At P n promised g (acted c n x a) (passing n (said c n x a) s) × W (passing n (said c n x a) s).moments =
        R.acts n i v o h promised x a d g s k (record { none = nm; may = may; small = small; ask = ask; hand = hand; so = so; good = good; acks = acks }) also inside told in
        record { holds = act_holds S c n (delivered_by i) i v o h promised x a s reads k.range nm may small ask hand good (within_bound promised x k.bound) k.before k.holds; inside = r.0; told = r.1 }
    by (inr it) =
        subst (λ (z : Act). Next S c P W n i v promised g (acted c n x z) (passing n (said c n x z) s)) (sym it.is)
        (made it.change (subst (λ (z : Act). MayAct c n (delivered_by i) x z) it.is may) (subst (λ (z : Act). ActAsk n i o h x z) it.is ask) (subst (λ (z : Act). ActHand c i n v x z) it.is hand)
        (subst (λ (z : Act). ActSo c i n v x d z g) it.is so) (subst (λ (z : Act). A i n v x z) it.is also) (subst (λ (z : Act). AreGood n (said c n x z)) it.is good)
        (subst (λ (z : Act). AcksArePending (passing n (said c n x z) s).moments) it.is acks) (subst (λ (z : Act). ChangedTo n (acted c n x z)) it.is after))
      where
        made : (change : Change) → MayAct c n (delivered_by i) x (Makes change) → ChangeAsk o x change → ChangeHand c i n v x change → ChangeSo c i n v x d change g → A i n v x (Makes change)
            → AreGood n (first_lines n change ++ last_lines c n x change) → AcksArePending (passing n (first_lines n change ++ last_lines c n x change) s).moments → ChangedTo n (changed c n x change)
            → Next S c P W n i v promised g (changed c n x change) (passing n (first_lines n change ++ last_lines c n x change) s)
        made change may ask hand so also good acks after =
            let y : UpNode = changed c n x change in
            let t : Scene = passing n (first_lines n change ++ last_lines c n x change) s in
            let same : promised_of y ≡ promised = ap (λ (r : NodeRecord). r.promised) may.1 ∙ sym k.bound.promise in
            let r : At P n (promised_of y) g y t × W t.moments =
            R.changes n i v o h promised x change d g [] s k (inl refl) (record { may = may.0; ask = ask; hand = hand; so = so; elsewhere = away change may.0; good = good; acks = acks }) after (R.makes n i v x change also) inside told in
            record {
              holds = subst (λ p. Holding S c n i v p y t.moments) same
                  (change_holds S c n (delivered_by i) i v o h promised x change (last_lines c n x change) s reads k.range may.0 ask hand k.bound (last_plain c n x change) (last_mute c n x change) good after.president after.session
                  k.before k.holds);
              inside = subst (λ p. At P n p g y t) same r.0;
              told = r.1;
            }

-- the node goes down in a save
falls_left : (S : Setting) (c : Cluster) (P : ℕ → ℕ → Due → UpNode → ℕ → List Moment → Type 0) (Q : ℕ → ℕ → List Moment → Type 0) (W : List Moment → Type 0) (N : ℕ → UpNode → Type 0) (A : Input → ℕ → Option ℕ → UpNode → Act → Type 0)
    (B : Input → ℕ → Option ℕ → UpNode → Change → Type 0) → Carries S c P Q W N A B → (n : ℕ) (i : Input) (v : Option ℕ) (o : Option Command) (h : Option ℕ) (promised later : ℕ) (x : UpNode) (change : Change) (d g : Due) (why : DownCause)
    (s : Scene) → Around S c n i v o h promised x s → Elsewhere n change → MayChange c n (delivered_by i) x change → ChangeAsk o x change → ChangeHand c i n v x change → ChangeSo c i n v x d change g
    → AreGood n ((first_lines n change ++ gone_line n why) ++ []) → AcksArePending (passing n ((first_lines n change ++ gone_line n why) ++ []) s).moments → promised ≤ later → At P n promised d x s → W s.moments
    → Left P Q W n later Down ((first_lines n change ++ gone_line n why) ++ []) s
falls_left S c P Q W N A B R n i v o h promised later x change d g why s k away may ask hand so good acks low inside told =
    let os : List Output = first_lines n change ++ gone_line n why in
    let r : Q n later (passing n os s).moments × W (passing n os s).moments =
    R.falls n i v o h promised later x change d g why s k
    (record { may = may; ask = ask; hand = hand; so = so; elsewhere = away; good = first_good n os [] good; acks = first_acks n os [] s acks }) low inside told in
    then_left P Q W n later Down os [] s (record { own = r.0; told = r.1 })

pub walk_left : (S : Setting) (c : Cluster) (P : ℕ → ℕ → Due → UpNode → ℕ → List Moment → Type 0) (Q : ℕ → ℕ → List Moment → Type 0) (W : List Moment → Type 0) (N : ℕ → UpNode → Type 0) (A : Input → ℕ → Option ℕ → UpNode → Act → Type 0)
    (B : Input → ℕ → Option ℕ → UpNode → Change → Type 0) → Carries S c P Q W N A B → (n : ℕ) (i : Input) (v : Option ℕ) (o : Option Command) (replies : List Reply) (k : Course) (M : Memberships) (h : Option ℕ) (last : ℕ) (x : UpNode)
    (disk : NodeRecord) (d : Due) (s : Scene) → ReadsAnswers S → ReadsUpdates c S → (1 ≤ n) × (n ≤ 32) → All IsDevice c.attached → Holds (setting_of c) M → Known M (delivered_by i) → NodeTied c M n disk (Up x)
    → MayAll c n (delivered_by i) (site (Up x) disk) (under replies k) → AllSmall (under replies k) → AreCollected (collecting (delivered_by i)) (under replies k) → in_collect n s.moments ≡ collecting (delivered_by i)
    → AreGood n (given_all c n (site (Up x) disk) (under replies k)) → IsSeated s.moments n (Up x) → GoesAsk c n i o h x k → GoesHand c i n v x k → GoesSo c i n v d x k → GoesAlso A B c i n v x k → Between S n i o h last x s
    → Holding S c n i v disk.promised x s.moments → CameFrom i s.moments → NowAsked S n i x.requests.asked s.moments → AcksArePending (passing n (given_all c n (site (Up x) disk) (under replies k)) s).moments → At P n disk.promised d x s → W s.moments
    → Left P Q W n (after_all c n (site (Up x) disk) (under replies k)).disk.promised (after_all c n (site (Up x) disk) (under replies k)).node (given_all c n (site (Up x) disk) (under replies k)) s
walk_left S c P Q W N A B R n i v o replies Stops M h last x disk d s exact reads range fits holds known tied may small calm at good seated asks hand so also b k from now acks inside told =
    record { own = subst (λ z. At P n disk.promised z x s) so inside; told = told }
walk_left S c P Q W N A B R n i v o replies (Acts a rest) M h last x disk d s exact reads range fits holds known tied may small calm at good seated asks hand so also b k from now acks inside told =
    let y : UpNode = acted c n x a in
    let os : List Output = said c n x a in
    let t : Scene = passing n os s in
    let more : List Output = given_all c n (site (Up y) disk) (under replies rest) in
    let here : AreGood n os = first_good n os more good in
    let g : GoesOn c M n (site (Up y) disk) os _ = does_one c M n (delivered_by i) (site (Up x) disk) (Does a) fits holds known tied may.0 in
    let seat : Leads_so n (Up y) os s = doing_leads c n (delivered_by i) (Up x) disk (Does a) s may.0 small.0 calm.0 at here seated in
    let before : Before S n i o h x s = before_of S c M n i o h last x disk s tied b in
    let around : Around S c n i v o h disk.promised x s =
    record { range = range; before = before; holds = k; bound = bound_of c M n x disk holds tied; seated = seated; place = place_so M n x tied.1; from = from; now = now } in
    let l : ActLeaves S n o (hand_act x h a) x.requests.asked y os s = act_leaves S c M n (delivered_by i) i o h x disk a s exact holds known tied may.0 small.0 asks.0 here seated before in
    let next : Next S c P W n i v disk.promised so.0 y t =
    act_next S c P Q W N A B R n i v o h disk.promised x a d so.0 s reads (λ change fine. elsewhere c M n (delivered_by i) x disk change holds known tied fine) around may.0 small.0 asks.0 hand.0 so.1 also.0 here (first_acks n os more s acks)
    (record { president = president_at g.machine n y g.tied.1; session = member_some c g.machine n y disk g.holds g.tied; place = place_so g.machine n y g.tied.1 }) inside told in
    then_left P Q W n (after_all c n (site (Up y) disk) (under replies rest)).disk.promised (after_all c n (site (Up y) disk) (under replies rest)).node os more s
    (walk_left S c P Q W N A B R n i v o replies rest g.machine (hand_act x h a) last y disk so.0 t exact reads range fits g.holds (known_stays c M g.machine (delivered_by i) holds g.grows known) g.tied may.1 small.1 calm.1
    (collects_after n os s here ∙ at) (then_good n os more good) seat.own asks.1 hand.1 so.2 also.1
    (record { so = under_last S n o (hand_act x h a) x.requests.asked last y t.moments b.so.last_so l.acted_to; carried = l.carried; came = came_stays i n s.moments t.moments (passing_arrived n os s here) b.came }) next.holds
    (from_stays i s.moments t.moments (passing_arrived n os s here) from)
    (now_stays S n i x.requests.asked y.requests.asked s.moments t.moments (passing_askless S n os s (act_askless c n i o h x a small.0 asks.0)) l.acted_to.last_so now) (then_acks n os more s acks) next.inside next.told)
walk_left S c P Q W N A B R n i v o [] (Keeps change rest) M h last x disk d s exact reads range fits holds known tied may small calm at good seated asks hand so also b k from now acks inside told =
    falls_left S c P Q W N A B R n i v o h disk.promised disk.promised x change d so.0 _ s
    (record { range = range; before = before_of S c M n i o h last x disk s tied b; holds = k; bound = bound_of c M n x disk holds tied; seated = seated; place = place_so M n x tied.1; from = from; now = now }) (elsewhere c M n (delivered_by i) x disk change holds known tied may.0) may.0 asks.0 hand.0 so.1
    good acks (no_less disk.promised disk.promised refl) inside told
walk_left S c P Q W N A B R n i v o (Done ∷ replies) (Keeps change rest) M h last x disk d s exact reads range fits holds known tied may small calm at good seated asks hand so also b k from now acks inside told =
    let y : UpNode = changed c n x change in
    let os : List Output = first_lines n change ++ saved_lines c n x change in
    let t : Scene = passing n os s in
    let more : List Output = given_all c n (effect c n (site (Up x) disk) (Saves change)) (under replies rest) in
    let here : AreGood n os = first_good n os more good in
    let g : GoesOn c M n (effect c n (site (Up x) disk) (Saves change)) os _ = does_one c M n (delivered_by i) (site (Up x) disk) (Saves change) fits holds known tied may.0 in
    let seat : Leads_so n (Up y) os s = doing_leads c n (delivered_by i) (Up x) disk (Saves change) s may.0 small.0 calm.0 at here seated in
    let before : Before S n i o h x s = before_of S c M n i o h last x disk s tied b in
    let around : Around S c n i v o h disk.promised x s =
    record { range = range; before = before; holds = k; bound = bound_of c M n x disk holds tied; seated = seated; place = place_so M n x tied.1; from = from; now = now } in
    let l : ChangeLeaves S n o (hand_change x h change) x.requests.asked y os s =
    change_leaves S c M n (delivered_by i) i o h x disk change (of_node n note.Saved ∷ []) s holds known tied may.0 asks.0 (inr refl) before in
    let after : ChangedTo n y = record { president = president_at g.machine n y g.tied.1; session = member_some c g.machine n y (record_of y) g.holds g.tied; place = place_so g.machine n y g.tied.1 } in
    let next : At P n (promised_of y) so.0 y t × W t.moments =
    R.changes n i v o h disk.promised x change d so.0 (of_node n note.Saved ∷ []) s around (inr refl)
    (record { may = may.0; ask = asks.0; hand = hand.0; so = so.1; elsewhere = elsewhere c M n (delivered_by i) x disk change holds known tied may.0; good = here; acks = first_acks n os more s acks }) after also.0 inside told in
    let holding : Holding S c n i v (promised_of y) y t.moments =
    change_holds S c n (delivered_by i) i v o h disk.promised x change (saved_lines c n x change) s reads range may.0 asks.0 hand.0 around.bound (tt, last_plain c n x change) (tt, last_mute c n x change) here
    after.president after.session before k in
    then_left P Q W n (after_all c n (effect c n (site (Up x) disk) (Saves change)) (under replies rest)).disk.promised (after_all c n (effect c n (site (Up x) disk) (Saves change)) (under replies rest)).node os more s
    (walk_left S c P Q W N A B R n i v o replies rest g.machine (hand_change x h change) last y (record_of y) so.0 t exact reads range fits g.holds (known_stays c M g.machine (delivered_by i) holds g.grows known) g.tied may.1 small.1
    calm.1 (collects_after n os s here ∙ at) (then_good n os more good) seat.own asks.1 hand.1 so.2 also.1
    (record { so = under_last S n o (hand_change x h change) x.requests.asked last y t.moments b.so.last_so l.changed_to; carried = l.carried; came = came_stays i n s.moments t.moments (passing_arrived n os s here) b.came }) holding
    (from_stays i s.moments t.moments (passing_arrived n os s here) from)
    (now_stays S n i x.requests.asked y.requests.asked s.moments t.moments (passing_askless S n os s (change_askless c n x change (of_node n note.Saved ∷ []) (inr refl))) l.changed_to.last_so now) (then_acks n os more s acks) next.0 next.1)
walk_left S c P Q W N A B R n i v o (Lost_new why ∷ replies) (Keeps change rest) M h last x disk d s exact reads range fits holds known tied may small calm at good seated asks hand so also b k from now acks inside told =
    let bound : Bound disk.promised x = bound_of c M n x disk holds tied in
    falls_left S c P Q W N A B R n i v o h disk.promised (promised_of (changed c n x change)) x change d so.0 why s
    (record { range = range; before = before_of S c M n i o h last x disk s tied b; holds = k; bound = bound; seated = seated; place = place_so M n x tied.1; from = from; now = now }) (elsewhere c M n (delivered_by i) x disk change holds known tied may.0) may.0 asks.0 hand.0 so.1 good acks
    (subst (λ j. j ≤ promised_of (changed c n x change)) (sym bound.promise) (promise_rises c n (delivered_by i) x change may.0)) inside told
walk_left S c P Q W N A B R n i v o (Lost_old why ∷ replies) (Keeps change rest) M h last x disk d s exact reads range fits holds known tied may small calm at good seated asks hand so also b k from now acks inside told =
    falls_left S c P Q W N A B R n i v o h disk.promised disk.promised x change d so.0 why s
    (record { range = range; before = before_of S c M n i o h last x disk s tied b; holds = k; bound = bound_of c M n x disk holds tied; seated = seated; place = place_so M n x tied.1; from = from; now = now }) (elsewhere c M n (delivered_by i) x disk change holds known tied may.0) may.0 asks.0 hand.0 so.1
    good acks (no_less disk.promised disk.promised refl) inside told
walk_left S c P Q W N A B R n i v o replies (Falls why) M h last x disk d s exact reads range fits holds known tied may small calm at good seated asks hand so also b k from now acks inside told =
    let os : List Output = gone_line n why in
    let r : Q n disk.promised (passing n os s).moments × W (passing n os s).moments = R.stops n disk.promised x d why s inside told in
    then_left P Q W n disk.promised Down os [] s (record { own = r.0; told = r.1 })

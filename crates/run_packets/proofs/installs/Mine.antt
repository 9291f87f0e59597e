-- A node knows its number, and an Install of its members comes to a node that has promised it.
use Rattle.std.specs.Prelude.{ℕ, ◌≡◌, ◌≤◌, ◌⊎◌, ◌&&◌, nat_le, Bool, true, false, List, [], ◌∷◌, Option, None, Some}
use Rattle.std.specs.List.{AllByRecursion}
use Rattle.std.proofs.Common.{refl, sym, ap, subst, ◌∙◌, inl, inr, arith}
use Rattle.attempt_laws.specs.Machine.{is_member}
use Rattle.cl_base.specs.Sets.{has}
use Rattle.cmm_attempt.proofs.Basics.{false_true, if_either}
use Rattle.cmm_attempt.specs.Attempts.{AttemptState}
use Rattle.cmm_member.specs.Nodes.{NodeState}
use Rattle.cmm_member.specs.Records.{NodeRecord}
use Rattle.membership_machine.specs.State.{Memberships}
use Rattle.node_model.specs.Members.{rested_by}
use Rattle.node_model.specs.Seats.{promised_of, promising, state_of}
use Rattle.node_model.specs.declared.cluster.Cluster.{Cluster}
use Rattle.node_model.specs.declared.input.Input.{Input}
use Rattle.node_model.specs.declared.input.Input.TheVariants as input
use Rattle.node_model.specs.declared.node.Node.{Node}
use Rattle.node_model.specs.declared.node.Node.TheVariants.{Down, Up}
use Rattle.node_model.specs.declared.node.UpNode.{UpNode}
use Rattle.refinement.proofs.Changes.{Sees, sees}
use Rattle.refinement.specs.Doings.{Act, Change, Doing, acted, answered_so, changed, effect, site}
use Rattle.refinement.specs.Doings.Act.{Accepts, Dates, Ends, Gives, Goes_on, Hears, Makes, Minds, Notes, Queues, Spreads, Stores, Takes, Ticks, Waits, Works, Writes}
use Rattle.refinement.specs.Doings.Change.{Acks, Admits, Commits, Counts, Distrusts, Installs, Leads, Prepares, Promises, Proposes, Sits, Starts}
use Rattle.refinement.specs.Doings.Doing.{Comes_up, Does, Forgets, Goes_down, Loses, Saves}
use Rattle.refinement.specs.Guards.{May, MayAct, MayChange}
use Rattle.refinement.specs.Runs.{IsAmong, Letter, Nodes}
use Rattle.refinement.specs.Ties.{Delivered, InstallTold, MessageTold, NodeTied}
use Rattle.run_attempts.proofs.endings.Courses.{BoundsIn}
use Rattle.run_history.proofs.Ups.{same_state}
use Rattle.run_seizings.proofs.Steps.{Ground}
use Rattle.wire.specs.declared.message.Body.{Body}
use Rattle.wire.specs.declared.message.Body.TheVariants as body
use Rattle.wire.specs.declared.message.Install.{Install}
use Rattle.wire.specs.declared.message.Message.{Message}

-- ---- its number

abbrev pub MeIn : ℕ → Node → Type 0
MeIn n Down = Unit {0}
MeIn n (Up x) = (state_of x.seat).me ≡ n

change_me : (c : Cluster) (n : ℕ) (told : Delivered) (x : UpNode) (ch : Change) → MayChange c n told x ch → (state_of x.seat).me ≡ n → (state_of (changed c n x ch).seat).me ≡ n
change_me c n told x (Promises p) may me = by_attempt x.attempt
  where
    by_attempt : (o : Option AttemptState) → (state_of (rested_by (promising x p) o).seat).me ≡ n
    by_attempt None = me
    by_attempt (Some a) = me
change_me c n told x (Leads p members) may me = me
change_me c n told x (Counts a q s i) may me = ap (λ z. (state_of z).me) (sym may.1) ∙ me
change_me c n told x (Installs s i) may me = ap (λ z. (state_of z).me) (sym may.0) ∙ me
change_me c n told x (Starts a q s) may me = ap (λ z. (state_of z).me) (sym may.1) ∙ me
change_me c n told x (Sits s e) may me = ap (λ z. (state_of z).me) (sym may.0) ∙ me
change_me c n told x (Distrusts d) may me = ap (λ (z : NodeState). z.me) (same_state x.seat _) ∙ me
change_me c n told x (Admits on command a d) may me = ap (λ (z : NodeState). z.me) (same_state (answered_so x a).seat _) ∙ me
change_me c n told x (Proposes s p text) may me = ap (λ (z : NodeState). z.me) (same_state x.seat _) ∙ me
change_me c n told x (Acks s p q left text) may me = ap (λ (z : NodeState). z.me) (same_state x.seat _) ∙ me
change_me c n told x (Prepares s text) may me = ap (λ z. (state_of z).me) (sym may.0) ∙ me
change_me c n told x (Commits s) may me = ap (λ z. (state_of z).me) (sym may.0) ∙ me

act_me : (c : Cluster) (n : ℕ) (told : Delivered) (x : UpNode) (a : Act) → MayAct c n told x a → (state_of x.seat).me ≡ n → (state_of (acted c n x a).seat).me ≡ n
act_me c n told x (Queues a d kind) may me = if_either (λ (y : UpNode). (state_of y.seat).me ≡ n) (has a.plan.members n) _ x me me
act_me c n told x (Makes change) may me = change_me c n told x change may.0 me
act_me c n told x (Hears from b) may me = me
act_me c n told x Ticks may me = me
act_me c n told x Waits may me = me
act_me c n told x (Goes_on a k) may me = me
act_me c n told x (Ends a e) may me = me
act_me c n told x (Accepts kind e members d) may me = me
act_me c n told x (Takes at command a) may me = me
act_me c n told x (Stores d value a) may me = me
act_me c n told x (Writes to b) may me = me
act_me c n told x (Gives os) may me = me
act_me c n told x (Spreads receivers b) may me = me
act_me c n told x (Minds q p) may me = me
act_me c n told x (Notes from place p) may me = me
act_me c n told x (Dates now) may me = me
act_me c n told x (Works w) may me = me

pub effect_me : (c : Cluster) (n : ℕ) (told : Delivered) (node : Node) (disk : NodeRecord) (d : Doing) → May c n told (site node disk) d → MeIn n node → MeIn n (effect c n (site node disk) d).node
effect_me c n told Down disk Comes_up may me = refl
effect_me c n told Down disk (Goes_down why) may me = tt
effect_me c n told Down disk (Does a) may me = tt
effect_me c n told Down disk (Saves ch) may me = tt
effect_me c n told Down disk (Loses ch why) may me = tt
effect_me c n told Down disk (Forgets ch why) may me = tt
effect_me c n told (Up x) disk Comes_up may me = absurd may
effect_me c n told (Up x) disk (Goes_down why) may me = tt
effect_me c n told (Up x) disk (Does a) may me = act_me c n told x a may me
effect_me c n told (Up x) disk (Saves ch) may me = change_me c n told x ch may me
effect_me c n told (Up x) disk (Loses ch why) may me = tt
effect_me c n told (Up x) disk (Forgets ch why) may me = tt

-- ---- an install
-- ---- what comes to a node

told_among : (M : Memberships) (from : ℕ) (b : Body) (letters : List Letter) → IsAmong from b letters → AllByRecursion (λ (l : Letter). MessageTold M l.from l.body) letters → MessageTold M from b
told_among M from b [] among told = absurd among
told_among M from b (l ∷ letters) (inl here) told = subst (λ f. MessageTold M f b) here.0 (subst (MessageTold M l.from) here.1 told.0)
told_among M from b (l ∷ letters) (inr there) told = told_among M from b letters there told.1

member_so : (members n : ℕ) → n ≤ 32 → has members n ≡ true → is_member members n ≡ true
member_so members n high is = by_test (nat_le n 32) (most n high) is
  where
    most : (k : ℕ) → k ≤ 32 → nat_le k 32 ≡ true
    most k h = grind arith

    by_test : (t : Bool) → t ≡ true → has members n ≡ true → (t && has members n) ≡ true
    by_test true h k = k
    by_test false h k = absurd (false_true h)

-- an Install of its members comes to a node that has promised it
install_bounds : (c : Cluster) (v : Nodes) (n from : ℕ) (m : Message) (i : Install) (x : UpNode) → n ≤ 32 → Ground c v → v.node n ≡ Up x → IsAmong from m.body v.sent → m.body ≡ body.Install i → has i.members n ≡ true → i.epoch ≤ promised_of x
install_bounds c v n from m i x high k up among is member =
    let M : Memberships = k.machine in
    let told : InstallTold M i = subst (MessageTold M from) is (told_among M from m.body v.sent among k.sent) in
    let tied : NodeTied c M n (v.disk n).kept (Up x) = subst (NodeTied c M n (v.disk n).kept) up (k.stands n).tied in
    let sight : Sees M n (v.disk n).kept (state_of x.seat) = sees c M n (v.disk n).kept x.attempt x.seat tied.0 in
    subst (λ q. i.epoch ≤ q) sight.promised ((k.holds.node n).answered_promised i.epoch ((k.holds.epoch i.epoch).counted_answered told.counted n (told.members n ∙ member_so i.members n high member)))

pub packet_bounds : (c : Cluster) (v : Nodes) (n from : ℕ) (m : Message) (node : Node) → n ≤ 32 → Ground c v → v.node n ≡ node → IsAmong from m.body v.sent → BoundsIn n node (input.Packet from m)
packet_bounds c v n from m Down high k at among = tt
packet_bounds c v n from m (Up x) high k at among = λ i is member. install_bounds c v n from m i x high k at among is member

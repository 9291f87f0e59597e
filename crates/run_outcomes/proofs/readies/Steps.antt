-- Each small step of a node leaves room for the logs.
use Rattle.std.specs.Prelude.{ℕ, ◌≡◌, ◌≢◌, ◌≤◌, ◌++◌, All, List, [], ◌∷◌, length, take, Option, None}
use Rattle.std.proofs.Common.{refl, sym, ap, subst, ◌∙◌, take_all, arith}
use Rattle.ccr_commit.specs.Entries.{texts_of}
use Rattle.cmm_attempt.specs.Calls.{IsDevice}
use Rattle.cmm_member.specs.Nodes.{NodeState}
use Rattle.cmm_member.specs.Records.{NodeRecord}
use Rattle.machine_base.specs.Epochs.{coordinator}
use Rattle.membership_machine.proofs.Growth.{grows_over, grows_same}
use Rattle.membership_machine.specs.Growth.{Grows}
use Rattle.membership_machine.specs.Invariant.{Holds}
use Rattle.membership_machine.specs.Records.{Saved}
use Rattle.membership_machine.specs.State.{Memberships}
use Rattle.node_model.specs.declared.cluster.Cluster.{Cluster}
use Rattle.node_model.specs.declared.node.Node.{Node}
use Rattle.node_model.specs.declared.node.Node.TheVariants.{Down, Up}
use Rattle.node_model.specs.declared.node.UpNode.{UpNode}
use Rattle.node_model.specs.declared.output.Output.{Output}
use Rattle.node_model.specs.declared.presidency.Presidency.{Presidency}
use Rattle.proposals.specs.declared.arrived.Proposed.{Proposed}
use Rattle.refinement.proofs.Acts.{does_one}
use Rattle.refinement.proofs.Presidents.{MemberTied, log_length, member_tied, presides_of}
use Rattle.refinement.proofs.Ties.{known_stays, outputs_stay, told_append}
use Rattle.refinement.specs.Doings.{Act, Change, Doing, Site, after_all, effect, given_all, gives, site}
use Rattle.refinement.specs.Doings.Act.{Makes}
use Rattle.refinement.specs.Doings.Change.{Acks, Admits, Commits, Counts, Distrusts, Installs, Leads, Prepares, Promises, Proposes, Sits, Starts}
use Rattle.refinement.specs.Doings.Doing.{Comes_up, Does, Forgets, Goes_down, Loses, Saves}
use Rattle.refinement.specs.Events.{of_act, of_change, of_doing, of_forgotten}
use Rattle.refinement.specs.Guards.{May, MayAct, MayAll, MayChange}
use Rattle.refinement.specs.Ties.{AllTold, Delivered, GoesOn, Known, NodeTied, Presides, ProposedTied, SiteTied, setting_of}
use Rattle.run_history.proofs.Changes.{At}
use Rattle.run_packets.proofs.fits.Proposed.{proposed_room}
use Rattle.run_packets.specs.fits.Rooms.{HasRoom}
use Rattle.run_outcomes.proofs.readies.Logs.{EventsFit, LogsHaveRoom, run_logs, then_crash}

-- ---- what is proposed

at_most : (k : ℕ) → k ≤ k
at_most k = omega arith

-- a president has the whole log
log_is : (c : Cluster) (M : Memberships) (n : ℕ) (s : NodeState) → Holds (setting_of c) M → (x : UpNode) → MemberTied c M n x s → coordinator s.session ≡ n → (M.epoch s.session).log ≡ texts_of s.saved.entries
log_is c M n s i x m own =
    let texts : List (List ℕ) = texts_of s.saved.entries in
    let entries : (M.node n).saved.entries ≡ texts = ap (λ (z : Saved). z.entries) m.shows.saved in
    let at : (M.node n).saved.installed ≡ s.session = sym ((i.node n).member_installed m.shows.member) ∙ m.shows.session in
    let part : (M.node n).saved.entries ≡ take (length (M.node n).saved.entries) (M.epoch s.session).log =
    subst (λ q. (M.node n).saved.entries ≡ take (length (M.node n).saved.entries) (M.epoch q).log) at (i.node n).fits.entries in
    let first : texts ≡ take (length texts) (M.epoch s.session).log = subst (λ (es : List (List ℕ)). es ≡ take (length es) (M.epoch s.session).log) entries part in
    sym (first ∙ (ap (λ k. take k (M.epoch s.session).log) (log_length c M n s i m.shows own) ∙ take_all (length (M.epoch s.session).log) (M.epoch s.session).log (at_most (length (M.epoch s.session).log))))

pending_none : (M : Memberships) (n : ℕ) (s : NodeState) (o : Option Proposed) → o ≡ None → ProposedTied M n s o → s.saved.entries.pending ≡ None
pending_none M n s o is h = subst (λ z. ProposedTied M n s z) is h

text_room : (c : Cluster) (M : Memberships) (n : ℕ) (told : Delivered) (disk : NodeRecord) (x : UpNode) (s : NodeState) (p : Presidency) (text : List ℕ) → At c M n told disk x → MayChange c n told x (Proposes s p text)
    → LogsHaveRoom c.nodes c.devices M → HasRoom c.nodes c.devices ((M.epoch s.session).log ++ text ∷ [])
text_room c M n told disk x s p text at may rooms =
    let m : MemberTied c M n x s = member_tied c M n x disk s at.tied may.1 in
    let presides : Presides M n s p = presides_of M n x.presidency s p may.0 m.president in
    let log : (M.epoch s.session).log ≡ texts_of s.saved.entries = log_is c M n s at.holds x m presides.own in
    subst (λ (ts : List (List ℕ)). HasRoom c.nodes c.devices (ts ++ text ∷ [])) (sym log)
    (proposed_room c x s p text may.1 (pending_none M n s p.proposals.proposed may.2 presides.proposed) m.log may.3 (subst (HasRoom c.nodes c.devices) log (rooms s.session)))

change_room : (c : Cluster) (M : Memberships) (n : ℕ) (told : Delivered) (disk : NodeRecord) (x : UpNode) (ch : Change) → At c M n told disk x → MayChange c n told x ch → LogsHaveRoom c.nodes c.devices M
    → EventsFit c.nodes c.devices M (of_change n ch)
change_room c M n told disk x (Promises p) at may rooms = (tt, tt)
change_room c M n told disk x (Leads p members) at may rooms = (tt, tt)
change_room c M n told disk x (Counts a k s i) at may rooms = (tt, tt)
change_room c M n told disk x (Installs s i) at may rooms = (tt, tt)
change_room c M n told disk x (Starts a k s) at may rooms = (tt, tt)
change_room c M n told disk x (Sits s e) at may rooms = (tt, tt)
change_room c M n told disk x (Distrusts d) at may rooms = tt
change_room c M n told disk x (Admits on command a d) at may rooms = tt
change_room c M n told disk x (Proposes s p text) at may rooms = (text_room c M n told disk x s p text at may rooms, tt)
change_room c M n told disk x (Acks s p q left text) at may rooms = (tt, tt)
change_room c M n told disk x (Prepares s text) at may rooms = (tt, tt)
change_room c M n told disk x (Commits s) at may rooms = (tt, tt)

forgotten_room : (c : Cluster) (M : Memberships) (n : ℕ) (told : Delivered) (disk : NodeRecord) (x : UpNode) (ch : Change) → At c M n told disk x → MayChange c n told x ch → LogsHaveRoom c.nodes c.devices M
    → EventsFit c.nodes c.devices M (of_forgotten n ch)
forgotten_room c M n told disk x (Proposes s p text) at may rooms = (text_room c M n told disk x s p text at may rooms, tt)
forgotten_room c M n told disk x (Promises p) at may rooms = (tt, tt)
forgotten_room c M n told disk x (Leads p members) at may rooms = (tt, tt)
forgotten_room c M n told disk x (Counts a k s i) at may rooms = (tt, tt)
forgotten_room c M n told disk x (Installs s i) at may rooms = (tt, tt)
forgotten_room c M n told disk x (Starts a k s) at may rooms = (tt, tt)
forgotten_room c M n told disk x (Sits s e) at may rooms = (tt, tt)
forgotten_room c M n told disk x (Distrusts d) at may rooms = (tt, tt)
forgotten_room c M n told disk x (Admits on command a d) at may rooms = (tt, tt)
forgotten_room c M n told disk x (Acks s p q left text) at may rooms = (tt, tt)
forgotten_room c M n told disk x (Prepares s text) at may rooms = (tt, tt)
forgotten_room c M n told disk x (Commits s) at may rooms = (tt, tt)

act_room : (c : Cluster) (M : Memberships) (n : ℕ) (told : Delivered) (disk : NodeRecord) (x : UpNode) (a : Act) → At c M n told disk x → MayAct c n told x a → LogsHaveRoom c.nodes c.devices M
    → EventsFit c.nodes c.devices M (of_act n a)
act_room c M n told disk x (Makes ch) at may rooms = change_room c M n told disk x ch at may.0 rooms
act_room c M n told disk x _ at may rooms = tt

doing_room : (c : Cluster) (M : Memberships) (n : ℕ) (told : Delivered) (node : Node) (disk : NodeRecord) (d : Doing) → Holds (setting_of c) M → Known M told → NodeTied c M n disk node → May c n told (site node disk) d
    → LogsHaveRoom c.nodes c.devices M → EventsFit c.nodes c.devices M (of_doing n d)
doing_room c M n told node disk Comes_up i told_so tied may rooms = tt
doing_room c M n told node disk (Goes_down why) i told_so tied may rooms = (tt, tt)
doing_room c M n told Down disk (Does a) i told_so tied may rooms = absurd may
doing_room c M n told (Up x) disk (Does a) i told_so tied may rooms = act_room c M n told disk x a (record { holds = i; known = told_so; tied = tied }) may rooms
doing_room c M n told Down disk (Saves ch) i told_so tied may rooms = absurd may
doing_room c M n told (Up x) disk (Saves ch) i told_so tied may rooms = change_room c M n told disk x ch (record { holds = i; known = told_so; tied = tied }) may rooms
doing_room c M n told Down disk (Loses ch why) i told_so tied may rooms = absurd may
doing_room c M n told (Up x) disk (Loses ch why) i told_so tied may rooms =
    then_crash c.nodes c.devices M (of_change n ch) n (change_room c M n told disk x ch (record { holds = i; known = told_so; tied = tied }) may rooms)
doing_room c M n told Down disk (Forgets ch why) i told_so tied may rooms = absurd may
doing_room c M n told (Up x) disk (Forgets ch why) i told_so tied may rooms = forgotten_room c M n told disk x ch (record { holds = i; known = told_so; tied = tied }) may rooms

-- ---- small steps one after another

-- they go on in the machine, in which each log has room
pub record Went (c : Cluster) (M : Memberships) (n : ℕ) (y : Site) (os : List Output) : Type 0 where
  pub machine : Memberships
  pub holds : Holds (setting_of c) machine
  pub grows : Grows M machine
  pub tied : SiteTied c machine n y
  pub others : (k : ℕ) → k ≢ n → machine.node k ≡ M.node k
  pub said : AllTold machine n os
  pub rooms : LogsHaveRoom c.nodes c.devices machine

pub all_went : (c : Cluster) (M : Memberships) (n : ℕ) (told : Delivered) (x : Site) (ds : List Doing) → All IsDevice c.attached → Holds (setting_of c) M → Known M told → SiteTied c M n x → MayAll c n told x ds
    → LogsHaveRoom c.nodes c.devices M → Went c M n (after_all c n x ds) (given_all c n x ds)
all_went c M n told x [] fits i told_so tied may rooms =
    record { machine = M; holds = i; grows = grows_same (setting_of c) M i; tied = tied; others = λ k ne. refl; said = tt; rooms = rooms }
all_went c M n told x (d ∷ ds) fits i told_so tied may rooms =
    let first : List Output = gives c n x d in
    let y : Site = effect c n x d in
    let rest : List Output = given_all c n y ds in
    let g : GoesOn c M n y first (of_doing n d) = does_one c M n told x d fits i told_so tied may.0 in
    let k : Went c g.machine n (after_all c n y ds) rest =
    all_went c g.machine n told y ds fits g.holds (known_stays c M g.machine told i g.grows told_so) g.tied may.1
    (run_logs c.nodes c.devices (setting_of c) M (of_doing n d) g.machine i g.run (doing_room c M n told x.node x.disk d i told_so tied may.0 rooms) rooms) in
    record {
      machine = k.machine;
      holds = k.holds;
      grows = grows_over M g.machine k.machine g.grows k.grows;
      tied = k.tied;
      others = λ j ne. k.others j ne ∙ g.others j ne;
      said = told_append k.machine n first rest (outputs_stay c g.machine k.machine n first g.holds k.grows g.said) k.said;
      rooms = k.rooms;
    }

-- Each small step of a node: what is proposed has room, and its record keeps to the cluster's nodes and devices.
use Rattle.std.specs.Prelude.{ℕ, zero, suc, ◌≡◌, ◌≢◌, ◌<◌, ◌≤◌, ◌^◌, ◌⊎◌, ◌++◌, All, true, false, List, [], ◌∷◌, length, take, Option, None}
use Rattle.std.proofs.Common.{refl, sym, ap, subst, ◌∙◌, inl, inr, take_all, arith}
use Rattle.ccr_commit.specs.Entries.{texts_of}
use Rattle.cl_base.specs.Sets.{has}
use Rattle.cmm_attempt.specs.Calls.{IsDevice}
use Rattle.cmm_member.specs.Machine.{saved_of}
use Rattle.cmm_member.specs.Nodes.{NodeState}
use Rattle.cmm_member.specs.Records.{NodeRecord}
use Rattle.machine_base.specs.Epochs.{coordinator}
use Rattle.membership_machine.proofs.Growth.{grows_over, grows_same}
use Rattle.membership_machine.proofs.Preserved.{not_marked}
use Rattle.membership_machine.specs.Growth.{Grows}
use Rattle.membership_machine.specs.Invariant.{EpochOk, Fits, Holds}
use Rattle.membership_machine.specs.Records.{Saved}
use Rattle.membership_machine.specs.State.{Memberships}
use Rattle.node_model.specs.Seats.{record_of, state_of}
use Rattle.node_model.specs.declared.cluster.Cluster.{Cluster}
use Rattle.node_model.specs.declared.node.Node.{Node}
use Rattle.node_model.specs.declared.node.Node.TheVariants.{Down, Up}
use Rattle.node_model.specs.declared.node.UpNode.{UpNode}
use Rattle.node_model.specs.declared.output.Output.{Output}
use Rattle.node_model.specs.declared.presidency.Presidency.{Presidency}
use Rattle.proposals.specs.declared.arrived.Proposed.{Proposed}
use Rattle.refinement.proofs.Acts.{does_one}
use Rattle.refinement.proofs.Changes.{Sees, sees}
use Rattle.refinement.proofs.Presidents.{MemberTied, log_length, member_tied, presides_of}
use Rattle.refinement.proofs.Ties.{known_stays, outputs_stay, told_append}
use Rattle.refinement.specs.Doings.{Act, Change, Doing, Site, after_all, effect, given_all, gives, site}
use Rattle.refinement.specs.Doings.Act.{Makes}
use Rattle.refinement.specs.Doings.Change.{Acks, Admits, Commits, Counts, Distrusts, Installs, Leads, Prepares, Promises, Proposes, Sits, Starts}
use Rattle.refinement.specs.Doings.Doing.{Comes_up, Does, Forgets, Goes_down, Loses, Saves}
use Rattle.refinement.specs.Events.{of_act, of_change, of_doing, of_forgotten}
use Rattle.refinement.specs.Guards.{May, MayAct, MayAll, MayChange}
use Rattle.refinement.specs.Ties.{AllTold, Delivered, GoesOn, Known, NodeTied, Presides, ProposedTied, SiteTied, setting_of}
use Rattle.run_attempts.proofs.Configured.{disk_own}
use Rattle.run_history.proofs.Changes.{At}
use Rattle.run_packets.proofs.fits.Changes.{act_up, change_record, change_up}
use Rattle.run_packets.proofs.fits.Machine.{part_room, run_room, then_crash}
use Rattle.run_packets.proofs.fits.Proposed.{proposed_room}
use Rattle.run_packets.proofs.fits.Rows.{Sound}
use Rattle.run_packets.proofs.fits.Sets.{Numbered}
use Rattle.run_packets.specs.fits.Known.{HandIn, KnownAct, KnownAll, KnownChange, KnownDoing, RecordIn, SiteIn}
use Rattle.run_packets.specs.fits.Rooms.{AllHaveRoom, EventsRoom, HasRoom}

-- ---- what the machine's node has

record Shown (M : Memberships) (n : ℕ) (r : NodeRecord) : Type 0 where
  promised : (M.node n).promised ≡ r.promised
  saved : (M.node n).saved ≡ saved_of r

shown_of : (c : Cluster) (M : Memberships) (n : ℕ) (disk : NodeRecord) (node : Node) → NodeTied c M n disk node → Shown M n disk
shown_of c M n disk Down h = record { promised = h.0.promised; saved = h.0.saved }
shown_of c M n disk (Up x) h =
    let e : Sees M n disk (state_of x.seat) = sees c M n disk x.attempt x.seat h.0 in
    record { promised = e.promised ∙ ap (λ (r : NodeRecord). r.promised) (sym e.disk_so); saved = e.saved ∙ ap saved_of (sym e.disk_so) }

none_tried : (c : Cluster) (M : Memberships) → Holds (setting_of c) M → (M.epoch 0).log ≡ []
none_tried c M i =
    let k : EpochOk (setting_of c) M.node 0 (M.epoch 0) = i.epoch 0 in
    let tried : (M.epoch 0).tried ≡ true → ⊥ = λ h. none_below (k.tried_positive h) in
    let counted : (M.epoch 0).counted ≡ false = not_marked (M.epoch 0).counted (λ h. tried (k.counted_tried h)) in
    let started : (M.epoch 0).started ≡ false = not_marked (M.epoch 0).started (λ h. tried (k.counted_tried (k.started_counted h))) in
    k.unstarted_log started ∙ k.uncounted_base counted
  where
    none_below : 0 < 0 → ⊥
    none_below e = omega (arith, e)

take_none : (k : ℕ) → take {A = List ℕ} k [] ≡ []
take_none zero = refl
take_none (suc k) = refl

some_or_none : (k : ℕ) → (k ≡ 0) ⊎ (0 < k)
some_or_none k = grind arith

-- so the record of a node is sound
pub record_sound : (c : Cluster) (M : Memberships) (n : ℕ) (x : Site) → Holds (setting_of c) M → SiteTied c M n x → AllHaveRoom c.nodes c.devices M → RecordIn c n x.disk → Sound c.nodes c.devices n x.disk
record_sound c M n x i tied rooms r =
    let disk : NodeRecord = x.disk in
    let s : Shown M n disk = shown_of c M n disk x.node tied in
    let fits : Fits (M.node n).saved (M.epoch (M.node n).saved.installed) = (i.node n).fits in
    let entries : (M.node n).saved.entries ≡ texts_of disk.entries = ap (λ (z : Saved). z.entries) s.saved in
    let installed : (M.node n).saved.installed ≡ disk.installed = ap (λ (z : Saved). z.installed) s.saved in
    record {
      order = subst (λ a. a ≤ disk.promised) installed (subst (λ b. (M.node n).saved.installed ≤ b) s.promised (i.node n).installed);
      low = subst (λ b. b < 2 ^ 63) s.promised (rooms.promised n);
      members = r.members;
      valid = r.valid;
      own = by_installed (some_or_none disk.installed) fits entries installed;
      room = subst (HasRoom c.nodes c.devices) entries (part_room c.nodes c.devices M (M.node n).saved fits rooms);
    }
  where
    by_installed : (x.disk.installed ≡ 0) ⊎ (0 < x.disk.installed) → Fits (M.node n).saved (M.epoch (M.node n).saved.installed) → (M.node n).saved.entries ≡ texts_of x.disk.entries
        → (M.node n).saved.installed ≡ x.disk.installed → (texts_of x.disk.entries ≡ []) ⊎ (has x.disk.members n ≡ true)
    by_installed (inr some) fits entries installed = inr (r.own some)
    by_installed (inl none) fits entries installed =
        let log : (M.epoch (M.node n).saved.installed).log ≡ [] = ap (λ q. (M.epoch q).log) (installed ∙ none) ∙ none_tried c M i in
        inl (sym entries ∙ (fits.entries ∙ (ap (take (length (M.node n).saved.entries)) log ∙ take_none (length (M.node n).saved.entries))))

-- ---- what is proposed

at_most : (k : ℕ) → k ≤ k
at_most k = omega arith

-- a president has the whole log
log_is : (c : Cluster) (M : Memberships) (n : ℕ) (s : NodeState) → Holds (setting_of c) M → (x : UpNode) → MemberTied c M n x s → coordinator s.session ≡ n → (M.epoch s.session).log ≡ texts_of s.saved.entries
log_is c M n s i x m own =
    let texts : List (List ℕ) = texts_of s.saved.entries in
    let entries : (M.node n).saved.entries ≡ texts = ap (λ (z : Saved). z.entries) m.shows.saved in
    let at : (M.node n).saved.installed ≡ s.session = sym ((i.node n).member_installed m.shows.member) ∙ m.shows.session in
    let part : (M.node n).saved.entries ≡ take (length (M.node n).saved.entries) (M.epoch s.session).log =
    subst (λ q. (M.node n).saved.entries ≡ take (length (M.node n).saved.entries) (M.epoch q).log) at (i.node n).fits.entries in
    let first : texts ≡ take (length texts) (M.epoch s.session).log = subst (λ (es : List (List ℕ)). es ≡ take (length es) (M.epoch s.session).log) entries part in
    sym (first ∙ (ap (λ k. take k (M.epoch s.session).log) (log_length c M n s i m.shows own) ∙ take_all (length (M.epoch s.session).log) (M.epoch s.session).log (at_most (length (M.epoch s.session).log))))

pending_none : (M : Memberships) (n : ℕ) (s : NodeState) (o : Option Proposed) → o ≡ None → ProposedTied M n s o → s.saved.entries.pending ≡ None
pending_none M n s o is h = subst (λ z. ProposedTied M n s z) is h

text_room : (c : Cluster) (M : Memberships) (n : ℕ) (told : Delivered) (disk : NodeRecord) (x : UpNode) (s : NodeState) (p : Presidency) (text : List ℕ) → At c M n told disk x → MayChange c n told x (Proposes s p text)
    → AllHaveRoom c.nodes c.devices M → HasRoom c.nodes c.devices ((M.epoch s.session).log ++ text ∷ [])
text_room c M n told disk x s p text at may rooms =
    let m : MemberTied c M n x s = member_tied c M n x disk s at.tied may.1 in
    let presides : Presides M n s p = presides_of M n x.presidency s p may.0 m.president in
    let log : (M.epoch s.session).log ≡ texts_of s.saved.entries = log_is c M n s at.holds x m presides.own in
    subst (λ (ts : List (List ℕ)). HasRoom c.nodes c.devices (ts ++ text ∷ [])) (sym log)
    (proposed_room c x s p text may.1 (pending_none M n s p.proposals.proposed may.2 presides.proposed) m.log may.3 (subst (HasRoom c.nodes c.devices) log (rooms.logs s.session)))

change_room : (c : Cluster) (M : Memberships) (n : ℕ) (told : Delivered) (disk : NodeRecord) (x : UpNode) (ch : Change) → At c M n told disk x → MayChange c n told x ch → KnownChange c x ch → AllHaveRoom c.nodes c.devices M
    → EventsRoom c.nodes c.devices M (of_change n ch)
change_room c M n told disk x (Promises p) at may known rooms = (tt, tt)
change_room c M n told disk x (Leads p members) at may known rooms = (known.0, tt)
change_room c M n told disk x (Counts a k s i) at may known rooms = (tt, tt)
change_room c M n told disk x (Installs s i) at may known rooms = (tt, tt)
change_room c M n told disk x (Starts a k s) at may known rooms = (tt, tt)
change_room c M n told disk x (Sits s e) at may known rooms = (tt, tt)
change_room c M n told disk x (Distrusts d) at may known rooms = tt
change_room c M n told disk x (Admits on command a d) at may known rooms = tt
change_room c M n told disk x (Proposes s p text) at may known rooms = (text_room c M n told disk x s p text at may rooms, tt)
change_room c M n told disk x (Acks s p q left text) at may known rooms = (tt, tt)
change_room c M n told disk x (Prepares s text) at may known rooms = (tt, tt)
change_room c M n told disk x (Commits s) at may known rooms = (tt, tt)

forgotten_room : (c : Cluster) (M : Memberships) (n : ℕ) (told : Delivered) (disk : NodeRecord) (x : UpNode) (ch : Change) → At c M n told disk x → MayChange c n told x ch → AllHaveRoom c.nodes c.devices M
    → EventsRoom c.nodes c.devices M (of_forgotten n ch)
forgotten_room c M n told disk x (Proposes s p text) at may rooms = (text_room c M n told disk x s p text at may rooms, tt)
forgotten_room c M n told disk x (Promises p) at may rooms = (tt, tt)
forgotten_room c M n told disk x (Leads p members) at may rooms = (tt, tt)
forgotten_room c M n told disk x (Counts a k s i) at may rooms = (tt, tt)
forgotten_room c M n told disk x (Installs s i) at may rooms = (tt, tt)
forgotten_room c M n told disk x (Starts a k s) at may rooms = (tt, tt)
forgotten_room c M n told disk x (Sits s e) at may rooms = (tt, tt)
forgotten_room c M n told disk x (Distrusts d) at may rooms = (tt, tt)
forgotten_room c M n told disk x (Admits on command a d) at may rooms = (tt, tt)
forgotten_room c M n told disk x (Acks s p q left text) at may rooms = (tt, tt)
forgotten_room c M n told disk x (Prepares s text) at may rooms = (tt, tt)
forgotten_room c M n told disk x (Commits s) at may rooms = (tt, tt)

act_room : (c : Cluster) (M : Memberships) (n : ℕ) (told : Delivered) (disk : NodeRecord) (x : UpNode) (a : Act) → At c M n told disk x → MayAct c n told x a → KnownAct c x a → AllHaveRoom c.nodes c.devices M
    → EventsRoom c.nodes c.devices M (of_act n a)
act_room c M n told disk x (Makes ch) at may known rooms = change_room c M n told disk x ch at may.0 known rooms
act_room c M n told disk x _ at may known rooms = tt

doing_room : (c : Cluster) (M : Memberships) (n : ℕ) (told : Delivered) (node : Node) (disk : NodeRecord) (d : Doing) → Holds (setting_of c) M → Known M told → NodeTied c M n disk node → May c n told (site node disk) d → KnownDoing c node d
    → AllHaveRoom c.nodes c.devices M → EventsRoom c.nodes c.devices M (of_doing n d)
doing_room c M n told node disk Comes_up i told_so tied may known rooms = tt
doing_room c M n told node disk (Goes_down why) i told_so tied may known rooms = (tt, tt)
doing_room c M n told Down disk (Does a) i told_so tied may known rooms = absurd may
doing_room c M n told (Up x) disk (Does a) i told_so tied may known rooms = act_room c M n told disk x a (record { holds = i; known = told_so; tied = tied }) may known rooms
doing_room c M n told Down disk (Saves ch) i told_so tied may known rooms = absurd may
doing_room c M n told (Up x) disk (Saves ch) i told_so tied may known rooms = change_room c M n told disk x ch (record { holds = i; known = told_so; tied = tied }) may known rooms
doing_room c M n told Down disk (Loses ch why) i told_so tied may known rooms = absurd may
doing_room c M n told (Up x) disk (Loses ch why) i told_so tied may known rooms =
    then_crash c.nodes c.devices M (of_change n ch) n (change_room c M n told disk x ch (record { holds = i; known = told_so; tied = tied }) may known rooms)
doing_room c M n told Down disk (Forgets ch why) i told_so tied may known rooms = absurd may
doing_room c M n told (Up x) disk (Forgets ch why) i told_so tied may known rooms = forgotten_room c M n told disk x ch (record { holds = i; known = told_so; tied = tied }) may rooms

-- ---- the record and the node

own_in : (c : Cluster) (M : Memberships) (n : ℕ) (disk : NodeRecord) (x : UpNode) → NodeTied c M n disk (Up x) → RecordIn c n disk → RecordIn c n (record_of x)
own_in c M n disk x tied r = subst (RecordIn c n) (disk_own c M n disk x tied) r

doing_in : (c : Cluster) (M : Memberships) (n : ℕ) (told : Delivered) (node : Node) (disk : NodeRecord) (d : Doing) → Numbered c → Holds (setting_of c) M → Known M told → NodeTied c M n disk node → May c n told (site node disk) d
    → KnownDoing c node d → HandIn c told → SiteIn c n (site node disk) → SiteIn c n (effect c n (site node disk) d)
doing_in c M n told Down disk Comes_up num i told_so tied may known hand h = record { disk = h.disk; node = record { attempt = tt; view = tt } }
doing_in c M n told (Up x) disk Comes_up num i told_so tied may known hand h = absurd may
doing_in c M n told node disk (Goes_down why) num i told_so tied may known hand h = record { disk = h.disk; node = tt }
doing_in c M n told Down disk (Does a) num i told_so tied may known hand h = absurd may
doing_in c M n told (Up x) disk (Does a) num i told_so tied may known hand h = record { disk = h.disk; node = act_up c n told x a may known h.node }
doing_in c M n told Down disk (Saves ch) num i told_so tied may known hand h = absurd may
doing_in c M n told (Up x) disk (Saves ch) num i told_so tied may known hand h = record {
  disk = change_record c M n told disk x ch num (record { holds = i; known = told_so; tied = tied }) may known hand h.node (own_in c M n disk x tied h.disk);
  node = change_up c n told x ch may known h.node;
}
doing_in c M n told Down disk (Loses ch why) num i told_so tied may known hand h = absurd may
doing_in c M n told (Up x) disk (Loses ch why) num i told_so tied may known hand h =
    record { disk = change_record c M n told disk x ch num (record { holds = i; known = told_so; tied = tied }) may known hand h.node (own_in c M n disk x tied h.disk); node = tt }
doing_in c M n told node disk (Forgets ch why) num i told_so tied may known hand h = record { disk = h.disk; node = tt }

-- ---- small steps one after another

-- they go on in the machine, in which all that is proposed has room
pub record Went (c : Cluster) (M : Memberships) (n : ℕ) (y : Site) (os : List Output) : Type 0 where
  pub machine : Memberships
  pub holds : Holds (setting_of c) machine
  pub grows : Grows M machine
  pub tied : SiteTied c machine n y
  pub others : (k : ℕ) → k ≢ n → machine.node k ≡ M.node k
  pub said : AllTold machine n os
  pub rooms : AllHaveRoom c.nodes c.devices machine
  pub here : SiteIn c n y

pub all_went : (c : Cluster) (M : Memberships) (n : ℕ) (told : Delivered) (x : Site) (ds : List Doing) → All IsDevice c.attached → Numbered c → Holds (setting_of c) M → Known M told → SiteTied c M n x → MayAll c n told x ds
    → KnownAll c n x ds → HandIn c told → AllHaveRoom c.nodes c.devices M → SiteIn c n x → Went c M n (after_all c n x ds) (given_all c n x ds)
all_went c M n told x [] fits num i told_so tied may known hand rooms here =
    record { machine = M; holds = i; grows = grows_same (setting_of c) M i; tied = tied; others = λ k ne. refl; said = tt; rooms = rooms; here = here }
all_went c M n told x (d ∷ ds) fits num i told_so tied may known hand rooms here =
    let first : List Output = gives c n x d in
    let y : Site = effect c n x d in
    let rest : List Output = given_all c n y ds in
    let g : GoesOn c M n y first (of_doing n d) = does_one c M n told x d fits i told_so tied may.0 in
    let k : Went c g.machine n (after_all c n y ds) rest =
    all_went c g.machine n told y ds fits num g.holds (known_stays c M g.machine told i g.grows told_so) g.tied may.1 known.1 hand
    (run_room c.nodes c.devices (setting_of c) M (of_doing n d) g.machine i g.run (doing_room c M n told x.node x.disk d i told_so tied may.0 known.0 rooms) rooms)
    (doing_in c M n told x.node x.disk d num i told_so tied may.0 known.0 hand here) in
    record {
      machine = k.machine;
      holds = k.holds;
      grows = grows_over M g.machine k.machine g.grows k.grows;
      tied = k.tied;
      others = λ j ne. k.others j ne ∙ g.others j ne;
      said = told_append k.machine n first rest (outputs_stay c g.machine k.machine n first g.holds k.grows g.said) k.said;
      rooms = k.rooms;
      here = k.here;
    }

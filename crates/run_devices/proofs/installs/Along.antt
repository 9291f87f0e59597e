-- What a node installs in a step tells the seizings that the history has, and no others.
use Rattle.std.specs.Prelude.{ℕ, ◌≡◌, nat_le, All, true, List, [], ◌∷◌, Option, None, Some}
use Rattle.std.specs.List.{AllByRecursion}
use Rattle.std.proofs.Common.{refl, sym, ap, subst, ◌∙◌}
use Rattle.attempt_laws.specs.Asking.{numbers_of}
use Rattle.cl_base.specs.declared.header.Header.{Header}
use Rattle.cmm_attempt.proofs.Basics.{if_either}
use Rattle.cmm_attempt.specs.Attempts.{AttemptState, install_in}
use Rattle.cmm_attempt.specs.Calls.{Call, IsDevice, turn}
use Rattle.cmm_attempt.specs.declared.plan.Plan.{Plan}
use Rattle.cmm_member.specs.Nodes.{AreOfDevices, NodeState}
use Rattle.cmm_member.specs.Records.{NodeRecord}
use Rattle.cl_base.specs.Sets.{has}
use Rattle.history.specs.Contact.{AttemptsDiffer}
use Rattle.history.specs.Moment.{Moment}
use Rattle.history.specs.Trace.{saved}
use Rattle.membership_machine.specs.Invariant.{Holds}
use Rattle.membership_machine.specs.State.{Memberships}
use Rattle.node_model.specs.Members.{rested_by}
use Rattle.node_model.specs.Seats.{promising, session_of, state_of}
use Rattle.node_model.specs.declared.cluster.Cluster.{Cluster}
use Rattle.node_model.specs.declared.node.Node.{Node}
use Rattle.node_model.specs.declared.node.Node.TheVariants.{Down, Up}
use Rattle.node_model.specs.declared.node.UpNode.{UpNode}
use Rattle.node_model.specs.declared.output.Output.{Output}
use Rattle.refinement.proofs.Acts.{does_one}
use Rattle.refinement.proofs.Attempts.{install_epoch}
use Rattle.refinement.proofs.Ties.{known_stays}
use Rattle.refinement.specs.Doings.{Act, Change, Doing, Site, acted, answered_so, changed, effect, given_all, gives, site}
use Rattle.refinement.specs.Doings.Act.{Accepts, Dates, Ends, Gives as Gives_act, Goes_on, Hears, Makes, Minds, Notes, Queues, Spreads, Stores, Takes, Ticks, Waits, Works, Writes}
use Rattle.refinement.specs.Doings.Change.{Acks, Admits, Commits, Counts, Distrusts, Installs, Leads, Prepares, Promises, Proposes, Sits, Starts}
use Rattle.refinement.specs.Doings.Doing.{Comes_up, Does, Forgets, Goes_down, Loses, Saves}
use Rattle.refinement.specs.Events.{of_doing}
use Rattle.refinement.specs.Guards.{May, MayAct, MayAll, MayChange, Says}
use Rattle.refinement.specs.Runs.{Nodes}
use Rattle.refinement.specs.Ties.{Delivered, GoesOn, Known as KnownIn, NodeTied, SiteTied, setting_of}
use Rattle.refinement.specs.Worlds.{AllFit}
use Rattle.run_history.proofs.Changes.{at_attempt}
use Rattle.run_history.proofs.Ups.{same_state}
use Rattle.run_history.proofs.Walk.{passing_append}
use Rattle.run_history.specs.Guards.{AtCall, Hand, hand_after}
use Rattle.run_history.specs.Marks.{AllSo}
use Rattle.run_history.specs.Scenes.{Scene, passing}
use Rattle.wire.specs.declared.lists.Reading.{Reading}
use Rattle.wire.specs.declared.message.Body.TheVariants as body
use Rattle.wire.specs.declared.message.Install.{Install}
use Rattle.run_seizings.proofs.Asked.{AllMay, DoingMay}
use Rattle.run_devices.proofs.readings.Brings.{reads_so}
use Rattle.run_devices.proofs.readings.Calls.{attempt_of, call_keeps, call_reads}
use Rattle.run_devices.proofs.readings.Changes.{fit_parts}
use Rattle.run_devices.proofs.readings.Doings.{doing_goes}
use Rattle.run_devices.proofs.readings.Earlier.{differ_before, rises_so}
use Rattle.run_devices.proofs.readings.Goes.{Goes}
use Rattle.run_devices.proofs.readings.Stays.{reads_stay}
use Rattle.run_devices.specs.readings.Laws.{HeldAsRead, WasRead}
use Rattle.run_devices.specs.readings.Readings.{AreInOrder, AttemptSo, StandsSo}
use Rattle.run_devices.specs.readings.Sites.{InHand}
use Rattle.run_devices.proofs.valid.Lines.{same_keys}
use Rattle.run_devices.specs.installs.Shown.{AllAreTold, AllInstall, BodyShown, DoingInstalls, InstallSo, ReadInOrder, Shown, shown_in}
use Rattle.run_devices.proofs.installs.Acts.{MineIn, mine_of}
use Rattle.run_devices.proofs.installs.Calls.{HandLow, HandShown, Installed, Known, ShownNow, installs_so}
use Rattle.run_devices.proofs.installs.Doings.{AllStill, Done, Stirs, doing_mine, hand_later, installed_later, shown_now}
use Rattle.run_devices.proofs.installs.Told.{seizings_told}

-- ---- a node knows its number

abbrev pub MeIn : ℕ → Node → Type 0
MeIn n Down = Unit {0}
MeIn n (Up x) = (state_of x.seat).me ≡ n

change_me : (c : Cluster) (n : ℕ) (told : Delivered) (x : UpNode) (ch : Change) → MayChange c n told x ch → (state_of x.seat).me ≡ n → (state_of (changed c n x ch).seat).me ≡ n
change_me c n told x (Promises p) may me = by_attempt x.attempt
  where
    by_attempt : (o : Option AttemptState) → (state_of (rested_by (promising x p) o).seat).me ≡ n
    by_attempt None = me
    by_attempt (Some a) = me
change_me c n told x (Leads p members) may me = me
change_me c n told x (Counts a q s i) may me = ap (λ z. (state_of z).me) (sym may.1) ∙ me
change_me c n told x (Installs s i) may me = ap (λ z. (state_of z).me) (sym may.0) ∙ me
change_me c n told x (Starts a q s) may me = ap (λ z. (state_of z).me) (sym may.1) ∙ me
change_me c n told x (Sits s e) may me = ap (λ z. (state_of z).me) (sym may.0) ∙ me
change_me c n told x (Distrusts d) may me = ap (λ (z : NodeState). z.me) (same_state x.seat _) ∙ me
change_me c n told x (Admits on command a d) may me = ap (λ (z : NodeState). z.me) (same_state (answered_so x a).seat _) ∙ me
change_me c n told x (Proposes s p text) may me = ap (λ (z : NodeState). z.me) (same_state x.seat _) ∙ me
change_me c n told x (Acks s p q left text) may me = ap (λ (z : NodeState). z.me) (same_state x.seat _) ∙ me
change_me c n told x (Prepares s text) may me = ap (λ z. (state_of z).me) (sym may.0) ∙ me
change_me c n told x (Commits s) may me = ap (λ z. (state_of z).me) (sym may.0) ∙ me

act_me : (c : Cluster) (n : ℕ) (told : Delivered) (x : UpNode) (a : Act) → MayAct c n told x a → (state_of x.seat).me ≡ n → (state_of (acted c n x a).seat).me ≡ n
act_me c n told x (Queues a d kind) may me = if_either (λ (y : UpNode). (state_of y.seat).me ≡ n) (has a.plan.members n) _ x me me
act_me c n told x (Makes change) may me = change_me c n told x change may.0 me
act_me c n told x (Hears from b) may me = me
act_me c n told x Ticks may me = me
act_me c n told x Waits may me = me
act_me c n told x (Goes_on a k) may me = me
act_me c n told x (Ends a e) may me = me
act_me c n told x (Accepts kind e members d) may me = me
act_me c n told x (Takes at command a) may me = me
act_me c n told x (Stores d value a) may me = me
act_me c n told x (Writes to b) may me = me
act_me c n told x (Gives_act os) may me = me
act_me c n told x (Spreads receivers b) may me = me
act_me c n told x (Minds q p) may me = me
act_me c n told x (Notes from place p) may me = me
act_me c n told x (Dates now) may me = me
act_me c n told x (Works w) may me = me

effect_me : (c : Cluster) (n : ℕ) (told : Delivered) (node : Node) (disk : NodeRecord) (d : Doing) → May c n told (site node disk) d → MeIn n node → MeIn n (effect c n (site node disk) d).node
effect_me c n told Down disk Comes_up may me = refl
effect_me c n told Down disk (Goes_down why) may me = tt
effect_me c n told Down disk (Does a) may me = tt
effect_me c n told Down disk (Saves ch) may me = tt
effect_me c n told Down disk (Loses ch why) may me = tt
effect_me c n told Down disk (Forgets ch why) may me = tt
effect_me c n told (Up x) disk Comes_up may me = absurd may
effect_me c n told (Up x) disk (Goes_down why) may me = tt
effect_me c n told (Up x) disk (Does a) may me = act_me c n told x a may me
effect_me c n told (Up x) disk (Saves ch) may me = change_me c n told x ch may me
effect_me c n told (Up x) disk (Loses ch why) may me = tt
effect_me c n told (Up x) disk (Forgets ch why) may me = tt

-- ---- an install

all_saved : (h : Header) (K : Shown) (n e : ℕ) (ms : List Moment) (rs : List Reading) → ShownNow h K ms → AllAreTold K e rs → AllAreTold (shown_in h (saved n ∷ ms)) e rs
all_saved h K n e ms rs now all k d keys seized = all k d keys (now k e d ∙ (sym (same_keys h k e d (saved n) ms tt) ∙ seized))

install_so : (h : Header) (K : Shown) (n : ℕ) (ms : List Moment) (r : NodeState) (i : Install) → AttemptsDiffer ms → ShownNow h K ms → AllAreTold K i.epoch i.readings → AreOfDevices i.readings
    → ReadInOrder i.readings → AllByRecursion (WasRead h ms i.epoch) i.readings → r.me ≡ n → InstallSo h (saved n ∷ ms) n r i
install_so h K n ms r i differ now all apart order read me =
    let later : AllByRecursion (WasRead h (saved n ∷ ms) i.epoch) i.readings = reads_stay h ms (saved n) i.epoch i.readings read in
    record {
      told = seizings_told h i.epoch (saved n ∷ ms) i.readings (tt, differ) (all_saved h K n i.epoch ms i.readings now all) later;
      read = later;
      apart = apart;
      order = order;
      me = me;
    }

counts_install : (h : Header) (c : Cluster) (M : Memberships) (n : ℕ) (told : Delivered) (high : ℕ) (K : Shown) (disk : NodeRecord) (x : UpNode) (ms : List Moment) (a : AttemptState) (q : Call)
    (r : NodeState) (i : Install) → Known h c M n told high K disk x ms → ShownNow h K ms → AttemptsDiffer ms → MayChange c n told x (Counts a q r i) → AtCall x q → InHand h ms n told
    → MineIn K high (Up x) → (state_of x.seat).me ≡ n → InstallSo h (saved n ∷ ms) n r i
counts_install h c M n told high K disk x ms a q r i k now differ may at hand mine me =
    let t : AttemptState = (turn a q).after in
    let so : AttemptSo h ms n (session_of x) a = attempt_of h ms n (session_of x) x.attempt a may.0 k.up.attempt in
    let z : Installed K high t i = installs_so h c M n told high K disk x ms a q i k now may.0 may.2 at may.3 (mine_of K high x.attempt a may.0 mine) in
    let epoch : t.plan.epoch ≡ a.plan.epoch = ap (λ (p : Plan). p.epoch) (call_keeps c told a q may.2).0 in
    let read : AllByRecursion (HeldAsRead h ms a.plan.epoch) t.devices =
    (call_reads h c ms n told x a q (at_attempt c M n told disk x a (a.plan.coordinator ≡ n) k.at may.0 (λ y shows co. co.coordinator)) may.2 at hand k.up so).0 in
    install_so h K n ms r i differ now z.told z.apart z.order
    (subst (λ (j : Install). AllByRecursion (WasRead h ms j.epoch) j.readings) (sym z.gives)
    (subst (λ e. AllByRecursion (WasRead h ms e) (install_in t).readings) (sym (install_epoch t))
    (reads_so h ms t (subst (λ e. AllByRecursion (HeldAsRead h ms e) t.devices) (sym epoch) read))))
    (ap (λ y. (state_of y).me) (sym may.1) ∙ me)

hand_all : (K : Shown) (M : Memberships) (ms : List Moment) (told : Delivered) (i : Install) → Says (λ b. b ≡ body.Install i) told → HandShown K M ms told
    → AllAreTold K i.epoch i.readings × AreOfDevices i.readings × ReadInOrder i.readings
hand_all K M ms None i says hand = absurd says
hand_all K M ms (Some d) i says hand = subst (λ b. BodyShown K M ms d.0 b) says hand

hand_read : (h : Header) (ms : List Moment) (n : ℕ) (told : Delivered) (i : Install) → Says (λ b. b ≡ body.Install i) told → InHand h ms n told → AllByRecursion (WasRead h ms i.epoch) i.readings
hand_read h ms n None i says hand = absurd says
hand_read h ms n (Some d) i says hand = (subst (λ b. StandsSo h ms d.0 b) says hand.stands).1

up_installs : (h : Header) (c : Cluster) (M : Memberships) (n : ℕ) (told : Delivered) (high : ℕ) (K : Shown) (v w : Nodes) (disk : NodeRecord) (x : UpNode) (g : Hand) (d : Doing) (s : Scene)
    → AttemptsDiffer s.moments → May c n told (site (Up x) disk) d → DoingMay h n told g (site (Up x) disk) d → Known h c M n told high K disk x s.moments
    → Goes h n told v w (site (Up x) disk) g s → (Stirs d → ShownNow h K s.moments) → MineIn K high (Up x) → (state_of x.seat).me ≡ n → DoingInstalls h n s.moments d
up_installs h c M n told high K v w disk x g (Saves (Counts a q r i)) s differ may guard k goes now mine me =
    counts_install h c M n told high K disk x s.moments a q r i k (now tt) differ may guard.0 goes.hand mine me
up_installs h c M n told high K v w disk x g (Saves (Installs r i)) s differ may guard k goes now mine me =
    let all : AllAreTold K i.epoch i.readings × AreOfDevices i.readings × ReadInOrder i.readings = hand_all K M s.moments told i may.1 k.hand in
    install_so h K n s.moments r i differ (now tt) all.0 all.1 all.2 (hand_read h s.moments n told i may.1 goes.hand) (ap (λ y. (state_of y).me) (sym may.0) ∙ me)
up_installs h c M n told high K v w disk x g _ s differ may guard k goes now mine me = tt

down_installs : (h : Header) (c : Cluster) (n : ℕ) (told : Delivered) (disk : NodeRecord) (d : Doing) (ms : List Moment) → May c n told (site Down disk) d → DoingInstalls h n ms d
down_installs h c n told disk (Saves ch) ms may = absurd may
down_installs h c n told disk _ ms may = tt

doing_installs : (h : Header) (c : Cluster) (M : Memberships) (n : ℕ) (told : Delivered) (high : ℕ) (K : Shown) (v w : Nodes) (x : Site) (g : Hand) (d : Doing) (s : Scene)
    → AttemptsDiffer s.moments → Holds (setting_of c) M → KnownIn M told → SiteTied c M n x → May c n told x d → DoingMay h n told g x d
    → HandLow high told → HandShown K M s.moments told → Goes h n told v w x g s → (Stirs d → ShownNow h K s.moments) → MineIn K high x.node → MeIn n x.node → DoingInstalls h n s.moments d
doing_installs h c M n told high K v w x g d s differ holds known tied may guard low hand goes now mine me = by_node x.node tied may guard goes mine me
  where
    by_node : (node : Node) → NodeTied c M n x.disk node → May c n told (site node x.disk) d → DoingMay h n told g (site node x.disk) d → Goes h n told v w (site node x.disk) g s
        → MineIn K high node → MeIn n node → DoingInstalls h n s.moments d
    by_node Down t m e l z y = down_installs h c n told x.disk d s.moments m
    by_node (Up u) t m e l z y =
        up_installs h c M n told high K v w x.disk u g d s differ m e
        (record { at = record { holds = holds; known = known; tied = t }; up = l.here.up; low = low; hand = hand }) l now z y

-- ---- one after another

pub all_install : (h : Header) (c : Cluster) (M : Memberships) (n : ℕ) (told : Delivered) (high : ℕ) (end : Scene) (v w : Nodes) (x : Site) (g : Hand) (small : List Doing) (s : Scene)
    → c.id ≡ h.cluster → nat_le n 32 ≡ true → All IsDevice c.attached → AreInOrder (numbers_of c.attached) → Holds (setting_of c) M → KnownIn M told → SiteTied c M n x → MayAll c n told x small
    → AllSo small → AllMay h c n told g x small → AllFit n (given_all c n x small) → AttemptsDiffer end.moments → passing n (given_all c n x small) s ≡ end → AllStill c n x small
    → HandLow high told → HandShown (shown_in h end.moments) M s.moments told → Goes h n told v w x g s → MineIn (shown_in h end.moments) high x.node → MeIn n x.node
    → AllInstall h c n x small s
all_install h c M n told high end v w x g [] s id low fits apart holds known tied may so guard fit differ ends still small_one hand goes mine me = tt
all_install h c M n told high end v w x g (d ∷ small) s id low fits apart holds known tied may so guard fit differ ends still small_one hand goes mine me =
    let K : Shown = shown_in h end.moments in
    let first : List Output = gives c n x d in
    let rest : List Output = given_all c n (effect c n x d) small in
    let parts : AllFit n first × AllFit n rest = fit_parts n first rest fit in
    let o : GoesOn c M n (effect c n x d) first (of_doing n d) = does_one c M n told x d fits holds known tied may.0 in
    let t : Scene = passing n first s in
    let ahead : passing n rest t ≡ end = sym (passing_append n first rest s) ∙ ends in
    let later : AttemptsDiffer t.moments = differ_before n rest t (subst (λ (z : Scene). AttemptsDiffer z.moments) (sym ahead) differ) in
    let before : AttemptsDiffer s.moments = differ_before n first s later in
    let one : Goes h n told v w (effect c n x d) (hand_after g d) t =
    doing_goes h c M n told v w x g d s id low apart holds known tied may.0 so.0 guard.0 (rises_so c M o.machine n x (effect c n x d) tied o.tied o.grows) parts.0 later goes in
    let done : Done c M n high K x s.moments d =
    doing_mine h c M n told high K v w x g d s apart before holds known tied may.0 guard.0 small_one hand goes
    (λ stirs. shown_now h c n end x d small s ends (still.0 stirs)) later mine in (
      doing_installs h c M n told high K v w x g d s before holds known tied may.0 guard.0 small_one hand goes (λ stirs. shown_now h c n end x d small s ends (still.0 stirs)) mine me,
      all_install h c o.machine n told high end v w (effect c n x d) (hand_after g d) small t id low fits apart o.holds (known_stays c M o.machine told holds o.grows known) o.tied may.1 so.1 guard.1 parts.1
          differ ahead still.1 small_one (hand_later K M o.machine s.moments t.moments told o.grows (installed_later n first s) hand) one done.0 (effect_me c n told x.node x.disk d may.0 me),
    )

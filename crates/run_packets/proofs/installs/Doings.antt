-- In a step of a node each install of its own attempt is followed by its Installs.
use Rattle.std.specs.Prelude.{ℕ, ◌≡◌, ◌≤◌, ◌⊎◌, ◌++◌, Bool, true, false, All, List, [], ◌∷◌, length, Option, None, Some, IfSome}
use Rattle.std.specs.List.{list_any}
use Rattle.std.proofs.Common.{refl, ap, sym, subst, ◌∙◌, inl, inr}
use Rattle.attempt_laws.proofs.Stays.{plan_begins, plan_stays}
use Rattle.cl_base.specs.Sets.{has}
use Rattle.cl_base.specs.declared.header.Header.{Header}
use Rattle.cmm_attempt.proofs.Basics.{if_either}
use Rattle.cmm_attempt.specs.Attempts.{AttemptState, Turn, all_promised, beginning, begun, choosing, chosen_by, collects, first_state, promises_of, with_steps}
use Rattle.cmm_attempt.specs.Calls.{Call, IsDevice, Own_ready, Own_seized, Take, Tick, With_votes, turn}
use Rattle.cmm_attempt.specs.Promises.{newest_shown, promised_by, shown_by}
use Rattle.cmm_attempt.specs.declared.attached.AttachedDevice.{AttachedDevice}
use Rattle.cmm_attempt.specs.declared.plan.Plan.{Plan}
use Rattle.cmm_attempt.specs.declared.promised.Shown.{Shown}
use Rattle.cmm_member.specs.Records.{NodeRecord}
use Rattle.device_queue.specs.Queue.{after_seize}
use Rattle.history.specs.Member.{members_of}
use Rattle.history.specs.Moment.{Moment}
use Rattle.history.specs.Seizing.{is_attempt}
use Rattle.history.specs.Trace.{attempt}
use Rattle.membership_machine.specs.Growth.{Grows}
use Rattle.membership_machine.specs.Invariant.{Holds}
use Rattle.membership_machine.specs.State.{Memberships}
use Rattle.node_model.specs.Attempts.{own_promise}
use Rattle.node_model.specs.Members.{rested_by}
use Rattle.node_model.specs.Seats.{promising, record_of, state_of}
use Rattle.node_model.specs.declared.cluster.Cluster.{Cluster}
use Rattle.node_model.specs.declared.node.Node.{Node}
use Rattle.node_model.specs.declared.node.Node.TheVariants.{Down, Up}
use Rattle.node_model.specs.declared.node.UpNode.{UpNode}
use Rattle.node_model.specs.declared.output.Output.{Output}
use Rattle.refinement.proofs.Acts.{does_one}
use Rattle.refinement.proofs.Attempts.{may_be_called}
use Rattle.refinement.proofs.Ties.{known_stays}
use Rattle.refinement.specs.Doings.{Act, Change, Doing, Site, acted, after_all, changed, effect, first_lines, given_all, gives, gone_line, said, saved_lines, site}
use Rattle.refinement.specs.Doings.Act.{Ends, Goes_on, Makes, Queues}
use Rattle.refinement.specs.Doings.Change.{Acks, Admits, Commits, Counts, Distrusts, Installs, Leads, Prepares, Promises, Proposes, Sits, Starts}
use Rattle.refinement.specs.Doings.Doing.{Comes_up, Does, Forgets, Goes_down, Loses, Saves}
use Rattle.refinement.specs.Events.{of_doing}
use Rattle.refinement.specs.Guards.{May, MayAct, MayAll, MayCall, MayChange}
use Rattle.refinement.specs.Ties.{Delivered, GoesOn, Known, SiteTied, setting_of}
use Rattle.run_attempts.specs.endings.Steps.{AllFit, ChangeFits, DoingFits}
use Rattle.run_history.proofs.Changes.{At, untried}
use Rattle.run_history.proofs.Small.{AllSmall, IsSmall}
use Rattle.run_history.specs.Guards.{AtCall, Hand, MadeAt, hand_after}
use Rattle.run_packets.proofs.admitted.Tasks.{ended_known}
use Rattle.run_packets.proofs.admitted.Walk.{all_leave}
use Rattle.run_packets.specs.admitted.Guards.{AllFor}
use Rattle.run_packets.specs.admitted.Known.{BodyKnown, DevicesKnown, HandKnown, Leaves, SiteKnown, TurnKnown, UpKnown}
use Rattle.run_history.proofs.Lists.{both}
use Rattle.run_seizings.proofs.Acts.{ActMay}
use Rattle.run_seizings.proofs.Asked.{AllMay, DoingMay}
use Rattle.run_seizings.proofs.Promising.{ChangeMay}
use Rattle.seize.specs.Seizing as seizing
use Rattle.wire.specs.declared.message.Body.{Body}
use Rattle.wire.specs.declared.message.Body.TheVariants as body
use Rattle.wire.specs.declared.message.Message.{Message}
use Rattle.run_packets.specs.installs.Passing.{AllPass, AttemptFew, BodyFew, CallFew, DoingPasses, EntriesFew, FollowsIn, IsElse, IsLined, IsListed, IsUnready, NodeFew, NodeLined, NodeUnready, OutsSo, Unready, UpLined}
use Rattle.run_packets.proofs.installs.Alone.{first_by, turn_by}
use Rattle.run_packets.proofs.installs.Else.{MadeIn, act_else, first_else, gone_else, last_else}
use Rattle.run_packets.proofs.installs.Few.{turn_few}
use Rattle.run_packets.proofs.installs.Mine.{MeIn, effect_me}
use Rattle.run_packets.proofs.installs.Turns.{first_unready, turn_brings}
use Rattle.run_packets.proofs.installs.Young.{first_young}
use Rattle.run_packets.proofs.installs.Attempts.{AreTried, NodePlaced, machine_own, no_members, turned_lined, turned_placed, up_lined}
use Rattle.run_packets.proofs.installs.Behind.{else_first, passed_on, started_on}
use Rattle.run_messages.proofs.records.Joins.{install_other}

-- ---- an attempt begins

chosen_few : (s : AttemptState) (o : Option Shown) → s.devices ≡ [] → (chosen_by s o).after.devices ≡ []
chosen_few s None h = h
chosen_few s (Some newest) h = h

begun_few : (s : AttemptState) → s.devices ≡ [] → (begun s).after.devices ≡ []
unfolding choosing
begun_few s h = if_either (λ (t : Turn). t.after.devices ≡ []) (all_promised s) (choosing s) (with_steps s (collects s)) (chosen_few s (newest_shown s.promises) h) h

first_few : (p members : ℕ) (own : Message) (attached : List AttachedDevice) (cluster : ℕ) → EntriesFew (beginning p members own attached cluster).after
unfolding beginning
first_few p members own attached cluster =
    none_few (beginning p members own attached cluster).after (begun_few (first_state p members own attached cluster (promises_of (promised_by own (shown_by own.sender own.body)))) refl)
  where
    none_few : (a : AttemptState) → a.devices ≡ [] → EntriesFew a
    none_few a none = subst (λ es. EntriesFew (record a { devices = es })) (sym none) tt

-- ---- what a call takes

call_few : (c : Cluster) (told : Delivered) (a : AttemptState) (x : UpNode) (k : Call) → MayCall c told a k → AtCall x k → HandKnown c told → UpKnown c x → CallFew k
call_few c told a x (Take from m) may at hand known = body_few m.body (subst (HandKnown c) may.0 hand)
  where
    body_few : (b : Body) → BodyKnown c b → BodyFew b
    body_few (body.Seized e d r) h = h.1
    body_few _ h = tt
call_few c told a x (Own_seized d r) may at hand known = (ended_known c x.tasks d r at known.tasks_so).1
call_few c told a x (With_votes both) may at hand known = tt
call_few c told a x Own_ready may at hand known = tt
call_few c told a x Tick may at hand known = tt

turned_few : (c : Cluster) (told : Delivered) (a : AttemptState) (x : UpNode) (k : Call) → MayCall c told a k → AtCall x k → HandKnown c told → UpKnown c x → x.attempt ≡ Some a → IfSome x.attempt (AttemptFew c) → AttemptFew c (turn a k).after
turned_few c told a x k may at hand known is h =
    let few : AttemptFew c a = subst (λ o. IfSome o (AttemptFew c)) is h in
    (turn_few a k (call_few c told a x k may at hand known) few.0, ap (λ (p : Plan). p.attached) (plan_stays a k (may_be_called c told a k may)) ∙ few.1, turn_by a k few.2)

-- ---- changes and acts

module _ (c : Cluster) (before : List Moment) (n : ℕ) (told : Delivered) where
  -- what is known of its attempt
  abbrev Good : UpNode → Type 0
  Good x = UpLined before x.attempt × IfSome x.attempt (AttemptFew c) × IsUnready x × ((told ≡ None) ⊎ IfSome x.attempt (IsListed before))

  rested_good : (x : UpNode) (p : ℕ) (o : Option AttemptState) → Good (rested_by (promising x p) o)
  rested_good x p None = (tt, tt, tt, inr tt)
  rested_good x p (Some a) = (tt, tt, tt, inr tt)

  begun_good : (M : Memberships) (disk : NodeRecord) (x : UpNode) (p members : ℕ) → At c M n told disk x → MayChange c n told x (Leads p members) → told ≡ None → AreTried before M → Good (changed c n x (Leads p members))
  begun_good M disk x p members at may none tried =
      let own : Message = own_promise n (record (promising x p) { greatest = p }) p in (
        inr (ap (λ e. members_of e before) (plan_begins p members own c.attached c.id).of_epoch ∙ no_members p before (by_test (list_any (is_attempt p) before) refl), first_young p members own c.attached c.id),
        (first_few p members own c.attached c.id, (plan_begins p members own c.attached c.id).of_attached, first_by p members own c.attached c.id),
        first_unready p members own c.attached c.id,
        inl none,
      )
    where
      by_test : (b : Bool) → list_any (is_attempt p) before ≡ b → b ≡ false
      by_test true is = absurd (untried c M n told disk x p at (machine_own p n may.1) may.0 (tried p is))
      by_test false is = refl

  turned_good : (M : Memberships) (disk : NodeRecord) (x : UpNode) (a : AttemptState) (k : Call) → MayCall c told a k → AtCall x k → HandKnown c told → UpKnown c x → x.attempt ≡ Some a → Good x
      → IsLined before (turn a k).after × AttemptFew c (turn a k).after × Unready (turn a k).after × ((told ≡ None) ⊎ IsListed before (turn a k).after)
  turned_good M disk x a k may at_call hand known is h = (
    turned_lined c before told a k may (up_lined before x.attempt a is h.0) (subst (λ o. (told ≡ None) ⊎ IfSome o (IsListed before)) is h.3),
    turned_few c told a x k may at_call hand known is h.1,
    (turn_brings a k (may_be_called c told a k may) (subst (λ o. IfSome o Unready) is h.2)).0,
    turned_placed c before told a k may (subst (λ o. (told ≡ None) ⊎ IfSome o (IsListed before)) is h.3),
  )

  -- what a change asks of its call
  abbrev CallAt : UpNode → Change → Type 0
  CallAt x (Counts a k s i) = AtCall x k
  CallAt x (Leads p members) = told ≡ None
  CallAt x _ = Unit {0}

  change_good : (M : Memberships) (disk : NodeRecord) (x : UpNode) (change : Change) → At c M n told disk x → MayChange c n told x change → CallAt x change → HandKnown c told → UpKnown c x → AreTried before M → Good x
      → Good (changed c n x change)
  change_good M disk x (Promises p) at may call hand known tried h = rested_good x p x.attempt
  change_good M disk x (Leads p members) at may call hand known tried h = begun_good M disk x p members at may call tried
  change_good M disk x (Counts a k s i) at may call hand known tried h = turned_good M disk x a k may.2 call hand known may.0 h
  change_good M disk x (Installs s i) at may call hand known tried h = h
  change_good M disk x (Starts a k s) at may call hand known tried h = (tt, tt, tt, inr tt)
  change_good M disk x (Sits s e) at may call hand known tried h = h
  change_good M disk x (Distrusts d) at may call hand known tried h = h
  change_good M disk x (Admits on command a d) at may call hand known tried h = h
  change_good M disk x (Proposes s p text) at may call hand known tried h = h
  change_good M disk x (Acks s p q left text) at may call hand known tried h = h
  change_good M disk x (Prepares s text) at may call hand known tried h = h
  change_good M disk x (Commits s) at may call hand known tried h = h

  made_call : (x : UpNode) (change : Change) → MadeAt change → CallAt x change
  made_call x (Counts a k s i) made = absurd made
  made_call x (Leads p members) made = absurd made
  made_call x _ made = tt

  -- .. and an act
  abbrev ActAt : UpNode → Act → Type 0
  ActAt x (Goes_on a k) = AtCall x k
  ActAt x (Makes change) = MadeAt change
  ActAt x _ = Unit {0}

  act_good : (M : Memberships) (disk : NodeRecord) (x : UpNode) (a : Act) → At c M n told disk x → MayAct c n told x a → ActAt x a → HandKnown c told → UpKnown c x → AreTried before M → Good x → Good (acted c n x a)
  act_good M disk x (Goes_on a k) at may guard hand known tried h = turned_good M disk x a k may.1 guard hand known may.0 h
  act_good M disk x (Ends a e) at may guard hand known tried h = (tt, tt, tt, inr tt)
  act_good M disk x (Makes change) at may guard hand known tried h = change_good M disk x change at may.0 (made_call x change guard) hand known tried h
  act_good M disk x (Queues a d kind) at may guard hand known tried h =
      if_either Good (has a.plan.members n) (record x { tasks = after_seize x.tasks d (seizing.begun kind a.plan.epoch a.plan.members n c.id (has (record_of x).valid d)) }) x h h
  act_good M disk x _ at may guard hand known tried h = h

-- ---- small steps

-- what the guards ask of a change, and of an act
change_call : (h : Header) (c : Cluster) (before : List Moment) (n : ℕ) (told : Delivered) (ticks : Bool) (x : UpNode) (change : Change) → ChangeMay h x change → ChangeFits told ticks change → CallAt c before n told x change
change_call h c before n told ticks x (Counts a k s i) may fit = may
change_call h c before n told ticks x (Leads p members) may fit = fit
change_call h c before n told ticks x _ may fit = tt

act_at : (h : Header) (c : Cluster) (before : List Moment) (n : ℕ) (told : Delivered) (g : Hand) (x : UpNode) (a : Act) → ActMay h n told g x a → ActAt c before n told x a
act_at h c before n told g x (Goes_on a k) may = may
act_at h c before n told g x (Makes change) may = may
act_at h c before n told g x _ may = tt

made_in : (h : Header) (n : ℕ) (told : Delivered) (g : Hand) (x : UpNode) (a : Act) → ActMay h n told g x a → MadeIn a
made_in h n told g x (Makes change) may = may
made_in h n told g x _ may = tt

saved_out : (c : Cluster) (M : Memberships) (before : List Moment) (n : ℕ) (told : Delivered) (disk kept : NodeRecord) (x y : UpNode) (change : Change) (ds : List Doing) → length c.attached ≤ 16 → All IsDevice c.attached → At c M n told disk x
    → MayChange c n told x change → CallAt c before n told x change → HandKnown c told → UpKnown c x → (state_of x.seat).me ≡ n → Good c before n told x → FollowsIn n change ds → OutsSo before n (given_all c n (site (Up y) kept) ds)
    → OutsSo before n ((first_lines n change ++ saved_lines c n x change) ++ given_all c n (site (Up y) kept) ds)
saved_out c M before n told disk kept x y (Counts a k s i) ds small fits at may call hand known me good follows rest = (
  tt,
  (
    (
      refl,
      λ own. (
        λ m member. passed_on c M before n told disk kept x y a k s i ds small at may (up_lined before x.attempt a may.0 good.0) (turned_few c told a x k may.2 call hand known may.0 good.1) follows own m member,
        λ none. started_on c M before n told disk kept x y a k s i ds fits at may me (up_lined before x.attempt a may.0 good.0) (subst (λ o. (told ≡ None) ⊎ IfSome o (IsListed before)) may.0 good.3)
            (turned_few c told a x k may.2 call hand known may.0 good.1) follows own none,
      ),
    ),
    rest,
  ),
)
saved_out c M before n told disk kept x y (Installs s i) ds small fits at may call hand known me good follows rest = (tt, ((refl, λ own. absurd (install_other c M n told disk x s i at may own)), rest))
saved_out c M before n told disk kept x y change ds small fits at may call hand known me good follows rest =
    else_first before n (first_lines n change ++ saved_lines c n x change) (given_all c n (site (Up y) kept) ds)
    (both IsElse (first_lines n change) (saved_lines c n x change) (first_else n change) (tt, last_else c n x change tt)) rest

doing_out : (h : Header) (c : Cluster) (M : Memberships) (before : List Moment) (n : ℕ) (told : Delivered) (node : Node) (disk : NodeRecord) (ticks : Bool) (g : Hand) (d : Doing) (ds : List Doing) → length c.attached ≤ 16 → All IsDevice c.attached → Holds (setting_of c) M → Known M told
    → SiteTied c M n (site node disk) → May c n told (site node disk) d → IsSmall d → DoingMay h n told g (site node disk) d → HandKnown c told → SiteKnown c (site node disk) → DoingPasses n d ds → DoingFits told ticks (site node disk) d → MeIn n node → NodePlaced told before node
    → NodeLined before node → NodeFew c node → NodeUnready node → OutsSo before n (given_all c n (effect c n (site node disk) d) ds)
    → OutsSo before n (gives c n (site node disk) d ++ given_all c n (effect c n (site node disk) d) ds)
doing_out h c M before n told node disk ticks g Comes_up ds small_all fits holds known tied may small guard hand k passes fit me placed lined few unready rest = (tt, rest)
doing_out h c M before n told node disk ticks g (Goes_down why) ds small_all fits holds known tied may small guard hand k passes fit me placed lined few unready rest = (tt, rest)
doing_out h c M before n told Down disk ticks g (Does a) ds small_all fits holds known tied may small guard hand k passes fit me placed lined few unready rest = absurd may
doing_out h c M before n told (Up x) disk ticks g (Does a) ds small_all fits holds known tied may small guard hand k passes fit me placed lined few unready rest =
    else_first before n (said c n x a) (given_all c n (effect c n (site (Up x) disk) (Does a)) ds) (act_else c n x a (made_in h n told g x a guard) small) rest
doing_out h c M before n told Down disk ticks g (Saves change) ds small_all fits holds known tied may small guard hand k passes fit me placed lined few unready rest = absurd may
doing_out h c M before n told (Up x) disk ticks g (Saves change) ds small_all fits holds known tied may small guard hand k passes fit me placed lined few unready rest =
    saved_out c M before n told disk (record_of (changed c n x change)) x (changed c n x change) change ds small_all fits (record { holds = holds; known = known; tied = tied }) may (change_call h c before n told ticks x change guard.0 fit) hand k.node_so me (lined, few, unready, placed) passes rest
doing_out h c M before n told node disk ticks g (Loses change why) ds small_all fits holds known tied may small guard hand k passes fit me placed lined few unready rest =
    else_first before n (first_lines n change ++ gone_line n why) (given_all c n (effect c n (site node disk) (Loses change why)) ds) (gone_else n change why) rest
doing_out h c M before n told node disk ticks g (Forgets change why) ds small_all fits holds known tied may small guard hand k passes fit me placed lined few unready rest =
    else_first before n (first_lines n change ++ gone_line n why) (given_all c n (effect c n (site node disk) (Forgets change why)) ds) (gone_else n change why) rest

doing_good : (h : Header) (c : Cluster) (M : Memberships) (before : List Moment) (n : ℕ) (told : Delivered) (node : Node) (disk : NodeRecord) (ticks : Bool) (g : Hand) (d : Doing) → Holds (setting_of c) M → Known M told → SiteTied c M n (site node disk)
    → May c n told (site node disk) d → DoingMay h n told g (site node disk) d → HandKnown c told → SiteKnown c (site node disk) → DoingFits told ticks (site node disk) d → AreTried before M → NodePlaced told before node → NodeLined before node → NodeFew c node → NodeUnready node
    → NodeLined before (effect c n (site node disk) d).node × NodeFew c (effect c n (site node disk) d).node × NodeUnready (effect c n (site node disk) d).node × NodePlaced told before (effect c n (site node disk) d).node
doing_good h c M before n told Down disk ticks g Comes_up holds known tied may guard hand k fit tried placed lined few unready = (tt, tt, tt, inr tt)
doing_good h c M before n told (Up x) disk ticks g Comes_up holds known tied may guard hand k fit tried placed lined few unready = (lined, few, unready, placed)
doing_good h c M before n told node disk ticks g (Goes_down why) holds known tied may guard hand k fit tried placed lined few unready = (tt, tt, tt, inr tt)
doing_good h c M before n told Down disk ticks g (Does a) holds known tied may guard hand k fit tried placed lined few unready = (tt, tt, tt, inr tt)
doing_good h c M before n told (Up x) disk ticks g (Does a) holds known tied may guard hand k fit tried placed lined few unready =
    act_good c before n told M disk x a (record { holds = holds; known = known; tied = tied }) may (act_at h c before n told g x a guard) hand k.node_so tried (lined, few, unready, placed)
doing_good h c M before n told Down disk ticks g (Saves change) holds known tied may guard hand k fit tried placed lined few unready = (tt, tt, tt, inr tt)
doing_good h c M before n told (Up x) disk ticks g (Saves change) holds known tied may guard hand k fit tried placed lined few unready =
    change_good c before n told M disk x change (record { holds = holds; known = known; tied = tied }) may (change_call h c before n told ticks x change guard.0 fit) hand k.node_so tried (lined, few, unready, placed)
doing_good h c M before n told node disk ticks g (Loses change why) holds known tied may guard hand k fit tried placed lined few unready = (tt, tt, tt, inr tt)
doing_good h c M before n told node disk ticks g (Forgets change why) holds known tied may guard hand k fit tried placed lined few unready = (tt, tt, tt, inr tt)

-- ---- one after another

-- what a step gives, and the attempt that it leaves
pub record Out (c : Cluster) (before : List Moment) (n : ℕ) (told : Delivered) (os : List Output) (after : Node) : Type 0 where
  pub so : OutsSo before n os
  pub lined : NodeLined before after
  pub few : NodeFew c after
  pub unready : NodeUnready after
  pub placed : NodePlaced told before after

tried_grows : (before : List Moment) (M N : Memberships) → Grows M N → AreTried before M → AreTried before N
tried_grows before M N g h = λ e is. (g.epoch e).tried (h e is)

pub all_out : (h : Header) (c : Cluster) (M : Memberships) (before : List Moment) (n : ℕ) (told : Delivered) (ticks : Bool) (x : Site) (g : Hand) (ds : List Doing) → All IsDevice c.attached → length c.attached ≤ 16 → DevicesKnown c → Holds (setting_of c) M
    → Known M told → SiteTied c M n x → MayAll c n told x ds → AllSmall ds → AllMay h c n told g x ds → AllFor c n x ds → HandKnown c told → TurnKnown c g → SiteKnown c x → AllPass n ds → AllFit c n told ticks x ds → AreTried before M → MeIn n x.node → NodePlaced told before x.node → NodeLined before x.node → NodeFew c x.node → NodeUnready x.node
    → Out c before n told (given_all c n x ds) (after_all c n x ds).node
all_out h c M before n told ticks x g [] fits small fixed holds known tied may little guard for hand gave k passes fitting tried me placed lined few unready = record { so = tt; lined = lined; few = few; unready = unready; placed = placed }
all_out h c M before n told ticks x g (d ∷ ds) fits small fixed holds known tied may little guard for hand gave k passes fitting tried me placed lined few unready =
    let goes : GoesOn c M n (effect c n x d) (gives c n x d) (of_doing n d) = does_one c M n told x d fits holds known tied may.0 in
    let first : Leaves c (effect c n x d) (hand_after g d) (gives c n x d ++ []) = all_leave h c M n told x g (d ∷ []) fits fixed holds known tied (may.0, tt) (guard.0, tt) (for.0, tt) hand gave k in
    let good : NodeLined before (effect c n x d).node × NodeFew c (effect c n x d).node × NodeUnready (effect c n x d).node × NodePlaced told before (effect c n x d).node = doing_good h c M before n told x.node x.disk ticks g d holds known tied may.0 guard.0 hand k fitting.0 tried placed lined few unready in
    let rest : Out c before n told (given_all c n (effect c n x d) ds) (after_all c n (effect c n x d) ds).node =
    all_out h c goes.machine before n told ticks (effect c n x d) (hand_after g d) ds fits small fixed goes.holds (known_stays c M goes.machine told holds goes.grows known) goes.tied may.1 little.1 guard.1 for.1 hand first.turn_so first.site_so
    passes.1 fitting.1 (tried_grows before M goes.machine goes.grows tried) (effect_me c n told x.node x.disk d may.0 me) good.3 good.0 good.1 good.2 in
    record { so = doing_out h c M before n told x.node x.disk ticks g d ds small fits holds known tied may.0 little.0 guard.0 hand k passes.0 fitting.0 me placed lined few unready rest.so; lined = rest.lined; few = rest.few; unready = rest.unready; placed = rest.placed }

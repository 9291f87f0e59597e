-- A call on an attempt, at all devices.
use Rattle.std.specs.Prelude.{ℕ, ◌≡◌, ◌<◌, ◌≤◌, ◌⊎◌, ◌==◌, All, Bool, true, false, List, [], ◌∷◌, Option, None, Some, IsSome, if◌then◌else◌}
use Rattle.std.proofs.Common.{refl, sym, ap, subst, ◌∙◌, inl, inr, arith}
use Rattle.std.proofs.lemmas.List.Elements.{All-cons, All-head, All-tail, All-nil}
use Rattle.attempt_laws.specs.Asking.{AsksAt, AsksBy, CountsAt, DeviceHas, HasEntry, HasIn, IsAsking, IsToldAt, IsUnasked, Moves as CallMoves, entry_of}
use Rattle.attempt_laws.specs.Machine.{MachineHas}
use Rattle.attempt_laws.specs.Sending.{AsksEntry, AsksIn}
use Rattle.attempt_laws.proofs.Asks.{calls_move}
use Rattle.attempt_laws.proofs.Goes.{chosen_reached, goes_by_call}
use Rattle.attempt_laws.proofs.Left.{others_leave}
use Rattle.attempt_laws.proofs.MachineLemmas.{installs_come_first, newest_is_shown}
use Rattle.attempt_laws.proofs.Numbered.{IsNumbered, numbered_by_call}
use Rattle.attempt_laws.proofs.Sends.{asks_are_entries}
use Rattle.attempt_laws.proofs.Starts.{ends_once}
use Rattle.attempt_laws.proofs.Stays.{plan_stays}
use Rattle.attempt_laws.proofs.Walk.{Walk, walks}
use Rattle.cluster_machine.specs.Cluster as whole
use Rattle.cluster_machine.specs.Cluster.{Cluster as Whole, MayCome, all_after}
use Rattle.cluster_machine.proofs.Whole.{InOrder, may_run}
use Rattle.cmm_attempt.specs.declared.phase.Phase.{Phase}
use Rattle.cmm_attempt.specs.declared.phase.Phase.TheVariants.{Collecting, Choosing, SeizingVotes, SeizingOthers, Installing, Over}
use Rattle.cmm_attempt.specs.declared.plan.Plan.{Plan}
use Rattle.cmm_attempt.specs.declared.seizing.Seizing.{Seizing}
use Rattle.cmm_attempt.specs.declared.step.Step.{Step}
use Rattle.cmm_attempt.specs.declared.step.Step.TheVariants as step
use Rattle.cmm_attempt.specs.Attempts.{AttemptState, Turn, asked_next, installing}
use Rattle.cmm_attempt.specs.Calls.{Call, IsReached as IsReachedAttempt, May as MayCall, installs_in, turn}
use Rattle.cmm_attempt.proofs.Basics.{false_true}
use Rattle.device_machine.specs.Sharing as sharing
use Rattle.device_machine.specs.Sharing.{Sharing}
use Rattle.device_machine.proofs.Grown.{run_grows}
use Rattle.device_machine.proofs.Invariant.{Inv}
use Rattle.device_machine.proofs.Kept.{kept}
use Rattle.machine_base.specs.Epochs.{coordinator}
use Rattle.machine_base.proofs.Puts.{put_here}
use Rattle.membership_machine.specs.Events.{HasNewest}
use Rattle.membership_machine.specs.Votes.{Setting}
use Rattle.wire.specs.declared.message.Body.{Body}
use Rattle.wire.specs.declared.message.Body.TheVariants as body
use Rattle.wire.specs.declared.message.Install.{Install}
use Rattle.cluster_ties.specs.Ties.{AttemptAt}
use Rattle.cluster_ties.specs.Moves.{CallGoes, Moves}
use Rattle.cluster_ties.specs.Laws.{CallsGo}
use Rattle.cluster_ties.proofs.Asks.{AreAsks, AskedBelow, IsAsk, Same, ask_same, asked_below, only_asks}
use Rattle.cluster_ties.proofs.First.{in_order}
use Rattle.cluster_ties.proofs.Moves.{nowhere}
use Rattle.refinement.proofs.Attempts.{reached_more}

-- What the events of a call are at one device, by what the machine has of the attempt before and after them.

pub true_false : (b : Bool) → b ≡ true → b ≡ false → ⊥
true_false b h k = cc

grown : (s : Sharing) (events : List sharing.Event) (q : ℕ) → Inv s → MayCome s events → (s.attempt q).collected ≡ true → ((all_after s events).attempt q).collected ≡ true
grown s events q i may h = ((run_grows s (all_after s events) events i (may_run s events may)).attempt q).collected h

-- nothing was begun: there is no event
pub fresh_quiet : (q : ℕ) (members : ℕ → Bool) (s : Sharing) (events : List sharing.Event) → Inv s → All (IsAsking q members) events → MayCome s events
    → ((all_after s events).attempt q).collected ≡ false → events ≡ []
fresh_quiet q members s [] i asking may none = refl
fresh_quiet q members s (e ∷ events) i asking may none = go e (All-head (IsAsking q members) e events asking) may.0 (λ h. absurd (true_false _ (grown (sharing.after s e) events q (kept s e i may.0) may.1 h) none))
  where
    go : (x : sharing.Event) → IsAsking q members x → sharing.Allowed s x → (((sharing.after s x).attempt q).collected ≡ true → e ∷ events ≡ []) → e ∷ events ≡ []
    go (sharing.Ask p n quorum) is allowed f =
        f (subst (λ z. ((sharing.after s (sharing.Ask z n quorum)).attempt q).collected ≡ true) (sym is)
        (ap (λ a. a.collected) (put_here s.attempt q _) ∙ subst (λ z. (s.attempt z).collected ≡ true) is allowed.0))
    go (sharing.Collected p all) is allowed f = f (subst (λ z. ((sharing.after s (sharing.Collected z all)).attempt q).collected ≡ true) (sym is.0) (ap (λ a. a.collected) (put_here s.attempt q _)))
    go _ is allowed f = absurd is

-- the votes are counted: there is none either
pub counted_quiet : (q : ℕ) (members : ℕ → Bool) (s : Sharing) (events : List sharing.Event) → Inv s → All (IsAsking q members) events → MayCome s events → (s.attempt q).counted ≡ true → events ≡ []
counted_quiet q members s [] i asking may counted = refl
counted_quiet q members s (e ∷ events) i asking may counted = go e (All-head (IsAsking q members) e events asking) may.0
  where
    go : (x : sharing.Event) → IsAsking q members x → sharing.Allowed s x → e ∷ events ≡ []
    go (sharing.Ask p n quorum) is allowed = absurd (true_false (s.attempt q).counted counted (subst (λ z. (s.attempt z).counted ≡ false) is allowed.1))
    go (sharing.Collected p all) is allowed =
        absurd (true_false (s.attempt q).collected ((i.attempt q).collected_counted counted) (subst (λ z. (s.attempt z).collected ≡ false) is.0 allowed.1))
    go _ is allowed = absurd is

-- nobody was asked: there is no asking
pub unasked_quiet : (q : ℕ) (s : Sharing) (events : List sharing.Event) → Inv s → AreAsks q events → MayCome s events → IsUnasked ((all_after s events).attempt q) → events ≡ []
unasked_quiet q s [] i asks may none = refl
unasked_quiet q s (e ∷ events) i asks may none = go e asks.0 refl
  where
    later : (n : ℕ) → ((sharing.after s e).attempt q).asked n ≡ true → ((all_after (sharing.after s e) events).attempt q).asked n ≡ true
    later n h = ((run_grows (sharing.after s e) (all_after (sharing.after s e) events) events (kept s e i may.0) (may_run (sharing.after s e) events may.1)).attempt q).asked n h

    go : (x : sharing.Event) → IsAsk q x → e ≡ x → e ∷ events ≡ []
    go (sharing.Ask p n quorum) is same =
        absurd (true_false _ (later n (subst (λ z. ((sharing.after s z).attempt q).asked n ≡ true) (sym same)
        (subst (λ z. ((sharing.after s (sharing.Ask z n quorum)).attempt q).asked n ≡ true) (sym is)
        (ap (λ a. a.asked n) (put_here s.attempt q _) ∙ put_here (s.attempt q).asked n true)))) (none.asked n))
    go _ is same = absurd is

-- all have promised, and nobody was asked
pub collected_alone : (q : ℕ) (members : ℕ → Bool) (s : Sharing) (events : List sharing.Event) → Inv s → All (IsAsking q members) events → MayCome s events → (s.attempt q).collected ≡ false
    → ((all_after s events).attempt q).collected ≡ true → IsUnasked ((all_after s events).attempt q) → events ≡ sharing.Collected q members ∷ []
collected_alone q members s [] i asking may before after none = absurd (true_false _ after before)
collected_alone q members s (e ∷ events) i asking may before after none = go e (All-head (IsAsking q members) e events asking) refl
  where
    go : (x : sharing.Event) → IsAsking q members x → e ≡ x → e ∷ events ≡ sharing.Collected q members ∷ []
    go (sharing.Ask p n quorum) is same =
        absurd (true_false (s.attempt q).collected (subst (λ z. (s.attempt z).collected ≡ true) is (subst (λ z. sharing.Allowed s z) same may.0).0) before)
    go (sharing.Collected p all) is same =
        let first : e ≡ sharing.Collected q members = same ∙ (ap (λ z. sharing.Collected z all) is.0 ∙ ap (λ z. sharing.Collected q z) is.1) in
        let collected : ((sharing.after s e).attempt q).collected ≡ true =
        subst (λ z. ((sharing.after s z).attempt q).collected ≡ true) (sym first) (ap (λ a. a.collected) (put_here s.attempt q _)) in
        let rest : events ≡ [] =
        unasked_quiet q (sharing.after s e) events (kept s e i may.0) (only_asks q members (sharing.after s e) events collected (All-tail (IsAsking q members) e events asking) may.1) may.1 none in
        ap (λ z. z ∷ events) first ∙ ap (λ z. sharing.Collected q members ∷ z) rest
    go _ is same = absurd is

-- asking changes no node and nothing of the device
asks_same : (q : ℕ) (s : Sharing) (events : List sharing.Event) → AreAsks q events → Same s (all_after s events)
asks_same q s [] asks = record { node = refl; device = refl }
asks_same q s (e ∷ events) asks =
    let one : Same s (sharing.after s e) = ask_same q s e asks.0 in
    let rest : Same (sharing.after s e) (all_after (sharing.after s e) events) = asks_same q (sharing.after s e) events asks.1 in
    record { node = rest.node ∙ one.node; device = rest.device ∙ one.device }

-- An entry is of a device up to 16.
none_above : (es : List Seizing) (d : ℕ) → All IsNumbered es → 17 ≤ d → entry_of es d ≡ None
none_above [] d all high = refl
none_above (e ∷ es) d all high =
    subst (λ b. (if b then Some e else entry_of es d) ≡ None) (sym (other e.attached.device d (All-head IsNumbered e es all).1 high)) (none_above es d (All-tail IsNumbered e es all) high)
  where
    other : (a b : ℕ) → a ≤ 16 → 17 ≤ b → (a == b) ≡ false
    other a b h l = grind arith

-- A step that asks nobody asks so at each device.

abbrev IsNoSeizing : Phase → Type 0
IsNoSeizing SeizingVotes = ⊥
IsNoSeizing SeizingOthers = ⊥
IsNoSeizing _ = Unit {0}

not_seizing : (phase : Phase) → IsNoSeizing phase → (phase ≡ SeizingVotes) ⊎ (phase ≡ SeizingOthers) → ⊥
not_seizing phase lacking (inl is) = subst IsNoSeizing is lacking
not_seizing phase lacking (inr is) = subst IsNoSeizing is lacking

quiet_body : (s : Sharing) (t : AttemptState) (d n : ℕ) (b : Body) → IsNoSeizing t.phase → AsksIn t n b → AsksBy s t.plan d n b
quiet_body s t d n (body.SeizeQuorum p members x) lacking h = absurd (not_seizing t.phase lacking h.seizing)
quiet_body s t d n (body.SeizeData p members x) lacking h = absurd (not_seizing t.phase lacking h.seizing)
quiet_body s t d n _ lacking h = tt

quiet_step : (s : Sharing) (t : AttemptState) (d : ℕ) (x : Step) → IsNoSeizing t.phase → AsksEntry t x → AsksAt s t.plan d x
quiet_step s t d (step.SeizeHere device kind) lacking h = absurd (not_seizing t.phase lacking h.seizing)
quiet_step s t d (step.Send n m) lacking h = quiet_body s t d n m.body lacking h
quiet_step s t d (step.InstallHere i) lacking h = tt
quiet_step s t d (step.NeedVotes n) lacking h = tt
quiet_step s t d step.StartHere lacking h = tt
quiet_step s t d (step.Ended e) lacking h = tt

quiet_steps : (s : Sharing) (t : AttemptState) (d : ℕ) (steps : List Step) → IsNoSeizing t.phase → All (AsksEntry t) steps → All (AsksAt s t.plan d) steps
quiet_steps s t d [] lacking h = All-nil (AsksAt s t.plan d)
quiet_steps s t d (x ∷ steps) lacking h =
    All-cons (AsksAt s t.plan d) x steps (quiet_step s t d x lacking (All-head (AsksEntry t) x steps h)) (quiet_steps s t d steps lacking (All-tail (AsksEntry t) x steps h))

-- From collecting an attempt goes on to choosing, or ends.

abbrev IsEarly : Phase → Type 0
IsEarly Collecting = Unit {0}
IsEarly Choosing = Unit {0}
IsEarly SeizingVotes = ⊥
IsEarly SeizingOthers = ⊥
IsEarly Installing = ⊥
IsEarly Over = Unit {0}

abbrev IsCollecting : Phase → Type 0
IsCollecting Collecting = Unit {0}
IsCollecting Choosing = ⊥
IsCollecting SeizingVotes = ⊥
IsCollecting SeizingOthers = ⊥
IsCollecting Installing = ⊥
IsCollecting Over = ⊥

clash : (phase other : Phase) (P : Type 0) → phase ≡ other → (IsCollecting other → ⊥) → phase ≡ Collecting → P
clash phase other P is lacking here = absurd (lacking (subst IsCollecting (sym here ∙ is) tt))

early : (phase : Phase) → phase ≡ Collecting → IsEarly phase
early phase is = subst IsEarly (sym is) tt

early_walk : (c : Call) → Walk c (λ s. (s.phase ≡ Collecting) × MayCall s c) (λ s. s.phase ≡ Collecting) (λ u. IsEarly u.after.phase)
unfolding asked_next installing
early_walk c = record {
  within = λ s i. i.0;
  rests = λ s i. early s.phase i.0;
  passes = λ s is e i. early s.phase i.0;
  again = λ s is e i. early s.phase i.0;
  silent = λ s n is late least i. tt;
  superseded = λ s from m q is nack i. tt;
  promise = λ s from m p is awaited of promised i. i.0;
  collects = λ s is e k. early s.phase is;
  collecting = λ s is e k. early s.phase is;
  no_newest = λ s is all none k. early s.phase is;
  chosen = λ s newest is all some k. tt;
  votes = λ s both is i. clash s.phase Choosing _ (subst (MayCall s) is i.1) (λ z. z) i.0;
  foreign = λ s both n is given least k. tt;
  excluded = λ s n is least k. tt;
  impossible = λ s e is short k. tt;
  entries = λ s is enough k. k;
  requests = λ s is e k. clash s.phase SeizingVotes _ is (λ z. z) k;
  result = λ s d from r e is tells found none i. i.0;
  next = λ s d from n r e is tells found next i. early s.phase i.0;
  seizing = λ s is e k. early s.phase k;
  short = λ s e is all few k. tt;
  others = λ s is all enough some k. clash s.phase SeizingVotes _ is (λ z. z) k;
  installs_at_once = λ s is all enough none k. clash s.phase SeizingVotes _ is (λ z. z) k;
  installs = λ s is all k. clash s.phase SeizingOthers _ is (λ z. z) k;
  ready = λ s from m is here of ready_body i. i.0;
  own = λ s is here i. i.0;
  installing = λ s here e k. early s.phase k;
  starts = λ s here e k. tt;
}

early_after : (a : AttemptState) (k : Call) → MayCall a k → a.phase ≡ Collecting → IsEarly (turn a k).after.phase
early_after a k may is = walks (λ s. (s.phase ≡ Collecting) × MayCall s k) (λ s. s.phase ≡ Collecting) (λ u. IsEarly u.after.phase) a k (early_walk k) (is, may)

abbrev IsInstalling : Phase → Type 0
IsInstalling Collecting = ⊥
IsInstalling Choosing = ⊥
IsInstalling SeizingVotes = ⊥
IsInstalling SeizingOthers = ⊥
IsInstalling Installing = Unit {0}
IsInstalling Over = ⊥

-- The call.
module _ (S : Setting) (W : Whole) (n : ℕ) (a : AttemptState) (k : Call) (i : InOrder S W) (reached : IsReachedAttempt a) (may : MayCall a k) (own : coordinator a.plan.epoch ≡ n)
    (has : MachineHas W.memberships a) (has_after : MachineHas W.memberships (turn a k).after) (at : AttemptAt W (Some a)) (told : (d : ℕ) → IsToldAt (W.device d) a d k) where
  abbrev u : Turn
  u = turn a k

  abbrev t : AttemptState
  t = u.after

  abbrev q : ℕ
  q = a.plan.epoch

  abbrev all : ℕ → Bool
  all = (W.memberships.epoch q).members

  m : (d : ℕ) → CallMoves (W.device d) q all d u
  m d = calls_move (W.device d) all a k d (at d) may (told d) has.members

  abbrev events : ℕ → List sharing.Event
  events d = (m d).events

  abbrev after : ℕ → Sharing
  after d = all_after (W.device d) (events d)

  plan : t.plan ≡ a.plan
  plan = plan_stays a k may

  number : t.plan.epoch ≡ q
  number = ap (λ (p : Plan). p.epoch) plan

  -- the events at each device make a whole
  from : (V : Whole) → Moves S W n V → V.memberships ≡ W.memberships → ((d : ℕ) → V.device d ≡ after d) → ((d : ℕ) → Same (W.device d) (after d)) → CallGoes S W n u
  from V moves memberships is same = record {
    machine = V;
    moves = moves;
    memberships = memberships;
    node = λ d. ap (λ s. s.node) (is d) ∙ (same d).node;
    device = λ d. ap (λ s. s.device) (is d) ∙ (same d).device;
    asked = λ d. subst (λ s. All (AsksAt s t.plan d) u.steps) (sym (is d)) (m d).asked;
    counts = λ d. subst (λ s. CountsAt s t d (installs_in u.steps)) (sym (is d)) (m d).counts;
  }

  quiet : ((d : ℕ) → events d ≡ []) → CallGoes S W n u
  quiet none =
      let is : (d : ℕ) → W.device d ≡ after d = λ d. sym (ap (all_after (W.device d)) (none d)) in
      from W (nowhere S W n) refl is (λ d. subst (λ s. Same (W.device d) s) (is d) (record { node = refl; device = refl }))

  -- nodes are asked at devices up to 16
  asks : ((d : ℕ) → AreAsks q (events d)) → ((d : ℕ) → 17 ≤ d → events d ≡ []) → CallGoes S W n u
  asks are none =
      let b : AskedBelow S W n events 17 = asked_below S W n q events 17 own are (λ d. (m d).allowed) in
      from b.machine b.moves b.memberships (λ d. by_place d b (low_or_high d)) (λ d. asks_same q (W.device d) (events d) (are d))
    where
      low_or_high : (d : ℕ) → (d < 17) ⊎ (17 ≤ d)
      low_or_high d = grind arith

      by_place : (d : ℕ) (b : AskedBelow S W n events 17) → (d < 17) ⊎ (17 ≤ d) → b.machine.device d ≡ after d
      by_place d b (inl h) = b.below d h
      by_place d b (inr h) = b.above d h ∙ sym (ap (all_after (W.device d)) (none d h))

  -- all have promised
  collected : ((d : ℕ) → events d ≡ sharing.Collected q all ∷ []) → t.phase ≡ Choosing → CallGoes S W n u
  collected are choosing =
      let newest : HasNewest W.memberships t.plan.epoch t.newest = (newest_is_shown W.memberships t (reached_more a k may reached) has_after choosing).0 in
      let answered : (j : ℕ) → all j ≡ true → (W.memberships.node j).answered q ≡ true =
      subst (λ z. (j : ℕ) → (W.memberships.epoch z).members j ≡ true → (W.memberships.node j).answered z ≡ true) number newest.all_answered in
      let allowed : (d : ℕ) → sharing.Allowed (W.device d) (sharing.Collected q all) = λ d. (subst (λ es. MayCome (W.device d) es) (are d) (m d).allowed).0 in
      from (whole.after W (whole.Collected q)) (record {
        events = whole.Collected q ∷ [];
        run = ((has.tried, answered, allowed), refl);
        others = λ j ne. refl;
        others_at = λ d j ne. refl;
        attempts = λ other ne h d. others_leave (W.device d) (sharing.Collected q all) other d (h d) (allowed d) (λ same. ne (ap coordinator (sym same) ∙ own));
      }) refl (λ d. sym (ap (all_after (W.device d)) (are d))) (λ d. subst (λ es. Same (W.device d) (all_after (W.device d) es)) (sym (are d)) (record { node = refl; device = refl }))

  -- What the machine has before and after.

  has_in : (d : ℕ) (phase : Phase) → a.phase ≡ phase → HasIn (W.device d) a.plan a.promises a.devices d phase
  has_in d phase is = subst (HasIn (W.device d) a.plan a.promises a.devices d) is (at d).has

  no_install : (phase : Phase) → t.phase ≡ phase → (Installing ≡ phase → ⊥) → (o : Option Install) → installs_in u.steps ≡ o → o ≡ None
  no_install phase is other None given = refl
  no_install phase is other (Some j) given = absurd (other (sym ((goes_by_call a k may (chosen_reached a reached)).install j given).0 ∙ is))

  has_out : (d : ℕ) (phase : Phase) → t.phase ≡ phase → (Installing ≡ phase → ⊥) → HasIn (after d) t.plan t.promises t.devices d phase
  has_out d phase is other =
      subst (HasIn (after d) t.plan t.promises t.devices d) is
      (subst (λ o. CountsAt (after d) t d o) (no_install phase is other (installs_in u.steps) refl) (m d).counts).has

  -- By the phases.

  ended : t.phase ≡ Over → CallGoes S W n u
  ended is =
      let none : installs_in u.steps ≡ None = no_install Over is (λ z. subst IsInstalling z tt) (installs_in u.steps) refl in
      record {
        machine = W;
        moves = nowhere S W n;
        memberships = refl;
        node = λ d. refl;
        device = λ d. refl;
        asked = λ d. quiet_steps (W.device d) t d u.steps (subst IsNoSeizing (sym is) tt) (asks_are_entries a k reached may);
        counts = λ d.
            let h : DeviceHas (after d) t d = subst (λ o. CountsAt (after d) t d o) none (m d).counts in
            subst (λ o. CountsAt (W.device d) t d o) (sym none)
            (record { nodes = h.nodes; attached = h.attached; apart = h.apart; has = subst (HasIn (W.device d) t.plan t.promises t.devices d) (sym is) tt });
      }

  fresh : t.phase ≡ Collecting → CallGoes S W n u
  fresh is =
      quiet (λ d. fresh_quiet q all (W.device d) (events d) (i.device d) (m d).asking (m d).allowed
      (subst (λ z. ((after d).attempt z).collected ≡ false) number (has_out d Collecting is (λ z. subst IsInstalling z tt)).0.collected))

  is_unasked : (d : ℕ) → t.phase ≡ Choosing → IsUnasked ((after d).attempt q)
  is_unasked d is = subst (λ z. IsUnasked ((after d).attempt z)) number (has_out d Choosing is (λ z. subst IsInstalling z tt)).1

  are_asks : ((d : ℕ) → ((W.device d).attempt q).collected ≡ true) → (d : ℕ) → AreAsks q (events d)
  are_asks collected_at d = only_asks q all (W.device d) (events d) (collected_at d) (m d).asking (m d).allowed

  entries : ((d : ℕ) → ((W.device d).attempt q).collected ≡ true) → ((d : ℕ) → HasEntry (after d) q (entry_of t.devices d)) → CallGoes S W n u
  entries collected_at entry =
      asks (are_asks collected_at) (λ d high. unasked_quiet q (W.device d) (events d) (i.device d) (are_asks collected_at d) (m d).allowed
      (subst (HasEntry (after d) q) (none_above t.devices d (numbered_by_call a k reached may) high) (entry d)))

  counted_entry : (d : ℕ) (o : Option Install) → installs_in u.steps ≡ o → IsSome o → HasEntry (after d) q (entry_of t.devices d)
  counted_entry d None given some = absurd (false_true some)
  counted_entry d (Some j) given some =
      subst (λ z. HasEntry (after d) z (entry_of t.devices d)) number (subst (λ o. CountsAt (after d) t d o) given (m d).counts).2

  opened : ((d : ℕ) → ((W.device d).attempt q).collected ≡ true) → (a.phase ≡ Installing → ⊥) → (last : Phase) → t.phase ≡ last → CallGoes S W n u
  opened collected_at before Over is = ended is
  opened collected_at before Collecting is = fresh is
  opened collected_at before Choosing is = quiet (λ d. unasked_quiet q (W.device d) (events d) (i.device d) (are_asks collected_at d) (m d).allowed (is_unasked d is))
  opened collected_at before SeizingVotes is = entries collected_at (λ d. subst (λ z. HasEntry (after d) z (entry_of t.devices d)) number (has_out d SeizingVotes is (λ z. subst IsInstalling z tt)).1)
  opened collected_at before SeizingOthers is = entries collected_at (λ d. subst (λ z. HasEntry (after d) z (entry_of t.devices d)) number (has_out d SeizingOthers is (λ z. subst IsInstalling z tt)).1)
  opened collected_at before Installing is = entries collected_at (λ d. by_cases d (installs_come_first a k reached may is))
    where
      by_cases : (d : ℕ) → (a.phase ≡ Installing) ⊎ IsSome (installs_in u.steps) → HasEntry (after d) q (entry_of t.devices d)
      by_cases d (inl e) = absurd (before e)
      by_cases d (inr some) = counted_entry d (installs_in u.steps) refl some

  by_phases : (first last : Phase) → a.phase ≡ first → t.phase ≡ last → CallGoes S W n u
  by_phases Over last b l = ended (ap (λ (z : Turn). z.after.phase) (ends_once a k b may) ∙ b)
  by_phases Installing last b l = quiet (λ d. counted_quiet q all (W.device d) (events d) (i.device d) (m d).asking (m d).allowed (has_in d Installing b).0)
  by_phases Choosing last b l = opened (λ d. (has_in d Choosing b).0.collected) (λ z. subst IsInstalling (sym z ∙ b) tt) last l
  by_phases SeizingVotes last b l = opened (λ d. (has_in d SeizingVotes b).0.collected) (λ z. subst IsInstalling (sym z ∙ b) tt) last l
  by_phases SeizingOthers last b l = opened (λ d. (has_in d SeizingOthers b).0.collected) (λ z. subst IsInstalling (sym z ∙ b) tt) last l
  by_phases Collecting Collecting b l = fresh l
  by_phases Collecting Over b l = ended l
  by_phases Collecting SeizingVotes b l = absurd (subst IsEarly l (early_after a k may b))
  by_phases Collecting SeizingOthers b l = absurd (subst IsEarly l (early_after a k may b))
  by_phases Collecting Installing b l = absurd (subst IsEarly l (early_after a k may b))
  by_phases Collecting Choosing b l =
      collected (λ d. collected_alone q all (W.device d) (events d) (i.device d) (m d).asking (m d).allowed (has_in d Collecting b).0.collected
      (subst (λ z. ((after d).attempt z).collected ≡ true) number (has_out d Choosing l (λ z. subst IsInstalling z tt)).0.collected) (is_unasked d l)) l

pub calls_go : CallsGo
calls_go S W n a k reached_whole reached may own has has_after at told = by_phases S W n a k (in_order S W reached_whole) reached may own has has_after at told a.phase (turn a k).after.phase refl refl

-- After each thing that happens an attempt has waited for at most as many ticks as the lines count.
use Rattle.std.specs.Prelude.{ℕ, ◌^◌, ◌==◌, ◌&&◌, ◌||◌, ◌≡◌, ◌≤◌, ◌<◌, ◌⊎◌, not, Bool, true, false, List, [], ◌∷◌, Option, None, Some, length}
use Rattle.std.specs.List.{AllByRecursion, list_any}
use Rattle.std.proofs.Common.{arith, refl, sym, ap, subst, ◌∙◌, inl, inr}
use Rattle.attempt_laws.specs.Asking.{entry_of}
use Rattle.attempt_laws.specs.Staying.{IsBefore, IsFinal}
use Rattle.cl_base.specs.Limits.{most_devices, most_nodes}
use Rattle.cl_base.specs.Sets.{has}
use Rattle.cl_base.specs.declared.header.Header.{Header}
use Rattle.cmm_attempt.proofs.Basics.{and_cases, false_true}
use Rattle.cmm_attempt.specs.Attempts.{AttemptState, is_over}
use Rattle.cmm_attempt.specs.declared.phase.Phase.{Phase}
use Rattle.cmm_attempt.specs.declared.phase.Phase.TheVariants.{Choosing, Collecting, Installing, Over, SeizingOthers, SeizingVotes}
use Rattle.cmm_attempt.specs.declared.plan.Plan.{Plan}
use Rattle.cmm_attempt.specs.declared.seizing.Seizing.{Seizing}
use Rattle.history.specs.Attempts.{is_question}
use Rattle.history.specs.Contact.{AttemptsDiffer}
use Rattle.history.specs.Letters.{sends}
use Rattle.history.specs.Moment.{Moment}
use Rattle.history.specs.Names as name
use Rattle.history.specs.Names.{Name}
use Rattle.history.specs.Order.{Always, since}
use Rattle.history.specs.Seizing.{is_attempt, is_install}
use Rattle.history.specs.Setting.{coordinator}
use Rattle.history.specs.Trace.{installed}
use Rattle.history_setting.specs.Settings.{setting_of}
use Rattle.node_model.specs.declared.node.Node.TheVariants.{Up}
use Rattle.node_model.specs.declared.node.UpNode.{UpNode}
use Rattle.run_history.specs.Happenings.{Happening, MayAllHappen, all_happened}
use Rattle.run_history.specs.Scenes.{Scene, first_scene}
use Rattle.run_history.specs.Shapes.{Due, ShapedFrom, nothing}
use Rattle.run_history.specs.WorldLines.{AreDisks}
use Rattle.run_lines.proofs.Adds.{onto}
use Rattle.run_messages.proofs.Reaching.{IsSmall}
use Rattle.run_packets.specs.native.Laws.{BootsInHeader}
use Rattle.run_packets.specs.views.Laws.{NoneForeign}
use Rattle.run_seizings.specs.Seized.{has_installed}
use Rattle.seize.specs.declared.kind.SeizeKind.{SeizeKind}
use Rattle.world_model.specs.First.{first_cluster}
use Rattle.run_outcomes.specs.phases.Laws.{HasAttempt}
use Rattle.run_outcomes.specs.silence.Asked.{Query, asked_in, has_plain, is_other_node}
use Rattle.run_outcomes.specs.silence.AskedCourses.{AttemptTold, Late, to_install}
use Rattle.run_outcomes.specs.silence.Gone.{Gone}
use Rattle.run_outcomes.specs.silence.Still.{Still, asked_at}
use Rattle.run_outcomes.specs.silence.Ticks.{AskedAreMembers, IsFirstInstall, IsToAll, asks_in, tasks_in}
use Rattle.run_outcomes.specs.tasks.AsksGiven.{IsLeft}
use Rattle.run_outcomes.specs.tasks.Laws.{AsksTold, has_asked, is_vote}
use Rattle.run_outcomes.proofs.asks.Runs.{asks_are_told}
use Rattle.run_outcomes.proofs.own_steps.Steps.{OfEachStep}
use Rattle.run_outcomes.proofs.phases.Taken.{way_of}
use Rattle.run_outcomes.proofs.silence.Every.{member_of_lines}
use Rattle.run_outcomes.proofs.silence.Lines.{any_asked}
use Rattle.run_outcomes.proofs.silence.Outgoing.{in_onto, none_again}
use Rattle.run_outcomes.proofs.silence.Outgone.{Of, Seen}
use Rattle.run_outcomes.proofs.silence.OutgoneRuns.{installs_went_out, seen_at}
use Rattle.run_outcomes.proofs.silence.Runs.{run_told}
use Rattle.run_outcomes.proofs.silence.TickLines.{asked_first}
use Rattle.refinement.specs.Guards.{OfUp}

-- Where a task of a coordinator's own is told for the first time, a phase of its attempt begins, or it asks something new.
abbrev pub TasksBegin : Type 0
TasksBegin = OfEachStep (λ h s x t. (newer : List Moment) → onto newer s.moments ≡ t.moments → (n : ℕ) (a : AttemptState) → HasAttempt t n a → tasks_in (setting_of h) n newer s.moments ≡ true → a.ticks ≡ 0)

-- ---- what is known of a scene

pub record Knows (h : Header) (s : Scene) : Type 0 where
  pub seen : Seen h s
  pub told : (n : ℕ) (x : UpNode) (a : AttemptState) → s.nodes.node n ≡ Up x → x.attempt ≡ Some a → AttemptTold (λ e q. asked_in e q s.moments) a × Late (λ e q. asked_in e q s.moments) a
  pub asks : (n : ℕ) (a : AttemptState) → HasAttempt s n a → AsksTold a s.moments
  pub gone : Gone s.moments
  pub members : (n : ℕ) (a : AttemptState) → HasAttempt s n a → (m : ℕ) (q : Name) → IsToAll q → asked_in a.plan.epoch (record { to = m; called = q }) s.moments ≡ true → is_other_node a.plan m ≡ true
  pub left : IsLeft s.links.next

pub knows_so : AskedAreMembers → (h : Header) (cells : ℕ) (hs : List Happening) (last : Due) → h.nodes ≤ most_nodes → length h.devices ≤ most_devices → h.cluster < 2 ^ 32 → AreDisks h
    → MayAllHappen (first_cluster h) (first_scene h cells) hs → ShapedFrom (first_cluster h) (first_scene h cells) nothing hs last
    → NoneForeign (first_cluster h) (first_scene h cells) hs → AllByRecursion (BootsInHeader h) hs
    → (let s : Scene = all_happened (first_cluster h) (first_scene h cells) hs in IsLeft s.links.next → Knows h s)
knows_so members h cells hs last nodes few small disks may shaped native boots left =
    let size : IsSmall h = record { few = few; small = small } in
    record {
      seen = seen_at h cells _ size (record { happenings = hs; may = may; is = refl });
      told = λ n x a up has. run_told h cells hs size may left n x a up has;
      asks = λ n a at. asks_are_told h cells hs last few small disks may shaped native left n a at;
      gone = (installs_went_out h cells hs nodes size may boots).gone left;
      members = λ n a at m q of is. members h cells hs last nodes few small disks may shaped native boots left n a at m q of is;
      left = left;
    }

-- ---- what was asked, as entries have it

abbrev plain_by : ℕ → ℕ → Option (SeizeKind × ℕ) → Bool
plain_by c m None = false
plain_by c m (Some k) = not (is_vote k.0) && not (m == c) && has k.1 m

plain_so : (c m : ℕ) (o : Option Seizing) → has_plain c m o ≡ plain_by c m (asked_at o)
plain_so c m None = refl
plain_so c m (Some e) = refl

abbrev vote_by : ℕ → ℕ → Option (SeizeKind × ℕ) → Bool
vote_by c m None = false
vote_by c m (Some k) = is_vote k.0 && not (m == c) && has k.1 m

vote_so : (a : AttemptState) (m : ℕ) (o : Option Seizing) → has_asked a m o ≡ vote_by a.plan.coordinator m (asked_at o)
vote_so a m None = refl
vote_so a m (Some e) = refl

-- ---- nothing is asked anew by an attempt that goes on

pub up_has : (s : Scene) (n : ℕ) (x : UpNode) (a : AttemptState) → s.nodes.node n ≡ Up x → x.attempt ≡ Some a → HasAttempt s n a
up_has s n x a up has = subst (OfUp (λ y. y.attempt ≡ Some a)) (sym up) has

pub record Both (h : Header) (s t : Scene) (n : ℕ) (x y : UpNode) (a b : AttemptState) : Type 0 where
  pub before : Knows h s
  pub after : Knows h t
  pub up : s.nodes.node n ≡ Up x
  pub has : x.attempt ≡ Some a
  pub up_after : t.nodes.node n ≡ Up y
  pub has_after : y.attempt ≡ Some b
  pub still : Still 1 a b

-- its phase is the same
same_phase : (h : Header) (s t : Scene) (n : ℕ) (x y : UpNode) (a b : AttemptState) → Both h s t n x y a b → b.phase ≡ a.phase
same_phase h s t n x y a b k = by_side k.still.phase
  where
    live : is_over b.phase ≡ false
    live = (k.after.seen.attempts k.after.left n y b k.up_after k.has_after).live

    by_side : (b.phase ≡ a.phase) ⊎ (b.phase ≡ Over) → b.phase ≡ a.phase
    by_side (inl is) = is
    by_side (inr over) = absurd (false_true (sym live ∙ ap is_over over))

pub number_same : (h : Header) (s t : Scene) (n : ℕ) (x y : UpNode) (a b : AttemptState) → Both h s t n x y a b → b.plan.epoch ≡ a.plan.epoch
number_same h s t n x y a b k = ap (λ (p : Plan). p.epoch) k.still.plan

of_before : (h : Header) (s t : Scene) (n : ℕ) (x y : UpNode) (a b : AttemptState) → Both h s t n x y a b → Of h s.moments n x a
of_before h s t n x y a b k = k.before.seen.attempts k.before.left n x a k.up k.has

of_after : (h : Header) (s t : Scene) (n : ℕ) (x y : UpNode) (a b : AttemptState) → Both h s t n x y a b → Of h t.moments n y b
of_after h s t n x y a b k = k.after.seen.attempts k.after.left n y b k.up_after k.has_after

-- a device that is no quorum device
no_plain : (h : Header) (s t : Scene) (n : ℕ) (x y : UpNode) (a b : AttemptState) → Both h s t n x y a b → (m d : ℕ) → (let q : Query = record { to = m; called = name.SeizeData d } in asked_in a.plan.epoch q s.moments ≡ false → asked_in a.plan.epoch q t.moments ≡ true → ⊥)
no_plain h s t n x y a b k m d fresh now = false_true (sym fresh ∙ (old ∙ (same ∙ (sym new ∙ now))))
  where
    q : Query
    q = record { to = m; called = name.SeizeData d }

    old : asked_in a.plan.epoch q s.moments ≡ plain_by a.plan.coordinator m (asked_at (entry_of a.devices d))
    old = ((k.before.told n x a k.up k.has).0 q).told ∙ plain_so a.plan.coordinator m (entry_of a.devices d)

    new : asked_in a.plan.epoch q t.moments ≡ plain_by b.plan.coordinator m (asked_at (entry_of b.devices d))
    new = ap (λ e. asked_in e q t.moments) (sym (number_same h s t n x y a b k)) ∙ (((k.after.told n y b k.up_after k.has_after).0 q).told ∙ plain_so b.plan.coordinator m (entry_of b.devices d))

    same : plain_by a.plan.coordinator m (asked_at (entry_of a.devices d)) ≡ plain_by b.plan.coordinator m (asked_at (entry_of b.devices d))
    same = ap (λ (p : Plan). plain_by p.coordinator m (asked_at (entry_of a.devices d))) (sym k.still.plan) ∙ ap (plain_by b.plan.coordinator m) (sym (k.still.asked d))

-- a quorum device
votes_at : (h : Header) (s : Scene) (n : ℕ) (x : UpNode) (a : AttemptState) → Knows h s → s.nodes.node n ≡ Up x → x.attempt ≡ Some a → (m d : ℕ)
    → asked_in a.plan.epoch (record { to = m; called = name.SeizeQuorum d }) s.moments ≡ vote_by a.plan.coordinator m (asked_at (entry_of a.devices d))
votes_at h s n x a k up has m d =
    let e : ℕ = a.plan.epoch in
    let of : Of h s.moments n x a = k.seen.attempts k.left n x a up has in
    sym (any_asked e (record { to = m; called = name.SeizeQuorum d }) s.moments refl)
    ∙ (ap (λ c. list_any (sends c m (name.SeizeQuorum d)) (since (is_attempt e) s.moments)) (sym of.coordinates)
    ∙ ((k.asks n a (up_has s n x a up has)).asked d m ∙ vote_so a m (entry_of a.devices d)))

no_vote : (h : Header) (s t : Scene) (n : ℕ) (x y : UpNode) (a b : AttemptState) → Both h s t n x y a b → (m d : ℕ) → (let q : Query = record { to = m; called = name.SeizeQuorum d } in asked_in a.plan.epoch q s.moments ≡ false → asked_in a.plan.epoch q t.moments ≡ true → ⊥)
no_vote h s t n x y a b k m d fresh now =
    let q : Query = record { to = m; called = name.SeizeQuorum d } in
    false_true (sym fresh ∙ (votes_at h s n x a k.before k.up k.has m d ∙ (same ∙ (sym (ap (λ e. asked_in e q t.moments) (sym (number_same h s t n x y a b k)) ∙ votes_at h t n y b k.after k.up_after k.has_after m d) ∙ now))))
  where
    same : vote_by a.plan.coordinator m (asked_at (entry_of a.devices d)) ≡ vote_by b.plan.coordinator m (asked_at (entry_of b.devices d))
    same = ap (λ (p : Plan). vote_by p.coordinator m (asked_at (entry_of a.devices d))) (sym k.still.plan) ∙ ap (vote_by b.plan.coordinator m) (sym (k.still.asked d))

-- whom it has sent a Collect or an Install is another member
other_in : (h : Header) (s t : Scene) (n : ℕ) (x y : UpNode) (a b : AttemptState) → Both h s t n x y a b → (m : ℕ) (q : Name) → IsToAll q → asked_in a.plan.epoch (record { to = m; called = q }) t.moments ≡ true → is_other_node a.plan m ≡ true
other_in h s t n x y a b k m q of now =
    subst (λ (p : Plan). is_other_node p m ≡ true) k.still.plan
    (k.after.members n b (up_has t n y b k.up_after k.has_after) m q of (ap (λ e. asked_in e (record { to = m; called = q }) t.moments) (number_same h s t n x y a b k) ∙ now))

no_collect : (h : Header) (s t : Scene) (n : ℕ) (x y : UpNode) (a b : AttemptState) → Both h s t n x y a b → (m : ℕ) → (let q : Query = record { to = m; called = name.Collect } in asked_in a.plan.epoch q s.moments ≡ false → asked_in a.plan.epoch q t.moments ≡ true → ⊥)
no_collect h s t n x y a b k m fresh now = false_true (sym fresh ∙ (k.before.told n x a k.up k.has).0 (record { to = m; called = name.Collect }) (other_in h s t n x y a b k m name.Collect tt now))

final_installs : (p : Phase) → is_over p ≡ false → IsFinal p → p ≡ Installing
final_installs Installing live final = refl
final_installs Over live final = absurd (false_true (sym live))
final_installs Collecting live final = absurd final
final_installs Choosing live final = absurd final
final_installs SeizingVotes live final = absurd final
final_installs SeizingOthers live final = absurd final

no_install : (h : Header) (s t : Scene) (n : ℕ) (x y : UpNode) (a b : AttemptState) → Both h s t n x y a b → (m : ℕ) → (let q : Query = record { to = m; called = name.Install } in asked_in a.plan.epoch q s.moments ≡ false → asked_in a.plan.epoch q t.moments ≡ true → ⊥)
no_install h s t n x y a b k m fresh now =
    let of : Of h s.moments n x a = of_before h s t n x y a b k in
    let late : b.phase ≡ Installing = final_installs b.phase (of_after h s t n x y a b k).live ((k.after.told n y b k.up_after k.has_after).1 m (ap (λ e. asked_in e (to_install m) t.moments) (number_same h s t n x y a b k) ∙ now)) in
    let was : a.phase ≡ Installing = sym (same_phase h s t n x y a b k) ∙ late in
    false_true (sym fresh ∙ k.before.gone a.plan.epoch m (way_of s.nodes s.moments n x a k.before.seen.ways k.up k.has) (subst (λ j. has_installed j a.plan.epoch s.moments ≡ true) (sym of.so.own) (of.so.installs was))
    (member_of_lines h s.moments n x a m of (other_in h s t n x y a b k m name.Install tt now)))

none_asked : (h : Header) (s t : Scene) (n : ℕ) (x y : UpNode) (a b : AttemptState) → Both h s t n x y a b → (m : ℕ) (q : Name) → is_question q ≡ true → asked_in a.plan.epoch (record { to = m; called = q }) s.moments ≡ false
    → asked_in a.plan.epoch (record { to = m; called = q }) t.moments ≡ true → ⊥
none_asked h s t n x y a b k m name.Collect is fresh now = no_collect h s t n x y a b k m fresh now
none_asked h s t n x y a b k m name.Install is fresh now = no_install h s t n x y a b k m fresh now
none_asked h s t n x y a b k m (name.SeizeQuorum d) is fresh now = no_vote h s t n x y a b k m d fresh now
none_asked h s t n x y a b k m (name.SeizeData d) is fresh now = no_plain h s t n x y a b k m d fresh now
none_asked h s t n x y a b k m _ is fresh now = absurd (false_true is)

-- ---- nothing begins anew by the lines, but for its tasks

pub record Even (e : ℕ) (xs ms : List Moment) : Type 0 where
  pub begun : list_any (is_attempt e) xs ≡ false
  pub installs : list_any (is_install (coordinator e) e) xs ≡ false
  pub asks : asks_in e xs ms ≡ false

refuted : (b : Bool) → (b ≡ true → ⊥) → b ≡ false
refuted true f = absurd (f refl)
refuted false f = refl

once_before : (xs ms : List Moment) → Always IsFirstInstall (onto xs ms) → Always IsFirstInstall ms
once_before [] ms h = h
once_before (x ∷ xs) ms h = (once_before xs (x ∷ ms) h).1

none_installed : (n e : ℕ) (xs ms : List Moment) → Always IsFirstInstall (onto xs ms) → has_installed n e ms ≡ true → list_any (is_install n e) xs ≡ false
none_installed n e [] ms once there = refl
none_installed n e (x ∷ xs) ms once there = none_of (is_install n e x) (list_any (is_install n e) xs) (new_one x (once_before xs (x ∷ ms) once)) (none_installed n e xs (x ∷ ms) once (or_second (is_install n e x) (has_installed n e ms) there))
  where
    or_second : (a b : Bool) → b ≡ true → (a || b) ≡ true
    or_second true b h = refl
    or_second false b h = h

    none_of : (a b : Bool) → a ≡ false → b ≡ false → (a || b) ≡ false
    none_of true b h k = absurd (false_true (sym h))
    none_of false b h k = k

    new_one : (x : Moment) → Always IsFirstInstall (x ∷ ms) → is_install n e x ≡ false
    new_one (installed m f) first = refuted ((m == n) && (f == e)) (λ is. false_true (sym first.0 ∙ same_both m n f e (and_cases (m == n) (f == e) is) there))
      where
        same_both : (m n f e : ℕ) → ((m == n) ≡ true) × ((f == e) ≡ true) → has_installed n e ms ≡ true → has_installed m f ms ≡ true
        same_both m n f e two h = subst (λ i. has_installed i f ms ≡ true) (sym (equal m n two.0)) (subst (λ i. has_installed n i ms ≡ true) (sym (equal f e two.1)) h)
          where
            equal : (a b : ℕ) → (a == b) ≡ true → a ≡ b
            equal a b h = grind arith
    new_one _ first = refl

before_by : (p : Phase) → is_over p ≡ false → (p ≡ Installing → ⊥) → IsBefore p
before_by Collecting live f = tt
before_by Choosing live f = tt
before_by SeizingVotes live f = tt
before_by SeizingOthers live f = tt
before_by Installing live f = absurd (f refl)
before_by Over live f = absurd (false_true (sym live))

pub even_so : (h : Header) (s t : Scene) (n : ℕ) (x y : UpNode) (a b : AttemptState) (xs : List Moment) → onto xs s.moments ≡ t.moments → Always IsFirstInstall t.moments → Both h s t n x y a b → Even a.plan.epoch xs s.moments
even_so h s t n x y a b xs is once k = record { begun = begun; installs = installs; asks = refuted (asks_in e xs s.moments) (λ asks. asked_first ⊥ e xs s.moments begun (λ m q of fresh now. none_asked h s t n x y a b k m q of fresh (subst (λ ms. asked_in e (record { to = m; called = q }) ms ≡ true) is now)) asks) }
  where
    e : ℕ
    e = a.plan.epoch

    of : Of h s.moments n x a
    of = of_before h s t n x y a b k

    begun : list_any (is_attempt e) xs ≡ false
    begun = none_again e xs s.moments (subst AttemptsDiffer (sym is) k.after.seen.once) of.so.of.0

    -- by its phase
    by_phase : (p : Bool) → has_installed n e s.moments ≡ p → list_any (is_install n e) xs ≡ false
    by_phase true old = none_installed n e xs s.moments (subst (Always IsFirstInstall) (sym is) once) old
    by_phase false old = refuted (list_any (is_install n e) xs) (λ now. false_true (sym (late now) ∙ now_told now))
      where
        was : a.phase ≡ Installing → ⊥
        was at = false_true (sym old ∙ of.so.installs at)

        now_told : list_any (is_install n e) xs ≡ true → has_installed n e t.moments ≡ true
        now_told now = subst (λ ms. has_installed n e ms ≡ true) is (in_onto (is_install n e) xs s.moments now)

        late : list_any (is_install n e) xs ≡ true → has_installed n e t.moments ≡ false
        late now =
            subst (λ q. has_installed n q t.moments ≡ false) (number_same h s t n x y a b k)
            ((of_after h s t n x y a b k).so.before (before_by b.phase (of_after h s t n x y a b k).live (λ at. was (sym (same_phase h s t n x y a b k) ∙ at))))

    installs : list_any (is_install (coordinator e) e) xs ≡ false
    installs = subst (λ j. list_any (is_install j e) xs ≡ false) (sym of.so.own) (by_phase (has_installed n e s.moments) refl)

-- Where an attempt goes on in its phase and asks nobody anew, no line of a step brings its coordinator a task.
use Rattle.std.specs.Prelude.{ℕ, ◌&&◌, ◌||◌, ◌≡◌, ◌<◌, ◌⊎◌, not, Bool, true, false, List, ◌∷◌, Some, is_some, map}
use Rattle.std.specs.List.{filter, list_any}
use Rattle.std.proofs.Common.{refl, sym, ap, subst, ◌∙◌, inl, inr}
use Rattle.attempt_laws.specs.Asking.{AreApart, entry_numbers}
use Rattle.cl_base.specs.Sets.{has}
use Rattle.cl_base.specs.declared.header.Header.{Header}
use Rattle.cmm_attempt.proofs.Basics.{false_true}
use Rattle.cmm_attempt.specs.Attempts.{AttemptState, is_over}
use Rattle.cmm_attempt.specs.declared.phase.Phase.{Phase}
use Rattle.cmm_attempt.specs.declared.phase.Phase.TheVariants.{Choosing, Collecting, Installing, Over, SeizingOthers, SeizingVotes}
use Rattle.cmm_attempt.specs.declared.plan.Plan.{Plan}
use Rattle.cmm_attempt.specs.declared.seizing.Seizing.{Seizing}
use Rattle.history.specs.Attempts.{gets_task}
use Rattle.history.specs.Contact.{AttemptsDiffer}
use Rattle.history.specs.Member.{attempt_of, member_of}
use Rattle.history.specs.Member as member
use Rattle.history.specs.Moment.{Moment}
use Rattle.history.specs.Queue as told
use Rattle.history.specs.Seizing.{acts_for, is_attempt}
use Rattle.history.specs.Setting.{Setting}
use Rattle.history.specs.UnderWay.{is_under_way}
use Rattle.history_setting.specs.Settings.{setting_of}
use Rattle.node_model.specs.Attempts.{is_choosing}
use Rattle.node_model.specs.Seats.{coordinator_of, session_of}
use Rattle.node_model.specs.declared.node.Node.TheVariants.{Up}
use Rattle.node_model.specs.declared.node.UpNode.{UpNode}
use Rattle.refinement.specs.Guards.{OfUp}
use Rattle.run_devices.specs.queues.Laws.{Same}
use Rattle.run_history.specs.Happenings.{Happening, all_happened}
use Rattle.run_history.specs.Scenes.{Scene, first_scene}
use Rattle.run_lines.proofs.Adds.{onto}
use Rattle.run_messages.proofs.Reaching.{IsReached, IsSmall, stage_of}
use Rattle.run_seizings.proofs.Runs.{run_seizes}
use Rattle.run_seizings.specs.Seized.{AttemptIn, AttemptSo}
use Rattle.run_seizings.specs.Sites.{UpIn, UpSo}
use Rattle.world_model.specs.First.{first_cluster}
use Rattle.run_outcomes.specs.phases.Kept.{In}
use Rattle.run_outcomes.specs.phases.Laws.{HasAttempt, has_gathered, is_installing, is_seizing}
use Rattle.run_outcomes.specs.saves.Kept.{IsAt, Rests, RestsIn}
use Rattle.run_outcomes.specs.silence.Still.{Still}
use Rattle.run_outcomes.specs.tasks.Lasting.{lasts_open}
use Rattle.run_outcomes.specs.tasks.Laws.{OwnSo}
use Rattle.run_outcomes.specs.tasks.Own.{IsOrdered, Leads}
use Rattle.run_outcomes.proofs.members.Queues.{closed_so}
use Rattle.run_outcomes.proofs.members.Told.{seizers_are_told}
use Rattle.run_outcomes.proofs.onward.Passing.{Passed}
use Rattle.run_outcomes.proofs.others.Runs.{Point}
use Rattle.run_outcomes.proofs.own_tasks.Grounds.{leads_at}
use Rattle.run_outcomes.proofs.own_tasks.Runs.{own_tasks_are_asked}
use Rattle.run_outcomes.proofs.phases.LiveRuns.{none_is_over}
use Rattle.run_outcomes.proofs.phases.Seizes.{promises_are_told, seizings_are_told}
use Rattle.run_outcomes.proofs.phases.Votes.{votes_are_told}
use Rattle.run_outcomes.proofs.saves.Kept.{run_kept}
use Rattle.run_outcomes.proofs.silence.Outgoing.{none_again}
use Rattle.run_outcomes.proofs.silence.tasks.Asked.{asked_before}
use Rattle.run_outcomes.proofs.silence.tasks.Behind.{lacks_earlier, stays_closed}
use Rattle.run_outcomes.proofs.silence.tasks.Fresh.{among, devices_of}
use Rattle.run_outcomes.proofs.silence.tasks.Marks.{Mark, idle_mark, same_mark}
use Rattle.run_outcomes.proofs.told_tasks.Added.{task_among}
use Rattle.run_outcomes.proofs.told_tasks.Begun.{same_devices}
use Rattle.run_outcomes.proofs.told_tasks.Closed.{closed_before}
use Rattle.run_outcomes.proofs.told_tasks.Quiet.{off_first, off_second, same_tasks}

-- ---- what is known of an attempt at a point of a run

pub record Facts (h : Header) (s : Scene) (n : ℕ) (x : UpNode) (a : AttemptState) : Type 0 where
  pub so : AttemptSo h s.moments n (session_of x) a
  pub session : member.session_of n s.moments ≡ Some a.plan.epoch
  pub live : is_over a.phase ≡ false
  pub rests : is_choosing a.phase ≡ false
  pub acts : acts_for n a.plan.epoch s.moments ≡ not (is_installing a.phase)
  pub seizes : (acts_for n a.plan.epoch s.moments && is_under_way a.plan.epoch s.moments && told.all_promised a.plan.epoch s.moments) ≡ is_seizing a.phase
  pub promised : told.all_promised a.plan.epoch s.moments ≡ has_gathered a.phase
  pub once : AttemptsDiffer s.moments
  pub apart : AreApart (entry_numbers a.devices)
  pub own : OwnSo x a
  pub same : is_seizing a.phase ≡ true → lasts_open (setting_of h) n s.moments ≡ false → Same x.tasks (told.tasks_of (setting_of h) n s.moments)

pub facts_at : (h : Header) (cells : ℕ) (hs : List Happening) → Point h cells hs → (n : ℕ) (x : UpNode) (a : AttemptState) → (all_happened (first_cluster h) (first_scene h cells) hs).nodes.node n ≡ Up x → x.attempt ≡ Some a
    → Facts h (all_happened (first_cluster h) (first_scene h cells) hs) n x a
facts_at h cells hs z n x a up has = record {
  so = so;
  session = seized.session (subst (λ q. 0 < q) so.epoch so.some) ∙ ap Some (sym so.epoch);
  live = none_is_over h cells hs z.few z.small z.may n a it;
  rests = subst RestsIn has (subst (IsAt Rests) up ((run_kept h cells hs z.few z.small z.may).rests n));
  acts = ap (λ k. acts_for k e s.moments) (sym so.own) ∙ (seizings_are_told h cells hs z.few z.small z.may z.native n a it).acts;
  seizes = ap (λ k. acts_for k e s.moments && is_under_way e s.moments && told.all_promised e s.moments) (sym so.own) ∙ (seizings_are_told h cells hs z.few z.small z.may z.native n a it).seizes;
  promised = (promises_are_told h cells hs z.few z.small z.may z.native n a it).phase;
  once = (stage_of h cells s size here).laws.once;
  apart = (subst (In (λ (w : AttemptState). IsOrdered n w × (coordinator_of x ≡ Some n))) has (subst (IsAt (Leads n)) up (leads_at h cells s n size here))).0.apart;
  own = own_tasks_are_asked h cells hs z.last z.few z.small z.disks z.may z.shaped z.native n x a up has;
  same = λ seizing closed.
      seizers_are_told h cells hs z.last z.nodes z.few z.small z.disks z.may z.shaped z.native z.boots z.left n x a (votes_are_told h cells hs z.few z.small z.may n a it seizing).both up has seizing
      (votes_are_told h cells hs z.few z.small z.may n a it seizing).given closed;
}
  where
    s : Scene
    s = all_happened (first_cluster h) (first_scene h cells) hs

    e : ℕ
    e = a.plan.epoch

    size : IsSmall h
    size = record { few = z.few; small = z.small }

    here : IsReached h cells s
    here = record { happenings = hs; may = z.may; is = refl }

    it : HasAttempt s n a
    it = subst (OfUp (λ y. y.attempt ≡ Some a)) (sym up) has

    seized : UpSo h s.moments n x
    seized = subst (UpIn h s.moments n) up ((run_seizes h cells hs z.few z.small z.may).seizing.sites n).up

    so : AttemptSo h s.moments n (session_of x) a
    so = subst (AttemptIn h s.moments n (session_of x)) has seized.attempt

-- ---- the attempt goes on

same_phase : (later : ℕ) (a b : AttemptState) → Still later a b → is_over b.phase ≡ false → b.phase ≡ a.phase
same_phase later a b still live = by_side still.phase
  where
    by_side : (b.phase ≡ a.phase) ⊎ (b.phase ≡ Over) → b.phase ≡ a.phase
    by_side (inl is) = is
    by_side (inr over) = absurd (false_true (sym live ∙ ap is_over over))

-- while it seizes devices: those that have a task behind the line are those that it had asked its coordinator for before
seizing_none : (h : Header) (s t : Scene) (n later : ℕ) (x y : UpNode) (a b : AttemptState) (mark : Moment) → Facts h s n x a → Facts h t n y b → Still later a b → Mark (setting_of h) n a.plan.epoch s.moments mark
    → Passed n (mark ∷ s.moments) t.moments → is_seizing b.phase ≡ true → is_seizing a.phase ≡ true → gets_task (setting_of h) n s.moments mark ≡ false
seizing_none h s t n later x y a b mark f g still m passed seizing seized = same_mark S n a.plan.epoch s.moments mark m (λ shut none d is. had d (closed_so S n (mark ∷ s.moments) (ap is_some m.member ∙ none) shut) is)
  where
    S : Setting
    S = setting_of h

    tasks_there : told.tasks_of S n t.moments ≡ told.tasks_of S n (mark ∷ s.moments)
    tasks_there = ap (told.tasks_of S n) passed.parts ∙ same_tasks S n (mark ∷ s.moments) passed.newer passed.quiet

    had : (d : ℕ) → lasts_open S n (mark ∷ s.moments) ≡ false → told.has_task d (told.tasks_of S n (mark ∷ s.moments)) ≡ true → told.has_task d (told.tasks_of S n s.moments) ≡ true
    had d shut is =
        let there : lasts_open S n t.moments ≡ false = ap (lasts_open S n) passed.parts ∙ stays_closed S n a.plan.epoch (mark ∷ s.moments) passed.newer f.so.own m.attempt passed.quiet shut in
        let here : lasts_open S n s.moments ≡ false = closed_before S n s.moments mark m.calm shut in
        let now : among d (map (λ (e : Seizing). e.attached.device) (filter (λ (e : Seizing). has e.asked b.plan.coordinator) b.devices)) ≡ true =
        ap (among d) (sym (g.own.devices seizing) ∙ (same_devices y.tasks (told.tasks_of S n t.moments) (g.same seizing there) ∙ ap devices_of tasks_there)) ∙ (sym (task_among d (told.tasks_of S n (mark ∷ s.moments))) ∙ is) in
        task_among d (told.tasks_of S n s.moments) ∙ (ap (among d) (sym (same_devices x.tasks (told.tasks_of S n s.moments) (f.same seized here)) ∙ f.own.devices seized)
        ∙ asked_before a.plan.coordinator d a.devices b.devices g.apart still.asked
        (subst (λ (p : Plan). among d (map (λ (e : Seizing). e.attached.device) (filter (λ (e : Seizing). has e.asked p.coordinator) b.devices)) ≡ true) still.plan now))

-- else it seizes nothing there: it lacks a Promise still, or has installed
quiet_phase : (h : Header) (s t : Scene) (n : ℕ) (x y : UpNode) (a b : AttemptState) (mark : Moment) (rest : List Moment) → Facts h s n x a → Facts h t n y b → b.plan ≡ a.plan → onto (mark ∷ rest) s.moments ≡ t.moments
    → acts_for n a.plan.epoch (mark ∷ s.moments) ≡ acts_for n a.plan.epoch s.moments → b.phase ≡ a.phase → (p : Phase) → b.phase ≡ p → is_seizing p ≡ false
    → (acts_for n a.plan.epoch (mark ∷ s.moments) && is_under_way a.plan.epoch (mark ∷ s.moments) && told.all_promised a.plan.epoch (mark ∷ s.moments)) ≡ false
quiet_phase h s t n x y a b mark rest f g plan is acts phase Collecting at off =
    let e : ℕ = a.plan.epoch in
    let none : list_any (is_attempt e) (mark ∷ rest) ≡ false = none_again e (mark ∷ rest) s.moments (subst AttemptsDiffer (sym is) g.once) f.so.of.0 in
    let lacks : told.all_promised e (onto (mark ∷ rest) s.moments) ≡ false = ap (told.all_promised e) is ∙ (ap (λ (p : Plan). told.all_promised p.epoch t.moments) (sym plan) ∙ (g.promised ∙ ap has_gathered at)) in
    off_second (acts_for n e (mark ∷ s.moments) && is_under_way e (mark ∷ s.moments)) (told.all_promised e (mark ∷ s.moments)) (lacks_earlier e rest (mark ∷ s.moments) (second (is_attempt e mark) (list_any (is_attempt e) rest) none) lacks)
  where
    second : (u v : Bool) → (u || v) ≡ false → v ≡ false
    second true v k = absurd (false_true (sym k))
    second false v k = k
quiet_phase h s t n x y a b mark rest f g plan is acts phase Installing at off =
    let e : ℕ = a.plan.epoch in
    off_first (acts_for n e (mark ∷ s.moments) && is_under_way e (mark ∷ s.moments)) (told.all_promised e (mark ∷ s.moments))
    (off_first (acts_for n e (mark ∷ s.moments)) (is_under_way e (mark ∷ s.moments)) (acts ∙ (f.acts ∙ ap (λ p. not (is_installing p)) (sym phase ∙ at))))
quiet_phase h s t n x y a b mark rest f g plan is acts phase Choosing at off = absurd (false_true (sym g.rests ∙ ap is_choosing at))
quiet_phase h s t n x y a b mark rest f g plan is acts phase Over at off = absurd (false_true (sym g.live ∙ ap is_over at))
quiet_phase h s t n x y a b mark rest f g plan is acts phase SeizingVotes at off = absurd (false_true (sym off))
quiet_phase h s t n x y a b mark rest f g plan is acts phase SeizingOthers at off = absurd (false_true (sym off))

pub going_none : (h : Header) (s t : Scene) (n later : ℕ) (x y : UpNode) (a b : AttemptState) (mark : Moment) (rest : List Moment) → Facts h s n x a → Facts h t n y b → Still later a b → Mark (setting_of h) n a.plan.epoch s.moments mark
    → onto (mark ∷ rest) s.moments ≡ t.moments → acts_for n a.plan.epoch (mark ∷ s.moments) ≡ acts_for n a.plan.epoch s.moments → (is_seizing b.phase ≡ true → Passed n (mark ∷ s.moments) t.moments)
    → gets_task (setting_of h) n s.moments mark ≡ false
going_none h s t n later x y a b mark rest f g still m is acts passed = by_phase (is_seizing b.phase) refl
  where
    phase : b.phase ≡ a.phase
    phase = same_phase later a b still g.live

    by_phase : (c : Bool) → is_seizing b.phase ≡ c → gets_task (setting_of h) n s.moments mark ≡ false
    by_phase true seizing = seizing_none h s t n later x y a b mark f g still m (passed seizing) seizing (ap is_seizing (sym phase) ∙ seizing)
    by_phase false off = idle_mark (setting_of h) n a.plan.epoch s.moments mark m (quiet_phase h s t n x y a b mark rest f g still.plan is acts phase b.phase refl off)

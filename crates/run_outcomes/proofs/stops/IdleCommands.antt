-- In each run an attempt that installs or starts with the answer to its coordinator's command leaves it no work by the lines, where a coordinator that seizes devices has its tasks.
use Rattle.std.specs.Prelude.{ℕ, ◌-◌, ◌≡◌, ◌≢◌, ◌<◌, ◌==◌, nat_lt, Bool, true, false, List, [], ◌∷◌, length, map, Option, None, Some, is_some, slice_get, if◌then◌else◌}
use Rattle.std.specs.List.{AllByRecursion}
use Rattle.std.proofs.Common.{refl, sym, ap, subst, ◌∙◌}
use Rattle.attempt_laws.specs.Staying.{IsBefore}
use Rattle.cl_base.specs.Seizings.{SeizeResult}
use Rattle.cmm_attempt.proofs.Basics.{false_true}
use Rattle.cmm_attempt.specs.Attempts.{AttemptState}
use Rattle.cmm_attempt.specs.Calls.{Own_seized, turn}
use Rattle.cmm_attempt.specs.declared.phase.Phase.{Phase}
use Rattle.cmm_attempt.specs.declared.phase.Phase.TheVariants.{Choosing, Collecting, Installing, Over, SeizingOthers, SeizingVotes}
use Rattle.cmm_attempt.specs.declared.plan.Plan.{Plan}
use Rattle.cmm_attempt.specs.declared.step.Step.{Step}
use Rattle.device_queue.specs.Queue.{after_answer, due_device, next_of}
use Rattle.history.specs.Member.{attempt_of, member_of, members_of}
use Rattle.history.specs.Moment.{Moment}
use Rattle.history.specs.Queue as told
use Rattle.history.specs.Setting.{Setting, nodes_of}
use Rattle.history.specs.Trace.{installed, saved}
use Rattle.history.specs.Validated.{moved_on}
use Rattle.history_setting.specs.Settings.{setting_of}
use Rattle.node_model.specs.Attempts.{is_choosing}
use Rattle.node_model.specs.Devices.{answer_told}
use Rattle.node_model.specs.Seats.{coordinator_of, installed_of, session_of}
use Rattle.node_model.specs.Steps.{at_second}
use Rattle.node_model.specs.declared.cluster.Cluster.{Cluster}
use Rattle.node_model.specs.declared.node.Node.TheVariants.{Up}
use Rattle.node_model.specs.declared.node.UpNode.{UpNode}
use Rattle.pgr_device.specs.declared.command.PrCommand.{PrCommand}
use Rattle.refinement.proofs.Attempts.{install_epoch}
use Rattle.refinement.specs.Courses.{under}
use Rattle.refinement.specs.Cuts.{answered_course, progress_course}
use Rattle.refinement.specs.Doings.{answered_so, site}
use Rattle.refinement.specs.Guards.{OfUp}
use Rattle.seize.specs.Answers.{Answer}
use Rattle.status_report.specs.declared.device_entry.DeviceEntry.TheVariants as device_entry
use Rattle.status_report.specs.declared.entry.Entry.TheVariants as entry
use Rattle.wire.specs.declared.message.Install.{Install}
use Rattle.world_model.specs.First.{first_cluster}
use Rattle.run_history.specs.Happenings.{all_happened, commanded}
use Rattle.run_history.specs.Scenes.{Scene, first_scene, telling}
use Rattle.run_messages.proofs.Reaching.{IsSmall}
use Rattle.run_seizings.specs.Seized.{has_installed}
use Rattle.run_devices.proofs.queues.Acts.{due_writes, line_of}
use Rattle.run_devices.proofs.queues.Alone.{lines_of}
use Rattle.run_devices.proofs.queues.Runs.{Comes_to}
use Rattle.run_devices.specs.queues.Kept as queues
use Rattle.run_devices.specs.queues.Kept.{NodeSo}
use Rattle.run_devices.specs.queues.Laws.{queued}
use Rattle.run_devices.specs.validity.Kept as validity
use Rattle.run_outcomes.specs.phases.Kept.{In}
use Rattle.run_outcomes.specs.phases.Laws.{HasAttempt, is_seizing}
use Rattle.run_outcomes.specs.saves.Kept.{IsAt, Rests as RestsAt, RestsIn}
use Rattle.run_outcomes.specs.stops.Idle.{AllIdle, IsIdle}
use Rattle.run_outcomes.specs.stops.Inside.{CommandsAreIdle}
use Rattle.run_outcomes.specs.tasks.Entries.{EntriesIn}
use Rattle.run_outcomes.specs.tasks.Lasting.{lasts_open}
use Rattle.run_outcomes.specs.tasks.Laws.{OfEachLeft}
use Rattle.run_outcomes.specs.tasks.Own.{Owned, Owns}
use Rattle.run_outcomes.proofs.members.Queues.{closed_so}
use Rattle.run_outcomes.proofs.outward.Comes.{comes_to, up_kept}
use Rattle.run_outcomes.proofs.own_record.Runs.{held_at}
use Rattle.run_outcomes.proofs.own_shown.Shown.{own_is_shown}
use Rattle.run_outcomes.proofs.own_tasks.Grounds.{Ground, ground_at}
use Rattle.run_outcomes.proofs.own_tasks.Moving.{moved_ends}
use Rattle.run_outcomes.proofs.own_tasks.Runs.{own_tasks_are_asked, own_tasks_at, run_owned}
use Rattle.run_outcomes.proofs.saves.Kept.{run_kept}
use Rattle.run_outcomes.proofs.shown.Told.{shows_are_told}
use Rattle.run_outcomes.proofs.stops.Alone.{alone_idle}
use Rattle.run_outcomes.proofs.stops.Complete.{AllAsked, both_asked, votes_asked}
use Rattle.run_outcomes.proofs.stops.DiskSteps.{commanded_moments}
use Rattle.run_outcomes.proofs.stops.EndLine.{Ends, end_line}
use Rattle.run_outcomes.proofs.stops.LastSeizing.{none_queued}
use Rattle.run_outcomes.proofs.stops.SeizedCourse.{Rests, seized_idle}
use Rattle.run_outcomes.proofs.stops.Settles.{AreAlone, Settles, none_ready, ready_alone}
use Rattle.run_outcomes.proofs.stops.Starting.{still_told}
use Rattle.run_outcomes.proofs.told_tasks.Points.{Shown_at, shown_at}
use Rattle.run_outcomes.proofs.told_tasks.Queues.{SeizersHave}
use Rattle.run_outcomes.proofs.told_tasks.Walked.{reached_entries}

-- ---- what the attempt asks for

seizes_before : (p : Phase) → is_seizing p ≡ true → IsBefore p
seizes_before SeizingVotes is = tt
seizes_before SeizingOthers is = tt
seizes_before Collecting is = absurd (false_true is)
seizes_before Choosing is = absurd (false_true is)
seizes_before Installing is = absurd (false_true is)
seizes_before Over is = absurd (false_true is)

all_asked : (S : Setting) (n d : ℕ) (r : SeizeResult) (a b : AttemptState) (i : Install) (rest : List Step) (ms : List Moment) (z : Shown_at S n a ms) → Settles d r a b i rest → AllAsked a.plan a.promises z.both a.devices
all_asked S n d r a b i rest ms z k =
    by_phase a.phase refl k.seizing (subst (λ g. EntriesIn a.plan a.promises g a.devices a.phase) z.given (reached_entries a z.reached z.shows.led).0)
  where
    by_phase : (p : Phase) → a.phase ≡ p → is_seizing p ≡ true → EntriesIn a.plan a.promises (Some z.both) a.devices p → AllAsked a.plan a.promises z.both a.devices
    by_phase SeizingVotes at is h = votes_asked d r a z.both z.shows.led h (k.left at)
    by_phase SeizingOthers at is h = both_asked a.plan a.promises z.both a.devices h
    by_phase Collecting at is h = absurd (false_true is)
    by_phase Choosing at is h = absurd (false_true is)
    by_phase Installing at is h = absurd (false_true is)
    by_phase Over at is h = absurd (false_true is)

-- ---- the law

pub commands_are_idle_from : OfEachLeft (λ h s. SeizersHave h s) → CommandsAreIdle
commands_are_idle_from seizers h cells hs last nodes few small disks may shaped native boots left n d now q ends x a due up has e r is replies v =
    (tt, by_task (due_device x.tasks) (next_of x.tasks) refl)
  where
    S : Setting
    S = setting_of h

    c : Cluster
    c = first_cluster h

    s : Scene
    s = all_happened c (first_scene h cells) hs

    t : Scene
    t = record (commanded s n d q).scene { nodes = v }

    b : Answer
    b = (commanded s n d q).answer

    y : UpNode
    y = at_second now x

    after : AttemptState
    after = (turn a (Own_seized e r)).after

    size : IsSmall h
    size = record { few = few; small = small }

    g : Ground h s n x a
    g = ground_at h cells s n x a size (record { happenings = hs; may = may; is = refl }) up has

    it : HasAttempt s n a
    it = subst (OfUp (λ z. z.attempt ≡ Some a)) (sym up) has

    own : Owns n x.tasks a
    own = subst (In (Owns n x.tasks)) has (subst (IsAt (Owned n)) up (run_owned h cells hs size may n))

    rests : is_choosing a.phase ≡ false
    rests = subst RestsIn has (subst (IsAt RestsAt) up ((run_kept h cells hs few small may).rests n))

    k : Comes_to (lines_of S) cells s last.wants
    k = comes_to S cells hs last few small disks may shaped

    -- it has installed nothing since it began
    moved : is_seizing a.phase ≡ true → moved_on n s.moments ≡ true
    moved seizing = (moves.moved some).moved fresh
      where
        some : 0 < session_of x
        some = subst (λ p. 0 < p) g.so.epoch g.so.some

        moves : validity.UpSo s.moments n x
        moves = subst (validity.UpIn s.moments n) up (up_kept h s n last.wants k.valid.so)

        queue : queues.UpSo (lines_of S) s.moments n None x
        queue = subst (NodeSo (lines_of S) s.moments n None) up (k.so n)

        fresh : installed_of x ≢ session_of x
        fresh same = false_true (sym (g.so.before (seizes_before a.phase seizing)) ∙ (ap (λ p. has_installed n p s.moments) g.so.epoch ∙ queue.done some same))

    ends_so : (i : Install) (rest : List Step) → Settles e r a after i rest → lasts_open S n s.moments ≡ false → Ends S n x a b s.moments
    ends_so i rest z closed =
        let shown : Shown_at S n a s.moments = shown_at own_tasks_are_asked shows_are_told own_is_shown h cells hs last few small disks may shaped native n a it z.seizing s.moments [] refl tt closed in
        record {
          shown = shown;
          last = g.so.last;
          same = seizers h cells hs last nodes few small disks may shaped native boots left n x a shown.both up has z.seizing shown.given closed;
          devices = (own_tasks_at h cells hs size may n x a up has).devices z.seizing;
          emptied = none_queued a.plan.coordinator e r a.promises a.devices (after_answer x.tasks b)
              (moved_ends a.plan.coordinator a.promises a.devices x.tasks b e r g.ordered.apart (own.seizes z.seizing g.ordered) is) z.all;
          asked = all_asked S n e r a after i rest s.moments shown z;
          moved = moved z.seizing;
        }

    line_so : (at : ℕ) (p : PrCommand) → told.is_write p ≡ false → (i : Install) (rest : List Step) → Settles e r a after i rest → IsIdle S n (line_of n at p b ∷ s.moments)
    line_so at p off i rest z = λ shut.
        let before : told.queue_is_open S n s.moments ≡ false =
        still_told (told.is_untold S n (attempt_of n (line_of n at p b ∷ s.moments)) (line_of n at p b ∷ s.moments)) (told.queue_is_open S n s.moments) shut in
        by_member (is_some (member_of n s.moments)) refl before
      where
        by_member : (m : Bool) → is_some (member_of n s.moments) ≡ m → told.queue_is_open S n s.moments ≡ false → told.has_work S n (line_of n at p b ∷ s.moments) ≡ false
        by_member true one before = ap (λ m. nat_lt 0 (length (map (λ (u : told.Task). u.device) (if m then [] else queued (told.tasks_of S n (line_of n at p b ∷ s.moments)))))) one
        by_member false none before = end_line S n at p b x a s.moments off (ends_so i rest z (closed_so S n s.moments none before))

    -- by its lines it has no other members either
    alone_so : (at : ℕ) (p : PrCommand) (i : Install) (rest : List Step) → Settles e r a after i rest → AreAlone after.plan → IsIdle S n (installed n i.epoch ∷ saved n ∷ line_of n at p b ∷ s.moments)
    alone_so at p i rest z alone = λ shut. alone_idle S n i.epoch (saved n ∷ line_of n at p b ∷ s.moments) (subst (AllByRecursion (λ m. (m == n) ≡ true)) members here)
      where
        here : AllByRecursion (λ m. (m == n) ≡ true) a.plan.nodes
        here = subst (λ j. AllByRecursion (λ m. (m == j) ≡ true) a.plan.nodes) g.coordinator (subst (λ (plan : Plan). AllByRecursion (λ m. (m == plan.coordinator) ≡ true) plan.nodes) z.plan alone)

        number : i.epoch ≡ a.plan.epoch
        number = ap (λ (j : Install). j.epoch) z.install ∙ (install_epoch after ∙ ap (λ (plan : Plan). plan.epoch) z.plan)

        members : a.plan.nodes ≡ nodes_of (members_of i.epoch s.moments)
        members = (g.attempt 0).nodes ∙ (ap nodes_of (sym g.so.of.1) ∙ ap (λ j. nodes_of (members_of j s.moments)) (sym number))

    none_readied : is_seizing a.phase ≡ true → a.readies ≡ []
    none_readied seizing = none_ready a (held_at h cells hs size may n x a up has).0 (seizes_before a.phase seizing)

    same : s.moments ≡ t.moments
    same = commanded_moments s n d (slice_get s.devices (d - 1)) q

    rests_so : (at : ℕ) (p : PrCommand) → told.is_write p ≡ false → (i : Install) (rest : List Step) → Settles e r a after i rest
        → Rests S n after i (telling (entry.Device (device_entry.Command n at p (answer_told b))) t)
    rests_so at p off i rest z = record {
      line = subst (λ ms. IsIdle S n (line_of n at p b ∷ ms)) same (line_so at p off i rest z);
      alone = λ ready. subst (λ ms. IsIdle S n (installed n i.epoch ∷ saved n ∷ line_of n at p b ∷ ms)) same (alone_so at p i rest z (ready_alone after (z.readies ∙ none_readied z.seizing) ready));
    }

    by_task : (o : Option ℕ) (p : Option PrCommand) → next_of x.tasks ≡ p → AllIdle S c n (site (Up y) (s.nodes.disk n).kept) (under replies (answered_course c n y b o p)) t
    by_task None p at = tt
    by_task (Some on) None at = tt
    by_task (Some on) (Some p) at =
        subst (λ z. AllIdle S c n (site (Up y) (s.nodes.disk n).kept) (under replies (progress_course c n y on p b z)) t) (sym is) (
          tt,
          seized_idle S c n (answered_so y b) (s.nodes.disk n).kept a e r (coordinator_of (answered_so y b)) replies (telling (entry.Device (device_entry.Command n on p (answer_told b))) t) has rests none_readied
              (rests_so on p (due_writes x.tasks p at)),
        )

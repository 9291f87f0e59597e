-- In each run what is to be known of a coordinator whose attempt takes a call is so.
use Rattle.std.specs.Prelude.{ℕ, ◌≡◌, ◌⊎◌, true, false, List, [], None, Some}
use Rattle.std.specs.Option.{option_and_then}
use Rattle.std.proofs.Common.{refl, sym, ap, subst, ◌∙◌, inl, inr}
use Rattle.attempt_laws.proofs.Stays.{plan_stays}
use Rattle.attempt_laws.specs.Asking.{entry_of}
use Rattle.cmm_attempt.proofs.Basics.{false_true, same_some}
use Rattle.cmm_attempt.specs.Attempts.{AttemptState}
use Rattle.cmm_attempt.specs.Calls.{Call, May, With_votes, turn}
use Rattle.cmm_attempt.specs.declared.counting.BothVotes.{BothVotes}
use Rattle.cmm_attempt.specs.declared.phase.Phase.{Phase}
use Rattle.cmm_attempt.specs.declared.phase.Phase.TheVariants.{Choosing, Collecting, Installing, Over, SeizingOthers, SeizingVotes}
use Rattle.cmm_attempt.specs.declared.plan.Plan.{Plan}
use Rattle.device_queue.specs.declared.task.Task.{Task}
use Rattle.history.specs.Queue as told
use Rattle.history.specs.Setting.{Setting, coordinator}
use Rattle.history_setting.specs.Settings.{setting_of}
use Rattle.node_model.specs.Attempts.{is_choosing}
use Rattle.node_model.specs.Seats.{record_of}
use Rattle.refinement.specs.Guards.{OfUp}
use Rattle.run_devices.specs.queues.Laws.{Same}
use Rattle.run_history.specs.Happenings.{all_happened}
use Rattle.run_history.specs.Scenes.{Scene, first_scene}
use Rattle.run_messages.proofs.Reaching.{IsSmall}
use Rattle.world_model.specs.First.{first_cluster}
use Rattle.run_outcomes.specs.phases.Laws.{HasAttempt, NewestCounts, is_seizing}
use Rattle.run_outcomes.specs.saves.Kept.{IsAt, Rests, RestsIn}
use Rattle.run_outcomes.specs.tasks.Entries.{EntriesSo}
use Rattle.run_outcomes.specs.tasks.Laws.{AsksTold, other_seizer}
use Rattle.run_outcomes.specs.tasks.Own.{IsEarly}
use Rattle.run_outcomes.proofs.asks.Runs.{asks_are_told}
use Rattle.run_outcomes.proofs.onward.Befores.{seized_before}
use Rattle.run_outcomes.proofs.outward.Collectors.{collectors_have_none}
use Rattle.run_outcomes.proofs.own_record.Runs.{held_at}
use Rattle.run_outcomes.proofs.own_record.Steps.{RecordSo, called_so}
use Rattle.run_outcomes.proofs.own_steps.Early.{early_bare, early_before}
use Rattle.run_outcomes.proofs.own_steps.Steps.{Follows, StepsAreSo}
use Rattle.run_outcomes.proofs.own_tasks.Grounds.{Ground, ground_at}
use Rattle.run_outcomes.proofs.own_tasks.Runs.{owned_at}
use Rattle.run_outcomes.proofs.phases.Leading.{is_choice}
use Rattle.run_outcomes.proofs.phases.Votes.{votes_are_told}
use Rattle.run_outcomes.proofs.saves.Kept.{run_kept}
use Rattle.run_outcomes.proofs.told_tasks.Walked.{reached_entries}

same_none : (xs : List Task) (us : List told.Task) → xs ≡ [] → us ≡ [] → Same xs us
same_none xs us one other = subst (λ z. Same z us) (sym one) (subst (Same []) (sym other) tt)

-- ---- what the attempt was before

-- votes are given to an attempt that waits for them
no_votes : (a : AttemptState) (k : Call) → May a k → is_choosing a.phase ≡ false → (v : BothVotes) → k ≡ With_votes v → ⊥
no_votes a k may rests v is = false_true (sym rests ∙ ap is_choosing (subst (May a) is may))

-- it seized devices, or did not yet
was_so : (a b : AttemptState) (k : Call) → Follows a k b → is_choosing a.phase ≡ false → is_seizing b.phase ≡ true → (is_seizing a.phase ≡ true) ⊎ IsEarly a.phase
was_so a b k (may, inl is) rests seizing = inl (seized_before a k (no_votes a k may rests) (subst (λ (z : AttemptState). is_seizing z.phase ≡ true) is seizing))
was_so a b k (may, inr (v, chooses, is)) rests seizing = inr (early_before a k may chooses)

-- it has the same plan, and its record holds the same
goes_so : (valid : ℕ) (a b : AttemptState) (k : Call) → Follows a k b → RecordSo valid a → RecordSo valid b × (b.plan ≡ a.plan)
goes_so valid a b k (may, inl is) h = subst (λ (z : AttemptState). RecordSo valid z × (z.plan ≡ a.plan)) (sym is) (called_so valid a k may h, plan_stays a k may)
goes_so valid a b k (may, inr (v, chooses, is)) h =
    let t : AttemptState = (turn a k).after in
    let given : May t (With_votes v) = is_choice t.phase chooses in
    subst (λ (z : AttemptState). RecordSo valid z × (z.plan ≡ a.plan)) (sym is) (called_so valid t (With_votes v) given (called_so valid a k may h), plan_stays t (With_votes v) given ∙ plan_stays a k may)

-- ---- the law

pub steps_are_so : StepsAreSo
steps_are_so h cells hs last nodes few small disks may shaped native boots left had n w a b both k up has closed follows seizing given = record {
  seizing = seizing;
  given = given;
  reached = goes.0.0;
  cluster = refl;
  last = g.so.last ∙ ap (λ (p : Plan). Some p.epoch) (sym goes.1);
  holds = goes.0.1.1;
  same = same_by (was_so a b k follows rests seizing);
  own = λ z is. subst (λ (y : AttemptState). (coordinator y.plan.epoch ≡ n) × (y.plan.coordinator ≡ n)) (it_is z is) (g.so.own, g.coordinator);
  so = λ z is seizes. subst (λ (y : AttemptState). EntriesSo y × AsksTold y s.moments) (it_is z is) (reached_entries a so.0, asks);
  none = λ z is chooses.
      subst (λ (y : AttemptState). is_choosing (turn y k).after.phase ≡ true → (d : ℕ) → told.asked_last y.plan.epoch d s.moments ≡ None) (it_is z is)
      (λ early d.
      asks.last d ∙ ap (λ es. option_and_then (other_seizer a) (entry_of es d)) (early_bare a so.0 (early_before a k follows.0 early))) chooses;
}
  where
    S : Setting
    S = setting_of h

    s : Scene
    s = all_happened (first_cluster h) (first_scene h cells) hs

    size : IsSmall h
    size = record { few = few; small = small }

    it : HasAttempt s n a
    it = subst (OfUp (λ y. y.attempt ≡ Some a)) (sym up) has

    g : Ground h s n w a
    g = ground_at h cells s n w a size (record { happenings = hs; may = may; is = refl }) up has

    so : RecordSo (record_of w).valid a
    so = held_at h cells hs size may n w a up has

    goes : RecordSo (record_of w).valid b × (b.plan ≡ a.plan)
    goes = goes_so (record_of w).valid a b k follows so

    rests : is_choosing a.phase ≡ false
    rests = subst RestsIn has (subst (IsAt Rests) up ((run_kept h cells hs few small may).rests n))

    asks : AsksTold a s.moments
    asks = asks_are_told h cells hs last few small disks may shaped native left n a it

    it_is : (z : AttemptState) → w.attempt ≡ Some z → a ≡ z
    it_is z is = same_some a z (sym has ∙ is)

    -- it seizes devices
    seized : is_seizing a.phase ≡ true → Same w.tasks (told.tasks_of S n s.moments)
    seized is = let counts : NewestCounts S a s.moments = votes_are_told h cells hs few small may n a it is in had n w a counts.both up has is counts.given closed

    -- it collects
    same_early : (p : Phase) → a.phase ≡ p → IsEarly p → Same w.tasks (told.tasks_of S n s.moments)
    same_early Collecting is early =
        same_none w.tasks (told.tasks_of S n s.moments) ((owned_at h cells hs size may n w a up has).idle (subst IsEarly (sym is) tt)) (collectors_have_none h cells hs last few small disks may shaped native n w a up has is)
    same_early Choosing is early = absurd (false_true (sym rests ∙ ap is_choosing is))
    same_early SeizingVotes is early = absurd early
    same_early SeizingOthers is early = absurd early
    same_early Installing is early = absurd early
    same_early Over is early = absurd early

    same_by : (is_seizing a.phase ≡ true) ⊎ IsEarly a.phase → Same w.tasks (told.tasks_of S n s.moments)
    same_by (inl seizes) = seized seizes
    same_by (inr early) = same_early a.phase refl early

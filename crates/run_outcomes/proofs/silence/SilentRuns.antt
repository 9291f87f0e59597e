-- An attempt ends for want of an answer where the lines show that it does.
use Rattle.std.specs.Prelude.{ℕ, ◌^◌, ◌++◌, ◌≡◌, ◌≤◌, ◌<◌, true, false, List, [], ◌∷◌, Some, find, length}
use Rattle.std.specs.List.{AllByRecursion}
use Rattle.std.proofs.Common.{refl, sym, subst, ◌∙◌}
use Rattle.cl_base.specs.Limits.{most_devices}
use Rattle.cl_base.specs.declared.header.Header.{Header}
use Rattle.cmm_attempt.specs.Attempts.{AttemptState, is_missing}
use Rattle.history.specs.Attempts.{first_missing, is_silent, may_be_silent, phase_tick}
use Rattle.history.specs.Moment.{Moment}
use Rattle.history.specs.Order.{Always}
use Rattle.history.specs.Queue.{queue_is_open}
use Rattle.history.specs.Setting.{Setting, coordinator}
use Rattle.history.specs.Trace.{ended_silent}
use Rattle.history_setting.specs.Settings.{setting_of}
use Rattle.node_model.specs.declared.cluster.Cluster.{Cluster}
use Rattle.run_history.specs.Happenings.{Happening, MayAllHappen, MayHappen, all_happened, happened}
use Rattle.run_history.specs.Scenes.{Scene, first_scene}
use Rattle.run_history.specs.Shapes.{nothing}
use Rattle.run_lines.proofs.Adds.{onto}
use Rattle.run_packets.specs.native.Laws.{BootsInHeader}
use Rattle.run_packets.specs.views.Laws.{NoneForeign}
use Rattle.world_model.specs.First.{first_cluster}
use Rattle.run_outcomes.specs.phases.Laws.{HasAttempt}
use Rattle.run_outcomes.specs.silence.Beats.{AllBehind, Behind, EndBehind, StepBehind}
use Rattle.run_outcomes.specs.silence.Laws.{AwaitedAreTold, EndsSilentSo, FirstIsTold, OthersAreTold, SilentsAreCaused}
use Rattle.run_outcomes.specs.silence.Ticks.{AskedAreMembers, TicksTold}
use Rattle.run_outcomes.specs.tasks.Laws.{QueuesAreTold}
use Rattle.run_outcomes.specs.tasks.AsksGiven.{IsLeft}
use Rattle.run_outcomes.proofs.asks.Lines.{left_before}
use Rattle.run_outcomes.proofs.others.Ends.{all_before}
use Rattle.run_outcomes.proofs.own_steps.Steps.{OfEachStep}
use Rattle.run_outcomes.proofs.own_steps.Walk.{of_each_left}
use Rattle.run_outcomes.proofs.rounds_told.Numbers.{happened_next}
use Rattle.run_history.proofs.MemberRuns.{first_fit}
use Rattle.run_outcomes.specs.saves.Kept.{IsAt, Rests, RestsIn}
use Rattle.run_outcomes.proofs.phases.LiveRuns.{none_is_over}
use Rattle.run_outcomes.proofs.phases.Runs.{Knows, knows_at, none_at, ways_at}
use Rattle.run_outcomes.proofs.saves.Kept.{run_kept}
use Rattle.run_outcomes.proofs.exclusions.InstalledOnce.{installed_once}
use Rattle.run_outcomes.proofs.seized.Runs.{seizeds_are_told}
use Rattle.run_outcomes.proofs.silence.BeatLines.{silent_behind}
use Rattle.run_outcomes.proofs.silence.Every.{awaited_are_told}
use Rattle.run_outcomes.proofs.silence.First.{first_is_told, others_are_told}
use Rattle.run_outcomes.proofs.silence.OwnMissing.{own_part_told}
use Rattle.run_outcomes.proofs.silence.SilentSteps.{Ready, happening_step}
use Rattle.run_outcomes.proofs.silence.TickRuns.{ticks_are_told}
use Rattle.run_outcomes.proofs.silence.TickSteps.{TasksBegin}
use Rattle.run_outcomes.proofs.told_tasks.Prefixes.{ShapedBefore, happened_last, may_before, native_before, shaped_before}

-- Of each step: an attempt that ends in it for want of an answer has waited for seven ticks before it, and only a tick and beats are told before that.
abbrev pub EndsBehindBeats : Type 0
EndsBehindBeats = OfEachStep (λ h s x t. StepBehind s t)

-- ---- line by line

-- what is known before a step
record Before (h : Header) (s : Scene) : Type 0 where
  ticks : (n : ℕ) (a : AttemptState) → HasAttempt s n a → a.ticks ≤ phase_tick (setting_of h) a.plan.epoch s.moments
  first : (n : ℕ) (a : AttemptState) → HasAttempt s n a → queue_is_open (setting_of h) n s.moments ≡ false → first_missing (setting_of h) a.plan.epoch s.moments ≡ find (is_missing a) a.plan.nodes
  others : (n : ℕ) (a : AttemptState) → HasAttempt s n a → (m : ℕ) → find (is_missing a) a.plan.nodes ≡ Some m → may_be_silent (setting_of h) a.plan.epoch m s.moments ≡ true

behind_so : (h : Header) (s : Scene) (e m : ℕ) (older : List Moment) → Before h s → Behind s e m older → is_silent (setting_of h) e m (onto older s.moments) ≡ true
behind_so h s e m older k b =
    let a : AttemptState = b.attempt in
    let S : Setting = setting_of h in
    subst (λ xs. is_silent S e m (onto xs s.moments) ≡ true) (sym b.begins)
    (silent_behind S e m a.ticks b.beats s.moments b.are b.late (subst (λ i. a.ticks ≤ phase_tick S i s.moments) b.number (k.ticks (coordinator e) a b.has))
    (λ untold. subst (λ i. may_be_silent S i m s.moments ≡ true) b.number (k.others (coordinator e) a b.has m b.least))
    (λ shut. subst (λ i. first_missing S i s.moments ≡ Some m) b.number (k.first (coordinator e) a b.has shut ∙ b.least)))

onto_both : (xs ys before : List Moment) → onto (xs ++ ys) before ≡ onto ys (onto xs before)
onto_both [] ys before = refl
onto_both (x ∷ xs) ys before = onto_both xs ys (x ∷ before)

line_so : (h : Header) (s : Scene) (x : Moment) (older : List Moment) → Before h s → EndBehind s older x → EndsSilentSo (setting_of h) (onto older s.moments) x
line_so h s (ended_silent e m) older k b = behind_so h s e m older k b
line_so h s _ older k b = tt

lines_so : (h : Header) (s : Scene) (newer older : List Moment) → Before h s → AllBehind s older newer → Always (EndsSilentSo (setting_of h)) (onto older s.moments) → Always (EndsSilentSo (setting_of h)) (onto newer (onto older s.moments))
lines_so h s [] older k b all = all
lines_so h s (x ∷ newer) older k b all =
    subst (λ ms. Always (EndsSilentSo (setting_of h)) (onto newer ms)) (onto_both older (x ∷ []) s.moments)
    (lines_so h s newer (older ++ x ∷ []) k b.1 (subst (Always (EndsSilentSo (setting_of h))) (sym (onto_both older (x ∷ []) s.moments)) (line_so h s x older k b.0, all)))

-- ---- runs

step_silent : TicksTold → FirstIsTold → OthersAreTold → EndsBehindBeats → OfEachStep (λ h s x t. Always (EndsSilentSo (setting_of h)) s.moments → Always (EndsSilentSo (setting_of h)) t.moments)
step_silent ticks first others behind h cells hs x last nodes few small disks may shaped native boots left kept =
    let c : Cluster = first_cluster h in
    let s : Scene = all_happened c (first_scene h cells) hs in
    let t : Scene = all_happened c (first_scene h cells) (hs ++ x ∷ []) in
    let is : t ≡ happened c s x = happened_last c (first_scene h cells) hs x in
    let before : ShapedBefore c (first_scene h cells) nothing hs = shaped_before c (first_scene h cells) nothing last hs (x ∷ []) shaped in
    let there : IsLeft (happened c s x).links.next = subst (λ (z : Scene). IsLeft z.links.next) is left in
    let may_s : MayAllHappen c (first_scene h cells) hs = may_before c (first_scene h cells) hs (x ∷ []) may in
    let native_s : NoneForeign c (first_scene h cells) hs = native_before c (first_scene h cells) hs (x ∷ []) native in
    let boots_s : AllByRecursion (BootsInHeader h) hs = all_before (BootsInHeader h) hs (x ∷ []) boots in
    let left_s : IsLeft s.links.next = left_before s.links.next (happened c s x).links.next (happened_next c s x) there in
    let at_s : Before h s = record {
      ticks = λ n a at. ticks h cells hs before.last nodes few small disks may_s before.shaped native_s boots_s left_s n a at;
      first = λ n a at shut. first h cells hs before.last nodes few small disks may_s before.shaped native_s boots_s left_s n a at shut;
      others = λ n a at m least. others h cells hs before.last nodes few small disks may_s before.shaped native_s boots_s left_s n a at m least;
    } in
    let b : StepBehind s t = behind h cells hs x last nodes few small disks may shaped native boots left in
    subst (Always (EndsSilentSo (setting_of h))) b.is (lines_so h s b.newer [] at_s b.all kept)

first_silent : (h : Header) (cells : ℕ) → Always (EndsSilentSo (setting_of h)) (first_scene h cells).moments
unfolding first_scene
first_silent h cells = tt

-- ---- each step is so

pub may_last : (c : Cluster) (s : Scene) (xs : List Happening) (x : Happening) → MayAllHappen c s (xs ++ x ∷ []) → MayHappen c (all_happened c s xs) x
may_last c s [] x may = may.0
may_last c s (y ∷ ys) x may = may_last c (happened c s y) ys x may.1

pub ready_at : (h : Header) (cells : ℕ) (hs : List Happening) → length h.devices ≤ most_devices → h.cluster < 2 ^ 32 → MayAllHappen (first_cluster h) (first_scene h cells) hs → Ready (first_cluster h) (all_happened (first_cluster h) (first_scene h cells) hs)
ready_at h cells hs few small may =
    let c : Cluster = first_cluster h in
    let s : Scene = all_happened c (first_scene h cells) hs in
    let k : Knows c s = knows_at h cells s (record { few = few; small = small }) (record { happenings = hs; may = may; is = refl }) in
    record {
      known = k.known;
      devices = first_fit h few;
      alone = λ n x a up has. none_at c s n x a k up has;
      live = λ n a at. none_is_over h cells hs few small may n a at;
      rests = λ n x a up has. subst RestsIn has (subst (IsAt Rests) up ((run_kept h cells hs few small may).rests n));
      own = λ n x a up has. (ways_at c s k).own n x a up has;
    }

ends_behind_beats : EndsBehindBeats
ends_behind_beats h cells hs x last nodes few small disks may shaped native boots left =
    let c : Cluster = first_cluster h in
    let s : Scene = all_happened c (first_scene h cells) hs in
    subst (StepBehind s) (sym (happened_last c (first_scene h cells) hs x))
    (happening_step c s x (may_last c (first_scene h cells) hs x may) (ready_at h cells hs few small (may_before c (first_scene h cells) hs (x ∷ []) may)))

-- ---- the law

silents_are_caused : TicksTold → FirstIsTold → OthersAreTold → SilentsAreCaused
silents_are_caused ticks first others = of_each_left (λ h s. Always (EndsSilentSo (setting_of h)) s.moments) first_silent (step_silent ticks first others ends_behind_beats)

pub silents_are_caused_from : QueuesAreTold → AskedAreMembers → TasksBegin → SilentsAreCaused
silents_are_caused_from queues members tasks =
    let awaited : AwaitedAreTold = awaited_are_told seizeds_are_told in
    silents_are_caused (ticks_are_told members installed_once tasks) (first_is_told awaited (own_part_told queues)) (others_are_told awaited)

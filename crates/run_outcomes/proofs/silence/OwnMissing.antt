-- A coordinator's own part is missing exactly where a task of its own is queued.
use Rattle.std.specs.Prelude.{ℕ, ◌==◌, ◌&&◌, ◌||◌, ◌≡◌, not, nat_lt, suc, Bool, true, false, List, [], ◌∷◌, Option, None, Some, filter, length, map, is_none, is_some, if◌then◌else◌}
use Rattle.std.specs.List.{list_any}
use Rattle.std.proofs.Common.{arith, refl, sym, ap, subst, ◌∙◌, inl, inr}
use Rattle.cl_base.specs.Seizings.{SeizeResult}
use Rattle.cl_base.specs.declared.header.Header.{Header}
use Rattle.cl_base.specs.declared.seizing.SeizeEnd.TheVariants.{NotRegistered}
use Rattle.cmm_attempt.proofs.Basics.{false_true}
use Rattle.cmm_attempt.specs.Attempts.{AttemptState, has_readied, is_missing, is_missing_in, is_over}
use Rattle.cmm_attempt.specs.Promises.{has_promised}
use Rattle.cmm_attempt.specs.Seizings.{awaits_from, is_asked}
use Rattle.cmm_attempt.specs.declared.phase.Phase.{Phase}
use Rattle.cmm_attempt.specs.declared.phase.Phase.TheVariants.{Choosing, Collecting, Installing, Over, SeizingOthers, SeizingVotes}
use Rattle.cmm_attempt.specs.declared.promised.Promised.{Promised}
use Rattle.cmm_attempt.specs.declared.seizing.Seizing.{Seizing}
use Rattle.cmm_member.specs.Records.{NodeRecord}
use Rattle.device_queue.specs.Queue.{joins}
use Rattle.device_queue.specs.Tasks.{is_joining, is_over_in, is_queued, is_seizing as is_seizure, result_in}
use Rattle.device_queue.specs.declared.task.Task.{Task}
use Rattle.device_queue.specs.declared.task.Work.{Work}
use Rattle.device_queue.specs.declared.task.Work.TheVariants.{Joining as Joins, Seizing as Seizes}
use Rattle.history.specs.Queue as told
use Rattle.history_setting.specs.Settings.{setting_of}
use Rattle.membership_machine.specs.State.{Memberships}
use Rattle.node_model.specs.Seats.{state_of}
use Rattle.node_model.specs.declared.cluster.Cluster.{Cluster}
use Rattle.node_model.specs.declared.node.Node.TheVariants.{Up}
use Rattle.node_model.specs.declared.node.UpNode.{UpNode}
use Rattle.node_model.specs.declared.seat.Seat.{Seat}
use Rattle.node_model.specs.declared.seat.Seat.TheVariants.{Forming, Member}
use Rattle.refinement.specs.Ties.{CountedIn, NodeTied, SeatTied}
use Rattle.run_devices.specs.queues.Kept.{joins_in}
use Rattle.run_devices.specs.queues.Laws.{Same}
use Rattle.run_history.specs.Happenings.{Happening, MayAllHappen, all_happened}
use Rattle.run_history.specs.Scenes.{Scene, first_scene}
use Rattle.run_history.specs.Stages.{Stage}
use Rattle.run_messages.proofs.Reaching.{IsReached, IsSmall, stage_of}
use Rattle.seize.specs.Seizing as seizing
use Rattle.world_model.specs.First.{first_cluster}
use Rattle.run_outcomes.specs.phases.Kept.{In}
use Rattle.run_outcomes.specs.phases.Laws.{is_seizing}
use Rattle.run_outcomes.specs.saves.Kept.{IsAt}
use Rattle.run_outcomes.specs.silence.Laws.{OwnPartIsTold}
use Rattle.run_outcomes.specs.tasks.Laws.{IsUnregistered, NodeQueue, QueuesAreTold}
use Rattle.run_outcomes.specs.tasks.Own.{IsEarly, IsOwn, Match, Owned, Owns}
use Rattle.run_outcomes.proofs.own_tasks.Grounds.{Ground, ground_at}
use Rattle.run_outcomes.proofs.own_tasks.Matching.{else_so, then_so}
use Rattle.run_outcomes.proofs.own_tasks.Runs.{run_owned}
use Rattle.run_outcomes.proofs.phases.Leading.{Has}
use Rattle.run_outcomes.proofs.phases.LiveRuns.{none_is_over}
use Rattle.run_outcomes.proofs.phases.Own.{HasOwn, run_own}
use Rattle.run_outcomes.proofs.phases.Promised.{HasIt, has_it}
use Rattle.run_outcomes.proofs.reports.Points.{only_so}
use Rattle.run_outcomes.proofs.silence.OwnRuns.{part_at}
use Rattle.refinement.specs.Guards.{OfUp}

-- ---- while it seizes devices

queued_seizure : (w : Work) → is_seizure w ≡ true → not (is_over_in w) ≡ is_none (result_in w)
queued_seizure (Seizes s) is = by_result (seizing.result_of s)
  where
    by_result : (o : Option SeizeResult) → not (is_some o) ≡ is_none o
    by_result None = refl
    by_result (Some r) = refl
queued_seizure (Joins j) is = absurd (false_true is)

unregistered_some : (o : Option SeizeResult) → IsUnregistered o → is_none o ≡ false
unregistered_some (Some (NotRegistered keys)) h = refl
unregistered_some None h = absurd h
unregistered_some (Some _) h = absurd h

own_awaits : (c : ℕ) (e : Seizing) (t : Task) → IsOwn c e t → awaits_from c e ≡ is_queued t
own_awaits c e t own = by_asked (is_asked e.seizer c) refl ∙ sym (queued_seizure t.work own.work)
  where
    and_true : (b : Bool) → (b && true) ≡ b
    and_true true = refl
    and_true false = refl

    and_false : (b : Bool) → (b && false) ≡ false
    and_false true = refl
    and_false false = refl

    by_asked : (b : Bool) → is_asked e.seizer c ≡ b → (is_none e.result && is_asked e.seizer c) ≡ is_none (result_in t.work)
    by_asked true is = ap (λ b. is_none e.result && b) is ∙ (and_true (is_none e.result) ∙ ap is_none (sym (then_so (result_in t.work ≡ e.result) (IsUnregistered (result_in t.work)) (is_asked e.seizer c) is own.result)))
    by_asked false is = ap (λ b. is_none e.result && b) is ∙ (and_false (is_none e.result) ∙ sym (unregistered_some (result_in t.work) (else_so (result_in t.work ≡ e.result) (IsUnregistered (result_in t.work)) (is_asked e.seizer c) is own.result)))

match_awaits : (c : ℕ) (promises : List Promised) (es : List Seizing) (ts : List Task) → Match (IsOwn c) c promises es ts → list_any (awaits_from c) es ≡ list_any is_queued ts
match_awaits c promises [] ts h = sym (ap (list_any is_queued) h)
match_awaits c promises (e ∷ es) ts (inl h) = ap (λ b. (is_none e.result && b) || list_any (awaits_from c) es) h.0.seizer ∙ (none (is_none e.result) (list_any (awaits_from c) es) ∙ match_awaits c promises es ts h.1)
  where
    none : (a b : Bool) → ((a && false) || b) ≡ b
    none true b = refl
    none false b = refl
match_awaits c promises (e ∷ es) [] (inr h) = absurd h
match_awaits c promises (e ∷ es) (t ∷ ts) (inr h) = ap (λ b. b || list_any (awaits_from c) es) (own_awaits c e t h.0) ∙ ap (λ b. is_queued t || b) (match_awaits c promises es ts h.1)

-- ---- while it installs

any_left : (ts : List Task) → nat_lt 0 (length (filter is_queued ts)) ≡ list_any is_queued ts
any_left [] = refl
any_left (t ∷ ts) = by_queued (is_queued t) (any_left ts)
  where
    more : (n : ℕ) → nat_lt 0 (suc n) ≡ true
    more n = grind arith

    by_queued : (q : Bool) → nat_lt 0 (length (filter is_queued ts)) ≡ list_any is_queued ts → nat_lt 0 (length (if q then t ∷ filter is_queued ts else filter is_queued ts)) ≡ (q || list_any is_queued ts)
    by_queued true rest = more (length (filter is_queued ts))
    by_queued false rest = rest

joins_left : (ts : List Task) → list_any is_queued (joins_in ts) ≡ joins ts
joins_left [] = refl
joins_left (t ∷ ts) = by_kind (is_joining t.work) (joins_left ts)
  where
    by_kind : (k : Bool) → list_any is_queued (joins_in ts) ≡ joins ts → list_any is_queued (if k then t ∷ joins_in ts else joins_in ts) ≡ ((k && is_queued t) || joins ts)
    by_kind true rest = ap (λ b. is_queued t || b) rest
    by_kind false rest = rest

only_joins : (ts : List Task) → filter is_queued ts ≡ filter is_queued (joins_in ts) → joins ts ≡ list_any is_queued ts
only_joins ts is = sym (joins_left ts) ∙ (sym (any_left (joins_in ts)) ∙ (ap (λ us. nat_lt 0 (length us)) (sym is) ∙ any_left ts))

installed_at : (c : Cluster) (M : Memberships) (n : ℕ) (disk : NodeRecord) (a : AttemptState) (seat : Seat) → SeatTied c M n disk (Some a) seat → a.phase ≡ Installing → (state_of seat).saved.installed ≡ (state_of seat).session
installed_at c M n disk a (Forming s) tied at = let counted : CountedIn M s a Installing = subst (CountedIn M s a) at tied.2.counted in counted.0 ∙ tied.2.epoch
installed_at c M n disk a (Member s) tied at = absurd (apart tied.2)
  where
    apart : Some a ≡ None → ⊥
    apart h = cc

-- ---- in each phase

twice : (b : Bool) → not (not b) ≡ b
twice true = refl
twice false = refl

itself : (a b : ℕ) → a ≡ b → (a == b) ≡ true
itself a b h = grind arith

own_missing : (h : Header) (cells : ℕ) (hs : List Happening) (size : IsSmall h) (may : MayAllHappen (first_cluster h) (first_scene h cells) hs) (n : ℕ) (x : UpNode) (a : AttemptState) → (all_happened (first_cluster h) (first_scene h cells) hs).nodes.node n ≡ Up x → x.attempt ≡ Some a → is_missing a n ≡ list_any is_queued x.tasks
own_missing h cells hs size may n x a up has = by_phase a.phase refl
  where
    c : Cluster
    c = first_cluster h

    s : Scene
    s = all_happened c (first_scene h cells) hs

    r : IsReached h cells s
    r = record { happenings = hs; may = may; is = refl }

    g : Ground h s n x a
    g = ground_at h cells s n x a size r up has

    owns : Owns n x.tasks a
    owns = subst (In (Owns n x.tasks)) has (subst (IsAt (Owned n)) up (run_owned h cells hs size may n))

    live : is_over a.phase ≡ false
    live = none_is_over h cells hs size.few size.small may n a (subst (OfUp (λ y. y.attempt ≡ Some a)) (sym up) has)

    promised : HasOwn a
    promised = subst (In HasOwn) has (subst (IsAt (Has HasOwn)) up (run_own h cells hs size.few size.small may n))

    idle : x.tasks ≡ [] → false ≡ list_any is_queued x.tasks
    idle none = sym (ap (list_any is_queued) none)

    seizes : Match (IsOwn a.plan.coordinator) a.plan.coordinator a.promises a.devices x.tasks → list_any (awaits_from n) a.devices ≡ list_any is_queued x.tasks
    seizes m = subst (λ k. list_any (awaits_from k) a.devices ≡ list_any is_queued x.tasks) g.coordinator (match_awaits a.plan.coordinator a.promises a.devices x.tasks m)

    b : Stage c s
    b = stage_of h cells s size r

    tied : NodeTied c b.machine n (s.nodes.disk n).kept (Up x)
    tied = subst (NodeTied c b.machine n (s.nodes.disk n).kept) up (b.stands n).tied

    installs : a.phase ≡ Installing → is_missing_in a n Installing ≡ list_any is_queued x.tasks
    installs at =
        ap (λ t. if t then not a.own_ready else not (has_readied a.readies n)) (itself n a.plan.coordinator (sym g.coordinator))
        ∙ (ap not ((part_at h cells hs size may n x a up has).ready at) ∙ (twice (joins x.tasks) ∙ only_joins x.tasks (only_so h cells s n x size r up (installed_at c b.machine n (s.nodes.disk n).kept a x.seat (subst (λ o. SeatTied c b.machine n (s.nodes.disk n).kept o x.seat) has tied.0) at))))

    by_phase : (p : Phase) → a.phase ≡ p → is_missing a n ≡ list_any is_queued x.tasks
    by_phase Collecting at = ap (is_missing_in a n) at ∙ (ap not (subst (λ k. has_promised a.promises k ≡ true) g.coordinator promised) ∙ idle (owns.idle (subst IsEarly (sym at) tt)))
    by_phase Choosing at = ap (is_missing_in a n) at ∙ idle (owns.idle (subst IsEarly (sym at) tt))
    by_phase SeizingVotes at = ap (is_missing_in a n) at ∙ seizes (owns.seizes (ap is_seizing at) g.ordered)
    by_phase SeizingOthers at = ap (is_missing_in a n) at ∙ seizes (owns.seizes (ap is_seizing at) g.ordered)
    by_phase Installing at = ap (is_missing_in a n) at ∙ installs at
    by_phase Over at = absurd (false_true (sym live ∙ ap is_over at))

-- ---- by the lines

any_same : (ts : List Task) (us : List told.Task) → Same (filter is_queued ts) us → nat_lt 0 (length (map (λ (u : told.Task). u.device) us)) ≡ list_any is_queued ts
any_same [] [] h = refl
any_same [] (u ∷ us) h = absurd h
any_same (t ∷ ts) us h = by_queued (is_queued t) us (λ k. any_same ts us k) h
  where
    more : (n : ℕ) → nat_lt 0 (suc n) ≡ true
    more n = grind arith

    by_queued : (q : Bool) (us : List told.Task) → (Same (filter is_queued ts) us → nat_lt 0 (length (map (λ (u : told.Task). u.device) us)) ≡ list_any is_queued ts)
        → Same (if q then t ∷ filter is_queued ts else filter is_queued ts) us → nat_lt 0 (length (map (λ (u : told.Task). u.device) us)) ≡ (q || list_any is_queued ts)
    by_queued true [] rest k = absurd k
    by_queued true (u ∷ us) rest k = more (length (map (λ (v : told.Task). v.device) us))
    by_queued false us rest k = rest k

node_work : (h : Header) (s : Scene) (n : ℕ) (x : UpNode) → s.nodes.node n ≡ Up x → NodeQueue (s.nodes.node n) (told.queued_of (setting_of h) n s.moments) → told.has_work (setting_of h) n s.moments ≡ list_any is_queued x.tasks
node_work h s n x up queue = any_same x.tasks (told.queued_of (setting_of h) n s.moments) (subst (λ z. NodeQueue z (told.queued_of (setting_of h) n s.moments)) up queue)

pub own_part_told : QueuesAreTold → OwnPartIsTold
own_part_told queues h cells hs last nodes few small disks may shaped native boots left n a at shut =
    let s : Scene = all_happened (first_cluster h) (first_scene h cells) hs in
    let it : HasIt (s.nodes.node n) a = has_it (s.nodes.node n) a at in
    node_work h s n it.x it.up (queues h cells hs last nodes few small disks may shaped native boots left n shut)
    ∙ sym (own_missing h cells hs (record { few = few; small = small }) may n it.x a it.up it.has)

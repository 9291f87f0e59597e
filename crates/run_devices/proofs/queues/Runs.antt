-- Each run.
use Rattle.std.specs.Prelude.{true, ℕ, ◌^◌, ◌≡◌, ◌≢◌, ◌≤◌, ◌<◌, ◌⊎◌, nat_lt, List, [], ◌∷◌, filter, length, Option, None, Some, is_some}
use Rattle.std.proofs.Common.{refl, sym, ap, subst, ◌∙◌, inl, inr}
use Rattle.cl_base.specs.Limits.{most_devices}
use Rattle.cl_base.specs.Sets.{has}
use Rattle.cl_base.specs.declared.header.Header.{Header}
use Rattle.cluster_ties.proofs.First.{in_order}
use Rattle.cmm_member.specs.Records.{NodeRecord}
use Rattle.device_queue.specs.Tasks.{is_queued}
use Rattle.interconnect.specs.Links.{Packet}
use Rattle.machine_base.proofs.Puts.{same_or_not}
use Rattle.membership_machine.specs.State.{Memberships}
use Rattle.wire.specs.declared.message.Message.{Message}
use Rattle.cl_base.specs.declared.method.Outcome as method
use Rattle.history.specs.Moment.{Moment}
use Rattle.history.specs.Queue as told
use Rattle.run_devices.specs.queues.Views.{View}
use Rattle.history.specs.Setting.{Setting}
use Rattle.history.specs.Validated.{Validity, validity as validity_in}
use Rattle.node_model.specs.Seats.{installed_of, session_of}
use Rattle.node_model.specs.declared.cluster.Cluster.{Cluster}
use Rattle.node_model.specs.declared.node.Node.{Node}
use Rattle.node_model.specs.declared.node.Node.TheVariants.{Down, Up}
use Rattle.refinement.proofs.Changes.{sees}
use Rattle.refinement.specs.Doings.{site}
use Rattle.refinement.specs.Ties.{NodeTied, setting_of}
use Rattle.world_model.specs.Devices.{due_at}
use Rattle.world_model.specs.First.{first_cluster}
use Rattle.run_history.proofs.DeedRuns.{runs_are_cut}
use Rattle.run_history.proofs.Reached.{Reached, reached_more}
use Rattle.run_history.proofs.Runs.{run_stage}
use Rattle.run_history.proofs.WholeEachRun.{runs_are_whole}
use Rattle.run_history.specs.Happenings.{Happening, IsUp, MayAllHappen, MayHappen, all_happened, happened}
use Rattle.run_history.specs.Happenings.Happening.{Arrives}
use Rattle.run_history.specs.Rounds.{Progress}
use Rattle.run_history.specs.Runs.{CutsOf}
use Rattle.run_history.specs.Scenes.{Scene, first_scene}
use Rattle.run_history.specs.Shapes.{Comes, Due, IsDue, ShapedFrom, Want, due_after, nothing}
use Rattle.run_history.specs.Shapes as want
use Rattle.run_history.specs.Sites.{SiteAt}
use Rattle.run_history.specs.Stages.{Stage}
use Rattle.run_history.specs.Wholes.{IsWhole}
use Rattle.run_history.specs.WorldLines.{AreDisks, IsDevice}
use Rattle.run_seizings.specs.Sites.{IsSeizing}
use Rattle.run_seizings.proofs.Runs.{run_seizes}
use Rattle.run_devices.specs.validity.Laws.{Agrees, InMemory}
use Rattle.run_devices.proofs.installs.Stepping.{standing_at}
use Rattle.run_devices.proofs.validity.Acts.{strict}
use Rattle.run_devices.proofs.validity.Agreeing.{agrees_at}
use Rattle.run_devices.proofs.validity.First.{first_told}
use Rattle.run_devices.proofs.validity.Moments as validity
use Rattle.run_devices.proofs.validity.Steps as validity_at
use Rattle.run_devices.proofs.validity.Wants.{Kept, step_so}
use Rattle.run_devices.specs.queues.Kept.{NodeSo, Tells, joins_in}
use Rattle.run_devices.specs.queues.Laws.{HasTold, NodeHas, QueuesOfEachRun, Same, WorkOfEachRun, queued}
use Rattle.run_devices.specs.queues.Told.{told_tasks as told_alone}
use Rattle.run_devices.specs.queues.Views.{told_tasks}
use Rattle.run_devices.proofs.queues.Ends.{only_joins}
use Rattle.run_devices.proofs.queues.Happens.{Differs, Known, ValidAt, happening_strict}
use Rattle.run_devices.proofs.queues.Alone.{lines_of, same_told}
use Rattle.run_devices.proofs.queues.Installing.{lines_show}
use Rattle.run_devices.proofs.queues.Moments.{trusted_at}
use Rattle.run_devices.proofs.queues.Steps.{Strict}
use Rattle.run_devices.proofs.queues.Histories.{told_as_in_history}
use Rattle.run_devices.proofs.queues.Queues.{length_same, work_same}
use Rattle.run_devices.proofs.queues.Tasks.{same_queue}

-- ---- what is known at each point

stage_at : (h : Header) (cells : ℕ) (s : Scene) → length h.devices ≤ most_devices → h.cluster < 2 ^ 32 → Reached (first_cluster h) (first_scene h cells) s → Stage (first_cluster h) s
stage_at h cells s few small r = subst (Stage (first_cluster h)) r.is (run_stage h cells r.happenings few small r.may)

known_at : (S : View) (cells : ℕ) (s : Scene) → length S.setting.header.devices ≤ most_devices → S.setting.header.cluster < 2 ^ 32 → Reached (first_cluster S.setting.header) (first_scene S.setting.header cells) s
    → Known S s
known_at S cells s few small r =
    let cuts : CutsOf S.setting.header cells r.happenings = runs_are_cut S.setting.header cells r.happenings in
    record {
      stage = stage_at S.setting.header cells s few small r;
      whole = subst (IsWhole (first_cluster S.setting.header)) r.is (runs_are_whole S.setting.header cells r.happenings cuts few small r.may).scene;
      seizing = subst (IsSeizing S.setting.header) r.is (run_seizes S.setting.header cells r.happenings few small r.may).seizing;
      many = few;
    }

valid_known : (S : View) (cells : ℕ) (s : Scene) → length S.setting.header.devices ≤ most_devices → S.setting.header.cluster < 2 ^ 32 → Reached (first_cluster S.setting.header) (first_scene S.setting.header cells) s
    → Known S s → validity.Known S.setting.header s
valid_known S cells s few small r b =
    record { stage = b.stage; whole = b.whole; seizing = b.seizing; many = b.many; standing = standing_at S.setting.header cells s few small r }

-- ---- where a packet comes, what is told of validity holds in memory

in_memory : (c : Cluster) (M : Memberships) (n d : ℕ) (disk : NodeRecord) (told : Validity) (node : Node) → NodeTied c M n disk node → Agrees told (has disk.valid d) → InMemory told d node
in_memory c M n d disk told Down tied k = tt
in_memory c M n d disk told (Up x) tied k = subst (λ (r : NodeRecord). Agrees told (has r.valid d)) (sees c M n disk x.attempt x.seat tied.0).disk_so k

strict_memory : (S : View) (s : Scene) (n : ℕ) → Known S s → validity_at.Strict S.setting.header s → (d : ℕ) → IsDevice S.setting.header d
    → InMemory (validity_in S.setting.header n d s.moments) d (s.nodes.node n)
strict_memory S s n b k d is =
    in_memory (first_cluster S.setting.header) b.stage.machine n d (s.nodes.disk n).kept (validity_in S.setting.header n d s.moments) (s.nodes.node n) (b.stage.stands n).tied
    (strict (Agrees (validity_in S.setting.header n d s.moments) (has (s.nodes.disk n).kept.valid d)) ((k.sites n).valid d is))

arrives_valid : (S : View) (s : Scene) (wants : List Want) (rounds : Option Progress) (number : ℕ) (x : Packet) (m : Message) (now : ℕ) (ends : method.Outcome) → S.alone ≡ true
    → Comes s wants rounds (Arrives number x m now ends) → Known S s → Kept S.setting.header s wants → ValidAt S s (Arrives number x m now ends)
arrives_valid S s (want.Deliver k y ∷ wants) rounds number x m now ends lines comes b valid =
    (trusted_at S s.moments x.to m.body (s.nodes.node x.to) b.many lines (strict_memory S s x.to b valid.so), lines_show S _ x.to m.body (s.nodes.node x.to) lines)
arrives_valid S s [] None number x m now ends lines comes b valid = absurd comes
arrives_valid S s [] (Some p) number x m now ends lines comes b valid = absurd comes
arrives_valid S s (_ ∷ wants) rounds number x m now ends lines comes b valid = absurd comes

-- by the lines alone
valid_at : (S : View) (s : Scene) (d : Due) (x : Happening) → S.alone ≡ true → IsDue s d x → Known S s → Kept S.setting.header s d.wants → ValidAt S s x
valid_at S s d (Arrives number x m now ends) lines due b valid = arrives_valid S s d.wants d.rounds number x m now ends lines due b valid
valid_at S s d _ lines due b valid = tt

-- ---- runs

-- what is reached, with what is due
pub record Comes_to (S : View) (cells : ℕ) (s : Scene) (wants : List Want) : Type 0 where
  pub reached : Reached (first_cluster S.setting.header) (first_scene S.setting.header cells) s
  pub valid : Kept S.setting.header s wants
  pub so : Strict S s

pub comes_by : (S : View) (cells : ℕ) → length S.setting.header.devices ≤ most_devices → S.setting.header.cluster < 2 ^ 32 → (s : Scene) (d : Due) (x : Happening)
    → (Known S s → Kept S.setting.header s d.wants → ValidAt S s x) → MayHappen (first_cluster S.setting.header) s x → IsDue s d x → Comes_to S cells s d.wants
    → Comes_to S cells (happened (first_cluster S.setting.header) s x) (due_after (first_cluster S.setting.header) (happened (first_cluster S.setting.header) s x) d x).wants
comes_by S cells few small s d x trusted may due k =
    let c : Cluster = first_cluster S.setting.header in
    let b : Known S s = known_at S cells s few small k.reached in
    let next : Reached c (first_scene S.setting.header cells) (happened c s x) = reached_more c (first_scene S.setting.header cells) s x k.reached may in
    let z : validity.Known S.setting.header s = valid_known S cells s few small k.reached b in
    let differ : Differs S s x = (stage_at S.setting.header cells (happened c s x) few small next).laws.once in
    record {
      reached = next;
      valid = step_so S.setting.header s d x due may z differ k.valid;
      so = happening_strict S s x may b differ (trusted b k.valid) (agrees_at S.setting.header s d x due may z differ k.valid) k.so;
    }

pub comes_more : (S : View) (cells : ℕ) → S.alone ≡ true → length S.setting.header.devices ≤ most_devices → S.setting.header.cluster < 2 ^ 32 → (s : Scene) (d : Due) (x : Happening)
    → MayHappen (first_cluster S.setting.header) s x → IsDue s d x → Comes_to S cells s d.wants
    → Comes_to S cells (happened (first_cluster S.setting.header) s x) (due_after (first_cluster S.setting.header) (happened (first_cluster S.setting.header) s x) d x).wants
comes_more S cells lines few small s d x may due k = comes_by S cells few small s d x (λ b valid. valid_at S s d x lines due b valid) may due k

run_so : (S : View) (cells : ℕ) → S.alone ≡ true → length S.setting.header.devices ≤ most_devices → S.setting.header.cluster < 2 ^ 32 → (xs : List Happening) (s : Scene) (d last : Due)
    → MayAllHappen (first_cluster S.setting.header) s xs → ShapedFrom (first_cluster S.setting.header) s d xs last → Comes_to S cells s d.wants
    → Comes_to S cells (all_happened (first_cluster S.setting.header) s xs) last.wants
run_so S cells lines few small [] s d last may shaped k = subst (λ (z : Due). Comes_to S cells s z.wants) shaped k
run_so S cells lines few small (x ∷ xs) s d last may shaped k =
    let c : Cluster = first_cluster S.setting.header in
    run_so S cells lines few small xs (happened c s x) (due_after c (happened c s x) d x) last may.1 shaped.1 (comes_more S cells lines few small s d x may.0 shaped.0 k)

first_valid : (h : Header) (cells : ℕ) → length h.devices ≤ most_devices → AreDisks h → validity_at.Strict h (first_scene h cells)
unfolding first_scene
first_valid h cells few disks = record { sites = λ n. record { valid = λ d is. inl (first_told h n d few disks is); up = tt }; shown = tt }

first_strict : (S : View) (h : Header) (cells : ℕ) → Strict S (first_scene h cells)
unfolding first_scene
first_strict S h cells n = tt

pub first_comes : (S : View) (cells : ℕ) → length S.setting.header.devices ≤ most_devices → AreDisks S.setting.header → Comes_to S cells (first_scene S.setting.header cells) []
first_comes S cells few disks = record {
  reached = record { happenings = []; may = tt; is = refl };
  valid = record { wants_so = tt; so = first_valid S.setting.header cells few disks };
  so = first_strict S S.setting.header cells;
}

comes_to : (S : View) (cells : ℕ) (xs : List Happening) (last : Due) → S.alone ≡ true → length S.setting.header.devices ≤ most_devices → S.setting.header.cluster < 2 ^ 32 → AreDisks S.setting.header
    → MayAllHappen (first_cluster S.setting.header) (first_scene S.setting.header cells) xs → ShapedFrom (first_cluster S.setting.header) (first_scene S.setting.header cells) nothing xs last
    → Comes_to S cells (all_happened (first_cluster S.setting.header) (first_scene S.setting.header cells) xs) last.wants
comes_to S cells xs last lines few small disks may shaped =
    run_so S cells lines few small xs (first_scene S.setting.header cells) nothing last may shaped (first_comes S cells few disks)

-- ---- the law

has_so : (S : View) (s : Scene) (n : ℕ) (node : Node) (ts : List told.Task) → Known S s → node ≡ s.nodes.node n → NodeSo S s.moments n None node
    → told_tasks S n s.moments ≡ Some ts → NodeHas node ts
has_so S s n Down ts b at k is = tt
has_so S s n (Up x) ts b at k is =
    let c : Cluster = first_cluster S.setting.header in
    let l : Tells (Some ts) None x = subst (λ o. Tells o None x) is k.tells in
    let it : SiteAt c b.whole.machine n (site (Up x) (s.nodes.disk n).kept) =
    subst (λ (z : Node). SiteAt c b.whole.machine n (site z (s.nodes.disk n).kept)) (sym at) (b.whole.sites n) in
    record { queue = by_session l it (same_or_not (installed_of x) (session_of x)); all = λ ne. l.1 ne }
  where
    by_session : Tells (Some ts) None x → SiteAt (first_cluster S.setting.header) b.whole.machine n (site (Up x) (s.nodes.disk n).kept)
        → (installed_of x ≡ session_of x) ⊎ (installed_of x ≢ session_of x) → Same (filter is_queued x.tasks) (queued ts)
    by_session l it (inl same) =
        subst (λ z. Same z (queued ts))
        (sym (only_joins (first_cluster S.setting.header) b.whole.machine n (s.nodes.disk n).kept x (in_order (setting_of (first_cluster S.setting.header)) b.whole.machine b.whole.reached) it same))
        (same_queue (joins_in x.tasks) ts (l.0 same))
    by_session l it (inr ne) = same_queue x.tasks ts (l.1 ne)

pub has_told : (S : View) (cells : ℕ) (s : Scene) (wants : List Want) (n : ℕ) → length S.setting.header.devices ≤ most_devices → S.setting.header.cluster < 2 ^ 32 → Comes_to S cells s wants
    → (ts : List told.Task) → told_tasks S n s.moments ≡ Some ts → NodeHas (s.nodes.node n) ts
has_told S cells s wants n few small k ts is = has_so S s n (s.nodes.node n) ts (known_at S cells s few small k.reached) refl (k.so n) is

queues_so : (S : Setting) (cells : ℕ) (xs : List Happening) (last : Due) → length S.header.devices ≤ most_devices → S.header.cluster < 2 ^ 32 → AreDisks S.header
    → MayAllHappen (first_cluster S.header) (first_scene S.header cells) xs → ShapedFrom (first_cluster S.header) (first_scene S.header cells) nothing xs last
    → (n : ℕ) → HasTold S (all_happened (first_cluster S.header) (first_scene S.header cells) xs) n
queues_so S cells xs last few small disks may shaped n ts is =
    has_told (lines_of S) cells (all_happened (first_cluster S.header) (first_scene S.header cells) xs) last.wants n few small
    (comes_to (lines_of S) cells xs last refl few small disks may shaped) ts
    (same_told S n (all_happened (first_cluster S.header) (first_scene S.header cells) xs).moments ∙ is)

-- so it is of a run of the setting's header
of_header : (P : Header → Scene → Type 0) (h : Header) (cells : ℕ) (xs : List Happening) (last : Due) (S : Setting)
    → (length S.header.devices ≤ most_devices → S.header.cluster < 2 ^ 32 → AreDisks S.header → MayAllHappen (first_cluster S.header) (first_scene S.header cells) xs
    → ShapedFrom (first_cluster S.header) (first_scene S.header cells) nothing xs last → P S.header (all_happened (first_cluster S.header) (first_scene S.header cells) xs))
    → length h.devices ≤ most_devices → h.cluster < 2 ^ 32 → S.header ≡ h → AreDisks h → MayAllHappen (first_cluster h) (first_scene h cells) xs
    → ShapedFrom (first_cluster h) (first_scene h cells) nothing xs last → P h (all_happened (first_cluster h) (first_scene h cells) xs)
of_header P h cells xs last S f few small same =
    subst
    (λ (g : Header). length g.devices ≤ most_devices → g.cluster < 2 ^ 32 → AreDisks g → MayAllHappen (first_cluster g) (first_scene g cells) xs
    → ShapedFrom (first_cluster g) (first_scene g cells) nothing xs last → P g (all_happened (first_cluster g) (first_scene g cells) xs)) same f few small

pub queues_of_each_run : QueuesOfEachRun
queues_of_each_run h cells xs last S few small same disks may shaped n =
    of_header (λ g s. HasTold S s n) h cells xs last S (λ f t d m z. queues_so S cells xs last f t d m z n) few small same disks may shaped

-- ---- which nodes have work

up_work : (node : Node) (ts : List told.Task) → IsUp node → NodeHas node ts → nat_lt 0 (length (queued ts)) ≡ is_some (due_at (Some node))
up_work Down ts up k = absurd up
up_work (Up x) ts up k = ap (nat_lt 0) (sym (length_same (queued ts))) ∙ work_same x.tasks (queued ts) k.queue

pub work_of_each_run : WorkOfEachRun
work_of_each_run h cells xs last S few small same disks may shaped n up ts is =
    let s : Scene = all_happened (first_cluster h) (first_scene h cells) xs in
    up_work (s.nodes.node n) ts up (queues_of_each_run h cells xs last S few small same disks may shaped n ts is)

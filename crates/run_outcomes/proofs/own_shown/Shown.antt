-- While an attempt seizes devices, the own Promise of its coordinator shows an attached quorum device as valid exactly where the lines do.
use Rattle.std.specs.Prelude.{ℕ, ◌≡◌, ◌⊎◌, ◌≤◌, Bool, true, false, List, length}
use Rattle.std.proofs.Common.{arith, refl, sym, ap, subst, ◌∙◌, inl, inr}
use Rattle.cl_base.specs.Limits.{most_devices}
use Rattle.cl_base.specs.Sets.{has}
use Rattle.cl_base.specs.declared.header.Header.{Header}
use Rattle.cmm_attempt.proofs.Basics.{false_true}
use Rattle.cmm_attempt.specs.Attempts.{AttemptState}
use Rattle.cmm_member.specs.Records.{NodeRecord}
use Rattle.device_queue.specs.declared.task.Task.{Task}
use Rattle.history.specs.Queue as told
use Rattle.history.specs.Validated.{Lapsed, Open, Valid, Validity, is_valid, validity}
use Rattle.history_setting.specs.Settings.{setting_of}
use Rattle.node_model.specs.Seats.{record_of}
use Rattle.node_model.specs.declared.node.Node.{Node}
use Rattle.node_model.specs.declared.node.Node.TheVariants.{Up}
use Rattle.node_model.specs.declared.node.UpNode.{UpNode}
use Rattle.run_devices.specs.validity.Kept.{Begins, SiteSo, readying}
use Rattle.run_devices.specs.validity.Laws.{Agrees}
use Rattle.run_history.specs.Happenings.{all_happened}
use Rattle.run_history.specs.Scenes.{Scene, first_scene}
use Rattle.run_history.specs.Stages.{site_of}
use Rattle.run_history.specs.WorldLines.{IsDevice}
use Rattle.run_messages.proofs.Reaching.{IsReached, IsSmall}
use Rattle.world_model.specs.First.{first_cluster}
use Rattle.run_outcomes.proofs.told_tasks.Points.{seizing_before}
use Rattle.run_outcomes.specs.tasks.Entries.{quorum_in}
use Rattle.run_outcomes.specs.tasks.Laws.{seizes_plainly}
use Rattle.run_outcomes.specs.tasks.OwnPromise.{KeepsOwn}
use Rattle.run_outcomes.specs.tasks.Showing.{OwnIsShown}
use Rattle.run_outcomes.specs.tasks.Shown.{InRange, IsPlainTo, UpIn}
use Rattle.run_outcomes.proofs.outward.Comes.{comes_to, readied_site}
use Rattle.run_outcomes.proofs.own_shown.Runs.{own_at, scene_at}
use Rattle.run_outcomes.proofs.shown.Tasks.{begins_plain}

-- ---- the record of a node, by the lines

agrees_so : (v : Validity) (held : Bool) → Agrees v held → told.is_open v ≡ false → is_valid v ≡ held
agrees_so Valid held is closed = sym is
agrees_so Lapsed held is closed = sym is
agrees_so Open held is closed = absurd (false_true (sym closed))

-- but for a device where the node has just readied itself to register it is as they tell, where they tell it
record_so : (d : ℕ) (v : Validity) (valid : ℕ) (x : UpNode) (n : ℕ) (a : AttemptState) → KeepsOwn n (record_of x).valid x.tasks a → seizes_plainly d x.tasks ≡ false → told.is_open v ≡ false
    → Agrees v (has valid d) ⊎ (Begins d (Up x) × (has valid d ≡ false)) → is_valid v ≡ has valid d
record_so d v valid x n a k spared closed (inl is) = agrees_so v (has valid d) is closed
record_so d v valid x n a k spared closed (inr begins) = absurd (false_true (sym spared ∙ begins_plain d x.tasks k.fit begins.0))

-- ---- the own Promise

-- a quorum device is seized for its votes
pub quorum_spared : (n valid d : ℕ) (ts : List Task) (a : AttemptState) → KeepsOwn n valid ts a → quorum_in a.votes d ≡ true → seizes_plainly d ts ≡ false
quorum_spared n valid d ts a k quorum = by_value (seizes_plainly d ts) refl
  where
    none : IsPlainTo a d → ⊥
    none plain = false_true (sym (ap (λ o. quorum_in o d) plain.votes ∙ plain.none) ∙ quorum)

    by_value : (b : Bool) → seizes_plainly d ts ≡ b → b ≡ false
    by_value true is = absurd (none (k.plain d is))
    by_value false is = refl

in_range : (h : Header) (d : ℕ) → length h.devices ≤ most_devices → IsDevice h d → InRange d
in_range h d few is = (is.0, within d (length h.devices) is.1 few)
  where
    within : (d k : ℕ) → d ≤ k → k ≤ 16 → d ≤ 32
    within d k low most = omega (arith, low, most)

-- ---- the law

pub own_is_shown : OwnIsShown
own_is_shown h cells hs last few small disks may shaped native n x a both up has_it seizing votes d device quorum path closed =
    let size : IsSmall h = record { few = few; small = small } in
    let s : Scene = all_happened (first_cluster h) (first_scene h cells) hs in
    let r : IsReached h cells s = record { happenings = hs; may = may; is = refl } in
    let k : KeepsOwn n (record_of x).valid x.tasks a = own_at h cells hs size may n x a up has_it (seizing_before a.phase seizing) in
    let spared : seizes_plainly d x.tasks ≡ false = quorum_spared n (record_of x).valid d x.tasks a k (ap (λ o. quorum_in o d) votes ∙ quorum) in
    let same : record_of x ≡ (s.nodes.disk n).kept = (subst (UpIn s.nodes.sent n (s.nodes.disk n).kept) up ((scene_at h cells s size r).sites n).up).0 in
    let lines : SiteSo h s.moments n (readying (site_of s.nodes n)) (site_of s.nodes n) =
    readied_site h s n last.wants (comes_to (setting_of h) cells hs last few small disks may shaped).valid.so in
    let kept : is_valid (validity h n d s.moments) ≡ has (s.nodes.disk n).kept.valid d =
    record_so d (validity h n d s.moments) (s.nodes.disk n).kept.valid x n a k spared closed
    (subst (λ (node : Node). Agrees (validity h n d s.moments) (has (s.nodes.disk n).kept.valid d) ⊎ (Begins d node × (has (s.nodes.disk n).kept.valid d ≡ false))) up (lines.valid d device)) in
    kept ∙ (sym (ap (λ (r : NodeRecord). has r.valid d) same) ∙ sym (k.own.shown d (in_range h d few device, spared)))

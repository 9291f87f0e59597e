-- How the coordinator's own seizing of a device ended is what it told of it in its session.
use Rattle.std.specs.Prelude.{ℕ, ◌≡◌, ◌≢◌, ◌<◌, ◌==◌, ◌&&◌, ◌⊎◌, ◌++◌, Bool, true, false, List, [], ◌∷◌, Option, None, Some, if◌then◌else◌}
use Rattle.std.specs.List.{AllByRecursion, find}
use Rattle.std.specs.Option.{option_and_then}
use Rattle.std.proofs.Common.{refl, sym, ap, subst, ◌∙◌, inl, inr}
use Rattle.cl_base.specs.Seizings.{SeizeResult}
use Rattle.cl_base.specs.declared.header.Header.{Header}
use Rattle.cmm_attempt.proofs.Basics.{false_true, none_some, same_number}
use Rattle.cmm_attempt.specs.Attempts.{AttemptState}
use Rattle.cmm_attempt.specs.declared.promised.Promised.{Promised}
use Rattle.cmm_attempt.specs.declared.seizing.Seizing.{Seizing}
use Rattle.device_queue.specs.Queue.{seizure_of}
use Rattle.device_queue.specs.Tasks.{is_seizing as is_seizure, result_in}
use Rattle.device_queue.specs.declared.task.Task.{Task}
use Rattle.node_model.specs.Seats.{installed_of, session_of}
use Rattle.node_model.specs.declared.node.Node.TheVariants.{Up}
use Rattle.node_model.specs.declared.node.UpNode.{UpNode}
use Rattle.refinement.specs.Runs.{IsAmong}
use Rattle.run_history.specs.Guards.{HasEnded}
use Rattle.run_history.specs.Happenings.{Happening, all_happened}
use Rattle.run_history.specs.Scenes.{Scene, first_scene}
use Rattle.run_messages.proofs.Reaching.{IsSmall}
use Rattle.run_devices.proofs.queues.Alone.{lines_of}
use Rattle.run_devices.proofs.queues.Runs.{Comes_to}
use Rattle.run_devices.specs.queues.Kept as queues
use Rattle.run_devices.specs.queues.Kept.{NodeSo}
use Rattle.history_setting.specs.Settings.{setting_of}
use Rattle.run_seizings.specs.Seized.{has_installed}
use Rattle.wire.specs.declared.message.Body.TheVariants as body
use Rattle.world_model.specs.First.{first_cluster}
use Rattle.run_outcomes.specs.phases.Laws.{is_seizing}
use Rattle.run_outcomes.specs.saves.Kept.{IsAt}
use Rattle.run_outcomes.specs.tasks.Laws.{own_result}
use Rattle.run_outcomes.specs.tasks.Own.{IsOwn, Match, Owned, Owns}
use Rattle.run_outcomes.specs.tasks.Said.{AreSingle, NodeSaid, Said, tale_of}
use Rattle.run_outcomes.proofs.others.Runs.{Point}
use Rattle.run_outcomes.proofs.outward.Comes.{comes_to}
use Rattle.run_outcomes.proofs.own_tasks.Grounds.{Ground, ground_at}
use Rattle.run_outcomes.proofs.own_tasks.Matching.{itself, not_both}
use Rattle.run_outcomes.proofs.own_tasks.Runs.{owned_of, run_owned}
use Rattle.run_outcomes.proofs.said.Runs.{run_said}
use Rattle.run_outcomes.proofs.told_tasks.Points.{seizing_before}

-- ---- tasks

abbrev AllSeize : List Task → Type 0
AllSeize ts = AllByRecursion (λ (t : Task). is_seizure t.work ≡ true) ts

-- the own tasks are all seizings
all_seize : (c : ℕ) (promises : List Promised) (es : List Seizing) (ts : List Task) → Match (IsOwn c) c promises es ts → AllSeize ts
all_seize c promises [] ts h = subst AllSeize (sym h) tt
all_seize c promises (e ∷ es) ts (inl h) = all_seize c promises es ts h.1
all_seize c promises (e ∷ es) (t ∷ us) (inr h) = (h.0.work, all_seize c promises es us h.1)
all_seize c promises (e ∷ es) [] (inr h) = absurd h

at_it : (t : Task) (d : ℕ) → t.device ≡ d → (t.device == d) ≡ true
at_it t d same = subst (λ k. (t.device == k) ≡ true) same (itself t.device)

seizes_there : (ts : List Task) (d : ℕ) (r : SeizeResult) → AllSeize ts → HasEnded ts d r → seizure_of ts d ≡ None → ⊥
seizes_there [] d r all h none = h
seizes_there (t ∷ ts) d r all h none = by_test (λ later lacks. seizes_there ts d r all.1 later lacks) (t.device == d) refl h
  where
    first : (p q : Bool) → p ≡ true → q ≡ true → (if p && q then Some t else seizure_of ts d) ≡ Some t
    first p q one two = ap (λ b. if b && q then Some t else seizure_of ts d) one ∙ ap (λ b. if b then Some t else seizure_of ts d) two

    by_test : (HasEnded ts d r → seizure_of ts d ≡ None → ⊥) → (b : Bool) → (t.device == d) ≡ b → ((t.device ≡ d) × (result_in t.work ≡ Some r)) ⊎ HasEnded ts d r → ⊥
    by_test rest true at k = none_some t (sym none ∙ first (t.device == d) (is_seizure t.work) at all.0)
    by_test rest false at (inl k) = not_both (t.device == d) (at_it t d k.0) at
    by_test rest false at (inr later) = rest later (sym (ap (λ b. if b && is_seizure t.work then Some t else seizure_of ts d) at) ∙ none)

-- no device has two
ended_own : (ts : List Task) (d : ℕ) (r : SeizeResult) → AllSeize ts → AreSingle ts → HasEnded ts d r → own_result d ts ≡ Some r
ended_own [] d r all single h = absurd h
ended_own (t ∷ ts) d r all single h = by_test (λ later. ended_own ts d r all.1 single.1 later) (t.device == d) refl h
  where
    later_of : Option Task
    later_of = find (λ (u : Task). u.device == d) ts

    by_test : (HasEnded ts d r → own_result d ts ≡ Some r) → (b : Bool) → (t.device == d) ≡ b → ((t.device ≡ d) × (result_in t.work ≡ Some r)) ⊎ HasEnded ts d r
        → option_and_then (λ (u : Task). result_in u.work) (if b then Some t else later_of) ≡ Some r
    by_test rest true at (inl k) = k.1
    by_test rest true at (inr later) = absurd (seizes_there ts t.device r all.1 (subst (λ k. HasEnded ts k r) (sym (same_number t.device d at)) later) (single.0 all.0))
    by_test rest false at (inl k) = absurd (not_both (t.device == d) (at_it t d k.0) at)
    by_test rest false at (inr later) = rest later

-- those behind them change nothing of it
pub own_more : (d : ℕ) (r : SeizeResult) (ts us : List Task) → own_result d ts ≡ Some r → own_result d (ts ++ us) ≡ Some r
own_more d r [] us h = absurd (none_some r h)
own_more d r (t ∷ ts) us h = by_test (own_more d r ts us) (t.device == d) h
  where
    is_at : Task → Bool
    is_at u = u.device == d

    ended : Task → Option SeizeResult
    ended u = result_in u.work

    by_test : (own_result d ts ≡ Some r → own_result d (ts ++ us) ≡ Some r) → (b : Bool) → option_and_then ended (if b then Some t else find is_at ts) ≡ Some r
        → option_and_then ended (if b then Some t else find is_at (ts ++ us)) ≡ Some r
    by_test rest true k = k
    by_test rest false k = rest k

-- ---- runs

pub told_own : (h : Header) (cells : ℕ) (hs : List Happening) → Point h cells hs → (n : ℕ) (x : UpNode) (a : AttemptState) → (all_happened (first_cluster h) (first_scene h cells) hs).nodes.node n ≡ Up x
    → x.attempt ≡ Some a → is_seizing a.phase ≡ true → (d : ℕ) (r : SeizeResult) → IsAmong n (body.Seized a.plan.epoch d r) (all_happened (first_cluster h) (first_scene h cells) hs).nodes.sent → own_result d x.tasks ≡ Some r
told_own h cells hs z n x a up has_it seizing d r told =
    ended_own x.tasks d r (all_seize a.plan.coordinator a.promises a.devices x.tasks (own.seizes seizing g.ordered)) (said.single fresh)
    (said.kept a.plan.epoch d r told g.so.some g.so.epoch (λ same. fresh (same ∙ g.so.epoch)))
  where
    s : Scene
    s = all_happened (first_cluster h) (first_scene h cells) hs

    size : IsSmall h
    size = record { few = z.few; small = z.small }

    g : Ground h s n x a
    g = ground_at h cells s n x a size (record { happenings = hs; may = z.may; is = refl }) up has_it

    own : Owns n x.tasks a
    own = owned_of n x a (subst (IsAt (Owned n)) up (run_owned h cells hs size z.may n)) has_it

    said : Said (tale_of n s.nodes.sent) x
    said = subst (NodeSaid (tale_of n s.nodes.sent)) up (run_said h cells hs size z.may n).here

    k : Comes_to (lines_of (setting_of h)) cells s z.last.wants
    k = comes_to (setting_of h) cells hs z.last z.few z.small z.disks z.may z.shaped

    queue : queues.UpSo (lines_of (setting_of h)) s.moments n None x
    queue = subst (NodeSo (lines_of (setting_of h)) s.moments n None) up (k.so n)

    fresh : installed_of x ≢ session_of x
    fresh same =
        false_true (sym (g.so.before (seizing_before a.phase seizing)) ∙ (ap (λ q. has_installed n q s.moments) g.so.epoch ∙ queue.done (subst (λ q. 0 < q) g.so.epoch g.so.some) same))

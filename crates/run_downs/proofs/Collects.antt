-- At a Collect a node saves its promise, or saves nothing.
use Rattle.std.specs.Prelude.{ℕ, ◌≡◌, ◌≤◌, ◌⊎◌, true, false, List, [], ◌∷◌, Option, None, Some, if◌then◌else◌, nat_lt}
use Rattle.std.specs.List.{AllByRecursion}
use Rattle.std.proofs.Common.{refl, sym, ap, subst, ◌∙◌, inl, inr}
use Rattle.cl_base.specs.declared.method.Outcome as method
use Rattle.cmm_attempt.specs.Attempts.{AttemptState}
use Rattle.cmm_member.specs.Records.{NodeRecord}
use Rattle.history.specs.Letters.{arrived}
use Rattle.history.specs.Member.{promised_to}
use Rattle.history.specs.Moment.{Moment}
use Rattle.history.specs.Saves.{or_zero}
use Rattle.node_model.specs.declared.cluster.Cluster.{Cluster}
use Rattle.node_model.specs.declared.input.Input.TheVariants as input
use Rattle.node_model.specs.declared.node.Node.TheVariants.{Up}
use Rattle.node_model.specs.declared.node.UpNode.{UpNode}
use Rattle.node_model.specs.declared.output.Output.{Output}
use Rattle.node_model.specs.declared.output.Output.TheVariants.{Sends, Tells}
use Rattle.node_model.specs.declared.seat.Seat.{Seat}
use Rattle.node_model.specs.declared.seat.Seat.TheVariants.{Forming, Member}
use Rattle.node_model.specs.Attempts.{promise_of}
use Rattle.node_model.specs.Members.{hearing, is_foreign, promised_so, rested_by}
use Rattle.node_model.specs.Seats.{is_in, promised_of, promising, record_of}
use Rattle.node_model.specs.Steps.{Outcome, at_second, carried, stepped, unless_lost}
use Rattle.record_disk.specs.Disks.{DiskState, saving}
use Rattle.record_disk.specs.Laws.{done_keeps}
use Rattle.record_disk.specs.declared.error.Loss.{Loss}
use Rattle.record_disk.specs.declared.error.Loss.TheVariants.{Fault, Stopped}
use Rattle.refinement.specs.Courses.{Course, plan_from, saying}
use Rattle.refinement.specs.Courses.Course.{Acts, Keeps, Stops}
use Rattle.refinement.specs.Cuts as cuts
use Rattle.refinement.specs.Doings.{last_lines, saved_lines}
use Rattle.refinement.specs.Doings.Act.{Hears}
use Rattle.refinement.specs.Doings.Change.{Promises}
use Rattle.refinement.specs.Steps.{disk_rules}
use Rattle.refinement.proofs.Cuts.{step_of_node_is_its_course}
use Rattle.status_report.specs.declared.entry.Entry.TheVariants as entry
use Rattle.status_report.specs.declared.node_entry.NodeEntry.TheVariants as note
use Rattle.wire.specs.declared.message.Body.{Body}
use Rattle.wire.specs.declared.message.Body.TheVariants as body
use Rattle.wire.specs.declared.message.Message.{Message}
use Rattle.run_history.proofs.Lists.{both}
use Rattle.run_downs.proofs.Courses.{by_test, says_all}
use Rattle.run_downs.proofs.Outputs.{last_steady}
use Rattle.run_downs.proofs.Promises.{FitsSave, collects_in}
use Rattle.run_downs.specs.Calls.{AllSteady, IsSteady}

-- ---- what it saves

abbrev pub IsNoSave : Output → Type 0
IsNoSave (Tells (entry.Node m note.Saved)) = ⊥
IsNoSave _ = Unit {0}

-- a save is the node's own
abbrev pub IsOwnSave : ℕ → Output → Type 0
IsOwnSave n (Tells (entry.Node m note.Saved)) = m ≡ n
IsOwnSave n _ = Unit {0}

one_own : (n : ℕ) (o : Output) → IsSteady o → IsOwnSave n o
one_own n (Tells (entry.Node m note.Saved)) h = absurd h
one_own n _ h = tt

steady_own : (n : ℕ) (os : List Output) → AllSteady os → AllByRecursion (IsOwnSave n) os
steady_own n [] h = tt
steady_own n (o ∷ os) h = (one_own n o h.0, steady_own n os h.1)

-- p is promised then, and each save is the node's own; or it saves nothing
abbrev pub CollectOut : ℕ → ℕ → Outcome DiskState → Type 0
CollectOut p n o = ((o.disk.kept.promised ≡ p) × AllByRecursion (IsOwnSave n) o.given) ⊎ AllByRecursion IsNoSave o.given

promised_in : (x : UpNode) (p : ℕ) (o : Option AttemptState) → promised_of (rested_by (promising x p) o) ≡ p
promised_in x p None = by_seat x.seat
  where
    by_seat : (seat : Seat) → promised_of (promising (record x { seat = seat }) p) ≡ p
    by_seat (Forming s) = refl
    by_seat (Member s) = refl
promised_in x p (Some a) = refl

collect_out : (c : Cluster) (n : ℕ) (x : UpNode) (from p : ℕ) (disk : DiskState) → CollectOut p n (carried saving n (plan_from c n x (cuts.collect_course x from p)) [] disk)
collect_out c n x from p disk =
    by_test P (nat_lt (promised_of x) p) (Keeps (Promises p) rest) (if is_in x p then cuts.writing from (promise_of x p) else cuts.writing from (body.Nack p (promised_of x)))
    (λ less. by_loss (saving disk r).lost refl)
    (λ more. by_test P (is_in x p) (cuts.writing from (promise_of x p)) (cuts.writing from (body.Nack p (promised_of x))) (λ y. inr (tt, tt)) (λ z. inr (tt, tt)))
  where
    P : Course → Type 0
    P k = CollectOut p n (carried saving n (plan_from c n x k) [] disk)

    y : UpNode
    y = promised_so x p

    rest : Course
    rest = cuts.writing from (promise_of y p)

    r : NodeRecord
    r = record_of y

    last : List Output
    last = saved_lines c n x (Promises p)

    after : DiskState
    after = (saving disk r).after

    by_loss : (lost : Option Loss) → (saving disk r).lost ≡ lost → CollectOut p n (unless_lost n [] after lost (carried saving n (saying last (plan_from c n y rest)) [] after))
    by_loss None e =
        subst (CollectOut p n) (says_all n last (plan_from c n y rest) [] after)
        (inl (
          ap (λ (z : NodeRecord). z.promised) (done_keeps disk r e) ∙ promised_in x p x.attempt,
          both (IsOwnSave n) last (Sends from (promise_of y p) ∷ []) (refl, steady_own n (last_lines c n x (Promises p)) (last_steady c n x (Promises p))) (tt, tt),
        ))
    by_loss (Some Stopped) e = inr (tt, tt)
    by_loss (Some Fault) e = inr (tt, tt)

pub collected : (c : Cluster) (n now : ℕ) (ends : method.Outcome) (x : UpNode) (from : ℕ) (m : Message) (p members : ℕ) (disk : DiskState) → m.body ≡ body.Collect p members
    → CollectOut p n (stepped disk_rules c n now ends (Up x) disk (input.Packet from m))
collected c n now ends x from m p members disk is =
    subst (CollectOut p n) (sym ((step_of_node_is_its_course saving c n now ends x (input.Packet from m)).is [] disk))
    (by_test P (is_foreign c n y m.body) Stops (Acts (Hears from m.body) (cuts.body_course c n ends (hearing y from m.body) from m m.body)) (λ foreign. inr tt)
    (λ own. subst (λ (b : Body). CollectOut p n (carried saving n (plan_from c n (hearing y from b) (cuts.body_course c n ends (hearing y from b) from m b)) [] disk)) (sym is)
    (collect_out c n (hearing y from (body.Collect p members)) from p disk)))
  where
    y : UpNode
    y = at_second now x

    P : Course → Type 0
    P k = CollectOut p n (carried saving n (plan_from c n y k) [] disk)

-- ---- what fits

not_so : false ≡ true → ⊥
not_so h = cc

none_fits : (B : ℕ → ℕ) (ms : List Moment) (o : Output) → IsNoSave o → FitsSave B ms o
none_fits B ms (Tells (entry.Node m note.Saved)) h = absurd h
none_fits B ms _ h = tt

own_fits : (B : ℕ → ℕ) (n p : ℕ) (ms : List Moment) (o : Output) → promised_to ms ≡ Some p → p ≤ B n → IsOwnSave n o → FitsSave B ms o
own_fits B n p ms (Tells (entry.Node m note.Saved)) asked low h = λ collects. subst (λ k. or_zero (promised_to ms) ≤ B k) (sym h) (subst (λ q. or_zero q ≤ B n) (sym asked) low)
own_fits B n p ms _ asked low h = tt

pub collect_fits : (B : ℕ → ℕ) (n p : ℕ) (ms : List Moment) (o : Outcome DiskState) → promised_to ms ≡ Some p → o.disk.kept.promised ≤ B n → CollectOut p n o → AllByRecursion (FitsSave B ms) o.given
collect_fits B n p ms o asked low (inl h) = go o.given h.1
  where
    go : (os : List Output) → AllByRecursion (IsOwnSave n) os → AllByRecursion (FitsSave B ms) os
    go [] k = tt
    go (q ∷ os) k = (own_fits B n p ms q asked (subst (λ a. a ≤ B n) h.0 low) k.0, go os k.1)
collect_fits B n p ms o asked low (inr h) = go o.given h
  where
    go : (os : List Output) → AllByRecursion IsNoSave os → AllByRecursion (FitsSave B ms) os
    go [] k = tt
    go (q ∷ os) k = (none_fits B ms q k.0, go os k.1)

other_fits : (B : ℕ → ℕ) (ms : List Moment) (o : Output) → ((m : ℕ) → collects_in m (arrived ms) ≡ false) → FitsSave B ms o
other_fits B ms (Tells (entry.Node m note.Saved)) none = λ collects. absurd (not_so (sym (none m) ∙ collects))
other_fits B ms _ none = tt

-- where no Collect came
pub others_fit : (B : ℕ → ℕ) (ms : List Moment) (os : List Output) → ((m : ℕ) → collects_in m (arrived ms) ≡ false) → AllByRecursion (FitsSave B ms) os
others_fit B ms [] none = tt
others_fit B ms (o ∷ os) none = (other_fits B ms o none, others_fit B ms os none)

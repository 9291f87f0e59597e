-- A coordinator that is alone has come to its tasks, where its attempt begins in a tick: its own Promise shows what its record holds valid.
use Rattle.std.specs.Prelude.{ℕ, ◌≡◌, ◌⊎◌, ◌==◌, ◌&&◌, ◌++◌, true, false, List, [], ◌∷◌, Option, None, Some, option_map}
use Rattle.std.specs.List.{AllByRecursion}
use Rattle.std.proofs.Common.{refl, sym, ap, subst, ◌∙◌, inl, inr}
use Rattle.attempt_laws.proofs.Stays.{plan_begins, plan_stays}
use Rattle.cl_base.specs.Sets.{has}
use Rattle.cl_base.specs.declared.method.Outcome as method
use Rattle.cmm_attempt.proofs.Basics.{and_cases, false_true, if_either, or_cases, same_some}
use Rattle.cmm_attempt.specs.Attempts.{AttemptState, Turn, all_promised, beginning, begun, choosing, chosen_by, collects, first_state, promises_of, with_steps}
use Rattle.cmm_attempt.specs.Calls.{IsReached, With_votes}
use Rattle.cmm_attempt.specs.Promises.{holds_valid, newest_shown, promised_by, shown_by}
use Rattle.cmm_attempt.specs.declared.attached.AttachedDevice.{AttachedDevice}
use Rattle.cmm_attempt.specs.declared.counting.BothVotes.{BothVotes}
use Rattle.cmm_attempt.specs.declared.plan.Plan.{Plan}
use Rattle.cmm_attempt.specs.declared.promised.Shown.{Shown}
use Rattle.history.specs.Letters.{arrived}
use Rattle.history.specs.Member.{in_collect}
use Rattle.history.specs.Setting.{Setting, coordinator}
use Rattle.node_model.specs.Attempts.{own_promise, promise_of, votes_in}
use Rattle.node_model.specs.Seats.{promising, record_of}
use Rattle.node_model.specs.declared.cluster.Cluster.{Cluster}
use Rattle.node_model.specs.declared.input.Input.{Input}
use Rattle.node_model.specs.declared.node.UpNode.{UpNode}
use Rattle.node_model.specs.declared.output.Output.{Output}
use Rattle.node_model.specs.declared.output.Output.TheVariants.{Tells}
use Rattle.refinement.specs.Cuts as cuts
use Rattle.refinement.specs.Doings.{changed}
use Rattle.refinement.specs.Doings.Change.{Leads}
use Rattle.refinement.specs.Runs.{moved}
use Rattle.refinement.specs.Runs.Move.{Takes as Takes_in}
use Rattle.run_downs.proofs.Packets.{IsNoPacket, no_packets}
use Rattle.run_history.specs.Happenings.{given_by, taking}
use Rattle.run_history.specs.Scenes.{Scene, passing}
use Rattle.run_messages.proofs.Collecting.{nothing_collects}
use Rattle.status_report.specs.declared.attempt_entry.AttemptEntry.TheVariants as tried
use Rattle.status_report.specs.declared.entry.Entry.TheVariants as entry
use Rattle.wire.specs.declared.message.Message.{Message}
use Rattle.run_outcomes.specs.phases.Laws.{is_seizing}
use Rattle.run_outcomes.proofs.onward.Asked.{HoldsOwn}
use Rattle.run_outcomes.proofs.onward.Befores.{votes_given}
use Rattle.run_outcomes.proofs.onward.Begins.{begun_led}
use Rattle.run_outcomes.proofs.onward.Ticks.{BegunSo}
use Rattle.run_outcomes.proofs.phases.Leading.{is_choice}
use Rattle.run_outcomes.proofs.saves.Here.{passing_came}
use Rattle.run_outcomes.proofs.told_tasks.Led.{LedOn}

-- ---- the own Promise

chosen_keeps : (s : AttemptState) (o : Option Shown) → (chosen_by s o).after.promises ≡ s.promises
chosen_keeps s None = refl
chosen_keeps s (Some newest) = refl

choosing_keeps : (s : AttemptState) → (choosing s).after.promises ≡ s.promises
unfolding choosing
choosing_keeps s = chosen_keeps s (newest_shown s.promises)

begun_keeps : (s : AttemptState) → (begun s).after.promises ≡ s.promises
begun_keeps s = if_either (λ (t : Turn). t.after.promises ≡ s.promises) (all_promised s) (choosing s) (with_steps s (collects s)) (choosing_keeps s) refl

first_promises : (p members : ℕ) (own : Message) (attached : List AttachedDevice) (cluster : ℕ) → (beginning p members own attached cluster).after.promises ≡ promises_of (promised_by own (shown_by own.sender own.body))
unfolding beginning
first_promises p members own attached cluster = begun_keeps (first_state p members own attached cluster (promises_of (promised_by own (shown_by own.sender own.body))))

-- what a message shows, where it is a Promise
shown_holds : (m : Message) (d k v : ℕ) (o : Option Shown) → option_map (λ (s : Shown). s.valid) o ≡ Some v → holds_valid (promises_of (promised_by m o)) d k ≡ true → has v d ≡ true
shown_holds m d k v None same is = absurd (false_true is)
shown_holds m d k v (Some s) same is = by_cases (or_cases ((s.summary.node == k) && has s.valid d) false is)
  where
    by_cases : (((s.summary.node == k) && has s.valid d) ≡ true) ⊎ (false ≡ true) → has v d ≡ true
    by_cases (inl h) = subst (λ z. has z d ≡ true) (same_some s.valid v same) (and_cases (s.summary.node == k) (has s.valid d) h).1
    by_cases (inr h) = absurd (false_true h)

-- where the attempt begins it shows what the record holds
first_holds : (c : Cluster) (n : ℕ) (x : UpNode) (p members d m : ℕ) → holds_valid (cuts.first_turn c n x p members).after.promises d m ≡ true → has (record_of (changed c n x (Leads p members))).valid d ≡ true
first_holds c n x p members d m is =
    let y : UpNode = record (promising x p) { greatest = p } in
    shown_holds (own_promise n y p) d m (record_of y).valid (shown_by n (promise_of y p)) refl (subst (λ ps. holds_valid ps d m ≡ true) (first_promises p members (own_promise n y p) c.attached c.id) is)

-- ---- the tick

front : {X : Type 0} (P : X → Type 0) (xs ys : List X) → AllByRecursion P (xs ++ ys) → AllByRecursion P xs
front P [] ys h = tt
front P (x ∷ xs) ys h = (h.0, front P xs ys h.1)

pub begun_here : (S : Setting) (c : Cluster) (n now : ℕ) (ends : method.Outcome) (i : Input) (t : Scene) (y : UpNode) (b : AttemptState) (both : BothVotes) → arrived t.moments ≡ None → is_seizing b.phase ≡ true
    → b.votes ≡ Some both → IsReached b → coordinator b.plan.epoch ≡ n → c.id ≡ S.header.cluster → BegunSo c n b y.tasks (given_by c n now ends i t.nodes) → LedOn S n y b both (taking c n now ends i t).moments
begun_here S c n now ends i t y b both apart seizing given reached own cluster k = begun_led S c n all w y b both k calm seizing given reached cluster (ap coordinator (sym epoch) ∙ own) holds
  where
    all : List Output
    all = given_by c n now ends i t.nodes

    w : Scene
    w = record t { nodes = moved c t.nodes (Takes_in n now ends i) }

    first : AttemptState
    first = (cuts.first_turn c n k.node k.p k.members).after

    mark : List Output
    mark = Tells (entry.Attempt (tried.Begun k.p k.members)) ∷ []

    free : AllByRecursion IsNoPacket k.before
    free = front IsNoPacket k.before mark (front IsNoPacket (k.before ++ mark) k.os (subst (AllByRecursion IsNoPacket) k.parts (no_packets c n now ends (t.nodes.node n) (t.nodes.disk n) i)))

    calm : in_collect n (passing n k.before w).moments ≡ false
    calm = nothing_collects n (passing n k.before w).moments (passing_came n k.before w free ∙ apart)

    epoch : b.plan.epoch ≡ k.p
    epoch =
        ap (λ (a : AttemptState). a.plan.epoch) k.turn.is
        ∙ (ap (λ (q : Plan). q.epoch) (plan_stays first (With_votes (votes_in c first)) (is_choice first.phase k.alone)) ∙ (plan_begins k.p k.members _ c.attached c.id).of_epoch)

    promises : b.promises ≡ first.promises
    promises = ap (λ (a : AttemptState). a.promises) k.turn.is ∙ (votes_given first (votes_in c first)).0

    holds : HoldsOwn b (record_of (changed c n k.node (Leads k.p k.members))).valid
    holds d range counts is = first_holds c n k.node k.p k.members d b.plan.coordinator (subst (λ ps. holds_valid ps d b.plan.coordinator ≡ true) promises is)

-- A coordinator that is alone has come to its tasks by the votes, where its attempt begins in a tick.
use Rattle.std.specs.Prelude.{ℕ, ◌≡◌, ◌==◌, ◌++◌, true, false, Bool, List, [], ◌∷◌, None, Some, if◌then◌else◌}
use Rattle.std.proofs.Common.{arith, refl, sym, ap, ◌∙◌}
use Rattle.attempt_laws.proofs.Stays.{plan_begins, plan_stays}
use Rattle.cmm_attempt.specs.Attempts.{AttemptState}
use Rattle.cmm_attempt.specs.Calls.{IsReached, With_votes}
use Rattle.cmm_attempt.specs.declared.counting.BothVotes.{BothVotes}
use Rattle.cmm_attempt.specs.declared.plan.Plan.{Plan}
use Rattle.history.specs.Member.{in_collect}
use Rattle.history.specs.Moment.{Moment}
use Rattle.history.specs.Queue as told
use Rattle.history.specs.Setting.{Setting, coordinator}
use Rattle.history.specs.Trace.{attempt}
use Rattle.node_model.specs.Attempts.{votes_in}
use Rattle.node_model.specs.Seats.{record_of}
use Rattle.node_model.specs.declared.cluster.Cluster.{Cluster}
use Rattle.node_model.specs.declared.node.UpNode.{UpNode}
use Rattle.node_model.specs.declared.output.Output.{Output}
use Rattle.node_model.specs.declared.output.Output.TheVariants.{Tells}
use Rattle.refinement.specs.Cuts as cuts
use Rattle.refinement.specs.Doings.{changed}
use Rattle.refinement.specs.Doings.Change.{Leads}
use Rattle.run_history.specs.Scenes.{Scene, passing, passing_one, telling}
use Rattle.status_report.specs.declared.attempt_entry.AttemptEntry.TheVariants as tried
use Rattle.status_report.specs.declared.entry.Entry.TheVariants as entry
use Rattle.run_outcomes.specs.phases.Laws.{is_seizing}
use Rattle.run_outcomes.proofs.phases.Leading.{is_choice}
use Rattle.run_outcomes.proofs.onward.Asked.{HoldsOwn}
use Rattle.run_outcomes.proofs.onward.Comes.{votes_led}
use Rattle.run_outcomes.proofs.onward.Passing.{Passed, still_passed}
use Rattle.run_outcomes.proofs.onward.Ticks.{BegunSo}
use Rattle.run_outcomes.proofs.told_tasks.Led.{LedOn}

pub passing_both : (n : ℕ) (os more : List Output) (s : Scene) → passing n (os ++ more) s ≡ passing n more (passing n os s)
passing_both n [] more s = refl
passing_both n (o ∷ os) more s = passing_both n os more (passing_one n o s)

itself : (a b : ℕ) → a ≡ b → (a == b) ≡ true
itself a b e = grind arith

if_on : {X : Type 0} (b : Bool) (x y : X) → b ≡ true → (if b then x else y) ≡ x
if_on b x y is = ap (λ z. if z then x else y) is

-- the lines before that one tell of no Collect
pub begun_led : (S : Setting) (c : Cluster) (n : ℕ) (all : List Output) (w : Scene) (y : UpNode) (b : AttemptState) (both : BothVotes) (k : BegunSo c n b y.tasks all)
    → in_collect n (passing n k.before w).moments ≡ false → is_seizing b.phase ≡ true → b.votes ≡ Some both → IsReached b → c.id ≡ S.header.cluster → coordinator k.p ≡ n
    → HoldsOwn b (record_of (changed c n k.node (Leads k.p k.members))).valid → LedOn S n y b both (passing n all w).moments
begun_led S c n all w y b both k calm seizing given reached cluster own holds =
    votes_led S c n (record_of (changed c n k.node (Leads k.p k.members))).valid first (votes_in c first) [] y b both (passing n all w).moments
    (record {
      seizing = seizing;
      given = given;
      reached = reached;
      cluster = cluster;
      marked = mark ∷ ms;
      newer = z.newer;
      parts = ap (λ os. (passing n os w).moments) k.parts
          ∙ (ap (λ (s : Scene). s.moments) (passing_both n (k.before ++ line ∷ []) k.os w)
          ∙ (ap (λ s. (passing n k.os s).moments) (passing_both n k.before (line ∷ []) w) ∙ z.parts));
      quiet = z.quiet;
      had = [];
      same = tt;
      told_so = if_on (coordinator k.p == n) (told.with_own S n (Some k.p) (mark ∷ ms) []) (told.tasks_of S n ms) (itself (coordinator k.p) n own)
          ∙ ap (λ e. told.with_own S n (Some e) (mark ∷ ms) []) (sym epoch);
    }) (is_choice first.phase k.alone) holds
    (λ d. ap (λ e. told.asked_last e d (mark ∷ ms)) first_epoch ∙ if_on (k.p == k.p) None (told.asked_last k.p d ms) (itself k.p k.p refl)) k.turn
  where
    first : AttemptState
    first = (cuts.first_turn c n k.node k.p k.members).after

    line : Output
    line = Tells (entry.Attempt (tried.Begun k.p k.members))

    mark : Moment
    mark = attempt k.p k.members

    ms : List Moment
    ms = (passing n k.before w).moments

    z : Passed n (mark ∷ ms) (passing n k.os (telling (entry.Attempt (tried.Begun k.p k.members)) (passing n k.before w))).moments
    z = still_passed n k.os (telling (entry.Attempt (tried.Begun k.p k.members)) (passing n k.before w)) calm k.still

    first_epoch : first.plan.epoch ≡ k.p
    first_epoch = (plan_begins k.p k.members _ c.attached c.id).of_epoch

    epoch : b.plan.epoch ≡ k.p
    epoch = ap (λ (a : AttemptState). a.plan.epoch) k.turn.is ∙ (ap (λ (q : Plan). q.epoch) (plan_stays first (With_votes (votes_in c first)) (is_choice first.phase k.alone)) ∙ first_epoch)

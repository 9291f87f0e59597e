-- In a tick, and where neither a packet nor an answer comes to it, a coordinator is asked for no device anew.
use Rattle.std.specs.Prelude.{ℕ, ◌==◌, ◌||◌, ◌≡◌, ◌⊎◌, ◌++◌, Bool, true, false, List, [], ◌∷◌}
use Rattle.std.specs.List.{AllByRecursion, list_any}
use Rattle.std.proofs.Common.{append-nil, arith, refl, sym, ap, subst, ◌∙◌, inl, inr}
use Rattle.attempt_laws.proofs.Stays.{plan_begins, plan_stays}
use Rattle.cl_base.specs.declared.header.Header.{Header}
use Rattle.cl_base.specs.declared.method.Outcome as method
use Rattle.cmm_attempt.proofs.Basics.{false_true, same_some}
use Rattle.cmm_attempt.specs.Attempts.{AttemptState}
use Rattle.cmm_attempt.specs.Calls.{Tick as Call_tick, With_votes}
use Rattle.cmm_attempt.specs.declared.plan.Plan.{Plan}
use Rattle.history.specs.Contact.{AttemptsDiffer}
use Rattle.history.specs.Moment.{Moment}
use Rattle.history.specs.Seizing.{is_attempt}
use Rattle.history.specs.Trace.{attempt}
use Rattle.node_model.specs.Attempts.{votes_in}
use Rattle.node_model.specs.Steps.{at_second}
use Rattle.node_model.specs.declared.cluster.Cluster.{Cluster}
use Rattle.node_model.specs.declared.input.Input.{Input}
use Rattle.node_model.specs.declared.input.Input.TheVariants.{Tick}
use Rattle.node_model.specs.declared.node.UpNode.{UpNode}
use Rattle.node_model.specs.declared.output.Output.{Output}
use Rattle.node_model.specs.declared.output.Output.TheVariants.{Sends, Tells}
use Rattle.refinement.specs.Cuts as cuts
use Rattle.refinement.specs.Runs.{moved}
use Rattle.refinement.specs.Runs.Move.{Takes as Takes_in}
use Rattle.run_history.specs.Happenings.{given_by, taking}
use Rattle.run_history.specs.Scenes.{Scene, passing, telling}
use Rattle.run_lines.proofs.Adds.{onto}
use Rattle.status_report.specs.declared.attempt_entry.AttemptEntry.TheVariants as tried
use Rattle.status_report.specs.declared.entry.Entry.TheVariants as entry
use Rattle.world_model.specs.First.{first_cluster}
use Rattle.run_outcomes.specs.phases.Kept.{In}
use Rattle.run_outcomes.specs.phases.Laws.{is_seizing}
use Rattle.run_outcomes.specs.tasks.Onward.{AreStill, Onward, OnwardOf}
use Rattle.run_outcomes.proofs.onward.Begins.{passing_both}
use Rattle.run_outcomes.proofs.onward.Here.{taken_here}
use Rattle.run_outcomes.proofs.onward.Inputs.{IsBesides, IsSame, besides_out}
use Rattle.run_outcomes.proofs.onward.Ticks.{AfterTick, BegunSo, TickOf, Ticked, tick_out}
use Rattle.run_outcomes.proofs.own_steps.Past.{IsResting, seizing_chooses_not, tick_begins_none}
use Rattle.run_outcomes.proofs.phases.Leading.{Has, is_choice}
use Rattle.run_outcomes.proofs.silence.GivenLines.{LineOf, Lined, given_lined}
use Rattle.run_outcomes.proofs.silence.Outgoing.{none_again}
use Rattle.run_outcomes.proofs.silence.ends.OwnSteps.{NewOwn, same_attempt, same_list}

-- ---- no attempt begins that was there before

any_line : (os : List Output) → AllByRecursion (LineOf (λ x. Unit {0})) os
any_line [] = tt
any_line (Tells e ∷ os) = (tt, any_line os)
any_line (Sends to b ∷ os) = ((λ p a k bytes. tt), any_line os)

given_on : (n : ℕ) (os : List Output) (s : Scene) → Lined (λ x. Unit {0}) s.moments (passing n os s).moments
given_on n os s = given_lined (λ x. Unit {0}) (λ p cause. tt) n os s (any_line os)

pub any_on : (f : Moment → Bool) (xs ms : List Moment) → list_any f ms ≡ true → list_any f (onto xs ms) ≡ true
any_on f [] ms h = h
any_on f (x ∷ xs) ms h = any_on f xs (x ∷ ms) (behind (f x) (list_any f ms) h)
  where
    behind : (p q : Bool) → q ≡ true → (p || q) ≡ true
    behind true q k = refl
    behind false q k = k

or_none : (p q : Bool) → (p || q) ≡ false → p ≡ false
or_none true q h = absurd (false_true (sym h))
or_none false q h = refl

pub none_begins : (c : Cluster) (n now : ℕ) (ends : method.Outcome) (i : Input) (s : Scene) (y : UpNode) (b : AttemptState) → AttemptsDiffer (taking c n now ends i s).moments → list_any (is_attempt b.plan.epoch) s.moments ≡ true
    → BegunSo c n b y.tasks (given_by c n now ends i s.nodes) → ⊥
none_begins c n now ends i s y b once there k = false_true (sym (or_none (k.p == b.plan.epoch) (list_any (is_attempt b.plan.epoch) later.xs) none) ∙ same k.p b.plan.epoch (sym epoch))
  where
    w : Scene
    w = record s { nodes = moved c s.nodes (Takes_in n now ends i) }

    first : AttemptState
    first = (cuts.first_turn c n k.node k.p k.members).after

    line : Output
    line = Tells (entry.Attempt (tried.Begun k.p k.members))

    start : Scene
    start = telling (entry.Attempt (tried.Begun k.p k.members)) (passing n k.before w)

    parts : (passing n (given_by c n now ends i s.nodes) w).moments ≡ (passing n k.os start).moments
    parts =
        ap (λ os. (passing n os w).moments) k.parts
        ∙ (ap (λ (z : Scene). z.moments) (passing_both n (k.before ++ line ∷ []) k.os w) ∙ ap (λ z. (passing n k.os z).moments) (passing_both n k.before (line ∷ []) w))

    earlier : Lined (λ x. Unit {0}) s.moments (passing n k.before w).moments
    earlier = given_on n k.before w

    later : Lined (λ x. Unit {0}) (attempt k.p k.members ∷ (passing n k.before w).moments) (passing n k.os start).moments
    later = given_on n k.os start

    epoch : b.plan.epoch ≡ k.p
    epoch =
        ap (λ (a : AttemptState). a.plan.epoch) k.turn.is
        ∙ (ap (λ (q : Plan). q.epoch) (plan_stays first (With_votes (votes_in c first)) (is_choice first.phase k.alone)) ∙ (plan_begins k.p k.members _ c.attached c.id).of_epoch)

    none : list_any (is_attempt b.plan.epoch) (attempt k.p k.members ∷ later.xs) ≡ false
    none =
        none_again b.plan.epoch (attempt k.p k.members ∷ later.xs) (passing n k.before w).moments (subst AttemptsDiffer (parts ∙ sym later.is) once)
        (subst (λ ms. list_any (is_attempt b.plan.epoch) ms ≡ true) earlier.is (any_on (is_attempt b.plan.epoch) earlier.xs s.moments there))

    same : (p q : ℕ) → p ≡ q → (p == q) ≡ true
    same p q h = grind arith

-- ---- what comes to the node

module _ (h : Header) (s t : Scene) (n : ℕ) (x y : UpNode) (a b : AttemptState) (d : ℕ) (k : NewOwn h s t n x y a b d) where
  abbrev c : Cluster
  c = first_cluster h

  -- a tick
  pub tick_never : (now : ℕ) (ends : method.Outcome) → t ≡ taking c n now ends Tick s → ⊥
  tick_never now ends is =
      by_way (subst (In (TickOf c n (at_second now x) y.tasks (given_by c n now ends Tick s.nodes))) k.has
      (taken_here c n now ends Tick s (AfterTick c n (at_second now x)) x y k.was (ap (λ (z : Scene). z.nodes.node n) (sym is) ∙ k.up) (λ so. tick_out c n ends (at_second now x) rests)) k.seizing)
    where
      rests : Has IsResting x
      rests = subst (In IsResting) (sym k.had) k.f.rests

      by_ticked : Ticked c n (at_second now x) b y.tasks → ⊥
      by_ticked (o, valid, at, seized, inr r) = false_true (sym (seizing_chooses_not o Call_tick tt seized) ∙ r.0)
      by_ticked (o, valid, at, seized, inl r) =
          same_list h s t n x y a b d k (ap (λ (z : AttemptState). is_seizing z.phase) (same_some a o (sym k.had ∙ at)) ∙ seized)
          (r.1.tasks ∙ (ap (λ us. x.tasks ++ us) (tick_begins_none c n valid o r.1.new r.1.begun) ∙ append-nil x.tasks))

      by_way : (AreStill n (given_by c n now ends Tick s.nodes) × Ticked c n (at_second now x) b y.tasks) ⊎ BegunSo c n b y.tasks (given_by c n now ends Tick s.nodes) → ⊥
      by_way (inl r) = by_ticked r.1
      by_way (inr r) =
          none_begins c n now ends Tick s y b (subst (λ (z : Scene). AttemptsDiffer z.moments) is k.g.once) (ap (λ e. list_any (is_attempt e) s.moments) k.number ∙ k.f.so.of.0) r

  -- neither a packet nor an answer
  pub beside_never : (now : ℕ) (ends : method.Outcome) (i : Input) (u : Scene) → IsBesides i → u.nodes.node n ≡ s.nodes.node n → t ≡ taking c n now ends i u → ⊥
  beside_never now ends i u beside same is =
      let so : AreStill n (given_by c n now ends i u.nodes) × IsSame x b y.tasks =
      subst (In (OnwardOf n (IsSame x) y.tasks (given_by c n now ends i u.nodes))) k.has
      (taken_here c n now ends i u (Onward n (IsSame x)) x y (same ∙ k.was) (ap (λ (z : Scene). z.nodes.node n) (sym is) ∙ k.up) (besides_out c n now ends x i beside)) k.seizing in
      same_attempt h s t n x y a b d k so.1.0

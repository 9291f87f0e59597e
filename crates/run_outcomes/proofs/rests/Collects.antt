-- What a Collect leaves of the tasks of a node: it promises, and drops them, or it sends alone.
use Rattle.std.specs.Prelude.{ℕ, ◌≡◌, ◌⊎◌, ◌++◌, nat_lt, List, [], ◌∷◌, Option, None, Some}
use Rattle.std.proofs.Common.{refl, sym, subst, inl, inr}
use Rattle.cl_base.specs.declared.method.Outcome as method
use Rattle.cmm_attempt.proofs.Basics.{if_either}
use Rattle.cmm_attempt.specs.Attempts.{AttemptState}
use Rattle.node_model.specs.Attempts.{promise_of}
use Rattle.node_model.specs.Entries.{unknown_lines}
use Rattle.node_model.specs.Members.{hearing, is_foreign, promised_so, rested_by}
use Rattle.node_model.specs.Seats.{is_in, promised_of, promising}
use Rattle.node_model.specs.declared.cluster.Cluster.{Cluster}
use Rattle.node_model.specs.declared.node.UpNode.{UpNode}
use Rattle.node_model.specs.declared.output.Output.{Output}
use Rattle.node_model.specs.declared.output.Output.TheVariants.{Sends}
use Rattle.refinement.specs.Courses.Course.{Acts, Keeps, Stops}
use Rattle.refinement.specs.Cuts as cuts
use Rattle.refinement.specs.Cuts.{writing}
use Rattle.refinement.specs.Doings.{last_lines, of_node, superseded_lines}
use Rattle.refinement.specs.Doings.Act.{Hears}
use Rattle.refinement.specs.Doings.Change.{Promises}
use Rattle.run_history.proofs.Lists.{both}
use Rattle.status_report.specs.declared.node_entry.NodeEntry.TheVariants as note
use Rattle.wire.specs.declared.message.Body.{Body}
use Rattle.wire.specs.declared.message.Body.TheVariants as body
use Rattle.wire.specs.declared.message.Message.{Message}
use Rattle.run_outcomes.specs.tasks.Onward.{AreStill, GoesOut, IsStill}
use Rattle.run_outcomes.proofs.onward.Beside.{unknown_still}

-- messages alone
abbrev pub AreSent : List Output → Type 0
AreSent [] = Unit {0}
AreSent (Sends to b ∷ os) = AreSent os
AreSent _ = ⊥

-- it saves, and nothing behind that changes its tasks
pub record Promised (n : ℕ) (all : List Output) : Type 0 where
  pub after : List Output
  pub parts : all ≡ of_node n note.Saved ∷ after
  pub still : AreStill n after

-- it has the attempt and the tasks of x, or none
abbrev pub Collected : ℕ → UpNode → UpNode → List Output → Type 0
Collected n x y all = ((y.attempt ≡ x.attempt) × (y.tasks ≡ x.tasks) × AreSent all) ⊎ ((y.tasks ≡ []) × Promised n all)

superseded_still : (n p : ℕ) (o : Option AttemptState) → AreStill n (superseded_lines p o)
superseded_still n p None = tt
superseded_still n p (Some a) = (tt, tt)

rested_tasks : (x : UpNode) (p : ℕ) (o : Option AttemptState) → (rested_by (promising x p) o).tasks ≡ []
rested_tasks x p None = refl
rested_tasks x p (Some a) = refl

collect_out : (c : Cluster) (n : ℕ) (x : UpNode) (from p : ℕ) → GoesOut c n (Collected n x) x [] (cuts.collect_course x from p)
collect_out c n x from p =
    if_either (GoesOut c n (Collected n x) x []) (nat_lt (promised_of x) p) (Keeps (Promises p) (writing from (promise_of (promised_so x p) p))) _
    (λ so. inr (
      rested_tasks x p x.attempt,
      record {
        after = last_lines c n x (Promises p) ++ Sends from (promise_of (promised_so x p) p) ∷ [];
        parts = refl;
        still = both (IsStill n) (last_lines c n x (Promises p)) (Sends from (promise_of (promised_so x p) p) ∷ [])
            (both (IsStill n) (superseded_lines p x.attempt) (unknown_lines n x.requests.waiting) (superseded_still n p x.attempt) (unknown_still n n x.requests.waiting)) (tt, tt);
      },
    ))
    (if_either (GoesOut c n (Collected n x) x []) (is_in x p) (writing from (promise_of x p)) (writing from (body.Nack p (promised_of x))) (λ so. inl (refl, refl, tt)) (λ so. inl (refl, refl, tt)))

pub collect_packet : (c : Cluster) (n : ℕ) (ends : method.Outcome) (x : UpNode) (from : ℕ) (m : Message) (e members : ℕ) → m.body ≡ body.Collect e members → GoesOut c n (Collected n x) x [] (cuts.packet_course c n ends x from m)
collect_packet c n ends x from m e members is =
    if_either (GoesOut c n (Collected n x) x []) (is_foreign c n x m.body) Stops (Acts (Hears from m.body) (cuts.body_course c n ends (hearing x from m.body) from m m.body)) (inl (refl, refl, tt))
    (λ so. subst (λ (b : Body). GoesOut c n (Collected n x) (hearing x from m.body) [] (cuts.body_course c n ends (hearing x from m.body) from m b)) (sym is) (collect_out c n (hearing x from m.body) from e))

-- What a message brings of lines leaves the tasks of a node that has an attempt after it: a Collect ends the attempt, or is answered by a message alone.
use Rattle.std.specs.Prelude.{ℕ, ◌≡◌, ◌⊎◌, ◌==◌, ◌&&◌, ◌++◌, nat_lt, false, List, [], ◌∷◌, Option, None, Some, if◌then◌else◌}
use Rattle.std.specs.List.{AllByRecursion}
use Rattle.std.proofs.Common.{refl, sym, ap, subst, ◌∙◌, inl, inr}
use Rattle.cl_base.specs.declared.method.Outcome as method
use Rattle.cmm_attempt.proofs.Basics.{if_either}
use Rattle.cmm_attempt.specs.Attempts.{AttemptState}
use Rattle.history.specs.Letters.{Letter, passes}
use Rattle.history.specs.Member.{in_collect}
use Rattle.history.specs.Moment.{Moment}
use Rattle.history.specs.Names as name
use Rattle.history.specs.Names.{named, same_name}
use Rattle.history.specs.Trace.{delivered}
use Rattle.node_model.specs.Attempts.{promise_of}
use Rattle.node_model.specs.Members.{hearing, is_foreign, promised_so, rested_by}
use Rattle.node_model.specs.Seats.{is_in, promised_of, promising}
use Rattle.node_model.specs.Steps.{at_second}
use Rattle.node_model.specs.declared.cluster.Cluster.{Cluster}
use Rattle.node_model.specs.declared.input.Input.TheVariants.{Packet}
use Rattle.node_model.specs.declared.node.Node.TheVariants.{Up}
use Rattle.node_model.specs.declared.node.UpNode.{UpNode}
use Rattle.node_model.specs.declared.output.Output.{Output}
use Rattle.node_model.specs.declared.output.Output.TheVariants.{Sends, Tells}
use Rattle.refinement.specs.Courses.{Course}
use Rattle.refinement.specs.Courses.Course.{Acts, Keeps, Stops}
use Rattle.refinement.specs.Cuts as cuts
use Rattle.refinement.specs.Cuts.{writing}
use Rattle.refinement.specs.Doings.Act.{Hears}
use Rattle.refinement.specs.Doings.Change.{Promises}
use Rattle.refinement.specs.Runs.{moved}
use Rattle.refinement.specs.Runs.Move.{Takes as Takes_in}
use Rattle.run_history.proofs.Lists.{both}
use Rattle.run_history.specs.Happenings.{given_by, taking}
use Rattle.run_history.specs.Scenes.{Scene, passing, posting}
use Rattle.run_messages.specs.records.Kept.{Came}
use Rattle.wire.specs.declared.message.Body.{Body}
use Rattle.wire.specs.declared.message.Body.TheVariants as body
use Rattle.wire.specs.declared.message.Message.{Message}
use Rattle.world_model.specs.Sends.{name_of}
use Rattle.run_outcomes.specs.phases.Kept.{In}
use Rattle.run_outcomes.specs.tasks.Onward.{AreStill, GoesOut}
use Rattle.run_outcomes.proofs.onward.Here.{given_passed, taken_here}
use Rattle.run_outcomes.proofs.onward.Passing.{Passed, none_passed, passed_on, posted_passed}

-- ---- messages alone

abbrev IsSend : Output → Type 0
IsSend (Sends to b) = Unit {0}
IsSend (Tells e) = ⊥

abbrev AreSends : List Output → Type 0
AreSends os = AllByRecursion IsSend os

-- their lines change nothing, whatever came before
sends_passed : (n : ℕ) (os : List Output) (s : Scene) → AreSends os → Passed n s.moments (passing n os s).moments
sends_passed n [] s h = none_passed n s.moments
sends_passed n (Tells e ∷ os) s h = absurd h.0
sends_passed n (Sends to b ∷ os) s h =
    let m : Message = record { sender = n; body = b } in
    let t : Scene = posting n to m s in
    passed_on n s.moments t.moments (passing n os t).moments (posted_passed n n to m s) (sends_passed n os t h.1)

-- ---- a Collect

-- where the node has an attempt, nothing else was given
abbrev AloneOf : List Output → AttemptState → Type 0
AloneOf os b = AreSends os

abbrev Alone : UpNode → List Output → Type 0
Alone y os = In (AloneOf os) y.attempt

alone : (y : UpNode) (os : List Output) → AreSends os → Alone y os
alone y os h = by_attempt y.attempt
  where
    by_attempt : (o : Option AttemptState) → In (AloneOf os) o
    by_attempt None = tt
    by_attempt (Some b) = h

none_promised : (x : UpNode) (p : ℕ) (os : List Output) (o : Option AttemptState) → Alone (rested_by (promising x p) o) os
none_promised x p os None = tt
none_promised x p os (Some a) = tt

answered : (c : Cluster) (n : ℕ) (x : UpNode) (to : ℕ) (b : Body) (os : List Output) → AreSends os → GoesOut c n Alone x os (writing to b)
answered c n x to b os h = λ so. alone x (os ++ Sends to b ∷ []) (both IsSend os (Sends to b ∷ []) h (tt, tt))

collected : (c : Cluster) (n : ℕ) (x : UpNode) (from p : ℕ) (os : List Output) → AreSends os → GoesOut c n Alone x os (cuts.collect_course x from p)
collected c n x from p os h =
    let again : Course = writing from (promise_of x p) in
    let no : Course = writing from (body.Nack p (promised_of x)) in
    if_either (GoesOut c n Alone x os) (nat_lt (promised_of x) p) (Keeps (Promises p) (writing from (promise_of (promised_so x p) p))) (if is_in x p then again else no) (λ so. none_promised x p _ x.attempt)
    (if_either (GoesOut c n Alone x os) (is_in x p) again no (answered c n x from (promise_of x p) os h) (answered c n x from (body.Nack p (promised_of x)) os h))

abbrev IsCollect : Body → Type 0
IsCollect (body.Collect e members) = Unit {0}
IsCollect _ = ⊥

body_alone : (c : Cluster) (n : ℕ) (ends : method.Outcome) (x : UpNode) (from : ℕ) (m : Message) (b : Body) → IsCollect b → GoesOut c n Alone x [] (cuts.body_course c n ends x from m b)
body_alone c n ends x from m (body.Collect e members) is = collected c n x from e [] tt
body_alone c n ends x from m _ is = absurd is

packet_alone : (c : Cluster) (n : ℕ) (ends : method.Outcome) (x : UpNode) (from : ℕ) (m : Message) → IsCollect m.body → GoesOut c n Alone x [] (cuts.packet_course c n ends x from m)
packet_alone c n ends x from m is =
    if_either (GoesOut c n Alone x []) (is_foreign c n x m.body) Stops (Acts (Hears from m.body) (cuts.body_course c n ends (hearing x from m.body) from m m.body)) (alone x [] tt)
    (λ so. body_alone c n ends (hearing x from m.body) from m m.body is)

-- ---- another message

collect_or : (b : Body) → IsCollect b ⊎ (same_name (named (name_of b)) name.Collect ≡ false)
collect_or (body.Collect e members) = inl tt
collect_or _ = inr refl

calm_at : (n p from : ℕ) (ms : List Moment) (b : Body) (came : Came (delivered p from n ∷ ms) n from b) → same_name (named (name_of b)) name.Collect ≡ false → in_collect n (delivered p from n ∷ ms) ≡ false
calm_at n p from ms b came off =
    ap (passes (λ (l : Letter). same_name l.name name.Collect && (l.to == n))) came.here
    ∙ (ap (λ q. same_name q name.Collect && (came.letter.to == n)) came.called ∙ ap (λ z. z && (came.letter.to == n)) off)

-- ---- what a node with an attempt gives as a message comes

-- nothing of it changes its tasks, so no line does
pub packet_passed : (c : Cluster) (n number from now : ℕ) (ends : method.Outcome) (m : Message) (ms : List Moment) (t : Scene) (x y : UpNode) (b : AttemptState) → t.moments ≡ delivered number from n ∷ ms
    → Came (delivered number from n ∷ ms) n from m.body → t.nodes.node n ≡ Up x → (taking c n now ends (Packet from m) t).nodes.node n ≡ Up y → y.attempt ≡ Some b
    → AreStill n (given_by c n now ends (Packet from m) t.nodes) → Passed n (delivered number from n ∷ ms) (taking c n now ends (Packet from m) t).moments
packet_passed c n number from now ends m ms t x y b line came was up at still = subst (λ zs. Passed n zs (taking c n now ends (Packet from m) t).moments) line (by_kind (collect_or m.body))
  where
    os : List Output
    os = given_by c n now ends (Packet from m) t.nodes

    by_kind : IsCollect m.body ⊎ (same_name (named (name_of m.body)) name.Collect ≡ false) → Passed n t.moments (taking c n now ends (Packet from m) t).moments
    by_kind (inl is) =
        sends_passed n os (record t { nodes = moved c t.nodes (Takes_in n now ends (Packet from m)) })
        (subst (In (AloneOf os)) at (taken_here c n now ends (Packet from m) t Alone x y was up (λ so. packet_alone c n ends (at_second now x) from m is)))
    by_kind (inr off) = given_passed c n now ends (Packet from m) t (subst (λ zs. in_collect n zs ≡ false) (sym line) (calm_at n number from ms m.body came off)) still

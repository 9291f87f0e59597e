-- In the event of a Collect a node saves nothing but its promise; and whether a step is in such an event.
use Rattle.std.specs.Prelude.{ℕ, ◌≡◌, ◌==◌, ◌&&◌, nat_lt, Bool, true, false, List, [], ◌∷◌, Option, None, Some}
use Rattle.std.proofs.Common.{refl, ap, sym, subst, ◌∙◌, arith}
use Rattle.cl_base.specs.declared.method.Outcome.{Outcome}
use Rattle.cmm_attempt.proofs.Basics.{if_either}
use Rattle.history.specs.Letters.{Letter, arrived, letter_of, passes}
use Rattle.history.specs.Member.{in_collect}
use Rattle.history.specs.Moment.{Moment}
use Rattle.history.specs.Names as name
use Rattle.history.specs.Names.{named, same_name}
use Rattle.history.specs.Trace.{delivered}
use Rattle.interconnect.specs.Links.{Packet, packet_of}
use Rattle.node_model.specs.declared.cluster.Cluster.{Cluster}
use Rattle.node_model.specs.declared.input.Input.{Input}
use Rattle.node_model.specs.declared.input.Input.TheVariants as input
use Rattle.node_model.specs.declared.node.Node.{Node}
use Rattle.node_model.specs.declared.node.Node.TheVariants.{Down, Up}
use Rattle.node_model.specs.declared.node.UpNode.{UpNode}
use Rattle.node_model.specs.Members.{hearing, is_foreign}
use Rattle.node_model.specs.Seats.{is_in, promised_of}
use Rattle.node_model.specs.Steps.{at_second}
use Rattle.refinement.specs.Courses.{Course, Reply, under}
use Rattle.refinement.specs.Courses.Course.{Acts, Falls, Keeps, Stops}
use Rattle.refinement.specs.Courses.Reply.{Done, Lost_new, Lost_old}
use Rattle.refinement.specs.Cuts.{body_course, collect_course, course_at, doings, down_doings}
use Rattle.refinement.specs.Doings.{Doing}
use Rattle.refinement.specs.Doings.Act.{Hears}
use Rattle.refinement.specs.Doings.Doing.{Comes_up, Does, Forgets, Goes_down, Loses, Saves}
use Rattle.refinement.proofs.Handlers.{delivered_by}
use Rattle.run_history.specs.Causes.{Posted}
use Rattle.run_history.specs.Scenes.{Scene}
use Rattle.run_history.specs.Stages.{Stage}
use Rattle.run_history.proofs.ContactFlying.{found_posted, number_found}
use Rattle.wire.specs.Reads.{whole_of}
use Rattle.wire.specs.declared.message.Body.{Body}
use Rattle.wire.specs.declared.message.Body.TheVariants as body
use Rattle.wire.specs.declared.message.Message.{Message}
use Rattle.world_model.specs.Sends.{name_of}
use Rattle.run_messages.specs.Steps.{AreCollected, IsCollected, collecting, is_collect}

-- ---- what is saved

any_collected : (ds : List Doing) → AreCollected false ds
any_collected [] = tt
any_collected (Comes_up ∷ ds) = (tt, any_collected ds)
any_collected (Goes_down why ∷ ds) = (tt, any_collected ds)
any_collected (Does a ∷ ds) = (tt, any_collected ds)
any_collected (Saves change ∷ ds) = (tt, any_collected ds)
any_collected (Loses change why ∷ ds) = (tt, any_collected ds)
any_collected (Forgets change why ∷ ds) = (tt, any_collected ds)

-- a course in which nothing is saved but a promise
abbrev Promising : Course → Type 0
Promising Stops = Unit {0}
Promising (Acts a rest) = Promising rest
Promising (Keeps change rest) = IsCollected true change × Promising rest
Promising (Falls why) = Unit {0}

under_collected : (replies : List Reply) (k : Course) → Promising k → AreCollected true (under replies k)
under_collected replies Stops h = tt
under_collected replies (Acts a rest) h = (tt, under_collected replies rest h)
under_collected [] (Keeps change rest) h = (tt, tt)
under_collected (Done ∷ replies) (Keeps change rest) h = (h.0, under_collected replies rest h.1)
under_collected (Lost_new why ∷ replies) (Keeps change rest) h = (tt, tt)
under_collected (Lost_old why ∷ replies) (Keeps change rest) h = (tt, tt)
under_collected replies (Falls why) h = (tt, tt)

collect_promises : (x : UpNode) (from p : ℕ) → Promising (collect_course x from p)
collect_promises x from p = if_either Promising (nat_lt (promised_of x) p) _ _ (tt, tt) (if_either Promising (is_in x p) _ _ tt tt)

packet_collected : (c : Cluster) (me : ℕ) (ends : Outcome) (x : UpNode) (from : ℕ) (m : Message) (replies : List Reply) (b : Body) (k : Course) → k ≡ body_course c me ends (hearing x from b) from m b
    → AreCollected (is_collect b) (under replies (Acts (Hears from b) k))
packet_collected c me ends x from m replies (body.Collect e members) k is =
    under_collected replies (Acts (Hears from (body.Collect e members)) k) (subst Promising (sym is) (collect_promises (hearing x from (body.Collect e members)) from e))
packet_collected c me ends x from m replies b k is = any_collected (under replies (Acts (Hears from b) k))

doings_by : (c : Cluster) (me now : ℕ) (ends : Outcome) (replies : List Reply) (i : Input) (x : UpNode) → AreCollected (collecting (delivered_by i)) (under replies (course_at c me now ends x i))
doings_by c me now ends replies (input.Packet from m) x =
    let y : UpNode = at_second now x in (
      tt,
      if_either (λ k. AreCollected (is_collect m.body) (under replies k)) (is_foreign c me y m.body) Stops (Acts (Hears from m.body) (body_course c me ends (hearing y from m.body) from m m.body))
          tt (packet_collected c me ends y from m replies m.body _ refl),
    )
doings_by c me now ends replies i x = any_collected (under replies (course_at c me now ends x i))

down_collected : (replies : List Reply) (i : Input) → AreCollected (collecting (delivered_by i)) (down_doings replies i)
down_collected replies input.Boot = any_collected (down_doings replies input.Boot)
down_collected replies _ = tt

pub doings_collected : (c : Cluster) (me now : ℕ) (ends : Outcome) (replies : List Reply) (i : Input) (node : Node) → AreCollected (collecting (delivered_by i)) (doings c me now ends replies i node)
doings_collected c me now ends replies i Down = down_collected replies i
doings_collected c me now ends replies i (Up x) = doings_by c me now ends replies i x

-- ---- whether a Collect is delivered

collect_named : (b : Body) → same_name (named (name_of b)) name.Collect ≡ is_collect b
collect_named (body.Heartbeat promised session one) = refl
collect_named (body.Collect epoch members) = refl
collect_named (body.Promise epoch newest members valid flagged committed pending) = refl
collect_named (body.Nack epoch promised) = refl
collect_named (body.SeizeQuorum epoch members d) = refl
collect_named (body.SeizeData epoch members d) = refl
collect_named (body.Seized epoch d outcome) = refl
collect_named (body.Install install) = refl
collect_named (body.Ready epoch joined report) = refl
collect_named (body.Start epoch) = refl
collect_named (body.Prepare epoch place text) = refl
collect_named (body.Prepared epoch place) = refl
collect_named (body.Commit epoch place) = refl
collect_named (body.Order order) = refl
collect_named (body.Done epoch number outcome) = refl
collect_named (body.Request epoch number text) = refl
collect_named (body.Answer epoch number text) = refl
collect_named (body.Excluded epoch newest) = refl

same_number : (n : ℕ) → (n == n) ≡ true
same_number n = grind arith

and_true : (a b : Bool) → b ≡ true → (a && b) ≡ a
and_true true b h = h
and_true false b h = refl

-- a packet is delivered to a node, which takes its message
pub arrival_collects : (c : Cluster) (s : Scene) (number : ℕ) (x : Packet) (m : Message) → packet_of s.links.packets number ≡ Some x → whole_of x.bytes ≡ Some m → Stage c s
    → in_collect x.to (delivered number x.from x.to ∷ s.moments) ≡ is_collect m.body
arrival_collects c s number x m is whole b =
    let found : Posted s.moments s.links.next x = found_posted s.moments s.links number x b.flying is in
    let at : letter_of number s.moments ≡ Some found.letter = ap (λ k. letter_of k s.moments) (sym (number_found s.links number x is)) ∙ found.sent_so in
    ap (λ (o : Option Letter). passes (λ l. same_name l.name name.Collect && (l.to == x.to)) o) at
    ∙ (and_true (same_name found.letter.name name.Collect) (found.letter.to == x.to) (ap (λ k. k == x.to) found.receiver ∙ same_number x.to)
    ∙ (ap (λ k. same_name k name.Collect) (found.says m whole).0 ∙ collect_named m.body))

-- nothing is delivered
pub nothing_collects : (n : ℕ) (ms : List Moment) → arrived ms ≡ None → in_collect n ms ≡ false
nothing_collects n ms is = ap (λ (o : Option Letter). passes (λ l. same_name l.name name.Collect && (l.to == n)) o) is

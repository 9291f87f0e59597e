-- An Order of its membership is answered by a member, or the node goes down.
use Rattle.std.specs.Prelude.{ℕ, ◌≡◌, ◌==◌, ◌&&◌, nat_le, Bool, true, false, List, [], Option, None, Some, if◌then◌else◌}
use Rattle.std.proofs.Common.{refl, sym, subst, inl, inr}
use Rattle.cl_base.specs.declared.method.Method.{Method}
use Rattle.cl_base.specs.declared.method.Outcome.{Outcome}
use Rattle.cl_base.specs.declared.method.Outcome.TheVariants.{Success}
use Rattle.node_model.specs.Members.{hearing, is_foreign}
use Rattle.node_model.specs.Seats.{is_in, is_member}
use Rattle.node_model.specs.Steps.{at_second, stepped}
use Rattle.node_model.specs.declared.cluster.Cluster.{Cluster}
use Rattle.node_model.specs.declared.input.Input.TheVariants as input
use Rattle.node_model.specs.declared.node.Node.TheVariants.{Up}
use Rattle.node_model.specs.declared.node.UpNode.{UpNode}
use Rattle.node_model.specs.declared.output.Output.{Output}
use Rattle.refinement.proofs.Disks.{disks_keep_rules}
use Rattle.refinement.proofs.Replies.{steps_are_cut}
use Rattle.refinement.specs.Courses.{Course}
use Rattle.refinement.specs.Courses.Course.{Acts, Stops}
use Rattle.refinement.specs.Cuts as cuts
use Rattle.refinement.specs.Doings.Act.{Hears}
use Rattle.refinement.specs.Runs.{Nodes}
use Rattle.refinement.specs.Steps.{IsCut, disk_rules}
use Rattle.rgm_member.specs.Orders.{answer_by_kept, answer_to, kept_outcome}
use Rattle.rgm_member.specs.declared.carried.Carried.{Carried}
use Rattle.run_history.proofs.Idle.{if_true}
use Rattle.run_history.specs.Happenings.{given_by}
use Rattle.run_packets.specs.prepares.Proposals.{IsBehind, IsShort}
use Rattle.run_packets.proofs.repeats.Leading.{LeadsTo, leads_behind, leads_given}
use Rattle.wire.proofs.Lengths.{spellings}
use Rattle.wire.specs.declared.message.Body.{Body}
use Rattle.wire.specs.declared.message.Body.TheVariants as body
use Rattle.wire.specs.declared.message.Message.{Message}
use Rattle.wire.specs.declared.message.Order.{Order}

-- a Done of the order is surely come to
record Answers (c : Cluster) (n from : ℕ) (o : Order) (x : UpNode) (k : Course) : Type 0 where
  outcome : Outcome
  leads : LeadsTo c n from (body.Done o.epoch o.number outcome) x k

record Carries (c : Cluster) (n from : ℕ) (o : Order) (how : Carried) : Type 0 where
  outcome : Outcome
  leads : (z : UpNode) → LeadsTo c n from (body.Done o.epoch o.number outcome) z (cuts.order_answered_course from o how z)

by_kept : (c : Cluster) (n from : ℕ) (o : Order) (k : Option Outcome) (m : Option Method) (out : Outcome) → Carries c n from o (answer_by_kept k m out)
by_kept c n from o (Some kept) m out = record { outcome = kept; leads = λ z. inl (inl (refl, refl)) }
by_kept c n from o None None out = record { outcome = Success; leads = λ z. inl (inl (refl, refl)) }
by_kept c n from o None (Some m) out = record { outcome = out; leads = λ z. inl (inl (refl, refl)) }

carried_so : (c : Cluster) (n from : ℕ) (o : Order) (x : UpNode) (out : Outcome) → (o.epoch == x.worker.epoch) ≡ true → Carries c n from o (answer_to x.worker o out)
carried_so c n from o x out is =
    subst (λ (how : Carried). Carries c n from o how) (sym (if_true (o.epoch == x.worker.epoch) (answer_by_kept (kept_outcome x.worker o.number) o.method out) _ is))
    (by_kept c n from o (kept_outcome x.worker o.number) o.method out)

order_answers : (c : Cluster) (n from : ℕ) (o : Order) (x : UpNode) (out : Outcome) → (is_member x.seat && is_in x o.epoch) ≡ true → (o.epoch == x.worker.epoch) ≡ true → Answers c n from o x (cuts.order_course c n out x from o)
order_answers c n from o x out here is =
    let k : Carries c n from o (answer_to x.worker o out) = carried_so c n from o x out is in
    subst (λ (b : Bool). Answers c n from o x (if b then cuts.obeying_course c n x from o (answer_to x.worker o out) else Stops)) (sym here)
    (record { outcome = k.outcome; leads = leads_behind c n from (body.Done o.epoch o.number k.outcome) x (cuts.carrying_course c n x o (answer_to x.worker o out)) (cuts.order_answered_course from o (answer_to x.worker o out)) k.leads })

packet_answers : (c : Cluster) (n from : ℕ) (o : Order) (x : UpNode) (m : Message) (out : Outcome) → m.body ≡ body.Order o → is_foreign c n x (body.Order o) ≡ false → (is_member x.seat && is_in x o.epoch) ≡ true
    → (o.epoch == x.worker.epoch) ≡ true → Answers c n from o x (cuts.packet_course c n out x from m)
packet_answers c n from o x m out says native here is =
    let a : Answers c n from o (hearing x from (body.Order o)) (cuts.order_course c n out (hearing x from (body.Order o)) from o) = order_answers c n from o (hearing x from (body.Order o)) out here is in
    subst (λ b. Answers c n from o x (if is_foreign c n x b then Stops else Acts (Hears from b) (cuts.body_course c n out (hearing x from b) from m b))) (sym says)
    (subst (λ (z : Bool). Answers c n from o x (if z then Stops else Acts (Hears from (body.Order o)) (cuts.order_course c n out (hearing x from (body.Order o)) from o))) (sym native)
    (record { outcome = a.outcome; leads = inr a.leads }))

pub record Given (n from : ℕ) (o : Order) (os : List Output) : Type 0 where
  pub outcome : Outcome
  pub behind : IsBehind n from (body.Done o.epoch o.number outcome) os
  pub short : IsShort n (body.Done o.epoch o.number outcome)

done_short : (n e k : ℕ) (outcome : Outcome) → IsShort n (body.Done e k outcome)
done_short n e k outcome = subst (λ size. nat_le size 131072 ≡ true) (sym (spellings (record { sender = n; body = body.Done e k outcome }))) refl

pub order_given : (c : Cluster) (v : Nodes) (n from now : ℕ) (ends : Outcome) (o : Order) (x : UpNode) (m : Message) → v.node n ≡ Up x → m.body ≡ body.Order o → is_foreign c n x (body.Order o) ≡ false
    → (is_member x.seat && is_in x o.epoch) ≡ true → (o.epoch == x.worker.epoch) ≡ true → Given n from o (given_by c n now ends (input.Packet from m) v)
order_given c v n from now ends o x m at says native here is =
    let y : UpNode = at_second now x in
    let cut : IsCut disk_rules c n now ends (Up x) (v.disk n) (input.Packet from m) [] (stepped disk_rules c n now ends (Up x) (v.disk n) (input.Packet from m)) = steps_are_cut disk_rules disks_keep_rules c n now ends (Up x) (v.disk n) (input.Packet from m) in
    let a : Answers c n from o y (cuts.packet_course c n ends y from m) = packet_answers c n from o y m ends says native here is in
    let b : Body = body.Done o.epoch o.number a.outcome in
    record {
      outcome = a.outcome;
      behind = subst (λ z. IsBehind n from b (stepped disk_rules c n now ends z (v.disk n) (input.Packet from m)).given) (sym at)
          (subst (IsBehind n from b) cut.comes.given (leads_given c n from b cut.replies (v.disk n).kept x (cuts.course_at c n now ends x (input.Packet from m)) (inr a.leads)));
      short = done_short n o.epoch o.number a.outcome;
    }

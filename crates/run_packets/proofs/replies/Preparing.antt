-- A Prepare of its membership is answered by a member that has all updates before it, or the node goes down.
use Rattle.std.specs.Prelude.{ℕ, suc, ◌+◌, ◌-◌, ◌≡◌, ◌≤◌, ◌<◌, ◌==◌, nat_le, slice_get, Bool, true, false, List, [], length, Some, if◌then◌else◌}
use Rattle.std.proofs.Common.{refl, ap, sym, subst, ◌∙◌, inl, inr, arith}
use Rattle.std.proofs.lemmas.Bool.Decides.{nat_tests}
use Rattle.ccr_commit.specs.Entries.{answer_for, texts_of}
use Rattle.ccr_commit.specs.declared.entries.Prepared.TheVariants.{Already, Gap, Taken}
use Rattle.cl_base.specs.declared.method.Outcome.{Outcome}
use Rattle.cmm_attempt.proofs.Basics.{false_true}
use Rattle.cmm_member.specs.Machine.{ShowsMember}
use Rattle.cmm_member.specs.Nodes.{NodeState}
use Rattle.cmm_member.specs.Records.{NodeRecord}
use Rattle.membership_machine.proofs.Prefixes.{next_within}
use Rattle.membership_machine.specs.Invariant.{Holds, NodeOk}
use Rattle.membership_machine.specs.Records.{Saved}
use Rattle.membership_machine.specs.State.{Memberships}
use Rattle.node_model.specs.Members.{hearing, is_foreign}
use Rattle.node_model.specs.Seats.{is_in}
use Rattle.node_model.specs.Steps.{at_second, stepped}
use Rattle.node_model.specs.declared.cluster.Cluster.{Cluster}
use Rattle.node_model.specs.declared.input.Input.TheVariants as input
use Rattle.node_model.specs.declared.node.Node.TheVariants.{Up}
use Rattle.node_model.specs.declared.node.UpNode.{UpNode}
use Rattle.node_model.specs.declared.seat.Seat.TheVariants.{Member}
use Rattle.node_model.specs.declared.seat.Seat.{Seat}
use Rattle.refinement.proofs.Disks.{disks_keep_rules}
use Rattle.refinement.proofs.Presidents.{member_tied}
use Rattle.refinement.proofs.Replies.{steps_are_cut}
use Rattle.refinement.specs.Courses.Course.{Acts, Stops}
use Rattle.refinement.specs.Cuts as cuts
use Rattle.refinement.specs.Doings.Act.{Hears}
use Rattle.refinement.specs.Runs.{Nodes}
use Rattle.refinement.specs.Steps.{IsCut, disk_rules}
use Rattle.refinement.specs.Ties.{NodeTied, setting_of}
use Rattle.run_history.specs.Happenings.{given_by}
use Rattle.run_packets.proofs.repeats.Leading.{LeadsTo, leads_given}
use Rattle.run_packets.specs.prepares.Proposals.{IsBehind, IsShort}
use Rattle.wire.proofs.Lengths.{spellings}
use Rattle.wire.specs.declared.message.Body.TheVariants as body
use Rattle.wire.specs.declared.message.Body.{Body}
use Rattle.wire.specs.declared.message.Message.{Message}

-- ---- a member has all updates before the one that is proposed

next_or_before : (v log acked reached texts : ℕ) → suc (v - 1) ≤ log → log ≤ acked + 1 → acked ≤ reached → reached ≡ texts → v ≤ texts + 1
next_or_before v log acked reached texts within one has is = omega (arith, within, one, has, is)

pub no_gap : (c : Cluster) (M : Memberships) (n e v : ℕ) (text : List ℕ) (disk : NodeRecord) (w : UpNode) (t : NodeState) → Holds (setting_of c) M → NodeTied c M n disk (Up w) → w.seat ≡ Member t → t.session ≡ e
    → slice_get (M.epoch e).log (v - 1) ≡ Some text → v ≤ length (texts_of t.saved.entries) + 1
no_gap c M n e v text disk w t holds tied sits same told =
    let shows : ShowsMember t (M.node n) = (member_tied c M n w disk t tied sits).shows in
    let k : NodeOk M.epoch n (M.node n) = holds.node n in
    let q : ℕ = (M.node n).saved.installed in
    let installed : (M.node n).session ≡ q = k.member_installed shows.member in
    let here : e ≡ q = sym same ∙ (sym shows.session ∙ installed) in
    let started : (M.epoch q).started ≡ true = subst (λ z. (M.epoch z).started ≡ true) installed (k.member_started shows.member) in
    let own : (M.epoch q).members n ≡ true = k.ready_member q (k.ready_last (subst (λ z. 0 < z) installed (k.member_sits shows.member))) in
    next_or_before v (length (M.epoch q).log) (M.epoch q).acked ((M.node n).reached q) (length (texts_of t.saved.entries)) (next_within (v - 1) (M.epoch q).log text (subst (λ z. slice_get (M.epoch z).log (v - 1) ≡ Some text) here told))
    ((holds.epoch q).one_proposed started) ((holds.epoch q).started_reached started n own) (k.reached_last ∙ ap (λ (z : Saved). length z.entries) shows.saved)

-- ---- it answers

next_test : (v k : ℕ) → v ≤ k + 1 → nat_le v k ≡ false → (v == k + 1) ≡ true
next_test v k h e = grind (arith, nat_tests)

answers_at : (c : Cluster) (n from e v : ℕ) (x : UpNode) (t : NodeState) (text : List ℕ) → v ≤ length (texts_of t.saved.entries) + 1
    → LeadsTo c n from (body.Prepared e v) x (cuts.preparing_course from e v t text (answer_for (length (texts_of t.saved.entries)) v))
answers_at c n from e v x t text low = by_test (nat_le v count) (v == count + 1) (next_test v count low)
  where
    count : ℕ
    count = length (texts_of t.saved.entries)

    by_test : (has next : Bool) → (has ≡ false → next ≡ true) → LeadsTo c n from (body.Prepared e v) x (cuts.preparing_course from e v t text (if has then Already else (if next then Taken else Gap (count + 1))))
    by_test true next h = inl (inl (refl, refl))
    by_test false true h = inl (inl (refl, refl))
    by_test false false h = absurd (false_true (h refl))

prepare_answers : (c : Cluster) (n from e v : ℕ) (text : List ℕ) (x : UpNode) (t : NodeState) → x.seat ≡ Member t → is_in x e ≡ true → v ≤ length (texts_of t.saved.entries) + 1
    → LeadsTo c n from (body.Prepared e v) x (cuts.prepare_course x from e v text x.seat)
prepare_answers c n from e v text x t sits here low =
    subst (λ (z : Seat). LeadsTo c n from (body.Prepared e v) x (cuts.prepare_course x from e v text z)) (sym sits)
    (subst (λ (z : Bool). LeadsTo c n from (body.Prepared e v) x (if z then cuts.preparing_course from e v t text (answer_for (length (texts_of t.saved.entries)) v) else Stops)) (sym here) (answers_at c n from e v x t text low))

packet_answers : (c : Cluster) (n from e v : ℕ) (text : List ℕ) (x : UpNode) (t : NodeState) (m : Message) (out : Outcome) → m.body ≡ body.Prepare e v text → is_foreign c n x (body.Prepare e v text) ≡ false → x.seat ≡ Member t
    → is_in x e ≡ true → v ≤ length (texts_of t.saved.entries) + 1 → LeadsTo c n from (body.Prepared e v) x (cuts.packet_course c n out x from m)
packet_answers c n from e v text x t m out says native sits here low =
    let b : Body = body.Prepare e v text in
    subst (λ z. LeadsTo c n from (body.Prepared e v) x (if is_foreign c n x z then Stops else Acts (Hears from z) (cuts.body_course c n out (hearing x from z) from m z))) (sym says)
    (subst (λ (z : Bool). LeadsTo c n from (body.Prepared e v) x (if z then Stops else Acts (Hears from b) (cuts.body_course c n out (hearing x from b) from m b))) (sym native)
    (inr (prepare_answers c n from e v text (hearing x from b) t sits here low)))

pub prepared_short : (n e v : ℕ) → IsShort n (body.Prepared e v)
prepared_short n e v = subst (λ size. nat_le size 131072 ≡ true) (sym (spellings (record { sender = n; body = body.Prepared e v }))) refl

pub prepare_given : (c : Cluster) (v : Nodes) (n from now e place : ℕ) (text : List ℕ) (ends : Outcome) (x : UpNode) (t : NodeState) (m : Message) → v.node n ≡ Up x → m.body ≡ body.Prepare e place text
    → is_foreign c n x (body.Prepare e place text) ≡ false → x.seat ≡ Member t → is_in x e ≡ true → place ≤ length (texts_of t.saved.entries) + 1 → IsBehind n from (body.Prepared e place) (given_by c n now ends (input.Packet from m) v)
prepare_given c v n from now e place text ends x t m at says native sits here low =
    let b : Body = body.Prepared e place in
    let cut : IsCut disk_rules c n now ends (Up x) (v.disk n) (input.Packet from m) [] (stepped disk_rules c n now ends (Up x) (v.disk n) (input.Packet from m)) = steps_are_cut disk_rules disks_keep_rules c n now ends (Up x) (v.disk n) (input.Packet from m) in
    subst (λ z. IsBehind n from b (stepped disk_rules c n now ends z (v.disk n) (input.Packet from m)).given) (sym at)
    (subst (IsBehind n from b) cut.comes.given
    (leads_given c n from b cut.replies (v.disk n).kept x (cuts.course_at c n now ends x (input.Packet from m)) (inr (packet_answers c n from e place text (at_second now x) t m ends says native sits here low))))

-- A Collect that is not foreign is answered by a Promise or by a Nack, or the node goes down; and a Promise has a packet's size where its updates have room.
use Rattle.std.specs.Prelude.{ℕ, ◌+◌, ◌≡◌, ◌≤◌, ◌⊎◌, ◌++◌, nat_le, nat_lt, Bool, true, false, codes, List, [], ◌∷◌, length, Option, None, Some, if◌then◌else◌}
use Rattle.std.proofs.Common.{refl, sym, subst, inl, inr, arith, length-append}
use Rattle.std.proofs.lemmas.Bool.Decides.{nat_tests}
use Rattle.std.proofs.lemmas.List.Sums.{sum_by-cons}
use Rattle.std.specs.Fmt.{decimal}
use Rattle.std.specs.List.{sum_by}
use Rattle.std.specs.Option.{option_to_list}
use Rattle.ccr_commit.specs.Entries.{EntryList, listed, texts_of}
use Rattle.ccr_text.specs.Lengths.{rows_length}
use Rattle.cl_base.specs.declared.method.Outcome.{Outcome}
use Rattle.cmm_attempt.specs.Attempts.{AttemptState}
use Rattle.cmm_member.specs.Records.{NodeRecord, update_rows}
use Rattle.history.specs.Names as name
use Rattle.history.specs.Names.{named}
use Rattle.node_model.specs.Attempts.{promise_of, shown_in}
use Rattle.node_model.specs.Members.{hearing, is_foreign, promised_so, rested_by}
use Rattle.node_model.specs.Seats.{is_in, promised_of, promising, record_of}
use Rattle.node_model.specs.Steps.{at_second, stepped}
use Rattle.node_model.specs.declared.cluster.Cluster.{Cluster}
use Rattle.node_model.specs.declared.input.Input.TheVariants as input
use Rattle.node_model.specs.declared.node.Node.TheVariants.{Up}
use Rattle.node_model.specs.declared.node.UpNode.{UpNode}
use Rattle.node_model.specs.declared.output.Output.{Output}
use Rattle.refinement.proofs.Disks.{disks_keep_rules}
use Rattle.refinement.proofs.Replies.{steps_are_cut}
use Rattle.refinement.specs.Courses.Course.{Acts, Keeps, Stops}
use Rattle.refinement.specs.Courses.{Course}
use Rattle.refinement.specs.Cuts as cuts
use Rattle.refinement.specs.Doings.Act.{Hears}
use Rattle.refinement.specs.Doings.Change.{Promises}
use Rattle.refinement.specs.Runs.{Nodes}
use Rattle.refinement.specs.Steps.{IsCut, disk_rules}
use Rattle.run_packets.specs.fits.Rooms.{HasRoom}
use Rattle.run_history.specs.Happenings.{given_by}
use Rattle.run_packets.proofs.repeats.Leading.{LeadsTo, leads_given}
use Rattle.run_packets.specs.prepares.Proposals.{IsBehind, IsShort}
use Rattle.wire.proofs.Lengths.{spellings}
use Rattle.wire.specs.Lengths.{text_length}
use Rattle.wire.specs.declared.message.Body.TheVariants as body
use Rattle.wire.specs.declared.message.Body.{Body}
use Rattle.wire.specs.declared.message.Message.{Message}
use Rattle.world_model.specs.Sends.{name_of}

-- ---- how long a Promise is

key_long : (k : ℕ) → 7 ≤ length (codes "update." ++ decimal k)
key_long k = let seven : length (codes "update.") ≡ 7 = refl in omega (arith, length-append (codes "update.") (decimal k), seven)

-- texts are no longer in a message than in the rows of a record
pub texts_shorter : (k : ℕ) (texts : List (List ℕ)) → sum_by text_length texts ≤ rows_length (update_rows k texts)
texts_shorter k [] = omega arith
texts_shorter k (text ∷ texts) = omega (arith, sum_by-cons text_length text texts, key_long (k + 1), texts_shorter (k + 1) texts)

pub texts_append : (xs ys : List (List ℕ)) → sum_by text_length (xs ++ ys) ≡ sum_by text_length xs + sum_by text_length ys
texts_append [] ys = omega arith
texts_append (x ∷ xs) ys = omega (arith, sum_by-cons text_length x (xs ++ ys), sum_by-cons text_length x xs, texts_append xs ys)

pub same_listed : (pending : Option (List ℕ)) → sum_by text_length (option_to_list pending) ≡ sum_by text_length (listed pending)
same_listed None = refl
same_listed (Some text) = refl

pub le_test : (a b : ℕ) → a ≤ b → nat_le a b ≡ true
le_test a b h = grind (arith, nat_tests)

pub promise_short : (nodes devices n p : ℕ) (r : NodeRecord) (flagged : Bool) → HasRoom nodes devices (texts_of r.entries) → IsShort n (shown_in r flagged p)
promise_short nodes devices n p r flagged h =
    le_test _ 131072
    (omega (
      arith,
      spellings (record { sender = n; body = shown_in r flagged p }),
      same_listed r.entries.pending,
      texts_append r.entries.committed (listed r.entries.pending),
      texts_shorter 0 (texts_of r.entries),
      h.most,
    ))

nack_short : (n p promised : ℕ) → IsShort n (body.Nack p promised)
nack_short n p promised = subst (λ size. nat_le size 131072 ≡ true) (sym (spellings (record { sender = n; body = body.Nack p promised }))) refl

-- ---- a Collect is answered

-- a Promise or a Nack is surely come to
record Answers (c : Cluster) (n from : ℕ) (x : UpNode) (k : Course) : Type 0 where
  answer : Body
  leads : LeadsTo c n from answer x k
  short : IsShort n answer
  called : (named (name_of answer) ≡ name.Promise) ⊎ (named (name_of answer) ≡ name.Nack)

-- each Promise with these updates has a packet's size
abbrev AreShort : ℕ → EntryList → Type 0
AreShort n entries = (r : NodeRecord) (flagged : Bool) (p : ℕ) → r.entries ≡ entries → IsShort n (shown_in r flagged p)

rested_entries : (y : UpNode) (o : Option AttemptState) → (record_of (rested_by y o)).entries ≡ (record_of y).entries
rested_entries y None = refl
rested_entries y (Some a) = refl

promises : (c : Cluster) (n from p : ℕ) (x y : UpNode) (k : Course) → AreShort n (record_of x).entries → (record_of y).entries ≡ (record_of x).entries → LeadsTo c n from (promise_of y p) x k → Answers c n from x k
promises c n from p x y k short same leads = record { answer = promise_of y p; leads = leads; short = short (record_of y) _ p same; called = inl refl }

collect_answers : (c : Cluster) (n from p : ℕ) (x : UpNode) → AreShort n (record_of x).entries → Answers c n from x (cuts.collect_course x from p)
collect_answers c n from p x short = by_new (nat_lt (promised_of x) p)
  where
    by_session : (b : Bool) → Answers c n from x (if b then cuts.writing from (promise_of x p) else cuts.writing from (body.Nack p (promised_of x)))
    by_session true = promises c n from p x x (cuts.writing from (promise_of x p)) short refl (inl (inl (refl, refl)))
    by_session false = record { answer = body.Nack p (promised_of x); leads = inl (inl (refl, refl)); short = nack_short n p (promised_of x); called = inr refl }

    by_new : (b : Bool) → Answers c n from x (if b then Keeps (Promises p) (cuts.writing from (promise_of (promised_so x p) p)) else (if is_in x p then cuts.writing from (promise_of x p) else cuts.writing from (body.Nack p (promised_of x))))
    by_new true = promises c n from p x (promised_so x p) (Keeps (Promises p) (cuts.writing from (promise_of (promised_so x p) p))) short (rested_entries (promising x p) x.attempt) (inl (inl (refl, refl)))
    by_new false = by_session (is_in x p)

packet_answers : (c : Cluster) (n from e members : ℕ) (x : UpNode) (m : Message) (out : Outcome) → m.body ≡ body.Collect e members → is_foreign c n x (body.Collect e members) ≡ false → AreShort n (record_of x).entries
    → Answers c n from x (cuts.packet_course c n out x from m)
packet_answers c n from e members x m out says native short =
    let b : Body = body.Collect e members in
    let a : Answers c n from (hearing x from b) (cuts.collect_course (hearing x from b) from e) = collect_answers c n from e (hearing x from b) short in
    subst (λ z. Answers c n from x (if is_foreign c n x z then Stops else Acts (Hears from z) (cuts.body_course c n out (hearing x from z) from m z))) (sym says)
    (subst (λ (z : Bool). Answers c n from x (if z then Stops else Acts (Hears from b) (cuts.body_course c n out (hearing x from b) from m b))) (sym native)
    (record { answer = a.answer; leads = inr a.leads; short = a.short; called = a.called }))

pub record Given (n from : ℕ) (os : List Output) : Type 0 where
  pub answer : Body
  pub behind : IsBehind n from answer os
  pub short : IsShort n answer
  pub called : (named (name_of answer) ≡ name.Promise) ⊎ (named (name_of answer) ≡ name.Nack)

pub collect_given : (c : Cluster) (v : Nodes) (n from now e members nodes devices : ℕ) (ends : Outcome) (x : UpNode) (m : Message) → v.node n ≡ Up x → m.body ≡ body.Collect e members → is_foreign c n x (body.Collect e members) ≡ false
    → HasRoom nodes devices (texts_of (record_of x).entries) → Given n from (given_by c n now ends (input.Packet from m) v)
collect_given c v n from now e members nodes devices ends x m at says native room =
    let y : UpNode = at_second now x in
    let cut : IsCut disk_rules c n now ends (Up x) (v.disk n) (input.Packet from m) [] (stepped disk_rules c n now ends (Up x) (v.disk n) (input.Packet from m)) = steps_are_cut disk_rules disks_keep_rules c n now ends (Up x) (v.disk n) (input.Packet from m) in
    let a : Answers c n from y (cuts.packet_course c n ends y from m) =
    packet_answers c n from e members y m ends says native (λ r flagged p same. promise_short nodes devices n p r flagged (subst (λ (z : EntryList). HasRoom nodes devices (texts_of z)) (sym same) room)) in
    record {
      answer = a.answer;
      behind = subst (λ z. IsBehind n from a.answer (stepped disk_rules c n now ends z (v.disk n) (input.Packet from m)).given) (sym at)
          (subst (IsBehind n from a.answer) cut.comes.given (leads_given c n from a.answer cut.replies (v.disk n).kept x (cuts.course_at c n now ends x (input.Packet from m)) (inr a.leads)));
      short = a.short;
      called = a.called;
    }

-- The message that comes to a node is in its hand, and a Promise is among those that it has.
use Rattle.cmm_attempt.proofs.Basics.{same_some}
use Rattle.history.specs.Letters.{Letter, letter_of, passes, reached, is_letter, says}
use Rattle.history.specs.Member.{promised_to}
use Rattle.history.specs.Moment.{Moment}
use Rattle.cl_base.specs.Kinds.{kind_byte}
use Rattle.history.specs.Names.{kind_of, named, same_name}
use Rattle.history.specs.Records.{is_promise_of, promise_among, promises, record_in}
use Rattle.history.specs.Seizing.{is_number}
use Rattle.history.specs.Setting.{coordinator}
use Rattle.history.specs.Trace.{delivered}
use Rattle.interconnect.specs.Links.{Packet, packet_of}
use Rattle.membership_machine.specs.State.{Memberships}
use Rattle.node_model.specs.declared.cluster.Cluster.{Cluster}
use Rattle.run_history.proofs.ContactFlying.{found_posted, number_found}
use Rattle.run_history.proofs.ContactStays.{lasting_stays, or_left}
use Rattle.run_history.proofs.Heard.{letter_so}
use Rattle.run_history.specs.Causes.{Brought, Posted}
use Rattle.world_model.specs.Sends.{name_of}
use Rattle.run_history.specs.Scenes.{Scene}
use Rattle.run_history.specs.Stages.{Stage}
use Rattle.run_messages.proofs.records.Bytes.{found_bytes}
use Rattle.run_messages.proofs.records.Letters.{letter_sound, read_letter}
use Rattle.run_messages.specs.records.Kept.{Came, IsHad, KnownScene, shows_from}
use Rattle.run_messages.specs.records.Sound.{LetterSound, PromiseSound}
use Rattle.std.proofs.Common.{refl, sym, ap, subst, ◌∙◌, arith}
use Rattle.std.specs.List.{list_any}
use Rattle.std.specs.Prelude.{ℕ, ◌≡◌, Bool, true, false, List, [], ◌∷◌, Option, Some, ◌==◌, ◌&&◌, ◌||◌, ◌++◌, is_some, option_map, if◌then◌else◌}
use Rattle.wire.specs.Reads.{whole_of}
use Rattle.wire.specs.declared.message.Body.{Body}
use Rattle.wire.specs.declared.message.Message.{Message}
use Rattle.history.specs.Names as name
use Rattle.wire.specs.declared.message.Body.TheVariants as body

-- ---- the message that comes

and_both : (a b : Bool) → a ≡ true → b ≡ true → (a && b) ≡ true
and_both true b h k = k
and_both false b h k = absurd (no_truth h)
  where
    no_truth : false ≡ true → ⊥
    no_truth e = cc

same_so : (a b : ℕ) → a ≡ b → (a == b) ≡ true
same_so a b h = grind arith

same_promise : same_name name.Promise name.Promise ≡ true
same_promise = and_both (kind_byte (kind_of name.Promise) == kind_byte (kind_of name.Promise)) true (same_so (kind_byte (kind_of name.Promise)) (kind_byte (kind_of name.Promise)) refl) refl

if_so : {X : Type 0} (b : Bool) (x y : X) → b ≡ true → (if b then x else y) ≡ x
if_so true x y h = refl
if_so false x y h = absurd (no_truth h)
  where
    no_truth : false ≡ true → ⊥
    no_truth e = cc

or_first : (a b : Bool) → a ≡ true → (a || b) ≡ true
or_first true b h = refl
or_first false b h = absurd (no_truth h)
  where
    no_truth : false ≡ true → ⊥
    no_truth e = cc

number_is : (e : ℕ) (o : Option ℕ) → o ≡ Some e → is_number e o ≡ true
number_is e o is = subst (λ z. is_number e z ≡ true) (sym is) (same_so e e refl)

had_now : (M : Memberships) (ms : List Moment) (n from number : ℕ) (l : Letter) (b : Body) → letter_of number ms ≡ Some l → LetterSound M l → says l.bytes ≡ Some b → l.name ≡ named (name_of b) → l.from ≡ from → l.to ≡ n
    → IsHad (delivered number from n ∷ ms) n from b
had_now M ms n from number l (body.Promise e newest members valid flagged committed pending) at sound read called sender receiver = λ own.
    let so : PromiseSound M l.before l.from e _ = (read_letter M l (body.Promise e newest members valid flagged committed pending) sound read).1 in
    let is : is_promise_of e l ≡ true =
    and_both (is_letter name.Promise l.from (coordinator e) l) (is_number e (promised_to l.before)) (letter_so name.Promise l.from (coordinator e) l same_promise called refl (receiver ∙ sym own)) (number_is e (promised_to l.before) so.asked) in
    let among : promise_among e (letter_of number ms) ≡ l ∷ [] = ap (λ o. promise_among e o) at ∙ if_so (is_promise_of e l) (l ∷ []) [] is in
    ap (λ ls. list_any (shows_from from) (ls ++ promises e ms)) among
    ∙ or_first (shows_from from l) (list_any (shows_from from) (promises e ms)) (and_both (l.from == from) (is_some (record_in (says l.bytes))) (same_so l.from from sender) (ap (λ o. is_some (record_in o)) read))
had_now M ms n from number l (body.Heartbeat promised session is_one) at sound read called sender receiver = tt
had_now M ms n from number l (body.Collect e members) at sound read called sender receiver = tt
had_now M ms n from number l (body.Nack e promised) at sound read called sender receiver = tt
had_now M ms n from number l (body.SeizeQuorum e members d) at sound read called sender receiver = tt
had_now M ms n from number l (body.SeizeData e members d) at sound read called sender receiver = tt
had_now M ms n from number l (body.Seized e d outcome) at sound read called sender receiver = tt
had_now M ms n from number l (body.Install i) at sound read called sender receiver = tt
had_now M ms n from number l (body.Ready e joined report) at sound read called sender receiver = tt
had_now M ms n from number l (body.Start e) at sound read called sender receiver = tt
had_now M ms n from number l (body.Prepare e place text) at sound read called sender receiver = tt
had_now M ms n from number l (body.Prepared e place) at sound read called sender receiver = tt
had_now M ms n from number l (body.Commit e place) at sound read called sender receiver = tt
had_now M ms n from number l (body.Order o) at sound read called sender receiver = tt
had_now M ms n from number l (body.Done e k outcome) at sound read called sender receiver = tt
had_now M ms n from number l (body.Request e k text) at sound read called sender receiver = tt
had_now M ms n from number l (body.Answer e k text) at sound read called sender receiver = tt
had_now M ms n from number l (body.Excluded e newest) at sound read called sender receiver = tt

pub arrived_kept : (c : Cluster) (s : Scene) (number : ℕ) (x : Packet) (m : Message) → packet_of s.links.packets number ≡ Some x → whole_of x.bytes ≡ Some m → KnownScene c s → Came (delivered number x.from x.to ∷ s.moments) x.to x.from m.body
arrived_kept c s number x m is whole a =
    let found : Posted s.moments s.links.next x = found_posted s.moments s.links number x a.stage.flying is in
    let at : letter_of number s.moments ≡ Some found.letter = ap (λ k. letter_of k s.moments) (sym (number_found s.links number x is)) ∙ found.sent_so in
    let bytes : found.letter.bytes ≡ x.bytes = same_some found.letter.bytes x.bytes (sym (ap (λ o. option_map (λ (l : Letter). l.bytes) o) at) ∙ found_bytes s.moments s.links number x a.bytes is) in
    let read : says found.letter.bytes ≡ Some m.body = ap says bytes ∙ ap (λ o. option_map (λ (z : Message). z.body) o) whole in
    record {
      letter = found.letter;
      here = at;
      read = read;
      called = (found.says m whole).0;
      sender = found.sender;
      receiver = found.receiver;
      had = had_now a.stage.machine s.moments x.to x.from number found.letter m.body at (letter_sound a.stage.machine number s.moments found.letter a.sound at) read (found.says m whole).0 found.sender found.receiver;
    }

-- the message that comes is in hand
pub arrived_hand : (c : Cluster) (s : Scene) (number : ℕ) (x : Packet) (m : Message) → packet_of s.links.packets number ≡ Some x → whole_of x.bytes ≡ Some m → Stage c s
    → Brought (delivered number x.from x.to ∷ s.moments) x.to x.from m.body
arrived_hand c s number x m is whole b =
    let found : Posted s.moments s.links.next x = found_posted s.moments s.links number x b.flying is in
    let at : letter_of number s.moments ≡ Some found.letter = ap (λ k. letter_of k s.moments) (sym (number_found s.links number x is)) ∙ found.sent_so in
    record {
      letter = found.letter;
      here = at;
      reached_so = λ test so. or_left (passes test (letter_of number s.moments)) (reached test s.moments) (ap (λ (o : Option Letter). passes test o) at ∙ so);
      sender = found.sender;
      receiver = found.receiver;
      called = (found.says m whole).0;
      caused = (found.says m whole).1;
      lasting = lasting_stays s.moments (delivered number x.from x.to) m.body (λ e so. so) (found.says m whole).2;
    }

-- Which Requests a node has sent: each is sent behind the asking of its command, with its words.
use Rattle.std.specs.Prelude.{ℕ, ◌≡◌, ◌==◌, ◌&&◌, ◌||◌, Bool, true, false, List, [], ◌∷◌, Option, Some, IfSome, option_map}
use Rattle.std.proofs.Common.{refl, sym, ap, subst, ◌∙◌, inl, inr}
use Rattle.cmm_attempt.proofs.Basics.{same_some}
use Rattle.status_report.specs.declared.command_entry.CommandEntry.TheVariants as command
use Rattle.status_report.specs.declared.entry.Entry.TheVariants as entry
use Rattle.status_report.specs.declared.packet_entry.PacketEntry.TheVariants as packet
use Rattle.cl_base.specs.declared.packet.MessageName.{MessageName}
use Rattle.wire.proofs.Messages.{whole_again}
use Rattle.wire.specs.declared.message.Body.{Body}
use Rattle.wire.specs.declared.message.Body.TheVariants as body
use Rattle.wire.specs.declared.message.Message.{Message}
use Rattle.history.specs.Contents.{CarriedUpdates, ShowsText, Spelled, Spells}
use Rattle.history.specs.Letters.{Letter, name_of, says, text_in}
use Rattle.history.specs.Moment.{Moment, Told}
use Rattle.history.specs.Names as name
use Rattle.history.specs.Names.{named}
use Rattle.history.specs.Requests.{command_before, command_of}
use Rattle.history.specs.Setting.{Setting}
use Rattle.history.specs.Trace.{asked}
use Rattle.run_commands.specs.acknowledged.Askings.{AskedOnce, IsFirst, is_request, requested_as}
use Rattle.run_commands.proofs.acknowledged.Askings.{is_same, true_two}
use Rattle.run_commands.specs.acknowledged.Requested.{AskedFirst, HasRequested, IsAskedFirst, WasSent}
use Rattle.run_commands.proofs.acknowledged.AnsweringWaiting.{Back, back_command}

true_false : true ≡ false → ⊥
true_false e = cc

or_left : (a b : Bool) → a ≡ true → (a || b) ≡ true
or_left true b h = refl
or_left false b h = cc

or_right : (a b : Bool) → b ≡ true → (a || b) ≡ true
or_right true b h = refl
or_right false b h = h

-- ---- a Request that was sent

sent_as : (n q e : ℕ) (text : List ℕ) (l : Letter) (ms : List Moment) → WasSent l ms → l.from ≡ n → says l.bytes ≡ Some (body.Request e q text) → requested_as n q e ms ≡ true
sent_as n q e text l [] sent from is = absurd sent
sent_as n q e text l (Told (entry.Packet (packet.Sent p m b called bytes)) ∷ ms) (inl same) from is =
    let here : m ≡ n = sym (ap (λ (z : Letter). z.from) same) ∙ from in
    let words : says bytes ≡ Some (body.Request e q text) = ap (λ (z : Letter). says z.bytes) (sym same) ∙ is in
    or_left ((m == n) && is_request q e (says bytes)) (requested_as n q e ms)
    (true_two (m == n) (is_request q e (says bytes)) (ap (λ k. k == n) here ∙ is_same n) (ap (λ o. is_request q e o) words ∙ true_two (e == e) (q == q) (is_same e) (is_same q)))
sent_as n q e text l (Told (entry.Packet (packet.Sent p m b called bytes)) ∷ ms) (inr sent) from is =
    or_right ((m == n) && is_request q e (says bytes)) (requested_as n q e ms) (sent_as n q e text l ms sent from is)
sent_as n q e text l (_ ∷ ms) sent from is = sent_as n q e text l ms sent from is

pub has_requested : (n q e : ℕ) (text : List ℕ) (ms : List Moment) → HasRequested n q e text ms → requested_as n q e ms ≡ true
has_requested n q e text ms h = sent_as n q e text h.letter ms h.sent_so h.from h.says_so

line_first : (ms : List Moment) (x : Moment) → IsFirst ms x → IsAskedFirst ms x
line_first ms (Told (entry.Command (command.Asked n q))) h = λ e text member sent. true_false (sym (has_requested n q e text ms sent) ∙ (h e member).1)
line_first ms _ h = tt

pub asked_first : (ms : List Moment) → AskedOnce ms → AskedFirst ms
asked_first [] h = tt
asked_first (x ∷ ms) h = (line_first ms x h.0, asked_first ms h.1)

was_sent_stays : (l : Letter) (x : Moment) (ms : List Moment) → WasSent l ms → WasSent l (x ∷ ms)
was_sent_stays l (Told (entry.Packet (packet.Sent p m b called bytes))) ms h = inr h
was_sent_stays l _ ms h = h

pub requested_stays : (n q e : ℕ) (text : List ℕ) (x : Moment) (ms : List Moment) → HasRequested n q e text ms → HasRequested n q e text (x ∷ ms)
requested_stays n q e text x ms h = record { letter = h.letter; sent_so = was_sent_stays h.letter x ms h.sent_so; from = h.from; says_so = h.says_so }

-- ---- its words

-- the line calls it by what it says
called_so : (m e q : ℕ) (text : List ℕ) (called : MessageName) (bytes : List ℕ) → Spells m called bytes → says bytes ≡ Some (body.Request e q text) → named called ≡ name.Request q
called_so m e q text called bytes s is =
    let spelled : says bytes ≡ Some s.message.body =
    ap says (sym s.spelled) ∙ ap (λ (o : Option Message). option_map (λ (z : Message). z.body) o) (whole_again s.message s.fits) in
    let same : s.message.body ≡ body.Request e q text = same_some s.message.body (body.Request e q text) (sym spelled ∙ is) in
    ap named (sym s.named) ∙ ap (λ (b : Body). named (name.written (name_of b))) same

some_words : (o : Option (List ℕ)) (text words : List ℕ) (found : Option (List ℕ)) → o ≡ Some words → found ≡ Some text → IfSome o (λ w. found ≡ Some w) → text ≡ words
some_words o text words found is at h = same_some text words (sym at ∙ subst (λ (z : Option (List ℕ)). IfSome z (λ w. found ≡ Some w)) is h)

-- a Request since the asking of its command has its words
pub since_asking : (S : Setting) (n q e : ℕ) (first : List Moment) (text words : List ℕ) (l : Letter) (ms : List Moment) → Back n q first ms → CarriedUpdates S ms → Spelled ms → (WasSent l first → ⊥)
    → l.from ≡ n → says l.bytes ≡ Some (body.Request e q text) → command_before S first ≡ Some words → WasSent l ms → text ≡ words
since_asking S n q e first text words l [] b carried spelled none from is asks sent = absurd sent
since_asking S n q e first text words l (Told (entry.Packet (packet.Sent p m to called bytes)) ∷ ms) (inl k) carried spelled none from is asks sent = absurd (other k.0)
  where
    other : Told (entry.Packet (packet.Sent p m to called bytes)) ≡ asked n q → ⊥
    other z = cc
since_asking S n q e first text words l (Told (entry.Packet (packet.Sent p m to called bytes)) ∷ ms) (inr b) carried spelled none from is asks (inr sent) =
    since_asking S n q e first text words l ms b.1 carried.1 spelled.1 none from is asks sent
since_asking S n q e first text words l (Told (entry.Packet (packet.Sent p m to called bytes)) ∷ ms) (inr b) carried spelled none from is asks (inl same) =
    let here : m ≡ n = sym (ap (λ (z : Letter). z.from) same) ∙ from in
    let so : says bytes ≡ Some (body.Request e q text) = ap (λ (z : Letter). says z.bytes) (sym same) ∙ is in
    let shows : ShowsText S ms n bytes (name.Request q) = subst (λ z. ShowsText S ms n bytes z) (called_so m e q text called bytes spelled.0 so) (subst (λ k. ShowsText S ms k bytes (named called)) here carried.0) in
    some_words (command_of S n q ms) text words (text_in (says bytes)) (back_command S n q first ms b.1 ∙ asks) (ap text_in so) shows
since_asking S n q e first text words l (x ∷ ms) (inl k) carried spelled none from is asks sent = absurd (none (subst (WasSent l) k.1 sent))
since_asking S n q e first text words l (x ∷ ms) (inr b) carried spelled none from is asks sent = since_asking S n q e first text words l ms b.1 carried.1 spelled.1 none from is asks sent

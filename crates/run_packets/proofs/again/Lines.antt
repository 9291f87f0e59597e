-- What lines and messages leave of the Requests of a node since it became a member, of their Answers, and of its ticks.
use Rattle.std.specs.Prelude.{ℕ, ◌≡◌, ◌≢◌, ◌⊎◌, ◌++◌, ◌==◌, ◌&&◌, ◌^◌, nat_le, nat_lt, length, Bool, true, false, List, [], ◌∷◌, Option, None, Some, if◌then◌else◌}
use Rattle.std.specs.List.{AllByRecursion}
use Rattle.std.proofs.Common.{refl, ap, sym, subst, ◌∙◌, inl, inr, arith}
use Rattle.attempt_laws.proofs.Walk.{if_with}
use Rattle.cl_base.specs.declared.packet.DropCause.{DropCause}
use Rattle.cmm_attempt.proofs.Basics.{and_cases, false_true, same_number}
use Rattle.history.specs.Letters.{is_exchanged}
use Rattle.history.specs.Messages.{last_request, one_more, ticks_since}
use Rattle.history.specs.Moment.{Moment, Told}
use Rattle.history.specs.Names as name
use Rattle.history.specs.Names.{named, same_name}
use Rattle.history.specs.Requests.{number_asked}
use Rattle.history.specs.Seizing.{or_else}
use Rattle.history.specs.Trace.{member}
use Rattle.interconnect.specs.Links as net
use Rattle.interconnect.specs.Links.{sending}
use Rattle.node_model.specs.declared.output.Output.{Output}
use Rattle.node_model.specs.declared.output.Output.TheVariants.{Sends, Tells}
use Rattle.run_history.proofs.Idle.{if_false, if_true, passing_append}
use Rattle.run_history.specs.Scenes.{Scene, dropped_so, passing, posting, sent_as, telling}
use Rattle.run_packets.proofs.prepares.Lines.{same_number as is_itself}
use Rattle.run_packets.proofs.repeats.Lines.{by_sent, sent_line}
use Rattle.run_packets.specs.prepares.Events.{IsLeft}
use Rattle.run_packets.specs.prepares.Proposals.{IsShort}
use Rattle.status_report.specs.declared.entry.Entry.{Entry}
use Rattle.status_report.specs.declared.entry.Entry.TheVariants as entry
use Rattle.status_report.specs.declared.node_entry.NodeEntry.TheVariants as note
use Rattle.wire.specs.Spelling.{spelling}
use Rattle.wire.specs.declared.message.Body.{Body}
use Rattle.wire.specs.declared.message.Body.TheVariants as body
use Rattle.wire.specs.declared.message.Message.{Message}
use Rattle.world_model.specs.Sends.{is_sent, name_of}
use Rattle.run_packets.specs.again.Ages.{current}
use Rattle.run_packets.specs.again.Asking.{NoRequest}

-- ---- outputs

-- a line that is no tick of n, does not make it a member, and is of no packet
abbrev pub EvenLine : ℕ → Entry → Type 0
EvenLine n (entry.Node m note.Ticked) = m ≢ n
EvenLine n (entry.Node m (note.Member e)) = m ≢ n
EvenLine n (entry.Packet e) = ⊥
EvenLine n _ = Unit {0}

-- what is sent is no Request of n
abbrev pub EvenOut : ℕ → ℕ → Output → Type 0
EvenOut n from (Tells e) = EvenLine n e
EvenOut n from (Sends to b) = from ≡ n → NoRequest b

abbrev pub AreEven : ℕ → ℕ → List Output → Type 0
AreEven n from os = AllByRecursion (EvenOut n from) os

-- ---- what is left

pub record Leaves (n : ℕ) (ms after : List Moment) : Type 0 where
  pub last : last_request n (current n after) ≡ last_request n (current n ms)
  pub ticks : (m q : ℕ) → ticks_since n m (name.Request q) (current n after) ≡ ticks_since n m (name.Request q) (current n ms)
  pub more : (c q : ℕ) → is_exchanged (name.Request q) (name.Answer q) n c (current n ms) ≡ true → is_exchanged (name.Request q) (name.Answer q) n c (current n after) ≡ true

leaves_all : (n : ℕ) (ms : List Moment) → Leaves n ms ms
leaves_all n ms = record { last = refl; ticks = λ m q. refl; more = λ c q h. h }

leaves_then : (n : ℕ) (a b d : List Moment) → Leaves n a b → Leaves n b d → Leaves n a d
leaves_then n a b d h k = record { last = k.last ∙ h.last; ticks = λ m q. k.ticks m q ∙ h.ticks m q; more = λ c q is. k.more c q (h.more c q is) }

other_false : (a b : ℕ) → (a ≡ b → ⊥) → (a == b) ≡ false
other_false a b h = grind (arith, h)

-- nothing that came in before
by_current : (n : ℕ) (x : Moment) (ms : List Moment) → current n (x ∷ ms) ≡ x ∷ current n ms → last_request n (x ∷ current n ms) ≡ last_request n (current n ms)
    → ((m q : ℕ) → ticks_since n m (name.Request q) (x ∷ current n ms) ≡ ticks_since n m (name.Request q) (current n ms))
    → ((c q : ℕ) → is_exchanged (name.Request q) (name.Answer q) n c (x ∷ current n ms) ≡ is_exchanged (name.Request q) (name.Answer q) n c (current n ms)) → Leaves n ms (x ∷ ms)
by_current n x ms is last ticks same = record {
  last = ap (last_request n) is ∙ last;
  ticks = λ m q. ap (ticks_since n m (name.Request q)) is ∙ ticks m q;
  more = λ c q h. ap (is_exchanged (name.Request q) (name.Answer q) n c) is ∙ (same c q ∙ h);
}

told_leaves : (n : ℕ) (e : Entry) (ms : List Moment) → EvenLine n e → Leaves n ms (Told e ∷ ms)
told_leaves n (entry.Node k note.Ticked) ms even =
    by_current n (Told (entry.Node k note.Ticked)) ms refl refl (λ m q. if_false (k == n) (one_more (ticks_since n m (name.Request q) (current n ms))) (ticks_since n m (name.Request q) (current n ms)) (other_false k n even)) (λ c q. refl)
told_leaves n (entry.Node k (note.Member e)) ms even =
    by_current n (member k e) ms (if_false (k == n) [] (member k e ∷ current n ms) (other_false k n even)) refl (λ m q. refl) (λ c q. refl)
told_leaves n (entry.Packet e) ms even = absurd even
told_leaves n _ ms even = record { last = refl; ticks = λ m q. refl; more = λ c q h. h }

-- ---- messages

dropped_leaves : (n : ℕ) (o : Option (ℕ × DropCause)) (s : Scene) → Leaves n s.moments (dropped_so o s).moments
dropped_leaves n None s = leaves_all n s.moments
dropped_leaves n (Some x) s = record { last = refl; ticks = λ m q. refl; more = λ c q h. h }

no_number : (b : Body) → NoRequest b → number_asked (named (name_of b)) ≡ None
no_number (body.Request e q text) h = absurd h
no_number _ h = refl

other_name : (b : Body) (q : ℕ) → NoRequest b → same_name (named (name_of b)) (name.Request q) ≡ false
other_name (body.Request e r text) q h = absurd h
other_name _ q h = refl

last_false : (a b d : Bool) → d ≡ false → (a && b && d) ≡ false
last_false true true d h = h
last_false true false d h = refl
last_false false b d h = refl

first_false : (a b d : Bool) → a ≡ false → (a && b && d) ≡ false
first_false a b d h = cc

if_same : {X : Type 0} (b : Bool) (x y : X) → (b ≡ true → x ≡ y) → (if b then x else y) ≡ y
if_same true x y h = h refl
if_same false x y h = refl

sent_leaves : (n from to : ℕ) (b : Body) (s : Scene) → (from ≡ n → NoRequest b) → Leaves n s.moments (sent_line from to b s).moments
sent_leaves n from to b s even = record {
  last = if_same (from == n) (or_else (number_asked (named (name_of b))) (last_request n (current n s.moments))) (last_request n (current n s.moments))
      (λ own. ap (λ o. or_else o (last_request n (current n s.moments))) (no_number b (even (same_number from n own))));
  ticks = λ m q. if_false ((from == n) && (to == m) && same_name (named (name_of b)) (name.Request q)) (Some 0) (ticks_since n m (name.Request q) (current n s.moments)) (by_own m q (from == n) refl);
  more = λ c q h. h;
}
  where
    by_own : (m q : ℕ) (own : Bool) → (from == n) ≡ own → ((from == n) && (to == m) && same_name (named (name_of b)) (name.Request q)) ≡ false
    by_own m q true is = last_false (from == n) (to == m) (same_name (named (name_of b)) (name.Request q)) (other_name b q (even (same_number from n is)))
    by_own m q false is = first_false (from == n) (to == m) (same_name (named (name_of b)) (name.Request q)) is

pub posting_leaves : (n from to : ℕ) (b : Body) (s : Scene) → (from ≡ n → NoRequest b) → Leaves n s.moments (posting from to (record { sender = from; body = b }) s).moments
posting_leaves n from to b s even =
    by_sent (λ t. Leaves n s.moments t.moments) from to b s
    (λ o. leaves_then n s.moments (sent_line from to b s).moments (dropped_so o (sent_line from to b s)).moments (sent_leaves n from to b s even) (dropped_leaves n o (sent_line from to b s))) (leaves_all n s.moments)

pub passing_leaves : (n from : ℕ) (os : List Output) (s : Scene) → AreEven n from os → Leaves n s.moments (passing from os s).moments
passing_leaves n from [] s even = leaves_all n s.moments
passing_leaves n from (Tells e ∷ os) s even = leaves_then n s.moments (telling e s).moments (passing from os (telling e s)).moments (told_leaves n e s.moments even.0) (passing_leaves n from os (telling e s) even.1)
passing_leaves n from (Sends to b ∷ os) s even =
    let u : Scene = posting from to (record { sender = from; body = b }) s in
    leaves_then n s.moments u.moments (passing from os u).moments (posting_leaves n from to b s even.0) (passing_leaves n from os u even.1)

-- a message leaves what was exchanged
pub posting_more : (n from to : ℕ) (b : Body) (s : Scene) (c q : ℕ) → is_exchanged (name.Request q) (name.Answer q) n c (current n s.moments) ≡ true
    → is_exchanged (name.Request q) (name.Answer q) n c (current n (posting from to (record { sender = from; body = b }) s).moments) ≡ true
posting_more n from to b s c q h =
    by_sent (λ t. is_exchanged (name.Request q) (name.Answer q) n c (current n t.moments) ≡ true) from to b s (λ o. (dropped_leaves n o (sent_line from to b s)).more c q h) h

-- ---- a Request of n

pub record Asked (n c q : ℕ) (after : List Moment) : Type 0 where
  pub last : last_request n (current n after) ≡ Some q
  pub ticks : ticks_since n c (name.Request q) (current n after) ≡ Some 0

asked_then : (n c q : ℕ) (a b : List Moment) → Asked n c q a → Leaves n a b → Asked n c q b
asked_then n c q a b h k = record { last = k.last ∙ h.last; ticks = k.ticks c q ∙ h.ticks }

both_true : (a b : Bool) → a ≡ true → b ≡ true → (a && b) ≡ true
both_true true b h k = k
both_true false b h k = absurd (false_true h)

request_called : (n c q : ℕ) → ((n == n) && (c == c) && same_name (name.Request q) (name.Request q)) ≡ true
request_called n c q = both_true ((n == n) && (c == c)) (same_name (name.Request q) (name.Request q)) (both_true (n == n) (c == c) (is_itself n) (is_itself c)) (is_itself q)

module _ (n c e q : ℕ) (text : List ℕ) (s : Scene) where
  abbrev b : Body
  b = body.Request e q text

  abbrev after : Scene
  after = posting n c (record { sender = n; body = b }) s

  sent_asked : (o : Option (ℕ × DropCause)) → Asked n c q (dropped_so o (sent_line n c b s)).moments
  sent_asked o =
      asked_then n c q (sent_line n c b s).moments (dropped_so o (sent_line n c b s)).moments
      (record { last = if_true (n == n) (Some q) (last_request n (current n s.moments)) (is_itself n); ticks = if_true ((n == n) && (c == c) && same_name (name.Request q) (name.Request q)) (Some 0) (ticks_since n c (name.Request q) (current n s.moments)) (request_called n c q) })
      (dropped_leaves n o (sent_line n c b s))

  -- it is sent, and so it has a packet's size, or nothing is
  pub posting_either : Leaves n s.moments after.moments ⊎ (IsShort n b × Asked n c q after.moments)
  posting_either =
      let m : Message = record { sender = n; body = b } in
      let o : net.Outcome = sending s.links n c (spelling m) in
      if_with (λ (t : Scene). Leaves n s.moments t.moments ⊎ (IsShort n b × Asked n c q t.moments)) (is_sent s.links m) (is_sent s.links m) (sent_as n c m o s) s refl
      (λ goes. inr ((and_cases (nat_le (length (spelling m)) 131072) (nat_lt s.links.next (2 ^ 63)) goes).0, sent_asked o.sent.dropped)) (λ stays. inl (leaves_all n s.moments))

  pub posting_asks : IsShort n b → IsLeft s.links.next → Asked n c q after.moments
  posting_asks short left =
      let m : Message = record { sender = n; body = b } in
      let o : net.Outcome = sending s.links n c (spelling m) in
      if_with (λ (t : Scene). Asked n c q t.moments) (is_sent s.links m) (is_sent s.links m) (sent_as n c m o s) s refl
      (λ goes. sent_asked o.sent.dropped) (λ stays. absurd (false_true (sym stays ∙ both_true (nat_le (length (spelling m)) 131072) (nat_lt s.links.next (2 ^ 63)) short left)))

-- ---- a tick of n, and its membership

pub record Older (n : ℕ) (ms after : List Moment) : Type 0 where
  pub last : last_request n (current n after) ≡ last_request n (current n ms)
  pub ticks : (m q : ℕ) → ticks_since n m (name.Request q) (current n after) ≡ one_more (ticks_since n m (name.Request q) (current n ms))
  pub more : (c q : ℕ) → is_exchanged (name.Request q) (name.Answer q) n c (current n ms) ≡ true → is_exchanged (name.Request q) (name.Answer q) n c (current n after) ≡ true

pub tick_older : (n : ℕ) (ms : List Moment) → Older n ms (Told (entry.Node n note.Ticked) ∷ ms)
tick_older n ms =
    record { last = refl; ticks = λ m q. if_true (n == n) (one_more (ticks_since n m (name.Request q) (current n ms))) (ticks_since n m (name.Request q) (current n ms)) (is_itself n); more = λ c q h. h }

pub older_then : (n : ℕ) (a b d : List Moment) → Older n a b → Leaves n b d → Older n a d
older_then n a b d h k = record { last = k.last ∙ h.last; ticks = λ m q. k.ticks m q ∙ h.ticks m q; more = λ c q is. k.more c q (h.more c q is) }

pub member_last : (n e : ℕ) (os : List Output) (s : Scene) → current n (passing n (os ++ Tells (entry.Node n (note.Member e)) ∷ []) s).moments ≡ []
member_last n e os s =
    subst (λ (t : Scene). current n t.moments ≡ []) (sym (passing_append n os (Tells (entry.Node n (note.Member e)) ∷ []) s))
    (if_true (n == n) [] (member n e ∷ current n (passing n os s).moments) (is_itself n))

-- The Requests of a member in its membership were sent since it became a member.
use Rattle.std.specs.Prelude.{ℕ, ◌+◌, ◌≡◌, ◌⊎◌, ◌==◌, ◌&&◌, ◌||◌, Bool, true, false, List, [], ◌∷◌, Option, None, Some, if◌then◌else◌}
use Rattle.std.proofs.Common.{refl, ap, sym, subst, ◌∙◌, inl, inr}
use Rattle.cl_base.specs.declared.packet.MessageName.{MessageName}
use Rattle.cmm_attempt.proofs.Basics.{false_true, none_some, or_cases, same_number, same_some}
use Rattle.history.specs.Letters.{Letter, letter_of, passes, reached, says}
use Rattle.history.specs.Member.{in_collect, member_of}
use Rattle.history.specs.Moment.{Moment}
use Rattle.history.specs.Names.{named}
use Rattle.history.specs.Order.{Always}
use Rattle.history.specs.Setting.{coordinator}
use Rattle.history.specs.Trace.{attempt, delivered, down, member, repeated, saved, sent, up}
use Rattle.run_commands.proofs.acknowledged.Quiet.{arrived_sent, sent_more}
use Rattle.run_commands.proofs.acknowledged.Requesting.{has_requested}
use Rattle.run_commands.specs.acknowledged.Askings.{requested_as}
use Rattle.run_commands.specs.acknowledged.Requested.{WasSent}
use Rattle.run_history.proofs.Idle.{if_false}
use Rattle.wire.specs.declared.message.Body.TheVariants as body
use Rattle.run_packets.specs.again.Coming.{IsFresh}
use Rattle.run_packets.specs.again.Exchanges.{memberships}

-- ---- letters

-- what is so of each line that sends is so of each letter
pub letters_at : (Q : List Moment → Moment → Type 0) (P : Letter → Type 0)
    → ((q a b : ℕ) (called : MessageName) (bytes : List ℕ) (before : List Moment) → Q before (sent q a b called bytes) → P (record { from = a; to = b; name = named called; bytes = bytes; before = before })) → (p : ℕ) (ms : List Moment) (l : Letter) → Always Q ms
    → letter_of p ms ≡ Some l → P l
letters_at Q P so p [] l law is = absurd (none_some l is)
letters_at Q P so p (sent q a b called bytes ∷ ms) l law is = by_test (q == p) is (λ k. letters_at Q P so p ms l law.1 k)
  where
    here : Letter
    here = record { from = a; to = b; name = named called; bytes = bytes; before = ms }

    by_test : (t : Bool) → (if t then Some here else letter_of p ms) ≡ Some l → (letter_of p ms ≡ Some l → P l) → P l
    by_test true found rest = subst P (same_some here l found) (so q a b called bytes ms law.0)
    by_test false found rest = rest found
letters_at Q P so p (repeated q copy ∷ ms) l law is = letters_at Q P so (if copy == p then q else p) ms l law.1 is
letters_at Q P so p (x ∷ ms) l law is = letters_at Q P so p ms l law.1 is

-- a letter that was sent before another
sent_within : (l j : Letter) (ms : List Moment) → WasSent l ms → WasSent j l.before → WasSent j ms
sent_within l j [] was within = absurd was
sent_within l j (sent q a b called bytes ∷ ms) (inl same) within = inr (subst (λ (z : Letter). WasSent j z.before) same within)
sent_within l j (sent q a b called bytes ∷ ms) (inr was) within = inr (sent_within l j ms was within)
sent_within l j (x ∷ ms) was within = sent_more j x ms (sent_within l j ms was within)

-- the letter of a number was sent
pub number_sent : (p : ℕ) (ms : List Moment) (l : Letter) → letter_of p ms ≡ Some l → WasSent l ms
number_sent p ms l is = arrived_sent l (delivered p 0 0 ∷ ms) is

or_left : (a b : Bool) → a ≡ true → (a || b) ≡ true
or_left true b h = refl
or_left false b h = cc

or_right : (a b : Bool) → b ≡ true → (a || b) ≡ true
or_right true b h = refl
or_right false b h = h

-- what came passes another test too
reached_too : (test other : Letter → Bool) (ms : List Moment) → ((l : Letter) → WasSent l ms → test l ≡ true → other l ≡ true) → reached test ms ≡ true → reached other ms ≡ true
reached_too test other [] so h = absurd (false_true h)
reached_too test other (delivered p a b ∷ ms) so h = by_case (or_cases (passes test (letter_of p ms)) (reached test ms) h) (λ there. reached_too test other ms (λ l was k. so l was k) there)
  where
    passed : (o : Option Letter) → letter_of p ms ≡ o → passes test o ≡ true → passes other o ≡ true
    passed None is k = absurd (false_true k)
    passed (Some l) is k = so l (number_sent p ms l is) k

    by_case : (passes test (letter_of p ms) ≡ true) ⊎ (reached test ms ≡ true) → (reached test ms ≡ true → reached other ms ≡ true) → (passes other (letter_of p ms) || reached other ms) ≡ true
    by_case (inl here) rest = or_left (passes other (letter_of p ms)) (reached other ms) (passed (letter_of p ms) refl here)
    by_case (inr there) rest = or_right (passes other (letter_of p ms)) (reached other ms) (rest there)
reached_too test other (x ∷ ms) so h = reached_too test other ms (λ l was k. so l (sent_more l x ms was) k) h

pub reached_before : (test other : Letter → Bool) (l : Letter) (ms : List Moment) → WasSent l ms → ((j : Letter) → WasSent j ms → test j ≡ true → other j ≡ true) → reached test l.before ≡ true → reached other l.before ≡ true
reached_before test other l ms was so h = reached_too test other l.before (λ j within k. so j (sent_within l j ms was within) k) h

-- ---- memberships

module _ (n e q : ℕ) (text : List ℕ) (l : Letter) (from : l.from ≡ n) (said : says l.bytes ≡ Some (body.Request e q text)) where
  -- it was not sent before the node became a member
  never_before : (ms : List Moment) → WasSent l ms → ((r : ℕ) → requested_as n r e ms ≡ false) → ⊥
  never_before ms was fresh = false_true (sym (fresh q) ∙ has_requested n q e text ms (record { letter = l; sent_so = was; from = from; says_so = said }))

  pub same_membership : (ms : List Moment) → Always IsFresh ms → member_of n ms ≡ Some e → WasSent l ms → memberships n l.before ≡ memberships n ms
  same_membership [] law is was = absurd was
  same_membership (sent p a b called bytes ∷ ms) law is (inl same) = ap (λ (z : Letter). memberships n z.before) same
  same_membership (sent p a b called bytes ∷ ms) law is (inr was) = same_membership ms law.1 is was
  same_membership (up m ∷ ms) law is was = by_test (m == n) is (λ k. same_membership ms law.1 k was)
    where
      by_test : (b : Bool) → (if b then None else member_of n ms) ≡ Some e → (member_of n ms ≡ Some e → memberships n l.before ≡ memberships n ms) → memberships n l.before ≡ memberships n ms
      by_test true k rest = absurd (none_some e k)
      by_test false k rest = rest k
  same_membership (down m why ∷ ms) law is was = by_test (m == n) is (λ k. same_membership ms law.1 k was)
    where
      by_test : (b : Bool) → (if b then None else member_of n ms) ≡ Some e → (member_of n ms ≡ Some e → memberships n l.before ≡ memberships n ms) → memberships n l.before ≡ memberships n ms
      by_test true k rest = absurd (none_some e k)
      by_test false k rest = rest k
  same_membership (attempt f members ∷ ms) law is was = by_test (coordinator f == n) is (λ k. same_membership ms law.1 k was)
    where
      by_test : (b : Bool) → (if b then None else member_of n ms) ≡ Some e → (member_of n ms ≡ Some e → memberships n l.before ≡ memberships n ms) → memberships n l.before ≡ memberships n ms
      by_test true k rest = absurd (none_some e k)
      by_test false k rest = rest k
  same_membership (saved m ∷ ms) law is was = by_test ((m == n) && in_collect n ms) is (λ k. same_membership ms law.1 k was)
    where
      by_test : (b : Bool) → (if b then None else member_of n ms) ≡ Some e → (member_of n ms ≡ Some e → memberships n l.before ≡ memberships n ms) → memberships n l.before ≡ memberships n ms
      by_test true k rest = absurd (none_some e k)
      by_test false k rest = rest k
  same_membership (member m f ∷ ms) law is was = by_test (m == n) refl is (λ k. same_membership ms law.1 k was)
    where
      by_test : (b : Bool) → (m == n) ≡ b → (if b then Some f else member_of n ms) ≡ Some e → (member_of n ms ≡ Some e → memberships n l.before ≡ memberships n ms) → memberships n l.before ≡ memberships n (member m f ∷ ms)
      by_test true here k rest =
          absurd (never_before ms was (λ r. subst (λ z. requested_as n r z ms ≡ false) (same_some f e k) (subst (λ z. requested_as z r f ms ≡ false) (same_number m n here) (law.0 r))))
      by_test false other k rest = rest k ∙ sym (if_false (m == n) (memberships n ms + 1) (memberships n ms) other)
  same_membership (x ∷ ms) law is was = same_membership ms law.1 is was

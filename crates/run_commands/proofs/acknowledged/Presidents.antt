-- A command of the president itself waits on among the requests that have come, from its asking on until its answer.
use Rattle.std.specs.Prelude.{ℕ, ◌≡◌, ◌≢◌, ◌==◌, ◌&&◌, ◌||◌, Bool, true, false, List, [], ◌∷◌, ◌++◌, Option, None, Some}
use Rattle.std.specs.List.{AllByRecursion, list_any}
use Rattle.std.proofs.Common.{refl, sym, ap, subst, ◌∙◌, arith, inl, inr}
use Rattle.cmm_attempt.proofs.Basics.{none_some}
use Rattle.status_report.specs.declared.command_entry.CommandEntry.TheVariants as command
use Rattle.status_report.specs.declared.entry.Entry.TheVariants as entry
use Rattle.status_report.specs.declared.packet_entry.PacketEntry.TheVariants as packet
use Rattle.history.specs.Commands.{is_answered_to}
use Rattle.history.specs.Member.{member_of}
use Rattle.history.specs.Moment.{Moment, Told}
use Rattle.history.specs.Order.{Always}
use Rattle.history.specs.Requests.{Request, Waiting, command_before, is_request_of, requests_of, with_request}
use Rattle.history.specs.Seizing.{is_number}
use Rattle.history.specs.Setting.{Setting, coordinator}
use Rattle.history.specs.Trace.{asked}
use Rattle.run_commands.specs.acknowledged.Askings.{AskedOnce, asked_as, text_asked}
use Rattle.run_commands.proofs.acknowledged.Askings.{is_equal, is_numbered, is_same, text_none, true_two, two_true}
use Rattle.run_commands.proofs.acknowledged.Granting.{NoAnswer, is_open, open_in, open_stays}
use Rattle.run_commands.proofs.acknowledged.Requests.{worded, words_same}
use Rattle.run_commands.specs.acknowledged.Requested.{IsToAnother}
use Rattle.run_commands.proofs.acknowledged.AnsweringWaiting.{Back, if_no, if_yes}

true_false : true ≡ false → ⊥
true_false e = cc

-- ---- it joins as it is asked

none_of : (t : ℕ → ℕ → Option (List ℕ)) (n q : ℕ) (rs : List Request) → AllByRecursion (λ r. t r.node r.number ≡ Some r.words) rs → t n q ≡ None → list_any (is_request_of n q) rs ≡ false
none_of t n q [] all none = refl
none_of t n q (r ∷ rs) all none = by_test (none_of t n q rs all.1 none) (is_request_of n q r) refl
  where
    by_test : list_any (is_request_of n q) rs ≡ false → (b : Bool) → is_request_of n q r ≡ b → (is_request_of n q r || list_any (is_request_of n q) rs) ≡ false
    by_test rest false is = ap (λ z. z || list_any (is_request_of n q) rs) is ∙ rest
    by_test rest true is =
        let two : _ = two_true (r.node == n) (r.number == q) is in
        absurd (none_some r.words (sym none ∙ (ap (λ k. t k q) (sym (is_equal r.node n two.0)) ∙ (ap (λ k. t r.node k) (sym (is_equal r.number q two.1)) ∙ all.0))))

pub none_before : (S : Setting) (n q e : ℕ) (ms : List Moment) → AskedOnce ms → asked_as n q e ms ≡ false → list_any (is_request_of n q) (requests_of S e ms) ≡ false
none_before S n q e ms once none = none_of (λ m r. text_asked S m r e ms) n q (requests_of S e ms) (worded S e ms once) (text_none S n q e ms none)

any_end : (test : Request → Bool) (rs : List Request) (r : Request) → test r ≡ true → list_any test (rs ++ r ∷ []) ≡ true
any_end test [] r h = ap (λ b. b || false) h
any_end test (x ∷ rs) r h = or_right (test x) (list_any test (rs ++ r ∷ [])) (any_end test rs r h)
  where
    or_right : (a b : Bool) → b ≡ true → (a || b) ≡ true
    or_right true b k = refl
    or_right false b k = k

joins : (n q : ℕ) (words : List ℕ) (rs : List Request) → list_any (is_request_of n q) rs ≡ false → list_any (is_open n q words) (with_request n q (Some words) rs) ≡ true
joins n q words rs none =
    let new : Request = record { node = n; number = q; words = words; stage = Waiting } in
    subst (λ (z : List Request). list_any (is_open n q words) z ≡ true) (sym (if_no (list_any (is_request_of n q) rs) rs (rs ++ new ∷ []) none))
    (any_end (is_open n q words) rs new (true_two ((n == n) && (q == q)) _ (true_two (n == n) (q == q) (is_same n) (is_same q)) (words_same words)))

here_open : (S : Setting) (n q e : ℕ) (words : List ℕ) (ms : List Moment) → coordinator e ≡ n → member_of n ms ≡ Some e → command_before S ms ≡ Some words → list_any (is_request_of n q) (requests_of S e ms) ≡ false
    → open_in S e n q words (asked n q ∷ ms) ≡ true
here_open S n q e words ms own seated asks none =
    let rs : List Request = requests_of S e ms in
    let test : ((n == coordinator e) && is_number e (member_of n ms)) ≡ true =
    true_two (n == coordinator e) (is_number e (member_of n ms)) (ap (λ k. n == k) own ∙ is_same n) (is_numbered e (member_of n ms) seated) in
    subst (λ (z : List Request). list_any (is_open n q words) z ≡ true) (sym (if_yes ((n == coordinator e) && is_number e (member_of n ms)) (with_request n q (command_before S ms) rs) rs test))
    (subst (λ o. list_any (is_open n q words) (with_request n q o rs) ≡ true) (sym asks) (joins n q words rs none))

-- ---- it is open still

is_other : (a b : ℕ) → a ≢ b → (a == b) ≡ false
is_other a b ne = grind arith

no_and : (a b : Bool) → a ≡ false → (a && b) ≡ false
no_and true b h = cc
no_and false b h = refl

no_answer : (n q e : ℕ) (x : Moment) (ms : List Moment) → coordinator e ≡ n → is_answered_to n q x ≡ false → IsToAnother ms x → NoAnswer e n q x
no_answer n q e (Told (entry.Command (command.Answered m p reply))) ms own silent apart = λ is. silent
no_answer n q e (Told (entry.Packet (packet.Sent k a m called bytes))) ms own silent apart =
    λ is p at. no_and (m == n) (p == q) (is_other m n (λ same. apart p at (same ∙ (sym own ∙ sym is))))
no_answer n q e _ ms own silent apart = tt

pub own_open : (S : Setting) (n q e : ℕ) (words : List ℕ) (first ms : List Moment) → coordinator e ≡ n → member_of n first ≡ Some e → command_before S first ≡ Some words
    → list_any (is_request_of n q) (requests_of S e first) ≡ false → Always IsToAnother ms → Back n q first ms → open_in S e n q words ms ≡ true
own_open S n q e words first [] own seated asks none apart b = absurd b
own_open S n q e words first (x ∷ ms) own seated asks none apart (inl k) =
    subst (λ z. open_in S e n q words (z ∷ ms) ≡ true) (sym k.0) (subst (λ l. open_in S e n q words (asked n q ∷ l) ≡ true) (sym k.1) (here_open S n q e words first own seated asks none))
own_open S n q e words first (x ∷ ms) own seated asks none apart (inr b) =
    open_stays S n q e words x ms (no_answer n q e x ms own b.0.silent apart.0) (own_open S n q e words first ms own seated asks none apart.1 b.1)

-- What a node answers by itself fits its command.
use Rattle.std.specs.Prelude.{ℕ, ◌%◌, ◌≡◌, ◌==◌, ◌&&◌, nat_le, not, Bool, true, false, List, [], ◌∷◌, Option, None, Some, Ok, MatchOption, is_some, slice_get, if◌then◌else◌}
use Rattle.std.proofs.Common.{refl, sym, ap, subst, ◌∙◌, inl, inr, arith}
use Rattle.admin_words.specs.Answers.{Spelled}
use Rattle.admin_words.specs.Commands.{command_of}
use Rattle.admin_words.specs.declared.error.WordError.{WordError}
use Rattle.admin_words.specs.declared.error.WordError.TheVariants as error
use Rattle.ccr_tables.specs.declared.command.AdminCommand.{AdminCommand}
use Rattle.cl_base.specs.Limits.{most_nodes}
use Rattle.cl_base.specs.declared.header.Header.{Header}
use Rattle.cl_base.specs.declared.header.Version.{Version}
use Rattle.cmm_attempt.proofs.Basics.{false_true, none_some, same_some}
use Rattle.cmm_member.specs.Nodes.{NodeState}
use Rattle.machine_base.specs.Epochs.{coordinator as machine_coordinator}
use Rattle.request_queue.specs.declared.request.Request.{Request}
use Rattle.status_report.specs.declared.command_entry.Answer.{Answer}
use Rattle.status_report.specs.declared.command_entry.Answer.TheVariants as answer
use Rattle.history.specs.Commands.{count_monitors, count_waiting, full, is_own_answer, own_case}
use Rattle.history.specs.Commands.Own.{Elsewhere}
use Rattle.history.specs.Member.{member_of}
use Rattle.history.specs.Moment.{Moment}
use Rattle.history.specs.Requests.{words_before}
use Rattle.history.specs.Setting.{Setting, coordinator}
use Rattle.history.specs.Trace.{gives}
use Rattle.history_setting.proofs.Canonical.{canonical_words_are_read}
use Rattle.history_setting.specs.Settings.{canonical_in, canonical_words, error_in, is_asked, is_query_in, setting_of}
use Rattle.node_model.specs.Presidents.{word_answer}
use Rattle.node_model.specs.Seats.{is_member, node_numbered}
use Rattle.node_model.specs.declared.node.UpNode.{UpNode}
use Rattle.node_model.specs.declared.presidency.Presidency.{Presidency}
use Rattle.node_model.specs.declared.seat.Seat.{Seat}
use Rattle.node_model.specs.declared.seat.Seat.TheVariants.{Forming, Member}
use Rattle.run_messages.specs.Laws.{membership_in}
use Rattle.run_commands.proofs.carried.Causes.{PresidentAt}
use Rattle.run_commands.specs.Guards.Hand.{Free}
use Rattle.run_commands.specs.Own.{FitsCase, FitsOwnAnswer, case_of}
use Rattle.run_commands.specs.Reads.{IsBad, IsForOther, IsStrange, IsTooMuch, OwnCause}
use Rattle.run_commands.proofs.Counting.{full_fits, is_enough}
use Rattle.run_commands.proofs.Explained.{is_unknown}
use Rattle.run_commands.proofs.Owed.{Owed}
use Rattle.run_commands.proofs.Presiding.{Presides}

-- ---- the command

words_at : (n : ℕ) (words : List ℕ) (ms : List Moment) → slice_get ms 0 ≡ Some (gives n words) → words_before ms ≡ Some words
words_at n words [] is = absurd (none_some (gives n words) is)
words_at n words (m ∷ ms) is = subst (λ z. words_before (z ∷ ms) ≡ Some words) (sym (same_some m (gives n words) is)) refl

fits_any : (S : Setting) (n : ℕ) (words : List ℕ) (ms : List Moment) (reply : Answer) (b : Bool) → words_before ms ≡ Some words → FitsCase S words (case_of S ms n words) reply
    → FitsOwnAnswer S ms n reply b
fits_any S n words ms reply false at h = tt
fits_any S n words ms reply true at h = subst (λ o. MatchOption o ⊥ (λ w. FitsCase S w (case_of S ms n w) reply)) (sym at) h

-- ---- each cause

bad_fits : (h : Header) (n : ℕ) (words : List ℕ) (ms : List Moment) (reply : Answer) → IsBad h.version words reply → FitsCase (setting_of h) words (case_of (setting_of h) ms n words) reply
bad_fits h n words ms reply c =
    let S : Setting = setting_of h in
    subst (λ (r : Spelled). FitsCase S words (own_case S ms n (canonical_in r) (member_of n ms)) reply) (sym c.read) (c.is ∙ sym (ap error_in c.read))

no_member : (seat : Seat) → is_member seat ≡ false → membership_in seat ≡ None
no_member (Forming s) is = refl
no_member (Member s) is = absurd (false_true (sym is))

-- of a command that is read
read_fits : (h : Header) (n : ℕ) (words : List ℕ) (ms : List Moment) (reply : Answer) (command : AdminCommand) (m : Option ℕ) → command_of h.version words ≡ Ok command → member_of n ms ≡ m
    → FitsCase (setting_of h) words (own_case (setting_of h) ms n (Some (canonical_words command)) m) reply → FitsCase (setting_of h) words (case_of (setting_of h) ms n words) reply
read_fits h n words ms reply command m read at f =
    let S : Setting = setting_of h in
    subst (λ (r : Spelled). FitsCase S words (own_case S ms n (canonical_in r) (member_of n ms)) reply) (sym read)
    (subst (λ (k : Option ℕ). FitsCase S words (own_case S ms n (Some (canonical_words command)) k) reply) (sym at) f)

stranger_fits : (h : Header) (n : ℕ) (words : List ℕ) (ms : List Moment) (seat : Seat) (reply : Answer) → member_of n ms ≡ membership_in seat → IsStrange h.version seat words reply
    → FitsCase (setting_of h) words (case_of (setting_of h) ms n words) reply
stranger_fits h n words ms seat reply at c = read_fits h n words ms reply c.command None c.read (at ∙ no_member seat c.seated) c.is

-- by its canonical words it is a query
pub query_is : (h : Header) (words : List ℕ) (command : AdminCommand) → command_of h.version words ≡ Ok command → (setting_of h).is_query (canonical_words command) ≡ is_asked command
query_is h words command read = ap is_query_in (canonical_words_are_read h.version words command read)

-- in this membership
member_fits : (h : Header) (n e : ℕ) (words : List ℕ) (ms : List Moment) (reply : Answer) (command : AdminCommand) (b : Bool) → command_of h.version words ≡ Ok command → member_of n ms ≡ Some e
    → (is_asked command && not (coordinator e == n)) ≡ b
    → FitsCase (setting_of h) words (if b then Elsewhere (coordinator e) else full (count_waiting n ms) (count_monitors n ms)) reply
    → FitsCase (setting_of h) words (case_of (setting_of h) ms n words) reply
member_fits h n e words ms reply command b read at is f =
    let S : Setting = setting_of h in
    read_fits h n words ms reply command (Some e) read at
    (subst (λ z. FitsCase S words (if z then Elsewhere (coordinator e) else full (count_waiting n ms) (count_monitors n ms)) reply)
    (sym (ap (λ z. z && not (coordinator e == n)) (query_is h words command read) ∙ is)) f)

true_and : (a b : Bool) → a ≡ true → b ≡ true → (a && b) ≡ true
true_and true b h k = k
true_and false b h k = cc

not_same : (a b : ℕ) → (a ≡ b → ⊥) → not (a == b) ≡ true
not_same a b ne = by_test (a == b) refl
  where
    same : (x y : ℕ) → (x == y) ≡ true → x ≡ y
    same x y is = grind arith

    by_test : (t : Bool) → (a == b) ≡ t → not t ≡ true
    by_test true is = absurd (ne (same a b is))
    by_test false is = refl

same_not : (a b : ℕ) → a ≡ b → not (a == b) ≡ false
same_not a b is = grind arith

and_false : (a b : Bool) → b ≡ false → (a && b) ≡ false
and_false true b h = h
and_false false b h = refl

-- the node of this number
pub numbered_is : (k president : ℕ) → node_numbered k ≡ Some president → president ≡ k
numbered_is k president is = by_test (nat_le 1 k && nat_le k most_nodes) is
  where
    by_test : (b : Bool) → (if b then Some k else None) ≡ Some president → president ≡ k
    by_test true e = sym (same_some k president e)
    by_test false e = absurd (none_some president e)

-- a member that is not the president is not the coordinator
pub none_own : (n : ℕ) (s : NodeState) (office : Option Presidency) → office ≡ None → Presides n (Member s) office → coordinator s.session ≡ n → ⊥
unfolding machine_coordinator
none_own n s office none h own = false_true (subst (λ o. is_some o ≡ true) none (h own))

elsewhere_fits : (h : Header) (n : ℕ) (words : List ℕ) (ms : List Moment) (seat : Seat) (office : Option Presidency) (reply : Answer) → member_of n ms ≡ membership_in seat → Presides n seat office
    → IsForOther h.version seat office words reply → FitsCase (setting_of h) words (case_of (setting_of h) ms n words) reply
elsewhere_fits h n words ms (Forming s) office reply at pr c = absurd (false_true c.seated)
elsewhere_fits h n words ms (Member s) office reply at pr c =
    member_fits h n s.session words ms reply c.command true c.read at
    (true_and (is_asked c.command) (not (coordinator s.session == n)) c.query (not_same (coordinator s.session) n (none_own n s office c.none pr)))
    (c.is ∙ ap (λ k. answer.Ask k) (numbered_is (s.session % 64) c.president c.at))

-- a president is the coordinator
pub own_epoch : (n : ℕ) (x : UpNode) (s : NodeState) → membership_in x.seat ≡ Some s.session → PresidentAt x n → coordinator s.session ≡ n
own_epoch n x s at p = ap coordinator (same_some s.session p.epoch (sym at ∙ p.member)) ∙ p.own

full_queue_fits : (h : Header) (n top : ℕ) (words : List ℕ) (ms : List Moment) (x : UpNode) (s : NodeState) (reply : Answer) → membership_in x.seat ≡ Some s.session
    → member_of n ms ≡ membership_in x.seat → Owed n ms Free top x.requests.waiting → (is_some x.presidency ≡ true → PresidentAt x n)
    → IsTooMuch h.version x.seat x.presidency x.requests.waiting words reply → FitsCase (setting_of h) words (case_of (setting_of h) ms n words) reply
full_queue_fits h n top words ms x s reply here at owed president c =
    member_fits h n s.session words ms reply c.command false c.read (at ∙ here) (by_query (is_asked c.command) refl)
    (subst (λ z. FitsCase (setting_of h) words (full (count_waiting n ms) (count_monitors n ms)) z) (sym c.is)
    (full_fits (setting_of h) words (count_waiting n ms) (count_monitors n ms) (is_enough n ms top x.requests.waiting c.full owed)))
  where
    by_query : (b : Bool) → is_asked c.command ≡ b → (b && not (coordinator s.session == n)) ≡ false
    by_query true is = same_not (coordinator s.session) n (own_epoch n x s here (president (c.query is)))
    by_query false is = refl

too_much_fits : (h : Header) (n top : ℕ) (words : List ℕ) (ms : List Moment) (x : UpNode) (reply : Answer) → member_of n ms ≡ membership_in x.seat → Owed n ms Free top x.requests.waiting
    → (is_some x.presidency ≡ true → PresidentAt x n) → IsTooMuch h.version x.seat x.presidency x.requests.waiting words reply
    → FitsCase (setting_of h) words (case_of (setting_of h) ms n words) reply
too_much_fits h n top words ms x reply at owed president c = by_seat x.seat refl
  where
    by_seat : (seat : Seat) → x.seat ≡ seat → FitsCase (setting_of h) words (case_of (setting_of h) ms n words) reply
    by_seat (Forming s) is = absurd (false_true (subst (λ z. is_member z ≡ true) is c.seated))
    by_seat (Member s) is = full_queue_fits h n top words ms x s reply (ap membership_in is) at owed president c

-- ---- all of them

pub cause_fits : (h : Header) (n top : ℕ) (words : List ℕ) (ms : List Moment) (x : UpNode) (reply : Answer) → slice_get ms 0 ≡ Some (gives n words) → member_of n ms ≡ membership_in x.seat
    → Owed n ms Free top x.requests.waiting → Presides n x.seat x.presidency → (is_some x.presidency ≡ true → PresidentAt x n)
    → OwnCause h.version x.seat x.presidency x.requests.waiting words reply → FitsOwnAnswer (setting_of h) ms n reply (is_own_answer reply)
cause_fits h n top words ms x reply first at owed pr president (inl c) =
    fits_any (setting_of h) n words ms reply (is_own_answer reply) (words_at n words ms first) (bad_fits h n words ms reply c)
cause_fits h n top words ms x reply first at owed pr president (inr (inl c)) =
    fits_any (setting_of h) n words ms reply (is_own_answer reply) (words_at n words ms first) (stranger_fits h n words ms x.seat reply at c)
cause_fits h n top words ms x reply first at owed pr president (inr (inr (inl c))) =
    fits_any (setting_of h) n words ms reply (is_own_answer reply) (words_at n words ms first) (elsewhere_fits h n words ms x.seat x.presidency reply at pr c)
cause_fits h n top words ms x reply first at owed pr president (inr (inr (inr c))) =
    fits_any (setting_of h) n words ms reply (is_own_answer reply) (words_at n words ms first) (too_much_fits h n top words ms x reply at owed president c)

word_known : (e : WordError) (reply : Answer) → reply ≡ word_answer e → is_unknown reply ≡ false
word_known error.UnknownCommand reply is = ap is_unknown is
word_known error.MissingOperand reply is = ap is_unknown is
word_known error.BadValue reply is = ap is_unknown is
word_known error.NoMemory reply is = ap is_unknown is

-- none of them is `unknown`
pub cause_known : (v : Version) (seat : Seat) (office : Option Presidency) (waiting : List Request) (words : List ℕ) (reply : Answer) → OwnCause v seat office waiting words reply
    → is_unknown reply ≡ false
cause_known v seat office waiting words reply (inl c) = word_known c.error reply c.is
cause_known v seat office waiting words reply (inr (inl c)) = ap is_unknown c.is
cause_known v seat office waiting words reply (inr (inr (inl c))) = ap is_unknown c.is
cause_known v seat office waiting words reply (inr (inr (inr c))) = ap is_unknown c.is

-- Which requests have come: none is lost, each has the words of its command, and each that comes is among them.
use Rattle.std.specs.Prelude.{ℕ, ◌≡◌, ◌≤◌, ◌==◌, ◌&&◌, ◌||◌, Bool, true, false, if◌then◌else◌, List, [], ◌∷◌, ◌++◌, Option, None, Some}
use Rattle.std.specs.List.{AllByRecursion, list_any}
use Rattle.std.proofs.Common.{refl, sym, ap, subst, ◌∙◌, arith}
use Rattle.status_report.specs.declared.command_entry.CommandEntry.TheVariants as command
use Rattle.status_report.specs.declared.entry.Entry.TheVariants as entry
use Rattle.status_report.specs.declared.packet_entry.PacketEntry.TheVariants as packet
use Rattle.history.specs.Letters.{Letter, letter_of}
use Rattle.history.specs.Member.{member_of}
use Rattle.history.specs.Moment.{Moment, Told}
use Rattle.history.specs.Names as name
use Rattle.history.specs.Names.{Name, named}
use Rattle.history.specs.Requests.{Request, Stage, Waiting, answered_by, answered_in, asked_in, closed, command_before, is_request_of, number_asked, requests_of, same_words, with_asked, with_letter, with_request}
use Rattle.history.specs.Seizing.{is_number}
use Rattle.history.specs.Setting.{Setting, coordinator}
use Rattle.history.specs.Trace.{asked, delivered}
use Rattle.run_commands.specs.acknowledged.Askings.{AskedOnce, Test, held, is_it, passes_test, text_asked}
use Rattle.run_commands.proofs.acknowledged.Askings.{asked_text, is_equal, is_numbered, is_same, letter_text, split_if, text_stays, true_two, two_true}
use Rattle.run_commands.proofs.acknowledged.Tally.{le_is, le_same, one_here, one_there, tally_map, tally_more}

some_is : {X : Type 0} (x y : X) → Some x ≡ Some y → x ≡ y
some_is x y e = cc

if_yes : {X : Type 0} (b : Bool) (x y : X) → b ≡ true → (if b then x else y) ≡ x
if_yes true x y h = refl
if_yes false x y h = cc

-- ---- none is lost

with_more : (T : Test) (n q : ℕ) (o : Option (List ℕ)) (rs : List Request) → held T rs ≤ held T (with_request n q o rs)
with_more T n q None rs = le_same (held T rs)
with_more T n q (Some words) rs =
    split_if (λ (z : List Request). held T rs ≤ held T z) (list_any (is_request_of n q) rs) rs _ (λ is. le_same (held T rs)) (λ is. tally_more (passes_test T) rs _)

closed_same : (T : Test) (e : ℕ) (ms : List Moment) (r : Request) (stage : Stage) → passes_test T (closed e ms r stage) ≡ passes_test T r
closed_same T e ms r Waiting = refl
closed_same T e ms r _ = refl

answered_same : (T : Test) (e : ℕ) (ms : List Moment) (n q : ℕ) (rs : List Request) → held T (answered_in e ms n q rs) ≡ held T rs
answered_same T e ms n q rs =
    tally_map (passes_test T) (λ r. if is_request_of n q r then closed e ms r r.stage else r) rs
    (λ r. split_if (λ (z : Request). passes_test T z ≡ passes_test T r) (is_request_of n q r) (closed e ms r r.stage) r (λ is. closed_same T e ms r r.stage) (λ is. refl))

sent_same : (T : Test) (e : ℕ) (ms : List Moment) (m : ℕ) (called : Name) (rs : List Request) → held T (answered_by e ms m called rs) ≡ held T rs
sent_same T e ms m (name.Answer q) rs = answered_same T e ms m q rs
sent_same T e ms m _ rs = refl

asked_more : (S : Setting) (T : Test) (e : ℕ) (l : Letter) (o : Option ℕ) (rs : List Request) → held T rs ≤ held T (with_asked S e l o rs)
asked_more S T e l None rs = le_same (held T rs)
asked_more S T e l (Some q) rs = with_more T l.from q (asked_in S e l.from q l.before) rs

letter_more : (S : Setting) (T : Test) (e : ℕ) (o : Option Letter) (rs : List Request) → held T rs ≤ held T (with_letter S e o rs)
letter_more S T e None rs = le_same (held T rs)
letter_more S T e (Some l) rs = asked_more S T e l (number_asked l.name) rs

pub requests_grow : (S : Setting) (T : Test) (e : ℕ) (x : Moment) (ms : List Moment) → held T (requests_of S e ms) ≤ held T (requests_of S e (x ∷ ms))
requests_grow S T e (Told (entry.Command (command.Asked n q))) ms =
    let rs : List Request = requests_of S e ms in
    split_if (λ (z : List Request). held T rs ≤ held T z) ((n == coordinator e) && is_number e (member_of n ms)) _ rs (λ is. with_more T n q (command_before S ms) rs) (λ is. le_same (held T rs))
requests_grow S T e (Told (entry.Command (command.Answered n q reply))) ms =
    let rs : List Request = requests_of S e ms in
    split_if (λ (z : List Request). held T rs ≤ held T z) (n == coordinator e) _ rs (λ is. le_is (held T rs) _ (sym (answered_same T e ms n q rs))) (λ is. le_same (held T rs))
requests_grow S T e (Told (entry.Packet (packet.Sent p n m called bytes))) ms =
    let rs : List Request = requests_of S e ms in
    split_if (λ (z : List Request). held T rs ≤ held T z) (n == coordinator e) _ rs (λ is. le_is (held T rs) _ (sym (sent_same T e ms m (named called) rs))) (λ is. le_same (held T rs))
requests_grow S T e (Told (entry.Packet (packet.Delivered p m n))) ms =
    let rs : List Request = requests_of S e ms in
    split_if (λ (z : List Request). held T rs ≤ held T z) ((n == coordinator e) && is_number e (member_of n ms)) _ rs (λ is. letter_more S T e (letter_of p ms) rs) (λ is. le_same (held T rs))
requests_grow S T e _ ms = le_same (held T (requests_of S e ms))

-- ---- each has the words of its command

abbrev Worded : (ℕ → ℕ → Option (List ℕ)) → List Request → Type 0
Worded t rs = AllByRecursion (λ r. t r.node r.number ≡ Some r.words) rs

abbrev texts : Setting → ℕ → List Moment → ℕ → ℕ → Option (List ℕ)
texts S e ms = λ n q. text_asked S n q e ms

all_worded : (t u : ℕ → ℕ → Option (List ℕ)) (rs : List Request) → ((n q : ℕ) (w : List ℕ) → t n q ≡ Some w → u n q ≡ Some w) → Worded t rs → Worded u rs
all_worded t u [] f h = tt
all_worded t u (r ∷ rs) f h = (f r.node r.number r.words h.0, all_worded t u rs f h.1)

end_worded : (t : ℕ → ℕ → Option (List ℕ)) (rs : List Request) (r : Request) → Worded t rs → t r.node r.number ≡ Some r.words → Worded t (rs ++ r ∷ [])
end_worded t [] r h k = (k, tt)
end_worded t (x ∷ rs) r h k = (h.0, end_worded t rs r h.1 k)

with_worded : (t : ℕ → ℕ → Option (List ℕ)) (n q : ℕ) (o : Option (List ℕ)) (rs : List Request) → ((w : List ℕ) → o ≡ Some w → t n q ≡ Some w) → Worded t rs → Worded t (with_request n q o rs)
with_worded t n q None rs f h = h
with_worded t n q (Some words) rs f h =
    split_if (Worded t) (list_any (is_request_of n q) rs) rs _ (λ is. h) (λ is. end_worded t rs (record { node = n; number = q; words = words; stage = Waiting }) h (f words refl))

closed_worded : (t : ℕ → ℕ → Option (List ℕ)) (e : ℕ) (ms : List Moment) (r : Request) (stage : Stage) → t r.node r.number ≡ Some r.words → (let z : Request = closed e ms r stage in t z.node z.number ≡ Some z.words)
closed_worded t e ms r Waiting h = h
closed_worded t e ms r _ h = h

answered_worded : (t : ℕ → ℕ → Option (List ℕ)) (e : ℕ) (ms : List Moment) (n q : ℕ) (rs : List Request) → Worded t rs → Worded t (answered_in e ms n q rs)
answered_worded t e ms n q [] h = tt
answered_worded t e ms n q (r ∷ rs) h = (
  split_if (λ (z : Request). t z.node z.number ≡ Some z.words) (is_request_of n q r) (closed e ms r r.stage) r (λ is. closed_worded t e ms r r.stage h.0) (λ is. h.0),
  answered_worded t e ms n q rs h.1,
)

sent_worded : (t : ℕ → ℕ → Option (List ℕ)) (e : ℕ) (ms : List Moment) (m : ℕ) (called : Name) (rs : List Request) → Worded t rs → Worded t (answered_by e ms m called rs)
sent_worded t e ms m (name.Answer q) rs h = answered_worded t e ms m q rs h
sent_worded t e ms m _ rs h = h

asked_worded : (S : Setting) (t : ℕ → ℕ → Option (List ℕ)) (e : ℕ) (l : Letter) (o : Option ℕ) (rs : List Request) → ((q : ℕ) (w : List ℕ) → asked_in S e l.from q l.before ≡ Some w → t l.from q ≡ Some w)
    → Worded t rs → Worded t (with_asked S e l o rs)
asked_worded S t e l None rs f h = h
asked_worded S t e l (Some q) rs f h = with_worded t l.from q (asked_in S e l.from q l.before) rs (f q) h

letter_worded : (S : Setting) (e p : ℕ) (ms : List Moment) (o : Option Letter) (rs : List Request) → AskedOnce ms → letter_of p ms ≡ o → Worded (texts S e ms) rs → Worded (texts S e ms) (with_letter S e o rs)
letter_worded S e p ms None rs once at h = h
letter_worded S e p ms (Some l) rs once at h =
    asked_worded S (texts S e ms) e l (number_asked l.name) rs (λ q w is. letter_text S l.from q e p w l ms once at (asked_text S l.from q e w l.before is)) h

-- the words of a command that is asked
here_text : (S : Setting) (n q e : ℕ) (ms : List Moment) → is_number e (member_of n ms) ≡ true → text_asked S n q e (asked n q ∷ ms) ≡ command_before S ms
here_text S n q e ms member =
    if_yes (((n == n) && (q == q)) && is_number e (member_of n ms)) (command_before S ms) (text_asked S n q e ms)
    (true_two ((n == n) && (q == q)) (is_number e (member_of n ms)) (true_two (n == n) (q == q) (is_same n) (is_same q)) member)

pub worded : (S : Setting) (e : ℕ) (ms : List Moment) → AskedOnce ms → Worded (texts S e ms) (requests_of S e ms)
worded S e [] once = tt
worded S e (Told (entry.Command (command.Asked n q)) ∷ ms) once =
    let rs : List Request = requests_of S e ms in
    let old : Worded (texts S e (asked n q ∷ ms)) rs =
    all_worded (texts S e ms) (texts S e (asked n q ∷ ms)) rs (λ m r w is. text_stays S m r e w (asked n q) ms once.0 is) (worded S e ms once.1) in
    split_if (Worded (texts S e (asked n q ∷ ms))) ((n == coordinator e) && is_number e (member_of n ms)) _ rs
    (λ is. with_worded (texts S e (asked n q ∷ ms)) n q (command_before S ms) rs (λ w at. here_text S n q e ms (two_true (n == coordinator e) (is_number e (member_of n ms)) is).1 ∙ at) old)
    (λ is. old)
worded S e (Told (entry.Command (command.Answered n q reply)) ∷ ms) once =
    let rs : List Request = requests_of S e ms in
    split_if (Worded (texts S e ms)) (n == coordinator e) _ rs (λ is. answered_worded (texts S e ms) e ms n q rs (worded S e ms once.1)) (λ is. worded S e ms once.1)
worded S e (Told (entry.Packet (packet.Sent p n m called bytes)) ∷ ms) once =
    let rs : List Request = requests_of S e ms in
    split_if (Worded (texts S e ms)) (n == coordinator e) _ rs (λ is. sent_worded (texts S e ms) e ms m (named called) rs (worded S e ms once.1)) (λ is. worded S e ms once.1)
worded S e (Told (entry.Packet (packet.Delivered p m n)) ∷ ms) once =
    let rs : List Request = requests_of S e ms in
    split_if (Worded (texts S e ms)) ((n == coordinator e) && is_number e (member_of n ms)) _ rs
    (λ is. letter_worded S e p ms (letter_of p ms) rs once.1 refl (worded S e ms once.1)) (λ is. worded S e ms once.1)
worded S e (_ ∷ ms) once = worded S e ms once.1

-- ---- each that comes is among them

pub words_same : (w : List ℕ) → same_words w w ≡ true
words_same [] = refl
words_same (x ∷ xs) = true_two (x == x) (same_words xs xs) (is_same x) (words_same xs)

pub words_equal : (a b : List ℕ) → same_words a b ≡ true → a ≡ b
words_equal [] [] h = refl
words_equal (x ∷ xs) (y ∷ ys) h =
    let two : _ = two_true (x == y) (same_words xs ys) h in
    ap (λ k. k ∷ xs) (is_equal x y two.0) ∙ ap (λ zs. y ∷ zs) (words_equal xs ys two.1)
words_equal [] (y ∷ ys) h = cc
words_equal (x ∷ xs) [] h = cc

among : (t : ℕ → ℕ → Option (List ℕ)) (n q : ℕ) (w : List ℕ) (rs : List Request) → Worded t rs → list_any (is_request_of n q) rs ≡ true → t n q ≡ Some w → 1 ≤ held (is_it n q w) rs
among t n q w [] h any is = cc
among t n q w (r ∷ rs) h any is = by_test (λ k. among t n q w rs h.1 k is) (is_request_of n q r) refl any
  where
    by_test : (list_any (is_request_of n q) rs ≡ true → 1 ≤ held (is_it n q w) rs) → (b : Bool) → is_request_of n q r ≡ b → (b || list_any (is_request_of n q) rs) ≡ true → 1 ≤ held (is_it n q w) (r ∷ rs)
    by_test rest true so k =
        let two : _ = two_true (r.node == n) (r.number == q) so in
        let same : r.words ≡ w =
        some_is r.words w (sym h.0 ∙ (ap (λ m. t m r.number) (is_equal r.node n two.0) ∙ (ap (λ j. t n j) (is_equal r.number q two.1) ∙ is))) in
        one_here (passes_test (is_it n q w) r) (held (is_it n q w) rs)
        (true_two ((r.node == n) && (r.number == q)) (same_words r.words w) so (ap (λ v. same_words v w) same ∙ words_same w))
    by_test rest false so k = one_there (passes_test (is_it n q w) r) (held (is_it n q w) rs) (rest k)

any_end : (n q : ℕ) (rs : List Request) (r : Request) → is_request_of n q r ≡ true → list_any (is_request_of n q) (rs ++ r ∷ []) ≡ true
any_end n q [] r h = ap (λ b. b || false) h
any_end n q (x ∷ rs) r h = or_second (is_request_of n q x) _ (any_end n q rs r h)
  where
    or_second : (b c : Bool) → c ≡ true → (b || c) ≡ true
    or_second true c k = refl
    or_second false c k = k

with_any : (n q : ℕ) (w : List ℕ) (rs : List Request) → list_any (is_request_of n q) (with_request n q (Some w) rs) ≡ true
with_any n q w rs =
    split_if (λ (z : List Request). list_any (is_request_of n q) z ≡ true) (list_any (is_request_of n q) rs) rs _ (λ is. is)
    (λ is. any_end n q rs (record { node = n; number = q; words = w; stage = Waiting }) (true_two (n == n) (q == q) (is_same n) (is_same q)))

-- the president's own command
pub own_comes : (S : Setting) (n q e : ℕ) (w : List ℕ) (ms : List Moment) → AskedOnce ms → n ≡ coordinator e → text_asked S n q e ms ≡ Some w → 1 ≤ held (is_it n q w) (requests_of S e ms)
own_comes S n q e w [] once own h = cc
own_comes S n q e w (Told (entry.Command (command.Asked m r)) ∷ ms) once own h = by_test (λ k. own_comes S n q e w ms once.1 own k) (((m == n) && (r == q)) && is_number e (member_of n ms)) refl h
  where
    all : Worded (texts S e (asked m r ∷ ms)) (requests_of S e (asked m r ∷ ms))
    all = worded S e (asked m r ∷ ms) once

    by_test : (text_asked S n q e ms ≡ Some w → 1 ≤ held (is_it n q w) (requests_of S e ms)) → (b : Bool) → (((m == n) && (r == q)) && is_number e (member_of n ms)) ≡ b → (if b then command_before S ms else text_asked S n q e ms) ≡ Some w
        → 1 ≤ held (is_it n q w) (requests_of S e (asked m r ∷ ms))
    by_test rest false is k = le_more (held (is_it n q w) (requests_of S e ms)) _ (rest k) (requests_grow S (is_it n q w) e (asked m r) ms)
      where
        le_more : (a b : ℕ) → 1 ≤ a → a ≤ b → 1 ≤ b
        le_more a b x y = omega (arith, x, y)
    by_test rest true is k =
        let two : _ = two_true ((m == n) && (r == q)) (is_number e (member_of n ms)) is in
        let same : _ = two_true (m == n) (r == q) two.0 in
        let at : m ≡ n = is_equal m n same.0 in
        let by : r ≡ q = is_equal r q same.1 in
        let test : ((m == coordinator e) && is_number e (member_of m ms)) ≡ true =
        true_two (m == coordinator e) (is_number e (member_of m ms)) (ap (λ z. z == coordinator e) at ∙ (ap (λ z. z == coordinator e) own ∙ is_same (coordinator e)))
        (ap (λ z. is_number e (member_of z ms)) at ∙ two.1) in
        among (texts S e (asked m r ∷ ms)) n q w (requests_of S e (asked m r ∷ ms)) all
        (subst (λ (z : List Request). list_any (is_request_of n q) z ≡ true)
        (sym (if_yes ((m == coordinator e) && is_number e (member_of m ms)) (with_request m r (command_before S ms) (requests_of S e ms)) (requests_of S e ms) test))
        (subst (λ o. list_any (is_request_of n q) (with_request m r o (requests_of S e ms)) ≡ true) (sym k)
        (subst (λ z. list_any (is_request_of n q) (with_request z r (Some w) (requests_of S e ms)) ≡ true) (sym at)
        (subst (λ z. list_any (is_request_of n q) (with_request n z (Some w) (requests_of S e ms)) ≡ true) (sym by) (with_any n q w (requests_of S e ms))))))
        h
own_comes S n q e w (x ∷ ms) once own h = le_more (held (is_it n q w) (requests_of S e ms)) _ (own_comes S n q e w ms once.1 own h) (requests_grow S (is_it n q w) e x ms)
  where
    le_more : (a b : ℕ) → 1 ≤ a → a ≤ b → 1 ≤ b
    le_more a b y z = omega (arith, y, z)

-- that of another member, with its Request
pub other_comes : (S : Setting) (e p m n q : ℕ) (w : List ℕ) (l : Letter) (ms : List Moment) → AskedOnce ms → n ≡ coordinator e → member_of n ms ≡ Some e → letter_of p ms ≡ Some l → l.name ≡ name.Request q
    → asked_in S e l.from q l.before ≡ Some w → 1 ≤ held (is_it l.from q w) (requests_of S e (delivered p m n ∷ ms))
other_comes S e p m n q w l ms once own member at called asks =
    let rs : List Request = requests_of S e ms in
    let test : ((n == coordinator e) && is_number e (member_of n ms)) ≡ true =
    true_two (n == coordinator e) (is_number e (member_of n ms)) (ap (λ z. z == coordinator e) own ∙ is_same (coordinator e)) (is_numbered e (member_of n ms) member) in
    among (texts S e ms) l.from q w (requests_of S e (delivered p m n ∷ ms)) (worded S e (delivered p m n ∷ ms) (tt, once))
    (subst (λ (z : List Request). list_any (is_request_of l.from q) z ≡ true) (sym (if_yes ((n == coordinator e) && is_number e (member_of n ms)) (with_letter S e (letter_of p ms) rs) rs test))
    (subst (λ o. list_any (is_request_of l.from q) (with_letter S e o rs) ≡ true) (sym at)
    (subst (λ z. list_any (is_request_of l.from q) (with_asked S e l (number_asked z) rs) ≡ true) (sym called)
    (subst (λ o. list_any (is_request_of l.from q) (with_request l.from q o rs) ≡ true) (sym asks) (with_any l.from q w rs)))))
    (letter_text S l.from q e p w l ms once at (asked_text S l.from q e w l.before asks))

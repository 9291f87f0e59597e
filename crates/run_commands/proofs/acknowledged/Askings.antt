-- A member asks by a number once: so the words of its command stay, whatever comes.
use Rattle.std.specs.Prelude.{ℕ, ◌≡◌, ◌==◌, ◌&&◌, ◌||◌, Bool, true, false, if◌then◌else◌, List, [], ◌∷◌, Option, None, Some}
use Rattle.std.specs.Option.{option_and_then}
use Rattle.std.proofs.Common.{refl, sym, ap, subst, ◌∙◌, arith}
use Rattle.status_report.specs.declared.command_entry.CommandEntry.TheVariants as command
use Rattle.status_report.specs.declared.entry.Entry.TheVariants as entry
use Rattle.status_report.specs.declared.node_entry.NodeEntry.TheVariants as note
use Rattle.status_report.specs.declared.packet_entry.PacketEntry.TheVariants as packet
use Rattle.schedule_text.specs.declared.event.Event.TheVariants as event
use Rattle.schedule_text.specs.declared.line.Line.TheVariants as line
use Rattle.history.specs.Letters.{Letter, letter_of}
use Rattle.history.specs.Member.{member_of}
use Rattle.history.specs.Moment.{Moment, Said, Told}
use Rattle.history.specs.Names.{named}
use Rattle.history.specs.Order.{before_last, since}
use Rattle.history.specs.Requests.{asked_in, before_asking, command_before, is_asking, words_before}
use Rattle.history.specs.Seizing.{is_boot, is_number}
use Rattle.history.specs.Setting.{Setting}
use Rattle.run_commands.specs.acknowledged.Askings.{AskedOnce, IsFirst, LettersAre, asked_as, text_asked}

none_has : {X : Type 0} (x : X) → None ≡ Some x → ⊥
none_has x e = cc

true_not : true ≡ false → ⊥
true_not e = cc

pub split_if : {X : Type 0} (P : X → Type 0) (b : Bool) (x y : X) → (b ≡ true → P x) → (b ≡ false → P y) → P (if b then x else y)
split_if P true x y h k = h refl
split_if P false x y h k = k refl

pub two_true : (a b : Bool) → (a && b) ≡ true → (a ≡ true) × (b ≡ true)
two_true true b h = (refl, h)
two_true false b h = cc

pub true_two : (a b : Bool) → a ≡ true → b ≡ true → (a && b) ≡ true
true_two true b h k = k
true_two false b h k = cc

or_none : (a b : Bool) → (a || b) ≡ false → (a ≡ false) × (b ≡ false)
or_none true b h = cc
or_none false b h = (refl, h)

pub is_same : (k : ℕ) → (k == k) ≡ true
is_same k = grind arith

pub is_equal : (a b : ℕ) → (a == b) ≡ true → a ≡ b
is_equal a b h = grind arith

pub number_is : (e : ℕ) (o : Option ℕ) → is_number e o ≡ true → o ≡ Some e
number_is e None h = cc
number_is e (Some f) h = ap (λ k. Some k) (is_equal f e h)

pub is_numbered : (e : ℕ) (o : Option ℕ) → o ≡ Some e → is_number e o ≡ true
is_numbered e o h = ap (λ z. is_number e z) h ∙ is_same e

if_yes : {X : Type 0} (b : Bool) (x y : X) → b ≡ true → (if b then x else y) ≡ x
if_yes true x y h = refl
if_yes false x y h = cc

if_no : {X : Type 0} (b : Bool) (x y : X) → b ≡ false → (if b then x else y) ≡ y
if_no true x y h = cc
if_no false x y h = refl

-- where it was not asked there are no words
pub text_none : (S : Setting) (n q e : ℕ) (ms : List Moment) → asked_as n q e ms ≡ false → text_asked S n q e ms ≡ None
text_none S n q e [] h = refl
text_none S n q e (Told (entry.Command (command.Asked m r)) ∷ ms) h =
    let b : Bool = ((m == n) && (r == q)) && is_number e (member_of n ms) in
    let two : _ = or_none b (asked_as n q e ms) h in
    if_no b (command_before S ms) (text_asked S n q e ms) two.0 ∙ text_none S n q e ms two.1
text_none S n q e (_ ∷ ms) h = text_none S n q e ms h

-- ---- the words stay

again : (S : Setting) (n q e m r : ℕ) (w : List ℕ) (ms : List Moment) → IsFirst ms (Told (entry.Command (command.Asked m r))) → text_asked S n q e ms ≡ Some w
    → (((m == n) && (r == q)) && is_number e (member_of n ms)) ≡ false
again S n q e m r w ms first h = by_test (((m == n) && (r == q)) && is_number e (member_of n ms)) refl
  where
    by_test : (b : Bool) → (((m == n) && (r == q)) && is_number e (member_of n ms)) ≡ b → b ≡ false
    by_test false is = refl
    by_test true is =
        let two : _ = two_true ((m == n) && (r == q)) (is_number e (member_of n ms)) is in
        let same : _ = two_true (m == n) (r == q) two.0 in
        let at : m ≡ n = is_equal m n same.0 in
        let by : r ≡ q = is_equal r q same.1 in
        let none : asked_as m r e ms ≡ false = (first e (ap (λ k. member_of k ms) at ∙ number_is e (member_of n ms) two.1)).0 in
        let here : asked_as n q e ms ≡ false = ap (λ k. asked_as n k e ms) (sym by) ∙ (ap (λ k. asked_as k r e ms) (sym at) ∙ none) in
        absurd (none_has w (sym (text_none S n q e ms here) ∙ h))

pub text_stays : (S : Setting) (n q e : ℕ) (w : List ℕ) (x : Moment) (ms : List Moment) → IsFirst ms x → text_asked S n q e ms ≡ Some w → text_asked S n q e (x ∷ ms) ≡ Some w
text_stays S n q e w (Told (entry.Command (command.Asked m r))) ms first h =
    if_no (((m == n) && (r == q)) && is_number e (member_of n ms)) (command_before S ms) (text_asked S n q e ms) (again S n q e m r w ms first h) ∙ h
text_stays S n q e w _ ms first h = h

-- ---- what a command was, by its number since the boot

head_words : (x : Moment) (a b : List Moment) → words_before (x ∷ a) ≡ words_before (x ∷ b)
head_words (Said (line.Event (event.Command n words))) a b = refl
head_words _ a b = refl

since_words : (S : Setting) (test : Moment → Bool) (w : List ℕ) (ms : List Moment) → command_before S (since test ms) ≡ Some w → command_before S ms ≡ Some w
since_words S test w [] h = h
since_words S test w (x ∷ ms) h = by_test (test x) h
  where
    by_test : (b : Bool) → command_before S (if b then [] else x ∷ since test ms) ≡ Some w → command_before S (x ∷ ms) ≡ Some w
    by_test true k = absurd (none_has w k)
    by_test false k = ap (λ o. option_and_then S.canonical o) (head_words x ms (since test ms)) ∙ k

is_so : (S : Setting) (n q e m r : ℕ) (w : List ℕ) (ms : List Moment)
    → (is_number e (member_of n (before_asking n q ms)) ≡ true → command_before S (before_last (is_asking n q) (since (is_boot n) ms)) ≡ Some w → text_asked S n q e ms ≡ Some w)
    → (b : Bool) → is_number e (member_of n (if b then ms else before_asking n q ms)) ≡ true
    → command_before S (if b then since (is_boot n) ms else before_last (is_asking n q) (since (is_boot n) ms)) ≡ Some w
    → (if b && is_number e (member_of n ms) then command_before S ms else text_asked S n q e ms) ≡ Some w
is_so S n q e m r w ms rest true member words = if_yes (is_number e (member_of n ms)) (command_before S ms) (text_asked S n q e ms) member ∙ since_words S (is_boot n) w ms words
is_so S n q e m r w ms rest false member words = rest member words

booted_so : (S : Setting) (n q e m : ℕ) (w : List ℕ) (ms : List Moment)
    → (command_before S (before_last (is_asking n q) (since (is_boot n) ms)) ≡ Some w → text_asked S n q e ms ≡ Some w)
    → (b : Bool) → command_before S (before_last (is_asking n q) (if b then [] else Told (entry.Node m note.Up) ∷ since (is_boot n) ms)) ≡ Some w → text_asked S n q e ms ≡ Some w
booted_so S n q e m w ms rest true words = absurd (none_has w words)
booted_so S n q e m w ms rest false words = rest words

command_text : (S : Setting) (n q e : ℕ) (w : List ℕ) (ms : List Moment) → is_number e (member_of n (before_asking n q ms)) ≡ true
    → command_before S (before_last (is_asking n q) (since (is_boot n) ms)) ≡ Some w → text_asked S n q e ms ≡ Some w
command_text S n q e w [] member words = absurd (none_has w words)
command_text S n q e w (Told (entry.Command (command.Asked m r)) ∷ ms) member words = is_so S n q e m r w ms (command_text S n q e w ms) ((m == n) && (r == q)) member words
command_text S n q e w (Told (entry.Node m note.Up) ∷ ms) member words = booted_so S n q e m w ms (command_text S n q e w ms member) (m == n) words
command_text S n q e w (_ ∷ ms) member words = command_text S n q e w ms member words

-- what a Request of this number carries
pub asked_text : (S : Setting) (n q e : ℕ) (w : List ℕ) (ms : List Moment) → asked_in S e n q ms ≡ Some w → text_asked S n q e ms ≡ Some w
asked_text S n q e w ms h = by_test (is_number e (member_of n (before_asking n q ms))) refl h
  where
    by_test : (b : Bool) → is_number e (member_of n (before_asking n q ms)) ≡ b → (if b then command_before S (before_last (is_asking n q) (since (is_boot n) ms)) else None) ≡ Some w
        → text_asked S n q e ms ≡ Some w
    by_test true is k = command_text S n q e w ms is k
    by_test false is k = absurd (none_has w k)

-- ---- letters

some_is : {X : Type 0} (x y : X) → Some x ≡ Some y → x ≡ y
some_is x y e = cc

-- what was asked before a letter was sent stays
pub letter_text : (S : Setting) (n q e p : ℕ) (w : List ℕ) (l : Letter) (ms : List Moment) → AskedOnce ms → letter_of p ms ≡ Some l → text_asked S n q e l.before ≡ Some w → text_asked S n q e ms ≡ Some w
letter_text S n q e p w l [] once at h = absurd (none_has l at)
letter_text S n q e p w l (Told (entry.Packet (packet.Sent k a b called bytes)) ∷ ms) once at h = by_test (λ is. letter_text S n q e p w l ms once.1 is h) (k == p) at
  where
    by_test : (letter_of p ms ≡ Some l → text_asked S n q e ms ≡ Some w) → (t : Bool) → (if t then Some (record { from = a; to = b; name = named called; bytes = bytes; before = ms }) else letter_of p ms) ≡ Some l → text_asked S n q e ms ≡ Some w
    by_test rest true is =
        let same : record { from = a; to = b; name = named called; bytes = bytes; before = ms } ≡ l = some_is (record { from = a; to = b; name = named called; bytes = bytes; before = ms }) l is in
        subst (λ z. text_asked S n q e z ≡ Some w) (sym (ap (λ (z : Letter). z.before) same)) h
    by_test rest false is = rest is
letter_text S n q e p w l (Told (entry.Packet (packet.Repeated k copy)) ∷ ms) once at h = letter_text S n q e (if copy == p then k else p) w l ms once.1 at h
letter_text S n q e p w l (x ∷ ms) once at h = text_stays S n q e w x ms once.0 (letter_text S n q e p w l ms once.1 at h)

-- what is so of each letter that was sent
pub letter_is : (P : Letter → Type 0) (p : ℕ) (l : Letter) (ms : List Moment) → LettersAre P ms → letter_of p ms ≡ Some l → P l
letter_is P p l [] all at = absurd (none_has l at)
letter_is P p l (Told (entry.Packet (packet.Sent k a b called bytes)) ∷ ms) all at = by_test (λ is. letter_is P p l ms all.1 is) (k == p) at
  where
    by_test : (letter_of p ms ≡ Some l → P l) → (t : Bool) → (if t then Some (record { from = a; to = b; name = named called; bytes = bytes; before = ms }) else letter_of p ms) ≡ Some l → P l
    by_test rest true is = subst P (some_is (record { from = a; to = b; name = named called; bytes = bytes; before = ms }) l is) all.0
    by_test rest false is = rest is
letter_is P p l (Told (entry.Packet (packet.Repeated k copy)) ∷ ms) all at = letter_is P (if copy == p then k else p) l ms all.1 at
letter_is P p l (_ ∷ ms) all at = letter_is P p l ms all.1 at

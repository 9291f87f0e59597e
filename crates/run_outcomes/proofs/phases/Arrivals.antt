-- A Promise that comes to the coordinator of its attempt is one more in hand; what else comes changes nothing there.
use Rattle.std.specs.Prelude.{ℕ, ◌≡◌, ◌≢◌, ◌==◌, ◌⊎◌, ◌++◌, Bool, true, false, List, [], ◌∷◌, Some, if◌then◌else◌}
use Rattle.std.specs.List.{list_any}
use Rattle.std.proofs.Common.{arith, refl, sym, ap, subst, ◌∙◌, inl, inr}
use Rattle.cmm_attempt.proofs.Basics.{and_cases, false_true, or_cases, same_number}
use Rattle.cmm_attempt.specs.Attempts.{AttemptState, is_of}
use Rattle.cmm_attempt.specs.Calls.{Take, turn}
use Rattle.history.specs.Letters.{Letter, letter_of}
use Rattle.history.specs.Member.{promised_to}
use Rattle.history.specs.Moment.{Moment}
use Rattle.history.specs.Names as name
use Rattle.history.specs.Names.{named, same_name}
use Rattle.history.specs.Queue as told
use Rattle.history.specs.Records.{is_promise_of, promise_among, promises}
use Rattle.history.specs.Seizing.{is_number}
use Rattle.history.specs.Setting.{coordinator}
use Rattle.history.specs.Trace.{delivered}
use Rattle.membership_machine.specs.State.{Memberships}
use Rattle.wire.specs.declared.message.Body.{Body}
use Rattle.wire.specs.declared.message.Body.TheVariants as body
use Rattle.wire.specs.declared.message.Message.{Message}
use Rattle.world_model.specs.Sends.{name_of}
use Rattle.run_messages.specs.records.Kept.{Came}
use Rattle.run_messages.specs.records.Sound.{BodySound, LetterSound}
use Rattle.run_messages.proofs.records.Letters.{read_letter}
use Rattle.run_outcomes.specs.phases.Kept.{GathersIn}
use Rattle.run_outcomes.proofs.phases.Gathering.{IsPromise, Or, call_gathers, promise_gathers}
use Rattle.run_outcomes.proofs.phases.Steps.{ComesBody}

-- ---- what it is

name_so : (e : ℕ) (l : Letter) → is_promise_of e l ≡ true → same_name l.name name.Promise ≡ true
name_so e l is = (and_cases _ _ (and_cases _ _ (and_cases _ _ is).0).0).0

to_so : (e : ℕ) (l : Letter) → is_promise_of e l ≡ true → l.to ≡ coordinator e
to_so e l is = same_number l.to (coordinator e) (and_cases _ _ (and_cases _ _ is).0).1

number_so : (e f : ℕ) (l : Letter) → promised_to l.before ≡ Some f → is_promise_of e l ≡ true → f ≡ e
number_so e f l asked is = same_number f e (subst (λ z. is_number e z ≡ true) asked (and_cases _ _ is).1)

-- ---- the Promises in hand after it

among_none : (e : ℕ) (l : Letter) (ls : List Letter) → is_promise_of e l ≡ false → promise_among e (Some l) ++ ls ≡ ls
among_none e l ls other = ap (λ t. (if t then l ∷ [] else []) ++ ls) other

among_one : (e : ℕ) (l : Letter) (ls : List Letter) → is_promise_of e l ≡ true → promise_among e (Some l) ++ ls ≡ l ∷ ls
among_one e l ls is = ap (λ t. (if t then l ∷ [] else []) ++ ls) is

-- to another node than its coordinator
pub elsewhere : (e number from n : ℕ) (ms : List Moment) (l : Letter) → letter_of number ms ≡ Some l → l.to ≡ n → coordinator e ≢ n → promises e (delivered number from n ∷ ms) ≡ promises e ms
elsewhere e number from n ms l at to other = ap (λ o. promise_among e o ++ promises e ms) at ∙ among_none e l (promises e ms) (by_value (is_promise_of e l) refl)
  where
    by_value : (t : Bool) → is_promise_of e l ≡ t → t ≡ false
    by_value true is = absurd (other (sym (to_so e l is) ∙ to))
    by_value false is = refl

-- ---- and the attempt

before_so : (e k : ℕ) (ms after : List Moment) → promises e after ≡ promises e ms → told.has_promised e after k ≡ true → told.has_promised e ms k ≡ true
before_so e k ms after same is = sym (ap (list_any (λ (l : Letter). l.from == k)) same) ∙ is

pub gathers_same : (e : ℕ) (ms after : List Moment) (a : AttemptState) → promises e after ≡ promises e ms → GathersIn e (λ k. told.has_promised e ms k ≡ true) a → GathersIn e (λ k. told.has_promised e after k ≡ true) a
gathers_same e ms after a same h = (h.0, λ at k member due. h.1 at k member (before_so e k ms after same due))

still_comes : (e : ℕ) (Due : ℕ → Type 0) (a : AttemptState) (from : ℕ) (m : Message) (b : Body) → GathersIn e Due a → ComesBody (GathersIn e Due) a from m b
still_comes e Due a from m (body.Promise f newest members valid flagged committed pending) h = call_gathers e Due a (Take from m) tt h
still_comes e Due a from m _ h = h

comes_body : (M : Memberships) (e from : ℕ) (ms after : List Moment) (a : AttemptState) (m : Message) (b : Body) (l : Letter) → m.body ≡ b → promises e after ≡ l ∷ promises e ms → l.from ≡ from → is_promise_of e l ≡ true
    → l.name ≡ named (name_of b) → BodySound M l.before l.from l.to b → GathersIn e (λ k. told.has_promised e ms k ≡ true) a → ComesBody (GathersIn e (λ k. told.has_promised e after k ≡ true)) a from m b
comes_body M e from ms after a m (body.Promise f installed members valid flagged committed pending) l at more sender is called sound h =
    let same : f ≡ e = number_so e f l sound.asked is in
    let g : GathersIn e (Or (λ k. told.has_promised e ms k ≡ true) from) (turn a (Take from m)).after =
    promise_gathers e (λ k. told.has_promised e ms k ≡ true) from m a (subst IsPromise (sym at) tt) (subst (λ b. is_of e b ≡ true) (sym at) (ap (λ k. k == e) same ∙ itself e)) h in
    (g.0, λ at k member due. g.1 at k member (by_cases k (or_cases (l.from == k) (told.has_promised e ms k) (sym (ap (list_any (λ (z : Letter). z.from == k)) more) ∙ due))))
  where
    itself : (k : ℕ) → (k == k) ≡ true
    itself k = grind arith

    by_cases : (k : ℕ) → ((l.from == k) ≡ true) ⊎ (told.has_promised e ms k ≡ true) → Or (λ k. told.has_promised e ms k ≡ true) from k
    by_cases k (inl here) = inr (sym (same_number l.from k here) ∙ sender)
    by_cases k (inr there) = inl there
comes_body M e from ms after a m _ l at more sender is called sound h = absurd (false_true (ap (λ z. same_name z name.Promise) (sym called) ∙ name_so e l is))

pub arrives : (M : Memberships) (e number from n : ℕ) (ms : List Moment) (a : AttemptState) (m : Message) (came : Came (delivered number from n ∷ ms) n from m.body) → LetterSound M came.letter → GathersIn e (λ k. told.has_promised e ms k ≡ true) a
    → ComesBody (GathersIn e (λ k. told.has_promised e (delivered number from n ∷ ms) k ≡ true)) a from m m.body
arrives M e number from n ms a m came sound h = by_value (is_promise_of e l) refl
  where
    l : Letter
    l = came.letter

    after : List Moment
    after = delivered number from n ∷ ms

    found : promises e after ≡ promise_among e (Some l) ++ promises e ms
    found = ap (λ o. promise_among e o ++ promises e ms) came.here

    by_value : (t : Bool) → is_promise_of e l ≡ t → ComesBody (GathersIn e (λ k. told.has_promised e after k ≡ true)) a from m m.body
    by_value true is =
        let read : (l.name ≡ named (name_of m.body)) × BodySound M l.before l.from l.to m.body = read_letter M l m.body sound came.read in
        comes_body M e from ms after a m m.body l refl (found ∙ among_one e l (promises e ms) is) came.sender is read.0 read.1 h
    by_value false is =
        still_comes e (λ k. told.has_promised e after k ≡ true) a from m m.body (gathers_same e ms after a (found ∙ among_none e l (promises e ms) is) h)

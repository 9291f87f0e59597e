-- A letter of the session has come: the node is in a session of another's, by its lines.
use Rattle.std.specs.Prelude.{ℕ, ◌≡◌, ◌≢◌, ◌⊎◌, ◌==◌, ◌&&◌, ◌||◌, Bool, true, false, List, [], ◌∷◌, None, Some}
use Rattle.std.proofs.Common.{refl, sym, subst, ◌∙◌, inl, inr}
use Rattle.cmm_attempt.proofs.Basics.{and_cases, false_true, same_number}
use Rattle.history.specs.Contents.{IsSpelled}
use Rattle.history.specs.Letters.{Letter, is_letter, reached_since}
use Rattle.history.specs.Member.{member_of, session_of}
use Rattle.history.specs.Messages.{is_in_session, is_install_of, is_seize_of}
use Rattle.history.specs.Moment.{Moment}
use Rattle.history.specs.Names as name
use Rattle.history.specs.Names.{Name, same_name}
use Rattle.history.specs.Order.{Always}
use Rattle.history.specs.Seizing.{is_boot}
use Rattle.history.specs.Setting.{coordinator}
use Rattle.wire.specs.Spelling.{IsNode}
use Rattle.run_outcomes.specs.reports.Laws.{AsksSo, IsToOther}
use Rattle.run_outcomes.proofs.reports.Letters.{LineOf, Reaching, reaching}
use Rattle.run_outcomes.proofs.reports.Own.{InSession, attempt_own, in_session}
use Rattle.run_outcomes.proofs.reports.Replies.{apart}

-- the session, and who coordinates it
pub record IsAsked (n : ℕ) (ms : List Moment) : Type 0 where
  pub epoch : ℕ
  pub session : session_of n ms ≡ Some epoch
  pub none : member_of n ms ≡ None
  pub node : IsNode (coordinator epoch)
  pub other : (coordinator epoch == n) ≡ false

-- both laws of a line
abbrev Both : List Moment → Moment → Type 0
Both before x = IsSpelled before x × AsksSo before x

both_always : (ms : List Moment) → Always IsSpelled ms → Always AsksSo ms → Always Both ms
both_always [] h k = tt
both_always (x ∷ ms) h k = ((h.0, k.0), both_always ms h.1 k.1)

abbrev IsTask : Name → Type 0
IsTask (name.SeizeQuorum d) = Unit {0}
IsTask (name.SeizeData d) = Unit {0}
IsTask name.Install = Unit {0}
IsTask _ = ⊥

other_by : (from to : ℕ) (q called : Name) → IsTask called → same_name q called ≡ true → IsToOther from to q → to ≢ from
other_by from to (name.SeizeQuorum d) called task same h = h
other_by from to (name.SeizeData d) called task same h = h
other_by from to name.Install called task same h = h
other_by from to q (name.SeizeQuorum d) task same h = absurd (false_true same)
other_by from to q (name.SeizeData d) task same h = absurd (false_true same)
other_by from to q name.Install task same h = absurd (false_true same)
other_by from to q _ task same h = absurd task

asked_by : (n : ℕ) (ms : List Moment) (l : Letter) (called : Name) → IsTask called → LineOf Both l → is_letter called l.from n l ≡ true → is_in_session n l ms ≡ true → IsAsked n ms
asked_by n ms l called task line is inside =
    let k : InSession n l ms = in_session n l ms inside in
    let own : (coordinator k.epoch == l.from) ≡ true = attempt_own l.from k.epoch l.before k.number in
    let parts : ((same_name l.name called && (l.from == l.from)) ≡ true) × ((l.to == n) ≡ true) = and_cases (same_name l.name called && (l.from == l.from)) (l.to == n) is in
    let to : l.to ≡ n = same_number l.to n parts.1 in
    let ne : l.to ≢ l.from = other_by l.from l.to l.name called task (and_cases (same_name l.name called) (l.from == l.from) parts.0).0 (subst (IsToOther l.from l.to) (sym line.name_so) line.line_so.1.0) in
    record {
      epoch = k.epoch;
      session = k.session;
      none = k.none;
      node = subst IsNode (line.line_so.0.sender ∙ sym (same_number (coordinator k.epoch) l.from own)) line.line_so.0.fits.0;
      other = apart (coordinator k.epoch) n l.from own (λ same. ne (to ∙ same));
    }

or_either : (a b : Bool) → (a || b) ≡ true → (a ≡ true) ⊎ (b ≡ true)
or_either true b h = inl refl
or_either false b h = inr h

pub seize_asked : (n d : ℕ) (ms : List Moment) → Always IsSpelled ms → Always AsksSo ms → reached_since (is_boot n) (is_seize_of n d ms) ms ≡ true → IsAsked n ms
seize_asked n d ms spelled asks is =
    let r : Reaching Both (is_seize_of n d ms) = reaching Both (is_boot n) (is_seize_of n d ms) ms (both_always ms spelled asks) is in
    let l : Letter = r.letter in
    let p : ((is_letter (name.SeizeQuorum d) l.from n l || is_letter (name.SeizeData d) l.from n l) ≡ true) × (is_in_session n l ms ≡ true) =
    and_cases (is_letter (name.SeizeQuorum d) l.from n l || is_letter (name.SeizeData d) l.from n l) (is_in_session n l ms) r.passed in
    by_kind l r.line p.1 (or_either (is_letter (name.SeizeQuorum d) l.from n l) (is_letter (name.SeizeData d) l.from n l) p.0)
  where
    by_kind : (l : Letter) → LineOf Both l → is_in_session n l ms ≡ true → (is_letter (name.SeizeQuorum d) l.from n l ≡ true) ⊎ (is_letter (name.SeizeData d) l.from n l ≡ true) → IsAsked n ms
    by_kind l line inside (inl h) = asked_by n ms l (name.SeizeQuorum d) tt line h inside
    by_kind l line inside (inr h) = asked_by n ms l (name.SeizeData d) tt line h inside

pub install_asked : (n : ℕ) (ms : List Moment) → Always IsSpelled ms → Always AsksSo ms → reached_since (is_boot n) (is_install_of n ms) ms ≡ true → IsAsked n ms
install_asked n ms spelled asks is =
    let r : Reaching Both (is_install_of n ms) = reaching Both (is_boot n) (is_install_of n ms) ms (both_always ms spelled asks) is in
    let l : Letter = r.letter in
    let p : (is_letter name.Install l.from n l ≡ true) × (is_in_session n l ms ≡ true) = and_cases (is_letter name.Install l.from n l) (is_in_session n l ms) r.passed in
    asked_by n ms l name.Install tt r.line p.0 p.1

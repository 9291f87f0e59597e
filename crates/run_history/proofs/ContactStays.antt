-- What is known of messages stays as moments are added.
use Rattle.std.specs.Prelude.{ℕ, ◌≡◌, ◌≢◌, ◌==◌, ◌||◌, Bool, true, false, List, ◌∷◌, Option, None, Some, find, if◌then◌else◌}
use Rattle.std.specs.List.{list_any}
use Rattle.std.proofs.Common.{refl, sym, ap, ◌∙◌, arith}
use Rattle.cmm_attempt.specs.Attempts.{AttemptState}
use Rattle.wire.specs.declared.message.Body.{Body}
use Rattle.wire.specs.declared.message.Body.TheVariants as body
use Rattle.history.specs.Contact.{has_answered, is_proposal}
use Rattle.history.specs.Letters.{Letter, arrived, arriving, passes, reached}
use Rattle.history.specs.Member.{attempt_of, members_of}
use Rattle.history.specs.Moment.{Moment}
use Rattle.history.specs.Names as name
use Rattle.history.specs.Seizing.{is_attempt}
use Rattle.history.specs.Setting.{coordinator}
use Rattle.history.specs.Starts.{is_started, members_in, start_of}
use Rattle.history.specs.Trace.{attempt, start}
use Rattle.membership_machine.specs.Growth.{Grows}
use Rattle.membership_machine.specs.State.{Memberships}
use Rattle.node_model.specs.Seats.{record_of, session_of}
use Rattle.node_model.specs.declared.node.Node.{Node}
use Rattle.node_model.specs.declared.node.Node.TheVariants.{Down, Up}
use Rattle.node_model.specs.declared.node.UpNode.{UpNode}
use Rattle.proposals.specs.declared.arrived.Proposed.{Proposed}
use Rattle.refinement.specs.Doings.{Site}
use Rattle.refinement.specs.Ties.{Delivered}
use Rattle.run_history.specs.Causes.{Caused, Hand, Lasting}
use Rattle.run_history.specs.Noted.{AttemptIn, AttemptNoted, InstallNoted, LinesStarted, LinesTried, NodeIn, Notes, PresidentNoted, ProposedNoted, UpNoted, is_ready_in}
use Rattle.run_history.proofs.ContactCalm.{Quiet}

pub or_right : (a b : Bool) → b ≡ true → (a || b) ≡ true
or_right true b h = refl
or_right false b h = h

pub or_left : (a b : Bool) → a ≡ true → (a || b) ≡ true
or_left true b h = refl
or_left false b h = absurd (no_truth h)
  where
    no_truth : false ≡ true → ⊥
    no_truth e = cc

pub or_more : (a b c : Bool) → (b ≡ true → c ≡ true) → (a || b) ≡ true → (a || c) ≡ true
or_more true b c f h = refl
or_more false b c f h = f h

pub reached_more : (test : Letter → Bool) (x : Moment) (before : List Moment) → reached test before ≡ true → reached test (x ∷ before) ≡ true
reached_more test x before h = or_right (passes test (arriving before x)) (reached test before) h

-- What node n has of attempts stays, where the moment is no line of another attempt of its own.
pub record Keeps (before : List Moment) (n : ℕ) (x : Moment) : Type 0 where
  pub any : (e : ℕ) → list_any (is_attempt e) before ≡ true → list_any (is_attempt e) (x ∷ before) ≡ true
  pub members : (e : ℕ) → list_any (is_attempt e) before ≡ true → members_of e (x ∷ before) ≡ members_of e before
  pub last : attempt_of n (x ∷ before) ≡ attempt_of n before
  pub started : (e : ℕ) → is_started e before ≡ true → is_started e (x ∷ before) ≡ true
  pub start : (e : ℕ) → is_started e before ≡ true → start_of e (x ∷ before) ≡ start_of e before

pub quiet_keeps : (before : List Moment) (n : ℕ) (x : Moment) → Quiet before x → Keeps before n x
quiet_keeps before n x q = record {
  any = λ e h. q.any e ∙ h;
  members = λ e h. q.members e;
  last = q.last n;
  started = λ e h. ap (λ ss. list_any (λ s. s.epoch == e) ss) q.begun ∙ h;
  start = λ e h. ap (λ ss. find (λ s. s.epoch == e) ss) q.begun;
}

-- an attempt that is new, of another node
if_not : {X : Type 0} (b : Bool) (x y : X) → b ≡ false → (if b then x else y) ≡ y
if_not true x y h = absurd (no_truth h)
  where
    no_truth : true ≡ false → ⊥
    no_truth e = cc
if_not false x y h = refl

not_same : (a b : ℕ) → a ≢ b → (a == b) ≡ false
not_same a b h = grind arith

other_number : (before : List Moment) (e f : ℕ) → list_any (is_attempt e) before ≡ false → list_any (is_attempt f) before ≡ true → e ≢ f
other_number before e f new old same = no_truth (sym new ∙ (ap (λ z. list_any (is_attempt z) before) same ∙ old))
  where
    no_truth : false ≡ true → ⊥
    no_truth h = cc

pub attempt_keeps : (before : List Moment) (n e members : ℕ) → list_any (is_attempt e) before ≡ false → coordinator e ≢ n → Keeps before n (attempt e members)
attempt_keeps before n e members new other = record {
  any = λ f h. or_right (e == f) (list_any (is_attempt f) before) h;
  members = λ f h. if_not (e == f) members (members_of f before) (not_same e f (other_number before e f new h));
  last = if_not (coordinator e == n) (Some e) (attempt_of n before) (not_same (coordinator e) n other);
  started = λ f h. h;
  start = λ f h. refl;
}

-- a start of a membership that has no such line
pub start_keeps : (before : List Moment) (n e members held count : ℕ) → is_started e before ≡ false → Keeps before n (start e members held count)
start_keeps before n e members held count new = record {
  any = λ f h. h;
  members = λ f h. refl;
  last = refl;
  started = λ f h. or_right (e == f) (is_started f before) h;
  start = λ f h. if_not (e == f) (Some (record { epoch = e; members = members; held = held; count = count })) (start_of f before) (not_same e f (other_start f h));
}
  where
    no_truth : false ≡ true → ⊥
    no_truth h = cc

    other_start : (f : ℕ) → is_started f before ≡ true → e ≢ f
    other_start f old same = no_truth (sym new ∙ (ap (λ z. is_started z before) same ∙ old))

pub caused_stays : (before : List Moment) (n : ℕ) (x : Moment) (b : Body) → Keeps before n x → Caused before n b → Caused (x ∷ before) n b
caused_stays before n x (body.Install i) k h = (h.0, k.last ∙ h.1)
caused_stays before n x (body.Ready p joined report) k h = λ other. reached_more _ x before (h other)
caused_stays before n x (body.Start p) k h = (h.0, k.last ∙ h.1, k.started p h.2)
caused_stays before n x (body.Prepare p place text) k h = (h.0, k.last ∙ h.1, or_right (is_proposal p place x) (list_any (is_proposal p place) before) h.2)
caused_stays before n x (body.Prepared p place) k h = λ other. reached_more _ x before (h other)
caused_stays before n x (body.Heartbeat promised session is_one) k h = tt
caused_stays before n x (body.Collect p members) k h = tt
caused_stays before n x (body.Promise p newest members valid flagged committed pending) k h = tt
caused_stays before n x (body.Nack p promised) k h = tt
caused_stays before n x (body.SeizeQuorum p members d) k h = tt
caused_stays before n x (body.SeizeData p members d) k h = tt
caused_stays before n x (body.Seized p d outcome) k h = tt
caused_stays before n x (body.Commit p place) k h = tt
caused_stays before n x (body.Order o) k h = tt
caused_stays before n x (body.Done p number outcome) k h = tt
caused_stays before n x (body.Request p number text) k h = tt
caused_stays before n x (body.Answer p number text) k h = tt
caused_stays before n x (body.Excluded p newest) k h = tt

pub ready_stays : (before : List Moment) (n p k : ℕ) (x : Moment) → is_ready_in before n p k ≡ true → is_ready_in (x ∷ before) n p k ≡ true
ready_stays before n p k x h =
    or_more (k == n) (has_answered p name.Install name.Ready k before) (has_answered p name.Install name.Ready k (x ∷ before)) (λ e. reached_more _ x before e) h

pub attempt_stays : (before : List Moment) (n : ℕ) (x : Moment) (a : AttemptState) → Keeps before n x → AttemptNoted before n a → AttemptNoted (x ∷ before) n a
attempt_stays before n x a k h = record {
  begun = k.any a.plan.epoch h.begun;
  members = k.members a.plan.epoch h.begun ∙ h.members;
  last = k.last ∙ h.last;
  readies = λ i d lt. ready_stays before n a.plan.epoch _ x (h.readies i d lt);
}

in_stays : (before : List Moment) (n : ℕ) (x : Moment) (o : Option AttemptState) → Keeps before n x → AttemptIn before n o → AttemptIn (x ∷ before) n o
in_stays before n x None k h = tt
in_stays before n x (Some a) k h = attempt_stays before n x a k h

proposed_stays : (before : List Moment) (n q members : ℕ) (x : Moment) (o : Option Proposed) → ProposedNoted before n q members o → ProposedNoted (x ∷ before) n q members o
proposed_stays before n q members x None h = tt
proposed_stays before n q members x (Some p) h =
    (or_right (is_proposal q p.place x) (list_any (is_proposal q p.place) before) h.0, λ k member other missing. reached_more _ x before (h.1 k member other missing))

up_stays : (before : List Moment) (n : ℕ) (x : Moment) (y : UpNode) → Keeps before n x → UpNoted before n y → UpNoted (x ∷ before) n y
up_stays before n x y k h = record {
  attempt = in_stays before n x y.attempt k h.attempt;
  session = λ some own. k.last ∙ h.session some own;
  member = λ is. k.started (session_of y) (h.member is);
  president = λ p has is.
      let so : PresidentNoted before n (session_of y) (record_of y).members p.proposals.proposed = h.president p has is in
      record {
        start = ap members_in (k.start (session_of y) (h.member is)) ∙ so.start;
        proposed = proposed_stays before n (session_of y) (record_of y).members x p.proposals.proposed so.proposed;
      };
}

node_stays : (before : List Moment) (n : ℕ) (x : Moment) (node : Node) → Keeps before n x → NodeIn before n node → NodeIn (x ∷ before) n node
node_stays before n x Down k h = tt
node_stays before n x (Up y) k h = up_stays before n x y k h

pub install_stays : (before : List Moment) (n q : ℕ) (x : Moment) → InstallNoted before n q → InstallNoted (x ∷ before) n q
install_stays before n q x h = λ some other. reached_more _ x before (h some other)

pub notes_stay : (before : List Moment) (n : ℕ) (x : Moment) (y : Site) → Keeps before n x → Notes before n y → Notes (x ∷ before) n y
notes_stay before n x y k h = record { installed = install_stays before n y.disk.installed x h.installed; up = node_stays before n x y.node k h.up }

-- start lines stay
abbrev pub KeepsStarts : List Moment → Moment → Type 0
KeepsStarts before x = (e : ℕ) → is_started e before ≡ true → is_started e (x ∷ before) ≡ true

pub lasting_stays : (before : List Moment) (x : Moment) (b : Body) → KeepsStarts before x → Lasting before b → Lasting (x ∷ before) b
lasting_stays before x (body.Start p) k h = k p h
lasting_stays before x (body.Heartbeat promised session is_one) k h = tt
lasting_stays before x (body.Collect p members) k h = tt
lasting_stays before x (body.Promise p newest members valid flagged committed pending) k h = tt
lasting_stays before x (body.Nack p promised) k h = tt
lasting_stays before x (body.SeizeQuorum p members d) k h = tt
lasting_stays before x (body.SeizeData p members d) k h = tt
lasting_stays before x (body.Seized p d outcome) k h = tt
lasting_stays before x (body.Install i) k h = tt
lasting_stays before x (body.Ready p joined report) k h = tt
lasting_stays before x (body.Prepare p place text) k h = tt
lasting_stays before x (body.Prepared p place) k h = tt
lasting_stays before x (body.Commit p place) k h = tt
lasting_stays before x (body.Order o) k h = tt
lasting_stays before x (body.Done p number outcome) k h = tt
lasting_stays before x (body.Request p number text) k h = tt
lasting_stays before x (body.Answer p number text) k h = tt
lasting_stays before x (body.Excluded p newest) k h = tt

-- the message in hand, while nothing else arrives
pub hand_stays : (before : List Moment) (n : ℕ) (x : Moment) (told : Delivered) → KeepsStarts before x → arrived (x ∷ before) ≡ arrived before → Hand before n told → Hand (x ∷ before) n told
hand_stays before n x None k same h = tt
hand_stays before n x (Some d) k same h = record {
  letter = h.letter;
  here = same ∙ h.here;
  reached_so = λ test so. reached_more test x before (h.reached_so test so);
  sender = h.sender;
  receiver = h.receiver;
  called = h.called;
  caused = h.caused;
  lasting = lasting_stays before x d.1.body k h.lasting;
}

pub tried_stays : (M : Memberships) (before : List Moment) (x : Moment) → Quiet before x → LinesTried M before → LinesTried M (x ∷ before)
tried_stays M before x q h = λ e is. h e (sym (q.any e) ∙ is)

pub started_stays : (M : Memberships) (before : List Moment) (x : Moment) → Quiet before x → LinesStarted M before → LinesStarted M (x ∷ before)
started_stays M before x q h = λ e is. h e (sym (ap (λ ss. list_any (λ s. s.epoch == e) ss) q.begun) ∙ is)

pub tried_grows : (M N : Memberships) (before : List Moment) → Grows M N → LinesTried M before → LinesTried N before
tried_grows M N before g h = λ e is. (g.epoch e).tried (h e is)

pub started_grows : (M N : Memberships) (before : List Moment) → Grows M N → LinesStarted M before → LinesStarted N before
started_grows M N before g h = λ e is. (g.epoch e).started (h e is)

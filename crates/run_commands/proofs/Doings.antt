-- What each small step of a node leaves of the commands that wait.
use Rattle.std.specs.Prelude.{ℕ, ◌<◌, ◌≤◌, ◌≡◌, ◌≢◌, ◌⊎◌, ◌++◌, List, [], ◌∷◌, Option, None, Some, if◌then◌else◌, Bool, true, false}
use Rattle.std.proofs.Common.{refl, sym, subst, ◌∙◌, inl, inr}
use Rattle.cl_base.specs.Sets.{has}
use Rattle.cmm_attempt.proofs.Basics.{if_either}
use Rattle.cmm_attempt.specs.Attempts.{AttemptState}
use Rattle.device_queue.specs.Queue.{after_seize}
use Rattle.request_queue.specs.Queue.{Queue}
use Rattle.request_queue.specs.declared.request.Request.{Request}
use Rattle.seize.specs.Seizing as seizing
use Rattle.status_report.specs.declared.attempt_entry.AttemptEntry.TheVariants as attempt
use Rattle.status_report.specs.declared.command_entry.Answer.TheVariants.{Unknown}
use Rattle.status_report.specs.declared.entry.Entry.TheVariants as entry
use Rattle.status_report.specs.declared.node_entry.NodeEntry.TheVariants as note
use Rattle.history.specs.Moment.{Moment}
use Rattle.node_model.specs.Entries.{answered_line, unknown_lines}
use Rattle.node_model.specs.Members.{promised_so, rested_by}
use Rattle.node_model.specs.Seats.{promising, record_of}
use Rattle.node_model.specs.declared.cluster.Cluster.{Cluster}
use Rattle.node_model.specs.declared.node.UpNode.{UpNode}
use Rattle.node_model.specs.declared.output.Output.{Output}
use Rattle.node_model.specs.declared.output.Output.TheVariants.{Tells}
use Rattle.refinement.specs.Doings.{Act, Change, acted, changed, first_lines, last_lines, of_node, said, superseded_lines}
use Rattle.refinement.specs.Doings.Act.{Accepts, Dates, Ends, Gives, Goes_on, Hears, Makes, Minds, Notes, Queues, Spreads, Stores, Takes, Ticks, Waits, Works, Writes}
use Rattle.refinement.specs.Doings.Change.{Acks, Admits, Commits, Counts, Distrusts, Installs, Leads, Prepares, Promises, Proposes, Sits, Starts}
use Rattle.run_history.proofs.Idle.{passing_append}
use Rattle.run_history.proofs.Lists.{both}
use Rattle.run_history.specs.Scenes.{Scene, passing, telling}
use Rattle.run_commands.specs.Guards.{ActSo, AnswersOne, AreQuiet, ChangeSo, Hand, IsQuietOutput}
use Rattle.run_commands.specs.Guards.Hand.{Free}
use Rattle.run_commands.specs.Answers.{AnswersWait}
use Rattle.run_commands.proofs.Numbers.{AreSteady, IsSteadyOutput, quiets_steady}
use Rattle.run_commands.proofs.Owed.{Answered, AreDue, AreLow, AreOnce, Owed, due_others, due_stays, fresh_still, is_told, one_less, owed_answered, owed_moved, owed_none, owed_stays, rest_told, told_first}
use Rattle.run_commands.proofs.Quiet.{GoesOn, ended_quiet, first_quiet, last_quiet, spread_quiet, superseded_quiet, ticked_quiet, write_quiet}
use Rattle.run_commands.proofs.Tallies.{le_then, tally, waiting_of}
use Rattle.run_commands.proofs.Waiting.{AreApart, IsApartOutput, Leaves, answered_since, passing_quiet, quiets_apart}

-- after these outputs of node n, which is so then
pub record Left (n : ℕ) (g : Hand) (before : Queue) (after : Queue) (os : List Output) (s : Scene) : Type 0 where
  pub owed : Owed n (passing n os s).moments g after.asked after.waiting
  pub last_so : after.asked ≡ before.asked
  pub said : AnswersWait (passing n os s).moments
  pub apart : (k : ℕ) → k ≢ n → AreApart k os
  pub steady : AreSteady os

-- what is known before
pub record Was (n : ℕ) (h : Hand) (q : Queue) (s : Scene) : Type 0 where
  pub owed : Owed n s.moments h q.asked q.waiting
  pub said : AnswersWait s.moments

-- ---- quiet lines, and messages

moved_left : (n : ℕ) (h g : Hand) (before after : Queue) (os : List Output) (s : Scene) → AreQuiet os → after.asked ≡ before.asked
    → ((ms : List Moment) → Owed n ms h before.asked before.waiting → Owed n ms g after.asked after.waiting) → Was n h before s → Left n g before after os s
moved_left n h g before after os s quiet asked goes w =
    let l : Leaves s.moments (passing n os s).moments = passing_quiet n os s quiet in
    record {
      owed = goes (passing n os s).moments (owed_stays n s.moments (passing n os s).moments h before.asked before.waiting (l.wait n) w.owed);
      last_so = asked;
      said = l.said w.said;
      apart = λ k ne. quiets_apart k os quiet;
      steady = quiets_steady os quiet;
    }

-- the queue has the same requests and numbers
same_left : (n : ℕ) (h g : Hand) (before after : Queue) (os : List Output) (s : Scene) → AreQuiet os → after.waiting ≡ before.waiting → after.asked ≡ before.asked → g ≡ h → Was n h before s
    → Left n g before after os s
same_left n h g before after os s quiet waiting asked is w =
    moved_left n h g before after os s quiet asked
    (λ ms o. subst (λ z. Owed n ms z after.asked after.waiting) (sym is) (subst (λ k. Owed n ms h k after.waiting) (sym asked) (subst (λ rs. Owed n ms h before.asked rs) (sym waiting) o))) w

-- ---- what waits is told as unknown

-- no number above this one is answered
abbrev Fresh : ℕ → ℕ → List Moment → Type 0
Fresh n top ms = (k : ℕ) → top < k → answered_since n k ms ≡ false

-- the answers, what is apart from them, and that none waits behind them
record Ended (n top : ℕ) (os : List Output) (s : Scene) : Type 0 where
  said : AnswersWait (passing n os s).moments
  apart : (k : ℕ) → k ≢ n → AreApart k os
  steady : AreSteady os
  fresh : Fresh n top (passing n os s).moments
  none : waiting_of n (passing n os s).moments ≤ 0

-- before them: what waits is in the queue
record Ending (n top : ℕ) (rs : List Request) (s : Scene) : Type 0 where
  due : AreDue n s.moments rs
  fresh : Fresh n top s.moments
  said : AnswersWait s.moments
  most : waiting_of n s.moments ≤ tally is_told rs

ended_more : (n top : ℕ) (r : Request) (rs : List Request) (s : Scene) → AreOnce (r ∷ rs) → AreLow top (r ∷ rs) → Ending n top (r ∷ rs) s
    → ((t : Scene) → Ending n top rs t → Ended n top (unknown_lines n rs) t) → (b : Bool) → r.told ≡ b
    → Ended n top ((if b then Tells (answered_line n r.number Unknown) ∷ [] else []) ++ unknown_lines n rs) s
ended_more n top r rs s once low w next true is =
    let t : Scene = telling (answered_line n r.number Unknown) s in
    let e : Ended n top (unknown_lines n rs) t =
    next t (record {
      due = due_others n r.number Unknown s.moments rs once.0 w.due.1;
      fresh = fresh_still n r.number Unknown s.moments top low.0 w.fresh;
      said = ((w.due.0 is).0, w.said);
      most = one_less n r.number Unknown s.moments (tally is_told rs) (w.due.0 is) (told_first r rs (waiting_of n s.moments) is w.most);
    }) in
    record { said = e.said; apart = λ k ne. ((λ same. ne (sym same)), e.apart k ne); steady = (tt, e.steady); fresh = e.fresh; none = e.none }
ended_more n top r rs s once low w next false is =
    next s (record { due = w.due.1; fresh = w.fresh; said = w.said; most = rest_told (r ∷ rs) (waiting_of n s.moments) is w.most })

unknown_said : (n top : ℕ) (rs : List Request) (s : Scene) → AreOnce rs → AreLow top rs → Ending n top rs s → Ended n top (unknown_lines n rs) s
unknown_said n top [] s once low w = record { said = w.said; apart = λ k ne. tt; steady = tt; fresh = w.fresh; none = w.most }
unknown_said n top (r ∷ rs) s once low w = ended_more n top r rs s once low w (λ t v. unknown_said n top rs t once.1 low.1 v) r.told refl

-- behind quiet lines
ended_left : (n : ℕ) (before after : Queue) (os : List Output) (s : Scene) → AreQuiet os → after.waiting ≡ [] → after.asked ≡ before.asked → Was n Free before s
    → Left n Free before after (os ++ unknown_lines n before.waiting) s
ended_left n before after os s quiet none asked w =
    let l : Leaves s.moments (passing n os s).moments = passing_quiet n os s quiet in
    let e : Ended n before.asked (unknown_lines n before.waiting) (passing n os s) =
    unknown_said n before.asked before.waiting (passing n os s) w.owed.once w.owed.low (record {
      due = due_stays n s.moments (passing n os s).moments before.waiting (l.wait n) w.owed.due;
      fresh = λ k above. (l.wait n).unanswered k (w.owed.fresh k above);
      said = l.said w.said;
      most = le_then (waiting_of n (passing n os s).moments) (waiting_of n s.moments) (tally is_told before.waiting) (l.wait n).fewer w.owed.most;
    }) in
    let more : List Moment = (passing n (os ++ unknown_lines n before.waiting) s).moments in
    let same : passing n (os ++ unknown_lines n before.waiting) s ≡ passing n (unknown_lines n before.waiting) (passing n os s) = passing_append n os (unknown_lines n before.waiting) s in
    let fresh : Fresh n before.asked more = subst (λ (z : Scene). Fresh n before.asked z.moments) (sym same) e.fresh in
    record {
      owed = owed_none n more after.asked after.waiting none (subst (λ k. Fresh n k more) (sym asked) fresh) (subst (λ (z : Scene). waiting_of n z.moments ≤ 0) (sym same) e.none);
      last_so = asked;
      said = subst (λ (z : Scene). AnswersWait z.moments) (sym same) e.said;
      apart = λ k ne. both (IsApartOutput k) os (unknown_lines n before.waiting) (quiets_apart k os quiet) (e.apart k ne);
      steady = both IsSteadyOutput os (unknown_lines n before.waiting) (quiets_steady os quiet) e.steady;
    }

-- ---- changes

abbrev pub IsSaving : ℕ → List Output → Type 0
IsSaving n middle = (middle ≡ []) ⊎ (middle ≡ of_node n note.Saved ∷ [])

saving_quiet : (n : ℕ) (middle : List Output) → IsSaving n middle → AreQuiet middle
saving_quiet n middle (inl is) = subst AreQuiet (sym is) tt
saving_quiet n middle (inr is) = subst AreQuiet (sym is) (tt, tt)

-- the lines of a change: those before the save, that it was saved, and those after it
abbrev pub change_lines : Cluster → ℕ → UpNode → Change → List Output → List Output
change_lines c n x change middle = first_lines n change ++ (middle ++ last_lines c n x change)

lines_quiet : (c : Cluster) (n : ℕ) (x : UpNode) (change : Change) (middle : List Output) → GoesOn change → IsSaving n middle → AreQuiet (change_lines c n x change middle)
lines_quiet c n x change middle on saving =
    both IsQuietOutput (first_lines n change) _ (first_quiet n change) (both IsQuietOutput middle (last_lines c n x change) (saving_quiet n middle saving) (last_quiet c n x change on))

rested_empty : (x : UpNode) (p : ℕ) (a : Option AttemptState) → (rested_by (promising x p) a).requests.waiting ≡ []
rested_empty x p None = refl
rested_empty x p (Some a) = refl

rested_asked : (x : UpNode) (p : ℕ) (a : Option AttemptState) → (rested_by (promising x p) a).requests.asked ≡ x.requests.asked
rested_asked x p None = refl
rested_asked x p (Some a) = refl

promised_left : (n p : ℕ) (x : UpNode) (middle : List Output) (s : Scene) → IsSaving n middle → Was n Free x.requests s
    → Left n Free x.requests (promised_so x p).requests (middle ++ (superseded_lines p x.attempt ++ unknown_lines n x.requests.waiting)) s
promised_left n p x middle s (inl is) w =
    subst (λ os. Left n Free x.requests (promised_so x p).requests (os ++ (superseded_lines p x.attempt ++ unknown_lines n x.requests.waiting)) s) (sym is)
    (ended_left n x.requests (promised_so x p).requests (superseded_lines p x.attempt) s (superseded_quiet p x.attempt) (rested_empty x p x.attempt) (rested_asked x p x.attempt) w)
promised_left n p x middle s (inr is) w =
    subst (λ os. Left n Free x.requests (promised_so x p).requests (os ++ (superseded_lines p x.attempt ++ unknown_lines n x.requests.waiting)) s) (sym is)
    (ended_left n x.requests (promised_so x p).requests (of_node n note.Saved ∷ superseded_lines p x.attempt) s (tt, superseded_quiet p x.attempt) (rested_empty x p x.attempt)
    (rested_asked x p x.attempt) w)

abbrev began_line : ℕ → ℕ → Output
began_line p members = Tells (entry.Attempt (attempt.Begun p members))

led_left : (c : Cluster) (n p members : ℕ) (x : UpNode) (middle : List Output) (s : Scene) → IsSaving n middle → Was n Free x.requests s
    → Left n Free x.requests (changed c n x (Leads p members)).requests (middle ++ last_lines c n x (Leads p members)) s
led_left c n p members x middle s (inl is) w =
    subst (λ os. Left n Free x.requests (changed c n x (Leads p members)).requests (os ++ last_lines c n x (Leads p members)) s) (sym is)
    (ended_left n x.requests (changed c n x (Leads p members)).requests (began_line p members ∷ []) s (tt, tt) refl refl w)
led_left c n p members x middle s (inr is) w =
    subst (λ os. Left n Free x.requests (changed c n x (Leads p members)).requests (os ++ last_lines c n x (Leads p members)) s) (sym is)
    (ended_left n x.requests (changed c n x (Leads p members)).requests (of_node n note.Saved ∷ began_line p members ∷ []) s (tt, (tt, tt)) refl refl w)

freed : (n : ℕ) (h : Hand) (q : Queue) (s : Scene) → h ≡ Free → Was n h q s → Was n Free q s
freed n h q s is w = record { owed = subst (λ z. Owed n s.moments z q.asked q.waiting) is w.owed; said = w.said }

steady_left : (c : Cluster) (n : ℕ) (x : UpNode) (change : Change) (middle : List Output) (h g : Hand) (s : Scene) → GoesOn change → IsSaving n middle
    → (changed c n x change).requests.waiting ≡ x.requests.waiting → (changed c n x change).requests.asked ≡ x.requests.asked → (h ≡ Free) × (g ≡ Free) → Was n h x.requests s
    → Left n g x.requests (changed c n x change).requests (change_lines c n x change middle) s
steady_left c n x change middle h g s on saving waiting asked so w =
    same_left n h g x.requests (changed c n x change).requests (change_lines c n x change middle) s (lines_quiet c n x change middle on saving) waiting asked (so.1 ∙ sym so.0) w

pub change_left : (c : Cluster) (n : ℕ) (x : UpNode) (change : Change) (middle : List Output) (h g : Hand) (s : Scene) → ChangeSo h x change g → IsSaving n middle → Was n h x.requests s
    → Left n g x.requests (changed c n x change).requests (change_lines c n x change middle) s
change_left c n x (Promises p) middle h g s so saving w =
    subst (λ z. Left n z x.requests (promised_so x p).requests (change_lines c n x (Promises p) middle) s) (sym so.1) (promised_left n p x middle s saving (freed n h x.requests s so.0 w))
change_left c n x (Leads p members) middle h g s so saving w =
    subst (λ z. Left n z x.requests (changed c n x (Leads p members)).requests (change_lines c n x (Leads p members) middle) s) (sym so.1)
    (led_left c n p members x middle s saving (freed n h x.requests s so.0 w))
change_left c n x (Counts a k t i) middle h g s so saving w = steady_left c n x (Counts a k t i) middle h g s tt saving refl refl so w
change_left c n x (Installs t i) middle h g s so saving w = steady_left c n x (Installs t i) middle h g s tt saving refl refl so w
change_left c n x (Starts a k t) middle h g s so saving w = steady_left c n x (Starts a k t) middle h g s tt saving refl refl so w
change_left c n x (Sits t e) middle h g s so saving w = steady_left c n x (Sits t e) middle h g s tt saving refl refl so w
change_left c n x (Distrusts d) middle h g s so saving w = steady_left c n x (Distrusts d) middle h g s tt saving refl refl so w
change_left c n x (Admits at command a d) middle h g s so saving w = steady_left c n x (Admits at command a d) middle h g s tt saving refl refl so w
change_left c n x (Proposes t p text) middle h g s so saving w = steady_left c n x (Proposes t p text) middle h g s tt saving refl refl so w
change_left c n x (Acks t p q left text) middle h g s so saving w =
    moved_left n h g x.requests q (change_lines c n x (Acks t p q left text) middle) s (lines_quiet c n x (Acks t p q left text) middle tt saving) so.asked
    (λ ms o. owed_moved n ms h g x.requests q so o) w
change_left c n x (Prepares t text) middle h g s so saving w = steady_left c n x (Prepares t text) middle h g s tt saving refl refl so w
change_left c n x (Commits t) middle h g s so saving w = steady_left c n x (Commits t) middle h g s tt saving refl refl so w

-- ---- acts

answer_left : (n : ℕ) (h g : Hand) (q : Queue) (os : List Output) (s : Scene) → AnswersOne n h q.waiting os g → Was n h q s → Left n g q q os s
answer_left n h g q os s a w =
    let k : Answered n s.moments a.number a.reply g q.asked q.waiting = owed_answered n s.moments h a.number a.reply g q.asked q.waiting a.may w.owed in
    subst (λ z. Left n g q q z s) (sym a.is) (record { owed = k.owed; last_so = refl; said = (k.waits_so, w.said); apart = λ j ne. ((λ same. ne (sym same)), tt); steady = (tt, tt) })

given_left : (n : ℕ) (h g : Hand) (q : Queue) (os : List Output) (s : Scene) → (AreQuiet os × (g ≡ h)) ⊎ AnswersOne n h q.waiting os g → Was n h q s → Left n g q q os s
given_left n h g q os s (inl so) w = same_left n h g q q os s so.0 refl refl so.1 w
given_left n h g q os s (inr a) w = answer_left n h g q os s a w

abbrev ActLeft : Cluster → ℕ → UpNode → Act → Hand → Scene → Type 0
ActLeft c n x a g s = Left n g x.requests (acted c n x a).requests (said c n x a) s

pub act_left : (c : Cluster) (n : ℕ) (x : UpNode) (a : Act) (h g : Hand) (s : Scene) → ActSo n h x a g → Was n h x.requests s → ActLeft c n x a g s
act_left c n x (Hears from b) h g s so w = same_left n h g x.requests (acted c n x (Hears from b)).requests [] s tt refl refl so w
act_left c n x Ticks h g s so w = same_left n h g x.requests (acted c n x Ticks).requests (said c n x Ticks) s (tt, ticked_quiet c x) refl refl so w
act_left c n x Waits h g s so w = same_left n h g x.requests (acted c n x Waits).requests [] s tt refl refl so w
act_left c n x (Goes_on a k) h g s so w = same_left n h g x.requests (acted c n x (Goes_on a k)).requests [] s tt refl refl so w
act_left c n x (Ends a e) h g s so w = same_left n h g x.requests (acted c n x (Ends a e)).requests (said c n x (Ends a e)) s (ended_quiet a.plan.epoch e, tt) refl refl so w
act_left c n x (Queues a d kind) h g s so w =
    let y : UpNode = record x { tasks = after_seize x.tasks d (seizing.begun kind a.plan.epoch a.plan.members n c.id (has (record_of x).valid d)) } in
    if_either (λ (z : UpNode). Left n g x.requests z.requests [] s) (has a.plan.members n) y x (same_left n h g x.requests y.requests [] s tt refl refl so w) (same_left n h g x.requests x.requests [] s tt refl refl so w)
act_left c n x (Accepts kind e members d) h g s so w = same_left n h g x.requests (acted c n x (Accepts kind e members d)).requests [] s tt refl refl so w
act_left c n x (Takes at command a) h g s so w = same_left n h g x.requests (acted c n x (Takes at command a)).requests (said c n x (Takes at command a)) s (tt, tt) refl refl so w
act_left c n x (Stores d value a) h g s so w = same_left n h g x.requests x.requests (said c n x (Stores d value a)) s (tt, write_quiet n x d value a) refl refl so w
act_left c n x (Writes to b) h g s so w = same_left n h g x.requests x.requests (said c n x (Writes to b)) s (tt, tt) refl refl so w
act_left c n x (Makes change) h g s so w = change_left c n x change [] h g s so (inl refl) w
act_left c n x (Gives os) h g s so w = given_left n h g x.requests os s so w
act_left c n x (Spreads receivers b) h g s so w = same_left n h g x.requests x.requests (said c n x (Spreads receivers b)) s (spread_quiet receivers b) refl refl so w
act_left c n x (Minds q p) h g s so w = moved_left n h g x.requests q [] s tt so.asked (λ ms o. owed_moved n ms h g x.requests q so o) w
act_left c n x (Notes from place p) h g s so w = same_left n h g x.requests (acted c n x (Notes from place p)).requests [] s tt refl refl so w
act_left c n x (Dates now) h g s so w = same_left n h g x.requests (acted c n x (Dates now)).requests [] s tt refl refl so w
act_left c n x (Works v) h g s so w = same_left n h g x.requests (acted c n x (Works v)).requests [] s tt refl refl so w

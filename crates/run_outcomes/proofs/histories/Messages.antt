-- What a node owes in an event it tells in it, whole.
use Rattle.std.specs.Prelude.{ℕ, ◌≡◌, true, List, ◌∷◌, Option, None, Some}
use Rattle.std.proofs.Common.{refl, sym, subst}
use Rattle.history.specs.Letters.{Letter, letter_of}
use Rattle.history.specs.Messages.{EachInstall, EachProposal, EachRequest, Owes, PreparesAgain, RepliesTo, ReportsDisk, RequestsAgain, onto, replies, replies_to}
use Rattle.history.specs.Moment.{Moment, event_of}
use Rattle.history.specs.Names as name
use Rattle.history.specs.Names.{Name}
use Rattle.history.specs.Setting.{Setting}
use Rattle.history.specs.Trace.{delivered}
use Rattle.run_packets.specs.prepares.Laws.{IsOfOne}
use Rattle.run_packets.specs.replies.Laws.{CollectReplies, OrderReplies, PrepareReplies}
use Rattle.run_outcomes.specs.reports.Laws.{AsksTask, TaskReplies}
use Rattle.run_outcomes.proofs.histories.Joined.{EventLaw}

-- what is proved of the replies in one event
pub record RepliesSo (S : Setting) (before : List Moment) (x : Moment) (entries : List Moment) : Type 0 where
  pub orders : OrderReplies S before x entries
  pub collects : CollectReplies S before x entries
  pub prepares : PrepareReplies S before x entries
  pub tasks : TaskReplies S before x entries

by_task : (S : Setting) (before : List Moment) (x : Moment) (p a n : ℕ) (later : List Moment) (l : Letter) → letter_of p before ≡ Some l → (called : Name) → l.name ≡ called → AsksTask called → RepliesSo S before x (delivered p a n ∷ later)
    → replies S n l called before (delivered p a n ∷ later) (onto (x ∷ before) (delivered p a n ∷ later)) ≡ true
by_task S before x p a n later l here called is asks r =
    subst (λ q. replies S n l q before (delivered p a n ∷ later) (onto (x ∷ before) (delivered p a n ∷ later)) ≡ true) is (r.tasks l here (subst AsksTask (sym is) asks))

by_name : (S : Setting) (before : List Moment) (x : Moment) (p a n : ℕ) (later : List Moment) (l : Letter) → letter_of p before ≡ Some l → (called : Name) → l.name ≡ called → RepliesSo S before x (delivered p a n ∷ later)
    → replies S n l called before (delivered p a n ∷ later) (onto (x ∷ before) (delivered p a n ∷ later)) ≡ true
by_name S before x p a n later l here (name.Order k) is r = r.orders l k here is
by_name S before x p a n later l here (name.Prepare v) is r = r.prepares l v here is
by_name S before x p a n later l here name.Collect is r = r.collects l here is
by_name S before x p a n later l here (name.SeizeQuorum d) is r = by_task S before x p a n later l here (name.SeizeQuorum d) is tt r
by_name S before x p a n later l here (name.SeizeData d) is r = by_task S before x p a n later l here (name.SeizeData d) is tt r
by_name S before x p a n later l here name.Install is r = by_task S before x p a n later l here name.Install is tt r
by_name S before x p a n later l here _ is r = refl

replies_by : (S : Setting) (before : List Moment) (x : Moment) (p a n : ℕ) (later : List Moment) → RepliesSo S before x (delivered p a n ∷ later)
    → replies_to S n (letter_of p before) before (delivered p a n ∷ later) (onto (x ∷ before) (delivered p a n ∷ later)) ≡ true
replies_by S before x p a n later r = by_letter (letter_of p before) refl
  where
    by_letter : (o : Option Letter) → letter_of p before ≡ o → replies_to S n o before (delivered p a n ∷ later) (onto (x ∷ before) (delivered p a n ∷ later)) ≡ true
    by_letter None at = refl
    by_letter (Some l) at = by_name S before x p a n later l at l.name refl r

pub replies_so : (S : Setting) (before : List Moment) (x : Moment) (entries : List Moment) → RepliesSo S before x entries → RepliesTo S before x entries
replies_so S before x (delivered p a n ∷ later) r = replies_by S before x p a n later r
replies_so S before x _ r = tt

-- what is told of reports, and of what goes out
abbrev pub Reports : Setting → EventLaw
Reports S before x entries = ReportsDisk S before x (event_of x) entries

abbrev pub Prepares : EventLaw
Prepares before x entries = EachProposal before entries entries

abbrev pub Installs : EventLaw
Installs before x entries = EachInstall before entries entries

abbrev pub PreparesGo : EventLaw
PreparesGo before x entries = PreparesAgain before (event_of x) entries

abbrev pub Requests : EventLaw
Requests before x entries = EachRequest before entries (onto (x ∷ before) entries) entries

abbrev pub RequestsGo : EventLaw
RequestsGo before x entries = RequestsAgain before (event_of x) entries

pub record OutSo (before : List Moment) (x : Moment) (entries : List Moment) : Type 0 where
  pub prepares : Prepares before x entries
  pub installs : Installs before x entries
  pub prepares_again : PreparesGo before x entries
  pub requests : Requests before x entries
  pub requests_again : RequestsGo before x entries

-- what is proved of one event
pub record OwesSo (S : Setting) (before : List Moment) (x : Moment) (entries : List Moment) : Type 0 where
  pub replies : RepliesSo S before x entries
  pub reports : Reports S before x entries
  pub out : OutSo before x entries
  pub one_node : IsOfOne before x entries

pub owes_so : (S : Setting) (before : List Moment) (x : Moment) (entries : List Moment) → OwesSo S before x entries → Owes S before x entries
owes_so S before x entries k = record {
  replies = replies_so S before x entries k.replies;
  reports = k.reports;
  prepares = k.out.prepares;
  installs = k.out.installs;
  prepares_again = k.out.prepares_again;
  requests = k.out.requests;
  requests_again = k.out.requests_again;
  one_node = k.one_node;
}

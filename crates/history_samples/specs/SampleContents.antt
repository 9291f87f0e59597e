-- What messages carry: two nodes without a device form membership 65, with the bytes of the messages that matter.
use Rattle.std.specs.Prelude.{ℕ, true, false, List, [], ◌∷◌, ◌++◌, Some}
use Rattle.cl_base.specs.declared.header.Header.{Header}
use Rattle.cl_base.specs.declared.header.Version.TheVariants.{One}
use Rattle.cl_base.specs.declared.panic.Panic.TheVariants as panic
use Rattle.quorum_votes.specs.Votes.{first_of}
use Rattle.schedule_text.specs.declared.event.Event.TheVariants as event
use Rattle.status_report.specs.declared.node_entry.DownCause.TheVariants as cause
use Rattle.history_samples.specs.SampleNames as name
use Rattle.status_report.specs.declared.command_entry.Answer.TheVariants as answer
use Rattle.status_report.specs.declared.command_entry.Answer.TheVariants.{BadValue}
use Rattle.history.specs.Moment.{Moment}
use Rattle.history.specs.Trace.{up, down, ticked, saved, installed, member, sent, delivered, attempt, start, base, propose, asked, answered, gives}
use Rattle.history.specs.Setting.{Setting}
use Rattle.history_samples.specs.SampleOneNode.{line_of}

-- two nodes, no device, and votes that never change
abbrev pub no_device : Header
no_device = record { version = One; cluster = 42; nodes = 2; configured = 3; devices = [] }

abbrev pub bare : Setting
bare = record {
  header = no_device;
  votes = λ updates. first_of no_device;
  cells = 65536;
  canonical = λ words. Some words;
  word_error = λ words. BadValue;
  is_update = λ words. true;
  is_query = λ words. false;
  refusal_text = λ why. [];
}

-- ---- bytes: numbers below 256 in 8 and in 4 bytes, and a text of one letter

abbrev pub long : ℕ → List ℕ
long n = 0 ∷ 0 ∷ 0 ∷ 0 ∷ 0 ∷ 0 ∷ 0 ∷ n ∷ []

abbrev pub short : ℕ → List ℕ
short n = 0 ∷ 0 ∷ 0 ∷ n ∷ []

abbrev pub letter : ℕ → List ℕ
letter b = 0 ∷ 0 ∷ 0 ∷ 1 ∷ b ∷ []

abbrev pub none : List ℕ
none = 0 ∷ 0 ∷ []

abbrev pub only : List ℕ → List ℕ
only item = 0 ∷ 1 ∷ item

abbrev pub heartbeat : ℕ → ℕ → ℕ → List ℕ
heartbeat n e is_member = 1 ∷ n ∷ long e ++ long e ++ is_member ∷ []

abbrev pub promise : ℕ → ℕ → ℕ → List ℕ → List ℕ
promise n e newest committed = 3 ∷ n ∷ long e ++ long newest ++ short 3 ++ short 0 ++ 0 ∷ committed ++ none

-- a record of which the last text is pending
abbrev pub promise_pending : ℕ → ℕ → ℕ → List ℕ → List ℕ
promise_pending n e newest pending = 3 ∷ n ∷ long e ++ long newest ++ short 3 ++ short 0 ++ 0 ∷ none ++ pending

abbrev pub install : ℕ → List ℕ → List ℕ
install e committed = 8 ∷ 1 ∷ long e ++ short 3 ++ committed ++ none ++ none

abbrev pub ready_bytes : ℕ → ℕ → List ℕ
ready_bytes n e = 9 ∷ n ∷ long e ++ short 0 ++ none ++ none

abbrev pub prepare : ℕ → ℕ → ℕ → List ℕ
prepare e v b = 11 ∷ 1 ∷ long e ++ long v ++ letter b

-- ---- a membership forms

abbrev pub heard : List Moment
heard =
    delivered 1 2 1
    ∷ line_of (event.Next 2 1)
    ∷ sent 1 2 1 name.Heartbeat (heartbeat 2 0 0)
    ∷ ticked 2
    ∷ line_of (event.Tick 2)
    ∷ up 2
    ∷ line_of (event.Boot 2)
    ∷ up 1
    ∷ line_of (event.Boot 1)
    ∷ []

abbrev pub tried : List Moment
tried = sent 2 1 2 name.Collect (2 ∷ 1 ∷ long 65 ++ short 3) ∷ attempt 65 3 ∷ saved 1 ∷ ticked 1 ∷ line_of (event.Tick 1) ∷ heard

abbrev pub collected : List Moment
collected = saved 2 ∷ delivered 2 1 2 ∷ line_of (event.Next 1 2) ∷ tried

abbrev pub promised : List Moment
promised = sent 3 2 1 name.Promise (promise 2 65 0 none) ∷ collected

abbrev pub installing : List Moment
installing =
    sent 4 1 2 name.Install (install 65 none) ∷ installed 1 65 ∷ saved 1 ∷ delivered 3 2 1 ∷ line_of (event.Next 2 1) ∷ promised

abbrev pub ready : List Moment
ready =
    sent 5 2 1 name.Ready (ready_bytes 2 65) ∷ installed 2 65 ∷ saved 2 ∷ delivered 4 1 2 ∷ line_of (event.Next 1 2) ∷ installing

abbrev pub started : List Moment
started =
    sent 6 1 2 name.Start (10 ∷ 1 ∷ long 65)
    ∷ member 1 65
    ∷ start 65 3 0 0
    ∷ saved 1
    ∷ delivered 5 2 1
    ∷ line_of (event.Next 2 1)
    ∷ ready

abbrev pub formed : List Moment
formed = member 2 65 ∷ saved 2 ∷ delivered 6 1 2 ∷ line_of (event.Next 1 2) ∷ started

-- ---- what may not be

-- bytes that are no message, or one of another sender, or with a byte more
abbrev pub sent_nothing : List Moment
sent_nothing = sent 1 1 2 name.Heartbeat [] ∷ []

abbrev pub sent_for_another : List Moment
sent_for_another = sent 1 1 2 name.Start (10 ∷ 2 ∷ long 65) ∷ []

abbrev pub sent_as_another_kind : List Moment
sent_as_another_kind = sent 1 1 2 name.Start (18 ∷ 1 ∷ long 65 ++ long 65) ∷ []

-- a second Install with another text
abbrev pub installed_otherwise : List Moment
installed_otherwise = sent 5 1 2 name.Install (install 65 (only (letter 103))) ∷ installing

-- an Install without the text that node 2 has promised, or with it
abbrev pub promised_a_text : List Moment
promised_a_text = delivered 3 2 1 ∷ line_of (event.Next 2 1) ∷ sent 3 2 1 name.Promise (promise 2 65 1 (only (letter 103))) ∷ collected

abbrev pub installing_old : List Moment
installing_old = sent 4 1 2 name.Install (install 65 none) ∷ installed 1 65 ∷ saved 1 ∷ promised_a_text

abbrev pub installing_newest : List Moment
installing_newest = sent 4 1 2 name.Install (install 65 (only (letter 103))) ∷ installed 1 65 ∷ saved 1 ∷ promised_a_text

-- the text is pending in the Promise, and the Install leaves it so, or has it committed
abbrev pub promised_a_pending_text : List Moment
promised_a_pending_text =
    delivered 3 2 1 ∷ line_of (event.Next 2 1) ∷ sent 3 2 1 name.Promise (promise_pending 2 65 1 (only (letter 103))) ∷ collected

abbrev pub installing_as_pending : List Moment
installing_as_pending =
    sent 4 1 2 name.Install (8 ∷ 1 ∷ long 65 ++ short 3 ++ none ++ only (letter 103) ++ none) ∷ installed 1 65 ∷ saved 1 ∷ promised_a_pending_text

abbrev pub installing_as_committed : List Moment
installing_as_committed = sent 4 1 2 name.Install (install 65 (only (letter 103))) ∷ installed 1 65 ∷ saved 1 ∷ promised_a_pending_text

-- node 1 installs and sends no Install; node 2 installs where its Install comes, or where none does
abbrev pub installing_nothing : List Moment
installing_nothing = installed 1 65 ∷ saved 1 ∷ delivered 3 2 1 ∷ line_of (event.Next 2 1) ∷ promised

abbrev pub installing_and_down : List Moment
installing_and_down = down 1 (cause.Panic (panic.Excluded 65)) ∷ installing_nothing

abbrev pub installed_so : List Moment
installed_so = installed 2 65 ∷ saved 2 ∷ delivered 4 1 2 ∷ line_of (event.Next 1 2) ∷ installing

abbrev pub installed_untold : List Moment
installed_untold = installed 2 65 ∷ saved 2 ∷ ticked 2 ∷ line_of (event.Tick 2) ∷ installing

abbrev pub installed_for_another : List Moment
installed_for_another = installed 2 129 ∷ saved 2 ∷ delivered 4 1 2 ∷ line_of (event.Next 1 2) ∷ installing

-- the base has a text that the Installs have not
abbrev pub based_otherwise : List Moment
based_otherwise = base 65 1 (103 ∷ []) ∷ start 65 3 0 1 ∷ ready

-- node 2 promises another record than it has: another installed epoch, or an update
abbrev pub promised_too_much : List Moment
promised_too_much = sent 3 2 1 name.Promise (promise 2 65 1 none) ∷ collected

abbrev pub promised_an_update : List Moment
promised_an_update = sent 3 2 1 name.Promise (promise 2 65 0 (only (letter 103))) ∷ collected

-- the base is not that of the newest record
abbrev pub old_base : List Moment
old_base = start 65 3 0 0 ∷ delivered 3 2 1 ∷ sent 3 2 1 name.Promise (promise 2 65 1 (only (letter 103))) ∷ collected

-- a device is held of which the coordinator was told nothing
abbrev pub held_unknown : List Moment
held_unknown = start 65 3 1 0 ∷ ready

-- a Heartbeat that says to be a member
abbrev pub false_heartbeat : List Moment
false_heartbeat = sent 2 1 2 name.Heartbeat (heartbeat 1 0 1) ∷ heard

-- a Prepare with another text than was proposed, and an answer that no Answer brought
abbrev pub prepared_otherwise : List Moment
prepared_otherwise = sent 7 1 2 (name.Prepare 1) (prepare 65 1 104) ∷ propose 65 1 (103 ∷ []) ∷ formed

abbrev pub prepared_so : List Moment
prepared_so = sent 7 1 2 (name.Prepare 1) (prepare 65 1 103) ∷ propose 65 1 (103 ∷ []) ∷ formed

abbrev pub answered_alone : List Moment
answered_alone = answered 2 1 answer.Ok ∷ asked 2 1 ∷ gives 2 (103 ∷ []) ∷ formed

-- the base has the committed texts of the Installs, and then the pending one; or it has them the other way round
abbrev pub installing_two : List Moment
installing_two =
    sent 4 1 2 name.Install (8 ∷ 1 ∷ long 65 ++ short 3 ++ only (letter 103) ++ only (letter 104) ++ none)
    ∷ installed 1 65
    ∷ saved 1
    ∷ delivered 3 2 1
    ∷ line_of (event.Next 2 1)
    ∷ sent 3 2 1 name.Promise (3 ∷ 2 ∷ long 65 ++ long 1 ++ short 3 ++ short 0 ++ 0 ∷ only (letter 103) ++ only (letter 104))
    ∷ collected

abbrev pub based_in_order : List Moment
based_in_order = base 65 2 (104 ∷ []) ∷ base 65 1 (103 ∷ []) ∷ start 65 3 0 2 ∷ installing_two

abbrev pub based_pending_first : List Moment
based_pending_first = base 65 2 (103 ∷ []) ∷ base 65 1 (104 ∷ []) ∷ start 65 3 0 2 ∷ installing_two

-- node 2 prepared an update in 65, and is asked for a promise of 129
abbrev pub asked_again : List Moment
asked_again =
    saved 2
    ∷ delivered 9 1 2
    ∷ line_of (event.Next 1 2)
    ∷ sent 9 1 2 name.Collect (2 ∷ 1 ∷ long 129 ++ short 3)
    ∷ attempt 129 3
    ∷ sent 8 2 1 (name.Prepared 1) []
    ∷ saved 2
    ∷ delivered 7 1 2
    ∷ line_of (event.Next 1 2)
    ∷ prepared_so

abbrev pub promised_what_it_has : List Moment
promised_what_it_has = sent 10 2 1 name.Promise (promise_pending 2 129 65 (only (letter 103))) ∷ asked_again

-- the update is pending, for no Commit came
abbrev pub promised_as_committed : List Moment
promised_as_committed = sent 10 2 1 name.Promise (promise 2 129 65 (only (letter 103))) ∷ asked_again

abbrev pub promised_less : List Moment
promised_less = sent 10 2 1 name.Promise (promise 2 129 65 none) ∷ asked_again

abbrev pub promised_unseen : List Moment
promised_unseen = sent 10 2 1 name.Promise (promise 2 129 65 (only (letter 104))) ∷ asked_again

abbrev pub promised_as_new : List Moment
promised_as_new = sent 10 2 1 name.Promise (promise 2 129 0 none) ∷ asked_again

-- a Request with the words of its command, or with others
abbrev pub request : ℕ → List ℕ
request b = 16 ∷ 2 ∷ long 65 ++ long 1 ++ letter b

abbrev pub requested_so : List Moment
requested_so = sent 7 2 1 (name.Request 1) (request 103) ∷ asked 2 1 ∷ gives 2 (103 ∷ []) ∷ formed

abbrev pub requested_otherwise : List Moment
requested_otherwise = sent 7 2 1 (name.Request 1) (request 104) ∷ asked 2 1 ∷ gives 2 (103 ∷ []) ∷ formed

-- Contents: the bytes of a message spell what its sender has, and tell no more and nothing else.
use Rattle.std.specs.Prelude.{◌≡◌, ℕ, ◌==◌, ◌&&◌, ◌||◌, not, Bool, true, false, if◌then◌else◌, List, [], ◌∷◌, ◌++◌, Option, Some, None, is_some, option_map, IfSome, codes}
use Rattle.std.specs.List.{list_any, AllByRecursion}
use Rattle.cl_base.specs.declared.header.Header.{Header}
use Rattle.cl_base.specs.declared.packet.MessageName.{MessageName}
use Rattle.wire.specs.Spelling.{spelling, Fits}
use Rattle.wire.specs.declared.message.Message.{Message}
use Rattle.wire.specs.declared.message.Body.{Body}
use Rattle.wire.specs.declared.message.Body.TheVariants as body
use Rattle.cl_base.specs.declared.seizing.SeizeEnd.TheVariants.{Held}
use Rattle.status_report.specs.declared.command_entry.Answer.{Answer}
use Rattle.status_report.specs.declared.command_entry.Answer.TheVariants as answer
use Rattle.history.specs.Moment.{Moment}
use Rattle.history.specs.Names as name
use Rattle.history.specs.Names.{Name, named, written}
use Rattle.history.specs.Trace.{sent, installed, start, propose, answered}
use Rattle.history.specs.Order.{Always, Unless, before_last}
use Rattle.history.specs.Setting.{Setting, coordinator, devices_of}
use Rattle.history.specs.Letters.{Letter, arrived, passes, name_of, is_letter, reached_since, says, text_in}
use Rattle.history.specs.Member.{member_of, attempt_of, session_of, installed_of}
use Rattle.history.specs.Starts.{Start, EachStart}
use Rattle.history.specs.Seizing.{is_attempt, is_start, is_number, keys_seized}
use Rattle.history.specs.Requests.{are_words, before_asking, command_of}
use Rattle.history.specs.Records.{NodeRecord, record_in, record_of, is_newer, is_newest, records_in_hand}

-- ---- Spelling: the bytes spell a message of the sender, of the kind and with the device, place or number that the line names

pub record Spells (n : ℕ) (called : MessageName) (bytes : List ℕ) : Type 0 where
  pub message : Message
  pub fits : Fits message
  pub spelled : spelling message ≡ bytes
  pub sender : message.sender ≡ n
  pub named : written (name_of message.body) ≡ called

abbrev pub IsSpelled : List Moment → Moment → Type 0
IsSpelled before (sent p a b called bytes) = Spells a called bytes
IsSpelled before _ = Unit {0}

abbrev pub Spelled : List Moment → Type 0
Spelled moments = Always IsSpelled moments

-- ---- Records: a Promise shows the record of its sender, an Install that of the coordinator, which has installed the attempt

abbrev pub ShowsRecord : List Moment → ℕ → List ℕ → Name → Type 0
ShowsRecord before n bytes name.Promise =
    IfSome (installed_of n before) (λ f. option_map (λ (r : NodeRecord). r.installed) (record_in (says bytes)) ≡ Some f)
    × IfSome (record_of n before) (λ r. record_in (says bytes) ≡ Some r)
ShowsRecord before n bytes name.Install =
    (installed_of n before ≡ attempt_of n before) × IfSome (record_of n before) (λ r. record_in (says bytes) ≡ Some r)
ShowsRecord before n bytes _ = Unit {0}

abbrev pub IsRecord : List Moment → Moment → Type 0
IsRecord before (sent p n b called bytes) = ShowsRecord before n bytes (named called)
IsRecord before _ = Unit {0}

abbrev pub Records : List Moment → Type 0
Records moments = Always IsRecord moments

-- ---- and what the coordinator installs is the newest of the records in hand: each that no other exceeds has the same texts, and leaves the
-- same pending

abbrev pub HasNewestTexts : List (List ℕ) → List NodeRecord → Type 0
HasNewestTexts texts records = AllByRecursion (λ r. list_any (λ other. is_newer other r) records ≡ false → texts ≡ r.texts) records

abbrev pub HasNewestPending : Bool → List NodeRecord → Type 0
HasNewestPending pending records = AllByRecursion (λ r. is_newest records r ≡ true → r.pending ≡ pending) records

abbrev pub IsNewestInstalled : List Moment → Moment → Type 0
IsNewestInstalled before (installed n e) = Unless (not (n == coordinator e))
    (IfSome (record_of n (installed n e ∷ before)) (λ r. IfSome (records_in_hand e before) (λ records. HasNewestTexts r.texts records × HasNewestPending r.pending records)))
IsNewestInstalled before _ = Unit {0}

abbrev pub NewestInstalled : List Moment → Type 0
NewestInstalled moments = Always IsNewestInstalled moments

-- ---- a base has the texts that were installed, and those of the newest record

abbrev pub IsInstalledBase : List Moment → Start → List (List ℕ) → Type 0
IsInstalledBase moments s updates =
    IfSome (record_of (coordinator s.epoch) (before_last (is_start s.epoch) moments)) (λ r. r.installed ≡ s.epoch → updates ≡ r.texts)

abbrev pub InstallsTheBase : List Moment → Type 0
InstallsTheBase moments = EachStart IsInstalledBase moments

abbrev pub IsNewestBase : List Moment → Start → List (List ℕ) → Type 0
IsNewestBase moments s updates = IfSome (records_in_hand s.epoch moments) (λ records. HasNewestTexts updates records)

abbrev pub NewestBase : List Moment → Type 0
NewestBase moments = EachStart IsNewestBase moments

-- ---- Starting: the coordinator knows of each device that it is held, and a Heartbeat says whether its sender is a member

abbrev pub says_held : Option Body → Bool
says_held (Some (body.Seized epoch d (Held keys))) = true
says_held _ = false

-- a Seized of e for d that says `held`, to c
abbrev pub tells_held : ℕ → ℕ → ℕ → Letter → Bool
tells_held e c d l = is_letter (name.Seized d) l.from c l && is_number e (session_of l.from l.before) && says_held (says l.bytes)

abbrev pub knows_held : Header → ℕ → ℕ → List Moment → Bool
knows_held h e d before =
    is_some (keys_seized h (coordinator e) e d before) || reached_since (is_attempt e) (tells_held e (coordinator e) d) before

abbrev pub IsKnownHeld : Header → List Moment → Moment → Type 0
IsKnownHeld h before (start e members held count) = AllByRecursion (λ d. knows_held h e d before ≡ true) (devices_of held)
IsKnownHeld h before _ = Unit {0}

abbrev pub KnownHeld : Header → List Moment → Type 0
KnownHeld h moments = Always (IsKnownHeld h) moments

abbrev pub member_in : Option Body → Option Bool
member_in (Some (body.Heartbeat promised session is_member)) = Some is_member
member_in _ = None

abbrev pub ShowsMember : List Moment → ℕ → List ℕ → Name → Type 0
ShowsMember before n bytes name.Heartbeat = member_in (says bytes) ≡ Some (is_some (member_of n before))
ShowsMember before n bytes _ = Unit {0}

abbrev pub IsHeartbeat : List Moment → Moment → Type 0
IsHeartbeat before (sent p n b called bytes) = ShowsMember before n bytes (named called)
IsHeartbeat before _ = Unit {0}

abbrev pub Heartbeats : List Moment → Type 0
Heartbeats moments = Always IsHeartbeat moments

-- ---- Updates: what Prepares, Requests and Answers carry

-- the words of `propose e v`
abbrev pub proposed_at : Option ℕ → ℕ → List Moment → Option (List ℕ)
proposed_at None v before = None
proposed_at (Some e) v [] = None
proposed_at (Some e) v (propose f w words ∷ before) = if (f == e) && (w == v) then Some words else proposed_at (Some e) v before
proposed_at (Some e) v (_ ∷ before) = proposed_at (Some e) v before

-- the text of an Answer, where the president gives the answer
abbrev pub answer_text : Setting → Answer → Option (List ℕ)
answer_text S answer.Ok = Some (codes "ok")
answer_text S (answer.Refused refusal) = Some (codes "refused " ++ S.refusal_text refusal)
answer_text S _ = None

-- a member other than the president answers what the president's Answer says that was delivered to it
abbrev pub IsPresidents : Option ℕ → ℕ → ℕ → List ℕ → List Moment → Type 0
IsPresidents None n q text before = Unit {0}
IsPresidents (Some e) n q text before =
    Unless (coordinator e == n) (passes (λ l. is_letter (name.Answer q) (coordinator e) n l && are_words text (text_in (says l.bytes))) (arrived before) ≡ true)

abbrev pub ShowsText : Setting → List Moment → ℕ → List ℕ → Name → Type 0
ShowsText S before n bytes (name.Prepare v) = text_in (says bytes) ≡ proposed_at (member_of n before) v before
ShowsText S before n bytes (name.Request q) = IfSome (command_of S n q before) (λ words. text_in (says bytes) ≡ Some words)
ShowsText S before n bytes _ = Unit {0}

abbrev pub CarriesUpdate : Setting → List Moment → Moment → Type 0
CarriesUpdate S before (sent p n b called bytes) = ShowsText S before n bytes (named called)
CarriesUpdate S before (answered n q reply) =
    IfSome (answer_text S reply) (λ text. IsPresidents (member_of n (before_asking n q before)) n q text before)
CarriesUpdate S before _ = Unit {0}

abbrev pub CarriedUpdates : Setting → List Moment → Type 0
CarriedUpdates S moments = Always (CarriesUpdate S) moments

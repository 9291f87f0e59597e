-- What the line of a packet, or of a command at a device, leaves of the tasks of a node that leads.
use Rattle.std.specs.Prelude.{ℕ, ◌≡◌, ◌==◌, ◌&&◌, ◌++◌, not, Bool, true, false, filter, List, [], ◌∷◌, Option, None, Some, Ok, Err, if◌then◌else◌}
use Rattle.std.specs.List.{list_all, list_any}
use Rattle.std.proofs.Common.{arith, refl, sym, ap, subst, ◌∙◌, inl, inr}
use Rattle.device_queue.specs.Queue.{after_answer}
use Rattle.device_queue.specs.Tasks.{answered, is_queued}
use Rattle.device_queue.specs.declared.task.Task.{Task}
use Rattle.history.specs.Contact.{others}
use Rattle.history.specs.Letters.{Letter, letter_of}
use Rattle.history.specs.Member.{attempt_of, in_collect, members_of, number_of, promised_to}
use Rattle.history.specs.Moment.{Moment, Told}
use Rattle.history.specs.Names as name
use Rattle.history.specs.Names.{Name, named, same_name}
use Rattle.history.specs.Queue as told
use Rattle.history.specs.Queue.{is_write}
use Rattle.history.specs.Records.{is_promise_of, promise_among, promises}
use Rattle.history.specs.Seizing.{acts_for, is_number}
use Rattle.history.specs.Setting.{Setting, coordinator}
use Rattle.history.specs.Trace.{delivered}
use Rattle.history.specs.UnderWay.{is_under_way}
use Rattle.node_model.specs.Devices.{answer_told}
use Rattle.pgr_device.specs.declared.command.PrCommand.{PrCommand}
use Rattle.run_devices.proofs.queues.Tasks.{same_taken}
use Rattle.run_devices.specs.queues.Told.{leads, leads_for}
use Rattle.seize.specs.Answers.{Answer}
use Rattle.status_report.specs.declared.device_entry.DeviceEntry.TheVariants as device_entry
use Rattle.status_report.specs.declared.entry.Entry.TheVariants as entry
use Rattle.node_model.specs.declared.node.UpNode.{UpNode}
use Rattle.refinement.specs.Doings.{answered_so}
use Rattle.wire.specs.declared.message.Body.{Body}
use Rattle.wire.specs.declared.message.Body.TheVariants as body
use Rattle.world_model.specs.Sends.{name_of}
use Rattle.run_outcomes.specs.tasks.Outward.{RequestsGoOut}
use Rattle.run_outcomes.proofs.outward.Addressed.{AreAddressed}
use Rattle.run_outcomes.proofs.outward.Moves.{rested_delivered, rested_device}
use Rattle.run_outcomes.proofs.outward.Resting.{IsRested}
use Rattle.run_outcomes.proofs.rests.Packets.{IsNack, IsNoCollect}
use Rattle.run_outcomes.proofs.rests.Sessions.{Led, led_so}
use Rattle.run_outcomes.proofs.rests.Steps.{Leading, RestsAt}
use Rattle.run_outcomes.proofs.told_tasks.Closed.{closed_before}
use Rattle.run_outcomes.proofs.told_tasks.Quiet.{if_off}

-- ---- a packet

-- a letter of this message to n
pub record LetterOf (ms : List Moment) (number n : ℕ) (b : Body) : Type 0 where
  pub letter : Letter
  pub here : letter_of number ms ≡ Some letter
  pub called : letter.name ≡ named (name_of b)
  pub receiver : letter.to ≡ n

other_name : (b : Body) → IsNoCollect b → same_name (named (name_of b)) name.Collect ≡ false
other_name (body.Collect e members) h = absurd h
other_name (body.Heartbeat promised session is_member) h = refl
other_name (body.Promise e newest members valid flagged committed pending) h = refl
other_name (body.Nack e promised) h = refl
other_name (body.SeizeQuorum e members d) h = refl
other_name (body.SeizeData e members d) h = refl
other_name (body.Seized e d r) h = refl
other_name (body.Install i) h = refl
other_name (body.Ready e devices report) h = refl
other_name (body.Start e) h = refl
other_name (body.Prepare e place text) h = refl
other_name (body.Prepared e place) h = refl
other_name (body.Commit e place) h = refl
other_name (body.Order o) h = refl
other_name (body.Done e number ended) h = refl
other_name (body.Request e number text) h = refl
other_name (body.Answer e number text) h = refl
other_name (body.Excluded e newest) h = refl

-- whether it came for this one
abbrev for_it : ℕ → Option Letter → Bool
for_it n None = false
for_it n (Some l) = same_name l.name name.Collect && (l.to == n)

pub no_collect : (ms : List Moment) (number from n : ℕ) (b : Body) → LetterOf ms number n b → IsNoCollect b → in_collect n (delivered number from n ∷ ms) ≡ false
no_collect ms number from n b l none =
    ap (λ o. for_it n o) l.here ∙ (ap (λ c. same_name c name.Collect && (l.letter.to == n)) l.called ∙ ap (λ t. t && (l.letter.to == n)) (other_name b none))

itself : (k j : ℕ) → k ≡ j → (k == j) ≡ true
itself k j e = grind arith

pub is_collect : (ms : List Moment) (number from n e members : ℕ) → LetterOf ms number n (body.Collect e members) → in_collect n (delivered number from n ∷ ms) ≡ true
is_collect ms number from n e members l =
    ap (λ o. for_it n o) l.here ∙ (ap (λ c. same_name c name.Collect && (l.letter.to == n)) l.called ∙ itself l.letter.to n l.receiver)

pub leads_same : (n p a m : ℕ) (ms : List Moment) → leads n (delivered p a m ∷ ms) ≡ leads n ms
leads_same n p a m ms = by_number (attempt_of n ms)
  where
    by_number : (o : Option ℕ) → leads_for n o (delivered p a m ∷ ms) ≡ leads_for n o ms
    by_number None = refl
    by_number (Some e) = refl

pub delivered_leading : (S : Setting) (n p a m : ℕ) (ms : List Moment) → Leading S n (delivered p a m ∷ ms) → Leading S n ms
delivered_leading S n p a m ms k = (sym (leads_same n p a m ms) ∙ k.0, closed_before S n ms (delivered p a m) refl k.1)

-- a node without an attempt
pub delivered_rests : (S : Setting) (n p a m : ℕ) (ms : List Moment) (w : UpNode) → ((e : ℕ) → coordinator e ≡ n → is_under_way e ms ≡ false) → RequestsGoOut ms → AreAddressed (delivered p a m ∷ ms)
    → (Leading S n ms → RestsAt S n w ms) → Leading S n (delivered p a m ∷ ms) → RestsAt S n w (delivered p a m ∷ ms)
delivered_rests S n p a m ms w over out to before k =
    let at : Leading S n ms = delivered_leading S n p a m ms k in
    let led : Led n ms = led_so n ms at.0 in
    subst (IsRested w) (sym (rested_delivered S n led.epoch p a m ms led.own led.last led.session (over led.epoch led.own) out to)) (before at)

-- a refusal to one whose attempt collects
pub nack_name : (b : Body) → IsNack b → named (name_of b) ≡ name.Nack
nack_name (body.Nack e promised) h = refl
nack_name _ h = absurd h

same_lacks : (e p from n : ℕ) (ms : List Moment) (l : Letter) → letter_of p ms ≡ Some l → l.name ≡ name.Nack → told.all_promised e (delivered p from n ∷ ms) ≡ told.all_promised e ms
same_lacks e p from n ms l here called =
    ap (λ ls. list_all (λ k. list_any (λ (z : Letter). z.from == k) ls) (others e (members_of e ms)))
    (ap (λ o. promise_among e o ++ promises e ms) here ∙ ap (λ b. (if b then l ∷ [] else []) ++ promises e ms) none)
  where
    none : is_promise_of e l ≡ false
    none = ap (λ (c : Name). same_name c name.Promise && (l.from == l.from) && (l.to == coordinator e) && is_number e (promised_to l.before)) called

-- it asks for no task
refused_none : (S : Setting) (n : ℕ) (l : Letter) (ms : List Moment) (ts : List told.Task) → l.name ≡ name.Nack → told.requested S n (Some l) ms ts ≡ ts
refused_none S n l ms ts called = by_number (number_of l)
  where
    by_test : (e : ℕ) (b : Bool) → (if b then told.sought S n e l.name ms ts else ts) ≡ ts
    by_test e true = ap (λ q. told.sought S n e q ms ts) called
    by_test e false = refl

    by_number : (o : Option ℕ) → told.requested_in S n o l ms ts ≡ ts
    by_number None = refl
    by_number (Some e) = by_test e (acts_for n e ms)

pub refused_own : (S : Setting) (n p from e : ℕ) (ms : List Moment) (l : Letter) → letter_of p ms ≡ Some l → l.name ≡ name.Nack → attempt_of n ms ≡ Some e
    → told.tasks_of S n (delivered p from n ∷ ms) ≡ told.with_own S n (Some e) (delivered p from n ∷ ms) (told.tasks_of S n ms)
refused_own S n p from e ms l at called attempt =
    let ts : List told.Task = told.tasks_of S n ms in
    ap (λ b. if b then told.with_own S n (attempt_of n ms) (delivered p from n ∷ ms) (told.requested S n (letter_of p ms) ms ts) else ts) (itself n n refl)
    ∙ (ap (λ o. told.with_own S n (attempt_of n ms) (delivered p from n ∷ ms) (told.requested S n o ms ts)) at
    ∙ (ap (told.with_own S n (attempt_of n ms) (delivered p from n ∷ ms)) (refused_none S n l ms ts called)
    ∙ ap (λ o. told.with_own S n o (delivered p from n ∷ ms) ts) attempt))

pub collecting_rests : (S : Setting) (n e p from : ℕ) (ms : List Moment) (w : UpNode) (b : Body) → (l : LetterOf ms p n b) → IsNack b → attempt_of n ms ≡ Some e → told.all_promised e ms ≡ false → RestsAt S n w ms → RestsAt S n w (delivered p from n ∷ ms)
collecting_rests S n e p from ms w b l nack last lacks before =
    subst (IsRested w) (sym (refused_own S n p from e ms l.letter l.here called last ∙ off)) before
  where
    called : l.letter.name ≡ name.Nack
    called = l.called ∙ nack_name b nack

    here : List Moment
    here = delivered p from n ∷ ms

    none : (x y z : Bool) → z ≡ false → (x && y && z) ≡ false
    none true true z h = h
    none true false z h = refl
    none false y z h = refl

    off : told.with_own S n (Some e) here (told.tasks_of S n ms) ≡ told.tasks_of S n ms
    off =
        if_off (acts_for n e here && is_under_way e here && told.all_promised e here) (told.own_tasks S n e (told.newest_in_hand e here) here (told.tasks_of S n ms)) (told.tasks_of S n ms)
        (none (acts_for n e here) (is_under_way e here) (told.all_promised e here) (same_lacks e p from n ms l.letter l.here called ∙ lacks))

-- ---- a command at a device

-- where none is queued an answer is to none
none_moves : (ts : List Task) (a : Answer) → filter is_queued ts ≡ [] → after_answer ts a ≡ ts
none_moves [] a h = refl
none_moves (t ∷ ts) a h = by_test (is_queued t) h (λ k. none_moves ts a k)
  where
    never : (u : Task) (us : List Task) → u ∷ us ≡ [] → ⊥
    never u us e = cc

    by_test : (b : Bool) → (if b then t ∷ filter is_queued ts else filter is_queued ts) ≡ [] → (filter is_queued ts ≡ [] → after_answer ts a ≡ ts)
        → (if b then answered a t ∷ ts else t ∷ after_answer ts a) ≡ t ∷ ts
    by_test true k rest = absurd (never t (filter is_queued ts) k)
    by_test false k rest = ap (λ us. t ∷ us) (rest k)

moved_so : (x : UpNode) (us : List told.Task) (a : Answer) → IsRested x us → IsRested (answered_so x a) (told.moved a us)
moved_so x us a (inl same) = inl (same_taken x.tasks us a same)
moved_so x us a (inr none) = inr (ap (filter is_queued) (none_moves x.tasks a none.0) ∙ none.0, ap (told.moved a) none.1)

told_back : (a : Answer) → told.answer_told (answer_told a) ≡ a
told_back (Ok g) = refl
told_back (Err f) = refl

pub device_rests : (S : Setting) (n d : ℕ) (q : PrCommand) (a : Answer) (ms : List Moment) (w : UpNode) → is_write q ≡ false → ((e : ℕ) → coordinator e ≡ n → is_under_way e ms ≡ false) → (Leading S n ms → RestsAt S n w ms)
    → Leading S n (Told (entry.Device (device_entry.Command n d q (answer_told a))) ∷ ms) → IsRested (answered_so w a) (told.tasks_of S n (Told (entry.Device (device_entry.Command n d q (answer_told a))) ∷ ms))
device_rests S n d q a ms w plain over before k =
    let at : Leading S n ms = (sym same ∙ k.0, closed_before S n ms mark refl k.1) in
    let led : Led n ms = led_so n ms at.0 in
    subst (IsRested (answered_so w a)) (sym (rested_device S n led.epoch n d q (answer_told a) ms led.last (over led.epoch led.own) (ap (λ b. b && not (is_write q)) (itself n n refl) ∙ ap not plain) ∙ ap (λ z. told.moved z (told.tasks_of S n ms)) (told_back a)))
    (moved_so w (told.tasks_of S n ms) a (before at))
  where
    mark : Moment
    mark = Told (entry.Device (device_entry.Command n d q (answer_told a)))

    same : leads n (mark ∷ ms) ≡ leads n ms
    same = by_number (attempt_of n ms)
      where
        by_number : (o : Option ℕ) → leads_for n o (mark ∷ ms) ≡ leads_for n o ms
        by_number None = refl
        by_number (Some e) = refl

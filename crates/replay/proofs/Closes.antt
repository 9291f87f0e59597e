-- A run, closed.
use Rattle.std.proofs.Common.{◌≡◌, ◌≢◌, ℕ, ◌≤◌, Bool, true, false, List, [], ◌++◌, length, take, Option, None, Some, Ok, Err, refl, sym, ap, subst, ◌∙◌, arith, append-nil, append_assoc, length-take}
use Rattle.std.specs.Io.{StartsWith}
use Rattle.std.specs.Io.KnownBytes.{Appends, Consumes, Keeps, IsAtEnd}
use Rattle.agents.specs.Calls.{AgentState}
use Rattle.cl_io.specs.Causes.{Rose, AppendsFront}
use Rattle.cl_io.proofs.KnownLemmas.{appends_then, consumes_then, keeps_consumes}
use Rattle.interpreter.specs.declared.reader.Reader as reader
use Rattle.replay.specs.declared.status.Status.{Status}
use Rattle.replay.specs.declared.status.Status.TheVariants as status
use Rattle.interpreter.specs.declared.stop.Stop.{Stop}
use Rattle.interpreter.specs.declared.stop.Stop.TheVariants as stop
use Rattle.interpreter.specs.declared.task.Task.{Task}
use Rattle.interpreter.specs.Sessions.{start}
use Rattle.interpreter.specs.Outcomes.{Open, Outcome, outcome_of, whole_text, closing, after}
use Rattle.interpreter.specs.Readers.{IsReader, Stops, TakesBytes, with_more, ending_of}
use Rattle.replay.specs.Closings.{Closed, SinkCaused, status_of}
use Rattle.replay.specs.Loops.{ReadsOn}
use Rattle.replay.specs.Runs.{IsRun, IsCaused, ReadsNoFurther, Says, Writes}
use Rattle.interpreter.proofs.Bytes.{after_after}
use Rattle.interpreter.proofs.Ends.{is_open}
use Rattle.run_outcomes.specs.Traces.{TracesOfEachRun}
use Rattle.replay.proofs.Histories.{tells_run}
use Rattle.replay.proofs.Texts.{starts_with_behind, starts_with_front, starts_with_more}

-- nothing was written, nothing taken
same_appends : (known : Option (List ℕ)) → Appends known known []
same_appends None = tt
same_appends (Some xs) = sym (append-nil xs)

same_consumes : (known : Option (List ℕ)) → Consumes known known []
same_consumes None = tt
same_consumes (Some xs) = refl

-- the whole text of a stop
pub whole_of : (task : Task) (why : Stop) (o : Outcome) (lines : ℕ) (text : List ℕ) → why ≢ stop.NoMemory → Stops why o lines text → whole_text task o ≡ text ++ closing task (ending_of why lines)
whole_of task stop.Ended o lines text some h = ap (λ (x : Outcome). whole_text task x) h
whole_of task (stop.Refused kind) o lines text some h = ap (λ (x : Outcome). whole_text task x) h
whole_of task stop.TooLarge o lines text some h = ap (λ (x : Outcome). whole_text task x) h
whole_of task stop.NoMemory o lines text some h = absurd (some refl)

pub says_of : (why : Stop) (o : Outcome) (lines : ℕ) (text : List ℕ) → Stops why o lines text → Says (status_of why) o.ending
says_of stop.Ended o lines text h = rw h tt
says_of (stop.Refused kind) o lines text h = rw h tt
says_of stop.TooLarge o lines text h = rw h tt
says_of stop.NoMemory o lines text h = tt

pub writes_of : (task : Task) (why : Stop) (o : Outcome) (lines : ℕ) (text : List ℕ) → why ≢ stop.NoMemory → Stops why o lines text
    → Writes (status_of why) (whole_text task o) (text ++ closing task (ending_of why lines))
writes_of task stop.Ended o lines text some h = sym (whole_of task stop.Ended o lines text some h)
writes_of task (stop.Refused kind) o lines text some h = sym (whole_of task (stop.Refused kind) o lines text some h)
writes_of task stop.TooLarge o lines text some h = sym (whole_of task stop.TooLarge o lines text some h)
writes_of task stop.NoMemory o lines text some h = absurd (some refl)

pub sink_kept : (why : Stop) (writes writes' : ℕ) → writes' ≡ writes → SinkCaused (status_of why) writes writes'
sink_kept stop.Ended writes writes' h = h
sink_kept (stop.Refused kind) writes writes' h = h
sink_kept stop.TooLarge writes writes' h = h
sink_kept stop.NoMemory writes writes' h = h

-- the closing line is written, or the sink fails at it, or memory runs out
pub close_done : (task : Task) (why : Stop) (lines : ℕ) (text whole : List ℕ) (held held' : Option (List ℕ)) (writes writes' : ℕ) → why ≢ stop.NoMemory
    → whole ≡ text ++ closing task (ending_of why lines) → Appends held held' whole → writes' ≡ writes → Closed task why lines text (status_of why) held held' writes writes'
close_done task why lines text whole held held' writes writes' some is appended same = record {
  written = whole;
  appended = appended;
  says = λ o stops. says_of why o lines text stops;
  writes_text = λ o stops. subst (λ (t : List ℕ). Writes (status_of why) (whole_text task o) t) (sym is) (writes_of task why o lines text some stops);
  caused = sink_kept why writes writes' same;
}

pub close_failed : (task : Task) (why : Stop) (lines : ℕ) (text whole : List ℕ) (held held' : Option (List ℕ)) (writes writes' : ℕ) → why ≢ stop.NoMemory
    → whole ≡ text ++ closing task (ending_of why lines) → AppendsFront held held' whole → Rose writes writes' → Closed task why lines text status.WriteFault held held' writes writes'
close_failed task why lines text whole held held' writes writes' some is front rose = record {
  written = take front.count whole;
  appended = front.appended;
  says = λ o stops. tt;
  writes_text = λ o stops. subst (λ (t : List ℕ). StartsWith t (take front.count whole)) (is ∙ sym (whole_of task why o lines text some stops)) (starts_with_front whole front.count);
  caused = rose;
}

pub close_without_memory : (task : Task) (why : Stop) (lines : ℕ) (text : List ℕ) (held : Option (List ℕ)) (writes : ℕ) → Closed task why lines text status.NoMemory held held writes writes
close_without_memory task why lines text held writes = record {
  written = [];
  appended = same_appends held;
  says = λ o stops. tt;
  writes_text = λ o stops. refl;
  caused = refl;
}

-- what was written before
behind : (task : Task) (result : Status) (o : Outcome) (first written : List ℕ) → Writes result (whole_text task o) written → Writes result (whole_text task (after first o)) (first ++ written)
behind task status.Done o first written h = ap (λ (t : List ℕ). first ++ t) h ∙ sym (append_assoc first o.text (closing task o.ending))
behind task status.Usage o first written h = ap (λ (t : List ℕ). first ++ t) h ∙ sym (append_assoc first o.text (closing task o.ending))
behind task status.Refused o first written h = ap (λ (t : List ℕ). first ++ t) h ∙ sym (append_assoc first o.text (closing task o.ending))
behind task status.ReadFault o first written h = ap (λ (t : List ℕ). first ++ t) h ∙ sym (append_assoc first o.text (closing task o.ending))
behind task status.TooLarge o first written h = ap (λ (t : List ℕ). first ++ t) h ∙ sym (append_assoc first o.text (closing task o.ending))
behind task status.WriteFault o first written h =
    subst (λ (t : List ℕ). StartsWith t (first ++ written)) (sym (append_assoc first o.text (closing task o.ending))) (starts_with_behind first (whole_text task o) written h)
behind task status.NoMemory o first written h =
    subst (λ (t : List ℕ). StartsWith t (first ++ written)) (sym (append_assoc first o.text (closing task o.ending))) (starts_with_behind first (whole_text task o) written h)

caused : (result : Status) (reads reads' writes writes' : ℕ) → reads' ≡ reads → SinkCaused result writes writes' → IsCaused result reads reads' writes writes'
caused status.Done reads reads' writes writes' same h = (same, h)
caused status.Usage reads reads' writes writes' same h = (same, h)
caused status.Refused reads reads' writes writes' same h = (same, h)
caused status.ReadFault reads reads' writes writes' same h = absurd h
caused status.WriteFault reads reads' writes writes' same h = (same, h)
caused status.NoMemory reads reads' writes writes' same h = (same, h)
caused status.TooLarge reads reads' writes writes' same h = (same, h)

-- more was wanted before
wanted : (task : Task) (agents : List AgentState) (left left' held held' : Option (List ℕ)) (now : reader.Reader) → IsReader now → (on : ReadsOn task agents left left' held held' now) → (outcome_of task agents false on.taken).ending ≡ Open
wanted task agents left left' held held' now whole on =
    let all : outcome_of task agents false (on.taken ++ []) ≡ after on.written (with_more task false now []) = on.goes_on false [] in
    ap (λ (xs : List ℕ). (outcome_of task agents false xs).ending) (sym (append-nil on.taken)) ∙ (ap (λ (o : Outcome). o.ending) all ∙ ap (λ (o : Outcome). o.ending) (is_open task now whole))

no_further : (task : Task) (agents : List AgentState) (left left' held held' : Option (List ℕ)) (now : reader.Reader) (piece : List ℕ) → IsReader now → (on : ReadsOn task agents left left' held held' now) → length piece ≤ 16384
    → ReadsNoFurther task agents (on.taken ++ piece)
no_further task agents left left' held held' now piece whole on few = record { before = on.taken; last = piece; parts = refl; piece = few; wanted = wanted task agents left left' held held' now whole on }

-- reading stopped, in a piece or at the end
pub closed_run : TracesOfEachRun → (task : Task) (agents : List AgentState) (left left' left'' held held' held'' : Option (List ℕ)) (reads reads' writes writes' writes'' : ℕ) (now : reader.Reader) (piece : List ℕ) (ended : Bool) (why : Stop) (lines : ℕ) (text : List ℕ) (result : Status)
    → ReadsOn task agents left left' held held' now → IsReader now → Consumes left' left'' piece → length piece ≤ 16384 → (ended ≡ true → IsAtEnd left'')
    → Stops why (with_more task ended now piece) lines text → reads' ≡ reads → writes' ≡ writes → Closed task why lines text result held' held'' writes' writes''
    → IsRun task agents left left'' held held'' reads reads' writes writes'' result
closed_run traces task agents left left' left'' held held' held'' reads reads' writes writes' writes'' now piece ended why lines text result on whole consumed few gone stops same kept closed =
    record {
      taken = on.taken ++ piece;
      consumed = consumes_then left left' left'' on.taken piece on.consumed consumed;
      no_further = no_further task agents left left' held held' now piece whole on few;
      ended = ended;
      at_end = gone;
      says = subst (λ (x : Outcome). Says result x.ending) (sym (on.goes_on ended piece)) (closed.says (with_more task ended now piece) stops);
      written = on.written ++ closed.written;
      appended = appends_then held held' held'' on.written closed.written on.appended closed.appended;
      writes_text = subst (λ (x : Outcome). Writes result (whole_text task x) (on.written ++ closed.written)) (sym (on.goes_on ended piece))
          (behind task result (with_more task ended now piece) on.written closed.written (closed.writes_text (with_more task ended now piece) stops));
      caused = caused result reads reads' writes writes'' same (subst (λ n. SinkCaused result n writes'') kept closed.caused);
      history = tells_run traces task agents ended (on.taken ++ piece);
    }

-- in a piece
pub closed_in : TracesOfEachRun → (A : Type 0) (task : Task) (agents : List AgentState) (left left' left'' held held' held'' : Option (List ℕ)) (reads reads' writes writes' writes'' : ℕ) (now last : reader.Reader) (piece : List ℕ) (why : Stop) (result : Status)
    → ReadsOn task agents left left' held held' now → IsReader now → Consumes left' left'' piece → length piece ≤ 16384
    → TakesBytes {A = A} task now piece (Err why) last → reads' ≡ reads → writes' ≡ writes → Closed task why last.lines last.text.items result held' held'' writes' writes''
    → IsRun task agents left left'' held held'' reads reads' writes writes'' result
closed_in traces A task agents left left' left'' held held' held'' reads reads' writes writes' writes'' now last piece why result on whole consumed few taken same kept closed =
    closed_run traces task agents left left' left'' held held' held'' reads reads' writes writes' writes'' now piece false why last.lines last.text.items result on whole consumed few (λ e. absurd (cc))
    (subst (λ (xs : List ℕ). Stops why (with_more task false now xs) last.lines last.text.items) (append-nil piece) (taken false [])) same kept closed

-- the source failed
pub read_failed : TracesOfEachRun → (task : Task) (agents : List AgentState) (left left' left'' held held' : Option (List ℕ)) (reads reads' writes writes' : ℕ) (now : reader.Reader)
    → ReadsOn task agents left left' held held' now → IsReader now → now.text.items ≡ [] → Keeps left' left'' → Rose reads reads' → writes' ≡ writes
    → IsRun task agents left left'' held held' reads reads' writes writes' status.ReadFault
read_failed traces task agents left left' left'' held held' reads reads' writes writes' now on whole none keeps rose same =
    let all : outcome_of task agents false (on.taken ++ []) ≡ record { text = on.written; ending = Open } =
    on.goes_on false [] ∙ (ap (λ (o : Outcome). after on.written o) (is_open task now whole) ∙ ap (λ (t : List ℕ). record { text = t; ending = Open }) (ap (λ (t : List ℕ). on.written ++ t) none ∙ append-nil on.written)) in
    record {
      taken = on.taken ++ [];
      consumed = consumes_then left left' left'' on.taken [] on.consumed (keeps_consumes left' left'' keeps);
      no_further = no_further task agents left left' held held' now [] whole on (omega arith);
      ended = false;
      at_end = λ e. absurd (cc);
      says = subst (λ (x : Outcome). Says status.ReadFault x.ending) (sym all) tt;
      written = on.written;
      appended = on.appended;
      writes_text = subst (λ (x : Outcome). on.written ≡ whole_text task x) (sym all) (sym (append-nil on.written));
      caused = (rose, same);
      history = tells_run traces task agents false (on.taken ++ []);
    }

-- the sink failed at what a piece was answered
pub write_failed : TracesOfEachRun → (A : Type 0) (done : A) (task : Task) (agents : List AgentState) (left left' left'' held held' held'' : Option (List ℕ)) (reads reads' writes writes' : ℕ) (now new : reader.Reader) (piece : List ℕ)
    → ReadsOn task agents left left' held held' now → IsReader now → Consumes left' left'' piece → length piece ≤ 16384
    → TakesBytes {A = A} task now piece (Ok done) new → reads' ≡ reads → AppendsFront held' held'' new.text.items → Rose writes writes'
    → IsRun task agents left left'' held held'' reads reads' writes writes' status.WriteFault
write_failed traces A done task agents left left' left'' held held' held'' reads reads' writes writes' now new piece on whole consumed few taken same front rose =
    let all : outcome_of task agents false (on.taken ++ piece) ≡ after on.written (with_more task false new []) =
    on.goes_on false piece ∙ (ap (λ (xs : List ℕ). after on.written (with_more task false now xs)) (sym (append-nil piece)) ∙ ap (λ (o : Outcome). after on.written o) (taken false [])) in
    record {
      taken = on.taken ++ piece;
      consumed = consumes_then left left' left'' on.taken piece on.consumed consumed;
      no_further = no_further task agents left left' held held' now piece whole on few;
      ended = false;
      at_end = λ e. absurd (cc);
      says = tt;
      written = on.written ++ take front.count new.text.items;
      appended = appends_then held held' held'' on.written (take front.count new.text.items) on.appended front.appended;
      writes_text = subst (λ (x : Outcome). StartsWith (whole_text task x) (on.written ++ take front.count new.text.items)) (sym all)
          (starts_with_more _ _ _ (starts_with_behind on.written _ (take front.count new.text.items)
          (starts_with_more new.text.items _ (take front.count new.text.items) (starts_with_front new.text.items front.count))));
      caused = (same, rose);
      history = tells_run traces task agents false (on.taken ++ piece);
    }

-- a piece was taken, and what it was answered is written
pub read_more : (A : Type 0) (done : A) (task : Task) (agents : List AgentState) (left left' left'' held held' held'' : Option (List ℕ)) (now new next : reader.Reader) (piece : List ℕ)
    → ReadsOn task agents left left' held held' now → Consumes left' left'' piece → TakesBytes {A = A} task now piece (Ok done) new → Appends held' held'' new.text.items
    → ((ended : Bool) (more : List ℕ) → with_more task ended new more ≡ after new.text.items (with_more task ended next more)) → ReadsOn task agents left left'' held held'' next
read_more A done task agents left left' left'' held held' held'' now new next piece on consumed taken wrote flushed = record {
  taken = on.taken ++ piece;
  consumed = consumes_then left left' left'' on.taken piece on.consumed consumed;
  written = on.written ++ new.text.items;
  appended = appends_then held held' held'' on.written new.text.items on.appended wrote;
  goes_on = λ ended more.
      ap (λ (xs : List ℕ). outcome_of task agents ended xs) (append_assoc on.taken piece more)
      ∙ (on.goes_on ended (piece ++ more)
      ∙ (ap (λ (o : Outcome). after on.written o) (taken ended more ∙ flushed ended more)
      ∙ after_after on.written new.text.items (with_more task ended next more)));
}

-- nothing was read
pub reads_nothing : (task : Task) (agents : List AgentState) (left held : Option (List ℕ)) (now : reader.Reader) → now.state ≡ start agents → now.lines ≡ 0 → now.held.items ≡ [] → now.text.items ≡ [] → ReadsOn task agents left left held held now
reads_nothing task agents left held now state lines none text = record {
  taken = [];
  consumed = same_consumes left;
  written = [];
  appended = same_appends held;
  goes_on = λ ended more. rw (state, lines, none, text) refl;
}

pub no_memory : TracesOfEachRun → (task : Task) (agents : List AgentState) (left held : Option (List ℕ)) (reads writes : ℕ) → IsRun task agents left left held held reads reads writes writes status.NoMemory
no_memory traces task agents left held reads writes = record {
  taken = [];
  consumed = same_consumes left;
  no_further = record { before = []; last = []; parts = refl; piece = omega arith; wanted = refl };
  ended = false;
  at_end = λ e. absurd (cc);
  says = tt;
  written = [];
  appended = same_appends held;
  writes_text = refl;
  caused = (refl, refl);
  history = tells_run traces task agents false [];
}

-- what was written is let go
pub flushed : (task : Task) (new next : reader.Reader) → next.state ≡ new.state → next.lines ≡ new.lines → next.held.items ≡ new.held.items → next.text.items ≡ []
    → (ended : Bool) (more : List ℕ) → with_more task ended new more ≡ after new.text.items (with_more task ended next more)
flushed task new next state lines held none ended more = rw (state, lines, held, none) refl

pub short_take : (count most : ℕ) (xs : List ℕ) → length xs ≡ most → length (take count xs) ≤ most
short_take count most xs is = omega (arith, length-take count xs)

-- nothing was given
pub none_taken : (left left' : Option (List ℕ)) (count : ℕ) (buffer : List ℕ) → count ≡ 0 → Consumes left left' (take count buffer) → Consumes left left' []
none_taken left left' count buffer none consumed = subst (λ n. Consumes left left' (take n buffer)) none consumed

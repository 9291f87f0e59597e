-- Where nothing fails a run of a whole schedule is complete: an outcome that is not open stands whatever comes behind its bytes.
use Rattle.std.proofs.Common.{◌≡◌, ℕ, ◌+◌, ◌==◌, Bool, true, false, if◌then◌else◌, List, [], ◌∷◌, ◌++◌, length, Option, Some, None, ◌⊎◌, inl, inr, refl, sym, ap, subst, ◌∙◌, append-nil, arith}
use Rattle.std.specs.List.{onto_first}
use Rattle.std.specs.Io.KnownBytes.{Appends, Consumes, IsAtEnd}
use Rattle.std.proofs.lemmas.Bool.Decides.{nat_tests}
use Rattle.std.proofs.lemmas.List.Splits.{length-slice_split, slice_split-cons_no, slice_split-cons_yes}
use Rattle.agents.specs.Calls.{AgentState}
use Rattle.cl_io.specs.Causes.{Rose}
use Rattle.interpreter.specs.declared.session.State.{State}
use Rattle.replay.specs.declared.status.Status.{Status}
use Rattle.replay.specs.declared.status.Status.TheVariants as status
use Rattle.interpreter.specs.declared.task.Task.{Task}
use Rattle.interpreter.specs.Sessions.{Step, Goes, Finishes, Refuses, start, step}
use Rattle.interpreter.specs.Outcomes.{Ending, Open, Ended, Refused, TooLarge, Outcome, after, is_too_large, onward, outcome, outcome_of, pieces, silent, whole_text}
use Rattle.replay.specs.Replays.{Completes}
use Rattle.replay.specs.Runs.{IsCaused, Says, Writes}
use Rattle.replay.specs.Gens.{counts_made, summary}
use Rattle.replay.specs.Completeness.{GensAreComplete, IsComplete, RunsAreComplete, Stays}
use Rattle.interpreter.proofs.Bytes.{too_large_piece}

-- ---- the pieces of bytes behind bytes

-- the last of the first pieces and the first of the others are one
abbrev joined : List (List ℕ) → List ℕ → List (List ℕ) → List (List ℕ)
joined [] next more = next ∷ more
joined (last ∷ []) next more = (last ++ next) ∷ more
joined (line ∷ other ∷ lines) next more = line ∷ joined (other ∷ lines) next more

joined_line : (line : List ℕ) (parts : List (List ℕ)) (next : List ℕ) (more : List (List ℕ)) → (length parts == 0) ≡ false → line ∷ joined parts next more ≡ joined (line ∷ parts) next more
joined_line line [] next more some = absurd (cc)
joined_line line (other ∷ lines) next more some = refl

joined_onto : (x : ℕ) (parts : List (List ℕ)) (next : List ℕ) (more : List (List ℕ)) → (length parts == 0) ≡ false → onto_first x (joined parts next more) ≡ joined (onto_first x parts) next more
joined_onto x [] next more some = absurd (cc)
joined_onto x (last ∷ []) next more some = refl
joined_onto x (line ∷ other ∷ lines) next more some = refl

some_pieces : (bytes : List ℕ) → (length (pieces bytes) == 0) ≡ false
some_pieces bytes = let one_more = length-slice_split (λ b. b == 10) bytes in grind (arith, nat_tests)

byte_joins : (x : ℕ) (bytes rest next : List ℕ) (more : List (List ℕ)) (ends : Bool) → (x == 10) ≡ ends → pieces (bytes ++ rest) ≡ joined (pieces bytes) next more
    → pieces ((x ∷ bytes) ++ rest) ≡ joined (pieces (x ∷ bytes)) next more
byte_joins x bytes rest next more true here behind =
    slice_split-cons_yes (λ b. b == 10) x (bytes ++ rest) here
    ∙ (ap (λ (ps : List (List ℕ)). [] ∷ ps) behind
    ∙ (joined_line [] (pieces bytes) next more (some_pieces bytes)
    ∙ ap (λ (ps : List (List ℕ)). joined ps next more) (sym (slice_split-cons_yes (λ b. b == 10) x bytes here))))
byte_joins x bytes rest next more false here behind =
    slice_split-cons_no (λ b. b == 10) x (bytes ++ rest) here
    ∙ (ap (λ (ps : List (List ℕ)). onto_first x ps) behind
    ∙ (joined_onto x (pieces bytes) next more (some_pieces bytes)
    ∙ ap (λ (ps : List (List ℕ)). joined ps next more) (sym (slice_split-cons_no (λ b. b == 10) x bytes here))))

pieces_join : (bytes rest next : List ℕ) (more : List (List ℕ)) → pieces rest ≡ next ∷ more → pieces (bytes ++ rest) ≡ joined (pieces bytes) next more
pieces_join [] rest next more is = is
pieces_join (x ∷ bytes) rest next more is = byte_joins x bytes rest next more (x == 10) refl (pieces_join bytes rest next more is)

-- ---- what stands

-- more is wanted, or the outcome is this one whatever comes
abbrev Stands : Outcome → Outcome → Type 0
Stands o whole = (o.ending ≡ Open) ⊎ (whole ≡ o)

after_stands : (text : List ℕ) (o whole : Outcome) → Stands o whole → Stands (after text o) (after text whole)
after_stands text o whole (inl opened) = inl opened
after_stands text o whole (inr same) = inr (ap (λ (p : Outcome). after text p) same)

onward_stands : (s : Step) (read : ℕ) (f g : State → Outcome) → ((next : State) → Stands (f next) (g next)) → Stands (onward s read f) (onward s read g)
onward_stands (Goes next text) read f g stand = after_stands text (f next) (g next) (stand next)
onward_stands Finishes read f g stand = inr refl
onward_stands (Refuses kind) read f g stand = inr refl

chosen_stands : (large : Bool) (n : ℕ) (o whole : Outcome) → Stands o whole → Stands (if large then silent (TooLarge n) else o) (if large then silent (TooLarge n) else whole)
chosen_stands true n o whole stand = inr refl
chosen_stands false n o whole stand = stand

some_line : (b : ℕ) (bytes : List ℕ) → (length (b ∷ bytes) == 0) ≡ false
some_line b bytes = grind (arith, nat_tests)

some_lines : (line : List ℕ) (lines : List (List ℕ)) → (length (line ∷ lines) == 0) ≡ false
some_lines line lines = grind (arith, nat_tests)

some_joined : (parts : List (List ℕ)) (next : List ℕ) (more : List (List ℕ)) → (length (joined parts next more) == 0) ≡ false
some_joined [] next more = some_lines next more
some_joined (last ∷ []) next more = some_lines (last ++ next) more
some_joined (line ∷ other ∷ lines) next more = some_lines line (joined (other ∷ lines) next more)

last_stands : (task : Task) (b : ℕ) (bytes next : List ℕ) (more : List (List ℕ)) (state : State) (read : ℕ) (large : Bool) → is_too_large read (b ∷ bytes) ≡ large
    → Stands (outcome task false ((b ∷ bytes) ∷ []) state read) (outcome task true (((b ∷ bytes) ++ next) ∷ more) state read)
last_stands task b bytes next more state read true is =
    let here : outcome task false ((b ∷ bytes) ∷ []) state read ≡ silent (TooLarge (read + 1)) = rw (some_line b bytes, is) refl in
    inr (too_large_piece task true (b ∷ bytes) next more state read (omega arith) is ∙ sym here)
last_stands task b bytes next more state read false is =
    let here : outcome task false ((b ∷ bytes) ∷ []) state read ≡ silent Open = rw (some_line b bytes, is) refl in
    inl (ap (λ (o : Outcome). o.ending) here)

outcome_stands : (task : Task) (parts : List (List ℕ)) (next : List ℕ) (more : List (List ℕ)) (state : State) (read : ℕ)
    → Stands (outcome task false parts state read) (outcome task true (joined parts next more) state read)
outcome_stands task [] next more state read = inl refl
outcome_stands task ([] ∷ []) next more state read = inl refl
outcome_stands task ((b ∷ bytes) ∷ []) next more state read = last_stands task b bytes next more state read (is_too_large read (b ∷ bytes)) refl
outcome_stands task (line ∷ other ∷ lines) next more state read =
    rw (some_lines other lines, some_joined (other ∷ lines) next more)
    (chosen_stands (is_too_large read line) (read + 1) (onward (step task state line) read (λ now. outcome task false (other ∷ lines) now (read + 1)))
    (onward (step task state line) read (λ now. outcome task true (joined (other ∷ lines) next more) now (read + 1)))
    (onward_stands (step task state line) read (λ now. outcome task false (other ∷ lines) now (read + 1)) (λ now. outcome task true (joined (other ∷ lines) next more) now (read + 1))
    (λ now. outcome_stands task (other ∷ lines) next more now (read + 1))))

bytes_stand : (task : Task) (agents : List AgentState) (taken rest : List ℕ) (parts : List (List ℕ)) → pieces rest ≡ parts
    → Stands (outcome_of task agents false taken) (outcome_of task agents true (taken ++ rest))
bytes_stand task agents taken rest [] is =
    let none : length (pieces rest) ≡ 0 = ap length is in
    absurd (omega (arith, length-slice_split (λ b. b == 10) rest))
bytes_stand task agents taken rest (next ∷ more) is =
    subst (λ (ps : List (List ℕ)). Stands (outcome_of task agents false taken) (outcome task true ps (start agents) 0)) (sym (pieces_join taken rest next more is))
    (outcome_stands task (pieces taken) next more (start agents) 0)

-- the outcome of the bytes that were taken stands for all that the source had
known_stands : (task : Task) (agents : List AgentState) (bytes taken : List ℕ) (left' : Option (List ℕ)) (ended : Bool) → Consumes (Some bytes) left' taken → (ended ≡ true → IsAtEnd left')
    → Stands (outcome_of task agents ended taken) (outcome_of task agents true bytes)
known_stands task agents bytes taken None ended takes end = absurd takes
known_stands task agents bytes taken (Some rest) true takes end =
    let all : bytes ≡ taken = takes ∙ (ap (λ (xs : List ℕ). taken ++ xs) (end refl) ∙ append-nil taken) in
    inr (ap (λ (xs : List ℕ). outcome_of task agents true xs) all)
known_stands task agents bytes taken (Some rest) false takes end =
    subst (λ (xs : List ℕ). Stands (outcome_of task agents false taken) (outcome_of task agents true xs)) (sym takes) (bytes_stand task agents taken rest (pieces rest) refl)

-- ---- the status

not_risen : (before now : ℕ) → Stays before now → Rose before now → ⊥
not_risen before now stays rose = omega (arith, stays.0, stays.1, rose)

says_no_usage : (e : Ending) → Says status.Usage e → ⊥
says_no_usage Open says = says
says_no_usage (Ended read) says = says
says_no_usage (Refused line kind) says = says
says_no_usage (TooLarge line) says = says

says_no_refusal : (o whole : Outcome) → Stands o whole → Completes whole.ending → Says status.Refused o.ending → ⊥
says_no_refusal o whole (inl opened) done says = subst (λ (e : Ending). Says status.Refused e) opened says
says_no_refusal o whole (inr same) done says = refuses whole.ending done (subst (λ (p : Outcome). Says status.Refused p.ending) (sym same) says)
  where
    refuses : (e : Ending) → Completes e → Says status.Refused e → ⊥
    refuses Open done says = absurd done
    refuses (Ended read) done says = says
    refuses (Refused line kind) done says = absurd done
    refuses (TooLarge line) done says = absurd done

says_no_excess : (o whole : Outcome) → Stands o whole → Completes whole.ending → Says status.TooLarge o.ending → ⊥
says_no_excess o whole (inl opened) done says = subst (λ (e : Ending). Says status.TooLarge e) opened says
says_no_excess o whole (inr same) done says = exceeds whole.ending done (subst (λ (p : Outcome). Says status.TooLarge p.ending) (sym same) says)
  where
    exceeds : (e : Ending) → Completes e → Says status.TooLarge e → ⊥
    exceeds Open done says = absurd done
    exceeds (Ended read) done says = says
    exceeds (Refused line kind) done says = absurd done
    exceeds (TooLarge line) done says = absurd done

-- what is done is all
done_text : (task : Task) (o whole : Outcome) (held held' : Option (List ℕ)) (written : List ℕ) → Stands o whole → Says status.Done o.ending → Appends held held' written → written ≡ whole_text task o
    → Appends held held' (whole_text task whole)
done_text task o whole held held' written (inl opened) says appends is = absurd (subst (λ (e : Ending). Says status.Done e) opened says)
done_text task o whole held held' written (inr same) says appends is =
    subst (λ (text : List ℕ). Appends held held' text) (is ∙ ap (λ (p : Outcome). whole_text task p) (sym same)) appends

complete : (task : Task) (o whole : Outcome) (held held' : Option (List ℕ)) (written : List ℕ) (reads reads' writes writes' : ℕ) (result : Status) → Stands o whole → Completes whole.ending
    → Says result o.ending → Appends held held' written → Writes result (whole_text task o) written → IsCaused result reads reads' writes writes' → Stays reads reads' → Stays writes writes'
    → IsComplete result held held' (whole_text task whole)
complete task o whole held held' written reads reads' writes writes' status.Done stand done says appends text caused source sink = done_text task o whole held held' written stand says appends text
complete task o whole held held' written reads reads' writes writes' status.Usage stand done says appends text caused source sink = says_no_usage o.ending says
complete task o whole held held' written reads reads' writes writes' status.Refused stand done says appends text caused source sink = says_no_refusal o whole stand done says
complete task o whole held held' written reads reads' writes writes' status.ReadFault stand done says appends text caused source sink = not_risen reads reads' source caused.0
complete task o whole held held' written reads reads' writes writes' status.WriteFault stand done says appends text caused source sink = not_risen writes writes' sink caused.1
complete task o whole held held' written reads reads' writes writes' status.NoMemory stand done says appends text caused source sink = tt
complete task o whole held held' written reads reads' writes writes' status.TooLarge stand done says appends text caused source sink = says_no_excess o whole stand done says

pub runs_are_complete : RunsAreComplete
runs_are_complete task agents bytes left left' held held' reads reads' writes writes' result run known done source sink =
    complete task (outcome_of task agents run.ended run.taken) (outcome_of task agents true bytes) held held' run.written reads reads' writes writes' result
    (known_stands task agents bytes run.taken left' run.ended (subst (λ (o : Option (List ℕ)). Consumes o left' run.taken) known run.consumed) run.at_end) done run.says run.appended run.writes_text
    run.caused source sink

-- ---- a schedule that is made

made_complete : (count : ℕ) (text : List ℕ) (held held' : Option (List ℕ)) (written : List ℕ) (reads reads' writes writes' : ℕ) (result : Status) → Says result (Ended count)
    → Appends held held' written → Writes result text written → IsCaused result reads reads' writes writes' → Stays writes writes' → IsComplete result held held' text
made_complete count text held held' written reads reads' writes writes' status.Done says appends is caused sink = subst (λ (t : List ℕ). Appends held held' t) is appends
made_complete count text held held' written reads reads' writes writes' status.Usage says appends is caused sink = says
made_complete count text held held' written reads reads' writes writes' status.Refused says appends is caused sink = says
made_complete count text held held' written reads reads' writes writes' status.ReadFault says appends is caused sink = says
made_complete count text held held' written reads reads' writes writes' status.WriteFault says appends is caused sink = not_risen writes writes' sink caused.1
made_complete count text held held' written reads reads' writes writes' status.NoMemory says appends is caused sink = tt
made_complete count text held held' written reads reads' writes writes' status.TooLarge says appends is caused sink = says

pub gens_are_complete : GensAreComplete
gens_are_complete m agents left left' held held' reads reads' writes writes' result gen sink =
    made_complete (10 + m.count) (summary (10 + m.count) (counts_made m agents)) held held' gen.written reads reads' writes writes' result gen.says gen.appended gen.writes_text gen.caused sink

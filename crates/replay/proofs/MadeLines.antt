-- A schedule that is made, replayed line by line.
use Rattle.std.proofs.Common.{◌≡◌, ◌≢◌, ℕ, ◌+◌, ◌-◌, ◌<◌, ◌≤◌, min, nat_lt, Bool, true, false, if◌then◌else◌, List, [], ◌∷◌, ◌++◌, Some, None, Result, Ok, Err, IfOk, suc, refl, sym, ap, subst, ◌∙◌, arith}
use Rattle.std.proofs.lemmas.Bool.{ltb-false, ltb-true}
use Rattle.schedule_gen.specs.Grammar.{lines_from}
use Rattle.schedule_gen.specs.Lines.{line_at}
use Rattle.schedule_gen.specs.Progress.{Progress, after, next_of}
use Rattle.replay.specs.declared.counts.Counts.{Counts}
use Rattle.replay.specs.declared.counts.Tally as tally
use Rattle.interpreter.specs.declared.reader.Reader as reader
use Rattle.interpreter.specs.declared.stop.Stop.{Stop}
use Rattle.interpreter.specs.declared.stop.Stop.TheVariants as stop
use Rattle.interpreter.specs.declared.task.Task.TheVariants.{Run}
use Rattle.replay.specs.Gens.{ended}
use Rattle.interpreter.specs.Outcomes.{Outcome}
use Rattle.interpreter.specs.Readers.{Stops, with_more}
use Rattle.replay.specs.Tallies.{counts_from}

-- the bytes of the lines that were not given yet
abbrev pub rest_of : Progress → List ℕ
rest_of p = ended (lines_from p.seed p.given ((10 + p.count) - p.given))

rest_more : (p : Progress) → p.given < 10 + p.count → rest_of p ≡ (line_at p.seed p.given ++ 10 ∷ []) ++ rest_of (after p)
rest_more p low =
    let left : (10 + p.count) - p.given ≡ suc ((10 + p.count) - (p.given + 1)) = omega arith in
    let next : min (p.given + 1) (10 + p.count) ≡ p.given + 1 = omega arith in
    rw (left, next) refl

-- a line was given
pub line_given : (p next : Progress) (line : List ℕ) → Some line ≡ next_of p → next ≡ after p → rest_of p ≡ (line ++ 10 ∷ []) ++ rest_of next
line_given p next line is moved = by (nat_lt p.given (10 + p.count)) refl is
  where
    by : (low : Bool) → nat_lt p.given (10 + p.count) ≡ low → Some line ≡ (if low then Some (line_at p.seed p.given) else None) → rest_of p ≡ (line ++ 10 ∷ []) ++ rest_of next
    by true low is =
        let line_is : line ≡ line_at p.seed p.given = cc in
        rw (line_is, moved) (rest_more p (ltb-true p.given (10 + p.count) low))
    by false low is = absurd (cc)

pub within : (p next : Progress) → next ≡ after p → next.given ≤ 10 + next.count
within p next moved = rw moved (omega arith)

-- there was none
pub none_given : (p : Progress) → None ≡ next_of p → rest_of p ≡ []
none_given p is = by (nat_lt p.given (10 + p.count)) refl is
  where
    by : (low : Bool) → nat_lt p.given (10 + p.count) ≡ low → None ≡ (if low then Some (line_at p.seed p.given) else None) → rest_of p ≡ []
    by true low is = absurd (cc)
    by false low is =
        let none : (10 + p.count) - p.given ≡ 0 = omega (arith, ltb-false p.given (10 + p.count) low) in
        rw none refl

-- a line was replayed, what was written of it was counted, and it was cleared
pub line_counted : (old new cleared : reader.Reader) (t t' : tally.Tally) (all bytes rest : List ℕ) (whole : Counts)
    → all ≡ bytes ++ rest → with_more Run true old (bytes ++ rest) ≡ with_more Run true new rest
    → cleared.state ≡ new.state → cleared.lines ≡ new.lines → cleared.held ≡ new.held → cleared.text.items ≡ []
    → ((more : List ℕ) → counts_from t (new.text.items ++ more) ≡ counts_from t' more)
    → counts_from t (with_more Run true old all).text ≡ whole → counts_from t' (with_more Run true cleared rest).text ≡ whole
line_counted old new cleared t t' all bytes rest whole parts is state lines held none taken before =
    let same : (with_more Run true old (bytes ++ rest)).text ≡ new.text.items ++ (with_more Run true cleared rest).text = ap (λ (o : Outcome). o.text) is ∙ rw (state, lines, held, none) refl in
    let all_is : (with_more Run true old all).text ≡ (with_more Run true old (bytes ++ rest)).text = ap (λ (xs : List ℕ). (with_more Run true old xs).text) parts in
    sym (taken (with_more Run true cleared rest).text) ∙ (ap (λ (text : List ℕ). counts_from t text) (sym (all_is ∙ same)) ∙ before)

-- the replay stopped: all that it wrote stands in the text
pub stop_text : (why : Stop) (o : Outcome) (lines : ℕ) (text : List ℕ) → why ≢ stop.NoMemory → Stops why o lines text → o.text ≡ text
stop_text stop.Ended o lines text some h = ap (λ (x : Outcome). x.text) h
stop_text (stop.Refused kind) o lines text some h = ap (λ (x : Outcome). x.text) h
stop_text stop.TooLarge o lines text some h = ap (λ (x : Outcome). x.text) h
stop_text stop.NoMemory o lines text some h = absurd (some refl)

-- and so the counts are those of all
pub counted_stop : {E : Type 0} (result : Result Counts E) (why : Stop) (text shown : List ℕ) (t : tally.Tally) (o : Outcome) (lines : ℕ) (whole : Counts)
    → IfOk result (λ counts. (p : Outcome) (n : ℕ) → Stops why p n shown → counts ≡ counts_from t p.text) → shown ≡ text → Stops why o lines text → counts_from t o.text ≡ whole
    → IfOk result (λ counts. counts ≡ whole)
counted_stop (Ok counts) why text shown t o lines whole told is stops same = told o lines (subst (λ (x : List ℕ). Stops why o lines x) (sym is) stops) ∙ same
counted_stop (Err e) why text shown t o lines whole told is stops same = tt

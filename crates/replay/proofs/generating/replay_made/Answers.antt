use Rattle.std.proofs.Common.{rules, ◌≡◌, ◌++◌, ◌∷◌, [], List, ℕ, Some, None, true, refl, sym, ap, ◌∙◌, subst}
use Rattle.schedule_gen.specs.Progress.{after, next_of}
use Rattle.interpreter.specs.declared.reader.Reader as reader
use Rattle.interpreter.specs.declared.task.Task.TheVariants.{Run}
use Rattle.interpreter.specs.Readers.{with_more}
use Rattle.replay.specs.Tallies.{counts_from}
use Rattle.replay.proofs.MadeLines.{counted_stop, line_counted, line_given, none_given, rest_of, within}
use Rattle.replay.proofs.generating.replay_made.Goals as goal

pub returns-in-Err : goal.returns-in-Err
returns-in-Err c =
    let line : Some c.in-Some.line.items ≡ next_of c.loop-tally.made = search rules in
    let moved : c.next_line.new.self ≡ after c.loop-tally.made = search rules in
    let rest : List ℕ = rest_of c.next_line.new.self in
    let parts : rest_of c.loop-tally.made ≡ (c.in-Some.line.items ++ (10 ∷ [])) ++ rest = line_given c.loop-tally.made c.next_line.new.self c.in-Some.line.items line moved in
    counted_stop c.count_rest.result c.in-Err.stop c.take_made.new.reader.text.items c.as_slice.result.now c.loop-tally.tally
    (with_more Run true c.loop-tally.reader ((c.in-Some.line.items ++ (10 ∷ [])) ++ rest)) c.take_made.new.reader.lines _
    c.count_rest.ensures c.as_slice.ensures.value (c.in-Err.ensures.taken true rest)
    (ap (λ (xs : List ℕ). counts_from c.loop-tally.tally (with_more Run true c.loop-tally.reader xs).text) (sym parts) ∙ c.loop-tally.invariant.counted)

pub loop-tally-preserved : goal.loop-tally-preserved
loop-tally-preserved c =
    let line : Some c.in-Some.line.items ≡ next_of c.loop-tally.made = search rules in
    let moved : c.next_line.new.self ≡ after c.loop-tally.made = search rules in
    let rest : List ℕ = rest_of c.next_line.new.self in
    let cleared : reader.Reader = record { state = c.take_made.new.reader.state; lines = c.take_made.new.reader.lines; held = c.take_made.new.reader.held; text = c.clear.new.self; words = c.take_made.new.reader.words } in
    record {
      reader = c.in_default-take_made.ensures.whole;
      tally = c.in_ok-take.ensures.whole;
      written = c.clear.ensures.items;
      within = within c.loop-tally.made c.next_line.new.self moved;
      counted = line_counted c.loop-tally.reader c.take_made.new.reader cleared c.loop-tally.tally c.take.new.self (rest_of c.loop-tally.made) (c.in-Some.line.items ++ (10 ∷ [])) rest _
          (line_given c.loop-tally.made c.next_line.new.self c.in-Some.line.items line moved) (c.in_default-take_made.ensures.taken true rest) refl refl refl c.clear.ensures.items
          (subst (λ (text : List ℕ). (more : List ℕ) → counts_from c.loop-tally.tally (text ++ more) ≡ counts_from c.take.new.self more) c.as_slice-in-Some.ensures.value c.in_ok-take.ensures.taken)
          c.loop-tally.invariant.counted;
    }

pub returns : goal.returns
returns c =
    let none : None ≡ next_of c.loop-tally.made = search rules in
    counted_stop c.count_rest-2.result c.finish-stop.result c.finish-stop.new.self.text.items c.as_slice-2.result.now c.loop-tally.tally
    (with_more Run true c.loop-tally.reader []) c.finish-stop.new.self.lines _
    c.count_rest-2.ensures c.as_slice-2.ensures.value c.finish-stop.ensures
    (ap (λ (xs : List ℕ). counts_from c.loop-tally.tally (with_more Run true c.loop-tally.reader xs).text) (sym (none_given c.loop-tally.made none)) ∙ c.loop-tally.invariant.counted)

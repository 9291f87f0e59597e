use Rattle.std.proofs.Common.{◌≡◌, ◌++◌, ◌∷◌, [], length, refl, ap, sym, ◌∙◌, rules}
use Rattle.std.specs.Prelude.{nat_eq}
use Rattle.std.specs.Cmp.Lexicographic.{pointwise}
use Rattle.ccr_text.proofs.RowLemmas.{row_of, has_key, rows_go_on, fresh_row, was_added, keys_more, stops_at_repeat}
use Rattle.ccr_text.proofs.read.read_rows.Goals as goal

pub loop-rest-preserved : goal.loop-rest-preserved
loop-rest-preserved c =
    let line = c.in-Some.line in
    let row = row_of line.key.now line.value.now in
    let rows = c.loop-rest.rows.items in
    let may = fresh_row rows row c.in_ok-insert.field-0 _ c.in-Some.ensures.0 c.in_ok-insert.ensures.added c.if-not-branch.false (c.loop-rest.invariant.known line.key.now) in
    let both = rows_go_on c.args.body.now rows c.push_row.new.rows.items rows row c.loop-rest.rest.now line.rest.now refl c.loop-rest.invariant.form c.loop-rest.invariant.begun may c.in-Some.ensures.1 c.in_ok-push_row.ensures in
    let moved = was_added _ _ c.in_ok-insert.field-0 c.if-not-branch.false c.in_ok-insert.ensures.keys in
    record {
      form = both.0;
      begun = both.1;
      known = λ q.
          keys_more q line.key.now (λ key. pointwise nat_eq q key.now) line.key c.loop-rest.keys.keys c.insert.new.self.keys rows line.value.now refl moved (c.loop-rest.invariant.known q)
          ∙ ap (has_key q) (sym c.in_ok-push_row.ensures);
    }

pub returns-then-not-branch : goal.returns-then-not-branch
returns-then-not-branch c =
    let line = c.in-Some.line in
    let n = c.len-then-not-branch.result in
    let place : n ≡ length c.loop-rest.rows.items = search rules in
    stops_at_repeat c.args.body.now c.loop-rest.rest.now line.rest.now c.loop-rest.rows.items (row_of line.key.now line.value.now) n c.in_ok-insert.field-0 _
    place c.loop-rest.invariant.form c.loop-rest.invariant.begun c.in-Some.ensures.0 c.in-Some.ensures.1 c.in_ok-insert.ensures.added c.if-not-branch.true (c.loop-rest.invariant.known line.key.now)

use Rattle.std.proofs.Common.{◌++◌, arith, inl, inr, length-append, sym, ◌∙◌}
use Rattle.interpreter.proofs.Bytes.{held_stops, is_large, some_bytes}
use Rattle.interpreter.proofs.reader.Reader.hold.Goals as goal
use Rattle.interpreter.proofs.reader.Reader.hold.Goals.{then-self-ge-MOST_LINES-via-then-self-ge-MOST_LINES, then-self-ge-MOST_LINES-via-else-self-ge-MOST_LINES+then-beginning-len}

pub returns-then-self-ge-MOST_LINES-clause-taken : goal.returns-then-self-ge-MOST_LINES-clause-taken
returns-then-self-ge-MOST_LINES-clause-taken c =
    held_stops c.args.self.now.held.items c.args.beginning.now c.args.self.now.text.items c.args.self.now.state c.args.self.now.lines c.requires.reader.2 c.requires.plain
    (some_bytes c.args.beginning.now (sym c.is_empty.ensures ∙ c.if-is_empty.false))
    (is_large c.args.self.now.lines (c.args.self.now.held.items ++ c.args.beginning.now)
    (elim c.then-self-ge-MOST_LINES.branch [
      | then-self-ge-MOST_LINES-via-then-self-ge-MOST_LINES w ↦ inl w.if-self-ge-MOST_LINES.true
      | then-self-ge-MOST_LINES-via-else-self-ge-MOST_LINES+then-beginning-len w ↦ inr (omega (arith, w.len.ensures, length-append c.args.self.now.held.items c.args.beginning.now))
    ]))

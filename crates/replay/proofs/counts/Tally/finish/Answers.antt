use Rattle.std.proofs.Common.{rules, ◌≡◌, List, ℕ, subst, ◌∙◌}
use Rattle.replay.specs.Tallies.{with_line}
use Rattle.replay.proofs.Counting.{AreCounts, text_ends}
use Rattle.replay.proofs.counts.Tally.finish.Goals as goal

pub returns : goal.returns
returns c =
    let fits : AreCounts c.args.self.counts = record { starts = search rules; acks = search rules; accepted = search rules; refused = search rules; calls = search rules } in
    record {
      value = subst (λ (line : List ℕ). c.with_line.result ≡ with_line c.args.self.counts line) c.deref.ensures.value c.with_line.ensures
          ∙ text_ends c.args.self.counts c.args.self.held.items fits c.requires.whole;
    }

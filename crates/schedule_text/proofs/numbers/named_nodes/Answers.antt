use Rattle.std.proofs.Common.{◌≡◌, true, sym, ◌∙◌}
use Rattle.std.specs.Str.{bytes_eq}
use Rattle.schedule_text.proofs.HeaderLemmas.{numbers_behind}
use Rattle.schedule_text.proofs.numbers.named_nodes.Goals as goal

pub returns-then-eq-clause-value : goal.returns-then-eq-clause-value
returns-then-eq-clause-value c =
    let named : bytes_eq c.args.first.now c.args.name.now ≡ true = sym c.eq.ensures ∙ c.if-eq.true in
    rw (named, numbers_behind c.args.most c.args.numbers.now) c.numbered_nodes.ensures.value

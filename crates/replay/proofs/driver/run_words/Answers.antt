use Rattle.std.proofs.Common.{rules, ◌≡◌, None, Some}
use Rattle.replay.specs.declared.making.Making.{Making}
use Rattle.replay.proofs.Summaries.{is_command, known_gen}
use Rattle.replay.proofs.driver.run_words.Goals as goal

pub returns-in-Some-read_making-clause-usage : goal.returns-in-Some-read_making-clause-usage
returns-in-Some-read_making-clause-usage g c = (
  λ is. absurd (is_command _ c.generate.result (c.generate.ensures.made None 0).says is),
  λ none. let some : Some c.in-Some-read_making.making ≡ None = search (rules, none.1) in absurd (cc),
)

pub returns-in-Some-read_making-clause-idle : goal.returns-in-Some-read_making-clause-idle
returns-in-Some-read_making-clause-idle g c = λ is. absurd (is_command _ c.generate.result (c.generate.ensures.made None 0).says is)

pub returns-in-Some-read_making-clause-idle_counts : goal.returns-in-Some-read_making-clause-idle_counts
returns-in-Some-read_making-clause-idle_counts g c = λ is. absurd (is_command _ c.generate.result (c.generate.ensures.made None 0).says is)

pub returns-in-Some-read_making-clause-made : goal.returns-in-Some-read_making-clause-made
returns-in-Some-read_making-clause-made g c = λ (making : Making) is.
    let same : c.in-Some-read_making.making ≡ making = cc (is, c.in-Some-read_making.ensures.value) in
    known_gen c.in-Some-read_making.making making c.new-in-Some-read_making.result _ _ _ _ _ _ _ _ _ c.generate.result same c.new-in-Some-read_making.ensures.value
    (c.generate.ensures.made (g.S.Source.left c.args.source.now) (g.S.Source.faults c.args.source.now))

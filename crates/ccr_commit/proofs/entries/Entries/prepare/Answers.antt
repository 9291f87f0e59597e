use Rattle.std.proofs.Common.{◌≡◌, rules, ap, ◌∙◌, ◌++◌, ◌∷◌, []}
use Rattle.ccr_commit.specs.Entries.{with_next}
use Rattle.ccr_commit.proofs.EntryLemmas.{seen, seen_next}
use Rattle.ccr_commit.proofs.entries.Entries.prepare.Goals as goal

pub returns-clause-after : goal.returns-clause-after
returns-clause-after c =
    let pushed : c.push.new.self.items ≡ c.self.inside.texts.items ++ c.args.text.now ∷ [] = search rules in
    ap (λ texts. seen texts c.len-count.result) pushed
    ∙ seen_next c.self.inside.texts.items c.args.text.now c.self.inside.committed _ c.self.invariant.1 (search rules)
    ∙ ap (λ old. with_next old c.args.text.now) c.self.view_is

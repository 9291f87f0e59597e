use Rattle.std.proofs.Common.{◌≡◌, rules, not, filter, subst, sym}
use Rattle.std.proofs.lemmas.Fn.{filter_same}
use Rattle.std.specs.Str.{bytes_eq}
use Rattle.rg_view.specs.Marks.{MarksGone}
use Rattle.rg_view.proofs.MarkLists.{gone}
use Rattle.rg_view.proofs.marks.Marks.remove_all.Goals as goal

pub returns-clause-value : goal.returns-clause-value
returns-clause-value c = rw (← c.self.view_is) (filter_same _ _ _ (λ x b q called. search rules) _ _ c.retain.ensures.filtered)

pub returns-clause-after : goal.returns-clause-after
returns-clause-after c =
    let kept : c.retain.new.self.keys ≡ filter (λ m. not (bytes_eq c.args.x.now m.name)) c.self.inside.marks.keys = filter_same _ _ _ (λ x b q called. search rules) _ _ c.retain.ensures.filtered in
    rw (← c.self.view_is, kept) (gone c.args.x.now c.self.inside.marks.keys)

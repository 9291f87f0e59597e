use Rattle.std.proofs.Common.{◌≡◌, ◌∙◌, ℕ, List, None, cond}
use Rattle.std.proofs.lemmas.Cmp.{nat_list_eq_equiv}
use Rattle.std.specs.List.{IsDistinct}
use Rattle.std.specs.Map.{keys_of, lookup, remove_entry}
use Rattle.rg_view.proofs.Filters.{remove_entry_filter}
use Rattle.rg_view.proofs.GoalLists.{after}
use Rattle.cl_base.proofs.NameLemmas.{by_bytes}
use Rattle.rg_view.proofs.goals.Goals.remove.Goals as goal

pub invariant_of-self : goal.invariant_of-self
invariant_of-self c = by_bytes (λ eq. IsDistinct eq (keys_of c.shift_remove.new.self.entries)) c.shift_remove.ensures.unique

pub returns-clause-value : goal.returns-clause-value
returns-clause-value c = rw (← c.self.view_is)
    (by_bytes (λ eq. c.shift_remove.new.self.entries ≡ remove_entry (eq c.args.g.now) c.self.inside.goals.entries) c.shift_remove.ensures.entries
    ∙ remove_entry_filter nat_list_eq_equiv c.args.g.now c.self.inside.goals.entries c.self.invariant)

pub returns-clause-after : goal.returns-clause-after
returns-clause-after c = rw (← c.self.view_is)
    (after c.args.g.now None c.self.inside.goals.entries c.shift_remove.new.self.entries
    (by_bytes (λ eq. (other : List ℕ) → lookup (eq other) c.shift_remove.new.self.entries ≡ cond (eq c.args.g.now other) None (lookup (eq other) c.self.inside.goals.entries))
    c.shift_remove.ensures.updates.0))

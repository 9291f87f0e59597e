use Rattle.std.proofs.Common.{◌≡◌, ◌∙◌, ℕ, List, Some, cond}
use Rattle.std.specs.List.{IsDistinct}
use Rattle.std.specs.Map.{keys_of, lookup}
use Rattle.indexmap.specs.IndexMap.{insert_entry}
use Rattle.rg_view.proofs.GoalLists.{put, after}
use Rattle.cl_base.proofs.NameLemmas.{by_bytes}
use Rattle.rg_view.proofs.goals.Goals.set.Goals as goal
use Rattle.rg_view.proofs.goals.Goals.set.Goals.{in-Ok, in-Err}

pub invariant_of-self : goal.invariant_of-self
invariant_of-self c = by_bytes (λ eq. IsDistinct eq (keys_of c.insert.new.self.entries)) c.insert.ensures.unique

pub returns-clause-ok : goal.returns-clause-ok
returns-clause-ok c = elim c.match-insert.branch [
  | in-Ok w ↦ let h = rw w.in-Ok.is at c.insert.ensures.entries in rw (w.result-is, ← c.self.view_is)
      (by_bytes (λ eq. c.insert.new.self.entries ≡ insert_entry eq c.self.inside.goals.entries c.args.g c.args.nodes) h ∙ put c.args.g c.args.nodes c.self.inside.goals.entries)
  | in-Err w ↦ rw w.result-is tt
]

pub returns-clause-after : goal.returns-clause-after
returns-clause-after c = elim c.match-insert.branch [
  | in-Ok w ↦ let h = rw w.in-Ok.is at c.insert.ensures.updates in rw (w.result-is, ← c.self.view_is)
      (after c.args.g (Some c.args.nodes) c.self.inside.goals.entries c.insert.new.self.entries
      (by_bytes (λ eq. (other : List ℕ) → lookup (eq other) c.insert.new.self.entries ≡ cond (eq c.args.g other) (Some c.args.nodes) (lookup (eq other) c.self.inside.goals.entries)) h.0))
  | in-Err w ↦ rw w.result-is tt
]

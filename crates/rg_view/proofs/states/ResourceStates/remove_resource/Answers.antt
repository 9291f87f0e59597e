use Rattle.std.proofs.Common.{◌≡◌, ◌∙◌, rules, not, filter, ap, refl, subst, sym}
use Rattle.std.proofs.lemmas.Map.Made.{filter_same_pairs}
use Rattle.std.specs.Map.{values_of}
use Rattle.std.specs.Str.{bytes_eq}
use Rattle.rg_view.specs.States.{place_of_state}
use Rattle.rg_view.specs.Tables.{IsKeyed}
use Rattle.rg_view.proofs.Tables as tables
use Rattle.rg_view.proofs.states.ResourceStates.remove_resource.Goals as goal

pub invariant_of-self : goal.invariant_of-self
invariant_of-self c =
    let kept : c.retain.new.self.entries ≡ filter (λ e. not (bytes_eq c.args.r.now e.1.resource)) c.self.inside.states.entries =
    filter_same_pairs _ _ _ (λ k v b w q called. search rules) _ _ c.retain.ensures.filtered in
    record {
      keyed = subst (IsKeyed place_of_state) (sym kept) (tables.filter_keyed place_of_state (λ e. not (bytes_eq c.args.r.now e.1.resource)) c.self.inside.states.entries c.self.invariant.keyed);
      apart = c.retain.ensures.unique;
    }

pub returns-clause-value : goal.returns-clause-value
returns-clause-value c =
    let kept : c.retain.new.self.entries ≡ filter (λ e. not (bytes_eq c.args.r.now e.1.resource)) c.self.inside.states.entries =
    filter_same_pairs _ _ _ (λ k v b w q called. search rules) _ _ c.retain.ensures.filtered in
    rw (← c.self.view_is) (ap values_of kept
    ∙ tables.values_filter place_of_state (λ e. not (bytes_eq c.args.r.now e.1.resource)) (λ x. not (bytes_eq c.args.r.now x.resource)) (λ x. refl) c.self.inside.states.entries c.self.invariant.keyed)

pub returns-clause-found : goal.returns-clause-found
returns-clause-found c =
    let kept : c.retain.new.self.entries ≡ filter (λ e. not (bytes_eq c.args.r.now e.1.resource)) c.self.inside.states.entries =
    filter_same_pairs _ _ _ (λ k v b w q called. search rules) _ _ c.retain.ensures.filtered in
    let left = ap values_of kept
    ∙ tables.values_filter place_of_state (λ e. not (bytes_eq c.args.r.now e.1.resource)) (λ x. not (bytes_eq c.args.r.now x.resource)) (λ x. refl) c.self.inside.states.entries c.self.invariant.keyed in
    rw (← c.self.view_is, left) (tables.lost_finds place_of_state c.args.r.now (values_of c.self.inside.states.entries))

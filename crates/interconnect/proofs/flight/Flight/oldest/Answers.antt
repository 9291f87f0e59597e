use Rattle.std.proofs.Common.{◌≡◌, ◌∙◌, ℕ, List, Option, Some, None, ap, sym}
use Rattle.std.specs.Prelude.{slice_get}
use Rattle.std.specs.List.{find}
use Rattle.std.specs.Option.{option_map}
use Rattle.interconnect.specs.Links.{Links, oldest_on}
use Rattle.interconnect.specs.Keys.{is_stored_on}
use Rattle.interconnect.specs.Stored.{Stored, all_stored}
use Rattle.interconnect.proofs.Indexes.{oldest_key, oldest_shown}
use Rattle.interconnect.proofs.Slots.{in_use, found_under, not_found, with_its_key}
use Rattle.interconnect.proofs.flight.Flight.oldest.Goals as goal

pub returns-in_err-key : goal.returns-in_err-key
returns-in_err-key c =
    let held : List Stored = all_stored c.self.inside.packets c.self.inside.numbers.held in
    let none : find (is_stored_on c.args.from c.args.to) held ≡ None =
    not_found (find (is_stored_on c.args.from c.args.to) held) (c.in_err-key.ensures.value
    ∙ ap (λ (l : List ℕ). slice_get l 0) (c.self.invariant.index c.args.from c.args.to c.in_err-key.ensures.nodes) ∙ oldest_key held c.args.from c.args.to) in
    c.from_residual.ensures ∙ ap (λ (o : Option Stored). option_map (λ s. s.number) o) (sym none)
    ∙ sym (oldest_shown c.self.inside.pool held c.args.from c.args.to)
    ∙ ap (λ (l : Links). oldest_on l.packets c.args.from c.args.to) c.self.view_is

pub index-requires : goal.index-requires
index-requires c =
    let held : List Stored = all_stored c.self.inside.packets c.self.inside.numbers.held in
    in_use (is_stored_on c.args.from c.args.to) c.self.inside.packets c.self.inside.numbers.held c.in_ok-key.key c.self.invariant.holding.agrees
    (c.in_ok-key.ensures.value ∙ ap (λ (l : List ℕ). slice_get l 0) (c.self.invariant.index c.args.from c.args.to c.in_ok-key.ensures.nodes)
    ∙ oldest_key held c.args.from c.args.to)

pub returns : goal.returns
returns c =
    let held : List Stored = all_stored c.self.inside.packets c.self.inside.numbers.held in
    let is : find (is_stored_on c.args.from c.args.to) held ≡ Some (with_its_key c.in_ok-key.key c.index.result.now) =
    found_under (is_stored_on c.args.from c.args.to) c.self.inside.packets c.self.inside.numbers.held c.in_ok-key.key c.index.result.now c.self.invariant.holding.agrees
    c.index.ensures
    (c.in_ok-key.ensures.value ∙ ap (λ (l : List ℕ). slice_get l 0) (c.self.invariant.index c.args.from c.args.to c.in_ok-key.ensures.nodes)
    ∙ oldest_key held c.args.from c.args.to) in
    ap (λ (o : Option Stored). option_map (λ s. s.number) o) (sym is)
    ∙ sym (oldest_shown c.self.inside.pool held c.args.from c.args.to)
    ∙ ap (λ (l : Links). oldest_on l.packets c.args.from c.args.to) c.self.view_is

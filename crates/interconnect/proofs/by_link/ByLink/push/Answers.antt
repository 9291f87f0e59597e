use Rattle.std.proofs.Common.{◌≡◌, ◌<◌, ◌≢◌, ◌∙◌, ◌++◌, ◌∷◌, [], List, ℕ, ap, arith, length, get_or, set, map}
use Rattle.interconnect.specs.Keys.{link_of, keys_on}
use Rattle.interconnect.proofs.Tables.{links_apart, own_now, own_before, others_now}
use Rattle.interconnect.proofs.by_link.ByLink.push.Goals as goal

pub returns-clause-own : goal.returns-clause-own
returns-clause-own c =
    let size = c.self.invariant in
    let at = c.place_of_link-place.ensures.value in
    let inside = c.place_of_link-place.ensures.inside in
    let low : link_of c.args.from c.args.to < length c.self.inside.links.items = omega arith in
    let seen : c.index_mut.result.now ≡ get_or c.self.inside.links.items (link_of c.args.from c.args.to) c.index_mut.result.now =
    c.index_mut.ensures.value ∙ ap (λ (k : ℕ). get_or c.self.inside.links.items k c.index_mut.result.now) at in
    ap (λ (k : ℕ). get_or (map (λ v. v.items) (set c.self.inside.links.items k c.push.new.self)) (link_of c.args.from c.args.to) []) at
    ∙ own_now (λ v. v.items) c.self.inside.links.items (link_of c.args.from c.args.to) c.push.new.self low
    ∙ c.push.ensures.items
    ∙ ap (λ (l : List ℕ). l ++ c.args.key ∷ [])
    (own_before (λ v. v.items) c.self.inside.links.items (link_of c.args.from c.args.to) c.index_mut.result.now low seen
    ∙ ap (λ (t : List (List ℕ)). keys_on t c.args.from c.args.to) c.self.view_is)

pub returns-clause-others : goal.returns-clause-others
returns-clause-others c f t nodes other =
    let apart = links_apart f t c.args.from c.args.to nodes c.place_of_link-place.ensures.nodes other in
    let at = c.place_of_link-place.ensures.value in
    let ne : link_of f t ≢ c.place_of_link-place.result = λ (e : link_of f t ≡ c.place_of_link-place.result). apart (e ∙ at) in
    others_now (λ v. v.items) c.self.inside.links.items c.place_of_link-place.result (link_of f t) c.push.new.self ne
    ∙ ap (λ (t' : List (List ℕ)). keys_on t' f t) c.self.view_is

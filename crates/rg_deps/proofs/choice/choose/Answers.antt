use Rattle.std.specs.Global.{Vec}
use Rattle.std.proofs.Common.{rules, ◌≤◌, ◌||◌, not, cond, ◌≡◌, ◌<◌, ◌+◌, ◌-◌, ◌∙◌, ◌==◌, ◌&&◌, ◌++◌, ◌∷◌, [], ℕ, List, Bool, true, false, length, get_or, replicate, set, sym, ap, subst, arith}
use Rattle.rg_deps.specs.declared.graph.Thing.{Thing}
use Rattle.rg_deps.specs.declared.graph.Edge.{Edge}
use Rattle.rg_deps.specs.Choice.{has_rank, is_among, times, left_count, IsAt}
use Rattle.rg_deps.specs.Order.{stands, next, with_next, chosen}
use Rattle.rg_deps.specs.Places.{behind, is_thing_of, is_priority}
use Rattle.rg_deps.proofs.Choices.{started, place_below, moved, at_same, same_set, none_in}
use Rattle.rg_deps.proofs.Next.{first_ready, none_ready}
use Rattle.rg_deps.proofs.Ranks.{same_rank, no_later}
use Rattle.rg_deps.proofs.Steps.{chosen_more, given_back}
use Rattle.rg_deps.proofs.choice.choose.Goals as goal
use Rattle.rg_deps.proofs.choice.choose.Goals.{in-Some+in_ok-push+in_ok-release, in_default}

pub loop-init : goal.loop-init
loop-init c =
    let blank : c.in_ok-standing.standing.items ≡ replicate c.args.count false = search rules in
    record {
      order = c.new-order.ensures.items;
      at = subst (λ (o : List ℕ). IsAt c.args.edges.now c.args.count c.in_ok-priorities.priorities.items o c.in_ok-standing.standing.items c.in_ok-waiting.waiting.items c.in_ok-ready.ready) (sym c.new-order.ensures.items)
          (started c.args.edges.now c.args.count c.in_ok-priorities.priorities.items c.in_ok-priorities.ensures.len c.args.things.now
          c.in_ok-standing.standing.items c.in_ok-waiting.waiting.items c.in_ok-ready.ready blank c.in_ok-waiting.ensures.len c.in_ok-waiting.ensures.counts
          (λ n p. c.in_ok-ready.ensures n p ∙ ap (λ (l : List ℕ). is_thing_of c.args.things.now n p && (get_or l p 0 == 0)) c.deref.ensures.value)
          c.in_ok-priorities.ensures.priorities);
    }

pub index_mut-requires : goal.index_mut-requires
index_mut-requires c =
    let own : has_rank c.loop.ready c.in-Some.field-0-0.0 c.in-Some.place ≡ true = c.in-Some.ensures.member in
    let low = place_below c.args.edges.now c.args.count c.in_ok-priorities.priorities.items c.in_ok-priorities.ensures.len c.loop.order.items c.loop.standing.items c.loop.waiting.items c.loop.ready
    c.loop.invariant.at c.in-Some.field-0-0.0 c.in-Some.place own in
    omega (arith, low, c.loop.invariant.at.size, c.loop.standing.ok)

pub index-requires : goal.index-requires
index-requires c =
    let own : has_rank c.loop.ready c.in-Some.field-0-0.0 c.in-Some.place ≡ true = c.in-Some.ensures.member in
    let low = place_below c.args.edges.now c.args.count c.in_ok-priorities.priorities.items c.in_ok-priorities.ensures.len c.loop.order.items c.loop.standing.items c.loop.waiting.items c.loop.ready
    c.loop.invariant.at c.in-Some.field-0-0.0 c.in-Some.place own in
    omega (arith, low, c.in_ok-behind.ensures.len, c.in_ok-behind.behind.ok)

pub loop-preserved : goal.loop-preserved
loop-preserved c =
    let things : List Thing = c.args.things.now in
    let edges : List Edge = c.args.edges.now in
    let order : List ℕ = c.loop.order.items in
    let is : (n p : ℕ) → has_rank c.loop.ready n p ≡ (is_thing_of things n p && (not (stands order p) && (left_count edges order p == 0))) =
    λ n p. c.loop.invariant.at.ranks n p ∙ ap (λ (b : Bool). b && (not (stands order p) && (left_count edges order p == 0))) (c.in_ok-priorities.ensures.priorities n p) in
    let last : with_next order (next things edges (stands order)) ≡ chosen things edges (c.loop.counter + 1) =
    ap (λ (o : List ℕ). with_next o (next things edges (stands o))) c.loop.invariant.order ∙ sym (chosen_more things edges c.loop.counter) in
    elim c.match-pop_first.branch [
      | in-Some+in_ok-push+in_ok-release w ↦
          let n : ℕ = w.in-Some.field-0-0.0 in
          let q : ℕ = w.in-Some.place in
          let own : has_rank c.loop.ready n q ≡ true = w.in-Some.ensures.member in
          let low : q < c.args.count = place_below edges c.args.count c.in_ok-priorities.priorities.items c.in_ok-priorities.ensures.len order c.loop.standing.items c.loop.waiting.items c.loop.ready
          c.loop.invariant.at n q own in
          let least : (s x : ℕ) → has_rank c.loop.ready s x ≡ true → (s ≤ n) × (s ≡ n → q ≤ x) = λ s x h. no_later s n q x (w.in-Some.ensures.least (record { 0 = s }, x) h) in
          let places : w.deref-in-Some.result.now ≡ behind edges q =
          w.deref-in-Some.ensures.value ∙ ap (λ (v : Vec ℕ). v.items) w.index.ensures ∙ c.in_ok-behind.ensures.behind q w.index.result.now (omega (arith, low, c.in_ok-behind.ensures.len)) in
          let order-is : order ++ q ∷ [] ≡ c.match-pop_first.order.items = sym w.in_ok-push.ensures.items ∙ ap (λ (v : Vec ℕ). v.items) (sym w.order-is) in
          let standing-is : set c.loop.standing.items q true ≡ c.match-pop_first.standing.items = search rules in
          let waiting-is : w.release.new.waiting ≡ c.match-pop_first.waiting.items =
          sym (given_back c.loop.waiting.len c.loop.waiting.items w.release.new.waiting (sym w.deref_mut.ensures.len ∙ ap length w.deref_mut.ensures.value) (w.in_ok-release.ensures.len ∙ ap length w.deref_mut.ensures.value))
          ∙ ap (λ (v : Vec ℕ). v.items) (sym w.waiting-is) in
          let before : w.deref_mut.result.now ≡ c.loop.waiting.items = w.deref_mut.ensures.value in
          record {
            order = sym order-is ∙ first_ready things edges order (has_rank c.loop.ready) is c.requires.ascending n q own least ∙ last;
            at = at_same edges c.args.count c.in_ok-priorities.priorities.items c.in_ok-priorities.ensures.len (order ++ q ∷ []) c.match-pop_first.order.items
                (set c.loop.standing.items q true) c.match-pop_first.standing.items w.release.new.waiting c.match-pop_first.waiting.items w.release.new.ready c.match-pop_first.ready
                order-is standing-is waiting-is (sym w.ready-is)
                (moved edges c.args.count c.in_ok-priorities.priorities.items c.in_ok-priorities.ensures.len order c.loop.standing.items c.loop.waiting.items c.loop.ready
                c.loop.invariant.at n q own c.pop_first.new.self w.release.new.ready w.release.new.waiting
                (λ m p. w.in-Some.ensures.updates.0 (record { 0 = m }, p) ∙ ap (λ (b : Bool). cond b false (has_rank c.loop.ready m p)) (same_rank n q m p))
                (w.in_ok-release.ensures.len ∙ ap length before)
                (λ p. w.in_ok-release.ensures.waiting p ∙ (λ i. get_or (before i) p 0 - times (places i) p))
                (λ m p. w.in_ok-release.ensures.ready m p
                ∙ (λ i. has_rank c.pop_first.new.self m p || (is_among (places i) p && (is_priority (w.deref-in-Some-2.ensures.value i) m p && (get_or w.release.new.waiting p 0 == 0))))));
          }
      | in_default w ↦
          let empty : length c.loop.ready.keys ≡ 0 = search rules in
          let same : c.loop.ready ≡ c.match-pop_first.ready = same_set c.loop.ready c.match-pop_first.ready (search rules) in
          record {
            order = ap (λ (v : Vec ℕ). v.items) w.order-is ∙ none_ready things edges order (has_rank c.loop.ready) is (none_in c.loop.ready empty) ∙ last;
            at = at_same edges c.args.count c.in_ok-priorities.priorities.items c.in_ok-priorities.ensures.len order c.match-pop_first.order.items
                c.loop.standing.items c.match-pop_first.standing.items c.loop.waiting.items c.match-pop_first.waiting.items c.loop.ready c.match-pop_first.ready
                (sym (ap (λ (v : Vec ℕ). v.items) w.order-is)) (sym (ap (λ (v : Vec Bool). v.items) w.standing-is)) (sym (ap (λ (v : Vec ℕ). v.items) w.waiting-is)) same c.loop.invariant.at;
          }
    ]

-- The keys of nodes, as orders come and go.
use Rattle.std.proofs.Common.{◌≡◌, ◌≢◌, ℕ, suc, zero, ◌+◌, ◌-◌, ◌<◌, ◌≤◌, ◌==◌, Bool, true, false, cond, Option, None, Some, is_some, List, [], ◌∷◌, length, map, set, get_or, replicate, IfSome, Bor, refl, sym, ap, subst, ◌∙◌, ◌⊎◌, inl, inr, arith}
use Rattle.std.proofs.lemmas.Bool.{cases_eq, cases_lt, eqb-true, eqb-false}
use Rattle.std.proofs.lemmas.List.{length-set, length-map, length-replicate, set-get_or, get_or-replicate, get_or_past, map-set, get_or-map, get_or-set_same, get_or-set_other}
use Rattle.std.proofs.lemmas.List.Sums.{sum_by-set}
use Rattle.std.proofs.lemmas.Option.{none-some}
use Rattle.std.specs.List.{count_by}
use Rattle.std.specs.Option.{option_and_then, option_copied}
use Rattle.slab.specs.Slab.{Slab, get, slab_len, Updates}
use Rattle.rg_view.specs.declared.orders.Outstanding.{Outstanding}
use Rattle.rg_view.specs.Orders.{OrdersAfter}
use Rattle.rg_view.specs.Kept.{kept, LeadsTo, IsKept}

map_same : {X Y : Type 0} (f g : Option X → Y) (xs : List (Option X)) → ((j : ℕ) → f (get_or xs j None) ≡ g (get_or xs j None)) → map f xs ≡ map g xs
map_same f g [] h = refl
map_same f g (x ∷ xs) h = λ i. h 0 i ∷ map_same f g xs (λ j. h (suc j)) i

abbrev one_where : Option Outstanding → ℕ
one_where x = cond (is_some x) 1 0

-- a key of another node's order is another key
other_key : (orders : Slab Outstanding) (a b m n : ℕ) → LeadsTo orders a m → LeadsTo orders b n → m ≢ n → a ≢ b
other_key orders a b m n la lb ne e =
    let one : Some la.order ≡ Some lb.order = sym la.there ∙ ap (λ (k : ℕ). get orders k) e ∙ lb.there in
    ne (sym la.own ∙ ap (λ (o : Option Outstanding). node_or o) one ∙ lb.own)
  where
    node_or : Option Outstanding → ℕ
    node_or None = 0
    node_or (Some o) = o.node

module _ (old new : Slab Outstanding) (keys : List (Option ℕ)) (i key : ℕ) (slot : Option Outstanding) (held : IsKept old keys) (low : i < 32) (changed : Updates old new key slot) where
  in_range : i < length keys
  in_range = omega (arith, held.nodes, low)

  -- where these keys lead to something other than the key that changed, they lead where they led
  same_there : (ks : List (Option ℕ)) → ((j k : ℕ) → get_or ks j None ≡ Some k → k ≢ key) → kept new ks ≡ kept old ks
  same_there ks apart = map_same (λ k. option_and_then (get new) k) (λ k. option_and_then (get old) k) ks (λ j. at (get_or ks j None) (apart j))
    where
      at : (k : Option ℕ) → ((n : ℕ) → k ≡ Some n → n ≢ key) → option_and_then (get new) k ≡ option_and_then (get old) k
      at None h = refl
      at (Some n) h = changed.others n (h n refl)

  module _ (o : Outstanding) (is : slot ≡ Some o) (free : get old key ≡ None) (own : o.node ≡ i + 1) where
    not_free : (j k : ℕ) → get_or keys j None ≡ Some k → k ≢ key
    not_free j k e q = let l = held.leads j k e in none-some l.order (sym free ∙ ap (λ (n : ℕ). get old n) (sym q) ∙ l.there)

    pub put_kept : kept new (set keys i (Some key)) ≡ set (kept old keys) i (Some o)
    put_kept = map-set (λ k. option_and_then (get new) k) keys i (Some key) ∙ (λ j. set (same_there keys not_free j) i ((changed.changed ∙ is) j))

    pub put_held : slab_len new ≡ slab_len old + 1 → get_or (kept old keys) i None ≡ None → IsKept new (set keys i (Some key))
    put_held len none = record {
      nodes = length-set keys i (Some key) ∙ held.nodes;
      leads = leads;
      counted = len ∙ count ∙ ap (λ (l : List (Option Outstanding)). count_by is_some l) (sym put_kept);
    }
      where
        leads : (j k : ℕ) → get_or (set keys i (Some key)) j None ≡ Some k → LeadsTo new k (j + 1)
        leads j k e = elim (cases_eq j i) [
          | inl at ↦ let one : Some key ≡ Some k = sym (get_or-set_same keys i (Some key) None in_range) ∙ ap (λ (n : ℕ). get_or (set keys i (Some key)) n None) (sym at) ∙ e in
              record { order = o; there = ap (λ (n : Option ℕ). option_and_then (get new) n) (sym one) ∙ changed.changed ∙ is; own = own ∙ ap (λ (n : ℕ). n + 1) (sym at) }
          | inr off ↦ let before : get_or keys j None ≡ Some k = sym (get_or-set_other keys i j (Some key) None off) ∙ e in
              let l = held.leads j k before in
              record { order = l.order; there = changed.others k (not_free j k before) ∙ l.there; own = l.own }
        ]

        count : slab_len old + 1 ≡ count_by is_some (set (kept old keys) i (Some o))
        count =
            let s = sum_by-set one_where (kept old keys) i (Some o) None (omega (arith, in_range, length-map keys (λ k. option_and_then (get old) k))) in
            let n : one_where (get_or (kept old keys) i None) ≡ 0 = ap one_where none in
            omega (arith, s, n, held.counted)

  module _ (is : slot ≡ None) (there : get_or keys i None ≡ Some key) where
    apart : (j k : ℕ) → get_or (set keys i None) j None ≡ Some k → k ≢ key
    apart j k e = elim (cases_eq j i) [
      | inl at ↦ absurd (none-some k (sym (get_or-set_same keys i None None in_range) ∙ ap (λ (n : ℕ). get_or (set keys i None) n None) (sym at) ∙ e))
      | inr off ↦ other_key old k key (j + 1) (i + 1) (held.leads j k (sym (get_or-set_other keys i j None None off) ∙ e)) (held.leads i key there) (λ e. off (omega (arith, e)))
    ]

    pub take_kept : kept new (set keys i None) ≡ set (kept old keys) i None
    take_kept = same_there (set keys i None) apart ∙ map-set (λ k. option_and_then (get old) k) keys i None

    pub take_held : slab_len new + 1 ≡ slab_len old → IsKept new (set keys i None)
    take_held len = record {
      nodes = length-set keys i None ∙ held.nodes;
      leads = leads;
      counted = count ∙ ap (λ (l : List (Option Outstanding)). count_by is_some l) (sym take_kept);
    }
      where
        leads : (j k : ℕ) → get_or (set keys i None) j None ≡ Some k → LeadsTo new k (j + 1)
        leads j k e = elim (cases_eq j i) [
          | inl at ↦ absurd (none-some k (sym (get_or-set_same keys i None None in_range) ∙ ap (λ (n : ℕ). get_or (set keys i None) n None) (sym at) ∙ e))
          | inr off ↦ let l = held.leads j k (sym (get_or-set_other keys i j None None off) ∙ e) in
              record { order = l.order; there = changed.others k (apart j k e) ∙ l.there; own = l.own }
        ]

        count : slab_len new ≡ count_by is_some (set (kept old keys) i None)
        count =
            let s = sum_by-set one_where (kept old keys) i None None (omega (arith, in_range, length-map keys (λ k. option_and_then (get old) k))) in
            let l = held.leads i key there in
            let had : get_or (kept old keys) i None ≡ Some l.order = get_or-map (λ k. option_and_then (get old) k) keys i None None in_range ∙ ap (λ (k : Option ℕ). option_and_then (get old) k) there ∙ l.there in
            let n : one_where (get_or (kept old keys) i None) ≡ 1 = ap one_where had in
            omega (arith, s, n, len, held.counted)

-- the order of a node that has no key, and of one that has
pub without_key : (orders : Slab Outstanding) (keys : List (Option ℕ)) (i : ℕ) → i < length keys → get_or keys i None ≡ None → kept orders keys ≡ set (kept orders keys) i None
without_key orders keys i low none =
    let e : get_or (kept orders keys) i None ≡ None = get_or-map (λ k. option_and_then (get orders) k) keys i None None low ∙ ap (λ (k : Option ℕ). option_and_then (get orders) k) none in
    sym (set-get_or (kept orders keys) i None) ∙ ap (λ (o : Option Outstanding). set (kept orders keys) i o) e

-- what a look-up of a node's key gives is an order of the node
pub own_of : (orders : Slab Outstanding) (key node : ℕ) → LeadsTo orders key node → (r : Option Outstanding) → r ≡ get orders key → IfSome r (λ o. o.node ≡ node)
own_of orders key node l None e = tt
own_of orders key node l (Some o) e = ap (λ (x : Option Outstanding). node_or x) (e ∙ l.there) ∙ l.own
  where
    node_or : Option Outstanding → ℕ
    node_or None = 0
    node_or (Some x) = x.node

pub own_shown : (orders : Slab Outstanding) (key node : ℕ) → LeadsTo orders key node → (r : Option (Bor Outstanding)) → option_copied r ≡ get orders key → IfSome r (λ o. o.now.node ≡ node)
own_shown orders key node l None e = tt
own_shown orders key node l (Some o) e = own_of orders key node l (Some o.now) e

-- no keys lead anywhere
pub none_held : (orders : Slab Outstanding) → orders.slots ≡ [] → IsKept orders (replicate 32 None)
none_held orders e = record {
  nodes = refl;
  leads = λ j k at. absurd (none-some k (sym (none 32 j) ∙ at));
  counted = ap (λ (l : List (Option Outstanding)). count_by is_some l) e;
}
  where
    no_key : Option ℕ
    no_key = None

    none : (n j : ℕ) → get_or (replicate n no_key) j no_key ≡ no_key
    none n j = elim (cases_lt j n) [
      | inl low ↦ get_or-replicate n j no_key no_key low
      | inr high ↦ get_or_past (replicate n no_key) j no_key (omega (arith, high, length-replicate n no_key))
    ]

pub more_room : (old new : Slab Outstanding) (keys : List (Option ℕ)) → new ≡ record old { capacity = new.capacity } → IsKept old keys → IsKept new keys
more_room old new keys e h = subst (λ (s : Slab Outstanding). IsKept s keys) (sym e) (record {
  nodes = h.nodes;
  leads = λ j k at. let l = h.leads j k at in record { order = l.order; there = l.there; own = l.own };
  counted = h.counted;
})

-- what each node has after one has another
pub after_set : (orders : List (Option Outstanding)) (n : ℕ) (found : Option Outstanding) → 1 ≤ n → n ≤ length orders → OrdersAfter orders n found (set orders (n - 1) found)
after_set orders n found low high m at = by (n == m) refl
  where
    by : (b : Bool) → (n == m) ≡ b → get_or (set orders (n - 1) found) (m - 1) None ≡ cond (n == m) found (get_or orders (m - 1) None)
    by true e = let one : n ≡ m = eqb-true n m e in
        rw (e, ← one) (get_or-set_same orders (n - 1) found None (omega (arith, low, high)))
    by false e = let two : n ≢ m = eqb-false n m e in
        rw e (get_or-set_other orders (n - 1) (m - 1) found None (λ same. two (omega (arith, same, low, at))))

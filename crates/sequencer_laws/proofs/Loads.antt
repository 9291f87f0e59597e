-- The load over a map is at most the load under the view.
use Rattle.std.proofs.Common.{◌≡◌, ℕ, ◌≤◌, ◌<◌, ◌==◌, nat_lt, ◌⊎◌, inl, inr, Bool, true, false, cond, not, ◌&&◌, List, [], ◌∷◌, ◌++◌, refl, sym, ap, ◌∙◌, arith}
use Rattle.std.specs.List.{Contains, flat_map, sum_by}
use Rattle.std.specs.Str.{bytes_eq}
use Rattle.std.proofs.lemmas.Bool.{and_cases, eq-eqb, false_from_ne_true, lt-ltb, ltb-false}
use Rattle.std.proofs.lemmas.List.Folds.{list_any_at}
use Rattle.std.proofs.lemmas.List.Sums.{sum_by-append}
use Rattle.cl_base.specs.Sets.{has}
use Rattle.load_limits.specs.declared.limits.Factor.{Factor}
use Rattle.load_limits.specs.declared.limits.Limit.{Limit}
use Rattle.load_limits.specs.Loads.{brings_over, is_over, load, load_with, share}
use Rattle.rg_props.specs.declared.group.Group.{Group}
use Rattle.rg_props.specs.Table.{GroupTable}
use Rattle.rg_view.specs.declared.view.GroupView.{GroupView}
use Rattle.rt_types.specs.Fields.{TypeFields}
use Rattle.sequencer.specs.Loads.{is_too_much, others_load}
use Rattle.sequencer.specs.Loads as seen
use Rattle.sequencer.specs.Standing.{is_group_up}
use Rattle.sequencer_laws.specs.AllowedCall.{brings, brought}
use Rattle.sequencer_laws.specs.Flags.{FlagMap}
use Rattle.sequencer_laws.specs.Laws.{situation}
use Rattle.sequencer_laws.specs.Situations.{Situation, has_up}
use Rattle.sequencer_laws.specs.Views.{MayStandFor}
use Rattle.sequencer_laws.proofs.Maps.{group_up}

-- where each item brings no more, all bring no more
sums_less : {X : Type 0} (weight : Factor → ℕ) (f g : X → List Factor) (xs : List X) → ((x : X) → sum_by weight (f x) ≤ sum_by weight (g x))
    → sum_by weight (flat_map f xs) ≤ sum_by weight (flat_map g xs)
sums_less weight f g [] less = omega arith
sums_less weight f g (x ∷ xs) less =
    omega (arith, less x, sums_less weight f g xs less, sum_by-append weight (f x) (flat_map f xs), sum_by-append weight (g x) (flat_map g xs))

-- a limit that the group does not pass with more than is there
within : (l : Limit) (own many few : List Factor) → brings_over many own l.name l.hard ≡ false → 0 < load l.name own → sum_by (share l.name) few ≤ sum_by (share l.name) many
    → load l.name (own ++ few) ≤ l.hard
unfolding load
within l own many few h some less = by (and_cases (nat_lt 0 (load l.name own)) (nat_lt l.hard (load_with l.name many own)) h)
  where
    by : (nat_lt 0 (load l.name own) ≡ false) ⊎ (nat_lt l.hard (load_with l.name many own) ≡ false) → load l.name (own ++ few) ≤ l.hard
    by (inl none) = absurd (let bad : true ≡ false = sym (lt-ltb 0 (load l.name own) some) ∙ none in cc)
    by (inr le) = omega (arith, ltb-false l.hard (load_with l.name many own) le, sum_by-append (share l.name) own few)

module _ (t : GroupTable) (types : List (List ℕ × TypeFields)) (limits : List Limit) (v : GroupView) (map : FlagMap) (stands : MayStandFor t types v map) where
  abbrev s : Situation
  s = situation t types limits v map

  brings_less : (weight : Factor → ℕ) (group : List ℕ) (n : ℕ) → has v.members n ≡ true → (e : List ℕ × Group) → sum_by weight (brings s group n e) ≤ sum_by weight (seen.brought t v group n e)
  brings_less weight group n member e = by (bytes_eq e.0 group) (has_up s e.0 n) (is_group_up t v e.0 n) (group_up t types limits v map stands e.0 n member)
    where
      by : (own up counted : Bool) → (up ≡ true → counted ≡ true) → sum_by weight (cond (not own && up) e.1.factors []) ≤ sum_by weight (cond (not own && counted) e.1.factors [])
      by true up counted same = omega arith
      by false true true same = omega arith
      by false true false same = absurd (let bad : false ≡ true = same refl in cc)
      by false false true same = omega arith
      by false false false same = omega arith

  pub stays_within : (group : List ℕ) (factors : List Factor) (n : ℕ) → has v.members n ≡ true → is_too_much t limits v group factors n ≡ false
      → (l : Limit) → Contains limits l → l.node ≡ n → 0 < load l.name factors → load l.name (factors ++ brought s group n) ≤ l.hard
  unfolding is_too_much others_load
  stays_within group factors n member h l among at some =
      within l factors (others_load t v group n) (brought s group n) not_over some
      (sums_less (share l.name) (brings s group n) (seen.brought t v group n) t.groups (brings_less (share l.name) group n member))
    where
      here : (l.node == n) ≡ true
      here = eq-eqb l.node n at

      over : is_over n (others_load t v group n) factors l ≡ false
      over = false_from_ne_true (is_over n (others_load t v group n) factors l) (λ is.
          let bad : true ≡ false = sym (list_any_at (is_over n (others_load t v group n) factors) limits among.0 l among.1 (ap (is_over n (others_load t v group n) factors) among.2 ∙ is)) ∙ h in absurd cc)

      not_over : brings_over (others_load t v group n) factors l.name l.hard ≡ false
      not_over = by (and_cases (l.node == n) (brings_over (others_load t v group n) factors l.name l.hard) over)
        where
          by : ((l.node == n) ≡ false) ⊎ (brings_over (others_load t v group n) factors l.name l.hard ≡ false) → brings_over (others_load t v group n) factors l.name l.hard ≡ false
          by (inl other) = absurd (let bad : true ≡ false = sym here ∙ other in cc)
          by (inr is) = is

-- The newest of the Promises is one of them, and none is newer.
use Rattle.std.proofs.Common.{◌≡◌, ◌<◌, ◌⊎◌, inl, inr, List, [], ◌∷◌, refl, sym, subst, ◌∙◌, arith}
use Rattle.std.specs.Prelude.{All, Contains, ◌==◌, ◌&&◌, ◌||◌, nat_lt, Some, Bool, true, false, cond, fold}
use Rattle.std.proofs.lemmas.List.Elements.{All-nil, All-cons, Contains-append_right, Contains-get_or}
use Rattle.ccr_commit.specs.declared.summary.Summary.{Summary}
use Rattle.ccr_commit.specs.Newest.{IsNewer}
use Rattle.cmm_attempt.specs.declared.promised.Shown.{Shown}
use Rattle.cmm_attempt.specs.declared.promised.Promised.{Promised}
use Rattle.cmm_attempt.specs.Promises.{is_newer, newer_of, newest_shown}
use Rattle.cmm_attempt.proofs.Basics.{none_some, same_some, or_cases, and_cases, either_of, same_number, less}
use Rattle.cmm_attempt.proofs.NewestLemmas.{IsNotBehind, summary_of}

-- What the fold leaves is shown by one of the Promises, and no other is newer.

pub record LeadsFrom (best : Shown) (ps : List Promised) (r : Shown) : Type 0 where
  pub shown : (r ≡ best) ⊎ ((p : Promised) × Contains ps p × (p.shown ≡ r))
  pub first : IsNotBehind r.summary best.summary
  pub others : All (λ p. IsNotBehind r.summary (summary_of p)) ps

itself : (a : Summary) → IsNotBehind a a
itself a = inr (refl, refl, refl, refl)

not_behind_trans : (a b c : Summary) → IsNotBehind a b → IsNotBehind b c → IsNotBehind a c
not_behind_trans a b c h k = grind arith

by_epoch : (a b : Summary) → b.installed < a.installed → IsNewer a b
by_epoch a b h = grind arith

by_all : (a b : Summary) → b.installed ≡ a.installed → b.all < a.all → IsNewer a b
by_all a b e h = grind arith

by_committed : (a b : Summary) → b.installed ≡ a.installed → b.all ≡ a.all → b.committed < a.committed → IsNewer a b
by_committed a b e f h = grind arith

by_node : (a b : Summary) → b.installed ≡ a.installed → b.all ≡ a.all → b.committed ≡ a.committed → a.node < b.node → IsNewer a b
by_node a b e f g h = grind arith

newer_last : (a b : Summary) → b.installed ≡ a.installed → b.all ≡ a.all → (nat_lt b.committed a.committed || ((b.committed == a.committed) && nat_lt a.node b.node)) ≡ true → IsNewer a b
newer_last a b e f h =
    either_of (or_cases (nat_lt b.committed a.committed) ((b.committed == a.committed) && nat_lt a.node b.node) h)
    (λ k. by_committed a b e f (less b.committed a.committed k))
    (λ k. let two : ((b.committed == a.committed) ≡ true) × (nat_lt a.node b.node ≡ true) = and_cases (b.committed == a.committed) (nat_lt a.node b.node) k in
    by_node a b e f (same_number b.committed a.committed two.0) (less a.node b.node two.1))

newer_mid : (a b : Summary) → b.installed ≡ a.installed
    → (nat_lt b.all a.all || ((b.all == a.all) && (nat_lt b.committed a.committed || ((b.committed == a.committed) && nat_lt a.node b.node)))) ≡ true → IsNewer a b
newer_mid a b e h =
    let last : Bool = nat_lt b.committed a.committed || ((b.committed == a.committed) && nat_lt a.node b.node) in
    either_of (or_cases (nat_lt b.all a.all) ((b.all == a.all) && last) h)
    (λ k. by_all a b e (less b.all a.all k))
    (λ k. let two : ((b.all == a.all) ≡ true) × (last ≡ true) = and_cases (b.all == a.all) last k in newer_last a b e (same_number b.all a.all two.0) two.1)

true_newer : (a b : Summary) → is_newer a b ≡ true → IsNewer a b
true_newer a b h =
    let mid : Bool = nat_lt b.all a.all || ((b.all == a.all) && (nat_lt b.committed a.committed || ((b.committed == a.committed) && nat_lt a.node b.node))) in
    either_of (or_cases (nat_lt b.installed a.installed) ((b.installed == a.installed) && mid) h)
    (λ k. by_epoch a b (less b.installed a.installed k))
    (λ k. let two : ((b.installed == a.installed) ≡ true) × (mid ≡ true) = and_cases (b.installed == a.installed) mid k in newer_mid a b (same_number b.installed a.installed two.0) two.1)

false_not_behind : (a b : Summary) → is_newer a b ≡ false → IsNotBehind b a
false_not_behind a b h = grind arith

newer_than_best : (best : Shown) (p : Promised) (b : Bool) → is_newer p.shown.summary best.summary ≡ b
    → IsNotBehind (cond b p.shown best).summary best.summary × IsNotBehind (cond b p.shown best).summary p.shown.summary
newer_than_best best p true e = (inl (true_newer p.shown.summary best.summary e), itself p.shown.summary)
newer_than_best best p false e = (itself best.summary, false_not_behind p.shown.summary best.summary e)

is_one_of : (best : Shown) (p : Promised) (b : Bool) → (cond b p.shown best ≡ best) ⊎ (p.shown ≡ cond b p.shown best)
is_one_of best p true = inr refl
is_one_of best p false = inl refl

Contains-later : (p : Promised) (ps : List Promised) (q : Promised) → Contains ps q → Contains (p ∷ ps) q
Contains-later p ps q h = Contains-append_right (p ∷ []) ps q h

Contains-here : (p : Promised) (ps : List Promised) → Contains (p ∷ ps) p
Contains-here p ps = Contains-get_or (p ∷ ps) 0 p (omega arith)

shown_by_one : (best : Shown) (p : Promised) (ps : List Promised) (r : Shown) → r ≡ newer_of best p → (newer_of best p ≡ best) ⊎ (p.shown ≡ newer_of best p)
    → (r ≡ best) ⊎ ((q : Promised) × Contains (p ∷ ps) q × (q.shown ≡ r))
shown_by_one best p ps r h (inl k) = inl (h ∙ k)
shown_by_one best p ps r h (inr k) = inr (p, Contains-here p ps, k ∙ sym h)

shown_from : (best : Shown) (p : Promised) (ps : List Promised) (r : Shown) → (r ≡ newer_of best p) ⊎ ((q : Promised) × Contains ps q × (q.shown ≡ r))
    → (r ≡ best) ⊎ ((q : Promised) × Contains (p ∷ ps) q × (q.shown ≡ r))
shown_from best p ps r (inr h) = inr (h.0, Contains-later p ps h.0 h.1, h.2)
shown_from best p ps r (inl h) = shown_by_one best p ps r h (is_one_of best p (is_newer p.shown.summary best.summary))

leads : (best : Shown) (ps : List Promised) → LeadsFrom best ps (fold newer_of best ps)
leads best [] = record { shown = inl refl; first = itself best.summary; others = All-nil (λ p. IsNotBehind best.summary (summary_of p)) }
leads best (p ∷ ps) =
    let next : Shown = newer_of best p in
    let r : Shown = fold newer_of next ps in
    let rest : LeadsFrom next ps r = leads next ps in
    let two : IsNotBehind next.summary best.summary × IsNotBehind next.summary p.shown.summary = newer_than_best best p (is_newer p.shown.summary best.summary) refl in
    record {
      shown = shown_from best p ps r rest.shown;
      first = not_behind_trans r.summary next.summary best.summary rest.first two.0;
      others = All-cons (λ q. IsNotBehind r.summary (summary_of q)) p ps (not_behind_trans r.summary next.summary p.shown.summary rest.first two.1) rest.others;
    }

taken_one : (p : Promised) (ps : List Promised) (r : Shown) → (r ≡ p.shown) ⊎ ((q : Promised) × Contains ps q × (q.shown ≡ r))
    → (q : Promised) × Contains (p ∷ ps) q × (q.shown ≡ r)
taken_one p ps r (inl h) = (p, Contains-here p ps, sym h)
taken_one p ps r (inr h) = (h.0, Contains-later p ps h.0 h.1, h.2)

pub newest_is_taken : (ps : List Promised) (newest : Shown) → newest_shown ps ≡ Some newest
    → ((p : Promised) × Contains ps p × (p.shown ≡ newest)) × All (λ p. IsNotBehind newest.summary (summary_of p)) ps
newest_is_taken [] newest h = absurd (none_some newest h)
newest_is_taken (p ∷ ps) newest h =
    let r : Shown = fold newer_of p.shown ps in
    let e : r ≡ newest = same_some r newest h in
    let l : LeadsFrom p.shown ps r = leads p.shown ps in
    let one : (q : Promised) × Contains (p ∷ ps) q × (q.shown ≡ r) = taken_one p ps r l.shown in
    let all : All (λ q. IsNotBehind r.summary (summary_of q)) (p ∷ ps) = All-cons (λ q. IsNotBehind r.summary (summary_of q)) p ps l.first l.others in
    subst (λ x. ((q : Promised) × Contains (p ∷ ps) q × (q.shown ≡ x)) × All (λ q. IsNotBehind x.summary (summary_of q)) (p ∷ ps)) e (one, all)

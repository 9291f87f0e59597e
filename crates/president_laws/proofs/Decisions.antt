-- A decision, member by member.
use Rattle.std.proofs.Common.{◌≡◌, ℕ, ◌+◌, zero, suc, ◌<◌, ◌≤◌, Bool, true, false, cond, List, [], ◌∷◌, ◌++◌, Option, None, Some, fold, length, length-append, refl, sym, ap, subst, ◌∙◌, append_assoc, append-nil, arith}
use Rattle.std.proofs.lemmas.List.Elements.{All-nil, All-cons}
use Rattle.std.proofs.lemmas.Option.{none-some}
use Rattle.std.specs.List.{All}
use Rattle.cl_base.specs.Limits.{most_nodes}
use Rattle.cl_base.specs.Numbers.{numbers_to}
use Rattle.cl_base.specs.Sets.{has}
use Rattle.cl_base.specs.declared.method.Method.{Method}
use Rattle.rg_view.specs.declared.orders.Outstanding.{Outstanding}
use Rattle.rg_view.specs.Orders.{order_of}
use Rattle.ccr_tables.specs.State.{ConfigState}
use Rattle.wire.specs.declared.message.Order.{Order}
use Rattle.rgm_president.specs.Decisions.{Turn, call_on, decision, goals_set, members_of, ordered, ordered_unless, outlook_over, turns_unless, with_goals_of, with_turn, with_turns}
use Rattle.rgm_president.specs.Goals.{with_decided, with_ended, with_goals, with_listed}
use Rattle.rgm_president.specs.Sequence.{sequence}
use Rattle.rgm_president.specs.State.{PresidentState, next_order, with_order}
use Rattle.president_laws.specs.Laws.{HasNoCall, MayAllBeGiven, MayBeGiven, OrdersAreAllowed, QuietMembersHaveNoCall}
use Rattle.president_laws.proofs.Allowed.{IsFound, first_is_allowed}

module _ (c : ConfigState) where
  abbrev turn : Turn → ℕ → Turn
  turn = with_turn c (sequence c.groups)

  -- from these members on, behind the last one: ascending, and each is a member
  abbrev Follow : ℕ → ℕ → List ℕ → Type 0
  Follow members last [] = Unit {0}
  Follow members last (n ∷ ns) = (last < n) × (has members n ≡ true) × Follow members n ns

  -- the orders that come
  record Goes (last : ℕ) (t new : Turn) : Type 0 where
    orders : List (ℕ × Order)
    more : new.orders ≡ t.orders ++ orders
    given : MayAllBeGiven c last t.president orders new.president

  -- a node further back
  earlier : (a b : ℕ) (p q : PresidentState) (es : List (ℕ × Order)) → a < b → MayAllBeGiven c b p es q → MayAllBeGiven c a p es q
  earlier a b p q [] lt h = h
  earlier a b p q (e ∷ es) lt h = (omega (arith, lt, h.0), h.1, h.2)

  skipped : (last n : ℕ) (t new : Turn) → last < n → Goes n t new → Goes last t new
  skipped last n t new lt h = record { orders = h.orders; more = h.more; given = earlier last n _ _ h.orders lt h.given }

  abbrev told : Turn → ℕ → List ℕ × Method → ℕ × Order
  told t n call = (n, next_order t.president call.0 (Some call.1))

  taken : (last n : ℕ) (t new : Turn) (call : List ℕ × Method) → last < n → has t.president.view.members n ≡ true → order_of t.president.view.outstanding n ≡ None
      → IsFound c.groups c.types c.limits t.president.view (outlook_over c (sequence c.groups) t.president.view) n (Some call)
      → Goes n (ordered n t (Some call)) new → Goes last t new
  taken last n t new call lt member free found h = record {
    orders = told t n call ∷ h.orders;
    more = h.more ∙ append_assoc t.orders (told t n call ∷ []) h.orders;
    given = (lt, record { epoch = refl; number = refl; member = member; free = free; allowed = found }, h.given);
  }

  goes : (ns : List ℕ) (last : ℕ) (t : Turn) → Follow t.president.view.members last ns → Goes last t (fold turn t ns)
  unfolding with_turn
  goes [] last t f = record { orders = []; more = sym (append-nil t.orders); given = refl }
  goes (n ∷ ns) last t f = by (λ u g. goes ns n u g) (order_of t.president.view.outstanding n) refl
    where
      step : ((u : Turn) → Follow u.president.view.members n ns → Goes n u (fold turn u ns)) → (call : Option (List ℕ × Method)) → order_of t.president.view.outstanding n ≡ None
          → IsFound c.groups c.types c.limits t.president.view (outlook_over c (sequence c.groups) t.president.view) n call
          → Goes last t (fold turn (ordered n t call) ns)
      step rest None free found = skipped last n t _ f.0 (rest t f.2)
      step rest (Some call) free found = taken last n t _ call f.0 f.1 free found (rest (ordered n t (Some call)) f.2)

      by : ((u : Turn) → Follow u.president.view.members n ns → Goes n u (fold turn u ns)) → (o : Option Outstanding) → order_of t.president.view.outstanding n ≡ o
          → Goes last t (fold turn (ordered_unless c (sequence c.groups) n t o) ns)
      by rest (Some o) is = skipped last n t _ f.0 (rest t f.2)
      by rest None is =
          step rest (call_on c (sequence c.groups) t.president.view n) is
          (first_is_allowed c.groups c.types c.limits t.president.view (outlook_over c (sequence c.groups) t.president.view) n (sequence c.groups))

  -- where none comes, nothing is changed, and no member without an order had a call
  none_more : (last : ℕ) (t new : Turn) → Goes last t new → new.orders ≡ [] → new.president ≡ t.president
  none_more last t new h none = only h.orders (is_empty t.orders h.orders (sym h.more ∙ none)) h.given
    where
      is_empty : (xs ys : List (ℕ × Order)) → xs ++ ys ≡ [] → ys ≡ []
      is_empty [] ys e = e
      is_empty (x ∷ xs) ys e = cc e

      only : (es : List (ℕ × Order)) → es ≡ [] → MayAllBeGiven c last t.president es new.president → new.president ≡ t.president
      only [] e g = g
      only (x ∷ xs) e g = cc e

  quiet_over : (ns : List ℕ) (last : ℕ) (t : Turn) → Follow t.president.view.members last ns → (fold turn t ns).orders ≡ [] → All (HasNoCall c t.president) ns
  unfolding with_turn
  quiet_over [] last t f none = All-nil (HasNoCall c t.president)
  quiet_over (n ∷ ns) last t f none = by (λ u g e. quiet_over ns n u g e) (order_of t.president.view.outstanding n) refl none
    where
      told_more : (xs : List (ℕ × Order)) (x : ℕ × Order) (ys : List (ℕ × Order)) → (xs ++ x ∷ []) ++ ys ≡ [] → ⊥
      told_more [] x ys e = cc e
      told_more (y ∷ xs) x ys e = cc e

      step : ((u : Turn) → Follow u.president.view.members n ns → (fold turn u ns).orders ≡ [] → All (HasNoCall c u.president) ns) → (call : Option (List ℕ × Method))
          → call_on c (sequence c.groups) t.president.view n ≡ call → (fold turn (ordered n t call) ns).orders ≡ [] → All (HasNoCall c t.president) (n ∷ ns)
      step rest None is e = All-cons (HasNoCall c t.president) n ns (λ free. is) (rest t f.2 e)
      step rest (Some call) is e = absurd (told_more t.orders (told t n call) _ (sym (goes ns n (ordered n t (Some call)) f.2).more ∙ e))

      by : ((u : Turn) → Follow u.president.view.members n ns → (fold turn u ns).orders ≡ [] → All (HasNoCall c u.president) ns) → (o : Option Outstanding)
          → order_of t.president.view.outstanding n ≡ o → (fold turn (ordered_unless c (sequence c.groups) n t o) ns).orders ≡ [] → All (HasNoCall c t.president) (n ∷ ns)
      by rest (Some o) is e = All-cons (HasNoCall c t.president) n ns (λ free. absurd (none-some o (sym free ∙ is))) (rest t f.2 e)
      by rest None is e = step rest (call_on c (sequence c.groups) t.president.view n) refl e

-- The members, in ascending order.
abbrev Up : ℕ → ℕ → ℕ → List ℕ → Type 0
Up members k last [] = last ≤ k
Up members k last (n ∷ ns) = (last < n) × (has members n ≡ true) × Up members k n ns

raised : (members k last : ℕ) (ns : List ℕ) → Up members k last ns → Up members (suc k) last ns
raised members k last [] h = omega (arith, h)
raised members k last (n ∷ ns) h = (h.0, h.1, raised members k n ns h.2)

with_last : (members k last : ℕ) (ns : List ℕ) → has members (suc k) ≡ true → Up members k last ns → Up members (suc k) last (ns ++ suc k ∷ [])
with_last members k last [] is h = (omega (arith, h), is, omega arith)
with_last members k last (n ∷ ns) is h = (h.0, h.1, with_last members k n ns is h.2)

ascend : (members k : ℕ) → Up members k 0 (numbers_to members k)
ascend members zero = omega arith
ascend members (suc k) = by (has members (suc k)) refl (ascend members k)
  where
    by : (b : Bool) → has members (suc k) ≡ b → Up members k 0 (numbers_to members k) → Up members (suc k) 0 (cond b (numbers_to members k ++ suc k ∷ []) (numbers_to members k))
    by true is h = with_last members k 0 _ is h
    by false is h = raised members k 0 _ h

follow : (c : ConfigState) (members k last : ℕ) (ns : List ℕ) → Up members k last ns → Follow c members last ns
follow c members k last [] h = tt
follow c members k last (n ∷ ns) h = (h.0, h.1, follow c members k n ns h.2)

follow_members : (c : ConfigState) (members : ℕ) → Follow c members 0 (numbers_to members most_nodes)
follow_members c members = follow c members most_nodes 0 _ (ascend members most_nodes)

pub orders_are_allowed : OrdersAreAllowed
unfolding turns_unless with_turns members_of goals_set with_goals with_ended with_decided with_listed
orders_are_allowed c now p =
    let h : Goes c 0 (record { president = with_goals_of c now p; orders = [] }) (decision c now false p) =
    goes c (numbers_to p.view.members most_nodes) 0 (record { president = with_goals_of c now p; orders = [] }) (follow_members c p.view.members) in
    subst (λ (es : List (ℕ × Order)). MayAllBeGiven c 0 (with_goals_of c now p) es (decision c now false p).president) (sym h.more) h.given

pub quiet : QuietMembersHaveNoCall
unfolding turns_unless with_turns members_of goals_set with_goals with_ended with_decided with_listed
quiet c now p none =
    let h : Goes c 0 (record { president = with_goals_of c now p; orders = [] }) (decision c now false p) =
    goes c (numbers_to p.view.members most_nodes) 0 (record { president = with_goals_of c now p; orders = [] }) (follow_members c p.view.members) in
    let same : (decision c now false p).president ≡ with_goals_of c now p = none_more c 0 (record { president = with_goals_of c now p; orders = [] }) (decision c now false p) h none in
    subst (λ (q : PresidentState). All (HasNoCall c q) (numbers_to p.view.members most_nodes)) (sym same)
    (quiet_over c (numbers_to p.view.members most_nodes) 0 (record { president = with_goals_of c now p; orders = [] }) (follow_members c p.view.members) none)

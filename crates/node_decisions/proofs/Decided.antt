-- What a node does that decides is what its plan says.
use Rattle.std.proofs.Common.{◌≡◌, ℕ, Bool, true, false, List, [], ◌++◌, Option, Some, None, Result, Ok, Err, OnOk, ap, append-nil, refl, subst, sym, ◌∙◌}
use Rattle.std.specs.Prelude.{if◌then◌else◌}
use Rattle.ccr_commit.specs.Entries.{EntryList}
use Rattle.cl_base.specs.declared.header.Header.{Header}
use Rattle.config_cache.specs.InForce.{config_under}
use Rattle.rgm_president.specs.Decisions.{Turn, decision}
use Rattle.rgm_president.specs.State.{PresidentState}
use Rattle.wire.specs.declared.message.Order.{Order}
use Rattle.node_model.specs.declared.cluster.Cluster.{Cluster}
use Rattle.node_model.specs.declared.node.UpNode.{UpNode}
use Rattle.node_model.specs.declared.output.Output.{Output}
use Rattle.node_model.specs.declared.presidency.Presidency.{Presidency}
use Rattle.node_model.specs.Deciding.{all_sent, decided, deciding, deciding_by, is_held_up, may_order, orders_sent, with_turn}
use Rattle.node_model.specs.Plans.{Gives}
use Rattle.node_model.specs.Plans.Plan.{Stays}
use Rattle.node_model.specs.Seats.{state_of}
use Rattle.node_decisions.specs.Turns.{messages_after, presidency_after, turn_under}

module _ (me : ℕ) (now : ℕ) (p : Presidency) where
  after_is : (h : Header) (texts : List (List ℕ)) → may_order p.groups ≡ true → presidency_after me h texts now p ≡ with_turn me p (turn_under h texts now p)
  unfolding presidency_after
  after_is h texts may = ap (λ (b : Bool). if b then with_turn me p (turn_under h texts now p) else p) may

  messages_are : (h : Header) (texts : List (List ℕ)) → may_order p.groups ≡ true → messages_after me h texts now p ≡ orders_sent me (turn_under h texts now p).orders
  unfolding messages_after
  messages_are h texts may = ap (λ (b : Bool). if b then orders_sent me (turn_under h texts now p).orders else []) may

  -- no number is left
  pub none_after : (h : Header) (texts : List (List ℕ)) → may_order p.groups ≡ false → p ≡ presidency_after me h texts now p
  unfolding presidency_after
  none_after h texts none = ap (λ (b : Bool). if b then with_turn me p (turn_under h texts now p) else p) (sym none)

  pub none_told : (h : Header) (texts : List (List ℕ)) (given : List Output) → may_order p.groups ≡ false → given ≡ given ++ messages_after me h texts now p
  unfolding messages_after
  none_told h texts given none =
      sym (append-nil given) ∙ ap (λ (b : Bool). given ++ (if b then orders_sent me (turn_under h texts now p).orders else [])) (sym none)

  same_turn : (h k : Header) (e f : EntryList) (held : Bool) → h ≡ k → e ≡ f → held ≡ is_held_up p
      → decision (config_under h e.committed) now held p.groups ≡ turn_under k f.committed now p
  same_turn h k e f held header entries is =
      ap (λ (x : Header). decision (config_under x e.committed) now held p.groups) header
      ∙ ap (λ (x : EntryList). decision (config_under k x.committed) now held p.groups) entries
      ∙ ap (λ (x : Bool). decision (config_under k f.committed) now x p.groups) is

  -- what a president with a number left keeps, and what it tells
  pub turn_left : {T E : Type 0} (r : Result T E) (h k : Header) (e f : EntryList) (held : Bool) (g : PresidentState) (sent : List (Option ℕ)) (orders : List (ℕ × Order))
      → may_order p.groups ≡ true → h ≡ k → e ≡ f → held ≡ is_held_up p
      → orders ≡ (decision (config_under h e.committed) now held p.groups).orders
      → g ≡ (decision (config_under h e.committed) now held p.groups).president
      → OnOk r (sent ≡ all_sent me p.sent orders)
      → OnOk r (record p { groups = g; sent = sent } ≡ presidency_after me k f.committed now p)
  turn_left (Err why) h k e f held g sent orders may header entries is told after ages = tt
  turn_left (Ok done) h k e f held g sent orders may header entries is told after ages =
      let turn : decision (config_under h e.committed) now held p.groups ≡ turn_under k f.committed now p = same_turn h k e f held header entries is in
      ap (λ (x : PresidentState). record p { groups = x; sent = sent }) (after ∙ ap (λ (t : Turn). t.president) turn)
      ∙ ap (λ (x : List (Option ℕ)). record p { groups = (turn_under k f.committed now p).president; sent = x })
      (ages ∙ ap (λ (os : List (ℕ × Order)). all_sent me p.sent os) (told ∙ ap (λ (t : Turn). t.orders) turn))
      ∙ sym (after_is k f.committed may)

  pub turn_told : {T E : Type 0} (r : Result T E) (h k : Header) (e f : EntryList) (held : Bool) (orders : List (ℕ × Order)) (given after : List Output)
      → may_order p.groups ≡ true → h ≡ k → e ≡ f → held ≡ is_held_up p
      → orders ≡ (decision (config_under h e.committed) now held p.groups).orders
      → OnOk r (after ≡ given ++ orders_sent me orders)
      → OnOk r (after ≡ given ++ messages_after me k f.committed now p)
  turn_told (Err why) h k e f held orders given after may header entries is told lines = tt
  turn_told (Ok done) h k e f held orders given after may header entries is told lines =
      let turn : decision (config_under h e.committed) now held p.groups ≡ turn_under k f.committed now p = same_turn h k e f held header entries is in
      lines ∙ ap (λ (os : List (ℕ × Order)). given ++ orders_sent me os) (told ∙ ap (λ (t : Turn). t.orders) turn)
      ∙ ap (λ (os : List Output). given ++ os) (sym (messages_are k f.committed may))

-- The plan, of a president and of another node.
by_plan : (c : Cluster) (me : ℕ) (x : UpNode) (p q : Presidency) (given after : List Output)
    → q ≡ presidency_after me c.header (state_of x.seat).saved.entries.committed x.second p
    → after ≡ given ++ messages_after me c.header (state_of x.seat).saved.entries.committed x.second p
    → x.presidency ≡ Some p → Gives (deciding_by c me x (Some p)) given (Ok (record x { presidency = Some q })) after
unfolding presidency_after messages_after
by_plan c me x p q given after kept told is = by (may_order p.groups) kept told
  where
    by : (b : Bool) → q ≡ (if b then with_turn me p (turn_under c.header (state_of x.seat).saved.entries.committed x.second p) else p)
        → after ≡ given ++ (if b then orders_sent me (turn_under c.header (state_of x.seat).saved.entries.committed x.second p).orders else [])
        → Gives (if b then decided me x p (turn_under c.header (state_of x.seat).saved.entries.committed x.second p) else Stays x) given (Ok (record x { presidency = Some q })) after
    by true now lines = (ap (λ (k : Presidency). record x { presidency = Some k }) now, lines)
    by false now lines =
        (ap (λ (k : Presidency). record x { presidency = Some k }) now ∙ ap (λ (found : Option Presidency). record x { presidency = found }) (sym is), lines ∙ append-nil given)

pub decided_so : (c : Cluster) (me : ℕ) (x : UpNode) (p q : Presidency) (given after : List Output) → x.presidency ≡ Some p
    → q ≡ presidency_after me c.header (state_of x.seat).saved.entries.committed x.second p
    → after ≡ given ++ messages_after me c.header (state_of x.seat).saved.entries.committed x.second p
    → Gives (deciding c me x) given (Ok (record x { presidency = Some q })) after
decided_so c me x p q given after is kept told =
    subst (λ found. Gives (deciding_by c me x found) given (Ok (record x { presidency = Some q })) after) (sym is) (by_plan c me x p q given after kept told is)

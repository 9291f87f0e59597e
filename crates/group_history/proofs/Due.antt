-- The lines of clients tell what the balancer makes of the requests.
use Rattle.std.proofs.Common.{◌≡◌, ℕ, Bool, true, false, ◌==◌, ◌&&◌, not, if◌then◌else◌, map, List, [], ◌∷◌, ◌++◌, Option, Some, None, refl, sym, ap, subst, ◌∙◌}
use Rattle.std.specs.List.{AllByRecursion}
use Rattle.std.specs.List.Sorted.{IsStrictlyIncreasing}
use Rattle.std.specs.Str.{bytes_eq}
use Rattle.std.specs.Cmp.Lexicographic.{same_text}
use Rattle.std.proofs.lemmas.Bool.{eqb-true}
use Rattle.address_targets.proofs.Ascending.{HasWeight, ascending, weighted}
use Rattle.ccr_tables.specs.declared.address.Address.{Address}
use Rattle.rg_props.specs.Lookups.{named}
use Rattle.schedule_text.specs.declared.event.Event.TheVariants as event
use Rattle.schedule_text.specs.declared.line.Line.TheVariants as line
use Rattle.shared_address.specs.declared.choice.Client.{Client}
use Rattle.shared_address.specs.Choosing.{Outcome, Request}
use Rattle.shared_address.specs.History.{outcome_after}
use Rattle.history.specs.Moment.{Moment, Said, Part, Told}
use Rattle.history.specs.Trace.{member, ack, served, rounds_done}
use Rattle.history.specs.Order.{OfEvents, Unless}
use Rattle.history.specs.Setting.{coordinator}
use Rattle.history.specs.Member.{member_of}
use Rattle.group_history.specs.Setting.{Groups, config_of}
use Rattle.group_history.specs.Doings.{forgot}
use Rattle.group_history.specs.KnownMap.{known_of}
use Rattle.group_history.specs.Addresses.{Answered, IsServed, IsServedAt, answer_at, answer_of, answer_told, answers_in, deletes, entries_for, lines_of, presides, request_at, requests_of}

-- ---- answers

pub record IsDue (before : List Request) (a : Answered) : Type 0 where
  pub node : a.node ≡ (outcome_after before a.request).node
  pub gone : a.forgot ≡ (outcome_after before a.request).forgot
  pub weights : AllByRecursion HasWeight a.request.targets
  pub ascending : IsStrictlyIncreasing (map (λ t. t.node) a.request.targets)

abbrev pub AreDue : List Answered → Type 0
AreDue [] = Unit {0}
AreDue (a ∷ before) = IsDue (requests_of before) a × AreDue before

record TellsOutcome (node : Option ℕ) (gone : Option Client) (o : Outcome) : Type 0 where
  node_is : node ≡ o.node
  gone_is : gone ≡ o.forgot

-- what these entries tell, where they are the lines of an outcome
abbrev Tell : List Moment → Option ℕ → Option Client → Type 0
Tell entries node gone = (name : List ℕ) (client port : ℕ) (o : Outcome) → entries ≡ lines_of name client port o → TellsOutcome node gone o

tell_node : (x : List ℕ) (k p : ℕ) (target : Option ℕ) (later : List Moment) → Tell (served x k p target ∷ later) target None
tell_node x k p target later name client port o h = by o.forgot refl
  where
    by : (g : Option Client) → o.forgot ≡ g → TellsOutcome target None o
    by None is =
        let same : served x k p target ∷ later ≡ served name client port o.node ∷ [] = h ∙ ap (λ (g : Option Client). lines_of name client port (record o { forgot = g })) is in
        record { node_is = cc; gone_is = sym is }
    by (Some c) is =
        let other : served x k p target ∷ later ≡ forgot name c.address c.port ∷ served name client port o.node ∷ [] = h ∙ ap (λ (g : Option Client). lines_of name client port (record o { forgot = g })) is in
        absurd (cc other)

tell_both : (y : List ℕ) (c d : ℕ) (x : List ℕ) (k p : ℕ) (target : Option ℕ) (later : List Moment) → Tell (forgot y c d ∷ served x k p target ∷ later) target (Some (record { address = c; port = d }))
tell_both y c d x k p target later name client port o h = by o.forgot refl
  where
    by : (g : Option Client) → o.forgot ≡ g → TellsOutcome target (Some (record { address = c; port = d })) o
    by None is =
        let other : forgot y c d ∷ served x k p target ∷ later ≡ served name client port o.node ∷ [] = h ∙ ap (λ (g : Option Client). lines_of name client port (record o { forgot = g })) is in
        absurd (cc other)
    by (Some e) is =
        let same : forgot y c d ∷ served x k p target ∷ later ≡ forgot name e.address e.port ∷ served name client port o.node ∷ [] = h ∙ ap (λ (g : Option Client). lines_of name client port (record o { forgot = g })) is in
        let address : c ≡ e.address = cc same in
        let port_is : d ≡ e.port = cc same in
        let client_is : Some (record { address = c; port = d }) ≡ Some e = (λ i. Some (record { address = address i; port = port_is i })) in
        record { node_is = cc same; gone_is = client_is ∙ sym is }

-- ---- moment by moment

module _ (S : Groups) (e : ℕ) (name : List ℕ) where
  -- the request of the client whose line this is
  due_at : (n : ℕ) (other : List ℕ) (client port : ℕ) (before : List Moment) (target : Option ℕ) (gone : Option Client) (entries : List Moment) → Tell entries target gone
      → IsServedAt S before n other client port entries (member_of n before) → AreDue (answers_in S e name before)
      → AreDue (answer_of S e name target gone (Said (line.Event (event.Client n other client port)) ∷ before) ++ answers_in S e name before)
  due_at n other client port before target gone entries tell h rest = by (bytes_eq other name) refl (member_of n before) h
    where
      answer : List Answered
      answer = answer_at S e before client port target gone (named (config_of S e before).addresses name)

      Due : List Answered → Type 0
      Due answers = AreDue (answers ++ answers_in S e name before)

      at_address : (found : Option Address) → entries ≡ entries_for S e before name client port found → Due (answer_at S e before client port target gone found)
      at_address None _ = rest
      at_address (Some a) lines =
          let tells = tell name client port (outcome_after (requests_of (answers_in S e name before)) (request_at S e before client port a)) lines in (
            record {
              node = tells.node_is;
              gone = tells.gone_is;
              weights = weighted (config_of S e before) (known_of S e before) a;
              ascending = ascending (config_of S e before) (known_of S e before) a;
            },
            rest,
          )

      in_membership : (f : ℕ) → f ≡ e → (there : Bool) → (coordinator e == n) ≡ there → IsServedAt S before n name client port entries (Some f) → Due (if there then answer else [])
      in_membership f same false _ _ = rest
      in_membership f same true there h =
          let served_there : IsServedAt S before n name client port entries (Some e) = subst (λ (x : ℕ). IsServedAt S before n name client port entries (Some x)) same h in
          let lines : entries ≡ entries_for S e before name client port (named (config_of S e before).addresses name) =
          subst (λ (b : Bool). Unless (not b) (entries ≡ entries_for S e before name client port (named (config_of S e before).addresses name))) there served_there in
          at_address (named (config_of S e before).addresses name) lines

      of_name : (f : ℕ) → (p : Bool) → (f == e) ≡ p → IsServedAt S before n name client port entries (Some f) → Due (if p && (coordinator e == n) then answer else [])
      of_name f false _ _ = rest
      of_name f true is h = in_membership f (eqb-true f e is) (coordinator e == n) refl h

      by : (same : Bool) → bytes_eq other name ≡ same → (m : Option ℕ) → IsServedAt S before n other client port entries m → Due (if same && presides e n m then answer else [])
      by false _ m _ = rest
      by true _ None _ = rest
      by true same (Some f) h =
          of_name f (f == e) refl (subst (λ (x : List ℕ). IsServedAt S before n x client port entries (Some f)) (same_text other name (sym same)) h)

  due_after : (y : List ℕ) (c d : ℕ) (x : List ℕ) (k p : ℕ) (target : Option ℕ) (later before : List Moment)
      → OfEvents (IsServed S) (forgot y c d ∷ served x k p target ∷ later) before → AreDue (answers_in S e name before)
      → AreDue (answer_of S e name target (Some (record { address = c; port = d })) before ++ answers_in S e name before)
  due_after y c d x k p target later (Said (line.Event (event.Client n other client port)) ∷ before) h rest =
      due_at n other client port before target (Some (record { address = c; port = d })) (forgot y c d ∷ served x k p target ∷ later) (tell_both y c d x k p target later) h.0 rest
  due_after y c d x k p target later _ h rest = rest

  due_here : (x : List ℕ) (k p : ℕ) (target : Option ℕ) (later before : List Moment)
      → OfEvents (IsServed S) (served x k p target ∷ later) before → AreDue (answers_in S e name before)
      → AreDue (answer_told S e name target before ++ answers_in S e name before)
  due_here x k p target later (Said (line.Event (event.Client n other client port)) ∷ before) h rest =
      due_at n other client port before target None (served x k p target ∷ later) (tell_node x k p target later) h.0 rest
  due_here x k p target later (forgot y c d ∷ before) h rest = due_after y c d x k p target later before h rest
  due_here x k p target later _ h rest = rest

  unless_over : (b : Bool) (answers : List Answered) → AreDue answers → AreDue (if b then [] else answers)
  unless_over true answers due = tt
  unless_over false answers due = due

  all_due : (later moments : List Moment) → OfEvents (IsServed S) later moments → AreDue (answers_in S e name moments)
  all_due later [] h = tt
  all_due later (Said l ∷ before) h = all_due [] before h.1
  all_due later (Part p ∷ before) h = all_due [] before h.1
  all_due later (rounds_done ∷ before) h = all_due [] before h.1
  all_due later (member n f ∷ before) h = unless_over ((f == e) && (n == coordinator e)) (answers_in S e name before) (all_due (member n f ∷ later) before h)
  all_due later (ack f v words ∷ before) h = unless_over ((f == e) && deletes name (S.command words)) (answers_in S e name before) (all_due (ack f v words ∷ later) before h)
  all_due later (served x k p target ∷ before) h = due_here x k p target later before h (all_due (served x k p target ∷ later) before h)
  all_due later (Told y ∷ before) h = all_due (Told y ∷ later) before h

  pub of_clients : (moments : List Moment) → OfEvents (IsServed S) [] moments → AreDue (answers_in S e name moments)
  of_clients moments h = all_due [] moments h

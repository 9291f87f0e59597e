-- Agents and what they are seen as.
use Rattle.std.proofs.Common.{◌≡◌, ℕ, Bool, List, [], ◌∷◌, Option, Some, None, map, get_or, refl, sym, ap, ◌∙◌, slice_get, slice_set, option_map}
use Rattle.std.specs.List.{position, position_or_len}
use Rattle.std.specs.Str.{bytes_eq}
use Rattle.std.proofs.lemmas.List.{length-map, map-set}
use Rattle.std.proofs.lemmas.List.Quantifiers.{position-Some}
use Rattle.std.proofs.lemmas.Option.{slice_get-map, slice_get-get_or}
use Rattle.cl_base.specs.declared.agent.Call.{Call}
use Rattle.cl_base.specs.declared.method.Outcome.{Outcome}
use Rattle.cl_base.specs.declared.method.Outcome.TheVariants.{Failure}
use Rattle.agents.specs.Calls.{AgentState, Called, called, called_at, called_by, rules_of, states_of}

module _ {A B : Type 0} (view : A → B) (test : B → Bool) where
  position_or_len-map : (xs : List A) → position_or_len test (map view xs) ≡ position_or_len (λ x. test (view x)) xs
  position_or_len-map [] = refl
  position_or_len-map (x ∷ xs) = rw (position_or_len-map xs) refl

  -- the first that passes, looked for among the views
  position-map : (xs : List A) → position test (map view xs) ≡ position (λ x. test (view x)) xs
  position-map xs = rw (position_or_len-map xs, length-map xs view) refl

module _ {A : Type 0} (named kept : A → List ℕ) (outcome : List ℕ → Call → Outcome) (then_kept : List ℕ → Call → List ℕ)
    (agents : List A) (name : List ℕ) (call : Call) where
  abbrev state : A → AgentState
  state a = record { name = named a; kept = kept a }

  abbrev ends : Called
  ends = called (rules_of outcome then_kept) (states_of named kept agents) name call

  found_at : (found : Option ℕ) → position (λ a. bytes_eq (named a) name) agents ≡ found
      → ends ≡ called_at (rules_of outcome then_kept) (states_of named kept agents) call found
  found_at found is = ap (λ (p : Option ℕ). called_at (rules_of outcome then_kept) (states_of named kept agents) call p) (position-map state (λ s. bytes_eq s.name name) agents ∙ is)

  -- without an agent of the name
  pub called_nobody : position (λ a. bytes_eq (named a) name) agents ≡ None → ends ≡ (let c : Called = record { outcome = Failure; agents = states_of named kept agents } in c)
  called_nobody is = found_at None is

  module _ (place : ℕ) (a : A) (is : position (λ x. bytes_eq (named x) name) agents ≡ Some place) (at : a ≡ get_or agents place a) where
    there : slice_get (states_of named kept agents) place ≡ Some (state a)
    there = slice_get-map state agents place
        ∙ ap (λ (o : Option A). option_map state o) (slice_get-get_or agents place a (position-Some (λ x. bytes_eq (named x) name) agents place a is).0 ∙ ap Some (sym at))

    called_there : ends ≡ called_by (rules_of outcome then_kept) (states_of named kept agents) call place (Some (state a))
    called_there = found_at (Some place) is ∙ ap (λ (o : Option AgentState). called_by (rules_of outcome then_kept) (states_of named kept agents) call place o) there

    -- the agent at this place is called: how it ends
    pub called_outcome : outcome (kept a) call ≡ ends.outcome
    called_outcome = sym (ap (λ (c : Called). c.outcome) called_there)

    -- and the agents then
    pub called_agents : (after : A) → named after ≡ named a → kept after ≡ then_kept (kept a) call → states_of named kept (slice_set agents place after) ≡ ends.agents
    called_agents after same now =
        map-set state agents place after
        ∙ ap (λ (n : List ℕ). slice_set (states_of named kept agents) place (record { name = n; kept = kept after })) same
        ∙ ap (λ (k : List ℕ). slice_set (states_of named kept agents) place (record { name = named a; kept = k })) now
        ∙ sym (ap (λ (c : Called). c.agents) called_there)

-- What is saved: each change of the record is what the trace tells of it.
use Rattle.std.specs.Prelude.{ℕ, ◌+◌, ◌≡◌, ◌==◌, ◌++◌, true, false, List, [], ◌∷◌, Option, None, Some, IfSome, is_some, option_map, length}
use Rattle.std.specs.Option.{option_to_list}
use Rattle.std.proofs.Common.{refl, sym, ap, ◌∙◌}
use Rattle.std.proofs.lemmas.List.{append-nil}
use Rattle.ccr_commit.specs.Entries as entries
use Rattle.ccr_commit.specs.Entries.{EntryList, listed, texts_of, with_next}
use Rattle.cmm_member.specs.Records.{NodeRecord}
use Rattle.history.specs.Letters.{Letter, arrived, text_in}
use Rattle.history.specs.Moment.{Moment}
use Rattle.history.specs.Names.{Name, named}
use Rattle.history.specs.Records.{NodeRecord as Shown, all_committed, record_of, saved_in, saved_of, with_update}
use Rattle.history.specs.Trace.{saved}
use Rattle.refinement.specs.Ties.{Delivered}
use Rattle.wire.specs.declared.message.Body.{Body}
use Rattle.wire.specs.declared.message.Body.TheVariants as body
use Rattle.world_model.specs.Sends.{name_of}
use Rattle.run_messages.specs.records.Kept.{Came, HandKept}
use Rattle.run_messages.specs.records.Losses.{IsNoUpdate, NoUpdate}
use Rattle.run_messages.specs.records.Shown.{shown}
use Rattle.run_messages.proofs.records.Sends.{if_so, is_same}

-- ---- options

pub map_so : {X : Type 0} (o : Option X) (f : X → X) (a b : X) → f a ≡ b → IfSome o (λ r. r ≡ a) → IfSome (option_map f o) (λ r. r ≡ b)
map_so None f a b is h = tt
map_so (Some r) f a b is h = ap f h ∙ is

pub map_same : {X : Type 0} (o : Option X) (f : X → X) → ((x : X) → f x ≡ x) → option_map f o ≡ o
map_same None f is = refl
map_same (Some x) f is = ap Some (is x)

pub map_some : {X : Type 0} (o : Option X) (f : X → X) → is_some o ≡ true → is_some (option_map f o) ≡ true
map_some None f is = is
map_some (Some x) f is = refl

-- ---- the line of a save

saved_line : (n : ℕ) (ms : List Moment) → record_of n (saved n ∷ ms) ≡ option_map (saved_in (arrived ms)) (record_of n ms)
saved_line n ms = if_so (n == n) (option_map (saved_in (arrived ms)) (record_of n ms)) (record_of n ms) (is_same n)

no_update_of : (l : Letter) (b : Body) (r : Shown) → IsNoUpdate b → saved_of l (named (name_of b)) r ≡ r
no_update_of l (body.Prepare e place text) r is = absurd is
no_update_of l (body.Commit e place) r is = absurd is
no_update_of l (body.Heartbeat promised session is_one) r is = refl
no_update_of l (body.Collect p members) r is = refl
no_update_of l (body.Promise p newest members valid flagged committed pending) r is = refl
no_update_of l (body.Nack p promised) r is = refl
no_update_of l (body.SeizeQuorum p members d) r is = refl
no_update_of l (body.SeizeData p members d) r is = refl
no_update_of l (body.Seized p d outcome) r is = refl
no_update_of l (body.Install i) r is = refl
no_update_of l (body.Ready p joined report) r is = refl
no_update_of l (body.Start p) r is = refl
no_update_of l (body.Prepared p place) r is = refl
no_update_of l (body.Order o) r is = refl
no_update_of l (body.Done p number outcome) r is = refl
no_update_of l (body.Request p number text) r is = refl
no_update_of l (body.Answer p number text) r is = refl
no_update_of l (body.Excluded p newest) r is = refl

-- where no update is delivered
pub saved_same : (n : ℕ) (ms : List Moment) (told : Delivered) → NoUpdate told → HandKept ms n told → record_of n (saved n ∷ ms) ≡ record_of n ms
saved_same n ms None none hand = saved_line n ms ∙ (ap (λ o. option_map (saved_in o) (record_of n ms)) hand ∙ map_same (record_of n ms) (saved_in None) (λ r. refl))
saved_same n ms (Some d) none hand =
    saved_line n ms
    ∙ (ap (λ o. option_map (saved_in o) (record_of n ms)) hand.here
    ∙ map_same (record_of n ms) (saved_in (Some hand.letter)) (λ r. ap (λ (z : Name). saved_of hand.letter z r) hand.called ∙ no_update_of hand.letter d.1.body r none))

pub saved_prepare : (n : ℕ) (ms : List Moment) (from e place : ℕ) (text : List ℕ) → Came ms n from (body.Prepare e place text) → record_of n (saved n ∷ ms) ≡ option_map (with_update place (Some text)) (record_of n ms)
saved_prepare n ms from e place text h =
    saved_line n ms
    ∙ (ap (λ o. option_map (saved_in o) (record_of n ms)) h.here
    ∙ (ap (λ (z : Name). option_map (saved_of h.letter z) (record_of n ms)) h.called ∙ ap (λ o. option_map (with_update place (text_in o)) (record_of n ms)) h.read))

pub saved_commit : (n : ℕ) (ms : List Moment) (from e place : ℕ) → Came ms n from (body.Commit e place) → record_of n (saved n ∷ ms) ≡ option_map all_committed (record_of n ms)
saved_commit n ms from e place h =
    saved_line n ms ∙ (ap (λ o. option_map (saved_in o) (record_of n ms)) h.here ∙ ap (λ (z : Name). option_map (saved_of h.letter z) (record_of n ms)) h.called)

-- ---- the record

committed_texts : (i : ℕ) (c : List (List ℕ)) (p : Option (List ℕ)) → all_committed (record { installed = i; texts = c ++ option_to_list p; pending = is_some p }) ≡ record { installed = i; texts = (c ++ listed p) ++ []; pending = false }
committed_texts i c None = ap (λ xs. record { installed = i; texts = xs; pending = false }) (sym (append-nil (c ++ [])))
committed_texts i c (Some t) = ap (λ xs. record { installed = i; texts = xs; pending = false }) (sym (append-nil (c ++ t ∷ [])))

-- all is committed
pub committed_shown : (r : NodeRecord) → all_committed (shown r) ≡ shown (record r { entries = entries.all_committed r.entries })
committed_shown r = committed_texts r.installed r.entries.committed r.entries.pending

next_texts : (i : ℕ) (c : List (List ℕ)) (p : Option (List ℕ)) (text : List ℕ)
    → with_update (length (c ++ listed p) + 1) (Some text) (record { installed = i; texts = c ++ option_to_list p; pending = is_some p }) ≡ record { installed = i; texts = (c ++ listed p) ++ text ∷ []; pending = true }
next_texts i c None text = if_so (length (c ++ []) + 1 == length (c ++ []) + 1) _ _ (is_same (length (c ++ []) + 1))
next_texts i c (Some t) text = if_so (length (c ++ t ∷ []) + 1 == length (c ++ t ∷ []) + 1) _ _ (is_same (length (c ++ t ∷ []) + 1))

-- one more is pending
pub next_shown : (r : NodeRecord) (text : List ℕ) → with_update (length (texts_of r.entries) + 1) (Some text) (shown r) ≡ shown (record r { entries = with_next r.entries text })
next_shown r text = next_texts r.installed r.entries.committed r.entries.pending text

-- Whatever the updates, only devices of the header have votes.
use Rattle.std.specs.Prelude.{ℕ, ◌-◌, ◌≡◌, ◌≤◌, ◌==◌, ◌++◌, nat_le, Bool, true, false, if◌then◌else◌, List, [], ◌∷◌, length, map, replicate, Option, None, Some, IfSome, Result, Ok, Err, slice_index_or, slice_set, suc, zero, unwrap_or}
use Rattle.std.specs.Option.{option_and_then}
use Rattle.std.proofs.Common.{refl, sym, ap, subst, ◌∙◌, arith}
use Rattle.admin_words.specs.Commands.{command_of}
use Rattle.admin_words.specs.declared.error.WordError.{WordError}
use Rattle.ccr_tables.specs.Changes.{applied, changed, or_same, state_after, unless_refused}
use Rattle.ccr_tables.specs.Refusals.{refusal_of, vote_number}
use Rattle.ccr_tables.specs.State.{ConfigState, first_config}
use Rattle.ccr_tables.specs.declared.command.AdminCommand.{AdminCommand}
use Rattle.ccr_tables.specs.declared.command.AdminCommand.TheVariants.{Act, Change, Rows, Status}
use Rattle.ccr_tables.specs.declared.update.Update.{Update}
use Rattle.ccr_tables.specs.declared.update.Update.TheVariants.{AddNode, Device, NodeVote, RemoveNode}
use Rattle.cl_base.specs.declared.header.Header.{Header}
use Rattle.cl_base.specs.declared.header.HeaderDevice.{HeaderDevice}
use Rattle.cl_base.specs.declared.refusal.Refusal.{Refusal}
use Rattle.cmm_attempt.proofs.Basics.{false_true, if_either, none_some}
use Rattle.cmm_attempt.specs.Counts.{is_enabled_state}
use Rattle.config_cache.specs.InForce.{config_under}
use Rattle.quorum_votes.specs.Changes.{same_state, state_with, with_configured, with_device, with_node, with_state, with_vote, without_node}
use Rattle.quorum_votes.specs.Tables.{VoteTable}
use Rattle.quorum_votes.specs.Votes.{device_at, first_device, node_at, state_of, vote_in}
use Rattle.quorum_votes.specs.declared.state.DevState.{DevState}
use Rattle.quorum_votes.specs.declared.state.NodeState.{NodeState}
use Rattle.quorum_votes.specs.declared.state.NodeState.TheVariants.{Maintenance, Unconfigured, Voting}
use Rattle.quorum_votes.specs.declared.state.VoteDevice.{VoteDevice}
use Rattle.update_log.specs.Logs.{config_after, may_come, with_command, with_text, with_texts}
use Rattle.run_outcomes.specs.counts.Shorts.{IsPlaced}

-- nothing stands behind the first n places
abbrev pub IsWithin : ℕ → VoteTable → Type 0
IsWithin n v = (p : ℕ) → n ≤ p → slice_index_or v.devices p None ≡ None

-- ---- a change of votes

set_other : (xs : List (Option VoteDevice)) (i j : ℕ) (y : Option VoteDevice) → (i ≡ j → ⊥) → slice_index_or (slice_set xs i y) j None ≡ slice_index_or xs j None
set_other [] i j y other = refl
set_other (x ∷ xs) zero zero y other = absurd (other refl)
set_other (x ∷ xs) zero (suc j) y other = refl
set_other (x ∷ xs) (suc i) zero y other = refl
set_other (x ∷ xs) (suc i) (suc j) y other = set_other xs i j y (λ e. other (ap suc e))

within_if : {E : Type 0} (n : ℕ) (v w : VoteTable) (e : E) (t : Bool) → IsWithin n v → IsWithin n w → IsWithin n (or_same (if t then Err e else Ok w) v)
within_if n v w e true h k = h
within_if n v w e false h k = k

device_within : (n : ℕ) (v : VoteTable) (d : ℕ) (state : DevState) (o : Option VoteDevice) → device_at v d ≡ o → IsWithin n v → IsWithin n (or_same (with_state v d state o) v)
device_within n v d state None at h = h
device_within n v d state (Some x) at h =
    within_if n v (with_device v d (record x { state = state })) _ (same_state x.state state) h
    (λ p high. set_other v.devices (d - 1) p (Some (record x { state = state })) (λ same. none_some x (sym (h (d - 1) (subst (λ k. n ≤ k) (sym same) high)) ∙ at)) ∙ h p high)

vote_within : (n : ℕ) (v : VoteTable) (m vote : ℕ) (o : NodeState) → IsWithin n v → IsWithin n (or_same (with_vote v m vote o) v)
vote_within n v m vote Unconfigured h = h
vote_within n v m vote Maintenance h = within_if n v (with_node v m (state_with vote)) _ (vote_in Maintenance == vote) h h
vote_within n v m vote Voting h = within_if n v (with_node v m (state_with vote)) _ (vote_in Voting == vote) h h

configured_within : (n : ℕ) (v : VoteTable) (m : ℕ) (o : NodeState) → IsWithin n v → IsWithin n (or_same (with_configured v m o) v)
configured_within n v m Unconfigured h = h
configured_within n v m Maintenance h = h
configured_within n v m Voting h = h

removed_within : (n : ℕ) (v : VoteTable) (m : ℕ) (o : NodeState) → IsWithin n v → IsWithin n (or_same (without_node v m o) v)
removed_within n v m Unconfigured h = h
removed_within n v m Maintenance h = h
removed_within n v m Voting h = h

-- ---- an update

changed_within : (n : ℕ) (s : ConfigState) (u : Update) → IsWithin n s.votes → IsWithin n (changed s u).votes
changed_within n s (Device d change) h = device_within n s.votes d (state_after change) (device_at s.votes d) refl h
changed_within n s (NodeVote m has) h = vote_within n s.votes m (vote_number has) (node_at s.votes m) h
changed_within n s (AddNode m) h = configured_within n s.votes m (node_at s.votes m) h
changed_within n s (RemoveNode m) h = removed_within n s.votes m (node_at s.votes m) h
changed_within n s _ h = h

applied_within : (n : ℕ) (s : ConfigState) (u : Update) → IsWithin n s.votes → IsWithin n (applied s u).votes
applied_within n s u h = by_refusal (refusal_of s u)
  where
    by_refusal : (o : Option Refusal) → IsWithin n (unless_refused s u o).votes
    by_refusal None = changed_within n s u h
    by_refusal (Some r) = h

command_within : (n : ℕ) (s : ConfigState) (text : List ℕ) (r : Result AdminCommand WordError) → IsWithin n s.votes → IfSome (with_command s text r) (λ t. IsWithin n t.votes)
command_within n s text (Ok (Change u)) h = if_either (λ o. IfSome o (λ (t : ConfigState). IsWithin n t.votes)) (may_come s text u) (Some (applied s u)) None (applied_within n s u h) tt
command_within n s text (Ok (Act a)) h = tt
command_within n s text (Ok (Status q)) h = tt
command_within n s text (Ok (Rows name)) h = tt
command_within n s text (Err e) h = tt

texts_within : (n : ℕ) (s : ConfigState) (texts : List (List ℕ)) → IsWithin n s.votes → IfSome (with_texts s texts) (λ t. IsWithin n t.votes)
texts_within n s [] h = h
texts_within n s (text ∷ texts) h = by_first (with_text s text) (command_within n s text (command_of s.groups.version text) h) (λ next k. texts_within n next texts k)
  where
    by_first : (o : Option ConfigState) → IfSome o (λ t. IsWithin n t.votes) → ((next : ConfigState) → IsWithin n next.votes → IfSome (with_texts next texts) (λ t. IsWithin n t.votes))
        → IfSome (option_and_then (λ next. with_texts next texts) o) (λ t. IsWithin n t.votes)
    by_first None h rest = tt
    by_first (Some next) h rest = rest next h

-- ---- at first

none_behind : (k p : ℕ) → slice_index_or (replicate k (let o : Option VoteDevice = None in o)) p None ≡ None
none_behind zero p = refl
none_behind (suc k) zero = refl
none_behind (suc k) (suc p) = none_behind k p

first_within : (hs : List HeaderDevice) (k p : ℕ) → length hs ≤ p → slice_index_or (map first_device hs ++ replicate k None) p None ≡ None
first_within [] k p high = none_behind k p
first_within (x ∷ hs) k zero high = absurd (none_below (length hs) high)
  where
    none_below : (n : ℕ) → suc n ≤ 0 → ⊥
    none_below n l = grind arith
first_within (x ∷ hs) k (suc p) high = first_within hs k p (fewer (length hs) p high)
  where
    fewer : (n p : ℕ) → suc n ≤ suc p → n ≤ p
    fewer n p l = omega (arith, l)

config_within : (h : Header) (texts : List (List ℕ)) → IsWithin (length h.devices) (config_under h texts).votes
unfolding config_after
config_within h texts = by_config (with_texts (first_config h) texts) (texts_within (length h.devices) (first_config h) texts first)
  where
    first : IsWithin (length h.devices) (first_config h).votes
    first p high = first_within h.devices (16 - length h.devices) p high

    by_config : (o : Option ConfigState) → IfSome o (λ t. IsWithin (length h.devices) t.votes) → IsWithin (length h.devices) (unwrap_or o (first_config h)).votes
    by_config None k = first
    by_config (Some s) k = k

-- ---- so each device with votes is one of the header

within_placed : (h : Header) (v : VoteTable) → IsWithin (length h.devices) v → IsPlaced h v
within_placed h v k d low e = by_test (nat_le d (length h.devices)) refl
  where
    at_most : (d n : ℕ) (t : Bool) → nat_le d n ≡ t → t ≡ true → d ≤ n
    at_most d n t h is = grind arith

    beyond : (d n : ℕ) → 1 ≤ d → nat_le d n ≡ false → n ≤ d - 1
    beyond d n l h = grind arith

    by_test : (t : Bool) → nat_le d (length h.devices) ≡ t → d ≤ length h.devices
    by_test true is = at_most d (length h.devices) true is refl
    by_test false is = absurd (false_true (ap (λ (o : Option VoteDevice). is_enabled_state (state_of o)) (sym (k (d - 1) (beyond d (length h.devices) low is))) ∙ e))

pub config_placed : (h : Header) (texts : List (List ℕ)) → IsPlaced h (config_under h texts).votes
config_placed h texts = within_placed h (config_under h texts).votes (config_within h texts)

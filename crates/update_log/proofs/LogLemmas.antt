-- Lists of updates, one more at a time.
use Rattle.std.proofs.Common.{◌≡◌, ℕ, List, [], ◌∷◌, ◌++◌, Option, Some, None, refl}
use Rattle.std.specs.Option.{option_and_then, option_map}
use Rattle.ccr_tables.specs.State.{ConfigState, first_config}
use Rattle.update_log.specs.Logs.{config_after, votes_after, votes_beside, with_text, with_texts}
use Rattle.update_log.specs.declared.votes.LogVotes.{LogVotes}
use Rattle.update_log.specs.Laws.{NoUpdates, OneMore, PendingIsNext, votes_then}

-- one text, where the configuration before it is known
single : (s : ConfigState) (found : Option ConfigState) → option_and_then (λ next. with_texts next []) found ≡ found
single s None = refl
single s (Some next) = refl

-- one more text behind the others
pub texts_more : (s : ConfigState) (texts : List (List ℕ)) (text : List ℕ)
    → with_texts s (texts ++ text ∷ []) ≡ option_and_then (λ next. with_text next text) (with_texts s texts)
texts_more s [] text = single s (with_text s text)
texts_more s (first ∷ texts) text =
    elim (with_text s first) as (λ found. option_and_then (λ next. with_texts next (texts ++ text ∷ [])) found
    ≡ option_and_then (λ next. with_text next text) (option_and_then (λ next. with_texts next texts) found)) [
      | None ↦ refl
      | Some next ↦ texts_more next texts text
    ]

pub no_updates : NoUpdates
unfolding votes_after config_after
no_updates h = refl

pub one_more : OneMore
unfolding config_after
one_more h texts text = texts_more (first_config h) texts text

votes_next : (s : ConfigState) (next : Option ConfigState)
    → option_map votes_then (option_map (λ (t : ConfigState). record { committed = s.votes; pending = Some t.votes }) next)
    ≡ option_map (λ (v : LogVotes). v.committed) (option_and_then (λ t. votes_beside t None) next)
votes_next s None = refl
votes_next s (Some t) = refl

votes_so : (found : Option ConfigState) (text : List ℕ) → option_map votes_then (option_and_then (λ s. votes_beside s (Some text)) found)
    ≡ option_map (λ (v : LogVotes). v.committed) (option_and_then (λ t. votes_beside t None) (option_and_then (λ s. with_text s text) found))
votes_so None text = refl
votes_so (Some s) text = votes_next s (with_text s text)

pub pending_is_next : PendingIsNext
unfolding votes_after
pending_is_next h committed text = rw (one_more h committed text) (votes_so (config_after h committed) text)

-- A list of texts is gone along: what is left of it means the same as the whole.
use Rattle.std.proofs.Common.{◌≡◌, ℕ, ◌+◌, ◌<◌, ◌≤◌, Bool, true, false, List, ◌∷◌, Option, Some, None, length, drop, get_or, refl, ap, sym, ◌∙◌}
use Rattle.std.specs.Option.{is_some, option_and_then, option_map, unwrap_or}
use Rattle.std.proofs.lemmas.List.{drop_all, drop_more}
use Rattle.ccr_tables.specs.State.{ConfigState}
use Rattle.quorum_votes.specs.Tables.{VoteTable}
use Rattle.update_log.specs.Logs.{votes_beside, with_text, with_texts}
use Rattle.update_log.specs.declared.votes.LogVotes.{LogVotes}

-- what was taken was there
pub some_taken : (found : Option ConfigState) (old new : ConfigState) (taken : Bool) → taken ≡ is_some found → taken ≡ true
    → new ≡ unwrap_or found old → found ≡ Some new
some_taken None old new taken is so after = cc (sym so ∙ is)
some_taken (Some s) old new taken is so after = ap Some (sym after)

-- what was not taken was not there
pub none_taken : (found : Option ConfigState) (taken : Bool) → taken ≡ is_some found → taken ≡ false → found ≡ None
none_taken None taken is so = refl
none_taken (Some s) taken is so = cc (sym so ∙ is)

module _ (whole : Option ConfigState) (old : ConfigState) (texts : List (List ℕ)) (i : ℕ) (so_far : whole ≡ with_texts old (drop i texts)) where
  -- the next text comes first
  pub next_first : (text item : List ℕ) → i < length texts → text ≡ item → item ≡ get_or texts i item
      → whole ≡ option_and_then (λ next. with_texts next (drop (i + 1) texts)) (with_text old text)
  next_first text item low same here =
      so_far ∙ ap (λ rest. with_texts old rest) (drop_more texts i item low ∙ ap (λ t. t ∷ drop (i + 1) texts) (sym here ∙ sym same))

  -- one more text, which is taken
  pub one_more : (text item : List ℕ) (new : ConfigState) (taken : Bool) → i < length texts → text ≡ item → item ≡ get_or texts i item
      → taken ≡ is_some (with_text old text) → taken ≡ true → new ≡ unwrap_or (with_text old text) old → whole ≡ with_texts new (drop (i + 1) texts)
  one_more text item new taken low same here is so after =
      next_first text item low same here
      ∙ ap (λ found. option_and_then (λ next. with_texts next (drop (i + 1) texts)) found) (some_taken (with_text old text) old new taken is so after)

  -- a text that is not taken
  pub one_bad : (text item : List ℕ) (taken : Bool) → i < length texts → text ≡ item → item ≡ get_or texts i item
      → taken ≡ is_some (with_text old text) → taken ≡ false → None ≡ whole
  one_bad text item taken low same here is so =
      sym (next_first text item low same here
      ∙ ap (λ found. option_and_then (λ next. with_texts next (drop (i + 1) texts)) found) (none_taken (with_text old text) taken is so))

  -- no more texts
  pub all_done : length texts ≤ i → Some old ≡ whole
  all_done past = sym (so_far ∙ ap (λ rest. with_texts old rest) (drop_all i texts past))

-- the votes with an update, where it may come
with_votes : ConfigState → Option ConfigState → Option LogVotes
with_votes old found = option_map (λ (next : ConfigState). record { committed = old.votes; pending = Some next.votes }) found

pub votes_taken : (old new : ConfigState) (before after : VoteTable) (text : List ℕ) (taken : Bool) → before ≡ old.votes → after ≡ new.votes
    → taken ≡ is_some (with_text old text) → taken ≡ true → new ≡ unwrap_or (with_text old text) old
    → Some (record { committed = before; pending = Some after }) ≡ votes_beside old (Some text)
unfolding with_votes
votes_taken old new before after text taken first last is so made =
    ap (λ (v : VoteTable). Some (let both : LogVotes = record { committed = v; pending = Some after } in both)) first
    ∙ ap (λ (v : VoteTable). Some (let both : LogVotes = record { committed = old.votes; pending = Some v } in both)) last
    ∙ sym (ap (with_votes old) (some_taken (with_text old text) old new taken is so made))

pub votes_untaken : (old : ConfigState) (text : List ℕ) (taken : Bool) → taken ≡ is_some (with_text old text) → taken ≡ false
    → votes_beside old (Some text) ≡ None
unfolding with_votes
votes_untaken old text taken is so = ap (with_votes old) (none_taken (with_text old text) taken is so)

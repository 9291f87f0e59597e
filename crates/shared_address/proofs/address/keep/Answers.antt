use Rattle.std.proofs.Common.{◌≡◌, ◌∙◌, ◌++◌, ◌∷◌, [], List, ℕ, None, ap, sym}
use Rattle.std.specs.Map.{lookup}
use Rattle.indexmap.proofs.CallerLemmas.{insert_entry-new}
use Rattle.indexmap.specs.IndexMap.{get}
use Rattle.shared_address.specs.declared.choice.Client.{Client}
use Rattle.shared_address.specs.Choosing.{forgotten_of, others, same_client, staying}
use Rattle.shared_address.proofs.ClientLemmas.{none_staying, removed_others}
use Rattle.shared_address.proofs.address.keep.Goals as goal

pub returns-clause-forgot : goal.returns-clause-forgot
returns-clause-forgot c =
    let left : c.shift_remove.new.self.entries ≡ others c.args.kept.now.entries c.args.client =
    c.shift_remove.ensures.entries ∙ removed_others (same_client c.args.client) c.args.kept.now.entries (ap (λ (es : List (Client × ℕ)). lookup (same_client c.args.client) es) (sym c.shift_remove.ensures.entries) ∙ c.shift_remove.ensures.updates.1) in
    c.forget_first-forgot.ensures.forgot ∙ ap forgotten_of left

pub returns-clause-kept : goal.returns-clause-kept
returns-clause-kept c =
    let left : c.shift_remove.new.self.entries ≡ others c.args.kept.now.entries c.args.client =
    c.shift_remove.ensures.entries ∙ removed_others (same_client c.args.client) c.args.kept.now.entries (ap (λ (es : List (Client × ℕ)). lookup (same_client c.args.client) es) (sym c.shift_remove.ensures.entries) ∙ c.shift_remove.ensures.updates.1) in
    let none : get same_client c.forget_first-forgot.new.kept c.args.client ≡ None =
    ap (λ (es : List (Client × ℕ)). lookup (same_client c.args.client) es) c.forget_first-forgot.ensures.kept ∙ none_staying (same_client c.args.client) c.shift_remove.new.self.entries c.shift_remove.ensures.updates.1 in
    let put = rw c.unwrap.ensures at c.insert.ensures.entries in
    put ∙ insert_entry-new same_client c.forget_first-forgot.new.kept c.args.client c.args.node none
    ∙ ap (λ (es : List (Client × ℕ)). es ++ (c.args.client, c.args.node) ∷ []) (c.forget_first-forgot.ensures.kept ∙ ap staying left)

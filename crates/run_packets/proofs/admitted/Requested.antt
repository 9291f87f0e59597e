-- What is read as a request has operands that are names and nodes.
use Rattle.std.specs.Prelude.{ℕ, ◌-◌, ◌≡◌, Bool, true, false, List, [], ◌∷◌, Option, None, Some, IfSome, Result, Ok, Err, codes, if◌then◌else◌}
use Rattle.std.specs.Str.{bytes_eq}
use Rattle.std.proofs.Common.{refl, ap}
use Rattle.admin_words.specs.Commands.{acting, as_request, command_in, command_of, name_or_bad, name_request, request_in, request_of}
use Rattle.admin_words.specs.Answers.{Spelled}
use Rattle.admin_words.specs.declared.error.WordError.{WordError}
use Rattle.ccr_tables.specs.declared.command.AdminCommand.TheVariants as wish
use Rattle.cl_base.specs.Names.{IsName}
use Rattle.cl_base.specs.declared.command.Ask.{Ask}
use Rattle.cl_base.specs.declared.command.Ask.TheVariants.{Clear, Evacuate, Move, Remaster, Restart}
use Rattle.cl_base.specs.declared.header.Version.{Version}
use Rattle.cl_base.specs.Sets.{has}
use Rattle.history_setting.proofs.Commands.{command_form}
use Rattle.history_setting.specs.Forms.{AskForm}
use Rattle.rg_props.specs.Words.{name_in, parts_at}
use Rattle.word_laws.proofs.Forms.{OnSome, name_reads}
use Rattle.word_laws.proofs.Updates.{update_spelled}
use Rattle.run_packets.specs.admitted.Refusals.{AskGood, RequestGood}
use Rattle.run_packets.proofs.admitted.Made.{of_map}

-- ---- what is read as a request

on_some : {X : Type 0} (P : X → Type 0) (o : Option X) → OnSome P o → IfSome o P
on_some P None h = tt
on_some P (Some x) h = h

abbrev NameGood : Result (List ℕ) WordError → Type 0
NameGood (Ok name) = IsName name
NameGood (Err e) = Unit {0}

name_good : (o : Option (List ℕ)) → IfSome o IsName → NameGood (name_or_bad o)
name_good None h = tt
name_good (Some name) h = h

request_named : (ws : List (List ℕ)) → NameGood (name_request ws)
request_named [] = tt
request_named (w ∷ []) = name_good _ (of_map IsName IsName (λ n. n) (name_in w) (λ n k. k) (on_some IsName (name_in w) (name_reads w)))
request_named (w ∷ y ∷ ws) = tt

acting_good : (v : Version) (ask : List ℕ → Ask) (r : Result (List ℕ) WordError) → ((name : List ℕ) → IsName name → AskGood v (ask name)) → NameGood r → RequestGood v (acting ask r)
acting_good v ask (Ok name) f h = f name h
acting_good v ask (Err e) f h = tt

form_good : (v : Version) (a : Ask) → AskForm v a → AskGood v a
form_good v (Restart r) h = absurd h
form_good v (Move r) h = absurd h
form_good v (Remaster g) h = h
form_good v (Evacuate n) h = h
form_good v (Clear r n) h = h

command_good : (v : Version) (text : List ℕ) (r : Spelled) → command_of v text ≡ r → RequestGood v (as_request r)
command_good v text (Ok (wish.Change u)) is = update_spelled v text u is
command_good v text (Ok (wish.Act a)) is = form_good v a (command_form v text (wish.Act a) is)
command_good v text (Ok (wish.Status q)) is = tt
command_good v text (Ok (wish.Rows name)) is = tt
command_good v text (Err e) is = tt

words_good : (v : Version) (text : List ℕ) (ws : List (List ℕ)) → parts_at 32 text ≡ ws → RequestGood v (request_in v ws)
unfolding request_in
words_good v text [] is = tt
words_good v text (w ∷ ws) is = by_tests (bytes_eq w (codes "restart")) (bytes_eq w (codes "move"))
  where
    by_tests : (a b : Bool) → RequestGood v (if a then acting Restart (name_request ws) else if b then acting Move (name_request ws) else as_request (command_in v (w ∷ ws)))
    by_tests true b = acting_good v Restart (name_request ws) (λ name h. h) (request_named ws)
    by_tests false true = acting_good v Move (name_request ws) (λ name h. h) (request_named ws)
    by_tests false false = command_good v text (command_in v (w ∷ ws)) (ap (λ z. command_in v z) is)

pub request_good : (v : Version) (text : List ℕ) → RequestGood v (request_of v text)
request_good v text = words_good v text (parts_at 32 text) refl

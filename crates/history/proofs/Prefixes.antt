-- What holds of a trace holds of its prefixes.
use Rattle.std.proofs.Common.{◌≡◌, ℕ, refl, sym, subst, List, [], ◌∷◌, ◌++◌, append_assoc, Option, Some, None}
use Rattle.history.specs.Moment.{Moment}
use Rattle.history.specs.Trace.{start, base, propose, ack}
use Rattle.history.specs.Order.{Always}
use Rattle.history.specs.Setting.{Setting}
use Rattle.history.specs.Starts.{Start, completed, base_so_far}
use Rattle.history.specs.Deeds.{Deed, Started, Proposed, Acked, OfEach, deeds, once_complete}
use Rattle.history.specs.Lineage.{Lineage}
use Rattle.history.specs.Placed.{Placed}
use Rattle.history.specs.Kept.{Kept}
use Rattle.history.specs.History.{Holds, Contact, Contents, Repository}
use Rattle.history.proofs.Keeping.{kept}

pub always : (P : List Moment → Moment → Type 0) (later before : List Moment) → Always P (later ++ before) → Always P before
always P [] before h = h
always P (x ∷ later) before h = always P later before h.1

-- ---- deeds

-- these deeds came on
record Adds (more before : List Deed) : Type 0 where
  pub new : List Deed
  pub is : more ≡ new ++ before

if_complete : (o : Option Start) (updates : List (List ℕ)) (before : List Deed) → Adds (once_complete o updates before) before
if_complete None updates before = record { new = []; is = refl }
if_complete (Some s) updates before = record { new = Started s updates ∷ []; is = refl }

one_more : (x : Moment) (before : List Moment) → Adds (deeds (x ∷ before)) (deeds before)
one_more (start e members held count) before = if_complete (completed (start e members held count ∷ before)) [] (deeds before)
one_more (base e v words) before = if_complete (completed (base e v words ∷ before)) (base_so_far (base e v words ∷ before)) (deeds before)
one_more (propose e v words) before = record { new = Proposed (record { epoch = e; place = v; words = words }) ∷ []; is = refl }
one_more (ack e v words) before = record { new = Acked (record { epoch = e; place = v; words = words }) ∷ []; is = refl }
one_more _ before = record { new = []; is = refl }

and_more : (more between before : List Deed) → Adds more between → Adds between before → Adds more before
and_more more between before h i = record { new = h.new ++ i.new; is = rw (h.is, i.is) (sym (append_assoc h.new i.new before)) }

many_more : (later before : List Moment) → Adds (deeds (later ++ before)) (deeds before)
many_more [] before = record { new = []; is = refl }
many_more (x ∷ later) before = and_more (deeds (x ∷ later ++ before)) (deeds (later ++ before)) (deeds before) (one_more x (later ++ before)) (many_more later before)

each_before : (P : List Deed → Type 0) (new before : List Deed) → OfEach P (new ++ before) → OfEach P before
each_before P [] before h = h
each_before P (d ∷ new) before h = each_before P new before h.1

placed_before : (new before : List Deed) → Placed (new ++ before) → Placed before
placed_before [] before h = h
placed_before (d ∷ new) before h = placed_before new before h.1

kept_at : (ds : List Deed) → OfEach Lineage ds → Placed ds → Kept ds
kept_at [] l p = tt
kept_at (d ∷ before) l p = kept (d ∷ before) l.0 p

repository_of : (later before : List Moment) → Repository (later ++ before) → Repository before
repository_of later before h = go (many_more later before)
  where
    go : Adds (deeds (later ++ before)) (deeds before) → Repository before
    go adds =
        let lineage : OfEach Lineage (deeds before) = each_before Lineage adds.new (deeds before) (subst (OfEach Lineage) adds.is h.lineage) in
        let placed : Placed (deeds before) = placed_before adds.new (deeds before) (subst Placed adds.is h.placed) in
        record { lineage = lineage; placed = placed; kept = kept_at (deeds before) lineage placed }

lineage_at : (ds : List Deed) → OfEach Lineage ds → Lineage ds
lineage_at [] l = record { once = tt; stands = tt }
lineage_at (d ∷ before) l = l.0

pub of_prefixes : (later before : List Moment) → Repository (later ++ before) → Lineage (deeds before) × Placed (deeds before) × Kept (deeds before)
of_prefixes later before h =
    let repository : Repository before = repository_of later before h in
    (lineage_at (deeds before) repository.lineage, repository.placed, repository.kept)

-- ---- the whole

contact_of : (S : Setting) (later before : List Moment) → Contact S (later ++ before) → Contact S before
contact_of S later before h = record {
  once = always _ later before h.once;
  ready = always _ later before h.ready;
  installed = always _ later before h.installed;
  held = always _ later before h.held;
  votes = always _ later before h.votes;
  prepared = always _ later before h.prepared;
  told = always _ later before h.told;
  asked = always _ later before h.asked;
  answered = always _ later before h.answered;
}

contents_of : (S : Setting) (later before : List Moment) → Contents S (later ++ before) → Contents S before
contents_of S later before h = record {
  spelled = always _ later before h.spelled;
  records = always _ later before h.records;
  newest = always _ later before h.newest;
  installed_base = always _ later before h.installed_base;
  newest_base = always _ later before h.newest_base;
  held = always _ later before h.held;
  heartbeats = always _ later before h.heartbeats;
  updates = always _ later before h.updates;
}

pub holds_before : (S : Setting) (later before : List Moment) → Holds S (later ++ before) → Holds S before
holds_before S later before h = record {
  devices = always _ later before h.devices;
  links = always _ later before h.links;
  start_lines = always _ later before h.start_lines;
  repository = repository_of later before h.repository;
  disk_rule = always _ later before h.disk_rule;
  contact = contact_of S later before h.contact;
  contents = contents_of S later before h.contents;
}

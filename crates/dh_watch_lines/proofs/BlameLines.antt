-- Lines of faults.
use Rattle.std.specs.Prelude.{◌≡◌, ℕ, Bool, true, false, List, reverse, map, Option, Some, None, Result, Ok, Err, IfOk, refl}
use Rattle.std.proofs.Common.{sym, ap, ◌∙◌, subst, true≢false}
use Rattle.std.specs.declared.alloc.AllocError.{AllocError}
use Rattle.dh_command.specs.Answer.{BlameLine, IsIllLine, why_alone, with_place}
use Rattle.dh_command.specs.declared.statuses.Status.TheVariants as status
use Rattle.dh_command.specs.PlacedFaults.{ill_line_at, placed_line}
use Rattle.dh_command.specs.Statuses.{why_status}
use Rattle.dh_demand.specs.Results.{ask_of}
use Rattle.dh_demand.specs.Scans.{text_key}
use Rattle.dh_grammar.proofs.Results.Answering.{parses_once}
use Rattle.dh_import_laws.proofs.ByLocation.{paths_by_location}
use Rattle.dh_import_laws.specs.Blames.{StandsIn}
use Rattle.dh_imports.specs.declared.outcomes.Blame.{Blame}
use Rattle.dh_imports.specs.declared.outcomes.Why.{Why}
use Rattle.dh_imports.specs.declared.outcomes.Why.TheVariants as whys
use Rattle.dh_imports.specs.ImportFaults.{ill_of, in_item, why_line}
use Rattle.dh_imports.specs.Readings.{Reading}
use Rattle.dh_imports.specs.Records.{Found, Record, text_at}
use Rattle.dh_imports.specs.TextPaths.{text_path}
use Rattle.dh_imports.specs.Walk.{Ask}
use Rattle.dh_laws.proofs.KeyOrder.{none-some, some-equal}
use Rattle.dh_record.specs.Rows.{rows_of}
use Rattle.dh_syntax.specs.declared.faults.Ill.{Ill}
use Rattle.dh_syntax.specs.declared.faults.ParseFault.{ParseFault}
use Rattle.dh_syntax.specs.declared.faults.TypeFault.TheVariants as type_faults
use Rattle.dh_syntax.specs.declared.locations.Key.{Key}
use Rattle.dh_syntax.specs.Expressions.Tree.{Term}
use Rattle.dh_syntax.specs.Text.Places.{column_at, line_at, start_of}
use Rattle.dh_syntax.specs.Text.Spans.{Spans, SpellsAt}
use Rattle.dh_syntax.specs.Text.Spelling.{ParsesTo}
use Rattle.dh_watch_laws.specs.Kept.{known}
use Rattle.dh_watch_lines.specs.declared.lines.Told.{Told}
use Rattle.dh_watch_lines.specs.Lines.{IsTold, TellsBlame, TellsPlace}
use Rattle.dh_watch_rows.specs.declared.rows.Rows.{Rows}
use Rattle.dh_watch_rows.specs.KeptRows.{IsGood, kept_of}

-- ---- one expression is spelled by a text, or none

abbrev term_of : Result Term ParseFault → Term → Term
term_of (Ok e) d = e
term_of (Err f) d = d

same_term : (text : List ℕ) (e f : Term) → ParsesTo text (Ok e) → ParsesTo text (Ok f) → e ≡ f
same_term text e f p q = ap (λ r. term_of r e) (parses_once text (Ok e) (Ok f) p q)

abbrev is_spelled : Result Term ParseFault → Bool
is_spelled (Ok e) = true
is_spelled (Err f) = false

pub not_both : (text : List ℕ) (e : Term) (f : ParseFault) → ParsesTo text (Ok e) → ParsesTo text (Err f) → ⊥
not_both text e f p q = true≢false (ap is_spelled (parses_once text (Ok e) (Err f) p q))

-- ---- a place in a text

told_as : (t : Told) (at : Option Key) (line line' : List ℕ) → line ≡ line' → IsTold t (in_item at line) status.Ill → IsTold t (in_item at line') status.Ill
told_as t at line line' same w = (w.0 ∙ ap (in_item at) same, w.1)

pub told_at : (r : Result Told AllocError) (at : Option Key) (text : List ℕ) (d : Term) (nodes : Spans) (path : List ℕ) (f : Ill) (l c : ℕ) (bytes : List ℕ)
    → SpellsAt text d nodes → l ≡ line_at text (start_of nodes path) → c ≡ column_at text (start_of nodes path) → bytes ≡ placed_line f l c
    → IfOk r (λ t. IsTold t (in_item at bytes) status.Ill) → IfOk r (λ t. (e : Term) → ParsesTo text (Ok e) → TellsPlace at text e path f t)
told_at (Err x) at text d nodes path f l c bytes s p q b w = tt
told_at (Ok t) at text d nodes path f l c bytes s p q b w = λ e parsed.
    let all : bytes ≡ ill_line_at text nodes path f = b ∙ ap (λ l. placed_line f l c) p ∙ ap (λ c. placed_line f (line_at text (start_of nodes path)) c) q in
    record {
      nodes = nodes;
      stand = subst (λ d. SpellsAt text d nodes) (same_term text d e s.0 parsed) s;
      told = told_as t at bytes (ill_line_at text nodes path f) all w;
    }

-- ---- a fault that is no place without a type

pub told_alone : (r : Result Told AllocError) (rec : Record) (b : Blame) (at : Option Key) → at ≡ b.at → ill_of b.why ≡ None
    → IfOk r (λ t. IsTold t (in_item at (why_line b.why)) (why_status b.why)) → IfOk r (TellsBlame rec b)
told_alone (Ok t) rec b at same none w = (why_alone none (w.0 ∙ ap (λ a. in_item a (why_line b.why)) same), w.1)
told_alone (Err e) rec b at same none w = tt

-- ---- a place without a type, in the text of its key

ill_status : (w : Why) (f : Ill) → ill_of w ≡ Some f → why_status w ≡ status.Ill
ill_status (whys.Typing (type_faults.Ill g)) f h = refl
ill_status w f h = none-some refl h

-- the text in which a fault stands is found at the location of its key, and spells an expression
pub stands_found : (rec : Record) (ask : Ask) (b : Blame) (f : Ill) (k : Key) → b.at ≡ Some k → (s : StandsIn rec ask b f)
    → text_at rec k.loc ≡ Some (Found s.text s.reading.allow (Ok s.spelled))
stands_found rec ask b f k at s = subst (λ (j : Key). text_at rec j.loc ≡ Some (Found s.text s.reading.allow (Ok s.spelled))) (some-equal (sym s.reading.is_at ∙ at)) s.reading.found

pub stands_parsed : (rows : Rows) (ask : Ask) (b : Blame) (f : Ill) → IsGood rows → (s : StandsIn (kept_of rows).recorded ask b f) → ParsesTo s.text (Ok s.spelled)
stands_parsed rows ask b f g s = g.parsed s.reading.key.loc (Found s.text s.reading.allow (Ok s.spelled)) s.reading.found

ill_blame : (rec : Record) (ask : Ask) (b : Blame) (f : Ill) (path : List ℕ) (t : Told) → ill_of b.why ≡ Some f → (s : StandsIn rec ask b f)
    → path ≡ text_path b.at ask s.spelled f.path → TellsPlace b.at s.text s.spelled path f t → TellsBlame rec b t
ill_blame rec ask b f path t told s same p = (
  with_place f (record { at = b.at; text = s.text; spelled = s.spelled; ask = ask }) s.value told refl s.reading s.refused
      (record { nodes = p.nodes; stand = p.stand; line_is = p.told.0 ∙ ap (λ z. in_item b.at (ill_line_at s.text p.nodes z f)) same }),
  p.told.1 ∙ sym (ill_status b.why f told),
)

pub told_in_text : (r : Result Told AllocError) (rows : Rows) (b : Blame) (f : Ill) (k : Key) (at : Option Key) (text path places : List ℕ) → IsGood rows → ill_of b.why ≡ Some f
    → (s : StandsIn (kept_of rows).recorded (known (kept_of rows).outcomes) b f) → b.at ≡ Some k → at ≡ Some k → text ≡ s.text → places ≡ f.path
    → ((bytes : List ℕ) (allow : Option (List ℕ)) (e : Term) → text_at (kept_of rows).recorded k.loc ≡ Some (Found bytes allow (Ok e))
    → path ≡ text_path (text_key (Some k.loc)) (ask_of (rows_of rows.keys)) e places)
    → IfOk r (λ t. (e : Term) → ParsesTo text (Ok e) → TellsPlace at text e path f t)
    → IfOk r (TellsBlame (kept_of rows).recorded b)
told_in_text (Err e) rows b f k at text path places g told s is_at same is_text same_places paths h = tt
told_in_text (Ok t) rows b f k at text path places g told s is_at same is_text same_places paths h =
    ill_blame (kept_of rows).recorded ask b f path t told s here placed
  where
    ask : Ask
    ask = known (kept_of rows).outcomes

    here : path ≡ text_path b.at ask s.spelled f.path
    here =
        paths s.text s.reading.allow s.spelled (stands_found (kept_of rows).recorded ask b f k is_at s)
        ∙ (ap (λ a. text_path (text_key (Some k.loc)) a s.spelled places) (sym g.asks)
        ∙ (paths_by_location _ k ask s.spelled places refl
        ∙ (ap (λ p. text_path (Some k) ask s.spelled p) same_places ∙ ap (λ a. text_path a ask s.spelled f.path) (sym is_at))))

    placed : TellsPlace b.at s.text s.spelled path f t
    placed = subst (λ a. TellsPlace a s.text s.spelled path f t) (same ∙ sym is_at)
        (subst (λ u. TellsPlace at u s.spelled path f t) is_text (h s.spelled (subst (λ u. ParsesTo u (Ok s.spelled)) (sym is_text) (stands_parsed rows ask b f g s))))

use Rattle.std.specs.Prelude.{◌≡◌, ℕ, [], length, map, None}
use Rattle.std.proofs.Common.{ap, sym, ◌∙◌, subst as along}
use Rattle.std.proofs.lemmas.Result.{IfOk-weaker}
use Rattle.dh_syntax.specs.Expressions.Bridge.{term}
use Rattle.dh_imports.specs.Keeps.{AreKeeps}
use Rattle.dh_imports.specs.Machine.{outcome_of, root_walk}
use Rattle.dh_imports.specs.Resolver.{resolve}
use Rattle.dh_imports.specs.Walk.{Ready, walk}
use Rattle.dh_record.specs.Keeping.{AreVisited, AreLeast, AreEntries}
use Rattle.dh_record.specs.Reading.{record_by}
use Rattle.dh_record.specs.Kept.{pair_of}
use Rattle.dh_table.specs.Shown.{Shown}
use Rattle.dh_table.specs.States.{record_of, state_of}
use Rattle.dh_table.specs.Tables.{view_of}
use Rattle.dh_table.proofs.Keeping.{table_keeps}
use Rattle.dh_table.proofs.tables.Table.ready_keeps.Goals as goal

pub returns : goal.returns
returns g c =
    let t = view_of {W = g.row.W.Denot} c.self.inside in
    let marks = c.mark_visited.new.marks in
    let found = c.in_ok-found.found.items in
    let texts_are : c.found_texts-texts.result ≡ t.texts = c.found_texts-texts.ensures ∙ ap (λ (x : Shown). x.texts) (sym c.self.view_is) in
    let looks_are : c.found_looks-looks.result ≡ t.looks = c.found_looks-looks.ensures ∙ ap (λ (x : Shown). x.looks) (sym c.self.view_is) in
    let visits : AreVisited (record_by t.texts t.looks) (term t.root.expr) t.keys marks =
    along (λ ts. AreVisited (record_by ts t.looks) (term t.root.expr) t.keys marks) texts_are
    (along (λ ls. AreVisited (record_by c.found_texts-texts.result ls) (term t.root.expr) t.keys marks) looks_are c.mark_visited.ensures.visited) in
    let least : AreLeast t.keys t.looks marks (length t.keys) found = along (λ ls. AreLeast t.keys ls marks (length t.keys) found) looks_are c.in_ok-found.ensures in
    let ready : walk None (outcome_of (state_of t)) (term t.root.expr) ≡ Ready c.requires.0 = along (λ (x : Shown). root_walk (state_of x) ≡ Ready c.requires.0) (sym c.self.view_is) c.requires.1 in
    IfOk-weaker c.entries_of.result (λ es. AreEntries t.keys c.as_slice.result.now (map pair_of es)) _
    (λ es h.
    along (λ (x : Shown). (n : ℕ) × AreKeeps (record_of x) (resolve (record_of x) n []) (term x.root.expr) (map pair_of es)) c.self.view_is
    (table_keeps t marks found (map pair_of es) c.requires.0 c.self.invariant.replays c.self.invariant.known.distinct c.self.invariant.asks visits least (along (λ ns. AreEntries t.keys ns (map pair_of es)) c.as_slice.ensures.value h) ready))
    c.entries_of.ensures

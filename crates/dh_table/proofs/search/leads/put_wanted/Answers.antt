use Rattle.std.proofs.Common.{◌≡◌, arith, length, ℕ, subst as along}
use Rattle.std.specs.Prelude.{List, false}
use Rattle.std.specs.Option.{option_copied}
use Rattle.std.proofs.lemmas.List.{length-map}
use Rattle.dh_syntax.specs.Expressions.Bridge.{term}
use Rattle.dh_demand.specs.declared.scans.Edge.{Edge}
use Rattle.dh_demand.specs.Results.{ask_of}
use Rattle.dh_table.specs.Inside.Searching.{AreEdgesPut, HasEdge}
use Rattle.dh_record.specs.Marks.{is_set}
use Rattle.dh_record.specs.Rows.{rows_of, row_of_entrant}
use Rattle.dh_table.proofs.Searched.{wants_put}
use Rattle.dh_table.proofs.search.leads.put_wanted.Goals as goal

pub returns-clause-put : goal.returns-clause-put
returns-clause-put c =
    let rows = rows_of c.args.keys.now in
    let scan = c.args.scan.now in
    let start = c.unmark.new.marks in
    let marks = c.wanted.new.marks in
    let old = c.args.explored.now.piles in
    let new = c.put_edges.new.piles in
    wants_put (option_copied c.args.parent) rows (ask_of rows) (term scan.expr) scan.edges c.requires.fits start marks
    (let a = length-map c.args.keys.now row_of_entrant in let b = c.unmark.ensures.len in let d = c.requires.room.marks in omega arith)
    (along (λ (es : List Edge). (x : ℕ) → HasEdge (length es) es x → is_set start x ≡ false) c.as_slice-edges.ensures c.unmark.ensures.off) c.wanted.ensures old new
    (along (λ (es : List Edge). AreEdgesPut (length es) es marks old new) c.as_slice-edges.ensures c.put_edges.ensures.put)

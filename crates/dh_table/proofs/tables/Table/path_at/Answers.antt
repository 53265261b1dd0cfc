use Rattle.std.proofs.Common.{rules, ◌≡◌, ◌∙◌, Some, Ok, map, reverse, sym, ap, subst as along}
use Rattle.dh_syntax.specs.Expressions.Bridge.{term}
use Rattle.dh_syntax.specs.Expressions.SameTree.{loc_eq}
use Rattle.dh_imports.specs.Machine.{outcome_of}
use Rattle.dh_imports.specs.Records.{lookup, text_at}
use Rattle.dh_imports.specs.TextPaths.{text_path}
use Rattle.dh_imports.specs.Walk.{Ask}
use Rattle.dh_demand.specs.Results.{ask_of}
use Rattle.dh_demand.specs.Scans.{text_key}
use Rattle.dh_laws.proofs.KeyOrder.{some-equal}
use Rattle.dh_ports.specs.declared.worlds.Got.TheVariants as gots
use Rattle.dh_record.specs.declared.news.Noted.TheVariants as noteds
use Rattle.dh_record.specs.Finds.{path_found}
use Rattle.dh_record.specs.Reading.{noted_of}
use Rattle.dh_record.specs.Rows.{noted_by, rows_of, scanned, text_of}
use Rattle.dh_table.specs.States.{record_of, state_of}
use Rattle.dh_record.proofs.ReadBack.{ok_with, found_is}
use Rattle.dh_table.proofs.tables.Table.path_at.Goals as goal

pub returns-in-Got-Found-Some-Ok-clause-exact : goal.returns-in-Got-Found-Some-Ok-clause-exact
returns-in-Got-Found-Some-Ok-clause-exact g c =
    let t = c.self.inside in
    let text = c.in-Some.text.now in
    let here = c.args.loc.now in
    let asks : ask_of (rows_of c.args.self.now.keys) ≡ outcome_of (state_of c.args.self.now) =
    sym (along (λ v. outcome_of (state_of v) ≡ ask_of (rows_of v.keys)) c.self.view_is c.self.invariant.asks) in
    let kept : Some (noted_of text) ≡ lookup loc_eq (reverse (map text_of t.texts.items)) here =
    along (λ xs. Some (noted_of text) ≡ lookup loc_eq (reverse (map text_of xs)) here) (c.of-texts.ensures ∙ c.as_slice.ensures.value) c.in-Some.ensures.noted in
    let noted : Some (noted_of text) ≡ text_at (record_of c.args.self.now) here = along (λ v. Some (noted_of text) ≡ text_at (record_of v) here) c.self.view_is kept in
    let read : text.read ≡ Some (Ok c.in-Got-Found-Some-Ok.scan) = search rules in
    let got : text.got ≡ noteds.Got (gots.Found c.in-Got-Found-Some-Ok._found) = search rules in
    let spelled : Some (noted_of text) ≡ Some (noted_by (noteds.Got (gots.Found c.in-Got-Found-Some-Ok._found)) (Some (Ok (term c.in-Got-Found-Some-Ok.scan.expr)))) =
    ap (λ r. Some (noted_by text.got (scanned r))) read ∙ ap (λ x. Some (noted_by x (Some (Ok (term c.in-Got-Found-Some-Ok.scan.expr))))) got in
    ok_with c.text_path.result
    (λ p h.
    h ∙ ap (λ (ask : Ask). text_path (text_key (Some here)) ask (term c.in-Got-Found-Some-Ok.scan.expr) c.args.path.now) asks
    ∙ ap (path_found (λ e. text_path (text_key (Some here)) (outcome_of (state_of c.args.self.now)) e c.args.path.now)) (sym spelled ∙ noted))
    c.text_path.ensures

pub returns-in-Got-Found-Some-Ok-clause-found : goal.returns-in-Got-Found-Some-Ok-clause-found
returns-in-Got-Found-Some-Ok-clause-found g c =
    let t = c.self.inside in
    let text = c.in-Some.text.now in
    let here = c.args.loc.now in
    let asks : ask_of (rows_of c.args.self.now.keys) ≡ outcome_of (state_of c.args.self.now) =
    sym (along (λ v. outcome_of (state_of v) ≡ ask_of (rows_of v.keys)) c.self.view_is c.self.invariant.asks) in
    let kept : Some (noted_of text) ≡ lookup loc_eq (reverse (map text_of t.texts.items)) here =
    along (λ xs. Some (noted_of text) ≡ lookup loc_eq (reverse (map text_of xs)) here) (c.of-texts.ensures ∙ c.as_slice.ensures.value) c.in-Some.ensures.noted in
    let noted : Some (noted_of text) ≡ text_at (record_of c.args.self.now) here = along (λ v. Some (noted_of text) ≡ text_at (record_of v) here) c.self.view_is kept in
    let read : text.read ≡ Some (Ok c.in-Got-Found-Some-Ok.scan) = search rules in
    let spelled : noted_of text ≡ noted_by text.got (scanned (Some (Ok c.in-Got-Found-Some-Ok.scan))) = ap (λ r. noted_by text.got (scanned r)) read in
    ok_with c.text_path.result
    (λ p h bytes allow e found.
    h ∙ ap (λ (ask : Ask). text_path (text_key (Some here)) ask (term c.in-Got-Found-Some-Ok.scan.expr) c.args.path.now) asks
    ∙ ap (λ x. text_path (text_key (Some here)) (outcome_of (state_of c.args.self.now)) x c.args.path.now)
    (found_is text.got (term c.in-Got-Found-Some-Ok.scan.expr) bytes allow e (sym spelled ∙ some-equal (noted ∙ found))))
    c.text_path.ensures

use Rattle.std.proofs.Common.{◌≡◌, [], ◌∷◌, map, ap, sym, ◌∙◌, subst, false, true}
use Rattle.std.specs.Prelude.{IfSome}
use Rattle.dh_syntax.specs.Expressions.Bridge.{term}
use Rattle.dh_syntax.specs.Expressions.Tree.{Term}
use Rattle.dh_imports.specs.Machine.{State, opening}
use Rattle.dh_imports.specs.Replay.{has_too_many, root_end}
use Rattle.dh_table.specs.Roots.{IsFitEnd}
use Rattle.dh_table.specs.Shown.{Shown}
use Rattle.dh_table.specs.States.{state_of}
use Rattle.dh_session.specs.Ended.{Ends}
use Rattle.dh_imports.specs.RootEnds.{EndsBy}
use Rattle.dh_session.proofs.Answering.{ok_map, ok_both, no_fault}
use Rattle.dh_session.proofs.single.resolve_one.Goals as goal

pub returns-clause-ends : goal.returns-clause-ends
returns-clause-ends g c =
    ok_map c.answer_of.result (λ a. a.table ≡ c.in_ok-closed.closed) (λ a. Ends {D = g.row.D.Denot} (λ d. g.D.Desk.asked d) (λ d. g.D.Desk.faults d) (c.args.desk.now ∷ []) (c.run_one.new.desk ∷ []) a.table)
    (λ a same. subst (λ t. Ends {D = g.row.D.Denot} (λ d. g.D.Desk.asked d) (λ d. g.D.Desk.faults d) (c.args.desk.now ∷ []) (c.run_one.new.desk ∷ []) t) (sym same) c.in_ok-closed.ensures.ends)
    c.answer_of.ensures.same

pub returns-clause-resolved : goal.returns-clause-resolved
returns-clause-resolved g c =
    let root : term c.in_ok-closed.closed.root.expr ≡ term c.args.root = ap term c.in_ok-closed.ensures.root ∙ ap (λ (s : State). s.root) c.in_ok-table.ensures.opened.state_is in
    ok_both c.answer_of.result (λ a. a.table ≡ c.in_ok-closed.closed) (λ a. IfSome (root_end (state_of a.table)) (EndsBy (state_of a.table).recorded (state_of a.table).root))
    (λ a. IfSome (root_end (state_of a.table)) (EndsBy (state_of a.table).recorded (term c.args.root)))
    (λ a same is. subst (λ e. IfSome (root_end (state_of a.table)) (EndsBy (state_of a.table).recorded e)) (ap (λ (t : Shown). term t.root.expr) same ∙ root) is)
    c.answer_of.ensures.same c.answer_of.ensures.resolved

pub returns-clause-fits : goal.returns-clause-fits
returns-clause-fits g c =
    let root : term c.in_ok-closed.closed.root.expr ≡ term c.args.root = ap term c.in_ok-closed.ensures.root ∙ ap (λ (s : State). s.root) c.in_ok-table.ensures.opened.state_is in
    ok_both c.answer_of.result (λ a. a.table ≡ c.in_ok-closed.closed) (λ a. IsFitEnd (state_of a.table).root a.ended) (λ a. IsFitEnd (term c.args.root) a.ended)
    (λ a same is. subst (λ e. IsFitEnd e a.ended) (ap (λ (t : Shown). term t.root.expr) same ∙ root) is)
    c.answer_of.ensures.same c.answer_of.ensures.fits

pub returns-clause-few : goal.returns-clause-few
returns-clause-few g c =
    ok_map c.answer_of.result (λ a. a.table ≡ c.in_ok-closed.closed) (λ a. has_too_many (opening (term c.args.root)) ≡ false) (λ a same. c.in_ok-table.ensures.few) c.answer_of.ensures.same

pub returns-clause-too_many : goal.returns-clause-too_many
returns-clause-too_many g c = no_fault (has_too_many (opening (term c.args.root)) ≡ true) c.answer_of.result c.answer_of.ensures.memory

pub returns-clause-alone : goal.returns-clause-alone
returns-clause-alone g c = no_fault (c.run_one.new.desk ≡ c.args.desk.now) c.answer_of.result c.answer_of.ensures.memory

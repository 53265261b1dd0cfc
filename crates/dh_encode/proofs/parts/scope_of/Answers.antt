use Rattle.std.proofs.Common.{sym, ap, ◌∙◌}
use Rattle.std.specs.Prelude.{is_some}
use Rattle.std.proofs.lemmas.Bool.{false≢true}
use Rattle.dh_syntax.proofs.Arity.{binding_none, binding_no, binding_yes}
use Rattle.dh_encode.proofs.KidsByPlace.{row_scope}
use Rattle.dh_encode.proofs.parts.scope_of.Goals as goal

pub unreachable-requires : goal.unreachable-requires
unreachable-requires c =
    false≢true (sym (binding_no c.requires.0 c.args.kids.now c.in-Some.front.now c.in-Some.last.now c.in-Some.ensures.cases.0 (ap is_some c.in-None-binder.is)) ∙ c.requires.1)

pub unreachable-requires-in-None : goal.unreachable-requires-in-None
unreachable-requires-in-None c = false≢true (sym (binding_none c.requires.0 c.args.kids.now c.in-None.ensures.cases) ∙ c.requires.1)

pub returns-clause-whole : goal.returns-clause-whole
returns-clause-whole c = row_scope c.args.kids.now c.in-Some.front.now c.in-Some.last.now c.in-Some-binder.name c.in-Some.ensures.cases.0 c.in-Some-binder.is

pub returns-clause-front : goal.returns-clause-front
returns-clause-front c =
    λ n h. sym (binding_yes n c.args.kids.now c.in-Some.front.now c.in-Some.last.now c.in-Some.ensures.cases.0 (ap is_some c.in-Some-binder.is)) ∙ h

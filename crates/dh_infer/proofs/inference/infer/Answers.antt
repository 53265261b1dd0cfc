use Rattle.std.proofs.Common.{◌+◌, ◌^◌, sym, arith, subst as along}
use Rattle.dh_syntax.specs.Expressions.Bridge.{term}
use Rattle.dh_syntax.specs.Limits.{most_nesting}
use Rattle.dh_syntax.specs.Names.Indices.{IndicesBelow}
use Rattle.dh_syntax.specs.Typing.Inference.{Has}
use Rattle.dh_terms.specs.Cores.{nameless}
use Rattle.dh_norm.proofs.Running.{handed-on}
use Rattle.dh_infer.specs.NamedTypes.{IsTypeOf}
use Rattle.dh_infer.specs.Inside.Lettered.{lettered}
use Rattle.dh_infer.specs.Inside.Levels.{IsOf}
use Rattle.dh_infer.specs.Inside.TypeAnswers.{Answers, AnswersFault}
use Rattle.dh_infer.proofs.Emptiness.{program-closed}
use Rattle.dh_infer.proofs.NamedAnswers.{type-named, fault-named}
use Rattle.dh_infer.proofs.TypeIndices.{low-type}
use Rattle.dh_infer.proofs.inference.infer.Goals as goal

pub type_nameless-requires-clause-closed : goal.type_nameless-requires-clause-closed
type_nameless-requires-clause-closed c = along (λ d. IsOf 0 (lettered d)) (sym c.in_ok-core.ensures.form) (program-closed (term c.args.e.now))

pub returns-in_err-typed-clause-err : goal.returns-in_err-typed-clause-err
returns-in_err-typed-clause-err c =
    handed-on c.from_residual-in_err-typed.result c.in_err-typed.field-0.0 _ c.from_residual-in_err-typed.ensures.1
    (fault-named c.args.purse.now.left (term c.args.e.now) c.in_err-typed.field-0.0
    (along (λ d. AnswersFault c.args.purse.now.left d c.in_err-typed.field-0.0) c.in_ok-core.ensures.form c.in_err-typed.ensures.err))

pub from_core-requires : goal.from_core-requires
from_core-requires c =
    low-type (2 ^ 31) (2 ^ 32) (term c.args.e.now) (nameless c.in_ok-core.core) (nameless c.in_ok-typed.typed) c.args.purse.now.left c.type_nameless.new.purse.left
    c.requires.indices c.in_ok-core.ensures.form c.in_ok-typed.ensures.ok (let p = c.in_ok-typed.ensures.shallow in omega (arith, p))

pub returns-clause-ok : goal.returns-clause-ok
returns-clause-ok c =
    along (IsTypeOf c.args.purse.now.left c.type_nameless.new.purse.left (term c.args.e.now)) (sym c.in_ok-named.ensures.form)
    (type-named c.args.purse.now.left c.type_nameless.new.purse.left (term c.args.e.now) (nameless c.in_ok-typed.typed)
    (along (λ d. Answers c.args.purse.now.left d (Has (nameless c.in_ok-typed.typed) c.type_nameless.new.purse.left)) c.in_ok-core.ensures.form c.in_ok-typed.ensures.ok))

pub returns-clause-indices : goal.returns-clause-indices
returns-clause-indices c =
    along (IndicesBelow (2 ^ 31 + most_nesting)) (sym c.in_ok-named.ensures.form)
    (low-type (2 ^ 31) (2 ^ 31 + most_nesting) (term c.args.e.now) (nameless c.in_ok-core.core) (nameless c.in_ok-typed.typed) c.args.purse.now.left c.type_nameless.new.purse.left
    c.requires.indices c.in_ok-core.ensures.form c.in_ok-typed.ensures.ok (let p = c.in_ok-typed.ensures.shallow in omega (arith, p)))

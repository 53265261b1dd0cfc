use Rattle.std.proofs.Common.{◌≡◌, ◌<◌, IfSome, None, Option, drop, option_map}
use Rattle.dh_syntax.specs.Names.Nameless.{Core}
use Rattle.dh_syntax.specs.Typing.NamelessTyping.{core_scopes}
use Rattle.dh_syntax.specs.Typing.TypeRuling.{Ruling}
use Rattle.dh_syntax.specs.Typing.TypeRulesUnions.{all_handled}
use Rattle.dh_store.specs.Cells.{code_core}
use Rattle.dh_store.specs.Growth.{count}
use Rattle.dh_types.specs.Following.{follow, Facts}
use Rattle.dh_types.specs.Parts.{alternatives_of, fields_of}
use Rattle.dh_typerows.proofs.merges.all_handled.Given as goal

abbrev pub invariant-loop-i : goal.invariant-loop-i
invariant-loop-i l = record {
  rule : (facts : Facts Core) (next : Option Core → Ruling Core)
      → follow facts (all_handled core_scopes (option_map (code_core l.codes) l.outcome) (fields_of (code_core l.codes) (drop l.i l.labels) (drop l.i l.handlers)) (alternatives_of (code_core l.codes) (drop l.i l.alts) l.rest) next)
      ≡ follow facts (all_handled core_scopes None (fields_of (code_core l.codes) l.labels l.handlers) (alternatives_of (code_core l.codes) l.alts l.types) next);
  there : IfSome l.outcome (λ q. q < count l.codes);
}

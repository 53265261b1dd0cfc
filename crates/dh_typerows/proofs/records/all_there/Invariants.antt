use Rattle.std.proofs.Common.{◌≡◌, drop}
use Rattle.dh_syntax.specs.Typing.NamelessTyping.{core_scopes}
use Rattle.dh_syntax.specs.Typing.TypeRulesRecords.{all_there}
use Rattle.dh_store.specs.Cells.{code_core}
use Rattle.dh_types.specs.Parts.{fields_of}
use Rattle.dh_typerows.proofs.records.all_there.Given as goal

abbrev pub invariant-loop-i : goal.invariant-loop-i
invariant-loop-i l =
    all_there core_scopes (fields_of (code_core l.codes) l.labels l.kids) (fields_of (code_core l.codes) (drop l.i l.others) (drop l.i l.other_kids))
    ≡ all_there core_scopes (fields_of (code_core l.codes) l.labels l.kids) (fields_of (code_core l.codes) l.others l.other_kids)

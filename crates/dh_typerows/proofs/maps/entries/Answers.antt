use Rattle.std.proofs.Common.{◌∙◌}
use Rattle.std.proofs.lemmas.Result.{IfOk-weaker}
use Rattle.dh_store.specs.Cells.{code_core}
use Rattle.dh_types.specs.Following.{facts_of}
use Rattle.dh_typerows.proofs.EntryLists.{entries-some}
use Rattle.dh_typerows.proofs.maps.entries.Goals as goal

pub returns-in-len1-up-clause-rule : goal.returns-in-len1-up-clause-rule
returns-in-len1-up-clause-rule c =
    IfOk-weaker c.some_entries.result _ _
    (λ d h. h ∙ entries-some (code_core c.args.codes.now) (facts_of (code_core c.args.codes.now) c.args.found.now) c.args.annotated c.args.labels.now c.args.kids.now c.first-item.result c.in-len1-up.len_at_least c.requires.paired c.first-item.is)
    c.some_entries.ensures.rule

use Rattle.std.proofs.lemmas.Result.{IfOk-weaker}
use Rattle.dh_parse.proofs.Parsings.{spelled, refused_so, spellable}
use Rattle.dh_parse.proofs.texts.parse.Goals as goal

pub returns-clause-spelled : goal.returns-clause-spelled
returns-clause-spelled c = spelled _ _ c.parse_bytes.ensures

pub returns-clause-refused : goal.returns-clause-refused
returns-clause-refused c = refused_so _ _ c.parse_bytes.ensures

pub returns-clause-spellable : goal.returns-clause-spellable
returns-clause-spellable c = spellable _ _ c.parse_bytes.ensures

pub returns-clause-well_formed : goal.returns-clause-well_formed
returns-clause-well_formed c = IfOk-weaker c.parse_bytes.result _ _ (λ e h. h.0) (spellable _ _ c.parse_bytes.ensures)

pub returns-clause-shallow : goal.returns-clause-shallow
returns-clause-shallow c = IfOk-weaker c.parse_bytes.result _ _ (λ e h. h.1) (spellable _ _ c.parse_bytes.ensures)

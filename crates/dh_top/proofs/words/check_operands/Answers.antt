use Rattle.std.proofs.Common.{◌∙◌, map, string_bytes, sym}
use Rattle.dh_top.proofs.Operands.{files_checked, number_checked, places_checked, rule_checked}
use Rattle.dh_top.proofs.words.check_operands.Goals as goal

pub returns-then-takes_rule : goal.returns-then-takes_rule
returns-then-takes_rule c =
    rule_checked c.args.verb c.args.at (map string_bytes c.args.rest.now) c.check_rule.result (sym c.takes_rule.ensures ∙ c.if-takes_rule.true) c.check_rule.ensures

pub returns-then-takes_files : goal.returns-then-takes_files
returns-then-takes_files c =
    files_checked c.args.verb c.args.at (map string_bytes c.args.rest.now) c.check_files.result (sym c.takes_rule.ensures ∙ c.if-takes_rule.false)
    (sym c.takes_files.ensures ∙ c.if-takes_files.true) c.check_files.ensures

pub returns-then-takes_number : goal.returns-then-takes_number
returns-then-takes_number c =
    number_checked c.args.verb c.args.at (map string_bytes c.args.rest.now) c.check_number.result (sym c.takes_rule.ensures ∙ c.if-takes_rule.false)
    (sym c.takes_files.ensures ∙ c.if-takes_files.false) (sym c.takes_number.ensures ∙ c.if-takes_number.true) c.check_number.ensures

pub returns-else-takes_number : goal.returns-else-takes_number
returns-else-takes_number c =
    places_checked c.args.verb c.args.at c.most_operands.result (map string_bytes c.args.rest.now) c.check_places.result (sym c.takes_rule.ensures ∙ c.if-takes_rule.false)
    (sym c.takes_files.ensures ∙ c.if-takes_files.false) (sym c.takes_number.ensures ∙ c.if-takes_number.false) c.most_operands.ensures c.check_places.ensures

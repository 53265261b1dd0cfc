use Rattle.std.proofs.Common.{sym, ◌∙◌}
use Rattle.dh_watch_files.proofs.LocOrder.{comes_before, comes_behind, comes_neither}
use Rattle.dh_watch_files.proofs.ordered_locs.OrderedLocOrd.cmp.Goals as goal

pub returns-then-is_loc_before : goal.returns-then-is_loc_before
returns-then-is_loc_before c = sym (comes_before c.args.self.now.loc c.args.other.now.loc (sym c.is_loc_before.ensures ∙ c.if-is_loc_before.true))

pub returns-then-is_loc_before-2 : goal.returns-then-is_loc_before-2
returns-then-is_loc_before-2 c = sym (comes_behind c.args.self.now.loc c.args.other.now.loc (sym c.is_loc_before-2.ensures ∙ c.if-is_loc_before-2.true))

pub returns : goal.returns
returns c =
    sym (comes_neither c.args.self.now.loc c.args.other.now.loc
    (sym c.is_loc_before.ensures ∙ c.if-is_loc_before.false)
    (sym c.is_loc_before-2.ensures ∙ c.if-is_loc_before-2.false))

use Rattle.std.proofs.Common.{sym, ◌∙◌, refl}
use Rattle.std.specs.Option.{option_copied}
use Rattle.dh_syntax.specs.Expressions.Bridge.{term}
use Rattle.dh_demand.proofs.Wanting.{marks_are}
use Rattle.dh_demand.proofs.wants.mark_asked.Goals as goal

pub returns : goal.returns
returns g c =
    marks_are c.args.all (option_copied c.args.parent) (g.R.Results.rows c.args.results.now) (term c.args.scan.now.expr) _ _ _ _ _ _ _ refl (sym c.as_mut_slice.ensures.len)
    (c.as_mut_slice.ensures.value ∙ c.marks.view_is) (c.walk_in-next.ensures.came (rw c.as_slice.ensures c.requires.fits.begins)).slots_are

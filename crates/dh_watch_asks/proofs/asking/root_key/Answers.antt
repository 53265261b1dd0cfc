use Rattle.std.specs.Prelude.{None}
use Rattle.std.proofs.Common.{ap, sym, ◌∙◌}
use Rattle.dh_syntax.specs.declared.locations.Key.{Key}
use Rattle.dh_syntax.specs.declared.locations.Loc.{Loc}
use Rattle.dh_syntax.specs.declared.locations.Mode.TheVariants as modes
use Rattle.dh_watch_asks.proofs.asking.root_key.Goals as goal

-- the code of a location
code_at : Loc → Key
code_at l = record { loc = l; mode = modes.Code; digest = None }

pub returns : goal.returns
unfolding code_at
returns c = ap code_at (c.in_ok-loc.ensures ∙ sym c.requires.canonical)

-- What the labels of a projection stand for.
use Rattle.dh_syntax.specs.Text.Derivation.{Keys}
use Rattle.dh_making.specs.Words.{keys_of}
use Rattle.dh_making.specs.declared.projections.Projection.{Projection}

-- the keys of a projection
abbrev pub projection_of : Projection → Keys
projection_of p = keys_of p.keys

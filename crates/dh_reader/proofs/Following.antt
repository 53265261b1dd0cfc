-- Where the machine goes elsewhere the same way.
use Rattle.std.proofs.Common.{◌≡◌, ◌∙◌}
use Rattle.std.proofs.lemmas.Result.{MatchResult-weaker}
use Rattle.std.specs.Prelude.{Result}
use Rattle.dh_grammar.specs.Machine.{State}
use Rattle.dh_grammar.specs.Making.{Sorts}
use Rattle.dh_making.specs.Views.{Views}
use Rattle.dh_making.specs.declared.making.Makes.{Ghosts}
use Rattle.dh_reader.specs.Follows.{Follows}
use Rattle.dh_reader.specs.declared.reader.Reader.{Reader}
use Rattle.dh_reader.specs.declared.stops.Stop.{Stop}

pub follows : {M Tree Note Lets Chunks Items Alternatives Fields Entry Entries : Type 0} {K : Sorts} (v : Views Tree Note Lets Chunks Items Alternatives Fields Entry Entries K)
    {G : Ghosts M Tree Note Lets Chunks Items Alternatives Fields Entry Entries} (s t : State K) (reader : Reader M Tree Note Lets Chunks Items Alternatives Fields Entry Entries G) (result : Result (Unit {0}) Stop)
    → s ≡ t → Follows v t reader result → Follows v s reader result
follows v s t reader result e h = MatchResult-weaker result h (λ _ h. e ∙ h) (λ stop h r. e ∙ h r)

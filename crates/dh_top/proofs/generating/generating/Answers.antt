use Rattle.std.proofs.Common.{◌∙◌, map, string_bytes}
use Rattle.dh_top.proofs.Generated.{named_list}
use Rattle.dh_top.proofs.generating.generating.Goals as goal

pub returns : goal.returns
returns g c =
    named_list c.listing.result (map string_bytes c.args.operands.now) c.number_named.result c.as_bytes.result.now c.number_named.ensures.named
    (c.as_bytes.ensures.value ∙ c.in_ok-text.ensures) c.listing.ensures

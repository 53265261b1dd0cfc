use Rattle.std.proofs.Common.{◌≡◌, nat_lt, true, get_or, arith}
use Rattle.std.proofs.lemmas.Bool.{lt-ltb}
use Rattle.std.proofs.lemmas.List.Elements.{All-from_get_or}
use Rattle.std.proofs.lemmas.List.Sums.{list_all-from_AllPass}
use Rattle.dh_syntax.proofs.values.are_bytes.Goals as goal

pub returns : goal.returns
returns c =
    let bs = c.args.bytes.now in
    list_all-from_AllPass (λ b. nat_lt b 256) bs (All-from_get_or (λ b. nat_lt b 256 ≡ true) bs 0 (λ i h. lt-ltb (get_or bs i 0) 256 (omega (arith, c.type_inv.bytes i))))

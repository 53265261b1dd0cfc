use Rattle.std.specs.Prelude.{option_map}
use Rattle.std.proofs.Common.{ap, sym}
use Rattle.dh_store.specs.declared.codes.CodeKid.{CodeKid}
use Rattle.dh_infer.proofs.Turning.{get-none, get-some}
use Rattle.dh_infer.proofs.asking.code_at.Goals as goal

pub returns-in-Some : goal.returns-in-Some
returns-in-Some c =
    sym (ap (option_map (λ (k : CodeKid). k.code)) (get-some c.args.kids.now c.args.part c.in-Some.kid.now c.in-Some.ensures.lookup.3.0 c.in-Some.ensures.lookup.1))

pub returns-in-None : goal.returns-in-None
returns-in-None c = sym (ap (option_map (λ (k : CodeKid). k.code)) (get-none c.args.kids.now c.args.part c.in-None.ensures.lookup.0))

use Rattle.std.proofs.Common.{◌≡◌}
use Rattle.std.proofs.lemmas.Result.{IfOk-weaker}
use Rattle.dh_imports.specs.FrozenTexts.{with_digests}
use Rattle.dh_freeze.specs.Insertions.{insertions}
use Rattle.dh_freeze.proofs.Frozen.{frozen_is}
use Rattle.dh_freeze.proofs.freezing.frozen_text.Goals as goal

pub returns : goal.returns
returns c =
    IfOk-weaker c.freeze.result (λ b. b ≡ with_digests 0 c.args.text.now (insertions c.in_ok-places.places)) _
    (λ b made root ask spells same.
    frozen_is c.args.text.now b c.args.offsets.now c.args.digests.now c.in_ok-places.places root ask spells same c.in_ok-places.ensures.members c.in_ok-places.ensures.ascend made)
    c.freeze.ensures

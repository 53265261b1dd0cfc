use Rattle.std.proofs.Common.{Global, Vec, ℕ, [], ◌∷◌, ◌++◌, ap, sym, ◌∙◌, subst as along}
use Rattle.dh_infer.specs.Inside.Sharing.{AreShared}
use Rattle.dh_infer.proofs.AlikeCodes.{shared-more}
use Rattle.dh_infer.proofs.sharing.Sharing.add.Goals as goal

pub returns : goal.returns
returns c = λ g m h.
    let k = c.in_ok-first.first in
    along (AreShared g) (sym (c.in_ok-push.ensures.items ∙ ap (λ (v : Vec ℕ Global). v.items ++ k ∷ []) c.in_ok-first.ensures.same))
    (shared-more g c.args.self.now.firsts.items c.in_ok-next.next k c.in_ok-next.ensures (c.in_ok-first.ensures.share g m h) h)

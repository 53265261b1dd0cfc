-- What is kept of a value stays right with more depth.
use Rattle.std.specs.Prelude.{◌≡◌, ℕ, suc}
use Rattle.std.proofs.Common.{arith, subst as along}
use Rattle.dh_syntax.specs.Normalising.Heads.{Lang, Whole, run}
use Rattle.dh_syntax.specs.Typing.Inference.{Judgment, Has, Ill, judged_within}
use Rattle.dh_syntax.specs.Normalising.Normal.{endless}
use Rattle.dh_syntax.specs.Typing.Scopes.{Scopes, Context}
use Rattle.dh_syntax.specs.Expressions.Tree.{Tree}
use Rattle.dh_syntax.specs.Typing.Typing.{typing}
use Rattle.dh_laws.proofs.Normalising.RunLimits.{plus-is}
use Rattle.dh_laws.proofs.Normalising.RunsAlike.{plus}
use Rattle.dh_typing_laws.specs.KeptTypes.{Kept, Is, At, Unknown, IsKept}
use Rattle.dh_typing_laws.specs.Judgments.{IsUnlessShallow}
use Rattle.dh_typing_laws.proofs.Typing.TypingsDeeper.{typing-deeper}

module _ {A B : Type 0} (S : Scopes A B) (L : Lang (Tree A B)) where
  judged-deeper : (h p u depth more : ℕ) (c : Context A B) (e : Tree A B) (j : Judgment (Tree A B)) → judged_within L h p u (typing S depth c e) ≡ j → IsUnlessShallow j (judged_within L h p u (typing S (plus depth more) c e))
  judged-deeper h p u depth more c e j r =
      along (λ z. IsUnlessShallow z (judged_within L h p u (typing S (plus depth more) c e))) r (typing-deeper S (λ n d. run (endless L) h Whole n d) depth more c e p u)

  pub kept-deeper : (depth more : ℕ) (c : Context A B) (v : Tree A B) (k : Kept (Tree A B)) → IsKept L (typing S depth c v) k → IsKept L (typing S (plus depth more) c v) k
  kept-deeper depth more c v (Is t) (n, (h, p, r)) = (n, (h, p, judged-deeper h p n depth more c v (Has t 0) r))
  kept-deeper depth more c v (At path rule) (n, (h, p, r)) = (n, (h, p, judged-deeper h p n depth more c v (Ill path rule) r))
  kept-deeper depth more c v Unknown r = tt

  sum-of : (depth more : ℕ) → plus more (suc depth) ≡ suc (plus depth more)
  sum-of depth more = let p = plus-is more (suc depth) in let q = plus-is depth more in omega arith

  -- the form that `kept_infer` asks for
  pub kept-from : (more : ℕ) (c : Context A B) (v : Tree A B) (k : Kept (Tree A B)) → IsKept L (typing S more c v) k → (depth : ℕ) → IsKept L (typing S (suc (plus depth more)) c v) k
  kept-from more c v k r depth = along (λ z. IsKept L (typing S z c v) k) (sum-of depth more) (kept-deeper more (suc depth) c v k r)

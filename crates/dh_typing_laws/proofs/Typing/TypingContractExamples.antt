-- What the laws of kept types ask for is there: a normaliser that keeps nothing takes no more than the plain count, and
-- nothing may be kept.
use Rattle.std.specs.Prelude.{◌≡◌, ℕ, Bool, true, false, refl}
use Rattle.std.proofs.Common.{arith, inl, inr, subst as along}
use Rattle.dh_syntax.specs.Expressions.Nesting.{nesting}
use Rattle.dh_syntax.specs.Expressions.Tree.{Name}
use Rattle.dh_syntax.specs.Limits.{most_height}
use Rattle.dh_syntax.specs.Names.Nameless.{Core}
use Rattle.dh_syntax.specs.Normalising.Heads.{Answer, Found, Wide, Deep, Over, Whole, either, run}
use Rattle.dh_syntax.specs.Normalising.NamelessRuns.{cores}
use Rattle.dh_syntax.specs.Normalising.Normal.{endless, unless_nested, nests_too_deep, IsWideLicensed, IsDeepLicensed}
use Rattle.dh_laws.specs.NamelessAnswers.{answer_map}
use Rattle.dh_typing_laws.specs.KeptTypes.{Coded, embed, meaning, Unknown, NormalLag, IsNormaliser, AreKept}

abbrev normaliser : ℕ → Coded Name → Answer (Coded Name)
normaliser units d = answer_map embed (unless_nested cores nesting (run (endless cores) most_height Whole units (meaning d)))

abbrev Lags : ℕ → Core → Answer Core → Type 0
Lags units e a = NormalLag cores (IsWideLicensed cores nesting) (IsDeepLicensed cores nesting) embed units e (answer_map embed a)

-- a normal form, by whether it nests too deep
nested-lags : (h units : ℕ) (e f : Core) (left : ℕ) (b : Bool) → nests_too_deep cores nesting f ≡ b → run (endless cores) h Whole units e ≡ Found f left
    → Lags units e (either b (λ l. Deep l) (λ l. Found f l) left)
nested-lags h units e f left true q r = inr (inr (f, (units, left, (h, r)), q))
nested-lags h units e f left false q r = (f, refl, 0, (h, along (λ n. run (endless cores) h Whole n e ≡ Found f left) (omega arith) r))

answer-lags : (units : ℕ) (e : Core) (a : Answer Core) → run (endless cores) most_height Whole units e ≡ a → Lags units e (unless_nested cores nesting a)
answer-lags units e (Found f left) p = nested-lags most_height units e f left (nests_too_deep cores nesting f) refl p
answer-lags units e (Wide left) p = (units, left, (most_height, p))
answer-lags units e (Deep left) p = inl (units, left, p)
answer-lags units e Over p = (most_height, p)

normalises : IsNormaliser normaliser
normalises units d s = answer-lags units (meaning d) (run (endless cores) most_height Whole units (meaning d)) refl

nothing_kept : (more : ℕ) → AreKept more (λ c v. Unknown)
nothing_kept more depth c v = tt

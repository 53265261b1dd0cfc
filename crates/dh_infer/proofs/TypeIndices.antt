-- A type has no greater index than the expression and its own nesting allow.
--
-- Typing takes renamed references to renamed references. So the type of an expression that a renaming leaves as it is, is left as it
-- is by that renaming too. The renaming is the one by which it is shown for normal forms.
use Rattle.std.specs.Prelude.{◌≡◌, ◌≤◌, ◌+◌, ℕ, [], None, refl}
use Rattle.std.proofs.Common.{ap, sym, ◌∙◌, arith, subst as along}
use Rattle.dh_syntax.specs.Expressions.Nesting.{nesting}
use Rattle.dh_syntax.specs.Expressions.Tree.{Term}
use Rattle.dh_syntax.specs.Names.Indices.{IndicesBelow}
use Rattle.dh_syntax.specs.Names.Nameless.{Ref, Bound, Free, Core, to_core, from_core}
use Rattle.dh_syntax.specs.Normalising.NamelessRuns.{cores}
use Rattle.dh_norm.specs.References.{Apart, opened}
use Rattle.dh_syntax.specs.Typing.Inference.{Has, judged_within, ComesTo}
use Rattle.dh_typing_laws.specs.Judgments.{judgment_map}
use Rattle.dh_infer.specs.Inside.OpenTyping.{type_at, typing_at}
use Rattle.dh_infer.specs.Inside.TypeAnswers.{Answers}
use Rattle.dh_infer.proofs.Emptiness.{typing-open}
use Rattle.dh_infer.proofs.RenamedJudgments.{renamed_judged}
use Rattle.dh_infer.proofs.RenamedTyping.{LooksRenamed}
use Rattle.dh_norm.proofs.NormalIndices.{shift, keeps, has-low}

looks-nowhere : (s : Apart) → LooksRenamed (type_at []) (type_at []) s [] []
looks-nowhere s (Bound i) = nowhere (s.fun (Bound i))
  where
    nowhere : (q : Ref) → type_at [] [] q ≡ None
    nowhere (Bound j) = refl
    nowhere (Free x n) = refl
looks-nowhere s (Free x n) = nowhere (s.fun (Free x n))
  where
    nowhere : (q : Ref) → type_at [] [] q ≡ None
    nowhere (Bound j) = refl
    nowhere (Free y m) = refl

has-same : (t v : Core) (l k : ℕ) → Has t l ≡ Has v k → t ≡ v
has-same t v l k h = cc

-- the type of an expression that a renaming leaves as it is
type-still : (s : Apart) (e : Core) → opened s e ≡ e → (depth units left : ℕ) (t : Core) → ComesTo cores units (typing_at [] depth e) (Has t left) → opened s t ≡ t
type-still s e h depth units left t (heights, purse, r) =
    sym (has-same t (opened s t) left left (
    sym r ∙ ap (λ d. judged_within cores heights purse units (typing_at [] depth d)) (sym h)
    ∙ renamed_judged [] [] tt tt s [] [] (looks-nowhere s) depth e heights purse units ∙ ap (judgment_map (opened s)) r))

-- the type of an expression all of whose indices are below l has all of them below b
pub low-type : (l b : ℕ) (e : Term) (d t : Core) (units left : ℕ) → IndicesBelow l e → d ≡ to_core e → Answers units d (Has t left) → nesting t + l ≤ b → IndicesBelow b (from_core t)
low-type l b e d t units left below-l is (depth, (v, p, extra, r)) room =
    let start : opened (shift l) d ≡ d = along (λ c. opened (shift l) c ≡ c) (sym is) (keeps l [] e below-l) in
    let same : opened (shift l) v ≡ v = type-still (shift l) d start depth (units + extra) left v (along (λ i. ComesTo cores (units + extra) i (Has v left)) (typing-open depth [] d) r) in
    has-low l b [] t (along (λ c. opened (shift l) c ≡ c) (sym p) same) (omega (arith, room))

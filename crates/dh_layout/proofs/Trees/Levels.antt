-- Expressions where a level is needed.
use Rattle.std.proofs.Common.{◌≡◌, ℕ, suc, Bool, true, false, ◌&&◌, ◌||◌, if◌then◌else◌, nat_lt, nat_le, List, [], ◌∷◌, codes, refl, sym, ap, subst, ◌∙◌, arith}
use Rattle.std.proofs.lemmas.Bool.{both_ways}
use Rattle.std.proofs.lemmas.Bool.Decides.{nat_tests}
use Rattle.dh_syntax.specs.declared.tokens.Mark.TheVariants as marks
use Rattle.dh_syntax.specs.declared.tokens.TokenKind.TheVariants as kinds
use Rattle.dh_syntax.specs.Text.Characters.{first}
use Rattle.dh_syntax.specs.Text.Derivation as d
use Rattle.dh_syntax.specs.Text.Derivation.{Derivation}
use Rattle.dh_syntax.specs.Text.Derived.{binds, is_special}
use Rattle.dh_syntax.specs.Text.Printed.{layout, at, annotated, bracketed}
use Rattle.dh_syntax.specs.Expressions.Tree.{Term}
use Rattle.dh_syntax.specs.Text.Yield.{mark, yield, free}
use Rattle.dh_layout.proofs.Reading.Ends.{is_ending, is_selection, is_seam}
use Rattle.dh_layout.proofs.Trees.Good.{Reads, Good, Fits}
use Rattle.dh_layout.proofs.Trees.Trees.{at_tree, annotated_tree}
use Rattle.dh_layout.proofs.Reading.Walk.{give, regrouped}

pub both : {a b : Bool} → a ≡ true → b ≡ true → (a && b) ≡ true
both {a} {b} h k = ap (λ (t : Bool). t && b) h ∙ k

-- an expression in brackets
pub bracket_reads : (k m : ℕ) (t : List ℕ) (e : Derivation) → Reads k t e → Reads m (bracketed t) (d.brackets e)
bracket_reads k m t e h n g p rest ws c s after =
    regrouped p g (codes "(") (t ∷ codes ")" ∷ []) rest (mark n g marks.ParenOpen ∷ []) (yield (suc n) free e ∷ (mark n free marks.ParenClose ∷ []) ∷ []) ws
    (give p g 40 [] _ (kinds.Mark marks.ParenOpen) n _ c (λ b. tt) refl refl refl
    (λ at. h (suc n) free p (41 ∷ rest) _ c refl
    (give p false 41 [] rest (kinds.Mark marks.ParenClose) n ws c (λ b. tt) refl refl refl (λ at. after))))

pub raised : (k m : ℕ) (rest : List ℕ) → nat_lt k m ≡ false → is_seam m rest ≡ true → is_seam k rest ≡ true
raised k m rest low h = by (is_ending (first rest)) (nat_le 16 m) (nat_le 16 k) (is_selection rest) more h
  where
    more : nat_le 16 m ≡ true → nat_le 16 k ≡ true
    more e = grind (arith, nat_tests)

    by : (a b c s : Bool) → (b ≡ true → c ≡ true) → (a || (b && s)) ≡ true → (a || (c && s)) ≡ true
    by true b c s more h = refl
    by false true c s more h = ap (λ (t : Bool). t && s) (more refl) ∙ h
    by false false c s more h = absurd (both_ways false refl h)

pub fits : (m : ℕ) (e : Term) (t : Derivation) → Good e t → nat_le m 17 ≡ true → Fits m (at m (layout e)) e (at_tree m t)
fits m e t g top =
    let text = (layout e).text in
    subst (λ l. Fits m (if nat_lt l m then bracketed text else text) e (at_tree m t)) (sym g.levels) (by (nat_lt (binds t) m) refl)
  where
    by : (b : Bool) → nat_lt (binds t) m ≡ b → Fits m (if b then bracketed (layout e).text else (layout e).text) e (if b then d.brackets t else t)
    by true is = record { means = g.means; is_derived = g.is_derived; level = top; reads = bracket_reads (binds t) m (layout e).text t g.reads }
    by false is = record {
      means = g.means;
      is_derived = g.is_derived;
      level = grind (arith, nat_tests);
      reads = λ n gap p rest ws c s after. g.reads n gap p rest ws c (raised (binds t) m rest is s) after;
    }

-- any expression
pub whole : (e : Term) (t : Derivation) → Good e t → Fits 0 (at 0 (layout e)) e t
whole e t g =
    let low : (l : ℕ) → nat_lt l 0 ≡ false = λ l. grind (arith, nat_tests) in
    let f = fits 0 e t g refl in
    let tree : at_tree 0 t ≡ t = ap (λ (b : Bool). if b then d.brackets t else t) (low (binds t)) in
    subst (λ (u : Derivation). Fits 0 (at 0 (layout e)) e u) tree f

-- before an annotation
pub annotated_fits : (e : Term) (t : Derivation) → Good e t → Fits 1 (annotated (layout e)) e (annotated_tree t) × (is_special (annotated_tree t) ≡ false)
annotated_fits e t g =
    let text = (layout e).text in
    let l = layout e in
    subst (λ (b : Bool). Fits 1 (if b then bracketed text else at 1 l) e (annotated_tree t) × (is_special (annotated_tree t) ≡ false)) (sym g.bares) (by (is_special t) refl)
  where
    inner : (b : Bool) → is_special t ≡ false → is_special (if b then d.brackets t else t) ≡ false
    inner true is = refl
    inner false is = is

    by : (b : Bool) → is_special t ≡ b → Fits 1 (if b then bracketed (layout e).text else at 1 (layout e)) e (if b then d.brackets t else at_tree 1 t) × (is_special (if b then d.brackets t else at_tree 1 t) ≡ false)
    by true is = (record { means = g.means; is_derived = g.is_derived; level = refl; reads = bracket_reads (binds t) 1 (layout e).text t g.reads }, refl)
    by false is = (fits 1 e t g refl, inner (nat_lt (binds t) 1) is)

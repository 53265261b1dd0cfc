-- Renaming references, each to one of its own, changes no run but in its references, and no licence.
use Rattle.std.specs.Prelude.{◌≡◌, ℕ, ◌+◌, zero, suc, Bool, false, nat_lt, IsTrue, codes, refl}
use Rattle.std.proofs.Common.{ap, sym, ◌∙◌, inl, inr, subst as along}
use Rattle.dh_syntax.specs.Expressions.Nesting.{nesting}
use Rattle.dh_syntax.specs.Expressions.Tree.{Name}
use Rattle.dh_syntax.specs.Limits.{most_height, most_reached, most_nesting}
use Rattle.dh_syntax.specs.Names.Moves.{moved}
use Rattle.dh_syntax.specs.Names.Nameless.{Ref, Core}
use Rattle.dh_syntax.specs.Normalising.Contraction.{Binders}
use Rattle.dh_syntax.specs.Normalising.Heads.{Lang, Whole, Answer, Found, Wide, Deep, Over, run}
use Rattle.dh_syntax.specs.Normalising.NamelessRuns.{nameless_binders, nameless_eq, cores}
use Rattle.dh_syntax.specs.Normalising.Normal.{endless, IsWideLicensed, IsDeepLicensed}
use Rattle.dh_syntax.specs.Normalising.Trees.{trees}
use Rattle.dh_syntax.proofs.Moves.{staying, moved-staying, nesting-moved}
use Rattle.dh_laws.specs.NamelessAnswers.{answer_map}
use Rattle.dh_laws.proofs.Contracting.Moved.{BindersMove}
use Rattle.dh_laws.proofs.Normalising.MovedRuns.{MovedAlike, trees-alike}
use Rattle.dh_laws.proofs.Normalising.NamedAnswers.{tested-equal}
use Rattle.dh_laws.proofs.Normalising.RunLimits.{reaches-itself}
use Rattle.dh_laws.proofs.Normalising.RunsAlike.{plus, AnswersAlike, Alike, run-alike}
use Rattle.dh_norm.specs.References.{Apart, renamer, opened}
use Rattle.dh_norm.proofs.Opening.{renamer-binders, opened-same}
use Rattle.dh_typing_laws.proofs.Judging.JudgmentsLimits.{found-before, wide-before, deep-before}

abbrev Rel : Apart × Unit {0} → Core → Core → Type 0
Rel c e f = MovedAlike renamer (staying {A = Ref} {B = Name}) c e f

to-opened : (c : Apart × Unit {0}) (e f : Core) → Rel c e f → f ≡ opened c.0 e
to-opened c e f h = sym (moved-staying f) ∙ sym h

binders-staying : (b : Binders Ref Name) → BindersMove staying b b
binders-staying b = record {
  put = λ s x a c. ap (λ d. b.put x d (moved staying s c)) (moved-staying a) ∙ ap (b.put x a) (moved-staying c) ∙ sym (moved-staying (b.put x a c));
  successor = λ s. sym (moved-staying b.successor);
  cons = λ s t. ap b.cons (moved-staying t) ∙ sym (moved-staying (b.cons t));
}

plus-zero : (n : ℕ) → plus n 0 ≡ n
plus-zero zero = refl
plus-zero (suc n) = ap suc (plus-zero n)

abbrev the_binders : Binders Ref Name
the_binders = nameless_binders (codes "x") (codes "a") (codes "as")

same-opened : (c : Apart × Unit {0}) (d g e f : Core) → Rel c d g → Rel c e f → nameless_eq d e ≡ nameless_eq g f
same-opened c d g e f p q = sym (ap (λ z. nameless_eq z f) (to-opened c d g p) ∙ ap (nameless_eq (opened c.0 d)) (to-opened c e f q) ∙ opened-same c.0 d e)

module _ (too_deep : Core → Bool) (keeps : (s : Apart) (e : Core) → too_deep (opened s e) ≡ too_deep e) where
  abbrev L : Lang Core
  L = trees the_binders nameless_eq too_deep

  alike : Alike false L L Rel
  alike =
      trees-alike renamer staying the_binders the_binders the_binders (renamer-binders (codes "x") (codes "a") (codes "as")) (binders-staying the_binders)
      false nameless_eq nameless_eq too_deep too_deep same-opened
      (λ c e f p. tested-equal _ _ (sym (ap too_deep (to-opened c e f p) ∙ keeps c.0 e)))

  by-alike : (s : Apart) (a b : Answer Core) → AnswersAlike 0 false false (Rel (s, tt)) a b → b ≡ answer_map (opened s) a
  by-alike s (Found d l) b (f, r, q) = q ∙ ap (λ n. Found f n) (plus-zero l) ∙ ap (λ z. Found z l) (to-opened (s, tt) d f r)
  by-alike s (Wide l) b q = q ∙ ap Wide (plus-zero l)
  by-alike s (Deep l) b q = q ∙ ap Deep (plus-zero l)
  by-alike s Over b q = q

  renamed : (h : ℕ) (s : Apart) (u : ℕ) (e : Core) → run L h Whole u (opened s e) ≡ answer_map (opened s) (run L h Whole u e)
  renamed h s u e =
      ap (λ n. run L h Whole n (opened s e)) (sym (plus-zero u))
      ∙ by-alike s _ _ (run-alike 0 false false (λ p. refl) L L Rel alike h h (reaches-itself false h) (s, tt) Whole u e (opened s e) (sym (moved-staying (opened s e))))

-- a normal form is that of the expression, renamed
pub renamed-endless : (h : ℕ) (s : Apart) (u : ℕ) (d e : Core) → d ≡ opened s e
    → run (endless cores) h Whole u d ≡ answer_map (opened s) (run (endless cores) h Whole u e)
renamed-endless h s u d e p = ap (run (endless cores) h Whole u) p ∙ renamed (λ e. false) (λ t f. refl) h s u e

renamed-ending : (h : ℕ) (s : Apart) (u : ℕ) (d e : Core) → d ≡ opened s e → run cores h Whole u d ≡ answer_map (opened s) (run cores h Whole u e)
renamed-ending h s u d e p =
    ap (run cores h Whole u) p ∙ renamed (λ f. nat_lt most_reached (nesting f)) (λ t f. ap (nat_lt most_reached) (nesting-moved renamer t f)) h s u e

pub wide-renamed : (s : Apart) (d e : Core) → d ≡ opened s e → IsWideLicensed cores nesting d → IsWideLicensed cores nesting e
wide-renamed s d e p (units, left, (h, r)) =
    (units, left, (h, wide-before (opened s) (run (endless cores) h Whole units e) left (sym (renamed-endless h s units d e p) ∙ r)))

pub deep-renamed : (s : Apart) (d e : Core) → d ≡ opened s e → IsDeepLicensed cores nesting d → IsDeepLicensed cores nesting e
deep-renamed s d e p (inl (units, left, r)) =
    inl (units, left, deep-before (opened s) (run (endless cores) most_height Whole units e) left (sym (renamed-endless most_height s units d e p) ∙ r))
deep-renamed s d e p (inr (inl (units, left, enough, r))) =
    inr (inl (
      units,
      left,
      enough,
      λ more. deep-before (opened s) (run cores (more + enough) Whole units e) left (sym (renamed-ending (more + enough) s units d e p) ∙ r more),
    ))
deep-renamed s d e p (inr (inr (g, (units, left, (h, r)), n))) =
    let (v, a, b) = found-before (opened s) (run (endless cores) h Whole units e) g left (sym (renamed-endless h s units d e p) ∙ r) in
    inr (inr (v, (units, left, (h, a)), along (λ z. IsTrue (nat_lt most_nesting z)) (ap nesting b ∙ nesting-moved renamer s v) n))

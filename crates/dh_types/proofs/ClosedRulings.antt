-- A rule of typing gives a type without loose variables where what it is given has none: what it answers does not depend on the
-- binders above.
use Rattle.std.specs.Prelude.{◌≡◌, ℕ, zero, suc, List, [], ◌∷◌, map, Option, Some, None, option_map, IfSome, Result, Ok, Err, IfOk, refl}
use Rattle.std.proofs.Common.{sym, ◌∙◌, subst as along}
use Rattle.dh_syntax.specs.declared.expressions.Op.{Op}
use Rattle.dh_syntax.specs.declared.operators.Builtin.{Builtin}
use Rattle.dh_syntax.specs.Names.Moves.{moved}
use Rattle.dh_syntax.specs.Names.Nameless.{Core, to_core, ren}
use Rattle.dh_syntax.specs.Typing.BuiltinTypes.{type_of}
use Rattle.dh_syntax.specs.Typing.NamelessTyping.{core_scopes}
use Rattle.dh_syntax.specs.Typing.TypeRuling as ruling
use Rattle.dh_syntax.specs.Typing.TypeRuling.{Ruling}
use Rattle.dh_syntax.specs.Typing.TypeRulesOperators.{operator_ruling}
use Rattle.dh_syntax.specs.Typing.TypeRulesUnions.{record_ruling}
use Rattle.dh_typing_laws.proofs.Ruling.MovedViews.{moved_list}
use Rattle.dh_typing_laws.proofs.Ruling.TypedRules.{OptionsAlike, RulesAlike, operator_ruling-alike, record_ruling-alike}
use Rattle.dh_typing_laws.proofs.Typing.TypingsNamed.{core_types-closed}
use Rattle.dh_typing_laws.proofs.Typing.TypingsRenamed.{keeping, keeping-ren, one, scopes-kept}
use Rattle.dh_types.specs.Closed.{IsClosed}
use Rattle.dh_types.specs.ClosedSteps.{AreTypesClosed, IsFoundClosed, IsStepClosed}
use Rattle.dh_types.specs.Following.{follow, known_or, course_of, facts_of, Course, Facts, Takes, Forms, WantsNormal, WantsUniverse}
use Rattle.dh_types.specs.declared.steps.Found.{Found}
use Rattle.dh_types.specs.declared.steps.Step.{Step}
use Rattle.dh_types.specs.declared.steps.Step.TheVariants as steps

abbrev below : Core → Core
below e = moved keeping one e

abbrev Alike : Ruling Core → Ruling Core → Type 0
Alike r s = RulesAlike keeping one r s

closed-below : (e : Core) → IsClosed e → below e ≡ e
closed-below e h = keeping-ren one e ∙ h

below-closed : (e : Core) → e ≡ below e → IsClosed e
below-closed e h = sym (keeping-ren one e) ∙ sym h

abbrev IsCourseClosed : Course Core → Type 0
IsCourseClosed (Takes t) = IsClosed t
IsCourseClosed (Forms t) = IsClosed t
IsCourseClosed _ = Unit {0}

some-once : {X : Type 0} (x y : X) → Some x ≡ Some y → x ≡ y
some-once x y e = cc

of-course : (f : ℕ → Core) (s : Step) → IsCourseClosed (course_of f s) → IsStepClosed f s
of-course f (steps.Takes c) p = p
of-course f (steps.Forms c) p = p
of-course f (steps.Refuses rule) p = tt
of-course f (steps.WantsNormal k) p = tt
of-course f (steps.WantsUniverse k) p = tt

module _ (facts : Facts Core) (known : (k : ℕ) → IfSome (facts.normal k) IsClosed) where
  -- what follows from a normal form, if it is known
  from-normal : (k : ℕ) (next : Core → Ruling Core) → ((e : Core) → IsClosed e → IsCourseClosed (follow facts (next e))) → (o : Option Core) → IfSome o IsClosed
      → IsCourseClosed (known_or (WantsNormal k) o (λ e. follow facts (next e)))
  from-normal k next h (Some e) c = h e c
  from-normal k next h None c = tt

  from-universe : (k : ℕ) (next : Option Builtin → Ruling Core) → ((u : Option Builtin) → IsCourseClosed (follow facts (next u))) → (o : Option (Option Builtin))
      → IsCourseClosed (known_or (WantsUniverse k) o (λ u. follow facts (next u)))
  from-universe k next h (Some u) = h u
  from-universe k next h None = tt

  closed-course : (r : Ruling Core) → Alike r r → IsCourseClosed (follow facts r)
  closed-course (ruling.Takes t) h = below-closed t h
  closed-course (ruling.Forms t) h = below-closed t h
  closed-course (ruling.Refuses rule) h = tt
  closed-course (ruling.WithNormal k next) h =
      from-normal k next (λ e c. closed-course (next e) (along (λ d. Alike (next d) (next e)) (closed-below e c) (h.1 e))) (facts.normal k) (known k)
  closed-course (ruling.WithUniverse k next) h = from-universe k next (λ u. closed-course (next u) (h.1 u)) (facts.universe k)

  -- an answer that goes as far as such a rule
  closed-answer : (f : ℕ → Core) (o : Option Step) (p : Option (Ruling Core)) → option_map (course_of f) o ≡ option_map (follow facts) p → OptionsAlike Alike p p → IfSome o (IsStepClosed f)
  closed-answer f (Some s) (Some r) e h = of-course f s (along IsCourseClosed (sym (some-once _ _ e)) (closed-course r h))
  closed-answer f (Some s) None e h = absurd cc
  closed-answer f None p e h = tt

-- ---- the types of the parts

both : (d e : Core) (ds es : List Core) → d ≡ e → ds ≡ es → d ∷ ds ≡ e ∷ es
both d e ds es p q = cc

closed-list : (f : ℕ → Core) (cs : List ℕ) → AreTypesClosed f cs → moved_list keeping one (map f cs) ≡ map f cs
closed-list f [] h = refl
closed-list f (c ∷ cs) h = both _ _ _ _ (closed-below (f c) h.0) (closed-list f cs h.1)

found-one : (f : ℕ → Core) (o : Option ℕ) → IfSome o (λ c. IsClosed (f c)) → IfSome (option_map f o) IsClosed
found-one f (Some c) h = h
found-one f None h = tt

found-closed : (f : ℕ → Core) (found : Found) → IsFoundClosed f found → (k : ℕ) → IfSome ((facts_of f found).normal k) IsClosed
found-closed f found h zero = found-one f found.first h.first
found-closed f found h (suc zero) = found-one f found.second h.second
found-closed f found h (suc (suc zero)) = found-one f found.third h.third
found-closed f found h (suc (suc (suc k))) = tt

module _ (g f : ℕ → Core) (found : Found) (op : Op) (cs : List ℕ) (types : AreTypesClosed f cs) (known : IsFoundClosed f found) where
  answered : {E : Type 0} (rule : Op → List Core → Option (Ruling Core)) → ((es : List Core) → OptionsAlike Alike (rule op (moved_list keeping one es)) (rule op es))
      → (r : Result (Option Step) E) → IfOk r (λ o. option_map (course_of g) o ≡ option_map (follow (facts_of f found)) (rule op (map f cs))) → IfOk r (λ o. IfSome o (IsStepClosed g))
  answered rule alike (Ok o) e =
      closed-answer (facts_of f found) (found-closed f found known) g o (rule op (map f cs)) e (along (λ es. OptionsAlike Alike (rule op es) (rule op (map f cs))) (closed-list f cs types) (alike (map f cs)))
  answered rule alike (Err x) e = tt

  pub closed-operator : {E : Type 0} (r : Result (Option Step) E) → IfOk r (λ o. option_map (course_of g) o ≡ option_map (follow (facts_of f found)) (operator_ruling core_scopes op (map f cs))) → IfOk r (λ o. IfSome o (IsStepClosed g))
  closed-operator r e =
      answered (operator_ruling core_scopes) (operator_ruling-alike keeping one core_scopes core_scopes (scopes-kept (λ b. option_map to_core (type_of b)) (λ x. x) core_types-closed) op) r e

  pub closed-row : {E : Type 0} (r : Result (Option Step) E) → IfOk r (λ o. option_map (course_of g) o ≡ option_map (follow (facts_of f found)) (record_ruling core_scopes op (map f cs))) → IfOk r (λ o. IfSome o (IsStepClosed g))
  closed-row r e =
      answered (record_ruling core_scopes) (record_ruling-alike keeping one core_scopes core_scopes (scopes-kept (λ b. option_map to_core (type_of b)) (λ x. x) core_types-closed) op) r e

-- ---- built-ins

built-closed : (g : ℕ → Core) (b : Builtin) (o : Option ℕ) → option_map g o ≡ option_map to_core (type_of b) → IfSome o (λ c. IsClosed (g c))
built-closed g b (Some c) e = some-once _ _ (along (λ p. option_map (ren (λ i. suc i)) p ≡ p) (sym e) (core_types-closed (λ i. suc i) b))
built-closed g b None e = tt

pub closed-builtin : {E : Type 0} (g : ℕ → Core) (b : Builtin) (r : Result (Option ℕ) E) → IfOk r (λ o. option_map g o ≡ option_map to_core (type_of b)) → IfOk r (λ o. IfSome o (λ c. IsClosed (g c)))
closed-builtin g b (Ok o) e = built-closed g b o e
closed-builtin g b (Err x) e = tt

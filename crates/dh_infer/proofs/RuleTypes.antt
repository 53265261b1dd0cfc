-- What a rule answers has variables of lower numbers alone, where the types of the parts have.
use Rattle.std.specs.Prelude.{◌≡◌, ℕ, List, [], ◌∷◌, Option, Some, None, refl}
use Rattle.std.proofs.Common.{sym, subst as along}
use Rattle.dh_syntax.specs.declared.expressions.Op.{Op}
use Rattle.dh_syntax.specs.Names.Nameless.{Core}
use Rattle.dh_syntax.specs.Typing.NamelessTyping.{core_scopes}
use Rattle.dh_syntax.specs.Typing.TypeRuling as ruling
use Rattle.dh_syntax.specs.Typing.TypeRuling.{Ruling}
use Rattle.dh_syntax.specs.Typing.TypeViews.{first_of}
use Rattle.dh_norm.specs.References.{renamer}
use Rattle.dh_types.specs.Following.{Facts}
use Rattle.dh_typing_laws.proofs.Ruling.MovedViews.{moved_list}
use Rattle.dh_typing_laws.proofs.Ruling.TypedRules.{OptionsAlike, RulesAlike, operator_ruling-alike, record_ruling-alike}
use Rattle.dh_infer.specs.Inside.Levels.{moving, IsOf}
use Rattle.dh_infer.specs.Inside.Machine.{AreAllOf}
use Rattle.dh_infer.specs.Inside.Rests.{reached, reach, rule_of}
use Rattle.dh_infer.proofs.RenamedTyping.{scopes-renamed}

module _ (n : ℕ) where
  -- a rule with such types alone
  abbrev pub IsRuleOf : Ruling Core → Type 0
  IsRuleOf r = RulesAlike renamer (moving n) r r

  all-still : (us : List Core) → AreAllOf n us → moved_list renamer (moving n) us ≡ us
  all-still [] h = refl
  all-still (u ∷ us) h = let p = h.0 in let q = all-still us h.1 in cc

  first-alike : (o o' p p' : Option (Ruling Core)) → OptionsAlike (RulesAlike renamer (moving n)) o o' → OptionsAlike (RulesAlike renamer (moving n)) p p'
      → OptionsAlike (RulesAlike renamer (moving n)) (first_of o p) (first_of o' p')
  first-alike (Some r) (Some r') p p' h k = h
  first-alike None None p p' h k = k
  first-alike (Some r) None p p' h k = absurd h
  first-alike None (Some r') p p' h k = absurd h

  itself-alike : (o : Option (Ruling Core)) (r : Ruling Core) → o ≡ Some r → OptionsAlike (RulesAlike renamer (moving n)) o o → IsRuleOf r
  itself-alike o r p h = along (λ z. OptionsAlike (RulesAlike renamer (moving n)) z z) p h

  pub rule-of : (op : Op) (us : List Core) (r : Ruling Core) → AreAllOf n us → rule_of op us ≡ Some r → IsRuleOf r
  rule-of op us r h p =
      itself-alike (rule_of op us) r p
      (along (λ vs. OptionsAlike (RulesAlike renamer (moving n)) (rule_of op vs) (rule_of op us)) (all-still us h)
      (first-alike _ _ _ _ (operator_ruling-alike renamer (moving n) core_scopes core_scopes scopes-renamed op us) (record_ruling-alike renamer (moving n) core_scopes core_scopes scopes-renamed op us)))

  -- what follows from such a normal form
  next-of : (k : ℕ) (next : Core → Ruling Core) (e : Core) → IsOf n e → IsRuleOf (ruling.WithNormal k next) → IsRuleOf (next e)
  next-of k next e h r = along (λ z. RulesAlike renamer (moving n) (next z) (next e)) h (r.1 e)

  by-option : {X : Type 0} (here : Ruling Core) (o : Option X) (after : X → Ruling Core) → IsRuleOf here → ((x : X) → o ≡ Some x → IsRuleOf (after x)) → IsRuleOf (reached here o after)
  by-option here (Some x) after h k = k x refl
  by-option here None after h k = h

  pub reach-of : (facts : Facts Core) → ((k : ℕ) (e : Core) → facts.normal k ≡ Some e → IsOf n e) → (r : Ruling Core) → IsRuleOf r → IsRuleOf (reach facts r)
  reach-of facts f (ruling.Takes t) h = h
  reach-of facts f (ruling.Forms t) h = h
  reach-of facts f (ruling.Refuses q) h = h
  reach-of facts f (ruling.WithNormal k next) h =
      by-option (ruling.WithNormal k next) (facts.normal k) (λ e. reach facts (next e)) h (λ e p. reach-of facts f (next e) (next-of k next e (f k e p) h))
  reach-of facts f (ruling.WithUniverse k next) h =
      by-option (ruling.WithUniverse k next) (facts.universe k) (λ u. reach facts (next u)) h (λ u p. reach-of facts f (next u) (h.1 u))

  pub takes-of : (r : Ruling Core) (t : Core) → r ≡ ruling.Takes t → IsRuleOf r → IsOf n t
  takes-of r t p h = sym (along IsRuleOf p h)

  pub forms-of : (r : Ruling Core) (t : Core) → r ≡ ruling.Forms t → IsRuleOf r → IsOf n t
  forms-of r t p h = sym (along IsRuleOf p h)

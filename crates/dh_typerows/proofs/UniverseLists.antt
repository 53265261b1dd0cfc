-- The greatest universe, found from the last part to the first.
use Rattle.std.specs.Prelude.{◌≡◌, ◌<◌, ◌≤◌, ◌+◌, ◌-◌, ℕ, List, Option, Some, None, option_map, map, drop, length, refl}
use Rattle.std.proofs.Common.{ap, sym, ◌∙◌, arith, get_or}
use Rattle.std.proofs.lemmas.List.{drop_more}
use Rattle.dh_syntax.specs.declared.operators.Builtin.{Builtin}
use Rattle.dh_syntax.specs.Expressions.Forms.{builtin}
use Rattle.dh_syntax.specs.Names.Nameless.{Core}
use Rattle.dh_syntax.specs.Typing.TypeRules.{Rule, rule_number}
use Rattle.dh_syntax.specs.Typing.TypeRulesRecords.{prepend_universe, universes}
use Rattle.dh_syntax.specs.Typing.TypeRuling as ruling
use Rattle.dh_syntax.specs.Typing.Universes.{as_universe, greatest}
use Rattle.dh_types.specs.Following.{follow, Facts, Takes, Refuses}
use Rattle.dh_typerows.specs.Greatest.{greatest_type, with_greatest}

prepended : (u : Option Builtin) (us : Option (List Builtin)) → option_map greatest (prepend_universe u us) ≡ with_greatest u (option_map greatest us)
prepended (Some c) (Some cs) = refl
prepended (Some c) None = refl
prepended None (Some cs) = refl
prepended None None = refl

module _ (f : ℕ → Core) (ts : List ℕ) where
  greatest-more : (i d : ℕ) (u g : Option Builtin) → i < length ts → u ≡ as_universe (f (get_or ts i d)) → g ≡ greatest_type (map f (drop (i + 1) ts)) → with_greatest u g ≡ greatest_type (map f (drop i ts))
  greatest-more i d u g h p q =
      ap (λ o. with_greatest o g) p ∙ ap (with_greatest (as_universe (f (get_or ts i d)))) q
      ∙ sym (ap (λ xs. greatest_type (map f xs)) (drop_more ts i d h) ∙ prepended (as_universe (f (get_or ts i d))) (universes (map f (drop (i + 1) ts))))

  pub greatest-last : (n d : ℕ) (u g : Option Builtin) → 0 < n → n ≤ length ts → u ≡ as_universe (f (get_or ts (n - 1) d)) → g ≡ greatest_type (map f (drop n ts)) → with_greatest u g ≡ greatest_type (map f (drop (n - 1) ts))
  greatest-last n d u g pos h p q =
      let e : n ≡ (n - 1) + 1 = omega (arith, pos) in greatest-more (n - 1) d u g (omega (arith, pos, h)) p (q ∙ ap (λ m. greatest_type (map f (drop m ts))) e)

  pub greatest-whole : (n : ℕ) (g : Option Builtin) → n ≡ 0 → g ≡ greatest_type (map f (drop n ts)) → g ≡ greatest_type (map f ts)
  greatest-whole n g e p = p ∙ ap (λ m. greatest_type (map f (drop m ts))) e

pub greatest-found : (facts : Facts Core) (rule : Rule) (ts : List Core) (o : Option (List Builtin)) (u : Builtin) → universes ts ≡ o → Some u ≡ option_map greatest o
    → Takes (builtin u) ≡ follow facts (ruling.given o rule (λ cs. ruling.Takes (builtin (greatest cs))))
greatest-found facts rule ts (Some cs) u e p = cc
greatest-found facts rule ts None u e p = absurd cc

pub greatest-missing : (facts : Facts Core) (rule : Rule) (n : ℕ) (o : Option (List Builtin)) → rule_number rule ≡ n → None ≡ option_map greatest o
    → Refuses n ≡ follow facts (ruling.given o rule (λ cs. ruling.Takes (builtin (greatest cs))))
greatest-missing facts rule n (Some cs) e p = absurd cc
greatest-missing facts rule n None e p = ap Refuses (sym e)

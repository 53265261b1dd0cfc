-- Alternatives of a union, one by one.
use Rattle.std.specs.Prelude.{◌≡◌, ◌<◌, ◌+◌, ℕ, false, List, ◌∷◌, Option, Some, option_map, drop, length, if◌then◌else◌}
use Rattle.std.proofs.Common.{ap, sym, ◌∙◌, get_or}
use Rattle.std.proofs.lemmas.List.{drop_more}
use Rattle.dh_syntax.specs.declared.expressions.Alt.{Alt}
use Rattle.dh_syntax.specs.Expressions.Numbers.{bytes_eq}
use Rattle.dh_syntax.specs.Expressions.Tree.{Name}
use Rattle.dh_syntax.specs.Names.Nameless.{Ref, Core}
use Rattle.dh_syntax.specs.Typing.TypeViews.{alternative_at, alternatives, next_alternative, Alternatives}
use Rattle.dh_store.specs.declared.codes.CodeKid.{CodeKid}
use Rattle.dh_types.specs.Parts.{alternatives_of, cores_of}

-- what the first alternative is, and those after it
abbrev pub Splits : (ℕ → Core) → Alt → List CodeKid → Option ℕ → List CodeKid → Type 0
Splits f a ks own js = (others : List Core → Alternatives Ref Name) → next_alternative a.label a.typed (cores_of f ks) others ≡ (a.label, option_map f own) ∷ others (cores_of f js)

pub split-at : (f : ℕ → Core) (alts : List Alt) (i : ℕ) (a : Alt) (ks js : List CodeKid) (own : Option ℕ) → i < length alts → a ≡ get_or alts i a → Splits f a ks own js
    → alternatives_of f (drop i alts) ks ≡ (a.label, option_map f own) ∷ alternatives_of f (drop (i + 1) alts) js
split-at f alts i a ks js own h e s =
    ap (λ as'. alternatives as' (cores_of f ks)) (drop_more alts i a h ∙ ap (λ b. b ∷ drop (i + 1) alts) (sym e)) ∙ s (λ us. alternatives (drop (i + 1) alts) us)

pub alternative-skipped : (f : ℕ → Core) (x : Name) (alts : List Alt) (i : ℕ) (a : Alt) (ks js : List CodeKid) (own : Option ℕ) → i < length alts → a ≡ get_or alts i a → Splits f a ks own js → bytes_eq x a.label ≡ false
    → (whole : Option (Option Core)) → alternative_at x (alternatives_of f (drop i alts) ks) ≡ whole → alternative_at x (alternatives_of f (drop (i + 1) alts) js) ≡ whole
alternative-skipped f x alts i a ks js own h e s n whole so_far =
    sym (ap (alternative_at x) (split-at f alts i a ks js own h e s) ∙ ap (λ b. if b then Some (option_map f own) else alternative_at x (alternatives_of f (drop (i + 1) alts) js)) n) ∙ so_far

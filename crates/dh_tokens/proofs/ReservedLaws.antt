-- Names that are no labels, by their first byte.
use Rattle.std.proofs.Common.{◌≡◌, ℕ, Bool, true, false, ◌==◌, if◌then◌else◌, eqb, List, [], ◌∷◌, refl, sym, ap, ◌∙◌}
use Rattle.std.proofs.lemmas.Bool.{and_left}
use Rattle.std.specs.Str.{bytes_eq}
use Rattle.dh_syntax.specs.Text.Characters.{first}
use Rattle.dh_syntax.specs.Text.LexNames.{Reserved, named, named_in}
use Rattle.dh_tokens.specs.Inside.Names.{beginning_with, reserved_names}

-- a spelling that begins with another byte is no such name
other_spelling : (b : ℕ) (bs spelling : List ℕ) → (first spelling == b) ≡ false → bytes_eq spelling (b ∷ bs) ≡ false
other_spelling b bs [] e = refl
other_spelling b bs (c ∷ cs) e = and_left (eqb c b) (bytes_eq cs bs) e

named-by : (b : ℕ) (bs : List ℕ) (r : Reserved) (kept rs : List Reserved) (yes' : Bool) → (first r.spelling == b) ≡ yes' → named_in kept (b ∷ bs) ≡ named_in rs (b ∷ bs)
    → named_in (if yes' then r ∷ kept else kept) (b ∷ bs) ≡ named_in (r ∷ rs) (b ∷ bs)
named-by b bs r kept rs true e h = ap (λ f. if bytes_eq r.spelling (b ∷ bs) then r.meaning else f) h
named-by b bs r kept rs false e h = h ∙ sym (ap (λ (t : Bool). if t then r.meaning else named_in rs (b ∷ bs)) (other_spelling b bs r.spelling e))

named-beginning : (b : ℕ) (bs : List ℕ) (rs : List Reserved) → named_in (beginning_with b rs) (b ∷ bs) ≡ named_in rs (b ∷ bs)
named-beginning b bs [] = refl
named-beginning b bs (r ∷ rs) = named-by b bs r (beginning_with b rs) rs (first r.spelling == b) refl (named-beginning b bs rs)

-- only the names with its first byte tell what a name is
pub named-by_first : (name : List ℕ) → named_in (beginning_with (first name) reserved_names) name ≡ named name
named-by_first [] = refl
named-by_first (b ∷ bs) = named-beginning b bs reserved_names

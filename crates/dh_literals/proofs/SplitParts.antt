-- A text split at the first of an ASCII character.
use Rattle.std.proofs.Common.{◌≡◌, Bor, ℕ, suc, ◌+◌, ◌<◌, ◌≢◌, List, ◌∷◌, ◌++◌, length, get_or, drop, take, Some, length-append, refl, ap, subst, ◌∙◌, arith}
use Rattle.std.proofs.lemmas.List.{get_or_at, drop_at, take_at}
use Rattle.std.proofs.lemmas.Str.{IsUtf8-take, IsUtf8-drop, IsCharBoundary-before_ascii}
use Rattle.std.proofs.lemmas.Str.Pattern.{IsSplitOnceResult, split_parts}
use Rattle.std.specs.Str.{IsUtf8, IsCharBoundary}
use Rattle.dh_literals.proofs.Fronts.{text_after}

-- no byte of the text is this one
abbrev pub Lacks : ℕ → List ℕ → Type 0
Lacks c bs = (i : ℕ) → i < length bs → get_or bs i 0 ≢ c

-- the text up to the first such character, and what follows it
pub record SplitAt (c : ℕ) (text before after : List ℕ) : Type 0 where
  pub parts : text ≡ before ++ (c ∷ after)
  pub first : Lacks c before

pub split_at : (c : ℕ) (text : List ℕ) (before after : Bor (List ℕ)) → c < 128 → IsSplitOnceResult c text (Some (before, after)) → SplitAt c text before.now after.now
split_at c text before after ascii h =
    let parts = split_parts c text (Some (before, after)) h ascii in
    record { parts = parts.0; first = parts.1 }

pub split_size : (c : ℕ) (text before after : List ℕ) → SplitAt c text before after → length text ≡ length before + suc (length after)
split_size c text before after split = ap length split.parts ∙ length-append before (c ∷ after)

split_boundary : (c : ℕ) (text before after : List ℕ) → c < 128 → SplitAt c text before after → IsCharBoundary text (length before)
split_boundary c text before after ascii split =
    let at : get_or text (length before) 0 ≡ c = ap (λ l. get_or l (length before) 0) split.parts ∙ get_or_at before c after 0 (length before) refl in
    let size = split_size c text before after split in
    IsCharBoundary-before_ascii text (length before) (omega (arith, size)) (omega (arith, at, ascii))

-- both parts are texts
pub before_utf8 : (c : ℕ) (text before after : List ℕ) → c < 128 → IsUtf8 text → SplitAt c text before after → IsUtf8 before
before_utf8 c text before after ascii u split =
    let cut = IsUtf8-take text (length before) u (split_boundary c text before after ascii split) in
    subst IsUtf8 (ap (take (length before)) split.parts ∙ take_at before (c ∷ after) (length before) refl) cut

pub after_utf8 : (c : ℕ) (text before after : List ℕ) → c < 128 → IsUtf8 text → SplitAt c text before after → IsUtf8 after
after_utf8 c text before after ascii u split =
    let cut = IsUtf8-drop text (length before) u (split_boundary c text before after ascii split) in
    text_after c (c ∷ after) after ascii (subst IsUtf8 (ap (drop (length before)) split.parts ∙ drop_at before (c ∷ after) (length before) refl) cut) refl

-- The words that name locations.
use Rattle.std.specs.Prelude.{◌≡◌, ◌+◌, ℕ, List, [], ◌∷◌, ◌++◌, drop, length}
use Rattle.dh_syntax.specs.declared.locations.Loc.{Loc}
use Rattle.dh_watch_laws.specs.ScriptLines.{SpellsLoc}

-- these words spell these locations
pub data AreLocated : List (List ℕ) → List Loc → Type 0 where
  no_words : AreLocated [] []
  one_more : {w : List ℕ} {l : Loc} {ws : List (List ℕ)} {ls : List Loc} → SpellsLoc w l → AreLocated ws ls → AreLocated (w ∷ ws) (l ∷ ls)

-- The number of the word that is wrong, where the first word is not looked at: the first that spells no location, or the second where
-- there is none.
pub data IsMisused (words : List (List ℕ)) : ℕ → Type 0 where
  spells_none : (before after : List (List ℕ)) (w : List ℕ) (ls : List Loc) → drop 1 words ≡ before ++ w ∷ after → AreLocated before ls
      → ((l : Loc) → ¬ SpellsLoc w l) → IsMisused words (length before + 2)
  lacks : drop 1 words ≡ [] → IsMisused words 2

-- The words behind the first are at least one, and spell these locations.
pub record Name (words : List (List ℕ)) (locs : List Loc) : Type 0 where
  pub some : ¬ (drop 1 words ≡ [])
  pub located : AreLocated (drop 1 words) locs

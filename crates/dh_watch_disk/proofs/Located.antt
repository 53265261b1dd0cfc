-- The words that spell locations.
use Rattle.std.proofs.Common.{◌≡◌, ◌∙◌, ◌==◌, ℕ, suc, Bool, true, false, ◌+◌, ◌<◌, List, [], ◌∷◌, ◌++◌, IfErr, IfOk, Option, None, Result, Ok, Err, length, map, take, drop, get_or, sym, ap, subst, refl, arith}
use Rattle.std.proofs.lemmas.Bool.{eqb-true}
use Rattle.std.proofs.lemmas.List.{drop_more, length-map, length-take-le, map-append, nil_from_length, take-append-drop, take_more}
use Rattle.dh_syntax.specs.declared.locations.Loc.{Loc}
use Rattle.dh_script.specs.Reads.{IsLocated}
use Rattle.dh_watch_laws.specs.ScriptLines.{SpellsLoc}
use Rattle.dh_watch_disk.specs.declared.words.WordFault.{WordFault}
use Rattle.dh_watch_disk.specs.declared.words.WordFault.TheVariants as faults
use Rattle.dh_watch_disk.specs.Inside.Rounds.{IsMisusedBy, IsWrong, IsWrongWord}
use Rattle.dh_watch_disk.specs.Words.{AreLocated, IsMisused, Name, lacks, no_words, one_more, spells_none}

-- one word more behind the others
pub located_behind : {ws : List (List ℕ)} {ls : List Loc} {w : List ℕ} {l : Loc} → AreLocated ws ls → SpellsLoc w l → AreLocated (ws ++ w ∷ []) (ls ++ l ∷ [])
located_behind no_words h = one_more h no_words
located_behind (one_more k m) h = one_more k (located_behind m h)

-- a word that spells none
pub spells_nowhere : (text word : List ℕ) (r : Option Loc) → text ≡ word → r ≡ None → IsLocated text r → (n : ℕ) → IsWrongWord word n (faults.Word n)
spells_nowhere text word r same none is n = (refl, subst (λ t. IsLocated t None) same (subst (IsLocated text) none is))

-- ---- all words

module _ (words behind : List (List ℕ)) (same : drop 1 words ≡ behind) where
  pub misused_by : (f : WordFault) → IsWrong behind f → IsMisusedBy words f
  misused_by faults.Memory h = tt
  misused_by (faults.Word n) (before, after, w, ls, at, located, none, number) =
      subst (IsMisused words) (sym number) (spells_none before after w ls (same ∙ at) located none)

  pub named_by : (locs : List Loc) → ¬ (behind ≡ []) → AreLocated behind locs → Name words locs
  named_by locs some located = record { some = λ e. some (sym same ∙ e); located = subst (λ ws. AreLocated ws locs) (sym same) located }

pub misused_if : {A W : Type 0} (text : W → List ℕ) (ws behind : List W) (w : W) → ws ≡ w ∷ behind → (r : Result A WordFault) → IfErr r (IsWrong (map text behind))
    → IfErr r (IsMisusedBy (map text ws))
misused_if text ws behind w is (Ok x) h = tt
misused_if text ws behind w is (Err f) h = misused_by (map text ws) (map text behind) (ap (λ xs. drop 1 (map text xs)) is) f h

pub named_if : {A E W : Type 0} (items : A → List Loc) (text : W → List ℕ) (ws behind : List W) (w : W) → ws ≡ w ∷ behind → (b : Bool) → b ≡ (length behind == 0) → b ≡ false
    → (r : Result A E) → IfOk r (λ ls. AreLocated (map text behind) (items ls)) → IfOk r (λ ls. Name (map text ws) (items ls))
named_if items text ws [] w is b empty some (Ok x) h = absurd cc
named_if items text ws (v ∷ vs) w is b empty some (Ok x) h = named_by (map text ws) (map text (v ∷ vs)) (ap (λ xs. drop 1 (map text xs)) is) (items x) (λ e. cc) h
named_if items text ws behind w is b empty some (Err f) h = tt

-- ---- words of which none is a location

pub no_words_at_all : {W : Type 0} (text : W → List ℕ) (ws : List W) → length ws ≡ 0 → IsMisused (map text ws) 2
no_words_at_all text ws none = lacks (ap (λ xs. drop 1 (map text xs)) (nil_from_length ws none))

pub one_word_alone : {W : Type 0} (text : W → List ℕ) (ws behind : List W) (w : W) → ws ≡ w ∷ behind → (b : Bool) → b ≡ (length behind == 0) → b ≡ true → IsMisused (map text ws) 2
one_word_alone text ws [] w is b empty none = lacks (ap (λ xs. drop 1 (map text xs)) is)
one_word_alone text ws (v ∷ vs) w is b empty none =
    let zero : suc (length vs) ≡ 0 = eqb-true (suc (length vs)) 0 (sym empty ∙ none) in absurd (omega (arith, zero))

-- ---- the word at a place

module _ {W : Type 0} (text : W → List ℕ) (ws : List W) (i : ℕ) (w : W) (h : i < length ws) (at : w ≡ get_or ws i w) where
  pub words_more : map text (take (i + 1) ws) ≡ map text (take i ws) ++ text w ∷ []
  words_more = ap (map text) (take_more ws i w h ∙ ap (λ x. take i ws ++ x ∷ []) (sym at)) ∙ map-append text (take i ws) (w ∷ [])

  pub words_around : map text ws ≡ map text (take i ws) ++ text w ∷ map text (drop (i + 1) ws)
  words_around =
      ap (map text) (sym (take-append-drop i ws) ∙ ap (λ t. take i ws ++ t) (drop_more ws i w h ∙ ap (λ x. x ∷ drop (i + 1) ws) (sym at)))
      ∙ map-append text (take i ws) (w ∷ drop (i + 1) ws)

-- the first word that spells no location is behind these
module _ {W : Type 0} (text : W → List ℕ) (ws : List W) (i : ℕ) (w : W) (h : i < length ws) (at : w ≡ get_or ws i w) (ls : List Loc) (located : AreLocated (map text (take i ws)) ls) where
  pub wrong_word : (spelled : List ℕ) → spelled ≡ text w → (f : WordFault) → IsWrongWord spelled (i + 2) f → IsWrong (map text ws) f
  wrong_word spelled same faults.Memory k = tt
  wrong_word spelled same (faults.Word n) (number, none) = (
    map text (take i ws),
    map text (drop (i + 1) ws),
    text w,
    ls,
    words_around text ws i w h at,
    located,
    subst (λ t. (l : Loc) → ¬ SpellsLoc t l) same none,
    number ∙ ap (λ k. k + 2) (sym (length-map (take i ws) text ∙ length-take-le i ws (omega arith))),
  )

  pub located_more : (spelled : List ℕ) → spelled ≡ text w → (l : Loc) → SpellsLoc spelled l → AreLocated (map text (take (i + 1) ws)) (ls ++ l ∷ [])
  located_more spelled same l k =
      subst (λ xs. AreLocated xs (ls ++ l ∷ [])) (sym (words_more text ws i w h at)) (located_behind located (subst (λ t. SpellsLoc t l) same k))

-- Words that name files, one after another.
use Rattle.std.proofs.Common.{◌≡◌, ℕ, zero, suc, ◌+◌, ◌<◌, ◌≤◌, Bool, true, false, if◌then◌else◌, List, [], ◌∷◌, length, drop, map, get_or, Result, Ok, Err, refl, sym, ap, ◌∙◌, subst, arith}
use Rattle.std.specs.Prelude.{IsOk}
use Rattle.std.proofs.lemmas.List.{drop_more, drop_all}
use Rattle.dh_files.specs.FileWords.{is_file, more_files, with_file}

-- what the answer to the words that are left says of the whole answer
abbrev pub Follows : Result (List (List ℕ)) ℕ → Result (List (List ℕ)) ℕ → Type 0
Follows (Ok texts) whole = IsOk whole
Follows (Err k) whole = whole ≡ Err k

pub follows_itself : (r : Result (List (List ℕ)) ℕ) → Follows r r
follows_itself (Ok texts) = refl
follows_itself (Err k) = refl

behind_file : (w : List ℕ) (r whole : Result (List (List ℕ)) ℕ) → Follows (with_file w r) whole → Follows r whole
behind_file w (Ok texts) whole h = h
behind_file w (Err k) whole h = h

module _ {W : Type 0} (now : W → List ℕ) where
  these : (left at i : ℕ) (ws : List W) (w : W) → i < length ws → w ≡ get_or ws i w → map now (drop i ws) ≡ now w ∷ map now (drop (i + 1) ws)
  these left at i ws w h e = ap (map now) (drop_more ws i w h) ∙ ap (λ x. now x ∷ map now (drop (i + 1) ws)) (sym e)

  -- one more file
  pub files_go : (left less at i : ℕ) (ws : List W) (w : W) (whole : Result (List (List ℕ)) ℕ) → i < length ws → w ≡ get_or ws i w → left ≡ suc less → is_file (now w) ≡ true
      → Follows (more_files left at (map now (drop i ws))) whole → Follows (more_files less (at + 1) (map now (drop (i + 1) ws))) whole
  files_go left less at i ws w whole h e p f so_far =
      behind_file (now w) (more_files less (at + 1) (map now (drop (i + 1) ws))) whole
      (subst (λ (b : Bool). Follows (if b then with_file (now w) (more_files less (at + 1) (map now (drop (i + 1) ws))) else Err at) whole) f
      (subst (λ n. Follows (more_files n at (now w ∷ map now (drop (i + 1) ws))) whole) p
      (subst (λ ts. Follows (more_files left at ts) whole) (these left at i ws w h e) so_far)))

  -- a word that names no file
  pub files_stop : (left at i : ℕ) (ws : List W) (w : W) (whole : Result (List (List ℕ)) ℕ) → i < length ws → w ≡ get_or ws i w → is_file (now w) ≡ false
      → Follows (more_files left at (map now (drop i ws))) whole → whole ≡ Err at
  files_stop left at i ws w whole h e f so_far = by left (subst (λ ts. Follows (more_files left at ts) whole) (these left at i ws w h e) so_far)
    where
      by : (l : ℕ) → Follows (more_files l at (now w ∷ map now (drop (i + 1) ws))) whole → whole ≡ Err at
      by zero k = k
      by (suc less) k = subst (λ (b : Bool). Follows (if b then with_file (now w) (more_files less (at + 1) (map now (drop (i + 1) ws))) else Err at) whole) f k

  -- one too many
  pub files_full : (left at i : ℕ) (ws : List W) (w : W) (whole : Result (List (List ℕ)) ℕ) → i < length ws → w ≡ get_or ws i w → left ≡ 0
      → Follows (more_files left at (map now (drop i ws))) whole → whole ≡ Err at
  files_full left at i ws w whole h e p so_far =
      subst (λ n. Follows (more_files n at (now w ∷ map now (drop (i + 1) ws))) whole) p (subst (λ ts. Follows (more_files left at ts) whole) (these left at i ws w h e) so_far)

  -- no word is left
  pub files_end : (left at i : ℕ) (ws : List W) (whole : Result (List (List ℕ)) ℕ) → length ws ≤ i → Follows (more_files left at (map now (drop i ws))) whole → IsOk whole
  files_end left at i ws whole h so_far = ended left (subst (λ (ts : List W). Follows (more_files left at (map now ts)) whole) (drop_all i ws h) so_far)
    where
      ended : (left : ℕ) → Follows (more_files left at []) whole → IsOk whole
      ended zero h = h
      ended (suc left) h = h

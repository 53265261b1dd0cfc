-- Places as words, and lists of such words.
use Rattle.std.specs.Prelude.{◌≡◌, ◌<◌, ◌≤◌, ◌+◌, ℕ, zero, suc, Bool, true, false, ◌&&◌, ◌==◌, if◌then◌else◌, is_some, List, [], ◌∷◌, ◌++◌, length, drop, map, Option, Some, None, Result, Ok, Err, IfSome, IsOk, option_map, option_and_then, codes, refl}
use Rattle.std.specs.List.{list_all, slice_split}
use Rattle.std.specs.Result.{result_ok}
use Rattle.std.proofs.Common.{rules, ap, sym, ◌∙◌, arith, get_or, subst as along}
use Rattle.std.proofs.lemmas.List.{drop_more, drop_all, append_assoc, length-map}
use Rattle.dh_syntax.specs.Expressions.Numbers.{bytes_eq}
use Rattle.dh_steps.specs.StepWords.{each, part_of, place_of, with_place, operand_places}

-- ---- what each word names, one after another

module _ {X : Type 0} where
  abbrev after : List X → Option (List X) → Option (List X)
  after done o = option_map (λ xs. done ++ xs) o

  abbrev with_first : Option (List X) → Option X → Option (List X)
  with_first o x = option_and_then (λ k. option_map (λ ks. k ∷ ks) o) x

  step_after : (done : List X) (x : X) (o : Option (List X)) → after (done ++ x ∷ []) o ≡ after done (option_map (λ ks. x ∷ ks) o)
  step_after done x None = refl
  step_after done x (Some ks) = ap Some (append_assoc done (x ∷ []) ks)

  append_nil : (xs : List X) → xs ++ [] ≡ xs
  append_nil xs = search rules

module _ {W X : Type 0} (now : W → List ℕ) (read : List ℕ → Option X) where
  abbrev pub each_left : List X → List W → Option (List X)
  each_left done ws = option_map (λ xs. done ++ xs) (each read (map now ws))

  pub each_begins : (ws : List W) → each_left [] ws ≡ each read (map now ws)
  each_begins ws = by (each read (map now ws))
    where
      by : (o : Option (List X)) → option_map (λ xs. [] ++ xs) o ≡ o
      by None = refl
      by (Some ks) = refl

  item : (done : List X) (ws : List W) (i : ℕ) (w : W) → i < length ws → w ≡ get_or ws i w
      → each_left done (drop i ws) ≡ after done (with_first (each read (map now (drop (i + 1) ws))) (read (now w)))
  item done ws i w h e =
      ap (each_left done) (drop_more ws i w h)
      ∙ ap (λ x. after done (with_first (each read (map now (drop (i + 1) ws))) (read (now x)))) (sym e)

  pub each_goes : (done longer : List X) (ws : List W) (i : ℕ) (x : X) (w : W) (whole : Option (List X)) → i < length ws → w ≡ get_or ws i w → Some x ≡ read (now w) → longer ≡ done ++ x ∷ []
      → each_left done (drop i ws) ≡ whole → each_left longer (drop (i + 1) ws) ≡ whole
  each_goes done longer ws i x w whole h e p q so_far =
      ap (λ z. each_left z (drop (i + 1) ws)) q ∙ step_after done x (each read (map now (drop (i + 1) ws)))
      ∙ ap (λ o. after done (with_first (each read (map now (drop (i + 1) ws))) o)) p ∙ sym (item done ws i w h e) ∙ so_far

  pub each_stops : (done : List X) (ws : List W) (i : ℕ) (w : W) (whole : Option (List X)) → i < length ws → w ≡ get_or ws i w → None ≡ read (now w) → each_left done (drop i ws) ≡ whole → None ≡ whole
  each_stops done ws i w whole h e p so_far =
      ap (λ o. after done (with_first (each read (map now (drop (i + 1) ws))) o)) p ∙ sym (item done ws i w h e) ∙ so_far

  pub each_ends : (done : List X) (ws : List W) (i : ℕ) (whole : Option (List X)) → length ws ≤ i → each_left done (drop i ws) ≡ whole → Some done ≡ whole
  each_ends done ws i whole h so_far = sym (ap (each_left done) (drop_all i ws h) ∙ ap Some (append_nil done)) ∙ so_far

-- whether each word names something
pub each_named : {X : Type 0} (read : List ℕ → Option X) (ws : List (List ℕ)) → list_all (λ w. is_some (read w)) ws ≡ is_some (each read ws)
each_named read [] = refl
each_named {X} read (w ∷ ws) = by (read w) (each read ws) (list_all (λ v. is_some (read v)) ws) (each_named read ws)
  where
    by : (x : Option X) (o : Option (List X)) (b : Bool) → b ≡ is_some o → is_some x && b ≡ is_some (with_first o x)
    by None o b h = refl
    by (Some x) None b h = h
    by (Some x) (Some xs) b h = h

each_length : {X : Type 0} (read : List ℕ → Option X) (ws : List (List ℕ)) (xs : List X) → each read ws ≡ Some xs → length xs ≡ length ws
each_length read [] xs h = let e : xs ≡ [] = cc in ap length e
each_length {X} read (w ∷ ws) xs h = by (read w) (each read ws) (each_length read ws) h
  where
    by : (x : Option X) (o : Option (List X)) → ((ys : List X) → o ≡ Some ys → length ys ≡ length ws) → with_first o x ≡ Some xs → length xs ≡ suc (length ws)
    by None o f k = absurd cc
    by (Some x) None f k = absurd cc
    by (Some x) (Some ys) f k = let e : xs ≡ x ∷ ys = cc in ap length e ∙ ap suc (f ys refl)

-- ---- one word

-- a word that is not `root`
pub split_place : (w : List ℕ) (parts : List (List ℕ)) → bytes_eq w (codes "root") ≡ false → parts ≡ slice_split (λ b. b == 47) w → each part_of parts ≡ place_of w
split_place w parts h p = ap (each part_of) p ∙ ap (λ b. if b then Some [] else each part_of (slice_split (λ b. b == 47) w)) (sym h)

pub root_named : (w : List ℕ) → bytes_eq w (codes "root") ≡ true → true ≡ is_some (place_of w)
root_named w h = ap (λ b. is_some (if b then Some [] else each part_of (slice_split (λ b. b == 47) w))) (sym h)

pub split_named : (w : List ℕ) (b : Bool) → bytes_eq w (codes "root") ≡ false → b ≡ list_all (λ v. is_some (part_of v)) (slice_split (λ b. b == 47) w) → b ≡ is_some (place_of w)
split_named w b h p = p ∙ each_named part_of (slice_split (λ b. b == 47) w) ∙ ap is_some (split_place w (slice_split (λ b. b == 47) w) h refl)

-- ---- the places of operands

abbrev Places : Type 0
Places = List (List ℕ)

pub few_places : (left at : ℕ) (ws : List (List ℕ)) → length ws ≤ left → result_ok (operand_places left at ws) ≡ each place_of ws
few_places left at [] h = refl
few_places zero at (w ∷ ws) h = absurd (omega (arith, h))
few_places (suc left) at (w ∷ ws) h = by (place_of w) (operand_places left (at + 1) ws) (each place_of ws) (few_places left (at + 1) ws (omega (arith, h)))
  where
    by : (o : Option (List ℕ)) (r : Result Places ℕ) (e : Option Places) → result_ok r ≡ e → result_ok (with_place at o r) ≡ with_first e o
    by None r e p = refl
    by (Some x) (Ok xs) e p = ap (option_map (λ ys. x ∷ ys)) p
    by (Some x) (Err k) e p = ap (option_map (λ ys. x ∷ ys)) p

pub many_places : (left at : ℕ) (ws : List (List ℕ)) → left < length ws → result_ok (operand_places left at ws) ≡ None
many_places left at [] h = absurd (omega (arith, h))
many_places zero at (w ∷ ws) h = refl
many_places (suc left) at (w ∷ ws) h = by (place_of w) (operand_places left (at + 1) ws) (many_places left (at + 1) ws (omega (arith, h)))
  where
    by : (o : Option (List ℕ)) (r : Result Places ℕ) → result_ok r ≡ None → result_ok (with_place at o r) ≡ None
    by None r p = refl
    by (Some x) (Ok xs) p = absurd cc
    by (Some x) (Err k) p = refl

-- what the answer to the words that are left says of the whole answer
abbrev pub Follows : Result Places ℕ → Result Places ℕ → Type 0
Follows (Ok places) whole = IsOk whole
Follows (Err k) whole = whole ≡ Err k

pub follows_itself : (r : Result Places ℕ) → Follows r r
follows_itself (Ok places) = refl
follows_itself (Err k) = refl

follows_behind : (at : ℕ) (place : List ℕ) (r whole : Result Places ℕ) → Follows (with_place at (Some place) r) whole → Follows r whole
follows_behind at place (Ok places) whole h = h
follows_behind at place (Err k) whole h = h

module _ {W : Type 0} (now : W → List ℕ) where
  word_left : (left number i : ℕ) (ws : List W) (w : W) → i < length ws → w ≡ get_or ws i w
      → operand_places left number (map now (drop i ws)) ≡ operand_places left number (now w ∷ map now (drop (i + 1) ws))
  word_left left number i ws w h e =
      ap (λ vs. operand_places left number (map now vs)) (drop_more ws i w h)
      ∙ ap (λ x. operand_places left number (now x ∷ map now (drop (i + 1) ws))) (sym e)

  pub place_goes : (left less number i : ℕ) (ws : List W) (w : W) (whole : Result Places ℕ) → i < length ws → w ≡ get_or ws i w → left ≡ suc less → is_some (place_of (now w)) ≡ true
      → Follows (operand_places left number (map now (drop i ws))) whole → Follows (operand_places less (number + 1) (map now (drop (i + 1) ws))) whole
  place_goes left less number i ws w whole h e p q so_far =
      by (place_of (now w)) q
      (along (λ r. Follows r whole) (word_left left number i ws w h e ∙ ap (λ l. operand_places l number (now w ∷ map now (drop (i + 1) ws))) p) so_far)
    where
      by : (o : Option (List ℕ)) → is_some o ≡ true → Follows (with_place number o (operand_places less (number + 1) (map now (drop (i + 1) ws)))) whole
          → Follows (operand_places less (number + 1) (map now (drop (i + 1) ws))) whole
      by None z k = absurd cc
      by (Some place) z k = follows_behind number place (operand_places less (number + 1) (map now (drop (i + 1) ws))) whole k

  pub place_full : (left number i : ℕ) (ws : List W) (w : W) (whole : Result Places ℕ) → i < length ws → w ≡ get_or ws i w → left ≡ 0
      → Follows (operand_places left number (map now (drop i ws))) whole → whole ≡ Err number
  place_full left number i ws w whole h e p so_far =
      along (λ r. Follows r whole) (word_left left number i ws w h e ∙ ap (λ l. operand_places l number (now w ∷ map now (drop (i + 1) ws))) p) so_far

  pub place_wrong : (left number i : ℕ) (ws : List W) (w : W) (whole : Result Places ℕ) → i < length ws → w ≡ get_or ws i w → is_some (place_of (now w)) ≡ false
      → Follows (operand_places left number (map now (drop i ws))) whole → whole ≡ Err number
  place_wrong left number i ws w whole h e q so_far = by left (along (λ r. Follows r whole) (word_left left number i ws w h e) so_far)
    where
      none : (less : ℕ) (o : Option (List ℕ)) (r : Result Places ℕ) → is_some o ≡ false → Follows (with_place number o r) whole → whole ≡ Err number
      none less None r z k = k
      none less (Some place) r z k = absurd cc

      by : (l : ℕ) → Follows (operand_places l number (now w ∷ map now (drop (i + 1) ws))) whole → whole ≡ Err number
      by zero k = k
      by (suc less) k = none less (place_of (now w)) (operand_places less (number + 1) (map now (drop (i + 1) ws))) q k

  pub place_ends : (left number i : ℕ) (ws : List W) (whole : Result Places ℕ) → length ws ≤ i → Follows (operand_places left number (map now (drop i ws))) whole → IsOk whole
  place_ends left number i ws whole h so_far =
      along (λ vs. Follows (operand_places left number (map now vs)) whole) (drop_all i ws h) so_far

-- ---- as many as may stand

module _ {W : Type 0} (now : W → List ℕ) where
  pub many_named : (ws : List W) → 256 < length ws → (at : ℕ) → result_ok (operand_places 256 at (map now ws)) ≡ None
  many_named ws h at = let n = length-map ws now in many_places 256 at (map now ws) (omega (arith, h, n))

  pub few_named : (ws : List W) (places : Option Places) → length ws ≤ 256 → places ≡ each place_of (map now ws) → (at : ℕ) → result_ok (operand_places 256 at (map now ws)) ≡ places
  few_named ws places h p at = let n = length-map ws now in few_places 256 at (map now ws) (omega (arith, h, n)) ∙ sym p

  pub few_found : (ws : List W) (places : Option Places) → length ws ≤ 256 → places ≡ each place_of (map now ws) → IfSome places (λ ps. length ps ≤ 256)
  few_found ws None h p = tt
  few_found ws (Some ps) h p =
      let n = length-map ws now in
      let m = each_length place_of (map now ws) ps (sym p) in
      omega (arith, h, n, m)

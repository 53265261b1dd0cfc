-- The lines of a text, from one line feed to the next.
use Rattle.std.proofs.Common.{◌≡◌, ℕ, suc, ◌<◌, ◌≢◌, Bool, true, false, cond, List, [], ◌∷◌, ◌++◌, length, ◌==◌, refl, ap, sym, ◌∙◌, arith}
use Rattle.std.proofs.lemmas.Bool.Decides.{nat_tests}
use Rattle.std.specs.List.{onto_first}
use Rattle.dh_syntax.specs.Text.Characters.{line_feed}
use Rattle.dh_syntax.specs.Text.Literals.{counted, lines_of}
use Rattle.dh_literals.proofs.SplitParts.{Lacks, SplitAt}

lacks_first : (b : ℕ) (bs : List ℕ) → Lacks line_feed (b ∷ bs) → (b == line_feed) ≡ false
lacks_first b bs h = let n : b ≢ line_feed = h 0 (omega arith) in grind (arith, nat_tests)

lacks_later : (b : ℕ) (bs : List ℕ) → Lacks line_feed (b ∷ bs) → Lacks line_feed bs
lacks_later b bs h = λ i less. h (suc i) (omega (arith, less))

-- a text without a line feed is one line
pub one_line : (line : List ℕ) → Lacks line_feed line → lines_of line ≡ line ∷ []
one_line [] h = refl
one_line (b ∷ bs) h = ap (λ t. cond t ([] ∷ lines_of bs) (onto_first b (lines_of bs))) (lacks_first b bs h) ∙ ap (onto_first b) (one_line bs (lacks_later b bs h))

line_more : (line more : List ℕ) → Lacks line_feed line → lines_of (line ++ line_feed ∷ more) ≡ line ∷ lines_of more
line_more [] more h = refl
line_more (b ∷ bs) more h =
    let rest = bs ++ line_feed ∷ more in
    ap (λ t. cond t ([] ∷ lines_of rest) (onto_first b (lines_of rest))) (lacks_first b bs h) ∙ ap (onto_first b) (line_more bs more (lacks_later b bs h))

-- the first line ends at the first line feed
pub first_line : (text line more : List ℕ) → SplitAt line_feed text line more → lines_of text ≡ line ∷ lines_of more
first_line text line more split = ap lines_of split.parts ∙ line_more line more split.first

-- a text has a first line
pub record HasFirst (lines : List (List ℕ)) : Type 0 where
  pub line : List ℕ
  pub later : List (List ℕ)
  pub is : lines ≡ line ∷ later

has_first-by : (b : ℕ) (bs : List ℕ) (ends : Bool) → HasFirst (lines_of bs) → HasFirst (cond ends ([] ∷ lines_of bs) (onto_first b (lines_of bs)))
has_first-by b bs true h = record { line = []; later = lines_of bs; is = refl }
has_first-by b bs false h = record { line = b ∷ h.line; later = h.later; is = ap (onto_first b) h.is }

pub has_first : (bs : List ℕ) → HasFirst (lines_of bs)
has_first [] = record { line = []; later = []; is = refl }
has_first (b ∷ bs) = has_first-by b bs (b == line_feed) (has_first bs)

-- a line that another follows counts unless it is empty
pub counted_empty : (lines : List (List ℕ)) → HasFirst lines → counted ([] ∷ lines) ≡ counted lines
counted_empty lines h = ap (λ l. counted ([] ∷ l)) h.is ∙ sym (ap counted h.is)

pub counted_full : (line : List ℕ) (lines : List (List ℕ)) → HasFirst lines → 0 < length line → counted (line ∷ lines) ≡ line ∷ counted lines
counted_full [] lines h some = absurd (omega (arith, some))
counted_full (b ∷ bs) lines h some = ap (λ l. counted ((b ∷ bs) ∷ l)) h.is ∙ sym (ap (λ l. (b ∷ bs) ∷ counted l) h.is)

-- and some line of it counts
some_counted : (line : List ℕ) (lines : List (List ℕ)) → HasFirst (counted (line ∷ lines))
some_counted line [] = record { line = line; later = []; is = refl }
some_counted [] (m ∷ ls) = some_counted m ls
some_counted (b ∷ bs) (m ∷ ls) = record { line = b ∷ bs; later = counted (m ∷ ls); is = refl }

pub has_first_counted : (text : List ℕ) → HasFirst (counted (lines_of text))
has_first_counted text =
    let h = has_first text in
    let some = some_counted h.line h.later in
    record { line = some.line; later = some.later; is = ap counted h.is ∙ some.is }

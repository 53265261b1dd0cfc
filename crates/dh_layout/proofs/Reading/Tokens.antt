-- The tokens of printed texts, each before what may follow it.
use Rattle.std.proofs.Common.{◌≡◌, ℕ, suc, ◌+◌, Bool, true, false, not, ◌&&◌, ◌||◌, ◌==◌, eqb, cond, if◌then◌else◌, nat_lt, nat_le, bytes_eq, List, [], ◌∷◌, ◌++◌, length, Some, codes, refl, sym, ap, subst, ◌∙◌, arith}
use Rattle.std.proofs.lemmas.Bool.{and_parts, and_left, both_ways, ne_eqb, not-true, eqb-true}
use Rattle.std.proofs.lemmas.Bool.Decides.{nat_tests}
use Rattle.std.specs.List.{list_all, prefix_len}
use Rattle.dh_syntax.specs.declared.tokens.Mark.TheVariants as marks
use Rattle.dh_syntax.specs.declared.tokens.TokenKind.{TokenKind}
use Rattle.dh_syntax.specs.declared.tokens.TokenKind.TheVariants as kinds
use Rattle.dh_syntax.specs.Text.Characters.{first, begins, is_name_start, is_name_byte, is_quoted_label_byte}
use Rattle.dh_syntax.specs.Text.LexForms.{Is}
use Rattle.dh_syntax.specs.Text.LexNames.{Reserved, named, named_in, name_len, keyword_names, built_in_names, names_left_out}
use Rattle.dh_syntax.specs.Text.Lexing.{Place, Before, code_form, place_after, before_after}
use Rattle.dh_syntax.specs.Text.Derivation as d
use Rattle.dh_syntax.specs.Text.Printed.{is_name, is_plain_label, label}
use Rattle.dh_syntax.specs.Expressions.Tree.{Name}
use Rattle.dh_syntax.specs.Text.Yield.{Written, token, mark, name, free}
use Rattle.dh_layout.proofs.Reading.Ends.{is_ending, is_selection, is_seam, is_name_end, is_word}
use Rattle.dh_layout.proofs.Trees.Trees.{label_token}
use Rattle.dh_layout.proofs.Reading.Walks.{IsCode, IsCalm, Lexes}
use Rattle.dh_layout.proofs.Reading.Seams.{word_read, quoted_read, dot_read}
use Rattle.dh_layout.proofs.Reading.Walk.{give, space, loose}

pub any_gap : (g : Bool) (p : Place) (bs : List ℕ) (ws : List Written) → Lexes p g bs ws → Lexes p true bs ws
any_gap true p bs ws h = h
any_gap false p bs ws h = loose p bs ws h

-- what may follow an expression may follow one of level 16
pub to_sixteen : (m : ℕ) (rest : List ℕ) → is_seam m rest ≡ true → is_seam 16 rest ≡ true
to_sixteen m rest h = by (is_ending (first rest)) (nat_le 16 m) (is_selection rest) h
  where
    by : (a b c : Bool) → (a || (b && c)) ≡ true → (a || (true && c)) ≡ true
    by true b c h = refl
    by false true c h = h
    by false false c h = absurd (both_ways false refl h)

-- and a name
pub name_ends : (m : ℕ) (rest : List ℕ) → is_seam m rest ≡ true → is_name_end rest ≡ true
name_ends m rest h = ends rest (to_sixteen m rest h)
  where
    ends : (rest : List ℕ) → is_seam 16 rest ≡ true → is_name_end rest ≡ true
    ends rest h = let c = first rest in grind (arith, nat_tests)

-- a name, a keyword or a built-in name
pub word : (p : Place) (g : Bool) (x rest : List ℕ) (k : TokenKind) (n : ℕ) (ws : List Written) → IsCode p → is_word x ≡ true → named x ≡ Is k → is_name_end rest ≡ true
    → ((before : Before) → IsCalm (before_after k before)) → ((at : ℕ) → place_after k at p ≡ p) → Lexes p false rest ws → Lexes p g (x ++ rest) (token n g k ∷ ws)
word p g [] rest k n ws c w is e calm stays h = absurd (both_ways false refl w)
word p g (b ∷ x) rest k n ws c w is e calm stays h =
    let starts = (and_parts (is_name_start b) (list_all is_name_byte (b ∷ x)) w).0 in
    let other : (i : ℕ) → is_name_start i ≡ false → eqb i b ≡ false = λ i h. ne_eqb i b (λ same. both_ways (is_name_start i) h (ap is_name_start same ∙ starts)) in
    let brace : eqb b 125 ≡ false = ne_eqb b 125 (λ same. both_ways (is_name_start 125) refl (sym (ap is_name_start same) ∙ starts)) in
    give p g b x rest k n ws c calm brace (and_left (eqb 35 b) _ (other 35 refl))
    (word_read b x rest w e ∙ ap (λ f. Some (record { found = f; len = suc (length x) })) is)
    (λ at. subst (λ q. Lexes q false rest ws) (sym (stays at)) h)

-- ---- labels

named_by : (rs : List Reserved) (x : List ℕ) → list_all (λ (r : Reserved). not (is_name r.meaning)) rs ≡ true → is_name (named_in rs x) ≡ true → named_in rs x ≡ Is (kinds.Name x)
named_by [] x a h = refl
named_by (r ∷ rs) x a h = by (bytes_eq r.spelling x) refl (λ q. named_by rs x (and_parts (not (is_name r.meaning)) (list_all (λ (r : Reserved). not (is_name r.meaning)) rs) a).1 q)
  where
    parts : (not (is_name r.meaning) ≡ true) × (list_all (λ (r : Reserved). not (is_name r.meaning)) rs ≡ true)
    parts = and_parts (not (is_name r.meaning)) (list_all (λ (r : Reserved). not (is_name r.meaning)) rs) a

    by : (t : Bool) → bytes_eq r.spelling x ≡ t → (is_name (named_in rs x) ≡ true → named_in rs x ≡ Is (kinds.Name x)) → named_in (r ∷ rs) x ≡ Is (kinds.Name x)
    by true e more =
        let is : named_in (r ∷ rs) x ≡ r.meaning = ap (λ (t : Bool). if t then r.meaning else named_in rs x) e in
        absurd (both_ways (is_name r.meaning) (not-true (is_name r.meaning) parts.0) (sym (ap is_name is) ∙ h))
    by false e more =
        let is : named_in (r ∷ rs) x ≡ named_in rs x = ap (λ (t : Bool). if t then r.meaning else named_in rs x) e in
        is ∙ more (sym (ap is_name is) ∙ h)

all_of_run : (q : ℕ → Bool) (x : List ℕ) → prefix_len q x ≡ length x → list_all q x ≡ true
all_of_run q [] e = refl
all_of_run q (b ∷ x) e = by (q b) refl (all_of_run q x)
  where
    by : (t : Bool) → q b ≡ t → (prefix_len q x ≡ length x → list_all q x ≡ true) → (q b && list_all q x) ≡ true
    by true h more =
        let run : prefix_len q (b ∷ x) ≡ 1 + prefix_len q x = ap (λ (t : Bool). cond t (1 + prefix_len q x) 0) h in
        let size : prefix_len q x ≡ length x = omega (arith, run, e) in
        ap (λ (t : Bool). t && list_all q x) h ∙ more size
    by false h more =
        let run : prefix_len q (b ∷ x) ≡ 0 = ap (λ (t : Bool). cond t (1 + prefix_len q x) 0) h in
        absurd (omega (arith, run, e))

word_of : (b : ℕ) (x : List ℕ) → name_len (b ∷ x) ≡ suc (length x) → is_word (b ∷ x) ≡ true
word_of b x e = by (is_name_start b) refl
  where
    by : (t : Bool) → is_name_start b ≡ t → (is_name_start b && list_all is_name_byte (b ∷ x)) ≡ true
    by true h =
        let run : name_len (b ∷ x) ≡ prefix_len is_name_byte (b ∷ x) = ap (λ (t : Bool). if t then prefix_len is_name_byte (b ∷ x) else 0) h in
        ap (λ (t : Bool). t && list_all is_name_byte (b ∷ x)) h ∙ all_of_run is_name_byte (b ∷ x) (sym run ∙ e)
    by false h =
        let run : name_len (b ∷ x) ≡ 0 = ap (λ (t : Bool). if t then prefix_len is_name_byte (b ∷ x) else 0) h in
        absurd (let f = sym run ∙ e in omega (arith, f))

plain_label : (x : Name) → is_plain_label x ≡ true → (is_word x ≡ true) × (named x ≡ Is (kinds.Name x))
plain_label [] h = absurd (both_ways false refl h)
plain_label (b ∷ x) h =
    let parts = and_parts (nat_lt 0 (length (b ∷ x)) && name_len (b ∷ x) == length (b ∷ x)) (is_name (named (b ∷ x))) h in
    let size = eqb-true (name_len (b ∷ x)) (length (b ∷ x)) (and_parts (nat_lt 0 (length (b ∷ x))) _ parts.0).1 in
    (word_of b x size, named_by (keyword_names ++ built_in_names ++ names_left_out) (b ∷ x) refl parts.1)

pub label_is : (x : Name) → d.name_label (label_token x) ≡ x
label_is x = by (is_plain_label x)
  where
    by : (t : Bool) → d.name_label (if t then d.plain x else d.quoted x) ≡ x
    by true = refl
    by false = refl

-- a label
pub label_token_read : (p : Place) (g : Bool) (x : Name) (rest : List ℕ) (n : ℕ) (ws : List Written) → IsCode p → list_all is_quoted_label_byte x ≡ true → is_name_end rest ≡ true
    → Lexes p false rest ws → Lexes p g (label x ++ rest) (name n g (label_token x) ∷ ws)
label_token_read p g x rest n ws c q e h = by (is_plain_label x) refl
  where
    shown : Bool → List ℕ
    shown t = if t then x else codes "`" ++ x ++ codes "`"

    by : (t : Bool) → is_plain_label x ≡ t → Lexes p g (shown (is_plain_label x) ++ rest) (name n g (if is_plain_label x then d.plain x else d.quoted x) ∷ ws)
    by true is =
        let parts = plain_label x is in
        subst (λ t. Lexes p g (shown t ++ rest) (name n g (if t then d.plain x else d.quoted x) ∷ ws)) (sym is)
        (word p g x rest (kinds.Name x) n ws c parts.0 parts.1 e (λ b. tt) (λ at. refl) h)
    by false is =
        subst (λ t. Lexes p g (shown t ++ rest) (name n g (if t then d.plain x else d.quoted x) ∷ ws)) (sym is)
        (give p g 96 (x ++ 96 ∷ []) rest (kinds.Quoted x) n ws c (λ b. tt) refl refl (quoted_read x rest q) (λ at. h))

-- ---- marks and keywords between spaces

pub mid : (p : Place) (g : Bool) (b : ℕ) (x rest : List ℕ) (k : TokenKind) (n : ℕ) (ws : List Written) → IsCode p
    → ((before : Before) → IsCalm (before_after k before)) → ((at : ℕ) → place_after k at p ≡ p)
    → (b == 125) ≡ false → begins "#!" (b ∷ x ++ 32 ∷ rest) ≡ false
    → code_form (b ∷ x ++ 32 ∷ rest) ≡ Some (record { found = Is k; len = suc (length x) })
    → Lexes p true rest ws → Lexes p false (32 ∷ b ∷ x ++ 32 ∷ rest) (token n g k ∷ ws)
mid p g b x rest k n ws c calm stays brace line e h =
    space p (b ∷ x ++ 32 ∷ rest) (token n g k ∷ ws) c
    (any_gap g p (b ∷ x ++ 32 ∷ rest) (token n g k ∷ ws)
    (give p g b x (32 ∷ rest) k n ws c calm brace line e (λ at. subst (λ q. Lexes q false (32 ∷ rest) ws) (sym (stays at)) (space p rest ws c h))))

-- the same of a word
pub mid_word : (p : Place) (g : Bool) (x rest : List ℕ) (k : TokenKind) (n : ℕ) (ws : List Written) → IsCode p → is_word x ≡ true → named x ≡ Is k
    → ((before : Before) → IsCalm (before_after k before)) → ((at : ℕ) → place_after k at p ≡ p) → Lexes p true rest ws → Lexes p false (32 ∷ x ++ 32 ∷ rest) (token n g k ∷ ws)
mid_word p g x rest k n ws c w is calm stays h =
    space p (x ++ 32 ∷ rest) (token n g k ∷ ws) c
    (any_gap g p (x ++ 32 ∷ rest) (token n g k ∷ ws) (word p g x (32 ∷ rest) k n ws c w is refl calm stays (space p rest ws c h)))

-- a word at the front, and a space
pub front_word : (p : Place) (g : Bool) (x rest : List ℕ) (k : TokenKind) (n : ℕ) (ws : List Written) → IsCode p → is_word x ≡ true → named x ≡ Is k
    → ((before : Before) → IsCalm (before_after k before)) → ((at : ℕ) → place_after k at p ≡ p) → Lexes p true rest ws → Lexes p g (x ++ 32 ∷ rest) (token n g k ∷ ws)
front_word p g x rest k n ws c w is calm stays h = word p g x (32 ∷ rest) k n ws c w is refl calm stays (space p rest ws c h)

-- ---- selections

front_of_label : (x : Name) (rest : List ℕ) (P : List ℕ → Type 0) → ((b : ℕ) (t : List ℕ) → is_name_start b ≡ true → P (b ∷ t)) → ((t : List ℕ) → P (96 ∷ t)) → P (label x ++ rest)
front_of_label x rest P starts quoted = by (is_plain_label x) refl
  where
    by_word : (x : Name) → is_word x ≡ true → ((b : ℕ) (t : List ℕ) → is_name_start b ≡ true → P (b ∷ t)) → P (x ++ rest)
    by_word [] w s = absurd (both_ways false refl w)
    by_word (b ∷ x) w s = s b (x ++ rest) (and_parts (is_name_start b) (list_all is_name_byte (b ∷ x)) w).0

    by : (t : Bool) → is_plain_label x ≡ t → P ((if is_plain_label x then x else codes "`" ++ x ++ codes "`") ++ rest)
    by true is = subst (λ t. P ((if t then x else codes "`" ++ x ++ codes "`") ++ rest)) (sym is) (by_word x (plain_label x is).0 starts)
    by false is = subst (λ t. P ((if t then x else codes "`" ++ x ++ codes "`") ++ rest)) (sym is) (quoted ((x ++ codes "`") ++ rest))

-- a label behind `.`
pub dot_seam : (x : Name) (rest : List ℕ) → is_seam 16 (46 ∷ label x ++ rest) ≡ true
dot_seam x rest = front_of_label x rest (λ t. is_seam 16 (46 ∷ t) ≡ true) (λ b t h. ap (λ (s : Bool). ((s || b == 96 || b == 123 || b == 40)) || false) h) (λ t. refl)

pub dot_label : (p : Place) (x : Name) (rest : List ℕ) (n : ℕ) (ws : List Written) → IsCode p → Lexes p false (label x ++ rest) ws → Lexes p false (46 ∷ label x ++ rest) (mark n free marks.Dot ∷ ws)
dot_label p x rest n ws c h =
    give p false 46 [] (label x ++ rest) (kinds.Mark marks.Dot) n ws c (λ b. tt) refl refl
    (front_of_label x rest (λ t. code_form (46 ∷ t) ≡ Some (record { found = Is (kinds.Mark marks.Dot); len = 1 }))
    (λ b t s. dot_read b t (ne_eqb b 47 (λ same. both_ways (is_name_start 47) refl (sym (ap is_name_start same) ∙ s))) (ne_eqb 46 b (λ same. both_ways (is_name_start 46) refl (ap is_name_start same ∙ s))))
    (λ t. refl))
    (λ at. h)

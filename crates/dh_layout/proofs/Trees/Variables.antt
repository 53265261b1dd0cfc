-- Variables, with and without an index.
use Rattle.std.proofs.Common.{◌≡◌, ℕ, suc, ◌≤◌, Bool, true, false, ◌==◌, eqb, if◌then◌else◌, List, [], ◌∷◌, ◌++◌, length, Some, None, codes, decimal, refl, sym, ap, subst, ◌∙◌, arith}
use Rattle.std.proofs.lemmas.Bool.{and_left, both_ways, ne_eqb, eqb-true}
use Rattle.std.proofs.lemmas.Bool.Decides.{nat_tests}
use Rattle.std.specs.Char.{is_ascii_digit}
use Rattle.std.specs.List.{list_all}
use Rattle.dh_syntax.specs.declared.tokens.Mark.TheVariants as marks
use Rattle.dh_syntax.specs.declared.tokens.TokenKind.TheVariants as kinds
use Rattle.dh_syntax.specs.Text.Characters.{is_quoted_label_byte}
use Rattle.dh_syntax.specs.Text.Derivation as d
use Rattle.dh_syntax.specs.Text.Lexing.{Place, Before, Start, AName, NameAt, Other, before_after, is_wide_index, code_form}
use Rattle.dh_syntax.specs.Text.LexForms.{Is}
use Rattle.dh_syntax.specs.Text.Meaning.{variable_term}
use Rattle.dh_syntax.specs.Text.Printed.{label}
use Rattle.dh_syntax.specs.Expressions.Tree.{Leaf, Var}
use Rattle.dh_syntax.specs.Text.Yield.{Written, token, mark, name, index_yield, free}
use Rattle.dh_layout.proofs.Reading.Ends.{is_seam}
use Rattle.dh_layout.proofs.Trees.Good.{Good}
use Rattle.dh_layout.proofs.Trees.Trees.{label_token, variable_tree}
use Rattle.dh_layout.proofs.Reading.Walks.{IsCode, Lexes}
use Rattle.dh_layout.proofs.Reading.Walk.{given, form_in_code, calm_index, regrouped}
use Rattle.dh_layout.proofs.Reading.Numbers.{natural_front}
use Rattle.dh_layout.proofs.Reading.Tokens.{label_token_read, label_is, name_ends, to_sixteen}

narrow : (b : Before) (i : ℕ) → i ≤ 0x7FFF_FFFF → is_wide_index b (kinds.Natural i) ≡ false
narrow Start i h = refl
narrow AName i h = refl
narrow NameAt i h = grind (arith, nat_tests)
narrow Other i h = refl

index_read : (p : Place) (i : ℕ) (rest : List ℕ) (n : ℕ) (ws : List Written) → IsCode p → i ≤ 0x7FFF_FFFF → is_seam 16 rest ≡ true → Lexes p false rest ws
    → Lexes p false (64 ∷ decimal i ++ rest) (mark n free marks.At ∷ token n free (kinds.Natural i) ∷ ws)
index_read p i rest n ws c h s after =
    let f = natural_front i rest (omega (arith, h)) s in
    by (decimal i) f.0 f.1 f.2 f.3 f.4
  where
    by : (ds : List ℕ) (b : ℕ) (x : List ℕ) → ds ≡ b ∷ x → is_ascii_digit b ≡ true → code_form (b ∷ x ++ rest) ≡ Some (record { found = Is (kinds.Natural i); len = suc (length x) }) → Lexes p false (64 ∷ ds ++ rest) (mark n free marks.At ∷ token n free (kinds.Natural i) ∷ ws)
    by ds b x e digit f =
        let brace : eqb b 125 ≡ false = ne_eqb b 125 (λ same. both_ways (is_ascii_digit 125) refl (sym (ap is_ascii_digit same) ∙ digit)) in
        let hash : eqb 35 b ≡ false = ne_eqb 35 b (λ same. both_ways (is_ascii_digit 35) refl (ap is_ascii_digit same ∙ digit)) in
        subst (λ t. Lexes p false (64 ∷ t ++ rest) (mark n free marks.At ∷ token n free (kinds.Natural i) ∷ ws)) (sym e)
        (record {
          lexes = λ before gap calm gapped at.
              given p before gap at 64 [] (b ∷ x ++ rest) (kinds.Mark marks.At) n false (token n free (kinds.Natural i) ∷ ws) (form_in_code before p (64 ∷ b ∷ x ++ rest) _ c refl refl refl) (calm_index before (kinds.Mark marks.At) calm) gapped
              (λ at'. given p (before_after (kinds.Mark marks.At) before) false at' b x rest (kinds.Natural i) n false ws
              (form_in_code (before_after (kinds.Mark marks.At) before) p (b ∷ x ++ rest) _ c brace (and_left (eqb 35 b) _ hash) f)
              (narrow (before_after (kinds.Mark marks.At) before) i h) refl (λ at''. after.lexes Other false tt refl at''));
        })

pub good_variable : (v : Var) → list_all is_quoted_label_byte v.name ≡ true → v.index ≤ 0x7FFF_FFFF → Good (Leaf v) (variable_tree v)
good_variable v q h = record {
  means = by_index (v.index == 0) refl;
  is_derived = refl;
  levels = refl;
  bares = refl;
  reads = λ n g p rest ws c seam after. reads_by n g p rest ws c seam after (v.index == 0);
}
  where
    by_index : (t : Bool) → (v.index == 0) ≡ t → variable_term (d.name_label (label_token v.name)) (if t then None else Some v.index) ≡ Leaf v
    by_index true e = ap (λ x. Leaf (record { name = x; index = 0 })) (label_is v.name) ∙ ap (λ i. Leaf (record { name = v.name; index = i })) (sym (eqb-true v.index 0 e))
    by_index false e = ap (λ x. Leaf (record { name = x; index = v.index })) (label_is v.name)

    reads_by : (n : ℕ) (g : Bool) (p : Place) (rest : List ℕ) (ws : List Written) → IsCode p → is_seam 17 rest ≡ true → Lexes p false rest ws → (t : Bool)
        → Lexes p g ((if t then label v.name else label v.name ++ codes "@" ++ decimal v.index) ++ rest) ((name n g (label_token v.name) ∷ index_yield n (if t then None else Some v.index)) ++ ws)
    reads_by n g p rest ws c seam after true = label_token_read p g v.name rest n ws c q (name_ends 17 rest seam) after
    reads_by n g p rest ws c seam after false =
        regrouped p g (label v.name) (codes "@" ∷ decimal v.index ∷ []) rest (name n g (label_token v.name) ∷ mark n free marks.At ∷ token n free (kinds.Natural v.index) ∷ []) [] ws
        (label_token_read p g v.name _ n _ c q refl (index_read p v.index rest n ws c h (to_sixteen 17 rest seam) after))

-- The nodes of a fixed number of parts.
use Rattle.std.proofs.Common.{◌≡◌, ℕ, zero, suc, ◌<◌, Bool, true, false, not, ◌==◌, eqb, if◌then◌else◌, nat_lt, nat_le, List, [], ◌∷◌, ◌++◌, length, Some, None, codes, decimal, ◌^◌, ℤ, refl, sym, ap, subst, ◌∙◌}
use Rattle.std.specs.List.{list_all}
use Rattle.dh_syntax.specs.declared.expressions.Op.TheVariants as ops
use Rattle.dh_syntax.specs.declared.tokens.Keyword.TheVariants as keywords
use Rattle.dh_syntax.specs.declared.tokens.Mark.TheVariants as marks
use Rattle.dh_syntax.specs.declared.tokens.TokenKind.TheVariants as kinds
use Rattle.dh_syntax.specs.Text.Characters.{begins, is_sign, is_quoted_label_byte}
use Rattle.dh_syntax.specs.Text.Derivation as d
use Rattle.dh_syntax.specs.Text.Derivation.{Derivation}
use Rattle.dh_syntax.specs.Text.Derived.{binds, is_special, derived}
use Rattle.dh_syntax.specs.Text.Lexing.{Place, Outside, Interpolated, Among, Before, before_after, place_after}
use Rattle.dh_syntax.specs.Text.Meaning.{meaning}
use Rattle.dh_syntax.specs.Text.Printed.{Layout, form, layout, at, annotated, label, lambda, forall, arrow, quantified, operation}
use Rattle.dh_syntax.specs.Expressions.Tree.{Term, Node, end, kid, Name}
use Rattle.dh_syntax.specs.Text.Yield.{Written, token, mark, keyword, name, yield, free, apart, gap_after}
use Rattle.dh_layout.proofs.Reading.Ends.{is_seam, is_word}
use Rattle.dh_syntax.specs.Expressions.Numbers as equal
use Rattle.dh_syntax.specs.declared.operators.BinOp.{BinOp}
use Rattle.dh_syntax.specs.declared.operators.BinOp.TheVariants as binary
use Rattle.dh_syntax.specs.declared.operators.Builtin.{Builtin}
use Rattle.dh_syntax.specs.declared.operators.Builtin.TheVariants as builtins
use Rattle.dh_syntax.specs.Text.LexNames.{named}
use Rattle.dh_syntax.specs.Expressions.Levels.{level_of, left_level}
use Rattle.dh_syntax.specs.Expressions.Operators.{builtin_name}
use Rattle.dh_layout.proofs.Trees.Good.{Reads, Good}
use Rattle.dh_layout.proofs.Trees.Trees.{at_tree, annotated_tree, label_token, label_key, function_tree}
use Rattle.dh_layout.proofs.Reading.Walks.{IsCode, IsCalm, Lexes}
use Rattle.dh_layout.proofs.Reading.Walks.{braced as braced_place}
use Rattle.dh_layout.proofs.Reading.Walk.{give, regrouped, space, loose, open_brace, close_brace}
use Rattle.dh_layout.proofs.Reading.Tokens.{word, mid, mid_word, front_word, label_token_read, label_is, any_gap, dot_seam, dot_label, name_ends, to_sixteen}
use Rattle.dh_layout.proofs.Trees.Levels.{both, fits, whole, annotated_fits, raised}
use Rattle.dh_layout.proofs.Reading.Numbers.{natural_front, integer_front}
use Rattle.std.proofs.lemmas.Bool.{and_parts, and_left, both_ways, ne_eqb}
use Rattle.std.specs.Char.{is_ascii_digit}
use Rattle.dh_syntax.specs.Text.LexForms.{Is}
use Rattle.dh_syntax.specs.Text.Lexing.{code_form}
use Rattle.dh_syntax.specs.Limits.{integer_fits}

pub good_lambda : (x : Name) (a b : Term) (s t : Derivation) → list_all is_quoted_label_byte x ≡ true → Good a s → Good b t
    → Good (Node ops.Lam (kid None a (kid (Some x) b end))) (d.lambda (label_token x) s t)
good_lambda x a b s t q ga gb =
    let fa = whole a s ga in
    let fb = whole b t gb in
    record {
      means = let m = fa.means in let k = fb.means in let l = label_is x in cc;
      is_derived = both fa.is_derived fb.is_derived;
      levels = refl;
      bares = refl;
      reads = λ n g p rest ws c seam after.
          regrouped p g lambda (codes "(" ∷ label x ∷ codes " : " ∷ at 0 (layout a) ∷ codes ") " ∷ arrow ∷ codes " " ∷ at 0 (layout b) ∷ []) rest
          (mark n g marks.Lambda ∷ mark n free marks.ParenOpen ∷ name n free (label_token x) ∷ mark n free marks.Colon ∷ [])
          (yield (suc n) apart s ∷ (mark n free marks.ParenClose ∷ mark n free marks.Arrow ∷ yield (suc n) free t) ∷ []) ws
          (give p g 0xCE (0xBB ∷ []) _ (kinds.Mark marks.Lambda) n _ c (λ b. tt) refl refl refl (λ at.
          give p false 40 [] _ (kinds.Mark marks.ParenOpen) n _ c (λ b. tt) refl refl refl (λ at.
          label_token_read p false x _ n _ c q refl
          (mid p false 58 [] _ (kinds.Mark marks.Colon) n _ c (λ b. tt) (λ at. refl) refl refl refl
          (fa.reads (suc n) true p _ _ c refl
          (give p false 41 [] _ (kinds.Mark marks.ParenClose) n _ c (λ b. tt) refl refl refl (λ at.
          mid p false 0xE2 (0x86 ∷ 0x92 ∷ []) _ (kinds.Mark marks.Arrow) n _ c (λ b. tt) (λ at. refl) refl refl refl
          (loose p _ _ (fb.reads (suc n) false p rest ws c seam after)))))))));
    }

pub good_application : (a b : Term) (s t : Derivation) → Good a s → Good b t
    → Good (Node ops.App (kid None a (kid None b end))) (d.application (at_tree 14 s) (at_tree 15 t))
good_application a b s t ga gb =
    let fa = fits 14 a s ga refl in
    let fb = fits 15 b t gb refl in
    record {
      means = let m = fa.means in let k = fb.means in cc;
      is_derived = both (both (both fa.level fb.level) fa.is_derived) fb.is_derived;
      levels = refl;
      bares = refl;
      reads = λ n g p rest ws c seam after.
          regrouped p g (at 14 (layout a)) (codes " " ∷ at 15 (layout b) ∷ []) rest
          (yield n g (at_tree 14 s)) (yield n apart (at_tree 15 t) ∷ []) ws
          (fa.reads n g p _ _ c refl (space p _ _ c (fb.reads n true p rest ws c seam after)));
    }

pub good_choice : (a b e : Term) (s t u : Derivation) → Good a s → Good b t → Good e u
    → Good (Node ops.If (kid None a (kid None b (kid None e end)))) (d.choice s t u)
good_choice a b e s t u ga gb ge =
    let fa = whole a s ga in
    let fb = whole b t gb in
    let fc = whole e u ge in
    record {
      means = let m = fa.means in let k = fb.means in let l = fc.means in cc;
      is_derived = both (both fa.is_derived fb.is_derived) fc.is_derived;
      levels = refl;
      bares = refl;
      reads = λ n g p rest ws c seam after.
          regrouped p g (codes "if ") (at 0 (layout a) ∷ codes " then " ∷ at 0 (layout b) ∷ codes " else " ∷ at 0 (layout e) ∷ []) rest
          (keyword n g keywords.If ∷ []) (yield (suc n) apart s ∷ (keyword n free keywords.Then ∷ yield (suc n) apart t) ∷ (keyword n free keywords.Else ∷ yield (suc n) apart u) ∷ []) ws
          (front_word p g (codes "if") _ (kinds.Keyword keywords.If) n _ c refl refl (λ b. tt) (λ at. refl) (fa.reads (suc n) true p _ _ c refl (mid_word p false (codes "then") _ (kinds.Keyword keywords.Then) n _ c refl refl (λ b. tt) (λ at. refl) (fb.reads (suc n) true p _ _ c refl (mid_word p false (codes "else") _ (kinds.Keyword keywords.Else) n _ c refl refl (λ b. tt) (λ at. refl) (fc.reads (suc n) true p rest ws c seam after))))));
    }

pub good_empty_list : (a : Term) (s : Derivation) → Good a s
    → Good (Node ops.EmptyList (kid None a end)) (d.empty_list false s)
good_empty_list a s ga =
    let fa = whole a s ga in
    record {
      means = let m = fa.means in cc;
      is_derived = fa.is_derived;
      levels = refl;
      bares = refl;
      reads = λ n g p rest ws c seam after.
          regrouped p g (codes "[] : ") (at 0 (layout a) ∷ []) rest
          (mark n g marks.BracketOpen ∷ mark n free marks.BracketClose ∷ mark n free marks.Colon ∷ []) (yield (suc n) apart s ∷ []) ws
          (give p g 91 [] _ (kinds.Mark (marks.BracketOpen)) n _ c (λ b. tt) refl refl refl (λ at. give p false 93 [] _ (kinds.Mark (marks.BracketClose)) n _ c (λ b. tt) refl refl refl (λ at. mid p false 58 [] _ (kinds.Mark (marks.Colon)) n _ c (λ b. tt) (λ at. refl) refl refl refl (fa.reads (suc n) true p rest ws c seam after))));
    }

pub good_some : (a : Term) (s : Derivation) → Good a s
    → Good (Node ops.Some (kid None a end)) (d.some_of (at_tree 15 s))
good_some a s ga =
    let fa = fits 15 a s ga refl in
    record {
      means = let m = fa.means in cc;
      is_derived = both fa.level fa.is_derived;
      levels = refl;
      bares = refl;
      reads = λ n g p rest ws c seam after.
          regrouped p g (codes "Some ") (at 15 (layout a) ∷ []) rest
          (keyword n g keywords.Some ∷ []) (yield n apart (at_tree 15 s) ∷ []) ws
          (front_word p g (codes "Some") _ (kinds.Keyword keywords.Some) n _ c refl refl (λ b. tt) (λ at. refl) (fa.reads n true p rest ws c seam after));
    }

pub good_to_map : (a : Term) (s : Derivation) → Good a s
    → Good (Node (ops.ToMap false) (kid None a end)) (d.to_map (at_tree 15 s))
good_to_map a s ga =
    let fa = fits 15 a s ga refl in
    record {
      means = let m = fa.means in cc;
      is_derived = both fa.level fa.is_derived;
      levels = refl;
      bares = refl;
      reads = λ n g p rest ws c seam after.
          regrouped p g (codes "toMap ") (at 15 (layout a) ∷ []) rest
          (keyword n g keywords.ToMap ∷ []) (yield n apart (at_tree 15 s) ∷ []) ws
          (front_word p g (codes "toMap") _ (kinds.Keyword keywords.ToMap) n _ c refl refl (λ b. tt) (λ at. refl) (fa.reads n true p rest ws c seam after));
    }

pub good_merge : (a b : Term) (s t : Derivation) → Good a s → Good b t
    → Good (Node (ops.Merge false) (kid None a (kid None b end))) (d.merging (at_tree 15 s) (at_tree 15 t))
good_merge a b s t ga gb =
    let fa = fits 15 a s ga refl in
    let fb = fits 15 b t gb refl in
    record {
      means = let m = fa.means in let k = fb.means in cc;
      is_derived = both (both (both fa.level fb.level) fa.is_derived) fb.is_derived;
      levels = refl;
      bares = refl;
      reads = λ n g p rest ws c seam after.
          regrouped p g (codes "merge ") (at 15 (layout a) ∷ codes " " ∷ at 15 (layout b) ∷ []) rest
          (keyword n g keywords.Merge ∷ []) (yield n apart (at_tree 15 s) ∷ yield n apart (at_tree 15 t) ∷ []) ws
          (front_word p g (codes "merge") _ (kinds.Keyword keywords.Merge) n _ c refl refl (λ b. tt) (λ at. refl) (fa.reads n true p _ _ c refl (space p _ _ c (fb.reads n true p rest ws c seam after))));
    }

pub good_merge_as : (a b e : Term) (s t u : Derivation) → Good a s → Good b t → Good e u
    → Good (Node (ops.Merge true) (kid None a (kid None b (kid None e end)))) (d.merge_as (at_tree 15 s) (at_tree 15 t) u)
good_merge_as a b e s t u ga gb ge =
    let fa = fits 15 a s ga refl in
    let fb = fits 15 b t gb refl in
    let fc = whole e u ge in
    record {
      means = let m = fa.means in let k = fb.means in let l = fc.means in cc;
      is_derived = both (both (both (both fa.level fb.level) fa.is_derived) fb.is_derived) fc.is_derived;
      levels = refl;
      bares = refl;
      reads = λ n g p rest ws c seam after.
          regrouped p g (codes "merge ") (at 15 (layout a) ∷ codes " " ∷ at 15 (layout b) ∷ codes " : " ∷ at 0 (layout e) ∷ []) rest
          (keyword n g keywords.Merge ∷ []) (yield n apart (at_tree 15 s) ∷ yield n apart (at_tree 15 t) ∷ (mark n free marks.Colon ∷ yield (suc n) apart u) ∷ []) ws
          (front_word p g (codes "merge") _ (kinds.Keyword keywords.Merge) n _ c refl refl (λ b. tt) (λ at. refl) (fa.reads n true p _ _ c refl (space p _ _ c (fb.reads n true p _ _ c refl (mid p false 58 [] _ (kinds.Mark (marks.Colon)) n _ c (λ b. tt) (λ at. refl) refl refl refl (fc.reads (suc n) true p rest ws c seam after))))));
    }

pub good_to_map_as : (a b : Term) (s t : Derivation) → Good a s → Good b t
    → Good (Node (ops.ToMap true) (kid None a (kid None b end))) (d.to_map_as (at_tree 15 s) t)
good_to_map_as a b s t ga gb =
    let fa = fits 15 a s ga refl in
    let fb = whole b t gb in
    record {
      means = let m = fa.means in let k = fb.means in cc;
      is_derived = both (both fa.level fa.is_derived) fb.is_derived;
      levels = refl;
      bares = refl;
      reads = λ n g p rest ws c seam after.
          regrouped p g (codes "toMap ") (at 15 (layout a) ∷ codes " : " ∷ at 0 (layout b) ∷ []) rest
          (keyword n g keywords.ToMap ∷ []) (yield n apart (at_tree 15 s) ∷ (mark n free marks.Colon ∷ yield (suc n) apart t) ∷ []) ws
          (front_word p g (codes "toMap") _ (kinds.Keyword keywords.ToMap) n _ c refl refl (λ b. tt) (λ at. refl) (fa.reads n true p _ _ c refl (mid p false 58 [] _ (kinds.Mark (marks.Colon)) n _ c (λ b. tt) (λ at. refl) refl refl refl (fb.reads (suc n) true p rest ws c seam after))));
    }

pub good_assertion : (a : Term) (s : Derivation) → Good a s
    → Good (Node ops.Assert (kid None a end)) (d.assertion s)
good_assertion a s ga =
    let fa = whole a s ga in
    record {
      means = let m = fa.means in cc;
      is_derived = fa.is_derived;
      levels = refl;
      bares = refl;
      reads = λ n g p rest ws c seam after.
          regrouped p g (codes "assert : ") (at 0 (layout a) ∷ []) rest
          (keyword n g keywords.Assert ∷ mark n free marks.Colon ∷ []) (yield (suc n) apart s ∷ []) ws
          (word p g (codes "assert") _ (kinds.Keyword keywords.Assert) n _ c refl refl refl (λ b. tt) (λ at. refl) (mid p false 58 [] _ (kinds.Mark (marks.Colon)) n _ c (λ b. tt) (λ at. refl) refl refl refl (fa.reads (suc n) true p rest ws c seam after)));
    }

pub good_annotation : (a b : Term) (s t : Derivation) → Good a s → Good b t
    → Good (Node ops.Annot (kid None a (kid None b end))) (d.annotation (annotated_tree s) t)
good_annotation a b s t ga gb =
    let ff = annotated_fits a s ga in
    let fa = ff.0 in
    let fb = whole b t gb in
    record {
      means = let m = fa.means in let k = fb.means in cc;
      is_derived = both (both (both fa.level (ap not ff.1)) fa.is_derived) fb.is_derived;
      levels = refl;
      bares = refl;
      reads = λ n g p rest ws c seam after.
          regrouped p g (annotated (layout a)) (codes " : " ∷ at 0 (layout b) ∷ []) rest
          (yield n g (annotated_tree s)) ((mark n free marks.Colon ∷ yield (suc n) apart t) ∷ []) ws
          (fa.reads n g p _ _ c refl (mid p false 58 [] _ (kinds.Mark (marks.Colon)) n _ c (λ b. tt) (λ at. refl) refl refl refl (fb.reads (suc n) true p rest ws c seam after)));
    }

pub good_let : (x : Name) (a b : Term) (s t : Derivation) → list_all is_quoted_label_byte x ≡ true → Good a s → Good b t
    → Good (Node (ops.Let false) (kid None a (kid (Some x) b end))) (d.lets (d.one_let (label_token x) d.untyped s) t)
good_let x a b s t q ga gb =
    let fa = whole a s ga in
    let fb = whole b t gb in
    record {
      means = let m = fa.means in let k = fb.means in let l = label_is x in cc;
      is_derived = both fa.is_derived fb.is_derived;
      levels = refl;
      bares = refl;
      reads = λ n g p rest ws c seam after.
          regrouped p g (codes "let ") (label x ∷ codes " = " ∷ at 0 (layout a) ∷ codes " in " ∷ at 0 (layout b) ∷ []) rest
          (keyword n g keywords.Let ∷ name n apart (label_token x) ∷ []) ((mark n free marks.Equals ∷ yield (suc n) free s) ∷ (keyword n apart keywords.In ∷ yield (suc n) apart t) ∷ []) ws
          (front_word p g (codes "let") _ (kinds.Keyword keywords.Let) n _ c refl refl (λ b. tt) (λ at. refl) (label_token_read p true x _ n _ c q refl (mid p false 61 [] _ (kinds.Mark (marks.Equals)) n _ c (λ b. tt) (λ at. refl) refl refl refl (loose p _ _ (fa.reads (suc n) false p _ _ c refl (mid_word p true (codes "in") _ (kinds.Keyword keywords.In) n _ c refl refl (λ b. tt) (λ at. refl) (fb.reads (suc n) true p rest ws c seam after)))))));
    }

pub good_let_typed : (x : Name) (a b e : Term) (s t u : Derivation) → list_all is_quoted_label_byte x ≡ true → Good a s → Good b t → Good e u
    → Good (Node (ops.Let true) (kid None a (kid None b (kid (Some x) e end)))) (d.lets (d.one_let (label_token x) (d.typed s) t) u)
good_let_typed x a b e s t u q ga gb ge =
    let fa = whole a s ga in
    let fb = whole b t gb in
    let fc = whole e u ge in
    record {
      means = let m = fa.means in let k = fb.means in let j = fc.means in let l = label_is x in cc;
      is_derived = both (both fa.is_derived fb.is_derived) fc.is_derived;
      levels = refl;
      bares = refl;
      reads = λ n g p rest ws c seam after.
          regrouped p g (codes "let ") (label x ∷ codes " : " ∷ at 0 (layout a) ∷ codes " = " ∷ at 0 (layout b) ∷ codes " in " ∷ at 0 (layout e) ∷ []) rest
          (keyword n g keywords.Let ∷ name n apart (label_token x) ∷ mark n free marks.Colon ∷ []) (yield (suc n) apart s ∷ (mark n free marks.Equals ∷ yield (suc n) free t) ∷ (keyword n apart keywords.In ∷ yield (suc n) apart u) ∷ []) ws
          (front_word p g (codes "let") _ (kinds.Keyword keywords.Let) n _ c refl refl (λ b. tt) (λ at. refl) (label_token_read p true x _ n _ c q refl (mid p false 58 [] _ (kinds.Mark (marks.Colon)) n _ c (λ b. tt) (λ at. refl) refl refl refl (fa.reads (suc n) true p _ _ c refl (mid p false 61 [] _ (kinds.Mark (marks.Equals)) n _ c (λ b. tt) (λ at. refl) refl refl refl (loose p _ _ (fb.reads (suc n) false p _ _ c refl (mid_word p true (codes "in") _ (kinds.Keyword keywords.In) n _ c refl refl (λ b. tt) (λ at. refl) (fc.reads (suc n) true p rest ws c seam after)))))))));
    }

-- a function type by whether its binder is `_`
record GoodAs (e : Term) (l : Layout) (t : Derivation) : Type 0 where
  means : meaning t ≡ e
  is_derived : derived t ≡ true
  levels : l.level ≡ binds t
  bares : l.bare ≡ is_special t
  reads : Reads (binds t) l.text t

same_bytes : (xs ys : List ℕ) → equal.bytes_eq xs ys ≡ true → xs ≡ ys
same_bytes [] [] h = refl
same_bytes [] (y ∷ ys) h = cc
same_bytes (x ∷ xs) [] h = cc
same_bytes (x ∷ xs) (y ∷ ys) h =
    let parts = and_parts (equal.eq x y) (equal.bytes_eq xs ys) h in
    ap (λ z. z ∷ xs) (same x y parts.0) ∙ ap (λ zs. y ∷ zs) (same_bytes xs ys parts.1)
  where
    same : (m n : ℕ) → equal.eq m n ≡ true → m ≡ n
    same zero zero h = refl
    same zero (suc n) h = cc
    same (suc m) zero h = cc
    same (suc m) (suc n) h = ap suc (same m n h)

good_arrow : (x : Name) (a b : Term) (s t : Derivation) → codes "_" ≡ x → Good a s → Good b t
    → GoodAs (Node ops.Pi (kid None a (kid (Some x) b end))) (form 0 (at 1 (layout a) ++ codes " " ++ arrow ++ codes " " ++ at 0 (layout b))) (d.arrow (at_tree 1 s) t)
good_arrow x a b s t q ga gb =
    let fa = fits 1 a s ga refl in
    let fb = whole b t gb in
    record {
      means = let m = fa.means in let k = fb.means in cc;
      is_derived = both (both fa.level fa.is_derived) fb.is_derived;
      levels = refl;
      bares = refl;
      reads = λ n g p rest ws c seam after.
          regrouped p g (at 1 (layout a)) (codes " " ∷ arrow ∷ codes " " ∷ at 0 (layout b) ∷ []) rest (yield n g (at_tree 1 s)) ((mark n free marks.Arrow ∷ yield (suc n) free t) ∷ []) ws
          (fa.reads n g p _ _ c refl
          (mid p false 0xE2 (0x86 ∷ 0x92 ∷ []) _ (kinds.Mark marks.Arrow) n _ c (λ b. tt) (λ at. refl) refl refl refl
          (loose p _ _ (fb.reads (suc n) false p rest ws c seam after))));
    }

good_forall : (x : Name) (a b : Term) (s t : Derivation) → list_all is_quoted_label_byte x ≡ true → Good a s → Good b t
    → GoodAs (Node ops.Pi (kid None a (kid (Some x) b end))) (quantified forall x (layout a) (layout b)) (d.pi (label_token x) s t)
good_forall x a b s t q ga gb =
    let fa = whole a s ga in
    let fb = whole b t gb in
    record {
      means = let m = fa.means in let k = fb.means in let l = label_is x in cc;
      is_derived = both fa.is_derived fb.is_derived;
      levels = refl;
      bares = refl;
      reads = λ n g p rest ws c seam after.
          regrouped p g forall (codes "(" ∷ label x ∷ codes " : " ∷ at 0 (layout a) ∷ codes ") " ∷ arrow ∷ codes " " ∷ at 0 (layout b) ∷ []) rest
          (mark n g marks.Forall ∷ mark n free marks.ParenOpen ∷ name n free (label_token x) ∷ mark n free marks.Colon ∷ [])
          (yield (suc n) apart s ∷ (mark n free marks.ParenClose ∷ mark n free marks.Arrow ∷ yield (suc n) free t) ∷ []) ws
          (give p g 0xE2 (0x88 ∷ 0x80 ∷ []) _ (kinds.Mark marks.Forall) n _ c (λ b. tt) refl refl refl (λ at.
          give p false 40 [] _ (kinds.Mark marks.ParenOpen) n _ c (λ b. tt) refl refl refl (λ at.
          label_token_read p false x _ n _ c q refl
          (mid p false 58 [] _ (kinds.Mark marks.Colon) n _ c (λ b. tt) (λ at. refl) refl refl refl
          (fa.reads (suc n) true p _ _ c refl
          (give p false 41 [] _ (kinds.Mark marks.ParenClose) n _ c (λ b. tt) refl refl refl (λ at.
          mid p false 0xE2 (0x86 ∷ 0x92 ∷ []) _ (kinds.Mark marks.Arrow) n _ c (λ b. tt) (λ at. refl) refl refl refl
          (loose p _ _ (fb.reads (suc n) false p rest ws c seam after)))))))));
    }

pub good_function : (x : Name) (a b : Term) (s t : Derivation) → list_all is_quoted_label_byte x ≡ true → Good a s → Good b t
    → Good (Node ops.Pi (kid None a (kid (Some x) b end))) (function_tree x s t)
good_function x a b s t q ga gb =
    let g = by (equal.bytes_eq x (codes "_")) refl in
    record { means = g.means; is_derived = g.is_derived; levels = g.levels; bares = g.bares; reads = g.reads }
  where
    by : (u : Bool) → equal.bytes_eq x (codes "_") ≡ u
        → GoodAs (Node ops.Pi (kid None a (kid (Some x) b end))) (if u then form 0 (at 1 (layout a) ++ codes " " ++ arrow ++ codes " " ++ at 0 (layout b)) else quantified forall x (layout a) (layout b))
        (if u then d.arrow (at_tree 1 s) t else d.pi (label_token x) s t)
    by true is = good_arrow x a b s t (sym (same_bytes x (codes "_") is)) ga gb
    by false is = good_forall x a b s t q ga gb

-- operators between spaces
spaced : (o : BinOp) (b : ℕ) (x : List ℕ) (l r : List ℕ) (s t : Derivation) → ((before : Before) → IsCalm (before_after (kinds.Mark (marks.Operator o)) before)) → ((at : ℕ) (p : Place) → place_after (kinds.Mark (marks.Operator o)) at p ≡ p)
    → (b == 125) ≡ false → ((rest : List ℕ) → begins "#!" (b ∷ x ++ 32 ∷ rest) ≡ false)
    → ((rest : List ℕ) → code_form (b ∷ x ++ 32 ∷ rest) ≡ Some (record { found = Is (kinds.Mark (marks.Operator o)); len = suc (length x) }))
    → ((rest : List ℕ) → is_seam (level_of o) rest ≡ true → is_seam (suc (level_of o)) rest ≡ true) → ((rest : List ℕ) → is_seam (left_level o) (32 ∷ rest) ≡ true)
    → Reads (left_level o) l s → Reads (suc (level_of o)) r t
    → Reads (level_of o) (l ++ codes " " ++ (b ∷ x) ++ codes " " ++ r) (d.operation o s t)
spaced o b x l r s t calm stays brace line e up left h k n g p rest ws c seam after =
    regrouped p g l (codes " " ∷ (b ∷ x) ∷ codes " " ∷ r ∷ []) rest (yield n g s) ((mark n free (marks.Operator o) ∷ yield n (gap_after o) t) ∷ []) ws
    (h n g p _ _ c (left (b ∷ x ++ 32 ∷ (r ++ rest)))
    (mid p false b x (r ++ rest) (kinds.Mark (marks.Operator o)) n _ c calm (λ at. stays at p) brace (line (r ++ rest)) (e (r ++ rest))
    (any_gap (gap_after o) p _ _ (k n (gap_after o) p rest ws c (up rest seam) after))))

complete : (l r : List ℕ) (s t : Derivation) → Reads 16 l s → Reads 16 r t → Reads 15 (l ++ codes "::" ++ r) (d.operation binary.Complete s t)
complete l r s t h k n g p rest ws c seam after =
    regrouped p g l (codes "::" ∷ r ∷ []) rest (yield n g s) ((mark n free (marks.Operator binary.Complete) ∷ yield n free t) ∷ []) ws
    (h n g p _ _ c refl
    (give p false 58 (58 ∷ []) _ (kinds.Mark (marks.Operator binary.Complete)) n _ c (λ b. tt) refl refl refl (λ at.
    k n false p rest ws c (raised 16 15 rest refl seam) after)))

operator_reads : (o : BinOp) (a b : Layout) (s t : Derivation) → Reads (left_level o) (at (left_level o) a) s → Reads (suc (level_of o)) (at (suc (level_of o)) b) t → Reads (level_of o) (operation o a b).text (d.operation o s t)
operator_reads binary.Complete a b s t h k = complete (at 16 a) (at 16 b) s t h k
operator_reads binary.Equivalent a b s t h k = spaced binary.Equivalent 0xE2 (0x89 ∷ 0xA1 ∷ []) (at 1 a) (at 2 b) s t (λ b. tt) (λ at p. refl) refl (λ r. refl) (λ r. refl) (λ r s. s) (λ r. refl) h k
operator_reads binary.Fallback a b s t h k = spaced binary.Fallback 63 [] (at 2 a) (at 3 b) s t (λ b. tt) (λ at p. refl) refl (λ r. refl) (λ r. refl) (λ r s. s) (λ r. refl) h k
operator_reads binary.Or a b s t h k = spaced binary.Or 124 (124 ∷ []) (at 3 a) (at 4 b) s t (λ b. tt) (λ at p. refl) refl (λ r. refl) (λ r. refl) (λ r s. s) (λ r. refl) h k
operator_reads binary.Plus a b s t h k = spaced binary.Plus 43 [] (at 4 a) (at 5 b) s t (λ b. tt) (λ at p. refl) refl (λ r. refl) (λ r. refl) (λ r s. s) (λ r. refl) h k
operator_reads binary.TextAppend a b s t h k = spaced binary.TextAppend 43 (43 ∷ []) (at 5 a) (at 6 b) s t (λ b. tt) (λ at p. refl) refl (λ r. refl) (λ r. refl) (λ r s. s) (λ r. refl) h k
operator_reads binary.ListAppend a b s t h k = spaced binary.ListAppend 35 [] (at 6 a) (at 7 b) s t (λ b. tt) (λ at p. refl) refl (λ r. refl) (λ r. refl) (λ r s. s) (λ r. refl) h k
operator_reads binary.And a b s t h k = spaced binary.And 38 (38 ∷ []) (at 7 a) (at 8 b) s t (λ b. tt) (λ at p. refl) refl (λ r. refl) (λ r. refl) (λ r s. s) (λ r. refl) h k
operator_reads binary.Combine a b s t h k = spaced binary.Combine 0xE2 (0x88 ∷ 0xA7 ∷ []) (at 8 a) (at 9 b) s t (λ b. tt) (λ at p. refl) refl (λ r. refl) (λ r. refl) (λ r s. s) (λ r. refl) h k
operator_reads binary.Prefer a b s t h k = spaced binary.Prefer 0xE2 (0xAB ∷ 0xBD ∷ []) (at 9 a) (at 10 b) s t (λ b. tt) (λ at p. refl) refl (λ r. refl) (λ r. refl) (λ r s. s) (λ r. refl) h k
operator_reads binary.CombineTypes a b s t h k = spaced binary.CombineTypes 0xE2 (0xA9 ∷ 0x93 ∷ []) (at 10 a) (at 11 b) s t (λ b. tt) (λ at p. refl) refl (λ r. refl) (λ r. refl) (λ r s. s) (λ r. refl) h k
operator_reads binary.Times a b s t h k = spaced binary.Times 42 [] (at 11 a) (at 12 b) s t (λ b. tt) (λ at p. refl) refl (λ r. refl) (λ r. refl) (λ r s. s) (λ r. refl) h k
operator_reads binary.Equal a b s t h k = spaced binary.Equal 61 (61 ∷ []) (at 12 a) (at 13 b) s t (λ b. tt) (λ at p. refl) refl (λ r. refl) (λ r. refl) (λ r s. s) (λ r. refl) h k
operator_reads binary.NotEqual a b s t h k = spaced binary.NotEqual 33 (61 ∷ []) (at 13 a) (at 14 b) s t (λ b. tt) (λ at p. refl) refl (λ r. refl) (λ r. refl) (λ r s. s) (λ r. refl) h k

operator_layout : (o : BinOp) (a b : Layout) → ((operation o a b).level ≡ level_of o) × ((operation o a b).bare ≡ false) × (nat_le (left_level o) 17 ≡ true) × (nat_le (suc (level_of o)) 17 ≡ true) × ((k : ℕ) → nat_le (suc (level_of o)) k ≡ true → nat_lt (level_of o) k ≡ true)
operator_layout binary.Complete a b = (refl, refl, refl, refl, λ k h. h)
operator_layout binary.Equivalent a b = (refl, refl, refl, refl, λ k h. h)
operator_layout binary.Fallback a b = (refl, refl, refl, refl, λ k h. h)
operator_layout binary.Or a b = (refl, refl, refl, refl, λ k h. h)
operator_layout binary.Plus a b = (refl, refl, refl, refl, λ k h. h)
operator_layout binary.TextAppend a b = (refl, refl, refl, refl, λ k h. h)
operator_layout binary.ListAppend a b = (refl, refl, refl, refl, λ k h. h)
operator_layout binary.And a b = (refl, refl, refl, refl, λ k h. h)
operator_layout binary.Combine a b = (refl, refl, refl, refl, λ k h. h)
operator_layout binary.Prefer a b = (refl, refl, refl, refl, λ k h. h)
operator_layout binary.CombineTypes a b = (refl, refl, refl, refl, λ k h. h)
operator_layout binary.Times a b = (refl, refl, refl, refl, λ k h. h)
operator_layout binary.Equal a b = (refl, refl, refl, refl, λ k h. h)
operator_layout binary.NotEqual a b = (refl, refl, refl, refl, λ k h. h)

pub good_operation : (o : BinOp) (a b : Term) (s t : Derivation) → Good a s → Good b t → Good (Node (ops.Bin o) (kid None a (kid None b end))) (d.operation o (at_tree (left_level o) s) (at_tree (suc (level_of o)) t))
good_operation o a b s t ga gb =
    let facts = operator_layout o (layout a) (layout b) in
    let fa = fits (left_level o) a s ga facts.2 in
    let fb = fits (suc (level_of o)) b t gb facts.3 in
    record {
      means = let m = fa.means in let k = fb.means in cc;
      is_derived = both (both (both fa.level (facts.4 _ fb.level)) fa.is_derived) fb.is_derived;
      levels = facts.0;
      bares = facts.1;
      reads = operator_reads o (layout a) (layout b) (at_tree (left_level o) s) (at_tree (suc (level_of o)) t) fa.reads fb.reads;
    }

-- leaves
pub good_integer : (z : ℤ) → integer_fits z ≡ true → Good (Node (ops.Int z) end) (d.integer z)
good_integer z h = record {
  means = refl;
  is_derived = refl;
  levels = refl;
  bares = refl;
  reads = λ n g p rest ws c seam after.
      let f = integer_front z rest h (to_sixteen 17 rest seam) in
      let other : (k : ℕ) → is_sign k ≡ false → eqb k f.sign ≡ false = λ k h. ne_eqb k f.sign (λ same. both_ways (is_sign k) h (ap is_sign same ∙ f.is_sign')) in
      let brace : eqb f.sign 125 ≡ false = ne_eqb f.sign 125 (λ same. both_ways (is_sign 125) refl (sym (ap is_sign same) ∙ f.is_sign')) in
      subst (λ t. Lexes p g (t ++ rest) (token n g (kinds.Integer z) ∷ ws)) (sym f.written)
      (give p g f.sign f.digits rest (kinds.Integer z) n ws c (λ b. tt) brace (and_left (eqb 35 f.sign) _ (other 35 refl)) f.read (λ at. after));
}

pub good_truth : (b : Bool) → Good (Node (ops.Bool b) end) (d.truth b)
good_truth true = record {
  means = refl;
  is_derived = refl;
  levels = refl;
  bares = refl;
  reads = λ n g p rest ws c seam after. word p g (codes "True") rest (kinds.Bool true) n ws c refl refl (name_ends 17 rest seam) (λ b. tt) (λ at. refl) after;
}
good_truth false = record {
  means = refl;
  is_derived = refl;
  levels = refl;
  bares = refl;
  reads = λ n g p rest ws c seam after. word p g (codes "False") rest (kinds.Bool false) n ws c refl refl (name_ends 17 rest seam) (λ b. tt) (λ at. refl) after;
}

pub builtin_word : (b : Builtin) → (is_word (builtin_name b) ≡ true) × (named (builtin_name b) ≡ Is (kinds.Builtin b))
builtin_word builtins.TypeConst = (refl, refl)
builtin_word builtins.Kind = (refl, refl)
builtin_word builtins.Sort = (refl, refl)
builtin_word builtins.Bool = (refl, refl)
builtin_word builtins.Natural = (refl, refl)
builtin_word builtins.Integer = (refl, refl)
builtin_word builtins.Text = (refl, refl)
builtin_word builtins.List = (refl, refl)
builtin_word builtins.Optional = (refl, refl)
builtin_word builtins.None = (refl, refl)
builtin_word builtins.NaturalFold = (refl, refl)
builtin_word builtins.NaturalBuild = (refl, refl)
builtin_word builtins.NaturalIsZero = (refl, refl)
builtin_word builtins.NaturalEven = (refl, refl)
builtin_word builtins.NaturalOdd = (refl, refl)
builtin_word builtins.NaturalToInteger = (refl, refl)
builtin_word builtins.NaturalShow = (refl, refl)
builtin_word builtins.NaturalSubtract = (refl, refl)
builtin_word builtins.IntegerShow = (refl, refl)
builtin_word builtins.IntegerNegate = (refl, refl)
builtin_word builtins.IntegerClamp = (refl, refl)
builtin_word builtins.ListBuild = (refl, refl)
builtin_word builtins.ListFold = (refl, refl)
builtin_word builtins.ListLength = (refl, refl)
builtin_word builtins.ListHead = (refl, refl)
builtin_word builtins.ListLast = (refl, refl)
builtin_word builtins.ListIndexed = (refl, refl)
builtin_word builtins.ListReverse = (refl, refl)
builtin_word builtins.TextShow = (refl, refl)
builtin_word builtins.TextReplace = (refl, refl)

pub good_builtin : (b : Builtin) → Good (Node (ops.Builtin b) end) (d.builtin b)
good_builtin b = record {
  means = refl;
  is_derived = refl;
  levels = refl;
  bares = refl;
  reads = λ n g p rest ws c seam after. word p g (builtin_name b) rest (kinds.Builtin b) n ws c (builtin_word b).0 (builtin_word b).1 (name_ends 17 rest seam) (λ b. tt) (λ at. refl) after;
}

pub good_project_by : (a b : Term) (s t : Derivation) → Good a s → Good b t
    → Good (Node ops.ProjectType (kid None a (kid None b end))) (d.project_by (at_tree 16 s) t)
good_project_by a b s t ga gb =
    let fa = fits 16 a s ga refl in
    let fb = whole b t gb in
    record {
      means = let m = fa.means in let k = fb.means in cc;
      is_derived = both (both fa.level fa.is_derived) fb.is_derived;
      levels = refl;
      bares = refl;
      reads = λ n g p rest ws c seam after.
          regrouped p g (at 16 (layout a)) (codes ".(" ∷ at 0 (layout b) ∷ codes ")" ∷ []) rest
          (yield n g (at_tree 16 s)) ((mark n free marks.Dot ∷ mark n free marks.ParenOpen ∷ yield (suc n) free t) ∷ (mark n free marks.ParenClose ∷ []) ∷ []) ws
          (fa.reads n g p _ _ c refl (give p false 46 [] _ (kinds.Mark (marks.Dot)) n _ c (λ b. tt) refl refl refl (λ at. give p false 40 [] _ (kinds.Mark (marks.ParenOpen)) n _ c (λ b. tt) refl refl refl (λ at. fb.reads (suc n) false p _ _ c refl (give p false 41 [] _ (kinds.Mark (marks.ParenClose)) n _ c (λ b. tt) refl refl refl (λ at. after))))));
    }

pub good_project_none : (a : Term) (s : Derivation) → Good a s
    → Good (Node (ops.Project []) (kid None a end)) (d.project_none (at_tree 16 s) false)
good_project_none a s ga =
    let fa = fits 16 a s ga refl in
    record {
      means = let m = fa.means in cc;
      is_derived = both fa.level fa.is_derived;
      levels = refl;
      bares = refl;
      reads = λ n g p rest ws c seam after.
          regrouped p g (at 16 (layout a)) (codes "." ∷ codes "{}" ∷ []) rest
          (yield n g (at_tree 16 s)) ((mark n free marks.Dot ∷ mark n free marks.BraceOpen ∷ []) ∷ (mark n free marks.BraceClose ∷ []) ∷ []) ws
          (fa.reads n g p _ _ c refl (give p false 46 [] _ (kinds.Mark (marks.Dot)) n _ c (λ b. tt) refl refl refl (λ at. open_brace p false _ n _ c refl (close_brace p false rest n ws c after))));
    }

pub good_field : (x : Name) (a : Term) (s : Derivation) → list_all is_quoted_label_byte x ≡ true → Good a s
    → Good (Node (ops.Field x) (kid None a end)) (d.field (at_tree 16 s) (label_key x))
good_field x a s q ga =
    let fa = fits 16 a s ga refl in
    record {
      means = let m = fa.means in let l = label_is x in cc;
      is_derived = both fa.level fa.is_derived;
      levels = refl;
      bares = refl;
      reads = λ n g p rest ws c seam after.
          regrouped p g (at 16 (layout a)) (codes "." ∷ label x ∷ []) rest
          (yield n g (at_tree 16 s)) ((mark n free marks.Dot ∷ name n free (label_token x) ∷ []) ∷ []) ws
          (fa.reads n g p _ _ c (dot_seam x rest) (dot_label p x rest n _ c (label_token_read p false x rest n ws c q (name_ends 16 rest seam) after)));
    }

pub good_natural : (i : ℕ) → i < 2 ^ 128 → Good (Node (ops.Nat i) end) (d.natural i)
good_natural i h = record {
  means = refl;
  is_derived = refl;
  levels = refl;
  bares = refl;
  reads = λ n g p rest ws c seam after.
      let f = natural_front i rest h (to_sixteen 17 rest seam) in
      by (decimal i) f.0 f.1 rest n g p ws c f.2 f.3 f.4 after;
}
  where
    by : (ds : List ℕ) (b : ℕ) (x rest : List ℕ) (n : ℕ) (g : Bool) (p : Place) (ws : List Written) → IsCode p → ds ≡ b ∷ x → is_ascii_digit b ≡ true
        → code_form (b ∷ x ++ rest) ≡ Some (record { found = Is (kinds.Natural i); len = suc (length x) }) → Lexes p false rest ws → Lexes p g (ds ++ rest) (token n g (kinds.Natural i) ∷ ws)
    by ds b x rest n g p ws c e digit f after =
        let other : (k : ℕ) → is_ascii_digit k ≡ false → eqb k b ≡ false = λ k h. ne_eqb k b (λ same. both_ways (is_ascii_digit k) h (ap is_ascii_digit same ∙ digit)) in
        let brace : eqb b 125 ≡ false = ne_eqb b 125 (λ same. both_ways (is_ascii_digit 125) refl (sym (ap is_ascii_digit same) ∙ digit)) in
        subst (λ t. Lexes p g (t ++ rest) (token n g (kinds.Natural i) ∷ ws)) (sym e)
        (give p g b x rest (kinds.Natural i) n ws c (λ b. tt) brace (and_left (eqb 35 b) _ (other 35 refl)) f (λ at. after))

pub braced_code : (p : Place) → IsCode p → IsCode (braced_place p)
braced_code Outside c = tt
braced_code (Interpolated braces f from p) c = tt
braced_code (Among f from p) c = absurd c

pub good_empty_record_type : Good (Node (ops.RecordType []) end) (d.record_type_none false)
good_empty_record_type = record {
  means = refl;
  is_derived = refl;
  levels = refl;
  bares = refl;
  reads = λ n g p rest ws c seam after. open_brace p g _ n _ c refl (close_brace p false rest n ws c after);
}

pub good_empty_record : Good (Node (ops.Record []) end) (d.record_none false false)
good_empty_record = record {
  means = refl;
  is_derived = refl;
  levels = refl;
  bares = refl;
  reads = λ n g p rest ws c seam after. open_brace p g _ n _ c refl
      (give (braced_place p) false 61 [] _ (kinds.Mark marks.Equals) n _ (braced_code p c) (λ b. tt) refl refl refl (λ at. close_brace p false rest n ws c after));
}

pub good_empty_union : Good (Node (ops.Union []) end) (d.union_none false)
good_empty_union = record {
  means = refl;
  is_derived = refl;
  levels = refl;
  bares = refl;
  reads = λ n g p rest ws c seam after. give p g 60 [] _ (kinds.Mark marks.AngleOpen) n _ c (λ b. tt) refl refl refl (λ at.
      give p false 62 [] rest (kinds.Mark marks.AngleClose) n ws c (λ b. tt) refl refl refl (λ at. after));
}

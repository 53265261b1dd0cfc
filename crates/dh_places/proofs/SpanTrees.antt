-- The equations of the stretches that a tree of the program is.
use Rattle.std.proofs.Common.{◌≡◌, ℕ, ◌+◌, ◌<◌, ◌≤◌, List, [], ◌∷◌, ◌++◌, map, length, drop, get_or, refl, ap, sym, ◌∙◌}
use Rattle.std.proofs.lemmas.List.{drop_more, drop_all}
use Rattle.dh_syntax.specs.declared.tokens.Token.{Token}
use Rattle.dh_syntax.specs.Text.Noting.{begins_at, ends_before}
use Rattle.dh_syntax.specs.Text.Spans.{Spans, no_spans, span, spans, joined, parts_of, in_text}
use Rattle.dh_places.specs.declared.spans.Span.{Span}
use Rattle.dh_places.specs.declared.spans.Span.TheFolds.{fold-Span, fold-roll-Span, fold_out-Span}
use Rattle.dh_places.specs.declared.spans.Span.TheViews.{out-Span, roll-Span}
use Rattle.dh_places.specs.Spans.{row, span_step, span_of, spans_of}

-- ---- rows of the definition

joined-none : (a : Spans) → joined a no_spans ≡ a
joined-none no_spans = refl
joined-none (span f t p r) = ap (span f t p) (joined-none r)

joined_assoc : (a b c : Spans) → joined (joined a b) c ≡ joined a (joined b c)
joined_assoc no_spans b c = refl
joined_assoc (span f t p r) b c = ap (span f t p) (joined_assoc r b c)

in_text-joined : (ts : List Token) (a b : Spans) → in_text ts (joined a b) ≡ joined (in_text ts a) (in_text ts b)
in_text-joined ts no_spans b = refl
in_text-joined ts (span f t p r) b = ap (span (begins_at ts f) (ends_before ts t) (in_text ts p)) (in_text-joined ts r b)

-- ---- rows of the program

pub spans_of-nil : spans_of [] ≡ no_spans
unfolding spans_of
spans_of-nil = refl

pub spans_of-cons : (s : Span) (ss : List Span) → spans_of (s ∷ ss) ≡ joined (span_of s) (spans_of ss)
unfolding spans_of
spans_of-cons s ss = refl

row_of_parts : (ss : List Span) → row (map (fold-Span Spans span_step) ss) ≡ spans_of ss
unfolding span_of spans_of
row_of_parts [] = refl
row_of_parts (s ∷ ss) = ap (joined (fold-Span Spans span_step s)) (row_of_parts ss)

pub span_of-out : (s : Span) → span_of s ≡ spans (out-Span s).from (out-Span s).to (spans_of (out-Span s).parts)
unfolding span_of
span_of-out s = fold_out-Span Spans span_step s ∙ ap (spans (out-Span s).from (out-Span s).to) (row_of_parts (out-Span s).parts)

pub span_of-roll : (f t : ℕ) (ss : List Span) → span_of (roll-Span (record { from = f; to = t; parts = ss })) ≡ spans f t (spans_of ss)
unfolding span_of
span_of-roll f t ss = fold-roll-Span Spans span_step (record { from = f; to = t; parts = ss }) ∙ ap (spans f t) (row_of_parts ss)

pub spans_of-append : (xs ys : List Span) → spans_of (xs ++ ys) ≡ joined (spans_of xs) (spans_of ys)
unfolding spans_of
spans_of-append [] ys = refl
spans_of-append (x ∷ xs) ys = ap (joined (span_of x)) (spans_of-append xs ys) ∙ sym (joined_assoc (span_of x) (spans_of xs) (spans_of ys))

pub spans_of-one : (s : Span) → spans_of (s ∷ []) ≡ span_of s
spans_of-one s = spans_of-cons s [] ∙ ap (joined (span_of s)) spans_of-nil ∙ joined-none (span_of s)

-- the parts of the first one
pub parts_of-cons : (s : Span) (ss : List Span) → parts_of (spans_of (s ∷ ss)) ≡ spans_of (out-Span s).parts
parts_of-cons s ss =
    ap parts_of (spans_of-cons s ss) ∙ ap (λ a. parts_of (joined a (spans_of ss))) (span_of-out s)

-- ---- stretches of the text

module _ (ts : List Token) where
  pub in_text-node : (s : Span) (f t : ℕ) (ps : List Span) → f ≡ begins_at ts (out-Span s).from → t ≡ ends_before ts (out-Span s).to →
      spans_of ps ≡ in_text ts (spans_of (out-Span s).parts) → span_of (roll-Span (record { from = f; to = t; parts = ps })) ≡ in_text ts (span_of s)
  in_text-node s f t ps begin end parts =
      span_of-roll f t ps ∙ ap (λ i. spans i t (spans_of ps)) begin ∙ ap (λ i. spans (begins_at ts (out-Span s).from) i (spans_of ps)) end
      ∙ ap (spans (begins_at ts (out-Span s).from) (ends_before ts (out-Span s).to)) parts ∙ ap (in_text ts) (sym (span_of-out s))

  -- what is made so far and what will become of the rest
  abbrev pub with_rest : List Span → List Span → Spans
  with_rest made rest = joined (spans_of made) (in_text ts (spans_of rest))

  pub in_text_begins : (made rest : List Span) → made ≡ [] → with_rest made rest ≡ in_text ts (spans_of rest)
  in_text_begins made rest e = ap (λ a. joined a (in_text ts (spans_of rest))) (ap spans_of e ∙ spans_of-nil)

  pub in_text_keeps : (made next ss : List Span) (i : ℕ) (s made_of : Span) → next ≡ made ++ made_of ∷ [] → i < length ss → s ≡ get_or ss i s →
      span_of made_of ≡ in_text ts (span_of s) → with_rest next (drop (i + 1) ss) ≡ with_rest made (drop i ss)
  in_text_keeps made next ss i s made_of pushed h item e =
      let rest = spans_of (drop (i + 1) ss) in
      let left : spans_of (drop i ss) ≡ joined (span_of s) rest =
      ap spans_of (drop_more ss i s h) ∙ spans_of-cons (get_or ss i s) (drop (i + 1) ss) ∙ ap (λ u. joined (span_of u) rest) (sym item) in
      ap (λ a. joined a (in_text ts rest)) (ap spans_of pushed ∙ spans_of-append made (made_of ∷ []) ∙ ap (joined (spans_of made)) (spans_of-one made_of ∙ e))
      ∙ joined_assoc (spans_of made) (in_text ts (span_of s)) (in_text ts rest)
      ∙ ap (joined (spans_of made)) (sym (in_text-joined ts (span_of s) rest) ∙ ap (in_text ts) (sym left))

  pub in_text_ends : (made ss : List Span) (i : ℕ) → length ss ≤ i → with_rest made (drop i ss) ≡ spans_of made
  in_text_ends made ss i h = ap (λ rest. joined (spans_of made) (in_text ts rest)) (ap spans_of (drop_all i ss h) ∙ spans_of-nil) ∙ joined-none (spans_of made)

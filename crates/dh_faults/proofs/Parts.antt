-- A part of a row of nodes by its number, and a first piece of a text.
use Rattle.std.proofs.Common.{◌≡◌, ◌≤◌, ℕ, zero, suc, List, [], ◌∷◌, length, take, min, arith, Option, Some, None, refl, ap, sym, ◌∙◌, subst}
use Rattle.std.proofs.lemmas.List.{take_min}
use Rattle.std.specs.Prelude.{slice_get}
use Rattle.dh_places.proofs.SpanTrees.{spans_of-nil, spans_of-cons, span_of-out}
use Rattle.dh_places.specs.declared.spans.Span.{Span}
use Rattle.dh_places.specs.declared.spans.Span.TheViews.{out-Span}
use Rattle.dh_places.specs.Spans.{spans_of}
use Rattle.dh_syntax.specs.Text.Places.{from_part, of_first, start_below, start_of}
use Rattle.dh_syntax.specs.Text.Spans.{Spans, no_spans, span, joined}

spans_of-split : (s : Span) (ss : List Span) → spans_of (s ∷ ss) ≡ span (out-Span s).from (out-Span s).to (spans_of (out-Span s).parts) (spans_of ss)
spans_of-split s ss = spans_of-cons s ss ∙ ap (λ a. joined a (spans_of ss)) (span_of-out s)

-- what follows from the part with this number
abbrev pub part_next : {A : Type 0} → Option Span → A → (ℕ → Spans → A) → A
part_next None none next = none
part_next (Some s) none next = next (out-Span s).from (spans_of (out-Span s).parts)

pub of_part : {A : Type 0} (k : ℕ) (ss : List Span) (none : A) (next : ℕ → Spans → A) → of_first (from_part k (spans_of ss)) none next ≡ part_next (slice_get ss k) none next
of_part k [] none next = ap (λ t. of_first (from_part k t) none next) spans_of-nil
of_part zero (s ∷ ss) none next = ap (λ t. of_first (from_part zero t) none next) (spans_of-split s ss)
of_part (suc k) (s ∷ ss) none next = ap (λ t. of_first (from_part (suc k) t) none next) (spans_of-split s ss) ∙ of_part k ss none next

-- up to an offset, or to the end of the text where that comes first
pub up_to : (m n : ℕ) (xs : List ℕ) → m ≡ min n (length xs) → take m xs ≡ take n xs
up_to m n xs h = ap (λ k. take k xs) h ∙ take_min n xs

-- ---- the way of a path

pub below-some : (here k : ℕ) (ss : List Span) (s : Span) (path rest : List ℕ) → path ≡ k ∷ rest → slice_get ss k ≡ Some s
    → start_below (out-Span s).from (spans_of (out-Span s).parts) rest ≡ start_below here (spans_of ss) path
below-some here k ss s path rest p h =
    let next : ℕ → Spans → ℕ = λ from parts. start_below from parts rest in
    sym (ap (start_below here (spans_of ss)) p ∙ (of_part k ss here next ∙ ap (λ o. part_next o here next) h))

pub below-none : (here k : ℕ) (ss : List Span) (path rest : List ℕ) → path ≡ k ∷ rest → slice_get ss k ≡ None → here ≡ start_below here (spans_of ss) path
below-none here k ss path rest p h =
    let next : ℕ → Spans → ℕ = λ from parts. start_below from parts rest in
    sym (ap (start_below here (spans_of ss)) p ∙ (of_part k ss here next ∙ ap (λ o. part_next o here next) h))

-- ---- the first of some nodes

pub of-none : (ss : List Span) (path : List ℕ) → slice_get ss 0 ≡ None → 0 ≡ start_of (spans_of ss) path
of-none [] path h = sym (ap (λ t. start_of t path) spans_of-nil)
of-none (s ∷ ss) path h = absurd cc

pub of-some : (ss : List Span) (s : Span) (path : List ℕ) → slice_get ss 0 ≡ Some s → start_below (out-Span s).from (spans_of (out-Span s).parts) path ≡ start_of (spans_of ss) path
of-some [] s path h = absurd cc
of-some (t ∷ ss) s path h =
    let same : t ≡ s = cc in
    sym (ap (λ u. start_of u path) (spans_of-split t ss) ∙ ap (λ u. start_below (out-Span u).from (spans_of (out-Span u).parts) path) same)

pub past_end : {X : Type 0} (xs : List X) (k : ℕ) → length xs ≤ k → slice_get xs k ≡ None
past_end [] k h = refl
past_end (x ∷ xs) zero h = absurd (omega arith)
past_end (x ∷ xs) (suc k) h = let m : length xs ≤ k = omega arith in past_end xs k m

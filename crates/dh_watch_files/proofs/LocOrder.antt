-- Locations that tie are the same, and the tests of their ranks tell how they compare.
use Rattle.std.specs.Prelude.{◌≡◌, ℕ, true, false, ◌&&◌, ◌||◌, List, [], ◌∷◌, refl}
use Rattle.std.specs.Cmp.{IsTotalOrder, both_ways, tied_back, tied_itself}
use Rattle.std.specs.Cmp.Lexicographic.{slice_cmp, lists_total, nat_list_cmp_total, texts_ties}
use Rattle.std.specs.declared.cmp.Ordering.{Ordering}
use Rattle.std.specs.declared.cmp.Ordering.TheVariants.{Less, Equal, Greater}
use Rattle.std.specs.Ordering.{nat_cmp, is_eq, is_lt, ordering_reverse, ordering_then}
use Rattle.std.proofs.Common.{ap, sym, ◌∙◌, subst}
use Rattle.std.proofs.lemmas.Bool.{false≢true}
use Rattle.dh_syntax.specs.declared.locations.Loc.{Loc}
use Rattle.dh_syntax.specs.Expressions.Numbers.{bytes_eq}
use Rattle.dh_syntax.specs.Expressions.SameTree.{loc_eq}
use Rattle.dh_syntax.specs.Imports.Keys.{texts_before, loc_rank}
use Rattle.dh_syntax.proofs.NativeTests.{bytes_eq-pointwise}
use Rattle.dh_syntax.proofs.Order.{before-slice_cmp}
use Rattle.dh_syntax.proofs.SameTree.{locs_tell}
use Rattle.dh_record.specs.Sorting.{Rank}
use Rattle.dh_record.proofs.RankOrder.{before_neither, loc_told}
use Rattle.dh_watch_files.specs.OrderedLocs.{loc_cmp}

ranks_total : IsTotalOrder (slice_cmp (slice_cmp nat_cmp))
ranks_total = lists_total nat_list_cmp_total

-- ---- the order of ranks is that of std on lists of texts

text_tied : (x y : List ℕ) → bytes_eq x y ≡ is_eq (slice_cmp nat_cmp x y)
text_tied x y = bytes_eq-pointwise x y ∙ texts_ties x y

then_decides : (o p : Ordering) → is_lt o || (is_eq o && is_lt p) ≡ is_lt (ordering_then o p)
then_decides Less p = refl
then_decides Equal p = refl
then_decides Greater p = refl

rank_before : (x y : Rank) → texts_before x y ≡ is_lt (slice_cmp (slice_cmp nat_cmp) x y)
rank_before [] [] = refl
rank_before [] (b ∷ y) = refl
rank_before (a ∷ x) [] = refl
rank_before (a ∷ x) (b ∷ y) =
    ap (λ p. p || (bytes_eq a b && texts_before x y)) (before-slice_cmp a b)
    ∙ ap (λ q. is_lt (slice_cmp nat_cmp a b) || (q && texts_before x y)) (text_tied a b)
    ∙ ap (λ q. is_lt (slice_cmp nat_cmp a b) || (is_eq (slice_cmp nat_cmp a b) && q)) (rank_before x y)
    ∙ then_decides (slice_cmp nat_cmp a b) (slice_cmp (slice_cmp nat_cmp) x y)

-- ---- how two locations compare

is_less : (o : Ordering) → is_lt o ≡ true → o ≡ Less
is_less Less h = refl
is_less Equal h = absurd (false≢true h)
is_less Greater h = absurd (false≢true h)

neither : (o p : Ordering) → o ≡ ordering_reverse p → is_lt o ≡ false → is_lt p ≡ false → o ≡ Equal
neither Less p h a b = absurd (false≢true (sym a))
neither Equal p h a b = refl
neither Greater Less h a b = absurd (false≢true (sym b))
neither Greater Equal h a b = h
neither Greater Greater h a b = cc

module _ (a b : Loc) where
  pub comes_before : texts_before (loc_rank a) (loc_rank b) ≡ true → loc_cmp a b ≡ Less
  comes_before h = is_less (loc_cmp a b) (sym (rank_before (loc_rank a) (loc_rank b)) ∙ h)

  pub comes_behind : texts_before (loc_rank b) (loc_rank a) ≡ true → loc_cmp a b ≡ Greater
  comes_behind h =
      ranks_total.antisymm (loc_rank a) (loc_rank b)
      ∙ ap ordering_reverse (is_less (loc_cmp b a) (sym (rank_before (loc_rank b) (loc_rank a)) ∙ h))

  pub comes_neither : texts_before (loc_rank a) (loc_rank b) ≡ false → texts_before (loc_rank b) (loc_rank a) ≡ false → loc_cmp a b ≡ Equal
  comes_neither h k =
      neither (loc_cmp a b) (loc_cmp b a) (ranks_total.antisymm (loc_rank a) (loc_rank b))
      (sym (rank_before (loc_rank a) (loc_rank b)) ∙ h) (sym (rank_before (loc_rank b) (loc_rank a)) ∙ k)

is_tied : (o : Ordering) → is_eq o ≡ true → o ≡ Equal
is_tied Less h = absurd (false≢true h)
is_tied Equal h = refl
is_tied Greater h = absurd (false≢true h)

-- two that tie are the same
one_loc : (a b : Loc) → loc_cmp a b ≡ Equal → a ≡ b
one_loc a b h =
    loc_told a b (before_neither (loc_rank a) (loc_rank b)
    (rank_before (loc_rank a) (loc_rank b) ∙ ap is_lt h)
    (rank_before (loc_rank b) (loc_rank a) ∙ ap is_lt (tied_back ranks_total (loc_rank a) (loc_rank b) h)))

same_ties : (a b : Loc) → a ≡ b → is_eq (loc_cmp a b) ≡ true
same_ties a b e = subst (λ x. is_eq (loc_cmp a x) ≡ true) e (ap is_eq (tied_itself ranks_total (loc_rank a)))

pub tied_is : (a b : Loc) → is_eq (loc_cmp a b) ≡ loc_eq a b
tied_is a b =
    both_ways (is_eq (loc_cmp a b)) (loc_eq a b)
    (λ t. subst (λ x. loc_eq a x ≡ true) (one_loc a b (is_tied (loc_cmp a b) t)) (locs_tell.itself a))
    (λ t. same_ties a b (locs_tell.equal a b t))

pub tied_back_is : (a b : Loc) → is_eq (loc_cmp a b) ≡ loc_eq b a
tied_back_is a b =
    both_ways (is_eq (loc_cmp a b)) (loc_eq b a)
    (λ t. subst (λ x. loc_eq x a ≡ true) (one_loc a b (is_tied (loc_cmp a b) t)) (locs_tell.itself a))
    (λ t. same_ties a b (sym (locs_tell.equal b a t)))

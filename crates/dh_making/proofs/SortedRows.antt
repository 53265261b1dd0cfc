-- Lists in the order of their labels, as std's map keeps them and as the definitions have them.
use Rattle.std.specs.Prelude.{List, [], ◌∷◌, ◌++◌, map, Option, Some, None, Bool, true, false, ◌&&◌, ◌||◌, cond, is_some, option_map}
use Rattle.std.specs.declared.cmp.Ordering.{Ordering}
use Rattle.std.specs.declared.cmp.Ordering.TheVariants.{Less, Equal, Greater}
use Rattle.std.specs.BTreeMap.{insert_entry, is_at}
use Rattle.std.specs.Cmp.Lexicographic.{slice_cmp}
use Rattle.std.specs.List.Sorted.{IsStrictlySortedBy}
use Rattle.std.specs.Map.{keys_of, lookup, remove_entry}
use Rattle.std.specs.Ordering.{is_eq, is_lt, nat_cmp, match_ordering}
use Rattle.std.proofs.Common.{◌≡◌, refl, ap, sym, ◌∙◌}
use Rattle.std.proofs.lemmas.Bool.{false≢true}
use Rattle.std.proofs.lemmas.Map.Keys.{sorted_head, sorted_tail}
use Rattle.std.proofs.lemmas.Map.Text.{is_eq-slice_cmp}
use Rattle.dh_syntax.specs.Expressions.Numbers.{bytes_eq}
use Rattle.dh_syntax.specs.Expressions.Order.{before, ascending}
use Rattle.dh_syntax.specs.Expressions.Tree.{Name}
use Rattle.dh_syntax.specs.Text.Derived.{among}
use Rattle.dh_syntax.specs.Text.Derivation.{key_label, Keys, one_key, more_keys, labels}
use Rattle.dh_syntax.specs.Text.Meaning.{put, insert, names, sorted}
use Rattle.dh_making.specs.Views.{with_old}
use Rattle.dh_syntax.proofs.NativeTests.{bytes_eq-pointwise}
use Rattle.dh_syntax.proofs.Numbers.{bytes_eq-true}
use Rattle.dh_syntax.proofs.Order.{before-slice_cmp, before_irreflexive, before-transitive}

-- std's test of a key
pub is_at-bytes : (x y : Name) → is_at (slice_cmp nat_cmp x) y ≡ bytes_eq x y
is_at-bytes x y = is_eq-slice_cmp x y ∙ sym (bytes_eq-pointwise x y)

neither : (a b : Bool) → a || b ≡ false → (a ≡ false) × (b ≡ false)
neither true b h = absurd (false≢true (sym h))
neither false b h = (refl, h)

module _ {X : Type 0} where
  some_if : (b : Bool) (v : X) (o : Option X) → is_some (cond b (Some v) o) ≡ b || is_some o
  some_if true v o = refl
  some_if false v o = refl

  pub found-among : (x : Name) (es : List (Name × X)) → is_some (lookup (is_at (slice_cmp nat_cmp x)) es) ≡ among x (names es)
  found-among x [] = refl
  found-among x (e ∷ es) =
      some_if (is_at (slice_cmp nat_cmp x) e.0) e.1 (lookup (is_at (slice_cmp nat_cmp x)) es)
      ∙ ap (λ b. b || is_some (lookup (is_at (slice_cmp nat_cmp x)) es)) (is_at-bytes x e.0) ∙ ap (λ b. bytes_eq x e.0 || b) (found-among x es)

  pub lookup-bytes : (x : Name) (es : List (Name × X)) → lookup (is_at (slice_cmp nat_cmp x)) es ≡ lookup (bytes_eq x) es
  lookup-bytes x [] = refl
  lookup-bytes x (e ∷ es) =
      ap (λ b. cond b (Some e.1) (lookup (is_at (slice_cmp nat_cmp x)) es)) (is_at-bytes x e.0) ∙ ap (cond (bytes_eq x e.0) (Some e.1)) (lookup-bytes x es)

  pub remove-bytes : (x : Name) (es : List (Name × X)) → remove_entry (is_at (slice_cmp nat_cmp x)) es ≡ remove_entry (bytes_eq x) es
  remove-bytes x [] = refl
  remove-bytes x (e ∷ es) =
      ap (λ b. cond b es (e ∷ remove_entry (is_at (slice_cmp nat_cmp x)) es)) (is_at-bytes x e.0)
      ∙ ap (λ r. cond (bytes_eq x e.0) es (e ∷ r)) (remove-bytes x es)

  -- a key that is not there goes to its place
  placed : (o : Ordering) (a b c : List (Name × X)) → is_eq o ≡ false → match_ordering o a b c ≡ cond (is_lt o) a c
  placed Less a b c h = refl
  placed Equal a b c h = absurd (false≢true (sym h))
  placed Greater a b c h = refl

  pub inserted_new : (x : Name) (v : X) (es : List (Name × X)) → among x (names es) ≡ false → insert_entry (slice_cmp nat_cmp) es x v ≡ insert (x, v) es
  inserted_new x v [] h = refl
  inserted_new x v (e ∷ es) h =
      let apart = neither (bytes_eq x e.0) (among x (names es)) h in
      let rest = inserted_new x v es apart.1 in
      placed (slice_cmp nat_cmp x e.0) ((x, v) ∷ e ∷ es) ((e.0, v) ∷ es) (e ∷ insert_entry (slice_cmp nat_cmp) es x v) (is_at-bytes x e.0 ∙ apart.0)
      ∙ ap (λ b. cond b ((x, v) ∷ e ∷ es) (e ∷ insert_entry (slice_cmp nat_cmp) es x v)) (sym (before-slice_cmp x e.0))
      ∙ ap (λ r. cond (before x e.0) ((x, v) ∷ e ∷ es) (e ∷ r)) rest
      ∙ ap (λ b. cond b ((e.0, e.1) ∷ es) (cond (before x e.0) ((x, v) ∷ e ∷ es) (e ∷ insert (x, v) es))) (sym apart.0)

-- ---- ascending labels

and_left : (a b : Bool) → a && b ≡ true → a ≡ true
and_left true b h = refl
and_left false b h = absurd (false≢true h)

and_right : (a b : Bool) → a && b ≡ true → b ≡ true
and_right true b h = h
and_right false b h = absurd (false≢true h)

ascending_tail : (x : Name) (ys : List Name) → ascending (x ∷ ys) ≡ true → ascending ys ≡ true
ascending_tail x [] h = refl
ascending_tail x (y ∷ ys) h = and_right (before x y) (ascending (y ∷ ys)) h

ascending_next : (x y : Name) (ys : List Name) → ascending (x ∷ y ∷ ys) ≡ true → before x y ≡ true
ascending_next x y ys h = and_left (before x y) (ascending (y ∷ ys)) h

not_before : (x y : Name) → before y x ≡ true → (b : Bool) → before x y ≡ b → before x y ≡ false
not_before x y h true e = absurd (false≢true (sym (before_irreflexive x) ∙ before-transitive x y x e h))
not_before x y h false e = e

not_before_itself : (x y : Name) → before y x ≡ true → before x y ≡ false
not_before_itself x y h = not_before x y h (before x y) refl

apart_by_before : (x y : Name) → before x y ≡ true → (b : Bool) → bytes_eq x y ≡ b → bytes_eq x y ≡ false
apart_by_before x y h true e = absurd (false≢true (sym (before_irreflexive x) ∙ ap (before x) (bytes_eq-true x y e) ∙ h))
apart_by_before x y h false e = e

apart_if_before : (x y : Name) → before x y ≡ true → bytes_eq x y ≡ false
apart_if_before x y h = apart_by_before x y h (bytes_eq x y) refl

-- what stands behind a label comes after it
after_step : (x y z : Name) (ys : List Name) → before y z ≡ true → (among x ys ≡ true → before z x ≡ true) → bytes_eq x z || among x ys ≡ true →
    (b : Bool) → bytes_eq x z ≡ b → before y x ≡ true
after_step x y z ys next later m true e = ap (before y) (bytes_eq-true x z e) ∙ next
after_step x y z ys next later m false e = before-transitive y z x next (later (ap (λ b. b || among x ys) (sym e) ∙ m))

among_after : (x y : Name) (ys : List Name) → ascending (y ∷ ys) ≡ true → among x ys ≡ true → before y x ≡ true
among_after x y [] h m = absurd (false≢true m)
among_after x y (z ∷ ys) h m =
    after_step x y z ys (ascending_next y z ys h) (λ n. among_after x z ys (ascending_tail y (z ∷ ys) h) n) m (bytes_eq x z) refl

-- what comes before a label is not among it and those behind it
not_among : (x y : Name) (ys : List Name) → ascending (y ∷ ys) ≡ true → before x y ≡ true → among x (y ∷ ys) ≡ false
not_among x y [] h b = ap (λ c. c || false) (apart_if_before x y b)
not_among x y (z ∷ ys) h b =
    ap (λ c. c || among x (z ∷ ys)) (apart_if_before x y b)
    ∙ not_among x z ys (ascending_tail y (z ∷ ys) h) (before-transitive x y z b (ascending_next y z ys h))

sorted_ascending : (xs : List Name) → IsStrictlySortedBy (slice_cmp nat_cmp) xs → ascending xs ≡ true
sorted_ascending [] h = refl
sorted_ascending (x ∷ []) h = refl
sorted_ascending (x ∷ y ∷ ys) h =
    let next : slice_cmp nat_cmp x y ≡ Less = (sorted_head (slice_cmp nat_cmp) x (y ∷ ys) h).0 in
    ap (λ b. b && ascending (y ∷ ys)) (before-slice_cmp x y ∙ ap is_lt next) ∙ sorted_ascending (y ∷ ys) (sorted_tail (slice_cmp nat_cmp) x (y ∷ ys) h)

module _ {X : Type 0} where
  pub ascending_names : (es : List (Name × X)) → IsStrictlySortedBy (slice_cmp nat_cmp) (keys_of es) → ascending (names es) ≡ true
  ascending_names es h = sorted_ascending (names es) h

  -- where a row is put: `same` where the label is the first one's, `first` where it comes before it, else `rest`
  abbrev put_by : Bool → Bool → List (Name × X) → List (Name × X) → List (Name × X) → List (Name × X)
  put_by b c same first rest = cond b same (cond c first rest)

  -- a label that is there stays as it is
  again_step : (x : Name) (v : X) (e : Name × X) (es : List (Name × X)) → ascending (names (e ∷ es)) ≡ true → among x (names (e ∷ es)) ≡ true →
      (among x (names es) ≡ true → es ≡ insert (x, v) es) → (b : Bool) → bytes_eq x e.0 ≡ b → (e ∷ es) ≡ insert (x, v) (e ∷ es)
  again_step x v e es h m ih true t = ap (λ b. put_by b (before x e.0) ((e.0, e.1) ∷ es) ((x, v) ∷ e ∷ es) (e ∷ insert (x, v) es)) (sym t)
  again_step x v e es h m ih false t =
      let there : among x (names es) ≡ true = ap (λ b. b || among x (names es)) (sym t) ∙ m in
      let later : before x e.0 ≡ false = not_before_itself x e.0 (among_after x e.0 (names es) h there) in
      ap (λ r. e ∷ r) (ih there)
      ∙ ap (λ c. put_by false c ((e.0, e.1) ∷ es) ((x, v) ∷ e ∷ es) (e ∷ insert (x, v) es)) (sym later)
      ∙ ap (λ b. put_by b (before x e.0) ((e.0, e.1) ∷ es) ((x, v) ∷ e ∷ es) (e ∷ insert (x, v) es)) (sym t)

  pub inserted_again : (x : Name) (v : X) (es : List (Name × X)) → ascending (names es) ≡ true → among x (names es) ≡ true → es ≡ insert (x, v) es
  inserted_again x v [] h m = absurd (false≢true m)
  inserted_again x v (e ∷ es) h m = again_step x v e es h m (inserted_again x v es (ascending_tail e.0 (names es) h)) (bytes_eq x e.0) refl

  -- ---- an entry that is taken out, joined and put back

  absent : (x : Name) (es : List (Name × X)) → among x (names es) ≡ false → (lookup (bytes_eq x) es ≡ None) × (remove_entry (bytes_eq x) es ≡ es)
  absent x [] h = (refl, refl)
  absent x (e ∷ es) h =
      let apart = neither (bytes_eq x e.0) (among x (names es)) h in
      let rest = absent x es apart.1 in
      (ap (λ b. cond b (Some e.1) (lookup (bytes_eq x) es)) apart.0 ∙ rest.0, ap (λ b. cond b es (e ∷ remove_entry (bytes_eq x) es)) apart.0 ∙ ap (λ r. e ∷ r) rest.1)

  first_of_all : (x : Name) (v : X) (es : List (Name × X)) → ascending (x ∷ names es) ≡ true → (x, v) ∷ es ≡ insert (x, v) es
  first_of_all x v [] h = refl
  first_of_all x v (e ∷ es) h =
      let next = ascending_next x e.0 (names es) h in
      ap (λ c. put_by false c ((e.0, e.1) ∷ es) ((x, v) ∷ e ∷ es) (e ∷ insert (x, v) es)) (sym next)
      ∙ ap (λ b. put_by b (before x e.0) ((e.0, e.1) ∷ es) ((x, v) ∷ e ∷ es) (e ∷ insert (x, v) es)) (sym (apart_if_before x e.0 next))

  -- by whether the first row has the label
  abbrev made : (X → X → X) → Name → X → Name × X → List (Name × X) → Bool → List (Name × X)
  made join x v e es b = insert (x, with_old join (cond b (Some e.1) (lookup (bytes_eq x) es)) v) (cond b es (e ∷ remove_entry (bytes_eq x) es))

  abbrev wanted : (X → X → X) → Name → X → Name × X → List (Name × X) → Bool → Bool → List (Name × X)
  wanted join x v e es b c = put_by b c ((e.0, join e.1 v) ∷ es) ((x, v) ∷ e ∷ es) (e ∷ put join (x, v) es)

  back_step : (join : X → X → X) (x : Name) (v : X) (e : Name × X) (es : List (Name × X)) → ascending (names (e ∷ es)) ≡ true →
      insert (x, with_old join (lookup (bytes_eq x) es) v) (remove_entry (bytes_eq x) es) ≡ put join (x, v) es →
      (b c : Bool) → bytes_eq x e.0 ≡ b → before x e.0 ≡ c → made join x v e es (bytes_eq x e.0) ≡ wanted join x v e es (bytes_eq x e.0) (before x e.0)
  back_step join x v e es h ih true c t u =
      ap (made join x v e es) t ∙ ap (λ y. insert (y, join e.1 v) es) (bytes_eq-true x e.0 t) ∙ sym (first_of_all e.0 (join e.1 v) es h)
      ∙ ap (λ b. wanted join x v e es b (before x e.0)) (sym t)
  back_step join x v e es h ih false true t u =
      let none = absent x (e ∷ es) (not_among x e.0 (names es) h u) in
      let first : ascending (x ∷ names (e ∷ es)) ≡ true = ap (λ b. b && ascending (names (e ∷ es))) u ∙ h in
      ap (λ o. insert (x, with_old join o v) (remove_entry (bytes_eq x) (e ∷ es))) none.0 ∙ ap (insert (x, v)) none.1
      ∙ sym (first_of_all x v (e ∷ es) first) ∙ ap (wanted join x v e es false) (sym u) ∙ ap (λ b. wanted join x v e es b (before x e.0)) (sym t)
  back_step join x v e es h ih false false t u =
      let w = with_old join (lookup (bytes_eq x) es) v in
      let rest = remove_entry (bytes_eq x) es in
      ap (made join x v e es) t
      ∙ ap (λ b. put_by b (before x e.0) ((e.0, e.1) ∷ rest) ((x, w) ∷ e ∷ rest) (e ∷ insert (x, w) rest)) t
      ∙ ap (λ c. put_by false c ((e.0, e.1) ∷ rest) ((x, w) ∷ e ∷ rest) (e ∷ insert (x, w) rest)) u
      ∙ ap (λ r. e ∷ r) ih ∙ ap (wanted join x v e es false) (sym u) ∙ ap (λ b. wanted join x v e es b (before x e.0)) (sym t)

  pub put_back : (join : X → X → X) (x : Name) (v : X) (es : List (Name × X)) → ascending (names es) ≡ true →
      insert (x, with_old join (lookup (bytes_eq x) es) v) (remove_entry (bytes_eq x) es) ≡ put join (x, v) es
  put_back join x v [] h = refl
  put_back join x v (e ∷ es) h =
      back_step join x v e es h (put_back join x v es (ascending_tail e.0 (names es) h)) (bytes_eq x e.0) (before x e.0) refl refl

-- ---- rows whose values are seen by a function

module _ {X Y : Type 0} (f : X → Y) where
  abbrev pub seen : List (Name × X) → List (Name × Y)
  seen es = map (λ e. (e.0, f e.1)) es

  pub names-seen : (es : List (Name × X)) → names (seen es) ≡ names es
  names-seen [] = refl
  names-seen (e ∷ es) = ap (λ ns. e.0 ∷ ns) (names-seen es)

  seen_put : (b c : Bool) (e : Name × X) (x : Name) (v : X) (es rest : List (Name × X)) →
      seen (cond b ((e.0, e.1) ∷ es) (cond c ((x, v) ∷ e ∷ es) (e ∷ rest)))
      ≡ cond b ((e.0, f e.1) ∷ seen es) (cond c ((x, f v) ∷ (e.0, f e.1) ∷ seen es) ((e.0, f e.1) ∷ seen rest))
  seen_put true c e x v es rest = refl
  seen_put false true e x v es rest = refl
  seen_put false false e x v es rest = refl

  pub insert-seen : (x : Name) (v : X) (es : List (Name × X)) → seen (insert (x, v) es) ≡ insert (x, f v) (seen es)
  insert-seen x v [] = refl
  insert-seen x v (e ∷ es) =
      seen_put (bytes_eq x e.0) (before x e.0) e x v es (insert (x, v) es)
      ∙ ap (λ r. cond (bytes_eq x e.0) ((e.0, f e.1) ∷ seen es) (cond (before x e.0) ((x, f v) ∷ (e.0, f e.1) ∷ seen es) ((e.0, f e.1) ∷ r))) (insert-seen x v es)

  seen_found : (b : Bool) (v : X) (o : Option X) → cond b (Some (f v)) (option_map f o) ≡ option_map f (cond b (Some v) o)
  seen_found true v o = refl
  seen_found false v o = refl

  pub lookup-seen : (test : Name → Bool) (es : List (Name × X)) → lookup test (seen es) ≡ option_map f (lookup test es)
  lookup-seen test [] = refl
  lookup-seen test (e ∷ es) = ap (cond (test e.0) (Some (f e.1))) (lookup-seen test es) ∙ seen_found (test e.0) e.1 (lookup test es)

  seen_left : (b : Bool) (e : Name × X) (es rest : List (Name × X)) → cond b (seen es) ((e.0, f e.1) ∷ seen rest) ≡ seen (cond b es (e ∷ rest))
  seen_left true e es rest = refl
  seen_left false e es rest = refl

  pub remove-seen : (test : Name → Bool) (es : List (Name × X)) → remove_entry test (seen es) ≡ seen (remove_entry test es)
  remove-seen test [] = refl
  remove-seen test (e ∷ es) = ap (λ r. cond (test e.0) (seen es) ((e.0, f e.1) ∷ r)) (remove-seen test es) ∙ seen_left (test e.0) e es (remove_entry test es)

-- ---- the labels of keys, in their order and as they are written

or_swap : (a b c : Bool) → a || (b || c) ≡ b || (a || c)
or_swap true true c = refl
or_swap true false c = refl
or_swap false b c = refl

or_twice : (a b : Bool) → a || b ≡ a || (a || b)
or_twice true b = refl
or_twice false b = refl

among_last : (x z : Name) (ys : List Name) → among x (ys ++ z ∷ []) ≡ bytes_eq x z || among x ys
among_last x z [] = refl
among_last x z (y ∷ ys) = ap (λ b. bytes_eq x y || b) (among_last x z ys) ∙ or_swap (bytes_eq x y) (bytes_eq x z) (among x ys)

module _ {X : Type 0} where
  among_step : (x y : Name) (v : X) (e : Name × X) (es : List (Name × X)) → among x (names (insert (y, v) es)) ≡ bytes_eq x y || among x (names es) →
      (b c : Bool) → bytes_eq y e.0 ≡ b →
      among x (names (put_by b c ((e.0, e.1) ∷ es) ((y, v) ∷ e ∷ es) (e ∷ insert (y, v) es))) ≡ bytes_eq x y || (bytes_eq x e.0 || among x (names es))
  among_step x y v e es ih true c t =
      or_twice (bytes_eq x e.0) (among x (names es)) ∙ ap (λ z. bytes_eq x z || (bytes_eq x e.0 || among x (names es))) (sym (bytes_eq-true y e.0 t))
  among_step x y v e es ih false true t = refl
  among_step x y v e es ih false false t = ap (λ b. bytes_eq x e.0 || b) ih ∙ or_swap (bytes_eq x e.0) (bytes_eq x y) (among x (names es))

  among_insert : (x y : Name) (v : X) (es : List (Name × X)) → among x (names (insert (y, v) es)) ≡ bytes_eq x y || among x (names es)
  among_insert x y v [] = refl
  among_insert x y v (e ∷ es) = among_step x y v e es (among_insert x y v es) (bytes_eq y e.0) (before y e.0) refl

pub among_sorted : (x : Name) (ks : Keys) → among x (names (sorted ks)) ≡ among x (labels ks)
among_sorted x (one_key k) = refl
among_sorted x (more_keys ks k) =
    among_insert x (key_label k) tt (sorted ks) ∙ ap (λ b. bytes_eq x (key_label k) || b) (among_sorted x ks) ∙ sym (among_last x (key_label k) (labels ks))

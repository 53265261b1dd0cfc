-- What a text with a value for each import keeps of the text.
use Rattle.std.specs.Prelude.{◌≡◌, ◌⊎◌, ◌≤◌, ◌+◌, ◌&&◌, ℕ, zero, suc, Bool, true, false, if◌then◌else◌, IsTrue, List, [], ◌∷◌, length, Option, Some, None, refl}
use Rattle.std.proofs.Common.{ap, sym, subst, arith, inl, inr}
use Rattle.dh_syntax.specs.declared.expressions.Op.{Op}
use Rattle.dh_syntax.specs.declared.expressions.Op.TheVariants as ops
use Rattle.dh_syntax.specs.declared.locations.Key.{Key}
use Rattle.dh_imports.specs.declared.outcomes.Origin.{Origin}
use Rattle.dh_imports.specs.declared.outcomes.Why.TheVariants as whys
use Rattle.dh_syntax.specs.Expressions.Arity.{plain, binding, some_plain, between, typed_count, alt_labels, has_some, loc_fits, fits, AreWellFormed}
use Rattle.dh_syntax.specs.Expressions.Nesting.{nesting, parts_nesting}
use Rattle.dh_syntax.specs.Expressions.Order.{ascending}
use Rattle.dh_syntax.specs.Expressions.Tree.{Row, Leaf, Node, end, kid, Name, Var, Term}
use Rattle.dh_syntax.specs.Imports.Keys.{chained}
use Rattle.dh_imports.specs.Outcomes.{Outcome, Good, Bad, Loop, may_go_on}
use Rattle.dh_imports.specs.Walk.{Ask, Form, importing, choosing, other, form_of, Walked, Ready, Fails, Turns, Needs, and_then, or_else, in_order, allowed, by_outcome, is_sane, walk_key, walk_node, walk, walks, place}
use Rattle.dh_syntax.specs.Limits.{most_nesting}
use Rattle.dh_syntax.specs.Names.Indices.{RowIndicesBelow}
use Rattle.dh_syntax.specs.Normalising.Trees.{replace_row}
use Rattle.dh_laws.proofs.Names.FreeIndices.{free-indices}
use Rattle.dh_record.specs.Values.{FitsRoot, IsValue}
use Rattle.dh_record.proofs.Closed.{closed_below, indices_more}

-- ---- a row with other parts has the form of the row

plain_same : (n : ℕ) (r : Row Var Name) (ds : List Term) → plain n (replace_row r ds) ≡ plain n r
plain_same n end ds = refl
plain_same n (kid b e r) [] = refl
plain_same zero (kid b e r) (d ∷ ds) = refl
plain_same (suc n) (kid None e r) (d ∷ ds) = plain_same n r ds
plain_same (suc n) (kid (Some x) e r) (d ∷ ds) = refl

binding_same : (n : ℕ) (r : Row Var Name) (ds : List Term) → binding n (replace_row r ds) ≡ binding n r
binding_same n end ds = refl
binding_same n (kid b e r) [] = refl
binding_same zero (kid None e r) (d ∷ ds) = refl
binding_same zero (kid (Some x) e end) (d ∷ ds) = refl
binding_same zero (kid (Some x) e (kid b f r)) (d ∷ []) = refl
binding_same zero (kid (Some x) e (kid b f r)) (d ∷ c ∷ ds) = refl
binding_same (suc n) (kid None e r) (d ∷ ds) = binding_same n r ds
binding_same (suc n) (kid (Some x) e r) (d ∷ ds) = refl

some_plain_same : (r : Row Var Name) (ds : List Term) → some_plain (replace_row r ds) ≡ some_plain r
some_plain_same end ds = refl
some_plain_same (kid b e r) [] = refl
some_plain_same (kid None e end) (d ∷ ds) = refl
some_plain_same (kid None e (kid b f r)) (d ∷ []) = refl
some_plain_same (kid None e (kid b f r)) (d ∷ c ∷ ds) = some_plain_same (kid b f r) (c ∷ ds)
some_plain_same (kid (Some x) e r) (d ∷ ds) = refl

between_same : (ps : List (List ℕ)) (r : Row Var Name) (ds : List Term) → between ps (replace_row r ds) ≡ between ps r
between_same [] r ds = refl
between_same (p ∷ ps) r ds = plain_same (length ps) r ds

fits_same : (op : Op) (r : Row Var Name) (ds : List Term) → fits op (replace_row r ds) ≡ fits op r
fits_same (ops.Builtin b) r ds = plain_same 0 r ds
fits_same (ops.Bool b) r ds = plain_same 0 r ds
fits_same (ops.Nat n) r ds = plain_same 0 r ds
fits_same (ops.Int z) r ds = plain_same 0 r ds
fits_same (ops.Text ps) r ds = between_same ps r ds
fits_same (ops.Import i) r ds = ap (λ b. loc_fits i.loc && b) (plain_same 0 r ds)
fits_same ops.Lam r ds = binding_same 1 r ds
fits_same ops.Pi r ds = binding_same 1 r ds
fits_same (ops.Let false) r ds = binding_same 1 r ds
fits_same (ops.Let true) r ds = binding_same 2 r ds
fits_same ops.App r ds = plain_same 2 r ds
fits_same ops.If r ds = plain_same 3 r ds
fits_same (ops.Bin o) r ds = plain_same 2 r ds
fits_same ops.EmptyList r ds = plain_same 1 r ds
fits_same ops.List r ds = some_plain_same r ds
fits_same ops.Some r ds = plain_same 1 r ds
fits_same (ops.Merge false) r ds = plain_same 2 r ds
fits_same (ops.Merge true) r ds = plain_same 3 r ds
fits_same (ops.RecordType xs) r ds = ap (λ b. ascending xs && b) (plain_same (length xs) r ds)
fits_same (ops.Record xs) r ds = ap (λ b. ascending xs && b) (plain_same (length xs) r ds)
fits_same (ops.Field x) r ds = plain_same 1 r ds
fits_same (ops.Project xs) r ds = ap (λ b. ascending xs && b) (plain_same 1 r ds)
fits_same ops.ProjectType r ds = plain_same 2 r ds
fits_same (ops.Union alts) r ds = ap (λ b. ascending (alt_labels alts) && b) (plain_same (typed_count alts) r ds)
fits_same ops.Assert r ds = plain_same 1 r ds
fits_same ops.Annot r ds = plain_same 2 r ds
fits_same (ops.ToMap false) r ds = plain_same 1 r ds
fits_same (ops.ToMap true) r ds = plain_same 2 r ds
fits_same (ops.With path) r ds = ap (λ b. has_some path && b) (plain_same 2 r ds)

-- ---- walks that are ready

-- the values that are known are values
abbrev pub AreValues : Ask → Type 0
AreValues ask = (k : Key) (v : Term) (o : Origin) → ask k ≡ Some (Good v o) → IsValue v

ready_equal : {X : Type 0} {x y : X} → Ready x ≡ Ready y → x ≡ y
ready_equal {X = X} {x = x} h = ap (λ (w : Walked X). elim w [ Ready z ↦ z | Fails b ↦ x | Turns j ↦ x | Needs k ↦ x ]) h

value_fits : (e v : Term) → IsValue v → FitsRoot e v
value_fits e v i = record {
  well_formed = λ w. i.well_formed;
  shallow = let s = i.shallow in omega arith;
  indices = λ l m h. indices_more (nesting v + 0) l v (let s = i.shallow in omega arith) (free-indices 0 v (closed_below v i.closed));
}

module _ (parent : Option Key) (ask : Ask) (values : AreValues ask) where
  import_fits : (k : Key) (e v : Term) → walk_key parent ask k ≡ Ready v → FitsRoot e v
  import_fits k e v h = sane (is_sane parent k) h
    where
      by : (o : Option Outcome) → ask k ≡ o → by_outcome parent k o ≡ Ready v → FitsRoot e v
      by None p q = cc
      by (Some (Bad b)) p q = cc
      by (Some (Loop j)) p q = cc
      by (Some (Good x o)) p q = allow (allowed parent k o) q
        where
          allow : (b : Bool) → (if b then Ready x else Fails (record { at = parent; why = whys.Cors k.loc })) ≡ Ready v → FitsRoot e v
          allow true r = value_fits e v (subst IsValue (ready_equal r) (values k x o p))
          allow false r = cc

      sane : (b : Bool) → (if b then by_outcome parent k (ask k) else Fails (record { at = parent; why = whys.Insane k.loc })) ≡ Ready v → FitsRoot e v
      sane true q = by (ask k) refl q
      sane false q = cc

  -- each part of a row that is ready fits
  abbrev KidsFit : Row Var Name → Type 0
  KidsFit end = Unit {0}
  KidsFit (kid b e r) = ((v : Term) → walk parent ask e ≡ Ready v → FitsRoot e v) × KidsFit r

  record RowFits (r q : Row Var Name) : Type 0 where
    well_formed : AreWellFormed r → AreWellFormed q
    shallow : parts_nesting q ≤ parts_nesting r + most_nesting
    indices : (l : ℕ) → most_nesting ≤ l → RowIndicesBelow l r → RowIndicesBelow l q

  record FirstReady (w : Walked Term) (ws : List (Walked Term)) (vs : List Term) : Type 0 where
    first : Term
    rest : List Term
    first_is : w ≡ Ready first
    rest_are : in_order ws ≡ Ready rest
    all_are : first ∷ rest ≡ vs

  first_ready : (w : Walked Term) (ws : List (Walked Term)) (vs : List Term) → in_order (w ∷ ws) ≡ Ready vs → FirstReady w ws vs
  first_ready (Ready v) ws vs h = go (in_order ws) refl h
    where
      go : (u : Walked (List Term)) → in_order ws ≡ u → and_then u (λ es. Ready (v ∷ es)) ≡ Ready vs → FirstReady (Ready v) ws vs
      go (Ready us) p q = record { first = v; rest = us; first_is = refl; rest_are = p; all_are = ready_equal q }
      go (Fails b) p q = cc
      go (Turns j) p q = cc
      go (Needs k) p q = cc
  first_ready (Fails b) ws vs h = cc
  first_ready (Turns j) ws vs h = cc
  first_ready (Needs k) ws vs h = cc

  row_fits : (r : Row Var Name) (vs : List Term) → KidsFit r → in_order (walks parent ask r) ≡ Ready vs → RowFits r (replace_row r vs)
  row_fits end vs f h = record { well_formed = λ w. w; shallow = omega arith; indices = λ l m i. i }
  row_fits (kid b e r) vs f h =
      let x = first_ready (walk parent ask e) (walks parent ask r) vs h in
      let here = f.0 x.first x.first_is in
      let there = row_fits r x.rest f.1 x.rest_are in
      subst (λ ds. RowFits (kid b e r) (replace_row (kid b e r) ds)) x.all_are
      (record {
        well_formed = λ w. (here.well_formed w.0, there.well_formed w.1);
        shallow = let p = here.shallow in let q = there.shallow in omega arith;
        indices = λ l m i. (here.indices l m i.0, there.indices l m i.1);
      })

  whole_fits : (op : Op) (r : Row Var Name) (v : Term) → KidsFit r → and_then (in_order (walks parent ask r)) (λ es. Ready (Node op (replace_row r es))) ≡ Ready v → FitsRoot (Node op r) v
  whole_fits op r v f h = go (in_order (walks parent ask r)) refl h
    where
      go : (u : Walked (List Term)) → in_order (walks parent ask r) ≡ u → and_then u (λ es. Ready (Node op (replace_row r es))) ≡ Ready v → FitsRoot (Node op r) v
      go (Ready vs) p q =
          let x = row_fits r vs f p in
          subst (FitsRoot (Node op r)) (ready_equal q)
          (record {
            well_formed = λ w. (subst IsTrue (sym (fits_same op r vs)) w.0, x.well_formed w.1);
            shallow = x.shallow;
            indices = x.indices;
          })
      go (Fails b) p q = cc
      go (Turns j) p q = cc
      go (Needs k) p q = cc

  either_ready : (w u : Walked Term) (v : Term) → or_else w u ≡ Ready v → (w ≡ Ready v) ⊎ (u ≡ Ready v)
  either_ready (Ready x) u v h = inl h
  either_ready (Turns j) u v h = cc
  either_ready (Needs k) u v h = cc
  either_ready (Fails b) u v h = go (may_go_on b.why) h
    where
      go : (c : Bool) → (if c then u else Fails b) ≡ Ready v → (Fails b ≡ Ready v) ⊎ (u ≡ Ready v)
      go true q = inr q
      go false q = cc

  left_fits : (op : Op) (a b : Option Name) (e f v : Term) → FitsRoot e v → FitsRoot (Node op (kid a e (kid b f end))) v
  left_fits op a b e f v x = record { well_formed = λ w. x.well_formed w.1.0; shallow = let p = x.shallow in omega arith; indices = λ l m i. x.indices l m i.0 }

  right_fits : (op : Op) (a b : Option Name) (e f v : Term) → FitsRoot f v → FitsRoot (Node op (kid a e (kid b f end))) v
  right_fits op a b e f v x = record { well_formed = λ w. x.well_formed w.1.1.0; shallow = let p = x.shallow in omega arith; indices = λ l m i. x.indices l m i.1.0 }

  node_fits : (op : Op) (r : Row Var Name) (form : Form) (v : Term) → KidsFit r → walk_node parent ask op r form (walks parent ask r) ≡ Ready v → FitsRoot (Node op r) v
  node_fits op r (importing i) v f h = import_fits (chained (place parent) i) (Node op r) v h
  node_fits op r other v f h = whole_fits op r v f h
  node_fits op end choosing v f h = whole_fits op end v f h
  node_fits op (kid a e end) choosing v f h = whole_fits op (kid a e end) v f h
  node_fits op (kid a e (kid b g end)) choosing v f h =
      elim (either_ready (walk parent ask e) (walk parent ask g) v h) [
        | inl p ↦ left_fits op a b e g v (f.0 v p)
        | inr p ↦ right_fits op a b e g v (f.1.0 v p)
      ]
  node_fits op (kid a e (kid b g (kid d x r))) choosing v f h = whole_fits op (kid a e (kid b g (kid d x r))) v f h

  mutual
    -- what is ready fits what was walked
    pub walk_fits : (e v : Term) → walk parent ask e ≡ Ready v → FitsRoot e v
    walk_fits (Leaf x) v h = subst (FitsRoot (Leaf x)) (ready_equal h) (record { well_formed = λ w. w; shallow = omega arith; indices = λ l m i. i })
    walk_fits (Node op r) v h = node_fits op r (form_of op) v (kids_fit r) h

    kids_fit : (r : Row Var Name) → KidsFit r
    kids_fit end = tt
    kids_fit (kid b e r) = (λ v h. walk_fits e v h, kids_fit r)

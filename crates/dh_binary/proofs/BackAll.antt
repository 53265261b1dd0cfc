-- Every expression that can be written is read back.
use Rattle.std.specs.Prelude.{◌≡◌, ◌^◌, pos, negsuc, Bool, true, false, ◌&&◌, Some, None}
use Rattle.std.proofs.lemmas.Bool.{ltb-true, leb-true}
use Rattle.dh_syntax.specs.declared.expressions.Op.{Op}
use Rattle.dh_syntax.specs.declared.expressions.Op.TheVariants as ops
use Rattle.dh_syntax.specs.Expressions.Arity.{plain, binding, has_some, alt_labels, loc_fits, fits, IsWellFormed, AreWellFormed}
use Rattle.dh_syntax.specs.Expressions.Order.{ascending}
use Rattle.dh_syntax.specs.Expressions.Spellable.{is_label, op_spellable, names_spellable, row_spellable}
use Rattle.dh_syntax.specs.Limits.{most_index}
use Rattle.dh_syntax.specs.Expressions.Tree.{Row, Leaf, Node, end, kid, Name, Var, Term}
use Rattle.dh_binary.specs.Inside.Ranges.{op_has_values, has_values, row_has_values}
use Rattle.dh_binary.specs.Written.{written, all_written, node}
use Rattle.dh_binary.proofs.Back.{Back, AllBack, if_back, assert_back, annot_back, bin_back, merge_back, to_map_back, some_back, app_back}
use Rattle.dh_binary.proofs.BackNodes.{natural_back, pos_back, negsuc_back, truth_back, builtin_back, variable_back, lambda_back, pi_back, let_back, typed_let_back, field_back, project_type_back, update_back}
use Rattle.dh_binary.proofs.BackMore.{left_of, right_of, list_back, text_back, record_type_back, record_back, project_back}
use Rattle.dh_binary.proofs.BackEmptyList.{empty_list_back}
use Rattle.dh_binary.proofs.BackUnion.{union_back}
use Rattle.dh_binary.proofs.BackImport.{import_back}

-- what is asked of a row: its parts, its binders, and that its parts are read back
record Ready (op : Op) (r : Row Var Name) : Type 0 where
  fit : fits op r ≡ true
  spells : op_spellable op ≡ true
  ranges : op_has_values op ≡ true
  binders : row_spellable r ≡ true
  parts : AllBack r

-- one part of a node without binders
one_part : (op : Op) (r : Row Var Name) → plain 1 r ≡ true → AllBack r → ((e : Term) → Back (written e) e → Back (node op (all_written (kid None e end))) (Node op (kid None e end))) → Back (node op (all_written r)) (Node op r)
one_part op (kid None e end) h (b, t) f = f e b
one_part op end h b f = cc
one_part op (kid (Some x) e r) h b f = cc
one_part op (kid None e (kid x a r)) h b f = cc

two_parts : (op : Op) (r : Row Var Name) → plain 2 r ≡ true → AllBack r → ((e a : Term) → Back (written e) e → Back (written a) a → Back (node op (all_written (kid None e (kid None a end)))) (Node op (kid None e (kid None a end)))) → Back (node op (all_written r)) (Node op r)
two_parts op (kid None e (kid None a end)) h (b, (c, t)) f = f e a b c
two_parts op end h b f = cc
two_parts op (kid (Some x) e r) h b f = cc
two_parts op (kid None e end) h b f = cc
two_parts op (kid None e (kid (Some x) a r)) h b f = cc
two_parts op (kid None e (kid None a (kid x d r))) h b f = cc

no_part : (op : Op) (r : Row Var Name) → plain 0 r ≡ true → Back (node op (all_written end)) (Node op end) → Back (node op (all_written r)) (Node op r)
no_part op end h b = b
no_part op (kid x e r) h b = cc

-- the binder of a row
binder_of : (c d : Bool) (x : Name) → (is_label x && c && d) ≡ true → is_label x ≡ true
binder_of c d x h = left_of (is_label x) c (left_of (is_label x && c) d h)

bound_part : (op : Op) (r : Row Var Name) → binding 1 r ≡ true → row_spellable r ≡ true → AllBack r
    → ((x : Name) (a e : Term) → is_label x ≡ true → Back (written a) a → Back (written e) e → Back (node op (all_written (kid None a (kid (Some x) e end)))) (Node op (kid None a (kid (Some x) e end))))
    → Back (node op (all_written r)) (Node op r)
bound_part op (kid None a (kid (Some x) e end)) h l (b, (c, t)) f = f x a e (binder_of (names_spellable e) true x (right_of (names_spellable a) _ l)) b c
bound_part op end h l b f = cc
bound_part op (kid (Some x) e r) h l b f = cc
bound_part op (kid None e end) h l b f = cc
bound_part op (kid None e (kid None a r)) h l b f = cc
bound_part op (kid None e (kid (Some x) a (kid y d r))) h l b f = cc

typed_part : (op : Op) (r : Row Var Name) → binding 2 r ≡ true → row_spellable r ≡ true → AllBack r
    → ((x : Name) (t a e : Term) → is_label x ≡ true → Back (written t) t → Back (written a) a → Back (written e) e → Back (node op (all_written (kid None t (kid None a (kid (Some x) e end))))) (Node op (kid None t (kid None a (kid (Some x) e end)))))
    → Back (node op (all_written r)) (Node op r)
typed_part op (kid None t (kid None a (kid (Some x) e end))) h l (b, (c, (d, u))) f =
    f x t a e (binder_of (names_spellable e) true x (right_of (names_spellable a) _ (right_of (names_spellable t) _ l))) b c d
typed_part op end h l b f = cc
typed_part op (kid (Some x) e r) h l b f = cc
typed_part op (kid None e end) h l b f = cc
typed_part op (kid None t (kid (Some x) e r)) h l b f = cc
typed_part op (kid None t (kid None a end)) h l b f = cc
typed_part op (kid None t (kid None a (kid None e r))) h l b f = cc
typed_part op (kid None t (kid None a (kid (Some x) e (kid y d r)))) h l b f = cc

node_back : (op : Op) (r : Row Var Name) → Ready op r → Back (node op (all_written r)) (Node op r)
node_back (ops.Builtin b) r y = no_part (ops.Builtin b) r y.fit (builtin_back b)
node_back (ops.Bool c) r y = no_part (ops.Bool c) r y.fit (truth_back c)
node_back (ops.Nat n) r y = no_part (ops.Nat n) r y.fit (natural_back n (ltb-true n (2 ^ 128) y.ranges))
node_back (ops.Int (pos n)) r y = no_part (ops.Int (pos n)) r y.fit (pos_back n (ltb-true n (2 ^ 127) y.ranges))
node_back (ops.Int (negsuc n)) r y = no_part (ops.Int (negsuc n)) r y.fit (negsuc_back n (ltb-true n (2 ^ 127) y.ranges))
node_back (ops.Text ps) r y = text_back ps r y.fit y.ranges y.parts
node_back (ops.Import i) r y = no_part (ops.Import i) r (right_of (loc_fits i.loc) (plain 0 r) y.fit) (import_back i (left_of (loc_fits i.loc) (plain 0 r) y.fit) y.spells y.ranges)
node_back ops.Lam r y = bound_part ops.Lam r y.fit y.binders y.parts (λ x a e h b c. lambda_back x a e h b c)
node_back ops.Pi r y = bound_part ops.Pi r y.fit y.binders y.parts (λ x a e h b c. pi_back x a e h b c)
node_back (ops.Let false) r y = bound_part (ops.Let false) r y.fit y.binders y.parts (λ x a e h b c. let_back x a e h b c)
node_back (ops.Let true) r y = typed_part (ops.Let true) r y.fit y.binders y.parts (λ x t a e h d b c. typed_let_back x t a e h d b c)
node_back ops.App r y = two_parts ops.App r y.fit y.parts (λ f a b c. app_back f a b c)
node_back ops.If r y = if_back r y.fit y.parts
node_back (ops.Bin o) r y = bin_back o r y.fit y.parts
node_back ops.EmptyList r y = one_part ops.EmptyList r y.fit y.parts (λ e b. empty_list_back (written e) e b)
node_back ops.List r y = list_back r y.fit y.parts
node_back ops.Some r y = one_part ops.Some r y.fit y.parts (λ e b. some_back e b)
node_back (ops.Merge false) r y = merge_back false r y.fit y.parts
node_back (ops.Merge true) r y = merge_back true r y.fit y.parts
node_back (ops.RecordType xs) r y = record_type_back xs r (left_of (ascending xs) _ y.fit) (right_of (ascending xs) _ y.fit) y.spells y.parts
node_back (ops.Record xs) r y = record_back xs r (left_of (ascending xs) _ y.fit) (right_of (ascending xs) _ y.fit) y.spells y.parts
node_back (ops.Field x) r y = one_part (ops.Field x) r y.fit y.parts (λ e b. field_back e x y.spells b)
node_back (ops.Project xs) r y = one_part (ops.Project xs) r (right_of (ascending xs) _ y.fit) y.parts (λ e b. project_back e xs (left_of (ascending xs) (plain 1 r) y.fit) y.spells b)
node_back ops.ProjectType r y = two_parts ops.ProjectType r y.fit y.parts (λ e t b c. project_type_back e t b c)
node_back (ops.Union as') r y = union_back as' r (left_of (ascending (alt_labels as')) _ y.fit) (right_of (ascending (alt_labels as')) _ y.fit) y.spells y.parts
node_back ops.Assert r y = assert_back r y.fit y.parts
node_back ops.Annot r y = annot_back r y.fit y.parts
node_back (ops.ToMap false) r y = to_map_back false r y.fit y.parts
node_back (ops.ToMap true) r y = to_map_back true r y.fit y.parts
node_back (ops.With ks) r y = two_parts (ops.With ks) r (right_of (has_some ks) _ y.fit) y.parts (λ e v b c. update_back e v ks (left_of (has_some ks) (plain 2 r) y.fit) y.spells b c)

mutual
  pub back : (e : Term) → IsWellFormed e → names_spellable e ≡ true → has_values e ≡ true → Back (written e) e
  back (Leaf v) w l h = variable_back v (left_of (is_label v.name) _ l) (leb-true v.index most_index (right_of (is_label v.name) _ l))
  back (Node op r) (w, ws) l h =
      node_back op r (record {
        fit = w;
        spells = left_of (op_spellable op) _ l;
        ranges = left_of (op_has_values op) _ h;
        binders = right_of (op_spellable op) _ l;
        parts = all_back r ws (right_of (op_spellable op) _ l) (right_of (op_has_values op) _ h);
      })

  pub all_back : (r : Row Var Name) → AreWellFormed r → row_spellable r ≡ true → row_has_values r ≡ true → AllBack r
  all_back end w l h = tt
  all_back (kid None e r) (w, ws) l h = (back e w (left_of (names_spellable e) _ l) (left_of (has_values e) _ h), all_back r ws (right_of (names_spellable e) _ l) (right_of (has_values e) _ h))
  all_back (kid (Some x) e r) (w, ws) l h =
      let k = left_of (is_label x && names_spellable e) (row_spellable r) l in
      (back e w (right_of (is_label x) (names_spellable e) k) (left_of (has_values e) _ h), all_back r ws (right_of (is_label x && names_spellable e) (row_spellable r) l) (right_of (has_values e) _ h))

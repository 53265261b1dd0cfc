-- What an expression is written as is read as it: the nodes whose parts are expressions only, and those without parts.
use Rattle.std.specs.Prelude.{◌≡◌, ℕ, zero, suc, ◌==◌, Bool, true, false, if◌then◌else◌, List, [], ◌∷◌, ◌++◌, length, map, Option, Some, None, ⊤, refl}
use Rattle.std.proofs.Common.{◌∙◌, ap}
use Rattle.std.proofs.lemmas.Bool.{eq-eqb}
use Rattle.dh_syntax.specs.declared.expressions.Op.{Op}
use Rattle.dh_syntax.specs.declared.expressions.Op.TheVariants as ops
use Rattle.dh_syntax.specs.declared.operators.BinOp.{BinOp}
use Rattle.dh_syntax.specs.declared.operators.BinOp.TheVariants as op
use Rattle.dh_syntax.specs.Expressions.Arity.{plain}
use Rattle.dh_syntax.specs.Bytes.BinaryHeads.{unsigned}
use Rattle.dh_syntax.specs.Bytes.BinaryItems.{Item, single}
use Rattle.dh_syntax.specs.Bytes.BinaryLeaves.{◌>>=◌}
use Rattle.dh_syntax.specs.Bytes.BinaryRead as old
use Rattle.dh_syntax.specs.Bytes.BinaryRead.{plain_row, operator}
use Rattle.dh_syntax.specs.Expressions.Operators.{op_code}
use Rattle.dh_syntax.specs.Expressions.Tree.{Row, Node, end, kid, Name, Var, Term}
use Rattle.dh_binary.specs.Written.{Written, just, application, row_of, listed, no, all_written, written, items}

abbrev pub read_items : List Item → List old.Part
read_items is = map (old.part false) is

pub parts_listed : (is : List Item) → old.parts false (listed is) ≡ read_items is
parts_listed [] = refl
parts_listed (i ∷ is) = ap (λ ps. old.part false i ∷ ps) (parts_listed is)

-- the body of a let
abbrev pub body : List old.Part → Option Term
body (p ∷ []) = p.term
body ps = old.lets ps

-- an expression is read back, alone, at the head of an application, and as the body of a let
pub record Back (w : Written) (e : Term) : Type 0 where
  pub alone : (old.part false w.alone).term ≡ Some e
  pub head : Term
  pub arguments : List Term
  pub applied : old.terms (read_items w.applied) ≡ Some (head ∷ arguments)
  pub applies : old.applied head arguments ≡ e
  pub bound : body (read_items w.bound) ≡ Some e

pub just_back : (i : Item) (e : Term) → (old.part false i).term ≡ Some e → Back (just i) e
just_back i e h = record { alone = h; head = e; arguments = []; applied = ap (λ o. o >>= λ f. Some (f ∷ [])) h; applies = refl; bound = h }

abbrev pub AllBack : Row Var Name → Type 0
AllBack end = ⊤
AllBack (kid x e r) = Back (written e) e × AllBack r

-- the parts of a node that are all expressions
pub record PlainBack (n : ℕ) (r : Row Var Name) : Type 0 where
  es : List Term
  reads : old.terms (read_items (items (all_written r))) ≡ Some es
  same : plain_row es ≡ r
  count : length (read_items (items (all_written r))) ≡ n

pub plain_back : (n : ℕ) (r : Row Var Name) → plain n r ≡ true → AllBack r → PlainBack n r
plain_back zero end h b = record { es = []; reads = refl; same = refl; count = refl }
plain_back (suc n) (kid None e r) h (b, bs) =
    let p = plain_back n r h bs in
    record {
      es = e ∷ p.es;
      reads = ap (λ o. o >>= λ f. old.terms (read_items (items (all_written r))) >>= λ fs. Some (f ∷ fs)) b.alone ∙ ap (λ o. o >>= λ fs. Some (e ∷ fs)) p.reads;
      same = ap (kid None e) p.same;
      count = ap suc p.count;
    }
plain_back zero (kid x e r) h b = cc
plain_back (suc n) end h b = cc
plain_back (suc n) (kid (Some x) e r) h b = cc

pub node_back : (op : Op) (n : ℕ) (r : Row Var Name) → plain n r ≡ true → AllBack r → old.node op (read_items (items (all_written r))) ≡ Some (Node op r)
node_back op n r h b = let p = plain_back n r h b in ap (λ o. o >>= λ es. Some (Node op (plain_row es))) p.reads ∙ ap (λ r. Some (Node op r)) p.same

pub node_of_back : (op : Op) (n : ℕ) (r : Row Var Name) → plain n r ≡ true → AllBack r → old.node_of op n (old.parts false (listed (items (all_written r)))) ≡ Some (Node op r)
node_of_back op n r h b =
    let p = plain_back n r h b in
    ap (old.node_of op n) (parts_listed (items (all_written r)))
    ∙ ap (λ c. if c then old.node op (read_items (items (all_written r))) else None) (eq-eqb _ n p.count) ∙ node_back op n r h b

pub if_back : (r : Row Var Name) → plain 3 r ≡ true → AllBack r → Back (just (row_of 14 (items (all_written r)))) (Node ops.If r)
if_back r h b = just_back _ _ (node_of_back ops.If 3 r h b)

pub assert_back : (r : Row Var Name) → plain 1 r ≡ true → AllBack r → Back (just (row_of 19 (items (all_written r)))) (Node ops.Assert r)
assert_back r h b = just_back _ _ (node_of_back ops.Assert 1 r h b)

pub annot_back : (r : Row Var Name) → plain 2 r ≡ true → AllBack r → Back (just (row_of 26 (items (all_written r)))) (Node ops.Annot r)
annot_back r h b = just_back _ _ (node_of_back ops.Annot 2 r h b)

code_back : (o : BinOp) → operator (op_code o) ≡ Some o
code_back op.Or = refl
code_back _ = refl

pub bin_back : (o : BinOp) (r : Row Var Name) → plain 2 r ≡ true → AllBack r → Back (just (row_of 3 (single (unsigned (op_code o)) ∷ items (all_written r)))) (Node (ops.Bin o) r)
bin_back o r h b = just_back _ _ (ap (λ q. q >>= λ p. old.node_of (ops.Bin p) 2 (old.parts false (listed (items (all_written r))))) (code_back o) ∙ node_of_back (ops.Bin o) 2 r h b)

-- a node with one part more where it is annotated
annotated_back : (f : Bool → Op) (n : ℕ) (c : Bool) (r : Row Var Name) → (n == suc n) ≡ false → (suc n == suc n) ≡ true → (suc n == n) ≡ false → (n == n) ≡ true → plain (if c then suc n else n) r ≡ true → AllBack r
    → (if length (read_items (items (all_written r))) == n then old.node (f false) (read_items (items (all_written r))) else if length (read_items (items (all_written r))) == suc n then old.node (f true) (read_items (items (all_written r))) else None) ≡ Some (Node (f c) r)
annotated_back f n true r t u v w h b =
    let p = plain_back (suc n) r h b in
    ap (λ k. if k == n then old.node (f false) (read_items (items (all_written r))) else if k == suc n then old.node (f true) (read_items (items (all_written r))) else None) p.count
    ∙ ap (λ c. if c then old.node (f false) (read_items (items (all_written r))) else if suc n == suc n then old.node (f true) (read_items (items (all_written r))) else None) v
    ∙ ap (λ c. if c then old.node (f true) (read_items (items (all_written r))) else None) u ∙ node_back (f true) (suc n) r h b
annotated_back f n false r t u v w h b =
    let p = plain_back n r h b in
    ap (λ k. if k == n then old.node (f false) (read_items (items (all_written r))) else if k == suc n then old.node (f true) (read_items (items (all_written r))) else None) p.count
    ∙ ap (λ c. if c then old.node (f false) (read_items (items (all_written r))) else if n == suc n then old.node (f true) (read_items (items (all_written r))) else None) w ∙ node_back (f false) n r h b

pub merge_back : (c : Bool) (r : Row Var Name) → plain (if c then 3 else 2) r ≡ true → AllBack r → Back (just (row_of 6 (items (all_written r)))) (Node (ops.Merge c) r)
merge_back c r h b = just_back _ _ (ap (old.with_annotation ops.Merge 2) (parts_listed (items (all_written r))) ∙ annotated_back ops.Merge 2 c r refl refl refl refl h b)

pub to_map_back : (c : Bool) (r : Row Var Name) → plain (if c then 2 else 1) r ≡ true → AllBack r → Back (just (row_of 27 (items (all_written r)))) (Node (ops.ToMap c) r)
to_map_back c r h b = just_back _ _ (ap (old.with_annotation ops.ToMap 1) (parts_listed (items (all_written r))) ∙ annotated_back ops.ToMap 1 c r refl refl refl refl h b)

pub some_back : (e : Term) → Back (written e) e → Back (just (row_of 5 (no ∷ (written e).alone ∷ []))) (Node ops.Some (kid None e end))
some_back e b = just_back _ _ (node_back ops.Some 1 (kid None e end) refl (b, tt))

-- ---- applications

terms-append : (is : List Item) (a : Item) (es : List Term) (e : Term) → old.terms (read_items is) ≡ Some es → (old.part false a).term ≡ Some e → old.terms (read_items (is ++ a ∷ [])) ≡ Some (es ++ e ∷ [])
terms-append [] a es e h k = ap (λ o. o >>= λ f. Some (f ∷ [])) k ∙ ap (λ fs. Some (fs ++ e ∷ [])) (some_in h)
  where
    some_in : {A : Type 0} {x y : A} → Some x ≡ Some y → x ≡ y
    some_in h = cc
terms-append (i ∷ is) a es e h k = by (old.part false i).term (old.terms (read_items is)) h (λ fs p. terms-append is a fs e p k)
  where
    by : (o : Option Term) (p : Option (List Term)) → (o >>= λ f. p >>= λ fs. Some (f ∷ fs)) ≡ Some es → ((fs : List Term) → p ≡ Some fs → old.terms (read_items (is ++ a ∷ [])) ≡ Some (fs ++ e ∷ [])) → (o >>= λ f. old.terms (read_items (is ++ a ∷ [])) >>= λ fs. Some (f ∷ fs)) ≡ Some (es ++ e ∷ [])
    by None p h g = cc
    by (Some f) None h g = cc
    by (Some f) (Some fs) h g = let q : f ∷ fs ≡ es = cc in ap (λ o. o >>= λ fs. Some (f ∷ fs)) (g fs refl) ∙ ap (λ xs. Some (xs ++ e ∷ [])) q

applied-append : (g : Term) (es : List Term) (a : Term) → old.applied g (es ++ a ∷ []) ≡ Node ops.App (kid None (old.applied g es) (kid None a end))
applied-append g [] a = refl
applied-append g (e ∷ es) a = applied-append (Node ops.App (kid None g (kid None e end))) es a

-- two items or more that are expressions are an application
application_read : (is : List Item) (g : Term) (es : List Term) (a : Term) → old.terms (read_items is) ≡ Some (g ∷ es ++ a ∷ []) → old.application (read_items is) ≡ Some (old.applied g (es ++ a ∷ []))
application_read [] g es a h = cc
application_read (i ∷ []) g es a h = by (old.part false i).term es h
  where
    by : (o : Option Term) (es : List Term) → (o >>= λ f. Some (f ∷ [])) ≡ Some (g ∷ es ++ a ∷ []) → None ≡ Some (old.applied g (es ++ a ∷ []))
    by None es h = cc
    by (Some f) [] h = cc
    by (Some f) (e ∷ es) h = cc
application_read (i ∷ j ∷ is) g es a h = by (old.part false i).term (old.terms (read_items (j ∷ is))) h
  where
    by : (o : Option Term) (p : Option (List Term)) → (o >>= λ f. p >>= λ fs. Some (f ∷ fs)) ≡ Some (g ∷ es ++ a ∷ []) → (o >>= λ f. p >>= λ fs. Some (old.applied f fs)) ≡ Some (old.applied g (es ++ a ∷ []))
    by None p h = cc
    by (Some f) None h = cc
    by (Some f) (Some fs) h = let q : f ≡ g = cc in let r : fs ≡ es ++ a ∷ [] = cc in ap (λ x. Some (old.applied x fs)) q ∙ ap (λ xs. Some (old.applied g xs)) r

pub app_back : (f a : Term) → Back (written f) f → Back (written a) a → Back (application (written f) (written a)) (Node ops.App (kid None f (kid None a end)))
app_back f a b c =
    let is = (written f).applied ++ (written a).alone ∷ [] in
    let t = terms-append (written f).applied (written a).alone (b.head ∷ b.arguments) a b.applied c.alone in
    let e : old.applied b.head (b.arguments ++ a ∷ []) ≡ Node ops.App (kid None f (kid None a end)) = applied-append b.head b.arguments a ∙ ap (λ x. Node ops.App (kid None x (kid None a end))) b.applies in
    let w : (old.part false (row_of 0 is)).term ≡ Some (Node ops.App (kid None f (kid None a end))) =
    ap old.application (parts_listed is) ∙ application_read is b.head b.arguments a t ∙ ap (λ x. Some x) e in
    record { alone = w; head = b.head; arguments = b.arguments ++ a ∷ []; applied = t; applies = e; bound = w }

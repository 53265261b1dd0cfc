-- Empty lists are read back.
use Rattle.std.specs.Prelude.{◌≡◌, Bool, true, false, if◌then◌else◌, List, [], ◌∷◌, Option, Some, None, codes, refl}
use Rattle.std.proofs.Common.{sym, ◌∙◌, ap}
use Rattle.dh_syntax.specs.declared.expressions.Op.TheVariants as ops
use Rattle.dh_syntax.specs.declared.operators.Builtin.TheVariants as builtin
use Rattle.dh_syntax.specs.Bytes.BinaryHeads.{unsigned, negative, octets, characters, simple}
use Rattle.dh_syntax.specs.Bytes.BinaryItems.{Item, single, array_of, map_of, tagged}
use Rattle.dh_syntax.specs.Bytes.BinaryLeaves.{◌>>=◌}
use Rattle.dh_syntax.specs.Bytes.BinaryRead as old
use Rattle.dh_syntax.specs.Bytes.BinaryRead.{plain_row, entries_of, Entry}
use Rattle.dh_syntax.specs.Expressions.Tree.{Node, end, kid, Term}
use Rattle.dh_syntax.proofs.Numbers.{bytes_eq-true}
use Rattle.dh_binary.specs.Written.{Written, just, row_of, is_text, empty_list}
use Rattle.dh_binary.proofs.Back.{Back, just_back, read_items}

-- ---- empty lists

abbrev list_of : Term → Term
list_of x = Node ops.App (kid None (Node (ops.Builtin builtin.List) end) (kid None x end))

-- an item that is the text `List` is the built-in
list_text : (l : Item) → is_text (codes "List") l ≡ true → (old.part false l).term ≡ Some (Node (ops.Builtin builtin.List) end)
list_text (single (characters x)) h = ap (λ t. old.builtin_term t) (bytes_eq-true x (codes "List") h)
list_text (single (unsigned n)) h = cc
list_text (single (negative n)) h = cc
list_text (single (octets n)) h = cc
list_text (single (simple n)) h = cc
list_text (array_of is) h = cc
list_text (map_of ps) h = cc
list_text (tagged t i) h = cc

-- the expression that a list of two items applies
list_applied : (l x : Item) (g : Term) (es : List Term) (t : Term) → old.terms (read_items (l ∷ x ∷ [])) ≡ Some (g ∷ es) → old.applied g es ≡ t → (old.part false l).term ≡ Some (Node (ops.Builtin builtin.List) end)
    → old.list (old.part false x ∷ []) ≡ Some (Node ops.EmptyList (kid None t end))
list_applied l x g es t h e k = by (old.part false l).term (old.part false x).term h k
  where
    by : (o p : Option Term) → (o >>= λ f. (p >>= λ y. Some (y ∷ [])) >>= λ ys. Some (f ∷ ys)) ≡ Some (g ∷ es) → o ≡ Some (Node (ops.Builtin builtin.List) end)
        → (p >>= λ y. Some (Node ops.EmptyList (kid None (list_of y) end))) ≡ Some (Node ops.EmptyList (kid None t end))
    by None p h k = cc
    by (Some f) None h k = cc
    by (Some f) (Some y) h k =
        let q : f ≡ g = cc in
        let r : y ∷ [] ≡ es = cc in
        let s : f ≡ Node (ops.Builtin builtin.List) end = cc in
        let w : list_of y ≡ t = ap (λ z. old.applied z (y ∷ [])) (sym s ∙ q) ∙ ap (old.applied g) r ∙ e in
        ap (λ z. Some (Node ops.EmptyList (kid None z end))) w

whole_list : (w : Written) (t : Term) → Back w t → Back (just (row_of 28 (w.alone ∷ []))) (Node ops.EmptyList (kid None t end))
whole_list w t b = just_back _ _ (ap (λ o. (o >>= λ e. Some (e ∷ [])) >>= λ es. Some (Node ops.EmptyList (plain_row es))) b.alone)

pub empty_list_back : (w : Written) (t : Term) → Back w t → Back (just (empty_list w)) (Node ops.EmptyList (kid None t end))
empty_list_back w t b = by w.applied b.applied
  where
    two : (l x : Item) → old.terms (read_items (l ∷ x ∷ [])) ≡ Some (b.head ∷ b.arguments) → (c : Bool) → is_text (codes "List") l ≡ c → Back (just (if c then row_of 4 (x ∷ []) else row_of 28 (w.alone ∷ []))) (Node ops.EmptyList (kid None t end))
    two l x h true e = just_back _ _ (list_applied l x b.head b.arguments t h b.applies (list_text l e))
    two l x h false e = whole_list w t b

    by : (is : List Item) → old.terms (read_items is) ≡ Some (b.head ∷ b.arguments) → Back (just (empty_list (record { alone = w.alone; applied = is; bound = w.bound }))) (Node ops.EmptyList (kid None t end))
    by [] h = whole_list w t b
    by (l ∷ []) h = whole_list w t b
    by (l ∷ x ∷ []) h = two l x h (is_text (codes "List") l) refl
    by (l ∷ x ∷ y ∷ is) h = whole_list w t b

-- The numbers of the item that an expression is written as fit their heads.
use Rattle.std.specs.Prelude.{◌≡◌, ℕ, ◌^◌, ◌≤◌, nat_lt, ℤ, pos, negsuc, Bool, true, false, ◌&&◌, if◌then◌else◌, List, [], ◌∷◌, ◌++◌, map, Option, Some, None, ⊤, codes, refl}
use Rattle.std.proofs.Common.{arith}
use Rattle.std.proofs.lemmas.Bool.{leb-true, lt-ltb}
use Rattle.dh_syntax.specs.declared.expressions.Alt.{Alt}
use Rattle.dh_syntax.specs.declared.expressions.Op.{Op}
use Rattle.dh_syntax.specs.declared.expressions.Op.TheVariants as ops
use Rattle.dh_syntax.specs.declared.locations.Digest.{Digest}
use Rattle.dh_syntax.specs.declared.locations.Loc.{Loc}
use Rattle.dh_syntax.specs.declared.locations.Loc.TheVariants as locs
use Rattle.dh_syntax.specs.declared.locations.Mode.{Mode}
use Rattle.dh_syntax.specs.declared.locations.Mode.TheVariants as mode
use Rattle.dh_syntax.specs.declared.locations.Url.{Url}
use Rattle.dh_syntax.specs.declared.operators.BinOp.{BinOp}
use Rattle.dh_syntax.specs.declared.operators.BinOp.TheVariants as op
use Rattle.dh_syntax.specs.Bytes.Binary.{mode_code}
use Rattle.dh_syntax.specs.Bytes.BinaryHeads.{unsigned, negative, octets}
use Rattle.dh_syntax.specs.Bytes.BinaryItems.{Item, single, array_of, map_of, tagged, no_items, more_items, Pairs, no_pairs, more_pairs}
use Rattle.dh_syntax.specs.Bytes.Cbor.{fewest_bytes}
use Rattle.dh_syntax.specs.Expressions.Numbers.{bytes_eq}
use Rattle.dh_syntax.specs.Expressions.Operators.{op_code}
use Rattle.dh_syntax.specs.Expressions.Spellable.{is_label, names_spellable, row_spellable, op_spellable}
use Rattle.dh_syntax.specs.Limits.{most_index}
use Rattle.dh_syntax.specs.Expressions.Tree.{Row, Leaf, Node, end, kid, Name, Var, Term}
use Rattle.dh_binary.specs.ItemBytes.{fits_head}
use Rattle.dh_binary.specs.Inside.Sound.{sound, all_sound, pairs_sound}
use Rattle.dh_binary.specs.Written.{Written, Part, plain, under, listed, row_of, just, label, no, natural, below_zero, integer, application, function, binding, is_text, empty_list, interleaved, pairs, alternatives, digest_item, optional_text, loc_items, import_item, variable_item, truth, items, node, written, all_written, item}
use Rattle.dh_binary.proofs.BackMore.{left_of, right_of}
use Rattle.dh_binary.proofs.Sizes.{both}

abbrev pub AreSound : List Item → Type 0
AreSound is = all_sound (listed is) ≡ true

record Sound (w : Written) : Type 0 where
  alone : sound w.alone ≡ true
  applied : AreSound w.applied
  bound : AreSound w.bound

one_sound : (i : Item) → sound i ≡ true → AreSound (i ∷ [])
one_sound i h = both (sound i) true h refl

just_sound : (i : Item) → sound i ≡ true → Sound (just i)
just_sound i h = record { alone = h; applied = one_sound i h; bound = one_sound i h }

append_sound : (is js : List Item) → AreSound is → AreSound js → AreSound (is ++ js)
append_sound [] js h k = k
append_sound (i ∷ is) js h k = both (sound i) (all_sound (listed (is ++ js))) (left_of (sound i) _ h) (append_sound is js (right_of (sound i) _ h) k)

abbrev AllSound : List Part → Type 0
AllSound [] = ⊤
AllSound (plain w ∷ ps) = Sound w × AllSound ps
AllSound (under x w ∷ ps) = Sound w × AllSound ps

items_sound : (ps : List Part) → AllSound ps → AreSound (items ps)
items_sound [] h = refl
items_sound (plain w ∷ ps) (h, hs) = both (sound w.alone) _ h.alone (items_sound ps hs)
items_sound (under x w ∷ ps) (h, hs) = both (sound w.alone) _ h.alone (items_sound ps hs)

two_sound : (i j : Item) → sound i ≡ true → sound j ≡ true → AreSound (i ∷ j ∷ [])
two_sound i j h k = both (sound i) _ h (one_sound j k)

-- ---- leaves

natural_sound : (n : ℕ) → sound (natural n) ≡ true
natural_sound n = by (nat_lt n (2 ^ 64)) refl
  where
    by : (c : Bool) → nat_lt n (2 ^ 64) ≡ c → sound (if c then single (unsigned n) else tagged 2 (single (octets (fewest_bytes n)))) ≡ true
    by true e = e
    by false e = refl

below_sound : (n : ℕ) → sound (below_zero n) ≡ true
below_sound n = by (nat_lt n (2 ^ 64)) refl
  where
    by : (c : Bool) → nat_lt n (2 ^ 64) ≡ c → sound (if c then single (negative n) else tagged 3 (single (octets (fewest_bytes n)))) ≡ true
    by true e = e
    by false e = refl

integer_sound : (z : ℤ) → sound (integer z) ≡ true
integer_sound (pos n) = natural_sound n
integer_sound (negsuc n) = below_sound n

truth_sound : (c : Bool) → sound (truth c) ≡ true
truth_sound true = refl
truth_sound false = refl

variable_sound : (v : Var) → v.index ≤ most_index → sound (variable_item v) ≡ true
variable_sound v h = by (bytes_eq v.name (codes "_")) (lt-ltb v.index (2 ^ 64) (omega arith))
  where
    by : (c : Bool) → fits_head v.index ≡ true → sound (if c then single (unsigned v.index) else array_of (more_items (label v.name) (more_items (single (unsigned v.index)) no_items))) ≡ true
    by true e = e
    by false e = both (fits_head v.index) true e refl

code_sound : (o : BinOp) → fits_head (op_code o) ≡ true
code_sound op.Or = refl
code_sound _ = refl

labels_sound : (xs : List Name) → AreSound (map label xs)
labels_sound [] = refl
labels_sound (x ∷ xs) = labels_sound xs

interleaved_sound : (ps : List (List ℕ)) (es : List Item) → AreSound es → AreSound (interleaved ps es)
interleaved_sound [] es h = refl
interleaved_sound (p ∷ ps) [] h = interleaved_sound ps [] h
interleaved_sound (p ∷ ps) (e ∷ es) h = both (sound e) _ (left_of (sound e) _ h) (interleaved_sound ps es (right_of (sound e) _ h))

pairs_are_sound : (xs : List Name) (es : List Item) → AreSound es → pairs_sound (pairs xs es) ≡ true
pairs_are_sound [] es h = refl
pairs_are_sound (x ∷ xs) [] h = refl
pairs_are_sound (x ∷ xs) (e ∷ es) h = both (sound e) _ (left_of (sound e) _ h) (pairs_are_sound xs es (right_of (sound e) _ h))

alternative_sound : (c : Bool) (l : List ℕ) (as' : List Alt) (ts : List Item) → AreSound ts → ((ts : List Item) → AreSound ts → pairs_sound (alternatives as' ts) ≡ true)
    → pairs_sound (elim c as (λ c. Pairs) [ false ↦ more_pairs (label l) no (alternatives as' ts) | true ↦ elim ts as (λ ts. Pairs) [ [] ↦ no_pairs | (t ∷ ts') ↦ more_pairs (label l) t (alternatives as' ts') ] ]) ≡ true
alternative_sound false l as' ts h go = go ts h
alternative_sound true l as' [] h go = refl
alternative_sound true l as' (t ∷ ts) h go = both (sound t) _ (left_of (sound t) _ h) (go ts (right_of (sound t) _ h))

alternatives_sound : (as' : List Alt) (ts : List Item) → AreSound ts → pairs_sound (alternatives as' ts) ≡ true
alternatives_sound [] ts h = refl
alternatives_sound (a ∷ as') ts h = alternative_sound a.typed a.label as' ts h (λ ts h. alternatives_sound as' ts h)

digest_sound : (d : Option Digest) → sound (digest_item d) ≡ true
digest_sound None = refl
digest_sound (Some d) = refl

mode_sound : (m : Mode) → fits_head (mode_code m) ≡ true
mode_sound mode.Code = refl
mode_sound mode.Text = refl
mode_sound mode.Location = refl

optional_sound : (q : Option (List ℕ)) → sound (optional_text q) ≡ true
optional_sound None = refl
optional_sound (Some q) = refl

url_sound : (u : Url) → AreSound (map label u.comps ++ optional_text u.query ∷ [])
url_sound u = append_sound (map label u.comps) (optional_text u.query ∷ []) (labels_sound u.comps) (one_sound (optional_text u.query) (optional_sound u.query))

loc_sound : (l : Loc) → AreSound (loc_items l)
loc_sound (locs.Http u) = url_sound u
loc_sound (locs.Https u) = url_sound u
loc_sound (locs.Abs cs) = labels_sound cs
loc_sound (locs.Here cs) = labels_sound cs
loc_sound (locs.Parent cs) = labels_sound cs
loc_sound (locs.Home cs) = labels_sound cs
loc_sound (locs.Env x) = refl
loc_sound locs.Missing = refl

-- ---- nodes

function_sound : (n : ℕ) (x : Name) (a b : Item) → fits_head n ≡ true → sound a ≡ true → sound b ≡ true → Sound (function n a x b)
function_sound n x a b f h k = by (bytes_eq x (codes "_"))
  where
    by : (c : Bool) → Sound (just (if c then row_of n (a ∷ b ∷ []) else row_of n (label x ∷ a ∷ b ∷ [])))
    by true = just_sound (row_of n (a ∷ b ∷ [])) (both (fits_head n) _ f (two_sound a b h k))
    by false = just_sound (row_of n (label x ∷ a ∷ b ∷ [])) (both (fits_head n) _ f (two_sound a b h k))

binding_sound : (x : Name) (t a : Item) (b : Written) → sound t ≡ true → sound a ≡ true → Sound b → Sound (binding (label x) t a b)
binding_sound x t a b h k s =
    let is = both (sound t) _ h (both (sound a) _ k s.bound) in
    let i = row_of 25 (label x ∷ t ∷ a ∷ b.bound) in
    record { alone = is; applied = one_sound i is; bound = is }

application_sound : (f a : Written) → Sound f → Sound a → Sound (application f a)
application_sound f a s t =
    let is = append_sound f.applied (a.alone ∷ []) s.applied (one_sound a.alone t.alone) in
    record { alone = is; applied = is; bound = one_sound (row_of 0 (f.applied ++ a.alone ∷ [])) is }

empty_list_sound : (w : Written) → Sound w → sound (empty_list w) ≡ true
empty_list_sound w s = by w.applied s.applied
  where
    two : (c : Bool) (x : Item) → sound x ≡ true → sound (if c then row_of 4 (x ∷ []) else row_of 28 (w.alone ∷ [])) ≡ true
    two true x h = one_sound x h
    two false x h = one_sound w.alone s.alone

    by : (is : List Item) → AreSound is → sound (empty_list (record { alone = w.alone; applied = is; bound = w.bound })) ≡ true
    by [] h = one_sound w.alone s.alone
    by (l ∷ []) h = one_sound w.alone s.alone
    by (l ∷ x ∷ []) h = two (is_text (codes "List") l) x (left_of (sound x) true (right_of (sound l) (sound x && true) h))
    by (l ∷ x ∷ y ∷ is) h = one_sound w.alone s.alone

node_sound : (o : Op) (ps : List Part) → AllSound ps → Sound (node o ps)
node_sound (ops.Builtin b) ps s = just_sound _ refl
node_sound (ops.Bool b) ps s = just_sound _ (truth_sound b)
node_sound (ops.Nat n) ps s = just_sound (row_of 15 (natural n ∷ [])) (one_sound (natural n) (natural_sound n))
node_sound (ops.Int z) ps s = just_sound (row_of 16 (integer z ∷ [])) (one_sound (integer z) (integer_sound z))
node_sound (ops.Text pieces) ps s = just_sound (row_of 18 (interleaved pieces (items ps))) (interleaved_sound pieces (items ps) (items_sound ps s))
node_sound (ops.Import i) ps s = just_sound (import_item i) (both (sound (digest_item i.digest)) _ (digest_sound i.digest) (both (fits_head (mode_code i.mode)) _ (mode_sound i.mode) (loc_sound i.loc)))
node_sound ops.Lam (plain a ∷ under x b ∷ []) (s, (t, u)) = function_sound 1 x a.alone b.alone refl s.alone t.alone
node_sound ops.Pi (plain a ∷ under x b ∷ []) (s, (t, u)) = function_sound 2 x a.alone b.alone refl s.alone t.alone
node_sound (ops.Let false) (plain a ∷ under x b ∷ []) (s, (t, u)) = binding_sound x no a.alone b refl s.alone t
node_sound (ops.Let true) (plain t ∷ plain a ∷ under x b ∷ []) (r, (s, (q, u))) = binding_sound x t.alone a.alone b r.alone s.alone q
node_sound ops.App (plain f ∷ plain a ∷ []) (s, (t, u)) = application_sound f a s t
node_sound ops.If ps s = just_sound (row_of 14 (items ps)) (items_sound ps s)
node_sound (ops.Bin o) ps s = just_sound (row_of 3 (single (unsigned (op_code o)) ∷ items ps)) (both (fits_head (op_code o)) _ (code_sound o) (items_sound ps s))
node_sound ops.EmptyList (plain t ∷ []) (s, u) = just_sound (empty_list t) (empty_list_sound t s)
node_sound ops.List ps s = just_sound (row_of 4 (no ∷ items ps)) (items_sound ps s)
node_sound ops.Some ps s = just_sound (row_of 5 (no ∷ items ps)) (items_sound ps s)
node_sound (ops.Merge c) ps s = just_sound (row_of 6 (items ps)) (items_sound ps s)
node_sound (ops.RecordType xs) ps s = just_sound (row_of 7 (map_of (pairs xs (items ps)) ∷ [])) (one_sound (map_of (pairs xs (items ps))) (pairs_are_sound xs (items ps) (items_sound ps s)))
node_sound (ops.Record xs) ps s = just_sound (row_of 8 (map_of (pairs xs (items ps)) ∷ [])) (one_sound (map_of (pairs xs (items ps))) (pairs_are_sound xs (items ps) (items_sound ps s)))
node_sound (ops.Field x) ps s = just_sound (row_of 9 (items ps ++ label x ∷ [])) (append_sound (items ps) (label x ∷ []) (items_sound ps s) refl)
node_sound (ops.Project xs) ps s = just_sound (row_of 10 (items ps ++ map label xs)) (append_sound (items ps) (map label xs) (items_sound ps s) (labels_sound xs))
node_sound ops.ProjectType (plain t ∷ plain r ∷ []) (s, (q, u)) = just_sound (row_of 10 (t.alone ∷ array_of (more_items r.alone no_items) ∷ [])) (two_sound t.alone (array_of (more_items r.alone no_items)) s.alone (one_sound r.alone q.alone))
node_sound (ops.Union as') ps s = just_sound (row_of 11 (map_of (alternatives as' (items ps)) ∷ [])) (one_sound (map_of (alternatives as' (items ps))) (alternatives_sound as' (items ps) (items_sound ps s)))
node_sound ops.Assert ps s = just_sound (row_of 19 (items ps)) (items_sound ps s)
node_sound ops.Annot ps s = just_sound (row_of 26 (items ps)) (items_sound ps s)
node_sound (ops.ToMap c) ps s = just_sound (row_of 27 (items ps)) (items_sound ps s)
node_sound (ops.With path) (plain e ∷ plain v ∷ []) (s, (q, u)) =
    just_sound (row_of 29 (e.alone ∷ array_of (listed (map label path)) ∷ v.alone ∷ [])) (both (sound e.alone) _ s.alone (two_sound (array_of (listed (map label path))) v.alone (labels_sound path) q.alone))
node_sound o ps s = just_sound no refl

mutual
  written_sound : (e : Term) → names_spellable e ≡ true → Sound (written e)
  written_sound (Leaf v) l = just_sound (variable_item v) (variable_sound v (leb-true v.index most_index (right_of (is_label v.name) _ l)))
  written_sound (Node o r) l = node_sound o (all_written r) (all_written_sound r (right_of (op_spellable o) _ l))

  all_written_sound : (r : Row Var Name) → row_spellable r ≡ true → AllSound (all_written r)
  all_written_sound end l = tt
  all_written_sound (kid None e r) l = (written_sound e (left_of (names_spellable e) _ l), all_written_sound r (right_of (names_spellable e) _ l))
  all_written_sound (kid (Some x) e r) l =
      let k = left_of (is_label x && names_spellable e) (row_spellable r) l in (written_sound e (right_of (is_label x) (names_spellable e) k), all_written_sound r (right_of (is_label x && names_spellable e) (row_spellable r) l))

pub item_sound : (e : Term) → names_spellable e ≡ true → sound (item e) ≡ true
item_sound e l = let s = written_sound e l in s.alone

-- What is read is well formed.
use Rattle.std.specs.Prelude.{◌≡◌, ℕ, ◌==◌, Bool, true, false, if◌then◌else◌, List, [], ◌∷◌, Option, Some, None, refl}
use Rattle.std.proofs.Common.{subst}
use Rattle.dh_syntax.specs.Bytes.BinaryHeads.{Atom, unsigned, negative, octets, characters, simple}
use Rattle.dh_syntax.specs.Bytes.BinaryItems.{Item, single, array_of, map_of, tagged, Items, no_items, more_items, Pairs, no_pairs, more_pairs}
use Rattle.dh_syntax.specs.Bytes.BinaryLeaves as leaves
use Rattle.dh_syntax.specs.Bytes.BinaryLeaves.{◌>>=◌, inserted, is_null, unsigned_of}
use Rattle.dh_syntax.specs.Bytes.BinaryRead as read
use Rattle.dh_syntax.specs.Bytes.BinaryRead.{Value, Entry, Part, part, parts, entries_of, array_by, array_term, atom_term, only_term, entered, expression, Reads}
use Rattle.dh_syntax.specs.Expressions.Arity.{IsWellFormed}
use Rattle.dh_syntax.specs.Expressions.Builtins.{builtin_of}
use Rattle.dh_syntax.specs.Expressions.Order.{ascending}
use Rattle.dh_syntax.specs.Expressions.Tree.{Name, Term}
use Rattle.dh_decode.proofs.WellFormedParts.{Fair, FairValue, FairEntries, FairPart, FairParts, fair_if, fair_step, fair_value, variable_fair, row_fair, inserted_ascends, inserted_fair}

array_by_fair : (b : Bool) (o : Option ℕ) (i : Item) (ps : List Part) → FairParts ps → Fair (array_by b o i ps)
array_by_fair b (Some n) i ps f = row_fair b n ps f
array_by_fair b None i ps f = variable_fair b i ps

array_fair : (b : Bool) (ps : List Part) → FairParts ps → Fair (array_term b ps)
array_fair b [] f = tt
array_fair b (p ∷ ps) (f, g) = array_by_fair b (unsigned_of p.item) p.item ps g

only_fair : (ps : List Part) → FairParts ps → Fair (only_term ps)
only_fair [] f = tt
only_fair (p ∷ []) (f, g) = f.0
only_fair (p ∷ q ∷ ps) f = tt

atom_fair : (b : Bool) (a : Atom) → Fair (atom_term b a)
atom_fair b (unsigned n) = fair_step (leaves.index_of b (single (unsigned n))) _ (λ m h. tt)
atom_fair b (characters t) = fair_step (builtin_of t) _ (λ c h. (refl, tt))
atom_fair b (simple n) = fair_if (n == 20) _ _ (refl, tt) (fair_if (n == 21) _ _ (refl, tt) tt)
atom_fair b (negative n) = tt
atom_fair b (octets bs) = tt

abbrev FairRead : Option Value → Type 0
FairRead (Some v) = FairValue v
FairRead None = Unit {0}

value_fair : (i : Item) (o : Option Term) → Fair o → FairRead (read.value_of i o)
value_fair i o f = by (is_null i) o f
  where
    by : (c : Bool) (o : Option Term) → Fair o → FairRead (if c then Some read.nothing else (o >>= λ t. Some (read.holds t)))
    by true o f = tt
    by false (Some e) f = f
    by false None f = tt

entered_fair : (key : Option Name) (v : Option Value) (o : Option (List Entry)) → FairRead v → FairEntries o → FairEntries (entered key v o)
entered_fair None v o f g = tt
entered_fair (Some x) None o f g = tt
entered_fair (Some x) (Some v) None f g = tt
entered_fair (Some x) (Some v) (Some es) f g = by (inserted (λ e. e.name) (record { name = x; value = v }) es) refl
  where
    by : (o : Option (List Entry)) → inserted (λ e. e.name) (record { name = x; value = v }) es ≡ o → FairEntries o
    by (Some zs) h = (inserted_ascends (λ e. e.name) (record { name = x; value = v }) es zs h g.0, inserted_fair (record { name = x; value = v }) es zs f g.1 h)
    by None h = tt

mutual
  part_fair : (b : Bool) (i : Item) → FairPart (part b i)
  part_fair b (single a) = (atom_fair b a, tt, tt)
  part_fair b (array_of is) = (array_fair b (parts b is) (parts_fair b is), only_fair (parts b is) (parts_fair b is), tt)
  part_fair b (map_of ps) = (tt, tt, entries_fair b ps)
  part_fair b (tagged t i) = (tt, tt, tt)

  parts_fair : (b : Bool) (is : Items) → FairParts (parts b is)
  parts_fair b no_items = tt
  parts_fair b (more_items i is) = (part_fair b i, parts_fair b is)

  entries_fair : (b : Bool) (ps : Pairs) → FairEntries (entries_of b ps)
  entries_fair b no_pairs = (refl, tt)
  entries_fair b (more_pairs k v ps) = entered_fair (leaves.label_of k) (read.value_of v (part b v).term) (entries_of b ps) (value_fair v (part b v).term (part_fair b v).0) (entries_fair b ps)

pub expression_fair : (b : Bool) (i : Item) → Fair (expression b i)
expression_fair b (tagged t i) = fair_if (t == 55799) _ _ (expression_fair b i) tt
expression_fair b (single a) = atom_fair b a
expression_fair b (array_of is) = (part_fair b (array_of is)).0
expression_fair b (map_of ps) = tt

pub reads_well_formed : (bytes : List ℕ) (e : Term) → Reads bytes e → IsWellFormed e
reads_well_formed bytes e r = fair_value (expression false r.0) e (expression_fair false r.0) r.2

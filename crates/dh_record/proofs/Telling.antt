-- The tests of equality of faults, origins and items are true exactly where the two are equal.
use Rattle.std.specs.Prelude.{◌≡◌, ℕ, true, ◌==◌, Option, Some, None, refl}
use Rattle.std.specs.Bool.{Decides}
use Rattle.std.proofs.Common.{ap, sym, subst}
use Rattle.std.proofs.lemmas.Bool.Decides.{Decides-eqb}
use Rattle.dh_syntax.specs.declared.faults.NormFault.{NormFault}
use Rattle.dh_syntax.specs.declared.faults.NormFault.TheVariants as norms
use Rattle.dh_syntax.specs.declared.faults.ParseFault.{ParseFault}
use Rattle.dh_syntax.specs.declared.faults.ParseFault.TheVariants as parses
use Rattle.dh_syntax.specs.declared.faults.TypeFault.{TypeFault}
use Rattle.dh_syntax.specs.declared.faults.TypeFault.TheVariants as types
use Rattle.dh_syntax.specs.declared.locations.Key.{Key}
use Rattle.dh_imports.specs.declared.outcomes.Blame.{Blame}
use Rattle.dh_imports.specs.declared.outcomes.Origin.{Origin}
use Rattle.dh_imports.specs.declared.outcomes.Origin.TheVariants as origins
use Rattle.dh_imports.specs.declared.outcomes.Why.{Why}
use Rattle.dh_imports.specs.declared.outcomes.Why.TheVariants as whys
use Rattle.dh_syntax.specs.Expressions.Numbers.{bytes_eq}
use Rattle.dh_syntax.specs.Expressions.SameTree.{option_eq, digest_eq, term_eq}
use Rattle.dh_syntax.specs.Imports.Keys.{key_eq}
use Rattle.dh_imports.specs.LastStep as last
use Rattle.dh_imports.specs.Machine.{IsDue}
use Rattle.dh_imports.specs.Resolver.{Stage, Lacks, Has, Meets, Waits}
use Rattle.dh_syntax.proofs.Numbers.{and-true_left, and-true_right}
use Rattle.dh_syntax.proofs.SameTree.{Tells, bytes_tell, options_tell, digests_tell, locs_tell, terms_tell}
use Rattle.dh_laws.proofs.KeyOrder.{none-some, key_eq-true, key_eq-itself}
use Rattle.dh_record.specs.declared.items.Body.{Body}
use Rattle.dh_record.specs.declared.items.Body.TheVariants as body
use Rattle.dh_record.specs.declared.items.Item.{Item}
use Rattle.dh_record.specs.Inside.Equal.{parse_eq, type_eq, norm_eq, why_eq, fault_eq, origin_eq, item_eq, are_due_on_one}
use Rattle.dh_record.specs.Items.{by_fault, by_body, stage_of_item}

-- ---- faults

keys_tell : Tells key_eq
keys_tell = record { itself = key_eq-itself; equal = key_eq-true }

numbers-true : (m n : ℕ) → (m == n) ≡ true → m ≡ n
numbers-true m n h = (Decides-eqb m n).0 h

numbers-itself : (n : ℕ) → (n == n) ≡ true
numbers-itself n = (Decides-eqb n n).1 refl

parse_eq-itself : (f : ParseFault) → parse_eq f f ≡ true
parse_eq-itself (parses.NotUtf8 n) = numbers-itself n
parse_eq-itself (parses.Syntax n) = numbers-itself n
parse_eq-itself (parses.Wide n) = numbers-itself n
parse_eq-itself (parses.Out n) = numbers-itself n
parse_eq-itself parses.TooLarge = refl
parse_eq-itself parses.TooNested = refl
parse_eq-itself parses.Memory = refl

parse_eq-true : (f g : ParseFault) → parse_eq f g ≡ true → f ≡ g
parse_eq-true (parses.NotUtf8 m) (parses.NotUtf8 n) h = ap parses.NotUtf8 (numbers-true m n h)
parse_eq-true (parses.Syntax m) (parses.Syntax n) h = ap parses.Syntax (numbers-true m n h)
parse_eq-true (parses.Wide m) (parses.Wide n) h = ap parses.Wide (numbers-true m n h)
parse_eq-true (parses.Out m) (parses.Out n) h = ap parses.Out (numbers-true m n h)
parse_eq-true parses.TooLarge parses.TooLarge h = refl
parse_eq-true parses.TooNested parses.TooNested h = refl
parse_eq-true parses.Memory parses.Memory h = refl
parse_eq-true _ _ h = cc

type_eq-itself : (f : TypeFault) → type_eq f f ≡ true
type_eq-itself (types.Ill i) = let p = bytes_tell.itself i.path in let q = numbers-itself i.rule in rw (p, q) refl
type_eq-itself types.Wide = refl
type_eq-itself types.Spent = refl
type_eq-itself types.Deep = refl
type_eq-itself types.Memory = refl

type_eq-true : (f g : TypeFault) → type_eq f g ≡ true → f ≡ g
type_eq-true (types.Ill i) (types.Ill j) h =
    let p = bytes_tell.equal i.path j.path (and-true_left (bytes_eq i.path j.path) (i.rule == j.rule) h) in
    let q = numbers-true i.rule j.rule (and-true_right (bytes_eq i.path j.path) (i.rule == j.rule) h) in
    λ k. types.Ill (record { path = p k; rule = q k })
type_eq-true types.Wide types.Wide h = refl
type_eq-true types.Spent types.Spent h = refl
type_eq-true types.Deep types.Deep h = refl
type_eq-true types.Memory types.Memory h = refl
type_eq-true _ _ h = cc

norm_eq-itself : (f : NormFault) → norm_eq f f ≡ true
norm_eq-itself norms.Wide = refl
norm_eq-itself norms.Spent = refl
norm_eq-itself norms.Deep = refl
norm_eq-itself norms.Memory = refl

norm_eq-true : (f g : NormFault) → norm_eq f g ≡ true → f ≡ g
norm_eq-true norms.Wide norms.Wide h = refl
norm_eq-true norms.Spent norms.Spent h = refl
norm_eq-true norms.Deep norms.Deep h = refl
norm_eq-true norms.Memory norms.Memory h = refl
norm_eq-true _ _ h = cc

why_eq-itself : (w : Why) → why_eq w w ≡ true
why_eq-itself (whys.Parse f) = parse_eq-itself f
why_eq-itself (whys.Typing f) = type_eq-itself f
why_eq-itself (whys.Norm f) = norm_eq-itself f
why_eq-itself (whys.Broken n) = numbers-itself n
why_eq-itself (whys.Differs a b) = let p = digests_tell.itself a in let q = digests_tell.itself b in rw (p, q) refl
why_eq-itself (whys.Insane l) = locs_tell.itself l
why_eq-itself (whys.Cors l) = locs_tell.itself l
why_eq-itself _ = refl

why_eq-true : (v w : Why) → why_eq v w ≡ true → v ≡ w
why_eq-true (whys.Parse f) (whys.Parse g) h = ap whys.Parse (parse_eq-true f g h)
why_eq-true (whys.Typing f) (whys.Typing g) h = ap whys.Typing (type_eq-true f g h)
why_eq-true (whys.Norm f) (whys.Norm g) h = ap whys.Norm (norm_eq-true f g h)
why_eq-true whys.Absent whys.Absent h = refl
why_eq-true whys.Missing whys.Missing h = refl
why_eq-true (whys.Broken m) (whys.Broken n) h = ap whys.Broken (numbers-true m n h)
why_eq-true whys.Https whys.Https h = refl
why_eq-true whys.Failed whys.Failed h = refl
why_eq-true (whys.Differs a b) (whys.Differs c d) h =
    let p = digests_tell.equal a c (and-true_left (digest_eq a c) (digest_eq b d) h) in
    let q = digests_tell.equal b d (and-true_right (digest_eq a c) (digest_eq b d) h) in
    λ k. whys.Differs (p k) (q k)
why_eq-true (whys.Insane l) (whys.Insane m) h = ap whys.Insane (locs_tell.equal l m h)
why_eq-true (whys.Cors l) (whys.Cors m) h = ap whys.Cors (locs_tell.equal l m h)
why_eq-true whys.Cycle whys.Cycle h = refl
why_eq-true whys.TooMany whys.TooMany h = refl
why_eq-true _ _ h = cc

fault_eq-itself : (b : Blame) → fault_eq b.at b.why b.at b.why ≡ true
fault_eq-itself b = let p = why_eq-itself b.why in let q = (options_tell keys_tell).itself b.at in rw (p, q) refl

fault_eq-true : (b c : Blame) → fault_eq b.at b.why c.at c.why ≡ true → b ≡ c
fault_eq-true b c h =
    let p = why_eq-true b.why c.why (and-true_left (why_eq b.why c.why) (option_eq key_eq b.at c.at) h) in
    let q = (options_tell keys_tell).equal b.at c.at (and-true_right (why_eq b.why c.why) (option_eq key_eq b.at c.at) h) in
    λ k. record { at = q k; why = p k }

-- ---- origins and items

origin_eq-itself : (o : Origin) → origin_eq o o ≡ true
origin_eq-itself (origins.Fetched a) = (options_tell bytes_tell).itself a
origin_eq-itself origins.Cached = refl
origin_eq-itself origins.Made = refl

origin_eq-true : (o p : Origin) → origin_eq o p ≡ true → o ≡ p
origin_eq-true (origins.Fetched a) (origins.Fetched b) h = ap origins.Fetched ((options_tell bytes_tell).equal a b h)
origin_eq-true origins.Cached origins.Cached h = refl
origin_eq-true origins.Made origins.Made h = refl
origin_eq-true _ _ h = cc

item_eq-itself : (i : last.Item) → item_eq i i ≡ true
item_eq-itself (last.Code e a) = let p = terms_tell.itself e in let q = (options_tell bytes_tell).itself a in rw (p, q) refl
item_eq-itself (last.Text x a) = let p = bytes_tell.itself x in let q = (options_tell bytes_tell).itself a in rw (p, q) refl
item_eq-itself (last.Location l) = locs_tell.itself l
item_eq-itself (last.Compare e o) = let p = terms_tell.itself e in let q = origin_eq-itself o in rw (p, q) refl
item_eq-itself (last.Entry e) = terms_tell.itself e
item_eq-itself (last.Fault b) = fault_eq-itself b

item_eq-true : (i j : last.Item) → item_eq i j ≡ true → i ≡ j
item_eq-true (last.Code e a) (last.Code f b) h =
    let p = terms_tell.equal e f (and-true_left (term_eq e f) (option_eq bytes_eq a b) h) in
    let q = (options_tell bytes_tell).equal a b (and-true_right (term_eq e f) (option_eq bytes_eq a b) h) in
    λ k. last.Code (p k) (q k)
item_eq-true (last.Text x a) (last.Text y b) h =
    let p = bytes_tell.equal x y (and-true_left (bytes_eq x y) (option_eq bytes_eq a b) h) in
    let q = (options_tell bytes_tell).equal a b (and-true_right (bytes_eq x y) (option_eq bytes_eq a b) h) in
    λ k. last.Text (p k) (q k)
item_eq-true (last.Location l) (last.Location m) h = ap (λ x. last.Location x) (locs_tell.equal l m h)
item_eq-true (last.Compare e o) (last.Compare f p) h =
    let q = terms_tell.equal e f (and-true_left (term_eq e f) (origin_eq o p) h) in
    let r = origin_eq-true o p (and-true_right (term_eq e f) (origin_eq o p) h) in
    λ k. last.Compare (q k) (r k)
item_eq-true (last.Entry e) (last.Entry f) h = ap (λ x. last.Entry x) (terms_tell.equal e f h)
item_eq-true (last.Fault b) (last.Fault c) h = ap (λ x. last.Fault x) (fault_eq-true b c h)
item_eq-true _ _ h = cc

-- ---- stages

due_itself : (s : Stage) → IsDue s → are_due_on_one s s ≡ true
due_itself (Lacks p) d = absurd d
due_itself (Has i) d = item_eq-itself i
due_itself (Meets j) d = key_eq-itself j
due_itself (Waits y) d = absurd d

due_true : (s t : Stage) → are_due_on_one s t ≡ true → s ≡ t
due_true (Has i) (Has j) h = ap (λ x. Has x) (item_eq-true i j h)
due_true (Meets j) (Meets k) h = ap (λ x. Meets x) (key_eq-true j k h)
due_true _ _ h = cc

-- a fault, or the loop that it tells
pub data Faulty (at : Option Key) (why : Why) : Stage → Type 0 where
  fault : ((j : Key) → at ≡ Some j → why ≡ whys.Cycle → ⊥) → Faulty at why (Has (last.Fault (record { at = at; why = why })))
  looped : {j : Key} → at ≡ Some j → why ≡ whys.Cycle → Faulty at why (Meets j)

pub faulty : (at : Option Key) (why : Why) → Faulty at why (by_fault at why)
faulty None w = fault (λ j p q. none-some refl p)
faulty (Some k) (whys.Parse f) = fault (λ j p q. let e : ⊥ = cc in e)
faulty (Some k) (whys.Typing f) = fault (λ j p q. let e : ⊥ = cc in e)
faulty (Some k) (whys.Norm f) = fault (λ j p q. let e : ⊥ = cc in e)
faulty (Some k) whys.Absent = fault (λ j p q. let e : ⊥ = cc in e)
faulty (Some k) whys.Missing = fault (λ j p q. let e : ⊥ = cc in e)
faulty (Some k) (whys.Broken n) = fault (λ j p q. let e : ⊥ = cc in e)
faulty (Some k) whys.Https = fault (λ j p q. let e : ⊥ = cc in e)
faulty (Some k) whys.Failed = fault (λ j p q. let e : ⊥ = cc in e)
faulty (Some k) (whys.Differs a b) = fault (λ j p q. let e : ⊥ = cc in e)
faulty (Some k) (whys.Insane l) = fault (λ j p q. let e : ⊥ = cc in e)
faulty (Some k) (whys.Cors l) = fault (λ j p q. let e : ⊥ = cc in e)
faulty (Some k) whys.Cycle = looped refl refl
faulty (Some k) whys.TooMany = fault (λ j p q. let e : ⊥ = cc in e)

due_item : (i : Item) → IsDue (stage_of_item i)
due_item i = go i.body
  where
    go : (b : Body) → IsDue (by_body i.allow b)
    go (body.Code e) = tt
    go (body.Text bytes) = tt
    go (body.Location l) = tt
    go (body.Compare e o) = tt
    go (body.Entry e) = tt
    go (body.Fault b) = due (by_fault b.at b.why) (faulty b.at b.why)
      where
        due : (s : Stage) → Faulty b.at b.why s → IsDue s
        due _ (fault n) = tt
        due _ (looped p q) = tt

-- the test of a stage with that of an item
pub due_tells : (s : Stage) (i : Item) → Decides (are_due_on_one s (stage_of_item i)) (s ≡ stage_of_item i)
due_tells s i = (due_true s (stage_of_item i), λ p. subst (λ x. are_due_on_one x (stage_of_item i) ≡ true) (sym p) (due_itself (stage_of_item i) (due_item i)))

-- The parts of a node that has its parts.
use Rattle.std.specs.Prelude.{◌≡◌, ◌&&◌, ℕ, ℤ, zero, suc, Bool, true, false, List, [], ◌∷◌, length, Option, Some, None, IsSome, IsTrue, option_map, refl}
use Rattle.std.proofs.Common.{ap, arith, get_or}
use Rattle.dh_syntax.specs.declared.expressions.Op.{Op}
use Rattle.dh_syntax.specs.declared.expressions.Op.TheVariants as ops
use Rattle.dh_syntax.specs.declared.operators.BinOp.{BinOp}
use Rattle.dh_syntax.specs.declared.operators.Builtin.{Builtin}
use Rattle.dh_syntax.specs.Expressions.Arity.{plain, binding, some_plain, between, fits}
use Rattle.dh_syntax.specs.Expressions.Tree.{Row, end, kid, Name}
use Rattle.dh_syntax.specs.Expressions.Views.{bodies}
use Rattle.dh_syntax.specs.Names.Nameless.{Ref, Core}
use Rattle.dh_store.specs.declared.codes.CodeKid.{CodeKid}
use Rattle.dh_store.specs.Cells.{nothing, code_row}
use Rattle.dh_infer.specs.Inside.Forms.{has_own_rule, IsBinding, IsTwiceBinding, IsPair}

-- ---- where no part stands under a binder

some-map : {X Y : Type 0} (f : X → Y) (o : Option X) → IsSome o → IsSome (option_map f o)
some-map f (Some x) h = h
some-map f None h = h

plain-bodies : (n : ℕ) (r : Row Ref Name) → IsTrue (plain n r) → IsSome (bodies r)
plain-bodies zero end h = refl
plain-bodies (suc n) (kid None e r) h = some-map (λ es. e ∷ es) (bodies r) (plain-bodies n r h)
plain-bodies zero (kid None e r) h = absurd cc
plain-bodies zero (kid (Some x) e r) h = absurd cc
plain-bodies (suc n) end h = absurd cc
plain-bodies (suc n) (kid (Some x) e r) h = absurd cc

some_plain-bodies : (r : Row Ref Name) → IsTrue (some_plain r) → IsSome (bodies r)
some_plain-bodies (kid None e end) h = refl
some_plain-bodies (kid None e (kid b f r)) h = some-map (λ es. e ∷ es) (bodies (kid b f r)) (some_plain-bodies (kid b f r) h)
some_plain-bodies end h = absurd cc
some_plain-bodies (kid (Some x) e r) h = absurd cc

between-bodies : (ps : List (List ℕ)) (r : Row Ref Name) → IsTrue (between ps r) → IsSome (bodies r)
between-bodies [] r h = absurd cc
between-bodies (p ∷ ps) r h = plain-bodies (length ps) r h

and-right : (a b : Bool) → IsTrue (a && b) → IsTrue b
and-right true b h = h
and-right false b h = absurd cc

pub group-bodies : (op : Op) (r : Row Ref Name) → has_own_rule op ≡ false → IsTrue (fits op r) → IsSome (bodies r)
group-bodies (ops.Builtin b) r n h = absurd cc
group-bodies (ops.Bool b) r n h = absurd cc
group-bodies (ops.Nat b) r n h = absurd cc
group-bodies (ops.Int b) r n h = absurd cc
group-bodies (ops.Text ps) r n h = between-bodies ps r h
group-bodies (ops.Import i) r n h = plain-bodies 0 r (and-right _ _ h)
group-bodies ops.Lam r n h = absurd cc
group-bodies ops.Pi r n h = absurd cc
group-bodies (ops.Let b) r n h = absurd cc
group-bodies ops.App r n h = absurd cc
group-bodies ops.If r n h = plain-bodies 3 r h
group-bodies (ops.Bin o) r n h = plain-bodies 2 r h
group-bodies ops.EmptyList r n h = plain-bodies 1 r h
group-bodies ops.List r n h = some_plain-bodies r h
group-bodies ops.Some r n h = plain-bodies 1 r h
group-bodies (ops.Merge false) r n h = plain-bodies 2 r h
group-bodies (ops.Merge true) r n h = plain-bodies 3 r h
group-bodies (ops.RecordType xs) r n h = plain-bodies (length xs) r (and-right _ _ h)
group-bodies (ops.Record xs) r n h = plain-bodies (length xs) r (and-right _ _ h)
group-bodies (ops.Field x) r n h = plain-bodies 1 r h
group-bodies (ops.Project xs) r n h = plain-bodies 1 r (and-right _ _ h)
group-bodies ops.ProjectType r n h = plain-bodies 2 r h
group-bodies (ops.Union alts) r n h = plain-bodies _ r (and-right _ _ h)
group-bodies ops.Assert r n h = plain-bodies 1 r h
group-bodies ops.Annot r n h = plain-bodies 2 r h
group-bodies (ops.ToMap false) r n h = plain-bodies 1 r h
group-bodies (ops.ToMap true) r n h = plain-bodies 2 r h
group-bodies (ops.With path) r n h = plain-bodies 2 r (and-right _ _ h)

-- an operator that is none of these has no rule of its own
pub no-own : (op : Op) → ((b : Builtin) → op ≡ ops.Builtin b → ⊥) → ((b : Bool) → op ≡ ops.Bool b → ⊥) → ((n : ℕ) → op ≡ ops.Nat n → ⊥) → ((z : ℤ) → op ≡ ops.Int z → ⊥)
    → (op ≡ ops.Lam → ⊥) → (op ≡ ops.Pi → ⊥) → ((b : Bool) → op ≡ ops.Let b → ⊥) → (op ≡ ops.App → ⊥) → ((o : BinOp) → op ≡ ops.Bin o → ⊥) → has_own_rule op ≡ false
no-own (ops.Builtin b) n1 n2 n3 n4 n5 n6 n7 n8 n9 = absurd (n1 b refl)
no-own (ops.Bool b) n1 n2 n3 n4 n5 n6 n7 n8 n9 = absurd (n2 b refl)
no-own (ops.Nat n) n1 n2 n3 n4 n5 n6 n7 n8 n9 = absurd (n3 n refl)
no-own (ops.Int z) n1 n2 n3 n4 n5 n6 n7 n8 n9 = absurd (n4 z refl)
no-own ops.Lam n1 n2 n3 n4 n5 n6 n7 n8 n9 = absurd (n5 refl)
no-own ops.Pi n1 n2 n3 n4 n5 n6 n7 n8 n9 = absurd (n6 refl)
no-own (ops.Let b) n1 n2 n3 n4 n5 n6 n7 n8 n9 = absurd (n7 b refl)
no-own ops.App n1 n2 n3 n4 n5 n6 n7 n8 n9 = absurd (n8 refl)
no-own (ops.Bin o) n1 n2 n3 n4 n5 n6 n7 n8 n9 = absurd (n9 o refl)
no-own (ops.Text ps) n1 n2 n3 n4 n5 n6 n7 n8 n9 = refl
no-own (ops.Import i) n1 n2 n3 n4 n5 n6 n7 n8 n9 = refl
no-own ops.If n1 n2 n3 n4 n5 n6 n7 n8 n9 = refl
no-own ops.EmptyList n1 n2 n3 n4 n5 n6 n7 n8 n9 = refl
no-own ops.List n1 n2 n3 n4 n5 n6 n7 n8 n9 = refl
no-own ops.Some n1 n2 n3 n4 n5 n6 n7 n8 n9 = refl
no-own (ops.Merge b) n1 n2 n3 n4 n5 n6 n7 n8 n9 = refl
no-own (ops.RecordType xs) n1 n2 n3 n4 n5 n6 n7 n8 n9 = refl
no-own (ops.Record xs) n1 n2 n3 n4 n5 n6 n7 n8 n9 = refl
no-own (ops.Field x) n1 n2 n3 n4 n5 n6 n7 n8 n9 = refl
no-own (ops.Project xs) n1 n2 n3 n4 n5 n6 n7 n8 n9 = refl
no-own ops.ProjectType n1 n2 n3 n4 n5 n6 n7 n8 n9 = refl
no-own (ops.Union alts) n1 n2 n3 n4 n5 n6 n7 n8 n9 = refl
no-own ops.Assert n1 n2 n3 n4 n5 n6 n7 n8 n9 = refl
no-own ops.Annot n1 n2 n3 n4 n5 n6 n7 n8 n9 = refl
no-own (ops.ToMap b) n1 n2 n3 n4 n5 n6 n7 n8 n9 = refl
no-own (ops.With path) n1 n2 n3 n4 n5 n6 n7 n8 n9 = refl

-- ---- how many parts there are

abbrev row : List CodeKid → Row Ref Name
row ks = code_row (λ c. nothing) ks

binding-rest : (n : ℕ) (b : Option Name) (ks : List CodeKid) → ((m : ℕ) → IsTrue (binding m (row ks)) → length ks ≡ suc m) → IsTrue (binding n (kid b nothing (row ks))) → length ks ≡ n
binding-rest zero (Some x) [] ih h = refl
binding-rest zero (Some x) (k ∷ ks) ih h = absurd cc
binding-rest zero None ks ih h = absurd cc
binding-rest (suc n) None ks ih h = ih n h
binding-rest (suc n) (Some x) ks ih h = absurd cc

pub binding-length : (n : ℕ) (ks : List CodeKid) → IsTrue (binding n (row ks)) → length ks ≡ suc n
binding-length zero [] h = absurd cc
binding-length (suc n) [] h = absurd cc
binding-length n (k ∷ ks) h = ap suc (binding-rest n k.binder ks (λ m p. binding-length m ks p) h)

plain-rest : (n : ℕ) (b : Option Name) (ks : List CodeKid) → ((m : ℕ) → IsTrue (plain m (row ks)) → length ks ≡ m) → IsTrue (plain n (kid b nothing (row ks))) → suc (length ks) ≡ n
plain-rest zero None ks ih h = absurd cc
plain-rest zero (Some x) ks ih h = absurd cc
plain-rest (suc n) None ks ih h = ap suc (ih n h)
plain-rest (suc n) (Some x) ks ih h = absurd cc

pub plain-length : (n : ℕ) (ks : List CodeKid) → IsTrue (plain n (row ks)) → length ks ≡ n
plain-length zero [] h = refl
plain-length (suc n) [] h = absurd cc
plain-length n (k ∷ ks) h = plain-rest n k.binder ks (λ m p. plain-length m ks p) h

-- ---- which they are

pair-of : (g : ℕ → Core) (b c : Option Name) (m n : ℕ) → IsTrue (plain 2 (kid b (g m) (kid c (g n) end))) → kid b (g m) (kid c (g n) end) ≡ kid None (g m) (kid None (g n) end)
pair-of g None None m n h = refl
pair-of g None (Some y) m n h = absurd cc
pair-of g (Some x) c m n h = absurd cc

binding-of : (g : ℕ → Core) (b c : Option Name) (x : Name) (m n : ℕ) → c ≡ Some x → IsTrue (binding 1 (kid b (g m) (kid c (g n) end))) → IsBinding g (kid b (g m) (kid c (g n) end)) x m n
binding-of g None (Some y) x m n e h = cc
binding-of g None None x m n e h = absurd cc
binding-of g (Some z) c x m n e h = absurd cc

bound-here : (g : ℕ → Core) (b c : Option Name) (m n : ℕ) → IsTrue (binding 1 (kid b (g m) (kid c (g n) end))) → c ≡ None → ⊥
bound-here g None None m n h e = absurd cc
bound-here g None (Some y) m n h e = absurd cc
bound-here g (Some x) c m n h e = absurd cc

twice-of : (g : ℕ → Core) (b c d : Option Name) (l m n : ℕ) → IsTrue (binding 2 (kid b (g l) (kid c (g m) (kid d (g n) end)))) → IsTwiceBinding g (kid b (g l) (kid c (g m) (kid d (g n) end))) l m n
twice-of g None None (Some y) l m n h = (y, refl)
twice-of g None None None l m n h = absurd cc
twice-of g None (Some x) d l m n h = absurd cc
twice-of g (Some x) c d l m n h = absurd cc

pub pair-parts : (ks : List CodeKid) → length ks ≡ 2 → (g : ℕ → Core) → IsTrue (plain 2 (code_row g ks)) → (c d : CodeKid) → IsPair g (code_row g ks) (get_or ks 0 c).code (get_or ks 1 d).code
pair-parts (k ∷ l ∷ []) e g h c d = pair-of g k.binder l.binder k.code l.code h
pair-parts [] e g h c d = absurd cc
pair-parts (k ∷ []) e g h c d = absurd (omega (arith, e))
pair-parts (k ∷ l ∷ m ∷ ks) e g h c d = absurd (omega (arith, e))

pub binding-parts : (ks : List CodeKid) → length ks ≡ 2 → (g : ℕ → Core) → IsTrue (binding 1 (code_row g ks)) → (c d b : CodeKid) (x : Name) → (get_or ks 1 b).binder ≡ Some x
    → IsBinding g (code_row g ks) x (get_or ks 0 c).code (get_or ks 1 d).code
binding-parts (k ∷ l ∷ []) e g h c d b x q = binding-of g k.binder l.binder x k.code l.code q h
binding-parts [] e g h c d b x q = absurd cc
binding-parts (k ∷ []) e g h c d b x q = absurd (omega (arith, e))
binding-parts (k ∷ l ∷ m ∷ ks) e g h c d b x q = absurd (omega (arith, e))

pub binding-there : (ks : List CodeKid) → length ks ≡ 2 → (g : ℕ → Core) → IsTrue (binding 1 (code_row g ks)) → (d : CodeKid) → (get_or ks 1 d).binder ≡ None → ⊥
binding-there (k ∷ l ∷ []) e g h d q = bound-here g k.binder l.binder k.code l.code h q
binding-there [] e g h d q = absurd cc
binding-there (k ∷ []) e g h d q = omega (arith, e)
binding-there (k ∷ l ∷ m ∷ ks) e g h d q = omega (arith, e)

pub twice-parts : (ks : List CodeKid) → length ks ≡ 3 → (g : ℕ → Core) → IsTrue (binding 2 (code_row g ks)) → (c d b : CodeKid)
    → IsTwiceBinding g (code_row g ks) (get_or ks 0 c).code (get_or ks 1 d).code (get_or ks 2 b).code
twice-parts (k ∷ l ∷ m ∷ []) e g h c d b = twice-of g k.binder l.binder m.binder k.code l.code m.code h
twice-parts [] e g h c d b = absurd cc
twice-parts (k ∷ []) e g h c d b = absurd (omega (arith, e))
twice-parts (k ∷ l ∷ []) e g h c d b = absurd (omega (arith, e))
twice-parts (k ∷ l ∷ m ∷ o ∷ ks) e g h c d b = absurd (omega (arith, e))

-- Substitution: a `let` is typed as its body in which a value stands for the variable, by what each use of the value answers.
use Rattle.std.specs.Prelude.{◌≡◌, ℕ, zero, suc, Bool, true, false, map, [], ◌∷◌, Option, Some, None, option_map, refl}
use Rattle.std.proofs.Common.{ap, sym, ◌∙◌, subst as along}
use Rattle.std.proofs.Math.Path.{fun_ext}
use Rattle.dh_syntax.specs.declared.expressions.Op.{Op}
use Rattle.dh_syntax.specs.declared.expressions.Op.TheVariants as ops
use Rattle.dh_syntax.specs.declared.operators.Builtin.{Builtin}
use Rattle.dh_syntax.specs.declared.operators.Builtin.TheVariants as builtins
use Rattle.dh_syntax.specs.Typing.Inference.{Inference, Deeper}
use Rattle.dh_syntax.specs.Names.Moves.{moved, moved_row}
use Rattle.dh_syntax.specs.Names.Nameless.{Ref, Bound, Free, lifted, renaming, ren, raised, sub, sub_row, first}
use Rattle.dh_syntax.specs.Normalising.NamelessRuns.{nameless_eq}
use Rattle.dh_syntax.specs.Typing.NamelessTyping.{down, type_in, nameless_scopes}
use Rattle.dh_syntax.specs.Typing.Scopes.{Scopes, Context, enter}
use Rattle.dh_syntax.specs.Expressions.Tree.{Tree, Row, Leaf, Node, end, kid, Name}
use Rattle.dh_syntax.specs.Typing.TypeRules as rule
use Rattle.dh_syntax.specs.Typing.TypeViews.{is_constant}
use Rattle.dh_syntax.specs.Typing.Typing.{typing}
use Rattle.dh_laws.proofs.Normalising.RunsAlike.{plus}
use Rattle.dh_typing_laws.specs.KeptTypes.{Cell, Plain, Value, Coded, embedding, embed, meaning, meaning_row, Sortless, Sortless_row, valued, value, cell_ren, cells_raised, cell_sub, cell_sub_row, held, StandsFor, coded_context, plain_context, looking, cell_scopes, kept_typing}
use Rattle.dh_typing_laws.proofs.Ruling.TypedRules.{ScopesMove}
use Rattle.dh_typing_laws.proofs.Ruling.TypedViews.{is_constant-moved}
use Rattle.dh_typing_laws.proofs.Ruling.Typings.{RowOver, row_of, Expressions, Courses, given_type-alike, typing-alike}

module _ {B : Type 0} where
  -- ---- what they stand for

  same_kid : (b : Option B) (e e' : Tree Ref B) (r r' : Row Ref B) → e ≡ e' → r ≡ r' → kid b e r ≡ kid b e' r'
  same_kid b e e' r r' p q = cc

  mutual
    pub meaning-embed : (e : Tree Ref B) → meaning (embed e) ≡ e
    meaning-embed (Leaf r) = refl
    meaning-embed (Node op r) = ap (Node op) (meaning_row-embed r)

    meaning_row-embed : (r : Row Ref B) → meaning_row (moved_row embedding tt r) ≡ r
    meaning_row-embed end = refl
    meaning_row-embed (kid None e r) = same_kid None _ _ _ _ (meaning-embed e) (meaning_row-embed r)
    meaning_row-embed (kid (Some y) e r) = same_kid (Some y) _ _ _ _ (meaning-embed e) (meaning_row-embed r)

  meaning-valued : (b : Bool) (v : Tree Ref B) → meaning (valued b v) ≡ v
  meaning-valued true v = meaning-embed v
  meaning-valued false v = refl

  mutual
    meaning-ren : (f : ℕ → ℕ) (d : Coded B) → meaning (moved cell_ren f d) ≡ ren f (meaning d)
    meaning-ren f (Leaf (Plain r)) = refl
    meaning-ren f (Leaf (Value v)) = refl
    meaning-ren f (Node op r) = ap (Node op) (meaning_row-ren f r)

    meaning_row-ren : (f : ℕ → ℕ) (r : Row (Cell B) B) → meaning_row (moved_row cell_ren f r) ≡ moved_row renaming f (meaning_row r)
    meaning_row-ren f end = refl
    meaning_row-ren f (kid None e r) = same_kid None _ _ _ _ (meaning-ren f e) (meaning_row-ren f r)
    meaning_row-ren f (kid (Some y) e r) = same_kid (Some y) _ _ _ _ (meaning-ren (lifted f) e) (meaning_row-ren f r)

  meaning-raised : (s : ℕ → Coded B) (i : ℕ) → meaning (cells_raised s i) ≡ raised (λ j. meaning (s j)) i
  meaning-raised s zero = refl
  meaning-raised s (suc i) = meaning-ren (λ k. suc k) (s i)

  mutual
    meaning-sub : (s : ℕ → Coded B) (d : Coded B) → meaning (cell_sub s d) ≡ sub (λ i. meaning (s i)) (meaning d)
    meaning-sub s (Leaf (Plain (Bound i))) = refl
    meaning-sub s (Leaf (Plain (Free x n))) = refl
    meaning-sub s (Leaf (Value v)) = meaning-valued (is_constant builtins.Sort (sub (λ i. meaning (s i)) v)) (sub (λ i. meaning (s i)) v)
    meaning-sub s (Node op r) = ap (Node op) (meaning_row-sub s r)

    meaning_row-sub : (s : ℕ → Coded B) (r : Row (Cell B) B) → meaning_row (cell_sub_row s r) ≡ sub_row (λ i. meaning (s i)) (meaning_row r)
    meaning_row-sub s end = refl
    meaning_row-sub s (kid None e r) = same_kid None _ _ _ _ (meaning-sub s e) (meaning_row-sub s r)
    meaning_row-sub s (kid (Some y) e r) =
        same_kid (Some y) _ _ _ _ (meaning-sub (cells_raised s) e ∙ ap (λ t. sub t (meaning e)) (fun_ext (meaning-raised s))) (meaning_row-sub s r)

  meaning-held : (v : Tree Ref B) (i : ℕ) → meaning (held v i) ≡ first v i
  meaning-held v zero = meaning-valued (is_constant builtins.Sort v) v
  meaning-held v (suc i) = refl

  pub meaning-put : (v : Tree Ref B) (d : Coded B) → meaning (cell_sub (held v) d) ≡ sub (first v) (meaning d)
  meaning-put v d = meaning-sub (held v) d ∙ ap (λ t. sub t (meaning d)) (fun_ext (meaning-held v))

  -- ---- no value is `Sort`

  mutual
    pub sortless-embed : (e : Tree Ref B) → Sortless (embed e)
    sortless-embed (Leaf r) = tt
    sortless-embed (Node op r) = sortless_row-embed r

    sortless_row-embed : (r : Row Ref B) → Sortless_row (moved_row embedding tt r)
    sortless_row-embed end = tt
    sortless_row-embed (kid None e r) = (sortless-embed e, sortless_row-embed r)
    sortless_row-embed (kid (Some y) e r) = (sortless-embed e, sortless_row-embed r)

  sortless-valued : (b : Bool) (v : Tree Ref B) → is_constant builtins.Sort v ≡ b → Sortless (valued b v)
  sortless-valued true v p = sortless-embed v
  sortless-valued false v p = p

  pub sortless-value : (v : Tree Ref B) → Sortless (value v)
  sortless-value v = sortless-valued (is_constant builtins.Sort v) v refl

  mutual
    sortless-ren : (f : ℕ → ℕ) (d : Coded B) → Sortless d → Sortless (moved cell_ren f d)
    sortless-ren f (Leaf (Plain r)) h = tt
    sortless-ren f (Leaf (Value v)) h = is_constant-moved renaming f builtins.Sort v ∙ h
    sortless-ren f (Node op r) h = sortless_row-ren f r h

    sortless_row-ren : (f : ℕ → ℕ) (r : Row (Cell B) B) → Sortless_row r → Sortless_row (moved_row cell_ren f r)
    sortless_row-ren f end h = tt
    sortless_row-ren f (kid None e r) h = (sortless-ren f e h.0, sortless_row-ren f r h.1)
    sortless_row-ren f (kid (Some y) e r) h = (sortless-ren (lifted f) e h.0, sortless_row-ren f r h.1)

  sortless-raised : (s : ℕ → Coded B) → ((i : ℕ) → Sortless (s i)) → (i : ℕ) → Sortless (cells_raised s i)
  sortless-raised s k zero = tt
  sortless-raised s k (suc i) = sortless-ren (λ j. suc j) (s i) (k i)

  mutual
    sortless-sub : (s : ℕ → Coded B) → ((i : ℕ) → Sortless (s i)) → (d : Coded B) → Sortless d → Sortless (cell_sub s d)
    sortless-sub s k (Leaf (Plain (Bound i))) h = k i
    sortless-sub s k (Leaf (Plain (Free x n))) h = tt
    sortless-sub s k (Leaf (Value v)) h = sortless-value (sub (λ i. meaning (s i)) v)
    sortless-sub s k (Node op r) h = sortless_row-sub s k r h

    sortless_row-sub : (s : ℕ → Coded B) → ((i : ℕ) → Sortless (s i)) → (r : Row (Cell B) B) → Sortless_row r → Sortless_row (cell_sub_row s r)
    sortless_row-sub s k end h = tt
    sortless_row-sub s k (kid None e r) h = (sortless-sub s k e h.0, sortless_row-sub s k r h.1)
    sortless_row-sub s k (kid (Some y) e r) h = (sortless-sub (cells_raised s) (sortless-raised s k) e h.0, sortless_row-sub s k r h.1)

  sortless-held : (v : Tree Ref B) (i : ℕ) → Sortless (held v i)
  sortless-held v zero = sortless-value v
  sortless-held v (suc i) = tt

  pub sortless-put : (v : Tree Ref B) (d : Coded B) → Sortless d → Sortless (cell_sub (held v) d)
  sortless-put v d h = sortless-sub (held v) (sortless-held v) d h

  -- ---- the relation of expressions

  abbrev over : (q : Row (Cell B) B) → Sortless_row q → RowOver embedding StandsFor tt (meaning_row q)
  over end h = tt
  over (kid None e q) h = ((e, (refl, h.0)), over q h.1)
  over (kid (Some y) e q) h = ((e, (refl, h.0)), over q h.1)

  row-over : (q : Row (Cell B) B) (h : Sortless_row q) → q ≡ row_of embedding StandsFor tt (meaning_row q) (over q h)
  row-over end h = refl
  row-over (kid None e q) h = ap (kid None e) (row-over q h.1)
  row-over (kid (Some y) e q) h = ap (kid (Some y) e) (row-over q h.1)

  row-means : (r : Row Ref B) (p : RowOver embedding StandsFor tt r) → meaning_row (row_of embedding StandsFor tt r p) ≡ r
  row-means end p = refl
  row-means (kid None e r) p = same_kid None _ _ _ _ p.0.1.0 (row-means r p.1)
  row-means (kid (Some y) e r) p = same_kid (Some y) _ _ _ _ p.0.1.0 (row-means r p.1)

  row-sortless : (r : Row Ref B) (p : RowOver embedding StandsFor tt r) → Sortless_row (row_of embedding StandsFor tt r p)
  row-sortless end p = tt
  row-sortless (kid None e r) p = (p.0.1.1, row-sortless r p.1)
  row-sortless (kid (Some y) e r) p = (p.0.1.1, row-sortless r p.1)

  sort-seen : (d : Coded B) (e : Tree Ref B) → StandsFor tt d e → is_constant builtins.Sort d ≡ is_constant builtins.Sort e
  sort-seen (Leaf (Plain r)) e h = ap (is_constant builtins.Sort) h.0
  sort-seen (Leaf (Value v)) e h = sym h.1 ∙ ap (is_constant builtins.Sort) h.0
  sort-seen (Node (ops.Builtin c) r) e h = ap (is_constant builtins.Sort) h.0
  sort-seen (Node op r) e h = ap (is_constant builtins.Sort) h.0

  module _ (types : Builtin → Option (Tree Ref B)) (binder : Name → B) where
    abbrev scopes : Scopes Ref B
    scopes = nameless_scopes types binder

    pub scopes-embedded : ScopesMove embedding scopes (cell_scopes types binder)
    scopes-embedded = record {
      type_of = λ s b. refl;
      binder = λ x. refl;
      up = λ s x e. ap (λ t. embed (ren (λ k. suc k) t)) (meaning-embed e);
      down = λ s x e. ap (λ t. option_map embed (down t)) (meaning-embed e);
      same = λ s d e. ap (λ t. nameless_eq t (meaning (embed e))) (meaning-embed d) ∙ ap (nameless_eq d) (meaning-embed e);
    }

    coded-node : (s : Unit {0}) (op : Op) (q : Row (Cell B) B) (e : Tree Ref B) → StandsFor s (Node op q) e
        → (r : Row Ref B) × (p : RowOver embedding StandsFor s r) × (e ≡ Node op r) × (q ≡ row_of embedding StandsFor s r p)
    coded-node s op q e h = (meaning_row q, over q h.1, sym h.0, row-over q h.1)

    pub coded-expressions : Expressions embedding StandsFor scopes (cell_scopes types binder)
    coded-expressions = record {
      known = λ s e. (meaning-embed e, sortless-embed e);
      node = coded-node;
      made = λ s op r p. (ap (Node op) (row-means r p), row-sortless r p);
      put = λ s x a' a d e p q.
          (meaning-put (meaning a') d ∙ ap (λ v. sub (first v) (meaning d)) p.0 ∙ ap (sub (first a)) q.0, sortless-put (meaning a') d q.1);
      sort = λ s d e p. sort-seen d e p;
    }

    -- ---- contexts of opened binders, which have types

    plain-coded : (c : Context Ref B) → plain_context (coded_context c) ≡ c
    plain-coded [] = refl
    plain-coded ((y, t) ∷ c) = let p = meaning-embed t in let q = plain-coded c in λ i. (y, p i) ∷ q i

    abbrev pub IsCoded : Unit {0} → Context (Cell B) B → Context Ref B → Type 0
    IsCoded s c' c = c' ≡ coded_context c

    ups-coded : (x : B) (c : Context Ref B)
        → map (λ (y, u). (y, embed (ren (λ k. suc k) (meaning u)))) (coded_context c) ≡ coded_context (map (λ (y, u). (y, ren (λ k. suc k) u)) c)
    ups-coded x [] = refl
    ups-coded x ((y, t) ∷ c) =
        let p = ap (λ u. embed (ren (λ k. suc k) u)) (meaning-embed t) in let q = ups-coded x c in λ i. (y, p i) ∷ q i

    entering-coded : (s : Unit {0}) (x : B) (t : Tree Ref B) (c' : Context (Cell B) B) (c : Context Ref B) → IsCoded s c' c
        → IsCoded tt (enter (cell_scopes types binder) x (embed t) c') (enter scopes x t c)
    entering-coded s x t c' c g = ap (λ z. enter (cell_scopes types binder) x (embed t) z) g ∙ ups-coded x ((x, t) ∷ c)

    module _ (Q : Unit {0} → Inference (Coded B) → Inference (Tree Ref B) → Type 0) (q : Courses embedding StandsFor Q) (more : ℕ)
        (answers : ℕ → Context Ref B → Tree Ref B → Inference (Coded B))
        (shallow : (c : Context Ref B) (e : Tree Ref B) → Q tt Deeper (typing scopes more c e))
        (used : (depth : ℕ) (c : Context Ref B) (v : Tree Ref B) → Q tt (answers depth c v) (typing scopes (suc (plus depth more)) c v)) where
      leaf-coded : (depth : ℕ) (s : Unit {0}) (c' : Context (Cell B) B) (c : Context Ref B) (a : Cell B) (e : Tree Ref B) → IsCoded s c' c → StandsFor s (Leaf a) e
          → Q s (looking answers depth c' a) (typing scopes (suc (plus depth more)) c e)
      leaf-coded depth s c' c (Plain r) e g p =
          along (λ z. Q s (looking answers depth c' (Plain r)) (typing scopes (suc (plus depth more)) c z)) p.0
          (given_type-alike embedding StandsFor IsCoded Q scopes (cell_scopes types binder) scopes-embedded coded-expressions q entering-coded s _ _ rule.UnboundVariable
          (ap (λ z. option_map embed (type_in z r)) (ap plain_context g ∙ plain-coded c)))
      leaf-coded depth s c' c (Value v) e g p =
          along (λ z. Q s (answers depth (plain_context c') v) (typing scopes (suc (plus depth more)) c z)) p.0
          (along (λ z. Q s (answers depth z v) (typing scopes (suc (plus depth more)) c v)) (sym (ap plain_context g ∙ plain-coded c)) (used depth c v))

      -- SUBSTITUTION, for every relation of inferences and whatever each use of a value answers
      pub substitution : (depth : ℕ) (c : Context Ref B) (d : Coded B) → Sortless d → Q tt (kept_typing types binder answers depth c d) (typing scopes (plus depth more) c (meaning d))
      substitution depth c d h =
          typing-alike embedding StandsFor IsCoded Q scopes (cell_scopes types binder) scopes-embedded coded-expressions q entering-coded more (looking answers)
          (λ s c' k a e g p. shallow k e) leaf-coded depth tt (coded_context c) c d (meaning d) refl (refl, h)

      -- the body of a `let`, with its value in the context
      pub let_substitution : (depth : ℕ) (c : Context Ref B) (v b : Tree Ref B)
          → Q tt (kept_typing types binder answers depth c (cell_sub (held v) (embed b))) (typing scopes (plus depth more) c (sub (first v) b))
      let_substitution depth c v b =
          along (λ z. Q tt (kept_typing types binder answers depth c (cell_sub (held v) (embed b))) (typing scopes (plus depth more) c z))
          (meaning-put v (embed b) ∙ ap (sub (first v)) (meaning-embed b))
          (substitution depth c (cell_sub (held v) (embed b)) (sortless-put v (embed b) (sortless-embed b)))

-- The depths of the tokens of a tree.
use Rattle.std.proofs.Common.{◌≡◌, ℕ, suc, ◌+◌, Bool, true, false, ◌||◌, nat_lt, List, [], ◌∷◌, ◌++◌, Option, Some, None, ap, ◌∙◌, arith}
use Rattle.std.specs.Prelude.{max}
use Rattle.std.proofs.lemmas.Bool.Decides.{nat_tests}
use Rattle.std.specs.List.{list_any}
use Rattle.dh_syntax.specs.declared.locations.Digest.{Digest}
use Rattle.dh_syntax.specs.declared.locations.Mode.{Mode}
use Rattle.dh_syntax.specs.declared.locations.Mode.TheVariants as modes
use Rattle.dh_syntax.specs.declared.tokens.Mark.{Mark}
use Rattle.dh_syntax.specs.declared.tokens.TokenKind.{TokenKind}
use Rattle.dh_syntax.specs.declared.tokens.TokenKind.TheVariants as kinds
use Rattle.dh_syntax.specs.Text.Derivation.{Keys, one_key, more_keys, Derivation, lambda, pi, arrow, choice, lets, updates, merge_as, to_map_as, empty_list, assertion, annotation, operation, application, merging, some_of, to_map, import, field, project_none, project, project_by, natural, integer, truth, builtin, variable, text, brackets, list, union_none, union, record_type_none, record_type, record_none, record_of, Note, untyped, typed, Lets, one_let, more_lets, Updates, one_update, more_updates, Chunks, start, more_chunks, Items, one_item, more_items, Alternatives, one_alternative, more_alternatives, Fields, one_field, more_fields, Entry, alone, given, Entries, one_entry, more_entries}
use Rattle.dh_syntax.specs.Text.Spelling.{opens_too_many}
use Rattle.dh_syntax.specs.Text.Yield.{Written, token, separator, keys_yield, index_yield, piece_yield, digest_yield, mode_yield, yield, note_yield, lets_yield, updates_yield, chunks_yield, items_yield, alternatives_yield, fields_yield, entry_yield, entries_yield, text_yield, free}
use Rattle.dh_layout.proofs.Opening.Opens.{deepest, opens, note_opens, lets_opens, updates_opens, chunks_opens, items_opens, alternatives_opens, fields_opens, entry_opens, entries_opens}

-- the deepest of these tokens stands k deeper than n
record Deepest (n : ℕ) (ws : List Written) (k : ℕ) : Type 0 where
  is : deepest ws ≡ n + k

-- the same behind a token that stands at n
record Deep (n : ℕ) (ws : List Written) (k : ℕ) : Type 0 where
  is : max n (deepest ws) ≡ n + k

none : {n : ℕ} → Deep n [] 0
none {n} = record { is = omega arith }

one : {n k : ℕ} {g : Bool} {t : TokenKind} {ws : List Written} → Deep n ws k → Deep n (token n g t ∷ ws) k
one {n} {k} {g} {t} {ws} h = let e = h.is in record { is = omega (arith, e) }

first_one : {n k : ℕ} {g : Bool} {t : TokenKind} {ws : List Written} → Deep n ws k → Deepest n (token n g t ∷ ws) k
first_one {n} {k} {g} {t} {ws} h = record { is = h.is }

deepest-append : (a b : List Written) → deepest (a ++ b) ≡ max (deepest a) (deepest b)
deepest-append [] b = omega arith
deepest-append (w ∷ a) b = let e = deepest-append a b in omega (arith, e)

both : {n j k : ℕ} {a b : List Written} → Deep n a j → Deep n b k → Deep n (a ++ b) (max j k)
both {n} {j} {k} {a} {b} p q = let e = deepest-append a b in let f = p.is in let h = q.is in record { is = omega (arith, e, f, h) }

-- the second with nothing deeper, or the first
before : {n k : ℕ} {a b : List Written} → Deep n a 0 → Deep n b k → Deep n (a ++ b) k
before {n} {k} {a} {b} p q = let e = deepest-append a b in let f = p.is in let h = q.is in record { is = omega (arith, e, f, h) }

behind : {n k : ℕ} {a b : List Written} → Deep n a k → Deep n b 0 → Deep n (a ++ b) k
behind {n} {k} {a} {b} p q = let e = deepest-append a b in let f = p.is in let h = q.is in record { is = omega (arith, e, f, h) }

first_both : {n j k : ℕ} {a b : List Written} → Deepest n a j → Deep n b k → Deepest n (a ++ b) (max j k)
first_both {n} {j} {k} {a} {b} p q = let e = deepest-append a b in let f = p.is in let h = q.is in record { is = omega (arith, e, f, h) }

first_behind : {n k : ℕ} {a b : List Written} → Deepest n a k → Deep n b 0 → Deepest n (a ++ b) k
first_behind {n} {k} {a} {b} p q = let e = deepest-append a b in let f = p.is in let h = q.is in record { is = omega (arith, e, f, h) }

first_before : {n k : ℕ} {a b : List Written} → Deepest n a 0 → Deep n b k → Deepest n (a ++ b) k
first_before {n} {k} {a} {b} p q = let e = deepest-append a b in let f = p.is in let h = q.is in record { is = omega (arith, e, f, h) }

inner : {n k : ℕ} {ws : List Written} → Deepest (suc n) ws k → Deep n ws (suc k)
inner {n} {k} {ws} p = let e = p.is in record { is = omega (arith, e) }

level : {n k : ℕ} {ws : List Written} → Deepest n ws k → Deep n ws k
level {n} {k} {ws} p = let e = p.is in record { is = omega (arith, e) }

separated_by : (n : ℕ) (c : Bool) (m : Mark) → Deep n (separator n c m) 0
separated_by n true m = one none
separated_by n false m = none

keys_deep : (n : ℕ) (g : Bool) (m : Mark) (ks : Keys) → Deep n (keys_yield n g m ks) 0
keys_deep n g m (one_key k) = one none
keys_deep n g m (more_keys ks k) = before (keys_deep n g m ks) (one (one none))

index_deep : (n : ℕ) (i : Option ℕ) → Deep n (index_yield n i) 0
index_deep n None = none
index_deep n (Some i) = one (one none)

piece_deep : (n : ℕ) (p : Option (List ℕ)) → Deep n (piece_yield n p) 0
piece_deep n None = none
piece_deep n (Some p) = one none

digest_deep : (n : ℕ) (d : Option Digest) → Deep n (digest_yield n d) 0
digest_deep n None = none
digest_deep n (Some d) = one none

mode_deep : (n : ℕ) (m : Mode) → Deep n (mode_yield n m) 0
mode_deep n modes.Code = none
mode_deep n modes.Text = one (one none)
mode_deep n modes.Location = one (one none)

mutual
  deep : (n : ℕ) (g : Bool) (d : Derivation) → Deepest n (yield n g d) (opens d)
  deep n g (lambda w a b) = first_one (one (one (one (both (inner (deep (suc n) _ a)) (one (one (inner (deep (suc n) _ b))))))))
  deep n g (pi w a b) = first_one (one (one (one (both (inner (deep (suc n) _ a)) (one (one (inner (deep (suc n) _ b))))))))
  deep n g (arrow a b) = first_both (deep n g a) (one (inner (deep (suc n) _ b)))
  deep n g (choice p t e) = first_both (first_both (first_one (inner (deep (suc n) _ p))) (one (inner (deep (suc n) _ t)))) (one (inner (deep (suc n) _ e)))
  deep n g (lets ls b) = first_both (lets_deep n g ls) (one (inner (deep (suc n) _ b)))
  deep n g (updates us) = updates_deep n g us
  deep n g (merge_as t u a) = first_both (first_both (first_one (level (deep n _ t))) (level (deep n _ u))) (one (inner (deep (suc n) _ a)))
  deep n g (to_map_as t a) = first_one (both (level (deep n _ t)) (one (inner (deep (suc n) _ a))))
  deep n g (empty_list c a) = first_one (before (separated_by n c _) (one (one (inner (deep (suc n) _ a)))))
  deep n g (assertion a) = first_one (one (inner (deep (suc n) _ a)))
  deep n g (annotation t a) = first_both (deep n g t) (one (inner (deep (suc n) _ a)))
  deep n g (operation o l r) = first_both (deep n g l) (one (level (deep n _ r)))
  deep n g (application f x) = first_both (deep n g f) (level (deep n _ x))
  deep n g (merging t u) = first_one (both (level (deep n _ t)) (level (deep n _ u)))
  deep n g (some_of t) = first_one (level (deep n _ t))
  deep n g (to_map t) = first_one (level (deep n _ t))
  deep n g (import i d m) = first_one (before (digest_deep n d) (mode_deep n m))
  deep n g (field t k) = first_behind (deep n g t) (one (one none))
  deep n g (project_none t c) = first_behind (first_behind (deep n g t) (one (one (separated_by n c _)))) (one none)
  deep n g (project t c ks d) = first_behind (first_behind (first_behind (first_behind (deep n g t) (one (one (separated_by n c _)))) (keys_deep n _ _ ks)) (separated_by n d _)) (one none)
  deep n g (project_by t a) = first_behind (first_both (deep n g t) (one (one (inner (deep (suc n) _ a))))) (one none)
  deep n g (natural i) = first_one none
  deep n g (integer z) = first_one none
  deep n g (truth b) = first_one none
  deep n g (builtin b) = first_one none
  deep n g (variable w i) = first_one (index_deep n i)
  deep n g (text f cs) = first_one (behind (chunks_deep n cs) (one none))
  deep n g (brackets e) = first_one (behind (inner (deep (suc n) _ e)) (one none))
  deep n g (list c is d) = first_behind (first_behind (first_before (first_one (separated_by n c _)) (items_deep n is)) (separated_by n d _)) (one none)
  deep n g (union_none c) = first_one (before (separated_by n c _) (one none))
  deep n g (union c as' d) = first_behind (first_behind (first_before (first_one (separated_by n c _)) (alternatives_deep n as')) (separated_by n d _)) (one none)
  deep n g (record_type_none c) = first_one (before (separated_by n c _) (one none))
  deep n g (record_type c fs d) = first_behind (first_behind (first_before (first_one (separated_by n c _)) (fields_deep n fs)) (separated_by n d _)) (one none)
  deep n g (record_none c d) = first_behind (first_behind (first_one (separated_by n c _)) (one (separated_by n d _))) (one none)
  deep n g (record_of c es d) = first_behind (first_behind (first_before (first_one (separated_by n c _)) (entries_deep n es)) (separated_by n d _)) (one none)

  note_deep : (n : ℕ) (a : Note) → Deep n (note_yield n a) (note_opens a)
  note_deep n untyped = none
  note_deep n (typed a) = one (inner (deep (suc n) _ a))

  lets_deep : (n : ℕ) (g : Bool) (ls : Lets) → Deepest n (lets_yield n g ls) (lets_opens ls)
  lets_deep n g (one_let w a v) = first_one (one (both (note_deep n a) (one (inner (deep (suc n) _ v)))))
  lets_deep n g (more_lets ls w a v) = first_both (first_both (lets_deep n g ls) (one (one (note_deep n a)))) (one (inner (deep (suc n) _ v)))

  updates_deep : (n : ℕ) (g : Bool) (us : Updates) → Deepest n (updates_yield n g us) (updates_opens us)
  updates_deep n g (one_update t ks v) = first_both (first_behind (deep n g t) (one (keys_deep n _ _ ks))) (one (level (deep n _ v)))
  updates_deep n g (more_updates us ks v) = first_both (first_behind (updates_deep n g us) (one (keys_deep n _ _ ks))) (one (level (deep n _ v)))

  chunks_deep : (n : ℕ) (cs : Chunks) → Deep n (chunks_yield n cs) (chunks_opens cs)
  chunks_deep n (start p) = piece_deep n p
  chunks_deep n (more_chunks cs e p) = behind (both (chunks_deep n cs) (one (inner (deep (suc n) _ e)))) (one (piece_deep n p))

  items_deep : (n : ℕ) (is : Items) → Deep n (items_yield n is) (items_opens is)
  items_deep n (one_item e) = inner (deep (suc n) _ e)
  items_deep n (more_items is e) = both (items_deep n is) (one (inner (deep (suc n) _ e)))

  alternatives_deep : (n : ℕ) (as' : Alternatives) → Deep n (alternatives_yield n as') (alternatives_opens as')
  alternatives_deep n (one_alternative k a) = one (note_deep n a)
  alternatives_deep n (more_alternatives as' k a) = both (alternatives_deep n as') (one (one (note_deep n a)))

  fields_deep : (n : ℕ) (fs : Fields) → Deep n (fields_yield n fs) (fields_opens fs)
  fields_deep n (one_field k a) = one (one (inner (deep (suc n) _ a)))
  fields_deep n (more_fields fs k a) = both (fields_deep n fs) (one (one (one (inner (deep (suc n) _ a)))))

  entry_deep : (n : ℕ) (e : Entry) → Deep n (entry_yield n e) (entry_opens e)
  entry_deep n (alone k) = one none
  entry_deep n (given ks v) = before (keys_deep n _ _ ks) (one (inner (deep (suc n) _ v)))

  entries_deep : (n : ℕ) (es : Entries) → Deep n (entries_yield n es) (entries_opens es)
  entries_deep n (one_entry e) = entry_deep n e
  entries_deep n (more_entries es e) = both (entries_deep n es) (one (entry_deep n e))

some_deeper : (m : ℕ) (ws : List Written) → list_any (λ (w : Written). nat_lt m w.depth) ws ≡ nat_lt m (deepest ws)
some_deeper m [] = grind (arith, nat_tests)
some_deeper m (w ∷ ws) = ap (λ (t : Bool). nat_lt m w.depth || t) (some_deeper m ws) ∙ either m w.depth (deepest ws)
  where
    either : (m a b : ℕ) → (nat_lt m a || nat_lt m b) ≡ nat_lt m (max a b)
    either m a b = grind (arith, nat_tests)

-- the deepest token of a tree's text
pub text_deepest : (n : ℕ) (d : Derivation) → deepest (yield n free d) ≡ n + opens d
text_deepest n d = let h = deep n free d in h.is

-- one stands deeper than a limit exactly where the tree opens as many as the limit, or more
pub text_over : (m : ℕ) (d : Derivation) → list_any (λ (w : Written). nat_lt m w.depth) (text_yield d) ≡ nat_lt m (suc (opens d))
text_over m d =
    let ws = yield 1 free d in
    let e = deepest-append ws (token 0 free kinds.End ∷ []) in
    let h = text_deepest 1 d in
    let all : deepest (text_yield d) ≡ suc (opens d) = omega (arith, e, h) in
    some_deeper m (text_yield d) ∙ ap (nat_lt m) all

-- a text opens too many exactly where more than 499 are open below its tree
pub too_many : (d : Derivation) → opens_too_many (text_yield d) ≡ nat_lt 499 (opens d)
too_many d = text_over 500 d ∙ one_less (opens d)
  where
    one_less : (k : ℕ) → nat_lt 500 (suc k) ≡ nat_lt 499 k
    one_less k = grind (arith, nat_tests)

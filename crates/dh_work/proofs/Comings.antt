-- From what a body gives to what comes of its item.
use Rattle.std.specs.Prelude.{◌≡◌, ◌<◌, ◌≤◌, ◌^◌, ◌-◌, ◌+◌, ℕ, Bool, true, false, nat_lt, if◌then◌else◌, List, [], length, Option, Some, None, codes, IsUtf8, IfOk, Result, Ok, Err, refl}
use Rattle.std.specs.Str.{is_utf8}
use Rattle.std.specs.Str.Lossy.{utf8_valid_len}
use Rattle.std.specs.declared.alloc.AllocError.{AllocError}
use Rattle.std.proofs.Common.{ap, sym, ◌∙◌, arith, subst as along}
use Rattle.std.proofs.lemmas.Bool.{lt-ltb, le-ltb}
use Rattle.std.proofs.lemmas.Str.{is_utf8-from_IsUtf8, IsUtf8-from_is_utf8}
use Rattle.dh_syntax.specs.declared.expressions.Expr.{Expr}
use Rattle.dh_syntax.specs.declared.expressions.Expr.TheVariants as expr
use Rattle.dh_syntax.specs.declared.expressions.Kid.{Kid}
use Rattle.dh_syntax.specs.declared.expressions.Op.TheVariants as ops
use Rattle.dh_syntax.specs.declared.faults.NormFault.{NormFault}
use Rattle.dh_syntax.specs.declared.faults.NormFault.TheVariants as norms
use Rattle.dh_syntax.specs.declared.faults.ParseFault.TheVariants as parses
use Rattle.dh_syntax.specs.declared.faults.TypeFault.{TypeFault}
use Rattle.dh_syntax.specs.declared.faults.TypeFault.TheVariants as types
use Rattle.dh_syntax.specs.declared.faults.Ill.{Ill}
use Rattle.dh_syntax.specs.declared.locations.Digest.{Digest}
use Rattle.dh_syntax.specs.declared.locations.Key.{Key}
use Rattle.dh_syntax.specs.declared.locations.Loc.{Loc}
use Rattle.dh_syntax.specs.declared.locations.Loc.TheVariants as locs
use Rattle.dh_imports.specs.declared.outcomes.Blame.{Blame}
use Rattle.dh_imports.specs.declared.outcomes.Origin.{Origin}
use Rattle.dh_imports.specs.declared.outcomes.Origin.TheVariants as origins
use Rattle.dh_imports.specs.declared.outcomes.Outcome.{Outcome}
use Rattle.dh_imports.specs.declared.outcomes.Outcome.TheVariants as outcomes
use Rattle.dh_imports.specs.declared.outcomes.Why.{Why}
use Rattle.dh_imports.specs.declared.outcomes.Why.TheVariants as whys
use Rattle.dh_syntax.specs.Expressions.Arity.{IsWellFormed}
use Rattle.dh_syntax.specs.Expressions.Bridge.{term, row_of}
use Rattle.dh_syntax.specs.Expressions.Forms as form
use Rattle.dh_syntax.specs.Expressions.Nesting.{nesting}
use Rattle.dh_syntax.specs.Expressions.SameTree.{digest_eq}
use Rattle.dh_syntax.specs.Expressions.Tree.{Node, Term}
use Rattle.dh_imports.specs.LastStep as last
use Rattle.dh_syntax.specs.Imports.Locations.{loc_text}
use Rattle.dh_imports.specs.LastStep.{own, last_step, text_outcome, compared}
use Rattle.dh_syntax.specs.Bytes.Digests.{digest_of}
use Rattle.dh_imports.specs.Outcomes.{Good, plain, of_blame}
use Rattle.dh_imports.specs.Records.{IsLimitOf, IsTyped}
use Rattle.dh_imports.specs.Resolver.{Has}
use Rattle.dh_syntax.specs.Limits.{most_bytes, most_nesting, whole_purse}
use Rattle.dh_syntax.specs.Names.Indices.{IndicesBelow}
use Rattle.dh_syntax.specs.Normalising.Named.{names}
use Rattle.dh_syntax.specs.Normalising.Normal.{HasNormalForm, IsLicensed}
use Rattle.dh_syntax.specs.Typing.NamedTyping.{HasType, IsTypeFault}
use Rattle.dh_syntax.proofs.Bridge.{row_of-nil, term-Node}
use Rattle.dh_import_laws.specs.ImportLaws.{ComesOf, normal, ill}
use Rattle.dh_import_laws.proofs.CodeSteps.{code_comes}
use Rattle.dh_infer.specs.NamedTypes.{IsTypeOf}
use Rattle.dh_record.specs.declared.items.Body.{Body}
use Rattle.dh_record.specs.declared.items.Body.TheVariants as body
use Rattle.dh_record.specs.declared.items.Item.{Item}
use Rattle.dh_record.specs.Items.{by_fault, by_body, comes, IsLast, IsLimit}
use Rattle.dh_record.specs.Values.{IsValue, IsCode, HasValue}
use Rattle.dh_record.proofs.Closed.{indices_more, value_indices}
use Rattle.dh_work.specs.declared.codes.Came.{Came}
use Rattle.dh_work.specs.declared.codes.Came.TheVariants as cames
use Rattle.dh_work.specs.Inside.Coming.{IsCame, IsCodeCame}
use Rattle.dh_work.proofs.NormalClosed.{typed_normal_closed}

-- ---- faults of a key's own

abbrev pub blamed : Key → Why → Outcome
blamed k w = outcomes.Bad (record { at = Some k; why = w })

-- what follows from an outcome that is this one
pub of_own : (P : Outcome → Type 0) (o : Outcome) (r : Result Outcome AllocError) → P o → IfOk r (λ x. x ≡ o) → IfOk r P
of_own P o (Ok x) p h = along P (sym h) p
of_own P o (Err e) p h = tt

-- a value with its origin
pub good_plain : (v : Expr) (o : Origin) (w : Term) (q : Origin) → term v ≡ w → o ≡ q → plain (outcomes.Good v o) ≡ Good w q
good_plain v o w q p r = λ i. Good (p i) (r i)

-- ---- texts

pub text_large : (k : Key) (bytes : List ℕ) (allow : Option (List ℕ)) → most_bytes < length bytes → plain (blamed k (whys.Parse parses.TooLarge)) ≡ text_outcome k bytes allow
text_large k bytes allow h =
    sym (ap (λ b. if b then own k (whys.Parse parses.TooLarge) else if is_utf8 bytes then Good (form.plain_text bytes) (origins.Fetched allow) else own k (whys.Parse (parses.NotUtf8 (utf8_valid_len bytes))))
    (lt-ltb most_bytes (length bytes) h))

by_utf8 : (k : Key) (bytes : List ℕ) (allow : Option (List ℕ)) (b : Bool) → length bytes ≤ most_bytes → is_utf8 bytes ≡ b
    → text_outcome k bytes allow ≡ (if b then Good (form.plain_text bytes) (origins.Fetched allow) else own k (whys.Parse (parses.NotUtf8 (utf8_valid_len bytes))))
by_utf8 k bytes allow b h p =
    ap (λ c. if c then own k (whys.Parse parses.TooLarge) else if is_utf8 bytes then Good (form.plain_text bytes) (origins.Fetched allow) else own k (whys.Parse (parses.NotUtf8 (utf8_valid_len bytes))))
    (le-ltb most_bytes (length bytes) h)
    ∙ ap (λ c. if c then Good (form.plain_text bytes) (origins.Fetched allow) else own k (whys.Parse (parses.NotUtf8 (utf8_valid_len bytes)))) p

pub text_good : (k : Key) (bytes text : List ℕ) (allow : Option (List ℕ)) (o : Outcome) → length bytes ≤ most_bytes → IsUtf8 bytes → text ≡ bytes
    → plain o ≡ Good (form.plain_text text) (origins.Fetched allow) → plain o ≡ text_outcome k bytes allow
text_good k bytes text allow o h u p q =
    q ∙ ap (λ x. Good (form.plain_text x) (origins.Fetched allow)) p ∙ sym (by_utf8 k bytes allow true h (is_utf8-from_IsUtf8 bytes u))

not_utf8 : (bytes : List ℕ) (b : Bool) → is_utf8 bytes ≡ b → (IsUtf8 bytes → ⊥) → is_utf8 bytes ≡ false
not_utf8 bytes true p n = absurd (n (IsUtf8-from_is_utf8 bytes p))
not_utf8 bytes false p n = p

pub text_bad : (k : Key) (bytes : List ℕ) (allow : Option (List ℕ)) (n : ℕ) → length bytes ≤ most_bytes → (IsUtf8 bytes → ⊥) → n ≡ utf8_valid_len bytes
    → plain (blamed k (whys.Parse (parses.NotUtf8 n))) ≡ text_outcome k bytes allow
text_bad k bytes allow n h u p = ap (λ m. own k (whys.Parse (parses.NotUtf8 m))) p ∙ sym (by_utf8 k bytes allow false h (not_utf8 bytes (is_utf8 bytes) refl u))

pub text_is_value : (e : Term) (t : List ℕ) → e ≡ form.plain_text t → IsValue e
text_is_value e t p = along IsValue (sym p) (record { well_formed = (refl, tt); shallow = omega arith; closed = λ x n. refl })

-- ---- comparing

module _ (k : Key) (v : Term) (o : Origin) where
  pub compared_none : k.digest ≡ None → Good v o ≡ compared k k.digest v o
  compared_none p = sym (ap (λ d. compared k d v o) p)

  by_digest : (d : Digest) (b : Bool) → k.digest ≡ Some d → digest_eq d (digest_of v) ≡ b
      → compared k k.digest v o ≡ (if b then Good v o else own k (whys.Differs d (digest_of v)))
  by_digest d b p q = ap (λ c. compared k c v o) p ∙ ap (λ c. if c then Good v o else own k (whys.Differs d (digest_of v))) q

  pub compared_same : (d g : Digest) → k.digest ≡ Some d → g ≡ digest_of v → digest_eq d g ≡ true → Good v o ≡ compared k k.digest v o
  compared_same d g p q h = sym (by_digest d true p (ap (digest_eq d) (sym q) ∙ h))

  pub compared_differs : (d g : Digest) → k.digest ≡ Some d → g ≡ digest_of v → digest_eq d g ≡ false
      → plain (blamed k (whys.Differs d g)) ≡ compared k k.digest v o
  compared_differs d g p q h = ap (λ c. own k (whys.Differs d c)) q ∙ sym (by_digest d false p (ap (digest_eq d) (sym q) ∙ h))

pub digest_room : (e : Term) → IsValue e → IndicesBelow (2 ^ 32 - nesting e) e
digest_room e v = indices_more (2 ^ 31) (2 ^ 32 - nesting e) e (let s = v.shallow in omega arith) (value_indices e v)

-- ---- code

-- code that is refused, or meets a limit of typing
pub ill_came : (k : Key) (e : Term) (allow : Option (List ℕ)) (f : TypeFault) (i : Ill) → f ≡ types.Ill i → IsTypeFault [] whole_purse e f
    → IsCodeCame k e allow (cames.Last (blamed k (whys.Typing (types.Ill i))))
ill_came k e allow f i p h = (ill (along (IsTypeFault [] whole_purse e) p h), tt)

pub ill_last : (k : Key) (e : Term) (allow : Option (List ℕ)) (f : TypeFault) (i : Ill) (o : Outcome) → f ≡ types.Ill i → IsTypeFault [] whole_purse e f
    → o ≡ blamed k (whys.Typing (types.Ill i)) → IsCodeCame k e allow (cames.Last o)
ill_last k e allow f i o p h q = along (λ x. IsCodeCame k e allow (cames.Last x)) (sym q) (ill_came k e allow f i p h)

limit_came : (k : Key) (e : Term) (allow : Option (List ℕ)) (w : Why) → plain (blamed k w) ≡ own k w → IsLimitOf e w → IsCodeCame k e allow (cames.Limit (blamed k w))
limit_came k e allow w p h = (e, allow, w, refl, h, p)

pub type_wide : (k : Key) (e : Term) (allow : Option (List ℕ)) → IsTypeFault [] whole_purse e types.Wide → IsCodeCame k e allow (cames.Limit (blamed k (whys.Typing types.Wide)))
type_wide k e allow h = limit_came k e allow (whys.Typing types.Wide) refl h

pub type_spent : (k : Key) (e : Term) (allow : Option (List ℕ)) → IsTypeFault [] whole_purse e types.Spent → IsCodeCame k e allow (cames.Limit (blamed k (whys.Typing types.Spent)))
type_spent k e allow h = limit_came k e allow (whys.Typing types.Spent) refl h

pub type_deep : (k : Key) (e : Term) (allow : Option (List ℕ)) → IsTypeFault [] whole_purse e types.Deep → IsCodeCame k e allow (cames.Limit (blamed k (whys.Typing types.Deep)))
type_deep k e allow h = limit_came k e allow (whys.Typing types.Deep) refl h

norm_wide : (k : Key) (e : Term) (allow : Option (List ℕ)) → IsTyped e → IsLicensed names nesting whole_purse e norms.Wide
    → IsCodeCame k e allow (cames.Limit (blamed k (whys.Norm norms.Wide)))
norm_wide k e allow t h = limit_came k e allow (whys.Norm norms.Wide) refl (t, h)

norm_spent : (k : Key) (e : Term) (allow : Option (List ℕ)) → IsTyped e → IsLicensed names nesting whole_purse e norms.Spent
    → IsCodeCame k e allow (cames.Limit (blamed k (whys.Norm norms.Spent)))
norm_spent k e allow t h = limit_came k e allow (whys.Norm norms.Spent) refl (t, h)

norm_deep : (k : Key) (e : Term) (allow : Option (List ℕ)) → IsTyped e → IsLicensed names nesting whole_purse e norms.Deep
    → IsCodeCame k e allow (cames.Limit (blamed k (whys.Norm norms.Deep)))
norm_deep k e allow t h = limit_came k e allow (whys.Norm norms.Deep) refl (t, h)

pub norm_limited : (k : Key) (e : Term) (allow : Option (List ℕ)) (f : NormFault) (r : Result Came AllocError) → IsTyped e → IsLicensed names nesting whole_purse e f
    → IfOk r (λ x. (f ≡ norms.Memory → ⊥) × (x ≡ cames.Limit (blamed k (whys.Norm f)))) → IfOk r (λ x. IsCodeCame k e allow x)
norm_limited k e allow norms.Wide (Ok x) t h w = along (IsCodeCame k e allow) (sym w.1) (norm_wide k e allow t h)
norm_limited k e allow norms.Spent (Ok x) t h w = along (IsCodeCame k e allow) (sym w.1) (norm_spent k e allow t h)
norm_limited k e allow norms.Deep (Ok x) t h w = along (IsCodeCame k e allow) (sym w.1) (norm_deep k e allow t h)
norm_limited k e allow norms.Memory (Ok x) t h w = absurd (w.0 refl)
norm_limited k e allow f (Err x) t h w = tt

-- what follows for what comes, where that is this
pub of_came : (k : Key) (e : Term) (allow : Option (List ℕ)) (x : Came) (r : Result Came AllocError) → IsCodeCame k e allow x → IfOk r (λ y. y ≡ x) → IfOk r (λ y. IsCodeCame k e allow y)
of_came k e allow x (Ok y) p h = along (IsCodeCame k e allow) (sym h) p
of_came k e allow x (Err f) p h = tt

pub has_type : (e t : Term) (units left : ℕ) → IsTypeOf units left e t → IsTyped e
has_type e t units left h = (h.cost, t, 0, h.typed)

-- its normal form is its value
pub normal_came : (k : Key) (e : Term) (allow : Option (List ℕ)) (v : Expr) (o : Origin) → IsCode e → IsTyped e → HasNormalForm names e (term v) → o ≡ origins.Fetched allow
    → IsWellFormed (term v) → nesting (term v) ≤ most_nesting → IsCodeCame k e allow (cames.Last (outcomes.Good v o))
normal_came k e allow v o c (units, t, left, h) n p w s =
    (along (λ x. ComesOf k e allow (Good (term v) x)) (sym p) (normal units t left h n), record { well_formed = w; shallow = s; closed = typed_normal_closed e (term v) c.well_formed (units, t, left, h) n })

-- ---- items

module _ (i : Item) where
  at_body : (b : Body) (o : Outcome) → i.body ≡ b → ((n : ℕ) × (comes n i.key (by_body i.allow b) ≡ Some (plain o))) → IsLast i o false
  at_body b o p h = along (λ x. (n : ℕ) × (comes n i.key (by_body i.allow x) ≡ Some (plain o))) (sym p) h

  pub code_item : (e : Expr) (x : Came) → i.body ≡ body.Code e → IsCodeCame i.key (term e) i.allow x → IsCame i x
  code_item e (cames.Last o) p (h, v) = (at_body (body.Code e) o p (code_comes i.key (term e) i.allow (plain o) h), v)
  code_item e (cames.Limit o) p h = along (λ b. IsLimit i.key (by_body i.allow b) (plain o)) (sym p) h

  text_step : (bytes : List ℕ) → last_step 0 i.key (last.Text bytes i.allow) ≡ Some (text_outcome i.key bytes i.allow)
  unfolding last_step
  text_step bytes = refl

  location_step : (l : Loc) → last_step 0 i.key (last.Location l) ≡ Some (Good (last.location_value l) origins.Made)
  unfolding last_step
  location_step l = refl

  compare_step : (v : Term) (o : Origin) → last_step 0 i.key (last.Compare v o) ≡ Some (compared i.key i.key.digest v o)
  unfolding last_step
  compare_step v o = refl

  entry_step : (v : Term) → last_step 0 i.key (last.Entry v) ≡ Some (Good v origins.Cached)
  unfolding last_step
  entry_step v = refl

  pub text_item : (bytes : List ℕ) (o : Outcome) → i.body ≡ body.Text bytes → plain o ≡ text_outcome i.key bytes i.allow → HasValue o → IsCame i (cames.Last o)
  text_item bytes o p h v = (at_body (body.Text bytes) o p (0, text_step bytes ∙ ap Some (sym h)), v)

  pub location_item : (l : Loc) (o : Outcome) → i.body ≡ body.Location l → plain o ≡ Good (last.location_value l) origins.Made → HasValue o → IsCame i (cames.Last o)
  location_item l o p h v = (at_body (body.Location l) o p (0, location_step l ∙ ap Some (sym h)), v)

  pub compare_item : (w : Expr) (r : Origin) (o : Outcome) → i.body ≡ body.Compare w r → plain o ≡ compared i.key i.key.digest (term w) r → HasValue o → IsCame i (cames.Last o)
  compare_item w r o p h v = (at_body (body.Compare w r) o p (0, compare_step (term w) r ∙ ap Some (sym h)), v)

  pub entry_item : (w : Expr) (o : Outcome) → i.body ≡ body.Entry w → plain o ≡ Good (term w) origins.Cached → HasValue o → IsCame i (cames.Last o)
  entry_item w o p h v = (at_body (body.Entry w) o p (0, entry_step (term w) ∙ ap Some (sym h)), v)

  fault_step : (at : Option Key) (w : Why) → comes 0 i.key (by_fault at w) ≡ Some (of_blame at w)
  unfolding last_step
  fault_step None w = refl
  fault_step (Some k) whys.Cycle = refl
  fault_step (Some k) w = refl

  pub fault_item : (b : Blame) (o : Outcome) → i.body ≡ body.Fault b → o ≡ outcomes.Bad b → IsCame i (cames.Last o)
  fault_item b o p q = along (λ x. IsCame i (cames.Last x)) (sym q) (at_body (body.Fault b) (outcomes.Bad b) p (0, fault_step b.at b.why), tt)

-- ---- locations

located_is_value : (x t : List ℕ) → IsValue (last.located x t)
located_is_value x t = record {
  well_formed = (refl, ((refl, ((refl, ((refl, tt), ((refl, tt), ((refl, tt), tt)))), tt)), ((refl, tt), tt)));
  shallow = omega arith;
  closed = λ x n. refl;
}

pub location_is_value : (l : Loc) → IsValue (last.location_value l)
location_is_value (locs.Http u) = located_is_value (codes "Remote") (loc_text (locs.Http u))
location_is_value (locs.Https u) = located_is_value (codes "Remote") (loc_text (locs.Https u))
location_is_value (locs.Env x) = located_is_value (codes "Environment") x
location_is_value locs.Missing = record { well_formed = (refl, ((refl, ((refl, tt), ((refl, tt), ((refl, tt), tt)))), tt)); shallow = omega arith; closed = λ x n. refl }
location_is_value (locs.Abs cs) = located_is_value (codes "Local") (loc_text (locs.Abs cs))
location_is_value (locs.Here cs) = located_is_value (codes "Local") (loc_text (locs.Here cs))
location_is_value (locs.Parent cs) = located_is_value (codes "Local") (loc_text (locs.Parent cs))
location_is_value (locs.Home cs) = located_is_value (codes "Local") (loc_text (locs.Home cs))

-- the value of what is a value
pub same_is_value : (v w : Term) → w ≡ v → IsValue v → IsValue w
same_is_value v w p h = along IsValue (sym p) h

pub one_is_value : (ks : List Kid) → ks ≡ [] → IsValue (term (expr.Node (ops.Nat 1) ks))
one_is_value ks h =
    same_is_value (form.natural 1) (term (expr.Node (ops.Nat 1) ks)) (term-Node (ops.Nat 1) ks ∙ ap (Node (ops.Nat 1)) (ap row_of h ∙ row_of-nil))
    (record { well_formed = (refl, tt); shallow = omega arith; closed = λ x n. refl })

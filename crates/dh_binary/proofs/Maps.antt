-- Maps are read as they are defined, from either end.
use Rattle.std.specs.Prelude.{◌≡◌, ℕ, ◌==◌, Bool, true, false, if◌then◌else◌, List, [], ◌∷◌, Option, Some, None, refl}
use Rattle.std.proofs.Common.{sym, ◌∙◌, ap}
use Rattle.std.proofs.lemmas.Bool.{eqb-true}
use Rattle.dh_syntax.specs.Bytes.BinaryHeads.{simple}
use Rattle.dh_syntax.specs.Bytes.BinaryItems.{Item, single, array_of, map_of, tagged, Pairs, no_pairs, more_pairs}
use Rattle.dh_syntax.specs.Bytes.BinaryLeaves.{◌>>=◌, is_null, label_of, inserted}
use Rattle.dh_syntax.specs.Bytes.BinaryRead as old
use Rattle.dh_syntax.specs.Bytes.BinaryRead.{part, entries_of}
use Rattle.dh_syntax.specs.Expressions.Numbers.{bytes_eq}
use Rattle.dh_syntax.specs.Expressions.Order.{before}
use Rattle.dh_syntax.specs.Expressions.Tree.{Name, Term}
use Rattle.dh_binary.specs.Machine.{Value, nothing, holds, Entry}
use Rattle.dh_binary.proofs.Parts.{hold, null_or, kept_value, kept, all_kept}
use Rattle.dh_binary.proofs.Rows.{bind_assoc, bind_same, bind_none}
use Rattle.dh_binary.proofs.Inserting.{put, all_put}

pub simple_null : (b : Bool) (n : ℕ) → (n == 22) ≡ true → (part b (single (simple n))).term ≡ None
simple_null b n h = let e = eqb-true n 22 h in ap (λ k. (part b (single (simple k))).term) e

pub null_none : (b : Bool) (i : Item) → is_null i ≡ true → (part b i).term ≡ None
null_none b (single (simple n)) h = simple_null b n h
null_none b (single a) h = cc
null_none b (array_of is) h = cc
null_none b (map_of ps) h = cc
null_none b (tagged t i) h = cc

abbrev pub value_in : Value Term → Option (Option Term)
value_in nothing = Some None
value_in (holds t) = Some (Some t)
value_in _ = None

-- the value that is wanted
abbrev pub value_read : Bool → Item → Option Term → Option (Value Term)
value_read nulls v o = if nulls then null_or nothing v (hold o) else hold o

abbrev pub name_of : Entry Term → Name
name_of e = e.name

abbrev pub wanted_entry : Bool → Item → Item → Option Term → Option (Entry Term)
wanted_entry nulls k v o = label_of k >>= λ x. (value_read nulls v o >>= value_in) >>= λ u. Some (record { name = x; value = u })

module _ (b : Bool) (nulls : Bool) where
  abbrev pub wanted : Pairs → List (Option (Entry Term))
  wanted no_pairs = []
  wanted (more_pairs k v ps) = wanted_entry nulls k v (part b v).term ∷ wanted ps

  value_kept : (n c : Bool) (o : Option Term) → (c ≡ true → o ≡ None) → ((if n then (if c then Some nothing else hold o) else hold o) >>= value_in) ≡ ((if c then Some old.nothing else (o >>= λ t. Some (old.holds t))) >>= kept_value n)
  value_kept true true o h = refl
  value_kept true false None h = refl
  value_kept true false (Some t) h = refl
  value_kept false true o h = ap (λ o. hold o >>= value_in) (h refl)
  value_kept false false None h = refl
  value_kept false false (Some t) h = refl

  value_same : (v : Item) → (value_read nulls v (part b v).term >>= value_in) ≡ (old.value_of v (part b v).term >>= kept_value nulls)
  value_same v = value_kept nulls (is_null v) (part b v).term (λ h. null_none b v h)

  abbrev old_name : old.Entry → Name
  old_name e = e.name

  abbrev keep : Name → Option (Option Term) → Option (Entry Term)
  keep x o = o >>= λ u. Some (record { name = x; value = u })

  put_one : (x : Name) (u : Option (Option Term)) → (keep x u >>= λ f. Some (f ∷ [])) ≡ (keep x u >>= λ f. inserted name_of f [])
  put_one x None = refl
  put_one x (Some u) = refl

  kept_below : (x y : Name) (u v : Option (Option Term)) (o : Option (List (Entry Term))) → before x y ≡ true
      → (keep x u >>= λ f. (keep y v >>= λ g. o >>= λ gs. Some (g ∷ gs)) >>= λ fs. Some (f ∷ fs)) ≡ (keep x u >>= λ f. (keep y v >>= λ g. o >>= λ gs. Some (g ∷ gs)) >>= λ fs. inserted name_of f fs)
  kept_below x y None v o h = refl
  kept_below x y (Some u) None o h = refl
  kept_below x y (Some u) (Some v) None h = refl
  kept_below x y (Some u) (Some v) (Some gs) h = rw h refl

  kept_same : (x y : Name) (u v : Option (Option Term)) (o : Option (List (Entry Term))) → before x y ≡ false → bytes_eq x y ≡ true
      → None ≡ (keep x u >>= λ f. (keep y v >>= λ g. o >>= λ gs. Some (g ∷ gs)) >>= λ fs. inserted name_of f fs)
  kept_same x y None v o h k = refl
  kept_same x y (Some u) None o h k = refl
  kept_same x y (Some u) (Some v) None h k = refl
  kept_same x y (Some u) (Some v) (Some gs) h k = rw (h, k) refl

  kept_above : (x y : Name) (u v : Option (Option Term)) (p : Option (List old.Entry)) (o : Option (List (Entry Term))) → before x y ≡ false → bytes_eq x y ≡ false
      → (p >>= λ zs. all_kept nulls zs) ≡ (keep x u >>= λ f. o >>= λ fs. inserted name_of f fs)
      → (p >>= λ zs. keep y v >>= λ g. all_kept nulls zs >>= λ gs. Some (g ∷ gs)) ≡ (keep x u >>= λ f. (keep y v >>= λ g. o >>= λ gs. Some (g ∷ gs)) >>= λ fs. inserted name_of f fs)
  kept_above x y u None p o h k e = bind_none p ∙ sym (bind_none (keep x u))
  kept_above x y None (Some v) p o h k e = sym (bind_assoc p (λ zs. all_kept nulls zs) (λ gs. Some _)) ∙ ap (λ q. q >>= λ gs. Some (record { name = y; value = v } ∷ gs)) e
  kept_above x y (Some u) (Some v) p None h k e = sym (bind_assoc p (λ zs. all_kept nulls zs) (λ gs. Some _)) ∙ ap (λ q. q >>= λ gs. Some (record { name = y; value = v } ∷ gs)) e
  kept_above x y (Some u) (Some v) p (Some gs) h k e =
      sym (bind_assoc p (λ zs. all_kept nulls zs) (λ gs. Some _)) ∙ ap (λ q. q >>= λ gs. Some (record { name = y; value = v } ∷ gs)) e ∙ rw (h, k) refl

  kept_by : (e y : old.Entry) (ys : List old.Entry) (c d : Bool) → before e.name y.name ≡ c → bytes_eq e.name y.name ≡ d → (inserted old_name e ys >>= all_kept nulls) ≡ (kept nulls e >>= λ f. all_kept nulls ys >>= λ fs. inserted name_of f fs)
      → ((if c then Some (e ∷ y ∷ ys) else if d then None else (inserted old_name e ys >>= λ zs. Some (y ∷ zs))) >>= all_kept nulls) ≡ (kept nulls e >>= λ f. all_kept nulls (y ∷ ys) >>= λ fs. inserted name_of f fs)
  kept_by e y ys true d p q h = kept_below e.name y.name (kept_value nulls e.value) (kept_value nulls y.value) (all_kept nulls ys) p
  kept_by e y ys false true p q h = kept_same e.name y.name (kept_value nulls e.value) (kept_value nulls y.value) (all_kept nulls ys) p q
  kept_by e y ys false false p q h =
      bind_assoc (inserted old_name e ys) (λ zs. Some (y ∷ zs)) (all_kept nulls)
      ∙ kept_above e.name y.name (kept_value nulls e.value) (kept_value nulls y.value) (inserted old_name e ys) (all_kept nulls ys) p q h

  kept_inserted : (e : old.Entry) (es : List old.Entry) → (inserted old_name e es >>= all_kept nulls) ≡ (kept nulls e >>= λ f. all_kept nulls es >>= λ fs. inserted name_of f fs)
  kept_inserted e [] = put_one e.name (kept_value nulls e.value)
  kept_inserted e (y ∷ ys) = kept_by e y ys (before e.name y.name) (bytes_eq e.name y.name) refl refl (kept_inserted e ys)

  kept_value_first : (x : Name) (w : old.Value) (u : Option (Option Term)) (others : Option (List old.Entry)) → kept_value nulls w ≡ u
      → ((others >>= λ es. inserted old_name (record { name = x; value = w }) es) >>= all_kept nulls) ≡ ((others >>= all_kept nulls) >>= put name_of (keep x u))
  kept_value_first x w u others e =
      bind_assoc others (λ es. inserted old_name (record { name = x; value = w }) es) (all_kept nulls)
      ∙ bind_same others (λ es. inserted old_name (record { name = x; value = w }) es >>= all_kept nulls) (λ es. keep x u >>= λ f. all_kept nulls es >>= λ fs. inserted name_of f fs)
      (λ es. kept_inserted (record { name = x; value = w }) es ∙ ap (λ o. keep x o >>= λ f. all_kept nulls es >>= λ fs. inserted name_of f fs) e)
      ∙ by u
    where
      by : (u : Option (Option Term)) → (others >>= λ es. keep x u >>= λ f. all_kept nulls es >>= λ fs. inserted name_of f fs) ≡ ((others >>= all_kept nulls) >>= put name_of (keep x u))
      by None = bind_none others ∙ sym (bind_none (others >>= all_kept nulls))
      by (Some v) = sym (bind_assoc others (all_kept nulls) (λ fs. inserted name_of (record { name = x; value = v }) fs))

  entered_kept : (key : Option Name) (value : Option old.Value) (u : Option (Option Term)) (others : Option (List old.Entry)) → u ≡ (value >>= kept_value nulls)
      → (old.entered key value others >>= all_kept nulls) ≡ ((others >>= all_kept nulls) >>= put name_of (key >>= λ x. keep x u))
  entered_kept None value u others e = sym (bind_none (others >>= all_kept nulls))
  entered_kept (Some x) None u others e = sym (ap (λ o. (others >>= all_kept nulls) >>= put name_of (keep x o)) e ∙ bind_none (others >>= all_kept nulls))
  entered_kept (Some x) (Some w) u others e = kept_value_first x w u others (sym e)

  -- the entries of a map are those that are wanted, put one after another
  pub entries_kept : (ps : Pairs) → (entries_of b ps >>= all_kept nulls) ≡ all_put name_of [] (wanted ps)
  entries_kept no_pairs = refl
  entries_kept (more_pairs k v ps) =
      entered_kept (label_of k) (old.value_of v (part b v).term) (value_read nulls v (part b v).term >>= value_in) (entries_of b ps) (value_same v)
      ∙ ap (λ o. o >>= put name_of (wanted_entry nulls k v (part b v).term)) (entries_kept ps)

-- The row of imports.
use Rattle.std.specs.Prelude.{◌≡◌, ℕ, ◌==◌, Bool, true, false, if◌then◌else◌, List, [], ◌∷◌, ◌++◌, length, map, Option, Some, None, refl}
use Rattle.std.proofs.Common.{sym, ◌∙◌, ap}
use Rattle.std.proofs.lemmas.List.{append_assoc}
use Rattle.dh_syntax.specs.declared.expressions.Op.TheVariants as ops
use Rattle.dh_syntax.specs.declared.locations.Digest.{Digest}
use Rattle.dh_syntax.specs.declared.locations.Loc.{Loc}
use Rattle.dh_syntax.specs.declared.locations.Loc.TheVariants as locs
use Rattle.dh_syntax.specs.declared.locations.Mode.{Mode}
use Rattle.dh_syntax.specs.declared.locations.Url.{Url}
use Rattle.dh_syntax.specs.Bytes.BinaryItems.{Item}
use Rattle.dh_syntax.specs.Bytes.BinaryLeaves as leaf
use Rattle.dh_syntax.specs.Bytes.BinaryLeaves.{◌>>=◌, check, characters_of, inserted, is_null, unsigned_of, label_of, named_label}
use Rattle.dh_syntax.specs.Bytes.BinaryRead as old
use Rattle.dh_syntax.specs.Bytes.BinaryRead.{Part, operator, plain_row}
use Rattle.dh_syntax.specs.Expressions.Numbers.{eq, le}
use Rattle.dh_syntax.specs.Expressions.Spellable.{is_component, is_environment, is_segment, is_host}
use Rattle.dh_syntax.specs.Expressions.Tree.{Node, end, Term}
use Rattle.dh_binary.specs.Machine.{called, counted, Place, finished, importing, moding, locating, components, headers, hosting, segments, environment, Start, import_at, path_location, url_location, located, scheme_fits, hashed, taken, queried, when, fill}
use Rattle.dh_binary.specs.Inside.Terms.{terms}
use Rattle.dh_binary.proofs.Parts.{hold, reads_parts}
use Rattle.dh_binary.proofs.Rows.{none, bind_assoc, bind_same, bind_none, step}
use Rattle.dh_binary.proofs.NodeRows.{from, null_step, hold_bind, assoc2}

module _ (b : Bool) where
  -- ---- [24, digest, mode, scheme, ..]

  abbrev items_in : List Part → List Item
  items_in ps = map (λ p. p.item) ps

  abbrev import_made : Start → Loc → Option Term
  import_made h l = Some (import_at terms h l)

  components_read : (h : Start) (k : ℕ) (cs : List (List ℕ)) (p : Part) (ps : List Part) → reads_parts b (components h k cs) (p ∷ ps) ≡ hold (leaf.components_of (items_in (p ∷ ps)) >>= λ ds. import_made h (path_location terms k (cs ++ ds)))
  components_read h k cs p [] =
      step (leaf.spelled is_component p.item) called (λ v. reads_parts b (fill terms (components h k cs) v) []) (λ c. import_made h (path_location terms k (cs ++ c ∷ []))) (λ c. refl)
      ∙ ap hold (sym (bind_assoc (leaf.spelled is_component p.item) (λ c. Some (c ∷ [])) (λ ds. import_made h (path_location terms k (cs ++ ds)))))
  components_read h k cs p (q ∷ ps) =
      step (leaf.spelled is_component p.item) called (λ v. reads_parts b (fill terms (components h k cs) v) (q ∷ ps)) (λ c. leaf.components_of (items_in (q ∷ ps)) >>= λ ds. import_made h (path_location terms k (cs ++ c ∷ ds)))
      (λ c. components_read h k (cs ++ c ∷ []) q ps ∙ ap hold (bind_same (leaf.components_of (items_in (q ∷ ps))) (λ ds. import_made h (path_location terms k ((cs ++ c ∷ []) ++ ds))) (λ ds. import_made h (path_location terms k (cs ++ c ∷ ds))) (λ ds. ap (λ xs. import_made h (path_location terms k xs)) (append_assoc cs (c ∷ []) ds))))
      ∙ ap hold (sym (assoc2 b (leaf.spelled is_component p.item) (leaf.components_of (items_in (q ∷ ps))) (λ c ds. c ∷ ds) (λ ds. import_made h (path_location terms k (cs ++ ds)))))

  pub paths_read : (h : Start) (k : ℕ) (g : List (List ℕ) → Loc) → ((cs : List (List ℕ)) → path_location terms k cs ≡ g cs) → (ps : List Part) → from b (when (le 1 (length ps)) (components h k [])) ps ≡ hold ((leaf.components_of (items_in ps) >>= λ cs. Some (g cs)) >>= import_made h)
  unfolding from
  paths_read h k g e [] = refl
  paths_read h k g e (p ∷ ps) =
      components_read h k [] p ps
      ∙ ap hold (bind_same (leaf.components_of (items_in (p ∷ ps))) (λ ds. import_made h (path_location terms k ds)) (λ ds. import_made h (g ds)) (λ ds. ap (import_made h) (e ds))
      ∙ sym (bind_assoc (leaf.components_of (items_in (p ∷ ps))) (λ cs. Some (g cs)) (import_made h)))

  -- a URL whose first components are these
  abbrev begun_url : List (List ℕ) → Url → Url
  begun_url cs u = record { host = u.host; comps = cs ++ u.comps; query = u.query }

  segments_read : (h : Start) (s : Bool) (host : List ℕ) (cs : List (List ℕ)) (p q : Part) (ps : List Part) → reads_parts b (segments h s host cs) (p ∷ q ∷ ps) ≡ hold (leaf.url_from host (items_in (p ∷ q ∷ ps)) >>= λ u. import_made h (url_location terms s (begun_url cs u)))
  segments_read h s host cs p q [] =
      step (leaf.spelled is_segment p.item) called (λ v. reads_parts b (fill terms (segments h s host cs) v) (q ∷ [])) (λ c. leaf.query_of q.item >>= λ r. import_made h (url_location terms s (record { host = host; comps = cs ++ c ∷ []; query = r })))
      (λ c. step (leaf.query_of q.item) queried (λ v. reads_parts b (fill terms (segments h s host (cs ++ c ∷ [])) v) []) (λ r. import_made h (url_location terms s (record { host = host; comps = cs ++ c ∷ []; query = r }))) (λ r. refl))
      ∙ ap hold (sym (assoc2 b (leaf.spelled is_segment p.item) (leaf.query_of q.item) (λ c r. record { host = host; comps = c ∷ []; query = r }) (λ u. import_made h (url_location terms s (begun_url cs u)))))
  segments_read h s host cs p q (r ∷ ps) =
      step (leaf.spelled is_segment p.item) called (λ v. reads_parts b (fill terms (segments h s host cs) v) (q ∷ r ∷ ps)) (λ c. leaf.url_from host (items_in (q ∷ r ∷ ps)) >>= λ u. import_made h (url_location terms s (begun_url cs (record u { comps = c ∷ u.comps }))))
      (λ c. segments_read h s host (cs ++ c ∷ []) q r ps ∙ ap hold (bind_same (leaf.url_from host (items_in (q ∷ r ∷ ps))) (λ u. import_made h (url_location terms s (begun_url (cs ++ c ∷ []) u))) (λ u. import_made h (url_location terms s (begun_url cs (record u { comps = c ∷ u.comps }))))
      (λ u. ap (λ xs. import_made h (url_location terms s (record { host = u.host; comps = xs; query = u.query }))) (append_assoc cs (c ∷ []) u.comps))))
      ∙ ap hold (sym (assoc2 b (leaf.spelled is_segment p.item) (leaf.url_from host (items_in (q ∷ r ∷ ps))) (λ c u. record u { comps = c ∷ u.comps }) (λ u. import_made h (url_location terms s (begun_url cs u)))))

  if_bind : {A B : Type 0} (c : Bool) (o : Option A) (g : A → Option B) → ((if c then o else None) >>= g) ≡ (if c then (o >>= g) else None)
  if_bind true o g = refl
  if_bind false o g = refl

  if_none : {A : Type 0} (c : Bool) → (if c then None else None) ≡ none {B = A} c
  if_none true = refl
  if_none false = refl

  pub url_read : (h : Start) (s : Bool) (g : Url → Loc) → ((u : Url) → url_location terms s u ≡ g u) → (ps : List Part) → from b (when (le 4 (length ps)) (headers h s)) ps ≡ hold ((leaf.url_of (items_in ps) >>= λ u. Some (g u)) >>= import_made h)
  unfolding from
  url_read h s g e [] = refl
  url_read h s g e (n ∷ []) = refl
  url_read h s g e (n ∷ host ∷ []) = sym (ap (λ o. hold ((o >>= λ u. Some (g u)) >>= import_made h)) (ap (λ o. if is_null n.item then o else None) (bind_none (leaf.spelled is_host host.item)) ∙ if_none (is_null n.item)))
  url_read h s g e (n ∷ host ∷ p ∷ []) = sym (ap (λ o. hold ((o >>= λ u. Some (g u)) >>= import_made h)) (ap (λ o. if is_null n.item then o else None) (bind_none (leaf.spelled is_host host.item)) ∙ if_none (is_null n.item)))
  url_read h s g e (n ∷ host ∷ p ∷ q ∷ ps) =
      null_step n.item (λ v. reads_parts b (fill terms (headers h s) v) (host ∷ p ∷ q ∷ ps)) (leaf.spelled is_host host.item >>= λ x. leaf.url_from x (items_in (p ∷ q ∷ ps)) >>= λ u. import_made h (g u))
      (step (leaf.spelled is_host host.item) called (λ v. reads_parts b (fill terms (hosting h s) v) (p ∷ q ∷ ps)) (λ x. leaf.url_from x (items_in (p ∷ q ∷ ps)) >>= λ u. import_made h (g u))
      (λ x. segments_read h s x [] p q ps ∙ ap hold (bind_same (leaf.url_from x (items_in (p ∷ q ∷ ps))) (λ u. import_made h (url_location terms s (begun_url [] u))) (λ u. import_made h (g u)) (λ u. ap (import_made h) (e u)))))
      ∙ ap hold (sym (bind_assoc (leaf.url_of (items_in (n ∷ host ∷ p ∷ q ∷ ps))) (λ u. Some (g u)) (import_made h) ∙ if_bind (is_null n.item) (leaf.spelled is_host host.item >>= λ x. leaf.url_from x (items_in (p ∷ q ∷ ps))) (λ u. import_made h (g u))
      ∙ ap (λ o. if is_null n.item then o else None) (bind_assoc (leaf.spelled is_host host.item) (λ x. leaf.url_from x (items_in (p ∷ q ∷ ps))) (λ u. import_made h (g u)))))

  environment_read : (h : Start) (ps : List Part) → from b (when (eq (length ps) 1) (environment h)) ps ≡ hold ((leaf.variable_of (items_in ps) >>= λ x. Some (locs.Env x)) >>= import_made h)
  unfolding from
  environment_read h [] = refl
  environment_read h (x ∷ []) =
      step (leaf.spelled is_environment x.item) called (λ v. reads_parts b (fill terms (environment h) v) []) (λ y. import_made h (locs.Env y)) (λ y. refl)
      ∙ ap hold (sym (bind_assoc (leaf.spelled is_environment x.item) (λ y. Some (locs.Env y)) (import_made h)))
  environment_read h (x ∷ y ∷ ps) = refl

  missing_read : (h : Start) (ps : List Part) → from b (when (eq (length ps) 0) (finished (import_at terms h locs.Missing))) ps ≡ hold (leaf.missing_of (items_in ps) >>= import_made h)
  unfolding from
  missing_read h [] = refl
  missing_read h (x ∷ ps) = refl

  choose : (h : Start) (ps : List Part) (c : Bool) (f g : Bool) (p q : Place Term) (k l : Option Loc) → from b (when f p) ps ≡ hold (k >>= import_made h) → from b (when g q) ps ≡ hold (l >>= import_made h)
      → from b (when (if c then f else g) (if c then p else q)) ps ≡ hold ((if c then k else l) >>= import_made h)
  choose h ps true f g p q k l x y = x
  choose h ps false f g p q k l x y = y

  located_read : (h : Start) (n : ℕ) (ps : List Part) → from b (when (scheme_fits n (length ps)) (located terms h n)) ps ≡ hold (leaf.location_by n (items_in ps) >>= import_made h)
  unfolding from
  located_read h n ps =
      choose h ps (n == 0) _ _ _ _ _ _ (url_read h false locs.Http (λ u. refl) ps)
      (choose h ps (n == 1) _ _ _ _ _ _ (url_read h true locs.Https (λ u. refl) ps)
      (choose h ps (n == 2) _ _ _ _ _ _ (paths_read h 2 locs.Abs (λ u. refl) ps)
      (choose h ps (n == 3) _ _ _ _ _ _ (paths_read h 3 locs.Here (λ u. refl) ps)
      (choose h ps (n == 4) _ _ _ _ _ _ (paths_read h 4 locs.Parent (λ u. refl) ps)
      (choose h ps (n == 5) _ _ _ _ _ _ (paths_read h 5 locs.Home (λ u. refl) ps)
      (choose h ps (n == 6) _ _ _ _ _ _ (environment_read h ps)
      (last (n == 7) (missing_read h ps))))))))
    where
      last : (c : Bool) → from b (when (eq (length ps) 0) (finished (import_at terms h locs.Missing))) ps ≡ hold (leaf.missing_of (items_in ps) >>= import_made h)
          → from b (when (if c then eq (length ps) 0 else false) (finished (import_at terms h locs.Missing))) ps ≡ hold ((if c then leaf.missing_of (items_in ps) else None) >>= import_made h)
      last true x = x
      last false x = refl

  scheme_read : (h : Start) (c : Bool) (n : ℕ) (ps : List Part) → ((if c then Some (counted n) else None) >>= λ v. reads_parts b (fill terms (locating h) v) ps) ≡ from b (when c (located terms h n)) ps
  unfolding from
  scheme_read h true n ps = refl
  scheme_read h false n ps = refl

  assoc4 : {A B C D E F : Type 0} (o : Option A) (p : Option B) (q : Option C) (r : C → Option D) (h : A → B → D → E) (g : E → Option F) → ((o >>= λ t. p >>= λ f. q >>= λ n. r n >>= λ l. Some (h t f l)) >>= g) ≡ (o >>= λ t. p >>= λ f. q >>= λ n. r n >>= λ l. g (h t f l))
  assoc4 None p q r h g = refl
  assoc4 (Some t) None q r h g = refl
  assoc4 (Some t) (Some f) None r h g = refl
  assoc4 (Some t) (Some f) (Some n) r h g = bind_assoc (r n) (λ l. Some (h t f l)) g

  abbrev start_of : Option Digest → Mode → Start
  start_of d how = record { digest = d; mode = how }

  pub import_row : (ps : List Part) → from b (when (le 3 (length ps)) importing) ps ≡ hold (old.import_term ps)
  unfolding from
  import_row [] = refl
  import_row (d ∷ []) = refl
  import_row (d ∷ m ∷ []) = refl
  import_row (d ∷ m ∷ s ∷ ps) =
      step (leaf.digest_of d.item) hashed (λ v. reads_parts b (fill terms importing v) (m ∷ s ∷ ps)) (λ t. leaf.mode_of m.item >>= λ f. unsigned_of s.item >>= λ n. leaf.location_by n (items_in ps) >>= import_made (start_of t f))
      (λ t. step (leaf.mode_of m.item) taken (λ v. reads_parts b (fill terms (moding t) v) (s ∷ ps)) (λ f. unsigned_of s.item >>= λ n. leaf.location_by n (items_in ps) >>= import_made (start_of t f))
      (λ f. bind_assoc (unsigned_of s.item) (λ n. when (scheme_fits n (length ps)) (counted n)) (λ v. reads_parts b (fill terms (locating (start_of t f)) v) ps)
      ∙ bind_same (unsigned_of s.item) (λ n. when (scheme_fits n (length ps)) (counted n) >>= λ v. reads_parts b (fill terms (locating (start_of t f)) v) ps) (λ n. hold (leaf.location_by n (items_in ps) >>= import_made (start_of t f)))
      (λ n. scheme_read (start_of t f) (scheme_fits n (length ps)) n ps ∙ located_read (start_of t f) n ps)
      ∙ hold_bind (unsigned_of s.item) (λ n. leaf.location_by n (items_in ps) >>= import_made (start_of t f))))
      ∙ ap hold (sym (assoc4 (leaf.digest_of d.item) (leaf.mode_of m.item) (unsigned_of s.item) (λ n. leaf.location_by n (items_in ps)) (λ t f l. record { loc = l; mode = f; digest = t }) (λ i. Some (Node (ops.Import i) end))))

-- The digests behind the imports of an expression are those of the keys that the walk writes.
use Rattle.std.specs.Prelude.{◌≡◌, ◌≤◌, ◌-◌, ℕ, zero, suc, ◌++◌, ◌&&◌, Bool, true, false, if◌then◌else◌, List, [], ◌∷◌, length, drop, take, map, replicate, Option, Some, None, is_none, IfSome, IsSome, slice_set, refl}
use Rattle.std.specs.Option.{option_map}
use Rattle.std.proofs.Common.{ap, sym, ◌∙◌, subst, arith, append_assoc, length-append}
use Rattle.std.proofs.Math.Seq.{set-append_seam, take-append_seam}
use Rattle.std.proofs.lemmas.List.{length-replicate, replicate-append-replicate, map-append, length-drop, length-map}
use Rattle.std.proofs.lemmas.List.Elements.{All-nil, All-cons}
use Rattle.dh_syntax.specs.declared.locations.Digest.{Digest}
use Rattle.dh_syntax.specs.declared.locations.Import.{Import}
use Rattle.dh_syntax.specs.declared.locations.Key.{Key}
use Rattle.dh_imports.specs.declared.outcomes.Blame.{Blame}
use Rattle.dh_imports.specs.declared.outcomes.Outcome as program
use Rattle.dh_imports.specs.declared.outcomes.Outcome.TheVariants as variants
use Rattle.dh_imports.specs.declared.outcomes.Why.TheVariants as whys
use Rattle.dh_syntax.specs.Expressions.Bridge.{term}
use Rattle.dh_syntax.specs.Expressions.Tree.{Row as Parts, Leaf, Node, end, kid, Name, Var, Term}
use Rattle.dh_imports.specs.Freezing.{takes_content, digest_behind, goes_on, own_digest, digests_behind, digests_behind_row}
use Rattle.dh_syntax.specs.Imports.Keys.{chained, key_eq}
use Rattle.dh_syntax.specs.Bytes.Digests.{digest_of}
use Rattle.dh_imports.specs.Outcomes.{Outcome, plain, of_blame}
use Rattle.dh_imports.specs.Walk.{Form, importing, choosing, other, form_of, Walked, Ready, Fails, Turns, Needs, allowed, by_outcome, is_sane, walk, walk_key}
use Rattle.dh_laws.proofs.KeyOrder.{some-equal}
use Rattle.dh_demand.specs.declared.scans.Edge.{Edge}
use Rattle.dh_demand.specs.declared.ends.Next.{Next}
use Rattle.dh_demand.specs.declared.ends.Next.TheVariants as next
use Rattle.dh_demand.specs.Digests.{known_digest, digest_at, digests_at, HasValue, HaveValues}
use Rattle.dh_demand.specs.Results.{Row, key_at, number_of, ask_of}
use Rattle.dh_demand.specs.Scans.{IsEdge, own_imports, imports, imports_of_parts}
use Rattle.dh_demand.specs.Nexts.{IsNext}
use Rattle.dh_demand.specs.Inside.Frozen.{takes, frozen, put, freezing}
use Rattle.dh_demand.specs.Inside.Seen.{form_by, chooses, begins, own_key, seen, seen_row, written}
use Rattle.dh_demand.proofs.Numbers.{stands}
use Rattle.dh_demand.proofs.Seeing.{seen-length}
use Rattle.dh_demand.proofs.Visiting.{Blamed, fault, looped, blamed}

-- what has no number has no outcome
unasked : (rows : List Row) (k : Key) → number_of rows k ≡ None → ask_of rows k ≡ None
unasked [] k h = refl
unasked (r ∷ rs) k h = go (key_eq r.0 k) (λ e. unasked rs k e) h
  where
    later : (o : Option ℕ) → option_map suc o ≡ None → o ≡ None
    later None h = refl
    later (Some n) h = let e : ⊥ = cc in absurd e

    go : (b : Bool) → (number_of rs k ≡ None → ask_of rs k ≡ None) → (if b then Some 0 else option_map suc (number_of rs k)) ≡ None → (if b then option_map plain r.1 else ask_of rs k) ≡ None
    go true again h = let e : ⊥ = cc in absurd e
    go false again h = again (later (number_of rs k) h)

module _ (rows : List Row) where
  abbrev D : Bool → Term → List (Option Digest)
  D here e = digests_behind (ask_of rows) here e

  abbrev R : Form → Bool → Parts Var Name → List (Option Digest)
  R f here r = digests_behind_row (ask_of rows) f here r

  abbrev W : Key → Walked Term
  W k = walk_key None (ask_of rows) k

  -- ---- the digest behind an import, by its key

  abbrev digest_for : Key → Walked Term → Option Digest
  digest_for k (Ready v) = if is_none k.digest && takes_content k.mode then Some (digest_of v) else None
  digest_for k (Fails b) = None
  digest_for k (Turns j) = None
  digest_for k (Needs j) = None

  for_import : (i : Import) (w : Walked Term) → digest_behind i w ≡ digest_for (chained None i) w
  for_import i (Ready v) = refl
  for_import i (Fails b) = refl
  for_import i (Turns j) = refl
  for_import i (Needs j) = refl

  abbrev behind : Option Key → Option Digest
  behind None = None
  behind (Some k) = digest_for k (W k)

  -- ---- where the walk does not come

  own_none : (f : Form) → own_digest (ask_of rows) false f ≡ replicate (own_imports f) None
  own_none (importing i) = refl
  own_none choosing = refl
  own_none other = refl

  mutual
    none_behind : (e : Term) → D false e ≡ replicate (imports e) None
    none_behind (Leaf v) = refl
    none_behind (Node op r) =
        ap (λ ds. ds ++ R (form_of op) false r) (own_none (form_of op)) ∙ ap (λ ds. replicate (own_imports (form_of op)) None ++ ds) (none_behind_row (form_of op) r)
        ∙ replicate-append-replicate (own_imports (form_of op)) (imports_of_parts r) None

    none_behind_row : (f : Form) (r : Parts Var Name) → R f false r ≡ replicate (imports_of_parts r) None
    none_behind_row f end = refl
    none_behind_row f (kid b e r) =
        ap (λ ds. ds ++ R f false r) (none_behind e) ∙ ap (λ ds. replicate (imports e) None ++ ds) (none_behind_row f r) ∙ replicate-append-replicate (imports e) (imports_of_parts r) None

  none_for : (n : ℕ) → replicate n None ≡ map behind (replicate n None)
  none_for zero = refl
  none_for (suc n) = ap (λ ds. None ∷ ds) (none_for n)

  -- ---- the parts of a node are walked by the same rules

  chooses_all : (r : Parts Var Name) → chooses true choosing r ≡ true
  chooses_all end = refl
  chooses_all (kid b e end) = refl
  chooses_all (kid b e (kid c d end)) = refl
  chooses_all (kid b e (kid c d (kid x f r))) = refl

  -- those of an import are walked as those of any node
  row_alike : (i : Import) (here : Bool) (r : Parts Var Name) → R (importing i) here r ≡ R other here r
  row_alike i here end = refl
  row_alike i here (kid b e r) =
      let w = walk None (ask_of rows) e in
      ap (λ ds. D here e ++ ds) (row_alike i (here && goes_on (importing i) w) r ∙ ap (λ b. R other (here && b) r) (walks_alike w))
    where
      walks_alike : (w : Walked Term) → goes_on (importing i) w ≡ goes_on other w
      walks_alike (Ready v) = refl
      walks_alike (Fails b) = refl
      walks_alike (Turns j) = refl
      walks_alike (Needs k) = refl

  abbrev see : Term → List (Option Key)
  see e = seen (freezing rows) true e

  abbrev see_row : Bool → Bool → Parts Var Name → List (Option Key)
  see_row choice here r = seen_row (freezing rows) true choice here r

  behind_node : (f : Form) (r : Parts Var Name) → ((choice : Bool) → R (form_by choice) true r ≡ map behind (see_row choice true r))
      → own_digest (ask_of rows) true f ++ R f true r ≡ map behind (own_key None f ++ see_row (chooses true f r) (begins true f) r)
  behind_node (importing i) r row =
      ap (λ ds. digest_behind i (W (chained None i)) ∷ ds) (row_alike i true r ∙ row false) ∙ ap (λ d. d ∷ map behind (see_row false true r)) (for_import i (W (chained None i)))
  behind_node choosing r row = row true ∙ sym (ap (λ b. map behind (see_row b true r)) (chooses_all r))
  behind_node other r row = row false

  mutual
    behind_seen : (e : Term) → D true e ≡ map behind (see e)
    behind_seen (Leaf v) = refl
    behind_seen (Node op r) = behind_node (form_of op) r (λ choice. behind_row choice true r)

    behind_row : (choice here : Bool) (r : Parts Var Name) → R (form_by choice) here r ≡ map behind (see_row choice here r)
    behind_row choice here end = refl
    behind_row choice true (kid b e r) =
        let here = goes_on (form_by choice) (walk None (ask_of rows) e) in
        ap (λ ds. ds ++ R (form_by choice) here r) (behind_seen e) ∙ ap (λ ds. map behind (see e) ++ ds) (behind_row choice here r) ∙ sym (map-append behind (see e) (see_row choice here r))
    behind_row choice false (kid b e r) =
        let none = replicate (imports e) None in
        ap (λ ds. ds ++ R (form_by choice) false r) (none_behind e ∙ none_for (imports e)) ∙ ap (λ ds. map behind none ++ ds) (behind_row choice false r)
        ∙ sym (map-append behind none (see_row choice false r))

  -- ---- an import

  -- a number and the digest of its value, or neither
  data Taken : Option ℕ → Option Digest → Type 0 where
    none : Taken None None
    some : {n : ℕ} {d : Digest} → digest_at rows (Some n) ≡ Some d → Taken (Some n) (Some d)

  module _ (k : Key) where
    abbrev Ends : Option ℕ → Walked Term → Type 0
    Ends o w = Taken (if takes k w then o else None) (digest_for k w)

    by_takes : (n : ℕ) (v : Term) (t : Bool) → digest_at rows (Some n) ≡ Some (digest_of v) → Taken (if t then Some n else None) (if t then Some (digest_of v) else None)
    by_takes n v true h = some h
    by_takes n v false h = none

    by_allowed : (n : ℕ) (v : Term) (b : Bool) → digest_at rows (Some n) ≡ Some (digest_of v) → Ends (Some n) (if b then Ready v else Fails (record { at = None; why = whys.Cors k.loc }))
    by_allowed n v true h = by_takes n v (is_none k.digest && takes_content k.mode) h
    by_allowed n v false h = none

    by_blame : (n : ℕ) (b : Blame) (o : Outcome) → Blamed b o → Ends (Some n) (by_outcome None k (Some o))
    by_blame n b _ fault = none
    by_blame n b _ (looped q) = none

    by_known : (n : ℕ) (o : Option program.Outcome) (sane : Bool) → known_digest (Some o) ≡ digest_at rows (Some n)
        → Ends (Some n) (if sane then by_outcome None k (option_map plain o) else Fails (record { at = None; why = whys.Insane k.loc }))
    by_known n o false h = none
    by_known n None true h = none
    by_known n (Some (variants.Good v origin)) true h = by_allowed n (term v) (allowed None k origin) (sym h)
    by_known n (Some (variants.Bad b)) true h = by_blame n b (of_blame b.at b.why) (blamed b.at b.why)

    unnumbered : (o : Option Outcome) (sane : Bool) → o ≡ None → Ends None (if sane then by_outcome None k o else Fails (record { at = None; why = whys.Insane k.loc }))
    unnumbered o false h = none
    unnumbered None true h = none
    unnumbered (Some x) true h = let e : ⊥ = cc in absurd e

    is_taken : Taken (frozen rows k) (behind (Some k))
    is_taken = by_number (number_of rows k) refl
      where
        by_number : (o : Option ℕ) → number_of rows k ≡ o → Ends o (W k)
        by_number None h = unnumbered (ask_of rows k) (is_sane None k) (unasked rows k h)
        by_number (Some n) h =
            let s = stands rows k n h in
            let by : Option Outcome → Walked Term = λ a. if is_sane None k then by_outcome None k a else Fails (record { at = None; why = whys.Insane k.loc }) in
            subst (λ a. Ends (Some n) (by a)) (sym s.asked) (by_known n s.outcome (is_sane None k) (sym (ap known_digest s.outcome_is)))

  taken_digest : (a : Option ℕ) (d : Option Digest) → Taken a d → digest_at rows a ≡ d
  taken_digest _ _ none = refl
  taken_digest _ _ (some h) = h

  taken_value : (a : Option ℕ) (d : Option Digest) → Taken a d → IfSome a (HasValue rows)
  taken_value _ _ none = tt
  taken_value _ _ (some h) = subst IsSome (sym h) refl

  -- ---- what a visit writes

  module _ (k : Key) (e : Edge) (i : ℕ) (keys : List (Option ℕ)) where
    ready_takes : (w : Walked Term) → IsNext None rows w next.Ready → takes k w ≡ (is_none k.digest && takes_content k.mode)
    ready_takes (Ready v) h = refl
    ready_takes (Fails b) h = absurd h
    ready_takes (Turns j) h = absurd h
    ready_takes (Needs j) h = absurd h

    unready_takes : (w : Walked Term) (n : Next) → IsNext None rows w n → (n ≡ next.Ready → ⊥) → takes k w ≡ false
    unready_takes (Ready v) next.Ready h never = absurd (never refl)
    unready_takes (Ready v) (next.Need m) h never = absurd h
    unready_takes (Ready v) (next.Fault f) h never = absurd h
    unready_takes (Fails b) n h never = refl
    unready_takes (Turns j) n h never = refl
    unready_takes (Needs j) n h never = refl

    untaken : takes k (W k) ≡ false → keys ≡ put i (frozen rows k) keys
    untaken h = sym (ap (λ b. put i (if b then number_of rows k else None) keys) h)

    pub unready_kept : (n : Next) → IsNext None rows (W k) n → (n ≡ next.Ready → ⊥) → keys ≡ put i (frozen rows k) keys
    unready_kept n h never = untaken (unready_takes (W k) n h never)

    same_key : (j : Key) → IsEdge None rows k e → key_at rows e.key ≡ Some j → j ≡ k
    same_key j is known = some-equal (sym known ∙ (stands rows k e.key is.numbered).key_is)

    takes_by : (j : Key) (n : Next) (b : Bool) → IsEdge None rows k e → key_at rows e.key ≡ Some j → n ≡ next.Ready → IsNext None rows (W k) n → (is_none j.digest && takes_content j.mode) ≡ b → takes k (W k) ≡ b
    takes_by j n b is known ready h t =
        ready_takes (W k) (subst (λ (m : Next). IsNext None rows (W k) m) ready h) ∙ ap (λ (x : Key). is_none x.digest && takes_content x.mode) (sym (same_key j is known)) ∙ t

    pub taken_written : (j : Key) (n : Next) → IsEdge None rows k e → key_at rows e.key ≡ Some j → n ≡ next.Ready → IsNext None rows (W k) n → (is_none j.digest && takes_content j.mode) ≡ true
        → slice_set keys i (Some e.key) ≡ put i (frozen rows k) keys
    taken_written j n is known ready h t =
        ap (λ o. put i o keys) (sym is.numbered) ∙ sym (ap (λ b. put i (if b then number_of rows k else None) keys) (takes_by j n true is known ready h t))

    pub untaken_kept : (j : Key) (n : Next) → IsEdge None rows k e → key_at rows e.key ≡ Some j → n ≡ next.Ready → IsNext None rows (W k) n → (is_none j.digest && takes_content j.mode) ≡ false
        → keys ≡ put i (frozen rows k) keys
    untaken_kept j n is known ready h t = untaken (takes_by j n false is known ready h t)

  -- ---- all that is written

  abbrev number : Option Key → Option ℕ
  number None = None
  number (Some k) = frozen rows k

  put_seam : (pre post : List (Option ℕ)) (o : Option ℕ) → put (length pre) o (pre ++ None ∷ post) ≡ pre ++ o ∷ post
  put_seam pre post None = refl
  put_seam pre post (Some n) = set-append_seam pre None post (Some n)

  at_seam : (pre : List (Option ℕ)) (n : ℕ) → length (pre ++ replicate (suc n) None) - suc n ≡ length pre
  at_seam pre n = let a = length-append pre (replicate (suc n) None) in let b = length-replicate {A = Option ℕ} (suc n) None in omega arith

  written_keys : (es : List Edge) (vs : List (Option Key)) (pre : List (Option ℕ)) → length vs ≤ length es
      → written (freezing rows) es vs (pre ++ replicate (length es) None) ≡ pre ++ (map number vs ++ replicate (length (drop (length vs) es)) None)
  written_keys es [] pre h = refl
  written_keys [] (v ∷ vs) pre h = let e : ⊥ = omega arith in absurd e
  written_keys (e ∷ es) (None ∷ vs) pre h =
      ap (written (freezing rows) es vs) (sym (append_assoc pre (None ∷ []) (replicate (length es) None))) ∙ written_keys es vs (pre ++ None ∷ []) (omega arith)
      ∙ append_assoc pre (None ∷ []) _
  written_keys (e ∷ es) (Some k ∷ vs) pre h =
      ap (λ i. written (freezing rows) es vs (put i (frozen rows k) (pre ++ None ∷ replicate (length es) None))) (at_seam pre (length es))
      ∙ ap (written (freezing rows) es vs) (put_seam pre (replicate (length es) None) (frozen rows k) ∙ sym (append_assoc pre (frozen rows k ∷ []) (replicate (length es) None)))
      ∙ written_keys es vs (pre ++ frozen rows k ∷ []) (omega arith) ∙ append_assoc pre (frozen rows k ∷ []) _

  number_digests : (vs : List (Option Key)) → digests_at rows (map number vs) ≡ map behind vs
  number_digests [] = refl
  number_digests (None ∷ vs) = ap (λ ds. None ∷ ds) (number_digests vs)
  number_digests (Some k ∷ vs) = ap (λ d. d ∷ digests_at rows (map number vs)) (taken_digest (frozen rows k) (behind (Some k)) (is_taken k)) ∙ ap (λ ds. behind (Some k) ∷ ds) (number_digests vs)

  number_values : (vs : List (Option Key)) → HaveValues rows (map number vs)
  number_values [] = All-nil (λ (n : Option ℕ). IfSome n (HasValue rows))
  number_values (None ∷ vs) = All-cons (λ (n : Option ℕ). IfSome n (HasValue rows)) None (map number vs) tt (number_values vs)
  number_values (Some k ∷ vs) = All-cons (λ (n : Option ℕ). IfSome n (HasValue rows)) (frozen rows k) (map number vs) (taken_value (frozen rows k) (behind (Some k)) (is_taken k)) (number_values vs)

  module _ (e : Term) (es rest : List Edge) (n len : ℕ) (keys slots post first : List (Option ℕ)) (fits : imports e ≤ length es) (taken : keys ≡ take n (take len (slots ++ post))) (counted : n ≡ length es - length rest)
      (rest_is : rest ≡ drop (imports e) es) (len_is : len ≡ length es) (slots_are : slots ≡ written (freezing rows) es (see e) first) (none_first : first ≡ replicate (length es) None) where
    all_are : slots ≡ map number (see e) ++ replicate (length (drop (length (see e)) es)) None
    all_are =
        slots_are ∙ ap (written (freezing rows) es (see e)) none_first
        ∙ written_keys es (see e) [] (subst (λ i. i ≤ length es) (sym (seen-length (freezing rows) true e)) fits)

    keys_are : keys ≡ map number (see e)
    keys_are =
        let l = seen-length (freezing rows) true e in
        let d = ap length rest_is ∙ length-drop (imports e) es in
        let m = length-map (see e) number in
        let none = replicate (length (drop (length (see e)) es)) None in
        let a = ap length all_are ∙ length-append (map number (see e)) none in
        let b = length-replicate {A = Option ℕ} (length (drop (length (see e)) es)) None in
        let f = length-drop (length (see e)) es in
        let whole : len ≡ length slots = omega arith in
        let count : n ≡ length (map number (see e)) = omega arith in
        taken ∙ ap (λ i. take n (take i (slots ++ post))) whole ∙ ap (take n) (take-append_seam slots post ∙ all_are) ∙ ap (λ i. take i (map number (see e) ++ none)) count
        ∙ take-append_seam (map number (see e)) none

    pub frozen_digests : digests_at rows keys ≡ digests_behind (ask_of rows) true e
    frozen_digests = ap (digests_at rows) keys_are ∙ number_digests (see e) ∙ sym (behind_seen e)

    pub frozen_values : HaveValues rows keys
    frozen_values = subst (HaveValues rows) (sym keys_are) (number_values (see e))

-- The cache entries of keys, one after the other.
use Rattle.std.specs.Prelude.{◌≡◌, ◌<◌, ◌+◌, ◌-◌, ◌^◌, ◌||◌, ◌&&◌, ◌++◌, ℕ, Bool, true, false, List, [], ◌∷◌, length, map, take, slice_index_or, All, Option, Some, None, refl}
use Rattle.std.proofs.Common.{ap, sym, ◌∙◌, subst, arith, inl, inr, get_or}
use Rattle.std.proofs.lemmas.List.{take_more, get_or-take, length-take}
use Rattle.std.proofs.lemmas.List.Elements.{All-get_or}
use Rattle.dh_syntax.specs.declared.expressions.Expr.{Expr}
use Rattle.dh_syntax.specs.declared.locations.Digest.{Digest}
use Rattle.dh_imports.specs.declared.outcomes.Origin.{Origin}
use Rattle.dh_imports.specs.declared.outcomes.Outcome as program
use Rattle.dh_imports.specs.declared.outcomes.Outcome.TheVariants as variants
use Rattle.dh_imports.specs.declared.outcomes.Outcome.TheVariants.{Good, Bad}
use Rattle.dh_syntax.specs.Bytes.Binary.{enc}
use Rattle.dh_syntax.specs.Expressions.Bridge.{term}
use Rattle.dh_syntax.specs.Expressions.Nesting.{nesting}
use Rattle.dh_syntax.specs.Expressions.Numbers.{bytes_eq}
use Rattle.dh_syntax.specs.Expressions.Order.{before, ascending}
use Rattle.dh_syntax.specs.Expressions.Tree.{Term}
use Rattle.dh_imports.specs.Keeps.{digests_of}
use Rattle.dh_syntax.specs.Imports.Keys.{digest_rank, texts_before}
use Rattle.dh_imports.specs.Machine.{IsAmong}
use Rattle.dh_syntax.specs.Names.Alpha.{alpha}
use Rattle.dh_syntax.specs.Names.Indices.{IndicesBelow}
use Rattle.dh_syntax.proofs.Numbers.{and-true_left, and-true_right}
use Rattle.dh_laws.proofs.KeyOrder.{some-equal}
use Rattle.dh_import_laws.proofs.Wants.{among_left, among_right, among-split}
use Rattle.dh_demand.specs.Results.{outcome_at}
use Rattle.dh_record.specs.declared.rows.recorded.Entrant.{Entrant}
use Rattle.dh_record.specs.Keeping.{IsEntryAt, AreEntries, digest_of_entrant}
use Rattle.dh_record.specs.Sorting.{Rank, rank_at, Ascends}
use Rattle.dh_record.specs.Rows.{nobody, key_named, rows_of}
use Rattle.dh_record.specs.Values.{IsValue}
use Rattle.dh_record.proofs.Closed.{indices_more, value_indices}
use Rattle.dh_record.proofs.Decided.{outcome_stands}
use Rattle.dh_record.proofs.LeastFresh.{digests, digest_named}
use Rattle.dh_record.proofs.SortedNumbers.{among_at, ascends_at}

pub value_below : (e : Term) → IsValue e → IndicesBelow (2 ^ 32 - nesting e) e
value_below e v = indices_more (2 ^ 31) (2 ^ 32 - nesting e) e (let s = v.shallow in omega arith) (value_indices e v)

-- ---- one entry

pub good_value : (v w : Expr) (o p : Origin) → Some (variants.Good v o) ≡ Some (variants.Good w p) → v ≡ w
good_value v w o p h = ap (λ (x : Option program.Outcome). elim x [ None ↦ v | Some y ↦ elim y [ Good z q ↦ z | Bad b ↦ v ] ]) h

-- the outcome that is read at a number
pub valued_here : (keys : List Entrant) (n : ℕ) (x : program.Outcome) (v : Expr) (o : Origin) → n < length keys → outcome_at (rows_of keys) n ≡ Some (Some x) → x ≡ variants.Good v o
    → (slice_index_or keys n nobody).outcome ≡ Some (variants.Good v o)
valued_here keys n x v o l h p = some-equal (sym (outcome_stands keys n l) ∙ h) ∙ ap (λ (y : program.Outcome). Some y) p

-- a key with one value has one entry for its digest
pub one_entry : (keys : List Entrant) (n : ℕ) (v : Expr) (o : Origin) (d : Digest) (bytes : List ℕ) → (slice_index_or keys n nobody).outcome ≡ Some (variants.Good v o) → IsEntryAt keys n (d, bytes) → bytes ≡ enc (alpha (term v))
one_entry keys n v o d bytes h e = e.bytes_are ∙ ap (λ (x : Expr). enc (alpha (term x))) (good_value e.value v e.origin o (sym e.valued ∙ h))

-- ---- entries in their order

abbrev name : Digest × List ℕ → List ℕ
name p = (p.0).0

both : (a b : Bool) → a ≡ true → b ≡ true → (a && b) ≡ true
both a b p q = rw (p, q) refl

ascending_more : (ps : List (Digest × List ℕ)) (q : Digest × List ℕ) → ascending (digests_of ps) ≡ true → ((p : Digest × List ℕ) → IsAmong p ps → before (name p) (name q) ≡ true) → ascending (digests_of (ps ++ q ∷ [])) ≡ true
ascending_more [] q h f = refl
ascending_more (p ∷ []) q h f = both (before (name p) (name q)) true (f p (inl refl)) refl
ascending_more (p ∷ r ∷ ps) q h f = both (before (name p) (name r)) (ascending (digests_of (r ∷ ps ++ q ∷ []))) (and-true_left _ _ h) (ascending_more (r ∷ ps) q (and-true_right _ _ h) (λ x m. f x (inr m)))

-- of two digests the one is before the other by their ranks
digests_before : (d e : Digest) → texts_before (digest_rank (Some d) ∷ []) (digest_rank (Some e) ∷ []) ≡ true → before d.0 e.0 ≡ true
digests_before d e h = first (before d.0 e.0) (bytes_eq (digest_rank (Some d)) (digest_rank (Some e))) h
  where
    first : (a b : Bool) → (a || (b && false)) ≡ true → a ≡ true
    first true b h = refl
    first false true h = h
    first false false h = h

module _ (keys : List Entrant) (numbers : List ℕ) (inside : All (λ (n : ℕ). n < length keys) numbers) (ascends : Ascends (map digest_of_entrant keys) numbers) (i : ℕ) (l : i < length numbers)
    (kept : List (Digest × List ℕ)) (e : AreEntries keys (take i numbers) kept) where
  abbrev n : ℕ
  n = get_or numbers i 0

  more_numbers : take (i + 1) numbers ≡ take i numbers ++ n ∷ []
  more_numbers = take_more numbers i 0 l

  -- it has no entry
  pub entries_skip : ((d : Digest) (bytes : List ℕ) → ¬ IsEntryAt keys n (d, bytes)) → AreEntries keys (take (i + 1) numbers) kept
  entries_skip none =
      subst (λ (ns : List ℕ). AreEntries keys ns kept) (sym more_numbers)
      (record {
        sorted = e.sorted;
        members = λ p. (
          (λ m. let x = (e.members p).0 m in (x.0, among_left x.0 (take i numbers) (n ∷ []) x.1, x.2)),
          (λ x.
              elim (among-split x.0 (take i numbers) (n ∷ []) x.1) [
                | inl m ↦ (e.members p).1 (x.0, m, x.2)
                | inr m ↦ elim m [ inl q ↦ absurd (none p.0 p.1 (subst (λ (y : ℕ). IsEntryAt keys y p) (sym q) x.2)) | inr q ↦ absurd q ]
              ]),
        );
      })

  -- those before it come before it
  earlier : (p q : Digest × List ℕ) → IsAmong p kept → IsEntryAt keys n q → before (name p) (name q) ≡ true
  earlier p q m h =
      let x = (e.members p).0 m in
      let a = among_at x.0 (take i numbers) x.1 in
      let size = length-take i numbers in
      let under : a.0 < i = let b = a.1 in omega arith in
      let at : get_or numbers a.0 0 ≡ x.0 = sym (get_or-take i numbers a.0 0 under) ∙ a.2 in
      let x_in : x.0 < length keys = subst (λ (y : ℕ). y < length keys) at (All-get_or (λ (y : ℕ). y < length keys) numbers a.0 0 (omega arith) inside) in
      let n_in : n < length keys = All-get_or (λ (y : ℕ). y < length keys) numbers i 0 l inside in
      let up : texts_before (rank_at (digests keys) x.0) (rank_at (digests keys) n) ≡ true =
      subst (λ (y : ℕ). texts_before (rank_at (digests keys) y) (rank_at (digests keys) n) ≡ true) at (ascends_at (digests keys) numbers a.0 i ascends under l) in
      digests_before p.0 q.0
      (ap (λ (y : Option Digest). texts_before (digest_rank y ∷ []) (digest_rank (Some q.0) ∷ [])) (sym x.2.frozen)
      ∙ ap (λ (y : Option Digest). texts_before (digest_rank (key_named keys x.0).digest ∷ []) (digest_rank y ∷ [])) (sym h.frozen)
      ∙ ap (λ (y : Rank). texts_before y (digest_rank (key_named keys n).digest ∷ [])) (sym (digest_named keys x.0 x_in))
      ∙ ap (texts_before (rank_at (digests keys) x.0)) (sym (digest_named keys n n_in))
      ∙ up)

  -- it has this one
  pub entries_add : (q : Digest × List ℕ) → IsEntryAt keys n q → AreEntries keys (take (i + 1) numbers) (kept ++ q ∷ [])
  entries_add q h =
      subst (λ (ns : List ℕ). AreEntries keys ns (kept ++ q ∷ [])) (sym more_numbers)
      (record {
        sorted = ascending_more kept q e.sorted (λ p m. earlier p q m h);
        members = λ p. (
          (λ m.
              elim (among-split p kept (q ∷ []) m) [
                | inl k ↦ (let x = (e.members p).0 k in (x.0, among_left x.0 (take i numbers) (n ∷ []) x.1, x.2))
                | inr k ↦ elim k [ inl r ↦ (n, among_right n (take i numbers) (n ∷ []) (inl refl), subst (IsEntryAt keys n) r h) | inr r ↦ absurd r ]
              ]),
          (λ x.
              elim (among-split x.0 (take i numbers) (n ∷ []) x.1) [
                | inl m ↦ among_left p kept (q ∷ []) ((e.members p).1 (x.0, m, x.2))
                | inr m ↦ elim m [ inl r ↦ among_right p kept (q ∷ []) (inl (one_of p (subst (λ (y : ℕ). IsEntryAt keys y p) (sym r) x.2))) | inr r ↦ absurd r ]
              ]),
        );
      })
    where
      one_of : (p : Digest × List ℕ) → IsEntryAt keys n p → q ≡ p
      one_of p g =
          let d : q.0 ≡ p.0 = some-equal (sym h.frozen ∙ g.frozen) in
          let b : q.1 ≡ p.1 = h.bytes_are ∙ ap (λ (x : Expr). enc (alpha (term x))) (good_value h.value g.value h.origin g.origin (sym h.valued ∙ g.valued)) ∙ sym g.bytes_are in
          λ j. (d j, b j)

pub no_entries : (keys : List Entrant) (ns : List ℕ) → ns ≡ [] → AreEntries keys ns []
no_entries keys ns h = subst (λ (xs : List ℕ). AreEntries keys xs []) (sym h) (record { sorted = refl; members = λ p. ((λ m. absurd m), (λ x. absurd x.1)) })

-- More keys behind the others: what names keys by their numbers stays.
use Rattle.std.specs.Prelude.{◌≡◌, ◌<◌, ◌≤◌, ◌++◌, ℕ, Bool, true, false, if◌then◌else◌, List, [], ◌∷◌, length, map, All, Option, Some, None, Result, Ok, Err, slice_index_or, IfSome, refl}
use Rattle.std.specs.Option.{option_map}
use Rattle.std.proofs.Common.{ap, sym, ◌∙◌, subst, arith}
use Rattle.std.proofs.lemmas.List.{get_or_append_left, length-append, length-map}
use Rattle.std.proofs.lemmas.List.Elements.{All-nil, All-cons, All-head, All-tail, All-weaker, All-append, All-push}
use Rattle.dh_syntax.specs.declared.expressions.Expr.{Expr}
use Rattle.dh_syntax.specs.declared.faults.ParseFault.{ParseFault}
use Rattle.dh_syntax.specs.declared.locations.Key.{Key}
use Rattle.dh_syntax.specs.declared.locations.Loc.{Loc}
use Rattle.dh_syntax.specs.Expressions.Bridge.{term}
use Rattle.dh_syntax.specs.Expressions.Tree.{Term}
use Rattle.dh_syntax.specs.Imports.Keys.{key_eq}
use Rattle.dh_imports.specs.Outcomes.{plain}
use Rattle.dh_imports.specs.Records.{IsParsed}
use Rattle.dh_imports.specs.Walk.{keys_of}
use Rattle.dh_laws.proofs.KeyOrder.{none-some}
use Rattle.dh_ports.specs.declared.worlds.Got.TheVariants as gots
use Rattle.dh_demand.specs.declared.scans.Edge.{Edge}
use Rattle.dh_demand.specs.declared.scans.Scan.{Scan}
use Rattle.dh_demand.specs.Results.{Row, ask_of}
use Rattle.dh_demand.specs.Scans.{AreInside, Begins, Fits}
use Rattle.dh_demand.proofs.Numbers.{within}
use Rattle.dh_record.specs.declared.news.Noted.{Noted}
use Rattle.dh_record.specs.declared.news.Noted.TheVariants as noteds
use Rattle.dh_record.specs.declared.news.Parsed.{Parsed}
use Rattle.dh_record.specs.declared.news.Parsed.TheVariants as parseds
use Rattle.dh_record.specs.declared.rows.recorded.Entrant.{Entrant}
use Rattle.dh_record.specs.declared.rows.recorded.Text.{Text}
use Rattle.dh_record.specs.Brought.{IsScanned, imports_of, read_of}
use Rattle.dh_record.specs.Due.{IsValued}
use Rattle.dh_record.specs.Entering.{AreMore, AreEdges, IsNew}
use Rattle.dh_record.specs.Reading.{IsRead, IsScan}
use Rattle.dh_record.specs.Rows.{nobody, rows_of, row_of_entrant, key_named, known, outcome_of_number, limit_of, why_of, noted_by, parsed_by, scanned}
use Rattle.dh_record.specs.Values.{HasValue}
use Rattle.dh_record.proofs.NewKeys.{edge_grown}

-- ---- what a text is

parsed_same : (scan : Option Parsed) (edges : List Edge) → scanned (read_of scan edges) ≡ parsed_by scan
parsed_same None edges = refl
parsed_same (Some (parseds.Good e ks)) edges = refl
parsed_same (Some (parseds.Bad f)) edges = refl

pub noted_same : (got : Noted) (scan : Option Parsed) (edges : List Edge) → noted_by got (scanned (read_of scan edges)) ≡ noted_by got (parsed_by scan)
noted_same got scan edges = ap (noted_by got) (parsed_same scan edges)

pub is_parsed : (l : Loc) (got : Noted) (scan : Option Parsed) → IsScanned l got scan → IsParsed (noted_by got (parsed_by scan))
is_parsed l (noteds.Got (gots.Found f)) (Some (parseds.Good e ks)) h = h.0
is_parsed l (noteds.Got (gots.Found f)) (Some (parseds.Bad x)) h = h
is_parsed l (noteds.Got (gots.Found f)) None h = absurd h
is_parsed l (noteds.Got gots.Absent) scan h = tt
is_parsed l (noteds.Got (gots.Broken n)) scan h = tt
is_parsed l noteds.Failed scan h = tt

good_keys : (l : Loc) (got : Noted) (e : Expr) (ks : List Key) → IsScanned l got (Some (parseds.Good e ks)) → ks ≡ keys_of (Some l) (term e)
good_keys l (noteds.Got (gots.Found f)) e ks h = h.1
good_keys l (noteds.Got gots.Absent) e ks h = none-some refl (sym h)
good_keys l (noteds.Got (gots.Broken n)) e ks h = none-some refl (sym h)
good_keys l noteds.Failed e ks h = none-some refl (sym h)

edges_inside : (parent : Option Loc) (rows : List Row) (ks : List Key) (es : List Edge) → AreEdges parent rows ks es → AreInside rows es
edges_inside parent rows [] [] h = All-nil (λ (e : Edge). e.key < length rows)
edges_inside parent rows [] (e ∷ es) h = absurd h
edges_inside parent rows (k ∷ ks) [] h = absurd h
edges_inside parent rows (k ∷ ks) (e ∷ es) h = All-cons (λ (d : Edge). d.key < length rows) e es (within rows k e.key (h.0).numbered) (edges_inside parent rows ks es h.1)

edges_begin : (parent : Option Loc) (rows : List Row) (ks : List Key) (es : List Edge) → AreEdges parent rows ks es → Begins parent rows ks es
edges_begin parent rows [] es h = tt
edges_begin parent rows (k ∷ ks) [] h = absurd h
edges_begin parent rows (k ∷ ks) (e ∷ es) h = (h.0, edges_begin parent rows ks es h.1)

edges_fit : (parent : Option Loc) (rows : List Row) (e : Term) (es : List Edge) → AreEdges parent rows (keys_of parent e) es → Fits parent rows e es
edges_fit parent rows e es h = record { inside = edges_inside parent rows (keys_of parent e) es h; begins = edges_begin parent rows (keys_of parent e) es h }

pub is_read : (rows : List Row) (l : Loc) (got : Noted) (scan : Option Parsed) (edges : List Edge) → IsScanned l got scan → AreEdges (Some l) rows (imports_of scan) edges → IsScan rows l (read_of scan edges)
is_read rows l got None edges h d = tt
is_read rows l got (Some (parseds.Bad f)) edges h d = tt
is_read rows l got (Some (parseds.Good e ks)) edges h d = edges_fit (Some l) rows (term e) edges (subst (λ js. AreEdges (Some l) rows js edges) (good_keys l got e ks h) d)

-- ---- more keys

map_same : {A B : Type 0} (P : A → Type 0) (f g : A → B) (xs : List A) → ((x : A) → P x → f x ≡ g x) → All P xs → map f xs ≡ map g xs
map_same P f g [] same h = refl
map_same P f g (x ∷ xs) same h = λ i. same x (All-head P x xs h) i ∷ map_same P f g xs same (All-tail P x xs h) i

-- new keys have no outcome
new_asks : (es : List Entrant) (k : Key) → All IsNew es → ask_of (rows_of es) k ≡ None
new_asks [] k h = refl
new_asks (e ∷ es) k h = go (key_eq e.key k) (new_asks es k (All-tail IsNew e es h))
  where
    go : (b : Bool) → ask_of (rows_of es) k ≡ None → (if b then option_map plain e.outcome else ask_of (rows_of es) k) ≡ None
    go true p = ap (option_map plain) (All-head IsNew e es h).undecided
    go false p = p

asks_behind : (es more : List Entrant) (k : Key) → All IsNew more → ask_of (rows_of (es ++ more)) k ≡ ask_of (rows_of es) k
asks_behind [] more k h = new_asks more k h
asks_behind (e ∷ es) more k h = ap (λ a. if key_eq e.key k then option_map plain e.outcome else a) (asks_behind es more k h)

new_valued : (es : List Entrant) → All IsNew es → All IsValued es
new_valued es h = All-weaker IsNew IsValued one es h
  where
    one : (e : Entrant) → IsNew e → IsValued e
    one e n = subst (λ o. IfSome o HasValue) (sym n.undecided) tt

module _ (es more : List Entrant) where
  name_grown : (n : ℕ) → n < length es → key_named (es ++ more) n ≡ key_named es n
  name_grown n l = ap (λ (e : Entrant). e.key) (get_or_append_left es more nobody n l)

  outcome_grown : (n : ℕ) → n < length es → (slice_index_or (es ++ more) n nobody).outcome ≡ (slice_index_or es n nobody).outcome
  outcome_grown n l = ap (λ (e : Entrant). e.outcome) (get_or_append_left es more nobody n l)

  outcomes_behind : (ns : List ℕ) → All (λ (n : ℕ). n < length es) ns → map (outcome_of_number (es ++ more)) ns ≡ map (outcome_of_number es) ns
  outcomes_behind ns = map_same (λ (n : ℕ). n < length es) (outcome_of_number (es ++ more)) (outcome_of_number es) ns (λ n l. λ i. (name_grown n l i, known (outcome_grown n l i)))

  limits_behind : (ns : List ℕ) → All (λ (n : ℕ). n < length es) ns → map (limit_of (es ++ more)) ns ≡ map (limit_of es) ns
  limits_behind ns = map_same (λ (n : ℕ). n < length es) (limit_of (es ++ more)) (limit_of es) ns (λ n l. λ i. (name_grown n l i, why_of (outcome_grown n l i)))

  longer : length (rows_of es) ≤ length (rows_of (es ++ more))
  longer = let p = length-map es row_of_entrant in let q = length-map (es ++ more) row_of_entrant in let r = length-append es more in omega arith

  begins_grown : (parent : Option Loc) (ks : List Key) (ds : List Edge) → Begins parent (rows_of es) ks ds → Begins parent (rows_of (es ++ more)) ks ds
  begins_grown parent [] ds b = tt
  begins_grown parent (k ∷ ks) [] b = absurd b
  begins_grown parent (k ∷ ks) (d ∷ ds) b = (edge_grown parent es more k d b.0, begins_grown parent ks ds b.1)

  fits_grown : (parent : Option Loc) (e : Term) (ds : List Edge) → Fits parent (rows_of es) e ds → Fits parent (rows_of (es ++ more)) e ds
  fits_grown parent e ds f = record {
    inside = All-weaker (λ (d : Edge). d.key < length (rows_of es)) (λ (d : Edge). d.key < length (rows_of (es ++ more))) (λ d l. let m = longer in omega arith) ds f.inside;
    begins = begins_grown parent (keys_of parent e) ds f.begins;
  }

  read_grown : (t : Text) → IsRead (rows_of es) t → IsRead (rows_of (es ++ more)) t
  read_grown t r = go t.read r
    where
      go : (x : Option (Result Scan ParseFault)) → IsScan (rows_of es) t.loc x → IsScan (rows_of (es ++ more)) t.loc x
      go None h = tt
      go (Some (Ok s)) h = fits_grown (Some t.loc) (term s.expr) s.edges h
      go (Some (Err f)) h = tt

-- ---- the same of keys with more behind them

module _ (es es' : List Entrant) (ks : List Key) (m : AreMore es ks es') where
  by_rows : (P : List Entrant → Type 0) → P (es ++ m.more) → P es'
  by_rows P h = subst P (sym m.new_is) h

  as_many : length es ≤ length es'
  as_many = let p = ap length m.new_is in let q = length-append es m.more in omega arith

  pub numbers_more : (ns : List ℕ) → All (λ (n : ℕ). n < length es) ns → All (λ (n : ℕ). n < length es') ns
  numbers_more ns h = All-weaker (λ (n : ℕ). n < length es) (λ (n : ℕ). n < length es') (λ x l. let n = as_many in omega arith) ns h

  pub outcomes_more : (ns : List ℕ) → All (λ (n : ℕ). n < length es) ns → map (outcome_of_number es') ns ≡ map (outcome_of_number es) ns
  outcomes_more ns h = ap (λ xs. map (outcome_of_number xs) ns) m.new_is ∙ outcomes_behind es m.more ns h

  pub limits_more : (ns : List ℕ) → All (λ (n : ℕ). n < length es) ns → map (limit_of es') ns ≡ map (limit_of es) ns
  limits_more ns h = ap (λ xs. map (limit_of xs) ns) m.new_is ∙ limits_behind es m.more ns h

  pub asks_more : ask_of (rows_of es') ≡ ask_of (rows_of es)
  asks_more = ap (λ xs. ask_of (rows_of xs)) m.new_is ∙ (λ i k. asks_behind es m.more k m.are_new i)

  pub reads_more : (ts : List Text) → All (IsRead (rows_of es)) ts → All (IsRead (rows_of es')) ts
  reads_more ts h = by_rows (λ xs. All (IsRead (rows_of xs)) ts) (All-weaker (IsRead (rows_of es)) (IsRead (rows_of (es ++ m.more))) (read_grown es m.more) ts h)

  pub valued_more : All IsValued es → All IsValued es'
  valued_more h = by_rows (λ xs. All IsValued xs) (All-append IsValued es m.more h (new_valued m.more m.are_new))

pub all-push : {A : Type 0} (P : A → Type 0) (xs ys : List A) (x : A) → ys ≡ xs ++ x ∷ [] → All P xs → P x → All P ys
all-push P xs ys x p h k = subst (All P) (sym p) (All-push P xs x h k)

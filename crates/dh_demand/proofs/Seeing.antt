-- The one walk: where it comes to, and what it writes.
use Rattle.std.specs.Prelude.{◌≡◌, ◌<◌, ◌≤◌, ℕ, zero, suc, ◌+◌, ◌++◌, ◌&&◌, Bool, true, false, if◌then◌else◌, List, [], ◌∷◌, length, drop, replicate, Option, Some, None, refl}
use Rattle.std.proofs.Common.{ap, sym, ◌∙◌, subst, arith, get_or, length-append}
use Rattle.std.proofs.lemmas.List.{drop-drop, length-replicate}
use Rattle.dh_syntax.specs.declared.expressions.Expr.{Expr}
use Rattle.dh_syntax.specs.declared.expressions.Expr.TheVariants as expr
use Rattle.dh_syntax.specs.declared.expressions.Kid.{Kid}
use Rattle.dh_syntax.specs.declared.expressions.Op.{Op}
use Rattle.dh_syntax.specs.declared.locations.Key.{Key}
use Rattle.dh_syntax.specs.declared.locations.Loc.{Loc}
use Rattle.dh_syntax.specs.Expressions.Bridge.{term, row_of}
use Rattle.dh_syntax.specs.Expressions.Tree.{Row as Parts, Leaf, Node, end, kid, Name, Var, Term}
use Rattle.dh_syntax.specs.Imports.Keys.{chained}
use Rattle.dh_imports.specs.Freezing.{goes_on}
use Rattle.dh_imports.specs.Outcomes.{may_go_on}
use Rattle.dh_imports.specs.Walk.{Form, importing, choosing, other, form_of, Walked, Ready, Fails, Turns, Needs, and_then, in_order, walk_key, walk_node, walk, walks, keys_of_form, keys_of, keys_of_row}
use Rattle.dh_syntax.proofs.Bridge.{at_term-Var, at_term-Node}
use Rattle.dh_syntax.proofs.Rows.{row_of-drop_item, row_of-drop_all}
use Rattle.dh_demand.specs.declared.scans.Edge.{Edge}
use Rattle.dh_demand.specs.declared.ends.Next.{Next}
use Rattle.dh_demand.specs.declared.ends.Next.TheVariants as next
use Rattle.dh_demand.specs.declared.parts.Part.TheVariants as part
use Rattle.dh_demand.specs.Results.{Row}
use Rattle.dh_demand.specs.Scans.{text_key, Begins, own_imports, imports, imports_of_parts}
use Rattle.dh_demand.specs.Nexts.{IsNext}
use Rattle.dh_demand.specs.Inside.Parts.{part_of}
use Rattle.dh_demand.specs.Inside.Seen.{Sight, form_by, chooses, begins, own_key, where_it_comes, seen, seen_row, end_of, last, written, Came, WalksIn}
use Rattle.dh_demand.specs.Inside.Walking.{choice}
use Rattle.dh_demand.proofs.Edges.{begins_at_item, begins_after_item}
use Rattle.dh_demand.proofs.Nexting.{rebuilt, imported, chosen, others, other_next, choice_next, no_choice, other_keys, choice_keys, as_begins}
use Rattle.dh_demand.proofs.Visiting.{place_of_text}

-- ---- how walks end one after the other

last_stays : (choice : Bool) (before : Walked (Unit {0})) (ws : List (Walked Term)) → last choice false before ws ≡ before
last_stays choice before [] = refl
last_stays choice before (w ∷ ws) = last_stays choice before ws

last_one : (w : Walked Term) → last true true (Ready tt) (w ∷ []) ≡ choice (w ∷ [])
last_one (Ready e) = refl
last_one (Fails b) = refl
last_one (Turns j) = refl
last_one (Needs k) = refl

pub last_two : (v w : Walked Term) → last true true (Ready tt) (v ∷ w ∷ []) ≡ choice (v ∷ w ∷ [])
last_two (Ready e) w = refl
last_two (Turns j) w = refl
last_two (Needs k) w = refl
last_two (Fails b) w = go (may_go_on b.why)
  where
    go : (c : Bool) → last true c (Fails b) (w ∷ []) ≡ and_then (if c then w else Fails b) (λ e. Ready tt)
    go true = refl
    go false = refl

pub in_order_next : (parent : Option Loc) (rows : List Row) (ws : List (Walked Term)) (n : Next) → IsNext parent rows (last false true (Ready tt) ws) n → IsNext parent rows (in_order ws) n
in_order_next parent rows [] n h = rebuilt {Y = List Term} parent rows (Ready (tt {0})) (λ x. []) n h
in_order_next parent rows (Ready e ∷ ws) n h = rebuilt parent rows (in_order ws) (λ es. e ∷ es) n (in_order_next parent rows ws n h)
in_order_next parent rows (Fails b ∷ ws) n h = subst (λ (w : Walked (Unit {0})). IsNext parent rows w n) (last_stays false (Fails b) ws) h
in_order_next parent rows (Turns j ∷ ws) n h = subst (λ (w : Walked (Unit {0})). IsNext parent rows w n) (last_stays false (Turns j) ws) h
in_order_next parent rows (Needs k ∷ ws) n h = subst (λ (w : Walked (Unit {0})). IsNext parent rows w n) (last_stays false (Needs k) ws) h

-- ---- what is written

module _ {S : Type 0} (s : Sight S) where
  written-none : (es : List Edge) (n : ℕ) (m : List S) → written s es (replicate n None) m ≡ m
  written-none es zero m = refl
  written-none es (suc n) m = written-none (drop 1 es) n m

  drop-next : (n : ℕ) (es : List Edge) → drop n (drop 1 es) ≡ drop (suc n) es
  drop-next n es = let one : 1 + n ≡ suc n = omega arith in drop-drop n 1 es ∙ ap (λ (m : ℕ). drop m es) one

  written-append : (es : List Edge) (xs ys : List (Option Key)) (m : List S) → written s es (xs ++ ys) m ≡ written s (drop (length xs) es) ys (written s es xs m)
  written-append es [] ys m = refl
  written-append es (None ∷ xs) ys m =
      written-append (drop 1 es) xs ys m ∙ ap (λ l. written s l ys (written s (drop 1 es) xs m)) (drop-next (length xs) es)
  written-append es (Some k ∷ xs) ys m =
      let more = s.note (length es) k m in
      written-append (drop 1 es) xs ys more ∙ ap (λ l. written s l ys (written s (drop 1 es) xs more)) (drop-next (length xs) es)

module _ {S : Type 0} (s : Sight S) (unspelled : Bool) where
  abbrev W : Term → Walked Term
  W e = walk (text_key s.parent) s.ask e

  abbrev Ws : Parts Var Name → List (Walked Term)
  Ws r = walks (text_key s.parent) s.ask r

  -- there is a place for each import
  own-length : (f : Form) → length (own_key s.parent f) ≡ own_imports f
  own-length (importing i) = refl
  own-length choosing = refl
  own-length other = refl

  come-length : (here : Bool) (n : ℕ) (vs : List (Option Key)) → length vs ≡ n → length (where_it_comes here n vs) ≡ n
  come-length true n vs h = h
  come-length false n vs h = length-replicate n None

  mutual
    pub seen-length : (e : Term) → length (seen s unspelled e) ≡ imports e
    seen-length (Leaf v) = refl
    seen-length (Node op r) =
        let row = seen_row s unspelled (chooses unspelled (form_of op) r) (begins unspelled (form_of op)) r in
        length-append (own_key s.parent (form_of op)) row ∙ ap (λ n. n + length row) (own-length (form_of op))
        ∙ ap (λ n. own_imports (form_of op) + n) (seen_row-length (chooses unspelled (form_of op) r) (begins unspelled (form_of op)) r)

    seen_row-length : (choice here : Bool) (r : Parts Var Name) → length (seen_row s unspelled choice here r) ≡ imports_of_parts r
    seen_row-length choice here end = refl
    seen_row-length choice here (kid b e r) =
        let goes = here && goes_on (form_by choice) (W e) in
        length-append (where_it_comes here (imports e) (seen s unspelled e)) (seen_row s unspelled choice goes r)
        ∙ ap (λ n. n + length (seen_row s unspelled choice goes r)) (come-length here (imports e) (seen s unspelled e) (seen-length e)) ∙ ap (λ n. imports e + n) (seen_row-length choice goes r)

  -- ---- the parts of a node in turn

  -- where the walk came to before a part, and what it wrote
  pub record SoFar (choice comes : Bool) (ks : List Kid) (i : ℕ) (first : List Edge) (old : List S) (here : Bool) (n : Next) (slots : List S) (rest : List Edge) : Type 0 where
    pub begins : Begins s.parent s.rows (keys_of_row s.parent (row_of (drop i ks))) rest
    pub before : Walked (Unit {0})
    pub next_is : IsNext s.parent s.rows before n
    pub ends : last choice here before (Ws (row_of (drop i ks))) ≡ last choice comes (Ready (tt {0})) (Ws (row_of ks))
    pub slots_are : written s rest (seen_row s unspelled choice here (row_of (drop i ks))) slots ≡ written s first (seen_row s unspelled choice comes (row_of ks)) old

  pub so_far-start : (choice comes : Bool) (ks : List Kid) (es : List Edge) (old : List S) → Begins s.parent s.rows (keys_of_row s.parent (row_of ks)) es
      → SoFar choice comes ks 0 es old comes next.Ready old es
  so_far-start choice comes ks es old b = record { begins = b; before = Ready (tt {0}); next_is = tt {0}; ends = refl; slots_are = refl }

  module _ (choice comes : Bool) (ks : List Kid) (i : ℕ) (k : Kid) (first es rest : List Edge) (old : List S) (inside : i < length ks) (is : k ≡ get_or ks i k) (rest_is : rest ≡ drop (imports (term k.body)) es) where
    -- one that the walk comes to
    pub so_far-item : (here goes : Bool) (m n : Next) (slots new : List S) → here ≡ true
        → WalksIn s unspelled es (term k.body) slots n new → ((w : Walked Term) → IsNext s.parent s.rows w n → goes ≡ goes_on (form_by choice) w)
        → SoFar choice comes ks i first old here m slots es → SoFar choice comes ks (i + 1) first old goes n new rest
    so_far-item here goes m n slots new h walks_in goes_is before =
        let so_far = subst (λ b. SoFar choice comes ks i first old b m slots es) h before in
        let w = W (term k.body) in
        let c = walks_in (begins_at_item s.parent s.rows ks i k es inside is so_far.begins) in
        let row = row_of (drop (i + 1) ks) in
        let g = goes_is w c.next_is in
        record {
          begins = begins_after_item s.parent s.rows ks i k es rest inside is rest_is so_far.begins;
          before = end_of w;
          next_is = rebuilt s.parent s.rows w (λ e. tt {0}) n c.next_is;
          ends =
              ap (λ b. last choice b (end_of w) (Ws row)) g ∙ sym (ap (λ r. last choice true so_far.before (Ws r)) (row_of-drop_item ks i k inside is)) ∙ so_far.ends;
          slots_are =
              ap (λ b. written s rest (seen_row s unspelled choice b row) new) g
              ∙ ap (λ l. written s l (seen_row s unspelled choice (goes_on (form_by choice) w) row) new) (rest_is ∙ ap (λ x. drop x es) (sym (seen-length (term k.body))))
              ∙ ap (written s (drop (length (seen s unspelled (term k.body))) es) (seen_row s unspelled choice (goes_on (form_by choice) w) row)) c.slots_are
              ∙ sym (written-append s es (seen s unspelled (term k.body)) (seen_row s unspelled choice (goes_on (form_by choice) w) row) slots)
              ∙ sym (ap (λ r. written s es (seen_row s unspelled choice true r) slots) (row_of-drop_item ks i k inside is)) ∙ so_far.slots_are;
        }

    -- one that it does not come to
    pub so_far-skip : (here : Bool) (n : Next) (slots : List S) → here ≡ false → SoFar choice comes ks i first old here n slots es → SoFar choice comes ks (i + 1) first old here n slots rest
    so_far-skip here n slots h before =
        let so_far = subst (λ b. SoFar choice comes ks i first old b n slots es) h before in
        let row = row_of (drop (i + 1) ks) in
        let none = replicate (imports (term k.body)) None in
        subst (λ b. SoFar choice comes ks (i + 1) first old b n slots rest) (sym h)
        (record {
          begins = begins_after_item s.parent s.rows ks i k es rest inside is rest_is so_far.begins;
          before = so_far.before;
          next_is = so_far.next_is;
          ends = sym (ap (λ r. last choice false so_far.before (Ws r)) (row_of-drop_item ks i k inside is)) ∙ so_far.ends;
          slots_are =
              ap (λ l. written s l (seen_row s unspelled choice false row) slots) (rest_is ∙ ap (λ x. drop x es) (sym (length-replicate (imports (term k.body)) None)))
              ∙ ap (written s (drop (length none) es) (seen_row s unspelled choice false row)) (sym (written-none s es (imports (term k.body)) slots))
              ∙ sym (written-append s es none (seen_row s unspelled choice false row) slots)
              ∙ sym (ap (λ r. written s es (seen_row s unspelled choice false r) slots) (row_of-drop_item ks i k inside is)) ∙ so_far.slots_are;
        })

  pub so_far-all : (choice comes : Bool) (ks : List Kid) (i : ℕ) (first : List Edge) (old : List S) (here : Bool) (n : Next) (slots : List S) (rest : List Edge) → length ks ≤ i
      → SoFar choice comes ks i first old here n slots rest → Came s first (seen_row s unspelled choice comes (row_of ks)) (last choice comes (Ready (tt {0})) (Ws (row_of ks))) old n slots
  so_far-all choice comes ks i first old here n slots rest h so_far =
      let P : Walked (Unit {0}) → Type 0 = λ w. IsNext s.parent s.rows w n in
      record {
        next_is = subst P (sym (ap (λ r. last choice here so_far.before (Ws r)) (row_of-drop_all ks i h)) ∙ so_far.ends) so_far.next_is;
        slots_are = sym (ap (λ r. written s rest (seen_row s unspelled choice here r) slots) (row_of-drop_all ks i h)) ∙ so_far.slots_are;
      }

  -- ---- nodes

  pub walks_variable : (e : Expr) (x : Name) (n : ℕ) (es : List Edge) (m : List S) → e ≡ expr.Var x n → WalksIn s unspelled es (term e) m next.Ready m
  walks_variable e x n es m h b =
      let P : Walked Term → Type 0 = λ w. IsNext s.parent s.rows w next.Ready in
      record { next_is = subst P (sym (at_term-Var W e x n h)) tt; slots_are = sym (ap (λ vs. written s es vs m) (at_term-Var (seen s unspelled) e x n h)) }

  seen_node : (e : Expr) (op : Op) (ks : List Kid) (f : Form) → e ≡ expr.Node op ks → form_of op ≡ f
      → seen s unspelled (term e) ≡ own_key s.parent f ++ seen_row s unspelled (chooses unspelled f (row_of ks)) (begins unspelled f) (row_of ks)
  seen_node e op ks f is p = at_term-Node (seen s unspelled) e op ks is ∙ ap (λ g. own_key s.parent g ++ seen_row s unspelled (chooses unspelled g (row_of ks)) (begins unspelled g) (row_of ks)) p

  pub walks_other : (e : Expr) (op : Op) (ks : List Kid) (es : List Edge) (n : Next) (old new : List S) → e ≡ expr.Node op ks → part.Other ≡ part_of op
      → (Begins s.parent s.rows (keys_of_row s.parent (row_of ks)) es → Came s es (seen_row s unspelled false true (row_of ks)) (last false true (Ready (tt {0})) (Ws (row_of ks))) old n new)
      → WalksIn s unspelled es (term e) old n new
  walks_other e op ks es n old new is h step b =
      let c = step (as_begins s.parent s.rows _ _ es (other_keys s.parent e op ks is h) b) in
      record {
        next_is = other_next s.parent s.rows s.ask e op ks n is h (in_order_next s.parent s.rows (Ws (row_of ks)) n c.next_is);
        slots_are = c.slots_are ∙ sym (ap (λ vs. written s es vs old) (seen_node e op ks other is (others (form_of op) h)));
      }

  pub walks_choice : (e : Expr) (op : Op) (ks : List Kid) (es : List Edge) (n : Next) (old new : List S) → e ≡ expr.Node op ks → part.Choice ≡ part_of op
      → (Begins s.parent s.rows (keys_of_row s.parent (row_of ks)) es → Came s es (seen_row s unspelled (chooses unspelled choosing (row_of ks)) true (row_of ks)) (choice (Ws (row_of ks))) old n new)
      → WalksIn s unspelled es (term e) old n new
  walks_choice e op ks es n old new is h step b =
      let c = step (as_begins s.parent s.rows _ _ es (choice_keys s.parent e op ks is h) b) in
      record {
        next_is = choice_next s.parent s.rows s.ask e op ks n is h c.next_is;
        slots_are = c.slots_are ∙ sym (ap (λ vs. written s es vs old) (seen_node e op ks choosing is (chosen (form_of op) h)));
      }

  begins_rest : (k : Key) (ks : List Key) (es : List Edge) → Begins s.parent s.rows (k ∷ ks) es → Begins s.parent s.rows ks (drop 1 es)
  begins_rest k ks [] b = absurd b
  begins_rest k ks (e ∷ es) b = b.1

  pub walks_import : (e : Expr) (op : Op) (ks : List Kid) (es behind : List Edge) (n : Next) (old middle new : List S) → e ≡ expr.Node op ks → part.Import ≡ part_of op → behind ≡ drop 1 es
      → ((k : Key) (ls : List Key) → Begins s.parent s.rows (k ∷ ls) es → Came s es (Some k ∷ []) (walk_key (text_key s.parent) s.ask k) old n middle)
      → (Begins s.parent s.rows (keys_of_row s.parent (row_of ks)) behind → new ≡ written s behind (seen_row s unspelled false unspelled (row_of ks)) middle)
      → WalksIn s unspelled es (term e) old n new
  walks_import e op ks es behind n old middle new is h behind_is one inner b =
      let i = imported (form_of op) h in
      let k = chained s.parent i.0 in
      let ls = keys_of_row s.parent (row_of ks) in
      let all = as_begins s.parent s.rows _ (k ∷ ls) es (at_term-Node (keys_of s.parent) e op ks is ∙ ap (λ f. keys_of_form s.parent f ++ ls) i.1) b in
      let c = one k ls all in
      let row = seen_row s unspelled false unspelled (row_of ks) in
      let P : Walked Term → Type 0 = λ w. IsNext s.parent s.rows w n in
      let walk_is = at_term-Node W e op ks is ∙ ap (λ f. walk_node (text_key s.parent) s.ask op (row_of ks) f (Ws (row_of ks))) i.1
      ∙ ap (λ l. walk_key (text_key s.parent) s.ask (chained l i.0)) (place_of_text s.parent) in
      record {
        next_is = subst P (sym walk_is) c.next_is;
        slots_are =
            inner (subst (Begins s.parent s.rows ls) (sym behind_is) (begins_rest k ls es all)) ∙ ap (λ l. written s l row middle) behind_is ∙ ap (written s (drop 1 es) row) c.slots_are
            ∙ sym (ap (λ vs. written s es vs old) (seen_node e op ks (importing i.0) is i.1));
      }

  -- ---- choices

  few_seen : (ks : List Kid) → length ks < 3 → seen_row s unspelled true true (row_of ks) ≡ seen_row s unspelled (chooses unspelled choosing (row_of ks)) true (row_of ks)
  unfolding row_of
  few_seen [] h = refl
  few_seen (a ∷ []) h = refl
  few_seen (a ∷ b ∷ []) h = refl
  few_seen (a ∷ b ∷ d ∷ ks) h = let e : ⊥ = omega arith in absurd e

  few_walks : (ks : List Kid) → length ks < 3 → last true true (Ready (tt {0})) (Ws (row_of ks)) ≡ choice (Ws (row_of ks))
  unfolding row_of
  few_walks [] h = refl
  few_walks (a ∷ []) h = last_one (W (term a.body))
  few_walks (a ∷ b ∷ []) h = last_two (W (term a.body)) (W (term b.body))
  few_walks (a ∷ b ∷ d ∷ ks) h = let e : ⊥ = omega arith in absurd e

  chooses_unspelled : (ks : List Kid) → (length ks < 3 → ⊥) → chooses unspelled choosing (row_of ks) ≡ unspelled
  unfolding row_of
  chooses_unspelled [] h = refl
  chooses_unspelled (a ∷ []) h = refl
  chooses_unspelled (a ∷ b ∷ []) h = let few : length (a ∷ b ∷ []) < 3 = omega arith in absurd (h few)
  chooses_unspelled (a ∷ b ∷ d ∷ ks) h = refl

  module _ (ks : List Kid) (es : List Edge) (n : Next) (old new : List S) where
    abbrev pub Choice : Type 0
    Choice = Came s es (seen_row s unspelled (chooses unspelled choosing (row_of ks)) true (row_of ks)) (choice (Ws (row_of ks))) old n new

    pub few_came : length ks < 3 → Came s es (seen_row s unspelled true true (row_of ks)) (last true true (Ready (tt {0})) (Ws (row_of ks))) old n new → Choice
    few_came h c =
        let P : Walked (Unit {0}) → Type 0 = λ w. IsNext s.parent s.rows w n in
        record {
          next_is = subst P (few_walks ks h) c.next_is;
          slots_are = c.slots_are ∙ ap (λ vs. written s es vs old) (few_seen ks h);
        }

    -- more than two are walked as the parts of other nodes, and may be written of as those of a choice
    pub many_came : (given : Bool) → unspelled ≡ given → (length ks < 3 → ⊥)
        → new ≡ written s es (seen_row s given given true (row_of ks)) old → IsNext s.parent s.rows (last false true (Ready (tt {0})) (Ws (row_of ks))) n → Choice
    many_came given is h slots_are next_is =
        let never : length ks ≡ 2 → ⊥ = λ e. let few : length ks < 3 = omega (arith, e) in h few in
        record {
          next_is = no_choice s.parent s.rows s.ask ks n never (in_order_next s.parent s.rows (Ws (row_of ks)) n next_is);
          slots_are =
              slots_are ∙ ap (λ b. written s es (seen_row s b b true (row_of ks)) old) (sym is)
              ∙ sym (ap (λ b. written s es (seen_row s unspelled b true (row_of ks)) old) (chooses_unspelled ks h));
        }

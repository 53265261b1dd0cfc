-- The keys that a walk marks are those that it wants, or asks.
use Rattle.std.specs.Prelude.{◌≡◌, ◌⊎◌, ◌<◌, ℕ, zero, suc, ◌++◌, ◌&&◌, ◌||◌, Bool, true, false, if◌then◌else◌, List, [], ◌∷◌, length, drop, take, replicate, slice_set, Option, Some, None, is_none, refl}
use Rattle.std.proofs.Common.{ap, sym, ◌∙◌, subst, inl, inr, get_or, append-nil, set}
use Rattle.std.proofs.Math.ListN.{length-set}
use Rattle.std.proofs.Math.Seq.{take-append_seam}
use Rattle.std.proofs.lemmas.List.{get_or-set_same}
use Rattle.dh_syntax.specs.declared.expressions.Op.{Op}
use Rattle.dh_syntax.specs.declared.locations.Import.{Import}
use Rattle.dh_syntax.specs.declared.locations.Key.{Key}
use Rattle.dh_syntax.specs.declared.locations.Loc.{Loc}
use Rattle.dh_imports.specs.declared.outcomes.Blame.{Blame}
use Rattle.dh_imports.specs.declared.outcomes.Why.TheVariants as whys
use Rattle.dh_syntax.specs.Expressions.Tree.{Row as Parts, Leaf, Node, end, kid, Name, Var, Term}
use Rattle.dh_syntax.specs.Imports.Keys.{chained}
use Rattle.dh_syntax.specs.Normalising.Trees.{replace_row}
use Rattle.dh_imports.specs.Freezing as freezing
use Rattle.dh_imports.specs.Outcomes.{Outcome, Good, Bad, Loop, may_go_on}
use Rattle.dh_imports.specs.Walk.{Ask, Form, importing, choosing, other, form_of, Walked, Ready, Fails, Turns, and_then, or_else, in_order, allowed, by_outcome, is_sane, place, walk_key, walk_node, walk, walks, Ending, Goes, Stops, Circles, Course, after, then_by, else_by, all_courses, ending_by, course_key, course_node, course, courses}
use Rattle.dh_demand.specs.declared.scans.Edge.{Edge}
use Rattle.dh_demand.specs.declared.ends.Next.{Next}
use Rattle.dh_demand.specs.declared.ends.Next.TheVariants as next
use Rattle.dh_demand.specs.Results.{Row, number_of, ask_of}
use Rattle.dh_demand.specs.Scans.{text_key, IsEdge, imports}
use Rattle.dh_demand.specs.Nexts.{IsNext}
use Rattle.dh_demand.specs.Wants.{HasNumber, AreMarked}
use Rattle.dh_demand.specs.Inside.Marking.{mark, marked, picked, good_or, assumed, is_noted, noting, passing, marking}
use Rattle.dh_demand.specs.Inside.Seen.{chooses, begins, own_key, where_it_comes, seen, seen_row, written}
use Rattle.dh_demand.proofs.Visiting.{place_of_text, sane_is}

-- ---- marks

length-mark : (n : Option ℕ) (m : List Bool) → length (mark n m) ≡ length m
length-mark None m = refl
length-mark (Some n) m = length-set m n true

marked_length : (rows : List Row) (ks : List Key) (m : List Bool) → length (marked rows ks m) ≡ length m
marked_length rows [] m = refl
marked_length rows (k ∷ ks) m = marked_length rows ks (mark (number_of rows k) m) ∙ length-mark (number_of rows k) m

set_kept : (m : List Bool) (i n : ℕ) → get_or m n false ≡ true → get_or (set m i true) n false ≡ true
set_kept [] i n h = h
set_kept (b ∷ m) zero zero h = refl
set_kept (b ∷ m) zero (suc n) h = h
set_kept (b ∷ m) (suc i) zero h = h
set_kept (b ∷ m) (suc i) (suc n) h = set_kept m i n h

set_only : (m : List Bool) (i n : ℕ) → get_or (set m i true) n false ≡ true → (get_or m n false ≡ true) ⊎ (i ≡ n)
set_only [] i n h = inl h
set_only (b ∷ m) zero zero h = inr refl
set_only (b ∷ m) zero (suc n) h = inl h
set_only (b ∷ m) (suc i) zero h = inl h
set_only (b ∷ m) (suc i) (suc n) h = elim (set_only m i n h) [ inl p ↦ inl p | inr p ↦ inr (ap suc p) ]

mark_kept : (o : Option ℕ) (m : List Bool) (n : ℕ) → get_or m n false ≡ true → get_or (mark o m) n false ≡ true
mark_kept None m n h = h
mark_kept (Some i) m n h = set_kept m i n h

marked_kept : (rows : List Row) (ks : List Key) (m : List Bool) (n : ℕ) → get_or m n false ≡ true → get_or (marked rows ks m) n false ≡ true
marked_kept rows [] m n h = h
marked_kept rows (k ∷ ks) m n h = marked_kept rows ks (mark (number_of rows k) m) n (mark_kept (number_of rows k) m n h)

mark_set : (o : Option ℕ) (m : List Bool) (n : ℕ) → n < length m → o ≡ Some n → get_or (mark o m) n false ≡ true
mark_set o m n h e = subst (λ (x : Option ℕ). get_or (mark x m) n false ≡ true) (sym e) (get_or-set_same m n true false h)

marked_set : (rows : List Row) (ks : List Key) (m : List Bool) (n : ℕ) → n < length m → HasNumber rows ks n → get_or (marked rows ks m) n false ≡ true
marked_set rows [] m n h k = absurd k.1
marked_set rows (j ∷ ks) m n h (k, inl e, p) =
    marked_kept rows ks (mark (number_of rows j) m) n (mark_set (number_of rows j) m n h (ap (number_of rows) e ∙ p))
marked_set rows (j ∷ ks) m n h (k, inr a, p) = marked_set rows ks (mark (number_of rows j) m) n (subst (λ l. n < l) (sym (length-mark (number_of rows j) m)) h) (k, a, p)

mark_only : (o : Option ℕ) (m : List Bool) (n : ℕ) → get_or (mark o m) n false ≡ true → (get_or m n false ≡ true) ⊎ (o ≡ Some n)
mark_only None m n h = inl h
mark_only (Some i) m n h = elim (set_only m i n h) [ inl p ↦ inl p | inr p ↦ inr (ap (λ (x : ℕ). Some x) p) ]

marked_only : (rows : List Row) (ks : List Key) (m : List Bool) (n : ℕ) → get_or (marked rows ks m) n false ≡ true → (get_or m n false ≡ true) ⊎ HasNumber rows ks n
marked_only rows [] m n h = inl h
marked_only rows (k ∷ ks) m n h = first (marked_only rows ks (mark (number_of rows k) m) n h)
  where
    second : (get_or m n false ≡ true) ⊎ (number_of rows k ≡ Some n) → (get_or m n false ≡ true) ⊎ HasNumber rows (k ∷ ks) n
    second (inl p) = inl p
    second (inr p) = inr (k, inl refl, p)

    first : (get_or (mark (number_of rows k) m) n false ≡ true) ⊎ HasNumber rows ks n → (get_or m n false ≡ true) ⊎ HasNumber rows (k ∷ ks) n
    first (inl p) = second (mark_only (number_of rows k) m n p)
    first (inr (j, a, p)) = inr (j, inr a, p)

pub are_marked : (rows : List Row) (ks : List Key) (old new : List Bool) → new ≡ marked rows ks old → AreMarked rows ks old new
are_marked rows ks old new e =
    subst (AreMarked rows ks old) (sym e) (record { same_length = marked_length rows ks old; set = λ n h k. marked_set rows ks old n h k; kept = λ n h. marked_kept rows ks old n h; only = λ n h. marked_only rows ks old n h })

all_picked : (ask : Ask) (ks : List Key) → picked true ask ks ≡ ks
all_picked ask [] = refl
all_picked ask (k ∷ ks) = ap (λ js. k ∷ js) (all_picked ask ks)

-- ---- one import

settled : (parent : Option Loc) (rows : List Row) (w : Walked Term) (n : Next) → IsNext parent rows w n → ((m : ℕ) → IsNext parent rows w (next.Need m) → ⊥) → IsNext parent rows w (passing n)
settled parent rows w next.Ready h never = h
settled parent rows w (next.Fault e) h never = h
settled parent rows w (next.Need m) h never = absurd (never m h)

module _ (parent : Option Loc) (rows : List Row) (k : Key) where
  abbrev insane : Walked Term
  insane = Fails (record { at = text_key parent; why = whys.Insane k.loc })

  abbrev barred : Walked Term
  barred = Fails (record { at = text_key parent; why = whys.Cors k.loc })

  by_allowed : (b : Bool) (v : Term) (n : Next) → IsNext parent rows (if b then Ready v else barred) n → IsNext parent rows (if b then Ready v else barred) (passing n)
  by_allowed true v n h = settled parent rows (Ready v) n h (λ m x. x)
  by_allowed false v n h = settled parent rows barred n h (λ m x. x)

  no_need : (b : Bool) (v : Term) (m : ℕ) → IsNext parent rows (if b then Ready v else barred) (next.Need m) → ⊥
  no_need true v m h = h
  no_need false v m h = h

  by_known : (b : Bool) (o : Option Outcome) (n : Next) → IsNext parent rows (if b then by_outcome (text_key parent) k o else insane) n
      → IsNext parent rows (if b then by_outcome (text_key parent) k (Some (good_or o)) else insane) (passing n)
  by_known false o n h = settled parent rows insane n h (λ m x. x)
  by_known true None (next.Need m) h = tt
  by_known true None next.Ready h = absurd h
  by_known true None (next.Fault e) h = absurd h
  by_known true (Some (Good v o)) n h = by_allowed (allowed (text_key parent) k o) v n h
  by_known true (Some (Bad b)) n h = settled parent rows (Fails b) n h (λ m x. x)
  by_known true (Some (Loop j)) n h = settled parent rows (Turns j) n h (λ m x. x)

  pub passes : (n m : Next) → m ≡ passing n → IsNext parent rows (walk_key (text_key parent) (ask_of rows) k) n → IsNext parent rows (walk_key (text_key parent) (assumed (ask_of rows)) k) m
  passes n m is h =
      let P : Next → Type 0 = λ x. IsNext parent rows (walk_key (text_key parent) (assumed (ask_of rows)) k) x in
      subst P (sym is) (by_known (is_sane (text_key parent) k) (ask_of rows k) n h)

  by_noted : (all b : Bool) (o : Option Outcome) (n : Next) → IsNext parent rows (if b then by_outcome (text_key parent) k o else insane) n → (b && (all || is_none o)) ≡ noting all b n
  by_noted all false o (next.Need m) h = absurd h
  by_noted all false o next.Ready h = absurd h
  by_noted true false o (next.Fault e) h = refl
  by_noted false false o (next.Fault e) h = refl
  by_noted true true o (next.Need m) h = refl
  by_noted true true o next.Ready h = refl
  by_noted true true o (next.Fault e) h = refl
  by_noted false true None (next.Need m) h = refl
  by_noted false true None next.Ready h = absurd h
  by_noted false true None (next.Fault e) h = absurd h
  by_noted false true (Some o) next.Ready h = refl
  by_noted false true (Some o) (next.Fault e) h = refl
  by_noted false true (Some (Good v o)) (next.Need m) h = absurd (no_need (allowed (text_key parent) k o) v m h)
  by_noted false true (Some (Bad b)) (next.Need m) h = absurd h
  by_noted false true (Some (Loop j)) (next.Need m) h = absurd h

  pub marks_of : (all b : Bool) (e : Edge) (n : Next) (marks : List Bool) → IsEdge parent rows k e → IsNext parent rows (walk_key (text_key parent) (ask_of rows) k) n → noting all e.sane n ≡ b
      → (if b then slice_set marks e.key true else marks) ≡ mark (if is_noted all parent (ask_of rows) k then number_of rows k else None) marks
  marks_of all b e n marks is h p =
      let sane = sane_is parent rows k e e.sane is refl in
      let noted = by_noted all (is_sane (text_key parent) k) (ask_of rows k) n h ∙ ap (λ s. noting all s n) sane ∙ p in
      go b ∙ ap (λ o. mark (if b then o else None) marks) (sym is.numbered) ∙ ap (λ c. mark (if c then number_of rows k else None) marks) (sym noted)
    where
      go : (b : Bool) → (if b then slice_set marks e.key true else marks) ≡ mark (if b then Some e.key else None) marks
      go true = refl
      go false = refl

-- ---- what the walk sees is what its course asks

data Alike {X : Type 0} : Ending → Walked X → Type 0 where
  goes : {x : X} → Alike Goes (Ready x)
  stops : {b : Blame} → Alike (Stops b) (Fails b)
  circles : {j : Key} → Alike Circles (Turns j)

alike-rebuilt : {X Y : Type 0} (t : Ending) (w : Walked X) (f : X → Y) → Alike t w → Alike t (and_then w (λ x. Ready (f x)))
alike-rebuilt _ _ f goes = goes
alike-rebuilt _ _ f stops = stops
alike-rebuilt _ _ f circles = circles

-- the sane imports among those that are seen
abbrev sane_keys : Option Loc → List (Option Key) → List Key
sane_keys parent [] = []
sane_keys parent (None ∷ vs) = sane_keys parent vs
sane_keys parent (Some k ∷ vs) = if is_sane (text_key parent) k then k ∷ sane_keys parent vs else sane_keys parent vs

sane-append : (parent : Option Loc) (xs ys : List (Option Key)) → sane_keys parent (xs ++ ys) ≡ sane_keys parent xs ++ sane_keys parent ys
sane-append parent [] ys = refl
sane-append parent (None ∷ xs) ys = sane-append parent xs ys
sane-append parent (Some k ∷ xs) ys =
    ap (λ ks. if is_sane (text_key parent) k then k ∷ ks else ks) (sane-append parent xs ys) ∙ go (is_sane (text_key parent) k)
  where
    go : (b : Bool) → (if b then k ∷ (sane_keys parent xs ++ sane_keys parent ys) else sane_keys parent xs ++ sane_keys parent ys)
        ≡ (if b then k ∷ sane_keys parent xs else sane_keys parent xs) ++ sane_keys parent ys
    go true = refl
    go false = refl

sane-none : (parent : Option Loc) (n : ℕ) → sane_keys parent (replicate n None) ≡ []
sane-none parent zero = refl
sane-none parent (suc n) = sane-none parent n

module _ (all : Bool) (parent : Option Loc) (rows : List Row) where
  abbrev W : Term → Walked Term
  W e = walk (text_key parent) (assumed (ask_of rows)) e

  abbrev Ws : Parts Var Name → List (Walked Term)
  Ws r = walks (text_key parent) (assumed (ask_of rows)) r

  abbrev C : Term → Course
  C e = course (text_key parent) (ask_of rows) e

  abbrev Cs : Parts Var Name → List Course
  Cs r = courses (text_key parent) (ask_of rows) r

  abbrev see : Term → List (Option Key)
  see e = seen (marking all parent rows) false e

  abbrev see_row : Bool → Bool → Parts Var Name → List (Option Key)
  see_row choice here r = seen_row (marking all parent rows) false choice here r

  -- keys and an end are those of a course
  record Keyed {X : Type 0} (ks : List Key) (w : Walked X) (c : Course) : Type 0 where
    asked : ks ≡ c.asked
    alike : Alike c.ending w

  abbrev AsCourse : {X : Type 0} → List (Option Key) → Walked X → Course → Type 0
  AsCourse vs w c = Keyed (sane_keys parent vs) w c

  none_seen : (choice : Bool) (r : Parts Var Name) → sane_keys parent (see_row choice false r) ≡ []
  none_seen choice end = refl
  none_seen choice (kid b e r) =
      sane-append parent (replicate (imports e) None) (see_row choice false r) ∙ ap (λ ks. ks ++ sane_keys parent (see_row choice false r)) (sane-none parent (imports e)) ∙ none_seen choice r

  no_more : (vs none : List (Option Key)) → sane_keys parent none ≡ [] → sane_keys parent (vs ++ none) ≡ sane_keys parent vs
  no_more vs none h = sane-append parent vs none ∙ ap (λ ks. sane_keys parent vs ++ ks) h ∙ append-nil (sane_keys parent vs)

  more : (vs us : List (Option Key)) (c d : Course) → sane_keys parent vs ≡ c.asked → sane_keys parent us ≡ d.asked → sane_keys parent (vs ++ us) ≡ c.asked ++ d.asked
  more vs us c d p q = sane-append parent vs us ∙ ap (λ ks. ks ++ sane_keys parent us) p ∙ ap (λ ks. c.asked ++ ks) q

  -- an import
  as_key : (k : Key) → AsCourse (Some k ∷ []) (walk_key (text_key parent) (assumed (ask_of rows)) k) (course_key (text_key parent) (ask_of rows) k)
  as_key k = by_sane (is_sane (text_key parent) k)
    where
      insane : Blame
      insane = record { at = text_key parent; why = whys.Insane k.loc }

      barred : Blame
      barred = record { at = text_key parent; why = whys.Cors k.loc }

      by_allowed : (b : Bool) (v : Term) → Alike (if b then Goes else Stops barred) (if b then Ready v else Fails barred)
      by_allowed true v = goes
      by_allowed false v = stops

      by_known : (o : Option Outcome) → Alike (ending_by (text_key parent) k o) (by_outcome (text_key parent) k (Some (good_or o)))
      by_known None = goes
      by_known (Some (Good v o)) = by_allowed (allowed (text_key parent) k o) v
      by_known (Some (Bad b)) = stops
      by_known (Some (Loop j)) = circles

      by_sane : (b : Bool) → Keyed (if b then k ∷ [] else []) (if b then by_outcome (text_key parent) k (assumed (ask_of rows) k) else Fails insane)
          (if b then record { asked = k ∷ []; ending = ending_by (text_key parent) k (ask_of rows k) } else record { asked = []; ending = Stops insane })
      by_sane true = record { asked = refl; alike = by_known (ask_of rows k) }
      by_sane false = record { asked = refl; alike = stops }

  -- one part, and the parts after it
  then_parts : (t : Ending) (w : Walked Term) → Alike t w → (c : Course) (vs : List (Option Key)) (r : Parts Var Name) → AsCourse vs w c → AsCourse (see_row false true r) (in_order (Ws r)) (all_courses (Cs r))
      → AsCourse (vs ++ see_row false (freezing.goes_on other w) r) (in_order (w ∷ Ws r)) (then_by t c (all_courses (Cs r)))
  then_parts _ _ goes c vs r a d = record { asked = more vs (see_row false true r) c (all_courses (Cs r)) a.asked d.asked; alike = alike-rebuilt _ _ _ d.alike }
  then_parts _ _ stops c vs r a d = record { asked = no_more vs (see_row false false r) (none_seen false r) ∙ a.asked; alike = alike-rebuilt {Y = List Term} _ _ (λ (e : Term). []) a.alike }
  then_parts _ _ circles c vs r a d = record { asked = no_more vs (see_row false false r) (none_seen false r) ∙ a.asked; alike = alike-rebuilt {Y = List Term} _ _ (λ (e : Term). []) a.alike }

  -- one side, and the other
  then_side : (t : Ending) (w : Walked Term) → Alike t w → (c : Course) (vs : List (Option Key)) (e : Term) → AsCourse vs w c → AsCourse (see e) (W e) (C e)
      → AsCourse (vs ++ (where_it_comes (freezing.goes_on choosing w) (imports e) (see e) ++ [])) (or_else w (W e)) (else_by t c (C e))
  then_side _ _ goes c vs e a d = record { asked = no_more vs _ (ap (sane_keys parent) (append-nil (replicate (imports e) None)) ∙ sane-none parent (imports e)) ∙ a.asked; alike = a.alike }
  then_side _ _ circles c vs e a d = record { asked = no_more vs _ (ap (sane_keys parent) (append-nil (replicate (imports e) None)) ∙ sane-none parent (imports e)) ∙ a.asked; alike = a.alike }
  then_side _ _ (stops {b = b}) c vs e a d = go (may_go_on b.why)
    where
      go : (g : Bool) → AsCourse (vs ++ (where_it_comes g (imports e) (see e) ++ [])) (if g then W e else Fails b) (if g then after c (C e) else c)
      go true = record { asked = more vs (see e ++ []) c (C e) a.asked (ap (sane_keys parent) (append-nil (see e)) ∙ d.asked); alike = d.alike }
      go false = record { asked = no_more vs _ (ap (sane_keys parent) (append-nil (replicate (imports e) None)) ∙ sane-none parent (imports e)) ∙ a.asked; alike = a.alike }

  as_row-node : (op : Op) (r : Parts Var Name) → AsCourse (see_row false true r) (in_order (Ws r)) (all_courses (Cs r))
      → AsCourse (see_row false true r) (and_then (in_order (Ws r)) (λ es. Ready (Node op (replace_row r es)))) (all_courses (Cs r))
  as_row-node op r a = record { asked = a.asked; alike = alike-rebuilt _ _ _ a.alike }

  as_import : (i : Import) (r : Parts Var Name) → AsCourse (Some (chained parent i) ∷ see_row false false r)
      (walk_key (text_key parent) (assumed (ask_of rows)) (chained (place (text_key parent)) i)) (course_key (text_key parent) (ask_of rows) (chained (place (text_key parent)) i))
  as_import i r =
      let a = as_key (chained parent i) in
      subst (λ l. AsCourse (Some (chained parent i) ∷ see_row false false r) (walk_key (text_key parent) (assumed (ask_of rows)) (chained l i)) (course_key (text_key parent) (ask_of rows) (chained l i)))
      (sym (place_of_text parent)) (record { asked = no_more (Some (chained parent i) ∷ []) (see_row false false r) (none_seen false r) ∙ a.asked; alike = a.alike })

  abbrev Each : Parts Var Name → Type 0
  Each end = Unit {0}
  Each (kid b e r) = AsCourse (see e) (W e) (C e) × Each r

  as_row : (r : Parts Var Name) → Each r → AsCourse (see_row false true r) (in_order (Ws r)) (all_courses (Cs r))
  as_row end t = record { asked = refl; alike = goes }
  as_row (kid b e r) t = then_parts (C e).ending (W e) t.0.alike (C e) (see e) r t.0 (as_row r t.1)

  as_node : (op : Op) (f : Form) (r : Parts Var Name) → Each r → AsCourse (own_key parent f ++ see_row (chooses false f r) (begins false f) r)
      (walk_node (text_key parent) (assumed (ask_of rows)) op r f (Ws r)) (course_node (text_key parent) (ask_of rows) f (Cs r))
  as_node op (importing i) r t = as_import i r
  as_node op other r t = as_row-node op r (as_row r t)
  as_node op choosing end t = record { asked = refl; alike = goes }
  as_node op choosing (kid b e end) t = as_row-node op (kid b e end) (as_row (kid b e end) t)
  as_node op choosing (kid b e (kid c d end)) t = then_side (C e).ending (W e) t.0.alike (C e) (see e) d t.0 t.1.0
  as_node op choosing (kid b e (kid c d (kid x f r))) t = as_row-node op (kid b e (kid c d (kid x f r))) (as_row (kid b e (kid c d (kid x f r))) t)

  mutual
    as_course : (e : Term) → AsCourse (see e) (W e) (C e)
    as_course (Leaf v) = record { asked = refl; alike = goes }
    as_course (Node op r) = as_node op (form_of op) r (as_each r)

    as_each : (r : Parts Var Name) → Each r
    as_each end = tt
    as_each (kid b e r) = (as_course e, as_each r)

  written_marks : (es : List Edge) (vs : List (Option Key)) (m : List Bool) → written (marking all parent rows) es vs m ≡ marked rows (picked all (ask_of rows) (sane_keys parent vs)) m
  written_marks es [] m = refl
  written_marks es (None ∷ vs) m = written_marks (drop 1 es) vs m
  written_marks es (Some k ∷ vs) m = written_marks (drop 1 es) vs _ ∙ by_sane (is_sane (text_key parent) k)
    where
      by_noted : (t : Bool) (left : List Key) → marked rows left (mark (if t then number_of rows k else None) m) ≡ marked rows (if t then k ∷ left else left) m
      by_noted true left = refl
      by_noted false left = refl

      by_sane : (b : Bool) → marked rows (picked all (ask_of rows) (sane_keys parent vs)) (mark (if b && (all || is_none (ask_of rows k)) then number_of rows k else None) m)
          ≡ marked rows (picked all (ask_of rows) (if b then k ∷ sane_keys parent vs else sane_keys parent vs)) m
      by_sane true = by_noted (all || is_none (ask_of rows k)) (picked all (ask_of rows) (sane_keys parent vs))
      by_sane false = refl

  pub marks_are : (e : Term) (es : List Edge) (old first slots post new : List Bool) (len : ℕ) → new ≡ take len (slots ++ post) → len ≡ length first → first ≡ old
      → slots ≡ written (marking all parent rows) es (see e) first → AreMarked rows (picked all (ask_of rows) (C e).asked) old new
  marks_are e es old first slots post new len new_is len_is first_is slots_are =
      let ks = picked all (ask_of rows) (C e).asked in
      let made : slots ≡ marked rows ks first = slots_are ∙ written_marks es (see e) first ∙ ap (λ ks. marked rows (picked all (ask_of rows) ks) first) (as_course e).asked in
      let whole : len ≡ length slots = len_is ∙ sym (ap length made ∙ marked_length rows ks first) in
      are_marked rows ks old new (new_is ∙ ap (λ n. take n (slots ++ post)) whole ∙ take-append_seam slots post ∙ made ∙ ap (marked rows ks) first_is)

pub asked_are : (rows : List Row) (ks : List Key) (old new : List Bool) → AreMarked rows (picked true (ask_of rows) ks) old new → AreMarked rows ks old new
asked_are rows ks old new h = subst (λ ls. AreMarked rows ls old new) (all_picked (ask_of rows) ks) h

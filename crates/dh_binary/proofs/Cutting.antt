-- The machine with stubs makes of what the machine over expressions makes the same, cut; so it answers what that one answers.
use Rattle.std.proofs.Common.{◌≡◌, ℕ, zero, suc, ◌≤◌, ◌<◌, max, Bool, true, false, List, [], ◌∷◌, refl, sym, ◌∙◌, ap, subst, arith, leb-true, leb-false}
use Rattle.std.specs.Prelude.{nat_le, nat_lt, length, if◌then◌else◌, Option, Some, None, map, Result, Ok, Err}
use Rattle.dh_syntax.specs.declared.expressions.Op.{Op}
use Rattle.dh_syntax.specs.declared.faults.DecodeFault.{DecodeFault}
use Rattle.dh_syntax.specs.declared.faults.DecodeFault.TheVariants as fault
use Rattle.dh_syntax.specs.Bytes.BinaryFaults.{DecodesTo, offset}
use Rattle.dh_syntax.specs.Limits.{most_open_items}
use Rattle.dh_syntax.specs.Bytes.BinaryHeads.{HeadFault, Mark, atom, array, tag, Marked, mark_at}
use Rattle.dh_syntax.specs.Bytes.BinaryHeads as head
use Rattle.dh_syntax.specs.Bytes.BinaryRead.{plain_row}
use Rattle.dh_syntax.specs.Expressions.Nesting.{nesting, parts_nesting}
use Rattle.dh_syntax.specs.Limits.{most_nesting}
use Rattle.dh_syntax.specs.Expressions.Tree.{Row, Node, end, kid, Name, Var, Term}
use Rattle.dh_syntax.proofs.BinaryFaultLaws.{decodes-unique}
use Rattle.dh_binary.specs.Machine.{Value, holds, Want, Frame, State, reading, done, stopped, after, start}
use Rattle.dh_binary.specs.Inside.Mapping.{Carries, map_value, map_frame, map_state}
use Rattle.dh_binary.specs.Stubs.{Kept, stub, kept, cut, deepest, row, deepest_with, row_with, stubs, finish_kept, judge_kept, answer_kept, decide_kept, decoded}
use Rattle.dh_binary.specs.Inside.Terms.{terms, under_row}
use Rattle.dh_binary.specs.Verdict.{refused, is_stopped, is_big, opens_with, finish, judge, answer_at, decide, verdict}
use Rattle.dh_binary.proofs.Carrying.{after_same}
use Rattle.dh_binary.proofs.Answers.{answers}

abbrev whole : Term → ℕ → Kept
whole e n = record { expression = e; nests = n }

by_bool : {A : Type 0} (b : Bool) → (b ≡ true → A) → (b ≡ false → A) → A
by_bool true f g = f refl
by_bool false f g = g refl

if_true : {A : Type 0} (b : Bool) (x y : A) → b ≡ true → (if b then x else y) ≡ x
if_true true x y h = refl
if_true false x y h = cc

if_false : {A : Type 0} (b : Bool) (x y : A) → b ≡ false → (if b then x else y) ≡ y
if_false false x y h = refl
if_false true x y h = cc

is_few : (n : ℕ) → n ≤ most_nesting → nat_le n most_nesting ≡ true
is_few n h = by_bool (nat_le n most_nesting) (λ b. b) (λ b. absurd (let g = leb-false n most_nesting b in omega arith))

is_many : (n : ℕ) → most_nesting < n → nat_le n most_nesting ≡ false
is_many n h = by_bool (nat_le n most_nesting) (λ b. absurd (let g = leb-true n most_nesting b in omega arith)) (λ b. b)

kept_few : (e : Term) (n : ℕ) → n ≤ most_nesting → kept e n ≡ whole e n
kept_few e n h = if_true (nat_le n most_nesting) (whole e n) stub (is_few n h)

kept_many : (e : Term) (n : ℕ) → most_nesting < n → kept e n ≡ stub
kept_many e n h = if_false (nat_le n most_nesting) (whole e n) stub (is_many n h)

-- either the expression is kept or not
data Cut (e : Term) : Type 0 where
  few : nesting e ≤ most_nesting → cut e ≡ whole e (nesting e) → Cut e
  many : most_nesting < nesting e → cut e ≡ stub → Cut e

is_cut : (e : Term) → Cut e
is_cut e =
    by_bool (nat_le (nesting e) most_nesting)
    (λ b. let h = leb-true (nesting e) most_nesting b in few h (kept_few e (nesting e) h))
    (λ b. let h = leb-false (nesting e) most_nesting b in let g : most_nesting < nesting e = omega arith in many g (kept_many e (nesting e) g))

-- ---- parts

-- a row of a node, and the row and the depth of the same parts, cut
data Matches (r s : Row Var Name) (n : ℕ) : Type 0 where
  all_kept : parts_nesting r ≤ most_nesting → s ≡ r → n ≡ parts_nesting r → Matches r s n
  not_all : most_nesting < parts_nesting r → most_nesting < n → Matches r s n

part_few : (b : Option Name) (e : Term) (p : Kept) (r s : Row Var Name) (n : ℕ) → p ≡ whole e (nesting e) → nesting e ≤ most_nesting → Matches r s n → Matches (kid b e r) (kid b p.expression s) (max (suc p.nests) n)
part_few b e p r s n k h (not_all g i) = not_all (omega arith) (omega arith)
part_few b e p r s n k h (all_kept g i j) =
    let ke : p.expression ≡ e = ap (λ p. p.expression) k in
    let kn : p.nests ≡ nesting e = ap (λ p. p.nests) k in
    by_bool (nat_le (suc (nesting e)) most_nesting)
    (λ l. let m = leb-true (suc (nesting e)) most_nesting l in all_kept (omega arith) (ap (λ x. kid b x s) ke ∙ ap (kid b e) i) (ap (λ k. max (suc k) n) kn ∙ ap (max (suc (nesting e))) j))
    (λ l. let m = leb-false (suc (nesting e)) most_nesting l in not_all (omega arith) (omega arith))

part_many : (b : Option Name) (e : Term) (p : Kept) (r s : Row Var Name) (n : ℕ) → p ≡ stub → most_nesting < nesting e → Matches (kid b e r) (kid b p.expression s) (max (suc p.nests) n)
part_many b e p r s n k h = let kn : p.nests ≡ suc most_nesting = ap (λ p. p.nests) k in not_all (omega arith) (omega arith)

part_by : (b : Option Name) (e : Term) (r s : Row Var Name) (n : ℕ) → Cut e → Matches r s n → Matches (kid b e r) (kid b (cut e).expression s) (max (suc (cut e).nests) n)
part_by b e r s n (few h k) m = part_few b e (cut e) r s n k h m
part_by b e r s n (many h k) m = part_many b e (cut e) r s n k h

no_parts : Matches end end 0
no_parts = all_kept (omega arith) refl refl

node_cut : (op : Op) (r s : Row Var Name) (n : ℕ) → Matches r s n → cut (Node op r) ≡ kept (Node op s) n
node_cut op r s n (all_kept h i j) = ap (λ r. kept (Node op r) (parts_nesting r)) (sym i) ∙ ap (kept (Node op s)) (ap parts_nesting i ∙ sym j)
node_cut op r s n (not_all h i) = kept_many (Node op r) (parts_nesting r) h ∙ sym (kept_many (Node op s) n i)

all_parts : (es : List Term) → Matches (plain_row es) (row (map cut es)) (deepest (map cut es))
all_parts [] = no_parts
all_parts (e ∷ es) = part_by None e (plain_row es) (row (map cut es)) (deepest (map cut es)) (is_cut e) (all_parts es)

parts_under : (es : List Term) (x : Name) (b : Term) → Matches (under_row es x b) (row_with (map cut es) x (cut b)) (deepest_with (map cut es) (cut b))
parts_under [] x b = part_by (Some x) b end end 0 (is_cut b) no_parts
parts_under (e ∷ es) x b = part_by None e (under_row es x b) (row_with (map cut es) x (cut b)) (deepest_with (map cut es) (cut b)) (is_cut e) (parts_under es x b)

pub cuts : Carries terms stubs cut
cuts = record {
  leaf = λ v. refl;
  node = λ op es. node_cut op (plain_row es) (row (map cut es)) (deepest (map cut es)) (all_parts es);
  under = λ op es x b. node_cut op (under_row es x b) (row_with (map cut es) x (cut b)) (deepest_with (map cut es) (cut b)) (parts_under es x b);
}

-- ---- the answer

whole_end : (bytes : List ℕ) (e : Term) → finish_kept bytes [] (holds (cut e)) ≡ finish bytes [] (holds e)
whole_end bytes e = by (is_cut e)
  where
    by : Cut e → finish_kept bytes [] (holds (cut e)) ≡ finish bytes [] (holds e)
    by (few h k) = ap (λ p. finish_kept bytes [] (holds p)) k
    by (many h k) = ap (λ p. finish_kept bytes [] (holds p)) k ∙ sym (if_false (nat_le (nesting e) most_nesting) (Ok e) (Err fault.TooNested) (is_many (nesting e) h))

finish_same : (bytes a : List ℕ) (v : Value Term) → finish_kept bytes a (map_value cut v) ≡ finish bytes a v
finish_same bytes [] (holds e) = whole_end bytes e
finish_same bytes (b ∷ bs) (holds e) = refl
finish_same bytes [] v = refl
finish_same bytes (b ∷ bs) v = refl

stopped_same : (s : State Term) → is_stopped (map_state cut s) ≡ is_stopped s
stopped_same (reading w st) = refl
stopped_same (done v) = refl
stopped_same stopped = refl

length_same : {A B : Type 0} (f : A → B) (xs : List A) → length (map f xs) ≡ length xs
length_same f [] = refl
length_same f (x ∷ xs) = ap suc (length_same f xs)

opens_same : (k : Mark) (st : List (Frame Term)) → opens_with k (map (map_frame cut) st) ≡ opens_with k st
opens_same (array n) st = ap suc (length_same (map_frame cut) st)
opens_same (head.map n) st = ap suc (length_same (map_frame cut) st)
opens_same (atom a) st = refl
opens_same (tag t) st = refl

refused_same : (from at : ℕ) (w : Want) (s : State Term) → refused from at w (map_state cut s) ≡ refused from at w s
refused_same from at w s = ap (λ c. if c then fault.Shape at else fault.Wide (if is_big w then from else at)) (stopped_same s)

abbrev Goes : Type 0
Goes = ℕ → List ℕ → State Term → Result Term DecodeFault

judge_same : (go : Goes) (go_kept : ℕ → List ℕ → State Kept → Result Term DecodeFault) → ((from : ℕ) (a : List ℕ) (s : State Term) → go_kept from a (map_state cut s) ≡ go from a s)
    → (bytes : List ℕ) (from : ℕ) (a : List ℕ) (w : Want) (st : List (Frame Term)) (m : Marked) → judge_kept go_kept bytes from a w (map (map_frame cut) st) m ≡ judge go bytes from a w st m
judge_same go go_kept h bytes from a w st m =
    let s = after terms false m.mark (reading w st) in
    let t = after terms true m.mark (reading w st) in
    let e = after_same terms stubs cut cuts false m.mark (reading w st) in
    let g = after_same terms stubs cut cuts true m.mark (reading w st) in
    let at = offset bytes a in
    ap (λ s. if is_stopped s then Err (refused from at w (after stubs true m.mark (reading w (map (map_frame cut) st)))) else if nat_lt most_open_items (opens_with m.mark (map (map_frame cut) st)) then Err fault.TooNested else go_kept at m.after s) e
    ∙ ap (λ t. if is_stopped (map_state cut s) then Err (refused from at w t) else if nat_lt most_open_items (opens_with m.mark (map (map_frame cut) st)) then Err fault.TooNested else go_kept at m.after (map_state cut s)) g
    ∙ ap (λ f. if is_stopped (map_state cut s) then Err f else if nat_lt most_open_items (opens_with m.mark (map (map_frame cut) st)) then Err fault.TooNested else go_kept at m.after (map_state cut s)) (refused_same from at w t)
    ∙ ap (λ c. if c then Err (refused from at w t) else if nat_lt most_open_items (opens_with m.mark (map (map_frame cut) st)) then Err fault.TooNested else go_kept at m.after (map_state cut s)) (stopped_same s)
    ∙ ap (λ n. if is_stopped s then Err (refused from at w t) else if nat_lt most_open_items n then Err fault.TooNested else go_kept at m.after (map_state cut s)) (opens_same m.mark st)
    ∙ ap (λ r. if is_stopped s then Err (refused from at w t) else if nat_lt most_open_items (opens_with m.mark st) then Err fault.TooNested else r) (h at m.after s)

answer_same : (go : Goes) (go_kept : ℕ → List ℕ → State Kept → Result Term DecodeFault) → ((from : ℕ) (a : List ℕ) (s : State Term) → go_kept from a (map_state cut s) ≡ go from a s)
    → (bytes : List ℕ) (from : ℕ) (a : List ℕ) (w : Want) (st : List (Frame Term)) (r : Result Marked HeadFault) → answer_kept go_kept bytes from a w (map (map_frame cut) st) r ≡ answer_at go bytes from a w st r
answer_same go go_kept h bytes from a w st (Err f) = refl
answer_same go go_kept h bytes from a w st (Ok m) = judge_same go go_kept h bytes from a w st m

-- The machine with stubs answers what the machine over expressions answers.
pub decide_same : (k : ℕ) (bytes : List ℕ) (from : ℕ) (a : List ℕ) (s : State Term) → decide_kept k bytes from a (map_state cut s) ≡ decide k bytes from a s
decide_same zero bytes from a (done v) = finish_same bytes a v
decide_same (suc k) bytes from a (done v) = finish_same bytes a v
decide_same zero bytes from a (reading w st) = refl
decide_same (suc k) bytes from a (reading w st) = answer_same (λ f r s. decide k bytes f r s) (λ f r s. decide_kept k bytes f r s) (λ f r s. decide_same k bytes f r s) bytes from a w st (mark_at a)
decide_same zero bytes from a stopped = refl
decide_same (suc k) bytes from a stopped = refl

pub decoded_same : (bytes : List ℕ) → decoded bytes ≡ verdict bytes
decoded_same bytes = decide_same (suc (length bytes)) bytes 0 bytes start

-- What the machine with stubs answers is what the bytes decode to.
pub decodes : (bytes : List ℕ) → DecodesTo bytes (decoded bytes)
decodes bytes = subst (DecodesTo bytes) (sym (decoded_same bytes)) (answers bytes)

-- It is the only answer.
pub decodes_once : (bytes : List ℕ) (r : Result Term DecodeFault) → DecodesTo bytes r → r ≡ decoded bytes
decodes_once bytes r d = decodes-unique bytes r (decoded bytes) d (decodes bytes)

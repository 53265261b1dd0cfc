-- Lines that are orders, and lines that are none.
use Rattle.std.proofs.Common.{◌≡◌, ◌∙◌, ℕ, suc, ◌+◌, true, false, List, [], ◌∷◌, ◌++◌, length, drop, slice_index, codes, Option, Some, None, Result, Ok, Err, IfOk, refl, sym, ap, subst, arith, append_assoc, append-nil, length-append}
use Rattle.dh_syntax.specs.declared.locations.Loc.{Loc}
use Rattle.dh_watch_laws.specs.ScriptLines.{Order, Set, Drop, Ask, AreOrders, none, one_more, IsFirstBad, here, later, IsOrder, sets, drops, asks, SpellsLoc, bytes_of, has_blank}
use Rattle.dh_script.specs.declared.orders.Order as read
use Rattle.dh_script.specs.Reads.{IsOrderRead}
use Rattle.dh_script.proofs.Splitting.{blank-once, blank-within}

-- what a line that sets has behind its first word
record SetParts (rest : List ℕ) : Type 0 where
  text : List ℕ
  hex : List ℕ
  bytes : List ℕ
  loc : Loc
  cut : rest ≡ text ++ 32 ∷ hex
  last : has_blank hex ≡ false
  digits : bytes_of hex ≡ Some bytes
  spells : SpellsLoc text loc

-- two texts that begin otherwise
heads : (xs ys : List ℕ) → xs ≡ ys → ¬ (slice_index xs 0 ≡ slice_index ys 0) → ⊥
heads xs ys e h = h (ap (λ (l : List ℕ). slice_index l 0) e)

of-set : (line rest : List ℕ) (o : Order) → line ≡ codes "set " ++ rest → IsOrder line o → SetParts rest
of-set line rest o e (sets {bytes = bytes} {l = l} text hex p n b s) =
    record { text = text; hex = hex; bytes = bytes; loc = l; cut = ap (drop 4) (sym e ∙ p); last = n; digits = b; spells = s }
of-set line rest o e (drops text p s) = absurd (heads _ _ (sym e ∙ p) (λ q. omega (arith, q)))
of-set line rest o e (asks text p s) = absurd (heads _ _ (sym e ∙ p) (λ q. omega (arith, q)))

of-drop : (line rest : List ℕ) (o : Order) → line ≡ codes "drop " ++ rest → IsOrder line o → (l : Loc) × SpellsLoc rest l
of-drop line rest o e (sets text hex p n b s) = absurd (heads _ _ (sym e ∙ p) (λ q. omega (arith, q)))
of-drop line rest o e (drops {l = l} text p s) = (l, subst (λ t. SpellsLoc t l) (sym (ap (drop 5) (sym e ∙ p))) s)
of-drop line rest o e (asks text p s) = absurd (heads _ _ (sym e ∙ p) (λ q. omega (arith, q)))

of-ask : (line rest : List ℕ) (o : Order) → line ≡ codes "ask " ++ rest → IsOrder line o → (l : Loc) × SpellsLoc rest l
of-ask line rest o e (sets text hex p n b s) = absurd (heads _ _ (sym e ∙ p) (λ q. omega (arith, q)))
of-ask line rest o e (drops text p s) = absurd (heads _ _ (sym e ∙ p) (λ q. omega (arith, q)))
of-ask line rest o e (asks {l = l} text p s) = (l, subst (λ t. SpellsLoc t l) (sym (ap (drop 4) (sym e ∙ p))) s)

-- ---- none

pub set-without_blank : (rest : List ℕ) → has_blank rest ≡ false → (o : Order) → ¬ IsOrder (codes "set " ++ rest) o
set-without_blank rest h o is =
    let parts = of-set (codes "set " ++ rest) rest o refl is in
    let within : has_blank rest ≡ true = ap has_blank parts.cut ∙ blank-within parts.text parts.hex in
    cc

module _ (rest text hex : List ℕ) (cut : rest ≡ text ++ 32 ∷ hex) (last : has_blank hex ≡ false) where
  pub set-without_bytes : None ≡ bytes_of hex → (o : Order) → ¬ IsOrder (codes "set " ++ rest) o
  set-without_bytes h o is =
      let parts = of-set (codes "set " ++ rest) rest o refl is in
      let same = blank-once text hex parts.text parts.hex (sym cut ∙ parts.cut) last parts.last in
      let found : bytes_of hex ≡ Some parts.bytes = ap bytes_of same.1 ∙ parts.digits in
      cc

  pub set-without_place : ((l : Loc) → ¬ SpellsLoc text l) → (o : Order) → ¬ IsOrder (codes "set " ++ rest) o
  set-without_place h o is =
      let parts = of-set (codes "set " ++ rest) rest o refl is in
      let same = blank-once text hex parts.text parts.hex (sym cut ∙ parts.cut) last parts.last in
      h parts.loc (subst (λ t. SpellsLoc t parts.loc) (sym same.0) parts.spells)

  pub set-is : (bytes : List ℕ) (l : Loc) → Some bytes ≡ bytes_of hex → SpellsLoc text l → IsOrder (codes "set " ++ rest) (Set l bytes)
  set-is bytes l b s = sets text hex (ap (λ t. codes "set " ++ t) cut) last (sym b) s

pub drop-is : (text : List ℕ) (l : Loc) → SpellsLoc text l → IsOrder (codes "drop " ++ text) (Drop l)
drop-is text l s = drops text refl s

pub ask-is : (text : List ℕ) (l : Loc) → SpellsLoc text l → IsOrder (codes "ask " ++ text) (Ask l)
ask-is text l s = asks text refl s

pub drop-without_place : (text : List ℕ) → ((l : Loc) → ¬ SpellsLoc text l) → (o : Order) → ¬ IsOrder (codes "drop " ++ text) o
drop-without_place text h o is = let (l, s) = of-drop (codes "drop " ++ text) text o refl is in h l s

pub ask-without_place : (text : List ℕ) → ((l : Loc) → ¬ SpellsLoc text l) → (o : Order) → ¬ IsOrder (codes "ask " ++ text) o
ask-without_place text h o is = let (l, s) = of-ask (codes "ask " ++ text) text o refl is in h l s

-- a line that begins with none of the words
pub no-word : (line : List ℕ) → ((rest : List ℕ) → ¬ (line ≡ codes "set " ++ rest)) → ((rest : List ℕ) → ¬ (line ≡ codes "drop " ++ rest))
    → ((rest : List ℕ) → ¬ (line ≡ codes "ask " ++ rest)) → (o : Order) → ¬ IsOrder line o
no-word line s d a o (sets text hex p n b l) = s (text ++ 32 ∷ hex) p
no-word line s d a o (drops text p l) = d text p
no-word line s d a o (asks text p l) = a text p

-- the order that was read behind a word
pub read_behind : {E : Type 0} (line word rest : List ℕ) (r : Result (Option read.Order) E) → line ≡ word ++ rest → IfOk r (IsOrderRead (word ++ rest)) → IfOk r (IsOrderRead line)
read_behind line word rest (Ok o) e h = subst (λ t. IsOrderRead t o) (sym e) h
read_behind line word rest (Err f) e h = tt

-- ---- lines

-- lines that are orders, before the others
pub record HasRead (all : List (List ℕ)) (left : List (List ℕ)) (orders : List Order) (number : ℕ) : Type 0 where
  pub done : List (List ℕ)
  pub cut : all ≡ done ++ left
  pub are : AreOrders done orders
  pub count : number ≡ length done

are-more : (lines : List (List ℕ)) (line : List ℕ) (orders : List Order) (o : Order) → AreOrders lines orders → IsOrder line o → AreOrders (lines ++ line ∷ []) (orders ++ o ∷ [])
are-more [] line [] o none is = one_more is none
are-more [] line (p ∷ ps) o h is = elim h [ ]
are-more (l ∷ ls) line [] o h is = elim h [ ]
are-more (l ∷ ls) line (p ∷ ps) o (one_more first rest) is = one_more first (are-more ls line ps o rest is)

pub one-more_read : (all left : List (List ℕ)) (line : List ℕ) (orders : List Order) (o : Order) (n : ℕ) → HasRead all (line ∷ left) orders n → IsOrder line o
    → HasRead all left (orders ++ o ∷ []) (n + 1)
one-more_read all left line orders o n h is = record {
  done = h.done ++ line ∷ [];
  cut = h.cut ∙ sym (append_assoc h.done (line ∷ []) left);
  are = are-more h.done line orders o h.are is;
  count = omega (arith, length-append h.done (line ∷ []), h.count);
}

bad-behind : (done left : List (List ℕ)) (line : List ℕ) (orders : List Order) → AreOrders done orders → ((o : Order) → ¬ IsOrder line o) → IsFirstBad (done ++ line ∷ left) (length done + 1)
bad-behind [] left line [] none h = here h
bad-behind [] left line (p ∷ ps) are h = elim are [ ]
bad-behind (l ∷ ls) left line [] are h = elim are [ ]
bad-behind (l ∷ ls) left line (p ∷ ps) (one_more first rest) h =
    let count : suc (length ls + 1) ≡ length (l ∷ ls) + 1 = omega arith in
    subst (IsFirstBad ((l ∷ ls) ++ line ∷ left)) count (later p first (bad-behind ls left line ps rest h))

pub first-bad : (all left : List (List ℕ)) (line : List ℕ) (orders : List Order) (n : ℕ) → HasRead all (line ∷ left) orders n → ((o : Order) → ¬ IsOrder line o) → IsFirstBad all (n + 1)
first-bad all left line orders n h bad =
    rw (h.cut, h.count) (bad-behind h.done left line orders h.are bad)

-- before the first line, and behind the last one
pub none_read : (all : List (List ℕ)) → HasRead all all [] 0
none_read all = record { done = []; cut = refl; are = none; count = refl }

pub all_read : (all : List (List ℕ)) (orders : List Order) (n : ℕ) → HasRead all [] orders n → AreOrders all orders
all_read all orders n h = subst (λ ls. AreOrders ls orders) (sym (h.cut ∙ append-nil h.done)) h.are

-- what holds of an answer, if there is one
pub if_ok : {A E : Type 0} {P Q : A → Type 0} (r : Result A E) → ((a : A) → P a → Q a) → IfOk r P → IfOk r Q
if_ok (Ok a) f h = f a h
if_ok (Err e) f h = tt
